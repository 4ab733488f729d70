-- What a ruling may send: what a step may send. Assumes nothing.
use Prim.Native.Nat.{ℕ}
use mathlib.Core.Path.{◌≡◌, refl}
use mathlib.Core.Bool.{true, not, ◌&&◌}
use mathlib.Core.List.{List}
use lib.Dec.{leb, eqb}
use lib.ListN.{length, get_or}
use Rattle.std.specs.Prelude.{Result, Ok, Err}
use Rattle.checks.specs.declared.Refusal.{Refusal}
use Rattle.checks.proofs.Laws.{cond_elim}
use Rattle.message.specs.Kinds.{plain_status}
use Rattle.message.specs.declared.Message.{Message}
use Rattle.message_reading.specs.Reading.{status_at, decode_of}
use Rattle.neighbour.specs.declared.Settings.{Settings}
use Rattle.neighbour.specs.declared.Neighbour.{Neighbour}
use Rattle.neighbour.specs.Record.{is_idle, acquired}
use Rattle.neighbour_messages.specs.declared.Head.{Head}
use Rattle.neighbour_machine.specs.declared.Event.{Event}
use Rattle.neighbour_machine.specs.declared.Event.TheVariants.{Received}
use Rattle.neighbour_machine.specs.declared.Reply.{Reply}
use Rattle.neighbour_machine.specs.Table.{unanswered}
use Rattle.neighbour_machine.specs.Step.{step_of}
use Rattle.neighbour_machine.specs.Laws.{may_send}
use Rattle.neighbour_machine.proofs.Sends.{step_sends}
use Rattle.gateway_rules.specs.Number.{error_head, error_to, refuse_to, named_reply}
use Rattle.gateway_rules.specs.Ruling.{Ruling, refuses, stepped, taken_step, carried_out, receive_ruling}
use Rattle.gateway_rules.proofs.Rulings.{receive_holds}

module _ (g : Settings) where
  error_sends : (n : Neighbour) (o : List ℕ) (reason : ℕ) → may_send g (error_to g n o reason) ≡ true
  unfolding error_to
  error_sends n o reason =
      cond_elim (λ (r : Reply). may_send g r ≡ true) (acquired n.phase && not (eqb (get_or o 1 0) 8)) _ _ (λ _. refl) (λ _. refl)

  refuse_sends : (n : Neighbour) (o : List ℕ) → may_send g (refuse_to g n o) ≡ true
  unfolding refuse_to
  refuse_sends n o =
      cond_elim (λ (r : Reply). may_send g r ≡ true)
      (is_idle n.phase && eqb (get_or o 1 0) 3 && eqb (get_or o 2 0) 0 && plain_status (status_at o) && eqb (length o) 14) _ _ (λ _. refl) (λ _. refl)

  -- the reply by the number
  pub named_sends : (n : Neighbour) (o : List ℕ) (k : ℕ) → may_send g (named_reply g n o k) ≡ true
  unfolding named_reply
  named_sends n o k =
      cond_elim (λ (r : Reply). may_send g r ≡ true) (eqb k 9) _ _ (λ _. refuse_sends n o)
      (λ _. cond_elim (λ (r : Reply). may_send g r ≡ true) (leb 10 k && leb k 12) _ _ (λ _. error_sends n o 1)
      (λ _. cond_elim (λ (r : Reply). may_send g r ≡ true) (eqb k 14) _ _ (λ _. error_sends n o 2)
      (λ _. cond_elim (λ (r : Reply). may_send g r ≡ true) (eqb k 15) _ _ (λ _. error_sends n o 0)
      (λ _. cond_elim (λ (r : Reply). may_send g r ≡ true) (eqb k 21) _ _ (λ _. error_sends n o 4)
      (λ _. refl)))))

  pub stepped_sends : (asn : ℕ) (n : Neighbour) (event : Event) (head : Head) → may_send g (stepped n (step_of g asn n event head)).reply ≡ true
  unfolding stepped
  stepped_sends asn n event head = step_sends g asn n event head

  after_sends : (asn : ℕ) (n : Neighbour) (o : List ℕ) (d : Result Message Refusal) → may_send g (taken_step g asn n o d).reply ≡ true
  unfolding taken_step unanswered
  after_sends asn n o (Ok m) = step_sends g asn n (Received m) (error_head o)
  after_sends asn n o (Err refused) = refl

  pub receive_sends : (room asn : ℕ) (n : Neighbour) (o : List ℕ) → may_send g (receive_ruling room g asn n o).reply ≡ true
  unfolding refuses carried_out
  receive_sends room asn n o =
      receive_holds room g asn n o (λ (x : Ruling). may_send g x.reply ≡ true) (λ k z e. named_sends n o k) (λ e. after_sends asn n o (decode_of o))
