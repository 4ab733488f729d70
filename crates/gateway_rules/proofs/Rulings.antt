-- What holds of every ruling on a message: it is refused by its number, or carried out. Assumes nothing.
use Prim.Native.Nat.{ℕ}
use mathlib.Core.Path.{◌≡◌, refl, sym, ◌∙◌}
use mathlib.Core.Bool.{not, ◌&&◌}
use mathlib.Core.List.{List}
use lib.Dec.{eqb}
use borrow.Author.Tests.{eqb-true, eqb-false}
use Rattle.checks.specs.Checks.{if_ok}
use Rattle.checks.proofs.Laws.{cond_elim}
use Rattle.message_reading.specs.Reading.{kind_in, decode_of}
use Rattle.update_walk.specs.Body.{accepted, update_of, rows_read}
use Rattle.neighbour.specs.declared.Phase.{Phase}
use Rattle.neighbour.specs.declared.Settings.{Settings}
use Rattle.neighbour.specs.declared.Neighbour.{Neighbour}
use Rattle.neighbour.specs.Record.{is_up}
use Rattle.neighbour_machine.specs.declared.After.{After}
use Rattle.gateway_rules.specs.Number.{brings_rows, message_number, named_reply}
use Rattle.gateway_rules.specs.Ruling.{Change, keep, clear, replace, Ruling, leaving, refuses, stepped, taken_step, change_by, carried_out, receive_ruling}
use Rattle.gateway_rules.proofs.Number.{NumberPassed, number_passed}

module _ (room : ℕ) (g : Settings) (asn : ℕ) (n : Neighbour) (o : List ℕ) where
  -- a fact that holds of each refusal and of what is carried out
  pub receive_holds : (P : Ruling → Type 0)
      → ((k : ℕ) → (k ≡ 0 → ⊥) → message_number room g asn n o ≡ k → P (refuses n k (named_reply g n o k)))
      → (message_number room g asn n o ≡ 0 → P (carried_out room g n o (taken_step g asn n o (decode_of o))))
      → P (receive_ruling room g asn n o)
  unfolding receive_ruling if_ok
  receive_holds P refused carried =
      cond_elim P (eqb (message_number room g asn n o) 0) _ _
      (λ e. carried (eqb-true (message_number room g asn n o) 0 e))
      (λ e. refused (message_number room g asn n o) (eqb-false (message_number room g asn n o) 0 e) refl)

-- rows replace a neighbour's only where they are those of an accepted Update
unfoldable pub Backed : ℕ → ℕ → List ℕ → Change → Type 0
Backed room net o keep = Unit {0}
Backed room net o clear = Unit {0}
Backed room net o (replace rows) = update_of room net o ≡ accepted rows

pub leaving_backed : (room net : ℕ) (o : List ℕ) (before now : Phase) → Backed room net o (leaving before now)
unfolding leaving Backed
leaving_backed room net o before now = cond_elim (Backed room net o) (is_up before && not (is_up now)) clear keep (λ _. tt) (λ _. tt)

pub stepped_backed : (room net : ℕ) (o : List ℕ) (n : Neighbour) (after : After) → Backed room net o (stepped n after).change
unfolding stepped
stepped_backed room net o n after = leaving_backed room net o n.phase after.neighbour.phase

module _ (room : ℕ) (g : Settings) (asn : ℕ) (n : Neighbour) (o : List ℕ) where
  change_backed : (p : NumberPassed room g asn n o) (after : After) → Backed room g.net o (change_by room g n o after)
  unfolding change_by Backed
  change_backed p after =
      cond_elim (Backed room g.net o) (brings_rows n.phase (kind_in o)) (replace (rows_read (update_of room g.net o))) (leaving n.phase after.neighbour.phase)
      (λ b. p.body (sym p.brings ∙ b))
      (λ _. leaving_backed room g.net o n.phase after.neighbour.phase)

  pub receive_backed : Backed room g.net o (receive_ruling room g asn n o).change
  unfolding refuses carried_out Backed
  receive_backed =
      receive_holds room g asn n o (λ (x : Ruling). Backed room g.net o x.change)
      (λ k z e. tt) (λ e. change_backed (number_passed room g asn n o e) (taken_step g asn n o (decode_of o)))
