-- What a Hello or a Poll that comes too soon draws. Assumes nothing.
use Prim.Native.Nat.{ℕ, ◌<◌}
use native.Mathlib.Omega.{arith}
use mathlib.Core.Path.{◌≡◌, refl, sym, ◌∙◌, ap}
use mathlib.Core.Bool.{Bool, true, false, not, false≢true, true≢false}
use mathlib.Core.List.{List, [], append-nil}
use lib.Dec.{leb, eqb}
use lib.ListN.{length, get_or}
use borrow.Author.Tests.{lt-ltb, eq-eqb, ne_eqb}
use Rattle.std.specs.Prelude.{Option, Some, None, Result, Ok, Err}
use Rattle.checks.specs.declared.Refusal.{Refusal}
use Rattle.checks.specs.Checks.{check, if_ok}
use Rattle.checks.proofs.Laws.{cond_elim}
use Rattle.octets.specs.Buffer.{over}
use Rattle.octets_checksum.proofs.Laws.{sealed_length}
use Rattle.nets.specs.Rows.{Row, rows_of}
use Rattle.message.specs.Kinds.{kind_at, status_allowed, length_allowed, kind_of}
use Rattle.message.specs.declared.Kind.TheVariants as K
use Rattle.message.specs.declared.Message.{Message}
use Rattle.message.specs.declared.Message.TheVariants as M
use Rattle.message.specs.declared.Kind.{Kind}
use Rattle.message_reading.specs.Reading.{header_answer, status_at, asn_at, meaning_of, decode_as, decode_of}
use Rattle.codec_writing.specs.Octets.{plain_octets, message_octets}
use Rattle.neighbour.specs.declared.Settings.{Settings}
use Rattle.neighbour.specs.declared.Neighbour.{Neighbour}
use Rattle.neighbour.specs.Record.{idle, acquired}
use Rattle.neighbour.specs.Rules.{same, in_sequence, too_quick}
use Rattle.neighbour_messages.specs.Sent.{error_message}
use Rattle.neighbour_machine.specs.declared.Reply.TheVariants.{One}
use Rattle.gateway_state.specs.declared.Slot as Stored
use Rattle.gateway_state.specs.Slots.{free_slot}
use Rattle.gateway_rules.specs.Home.{good_home}
use Rattle.model.specs.Model.{Call, receive, Slot, free, used, Model, slot_in, Said, spoken, kind_answer, answer_to, first_twelve, error_reply, refusal_reply, refused_move, message_move, message_answer, turn_at, message_turn, step, Peer}
use Rattle.model.specs.Theorem.{buffer_of, gateway_step, seen_of, cell, state_of, shown_in, lists_nothing}
use Rattle.model.specs.Corollaries.{slot_on, Used, Says}
use Rattle.model.specs.Quick.{error_four, DrawsFour, DrawnBy, TooQuickDrawsFour}
use Rattle.model.proofs.Represent.{sound, Good, sound_at}
use Rattle.model.proofs.Simulation.{represent}
use Rattle.model.proofs.History.{message_stays}
use Rattle.model.proofs.Theorem.{step_is, seen_is}
use Rattle.model.proofs.Steady.{refused_keeps}
use Rattle.model.proofs.Found.{place_here, present_here}
use Rattle.model.proofs.Corollaries.{from_model, slot_is, mine, here}
use Rattle.model.proofs.Reach.{acquired_runs}
use Rattle.model.proofs.QuickRuns.{hello_sequenced, hello_quick}

-- ---- 21

-- an Error, or no message
unfoldable no_other : Result Message Refusal → Bool
no_other (Ok x) = same (kind_of x) K.Error
no_other (Err refused) = true

-- is all that type 8 says
type_8 : (o : List ℕ) → get_or o 1 0 ≡ 8 → no_other (decode_of o) ≡ true
unfolding no_other decode_of decode_as kind_at meaning_of
type_8 o e =
    rw e
    (cond_elim (λ (k : Option Kind). no_other (decode_as k o) ≡ true) (eqb (get_or o 2 0) 0) (Some K.Error) None
    (λ _. cond_elim (λ (d : Result Message Refusal). no_other d ≡ true) (status_allowed K.Error (status_at o)) _ _
    (λ _. cond_elim (λ (d : Result Message Refusal). no_other d ≡ true) (length_allowed K.Error (length o)) _ _ (λ _. refl) (λ _. refl)) (λ _. refl))
    (λ _. refl))

-- a message that comes too soon
record Hasty (g : Settings) (asn : ℕ) (n : Neighbour) (o : List ℕ) (x : Message) : Type 0 where
  header : header_answer o ≡ 0
  from : asn_at o ≡ asn
  meaning : decode_of o ≡ Ok x
  reached : acquired n.phase ≡ true
  sequenced : in_sequence n x ≡ true
  quick : too_quick n x ≡ true
  no_error : same (kind_of x) K.Error ≡ false

module _ (g : Settings) (asn : ℕ) (n : Neighbour) (o : List ℕ) (x : Message) (h : Hasty g asn n o x) where
  hasty_21 : answer_to g asn n o ≡ 21
  unfolding answer_to if_ok check kind_answer
  hasty_21 = rw (h.header, eq-eqb (asn_at o) asn h.from, h.meaning, h.sequenced, h.quick)

  hasty_type : get_or o 1 0 ≡ 8 → ⊥
  unfolding no_other
  hasty_type e = true≢false (sym (type_8 o e) ∙ ap no_other h.meaning ∙ h.no_error)

  hasty_reply : refusal_reply g n o 21 ≡ One (error_message g n 4 (first_twelve o))
  unfolding refusal_reply error_reply
  hasty_reply = rw (h.reached, ne_eqb (get_or o 1 0) 8 hasty_type)

-- the move and what is said
module _ (m : Model) (ok : Good m) (j : ℕ) (j8 : j < 8) (peer : Peer) (is : slot_in m j ≡ used peer) (o home buffer : List ℕ) (x : Message)
    (room : leb 2048 (length buffer) ≡ true) (good : good_home m.settings home ≡ true) (h : Hasty m.settings peer.asn peer.neighbour o x) where
  abbrev call : Call
  call = receive peer.address o home buffer

  abbrev reply : Message
  reply = error_message m.settings peer.neighbour 4 (first_twelve o)

  move_is : message_move m.settings o (used peer) ≡ refused_move m.settings o peer 21
  move_is =
      let e = hasty_21 m.settings peer.asn peer.neighbour o x h in
      message_stays m.settings o peer (ap (λ (k : ℕ). eqb k 0) e) ∙ ap (refused_move m.settings o peer) e

  said_is : (step call m).said ≡ spoken 21 (One reply) (rows_of home)
  unfolding step message_turn turn_at if_ok message_answer check
  said_is =
      rw (room, good, present_here m ok j j8 peer is, place_here m ok j j8 peer is, is, move_is, hasty_reply m.settings peer.asn peer.neighbour o x h)

  said_21 : (step call m).said.answer ≡ 21
  unfolding spoken
  said_21 = ap (λ (s : Said). s.answer) said_is

  kept : gateway_step call (represent m) ≡ represent m
  kept = step_is m ok call ∙ ap represent (refused_keeps m call (λ e. absurd (omega (arith, sym e ∙ said_21))))

  long : (rows : List Row) → length (message_octets reply rows) ≡ 24
  unfolding message_octets plain_octets
  long rows = sealed_length _

  shown_is : shown_in buffer (spoken 21 (One reply) (rows_of home)) ≡ record { answer = 21; first = 24; second = 0; buffer = over (message_octets reply []) buffer }
  unfolding shown_in spoken message_octets plain_octets
  shown_is =
      let a = long (rows_of home) in
      let b = ap (λ (l : List ℕ). over l buffer) (append-nil (message_octets reply [])) in
      λ i. record { answer = 21; first = a i; second = 0; buffer = b i }

  seen_21 : seen_of call (represent m) ≡ record { answer = 21; first = 24; second = 0; buffer = over (message_octets reply []) buffer }
  unfolding buffer_of lists_nothing
  seen_21 = seen_is m ok call (λ f. absurd (true≢false f)) ∙ ap (shown_in buffer) said_is ∙ shown_is

-- ---- a Hello and a Poll

poll_quick : (n : Neighbour) (a q s net : ℕ) → acquired n.phase ≡ true → n.sincepoll < 120 → too_quick n (M.Poll a q s net) ≡ true
unfolding too_quick
poll_quick n a q s net r e = rw (r, lt-ltb n.sincepoll 120 e)

poll_sequenced : (n : Neighbour) (a q s net : ℕ) → acquired n.phase ≡ true → in_sequence n (M.Poll a q s net) ≡ true
unfolding in_sequence
poll_sequenced n a q s net r = rw (acquired_runs n.phase r)

-- a free slot is in neither state
reached_address : (slot : Slot) → acquired (cell slot).neighbour.phase ≡ true → sound slot ≡ true → (cell slot).address ≡ 0 → ⊥
unfolding cell free_slot idle sound
reached_address free r s e = false≢true r
reached_address (used peer) r s e = false≢true (sym (ap not (ap (λ (a : ℕ). eqb a 0) e)) ∙ s)

module _ (m : Model) (ok : Good m) (j : ℕ) (j8 : j < 8) (reached : acquired (slot_on (represent m) j).neighbour.phase ≡ true) (o home buffer : List ℕ) where
  abbrev stored : Stored.Slot
  stored = slot_on (represent m) j

  is_used : Used (represent m) j
  is_used e =
      reached_address (slot_in m j) (ap (λ (s : Stored.Slot). acquired s.neighbour.phase) (sym (slot_is m ok j)) ∙ reached) (sound_at m ok j)
      (ap (λ (s : Stored.Slot). s.address) (sym (slot_is m ok j)) ∙ e)

  draws : (x : Message) → Says (represent m) j o home buffer x → in_sequence stored.neighbour x ≡ true → too_quick stored.neighbour x ≡ true
      → same (kind_of x) K.Error ≡ false → DrawsFour (represent m) j o (receive stored.address o home buffer)
  unfolding error_four buffer_of represent state_of
  draws x k i t e =
      let h : Hasty m.settings stored.asn stored.neighbour o x =
      record { header = k.header; from = k.from; meaning = k.meaning; reached = reached; sequenced = i; quick = t; no_error = e } in
      record {
        seen = seen_21 m ok j j8 (mine m ok j j8 is_used) (here m ok j j8 is_used) o home buffer x k.room k.good_home_lem h;
        unchanged = kept m ok j j8 (mine m ok j j8 is_used) (here m ok j j8 is_used) o home buffer x k.room k.good_home_lem h;
      }

  drawn : DrawnBy (represent m) j o home buffer
  drawn =
      record {
        hello =
            λ a q s k e. draws (M.Hello a q s) k (hello_sequenced stored.neighbour a q s reached)
            (hello_quick stored.neighbour a q s reached ∙ lt-ltb stored.neighbour.sincehello 30 e) refl;
        poll = λ a q s net k e. draws (M.Poll a q s net) k (poll_sequenced stored.neighbour a q s net reached) (poll_quick stored.neighbour a q s net reached e) refl;
      }

pub too_quick_draws_four : TooQuickDrawsFour
too_quick_draws_four =
    from_model
    (λ b. (j : ℕ) → j < 8 → acquired (slot_on b j).neighbour.phase ≡ true → (o home buffer : List ℕ) → DrawnBy b j o home buffer)
    (λ m ok j j8 reached o home buffer. drawn m ok j j8 reached o home buffer)
