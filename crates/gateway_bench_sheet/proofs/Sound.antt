-- A test that passes is an equation: meanings, records, replies and outcomes that compare as the same are equal. Assumes nothing.
use Prim.Native.Nat.{ℕ}
use mathlib.Core.Path.{◌≡◌, refl, sym, ◌∙◌, ap}
use mathlib.Core.Bool.{Bool, true, false, cond, ◌&&◌, false≢true}
use mathlib.Core.List.{List, [], ◌∷◌}
use lib.Dec.{eqb}
use lib.ListN.{get_or}
use borrow.Author.Tests.{eqb-true}
use Rattle.std.specs.Prelude.{Result, Ok, Err}
use Rattle.checks.specs.Refusals.{number_of}
use Rattle.checks.specs.declared.Refusal.{Refusal}
use Rattle.checks.proofs.Laws.{number_same}
use Rattle.checks.proofs.Laws.{and_left, and_right}
use Rattle.nets.specs.Rows.{flat}
use Rattle.message.specs.declared.Message.{Message}
use Rattle.message.specs.declared.Message.TheVariants.{Request, Confirm, Refuse, Cease, CeaseAck, Hello, IHeardYou, Poll, Update, Error}
use Rattle.update_rows.specs.Storing.{padded}
use Rattle.codec.specs.declared.Reading.{Reading}
use Rattle.codec.specs.Reading.{read_of}
use Rattle.codec_writing.specs.Octets.{message_octets}
use Rattle.codec.specs.Writing.{writable}
use Rattle.neighbour.specs.declared.Phase.{Phase}
use Rattle.neighbour.specs.declared.Phase.TheVariants as Phase
use Rattle.neighbour.specs.declared.Mode.{Mode}
use Rattle.neighbour.specs.declared.Mode.TheVariants.{Unset, Active, Passive}
use Rattle.neighbour.specs.declared.Settings.{Settings}
use Rattle.neighbour.specs.declared.Neighbour.{Neighbour}
use Rattle.neighbour.specs.Record.{with_numbers, with_state, with_counts, idle}
use Rattle.neighbour_seconds.specs.declared.Seconds.{Seconds}
use Rattle.neighbour_machine.specs.declared.Reply.{Reply}
use Rattle.neighbour_machine.specs.declared.Reply.TheVariants.{Nothing, One, Two}
use Rattle.gateway_state.specs.declared.Slot.{Slot}
use Rattle.gateway_state.specs.declared.State.{State}
use Rattle.gateway_state.specs.declared.Outcome.{Outcome}
use Rattle.gateway_rules.specs.declared.Effect.{Effect}
use Rattle.gateway_rules.specs.declared.Effect.TheVariants.{Keep, Clear, Replace}
use Rattle.gateway_rules.specs.declared.Verdict.{Verdict}
use Rattle.gateway_rules.specs.Calls.{message_outcome, message_table, message_buffer}
use Rattle.neighbour.specs.Record.{phase_number, mode_number}
use Rattle.gateway_bench_sheet.specs.Same.{same_numbers, message_numbers, same_message, same_meaning, same_reading, neighbour_numbers, same_neighbour, same_reply, same_effect, same_verdict, seconds_numbers, same_seconds, same_slot, same_slots, same_settings, same_state, same_outcome}
use Rattle.gateway_bench_sheet.specs.Cases.{reads, refused, received, happens, called, good_reading, bad_reading, zero_table, zero_buffer, leaves, passes, PassingHolds}

never : {A : Type 0} → false ≡ true → A
never e = absurd (false≢true e)

both : (a b : Bool) → (a && b) ≡ true → (a ≡ true) × (b ≡ true)
both a b e = (and_left a b e, and_right a b e)

same_numbers_lem : (a b : List ℕ) → same_numbers a b ≡ true → a ≡ b
unfolding same_numbers
same_numbers_lem [] [] e = refl
same_numbers_lem [] (y ∷ ys) e = never e
same_numbers_lem (x ∷ xs) [] e = never e
same_numbers_lem (x ∷ xs) (y ∷ ys) e =
    let p = both (eqb x y) (same_numbers xs ys) e in
    let h : x ≡ y = eqb-true x y p.0 in
    let t : xs ≡ ys = same_numbers_lem xs ys p.1 in
    rw (h, t)

-- ---- messages and records are told by their numbers: each is made anew from them

abbrev at : ℕ → List ℕ → ℕ
at i l = get_or l i 0

abbrev message_from : List ℕ → Message
message_from l =
    cond (eqb (at 0 l) 0) (Request (at 1 l) (at 2 l) (at 3 l) (at 4 l) (at 5 l))
    (cond (eqb (at 0 l) 1) (Confirm (at 1 l) (at 2 l) (at 3 l) (at 4 l) (at 5 l))
    (cond (eqb (at 0 l) 2) (Refuse (at 1 l) (at 2 l) (at 3 l))
    (cond (eqb (at 0 l) 3) (Cease (at 1 l) (at 2 l) (at 3 l))
    (cond (eqb (at 0 l) 4) (CeaseAck (at 1 l) (at 2 l) (at 3 l))
    (cond (eqb (at 0 l) 5) (Hello (at 1 l) (at 2 l) (at 3 l))
    (cond (eqb (at 0 l) 6) (IHeardYou (at 1 l) (at 2 l) (at 3 l))
    (cond (eqb (at 0 l) 7) (Poll (at 1 l) (at 2 l) (at 3 l) (at 4 l))
    (cond (eqb (at 0 l) 8) (Update (at 1 l) (at 2 l) (at 3 l) (at 4 l))
    (Error (at 1 l) (at 2 l) (at 3 l) (at 4 l) (at 5 l) (at 6 l) (at 7 l))))))))))

message_from_lem : (m : Message) → message_from (message_numbers m) ≡ m
unfolding message_numbers
message_from_lem (Request a q s hello poll) = refl
message_from_lem (Confirm a q s hello poll) = refl
message_from_lem (Refuse a q s) = refl
message_from_lem (Cease a q s) = refl
message_from_lem (CeaseAck a q s) = refl
message_from_lem (Hello a q s) = refl
message_from_lem (IHeardYou a q s) = refl
message_from_lem (Poll a q s net) = refl
message_from_lem (Update a q s net) = refl
message_from_lem (Error a q s reason x y z) = refl

same_message_lem : (m n : Message) → same_message m n ≡ true → m ≡ n
unfolding same_message
same_message_lem m n e =
    sym (message_from_lem m) ∙ ap message_from (same_numbers_lem (message_numbers m) (message_numbers n) e) ∙ message_from_lem n

abbrev phase_from : ℕ → Phase
phase_from k =
    cond (eqb k 0) Phase.Idle (cond (eqb k 1) Phase.Acquisition (cond (eqb k 2) Phase.Down (cond (eqb k 3) Phase.Up Phase.Cease)))

phase_from_lem : (p : Phase) → phase_from (phase_number p) ≡ p
phase_from_lem Phase.Idle = refl
phase_from_lem Phase.Acquisition = refl
phase_from_lem Phase.Down = refl
phase_from_lem Phase.Up = refl
phase_from_lem Phase.Cease = refl

abbrev mode_from : ℕ → Mode
mode_from k = cond (eqb k 0) Unset (cond (eqb k 1) Active Passive)

mode_from_lem : (m : Mode) → mode_from (mode_number m) ≡ m
mode_from_lem Unset = refl
mode_from_lem Active = refl
mode_from_lem Passive = refl

abbrev neighbour_from : List ℕ → Neighbour
neighbour_from l =
    with_counts
    (with_state (with_numbers idle (at 0 l) (at 1 l))
    (phase_from (at 7 l)) (mode_from (at 8 l)) (at 2 l) (at 3 l) (at 4 l) (at 5 l) (at 6 l) (at 9 l) (at 10 l) (at 11 l))
    (at 12 l) (at 13 l)

neighbour_from_lem : (n : Neighbour) → neighbour_from (neighbour_numbers n) ≡ n
unfolding neighbour_numbers with_numbers
neighbour_from_lem n = rw (phase_from_lem n.phase, mode_from_lem n.mode)

same_neighbour_lem : (m n : Neighbour) → same_neighbour m n ≡ true → m ≡ n
unfolding same_neighbour
same_neighbour_lem m n e =
    sym (neighbour_from_lem m) ∙ ap neighbour_from (same_numbers_lem (neighbour_numbers m) (neighbour_numbers n) e) ∙ neighbour_from_lem n

-- ---- what is made of them

same_meaning_lem : (a b : Result Message Refusal) → same_meaning a b ≡ true → a ≡ b
unfolding same_meaning
same_meaning_lem (Ok m) (Ok n) e = ap Ok (same_message_lem m n e)
same_meaning_lem (Ok m) (Err k) e = never e
same_meaning_lem (Err k) (Ok n) e = never e
same_meaning_lem (Err k) (Err l) e = ap Err (number_same k l (eqb-true (number_of k) (number_of l) e))

same_reading_lem : (a b : Reading) → same_reading a b ≡ true → a ≡ b
unfolding same_reading
same_reading_lem a b e =
    let p = both (same_meaning a.meaning b.meaning && eqb a.count b.count) (same_numbers a.rows b.rows) e in
    let q = both (same_meaning a.meaning b.meaning) (eqb a.count b.count) p.0 in
    let x = same_meaning_lem a.meaning b.meaning q.0 in
    let y = eqb-true a.count b.count q.1 in
    let z = same_numbers_lem a.rows b.rows p.1 in
    rw (x, y, z)

same_reply_lem : (a b : Reply) → same_reply a b ≡ true → a ≡ b
unfolding same_reply
same_reply_lem Nothing Nothing e = refl
same_reply_lem Nothing (One n) e = never e
same_reply_lem Nothing (Two n n') e = never e
same_reply_lem (One m) Nothing e = never e
same_reply_lem (One m) (One n) e = ap One (same_message_lem m n e)
same_reply_lem (One m) (Two n n') e = never e
same_reply_lem (Two m m') Nothing e = never e
same_reply_lem (Two m m') (One n) e = never e
same_reply_lem (Two m m') (Two n n') e =
    let p = both (same_message m n) (same_message m' n') e in
    rw (same_message_lem m n p.0, same_message_lem m' n' p.1)

same_effect_lem : (a b : Effect) → same_effect a b ≡ true → a ≡ b
unfolding same_effect
same_effect_lem Keep Keep e = refl
same_effect_lem Keep Clear e = never e
same_effect_lem Keep (Replace k) e = never e
same_effect_lem Clear Keep e = never e
same_effect_lem Clear Clear e = refl
same_effect_lem Clear (Replace k) e = never e
same_effect_lem (Replace k) Keep e = never e
same_effect_lem (Replace k) Clear e = never e
same_effect_lem (Replace k) (Replace l) e = ap Replace (eqb-true k l e)

same_verdict_lem : (v w : Verdict) → same_verdict v w ≡ true → v ≡ w
unfolding same_verdict
same_verdict_lem v w e =
    let a = eqb v.answer w.answer in
    let b = same_reply v.reply w.reply in
    let c = same_neighbour v.neighbour w.neighbour in
    let p = both (a && b && c) (same_effect v.effect w.effect) e in
    let q = both (a && b) c p.0 in
    let r = both a b q.0 in
    rw (
      eqb-true v.answer w.answer r.0,
      same_reply_lem v.reply w.reply r.1,
      same_neighbour_lem v.neighbour w.neighbour q.1,
      same_effect_lem v.effect w.effect p.1,
    )

abbrev seconds_from : List ℕ → Seconds
seconds_from l = record { idle = at 0 l; acquisition = at 1 l; down = at 2 l; up = at 3 l; cease = at 4 l }

same_seconds_lem : (s t : Seconds) → same_seconds s t ≡ true → s ≡ t
unfolding same_seconds seconds_numbers
same_seconds_lem s t e = ap seconds_from (same_numbers_lem (seconds_numbers s) (seconds_numbers t) e)

same_slot_lem : (a b : Slot) → same_slot a b ≡ true → a ≡ b
unfolding same_slot
same_slot_lem a b e =
    let x = eqb a.address b.address in
    let y = eqb a.asn b.asn in
    let z = same_neighbour a.neighbour b.neighbour in
    let w = eqb a.rows b.rows in
    let p = both (x && y && z && w) (same_seconds a.seconds b.seconds) e in
    let q = both (x && y && z) w p.0 in
    let r = both (x && y) z q.0 in
    let s = both x y r.0 in
    rw (
      eqb-true a.address b.address s.0,
      eqb-true a.asn b.asn s.1,
      same_neighbour_lem a.neighbour b.neighbour r.1,
      eqb-true a.rows b.rows q.1,
      same_seconds_lem a.seconds b.seconds p.1,
    )

same_slots_lem : (l m : List Slot) → same_slots l m ≡ true → l ≡ m
unfolding same_slots
same_slots_lem [] [] e = refl
same_slots_lem [] (b ∷ bs) e = never e
same_slots_lem (a ∷ l) [] e = never e
same_slots_lem (a ∷ l) (b ∷ m) e =
    let p = both (same_slot a b) (same_slots l m) e in
    let h : a ≡ b = same_slot_lem a b p.0 in
    let t : l ≡ m = same_slots_lem l m p.1 in
    rw (h, t)

abbrev settings_from : List ℕ → Settings
settings_from l = record { asn = at 0 l; own = at 1 l; capability = at 2 l; net = at 3 l; quiet = at 4 l }

same_settings_lem : (a b : Settings) → same_settings a b ≡ true → a ≡ b
unfolding same_settings
same_settings_lem a b e =
    ap settings_from
    (same_numbers_lem (a.asn ∷ a.own ∷ a.capability ∷ a.net ∷ a.quiet ∷ []) (b.asn ∷ b.own ∷ b.capability ∷ b.net ∷ b.quiet ∷ []) e)

same_state_lem : (a b : State) → same_state a b ≡ true → a ≡ b
unfolding same_state
same_state_lem a b e =
    let p = both (same_settings a.settings b.settings) (same_slots a.slots b.slots) e in
    rw (same_settings_lem a.settings b.settings p.0, same_slots_lem a.slots b.slots p.1)

same_outcome_lem : (a b : Outcome) → same_outcome a b ≡ true → a ≡ b
unfolding same_outcome
same_outcome_lem a b e =
    let x = eqb a.answer b.answer in
    let y = eqb a.first b.first in
    let z = eqb a.second b.second in
    let p = both (x && y && z) (same_state a.state b.state) e in
    let q = both (x && y) z p.0 in
    let r = both x y q.0 in
    rw (
      eqb-true a.answer b.answer r.0,
      eqb-true a.first b.first r.1,
      eqb-true a.second b.second q.1,
      same_state_lem a.state b.state p.1,
    )

-- ---- a case

pub passing_holds : PassingHolds
unfolding passes leaves
passing_holds (reads net octets m rows) e =
    let a = same_reading (read_of net octets) (good_reading m rows) in
    let b = writable m (flat rows) in
    let p = both (a && b) (same_numbers (message_octets m rows) octets) e in
    let q = both a b p.0 in
    (same_reading_lem (read_of net octets) (good_reading m rows) q.0, q.1, same_numbers_lem (message_octets m rows) octets p.1)
passing_holds (refused net octets told) e = same_reading_lem (read_of net octets) (bad_reading told) e
passing_holds (received g asn n octets v) e = same_verdict_lem _ v e
passing_holds (happens g asn n event v) e = same_verdict_lem _ v e
passing_holds (called st address octets left) e =
    let x = message_outcome st zero_table zero_buffer [] address octets in
    let y = message_buffer st zero_table zero_buffer [] address octets in
    let z = message_table st zero_table zero_buffer [] address octets in
    let a = same_outcome x left.outcome in
    let b = same_numbers y (padded 2048 left.reply) in
    let p = both (a && b) (same_numbers z (padded 3072 left.rows)) e in
    let q = both a b p.0 in (
      same_outcome_lem x left.outcome q.0,
      same_numbers_lem y (padded 2048 left.reply) q.1,
      same_numbers_lem z (padded 3072 left.rows) p.1,
    )
