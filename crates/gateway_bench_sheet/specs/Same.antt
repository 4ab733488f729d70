-- Whether two meanings, records, replies or outcomes are the same, field by field, as tests that compute.
use Rattle.std.specs.Prelude.{ℕ, Bool, true, false, ◌&&◌, List, [], ◌∷◌, eqb, Result, Ok, Err}
use Rattle.checks.specs.Refusals.{number_of}
use Rattle.checks.specs.declared.Refusal.{Refusal}
use Rattle.message.specs.declared.Message.{Message}
use Rattle.message.specs.declared.Message.TheVariants.{Request, Confirm, Refuse, Cease, CeaseAck, Hello, IHeardYou, Poll, Update, Error}
use Rattle.codec.specs.declared.Reading.{Reading}
use Rattle.neighbour.specs.declared.Settings.{Settings}
use Rattle.neighbour.specs.declared.Neighbour.{Neighbour}
use Rattle.neighbour.specs.Record.{phase_number, mode_number}
use Rattle.neighbour_seconds.specs.declared.Seconds.{Seconds}
use Rattle.neighbour_machine.specs.declared.Reply.{Reply}
use Rattle.neighbour_machine.specs.declared.Reply.TheVariants.{Nothing, One, Two}
use Rattle.gateway_state.specs.declared.Slot.{Slot}
use Rattle.gateway_state.specs.declared.State.{State}
use Rattle.gateway_state.specs.declared.Outcome.{Outcome}
use Rattle.gateway_rules.specs.declared.Effect.{Effect}
use Rattle.gateway_rules.specs.declared.Effect.TheVariants.{Keep, Clear, Replace}
use Rattle.gateway_rules.specs.declared.Verdict.{Verdict}

-- the same numbers in the same order, and as many
unfoldable pub same_numbers : List ℕ → List ℕ → Bool
same_numbers [] [] = true
same_numbers [] (y ∷ ys) = false
same_numbers (x ∷ xs) [] = false
same_numbers (x ∷ xs) (y ∷ ys) = eqb x y && same_numbers xs ys

-- a message as numbers: one for its kind, then all that it carries
unfoldable pub message_numbers : Message → List ℕ
message_numbers (Request a q s hello poll) = 0 ∷ a ∷ q ∷ s ∷ hello ∷ poll ∷ []
message_numbers (Confirm a q s hello poll) = 1 ∷ a ∷ q ∷ s ∷ hello ∷ poll ∷ []
message_numbers (Refuse a q s) = 2 ∷ a ∷ q ∷ s ∷ []
message_numbers (Cease a q s) = 3 ∷ a ∷ q ∷ s ∷ []
message_numbers (CeaseAck a q s) = 4 ∷ a ∷ q ∷ s ∷ []
message_numbers (Hello a q s) = 5 ∷ a ∷ q ∷ s ∷ []
message_numbers (IHeardYou a q s) = 6 ∷ a ∷ q ∷ s ∷ []
message_numbers (Poll a q s net) = 7 ∷ a ∷ q ∷ s ∷ net ∷ []
message_numbers (Update a q s net) = 8 ∷ a ∷ q ∷ s ∷ net ∷ []
message_numbers (Error a q s reason x y z) = 9 ∷ a ∷ q ∷ s ∷ reason ∷ x ∷ y ∷ z ∷ []

-- 01: "one of ten kinds, each carrying its own fields": the same kind with the same fields
unfoldable pub same_message : Message → Message → Bool
same_message m n = same_numbers (message_numbers m) (message_numbers n)

-- the same message, or refused with the same number
unfoldable pub same_meaning : Result Message Refusal → Result Message Refusal → Bool
same_meaning (Ok m) (Ok n) = same_message m n
same_meaning (Ok m) (Err k) = false
same_meaning (Err k) (Ok n) = false
same_meaning (Err k) (Err l) = eqb (number_of k) (number_of l)

-- the same meaning, row count and rows
unfoldable pub same_reading : Reading → Reading → Bool
same_reading a b = same_meaning a.meaning b.meaning && eqb a.count b.count && same_numbers a.rows b.rows

-- a neighbour's record, all fourteen fields
unfoldable pub neighbour_numbers : Neighbour → List ℕ
neighbour_numbers n =
    n.s ∷ n.r ∷ n.period1 ∷ n.period2 ∷ n.t1 ∷ n.t2 ∷ n.t3 ∷ phase_number n.phase ∷ mode_number n.mode
    ∷ n.register ∷ n.heard ∷ n.cause ∷ n.sincehello ∷ n.sincepoll ∷ []

-- the same in all fourteen fields
unfoldable pub same_neighbour : Neighbour → Neighbour → Bool
same_neighbour m n = same_numbers (neighbour_numbers m) (neighbour_numbers n)

-- 01: "A reply is at most two messages": as many, and the same in the same order
unfoldable pub same_reply : Reply → Reply → Bool
same_reply Nothing Nothing = true
same_reply Nothing (One n) = false
same_reply Nothing (Two n n') = false
same_reply (One m) Nothing = false
same_reply (One m) (One n) = same_message m n
same_reply (One m) (Two n n') = false
same_reply (Two m m') Nothing = false
same_reply (Two m m') (One n) = false
same_reply (Two m m') (Two n n') = same_message m n && same_message m' n'

-- the rows kept, zeroed, or replaced by as many
unfoldable pub same_effect : Effect → Effect → Bool
same_effect Keep Keep = true
same_effect Keep Clear = false
same_effect Keep (Replace k) = false
same_effect Clear Keep = false
same_effect Clear Clear = true
same_effect Clear (Replace k) = false
same_effect (Replace k) Keep = false
same_effect (Replace k) Clear = false
same_effect (Replace k) (Replace l) = eqb k l

-- the same answer, reply, record and rows
unfoldable pub same_verdict : Verdict → Verdict → Bool
same_verdict v w =
    eqb v.answer w.answer && same_reply v.reply w.reply && same_neighbour v.neighbour w.neighbour
    && same_effect v.effect w.effect

-- the seconds in the five states
unfoldable pub seconds_numbers : Seconds → List ℕ
seconds_numbers s = s.idle ∷ s.acquisition ∷ s.down ∷ s.up ∷ s.cease ∷ []

unfoldable pub same_seconds : Seconds → Seconds → Bool
same_seconds s t = same_numbers (seconds_numbers s) (seconds_numbers t)

-- the same address, AS, record, row count and seconds
unfoldable pub same_slot : Slot → Slot → Bool
same_slot a b =
    eqb a.address b.address && eqb a.asn b.asn && same_neighbour a.neighbour b.neighbour && eqb a.rows b.rows
    && same_seconds a.seconds b.seconds

-- the same slots in the same order
unfoldable pub same_slots : List Slot → List Slot → Bool
same_slots [] [] = true
same_slots [] (b ∷ bs) = false
same_slots (a ∷ as') [] = false
same_slots (a ∷ as') (b ∷ bs) = same_slot a b && same_slots as' bs

-- the same own AS, own address, capability, common net and `quiet`
unfoldable pub same_settings : Settings → Settings → Bool
same_settings a b =
    same_numbers (a.asn ∷ a.own ∷ a.capability ∷ a.net ∷ a.quiet ∷ []) (b.asn ∷ b.own ∷ b.capability ∷ b.net ∷ b.quiet ∷ [])

-- the same settings and slots
unfoldable pub same_state : State → State → Bool
same_state a b = same_settings a.settings b.settings && same_slots a.slots b.slots

-- the same answer, two lengths and state
unfoldable pub same_outcome : Outcome → Outcome → Bool
same_outcome a b =
    eqb a.answer b.answer && eqb a.first b.first && eqb a.second b.second && same_state a.state b.state
