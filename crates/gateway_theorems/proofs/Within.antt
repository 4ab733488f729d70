-- No octet past the reported lengths changes. Assumes nothing.
use Prim.Native.Nat.{ℕ, ◌+◌}
use mathlib.Core.Path.{◌≡◌, refl}
use mathlib.Core.List.{List, []}
use lib.ListN.{length, drop, length-append}
use lib.Seq.{drop-append_seam}
use Rattle.octets.specs.Buffer.{over}
use Rattle.nets.specs.Rows.{Row, rows_of}
use Rattle.neighbour_machine.specs.Intrinsics.{Intrinsic}
use Rattle.gateway_state.specs.declared.Slot.{Slot}
use Rattle.gateway_state.specs.declared.State.{State}
use Rattle.gateway_state.specs.declared.Outcome.{Outcome}
use Rattle.gateway_state.specs.Slots.{slot_of}
use Rattle.gateway_state.specs.Outcomes.{refused_of}
use Rattle.gateway_rules.specs.Ruling.{Ruling}
use Rattle.gateway_rules.specs.Carried.{first_octets, second_octets, reply_octets, outcome_after, buffer_after}
use Rattle.gateway_rules.specs.Calls.{event_checks, message_checks, event_ruling, message_ruling, event_outcome, event_buffer, message_outcome, message_buffer}
use Rattle.gateway_theorems.specs.Claims.{Within, WritesWithinLengths}
use Rattle.gateway_theorems.proofs.Calls.{call_holds}
use Rattle.gateway_theorems.proofs.Listings.{listing_within}
use Rattle.gateway_theorems.proofs.Alone.{writing_within}

over_rest : (octets buffer : List ℕ) (n : ℕ) → length octets ≡ n → drop n (over octets buffer) ≡ drop n buffer
unfolding over
over_rest octets buffer n e = rw (← e) (drop-append_seam octets (drop (length octets) buffer))

within : (r : Outcome) (octets buffer : List ℕ) → length octets ≡ r.first + r.second → Within r buffer (over octets buffer)
within r octets buffer e = record { octets = octets; is = refl; long = e; rest = over_rest octets buffer (r.first + r.second) e }

carried_within : (st : State) (i : ℕ) (slot : Slot) (v : Ruling) (home : List Row) (buffer : List ℕ) → Within (outcome_after st i slot v home) buffer (buffer_after buffer v.reply home)
unfolding outcome_after buffer_after reply_octets
carried_within st i slot v home buffer =
    within (outcome_after st i slot v home) (reply_octets v.reply home) buffer (length-append (first_octets v.reply home) (second_octets v.reply home))

refused_within : (st : State) (k : ℕ) (buffer : List ℕ) → Within (refused_of st k) buffer buffer
unfolding refused_of over
refused_within st k buffer = record { octets = []; is = refl; long = refl; rest = refl }

event_within : (event : Intrinsic) (st : State) (table buffer : List ℕ) (a : ℕ)
    → Within (event_outcome event st table buffer a) buffer (event_buffer event st table buffer a)
unfolding event_outcome event_buffer
event_within event st table buffer a =
    call_holds (λ r t b. Within r buffer b) (event_checks event st table buffer a) _ _ table table _ _
    (λ _. carried_within st (slot_of st a) _ (event_ruling event st a) [] buffer) (λ _. refused_within st (event_checks event st table buffer a) buffer)

message_within : (st : State) (table buffer home : List ℕ) (a : ℕ) (o : List ℕ)
    → Within (message_outcome st table buffer home a o) buffer (message_buffer st table buffer home a o)
unfolding message_outcome message_buffer
message_within st table buffer home a o =
    call_holds (λ r t b. Within r buffer b) (message_checks st table buffer home a) _ _ table table _ _
    (λ _. carried_within st (slot_of st a) _ (message_ruling st a o) (rows_of home) buffer) (λ _. refused_within st (message_checks st table buffer home a) buffer)

pub writes_within_lengths : WritesWithinLengths
writes_within_lengths = record { events = event_within; messages = message_within; listings = listing_within; writings = writing_within }
