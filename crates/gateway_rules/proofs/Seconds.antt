-- Laws of the slot's clock: what booking leaves as it was, and when there is time. Assumes nothing.
use mathlib.Core.Path.{◌≡◌, refl}
use mathlib.Core.Bool.{true}
use borrow.Author.Tests.{not-true}
use Rattle.neighbour_seconds.specs.Seconds.{seconds_formed}
use Rattle.neighbour_seconds.proofs.Laws.{seconds_laws}
use Rattle.neighbour_machine.specs.declared.Event.{Event}
use Rattle.neighbour_machine.specs.declared.Event.TheVariants.{Received, Start, Stop, Tick}
use Rattle.gateway_state.specs.declared.Slot.{Slot}
use Rattle.gateway_rules.specs.Seconds.{has_time, second_more, booked}

-- whatever the event: all but the seconds
pub booked_neighbour : (event : Event) (slot : Slot) → (booked event slot).neighbour ≡ slot.neighbour
unfolding booked second_more
booked_neighbour (Received m) slot = refl
booked_neighbour Start slot = refl
booked_neighbour Stop slot = refl
booked_neighbour Tick slot = refl

pub booked_address : (event : Event) (slot : Slot) → (booked event slot).address ≡ slot.address
unfolding booked second_more
booked_address (Received m) slot = refl
booked_address Start slot = refl
booked_address Stop slot = refl
booked_address Tick slot = refl

pub booked_asn : (event : Event) (slot : Slot) → (booked event slot).asn ≡ slot.asn
unfolding booked second_more
booked_asn (Received m) slot = refl
booked_asn Start slot = refl
booked_asn Stop slot = refl
booked_asn Tick slot = refl

pub booked_rows : (event : Event) (slot : Slot) → (booked event slot).rows ≡ slot.rows
unfolding booked second_more
booked_rows (Received m) slot = refl
booked_rows Start slot = refl
booked_rows Stop slot = refl
booked_rows Tick slot = refl

-- 02: "with a sum of at most 4,294,967,295"
pub booked_formed : (event : Event) (slot : Slot) → seconds_formed slot.seconds ≡ true → has_time event slot.seconds ≡ true
    → seconds_formed (booked event slot).seconds ≡ true
unfolding booked second_more has_time
booked_formed (Received m) slot f t = f
booked_formed Start slot f t = f
booked_formed Stop slot f t = f
booked_formed Tick slot f t =
    seconds_laws.formed slot.neighbour.phase slot.seconds (seconds_laws.room slot.seconds f (not-true _ t))
