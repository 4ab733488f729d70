-- Which events the clock of a slot counts, and when it is full: 02's L7.
use Rattle.std.specs.Prelude.{Bool, true, not}
use Rattle.neighbour_seconds.specs.declared.Seconds.{Seconds}
use Rattle.neighbour_seconds.specs.Seconds.{clock_full, counted}
use Rattle.neighbour_machine.specs.declared.Event.{Event}
use Rattle.neighbour_machine.specs.declared.Event.TheVariants.{Received, Start, Stop, Tick}
use Rattle.gateway_state.specs.declared.Slot.{Slot}

-- 22 "a tick when the sum is 4,294,967,295": no other event is refused for it
unfoldable pub has_time : Event → Seconds → Bool
has_time (Received m) s = true
has_time Start s = true
has_time Stop s = true
has_time Tick s = not (clock_full s)

-- the slot with a second more in the state that its neighbour is in
unfoldable pub second_more : Slot → Slot
second_more slot =
    record {
      address = slot.address;
      asn = slot.asn;
      neighbour = slot.neighbour;
      rows = slot.rows;
      seconds = counted slot.neighbour.phase slot.seconds;
    }

-- "A tick carried out belongs to the state before it": the slot as the event's own rules find it
unfoldable pub booked : Event → Slot → Slot
booked (Received m) slot = slot
booked Start slot = slot
booked Stop slot = slot
booked Tick slot = second_more slot
