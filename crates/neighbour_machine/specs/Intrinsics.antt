-- The events that no message brings. RFC 904, 4.2: "The Start and Stop events are intrinsic to the system environment
-- of the gateway".
use Rattle.neighbour_machine.specs.declared.Event.{Event}
use Rattle.neighbour_machine.specs.declared.Event.TheVariants as E

-- 01: "Start, Stop or a tick": what a host asks of a neighbour by a call of its own
pub data Intrinsic : Type 0 where
  Start : Intrinsic
  Stop : Intrinsic
  Tick : Intrinsic

-- 01: "An event is a message, Start, Stop or a tick"
abbrev pub as_event : Intrinsic → Event
as_event Start = E.Start
as_event Stop = E.Stop
as_event Tick = E.Tick
