-- What an event makes of one neighbour: the next record and the reply.
use Rattle.std.specs.Prelude.{ℕ}
use Rattle.message.specs.declared.Message.{Message}
use Rattle.message.specs.declared.Message.TheVariants as M
use Rattle.neighbour.specs.declared.Settings.{Settings}
use Rattle.neighbour.specs.declared.Neighbour.{Neighbour}
use Rattle.neighbour_messages.specs.declared.Head.{Head}
use Rattle.neighbour.specs.Rules.{offer_of, commanded, noted, recounted}
use Rattle.neighbour_machine.specs.declared.Event.{Event}
use Rattle.neighbour_machine.specs.declared.Event.TheVariants.{Received, Start, Stop, Tick}
use Rattle.neighbour_machine.specs.declared.After.{After}
use Rattle.neighbour_machine.specs.Table.{unanswered, on_request, on_confirm, on_refuse, on_cease, on_cease_ack, on_hello, on_i_heard_you, on_poll, on_update, on_start, on_stop}
use Rattle.neighbour_machine.specs.Tick.{on_tick}

-- the row of 01's table for a message; the neighbour's AS is `asn`
unfoldable pub on_message : Settings → ℕ → Neighbour → Message → Head → After
on_message g asn n (M.Request a sequence status hello poll) head = on_request g n sequence (offer_of g asn status hello poll)
on_message g asn n (M.Confirm a sequence status hello poll) head = on_confirm g n (offer_of g asn status hello poll)
on_message g asn n (M.Refuse a sequence status) head = on_refuse g n
on_message g asn n (M.Cease a sequence status) head = on_cease g sequence
on_message g asn n (M.CeaseAck a sequence status) head = on_cease_ack n
on_message g asn n (M.Hello a sequence status) head = on_hello g n
on_message g asn n (M.IHeardYou a sequence status) head = on_i_heard_you g n
on_message g asn n (M.Poll a sequence status net) head = on_poll g n net head
on_message g asn n (M.Update a sequence status net) head = on_update g n
-- 01: "An Error received changes nothing."
on_message g asn n (M.Error a sequence status reason first second third) head = unanswered n

-- 01: "An event is a message, Start, Stop or a tick". A command sets R first, an indication is noted, a Hello or a Poll
-- starts its count anew, then the row is carried out.
unfoldable pub step_of : Settings → ℕ → Neighbour → Event → Head → After
step_of g asn n (Received m) head = on_message g asn (recounted (noted (commanded n m) m) m) m head
step_of g asn n Start head = on_start g n
step_of g asn n Stop head = on_stop g n
step_of g asn n Tick head = on_tick g n
