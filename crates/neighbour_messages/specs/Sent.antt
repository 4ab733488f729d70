-- The messages that a gateway sends to a neighbour with this record.
use Rattle.std.specs.Prelude.{ℕ}
use Rattle.message.specs.declared.Message.{Message}
use Rattle.message.specs.declared.Message.TheVariants as M
use Rattle.neighbour.specs.declared.Phase.{Phase}
use Rattle.neighbour.specs.declared.Phase.TheVariants.{Idle, Acquisition, Down, Up, Cease}
use Rattle.neighbour.specs.declared.Settings.{Settings}
use Rattle.neighbour_messages.specs.declared.Head.{Head}
use Rattle.neighbour.specs.declared.Neighbour.{Neighbour}
use Rattle.neighbour.specs.Record.{P1, P2}

-- 01: "We send status 2 in Down and 1 in Up on Hello, I-H-U, Poll, Update and Error". None of them is sent in another state.
abbrev pub status_in : Phase → ℕ
status_in Idle = 0
status_in Acquisition = 0
status_in Down = 2
status_in Up = 1
status_in Cease = 0

-- 01: "Responses carry R ..  Commands carry S, all messages our AS."
-- 01: "our capability, 30 and 120 on Request and Confirm"
abbrev pub request_message : Settings → Neighbour → Message
request_message g n = M.Request g.asn n.s g.capability P1 P2

abbrev pub confirm_message : Settings → Neighbour → Message
confirm_message g n = M.Confirm g.asn n.r g.capability P1 P2

-- in Idle a response carries the command's number, so the number is given
abbrev pub refuse_message : Settings → ℕ → ℕ → Message
refuse_message g sequence status = M.Refuse g.asn sequence status

-- 01: "keep n as cause for repeats"
abbrev pub cease_message : Settings → Neighbour → Message
cease_message g n = M.Cease g.asn n.s n.cause

-- 02: "a Cease, status 7, sequence 0", to a stray message
abbrev pub stray_cease_message : Settings → Message
stray_cease_message g = M.Cease g.asn 0 7

-- 01: "0 on Cease-ack"
abbrev pub cease_ack_message : Settings → ℕ → Message
cease_ack_message g sequence = M.CeaseAck g.asn sequence 0

abbrev pub hello_message : Settings → Neighbour → Message
hello_message g n = M.Hello g.asn n.s (status_in n.phase)

abbrev pub i_heard_you_message : Settings → Neighbour → Message
i_heard_you_message g n = M.IHeardYou g.asn n.r (status_in n.phase)

abbrev pub poll_message : Settings → Neighbour → Message
poll_message g n = M.Poll g.asn n.s (status_in n.phase) g.net

-- the rows stand outside
abbrev pub update_message : Settings → Neighbour → Message
update_message g n = M.Update g.asn n.r (status_in n.phase) g.net

-- 01: "Error carries R and the first 12 octets, zero-filled."
abbrev pub error_message : Settings → Neighbour → ℕ → Head → Message
error_message g n reason head =
    M.Error g.asn n.r (status_in n.phase) reason head.first head.second head.third
