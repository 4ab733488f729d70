-- The number of a message from one neighbour, and the reply by the number: 01's checks 6 to 15, 02's 21, and the column "Reply".
use Rattle.std.specs.Prelude.{ℕ, Bool, false, cond, not, ◌&&◌, List, leb, eqb, length, get_or, Option, Some, None}
use Rattle.checks.specs.Checks.{check}
use Rattle.octets.specs.Numbers.{word32}
use Rattle.message.specs.Kinds.{plain_status}
use Rattle.message.specs.declared.Kind.TheVariants as K
use Rattle.message.specs.declared.Kind.{Kind}
use Rattle.message_reading.specs.Reading.{size_allowed, version_is2, checksum_holds, asn_at, status_at, sequence_at, kind_in, is_known, status_fits, length_fits, meaning_of}
use Rattle.update_walk.specs.Body.{update_of}
use Rattle.update_walk.specs.Body as Body
use Rattle.neighbour.specs.declared.Phase.{Phase}
use Rattle.neighbour.specs.declared.Settings.{Settings}
use Rattle.neighbour.specs.declared.Neighbour.{Neighbour}
use Rattle.neighbour.specs.Record.{is_idle, acquired, is_up}
use Rattle.neighbour.specs.Rules.{same, in_sequence, too_quick}
use Rattle.neighbour_messages.specs.declared.Head.{Head}
use Rattle.neighbour_messages.specs.Sent.{refuse_message, error_message}
use Rattle.neighbour_machine.specs.declared.Reply.{Reply}
use Rattle.neighbour_machine.specs.declared.Reply.TheVariants.{Nothing, One}

-- 13 "response out of sequence"
unfoldable pub sequence_fits : Neighbour → Option Kind → List ℕ → Bool
sequence_fits n None o = false
sequence_fits n (Some kind) o = in_sequence n (meaning_of kind o)

-- 21 (02, L5) "a Hello less than 30 ticks, or a Poll less than 120 ticks, after the last one carried out"
unfoldable pub spacing_fits : Neighbour → Option Kind → List ℕ → Bool
spacing_fits n None o = false
spacing_fits n (Some kind) o = not (too_quick n (meaning_of kind o))

-- whether the blocks are read: those of an Update that finds its neighbour Up
unfoldable pub brings_rows : Phase → Option Kind → Bool
brings_rows phase None = false
brings_rows phase (Some kind) = same kind K.Update && is_up phase

-- 14 and 15 by what the walk answers, room being the rows that may be accepted
unfoldable pub body_number : ℕ → ℕ → List ℕ → ℕ
body_number room net o = Body.update_number (update_of room net o)

-- 01: "Checks go in this order; the first that fails answers": those of a message from the neighbour with this AS and
-- record
unfoldable pub message_number : ℕ → Settings → ℕ → Neighbour → List ℕ → ℕ
message_number room g asn n o =
    check (size_allowed o) 6
    (check (version_is2 o) 7
    (check (checksum_holds o) 8
    (check (eqb (asn_at o) asn) 9
    (check (is_known (kind_in o)) 10
    (check (status_fits (kind_in o) o) 11
    (check (length_fits (kind_in o) o) 12
    (check (sequence_fits n (kind_in o) o) 13
    (check (spacing_fits n (kind_in o) o) 21
    (cond (brings_rows n.phase (kind_in o)) (body_number room g.net o)
    0)))))))))

-- 01: "the first 12 octets, zero-filled"
unfoldable pub error_head : List ℕ → Head
error_head o = record { first = word32 o 0; second = word32 o 4; third = word32 o 8 }

-- 01: "Error is sent only in Down and Up, never to a message of type 8."
unfoldable pub error_to : Settings → Neighbour → List ℕ → ℕ → Reply
error_to g n o reason =
    cond (acquired n.phase && not (eqb (get_or o 1 0) 8)) (One (error_message g n reason (error_head o))) Nothing

-- 01: check 9's reply: "Refuse status 4, only in Idle and only to a Request of 14 octets with status 0 to 2"
unfoldable pub refuse_to : Settings → Neighbour → List ℕ → Reply
refuse_to g n o =
    cond (is_idle n.phase && eqb (get_or o 1 0) 3 && eqb (get_or o 2 0) 0 && plain_status (status_at o) && eqb (length o) 14)
    (One (refuse_message g (sequence_at o) 4)) Nothing

-- 01's column "Reply": to 9 a Refuse, to 10, 11 and 12 Error 1, to 14 Error 2, to 15 Error 0; 02, L5: to 21
-- Error 4; else none
unfoldable pub named_reply : Settings → Neighbour → List ℕ → ℕ → Reply
named_reply g n o answer =
    cond (eqb answer 9) (refuse_to g n o)
    (cond (leb 10 answer && leb answer 12) (error_to g n o 1)
    (cond (eqb answer 14) (error_to g n o 2)
    (cond (eqb answer 15) (error_to g n o 0)
    (cond (eqb answer 21) (error_to g n o 4)
    Nothing))))
