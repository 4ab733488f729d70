-- The stages in which the message call finds a message's number.
use Rattle.std.specs.Result.{result_and}
use Rattle.std.specs.Prelude.{ℕ, false, List, Result, ◌≡◌, eqb}
use Rattle.checks.specs.Refusals.{checked}
use Rattle.checks.specs.declared.Refusal.{Refusal}
use Rattle.checks.specs.declared.Refusal.TheVariants.{OtherAs}
use Rattle.message.specs.declared.Message.{Message}
use Rattle.message.specs.declared.Message.TheVariants as M
use Rattle.message_reading.specs.Reading.{header_of, asn_at, decode_of}
use Rattle.update_walk.specs.Body.{UpdateRead, accepted, broken_at, too_many}
use Rattle.neighbour.specs.declared.Settings.{Settings}
use Rattle.neighbour.specs.declared.Phase.TheVariants.{Up}
use Rattle.neighbour.specs.declared.Neighbour.{Neighbour}
use Rattle.neighbour.specs.Rules.{too_quick}
use Rattle.neighbour_machine.specs.declared.After.{After}
use Rattle.gateway_rules.specs.Number.{named_reply}
use Rattle.gateway_rules.specs.Ruling.{keep, replace, Ruling, refuses}

-- 6 to 8, then 9, then 10 to 12: what a message from the neighbour with this AS says
unfoldable pub read_from : ℕ → List ℕ → Result Message Refusal
read_from asn o = result_and (header_of o) (checked (eqb (asn_at o) asn) OtherAs (decode_of o))

-- an Update in Up, by what its blocks are read as
unfoldable pub taken_update : Settings → Neighbour → List ℕ → After → UpdateRead → Ruling
taken_update g n o after (accepted rows) =
    record { answer = 0; reply = after.reply; neighbour = after.neighbour; change = replace rows }
taken_update g n o after (broken_at offset) = refuses n 14 (named_reply g n o 14)
taken_update g n o after too_many = refuses n 15 (named_reply g n o 15)

-- a Hello in Up that doesn't come too soon, or an I-H-U there that carries S
unfoldable pub Reach : Neighbour → Message → Type 0
Reach n (M.Request a q s hello poll) = ⊥
Reach n (M.Confirm a q s hello poll) = ⊥
Reach n (M.Refuse a q s) = ⊥
Reach n (M.Cease a q s) = ⊥
Reach n (M.CeaseAck a q s) = ⊥
Reach n (M.Hello a q s) = (n.phase ≡ Up) × (too_quick n (M.Hello a q s) ≡ false)
Reach n (M.IHeardYou a q s) = (n.phase ≡ Up) × (q ≡ n.s)
Reach n (M.Poll a q s net) = ⊥
Reach n (M.Update a q s net) = ⊥
Reach n (M.Error a q s reason first second third) = ⊥

-- what a step leaves where the rows stay
unfoldable pub keeping : After → Ruling
keeping after = record { answer = 0; reply = after.reply; neighbour = after.neighbour; change = keep }
