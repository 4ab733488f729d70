-- What becomes of one neighbour: by an event, or by a message once its number is known.
use Rattle.std.specs.Prelude.{ℕ, cond, not, ◌&&◌, List, length, Result, Ok, Err}
use Rattle.checks.specs.declared.Refusal.{Refusal}
use Rattle.checks.specs.Checks.{if_ok}
use Rattle.message.specs.declared.Message.{Message}
use Rattle.nets.specs.Rows.{Row}
use Rattle.message_reading.specs.Reading.{kind_in, decode_of}
use Rattle.update_walk.specs.Body.{update_of, rows_read}
use Rattle.neighbour.specs.declared.Phase.{Phase}
use Rattle.neighbour.specs.declared.Settings.{Settings}
use Rattle.neighbour.specs.declared.Neighbour.{Neighbour}
use Rattle.neighbour.specs.Record.{is_up}
use Rattle.neighbour_machine.specs.declared.Event.TheVariants.{Received}
use Rattle.neighbour_machine.specs.declared.Reply.{Reply}
use Rattle.neighbour_machine.specs.declared.After.{After}
use Rattle.neighbour_machine.specs.Table.{unanswered}
use Rattle.neighbour_machine.specs.Step.{step_of}
use Rattle.gateway_rules.specs.declared.Effect.{Effect}
use Rattle.gateway_rules.specs.declared.Effect.TheVariants.{Keep, Clear, Replace}
use Rattle.gateway_rules.specs.declared.Verdict.{Verdict}
use Rattle.gateway_rules.specs.Number.{brings_rows, message_number, error_head, named_reply}

-- what becomes of the neighbour's rows: they stay, go, or are these from now on
pub data Change : Type 0 where
  keep : Change
  clear : Change
  replace : List Row → Change

-- 01's answer, the reply, the record after it and what becomes of the rows
pub record Ruling : Type 0 where
  pub answer : ℕ
  pub reply : Reply
  pub neighbour : Neighbour
  pub change : Change

-- 01: "Leaving Up zeroes .. the neighbour's rows and count"
unfoldable pub leaving : Phase → Phase → Change
leaving before now = cond (is_up before && not (is_up now)) clear keep

-- the machine's step, carried out
unfoldable pub stepped : Neighbour → After → Ruling
stepped n after =
    record { answer = 0; reply = after.reply; neighbour = after.neighbour; change = leaving n.phase after.neighbour.phase }

-- 01: "Every refusal returns the state as given, keeps the table"
unfoldable pub refuses : Neighbour → ℕ → Reply → Ruling
refuses n answer reply = record { answer = answer; reply = reply; neighbour = n; change = keep }

-- the machine's step for a message that was read; 10 to 12 have refused the others
unfoldable pub taken_step : Settings → ℕ → Neighbour → List ℕ → Result Message Refusal → After
taken_step g asn n o (Ok m) = step_of g asn n (Received m) (error_head o)
taken_step g asn n o (Err refused) = unanswered n

-- 01: "An Update that finds its slot Up and fails no check is accepted: its rows replace the slot's."
unfoldable pub change_by : ℕ → Settings → Neighbour → List ℕ → After → Change
change_by room g n o after =
    cond (brings_rows n.phase (kind_in o)) (replace (rows_read (update_of room g.net o))) (leaving n.phase after.neighbour.phase)

-- a message that no check refused
unfoldable pub carried_out : ℕ → Settings → Neighbour → List ℕ → After → Ruling
carried_out room g n o after =
    record { answer = 0; reply = after.reply; neighbour = after.neighbour; change = change_by room g n o after }

-- a message: its number, then by the number the reply, or what it does
unfoldable pub receive_ruling : ℕ → Settings → ℕ → Neighbour → List ℕ → Ruling
receive_ruling room g asn n o =
    if_ok (message_number room g asn n o)
    (carried_out room g n o (taken_step g asn n o (decode_of o)))
    (refuses n (message_number room g asn n o) (named_reply g n o (message_number room g asn n o)))

-- ---- as the code says it: of rows only how many

unfoldable pub effect_of : Change → Effect
effect_of keep = Keep
effect_of clear = Clear
effect_of (replace rows) = Replace (length rows)

unfoldable pub verdict_of : Ruling → Verdict
verdict_of x = record { answer = x.answer; reply = x.reply; neighbour = x.neighbour; effect = effect_of x.change }
