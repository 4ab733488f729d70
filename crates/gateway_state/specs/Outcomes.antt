-- What a call answers: a number, the lengths of its reply's two messages, and the state after it.
use Rattle.std.specs.Prelude.{ℕ}
use Rattle.checks.specs.Checks.{if_ok}
use Rattle.gateway_state.specs.declared.State.{State}
use Rattle.gateway_state.specs.declared.Outcome.{Outcome}

-- an answer without a reply: lengths 0 and 0
abbrev pub unreplied : ℕ → State → Outcome
unreplied answer st = record { answer = answer; first = 0; second = 0; state = st }

-- 01: "Every refusal returns the state as given .. and reports lengths 0 and 0 unless a reply is named"
unfoldable pub refused_of : State → ℕ → Outcome
refused_of st answer = unreplied answer st

-- a call that never replies: its answer, and the new state where it was carried out, else the old
unfoldable pub silent_of : ℕ → State → State → Outcome
silent_of answer new old = unreplied answer (if_ok answer new old)
