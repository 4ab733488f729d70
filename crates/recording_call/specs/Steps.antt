-- What is left of a call once its lines are written.
use Rattle.std.specs.Prelude.{ℕ}
use Rattle.gateway_state.specs.declared.Outcome.{Outcome}
use Rattle.recording_call.specs.declared.Called.{Called}

-- its state and its number, with so many octets of lines and so many ticks passed over
unfoldable pub called_with : Outcome → ℕ → ℕ → Called
called_with o written passed = record { state = o.state; answer = o.answer; written = written; passed = passed }
