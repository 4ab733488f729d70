-- What the writer of the lines is handed.
use Rattle.std.specs.Prelude.{ℕ, List}
use Rattle.gateway_state.specs.declared.Outcome.{Outcome}
use Rattle.model.specs.Theorem.{Seen}

-- what is seen of an outcome and the reply buffer after the call
unfoldable pub seen_in : Outcome → List ℕ → Seen
seen_in o buffer = record { answer = o.answer; first = o.first; second = o.second; buffer = buffer }
