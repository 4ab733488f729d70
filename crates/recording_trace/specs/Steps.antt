-- What the writer of a line is handed.
use Rattle.std.specs.Prelude.{ℕ, List, take, drop}
use Rattle.gateway_state.specs.declared.State.{State}
use Rattle.gateway_state.specs.declared.Outcome.{Outcome}
use Rattle.recording_trace.specs.declared.Deed.{Deed}
use Rattle.recording_trace.specs.Trace.{Happened}

-- what happened, by the state before a call, its outcome and the reply buffer after it
unfoldable pub happened_in : Deed → ℕ → List ℕ → State → Outcome → List ℕ → Happened
happened_in deed a received st o reply =
    record {
      deed = deed;
      address = a;
      received = received;
      before = st;
      after = o.state;
      answer = o.answer;
      first = take o.first reply;
      second = take o.second (drop o.first reply);
    }
