-- `recording_player::begin` meets its contract. Assumes nothing.
use mathlib.Core.Path.{ap}
use mathlib.Core.Bool.{false}
use Rattle.checks.specs.Checks.{check, if_ok}
use Rattle.gateway_state.specs.declared.Outcome.{Outcome}
use Rattle.gateway_state.specs.Outcomes.{silent_of}
use Rattle.gateway_state.specs.Formed.{good_settings}
use Rattle.gateway_slots.specs.Calls.{fresh_of, fresh_answer, no_settings, zero_state}
use Rattle.recording_player.specs.Player.{beginning}
use Rattle.recording_player.proofs.begin.Goals as goal

pub returns : goal.returns
unfolding beginning zero_state fresh_of silent_of fresh_answer check if_ok good_settings
returns c =
    let traced = c.args.traced in
    ap (λ (o : Outcome). record { lines = 0; held = 0; broken = false; address = 0; ticks = 0; settings = no_settings; state = o.state; traced = traced; passed = 0 }) c.fresh.ensures
