-- What the inner functions of the player promise of a turn.
use Rattle.std.specs.Prelude.{ℕ, cond, List, eqb, Option, Some, None}
use Rattle.neighbour.specs.declared.Settings.{Settings}
use Rattle.neighbour.specs.Record.{with_quiet}
use Rattle.text_values.specs.Numbers.{when_number}
use Rattle.recording_lines.specs.Lines.{own_as_of, own_of, capability_of, net_of, quiet_of}
use Rattle.recording_call.specs.declared.Called.{Called}
use Rattle.recording_player.specs.declared.Player.{Player}
use Rattle.recording_player.specs.declared.Told.{Told}
use Rattle.recording_player.specs.Player.{having, passing, with_as, with_own, with_capability, with_net}

-- the settings with a value, if there is one
unfoldable pub put_in : Option ℕ → (ℕ → Settings) → Option Settings
put_in value set = when_number value None (λ n. Some (set n))

-- the settings with that of the line behind so many
unfoldable pub settings_of : Settings → ℕ → List ℕ → Option Settings
settings_of g lines line =
    cond (eqb lines 0) (put_in (own_as_of line) (with_as g))
    (cond (eqb lines 1) (put_in (own_of line) (with_own g))
    (cond (eqb lines 2) (put_in (capability_of line) (with_capability g))
    (cond (eqb lines 3) (put_in (net_of line) (with_net g))
    (put_in (quiet_of line) (with_quiet g)))))

-- after a call
unfoldable pub carried_turn : Player → Called → Told
carried_turn p c = record { player = passing (having p c.state) c.passed; answer = c.answer; used = 0; written = c.written }
