-- The numbers that a turn answers, of any player and whatever is lent. The proofs are in proofs/Answers.antt.
use Rattle.std.specs.Prelude.{ℕ, ◌≤◌, ◌≡◌, Bool, true, false, List, [], ◌∷◌, length}
use Rattle.neighbour.specs.Record.{with_quiet}
use Rattle.gateway_state.specs.Formed.{state_formed}
use Rattle.gateway_slots.specs.Calls.{fresh_of}
use Rattle.std.specs.Prelude.{Option, Some, None}
use Rattle.recording_lines.specs.Lines.{Event, bad, add, remove, start, stop, tick, rx, event_of, net_of, quiet_of}
use Rattle.recording_gather.specs.Gathering.{gathered}
use Rattle.model.specs.Model as M
use Rattle.model.specs.Theorem.{outcome_of}
use Rattle.recording_call.specs.Told.{on}
use Rattle.recording_player.specs.declared.Player.{Player}
use Rattle.recording_player.specs.Player.{with_net, is_setting, line_fits, ended_line, turn_step}
use Rattle.recording_theorem.specs.Output.{calls_of}

-- the piece ends a line, and no tick is due
pub record TakesLine (p : Player) (line input : List ℕ) : Type 0 where
  pub playing : p.broken ≡ false
  pub idle : p.ticks ≡ 0
  pub fits : line_fits line ≡ true
  pub ended : (gathered 0 p.held input).ended ≡ true

-- the calls that check 3
unfoldable pub checks_room : Event → Bool
checks_room bad = false
checks_room (add a asn) = false
checks_room (remove a) = false
checks_room (start a) = true
checks_room (stop a) = true
checks_room (tick a count) = false
checks_room (rx a octets) = true

pub record Answers (p : Player) (line table input : List ℕ) : Type 0 where
  -- 02: "19, bad line, before all others": with room or without, whatever the state and the table
  pub bad_line_lem : (room : Bool) → is_setting p.lines (ended_line p line input) ≡ false → event_of (ended_line p line input) ≡ bad → (turn_step room p line table input).answer ≡ 19
  -- 01: 3 "buffer too short", where 1 and 2 pass
  pub short :
      (e : Event) → 4 ≤ p.lines → event_of (ended_line p line input) ≡ e → checks_room e ≡ true
      → state_formed p.state ≡ true → length table ≡ 3072 → (turn_step false p line table input).answer ≡ 3
  -- fresh's own number, with room or without
  pub fresh :
      (room : Bool) (net : ℕ) → p.lines ≡ 3 → net_of (ended_line p line input) ≡ Some net
      → (turn_step room p line table input).answer ≡ (fresh_of (with_net p.settings net)).answer
  -- and again with `quiet`
  pub fresh_quiet :
      (room : Bool) (quiet : ℕ) → p.lines ≡ 4 → quiet_of (ended_line p line input) ≡ Some quiet
      → (turn_step room p line table input).answer ≡ (fresh_of (with_quiet p.settings quiet)).answer
  -- a call's own number, once all is lent
  pub own :
      (e : Event) (call : M.Call) → 4 ≤ p.lines → event_of (ended_line p line input) ≡ e → checks_room e ≡ true → calls_of e ≡ call ∷ []
      → state_formed p.state ≡ true → length table ≡ 3072
      → (turn_step true p line table input).answer ≡ (outcome_of call (on p.state table)).answer

abbrev pub EveryAnswer : Type 0
EveryAnswer = (p : Player) (line table input : List ℕ) → TakesLine p line input → Answers p line table input
