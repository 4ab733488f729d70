-- Turns with their answers written out: what is refused, with which number, and what is left then. The proof is in
-- proofs/Sheet.antt.
use Rattle.std.specs.Prelude.{ℕ, zero, suc, ◌≡◌, Bool, true, false, List, [], ◌∷◌, length}
use Rattle.update_rows.specs.Storing.{zeros}
use Rattle.neighbour.specs.declared.Settings.{Settings}
use Rattle.neighbour.specs.Record.{idle}
use Rattle.gateway_state.specs.declared.State.{State}
use Rattle.gateway_state.specs.Slots.{slot_at, with_slot}
use Rattle.gateway_slots.specs.Calls.{fresh_of, zero_state}
use Rattle.text.specs.Text.{text}
use Rattle.recording_player.specs.declared.Player.{Player}
use Rattle.recording_player.specs.Player.{Step, turn_step, close_step, finish_step}

-- the number, the octets used and written, the lines taken, the octets held and the ticks due
unfoldable pub summary : Step → List ℕ
summary s = s.answer ∷ s.used ∷ length s.text ∷ s.player.lines ∷ s.player.held ∷ s.player.ticks ∷ []

unfoldable pub start_state : State
start_state = (fresh_of (record { asn = 9; own = 2148073473; capability = 1; net = 2148073472; quiet = 0 })).state

-- ownas=9, own=128.9.0.1, and this capability
unfoldable pub settings_with : ℕ → Settings
settings_with capability = record { asn = 9; own = 2148073473; capability = capability; net = 0; quiet = 0 }

-- a player that plays, as far as it is said: behind so many lines, with so many octets held and ticks due for 128.9.0.5
unfoldable pub playing : ℕ → ℕ → ℕ → Settings → State → Player
playing lines held ticks g st =
    record { lines = lines; held = held; broken = false; address = 2148073477; ticks = ticks; settings = g; state = st; traced = false; passed = 0 }

unfoldable pub player_at : ℕ → ℕ → ℕ → Player
player_at lines held ticks = playing lines held ticks (settings_with 3) start_state

-- the same, with a trace, and so many ticks passed over
unfoldable pub tracing : ℕ → Player → Player
tracing passed p =
    record {
      lines = p.lines;
      held = p.held;
      broken = p.broken;
      address = p.address;
      ticks = p.ticks;
      settings = p.settings;
      state = p.state;
      traced = true;
      passed = passed;
    }

-- behind so many lines, with settings that fresh took
unfoldable pub player_set : ℕ → Player
player_set lines = playing lines 0 0 start_state.settings start_state

-- what is left of `quiet` in the player's settings and in its state
unfoldable pub quiet_after : Player → List ℕ → List ℕ
quiet_after p input =
    (turn_step true p (zeros 4118) (zeros 3072) input).player.settings.quiet
    ∷ (turn_step true p (zeros 4118) (zeros 3072) input).player.state.settings.quiet ∷ []

-- the same, its state not well formed
unfoldable pub player_unformed : Player
player_unformed = playing 4 0 0 (settings_with 3) zero_state

-- behind five lines, 128.9.0.5 Idle in slot 0 for so many seconds, with so many ticks due
unfoldable pub player_late : ℕ → ℕ → Player
player_late seconds ticks =
    playing 5 0 ticks start_state.settings
    (with_slot start_state 0
    (record {
      address = 2148073477;
      asn = 7;
      neighbour = idle;
      rows = 0;
      seconds = record { idle = seconds; acquisition = 0; down = 0; up = 0; cease = 0 };
    }))

-- the seconds in Idle and the ticks still due after so many turns
unfoldable pub through_turns : ℕ → Player → List ℕ
through_turns zero p = (slot_at p.state 0).seconds.idle ∷ p.ticks ∷ []
through_turns (suc n) p = through_turns n (turn_step true p (zeros 4118) (zeros 3072) (text "stop")).player

-- a turn on a line buffer of so many octets and a table of so many numbers
unfoldable pub on_turn : Bool → Player → ℕ → ℕ → List ℕ → List ℕ
on_turn room p octets numbers input = summary (turn_step room p (zeros octets) (zeros numbers) input)

-- without room nothing is done but what needs none, and the number is 19 first, then 1, 2, 3
pub record Sheet : Type 0 where
  -- a call: nobody has this address
  pub start : on_turn true (player_at 4 0 0) 4118 3072 (text "start=128.9.0.5\nstop") ≡ 5 ∷ 16 ∷ 0 ∷ 5 ∷ 0 ∷ 0 ∷ []
  pub start_short : on_turn false (player_at 4 0 0) 4118 3072 (text "start=128.9.0.5\nstop") ≡ 3 ∷ 0 ∷ 0 ∷ 4 ∷ 0 ∷ 0 ∷ []
  pub stop_short : on_turn false (player_at 4 0 0) 4118 3072 (text "stop=128.9.0.5\n") ≡ 3 ∷ 0 ∷ 0 ∷ 4 ∷ 0 ∷ 0 ∷ []
  pub rx_short : on_turn false (player_at 4 0 0) 4118 3072 (text "rx=128.9.0.5/02\n") ≡ 3 ∷ 0 ∷ 0 ∷ 4 ∷ 0 ∷ 0 ∷ []
  -- 2 before 3, 1 before 2
  pub table_short : on_turn false (player_at 4 0 0) 4118 3071 (text "start=128.9.0.5\n") ≡ 2 ∷ 0 ∷ 0 ∷ 4 ∷ 0 ∷ 0 ∷ []
  pub table_wrong : on_turn true (player_at 4 0 0) 4118 3073 (text "start=128.9.0.5\n") ≡ 2 ∷ 0 ∷ 0 ∷ 4 ∷ 0 ∷ 0 ∷ []
  pub not_formed : on_turn false player_unformed 4118 3071 (text "start=128.9.0.5\n") ≡ 1 ∷ 0 ∷ 0 ∷ 4 ∷ 0 ∷ 0 ∷ []
  -- add and remove need neither room nor table
  pub add : on_turn false (player_at 4 0 0) 4118 0 (text "add=128.9.0.5/7\n") ≡ 0 ∷ 16 ∷ 0 ∷ 5 ∷ 0 ∷ 0 ∷ []
  pub remove : on_turn false (player_at 4 0 0) 4118 0 (text "remove=128.9.0.5\n") ≡ 5 ∷ 17 ∷ 0 ∷ 5 ∷ 0 ∷ 0 ∷ []
  pub add_not_formed : on_turn true player_unformed 4118 3072 (text "add=128.9.0.5/7\n") ≡ 1 ∷ 0 ∷ 0 ∷ 4 ∷ 0 ∷ 0 ∷ []
  -- 19 before all others; the report, `bad=5`, is owed until there is room
  pub bad : on_turn true player_unformed 4118 3071 (text "add=128.9.0.5\n") ≡ 19 ∷ 14 ∷ 6 ∷ 5 ∷ 0 ∷ 0 ∷ []
  pub bad_short : on_turn false player_unformed 4118 3071 (text "add=128.9.0.5\n") ≡ 19 ∷ 0 ∷ 0 ∷ 4 ∷ 0 ∷ 0 ∷ []
  -- a tick line asks for nothing, each of its ticks for room
  pub tick_line : on_turn false (player_at 4 0 0) 4118 0 (text "tick=128.9.0.5/3\n") ≡ 0 ∷ 17 ∷ 0 ∷ 5 ∷ 0 ∷ 3 ∷ []
  pub tick : on_turn true (player_at 5 0 3) 0 3072 (text "stop") ≡ 5 ∷ 0 ∷ 0 ∷ 5 ∷ 0 ∷ 2 ∷ []
  -- 02, L7: 22, and each of the rest is made by its own rule
  pub tick_late : on_turn true (player_late 4294967295 2) 0 3072 (text "stop") ≡ 22 ∷ 0 ∷ 0 ∷ 5 ∷ 0 ∷ 1 ∷ []
  pub ticks_late : through_turns 3 (player_late 4294967295 4) ≡ 4294967295 ∷ 1 ∷ []
  pub tick_short : on_turn false (player_at 5 0 3) 0 3072 (text "stop") ≡ 3 ∷ 0 ∷ 0 ∷ 5 ∷ 0 ∷ 3 ∷ []
  -- the line buffer
  pub held : on_turn false (player_at 4 0 0) 4118 0 (text "start") ≡ 0 ∷ 5 ∷ 0 ∷ 4 ∷ 5 ∷ 0 ∷ []
  pub line_short : on_turn true (player_at 4 0 0) 4117 3072 (text "start") ≡ 3 ∷ 0 ∷ 0 ∷ 4 ∷ 0 ∷ 0 ∷ []
  -- one of the first four lines, and fresh, which refuses capability 3 with 16
  pub setting : on_turn true (player_at 0 0 0) 4118 3072 (text "own=128.9.0.1\n") ≡ 19 ∷ 14 ∷ 6 ∷ 1 ∷ 0 ∷ 0 ∷ []
  pub setting_short : on_turn false (player_at 0 0 0) 4118 3072 (text "own=128.9.0.1\n") ≡ 19 ∷ 0 ∷ 0 ∷ 0 ∷ 0 ∷ 0 ∷ []
  pub good_setting : on_turn false (player_at 0 0 0) 4118 0 (text "ownas=9\n") ≡ 0 ∷ 8 ∷ 0 ∷ 1 ∷ 0 ∷ 0 ∷ []
  pub fresh : on_turn true (player_at 3 0 0) 4118 3072 (text "net=128.9.0.0\n") ≡ 16 ∷ 14 ∷ 6 ∷ 4 ∷ 0 ∷ 0 ∷ []
  pub fresh_short : on_turn false (player_at 3 0 0) 4118 3072 (text "net=128.9.0.0\n") ≡ 16 ∷ 0 ∷ 0 ∷ 3 ∷ 0 ∷ 0 ∷ []
  -- right after `net` a good `quiet` line is a setting; there and anywhere else any other is a bad event line
  pub quiet : on_turn false (player_set 4) 4118 0 (text "quiet=1\n") ≡ 0 ∷ 8 ∷ 0 ∷ 5 ∷ 0 ∷ 0 ∷ []
  pub quiet_zero : on_turn false (player_set 4) 4118 0 (text "quiet=0\n") ≡ 0 ∷ 8 ∷ 0 ∷ 5 ∷ 0 ∷ 0 ∷ []
  pub quiet_state : quiet_after (player_set 4) (text "quiet=1\n") ≡ 1 ∷ 1 ∷ []
  pub quiet_zero_state : quiet_after (player_set 4) (text "quiet=0\n") ≡ 0 ∷ 0 ∷ []
  pub quiet_two : on_turn true (player_set 4) 4118 3072 (text "quiet=2\n") ≡ 19 ∷ 8 ∷ 6 ∷ 5 ∷ 0 ∷ 0 ∷ []
  pub quiet_two_state : quiet_after (player_set 4) (text "quiet=2\n") ≡ 0 ∷ 0 ∷ []
  pub quiet_zeros : on_turn true (player_set 4) 4118 3072 (text "quiet=01\n") ≡ 19 ∷ 9 ∷ 6 ∷ 5 ∷ 0 ∷ 0 ∷ []
  pub quiet_short : on_turn false (player_set 4) 4118 3072 (text "quiet=2\n") ≡ 19 ∷ 0 ∷ 0 ∷ 4 ∷ 0 ∷ 0 ∷ []
  pub quiet_sixth : on_turn true (player_set 5) 4118 3072 (text "quiet=1\n") ≡ 19 ∷ 8 ∷ 6 ∷ 6 ∷ 0 ∷ 0 ∷ []
  pub quiet_sixth_state : quiet_after (player_set 5) (text "quiet=1\n") ≡ 0 ∷ 0 ∷ []
  pub quiet_fourth : on_turn true (player_set 3) 4118 3072 (text "quiet=1\n") ≡ 19 ∷ 8 ∷ 6 ∷ 4 ∷ 0 ∷ 0 ∷ []
  -- with a trace: add and remove need room too, after 1; a call has its line, of 235 octets here
  pub traced_add : on_turn true (tracing 0 (player_at 4 0 0)) 4118 0 (text "add=128.9.0.5/7\n") ≡ 0 ∷ 16 ∷ 235 ∷ 5 ∷ 0 ∷ 0 ∷ []
  pub traced_add_short : on_turn false (tracing 0 (player_at 4 0 0)) 4118 0 (text "add=128.9.0.5/7\n") ≡ 3 ∷ 0 ∷ 0 ∷ 4 ∷ 0 ∷ 0 ∷ []
  pub traced_remove_short : on_turn false (tracing 0 (player_at 4 0 0)) 4118 0 (text "remove=128.9.0.5\n") ≡ 3 ∷ 0 ∷ 0 ∷ 4 ∷ 0 ∷ 0 ∷ []
  pub traced_add_not_formed : on_turn false (tracing 0 player_unformed) 4118 0 (text "add=128.9.0.5/7\n") ≡ 1 ∷ 0 ∷ 0 ∷ 4 ∷ 0 ∷ 0 ∷ []
  -- a quiet tick is passed over and counted; the line's last has its line, and the count begins again
  pub traced_tick : on_turn true (tracing 4 (player_at 5 0 3)) 0 3072 (text "stop") ≡ 5 ∷ 0 ∷ 0 ∷ 5 ∷ 0 ∷ 2 ∷ []
  pub traced_tick_passed : (turn_step true (tracing 4 (player_at 5 0 3)) [] (zeros 3072) []).player.passed ≡ 5
  pub traced_last : on_turn true (tracing 4 (player_at 5 0 1)) 0 3072 (text "stop") ≡ 5 ∷ 0 ∷ 236 ∷ 5 ∷ 0 ∷ 0 ∷ []
  pub traced_last_passed : (turn_step true (tracing 4 (player_at 5 0 1)) [] (zeros 3072) []).player.passed ≡ 0
  pub plain_passed : (turn_step true (player_at 5 0 3) [] (zeros 3072) []).player.passed ≡ 0
  -- the end: a missing line, an unended one
  pub missing : summary (close_step true (player_at 2 0 0) []) ≡ 19 ∷ 0 ∷ 6 ∷ 3 ∷ 0 ∷ 0 ∷ []
  pub missing_short : summary (close_step false (player_at 2 0 0) []) ≡ 19 ∷ 0 ∷ 0 ∷ 2 ∷ 0 ∷ 0 ∷ []
  pub unended : summary (close_step true (player_at 7 3 0) []) ≡ 19 ∷ 0 ∷ 6 ∷ 8 ∷ 0 ∷ 0 ∷ []
  pub unended_short : summary (close_step false (player_at 7 3 0) []) ≡ 19 ∷ 0 ∷ 0 ∷ 7 ∷ 3 ∷ 0 ∷ []
  -- the listing's own answer
  pub listed : summary (finish_step (zeros 65536) (player_at 7 0 0) (zeros 3072)) ≡ 0 ∷ 0 ∷ 13 ∷ 7 ∷ 0 ∷ 0 ∷ []
  pub listed_short : summary (finish_step (zeros 65535) (player_at 7 0 0) (zeros 3072)) ≡ 3 ∷ 0 ∷ 0 ∷ 7 ∷ 0 ∷ 0 ∷ []
  pub listed_table : summary (finish_step [] (player_at 7 0 0) (zeros 3071)) ≡ 2 ∷ 0 ∷ 0 ∷ 7 ∷ 0 ∷ 0 ∷ []
  pub listed_not_formed : summary (finish_step [] player_unformed (zeros 3071)) ≡ 1 ∷ 0 ∷ 0 ∷ 4 ∷ 0 ∷ 0 ∷ []
