-- The player: it is handed a recording in pieces, and each turn makes at most one call. 02: "Playing a recording must
-- equal making the calls of its good lines one by one"; that it does is stated in the crate `recording_theorem`.
use Rattle.std.specs.Prelude.{ℕ, ◌-◌, Bool, true, false, cond, not, ◌&&◌, ◌||◌, List, [], leb, ltb, eqb, length, take, Option}
use Rattle.checks.specs.Checks.{check, if_ok}
use Rattle.neighbour.specs.declared.Settings.{Settings}
use Rattle.neighbour.specs.Record.{with_quiet}
use Rattle.gateway_state.specs.declared.State.{State}
use Rattle.gateway_state.specs.Formed.{state_formed}
use Rattle.gateway_slots.specs.Calls.{fresh_of, no_settings, zero_state}
use Rattle.gateway_rules.specs.Calls.{lent_checks}
use Rattle.text_values.specs.Numbers.{when_number}
use Rattle.recording_lines.specs.Lines.{Event, bad, add, remove, start, stop, tick, rx, event_of, own_as_of, own_of, capability_of, net_of, quiet_of}
use Rattle.recording_gather.specs.Gathering.{gathered, line_after, line_held}
use Rattle.recording_bad_line.specs.BadLine.{bad_text, one_more}
use Rattle.model.specs.Model as M
use Rattle.model.specs.Theorem.{Gateway, outcome_of, table_left, seen_of}
use Rattle.recording_trace.specs.declared.Telling.{Telling}
use Rattle.recording_call.specs.Told.{lent, passed_after, happened_by, call_text, on}
use Rattle.recording_player.specs.declared.Player.{Player}
use Rattle.recording_player.specs.declared.Told.{Told}

-- ---- the player's record

-- before the first line; calls are told of by a trace, or not
unfoldable pub beginning : Bool → Player
beginning traced =
    record {
      lines = 0;
      held = 0;
      broken = false;
      address = 0;
      ticks = 0;
      settings = no_settings;
      state = zero_state;
      traced = traced;
      passed = 0;
    }

-- one line more was taken, and none of the next is held
unfoldable pub next_line : Player → Player
next_line p =
    record {
      lines = one_more p.lines;
      held = 0;
      broken = p.broken;
      address = p.address;
      ticks = p.ticks;
      settings = p.settings;
      state = p.state;
      traced = p.traced;
      passed = p.passed;
    }

-- so many octets of a line are held
unfoldable pub holding : Player → ℕ → Player
holding p held =
    record {
      lines = p.lines;
      held = held;
      broken = p.broken;
      address = p.address;
      ticks = p.ticks;
      settings = p.settings;
      state = p.state;
      traced = p.traced;
      passed = p.passed;
    }

-- nothing more is played or listed
unfoldable pub breaking : Player → Player
breaking p =
    record {
      lines = p.lines;
      held = p.held;
      broken = true;
      address = p.address;
      ticks = p.ticks;
      settings = p.settings;
      state = p.state;
      traced = p.traced;
      passed = p.passed;
    }

-- so many ticks are due for the neighbour at this address, and none was passed over
unfoldable pub due : Player → ℕ → ℕ → Player
due p a count =
    record {
      lines = p.lines;
      held = p.held;
      broken = p.broken;
      address = a;
      ticks = count;
      settings = p.settings;
      state = p.state;
      traced = p.traced;
      passed = 0;
    }

unfoldable pub settled : Player → Settings → Player
settled p g =
    record {
      lines = p.lines;
      held = p.held;
      broken = p.broken;
      address = p.address;
      ticks = p.ticks;
      settings = g;
      state = p.state;
      traced = p.traced;
      passed = p.passed;
    }

unfoldable pub having : Player → State → Player
having p st =
    record {
      lines = p.lines;
      held = p.held;
      broken = p.broken;
      address = p.address;
      ticks = p.ticks;
      settings = p.settings;
      state = st;
      traced = p.traced;
      passed = p.passed;
    }

-- so many ticks were passed over since the last that was told of
unfoldable pub passing : Player → ℕ → Player
passing p passed =
    record {
      lines = p.lines;
      held = p.held;
      broken = p.broken;
      address = p.address;
      ticks = p.ticks;
      settings = p.settings;
      state = p.state;
      traced = p.traced;
      passed = passed;
    }

-- how a call of the line just taken is told of
unfoldable pub telling_of : Player → ℕ → Bool → Telling
telling_of p passed last = record { traced = p.traced; line = p.lines; passed = passed; last = last }

-- ---- what one turn leaves

-- the player, the lent table, the number that it answers, how many octets of the piece it used, and those that it
-- writes
pub record Step : Type 0 where
  pub player : Player
  pub table : List ℕ
  pub answer : ℕ
  pub used : ℕ
  pub text : List ℕ

-- nothing is used or written
unfoldable pub silent_step : Player → List ℕ → ℕ → Step
silent_step p table answer = record { player = p; table = table; answer = answer; used = 0; text = [] }

-- the same step, with so many octets used
unfoldable pub with_used : ℕ → Step → Step
with_used used s = record { player = s.player; table = s.table; answer = s.answer; used = used; text = s.text }

-- what the host is told of a step
unfoldable pub told_of : Step → Told
told_of s = record { player = s.player; answer = s.answer; used = s.used; written = length s.text }

-- ---- what the host must lend

-- 01: "listing buffer at least 65,536"; less is too little for any output
unfoldable pub roomy : List ℕ → Bool
roomy out = leb 65536 (length out)

-- the longest good line and one octet
unfoldable pub line_fits : List ℕ → Bool
line_fits line = leb 4118 (length line)

-- 01: 1 "state not well formed", 2 "table not 3,072 numbers", 3 "buffer too short", in this order: what a call with
-- replies asks for
abbrev pub call_checks : Bool → State → ℕ → ℕ
call_checks room st numbers = lent_checks st (eqb numbers 3072) room 0

-- 01: "fresh, add and remove take no table or buffer"; where a line of the trace tells of them it needs room
unfoldable pub formed_check : Bool → Bool → State → ℕ
formed_check traced room st = check (state_formed st) 1 (check (not traced || room) 3 0)

-- a line's report needs room; without, its number is still the answer: 02: "19, bad line, before all others"
unfoldable pub report_check : Bool → ℕ → ℕ
report_check room answer = check room answer 0

-- A step is said below as if all were lent that it needs. Where something is not, it is refused with that number and
-- everything is as given. 01: "Every refusal returns the state as given, keeps the table". Nothing of the recording is
-- used, so the host can come back, and the turn is made then.
unfoldable pub given : Player → List ℕ → ℕ → Step → Step
given p table refusal s = if_ok refusal s (silent_step p table refusal)

-- a step whose report needs room, with so many octets used
unfoldable pub reported : Bool → Player → List ℕ → ℕ → Step → Step
reported room p table used s = given p table (report_check room s.answer) (with_used used s)

-- ---- bad lines

-- it is "reported in its place as `bad=` and its line number, from 1, and skipped whole"
unfoldable pub bad_step : Player → List ℕ → Step
bad_step p table = record { player = next_line p; table = table; answer = 19; used = 0; text = bad_text (next_line p).lines }

-- "If one of the first four lines is bad or missing, or fresh refuses them, the first such line .. alone is so
-- reported"
unfoldable pub broken_step : Player → List ℕ → ℕ → Step
broken_step p table answer =
    record { player = breaking (next_line p); table = table; answer = answer; used = 0; text = bad_text (next_line p).lines }

-- ---- the first four lines, and the fifth if it is a setting

unfoldable pub with_as : Settings → ℕ → Settings
with_as g asn = record { asn = asn; own = g.own; capability = g.capability; net = g.net; quiet = g.quiet }

unfoldable pub with_own : Settings → ℕ → Settings
with_own g own = record { asn = g.asn; own = own; capability = g.capability; net = g.net; quiet = g.quiet }

unfoldable pub with_capability : Settings → ℕ → Settings
with_capability g capability = record { asn = g.asn; own = g.own; capability = capability; net = g.net; quiet = g.quiet }

-- 02, L6: stray messages are answered, "the new default", unless the next line says otherwise
unfoldable pub with_net : Settings → ℕ → Settings
with_net g net = record { asn = g.asn; own = g.own; capability = g.capability; net = net; quiet = 0 }

-- one of the first three: a setting, or the end
unfoldable pub setting_step : Player → List ℕ → Option ℕ → (Settings → ℕ → Settings) → Step
setting_step p table value set =
    when_number value (broken_step p table 19) (λ n. silent_step (settled (next_line p) (set p.settings n)) table 0)

-- fresh, once all four are read, and once more with `quiet`; its refusal is reported as the line just read, and answered
-- with its own number. Settings that it took at the fourth line it takes with `quiet` too.
unfoldable pub fresh_step : Player → List ℕ → Settings → Step
fresh_step p table g =
    cond (eqb (fresh_of g).answer 0)
    (silent_step (having (settled (next_line p) g) (fresh_of g).state) table 0)
    (broken_step p table (fresh_of g).answer)

-- the fourth
unfoldable pub net_step : Player → List ℕ → Option ℕ → Step
net_step p table value = when_number value (broken_step p table 19) (λ n. fresh_step p table (with_net p.settings n))

-- the fifth
unfoldable pub quiet_line_step : Player → List ℕ → Option ℕ → Step
quiet_line_step p table value = when_number value (broken_step p table 19) (λ n. fresh_step p table (with_quiet p.settings n))

-- which of them it is, the number of lines before it tells
unfoldable pub head_step : Player → List ℕ → List ℕ → Step
head_step p table line =
    cond (eqb p.lines 0) (setting_step p table (own_as_of line) with_as)
    (cond (eqb p.lines 1) (setting_step p table (own_of line) with_own)
    (cond (eqb p.lines 2) (setting_step p table (capability_of line) with_capability)
    (cond (eqb p.lines 3) (net_step p table (net_of line))
    (quiet_line_step p table (quiet_of line)))))

-- whether it is one: the first four are, and a good `quiet` line "right after `net`"; "any other `quiet` line is a bad
-- event line"
unfoldable pub is_setting : ℕ → List ℕ → Bool
is_setting lines line = ltb lines 4 || (eqb lines 4 && when_number (quiet_of line) false (λ _. true))

-- ---- the events

-- one call, so told of: the state that it leaves is this player's from then on
unfoldable pub call_step : Player → List ℕ → Telling → M.Call → Step
call_step p table t call =
    record {
      player = passing (having p (outcome_of call (on p.state table)).state) (passed_after t (happened_by call (on p.state table)));
      table = table_left call (on p.state table);
      answer = (outcome_of call (on p.state table)).answer;
      used = 0;
      text = call_text t call (on p.state table);
    }

-- the only call of the line just taken
unfoldable pub only_step : Player → List ℕ → M.Call → Step
only_step p table call = call_step p table (telling_of p 0 true) call

-- an event; ticks are made one a turn, from the next on
unfoldable pub event_step : Player → List ℕ → Event → Step
event_step p table bad = bad_step p table
event_step p table (add a asn) = only_step (next_line p) table (M.add a asn)
event_step p table (remove a) = only_step (next_line p) table (M.remove a)
event_step p table (start a) = only_step (next_line p) table (M.start a lent)
event_step p table (stop a) = only_step (next_line p) table (M.stop a lent)
event_step p table (tick a count) = silent_step (due (next_line p) a count) table 0
event_step p table (rx a octets) = only_step (next_line p) table (M.receive a octets [] lent)

-- what it asks for: a report or a call with replies needs room, add and remove only for a trace, and a tick line writes
-- nothing itself
unfoldable pub event_checked : Bool → Bool → State → ℕ → Event → ℕ
event_checked traced room st numbers bad = report_check room 19
event_checked traced room st numbers (add a asn) = formed_check traced room st
event_checked traced room st numbers (remove a) = formed_check traced room st
event_checked traced room st numbers (start a) = call_checks room st numbers
event_checked traced room st numbers (stop a) = call_checks room st numbers
event_checked traced room st numbers (tick a count) = 0
event_checked traced room st numbers (rx a octets) = call_checks room st numbers

-- an ended line
unfoldable pub line_step : Player → List ℕ → List ℕ → Step
line_step p table line = cond (is_setting p.lines line) (head_step p table line) (event_step p table (event_of line))

unfoldable pub line_checked : Bool → Player → List ℕ → List ℕ → ℕ
line_checked room p table line =
    cond (is_setting p.lines line) (report_check room (head_step p table line).answer)
    (event_checked p.traced room p.state (length table) (event_of line))

-- one of the ticks that are due
unfoldable pub tick_step : Player → List ℕ → Step
tick_step p table =
    call_step (due p p.address (p.ticks - 1)) table (telling_of p p.passed (eqb p.ticks 1)) (M.tick p.address lent)

-- ---- the turn: a tick that is due, or a line if the piece ends one

-- the line that a piece ends: what was held of it, and what the piece has. It is put together outside the lent buffer.
unfoldable pub ended_line : Player → List ℕ → List ℕ → List ℕ
ended_line p line input = line_held (gathered 0 p.held input).held (line_after p.held (take 4118 line) input)

-- a broken player uses the piece and does nothing
unfoldable pub free_step : Player → List ℕ → List ℕ → List ℕ → Step
free_step p line table input =
    cond p.broken (with_used (length input) (silent_step p table 0))
    (cond (ltb 0 p.ticks) (tick_step p table)
    (with_used (gathered 0 p.held input).used
    (cond (gathered 0 p.held input).ended (line_step p table (ended_line p line input))
    (silent_step (holding p (gathered 0 p.held input).held) table 0))))

-- what a turn asks for: a tick all that a call does, else the line buffer, and what the line asks for if one ends
unfoldable pub turn_checked : Bool → Player → List ℕ → List ℕ → List ℕ → ℕ
turn_checked room p line table input =
    cond p.broken 0
    (cond (ltb 0 p.ticks) (call_checks room p.state (length table))
    (check (line_fits line) 3
    (cond (gathered 0 p.held input).ended (line_checked room p table (ended_line p line input)) 0)))

unfoldable pub turn_step : Bool → Player → List ℕ → List ℕ → List ℕ → Step
turn_step room p line table input = given p table (turn_checked room p line table input) (free_step p line table input)

-- whether it only holds the octets of the piece
unfoldable pub only_holds : Player → List ℕ → List ℕ → Bool
only_holds p line input = not p.broken && not (ltb 0 p.ticks) && line_fits line && not (gathered 0 p.held input).ended

-- the line buffer after a turn: one that does anything else has not touched it
unfoldable pub held_of : Player → List ℕ → List ℕ → List ℕ
held_of p line input = cond (only_holds p line input) (line_after p.held line input) line

-- ---- the end of the recording

-- "an unended last line is bad", and so is a missing one of the first four
unfoldable pub close_step : Bool → Player → List ℕ → Step
close_step room p table =
    cond p.broken (silent_step p table 0)
    (cond (ltb p.lines 4) (reported room p table 0 (broken_step p table 19))
    (cond (ltb 0 p.held) (reported room p table 0 (bad_step p table))
    (silent_step p table 0)))

-- the text of a listing in this buffer; none where it is refused
unfoldable pub listed_in : List ℕ → Gateway → List ℕ
listed_in out b = take (seen_of (M.listing out) b).first (seen_of (M.listing out) b).buffer

-- "the listing at the end", its answer the listing's own; "nothing is .. listed" where the first four lines are not
-- good
unfoldable pub finish_step : List ℕ → Player → List ℕ → Step
finish_step out p table =
    cond p.broken (silent_step p table 0)
    (cond (ltb p.lines 4) (silent_step p table 0)
    (record {
      player = p;
      table = table;
      answer = (outcome_of (M.listing out) (on p.state table)).answer;
      used = 0;
      text = listed_in out (on p.state table);
    }))
