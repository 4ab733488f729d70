-- One neighbour's record, and the few ways in which a new one is made of an old one.
use Rattle.std.specs.Prelude.{ℕ, ◌+◌, ◌*◌, ◌%◌, Bool, true, false, cond, ltb}
use Rattle.neighbour.specs.declared.Phase.{Phase}
use Rattle.neighbour.specs.declared.Phase.TheVariants.{Idle, Acquisition, Down, Up, Cease}
use Rattle.neighbour.specs.declared.Mode.{Mode}
use Rattle.neighbour.specs.declared.Mode.TheVariants.{Unset, Active, Passive}
use Rattle.neighbour.specs.declared.Settings.{Settings}
use Rattle.neighbour.specs.declared.Neighbour.{Neighbour}

-- 01: "P1 30, P2 120, P3 30, P4 3,600, P5 120, all seconds."
abbrev pub P1 : ℕ
P1 = 30

abbrev pub P2 : ℕ
P2 = 120

abbrev pub P3 : ℕ
P3 = 30

abbrev pub P4 : ℕ
P4 = 3600

abbrev pub P5 : ℕ
P5 = 120

-- 02, L5: "two counts of ticks since each, holding at 120"
abbrev pub holds_at : ℕ
holds_at = 120

-- of five cells, the one that stands under a phase: 01's columns Idle, Acquisition, Down, Up, Cease
unfoldable pub under : {A : Type 0} → Phase → A → A → A → A → A → A
under Idle a b c d e = a
under Acquisition a b c d e = b
under Down a b c d e = c
under Up a b c d e = d
under Cease a b c d e = e

abbrev pub is_idle : Phase → Bool
is_idle Idle = true
is_idle Acquisition = false
is_idle Down = false
is_idle Up = false
is_idle Cease = false

abbrev pub is_up : Phase → Bool
is_up Idle = false
is_up Acquisition = false
is_up Down = false
is_up Up = true
is_up Cease = false

-- 01: "Down and Up"
abbrev pub acquired : Phase → Bool
acquired Idle = false
acquired Acquisition = false
acquired Down = true
acquired Up = true
acquired Cease = false

-- 02: "states from 0 as listed": Idle, Acquisition, Down, Up, Cease
abbrev pub phase_number : Phase → ℕ
phase_number Idle = 0
phase_number Acquisition = 1
phase_number Down = 2
phase_number Up = 3
phase_number Cease = 4

-- 02: "mode none, active, passive 0 to 2"
abbrev pub mode_number : Mode → ℕ
mode_number Unset = 0
mode_number Active = 1
mode_number Passive = 2

-- the same record with other numbers S and R
unfoldable pub with_numbers : Neighbour → ℕ → ℕ → Neighbour
with_numbers n s r =
    record {
      s = s;
      r = r;
      period1 = n.period1;
      period2 = n.period2;
      t1 = n.t1;
      t2 = n.t2;
      t3 = n.t3;
      phase = n.phase;
      mode = n.mode;
      register = n.register;
      heard = n.heard;
      cause = n.cause;
      sincehello = n.sincehello;
      sincepoll = n.sincepoll;
    }

-- the same record but for its state and what goes with a state: M, T1, T2, t1, t2, t3, register, heard and cause. S
-- and R stay, and the ticks counted.
abbrev pub with_state : Neighbour → Phase → Mode → ℕ → ℕ → ℕ → ℕ → ℕ → ℕ → ℕ → ℕ → Neighbour
with_state n phase mode period1 period2 t1 t2 t3 register heard cause =
    record {
      s = n.s;
      r = n.r;
      period1 = period1;
      period2 = period2;
      t1 = t1;
      t2 = t2;
      t3 = t3;
      phase = phase;
      mode = mode;
      register = register;
      heard = heard;
      cause = cause;
      sincehello = n.sincehello;
      sincepoll = n.sincepoll;
    }

-- the same record with other timers t1, t2, t3
unfoldable pub with_timers : Neighbour → ℕ → ℕ → ℕ → Neighbour
with_timers n t1 t2 t3 = with_state n n.phase n.mode n.period1 n.period2 t1 t2 t3 n.register n.heard n.cause

-- the same record with another state, register and heard bit
unfoldable pub with_reach : Neighbour → Phase → ℕ → ℕ → Neighbour
with_reach n phase register heard = with_state n phase n.mode n.period1 n.period2 n.t1 n.t2 n.t3 register heard n.cause

-- the same record with other counts of ticks, since the last Hello and since the last Poll
abbrev pub with_counts : Neighbour → ℕ → ℕ → Neighbour
with_counts n hello poll =
    record {
      s = n.s;
      r = n.r;
      period1 = n.period1;
      period2 = n.period2;
      t1 = n.t1;
      t2 = n.t2;
      t3 = n.t3;
      phase = n.phase;
      mode = n.mode;
      register = n.register;
      heard = n.heard;
      cause = n.cause;
      sincehello = hello;
      sincepoll = poll;
    }

-- 01: "Entering Idle zeroes all but address and AS."
unfoldable pub idle : Neighbour
idle =
    record {
      s = 0;
      r = 0;
      period1 = 0;
      period2 = 0;
      t1 = 0;
      t2 = 0;
      t3 = 0;
      phase = Idle;
      mode = Unset;
      register = 0;
      heard = 0;
      cause = 0;
      sincehello = 0;
      sincepoll = 0;
    }

-- 01: "Leaving Idle sets S to 0, and R to 0 by Start or to the Request's number."
unfoldable pub left_idle : ℕ → Neighbour
left_idle r = with_numbers idle 0 r

-- 01: "Entering Acquisition or Cease, or Start in Acquisition: t1 = P3, t3 = P5, and T1, T2, M, register and heard 0; S and R stay."
-- "Leaving Up zeroes t2"; in Cease the cause is kept for repeats
unfoldable pub waiting : Neighbour → Phase → ℕ → Neighbour
waiting n phase cause = with_state n phase Unset 0 0 P3 0 P5 0 0 cause

-- 01: "A and B: T1, T2, M set, register and heard 0, t1 = T1, t3 = P5"; "Leaving Up zeroes t2"; 02, L5: the counts are
-- "set to 120 whenever the neighbour initialises (A or B)"
unfoldable pub initialised : Neighbour → ℕ → ℕ → Mode → Neighbour
initialised n period1 period2 mode =
    with_counts (with_state n Down mode period1 period2 period1 0 P5 0 0 0) holds_at holds_at

-- 01: "It sets heard to 1 and t3 to P4."
unfoldable pub heard_from : Neighbour → Neighbour
heard_from n = with_reach (with_timers n n.t1 n.t2 P4) n.phase n.register 1

-- 01: "shift heard into the register as its lowest bit, drop the highest, clear heard and set t1 = T1"
unfoldable pub shifted : Neighbour → Neighbour
shifted n = with_reach (with_timers n n.period1 n.t2 n.t3) n.phase ((n.register * 2 + n.heard) % 16) 0

-- 01: "Down goes Up"
unfoldable pub enter_up : Neighbour → Neighbour
enter_up n = with_reach n Up n.register n.heard

-- 01: "Leaving Up zeroes t2 ..; going Down by a tick keeps the register."
unfoldable pub leave_up : Neighbour → Neighbour
leave_up n = with_reach (with_timers n n.t1 0 n.t3) Down n.register n.heard

-- 01: "S goes up by one, 65,535 to 0, just before each Poll only." "Poll, t2 = T2"
unfoldable pub polled : Neighbour → Neighbour
polled n = with_numbers (with_timers n n.t1 n.period2 n.t3) ((n.s + 1) % 65536) n.r

-- 02, L5: "adds one to each below 120"
unfoldable pub one_more : ℕ → ℕ
one_more count = cond (ltb count holds_at) (count + 1) count

-- 02, L5: "Every tick carried out outside Idle adds one to each below 120"
unfoldable pub aged : Neighbour → Neighbour
aged n = with_counts n (one_more n.sincehello) (one_more n.sincepoll)

-- the same settings but for `quiet`
abbrev pub with_quiet : Settings → ℕ → Settings
with_quiet g quiet = record { asn = g.asn; own = g.own; capability = g.capability; net = g.net; quiet = quiet }
