-- Check 1 as far as it concerns one neighbour's record: 01's paragraph "Well formed means", a definition for each sentence.
use Rattle.std.specs.Prelude.{ℕ, Bool, true, false, cond, not, ◌&&◌, ◌||◌, leb, eqb}
use Rattle.neighbour.specs.declared.Mode.{Mode}
use Rattle.neighbour.specs.declared.Mode.TheVariants.{Unset, Active, Passive}
use Rattle.neighbour.specs.declared.Neighbour.{Neighbour}
use Rattle.neighbour.specs.Record.{under, is_idle, acquired}

abbrev pub is_unset : Mode → Bool
is_unset Unset = true
is_unset Active = false
is_unset Passive = false

abbrev pub within : ℕ → ℕ → ℕ → Bool
within low high x = leb low x && leb x high

-- every number 0 and no mode
unfoldable pub all_zero : Neighbour → Bool
all_zero n =
    eqb n.s 0 && eqb n.r 0 && eqb n.period1 0 && eqb n.period2 0 && eqb n.t1 0 && eqb n.t2 0 && eqb n.t3 0
    && is_unset n.mode && eqb n.register 0 && eqb n.heard 0 && eqb n.cause 0
    && eqb n.sincehello 0 && eqb n.sincepoll 0

-- 01: "in Idle only address and AS may be non-zero"
unfoldable pub idle_formed : Neighbour → Bool
idle_formed n = not (is_idle n.phase) || all_zero n

-- 01: "t1, t2, t3 at most 122, 482, 3,600"
unfoldable pub timers_below : Neighbour → Bool
timers_below n = leb n.t1 122 && leb n.t2 482 && leb n.t3 3600

-- 01: "t1 and t3 at least 1 outside Idle"
unfoldable pub timers_run : Neighbour → Bool
timers_run n = is_idle n.phase || (leb 1 n.t1 && leb 1 n.t3)

-- 01: "t2 at least 1 in Up and 0 elsewhere"
unfoldable pub t2_formed : Neighbour → Bool
t2_formed n = under n.phase (eqb n.t2 0) (eqb n.t2 0) (eqb n.t2 0) (leb 1 n.t2) (eqb n.t2 0)

-- 01: "register at most 15 and heard at most 1, both 0 outside Down and Up"
unfoldable pub register_formed : Neighbour → Bool
register_formed n =
    leb n.register 15 && leb n.heard 1 && (acquired n.phase || (eqb n.register 0 && eqb n.heard 0))

-- 01: "T1 is 32 to 122, T2 is 122 to 482 and M active or passive"
unfoldable pub agreed : Neighbour → Bool
agreed n = within 32 122 n.period1 && within 122 482 n.period2 && not (is_unset n.mode)

-- 01: "in Down and Up T1 is .., elsewhere all three are 0"
unfoldable pub intervals_formed : Neighbour → Bool
intervals_formed n =
    cond (acquired n.phase) (agreed n) (eqb n.period1 0 && eqb n.period2 0 && is_unset n.mode)

-- 01: "cause 5 or 6 in Cease, else 0"
unfoldable pub cause_formed : Neighbour → Bool
cause_formed n =
    under n.phase (eqb n.cause 0) (eqb n.cause 0) (eqb n.cause 0) (eqb n.cause 0)
    (eqb n.cause 5 || eqb n.cause 6)

-- 02, L5: "Well formed asks both to be at most 120, and 0 in Idle", where `idle_formed` asks it
unfoldable pub counts_formed : Neighbour → Bool
counts_formed n = leb n.sincehello 120 && leb n.sincepoll 120

-- "Sequence numbers are any 16 bits." The row count, the address and the AS are judged where they stand.
unfoldable pub well_formed : Neighbour → Bool
well_formed n =
    idle_formed n && timers_below n && timers_run n && t2_formed n && register_formed n && intervals_formed n && cause_formed n
    && counts_formed n
