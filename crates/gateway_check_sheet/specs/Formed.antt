-- Check 1, "state not well formed", on both sides of every boundary of 01's paragraph "Well formed means".
use Rattle.std.specs.Prelude.{ℕ, List, [], ◌∷◌}
use Rattle.neighbour.specs.declared.Phase.TheVariants.{Idle, Acquisition, Down, Up, Cease}
use Rattle.neighbour.specs.declared.Mode.TheVariants.{Unset, Active, Passive}
use Rattle.gateway_state.specs.declared.Slot.{Slot}
use Rattle.gateway_state.specs.declared.State.{State}
use Rattle.gateway_check_sheet.specs.Given.{ip, common, ours, theirs, others, set, nine, nine_with, made, since, resting, asking, falling, reporting, slot, vacant, state, without_neighbours, nothing, in_slot_two, full}
use Rattle.gateway_check_sheet.specs.Line.{Line, remove}

-- To remove address 0, which no used slot has, answers 1 where the state is not well formed, else 5.
unfoldable pub formed : State → Line
formed st = remove st 0 5 st

unfoldable pub unformed : State → Line
unformed st = remove st 0 1 st

-- the neighbour in slot 2, at this address and with this AS
unfoldable pub known : ℕ → ℕ → State
known address asn = state nine (slot others 12 resting 0) vacant (slot address asn falling 0) vacant vacant vacant vacant vacant

-- slot 1 with address 0, between two used slots
unfoldable pub beside : Slot → State
beside free = state nine (slot others 12 resting 0) free (slot theirs 7 reporting 2) vacant vacant vacant vacant vacant

unfoldable pub forms : List Line
forms =
    -- own values: "own AS 0"
    formed (without_neighbours nine) ∷
    unformed (without_neighbours (set 0 ours 0 common)) ∷
    formed (without_neighbours (set 1 ours 0 common)) ∷
    formed (without_neighbours (set 65535 ours 0 common)) ∷
    -- own values: "capability above 2"
    formed (without_neighbours (set 9 ours 1 common)) ∷
    formed (without_neighbours (set 9 ours 2 common)) ∷
    unformed (without_neighbours (set 9 ours 3 common)) ∷
    unformed (without_neighbours (set 9 ours 255 common)) ∷
    -- own values: `quiet` "is 0 or 1 (anything else is .. not well formed in a state)"
    formed (without_neighbours (nine_with 1)) ∷
    unformed (without_neighbours (nine_with 2)) ∷
    unformed (without_neighbours (nine_with 255)) ∷
    -- own values: "a common net that isn't a left-justified class A, B or C net"
    formed (without_neighbours (set 9 (ip 127 255 255 255) 0 (ip 127 0 0 0))) ∷
    unformed (without_neighbours (set 9 (ip 127 0 0 1) 0 (ip 127 0 0 1))) ∷
    unformed (without_neighbours (set 9 (ip 127 1 0 1) 0 (ip 127 1 0 0))) ∷
    formed (without_neighbours (set 9 (ip 128 0 255 255) 0 (ip 128 0 0 0))) ∷
    formed (without_neighbours (set 9 (ip 191 255 0 1) 0 (ip 191 255 0 0))) ∷
    unformed (without_neighbours (set 9 (ip 191 255 1 1) 0 (ip 191 255 1 0))) ∷
    formed (without_neighbours (set 9 (ip 192 0 0 255) 0 (ip 192 0 0 0))) ∷
    formed (without_neighbours (set 9 (ip 223 255 255 1) 0 (ip 223 255 255 0))) ∷
    unformed (without_neighbours (set 9 (ip 223 255 255 1) 0 (ip 223 255 255 1))) ∷
    unformed (without_neighbours (set 9 (ip 224 0 0 1) 0 (ip 224 0 0 0))) ∷
    unformed (without_neighbours (set 9 (ip 255 255 255 255) 0 (ip 255 255 255 255))) ∷
    -- own values: "an own address off that net"
    formed (without_neighbours (set 9 (ip 128 9 0 0) 0 common)) ∷
    formed (without_neighbours (set 9 (ip 128 9 255 255) 0 common)) ∷
    unformed (without_neighbours (set 9 (ip 128 10 0 0) 0 common)) ∷
    unformed (without_neighbours (set 9 (ip 128 8 255 255) 0 common)) ∷
    unformed (without_neighbours (set 9 (ip 192 5 7 1) 0 (ip 192 5 6 0))) ∷
    unformed (without_neighbours (set 9 (ip 11 0 0 1) 0 (ip 10 0 0 0))) ∷
    -- net 0.0.0.0 is of class A, and own address 0 on it; only the AS makes the all-zero state "not well formed"
    formed (without_neighbours (set 9 0 0 0)) ∷
    unformed nothing ∷
    -- "each used slot": AS 0 or own AS; two neighbours may have one AS
    formed (known theirs 7) ∷
    unformed (known theirs 0) ∷
    unformed (known theirs 9) ∷
    formed (known theirs 8) ∷
    formed (known theirs 10) ∷
    formed (known theirs 12) ∷
    formed (known theirs 65535) ∷
    -- "each used slot": an address that is 0 (a free slot, not all zero), our own or present; off the net is good
    unformed (known 0 7) ∷
    unformed (known ours 7) ∷
    formed (known (ip 128 9 0 2) 7) ∷
    unformed (known others 7) ∷
    formed (known (ip 10 0 0 1) 7) ∷
    formed (known (ip 224 0 0 1) 7) ∷
    formed (known 1 7) ∷
    formed (known (ip 255 255 255 255) 7) ∷
    -- two slots with one address: 0 and 7, 6 and 7; all slots used
    unformed (state nine (slot theirs 7 resting 0) vacant vacant vacant vacant vacant vacant (slot theirs 8 resting 0)) ∷
    unformed (state nine vacant vacant vacant vacant vacant vacant (slot theirs 7 resting 0) (slot theirs 8 resting 0)) ∷
    formed (state nine vacant vacant vacant vacant vacant vacant (slot theirs 7 resting 0) (slot others 8 resting 0)) ∷
    formed full ∷
    -- every slot is looked at
    unformed (state nine (slot theirs 7 (made Idle 1 0 0 0 Unset 0 0 0 0 0 0) 0) vacant vacant vacant vacant vacant vacant vacant) ∷
    unformed (state nine vacant vacant vacant vacant vacant vacant vacant (slot theirs 7 (made Idle 1 0 0 0 Unset 0 0 0 0 0 0) 0)) ∷
    unformed (state nine vacant vacant vacant vacant vacant vacant vacant (slot 0 0 (made Idle 1 0 0 0 Unset 0 0 0 0 0 0) 0)) ∷
    -- "free slots are all zero": each field in turn, the state too
    formed (beside vacant) ∷
    unformed (beside (slot 0 1 resting 0)) ∷
    unformed (beside (slot 0 0 (made Idle 1 0 0 0 Unset 0 0 0 0 0 0) 0)) ∷
    unformed (beside (slot 0 0 (made Idle 0 1 0 0 Unset 0 0 0 0 0 0) 0)) ∷
    unformed (beside (slot 0 0 (made Idle 0 0 1 0 Unset 0 0 0 0 0 0) 0)) ∷
    unformed (beside (slot 0 0 (made Idle 0 0 0 1 Unset 0 0 0 0 0 0) 0)) ∷
    unformed (beside (slot 0 0 (made Idle 0 0 0 0 Active 0 0 0 0 0 0) 0)) ∷
    unformed (beside (slot 0 0 (made Idle 0 0 0 0 Passive 0 0 0 0 0 0) 0)) ∷
    unformed (beside (slot 0 0 (made Idle 0 0 0 0 Unset 1 0 0 0 0 0) 0)) ∷
    unformed (beside (slot 0 0 (made Idle 0 0 0 0 Unset 0 1 0 0 0 0) 0)) ∷
    unformed (beside (slot 0 0 (made Idle 0 0 0 0 Unset 0 0 1 0 0 0) 0)) ∷
    unformed (beside (slot 0 0 (made Idle 0 0 0 0 Unset 0 0 0 1 0 0) 0)) ∷
    unformed (beside (slot 0 0 (made Idle 0 0 0 0 Unset 0 0 0 0 1 0) 0)) ∷
    unformed (beside (slot 0 0 (made Idle 0 0 0 0 Unset 0 0 0 0 0 1) 0)) ∷
    unformed (beside (slot 0 0 (since 1 0 resting) 0)) ∷
    unformed (beside (slot 0 0 (since 0 1 resting) 0)) ∷
    unformed (beside (slot 0 0 resting 1)) ∷
    unformed (beside (slot 0 0 (made Acquisition 0 0 0 0 Unset 0 0 0 0 0 0) 0)) ∷
    unformed (beside (slot 0 0 (made Down 0 0 0 0 Unset 0 0 0 0 0 0) 0)) ∷
    unformed (beside (slot 0 0 (made Up 0 0 0 0 Unset 0 0 0 0 0 0) 0)) ∷
    unformed (beside (slot 0 0 (made Cease 0 0 0 0 Unset 0 0 0 0 0 0) 0)) ∷
    unformed (beside (slot 0 0 asking 0)) ∷
    unformed (beside (slot 0 0 reporting 0)) ∷
    unformed (beside (slot 0 7 resting 0)) ∷
    -- Idle: "in Idle only address and AS may be non-zero": each field in turn
    formed (in_slot_two (made Idle 0 0 0 0 Unset 0 0 0 0 0 0) 0) ∷
    unformed (in_slot_two (made Idle 1 0 0 0 Unset 0 0 0 0 0 0) 0) ∷
    unformed (in_slot_two (made Idle 0 1 0 0 Unset 0 0 0 0 0 0) 0) ∷
    unformed (in_slot_two (made Idle 0 0 1 0 Unset 0 0 0 0 0 0) 0) ∷
    unformed (in_slot_two (made Idle 0 0 0 1 Unset 0 0 0 0 0 0) 0) ∷
    unformed (in_slot_two (made Idle 0 0 0 0 Active 0 0 0 0 0 0) 0) ∷
    unformed (in_slot_two (made Idle 0 0 0 0 Passive 0 0 0 0 0 0) 0) ∷
    unformed (in_slot_two (made Idle 0 0 0 0 Unset 1 0 0 0 0 0) 0) ∷
    unformed (in_slot_two (made Idle 0 0 0 0 Unset 0 1 0 0 0 0) 0) ∷
    unformed (in_slot_two (made Idle 0 0 0 0 Unset 0 0 1 0 0 0) 0) ∷
    unformed (in_slot_two (made Idle 0 0 0 0 Unset 0 0 0 1 0 0) 0) ∷
    unformed (in_slot_two (made Idle 0 0 0 0 Unset 0 0 0 0 1 0) 0) ∷
    unformed (in_slot_two (made Idle 0 0 0 0 Unset 0 0 0 0 0 1) 0) ∷
    unformed (in_slot_two (made Idle 0 0 0 0 Unset 0 0 0 0 0 5) 0) ∷
    unformed (in_slot_two (made Idle 0 0 32 122 Active 0 0 0 0 0 0) 0) ∷
    unformed (in_slot_two (made Idle 0 0 0 0 Unset 30 0 120 0 0 0) 0) ∷
    unformed (in_slot_two (made Idle 65535 0 0 0 Unset 0 0 0 0 0 0) 0) ∷
    unformed (in_slot_two (made Idle 0 65535 0 0 Unset 0 0 0 0 0 0) 0) ∷
    unformed (in_slot_two (since 1 0 resting) 0) ∷
    unformed (in_slot_two (since 0 1 resting) 0) ∷
    unformed (in_slot_two (since 120 120 resting) 0) ∷
    -- Idle: "row count .. 0 unless Up"
    unformed (in_slot_two (made Idle 0 0 0 0 Unset 0 0 0 0 0 0) 1) ∷
    -- Acquisition: "Sequence numbers are any 16 bits"
    formed (in_slot_two (made Acquisition 0 0 0 0 Unset 20 0 100 0 0 0) 0) ∷
    formed (in_slot_two (made Acquisition 65535 65535 0 0 Unset 20 0 100 0 0 0) 0) ∷
    -- Acquisition: t1 "at most 122", "at least 1 outside Idle"
    unformed (in_slot_two (made Acquisition 3 5 0 0 Unset 0 0 100 0 0 0) 0) ∷
    formed (in_slot_two (made Acquisition 3 5 0 0 Unset 1 0 100 0 0 0) 0) ∷
    formed (in_slot_two (made Acquisition 3 5 0 0 Unset 122 0 100 0 0 0) 0) ∷
    unformed (in_slot_two (made Acquisition 3 5 0 0 Unset 123 0 100 0 0 0) 0) ∷
    -- Acquisition: t2 "0 elsewhere"
    formed (in_slot_two (made Acquisition 3 5 0 0 Unset 20 0 100 0 0 0) 0) ∷
    unformed (in_slot_two (made Acquisition 3 5 0 0 Unset 20 1 100 0 0 0) 0) ∷
    unformed (in_slot_two (made Acquisition 3 5 0 0 Unset 20 60 100 0 0 0) 0) ∷
    -- Acquisition: t3 "at most .. 3,600", "at least 1 outside Idle"
    unformed (in_slot_two (made Acquisition 3 5 0 0 Unset 20 0 0 0 0 0) 0) ∷
    formed (in_slot_two (made Acquisition 3 5 0 0 Unset 20 0 1 0 0 0) 0) ∷
    formed (in_slot_two (made Acquisition 3 5 0 0 Unset 20 0 3600 0 0 0) 0) ∷
    unformed (in_slot_two (made Acquisition 3 5 0 0 Unset 20 0 3601 0 0 0) 0) ∷
    -- Acquisition: register and heard "both 0 outside Down and Up"
    unformed (in_slot_two (made Acquisition 3 5 0 0 Unset 20 0 100 1 0 0) 0) ∷
    unformed (in_slot_two (made Acquisition 3 5 0 0 Unset 20 0 100 0 1 0) 0) ∷
    -- Acquisition: T1, T2 and M: "elsewhere all three are 0"
    unformed (in_slot_two (made Acquisition 3 5 32 0 Unset 20 0 100 0 0 0) 0) ∷
    unformed (in_slot_two (made Acquisition 3 5 0 122 Unset 20 0 100 0 0 0) 0) ∷
    unformed (in_slot_two (made Acquisition 3 5 0 0 Active 20 0 100 0 0 0) 0) ∷
    unformed (in_slot_two (made Acquisition 3 5 0 0 Passive 20 0 100 0 0 0) 0) ∷
    unformed (in_slot_two (made Acquisition 3 5 32 122 Active 20 0 100 0 0 0) 0) ∷
    -- Acquisition: cause "else 0"
    unformed (in_slot_two (made Acquisition 3 5 0 0 Unset 20 0 100 0 0 1) 0) ∷
    unformed (in_slot_two (made Acquisition 3 5 0 0 Unset 20 0 100 0 0 5) 0) ∷
    unformed (in_slot_two (made Acquisition 3 5 0 0 Unset 20 0 100 0 0 6) 0) ∷
    -- Acquisition: 02, L5: "both to be at most 120"
    formed (in_slot_two (since 0 0 (made Acquisition 3 5 0 0 Unset 20 0 100 0 0 0)) 0) ∷
    formed (in_slot_two (since 120 0 (made Acquisition 3 5 0 0 Unset 20 0 100 0 0 0)) 0) ∷
    formed (in_slot_two (since 0 120 (made Acquisition 3 5 0 0 Unset 20 0 100 0 0 0)) 0) ∷
    unformed (in_slot_two (since 121 0 (made Acquisition 3 5 0 0 Unset 20 0 100 0 0 0)) 0) ∷
    unformed (in_slot_two (since 0 121 (made Acquisition 3 5 0 0 Unset 20 0 100 0 0 0)) 0) ∷
    unformed (in_slot_two (since 255 120 (made Acquisition 3 5 0 0 Unset 20 0 100 0 0 0)) 0) ∷
    unformed (in_slot_two (since 120 255 (made Acquisition 3 5 0 0 Unset 20 0 100 0 0 0)) 0) ∷
    -- Acquisition: "row count .. 0 unless Up"
    unformed (in_slot_two (made Acquisition 3 5 0 0 Unset 20 0 100 0 0 0) 1) ∷
    -- Down: "Sequence numbers are any 16 bits"
    formed (in_slot_two (made Down 0 0 32 122 Passive 20 0 100 4 0 0) 0) ∷
    formed (in_slot_two (made Down 65535 65535 32 122 Passive 20 0 100 4 0 0) 0) ∷
    -- Down: t1 "at most 122", "at least 1 outside Idle", above T1 too
    unformed (in_slot_two (made Down 3 5 32 122 Passive 0 0 100 4 0 0) 0) ∷
    formed (in_slot_two (made Down 3 5 32 122 Passive 1 0 100 4 0 0) 0) ∷
    formed (in_slot_two (made Down 3 5 32 122 Passive 122 0 100 4 0 0) 0) ∷
    unformed (in_slot_two (made Down 3 5 32 122 Passive 123 0 100 4 0 0) 0) ∷
    -- Down: t2 "0 elsewhere"
    formed (in_slot_two (made Down 3 5 32 122 Passive 20 0 100 4 0 0) 0) ∷
    unformed (in_slot_two (made Down 3 5 32 122 Passive 20 1 100 4 0 0) 0) ∷
    unformed (in_slot_two (made Down 3 5 32 122 Passive 20 60 100 4 0 0) 0) ∷
    -- Down: t3 "at most .. 3,600", "at least 1 outside Idle"
    unformed (in_slot_two (made Down 3 5 32 122 Passive 20 0 0 4 0 0) 0) ∷
    formed (in_slot_two (made Down 3 5 32 122 Passive 20 0 1 4 0 0) 0) ∷
    formed (in_slot_two (made Down 3 5 32 122 Passive 20 0 3600 4 0 0) 0) ∷
    unformed (in_slot_two (made Down 3 5 32 122 Passive 20 0 3601 4 0 0) 0) ∷
    -- Down: "register at most 15", of any value in either mode
    formed (in_slot_two (made Down 3 5 32 122 Active 20 0 100 0 0 0) 0) ∷
    formed (in_slot_two (made Down 3 5 32 122 Active 20 0 100 15 0 0) 0) ∷
    formed (in_slot_two (made Down 3 5 32 122 Passive 20 0 100 0 0 0) 0) ∷
    formed (in_slot_two (made Down 3 5 32 122 Passive 20 0 100 15 0 0) 0) ∷
    unformed (in_slot_two (made Down 3 5 32 122 Passive 20 0 100 16 0 0) 0) ∷
    -- Down: "heard at most 1"
    formed (in_slot_two (made Down 3 5 32 122 Passive 20 0 100 4 1 0) 0) ∷
    unformed (in_slot_two (made Down 3 5 32 122 Passive 20 0 100 4 2 0) 0) ∷
    -- Down: "T1 is 32 to 122"
    unformed (in_slot_two (made Down 3 5 31 122 Passive 20 0 100 4 0 0) 0) ∷
    formed (in_slot_two (made Down 3 5 32 122 Passive 20 0 100 4 0 0) 0) ∷
    formed (in_slot_two (made Down 3 5 122 122 Passive 20 0 100 4 0 0) 0) ∷
    unformed (in_slot_two (made Down 3 5 123 122 Passive 20 0 100 4 0 0) 0) ∷
    unformed (in_slot_two (made Down 3 5 0 122 Passive 20 0 100 4 0 0) 0) ∷
    -- Down: "T2 is 122 to 482"
    unformed (in_slot_two (made Down 3 5 32 121 Passive 20 0 100 4 0 0) 0) ∷
    formed (in_slot_two (made Down 3 5 32 122 Passive 20 0 100 4 0 0) 0) ∷
    formed (in_slot_two (made Down 3 5 32 482 Passive 20 0 100 4 0 0) 0) ∷
    unformed (in_slot_two (made Down 3 5 32 483 Passive 20 0 100 4 0 0) 0) ∷
    unformed (in_slot_two (made Down 3 5 32 0 Passive 20 0 100 4 0 0) 0) ∷
    -- Down: "M active or passive"
    unformed (in_slot_two (made Down 3 5 32 122 Unset 20 0 100 4 0 0) 0) ∷
    formed (in_slot_two (made Down 3 5 32 122 Active 20 0 100 4 0 0) 0) ∷
    formed (in_slot_two (made Down 3 5 32 122 Passive 20 0 100 4 0 0) 0) ∷
    -- Down: cause "else 0"
    unformed (in_slot_two (made Down 3 5 32 122 Passive 20 0 100 4 0 1) 0) ∷
    unformed (in_slot_two (made Down 3 5 32 122 Passive 20 0 100 4 0 5) 0) ∷
    unformed (in_slot_two (made Down 3 5 32 122 Passive 20 0 100 4 0 6) 0) ∷
    -- Down: 02, L5: "both to be at most 120"
    formed (in_slot_two (since 0 0 (made Down 3 5 32 122 Passive 20 0 100 4 0 0)) 0) ∷
    formed (in_slot_two (since 120 0 (made Down 3 5 32 122 Passive 20 0 100 4 0 0)) 0) ∷
    formed (in_slot_two (since 0 120 (made Down 3 5 32 122 Passive 20 0 100 4 0 0)) 0) ∷
    unformed (in_slot_two (since 121 0 (made Down 3 5 32 122 Passive 20 0 100 4 0 0)) 0) ∷
    unformed (in_slot_two (since 0 121 (made Down 3 5 32 122 Passive 20 0 100 4 0 0)) 0) ∷
    unformed (in_slot_two (since 255 120 (made Down 3 5 32 122 Passive 20 0 100 4 0 0)) 0) ∷
    unformed (in_slot_two (since 120 255 (made Down 3 5 32 122 Passive 20 0 100 4 0 0)) 0) ∷
    -- Down: "row count .. 0 unless Up"
    unformed (in_slot_two (made Down 3 5 32 122 Passive 20 0 100 4 0 0) 1) ∷
    -- Up: "Sequence numbers are any 16 bits"
    formed (in_slot_two (made Up 0 0 32 122 Active 20 60 100 7 0 0) 0) ∷
    formed (in_slot_two (made Up 65535 65535 32 122 Active 20 60 100 7 0 0) 0) ∷
    -- Up: t1 "at most 122", "at least 1 outside Idle", above T1 too
    unformed (in_slot_two (made Up 3 5 32 122 Active 0 60 100 7 0 0) 0) ∷
    formed (in_slot_two (made Up 3 5 32 122 Active 1 60 100 7 0 0) 0) ∷
    formed (in_slot_two (made Up 3 5 32 122 Active 122 60 100 7 0 0) 0) ∷
    unformed (in_slot_two (made Up 3 5 32 122 Active 123 60 100 7 0 0) 0) ∷
    -- Up: t2 "at most .. 482", "at least 1 in Up", above T2 too
    unformed (in_slot_two (made Up 3 5 32 122 Active 20 0 100 7 0 0) 0) ∷
    formed (in_slot_two (made Up 3 5 32 122 Active 20 1 100 7 0 0) 0) ∷
    formed (in_slot_two (made Up 3 5 32 122 Active 20 482 100 7 0 0) 0) ∷
    unformed (in_slot_two (made Up 3 5 32 122 Active 20 483 100 7 0 0) 0) ∷
    -- Up: t3 "at most .. 3,600", "at least 1 outside Idle"
    unformed (in_slot_two (made Up 3 5 32 122 Active 20 60 0 7 0 0) 0) ∷
    formed (in_slot_two (made Up 3 5 32 122 Active 20 60 1 7 0 0) 0) ∷
    formed (in_slot_two (made Up 3 5 32 122 Active 20 60 3600 7 0 0) 0) ∷
    unformed (in_slot_two (made Up 3 5 32 122 Active 20 60 3601 7 0 0) 0) ∷
    -- Up: "register at most 15", of any value in either mode
    formed (in_slot_two (made Up 3 5 32 122 Active 20 60 100 0 0 0) 0) ∷
    formed (in_slot_two (made Up 3 5 32 122 Active 20 60 100 15 0 0) 0) ∷
    formed (in_slot_two (made Up 3 5 32 122 Passive 20 60 100 0 0 0) 0) ∷
    formed (in_slot_two (made Up 3 5 32 122 Passive 20 60 100 15 0 0) 0) ∷
    unformed (in_slot_two (made Up 3 5 32 122 Active 20 60 100 16 0 0) 0) ∷
    -- Up: "heard at most 1"
    formed (in_slot_two (made Up 3 5 32 122 Active 20 60 100 7 1 0) 0) ∷
    unformed (in_slot_two (made Up 3 5 32 122 Active 20 60 100 7 2 0) 0) ∷
    -- Up: "T1 is 32 to 122"
    unformed (in_slot_two (made Up 3 5 31 122 Active 20 60 100 7 0 0) 0) ∷
    formed (in_slot_two (made Up 3 5 32 122 Active 20 60 100 7 0 0) 0) ∷
    formed (in_slot_two (made Up 3 5 122 122 Active 20 60 100 7 0 0) 0) ∷
    unformed (in_slot_two (made Up 3 5 123 122 Active 20 60 100 7 0 0) 0) ∷
    unformed (in_slot_two (made Up 3 5 0 122 Active 20 60 100 7 0 0) 0) ∷
    -- Up: "T2 is 122 to 482"
    unformed (in_slot_two (made Up 3 5 32 121 Active 20 60 100 7 0 0) 0) ∷
    formed (in_slot_two (made Up 3 5 32 122 Active 20 60 100 7 0 0) 0) ∷
    formed (in_slot_two (made Up 3 5 32 482 Active 20 60 100 7 0 0) 0) ∷
    unformed (in_slot_two (made Up 3 5 32 483 Active 20 60 100 7 0 0) 0) ∷
    unformed (in_slot_two (made Up 3 5 32 0 Active 20 60 100 7 0 0) 0) ∷
    -- Up: "M active or passive"
    unformed (in_slot_two (made Up 3 5 32 122 Unset 20 60 100 7 0 0) 0) ∷
    formed (in_slot_two (made Up 3 5 32 122 Active 20 60 100 7 0 0) 0) ∷
    formed (in_slot_two (made Up 3 5 32 122 Passive 20 60 100 7 0 0) 0) ∷
    -- Up: cause "else 0"
    unformed (in_slot_two (made Up 3 5 32 122 Active 20 60 100 7 0 1) 0) ∷
    unformed (in_slot_two (made Up 3 5 32 122 Active 20 60 100 7 0 5) 0) ∷
    unformed (in_slot_two (made Up 3 5 32 122 Active 20 60 100 7 0 6) 0) ∷
    -- Up: 02, L5: "both to be at most 120"
    formed (in_slot_two (since 0 0 (made Up 3 5 32 122 Active 20 60 100 7 0 0)) 0) ∷
    formed (in_slot_two (since 120 0 (made Up 3 5 32 122 Active 20 60 100 7 0 0)) 0) ∷
    formed (in_slot_two (since 0 120 (made Up 3 5 32 122 Active 20 60 100 7 0 0)) 0) ∷
    unformed (in_slot_two (since 121 0 (made Up 3 5 32 122 Active 20 60 100 7 0 0)) 0) ∷
    unformed (in_slot_two (since 0 121 (made Up 3 5 32 122 Active 20 60 100 7 0 0)) 0) ∷
    unformed (in_slot_two (since 255 120 (made Up 3 5 32 122 Active 20 60 100 7 0 0)) 0) ∷
    unformed (in_slot_two (since 120 255 (made Up 3 5 32 122 Active 20 60 100 7 0 0)) 0) ∷
    -- Up: "row count at most 128"
    formed (in_slot_two (made Up 3 5 32 122 Active 20 60 100 7 0 0) 0) ∷
    formed (in_slot_two (made Up 3 5 32 122 Active 20 60 100 7 0 0) 1) ∷
    formed (in_slot_two (made Up 3 5 32 122 Active 20 60 100 7 0 0) 128) ∷
    unformed (in_slot_two (made Up 3 5 32 122 Active 20 60 100 7 0 0) 129) ∷
    -- Cease: "Sequence numbers are any 16 bits"
    formed (in_slot_two (made Cease 0 0 0 0 Unset 20 0 100 0 0 6) 0) ∷
    formed (in_slot_two (made Cease 65535 65535 0 0 Unset 20 0 100 0 0 6) 0) ∷
    -- Cease: t1 "at most 122", "at least 1 outside Idle"
    unformed (in_slot_two (made Cease 3 5 0 0 Unset 0 0 100 0 0 6) 0) ∷
    formed (in_slot_two (made Cease 3 5 0 0 Unset 1 0 100 0 0 6) 0) ∷
    formed (in_slot_two (made Cease 3 5 0 0 Unset 122 0 100 0 0 6) 0) ∷
    unformed (in_slot_two (made Cease 3 5 0 0 Unset 123 0 100 0 0 6) 0) ∷
    -- Cease: t2 "0 elsewhere"
    formed (in_slot_two (made Cease 3 5 0 0 Unset 20 0 100 0 0 6) 0) ∷
    unformed (in_slot_two (made Cease 3 5 0 0 Unset 20 1 100 0 0 6) 0) ∷
    unformed (in_slot_two (made Cease 3 5 0 0 Unset 20 60 100 0 0 6) 0) ∷
    -- Cease: t3 "at most .. 3,600", "at least 1 outside Idle"
    unformed (in_slot_two (made Cease 3 5 0 0 Unset 20 0 0 0 0 6) 0) ∷
    formed (in_slot_two (made Cease 3 5 0 0 Unset 20 0 1 0 0 6) 0) ∷
    formed (in_slot_two (made Cease 3 5 0 0 Unset 20 0 3600 0 0 6) 0) ∷
    unformed (in_slot_two (made Cease 3 5 0 0 Unset 20 0 3601 0 0 6) 0) ∷
    -- Cease: register and heard "both 0 outside Down and Up"
    unformed (in_slot_two (made Cease 3 5 0 0 Unset 20 0 100 1 0 6) 0) ∷
    unformed (in_slot_two (made Cease 3 5 0 0 Unset 20 0 100 0 1 6) 0) ∷
    -- Cease: T1, T2 and M: "elsewhere all three are 0"
    unformed (in_slot_two (made Cease 3 5 32 0 Unset 20 0 100 0 0 6) 0) ∷
    unformed (in_slot_two (made Cease 3 5 0 122 Unset 20 0 100 0 0 6) 0) ∷
    unformed (in_slot_two (made Cease 3 5 0 0 Active 20 0 100 0 0 6) 0) ∷
    unformed (in_slot_two (made Cease 3 5 0 0 Passive 20 0 100 0 0 6) 0) ∷
    unformed (in_slot_two (made Cease 3 5 32 122 Active 20 0 100 0 0 6) 0) ∷
    -- Cease: "cause 5 or 6 in Cease"
    unformed (in_slot_two (made Cease 3 5 0 0 Unset 20 0 100 0 0 0) 0) ∷
    unformed (in_slot_two (made Cease 3 5 0 0 Unset 20 0 100 0 0 4) 0) ∷
    formed (in_slot_two (made Cease 3 5 0 0 Unset 20 0 100 0 0 5) 0) ∷
    formed (in_slot_two (made Cease 3 5 0 0 Unset 20 0 100 0 0 6) 0) ∷
    unformed (in_slot_two (made Cease 3 5 0 0 Unset 20 0 100 0 0 7) 0) ∷
    -- Cease: 02, L5: "both to be at most 120"
    formed (in_slot_two (since 0 0 (made Cease 3 5 0 0 Unset 20 0 100 0 0 6)) 0) ∷
    formed (in_slot_two (since 120 0 (made Cease 3 5 0 0 Unset 20 0 100 0 0 6)) 0) ∷
    formed (in_slot_two (since 0 120 (made Cease 3 5 0 0 Unset 20 0 100 0 0 6)) 0) ∷
    unformed (in_slot_two (since 121 0 (made Cease 3 5 0 0 Unset 20 0 100 0 0 6)) 0) ∷
    unformed (in_slot_two (since 0 121 (made Cease 3 5 0 0 Unset 20 0 100 0 0 6)) 0) ∷
    unformed (in_slot_two (since 255 120 (made Cease 3 5 0 0 Unset 20 0 100 0 0 6)) 0) ∷
    unformed (in_slot_two (since 120 255 (made Cease 3 5 0 0 Unset 20 0 100 0 0 6)) 0) ∷
    -- Cease: "row count .. 0 unless Up"
    unformed (in_slot_two (made Cease 3 5 0 0 Unset 20 0 100 0 0 6) 1) ∷
    []
