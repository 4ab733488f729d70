-- Check 1, "state not well formed": 01's paragraph "Well formed means", with what fresh and add ask of their settings. It reads no table.
use Rattle.std.specs.Prelude.{ℕ, Bool, cond, not, ◌&&◌, ◌||◌, leb, eqb}
use Rattle.checks.specs.Lists.{every, distinct}
use Rattle.nets.specs.Classes.{good_net, on_net}
use Rattle.neighbour.specs.declared.Phase.{Phase}
use Rattle.neighbour.specs.declared.Settings.{Settings}
use Rattle.neighbour.specs.Record.{is_idle, is_up}
use Rattle.neighbour_wellformed.specs.Formed.{all_zero, well_formed}
use Rattle.neighbour_seconds.specs.Seconds.{are_none, seconds_formed}
use Rattle.gateway_state.specs.declared.Slot.{Slot}
use Rattle.gateway_state.specs.declared.State.{State}
use Rattle.gateway_state.specs.Slots.{addresses, apart}
use Rattle.gateway_state.specs.Places.{slot_rows}

-- 01: "Fresh refuses 16 for own AS 0, capability above 2, a common net that isn't a left-justified class A, B or C net, or an own address off that net".
-- 02: "The setting is 0 or 1 (anything else is 16 from fresh and not well formed in a state)"
unfoldable pub good_settings : Settings → Bool
good_settings g = not (eqb g.asn 0) && leb g.capability 2 && leb g.quiet 1 && good_net g.net && on_net g.net g.own

-- 01: "Add refuses 16 for AS 0 or own AS, or an address that is 0, our own"; "or present" is judged of the state
unfoldable pub good_peer : Settings → ℕ → ℕ → Bool
good_peer g address asn = not (eqb asn 0) && not (eqb asn g.asn) && not (eqb address 0) && not (eqb address g.own)

-- 01: "row count at most 128 and 0 unless Up"
unfoldable pub rows_formed : Phase → ℕ → Bool
rows_formed phase rows = leb rows slot_rows && (is_up phase || eqb rows 0)

-- 01: "free slots are all zero", in a slot whose address is 0
unfoldable pub free_formed : Slot → Bool
free_formed slot =
    eqb slot.asn 0 && is_idle slot.neighbour.phase && all_zero slot.neighbour && eqb slot.rows 0 && are_none slot.seconds

-- 01: "add's settings hold for .. each used slot", and the rest of the paragraph; 02: the counts "survive Idle, and well formed now allows it, with
-- a sum of at most 4,294,967,295"
unfoldable pub used_formed : Settings → Slot → Bool
used_formed g slot =
    good_peer g slot.address slot.asn && well_formed slot.neighbour && rows_formed slot.neighbour.phase slot.rows
    && seconds_formed slot.seconds

-- a slot is free where its address is 0
unfoldable pub slot_formed : Settings → Slot → Bool
slot_formed g slot = cond (eqb slot.address 0) (free_formed slot) (used_formed g slot)

-- 01: "fresh's and add's settings hold for own values and each used slot": of these, that no address is present twice joins slots
unfoldable pub state_formed : State → Bool
state_formed st = good_settings st.settings && every (slot_formed st.settings) st.slots && distinct apart (addresses st)
