-- from specs/Cases.antt ListingCases
-- Made by ./unfoldings from the line above: all definitions that it rests on. To unfold `opened` is to unfold them all.
use Prim.Native.Nat.{ℕ}
use Rattle.checks.specs.Checks as Checks
use Rattle.checks.specs.Lists as Lists
use Rattle.octets.specs.Buffer as Buffer
use Rattle.nets.specs.Classes as Classes
use Rattle.nets.specs.Rows as Rows
use Rattle.text.specs.Text as Text
use Rattle.update_rows.specs.Storing as Storing
use Rattle.neighbour.specs.Record as Record
use Rattle.neighbour_wellformed.specs.Formed as NeighbourWellformedFormed
use Rattle.neighbour_seconds.specs.Seconds as Seconds
use Rattle.gateway_state.specs.Slots as Slots
use Rattle.gateway_state.specs.Places as Places
use Rattle.gateway_state.specs.Formed as GatewayStateFormed
use Rattle.gateway_state.specs.Outcomes as Outcomes
use Rattle.gateway_rules.specs.Calls as Calls
use Rattle.listing_lines.specs.Lines as Lines
use Rattle.listing_lines.specs.Listing as Listing
use Rattle.listing_lines.specs.Cases as Cases

unfoldable pub opened : ℕ
unfolding Checks.check Checks.if_ok Lists.every Lists.distinct Lists.join Buffer.over Classes.net_width Classes.host_span Classes.good_net Classes.on_net Rows.rows_of Text.text Text.digit Text.digits Text.decimal Text.dotted Text.line Storing.zeros Record.under Record.with_numbers Record.with_timers Record.with_reach Record.idle Record.waiting Record.initialised NeighbourWellformedFormed.all_zero NeighbourWellformedFormed.idle_formed NeighbourWellformedFormed.timers_below NeighbourWellformedFormed.timers_run NeighbourWellformedFormed.t2_formed NeighbourWellformedFormed.register_formed NeighbourWellformedFormed.agreed NeighbourWellformedFormed.intervals_formed NeighbourWellformedFormed.cause_formed NeighbourWellformedFormed.counts_formed NeighbourWellformedFormed.well_formed Seconds.seconds_sum Seconds.seconds_formed Seconds.are_none Slots.free_slot Slots.addresses Slots.clash Places.row_counts Places.part_at Places.read_rows GatewayStateFormed.good_settings GatewayStateFormed.good_peer GatewayStateFormed.rows_formed GatewayStateFormed.free_formed GatewayStateFormed.used_formed GatewayStateFormed.slot_formed GatewayStateFormed.state_formed Outcomes.refused_of Calls.lent_checks Lines.state_word Lines.mode_word Lines.distance_in Lines.side_word Lines.seconds_lines Lines.head_lines Lines.row_lines Lines.row_text Lines.entry_text Lines.listing_text Listing.entry_of Listing.entries_from Listing.entries Listing.marked_row Listing.listable Listing.listing_checks Listing.listing_outcome Listing.listing_buffer Cases.case_settings Cases.acquired_neighbour Cases.slot Cases.state_u Cases.table_u Cases.state_mixed Cases.table_mixed
opened = 0
