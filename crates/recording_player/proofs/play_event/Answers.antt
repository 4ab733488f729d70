-- `recording_player::play_event` meets its contract. Assumes nothing.
use Rattle.std.proofs.Common.{[], refl, sym, ap, ◌∙◌}
use lib.ListN.{length}
use Rattle.model.specs.Model as M
use Rattle.model.specs.Theorem.{table_left}
use Rattle.text_values.specs.Hex.{hex_octets}
use Rattle.recording_call.specs.Told.{lent, on}
use Rattle.recording_player.specs.declared.Player.{Player}
use Rattle.recording_player.specs.Player.{next_line, due, roomy, silent_step, told_of, event_checked, event_step}
use Rattle.recording_player.proofs.Laws.{lent_room, told_traced, formed_room, asks, made_as, silent_made, call_made, event_as, hex_there}
use Rattle.recording_player.proofs.play_event.Goals as goal

pub add_neighbour-requires : goal.add_neighbour-requires
unfolding event_checked
add_neighbour-requires c =
    λ z. formed_room c.args.p.traced c.args.out.now c.args.p.state (asks c.args.p.traced (roomy c.args.out.now) c.args.p.state (length c.args.table.now) c.in-Add.is c.requires.1) (sym (told_traced c.args.p _ c.next_line-next.ensures _ c.telling-t.ensures) ∙ z)

pub remove_neighbour-requires : goal.remove_neighbour-requires
unfolding event_checked
remove_neighbour-requires c =
    λ z. formed_room c.args.p.traced c.args.out.now c.args.p.state (asks c.args.p.traced (roomy c.args.out.now) c.args.p.state (length c.args.table.now) c.in-Remove.is c.requires.1) (sym (told_traced c.args.p _ c.next_line-next.ensures _ c.telling-t.ensures) ∙ z)

pub start_neighbour-requires : goal.start_neighbour-requires
unfolding event_checked
start_neighbour-requires c = lent_room c.args.out.now c.args.p.state (length c.args.table.now) (asks c.args.p.traced (roomy c.args.out.now) c.args.p.state (length c.args.table.now) c.in-Start.is c.requires.1)

pub stop_neighbour-requires : goal.stop_neighbour-requires
unfolding event_checked
stop_neighbour-requires c = lent_room c.args.out.now c.args.p.state (length c.args.table.now) (asks c.args.p.traced (roomy c.args.out.now) c.args.p.state (length c.args.table.now) c.in-Stop.is c.requires.1)

pub hear_neighbour-requires : goal.hear_neighbour-requires
unfolding event_checked
hear_neighbour-requires c =
    let hex = hex_there c.in-Receive.is c.requires.0 in
    (hex.0, hex.1, lent_room c.args.out.now c.args.p.state (length c.args.table.now) (asks c.args.p.traced (roomy c.args.out.now) c.args.p.state (length c.args.table.now) c.in-Receive.is c.requires.1))

pub returns-in-Add : goal.returns-in-Add
unfolding table_left on event_step
returns-in-Add c =
    let both = made_as c.args.out.now (event_as c.args.p c.args.table.now c.in-Add.is)
    (call_made c.args.p _ c.next_line-next.ensures _ c.telling-t.ensures c.args.table.now _ _ _ c.args.out.now _ (M.add c.in-Add.a c.in-Add.asn)
    (c.add_neighbour.ensures.value c.args.table.now) c.carry.ensures refl (c.add_neighbour.ensures.out_after c.args.table.now)) in
    record { value = both.0; table_after = both.1.0; out_after = both.1.1 }

pub returns-in-Remove : goal.returns-in-Remove
unfolding table_left on event_step
returns-in-Remove c =
    let both = made_as c.args.out.now (event_as c.args.p c.args.table.now c.in-Remove.is)
    (call_made c.args.p _ c.next_line-next.ensures _ c.telling-t.ensures c.args.table.now _ _ _ c.args.out.now _ (M.remove c.in-Remove.a)
    (c.remove_neighbour.ensures.value c.args.table.now) c.carry-in-Remove.ensures refl (c.remove_neighbour.ensures.out_after c.args.table.now)) in
    record { value = both.0; table_after = both.1.0; out_after = both.1.1 }

pub returns-in-Start : goal.returns-in-Start
unfolding event_step
returns-in-Start c =
    let both = made_as c.args.out.now (event_as c.args.p c.args.table.now c.in-Start.is)
    (call_made c.args.p _ c.next_line-next.ensures _ c.telling-t.ensures c.args.table.now _ _ _ c.args.out.now _ (M.start c.in-Start.a lent)
    c.start_neighbour.ensures.value c.carry-in-Start.ensures c.start_neighbour.ensures.table_after c.start_neighbour.ensures.out_after) in
    record { value = both.0; table_after = both.1.0; out_after = both.1.1 }

pub returns-in-Stop : goal.returns-in-Stop
unfolding event_step
returns-in-Stop c =
    let both = made_as c.args.out.now (event_as c.args.p c.args.table.now c.in-Stop.is)
    (call_made c.args.p _ c.next_line-next.ensures _ c.telling-t.ensures c.args.table.now _ _ _ c.args.out.now _ (M.stop c.in-Stop.a lent)
    c.stop_neighbour.ensures.value c.carry-in-Stop.ensures c.stop_neighbour.ensures.table_after c.stop_neighbour.ensures.out_after) in
    record { value = both.0; table_after = both.1.0; out_after = both.1.1 }

pub returns-in-Receive : goal.returns-in-Receive
unfolding event_step
returns-in-Receive c =
    let both = made_as c.args.out.now (event_as c.args.p c.args.table.now c.in-Receive.is)
    (call_made c.args.p _ c.next_line-next.ensures _ c.telling-t.ensures c.args.table.now _ _ _ c.args.out.now _ (M.receive c.in-Receive.a (hex_octets c.in-Receive.digits.now) [] lent)
    c.hear_neighbour.ensures.value c.carry-in-Receive.ensures c.hear_neighbour.ensures.table_after c.hear_neighbour.ensures.out_after) in
    record { value = both.0; table_after = both.1.0; out_after = both.1.1 }

pub returns-in-Tick : goal.returns-in-Tick
unfolding event_step due
returns-in-Tick c =
    let both = made_as c.args.out.now (event_as c.args.p c.args.table.now c.in-Tick.is)
    (silent_made (due (next_line c.args.p) c.in-Tick.address c.in-Tick.ticks) c.args.table.now 0 _ c.args.out.now
    (c.silent.ensures c.args.table.now ∙ ap (λ (q : Player). told_of (silent_step (due q c.in-Tick.address c.in-Tick.ticks) c.args.table.now 0)) c.next_line-next.ensures)) in
    record { value = both.0; table_after = both.1.0; out_after = both.1.1 }
