-- `recording_player::make_tick` meets its contract. Assumes nothing.
use Rattle.std.proofs.Common.{refl, sym, ap, ◌∙◌}
use lib.ListN.{length}
use Rattle.checks.specs.Refusals.{answer_of}
use Rattle.recording_player.specs.Player.{roomy, due}
use Rattle.recording_player.proofs.Laws.{refused_as, lent_room, tick_refused, tick_made}
use Rattle.recording_player.proofs.make_tick.Goals as goal

pub returns-in-Err : goal.returns-in-Err
unfolding roomy
returns-in-Err c =
    let no = refused_as c.check_call.ensures c.in-Err.is c.from.ensures in
    let both = tick_refused c.args.p c.args.table.now c.args.out.now _ _ no.0 no.1 (c.silent.ensures c.args.table.now) in
    record { value = both.0; table_after = both.1.0; out_after = both.1.1 }

pub tick_neighbour-requires : goal.tick_neighbour-requires
unfolding roomy
tick_neighbour-requires c = lent_room c.args.out.now c.args.p.state (length c.args.table.now) (sym c.check_call.ensures ∙ ap answer_of c.in_default.is)

pub returns : goal.returns
unfolding roomy due
returns c =
    let both = tick_made c.args.p c.args.table.now c.args.out.now _ _ c.check_call.ensures (ap answer_of c.in_default.is) _ refl _ c.telling-t.ensures _ _ _ c.tick_neighbour.ensures.value c.carry.ensures c.tick_neighbour.ensures.table_after c.tick_neighbour.ensures.out_after in
    record { value = both.0; table_after = both.1.0; out_after = both.1.1 }
