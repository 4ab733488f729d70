-- `recording_player::finish` meets its contract. Assumes nothing.
use Rattle.std.proofs.Common.{◌≡◌}
use Rattle.recording_player.specs.Player.{finish_step, silent_step}
use Rattle.recording_player.proofs.Laws.{silent_taken, finish_broken, finish_unbegun, finish_listed}
use Rattle.recording_player.proofs.finish.Goals as goal
use Rattle.recording_player.proofs.finish.Goals.{then-p-via-then-p, then-p-via-else-p+then-p-lt4}

pub returns-then-p : goal.returns-then-p
returns-then-p c =
    let a = c.args in
    let nothing : finish_step a.out.now a.p a.table.now ≡ silent_step a.p a.table.now 0 = elim c.then-p.branch [
      | then-p-via-then-p w ↦ finish_broken a.out.now a.p a.table.now w.if-p.true
      | then-p-via-else-p+then-p-lt4 w ↦ finish_unbegun a.out.now a.p a.table.now w.if-p.false w.if-p-lt4.true
    ] in
    let both = silent_taken _ a.p a.table.now 0 _ a.out.now nothing (c.silent.ensures a.table.now) in
    record { value = both.0; out_after = both.1 }

pub returns : goal.returns
returns c =
    let a = c.args in
    let both = finish_listed a.out.now a.p a.table.now c.if-p.false c.if-p-lt4.false c.listing-o.result _ c.listing-o.ensures.value c.listing-o.ensures.buffer_after in
    record { value = both.0; out_after = both.1 }
