use Rattle.std.proofs.Common.{refl, ◌/◌, length}
use Rattle.host_home.proofs.Home.{home_rows, rows_writable}
use Rattle.host_home.proofs.write_update.Goals as goal

pub write_update-requires-clause-net_value : goal.write_update-requires-clause-net_value
write_update-requires-clause-net_value c =
    (c.requires.net_value.0, rw (← c.as_chunks.ensures.front) at (rows_writable c.args.net (length c.args.home.now / 12) c.args.home.now refl c.requires.net_value.1))

pub returns-clause-value : goal.returns-clause-value
returns-clause-value c = rw (← home_rows c.args.net (length c.args.home.now / 12) c.args.home.now refl c.requires.net_value.1, ← c.as_chunks.ensures.front) c.write_update.ensures.value

pub returns-clause-buffer_after : goal.returns-clause-buffer_after
returns-clause-buffer_after c = rw (← home_rows c.args.net (length c.args.home.now / 12) c.args.home.now refl c.requires.net_value.1, ← c.as_chunks.ensures.front) c.write_update.ensures.buffer_after
