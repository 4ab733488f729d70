-- `recording_player::is_setting` meets its contract. Assumes nothing.
use Rattle.std.proofs.Common.{ap, ◌∙◌, is_some}
use borrow.Author.Tests.{lt-ltb, le-ltb, eq-eqb, ne_eqb}
use Rattle.recording_player.specs.Player.{is_setting}
use Rattle.recording_player.proofs.Laws.{any_value}
use Rattle.recording_player.proofs.is_setting.Goals as goal

pub returns-then-lines-lt4 : goal.returns-then-lines-lt4
unfolding is_setting
returns-then-lines-lt4 c = rw (lt-ltb _ _ c.if-lines-lt4.true)

pub returns-then-lines-eq4 : goal.returns-then-lines-eq4
unfolding is_setting
returns-then-lines-eq4 c =
    rw (le-ltb _ _ c.if-lines-lt4.false, eq-eqb _ _ c.if-lines-eq4.true) (c.is_some.ensures ∙ ap is_some c.quiet.ensures ∙ any_value _)

pub returns-else-lines-eq4 : goal.returns-else-lines-eq4
unfolding is_setting
returns-else-lines-eq4 c = rw (le-ltb _ _ c.if-lines-lt4.false, ne_eqb _ _ c.if-lines-eq4.false)
