-- `update_rows::net_at` meets its contract: the octets that the class says. Assumes nothing.
use Rattle.update_rows.proofs.Laws.{only_c, at_a, at_b, at_c}
use Rattle.update_walk.proofs.Laws.{class_b}
use Rattle.octets.proofs.Back.{quad_bytes}
use mathlib.Core.Path.{◌∙◌}
use lib.ListN.{get_or}
use native.Mathlib.Omega.{arith}
use Rattle.update_rows.proofs.net_at.Goals as goal

pub returns-then-first-lt128 : goal.returns-then-first-lt128
returns-then-first-lt128 c = let both = at_a c.args.t.now c.args.i c.requires.1 _ (c.from_be_bytes.ensures ∙ quad_bytes _ 0 0 0) c.if-first-lt128.true in record { width = both.0; number = both.1 }

pub bounds-t-i-then-first-lt192 : goal.bounds-t-i-then-first-lt192
bounds-t-i-then-first-lt192 c = omega (arith, c.requires.1, class_b (get_or c.args.t.now c.args.i 0) c.if-first-lt128.false c.if-first-lt192.true)

pub returns-then-first-lt192 : goal.returns-then-first-lt192
returns-then-first-lt192 c = let both = at_b c.args.t.now c.args.i c.requires.1 _ (c.from_be_bytes-then-first-lt192.ensures ∙ quad_bytes _ _ 0 0) c.if-first-lt128.false c.if-first-lt192.true in record { width = both.0; number = both.1 }

pub bounds-t-i-2 : goal.bounds-t-i-2
bounds-t-i-2 c = omega (arith, c.requires.1, only_c (get_or c.args.t.now c.args.i 0) c.if-first-lt192.false c.requires.0)

pub bounds-t-i-3 : goal.bounds-t-i-3
bounds-t-i-3 c = omega (arith, c.requires.1, only_c (get_or c.args.t.now c.args.i 0) c.if-first-lt192.false c.requires.0)

pub returns : goal.returns
returns c = let both = at_c c.args.t.now c.args.i c.requires.1 _ (c.from_be_bytes-2.ensures ∙ quad_bytes _ _ _ 0) c.if-first-lt192.false c.requires.0 in record { width = both.0; number = both.1 }
