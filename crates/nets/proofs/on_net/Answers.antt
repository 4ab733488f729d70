use Rattle.std.proofs.Common.{◌≡◌, ◌∙◌, arith}
use Rattle.nets.specs.Classes.{host_span}
use Rattle.nets.proofs.Laws.{on_a, on_b, on_c, on_none, width_fits}
use Rattle.nets.proofs.on_net.Goals as goal

pub returns-in-1 : goal.returns-in-1
unfolding host_span
returns-in-1 c = c.is_same_part.ensures ∙ on_a c.args.net _ c.args.address c.width_of.ensures c.in-1.is

pub returns-in-2 : goal.returns-in-2
unfolding host_span
returns-in-2 c = c.is_same_part-in-2.ensures ∙ on_b c.args.net _ c.args.address c.width_of.ensures c.in-2.is

pub returns-in-3 : goal.returns-in-3
unfolding host_span
returns-in-3 c = c.is_same_part-in-3.ensures ∙ on_c c.args.net _ c.args.address c.width_of.ensures c.in-3.is

pub returns-in_default : goal.returns-in_default
returns-in_default c =
    let none : c.width_of.result ≡ 0 = omega (arith, width_fits c.args.net _ c.args.address c.width_of.ensures) in
    on_none c.args.net _ c.args.address c.width_of.ensures none
