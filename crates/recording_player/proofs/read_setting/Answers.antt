-- `recording_player::read_setting` meets its contract. Assumes nothing.
use Rattle.std.proofs.Common.{sym, ◌∙◌, arith}
use Rattle.neighbour.specs.Record.{with_quiet}
use Rattle.recording_lines.specs.Lines.{own_as_of, own_of, capability_of, net_of, quiet_of}
use Rattle.recording_player.specs.Player.{with_as, with_own, with_capability, with_net}
use Rattle.recording_player.proofs.Laws.{own_as_bound, capability_bound, quiet_bound, put_none, put_some, first_line, second_line, third_line, fourth_line, later_line}
use Rattle.recording_player.proofs.read_setting.Goals as goal

pub returns-in_err-own_as-in-0 : goal.returns-in_err-own_as-in-0
returns-in_err-own_as-in-0 c =
    c.from_residual.ensures ∙ put_none (own_as_of c.args.line.now) (with_as c.args.settings) (sym c.own_as.ensures ∙ c.in_err-own_as-in-0.was)
    ∙ first_line c.args.settings c.args.lines c.args.line.now c.in-0.is

pub returns-in_ok-own_as-in-0 : goal.returns-in_ok-own_as-in-0
unfolding with_as
returns-in_ok-own_as-in-0 c =
    put_some (own_as_of c.args.line.now) (with_as c.args.settings) _ (sym c.own_as.ensures ∙ c.in_ok-own_as-in-0.was)
    ∙ first_line c.args.settings c.args.lines c.args.line.now c.in-0.is

pub overflow_cast-result : goal.overflow_cast-result
overflow_cast-result c = omega (arith, own_as_bound _ _ (sym c.own_as.ensures ∙ c.in_ok-own_as-in-0.was))

pub returns-in_err-own-in-1 : goal.returns-in_err-own-in-1
returns-in_err-own-in-1 c =
    c.from_residual-in_err-own-in-1.ensures ∙ put_none (own_of c.args.line.now) (with_own c.args.settings) (sym c.own.ensures ∙ c.in_err-own-in-1.was)
    ∙ second_line c.args.settings c.args.lines c.args.line.now c.in-1.is

pub returns-in_ok-own-in-1 : goal.returns-in_ok-own-in-1
unfolding with_own
returns-in_ok-own-in-1 c =
    put_some (own_of c.args.line.now) (with_own c.args.settings) _ (sym c.own.ensures ∙ c.in_ok-own-in-1.was)
    ∙ second_line c.args.settings c.args.lines c.args.line.now c.in-1.is

pub returns-in_err-capability-in-2 : goal.returns-in_err-capability-in-2
returns-in_err-capability-in-2 c =
    c.from_residual-in_err-capability-in-2.ensures ∙ put_none (capability_of c.args.line.now) (with_capability c.args.settings) (sym c.capability.ensures ∙ c.in_err-capability-in-2.was)
    ∙ third_line c.args.settings c.args.lines c.args.line.now c.in-2.is

pub returns-in_ok-capability-in-2 : goal.returns-in_ok-capability-in-2
unfolding with_capability
returns-in_ok-capability-in-2 c =
    put_some (capability_of c.args.line.now) (with_capability c.args.settings) _ (sym c.capability.ensures ∙ c.in_ok-capability-in-2.was)
    ∙ third_line c.args.settings c.args.lines c.args.line.now c.in-2.is

pub overflow_cast-result-in-2 : goal.overflow_cast-result-in-2
overflow_cast-result-in-2 c = omega (arith, capability_bound _ _ (sym c.capability.ensures ∙ c.in_ok-capability-in-2.was))

pub returns-in_err-net-in-3 : goal.returns-in_err-net-in-3
returns-in_err-net-in-3 c =
    c.from_residual-in_err-net-in-3.ensures ∙ put_none (net_of c.args.line.now) (with_net c.args.settings) (sym c.net.ensures ∙ c.in_err-net-in-3.was)
    ∙ fourth_line c.args.settings c.args.lines c.args.line.now c.in-3.is

pub returns-in_ok-net-in-3 : goal.returns-in_ok-net-in-3
unfolding with_net
returns-in_ok-net-in-3 c =
    put_some (net_of c.args.line.now) (with_net c.args.settings) _ (sym c.net.ensures ∙ c.in_ok-net-in-3.was)
    ∙ fourth_line c.args.settings c.args.lines c.args.line.now c.in-3.is

pub returns-in_err-quiet-in_default : goal.returns-in_err-quiet-in_default
returns-in_err-quiet-in_default c =
    c.from_residual-in_err-quiet-in_default.ensures ∙ put_none (quiet_of c.args.line.now) (with_quiet c.args.settings) (sym c.quiet.ensures ∙ c.in_err-quiet-in_default.was)
    ∙ later_line c.args.settings c.args.lines c.args.line.now (λ e. omega arith) (λ e. omega arith) (λ e. omega arith) (λ e. omega arith)

pub returns-in_ok-quiet-in_default : goal.returns-in_ok-quiet-in_default
returns-in_ok-quiet-in_default c =
    put_some (quiet_of c.args.line.now) (with_quiet c.args.settings) _ (sym c.quiet.ensures ∙ c.in_ok-quiet-in_default.was)
    ∙ later_line c.args.settings c.args.lines c.args.line.now (λ e. omega arith) (λ e. omega arith) (λ e. omega arith) (λ e. omega arith)

pub overflow_cast-result-in_default : goal.overflow_cast-result-in_default
overflow_cast-result-in_default c = omega (arith, quiet_bound _ _ (sym c.quiet.ensures ∙ c.in_ok-quiet-in_default.was))
