-- `gateway_carry::count_after` meets its contract. Assumes nothing.
use Rattle.gateway_carry.proofs.Rows.{count_keep, count_clear, count_replace}
use Rattle.gateway_carry.proofs.count_after.Goals as goal

pub returns-in-Keep : goal.returns-in-Keep
returns-in-Keep c = count_keep _ _ c.in-Keep.is

pub returns-in-Clear : goal.returns-in-Clear
returns-in-Clear c = count_clear _ _ c.in-Clear.is

pub returns-in-Replace : goal.returns-in-Replace
returns-in-Replace c = count_replace _ _ _ c.in-Replace.is
