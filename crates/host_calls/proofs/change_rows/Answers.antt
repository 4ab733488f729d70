-- `host_calls::change_rows` meets its contract, effect by effect. Assumes nothing.
use native.Mathlib.Omega.{arith}
use mathlib.Core.Path.{refl}
use Rattle.host_calls.proofs.Rows.{change_keep, change_clear, change_asked, change_replace}
use Rattle.host_calls.proofs.change_rows.Goals as goal

pub store_rows-requires : goal.store_rows-requires
store_rows-requires c = change_asked _ (λ i. omega (arith, c.slice_known-1.given i)) c.requires.i_bound.1 _ c.requires.i_bound.0 _ refl _ _ _ _ c.in-Replace.is c.requires.message_value

pub returns-in-Keep : goal.returns-in-Keep
returns-in-Keep c = change_keep _ (λ i. omega (arith, c.slice_known-1.given i)) c.requires.i_bound.1 _ c.requires.i_bound.0 _ refl _ _ c.in-Keep.is

pub returns-in-Clear : goal.returns-in-Clear
returns-in-Clear c = change_clear _ (λ i. omega (arith, c.slice_known-1.given i)) c.requires.i_bound.1 _ c.requires.i_bound.0 _ refl _ _ c.in-Clear.is _ c.clear.ensures

pub returns-in-Replace : goal.returns-in-Replace
returns-in-Replace c = change_replace _ (λ i. omega (arith, c.slice_known-1.given i)) c.requires.i_bound.1 _ c.requires.i_bound.0 _ refl _ _ _ _ c.in-Replace.is c.requires.message_value _ c.store_rows.ensures
