-- `host_calls::send` meets its contract. Assumes nothing.
use native.Mathlib.Omega.{arith}
use mathlib.Core.Path.{refl, sym, ap, ◌∙◌}
use mathlib.Core.List.{[]}
use Rattle.nets.specs.Rows.{rows_of}
use Rattle.neighbour_machine.specs.declared.Reply.{Reply}
use Rattle.neighbour_machine.specs.declared.Reply.TheVariants.{One}
use Rattle.gateway_rules.specs.Carried.{buffer_after}
use Rattle.gateway_carry.specs.Asked.{lengths_of}
use Rattle.host_home.specs.Home.{home_in}
use Rattle.host_calls.proofs.Sending.{two_rowless, one_rowless, rowless_lengths, rowless_buffer, update_asked, update_short, update_lengths, update_buffer}
use Rattle.host_calls.proofs.send.Goals as goal

pub send-requires : goal.send-requires
send-requires c = ((two_rowless c.args.reply (home_in c.args.home.now) c.in_default.not-One c.requires.0).asked, c.requires.1)

pub returns-in_default : goal.returns-in_default
returns-in_default c = let r = two_rowless c.args.reply (home_in c.args.home.now) c.in_default.not-One c.requires.0 in record { value = rowless_lengths _ _ c.args.buffer.now r _ c.send.ensures.value; buffer_after = rowless_buffer _ _ c.args.buffer.now r _ c.send.ensures.buffer_after }

pub send-requires-in_default-m : goal.send-requires-in_default-m
send-requires-in_default-m c = ((one_rowless (One c.in-One.m) _ (home_in c.args.home.now) refl c.in_default-m.not-Update).asked, c.requires.1)

pub returns-in_default-m : goal.returns-in_default-m
returns-in_default-m c = let r = one_rowless _ _ (home_in c.args.home.now) c.in-One.is c.in_default-m.not-Update in record { value = rowless_lengths _ _ c.args.buffer.now r _ (c.send-in_default-m.ensures.value ∙ sym (ap (λ (x : Reply). lengths_of x (rows_of [])) c.in-One.is)); buffer_after = rowless_buffer _ _ c.args.buffer.now r _ (c.send-in_default-m.ensures.buffer_after ∙ sym (ap (λ (x : Reply). buffer_after c.args.buffer.now x (rows_of [])) c.in-One.is)) }

pub write_update-first-requires : goal.write_update-first-requires
write_update-first-requires c = let both = update_asked _ (home_in c.args.home.now) c.args.buffer.now _ _ _ _ (c.in-One.is ∙ ap One c.in-Update.is) c.requires.0 c.requires.1 in record { net_value = both.0; in_bounds = both.1 }

pub overflow_cast-result : goal.overflow_cast-result
overflow_cast-result c = omega (arith, update_short _ (home_in c.args.home.now) c.args.buffer.now _ _ _ _ (c.in-One.is ∙ ap One c.in-Update.is) c.requires.0 c.requires.1 _ _ c.write_update-first.ensures.value c.write_update-first.ensures.buffer_after)

pub returns-clause-value : goal.returns-clause-value
returns-clause-value c = update_lengths _ (home_in c.args.home.now) c.args.buffer.now _ _ _ _ (c.in-One.is ∙ ap One c.in-Update.is) c.requires.0 c.requires.1 _ _ c.write_update-first.ensures.value c.write_update-first.ensures.buffer_after

pub returns-clause-buffer_after : goal.returns-clause-buffer_after
returns-clause-buffer_after c = update_buffer _ (home_in c.args.home.now) c.args.buffer.now _ _ _ _ (c.in-One.is ∙ ap One c.in-Update.is) c.requires.0 c.requires.1 _ _ c.write_update-first.ensures.value c.write_update-first.ensures.buffer_after
