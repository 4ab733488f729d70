-- `recording_message::put_own` meets its contract, kind by kind. Assumes nothing.
use native.Mathlib.Omega.{arith}
use Rattle.text.specs.Text.{text}
use Rattle.recording_message.specs.Message.{own_fields}
use Rattle.recording_message.proofs.Laws.{no_fields}
use Rattle.recording_message.proofs.put_own.Goals as goal

pub returns-in-Request-clause-written : goal.returns-in-Request-clause-written
unfolding own_fields
returns-in-Request-clause-written c = rw c.in-Request.is c.put_intervals.ensures.written

pub returns-in-Request-clause-upper_bound : goal.returns-in-Request-clause-upper_bound
unfolding own_fields
returns-in-Request-clause-upper_bound c = omega (arith, c.put_intervals.ensures.upper_bound)

pub returns-in-Confirm-clause-written : goal.returns-in-Confirm-clause-written
unfolding own_fields
returns-in-Confirm-clause-written c = rw c.in-Confirm.is c.put_intervals-in-Confirm.ensures.written

pub returns-in-Confirm-clause-upper_bound : goal.returns-in-Confirm-clause-upper_bound
unfolding own_fields
returns-in-Confirm-clause-upper_bound c = omega (arith, c.put_intervals-in-Confirm.ensures.upper_bound)

pub returns-in-Poll-clause-written : goal.returns-in-Poll-clause-written
unfolding text own_fields
returns-in-Poll-clause-written c = rw c.in-Poll.is c.put_address.ensures.written

pub returns-in-Poll-clause-upper_bound : goal.returns-in-Poll-clause-upper_bound
unfolding text own_fields
returns-in-Poll-clause-upper_bound c = omega (arith, c.put_address.ensures.upper_bound)

pub returns-in-Update-clause-written : goal.returns-in-Update-clause-written
unfolding text own_fields
returns-in-Update-clause-written c = rw c.in-Update.is c.put_address-in-Update.ensures.written

pub returns-in-Update-clause-upper_bound : goal.returns-in-Update-clause-upper_bound
unfolding text own_fields
returns-in-Update-clause-upper_bound c = omega (arith, c.put_address-in-Update.ensures.upper_bound)

pub returns-in-Error-clause-written : goal.returns-in-Error-clause-written
unfolding own_fields
returns-in-Error-clause-written c = rw c.in-Error.is c.put_error.ensures.written

pub returns-in-Error-clause-upper_bound : goal.returns-in-Error-clause-upper_bound
unfolding own_fields
returns-in-Error-clause-upper_bound c = omega (arith, c.put_error.ensures.upper_bound)

pub returns-in_default-clause-written : goal.returns-in_default-clause-written
returns-in_default-clause-written c = no_fields c.args.m c.args.out.now (c.in_default.not-Request, c.in_default.not-Confirm, c.in_default.not-Poll, c.in_default.not-Update, c.in_default.not-Error)
