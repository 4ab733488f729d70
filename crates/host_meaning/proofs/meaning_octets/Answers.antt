use mathlib.Core.Path.{◌∙◌, sym, ap}
use Rattle.host_meaning.specs.Meaning.{meaning_octets}
use Rattle.host_meaning.proofs.meaning_octets.Goals as goal

pub returns-in-Request : goal.returns-in-Request
unfolding meaning_octets
returns-in-Request c = c.field_octets.ensures ∙ sym (ap meaning_octets c.in-Request.is)

pub returns-in-Confirm : goal.returns-in-Confirm
unfolding meaning_octets
returns-in-Confirm c = c.field_octets-in-Confirm.ensures ∙ sym (ap meaning_octets c.in-Confirm.is)

pub returns-in-Refuse : goal.returns-in-Refuse
unfolding meaning_octets
returns-in-Refuse c = c.field_octets-in-Refuse.ensures ∙ sym (ap meaning_octets c.in-Refuse.is)

pub returns-in-Cease : goal.returns-in-Cease
unfolding meaning_octets
returns-in-Cease c = c.field_octets-in-Cease.ensures ∙ sym (ap meaning_octets c.in-Cease.is)

pub returns-in-CeaseAck : goal.returns-in-CeaseAck
unfolding meaning_octets
returns-in-CeaseAck c = c.field_octets-in-CeaseAck.ensures ∙ sym (ap meaning_octets c.in-CeaseAck.is)

pub returns-in-Hello : goal.returns-in-Hello
unfolding meaning_octets
returns-in-Hello c = c.field_octets-in-Hello.ensures ∙ sym (ap meaning_octets c.in-Hello.is)

pub returns-in-IHeardYou : goal.returns-in-IHeardYou
unfolding meaning_octets
returns-in-IHeardYou c = c.field_octets-in-IHeardYou.ensures ∙ sym (ap meaning_octets c.in-IHeardYou.is)

pub returns-in-Poll : goal.returns-in-Poll
unfolding meaning_octets
returns-in-Poll c = c.field_octets-in-Poll.ensures ∙ sym (ap meaning_octets c.in-Poll.is)

pub returns-in-Update : goal.returns-in-Update
unfolding meaning_octets
returns-in-Update c = c.field_octets-in-Update.ensures ∙ sym (ap meaning_octets c.in-Update.is)

pub returns-in-Error : goal.returns-in-Error
unfolding meaning_octets
returns-in-Error c = c.field_octets-in-Error.ensures ∙ sym (ap meaning_octets c.in-Error.is)
