-- `message_writing::fold` meets its contract: the carries brought round twice. Assumes nothing.
use Rattle.message_writing.proofs.Laws.{fold_few}
use Rattle.message_writing.proofs.fold.Goals as goal

pub returns : goal.returns
returns c = fold_few c.args.sum c.requires
