-- `host_rows::store_rows` meets its contract: the numbers that are stored, in octets. Assumes nothing.
use Rattle.host_rows.proofs.Laws.{words_storable, octets_done}
use Rattle.host_rows.proofs.store_rows.Goals as goal

pub store_rows-requires : goal.store_rows-requires
store_rows-requires c = words_storable c.requires

pub returns : goal.returns
returns c = octets_done c.requires _ (λ j. (c.type_inv.part j).fits) c.store_rows.auto.part c.store_rows.ensures
