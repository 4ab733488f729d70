-- `host_listing::are_slots_listable` meets its contract. The loop keeps: the used slots left decide for all. Assumes
-- nothing.
use Rattle.checks.specs.Lists.{every}
use Rattle.listing.proofs.Laws.{left}
use Rattle.listing_lines.specs.Listing.{listable}
use Rattle.host_state_block.specs.Block.{state_in}
use Rattle.octets_words.specs.Words.{words_of}
use mathlib.Core.Path.{◌≡◌}
use Rattle.host_listing.proofs.are_slots_listable.Given as goal

abbrev pub invariant-loop-i : goal.invariant-loop-i
invariant-loop-i l = every listable (left (state_in l.block) (words_of l.table) 0) ≡ every listable (left (state_in l.block) (words_of l.table) l.i)
