-- `host_listing::put_slots` meets its contract. The loop keeps what is left to write. Assumes nothing.
use Rattle.listing.proofs.Laws.{text_left}
use Rattle.listing.specs.Steps.{slots_text}
use Rattle.text.proofs.Writing.{Left}
use Rattle.octets_words.specs.Words.{words_of}
use Rattle.host_state_block.specs.Block.{state_in}
use Rattle.host_listing.proofs.put_slots.Given as goal

abbrev pub invariant-loop-i : goal.invariant-loop-i
invariant-loop-i l = Left (slots_text (state_in l.block) (words_of l.table)) l.initial.out (text_left (state_in l.block) (words_of l.table) l.i) l.out
