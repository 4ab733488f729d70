-- `listing::put_slots` meets its contract. The loop keeps what is left to write. Assumes nothing.
use Rattle.text.proofs.Writing.{Left}
use Rattle.listing.proofs.Laws.{text_left}
use Rattle.listing.specs.Steps.{slots_text}
use Rattle.listing.proofs.put_slots.Given as goal

abbrev pub invariant-loop-i : goal.invariant-loop-i
invariant-loop-i l = Left (slots_text l.st l.table) l.initial.out (text_left l.st l.table l.i) l.out
