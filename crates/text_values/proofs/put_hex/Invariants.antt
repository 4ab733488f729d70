-- `text_values::put_hex` meets its contract. The loop keeps what is left to write. Assumes nothing.
use lib.ListN.{drop}
use Rattle.text.proofs.Writing.{Left}
use Rattle.text_values.specs.Hex.{hex_text}
use Rattle.text_values.proofs.put_hex.Given as goal

abbrev pub invariant-loop-octet : goal.invariant-loop-octet
invariant-loop-octet l = Left (hex_text l.octets) l.initial.out (hex_text (drop l.octet-index l.octets)) l.out
