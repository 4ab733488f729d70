-- `text_values::read_hex` meets its contract. The loop keeps: the text left is hex, and its octets are what is left to write. Assumes nothing.
use Rattle.std.proofs.Common.{◌≡◌, ◌*◌, true, drop}
use Rattle.octets.proofs.Storing.{Writing}
use Rattle.text_values.specs.Hex.{is_hex, hex_octets}
use Rattle.text_values.proofs.read_hex.Given as goal

abbrev pub invariant-loop-i : goal.invariant-loop-i
invariant-loop-i l = record {
  good : is_hex (drop (2 * l.i) l.text) ≡ true;
  left : Writing (hex_octets l.text) 0 l.initial.out (hex_octets (drop (2 * l.i) l.text)) l.i l.out;
}
