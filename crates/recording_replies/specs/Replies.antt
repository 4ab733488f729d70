-- What is shown of a reply. 02: "each reply message as a `tx` line (address, slash, hex)".
use Rattle.std.specs.Prelude.{ℕ, List, [], ◌∷◌, ◌++◌, take, drop}
use Rattle.text.specs.Text.{text, dotted, line}
use Rattle.text_values.specs.Hex.{hex_text}
use Rattle.model.specs.Theorem.{Seen}

-- a message that was sent; where nothing was, no line
unfoldable pub tx_text : ℕ → List ℕ → List ℕ
tx_text a [] = []
tx_text a (octet ∷ rest) = line (text "tx=") (dotted a ++ (text "/" ++ hex_text (octet ∷ rest)))

-- 01: "A reply is at most two messages, the second written straight after the first": in order
unfoldable pub replies_text : ℕ → Seen → List ℕ
replies_text a seen =
    tx_text a (take seen.first seen.buffer) ++ tx_text a (take seen.second (drop seen.first seen.buffer))
