-- The home list as octets, for a host. 02: "A home list goes as octets too, 12 a row; any other length gives 4."
use Rattle.std.specs.Prelude.{ℕ, List}
use Rattle.octets_words.specs.Words.{row_numbers}

-- its numbers; of another length it is one number, which is no whole row and so no good list
abbrev pub home_in : List ℕ → List ℕ
home_in octets = row_numbers octets
