-- A buffer that the caller lends. 01: a call writes the reply's octets at its front and "none writes past the lengths it reports".
use Rattle.std.specs.Prelude.{List, ◌++◌, ℕ, length, drop}

-- octets laid over the front of a buffer: what lies after them is as it was
unfoldable pub over : List ℕ → List ℕ → List ℕ
over octets buffer = octets ++ drop (length octets) buffer
