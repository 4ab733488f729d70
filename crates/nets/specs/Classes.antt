-- Net classes, over the width of the net part.
use Rattle.std.specs.Prelude.{ℕ, ◌-◌, ◌/◌, ◌%◌, ◌^◌, Bool, cond, not, ◌&&◌, ltb, eqb}

-- 01: "Classes go by the first octet: below 128 A, below 192 B, below 224 C, others bad. A net takes 1, 2 or 3 octets"; 0 stands for bad
unfoldable pub net_width : ℕ → ℕ
net_width first = cond (ltb first 128) 1 (cond (ltb first 192) 2 (cond (ltb first 224) 3 0))

-- the first of an address's four octets
abbrev pub first_octet : ℕ → ℕ
first_octet address = address / 16777216

-- the width of the net part of an address
abbrev pub width_of : ℕ → ℕ
width_of address = net_width (first_octet address)

-- 01: "the host part of the common net, 3, 2 or 1" octets: how many addresses a net of that width has
unfoldable pub host_span : ℕ → ℕ
host_span width = 256 ^ (4 - width)

-- 01: "a left-justified class A, B or C net"
unfoldable pub good_net : ℕ → Bool
good_net net = not (eqb (width_of net) 0) && eqb (net % host_span (width_of net)) 0

-- an address on a net: a class A, B or C net, and its net part is that of the net
unfoldable pub on_net : ℕ → ℕ → Bool
on_net net address = not (eqb (width_of net) 0) && eqb (address / host_span (width_of net)) (net / host_span (width_of net))
