-- The gateway blocks of an Update: what their octets say, for any list of octets.
use Rattle.std.specs.Prelude.{ℕ, zero, suc, ◌+◌, ◌-◌, ◌*◌, ◌≡◌, cond, ◌&&◌, List, [], ◌∷◌, ◌++◌, map, ltb, leb, eqb, length, take, drop, get_or, Result, Ok, Err}
use Rattle.checks.specs.Lists.{join}
use Rattle.checks.specs.Refusals.{number_of}
use Rattle.checks.specs.declared.Refusal.{Refusal}
use Rattle.checks.specs.declared.Refusal.TheVariants.{BrokenBlocks, TooManyRows}
use Rattle.nets.specs.Classes.{net_width, width_of, host_span, good_net}
use Rattle.nets.specs.Rows.{Row}
use Rattle.update_walk.specs.declared.BodyError.{BodyError}
use Rattle.update_walk.specs.declared.BodyError.TheVariants.{Broken, TooMany}

-- 01: "All numbers are big-endian": the number n, continued by these octets
unfoldable pub extended : ℕ → List ℕ → ℕ
extended n [] = n
extended n (octet ∷ rest) = extended (n * 256 + octet) rest

abbrev pub big_endian : List ℕ → ℕ
big_endian octets = extended 0 octets

-- what was read and the octets after it, or how many octets were left at the first that can't be right (0 where octets are missing)
pub data Got (A : Type 0) : Type 0 where
  got : A → List ℕ → Got A
  stop : ℕ → Got A

abbrev pub and_then : {A B : Type 0} → Got A → (A → List ℕ → Got B) → Got B
and_then (got a t) f = f a t
and_then (stop left) f = stop left

abbrev pub after : {X : Type 0} → List X → Got (List X) → Got (List X)
after xs (got ys t) = got (xs ++ ys) t
after xs (stop left) = stop left

-- the same reading n times, one after the other; 01: "Any count may be 0. Rows go in message order; repeats stay."
unfoldable pub many : {X : Type 0} → (List ℕ → Got (List X)) → ℕ → List ℕ → Got (List X)
many f zero t = got [] t
many f (suc n) t = and_then (f t) (λ xs rest. after xs (many f n rest))

-- 01: "A net takes 1, 2 or 3 octets"; its value is those octets, then zero octets
unfoldable pub left_justified : ℕ → List ℕ → ℕ
left_justified width t = big_endian (take width t) * host_span width

-- one net of this width, 0 for a first octet of no class, as a row
unfoldable pub row_of_width : ℕ → ℕ → ℕ → List ℕ → Got (List Row)
row_of_width gateway third width t =
    cond (eqb width 0) (stop (length t))
    (cond (ltb (length t) width) (stop 0) (got (record { net = left_justified width t; gateway = gateway; third = third } ∷ []) (drop width t)))

-- 01: "Classes go by the first octet", the net's own
unfoldable pub net_row : ℕ → ℕ → List ℕ → Got (List Row)
net_row gateway third t = cond (eqb (length t) 0) (stop 0) (row_of_width gateway third (net_width (get_or t 0 0)) t)

-- the nets of one distance, as rows; third number: "distance plus 256 if external", side being 0 or 256
pub record Group : Type 0 where
  pub third : ℕ
  pub rows : List Row

-- the distances of one gateway
pub record Block : Type 0 where
  pub gateway : ℕ
  pub groups : List Group

-- the blocks of an Update
pub record Sides : Type 0 where
  pub inside : List Block
  pub outside : List Block

-- 01: "for each, distance, number of nets, nets"
unfoldable pub group_at : ℕ → ℕ → List ℕ → Got (List Group)
group_at side gateway t =
    cond (ltb (length t) 2) (stop 0)
    (and_then (many (net_row gateway (side + get_or t 0 0)) (get_or t 1 0) (drop 2 t))
    (λ rows rest. got (record { third = side + get_or t 0 0; rows = rows } ∷ []) rest))

-- 01: "a gateway takes the host part of the common net, 3, 2 or 1" octets
unfoldable pub host_width : ℕ → ℕ
host_width net = 4 - width_of net

-- the common net plus that host part
unfoldable pub gateway_of : ℕ → List ℕ → ℕ
gateway_of net t = net + big_endian (take (host_width net) t)

-- 01: "host, number of distances; for each, .."
unfoldable pub block_at : ℕ → ℕ → List ℕ → Got (List Block)
block_at side net t =
    cond (leb (length t) (host_width net)) (stop 0)
    (and_then (many (group_at side (gateway_of net t)) (get_or t (host_width net) 0) (drop (host_width net + 1) t))
    (λ groups rest. got (record { gateway = gateway_of net t; groups = groups } ∷ []) rest))

-- 01: "Internal blocks come first."
unfoldable pub sides_at : ℕ → ℕ → ℕ → List ℕ → Got Sides
sides_at net internal external t =
    and_then (many (block_at 0 net) internal t)
    (λ inside rest. and_then (many (block_at 256 net) external rest) (λ outside last. got (record { inside = inside; outside = outside }) last))

-- 01: "Rows go in message order": the rows of groups, of blocks, of both sides
unfoldable pub groups_hold : List Group → List Row
groups_hold groups = join (map (λ group. group.rows) groups)

unfoldable pub blocks_hold : List Block → List Row
blocks_hold blocks = join (map (λ block. groups_hold block.groups) blocks)

unfoldable pub sides_hold : Sides → List Row
sides_hold sides = blocks_hold sides.inside ++ blocks_hold sides.outside

-- a reading, and of what was read only what it holds
unfoldable pub read_as : {A B : Type 0} → (A → B) → Got A → Got B
read_as hold (got a t) = got (hold a) t
read_as hold (stop left) = stop left

-- the rows of one group, of one block, of all blocks: the flattening of what is read there
unfoldable pub group_rows : ℕ → ℕ → List ℕ → Got (List Row)
group_rows side gateway t = read_as groups_hold (group_at side gateway t)

unfoldable pub block_rows : ℕ → ℕ → List ℕ → Got (List Row)
block_rows side net t = read_as blocks_hold (block_at side net t)

unfoldable pub both_sides : ℕ → ℕ → ℕ → List ℕ → Got (List Row)
both_sides net internal external t = read_as sides_hold (sides_at net internal external t)

-- all of the rows, or the offset of the first octet that can't be right
pub data Walk : Type 0 where
  whole : List Row → Walk
  broken : ℕ → Walk

-- 01: "Nothing may be missing or left over": of size octets
unfoldable pub nothing_left : ℕ → Got (List Row) → Walk
nothing_left size (got rs []) = whole rs
nothing_left size (got rs (octet ∷ rest)) = broken (size - length (octet ∷ rest))
nothing_left size (stop left) = broken (size - left)

-- the blocks alone, offsets counted from their own start
unfoldable pub body_of : ℕ → ℕ → ℕ → List ℕ → Walk
body_of net internal external t = nothing_left (length t) (both_sides net internal external t)

-- an offset counted from where these octets stand in the message
unfoldable pub further : ℕ → Walk → Walk
further start (whole rs) = whole rs
further start (broken offset) = broken (offset + start)

-- 01: "at 12 the net, left justified"
unfoldable pub net_at : List ℕ → ℕ
net_at message = big_endian (take 4 (drop 12 message))

-- 01: "An Update has at octet 10 the internal and external gateway counts, at 12 the net"; "blocks are read from octet 16 on";
-- "a net that is not the common net", and a bad common net, break at 12; octets missing before 16 break at the length
unfoldable pub walked_blocks : ℕ → List ℕ → Walk
walked_blocks net message =
    cond (ltb (length message) 16) (broken (length message))
    (cond (good_net net && eqb (net_at message) net)
    (further 16 (body_of net (get_or message 10 0) (get_or message 11 0) (drop 16 message)))
    (broken 12))

-- what reading an Update gives: its rows, the offset of its first octet that can't be right, or more rows than there is room for
pub data UpdateRead : Type 0 where
  accepted : List Row → UpdateRead
  broken_at : ℕ → UpdateRead
  too_many : UpdateRead

-- 01: "such an Update, otherwise good, of more than 128 rows", room being the rows that may be accepted
unfoldable pub read_within : ℕ → Walk → UpdateRead
read_within room (whole rs) = cond (leb (length rs) room) (accepted rs) too_many
read_within room (broken offset) = broken_at offset

unfoldable pub update_of : ℕ → ℕ → List ℕ → UpdateRead
update_of room net message = read_within room (walked_blocks net message)

-- how many rows an Update has, or the offset where it breaks: the answer that the code gives
abbrev pub walked_of : UpdateRead → Result ℕ BodyError
walked_of (accepted rs) = Ok (length rs)
walked_of (broken_at offset) = Err (Broken offset)
walked_of too_many = Err TooMany

-- why a call with such an Update is refused
abbrev pub refusal_of : BodyError → Refusal
refusal_of (Broken offset) = BrokenBlocks
refusal_of TooMany = TooManyRows

-- 01's answer numbers 0, 14 and 15, one for each case of that answer
abbrev pub walked_number : Result ℕ BodyError → ℕ
walked_number (Ok count) = 0
walked_number (Err (Broken offset)) = 14
walked_number (Err TooMany) = 15

-- the number of the refusal is that number (proofs/Numbers)
pub record RefusalNumber : Type 0 where
  pub number : (error : BodyError) → number_of (refusal_of error) ≡ walked_number (Err error)

unfoldable pub update_number : UpdateRead → ℕ
update_number update = walked_number (walked_of update)

-- the rows of an accepted Update, none otherwise
unfoldable pub rows_read : UpdateRead → List Row
rows_read (accepted rs) = rs
rows_read (broken_at offset) = []
rows_read too_many = []
