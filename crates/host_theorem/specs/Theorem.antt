-- The theorem about lists of calls, carried over to a C host's blocks; and what a refused call leaves there.
use Rattle.std.specs.Prelude.{ℕ, ◌≡◌, Bool, true, ◌&&◌, List, [], ◌∷◌, map, ltb, length}
use Rattle.checks.specs.Lists.{every}
use Rattle.octets.specs.Buffer.{over}
use Rattle.octets_words.specs.Words.{word_octets}
use Rattle.update_rows.specs.Storing.{zeros}
use Rattle.neighbour.specs.declared.Settings.{Settings}
use Rattle.gateway_slots.specs.Calls.{fresh_of}
use Rattle.nets.specs.Rows.{Row, rows_of}
use Rattle.neighbour_machine.specs.declared.Reply.{Reply}
use Rattle.neighbour_machine.specs.declared.Reply.TheVariants.{Nothing}
use Rattle.gateway_rules.specs.Number.{named_reply}
use Rattle.gateway_rules.specs.Carried.{first_octets, second_octets, reply_octets}
use Rattle.gateway_theorems.specs.Claims.{neighbour_of}
use Rattle.model.specs.Model.{Call, add, remove, happen, receive, listing, model, empty, said_from}
use Rattle.model.specs.Theorem.{Gateway, Seen, buffer_of, is_octet, state_of, table_of, shown, run}
use Rattle.host_result.specs.Packed.{packed, bare}
use Rattle.host_state_block.specs.Layout.{Fit}
use Rattle.host_state_block.specs.Block.{own_fields, own_numbers, block_size, block_of}
use Rattle.host_rules.specs.Held.{table_size, held, as_gateway}
use Rattle.host_rules.specs.Calls.{number_of, result_of, block_after, table_after, buffer_after, fresh_number, fresh_block}

-- ---- a list of calls, the host handing back what it was left

-- what the host keeps between calls
pub record Lent : Type 0 where
  pub block : List ℕ
  pub table : List ℕ

unfoldable pub host_step : Call → Lent → Lent
host_step call l = record { block = block_after call l.block l.table; table = table_after call l.block l.table }

unfoldable pub host_from : Lent → List Call → Lent
host_from l [] = l
host_from l (call ∷ rest) = host_from (host_step call l) rest

-- what it sees of a call: the number returned, and its buffer after it
pub record HostSeen : Type 0 where
  pub result : ℕ
  pub buffer : List ℕ

unfoldable pub host_seen_from : Lent → List Call → List HostSeen
host_seen_from l [] = []
host_seen_from l (call ∷ rest) =
    record { result = result_of call l.block l.table; buffer = buffer_after call l.block l.table }
    ∷ host_seen_from (host_step call l) rest

-- from what fresh leaves in the block, whatever was there, and a table of zeros
unfoldable pub host_begun : Settings → List ℕ → Lent
host_begun g block = record { block = fresh_block g block; table = zeros table_size }

unfoldable pub host_run : Settings → List ℕ → List Call → Lent
host_run g block calls = host_from (host_begun g block) calls

-- the same of an answer of the model's: both lengths and the number in one
unfoldable pub as_host_sees : Seen → HostSeen
as_host_sees s = record { result = packed s.answer s.first s.second; buffer = s.buffer }

-- ---- the numbers that C's types let through

unfoldable pub fits_types : Call → Bool
fits_types (add address asn) = ltb address 4294967296 && ltb asn 65536
fits_types (remove address) = true
fits_types (happen event a buffer) = true
fits_types (receive a o home buffer) = every is_octet o
fits_types (listing buffer) = true

-- ---- 02: "and demand 3 where the host hands back what it was left"

pub record HostAgreement (g : Settings) (block₀ : List ℕ) (calls : List Call) : Type 0 where
  -- every octet of the final block, and of the final table, by the model: from fresh's settings and the calls alone
  pub block : (host_run g block₀ calls).block ≡ block_of (state_of (model g (map as_gateway calls)))
  pub table : (host_run g block₀ calls).table ≡ word_octets (table_of (model g (map as_gateway calls)))
  -- every number returned, and every octet of every buffer
  pub seen : host_seen_from (host_begun g block₀) calls ≡ map as_host_sees (shown (map as_gateway calls) (said_from (empty g) (map as_gateway calls)))
  -- the blocks hold what the gateway's own calls leave, so that all that is shown of those holds of them
  pub holds : held (host_run g block₀ calls).block (host_run g block₀ calls).table ≡ run g (map as_gateway calls)

-- all settings that fresh takes, any block of the right length to begin with, and all lists
abbrev pub HostListOfCalls : Type 0
HostListOfCalls =
    (g : Settings) → Fit own_fields (own_numbers g) → (fresh_of g).answer ≡ 0
    → (block : List ℕ) → length block ≡ block_size
    → (calls : List Call) → every fits_types calls ≡ true → HostAgreement g block calls

-- ---- demand 1 through the layer: any block, table and buffer at all

-- 01's column "Reply": only a message that is refused draws one; the rows that it would be written with
unfoldable pub named_by : Call → Gateway → ℕ → Reply
named_by (add address asn) b number = Nothing
named_by (remove address) b number = Nothing
named_by (happen event a buffer) b number = Nothing
named_by (receive a o home buffer) b number = named_reply b.state.settings (neighbour_of b.state a) o number
named_by (listing buffer) b number = Nothing

unfoldable pub home_rows : Call → List Row
home_rows (add address asn) = []
home_rows (remove address) = []
home_rows (happen event a buffer) = []
home_rows (receive a o home buffer) = rows_of home
home_rows (listing buffer) = []

unfoldable pub reply_to : Call → List ℕ → List ℕ → Reply
reply_to call block table = named_by (as_gateway call) (held block table) (number_of call block table)

pub record HostRefused (call : Call) (block₀ table₀ : List ℕ) : Type 0 where
  -- 02: "no octet of it is touched"
  pub block : block_after call block₀ table₀ ≡ block₀
  pub table : table_after call block₀ table₀ ≡ table₀
  -- the reply that 01 names beside the number at the buffer's front, and no other octet
  pub buffer : buffer_after call block₀ table₀ ≡ over (reply_octets (reply_to call block₀ table₀) (home_rows (as_gateway call))) (buffer_of call)
  -- the number, and the reply's lengths: 0 and 0 where none is named
  pub result :
      result_of call block₀ table₀
      ≡ packed (number_of call block₀ table₀) (length (first_octets (reply_to call block₀ table₀) (home_rows (as_gateway call))))
      (length (second_octets (reply_to call block₀ table₀) (home_rows (as_gateway call))))

-- of all calls, and of fresh
pub record RefusedTouchesNothing : Type 0 where
  pub calls : (call : Call) (block table : List ℕ) → (number_of call block table ≡ 0 → ⊥) → HostRefused call block table
  -- before the gateway is asked, no octet at all is written, and the number stands alone
  pub length20 : (call : Call) (block table : List ℕ) → (length block ≡ block_size → ⊥) → (result_of call block table ≡ bare 20) × (buffer_after call block table ≡ buffer_of call)
  pub fresh : (g : Settings) (block : List ℕ) → (fresh_number g block ≡ 0 → ⊥) → fresh_block g block ≡ block
