-- The calls of a C host: one definition for all of what each returns and leaves, by the gateway's own call on the
-- state and table that the blocks hold. 02: "Demand 1 holds through this layer".
use Rattle.std.specs.Prelude.{ℕ, cond, List}
use Rattle.checks.specs.Checks.{check, if_ok}
use Rattle.octets_words.specs.Words.{word_octets}
use Rattle.neighbour.specs.declared.Settings.{Settings}
use Rattle.gateway_state.specs.declared.Outcome.{Outcome}
use Rattle.gateway_slots.specs.Calls.{fresh_answer, fresh_of}
use Rattle.host_result.specs.Packed.{packed, bare}
use Rattle.host_state_block.specs.Block.{block_of}
use Rattle.host_state_block.specs.Formed.{block_fits, block_in_range}
use Rattle.host_rules.specs.Held.{held, holds_state, as_gateway}
use Rattle.model.specs.Model.{Call}
use Rattle.model.specs.Theorem.{outcome_of, table_left, buffer_of, buffer_left}

-- what the gateway answers to the call on what the blocks hold
unfoldable pub held_outcome : Call → List ℕ → List ℕ → Outcome
held_outcome call block table = outcome_of (as_gateway call) (held block table)

-- 02: "20, wrong state block length, before 1; ranges still give 1", then the gateway's number
unfoldable pub number_of : Call → List ℕ → List ℕ → ℕ
number_of call block table = check (block_fits block) 20 (check (block_in_range block) 1 (held_outcome call block table).answer)

-- 02: "Each returns four 16-bit numbers in one"
abbrev pub packed_outcome : Outcome → ℕ
packed_outcome o = packed o.answer o.first o.second

unfoldable pub result_of : Call → List ℕ → List ℕ → ℕ
result_of call block table = cond (holds_state block) (packed_outcome (held_outcome call block table)) (bare (number_of call block table))

-- 02: "One that isn't well formed is refused and no octet of it is touched": nor of any other that is refused
unfoldable pub block_after : Call → List ℕ → List ℕ → List ℕ
block_after call block table = if_ok (number_of call block table) (block_of (held_outcome call block table).state) block

unfoldable pub table_after : Call → List ℕ → List ℕ → List ℕ
table_after call block table = if_ok (number_of call block table) (word_octets (table_left (as_gateway call) (held block table))) table

-- a refusal may name a reply
unfoldable pub buffer_after : Call → List ℕ → List ℕ → List ℕ
buffer_after call block table = cond (holds_state block) (buffer_left (as_gateway call) (held block table)) (buffer_of call)

-- ---- fresh is lent no state, but the block for one

unfoldable pub fresh_number : Settings → List ℕ → ℕ
fresh_number g block = check (block_fits block) 20 (fresh_answer g)

-- 02: no octet of the block is touched "by a refused fresh"
unfoldable pub fresh_block : Settings → List ℕ → List ℕ
fresh_block g block = if_ok (fresh_number g block) (block_of (fresh_of g).state) block

unfoldable pub fresh_result : Settings → List ℕ → ℕ
fresh_result g block = bare (fresh_number g block)
