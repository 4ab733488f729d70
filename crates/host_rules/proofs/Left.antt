-- From what the gateway's call leaves to what the host's call leaves. Assumes nothing.
use Prim.Native.Nat.{ℕ}
use native.Mathlib.Omega.{arith}
use borrow.Author.Tests.{eq-eqb}
use mathlib.Core.Path.{◌≡◌, sym, ◌∙◌, ap}
use mathlib.Core.Bool.{true, false}
use mathlib.Core.List.{List}
use lib.ListN.{length}
use Rattle.checks.specs.Checks.{if_ok}
use Rattle.checks.proofs.Laws.{check_holds, check_fails, if_ok_old}
use Rattle.octets_words.specs.Words.{word_octets}
use Rattle.gateway_state.specs.declared.Outcome.{Outcome}
use Rattle.model.specs.Model.{Call}
use Rattle.model.specs.Theorem.{table_left, buffer_left, buffer_of}
use Rattle.host_result.specs.Packed.{packed, bare}
use Rattle.host_state_block.specs.Block.{block_size, block_of}
use Rattle.host_state_block.specs.Formed.{block_fits, block_in_range}
use Rattle.host_rules.specs.Held.{held, holds_state, as_gateway}
use Rattle.host_rules.specs.Calls.{held_outcome, number_of, result_of, block_after, table_after, buffer_after}

-- what a call's promise says of the number returned, the block, the table and the buffer
abbrev pub Left : Call → List ℕ → List ℕ → ℕ → List ℕ → List ℕ → List ℕ → Type 0
Left call block table r b t x =
    (r ≡ result_of call block table)
    × ((b ≡ block_after call block table) × ((t ≡ table_after call block table) × (x ≡ buffer_after call block table)))

-- ---- before the gateway is asked

module _ (call : Call) (block table : List ℕ) where
  -- refused before the gateway is asked
  early : (k : ℕ) → (k ≡ 0 → ⊥) → holds_state block ≡ false → number_of call block table ≡ k → Left call block table (bare k) block table (buffer_of call)
  unfolding result_of block_after table_after buffer_after
  early k n h e = (
    rw (h, e),
    (
      sym (if_ok_old (number_of call block table) _ _ (λ z. n (sym e ∙ z))),
      (sym (if_ok_old (number_of call block table) _ _ (λ z. n (sym e ∙ z))), rw h),
    ),
  )

  pub left_20 : block_fits block ≡ false → Left call block table (bare 20) block table (buffer_of call)
  unfolding number_of holds_state
  left_20 e = early 20 (λ z. absurd (omega (arith, z))) (rw e) (check_fails (block_fits block) 20 _ e)

  pub left_1 : block_fits block ≡ true → block_in_range block ≡ false → Left call block table (bare 1) block table (buffer_of call)
  unfolding number_of holds_state
  left_1 f e =
      early 1 (λ z. absurd (omega (arith, z))) (rw (f, e)) (check_holds (block_fits block) 20 _ f ∙ check_fails (block_in_range block) 1 _ e)

  -- ---- the gateway's answer

  module _ (long : length block ≡ block_size) (ranged : block_in_range block ≡ true) (out : Outcome) (t b : List ℕ) (is : out ≡ held_outcome call block table)
      (ts : t ≡ table_left (as_gateway call) (held block table)) (bs : b ≡ buffer_left (as_gateway call) (held block table)) where
    fits : block_fits block ≡ true
    fits = eq-eqb (length block) block_size long

    holds : holds_state block ≡ true
    unfolding holds_state
    holds = rw (fits, ranged)

    number_is : number_of call block table ≡ out.answer
    unfolding number_of
    number_is = check_holds (block_fits block) 20 _ fits ∙ check_holds (block_in_range block) 1 _ ranged ∙ ap (λ (o : Outcome). o.answer) (sym is)

    pub left_by : (block' table' : List ℕ) → block' ≡ if_ok out.answer (block_of out.state) block → table' ≡ if_ok out.answer (word_octets t) table
        → Left call block table (packed out.answer out.first out.second) block' table' b
    unfolding result_of block_after table_after buffer_after
    left_by block' table' p q = (
      rw (holds, ← is),
      (
        p ∙ rw (number_is, ← is),
        (q ∙ rw (number_is, ← ts), bs ∙ rw holds),
      ),
    )

    -- refused: nothing is touched but the buffer
    pub left_refused : (out.answer ≡ 0 → ⊥) → Left call block table (packed out.answer out.first out.second) block table b
    left_refused n = left_by block table (sym (if_ok_old _ _ _ n)) (sym (if_ok_old _ _ _ n))
