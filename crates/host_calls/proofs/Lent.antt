-- Laws of the checks 20, 1, 2 and 3 of what a host lends. Assumes nothing.
use Prim.Native.Nat.{ℕ, ◌≤◌, ◌<◌}
use native.Mathlib.Omega.{arith}
use borrow.Author.Tests.{eq-eqb, ne_eqb, eqb-true, le-leb, lt-leb, leb-true}
use mathlib.Core.Path.{◌≡◌, refl, sym, ◌∙◌}
use mathlib.Core.Bool.{Bool, true, false, ◌&&◌}
use mathlib.Core.List.{List}
use lib.Dec.{leb}
use lib.ListN.{length}
use Rattle.checks.specs.Checks.{check}
use Rattle.checks.proofs.Laws.{and_left, and_right, check_holds, check_fails, check_passed}
use Rattle.gateway_state.specs.Formed.{state_formed}
use Rattle.neighbour_machine.specs.Intrinsics.{Intrinsic}
use Rattle.gateway_rules.specs.Calls.{table_fits, buffer_fits, lent_checks, event_checks, message_checks}
use Rattle.gateway_calls.proofs.Checks.{lent_fails}
use Rattle.host_state_block.specs.Block.{block_size, state_in}
use Rattle.host_state_block.specs.Formed.{block_fits, block_in_range, block_formed}
use Rattle.host_rules.specs.Held.{table_size, table_in}
use Rattle.host_rules.proofs.Held.{table_fits_lem, table_short, table_size_lem}
use Rattle.host_calls.specs.Steps.{host_checks, host_lent}

-- ---- each check

either : (a b : Bool) (rest : ℕ) → (a && b) ≡ false → check a 1 (check b 1 rest) ≡ 1
unfolding check
either true true rest n = let z : ◌≡◌ {A = ℕ} 0 1 = cc in absurd (omega arith)
either true false rest n = refl
either false b rest n = refl

module _ (block : List ℕ) (numbers octets : ℕ) where
  abbrev Lent : ℕ → Type 0
  Lent k = (table buffer : List ℕ) → length table ≡ numbers → length buffer ≡ octets → k ≡ host_lent block table buffer

  pub lent_20 : (length block ≡ block_size → ⊥) → Lent 20
  unfolding host_checks
  lent_20 n table buffer p q = sym (check_fails (block_fits block) 20 _ (ne_eqb (length block) block_size n))

  module _ (f : length block ≡ block_size) where
    fits : (rest : ℕ) → check (block_fits block) 20 rest ≡ rest
    fits rest = check_holds (block_fits block) 20 rest (eq-eqb (length block) block_size f)

    pub lent_1 : block_formed block ≡ false → Lent 1
    unfolding host_checks lent_checks block_formed
    lent_1 n table buffer p q = sym (fits _ ∙ either (block_in_range block) (state_formed (state_in block)) _ n)

    module _ (h : block_formed block ≡ true) where
      ranged : block_in_range block ≡ true
      unfolding block_formed
      ranged = and_left (block_in_range block) (state_formed (state_in block)) h

      formed : state_formed (state_in block) ≡ true
      unfolding block_formed
      formed = and_right (block_in_range block) (state_formed (state_in block)) h

      passed : (rest : ℕ) → check (block_fits block) 20 (check (block_in_range block) 1 (check (state_formed (state_in block)) 1 rest)) ≡ rest
      passed rest =
          fits _ ∙ check_holds (block_in_range block) 1 _ ranged ∙ check_holds (state_formed (state_in block)) 1 rest formed

      pub lent_2 : (numbers ≡ table_size → ⊥) → Lent 2
      unfolding host_checks lent_checks
      lent_2 n table buffer p q = sym (passed _ ∙ check_fails (table_fits (table_in table)) 2 _ (table_short table (λ e. n (sym p ∙ e))))

      module _ (t : numbers ≡ table_size) where
        long : (table : List ℕ) (rest : ℕ) → length table ≡ numbers → check (table_fits (table_in table)) 2 rest ≡ rest
        long table rest p = check_holds (table_fits (table_in table)) 2 rest (table_fits_lem table (p ∙ t))

        pub lent_3 : octets < 2048 → Lent 3
        unfolding host_checks lent_checks
        lent_3 b table buffer p q =
            sym (passed _ ∙ long table _ p ∙ check_fails (leb 2048 (length buffer)) 3 _ (lt-leb 2048 (length buffer) (rw q b)))

        pub lent_0 : 2048 ≤ octets → Lent 0
        unfolding host_checks lent_checks
        lent_0 b table buffer p q =
            sym (passed _ ∙ long table _ p ∙ check_holds (leb 2048 (length buffer)) 3 _ (le-leb 2048 (length buffer) (rw q b)))

-- ---- what they say once they passed

pub record Good (block table buffer : List ℕ) : Type 0 where
  pub long : length block ≡ block_size
  pub ranged : block_in_range block ≡ true
  pub lent : lent_checks (state_in block) (table_fits (table_in table)) (buffer_fits buffer) 0 ≡ 0
  pub table_size_lem : length table ≡ table_size
  pub room : 2048 ≤ length buffer

pub lent_good : (block table buffer : List ℕ) → host_lent block table buffer ≡ 0 → Good block table buffer
unfolding host_checks lent_checks
lent_good block table buffer e =
    let one = check_passed (block_fits block) 20 _ refl e in
    let two = check_passed (block_in_range block) 1 _ refl one.1 in
    let three = check_passed (state_formed (state_in block)) 1 _ refl two.1 in
    let four = check_passed (table_fits (table_in table)) 2 _ refl three.1 in
    let five = check_passed (leb 2048 (length buffer)) 3 _ refl four.1 in
    record {
      long = eqb-true (length block) block_size one.0;
      ranged = two.0;
      lent = two.1;
      table_size_lem = table_size_lem table (eqb-true (length (table_in table)) 3072 four.0);
      room = leb-true 2048 (length buffer) five.0;
    }

module _ (block table buffer : List ℕ) (e : 0 ≡ host_lent block table buffer) where
  pub lent_long : block_size ≤ length block
  lent_long = omega (arith, (lent_good block table buffer (sym e)).long)

  -- what comes after them is asked then
  pub lent_then : (rest : ℕ) → host_checks block rest ≡ rest
  unfolding host_checks
  lent_then rest =
      let met = lent_good block table buffer (sym e) in
      check_holds (block_fits block) 20 _ (eq-eqb (length block) block_size met.long) ∙ check_holds (block_in_range block) 1 rest met.ranged

  pub lent_met : 0 ≡ lent_checks (state_in block) (table_fits (table_in table)) (buffer_fits buffer) 0
  lent_met = sym (lent_good block table buffer (sym e)).lent

-- the number of the first that fails, whatever comes after them
module _ (block table buffer : List ℕ) (k : ℕ) (n : k ≡ 0 → ⊥) (e : k ≡ host_lent block table buffer) where
  lent_before : (rest : ℕ) → k ≡ host_checks block (lent_checks (state_in block) (table_fits (table_in table)) (buffer_fits buffer) rest)
  unfolding host_checks check
  lent_before rest = go (block_fits block) (block_in_range block) e
    where
      go : (f r : Bool) → k ≡ check f 20 (check r 1 (lent_checks (state_in block) (table_fits (table_in table)) (buffer_fits buffer) 0))
          → k ≡ check f 20 (check r 1 (lent_checks (state_in block) (table_fits (table_in table)) (buffer_fits buffer) rest))
      go false r e = e
      go true false e = e
      go true true e = lent_fails (state_in block) (table_fits (table_in table)) (buffer_fits buffer) rest k n e

  pub event_before : (event : Intrinsic) (a : ℕ) → k ≡ host_checks block (event_checks event (state_in block) (table_in table) buffer a)
  unfolding event_checks
  event_before event a = lent_before _

  pub message_before : (home : List ℕ) (a : ℕ) → k ≡ host_checks block (message_checks (state_in block) (table_in table) buffer home a)
  unfolding message_checks
  message_before home a = lent_before _
