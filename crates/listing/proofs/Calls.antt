-- Laws of the call: its checks, a refusal, and the text written. Assumes nothing.
use Prim.Native.Nat.{ℕ, ◌≤◌, ◌<◌}
use native.Mathlib.Omega.{arith}
use borrow.Author.Tests.{eq-eqb, ne_eqb, eqb-true, le-leb, lt-leb, leb-true}
use mathlib.Core.Bool.{Bool, true, false, ◌&&◌}
use mathlib.Core.Path.{◌≡◌, sym, ap, ◌∙◌}
use mathlib.Core.List.{List}
use lib.Dec.{leb}
use lib.ListN.{length}
use Rattle.checks.proofs.Laws.{and_left, check_holds, check_fails, if_ok_new, if_ok_old}
use Rattle.checks.specs.Checks.{check}
use Rattle.checks.specs.Lists.{every}
use Rattle.octets.specs.Buffer.{over}
use Rattle.gateway_state.specs.declared.State.{State}
use Rattle.gateway_state.specs.declared.Outcome.{Outcome}
use Rattle.gateway_state.specs.Formed.{state_formed}
use Rattle.gateway_state.specs.Outcomes.{refused_of}
use Rattle.gateway_rules.specs.Calls.{table_fits, lent_checks}
use Rattle.gateway_rules.proofs.Checks.{lent_passed}
use Rattle.listing_lines.specs.Lines.{listing_text}
use Rattle.listing_lines.specs.Listing.{entries, listable, listing_checks, listing_outcome, listing_buffer}
use Rattle.listing.specs.Claims.{Typed}
use Rattle.listing.proofs.Bound.{short}

-- ---- the first check that fails answers

module _ (st : State) (table : List ℕ) (octets : ℕ) where
  abbrev Answer : ℕ → Type 0
  Answer k = (buffer : List ℕ) → length buffer ≡ octets → k ≡ listing_checks st table buffer

  pub unformed : state_formed st ≡ false → Answer 1
  unfolding listing_checks lent_checks
  unformed f buffer q = sym (check_fails (state_formed st) 1 _ f)

  module _ (f : state_formed st ≡ true) where
    held : (ok : Bool) (rest : ℕ) → ok ≡ true → check (state_formed st) 1 (check ok 2 rest) ≡ rest
    held ok rest e = check_holds (state_formed st) 1 _ f ∙ check_holds ok 2 rest e

    failed : (ok : Bool) (rest : ℕ) → ok ≡ false → check (state_formed st) 1 (check ok 2 rest) ≡ 2
    failed ok rest e = check_holds (state_formed st) 1 _ f ∙ check_fails ok 2 rest e

    pub unfit : (length table ≡ 3072 → ⊥) → Answer 2
    unfolding listing_checks lent_checks
    unfit n buffer q = sym (failed (table_fits table && every listable (entries st table)) _ (rw (ne_eqb (length table) 3072 n)))

    module _ (t : length table ≡ 3072) where
      pub unmarked : every listable (entries st table) ≡ false → Answer 2
      unfolding listing_checks lent_checks
      unmarked m buffer q = sym (failed (table_fits table && every listable (entries st table)) _ (rw (eq-eqb (length table) 3072 t) m))

      module _ (m : every listable (entries st table) ≡ true) where
        good : (table_fits table && every listable (entries st table)) ≡ true
        good = rw (eq-eqb (length table) 3072 t) m

        pub short_buffer : octets < 65536 → Answer 3
        unfolding listing_checks lent_checks
        short_buffer b buffer q =
            sym (held (table_fits table && every listable (entries st table)) _ good ∙ check_fails (leb 65536 (length buffer)) 3 0 (lt-leb 65536 (length buffer) (rw q b)))

        pub all_passed : 65536 ≤ octets → Answer 0
        unfolding listing_checks lent_checks
        all_passed b buffer q =
            sym (held (table_fits table && every listable (entries st table)) _ good ∙ check_holds (leb 65536 (length buffer)) 3 0 (le-leb 65536 (length buffer) (rw q b)))

-- ---- refused, and carried out

module _ (st : State) (table buffer : List ℕ) (k : ℕ) (e : k ≡ listing_checks st table buffer) where
  pub refused : (k ≡ 0 → ⊥) → (out : Outcome) → out ≡ refused_of st k → (out ≡ listing_outcome st table buffer) × (buffer ≡ listing_buffer st table buffer)
  unfolding listing_outcome listing_buffer
  refused n out f =
      let z : listing_checks st table buffer ≡ 0 → ⊥ = λ q. n (e ∙ q) in
      (f ∙ ap (refused_of st) e ∙ sym (if_ok_old _ _ _ z), sym (if_ok_old _ _ _ z))

  module _ (z : k ≡ 0) where
    passed : (state_formed st ≡ true) × (length table ≡ 3072) × (65536 ≤ length buffer)
    unfolding listing_checks
    passed =
        let p = lent_passed st (table_fits table && every listable (entries st table)) (leb 65536 (length buffer)) 0 (sym e ∙ z) in (
          p.formed,
          eqb-true (length table) 3072 (and_left (table_fits table) (every listable (entries st table)) p.numbers),
          leb-true 65536 (length buffer) p.octets,
        )

    module _ (t : Typed st) where
      pub text_room : ((state_formed st ≡ true) × (length table ≡ 3072)) × (length (listing_text (entries st table)) ≤ length buffer)
      text_room = ((passed.0, passed.1), omega (arith, short.text st table t passed.0, passed.2))

      pub text_word : (n : ℕ) → n ≡ length (listing_text (entries st table)) → n < 65536
      text_word n q = omega (arith, short.text st table t passed.0)

      pub carried_out_lem : (n : ℕ) (new : List ℕ) → (n ≡ length (listing_text (entries st table))) × (new ≡ over (listing_text (entries st table)) buffer)
          → (◌≡◌ {A = Outcome} (record { answer = 0; first = n; second = 0; state = st }) (listing_outcome st table buffer)) × (new ≡ listing_buffer st table buffer)
      unfolding listing_outcome listing_buffer
      carried_out_lem n new q =
          let done : listing_checks st table buffer ≡ 0 = sym e ∙ z in
          (rw q.0 (sym (if_ok_new _ _ _ done)), q.1 ∙ sym (if_ok_new _ _ _ done))
