-- Laws of the reading stages. Assumes nothing.
use Prim.Native.Nat.{ℕ, ◌≤◌, ◌<◌}
use borrow.Author.Tests.{leb-true, eqb-true, le-leb, lt-leb, eq-eqb, ne_eqb}
use mathlib.Core.Path.{◌≡◌, refl, sym, ◌∙◌}
use mathlib.Core.Bool.{◌&&◌, and-false}
use mathlib.Core.List.{List}
use lib.ListN.{length, get_or}
use lib.Dec.{leb, eqb}
use Rattle.std.specs.Prelude.{Ok}
use Rattle.checks.proofs.Laws.{and_left, and_right, check_passed, checked_answer, answer_ok}
use Rattle.checks.specs.Checks.{check}
use Rattle.octets.specs.Numbers.{word16}
use Rattle.octets_checksum.specs.Checksum.{checksum_of}
use Rattle.message_reading.specs.Reading.{size_allowed, version_is2, checksum_holds, header_answer, header_of}

-- the header stage as a list of checks
pub header_checks : (o : List ℕ) → header_answer o ≡ check (size_allowed o) 6 (check (version_is2 o) 7 (check (checksum_holds o) 8 0))
unfolding header_answer header_of
header_checks o = simp checked_answer

-- the header stage, check by check
module _ (o : List ℕ) where
  pub header_short : length o < 10 → 6 ≡ header_answer o
  unfolding header_answer header_of
  header_short h = rw (lt-leb 10 (length o) h)

  pub header_long : 2048 < length o → 6 ≡ header_answer o
  unfolding header_answer header_of
  header_long h = rw (lt-leb (length o) 2048 h, and-false)

  module _ (low : 10 ≤ length o) (high : length o ≤ 2048) where
    pub header_version : (v : ℕ) → v ≡ get_or o 0 0 → (v ≡ 2 → ⊥) → 7 ≡ header_answer o
    unfolding header_answer header_of
    header_version v e n = rw (le-leb 10 (length o) low, le-leb (length o) 2048 high, ← e, ne_eqb v 2 n)

    module _ (v : ℕ) (e : v ≡ get_or o 0 0) (t : v ≡ 2) (w s : ℕ) (we : w ≡ word16 o 4) (se : s ≡ checksum_of o) where
      pub header_checksum : (w ≡ s → ⊥) → 8 ≡ header_answer o
      unfolding header_answer header_of
      header_checksum n =
          rw (le-leb 10 (length o) low, le-leb (length o) 2048 high, ← e, eq-eqb v 2 t, ← we, ← se, ne_eqb w s n)

-- what the header stage found where it passed
pub record HeaderGood (o : List ℕ) : Type 0 where
  pub low : 10 ≤ length o
  pub high : length o ≤ 2048
  pub version : get_or o 0 0 ≡ 2
  pub field : word16 o 4 ≡ checksum_of o

pub header_passed : (o : List ℕ) → header_answer o ≡ 0 → HeaderGood o
header_passed o e =
    let a = check_passed (leb 10 (length o) && leb (length o) 2048) 6 (check (eqb (get_or o 0 0) 2) 7 (check (eqb (word16 o 4) (checksum_of o)) 8 0)) refl (sym (header_checks o) ∙ e) in
    let b = check_passed (eqb (get_or o 0 0) 2) 7 (check (eqb (word16 o 4) (checksum_of o)) 8 0) refl a.1 in
    let c = check_passed (eqb (word16 o 4) (checksum_of o)) 8 0 refl b.1 in
    record {
      low = leb-true _ _ (and_left (leb 10 (length o)) (leb (length o) 2048) a.0);
      high = leb-true _ _ (and_right (leb 10 (length o)) (leb (length o) 2048) a.0);
      version = eqb-true _ _ b.0;
      field = eqb-true _ _ c.0;
    }

pub header_good : (o : List ℕ) → HeaderGood o → header_answer o ≡ 0
unfolding header_answer header_of
header_good o h = rw (le-leb _ _ h.low, le-leb _ _ h.high, eq-eqb _ _ h.version, eq-eqb _ _ h.field)

-- an answer 0 is no refusal
pub header_ok : (o : List ℕ) → header_answer o ≡ 0 → header_of o ≡ Ok tt
unfolding header_answer
header_ok o e = answer_ok (header_of o) e
