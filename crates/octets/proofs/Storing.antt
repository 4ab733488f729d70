-- Laws of octets stored one part after the other. Assumes nothing.
use Prim.Native.Nat.{ℕ, suc, ◌+◌, ◌≤◌, ◌<◌}
use native.Mathlib.Numerals.{add-one}
use native.Mathlib.Omega.{arith}
use mathlib.Core.Path.{◌≡◌, refl, sym, ap, ◌∙◌}
use mathlib.Core.List.{List, [], ◌∷◌, ◌++◌}
use lib.ListN.{length, drop, get_or, set, length-append}
use lib.Seq.{drop-cons, sets, length-sets}
use Rattle.octets.specs.Written.{Written}
use Rattle.octets.proofs.Numbers.{sets_append}

-- one more octet copied
pub copy_turn : (out src : List ℕ) (at i : ℕ) → i < length src
    → sets out (at + i) (drop i src) ≡ sets (set out (at + i) (get_or src i 0)) (at + (i + 1)) (drop (i + 1) src)
copy_turn out src at i h =
    let e : suc (at + i) ≡ at + (i + 1) = omega arith in
    ap (sets out (at + i)) (drop-cons src i 0 h) ∙ ap (λ (k : ℕ). sets (set out (at + i) (get_or src i 0)) k (drop (suc i) src)) e
    ∙ ap (λ (k : ℕ). sets (set out (at + i) (get_or src i 0)) (at + (i + 1)) (drop k src)) (sym (add-one i))

-- a single octet
pub written_one : (v at : ℕ) (old : List ℕ) → Written (v ∷ []) at old (set old at v) (at + 1)
written_one v at old = record { list = refl; after = refl }

pub written_append : (xs ys : List ℕ) {at : ℕ} {old mid new : List ℕ} {middle end : ℕ} → Written xs at old mid middle → Written ys middle mid new end → Written (xs ++ ys) at old new end
written_append xs ys {at} {old} {middle = middle} p q =
    let l = length-append xs ys in
    record {
      list = q.list ∙ ap (λ (m : List ℕ). sets m middle ys) p.list ∙ ap (λ (i : ℕ). sets (sets old at xs) i ys) p.after ∙ sym (sets_append old at xs ys);
      after = omega (arith, p.after, q.after);
    }

-- what is left to write of total: octets rest from index o on, now that the buffer is out
pub record Writing (total : List ℕ) (at : ℕ) (old rest : List ℕ) (o : ℕ) (out : List ℕ) : Type 0 where
  pub fits : o + length rest ≤ length out
  pub long : length out ≡ length old
  pub same : sets old at total ≡ sets out o rest
  pub after : at + length total ≡ o + length rest

pub start : (total : List ℕ) (at : ℕ) (old : List ℕ) → at + length total ≤ length old → Writing total at old total at old
start total at old h = record { fits = h; long = refl; same = refl; after = refl }

module _ {total : List ℕ} {at : ℕ} {old rest : List ℕ} {o : ℕ} {out : List ℕ} (w : Writing total at old rest o out) where
  pub room : (xs ys : List ℕ) → rest ≡ xs ++ ys → o + length xs ≤ length out
  room xs ys e = omega (arith, w.fits, simp length-append at (ap length e))

  pub turn : (xs ys : List ℕ) {new : List ℕ} {end : ℕ} → rest ≡ xs ++ ys → Written xs o out new end → Writing total at old ys end new
  turn xs ys {new} {end} e d =
      let k : length new ≡ length out = ap length d.list ∙ length-sets out o xs in
      let l : length rest ≡ length xs + length ys = simp length-append at (ap length e) in
      record {
        fits = omega (arith, w.fits, d.after);
        long = k ∙ w.long;
        same = w.same ∙ ap (sets out o) e ∙ sets_append out o xs ys ∙ rw (d.list, d.after);
        after = omega (arith, w.after, d.after);
      }

  pub done : rest ≡ [] → Written total at old out o
  done e =
      let l : length rest ≡ 0 = ap length e in
      record { list = sym (w.same ∙ ap (sets out o) e); after = omega (arith, w.after) }

  -- the last part
  pub last : {new : List ℕ} {end : ℕ} → Written rest o out new end → Written total at old new end
  last d = record { list = d.list ∙ sym w.same; after = omega (arith, w.after, d.after) }
