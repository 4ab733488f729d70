-- Slots put into the model beside each other, and where they are found. Assumes nothing.
use Prim.Native.Nat.{ℕ, zero, suc, ◌≤◌, ◌<◌}
use native.Mathlib.Nat.{le_of_suc-le-suc, not-suc-le-zero}
use mathlib.Core.Path.{◌≡◌, refl, ap}
use mathlib.Core.Bool.{Bool, true, false, cond}
use mathlib.Core.List.{List, [], ◌∷◌}
use lib.ListN.{length, get_or, set}
use lib.Seq.{set_comm}
use Rattle.checks.specs.Lists.{first}
use Rattle.model.specs.Model.{free, slot_in, put, has_address, found_at}
use Rattle.model.specs.Laws.{PutsCommute, PlacesUnderPut}

-- ---- a search, once an element was stored

module _ {A : Type 0} (p : A → Bool) where
  first_set_same : (l : List A) (i : ℕ) (x d : A) → p x ≡ p (get_or l i d) → first p (set l i x) ≡ first p l
  unfolding first
  first_set_same [] i x d e = refl
  first_set_same (y ∷ ys) zero x d e = ap (λ (b : Bool). cond b 0 (suc (first p ys))) e
  first_set_same (y ∷ ys) (suc i) x d e = ap (λ (k : ℕ). cond (p y) 0 (suc k)) (first_set_same ys i x d e)

  first_set_other : (l : List A) (i : ℕ) (x : A) → (first p l ≡ i → ⊥) → p x ≡ false → first p (set l i x) ≡ first p l
  unfolding first
  first_set_other [] i x n e = refl
  first_set_other (y ∷ ys) zero x n e = go (p y) n
    where
      go : (b : Bool) → (cond b 0 (suc (first p ys)) ≡ 0 → ⊥) → cond (p x) 0 (suc (first p ys)) ≡ cond b 0 (suc (first p ys))
      go true k = absurd (k refl)
      go false k = rw e
  first_set_other (y ∷ ys) (suc i) x n e = go (p y) (λ q. first_set_other ys i x q e) n
    where
      go : (b : Bool) → ((first p ys ≡ i → ⊥) → first p (set ys i x) ≡ first p ys) → (cond b 0 (suc (first p ys)) ≡ suc i → ⊥)
          → cond b 0 (suc (first p (set ys i x))) ≡ cond b 0 (suc (first p ys))
      go true r k = refl
      go false r k = ap suc (r (λ q. k (ap suc q)))

  first_set_here : (l : List A) (i : ℕ) (x : A) → i ≤ first p l → i < length l → p x ≡ true → first p (set l i x) ≡ i
  unfolding first
  first_set_here [] i x h k e = absurd (not-suc-le-zero k)
  first_set_here (y ∷ ys) zero x h k e = rw e
  first_set_here (y ∷ ys) (suc i) x h k e = go (p y) (λ q. first_set_here ys i x q (le_of_suc-le-suc k) e) h
    where
      go : (b : Bool) → (i ≤ first p ys → first p (set ys i x) ≡ i) → suc i ≤ cond b 0 (suc (first p ys)) → cond b 0 (suc (first p (set ys i x))) ≡ suc i
      go true r q = absurd (not-suc-le-zero q)
      go false r q = ap suc (r (le_of_suc-le-suc q))

-- ---- the model

pub puts_commute : PutsCommute
unfolding put
puts_commute m i j one other n =
    let e = set_comm m.slots i j one other n in λ k. record { settings = m.settings; slots = e k }

pub places_under_put : PlacesUnderPut
unfolding put found_at slot_in
places_under_put m i slot a =
    record {
      kept = λ e. first_set_same (has_address a) m.slots i slot free e;
      elsewhere = λ n e. first_set_other (has_address a) m.slots i slot n e;
      here = λ h k e. first_set_here (has_address a) m.slots i slot h k e;
    }
