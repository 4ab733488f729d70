-- Laws of readings, for any item read. Assumes nothing.
use Prim.Native.Nat.{ℕ, zero, suc}
use mathlib.Core.Bool.{Bool, true}
use mathlib.Core.Path.{◌≡◌, refl, sym, ap, subst, ◌∙◌}
use mathlib.Core.List.{List, [], ◌∷◌, ◌++◌, map, append_assoc}
use native.Mathlib.Omega.{arith}
use lib.Dec.{ltb}
use lib.ListN.{length}
use Rattle.checks.proofs.Laws.{and_left, and_right, and_both}
use Rattle.checks.specs.Lists.{every, join}
use Rattle.update_walk.specs.Body.{Got, got, stop, and_then, after, many}
use Rattle.update_writing.specs.Blocks.{each}
use Rattle.update_theorem.specs.Trip.{octets_only}

-- every item of a list has a property
abbrev pub AllOf : {A : Type 0} → (A → Type 0) → List A → Type 0
AllOf P [] = Unit {0}
AllOf P (x ∷ xs) = P x × AllOf P xs

module _ {A : Type 0} where
  pub every_all : (p : A → Bool) (xs : List A) → every p xs ≡ true → AllOf (λ x. p x ≡ true) xs
  unfolding every
  every_all p [] e = tt
  every_all p (x ∷ xs) e = (and_left (p x) (every p xs) e, every_all p xs (and_right (p x) (every p xs) e))

  pub all_every : (p : A → Bool) (xs : List A) → AllOf (λ x. p x ≡ true) xs → every p xs ≡ true
  unfolding every
  all_every p [] h = refl
  all_every p (x ∷ xs) h = and_both (p x) (every p xs) h.0 (all_every p xs h.1)

  pub all_map : {P Q : A → Type 0} → ((x : A) → P x → Q x) → (xs : List A) → AllOf P xs → AllOf Q xs
  all_map f [] h = tt
  all_map f (x ∷ xs) h = (f x h.0, all_map f xs h.1)

  pub all_append : (P : A → Type 0) (xs ys : List A) → AllOf P xs → AllOf P ys → AllOf P (xs ++ ys)
  all_append P [] ys h k = k
  all_append P (x ∷ xs) ys h k = (h.0, all_append P xs ys h.1 k)

  pub all_left : (P : A → Type 0) (xs ys : List A) → AllOf P (xs ++ ys) → AllOf P xs
  all_left P [] ys h = tt
  all_left P (x ∷ xs) ys h = (h.0, all_left P xs ys h.1)

  pub all_right : (P : A → Type 0) (xs ys : List A) → AllOf P (xs ++ ys) → AllOf P ys
  all_right P [] ys h = h
  all_right P (x ∷ xs) ys h = all_right P xs ys h.1

  pub each_single : (xs : List A) → each (λ (x : A). x ∷ []) xs ≡ xs
  unfolding each
  each_single [] = refl
  each_single (x ∷ xs) = ap (λ (l : List A). x ∷ l) (each_single xs)

module _ {A B : Type 0} where
  pub all_each : (P : B → Type 0) (give : A → List B) (xs : List A) → AllOf (λ x. AllOf P (give x)) xs → AllOf P (each give xs)
  unfolding each
  all_each P give [] h = tt
  all_each P give (x ∷ xs) h = all_append P (give x) (each give xs) h.0 (all_each P give xs h.1)

  pub each_append : (give : A → List B) (xs ys : List A) → each give (xs ++ ys) ≡ each give xs ++ each give ys
  unfolding each
  each_append give [] ys = refl
  each_append give (x ∷ xs) ys = ap (λ (l : List B). give x ++ l) (each_append give xs ys) ∙ sym (append_assoc (give x) (each give xs) (each give ys))

  pub each_same : (give hand : A → List B) (xs : List A) → AllOf (λ x. give x ≡ hand x) xs → each give xs ≡ each hand xs
  unfolding each
  each_same give hand [] h = refl
  each_same give hand (x ∷ xs) h = rw (h.0, each_same give hand xs h.1)

module _ {A B C : Type 0} where
  pub each_map : (give : B → List C) (f : A → B) (xs : List A) → each give (map f xs) ≡ each (λ x. give (f x)) xs
  unfolding each
  each_map give f [] = refl
  each_map give f (x ∷ xs) = ap (λ (l : List C). give (f x) ++ l) (each_map give f xs)

-- a list of octets, in parts
pub octets_left : (p q : List ℕ) → octets_only (p ++ q) ≡ true → octets_only p ≡ true
unfolding octets_only
octets_left p q e = all_every (λ octet. ltb octet 256) p (all_left _ p q (every_all (λ octet. ltb octet 256) (p ++ q) e))

pub octets_right : (p q : List ℕ) → octets_only (p ++ q) ≡ true → octets_only q ≡ true
unfolding octets_only
octets_right p q e = all_every (λ octet. ltb octet 256) q (all_right _ p q (every_all (λ octet. ltb octet 256) (p ++ q) e))

-- f reads the octets p, whatever follows them, as xs
abbrev pub Reads : {X : Type 0} → (List ℕ → Got (List X)) → List ℕ → List X → Type 0
Reads f p xs = (q : List ℕ) → f (p ++ q) ≡ got xs q

pub many_reads : {A X : Type 0} (f : List ℕ → Got (List X)) (enc : A → List ℕ) (val : A → List X) (items : List A)
    → AllOf (λ a. Reads f (enc a) (val a)) items → Reads (many f (length items)) (each enc items) (each val items)
unfolding many each
many_reads f enc val [] h q = refl
many_reads f enc val (a ∷ items) h q = rw (append_assoc (enc a) (each enc items) q, h.0 (each enc items ++ q), many_reads f enc val items h.1 q)

-- a reading of items, each spread out to what it holds
unfoldable pub spread : {X Y : Type 0} → (X → List Y) → Got (List X) → Got (List Y)
spread hold (got xs t) = got (each hold xs) t
spread hold (stop left) = stop left

module _ {A B : Type 0} where
  pub join_each : (give : A → List B) (xs : List A) → join (map give xs) ≡ each give xs
  unfolding join each
  join_each give [] = refl
  join_each give (x ∷ xs) = ap (λ (l : List B). give x ++ l) (join_each give xs)

-- what was read as xs, with rest after it, is one item with a property, and these were its octets
pub record One {X : Type 0} (enc : X → List ℕ) (P : X → Type 0) (t : List ℕ) (xs : List X) (rest : List ℕ) : Type 0 where
  pub item : X
  pub only : xs ≡ item ∷ []
  pub octets : t ≡ enc item ++ rest
  pub fact : P item

-- or n items
pub record Several {X : Type 0} (enc : X → List ℕ) (P : X → Type 0) (n : ℕ) (t : List ℕ) (xs : List X) (rest : List ℕ) : Type 0 where
  pub number : length xs ≡ n
  pub octets : t ≡ each enc xs ++ rest
  pub facts : AllOf P xs

-- wherever f reads octets, it reads one item
abbrev pub Ones : {X : Type 0} → (List ℕ → Got (List X)) → (X → List ℕ) → (X → Type 0) → Type 0
Ones f enc P = (t : List ℕ) → octets_only t ≡ true → (xs : List _) (rest : List ℕ) → f t ≡ got xs rest → One enc P t xs rest

pub never : {A : Type 0} {X : Type 0} {left : ℕ} {x : X} {t : List ℕ} → ◌≡◌ {A = Got X} (stop left) (got x t) → A
never e = let z : ◌≡◌ {A = ℕ} 0 1 = cc in absurd (omega arith)

module _ {X : Type 0} (f : List ℕ → Got (List X)) (enc : X → List ℕ) (P : X → Type 0) (one : Ones f enc P) where
  several_none : (t : List ℕ) (xs : List X) (rest : List ℕ) → ◌≡◌ {A = Got (List X)} (got [] t) (got xs rest) → Several enc P 0 t xs rest
  unfolding each
  several_none t xs rest e =
      let p : [] ≡ xs = cc in
      let q : t ≡ rest = cc in
      subst (λ (l : List X). Several enc P 0 t l rest) p (record { number = refl; octets = q; facts = tt })

  several_more : (n : ℕ) (t : List ℕ) (ys zs : List X) (r rest : List ℕ) → One enc P t ys r → Several enc P n r zs rest → Several enc P (suc n) t (ys ++ zs) rest
  unfolding each
  several_more n t ys zs r rest o s =
      subst (λ (l : List X). Several enc P (suc n) t (l ++ zs) rest) (sym o.only)
      (record {
        number = ap suc s.number;
        octets = o.octets ∙ ap (λ (l : List ℕ). enc o.item ++ l) s.octets ∙ sym (append_assoc (enc o.item) (each enc zs) rest);
        facts = (o.fact, s.facts);
      })

  pub many_unreads : (n : ℕ) (t : List ℕ) → octets_only t ≡ true → (xs : List X) (rest : List ℕ) → many f n t ≡ got xs rest → Several enc P n t xs rest
  unfolding many
  many_unreads zero t b xs rest e = several_none t xs rest e
  many_unreads (suc n) t b xs rest e = go (f t) refl (many_unreads n) e
    where
      next : (ys : List X) (r : List ℕ) → One enc P t ys r → (g : Got (List X)) → ((zs : List X) (end : List ℕ) → g ≡ got zs end → Several enc P n r zs end)
          → after ys g ≡ got xs rest → Several enc P (suc n) t xs rest
      next ys r o (got zs end) ih e =
          let p : ys ++ zs ≡ xs = cc in
          let q : end ≡ rest = cc in
          subst (λ (l : List X). Several enc P (suc n) t l rest) p (several_more n t ys zs r rest o (ih zs rest (ap (λ (k : List ℕ). got zs k) q)))
      next ys r o (stop left) ih e = never e

      go : (g : Got (List X)) → f t ≡ g
          → ((t : List ℕ) → octets_only t ≡ true → (xs : List X) (rest : List ℕ) → many f n t ≡ got xs rest → Several enc P n t xs rest)
          → and_then g (λ ys r. after ys (many f n r)) ≡ got xs rest → Several enc P (suc n) t xs rest
      go (got ys r) h ih e =
          let o = one t b ys r h in
          next ys r o (many f n r) (λ zs end k. ih r (octets_right (enc o.item) r (ap octets_only (sym o.octets) ∙ b)) zs end k) e
      go (stop left) h ih e = never e
