-- Laws of the table of kinds. Assumes nothing.
use Prim.Native.Nat.{ℕ}
use native.Mathlib.Omega.{arith}
use borrow.Author.Tests.{eqb-true}
use mathlib.Core.Path.{◌≡◌, refl}
use mathlib.Core.Bool.{Bool, true, false, cond, ◌&&◌}
use mathlib.Core.List.{List, [], ◌∷◌}
use lib.Dec.{eqb}
use Rattle.message.specs.Kinds.{type_of, code_of, among, all_kinds, kind_at}
use Rattle.message.specs.declared.Kind.{Kind}
use Rattle.message.specs.declared.Kind.TheVariants.{Request, Confirm, Refuse, Cease, CeaseAck, Hello, IHeardYou, Poll, Update, Error}
use Rattle.std.specs.Prelude.{Some}

among_pair : (ks : List Kind) (number code : ℕ) (k : Kind) → among ks number code ≡ Some k → (number ≡ type_of k) × (code ≡ code_of k)
among_pair [] number code k e = let z : ◌≡◌ {A = ℕ} 0 1 = cc in absurd (omega arith)
among_pair (j ∷ ks) number code k e = go (eqb number (type_of j)) refl (eqb code (code_of j)) refl (among_pair ks number code k) e
  where
    go : (a : Bool) → eqb number (type_of j) ≡ a → (b : Bool) → eqb code (code_of j) ≡ b
        → (among ks number code ≡ Some k → (number ≡ type_of k) × (code ≡ code_of k))
        → cond (a && b) (Some j) (among ks number code) ≡ Some k → (number ≡ type_of k) × (code ≡ code_of k)
    go true p true q ih e =
        let same : j ≡ k = cc in
        rw (← same) (eqb-true number (type_of j) p, eqb-true code (code_of j) q)
    go true p false q ih e = ih e
    go false p b q ih e = ih e

-- a kind is named by its own type and code alone
pub kind_pair : (number code : ℕ) (k : Kind) → kind_at number code ≡ Some k → (number ≡ type_of k) × (code ≡ code_of k)
unfolding kind_at
kind_pair number code k e = among_pair all_kinds number code k e

-- the type and code of a kind name it
pub kind_named : (k : Kind) → kind_at (type_of k) (code_of k) ≡ Some k
unfolding kind_at
kind_named Request = refl
kind_named Confirm = refl
kind_named Refuse = refl
kind_named Cease = refl
kind_named CeaseAck = refl
kind_named Hello = refl
kind_named IHeardYou = refl
kind_named Poll = refl
kind_named Update = refl
kind_named Error = refl
