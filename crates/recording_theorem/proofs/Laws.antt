-- Laws of lists, and of what a list of calls leaves and shows. Assumes nothing.
use Prim.Native.Nat.{ℕ, ◌≤◌}
use native.Mathlib.Omega.{arith}
use mathlib.Core.Path.{◌≡◌, refl, sym, ap, ◌∙◌}
use mathlib.Core.Bool.{Bool, true, false, cond, not, ◌&&◌}
use mathlib.Core.List.{List, [], ◌∷◌, ◌++◌, map, append_assoc}
use lib.Dec.{leb, eqb}
use lib.ListN.{length, take, drop, take-append-drop}
use lib.Seq.{drop-append-le}
use borrow.Author.Tests.{le-leb}
use Rattle.checks.specs.Checks.{check}
use Rattle.checks.specs.Lists.{every, join}
use Rattle.checks.proofs.Laws.{and_left, and_right, and_both}
use Rattle.nets.specs.Classes.{good_net, on_net}
use Rattle.neighbour.specs.declared.Settings.{Settings}
use Rattle.neighbour.specs.Record.{with_quiet}
use Rattle.gateway_state.specs.Formed.{good_settings}
use Rattle.gateway_state.specs.Outcomes.{silent_of}
use Rattle.gateway_slots.specs.Calls.{fresh_answer, fresh_of}
use Rattle.model.specs.Model as M
use Rattle.model.specs.Theorem.{Gateway, gateway_step, gateway_from}

-- ---- lists

pub no_length : {A : Type 0} (l : List A) → length l ≡ 0 → l ≡ []
no_length [] h = refl
no_length (x ∷ l) h = absurd (omega arith)

module _ {A : Type 0} (p : A → Bool) where
  pub every_append : (l m : List A) → every p l ≡ true → every p m ≡ true → every p (l ++ m) ≡ true
  unfolding every
  every_append [] m h k = k
  every_append (x ∷ l) m h k =
      and_both (p x) (every p (l ++ m)) (and_left (p x) (every p l) h) (every_append l m (and_right (p x) (every p l) h) k)

module _ {A B : Type 0} (f : A → List B) where
  pub join_append : (l m : List A) → join (map f (l ++ m)) ≡ join (map f l) ++ join (map f m)
  unfolding join
  join_append [] m = refl
  join_append (x ∷ l) m =
      ap (λ (r : List B). f x ++ r) (join_append l m) ∙ sym (append_assoc (f x) (join (map f l)) (join (map f m)))

-- what is left of a list, where its front was cut off and part of that used
pub left_of : (size used : ℕ) (l : List ℕ) → used ≤ length (take size l) → drop used (take size l) ++ drop size l ≡ drop used l
left_of size used l h =
    sym (drop-append-le used (take size l) (drop size l) h) ∙ ap (drop used) (take-append-drop size l)

-- ---- calls

pub run_append : (b : Gateway) (calls more : List M.Call) → gateway_from b (calls ++ more) ≡ gateway_from (gateway_from b calls) more
unfolding gateway_from
run_append b [] more = refl
run_append b (call ∷ calls) more = run_append (gateway_step call b) calls more

pub said_append : (m : M.Model) (calls more : List M.Call) → M.said_from m (calls ++ more) ≡ M.said_from m calls ++ M.said_from (M.model_from m calls) more
unfolding M.model_from M.said_from
said_append m [] more = refl
said_append m (call ∷ calls) more = ap (λ (r : List M.Said). (M.step call m).said ∷ r) (said_append (M.step call m).model calls more)

-- ---- fresh

-- settings that fresh takes it takes with either `quiet`
pub quiet_taken : (g : Settings) (n : ℕ) → (fresh_of g).answer ≡ 0 → n ≤ 1 → (fresh_of (with_quiet g n)).answer ≡ 0
unfolding fresh_of silent_of fresh_answer check good_settings
quiet_taken g n e h =
    rw (le-leb n 1 h)
    (go (not (eqb g.asn 0)) (leb g.capability 2) (leb g.quiet 1) (good_net g.net) (on_net g.net g.own) e)
  where
    go : (a b c d f : Bool) → ◌≡◌ {A = ℕ} (cond (a && b && c && d && f) 0 16) 0 → ◌≡◌ {A = ℕ} (cond (a && b && true && d && f) 0 16) 0
    go false b c d f e = absurd (omega (arith, e))
    go true false c d f e = absurd (omega (arith, e))
    go true true false d f e = absurd (omega (arith, e))
    go true true true d f e = e
