-- What a turn about one neighbour answers, and what stands in a slot once another was put. Assumes nothing.
use Prim.Native.Nat.{ℕ, ◌<◌}
use native.Mathlib.Omega.{arith}
use mathlib.Core.Path.{◌≡◌, refl, sym, ap}
use mathlib.Core.Bool.{Bool, true, false, cond, ◌&&◌}
use mathlib.Core.List.{List}
use lib.Dec.{eqb}
use lib.Seq.{get_or-set_same, get_or-set_other}
use borrow.Author.Tests.{eqb-true, eqb-false}
use Rattle.checks.specs.Checks.{if_ok}
use Rattle.nets.specs.Rows.{Row}
use Rattle.neighbour.specs.declared.Settings.{Settings}
use Rattle.neighbour_machine.specs.Intrinsics.{Intrinsic}
use Rattle.model.specs.Model as Calls
use Rattle.model.specs.Model.{Slot, free, used, Model, slot_in, put, spoken, Move, no_move, moved, event_move, turn_at}
use Rattle.model.proofs.Represent.{Good}
use Rattle.model.proofs.Simulation.{spoken_answer}

-- the answer of a turn: its own checks, then its move's
pub turn_zero : (m : Model) (k place : ℕ) (move : Move) (home : List Row) → eqb (turn_at m k place move home).said.answer 0 ≡ (eqb k 0 && eqb move.answer 0)
unfolding turn_at if_ok Calls.silent
turn_zero m k place move home = go (eqb k 0) refl
  where
    go : (b : Bool) → eqb k 0 ≡ b → eqb (cond b (spoken move.answer move.reply home) (Calls.silent k)).answer 0 ≡ (b && eqb move.answer 0)
    go true e = ap (λ (x : ℕ). eqb x 0) (spoken_answer move.answer move.reply home)
    go false e = e

pub event_zero : (g : Settings) (event : Intrinsic) (slot : Slot) → (event_move g event slot).answer ≡ 0
unfolding event_move no_move moved
event_zero g event free = refl
event_zero g event (used peer) = refl

module _ (m : Model) (ok : Good m) (j : ℕ) (j8 : j < 8) where
  -- a slot put at i where the answer is 0
  pub put_elim : (P : Slot → Type 0) (k i : ℕ) (new : Slot) → (k ≡ 0 → i ≡ j → P new) → ((eqb k 0 && eqb i j) ≡ false → P (slot_in m j))
      → P (slot_in (if_ok k (put m i new) m) j)
  unfolding if_ok slot_in put
  put_elim P k i new p q = go (eqb k 0) refl (eqb i j) refl
    where
      go : (a : Bool) → eqb k 0 ≡ a → (b : Bool) → eqb i j ≡ b → P (slot_in (cond (eqb k 0) (put m i new) m) j)
      go false e b f = rw e (q (rw e))
      go true e true f = rw (e, eqb-true i j f, get_or-set_same m.slots j new free (omega (arith, ok.eight))) (p (eqb-true k 0 e) (eqb-true i j f))
      go true e false f = rw (e, get_or-set_other m.slots i j new free (λ x. eqb-false i j f (sym x))) (q (rw (e, f)))
