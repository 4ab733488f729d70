-- What a call leaves, once its checks have answered. Assumes nothing.
use Prim.Native.Nat.{ℕ}
use mathlib.Core.Path.{◌≡◌, refl, ap}
use mathlib.Core.Bool.{Bool, true, false, cond, ◌&&◌, false≢true}
use mathlib.Core.List.{List}
use lib.Dec.{eqb}
use borrow.Author.Tests.{eqb-true, eqb-false}
use Rattle.checks.specs.Checks.{if_ok}
use Rattle.neighbour.specs.Record.{is_up}
use Rattle.neighbour.specs.declared.Phase.{Phase}
use Rattle.neighbour.specs.declared.Phase.TheVariants as Phases
use Rattle.neighbour.specs.declared.Settings.{Settings}
use Rattle.neighbour.specs.declared.Neighbour.{Neighbour}
use Rattle.neighbour.specs.Rules.{same}
use Rattle.message.specs.Kinds.{kind_of}
use Rattle.message.specs.declared.Kind.TheVariants as K
use Rattle.message.specs.declared.Message.{Message}
use Rattle.message.specs.declared.Message.TheVariants as M
use Rattle.neighbour_machine.specs.declared.Event.TheVariants.{Received}
use Rattle.neighbour_machine.specs.Step.{step_of}
use Rattle.neighbour_machine.proofs.Theorems.{update_stays_up}
use Rattle.gateway_state.specs.declared.Outcome.{Outcome}
use Rattle.gateway_rules.specs.Number.{error_head}

pub is_up_lem : (p : Phase) → is_up p ≡ true → p ≡ Phases.Up
is_up_lem Phases.Idle e = absurd (false≢true e)
is_up_lem Phases.Acquisition e = absurd (false≢true e)
is_up_lem Phases.Down e = absurd (false≢true e)
is_up_lem Phases.Up e = refl
is_up_lem Phases.Cease e = absurd (false≢true e)

-- an accepted Update finds and leaves its neighbour Up
pub after_up : (g : Settings) (asn : ℕ) (n : Neighbour) (o : List ℕ) (m : Message) → (same (kind_of m) K.Update && is_up n.phase) ≡ true
    → is_up (step_of g asn n (Received m) (error_head o)).neighbour.phase ≡ true
after_up g asn n o (M.Update a q s net) b = ap is_up (update_stays_up g asn n a q s net (error_head o) (is_up_lem n.phase b)).0
after_up g asn n o (M.Request a q s h p) b = absurd (false≢true b)
after_up g asn n o (M.Confirm a q s h p) b = absurd (false≢true b)
after_up g asn n o (M.Refuse a q s) b = absurd (false≢true b)
after_up g asn n o (M.Cease a q s) b = absurd (false≢true b)
after_up g asn n o (M.CeaseAck a q s) b = absurd (false≢true b)
after_up g asn n o (M.Hello a q s) b = absurd (false≢true b)
after_up g asn n o (M.IHeardYou a q s) b = absurd (false≢true b)
after_up g asn n o (M.Poll a q s net) b = absurd (false≢true b)
after_up g asn n o (M.Error a q s r x y z) b = absurd (false≢true b)

-- the same test decides outcome, table and buffer
pub call_holds : (P : Outcome → List ℕ → List ℕ → Type 0) (c : ℕ) (new old : Outcome) (t t₀ b b₀ : List ℕ) → (c ≡ 0 → P new t b) → ((c ≡ 0 → ⊥) → P old t₀ b₀)
    → P (if_ok c new old) (if_ok c t t₀) (if_ok c b b₀)
unfolding if_ok
call_holds P c new old t t₀ b b₀ p q = go (eqb c 0) refl
  where
    go : (k : Bool) → eqb c 0 ≡ k → P (cond (eqb c 0) new old) (cond (eqb c 0) t t₀) (cond (eqb c 0) b b₀)
    go true e = rw e (p (eqb-true c 0 e))
    go false e = rw e (q (eqb-false c 0 e))
