-- A refusal changes nothing. Assumes nothing.
use Prim.Native.Nat.{ℕ}
use mathlib.Core.Path.{◌≡◌, refl}
use mathlib.Core.Bool.{Bool, true, false, cond}
use mathlib.Core.List.{List}
use mathlib.Core.Logic.{◌⊎◌, inl, inr}
use lib.Dec.{ltb}
use borrow.Author.Tests.{ne_eqb}
use Rattle.checks.specs.Checks.{check, if_ok}
use Rattle.checks.proofs.Laws.{cond_elim}
use Rattle.recording_player.specs.declared.Player.{Player}
use Rattle.recording_player.specs.Player.{Step, report_check, given, reported, silent_step, bad_step, broken_step, turn_checked, turn_step, close_step, finish_step}
use Rattle.recording_theorem.specs.Theorem.{as_given, Refusals}
use Rattle.recording_theorem.proofs.Turns.{refused_holds}

refused_turn : (room : Bool) (p : Player) (line table input : List ℕ) → (turn_checked room p line table input ≡ 0 → ⊥)
    → turn_step room p line table input ≡ as_given p table (turn_checked room p line table input)
unfolding turn_step given if_ok silent_step as_given
refused_turn room p line table input n = rw (ne_eqb (turn_checked room p line table input) 0 n)

refused_close : (room : Bool) (p : Player) (table : List ℕ) → (close_step room p table ≡ close_step true p table) ⊎ (close_step room p table ≡ as_given p table 19)
unfolding close_step reported report_check check given if_ok silent_step bad_step broken_step as_given
refused_close true p table = inl refl
refused_close false p table = go p.broken (ltb p.lines 4) (ltb 0 p.held)
  where
    go : (b l h : Bool)
        → (cond b (silent_step p table 0) (cond l (reported false p table 0 (broken_step p table 19)) (cond h (reported false p table 0 (bad_step p table)) (silent_step p table 0)))
        ≡ cond b (silent_step p table 0) (cond l (reported true p table 0 (broken_step p table 19)) (cond h (reported true p table 0 (bad_step p table)) (silent_step p table 0))))
        ⊎ (cond b (silent_step p table 0) (cond l (reported false p table 0 (broken_step p table 19)) (cond h (reported false p table 0 (bad_step p table)) (silent_step p table 0)))
        ≡ as_given p table 19)
    go true l h = inl refl
    go false true h = inr refl
    go false false true = inr refl
    go false false false = inl refl

refused_finish : (out : List ℕ) (p : Player) (table : List ℕ) → ((finish_step out p table).player ≡ p) × ((finish_step out p table).table ≡ table)
unfolding finish_step silent_step
refused_finish out p table =
    cond_elim (λ (s : Step). (s.player ≡ p) × (s.table ≡ table)) p.broken _ _ (λ e. (refl, refl))
    (λ e. cond_elim (λ (s : Step). (s.player ≡ p) × (s.table ≡ table)) (ltb p.lines 4) _ _ (λ k. (refl, refl)) (λ k. (refl, refl)))

pub refusals : Refusals
refusals =
    record {
      turn = λ room p line table input n. (refused_turn room p line table input n, refused_holds room p line table input n);
      close = refused_close;
      finish = refused_finish;
    }
