-- A turn does its part of what is due, on whatever piece of the recording it is handed; a refused one does nothing.
-- Assumes nothing.
use Prim.Native.Nat.{ℕ, zero, suc, ◌-◌, ◌≤◌, ◌<◌, zero-le}
use native.Mathlib.Nat.{le_refl}
use native.Mathlib.Omega.{arith}
use mathlib.Core.Path.{◌≡◌, refl, sym, ap, subst, ◌∙◌}
use mathlib.Core.Bool.{Bool, true, false, cond, not, ◌&&◌}
use mathlib.Core.List.{List, [], ◌∷◌, ◌++◌}
use lib.Dec.{ltb, eqb}
use lib.ListN.{length, take, drop}
use borrow.Author.Tests.{ltb-true, ltb-false, lt-ltb, le-leb, eqb-false, ne_eqb}
use Rattle.checks.specs.Checks.{check, if_ok}
use Rattle.checks.proofs.Laws.{cond_elim}
use Rattle.model.specs.Model as M
use Rattle.model.specs.Theorem.{gateway_step}
use Rattle.recording_trace.specs.declared.Telling.{Telling}
use Rattle.recording_call.specs.Told.{lent, passed_after, happened_by, call_text, on}
use Rattle.recording_gather.specs.declared.Gathered.{Gathered}
use Rattle.recording_gather.specs.Gathering.{gathered, line_after, line_held}
use Rattle.recording_player.specs.declared.Player.{Player}
use Rattle.recording_player.specs.Player.{holding, due, having, passing, telling_of, Step, line_fits, given, with_used, silent_step, call_step, line_step, tick_step, ended_line, free_step, call_checks, line_checked, turn_checked, turn_step, only_holds, held_of}
use Rattle.recording_theorem.specs.Output.{RecordedLine, ended, lines_from, ticks, telling}
use Rattle.recording_theorem.specs.Theorem.{Deck}
use Rattle.recording_theorem.proofs.Held.{used_most, line_in, lines_after, lines_after_lem, Holds, holds_none, holds_piece, holds_line, holds_front}
use Rattle.recording_theorem.proofs.Due.{Due, saying, calls_due, remaining, remaining_broken, remaining_late, call_due}
use Rattle.recording_theorem.proofs.LineEnds.{stands_call, Kept, kept_late, Follows, line_follows}

-- a refused turn has not touched the line buffer
pub refused_holds : (room : Bool) (p : Player) (line table piece : List ℕ) → (turn_checked room p line table piece ≡ 0 → ⊥) → held_of p line piece ≡ line
unfolding turn_checked held_of only_holds check
refused_holds room p line table piece n =
    go p.broken (ltb 0 p.ticks) (line_fits line) (gathered 0 p.held piece).ended (call_checks room p.state (length table)) (line_checked room p table (ended_line p line piece)) n
  where
    go : (b t f e : Bool) (x y : ℕ) → (cond b 0 (cond t x (cond f (cond e y 0) 3)) ≡ 0 → ⊥)
        → cond (not b && not t && f && not e) (line_after p.held line piece) line ≡ line
    go true t f e x y h = refl
    go false true f e x y h = refl
    go false false false e x y h = refl
    go false false true true x y h = refl
    go false false true false x y h = absurd (h refl)

-- the last of these ticks is the only one
last_of : (a count : ℕ) → eqb (suc count) 1 ≡ eqb (length (ticks a count)) 0
unfolding ticks
last_of a zero = refl
last_of a (suc count) =
    ne_eqb (suc (suc count)) 1 (λ e. absurd (omega (arith, e))) ∙ sym (ne_eqb (length (ticks a (suc count))) 0 (λ e. absurd (omega (arith, e))))

-- a deck between two turns, and all octets of the line that is coming in
pub record Sound (d : Deck) (held : List ℕ) : Type 0 where
  pub holds : Holds held d.player.held d.line
  pub kept : Kept d.player d.table

-- what is due of a deck, with these octets still to come
unfoldable pub due_of : Deck → List ℕ → List ℕ → Due
due_of d held input = remaining d.player d.table (lines_from held input)

abbrev pub deck_of : Step → List ℕ → Deck
deck_of s buffer = record { player = s.player; line = buffer; table = s.table }

pub record Turned (d : Deck) (held piece left : List ℕ) (s : Step) (buffer : List ℕ) : Type 0 where
  pub next : List ℕ
  pub sound : Sound (deck_of s buffer) next
  pub same : due_of d held (piece ++ left) ≡ saying s.text (due_of (deck_of s buffer) next (drop s.used piece ++ left))

module _ (d : Deck) (held piece left : List ℕ) (ok : Sound d held) where
  abbrev p : Player
  p = d.player

  abbrev free : Step
  free = free_step p d.line d.table piece

  abbrev after : List ℕ
  after = held_of p d.line piece

  -- the step and the line buffer, each by its own fact
  by_step : (s : Step) (buffer : List ℕ) → free ≡ s → after ≡ buffer
      → (next : List ℕ) → Sound (deck_of s buffer) next
      → remaining p d.table (lines_from held (piece ++ left)) ≡ saying s.text (remaining s.player s.table (lines_from next (drop s.used piece ++ left)))
      → Turned d held piece left free after
  unfolding due_of
  by_step s buffer e b next sound same =
      subst (λ (x : Step). Turned d held piece left x after) (sym e) (subst (λ (x : List ℕ). Turned d held piece left s x) (sym b) made)
    where
      made : Turned d held piece left s buffer
      made = record { next = next; sound = sound; same = same }

  fits : line_fits d.line ≡ true
  unfolding line_fits
  fits = le-leb 4118 (length d.line) ok.holds.room

  broken_turn : p.broken ≡ true → Turned d held piece left free after
  unfolding free_step held_of only_holds silent_step with_used saying
  broken_turn e =
      by_step (with_used (length piece) (silent_step p d.table 0)) d.line (rw e) (rw e) held ok
      (remaining_broken p d.table (lines_from held (piece ++ left)) e ∙ sym (remaining_broken p d.table (lines_from held (drop (length piece) piece ++ left)) e))

  module _ (f : p.broken ≡ false) where
    -- a tick is made, and one less is due
    module _ (count : ℕ) (e : p.ticks ≡ suc count) (late : 5 ≤ p.lines) where
      abbrev call : M.Call
      call = M.tick p.address lent

      abbrev ticked : Step
      ticked = tick_step p d.table

      -- the last of the line's ticks is told of as that
      same_telling : telling_of p p.passed (eqb p.ticks 1) ≡ telling p.traced p.lines p.passed (ticks p.address count)
      unfolding telling_of telling
      same_telling = λ i. record { traced = p.traced; line = p.lines; passed = p.passed; last = (ap (λ (n : ℕ). eqb n 1) e ∙ last_of p.address count) i }

      tick_same : (l : List RecordedLine) → remaining p d.table l ≡ saying ticked.text (remaining ticked.player ticked.table l)
      unfolding tick_step call_step due having passing gateway_step on ticks
      tick_same l =
          let b = on p.state d.table in
          let rest = ticks p.address count in
          let so = same_telling in
          let due-of : (n : ℕ) → n ≡ count
          → calls_due p.traced p.lines ticked.player.passed (gateway_step call b) (ticks p.address n) l
          ≡ calls_due p.traced p.lines ticked.player.passed (gateway_step call b) rest l =
          λ n k. ap (λ (m : ℕ). calls_due p.traced p.lines ticked.player.passed (gateway_step call b) (ticks p.address m) l) k in
          remaining_late p d.table l f late ∙ ap (λ (n : ℕ). calls_due p.traced p.lines p.passed b (ticks p.address n) l) e
          ∙ call_due p.traced p.lines p.passed b call rest l
          ∙ ap (λ (t : Telling). saying (call_text t call b) (calls_due p.traced p.lines (passed_after t (happened_by call b)) (gateway_step call b) rest l)) (sym so)
          ∙ ap (saying ticked.text) (sym (remaining_late ticked.player ticked.table l f late ∙ due-of (p.ticks - 1) (omega (arith, e))))

      tick_kept : Kept ticked.player ticked.table
      unfolding tick_step call_step due having passing gateway_step on
      tick_kept = kept_late ticked.player ticked.table late f (omega (arith, ok.kept.few)) (stands_call (on p.state d.table) call (ok.kept.stands f (omega (arith, late))))

      tick_turn : Turned d held piece left free after
      unfolding free_step held_of only_holds tick_step call_step due having passing
      tick_turn =
          let t = lt-ltb 0 p.ticks (omega (arith, e)) in
          by_step ticked d.line (rw (f, t)) (rw (f, t)) held
          (record { holds = ok.holds; kept = tick_kept })
          (tick_same (lines_from held (piece ++ left)))

    -- no tick is due: the piece ends a line, or all of it is held
    module _ (z : p.ticks ≡ 0) where
      abbrev g : Gathered
      g = gathered 0 p.held piece

      line_is : line_held g.held (line_after p.held (take 4118 d.line) piece) ≡ take 4118 (line_in held piece)
      line_is =
          holds_line (line_in held piece) g.held (line_after p.held (take 4118 d.line) piece)
          (holds_piece held p.held (take 4118 d.line) piece (holds_front held p.held d.line ok.holds))

      line_turn : g.ended ≡ true → Turned d held piece left free after
      unfolding free_step held_of only_holds lines_after with_used ended_line
      line_turn e =
          let t : ltb 0 p.ticks ≡ false = rw z in
          let line = line_held g.held (line_after p.held (take 4118 d.line) piece) in
          let s = line_step p d.table line in
          let rest = lines_from [] (drop g.used piece ++ left) in
          let follows : Follows s (remaining p d.table (ended (line_in held piece) ∷ rest)) rest =
          rw line_is (line_follows p d.table (line_in held piece) rest f z ok.kept) in
          by_step (with_used g.used s) d.line (rw (f, t, e)) (rw (f, t, fits, e)) []
          (record { holds = rw follows.none (holds_none d.line ok.holds.room); kept = follows.kept })
          (ap (remaining p d.table) (lines_after_lem held p.held piece left ∙ rw e) ∙ follows.same)

      held_turn : g.ended ≡ false → Turned d held piece left free after
      unfolding free_step held_of only_holds lines_after silent_step with_used holding saying remaining
      held_turn e =
          let t : ltb 0 p.ticks ≡ false = rw z in
          by_step (with_used g.used (silent_step (holding p g.held) d.table 0)) (line_after p.held d.line piece) (rw (f, t, e)) (rw (f, t, fits, e)) (line_in held piece)
          (record {
            holds = holds_piece held p.held d.line piece ok.holds;
            kept = record { idle = ok.kept.idle; early = ok.kept.early; still = ok.kept.still; started = λ f e. record { took = (ok.kept.started f e).took; state = (ok.kept.started f e).state }; stands = ok.kept.stands; few = ok.kept.few };
          })
          (ap (remaining p d.table) (lines_after_lem held p.held piece left ∙ rw e))

    playing_turn : Turned d held piece left free after
    playing_turn = go p.ticks refl
      where
        by_line : p.ticks ≡ 0 → (b : Bool) → (gathered 0 p.held piece).ended ≡ b → Turned d held piece left free after
        by_line z true e = line_turn z e
        by_line z false e = held_turn z e

        late : (b : Bool) → ltb p.lines 5 ≡ b → 0 < p.ticks → 5 ≤ p.lines
        late true e k = absurd (omega (arith, k, ok.kept.idle (ltb-true p.lines 5 e)))
        late false e k = ltb-false p.lines 5 e

        go : (n : ℕ) → p.ticks ≡ n → Turned d held piece left free after
        go zero e = by_line e (gathered 0 p.held piece).ended refl
        go (suc count) e = tick_turn count e (late (ltb p.lines 5) refl (omega (arith, e)))

  -- with all that it asks for
  pub free_turned : Turned d held piece left free after
  free_turned = go p.broken refl
    where
      go : (b : Bool) → p.broken ≡ b → Turned d held piece left free after
      go true e = broken_turn e
      go false e = playing_turn e

  -- refused: all is as given
  refused_turn : (answer : ℕ) → after ≡ d.line → Turned d held piece left (silent_step p d.table answer) after
  unfolding silent_step saying due_of
  refused_turn answer e = rw e (record { next = held; sound = ok; same = refl })

  pub turned : (room : Bool) → Turned d held piece left (turn_step room p d.line d.table piece) after
  unfolding turn_step given if_ok
  turned room =
      cond_elim (λ (s : Step). Turned d held piece left s after) (eqb (turn_checked room p d.line d.table piece) 0) free _ (λ e. free_turned)
      (λ e. refused_turn (turn_checked room p d.line d.table piece) (refused_holds room p d.line d.table piece (eqb-false (turn_checked room p d.line d.table piece) 0 e)))

-- no turn uses more than it is handed
free_within : (p : Player) (line table piece : List ℕ) → (free_step p line table piece).used ≤ length piece
unfolding free_step with_used tick_step call_step
free_within p line table piece =
    cond_elim (λ (s : Step). s.used ≤ length piece) p.broken _ _ (λ e. le_refl (length piece))
    (λ e. cond_elim (λ (s : Step). s.used ≤ length piece) (ltb 0 p.ticks) _ _ (λ t. zero-le) (λ t. used_most p.held piece))

pub used_within : (room : Bool) (p : Player) (line table piece : List ℕ) → (turn_step room p line table piece).used ≤ length piece
unfolding turn_step given if_ok silent_step
used_within room p line table piece =
    cond_elim (λ (s : Step). s.used ≤ length piece) (eqb (turn_checked room p line table piece) 0) _ _ (λ e. free_within p line table piece) (λ e. zero-le)
