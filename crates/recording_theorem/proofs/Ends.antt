-- Every recording comes to its end, in pieces of whatever sizes: each turn with room and an octet does some of the work
-- that is left. Assumes nothing.
use Prim.Native.Nat.{ℕ, zero, suc, ◌+◌, ◌*◌, min, ◌≤◌, ◌<◌}
use native.Mathlib.Nat.{le_refl}
use native.Mathlib.Omega.{arith}
use mathlib.Core.Path.{◌≡◌, refl, sym, ap, subst, ◌∙◌}
use mathlib.Core.Bool.{Bool, true, false, cond, ◌&&◌, ◌||◌}
use mathlib.Core.List.{List, [], ◌∷◌}
use lib.Dec.{ltb, eqb}
use lib.ListN.{length, take, drop, length-take, length-drop}
use borrow.Author.Tests.{lt-ltb, ltb-true, ltb-false, le-leb, eqb-false, eq-eqb}
use Rattle.checks.specs.Checks.{check, if_ok}
use Rattle.checks.proofs.Laws.{cond_elim}
use Rattle.gateway_state.specs.declared.State.{State}
use Rattle.gateway_state.specs.Formed.{state_formed}
use Rattle.recording_lines.specs.Lines.{Event, bad, add, remove, start, stop, tick, rx, event_of}
use Rattle.recording_gather.specs.Gathering.{gathered}
use Rattle.model.specs.Theorem.{Gateway}
use Rattle.model.proofs.Represent.{table_length}
use Rattle.model.proofs.Simulation.{represent}
use Rattle.recording_call.specs.Told.{on}
use Rattle.gateway_rules.specs.Calls.{lent_checks}
use Rattle.recording_player.specs.declared.Player.{Player}
use Rattle.recording_player.specs.Player.{beginning, due, having, passing, holding, Step, roomy, line_fits, call_checks, formed_check, report_check, given, with_used, silent_step, call_step, is_setting, event_checked, line_checked, tick_step, ended_line, free_step, turn_checked, turn_step, held_of}
use Rattle.recording_theorem.specs.Theorem as T
use Rattle.recording_theorem.specs.Theorem.{Deck, Lent, step_on, after_turn, writing, drive, is_done, is_plenty, plenty, EveryRecordingEnds}
use Rattle.recording_theorem.proofs.Held.{used_most, used_some}
use Rattle.recording_theorem.proofs.LineEnds.{Stands, Kept, no_setting}
use Rattle.recording_theorem.proofs.Turns.{Sound, deck_of, free_turned, turned}
use Rattle.recording_theorem.proofs.Playing.{start_sound}

-- ---- a turn with room is not refused

lent_passes : (st : State) (table : List ℕ) → Stands (on st table) → call_checks true st (length table) ≡ 0
unfolding lent_checks check on represent
lent_passes st table h =
    rw (
      ap (λ (b : Gateway). state_formed b.state) h.is ∙ h.good.formed,
      eq-eqb (length table) 3072 (ap (λ (b : Gateway). length b.table) h.is ∙ table_length h.model h.good),
    )

formed_passes : (traced : Bool) (st : State) (table : List ℕ) → Stands (on st table) → formed_check traced true st ≡ 0
unfolding formed_check check on represent
formed_passes true st table h = rw (ap (λ (b : Gateway). state_formed b.state) h.is ∙ h.good.formed)
formed_passes false st table h = rw (ap (λ (b : Gateway). state_formed b.state) h.is ∙ h.good.formed)

event_passes : (traced : Bool) (st : State) (table : List ℕ) → Stands (on st table) → (e : Event) → event_checked traced true st (length table) e ≡ 0
unfolding event_checked report_check check
event_passes traced st table h bad = refl
event_passes traced st table h (add a asn) = formed_passes traced st table h
event_passes traced st table h (remove a) = formed_passes traced st table h
event_passes traced st table h (start a) = lent_passes st table h
event_passes traced st table h (stop a) = lent_passes st table h
event_passes traced st table h (tick a count) = refl
event_passes traced st table h (rx a octets) = lent_passes st table h

line_passes : (p : Player) (table line : List ℕ) → p.broken ≡ false → Kept p table → line_checked true p table line ≡ 0
unfolding line_checked report_check check
line_passes p table line f k = go (is_setting p.lines line) refl
  where
    go : (b : Bool) → is_setting p.lines line ≡ b → cond b 0 (event_checked p.traced true p.state (length table) (event_of line)) ≡ 0
    go true e = refl
    go false e = event_passes p.traced p.state table (k.stands f (no_setting p.lines line e)) (event_of line)

-- ---- what is left to do

-- no line asks for more than 86,400 ticks
unfoldable work : Player → List ℕ → ℕ
work p input = 86401 * length input + cond p.broken 0 p.ticks

module _ (q : Player) (input : List ℕ) where
  work_broken : q.broken ≡ true → work q input ≡ 86401 * length input
  unfolding work
  work_broken e = ap (λ (b : Bool). 86401 * length input + cond b 0 q.ticks) e ∙ omega arith

  work_playing : q.broken ≡ false → work q input ≡ 86401 * length input + q.ticks
  unfolding work
  work_playing e = ap (λ (b : Bool). 86401 * length input + cond b 0 q.ticks) e

  work_most : work q input ≤ 86401 * length input + q.ticks
  unfolding work
  work_most =
      cond_elim (λ (n : ℕ). 86401 * length input + n ≤ 86401 * length input + q.ticks) q.broken 0 q.ticks (λ e. omega arith) (λ e. omega arith)

  work_least : 86401 * length input ≤ work q input
  unfolding work
  work_least = omega arith

-- a choice whose test is known
on_true : {A : Type 0} (b : Bool) (x y : A) → b ≡ true → cond b x y ≡ x
on_true b x y e = rw e

on_false : {A : Type 0} (b : Bool) (x y : A) → b ≡ false → cond b x y ≡ y
on_false b x y e = rw e

-- a turn does not add to it, and one with room and an octet takes from it
record Works (p : Player) (input : List ℕ) (room : Bool) (size : ℕ) (s : Step) : Type 0 where
  no_more : work s.player (drop s.used input) ≤ work p input
  less : room ≡ true → 1 ≤ size → 1 ≤ work p input → suc (work s.player (drop s.used input)) ≤ work p input

module _ (d : Deck) (held : List ℕ) (ok : Sound d held) (room : Bool) (size : ℕ) (input : List ℕ) where
  abbrev p : Player
  p = d.player

  abbrev piece : List ℕ
  piece = take size input

  abbrev free : Step
  free = free_step p d.line d.table piece

  abbrev Working : Step → Type 0
  Working s = Works p input room size s

  short : length piece ≡ min size (length input)
  short = length-take size input

  -- where nothing is done, room is wanting
  idle_works : (answer : ℕ) → (room ≡ true → ⊥) → Working (silent_step p d.table answer)
  unfolding silent_step
  idle_works answer n = record { no_more = le_refl (work p input); less = λ e k w. absurd (n e) }

  given_works : (c : ℕ) (s : Step) → (room ≡ true → c ≡ 0) → Working s → Working (given p d.table c s)
  unfolding given if_ok
  given_works c s h w = cond_elim (λ (x : Step). Works p input room size x) (eqb c 0) s _ (λ e. w) (λ e. idle_works c (λ r. eqb-false c 0 e (h r)))

  -- a broken player uses what it is handed
  broken_works : p.broken ≡ true → Working (with_used (length piece) (silent_step p d.table 0))
  unfolding with_used silent_step
  broken_works e =
      let a = work_broken p input e in
      let b = work_broken p (drop (length piece) input) e in
      let l = length-drop (length piece) input in
      record { no_more = omega (arith, a, b, l, short); less = λ r k w. omega (arith, a, b, l, short, k, w) }

  module _ (f : p.broken ≡ false) where
    tick_works : (count : ℕ) → p.ticks ≡ suc count → Working (tick_step p d.table)
    unfolding tick_step call_step due having passing
    tick_works count e =
        let a = work_playing p input f in
        let b = work_playing (tick_step p d.table).player input f in
        record { no_more = omega (arith, a, b, e); less = λ r k w. omega (arith, a, b, e) }

    module _ (z : p.ticks ≡ 0) where
      not_due : ltb 0 p.ticks ≡ false
      not_due = rw z

      line_uses : free.used ≡ (gathered 0 p.held piece).used
      unfolding free_step with_used
      line_uses = ap (λ (s : Step). s.used) (on_false p.broken _ _ f ∙ on_false (ltb 0 p.ticks) _ _ not_due)

      few : free.player.ticks ≤ 86400
      few = (free_turned d held piece [] ok).sound.kept.few

      some_works : 1 ≤ free.used → free.used ≤ length piece → Working free
      some_works h k =
          let a = work_least p input in
          let b = work_most free.player (drop free.used input) in
          let l = length-drop free.used input in
          record { no_more = omega (arith, a, b, l, h, k, short, few); less = λ r o w. omega (arith, a, b, l, h, k, short, few) }

      -- no octet was handed over
      none_free : free_step p d.line d.table [] ≡ with_used 0 (silent_step (holding p p.held) d.table 0)
      unfolding free_step gathered
      none_free = on_false p.broken _ _ f ∙ on_false (ltb 0 p.ticks) _ _ not_due

      none_works : piece ≡ [] → Working (with_used 0 (silent_step (holding p p.held) d.table 0))
      unfolding with_used silent_step holding
      none_works e =
          let a = work_playing p input f in
          let b = work_playing (holding p p.held) input f in
          let n : length piece ≡ 0 = ap length e in
          record { no_more = omega (arith, a, b, z); less = λ r o w. absurd (omega (arith, a, z, short, n, o, w)) }

      line_works : Working free
      line_works = go piece refl
        where
          go : (l : List ℕ) → piece ≡ l → Working free
          go [] e = subst (λ (s : Step). Works p input room size s) (sym (ap (free_step p d.line d.table) e ∙ none_free)) (none_works e)
          go (octet ∷ rest) e =
              some_works
              (subst (λ (n : ℕ). 1 ≤ n) (sym (line_uses ∙ ap (λ (l : List ℕ). (gathered 0 p.held l).used) e)) (used_some p.held octet rest))
              (subst (λ (n : ℕ). n ≤ length piece) (sym line_uses) (used_most p.held piece))

  -- what a turn with room asks for is there
  passes : room ≡ true → turn_checked room p d.line d.table piece ≡ 0
  unfolding turn_checked line_fits check
  passes r = rw r (go p.broken refl (ltb 0 p.ticks) refl)
    where
      fits : line_fits d.line ≡ true
      fits = le-leb 4118 (length d.line) ok.holds.room

      late : 0 < p.ticks → (b : Bool) → ltb p.lines 4 ≡ b → 4 ≤ p.lines
      late k true e = absurd (omega (arith, k, ok.kept.idle (omega (arith, ltb-true p.lines 4 e))))
      late k false e = ltb-false p.lines 4 e

      line : p.broken ≡ false → (b : Bool) → cond b (line_checked true p d.table (ended_line p d.line piece)) 0 ≡ 0
      line f true = line_passes p d.table (ended_line p d.line piece) f ok.kept
      line f false = refl

      go : (b : Bool) → p.broken ≡ b → (t : Bool) → ltb 0 p.ticks ≡ t
          → cond b 0 (cond t (call_checks true p.state (length d.table))
          (check (line_fits d.line) 3 (cond (gathered 0 p.held piece).ended (line_checked true p d.table (ended_line p d.line piece)) 0))) ≡ 0
      go true f t e = refl
      go false f true e = lent_passes p.state d.table (ok.kept.stands f (late (ltb-true 0 p.ticks e) (ltb p.lines 4) refl))
      go false f false e = rw fits (line f (gathered 0 p.held piece).ended)

  free_broken : p.broken ≡ true → free ≡ with_used (length piece) (silent_step p d.table 0)
  unfolding free_step
  free_broken e = on_true p.broken _ _ e

  free_ticked : (count : ℕ) → p.broken ≡ false → p.ticks ≡ suc count → free ≡ tick_step p d.table
  unfolding free_step
  free_ticked count f e = on_false p.broken _ _ f ∙ on_true (ltb 0 p.ticks) _ _ (lt-ltb 0 p.ticks (omega (arith, e)))

  free_works : Working free
  free_works = go p.broken refl p.ticks refl
    where
      go : (b : Bool) → p.broken ≡ b → (n : ℕ) → p.ticks ≡ n → Working free
      go true f n e = subst (λ (s : Step). Works p input room size s) (sym (free_broken f)) (broken_works f)
      go false f zero e = line_works f e
      go false f (suc count) e = subst (λ (s : Step). Works p input room size s) (sym (free_ticked count f e)) (tick_works f count e)

  works : Works p input room size (turn_step room p d.line d.table piece)
  unfolding turn_step
  works = given_works (turn_checked room p d.line d.table piece) free passes free_works

-- ---- turn after turn

nothing_left_lem : (d : Deck) (input : List ℕ) → work d.player input ≤ 0 → is_done (record { deck = d; rest = input; text = [] }) ≡ true
unfolding work is_done
nothing_left_lem d input h =
    let n : length input ≡ 0 = omega (arith, h) in
    rw (eq-eqb (length input) 0 n) (go d.player.broken d.player.ticks (omega (arith, h)))
  where
    go : (b : Bool) (ticks : ℕ) → cond b 0 ticks ≤ 0 → (b || eqb ticks 0) ≡ true
    go true ticks k = refl
    go false ticks k = eq-eqb ticks 0 (omega (arith, k))

ends : (lents : List Lent) (d : Deck) (held input : List ℕ) → Sound d held → work d.player input ≤ plenty lents → is_done (drive lents d input) ≡ true
unfolding drive plenty is_done writing step_on after_turn is_plenty
ends [] d held input ok h = nothing_left_lem d input h
ends (lent ∷ lents) d held input ok h =
    let room = roomy lent.out in
    let s = turn_step room d.player d.line d.table (take lent.size input) in
    let t = turned d held (take lent.size input) (drop lent.size input) ok room in
    ends lents (deck_of s (held_of d.player d.line (take lent.size input))) t.next (drop s.used input) t.sound
    (go s (works d held ok room lent.size input) (roomy lent.out) refl (ltb 0 lent.size) refl (work d.player input) refl h)
  where
    go : (s : Step) → Works d.player input (roomy lent.out) lent.size s
        → (r : Bool) → roomy lent.out ≡ r → (o : Bool) → ltb 0 lent.size ≡ o → (n : ℕ) → work d.player input ≡ n
        → n ≤ cond (r && o) (suc (plenty lents)) (plenty lents) → work s.player (drop s.used input) ≤ plenty lents
    go s w true e true f zero z k = omega (arith, w.no_more, z)
    go s w true e true f (suc n) z k = omega (arith, w.less e (ltb-true 0 lent.size f) (omega (arith, z)), z, k)
    go s w true e false f n z k = omega (arith, w.no_more, z, k)
    go s w false e o f n z k = omega (arith, w.no_more, z, k)

pub every_recording_ends : EveryRecordingEnds
unfolding work T.fresh_deck beginning
every_recording_ends traced line recording lents fits h =
    ends lents (T.fresh_deck traced line) [] recording (start_sound traced line fits) (omega (arith, begun line, h))
  where
    begun : (line : List ℕ) → work (T.fresh_deck traced line).player recording ≡ 86401 * length recording
    begun line = omega arith
