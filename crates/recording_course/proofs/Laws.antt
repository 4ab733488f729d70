-- What the stages, the rest of a piece and a step are, test by test. Assumes nothing.
use Prim.Native.Nat.{ℕ, ◌+◌, ◌-◌, ◌≤◌, ◌<◌, min}
use native.Mathlib.Omega.{arith}
use mathlib.Core.Path.{◌≡◌, refl, sym, ap, subst, ◌∙◌}
use mathlib.Core.Bool.{Bool, true, false, false≢true}
use mathlib.Core.Logic.{◌⊎◌, inl, inr}
use mathlib.Core.List.{List, []}
use lib.Dec.{eqb}
use lib.ListN.{length, take, drop, length-take, length-drop}
use Rattle.octets.specs.Buffer.{over}
use Rattle.recording_player.specs.declared.Player.{Player}
use Rattle.recording_player.specs.declared.Told.{Told}
use Rattle.recording_player.specs.Player.{Step, roomy, told_of, turn_step, held_of}
use Rattle.recording_theorem.proofs.Turns.{used_within}
use Rattle.recording_course.specs.declared.Stage.{Stage}
use Rattle.recording_course.specs.declared.Stage.TheVariants.{Read, Play, Over}
use Rattle.recording_course.specs.declared.Course.{Course}
use Rattle.recording_course.specs.declared.Went.{Went}
use Rattle.recording_course.specs.Course.{given_of, Stepped, went_of, rest_of, next_stage, turned_to, play_on, play_step, ended_by, still_on, course_at, course_step}

-- ---- what the host says

pub given_some : (c : Course) (good : Bool) (size : ℕ) → good ≡ true → eqb size 0 ≡ false
    → given_of c good size ≡ record { player = c.player; stage = Play; from = 0; to = size }
unfolding given_of
given_some c true size e z = rw z
given_some c false size e z = absurd (false≢true e)

-- ---- the rest of a piece

pub rest_none : (from to : ℕ) (piece : List ℕ) (end : ℕ) → end ≡ min to (length piece) → end < from → [] ≡ rest_of from to piece
unfolding rest_of
rest_none from to piece end e k =
    let z : min to (length piece) - from ≡ 0 = omega (arith, e, k) in
    sym (ap (λ (n : ℕ). take n (drop from piece)) z)

pub rest_some : (from to : ℕ) (piece : List ℕ) (end : ℕ) → end ≡ min to (length piece) → take (end - from) (drop from piece) ≡ rest_of from to piece
unfolding rest_of
rest_some from to piece end e = ap (λ (n : ℕ). take (n - from) (drop from piece)) e

pub rest_within : (from to : ℕ) (piece : List ℕ) → length (rest_of from to piece) ≤ length piece - from
unfolding rest_of
rest_within from to piece = rw (length-take (min to (length piece) - from) (drop from piece), length-drop from piece) (omega arith)

-- ---- a turn

-- what a turn says that it used is within the rest
module _ (room : Bool) (p : Player) (line table rest : List ℕ) (r : Told) (e : r ≡ told_of (turn_step room p line table rest)) where
  pub used_fits : r.used ≤ length rest
  unfolding told_of
  used_fits = rw e (used_within room p line table rest)

  -- the next turn begins within the piece
  pub from_fits : (from to : ℕ) (piece : List ℕ) → rest ≡ rest_of from to piece → r.used ≤ length piece - from
  from_fits from to piece f =
      let g : length rest ≤ length piece - from = rw f (rest_within from to piece) in
      omega (arith, g, used_fits)

-- the course after a turn is as it is told of
module _ (c : Course) (out line table piece rest : List ℕ) (at : rest ≡ rest_of c.from c.to piece) where
  abbrev turned : Step
  turned = turn_step (roomy out) c.player line table rest

  on_piece : play_on (roomy out) c line table rest ≡ play_step out c line table piece
  unfolding play_step
  on_piece = ap (play_on (roomy out) c line table) at

  pub played_on : (t : Told) → t ≡ told_of turned
      → (stage : Stage) → stage ≡ next_stage t.player (length rest - t.used)
      → (line' table' out' : List ℕ) → line' ≡ held_of c.player line rest → table' ≡ turned.table → out' ≡ over turned.text out
      → (◌≡◌ {A = Went} (record { course = record { player = t.player; stage = stage; from = c.from + t.used; to = c.to }; written = t.written })
      (went_of (play_step out c line table piece)))
      × ((line' ≡ (play_step out c line table piece).line)
      × ((table' ≡ (play_step out c line table piece).table) × (out' ≡ over (play_step out c line table piece).text out)))
  unfolding told_of went_of play_on turned_to
  played_on t h stage k line' table' out' l m o =
      let ks = k ∙ ap (λ (u : Told). next_stage u.player (length rest - u.used)) h in (
        (λ i. record { course = record { player = (h i).player; stage = ks i; from = c.from + (h i).used; to = c.to }; written = (h i).written })
            ∙ ap went_of on_piece,
        (
          l ∙ ap (λ (s : Stepped). s.line) on_piece,
          (m ∙ ap (λ (s : Stepped). s.table) on_piece, o ∙ ap (λ (s : Stepped). over s.text out) on_piece),
        ),
      )

-- close and listing
pub ended_by_lem : (c : Course) (s : Step) (stage : Stage) (line table : List ℕ) (t : Told) → t ≡ told_of s
    → ◌≡◌ {A = Went} (record { course = record { player = t.player; stage = stage; from = c.from; to = c.to }; written = t.written }) (went_of (ended_by c s stage line table))
unfolding told_of went_of ended_by
ended_by_lem c s stage line table t h =
    λ i. record { course = record { player = (h i).player; stage = stage; from = c.from; to = c.to }; written = (h i).written }

-- ---- a step

module _ (out : List ℕ) (c : Course) (line table piece : List ℕ) where
  -- what a step leaves, with the buffers after it
  abbrev pub Leaves : Went → List ℕ → List ℕ → List ℕ → Stepped → Type 0
  Leaves r line' table' out' s = record { value : r ≡ went_of s; line_after : line' ≡ s.line; table_after : table' ≡ s.table; out_after : out' ≡ over s.text out }

  pub at_step : (stage : Stage) → c.stage ≡ stage → (r : Went) (line' table' out' : List ℕ)
      → Leaves r line' table' out' (course_at stage out c line table piece) → Leaves r line' table' out' (course_step out c line table piece)
  unfolding course_step
  at_step stage e r line' table' out' h = subst (λ (s : Stage). Leaves r line' table' out' (course_at s out c line table piece)) (sym e) h

  -- where a read comes next, or nothing
  pub still : (c.stage ≡ Read) ⊎ (c.stage ≡ Over) → Leaves (record { course = c; written = 0 }) line table out (course_step out c line table piece)
  unfolding course_at still_on went_of over
  still (inl e) = at_step Read e _ _ _ _ (record { value = refl; line_after = refl; table_after = refl; out_after = refl })
  still (inr e) = at_step Over e _ _ _ _ (record { value = refl; line_after = refl; table_after = refl; out_after = refl })
