-- What a step wrote is gathered behind what is held, within the output buffer; and the next step finds room. Assumes nothing.
use Prim.Native.Nat.{ℕ, ◌+◌, ◌-◌, ◌≤◌}
use native.Mathlib.Omega.{arith}
use mathlib.Core.Path.{◌≡◌, sym, ap, ◌∙◌}
use mathlib.Core.Bool.{Bool, true, false, ◌||◌, true≢false}
use mathlib.Core.List.{List, ◌++◌, append_assoc}
use lib.Dec.{ltb}
use lib.ListN.{length, take, drop, length-append, length-drop}
use lib.Seq.{length-take-le, take_all, take_at}
use borrow.Author.Tests.{ltb-false}
use borrow.Rule.Slice.PartMut.{put_mid}
use Rattle.octets.specs.Buffer.{over}
use Rattle.recording_course.specs.declared.Stage.{Stage}
use Rattle.recording_course.specs.declared.Went.{Went}
use Rattle.recording_course.specs.Course.{is_read, is_over, is_due, Stepped, went_of}

-- what is laid over a buffer without making it longer has room in it
module _ (text old new : List ℕ) where
  over_fits : new ≡ over text old → length new ≡ length old → length text ≤ length new
  unfolding over
  over_fits e k =
      let l : length new ≡ length text + (length old - length text) = ap length e ∙ simp (length-append, length-drop) in
      omega arith

front_of_lem : (front text rest behind : List ℕ) (n : ℕ) → length front + length text ≡ n → take n (front ++ ((text ++ rest) ++ behind)) ≡ front ++ text
front_of_lem front text rest behind n e =
    ap (λ (l : List ℕ). take n (front ++ l)) (append_assoc text rest behind)
    ∙ ap (take n) (sym (append_assoc front text (rest ++ behind)))
    ∙ take_at (front ++ text) (rest ++ behind) n (length-append front text ∙ e)

-- a step that was lent the buffer behind what is held
module _ (step : List ℕ → Stepped) (r : Went) (held : ℕ) (old new : List ℕ) (h : held ≤ length old) where
  abbrev part : List ℕ
  part = take (length old - held) (drop held old)

  all_behind : part ≡ drop held old
  all_behind = take_all (length old - held) (drop held old) (omega (arith, length-drop held old))

  module _ (e : r ≡ went_of (step part)) (f : new ≡ over (step part).text part) (k : length new ≡ length part) where
    abbrev after : List ℕ
    after = put_mid held (length old - held) old new

    written_is : r.written ≡ length (step part).text
    unfolding went_of
    written_is = ap (λ (w : Went). w.written) e

    pub held_fits : held + r.written ≤ length after
    held_fits =
        let behind = drop (length old - held) (drop held old) in
        let fits = over_fits (step part).text part new f k in
        omega (arith, h, fits, written_is, length-take-le held old h, length-append (take held old) (new ++ behind), length-append new behind)

    -- what is held then is what was held, and what the step wrote
    pub held_more : take (held + r.written) after ≡ take held old ++ (step (drop held old)).text
    unfolding over
    held_more =
        let text = (step part).text in
        let behind = drop (length old - held) (drop held old) in
        ap (λ (l : List ℕ). take (held + r.written) (take held old ++ (l ++ behind))) f
        ∙ front_of_lem (take held old) text (drop (length text) part) behind (held + r.written) (omega (arith, length-take-le held old h, written_is))
        ∙ ap (λ (l : List ℕ). take held old ++ (step l).text) all_behind

-- where nothing is due
last_false : (a b c : Bool) → (a || (b || c)) ≡ false → c ≡ false
last_false true b c e = absurd (true≢false e)
last_false false true c e = absurd (true≢false e)
last_false false false c e = e

pub room_left : (stage : Stage) (room : ℕ) (due : Bool) → due ≡ is_due stage room → due ≡ false → 65536 ≤ room
unfolding is_due
room_left stage room due e f = ltb-false room 65536 (last_false (is_read stage) (is_over stage) (ltb room 65536) (sym e ∙ f))
