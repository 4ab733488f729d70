-- Laws of octets stored in a buffer. Assumes nothing.
use Prim.Native.Nat.{ℕ, suc, ◌+◌, ◌≤◌}
use native.Mathlib.Nat.{add-zero, zero-add}
use native.Mathlib.Omega.{arith}
use mathlib.Core.Path.{◌≡◌, sym, ap, ◌∙◌}
use mathlib.Core.List.{List, [], ◌∷◌, ◌++◌, append_assoc}
use lib.ListN.{length, set, length-append}
use lib.Seq.{drop-drop, sets, sets-eq}
use borrow.Rule.Slice.PartMut.{put_mid}
use Rattle.octets.specs.Buffer.{over}

-- what stands where a part of that many elements was written
pub sets_part : (l vs ys : List ℕ) (at k : ℕ) → ys ≡ vs → k ≡ length vs → at + length vs ≤ length l → put_mid at k l ys ≡ sets l at vs
sets_part l vs ys at k e n h = rw (e, n, drop-drop, ← append_assoc) (sym (sets-eq vs l at h))

-- one part behind the other
pub sets_append : (l : List ℕ) (at : ℕ) (vs ws : List ℕ) → sets l at (vs ++ ws) ≡ sets (sets l at vs) (at + length vs) ws
sets_append l at [] ws = rw add-zero
sets_append l at (v ∷ vs) ws =
    let e : suc at + length vs ≡ at + suc (length vs) = omega arith in
    sets_append (set l at v) (suc at) vs ws ∙ ap (λ (k : ℕ). sets (sets (set l at v) (suc at) vs) k ws) e

-- from the front on
pub sets_over : (l vs : List ℕ) → length vs ≤ length l → sets l 0 vs ≡ over vs l
unfolding over
sets_over l vs h = sets-eq vs l 0 (omega arith) ∙ rw zero-add

-- behind octets that were laid over the front
pub over_more : (head more buffer x y : List ℕ) (at : ℕ) → x ≡ over head buffer → at ≡ length head → y ≡ sets x at more
    → length head + length more ≤ length buffer → y ≡ over (head ++ more) buffer
over_more head more buffer x y at e n f room =
    let h : length head ≤ length buffer = omega arith in
    let k : length (head ++ more) ≤ length buffer = rw (length-append head more) room in
    rw (f, e, n, ← (sets_over buffer head h), ← (sets_over buffer (head ++ more) k)) (sym (sets_append buffer 0 head more ∙ rw zero-add))
