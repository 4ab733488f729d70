-- Laws of texts written one after the other. Assumes nothing.
use Prim.Native.Nat.{ℕ, ◌+◌}
use native.Mathlib.Nat.{zero-add}
use native.Mathlib.Omega.{arith}
use mathlib.Core.Path.{◌≡◌, refl, sym, ap, ◌∙◌}
use mathlib.Core.List.{List, [], ◌++◌, append_assoc, append-nil}
use lib.ListN.{length, length-append}
use lib.Seq.{sets, sets-eq}
use Rattle.octets.specs.Buffer.{over}
use Rattle.octets.proofs.Numbers.{sets_append}
use Rattle.text.specs.declared.Writer.{Writer}
use Rattle.text.specs.Writer.{Puts, HasRoom}

pub puts_nothing : (w : Writer) → Puts [] w w
puts_nothing w = record { same_reference = refl; list = refl; long = refl; after = omega arith }

module _ {xs ys : List ℕ} {a b c : Writer} where
  pub puts_both : Puts xs a b → Puts ys b c → Puts (xs ++ ys) a c
  puts_both p q =
      record {
        same_reference = q.same_reference ∙ p.same_reference;
        list =
            q.list ∙ ap (λ (l : List ℕ). sets l b.end ys) p.list ∙ ap (λ (i : ℕ). sets (sets a.out.now a.end xs) i ys) p.after
            ∙ sym (sets_append a.out.now a.end xs ys);
        long = q.long ∙ p.long;
        after = omega (arith, p.after, q.after, length-append xs ys);
      }

pub room_behind : {xs : List ℕ} (ys : List ℕ) {a b : Writer} → Puts xs a b → HasRoom a (xs ++ ys) → HasRoom b ys
room_behind {xs} ys p h = omega (arith, h, length-append xs ys, p.after, p.long)

-- ---- what is left of a text

-- of this text, written from the first writer on, only this is left, and there is room for it
pub record Left (total : List ℕ) (first : Writer) (rest : List ℕ) (w : Writer) : Type 0 where
  pub part : List ℕ
  pub whole : total ≡ part ++ rest
  pub written : Puts part first w
  pub fits : HasRoom w rest

pub all_left : (total : List ℕ) (w : Writer) → HasRoom w total → Left total w total w
all_left total w h = record { part = []; whole = refl; written = puts_nothing w; fits = h }

module _ {total rest : List ℕ} {first w : Writer} (l : Left total first rest w) where
  module _ (xs ys : List ℕ) (e : rest ≡ xs ++ ys) where
    long : length rest ≡ length xs + length ys
    long = ap length e ∙ length-append xs ys

    pub part_room : HasRoom w xs
    part_room = omega (arith, l.fits, long)

    pub less_left : {next : Writer} → Puts xs w next → Left total first ys next
    less_left p =
        record {
          part = l.part ++ xs;
          whole = l.whole ∙ ap (λ (m : List ℕ). l.part ++ m) e ∙ sym (append_assoc l.part xs ys);
          written = puts_both l.written p;
          fits = omega (arith, l.fits, long, p.after, p.long);
        }

  pub none_left : rest ≡ [] → Puts total first w
  none_left e = rw (l.whole ∙ ap (λ (m : List ℕ). l.part ++ m) e ∙ append-nil l.part) l.written

-- ---- a text at the front of a buffer

pub laid : {total : List ℕ} {old : List ℕ} {first w : Writer} → first.end ≡ 0 → first.out.now ≡ old → HasRoom first total → Puts total first w
    → (w.end ≡ length total) × (w.out.now ≡ over total old)
unfolding over
laid {total} {old} z e h p = (
  omega (arith, z, p.after),
  p.list ∙ rw (z, e) (sets-eq total old 0 (rw (zero-add, ← e) (omega (arith, z, h))) ∙ rw zero-add),
)
