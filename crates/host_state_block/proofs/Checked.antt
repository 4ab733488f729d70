-- Laws of check 1 of a block, a slot at a time. Assumes nothing.
use Prim.Native.Nat.{ℕ, zero, suc, ◌+◌, ◌*◌, ◌/◌, ◌-◌, ◌≤◌, ◌<◌}
use native.Mathlib.Omega.{arith}
use mathlib.Core.Path.{◌≡◌, refl, sym, ap, ◌∙◌}
use mathlib.Core.Bool.{Bool, true, false, ◌&&◌}
use mathlib.Core.List.{List, [], ◌∷◌}
use lib.ListN.{length, take, drop, length-drop}
use lib.Seq.{take_all}
use Rattle.std.specs.List.{list_all}
use Rattle.std.specs.Simd.{first_chunks}
use Rattle.checks.specs.Lists.{every, distinct}
use Rattle.neighbour.specs.declared.Settings.{Settings}
use Rattle.gateway_state.specs.Slots.{addresses, apart}
use Rattle.gateway_state.specs.Formed.{good_settings, slot_formed, state_formed}
use Rattle.host_state_block.specs.Block.{own_size, slot_size, slots_in, state_in}
use Rattle.host_state_block.specs.Formed.{all_in_range, block_in_range, block_formed}
use Rattle.host_state_block.specs.Steps.{part_formed, parts_formed}
use Rattle.host_state_block.proofs.Slots.{parts_are}

-- ---- the slots as parts, the first of them found formed already

pub parts_list : (g : Settings) (n : ℕ) (l : List ℕ) → parts_formed g n l ≡ list_all (part_formed g) (first_chunks slot_size n l)
unfolding parts_formed
parts_list g zero l = refl
parts_list g (suc n) l = ap (λ (b : Bool). part_formed g (take slot_size l) && b) (parts_list g n (drop slot_size l))

pub slots_checked : (g : Settings) (slots : List ℕ) (parts : List (List ℕ)) (from : ℕ)
    → length slots ≡ 8 * slot_size → parts ≡ first_chunks slot_size (length slots / slot_size) slots → list_all (part_formed g) parts ≡ list_all (part_formed g) (drop from parts)
    → list_all (part_formed g) (take (length parts - from) (drop from parts)) ≡ parts_formed g 8 slots
slots_checked g slots parts from e p d =
    let n : length slots / slot_size ≡ 8 = omega (arith, e) in
    ap (list_all (part_formed g)) (take_all (length parts - from) (drop from parts) (omega (arith, length-drop from parts)))
    ∙ sym d ∙ ap (list_all (part_formed g)) p ∙ ap (λ (k : ℕ). list_all (part_formed g) (first_chunks slot_size k slots)) n ∙ sym (parts_list g 8 slots)

-- ---- one slot more: laws for a proof that walks a slot at a time; those of this crate go by `parts_list`

part_ill : (g : Settings) (left : ℕ) (rest : List ℕ) → 0 < left → part_formed g (take slot_size rest) ≡ false → parts_formed g left rest ≡ false
unfolding parts_formed
part_ill g zero rest h e = absurd (omega (arith, h))
part_ill g (suc n) rest h e = rw e

part_formed_lem : (g : Settings) (left : ℕ) (rest : List ℕ) → 0 < left → part_formed g (take slot_size rest) ≡ true
    → parts_formed g left rest ≡ parts_formed g (left - 1) (drop slot_size rest)
unfolding parts_formed
part_formed_lem g zero rest h e = absurd (omega (arith, h))
part_formed_lem g (suc n) rest h e =
    let k : n ≡ suc n - 1 = omega arith in
    rw e (ap (λ (m : ℕ). parts_formed g m (drop slot_size rest)) k)

parts_end : (g : Settings) (left : ℕ) (rest : List ℕ) → left ≤ 0 → parts_formed g left rest ≡ true
unfolding parts_formed
parts_end g zero rest h = refl
parts_end g (suc n) rest h = absurd (omega (arith, h))

-- ---- over the octets of the slots, some of them passed

pub record Walked (g : Settings) (slots : List ℕ) (rest : List ℕ) (i : ℕ) : Type 0 where
  pub size : length rest ≡ (8 - i) * slot_size
  -- those that were passed are formed
  pub same : parts_formed g 8 slots ≡ parts_formed g (8 - i) rest

pub walk_start : (g : Settings) (slots : List ℕ) → length slots ≡ 8 * slot_size → Walked g slots slots 0
walk_start g slots e = record { size = e; same = refl }

module _ {g : Settings} {slots rest : List ℕ} {i : ℕ} (w : Walked g slots rest i) where
  module _ (h : i < 8) where
    pub walk_room : slot_size ≤ length rest
    walk_room = omega (arith, w.size, h)

    module _ (part later : List ℕ) (p : part ≡ take slot_size rest) (l : later ≡ drop slot_size rest) where
      pub walk_ill : part_formed g part ≡ false → parts_formed g 8 slots ≡ false
      walk_ill e = w.same ∙ part_ill g (8 - i) rest (omega (arith, h)) (rw p at e)

      pub walk_next : part_formed g part ≡ true → Walked g slots later (i + 1)
      walk_next e =
          let k : 8 - i - 1 ≡ 8 - (i + 1) = omega arith in
          rw l
          (record {
            size = length-drop slot_size rest ∙ omega (arith, w.size, h);
            same = w.same ∙ part_formed_lem g (8 - i) rest (omega (arith, h)) (rw p at e) ∙ ap (λ (n : ℕ). parts_formed g n (drop slot_size rest)) k;
          })

  pub walk_end : 8 ≤ i → parts_formed g 8 slots ≡ true
  walk_end h = w.same ∙ parts_end g (8 - i) rest (omega (arith, h))

-- ---- the whole block

settings_first : (r g e d : Bool) → (r && (g && e && d)) ≡ (g && (r && e && d))
settings_first true true e d = refl
settings_first true false e d = refl
settings_first false true e d = refl
settings_first false false e d = refl

block_formed_lem : (block : List ℕ)
    → block_formed block ≡ (good_settings (state_in block).settings && (parts_formed (state_in block).settings 8 (drop own_size block) && distinct apart (addresses (state_in block))))
unfolding block_formed block_in_range state_formed state_in
block_formed_lem block =
    settings_first (all_in_range 8 (drop own_size block)) (good_settings (state_in block).settings) (every (slot_formed (state_in block).settings) (slots_in 8 (drop own_size block))) (distinct apart (addresses (state_in block)))
    ∙ ap (λ (b : Bool). good_settings (state_in block).settings && (b && distinct apart (addresses (state_in block)))) (sym (parts_are (state_in block).settings 8 (drop own_size block)))

-- what the tests say together
module _ (block : List ℕ) (g : Settings) (slots l : List ℕ) (s : g ≡ (state_in block).settings) (p : slots ≡ drop own_size block) (a : l ≡ addresses (state_in block)) where
  tests_say : block_formed block ≡ (good_settings g && (parts_formed g 8 slots && distinct apart l))
  tests_say =
      block_formed_lem block
      ∙ ap (λ (x : Settings). good_settings x && (parts_formed x 8 (drop own_size block) && distinct apart (addresses (state_in block)))) (sym s)
      ∙ ap (λ (x : List ℕ). good_settings g && (parts_formed g 8 x && distinct apart (addresses (state_in block)))) (sym p)
      ∙ ap (λ (x : List ℕ). good_settings g && (parts_formed g 8 slots && distinct apart x)) (sym a)

  pub settings_ill : good_settings g ≡ false → false ≡ block_formed block
  settings_ill e = sym (tests_say ∙ rw e)

  pub slots_ill : good_settings g ≡ true → parts_formed g 8 slots ≡ false → false ≡ block_formed block
  slots_ill e f = sym (tests_say ∙ rw (e, f))

  pub slots_formed : good_settings g ≡ true → parts_formed g 8 slots ≡ true → distinct apart l ≡ block_formed block
  slots_formed e f = sym (tests_say ∙ rw (e, f))
