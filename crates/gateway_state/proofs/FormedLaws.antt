-- Laws of well-formedness. Assumes nothing.
use Prim.Native.Nat.{ℕ}
use mathlib.Core.Path.{◌≡◌, refl, sym, ◌∙◌}
use mathlib.Core.Bool.{Bool, true, false, not, ◌&&◌, false≢true}
use lib.Dec.{leb, eqb}
use borrow.Author.Tests.{ne_eqb, not-true}
use Rattle.checks.proofs.Laws.{and_left, and_right, cond_elim}
use Rattle.neighbour.specs.declared.Phase.{Phase}
use Rattle.neighbour.specs.declared.Phase.TheVariants.{Idle, Acquisition, Down, Up, Cease}
use Rattle.neighbour.specs.declared.Settings.{Settings}
use Rattle.neighbour.specs.Record.{is_idle, is_up}
use Rattle.neighbour_wellformed.specs.Formed.{all_zero, well_formed}
use Rattle.neighbour_seconds.specs.Seconds.{are_none, seconds_formed}
pub use Rattle.neighbour_wellformed.proofs.ByState.{zero_idle, idle_formed_lem, idle_zero}
use Rattle.gateway_state.specs.declared.Slot.{Slot}
use Rattle.gateway_state.specs.Formed.{good_peer, rows_formed, free_formed, used_formed, slot_formed}

-- the last test of a conjunction decides it
pub peer_last : (g : Settings) (address asn : ℕ) → (asn ≡ 0 → ⊥) → (asn ≡ g.asn → ⊥) → (address ≡ 0 → ⊥)
    → not (eqb address g.own) ≡ good_peer g address asn
unfolding good_peer
peer_last g address asn a b c = rw (ne_eqb asn 0 a, ne_eqb asn g.asn b, ne_eqb address 0 c)

pub is_up_lem : (phase : Phase) → is_up phase ≡ true → phase ≡ Up
is_up_lem Idle e = absurd (false≢true e)
is_up_lem Acquisition e = absurd (false≢true e)
is_up_lem Down e = absurd (false≢true e)
is_up_lem Up e = refl
is_up_lem Cease e = absurd (false≢true e)

pub peer_used : (g : Settings) (address asn : ℕ) → good_peer g address asn ≡ true → eqb address 0 ≡ false
unfolding good_peer
peer_used g address asn h =
    let a = not (eqb asn 0) && not (eqb asn g.asn) in
    let c = not (eqb address 0) in
    not-true (eqb address 0) (and_right a c (and_left (a && c) (not (eqb address g.own)) h))

-- what is asked of a slot in Up
module _ (g : Settings) (slot : Slot) where
  pub up_slot : (is_up slot.neighbour.phase && well_formed slot.neighbour) ≡ true → good_peer g slot.address slot.asn ≡ true
      → leb slot.rows 128 ≡ true → seconds_formed slot.seconds ≡ true → slot_formed g slot ≡ true
  unfolding slot_formed used_formed rows_formed
  up_slot u p r s =
      rw (peer_used g slot.address slot.asn p, p, and_right (is_up slot.neighbour.phase) (well_formed slot.neighbour) u, r, and_left (is_up slot.neighbour.phase) (well_formed slot.neighbour) u, s)

  -- no slot is formed whose record is not
  ill_free : well_formed slot.neighbour ≡ false → free_formed slot ≡ false
  unfolding free_formed
  ill_free w = go (eqb slot.asn 0) (is_idle slot.neighbour.phase) refl
    where
      go : (a i : Bool) → is_idle slot.neighbour.phase ≡ i → (a && i && all_zero slot.neighbour && eqb slot.rows 0 && are_none slot.seconds) ≡ false
      go false i e = refl
      go true false e = refl
      go true true e = rw (sym (idle_zero slot.neighbour e) ∙ w)

  ill_used : well_formed slot.neighbour ≡ false → used_formed g slot ≡ false
  unfolding used_formed
  ill_used w = go (good_peer g slot.address slot.asn)
    where
      go : (a : Bool) → (a && well_formed slot.neighbour && rows_formed slot.neighbour.phase slot.rows && seconds_formed slot.seconds) ≡ false
      go false = refl
      go true = rw w

  pub ill_slot : well_formed slot.neighbour ≡ false → slot_formed g slot ≡ false
  unfolding slot_formed
  ill_slot w = cond_elim (λ (b : Bool). b ≡ false) (eqb slot.address 0) _ _ (λ _. ill_free w) (λ _. ill_used w)
