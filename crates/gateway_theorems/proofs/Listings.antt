-- What a listing leaves as it was, whatever state, table and buffer it is given. Assumes nothing.
use Prim.Native.Nat.{ℕ, ◌+◌}
use native.Mathlib.Nat.{add-zero}
use mathlib.Core.Path.{◌≡◌, refl, sym, subst}
use mathlib.Core.Bool.{Bool, true, false, cond}
use mathlib.Core.List.{List, []}
use lib.Dec.{eqb}
use lib.ListN.{length, drop}
use lib.Seq.{drop_at}
use Rattle.checks.specs.Checks.{if_ok}
use Rattle.octets.specs.Buffer.{over}
use Rattle.gateway_state.specs.declared.State.{State}
use Rattle.gateway_state.specs.declared.Outcome.{Outcome}
use Rattle.gateway_state.specs.Outcomes.{refused_of}
use Rattle.gateway_theorems.specs.Claims.{Silent, Within, FormedState}
use Rattle.listing_lines.specs.Lines.{listing_text}
use Rattle.listing_lines.specs.Listing.{entries, listing_checks, listing_outcome, listing_buffer}

module _ (st : State) (table buffer : List ℕ) where
  abbrev checks : ℕ
  checks = listing_checks st table buffer

  abbrev octets : List ℕ
  octets = listing_text (entries st table)

  abbrev listed : Outcome
  listed = record { answer = 0; first = length octets; second = 0; state = st }

  -- carried out or refused
  by_answer : (P : Outcome → List ℕ → Type 0) → P listed (over octets buffer) → (eqb checks 0 ≡ false → P (refused_of st checks) buffer)
      → P (listing_outcome st table buffer) (listing_buffer st table buffer)
  unfolding listing_outcome listing_buffer if_ok
  by_answer P done refused = go (eqb checks 0) refl
    where
      go : (b : Bool) → eqb checks 0 ≡ b → P (cond b listed (refused_of st checks)) (cond b (over octets buffer) buffer)
      go true e = done
      go false e = refused e

  pub listing_refused : ((listing_outcome st table buffer).answer ≡ 0 → ⊥) → Silent st table buffer (listing_outcome st table buffer) table (listing_buffer st table buffer)
  unfolding refused_of
  listing_refused =
      by_answer (λ r b. (r.answer ≡ 0 → ⊥) → Silent st table buffer r table b) (λ h. absurd (h refl))
      (λ _ _. record { outcome = refl; table = refl; buffer = refl })

  over_rest : drop (length octets + 0) (over octets buffer) ≡ drop (length octets + 0) buffer
  unfolding over
  over_rest = rw (add-zero (length octets)) (drop_at octets (drop (length octets) buffer) (length octets) refl)

  pub listing_within : Within (listing_outcome st table buffer) buffer (listing_buffer st table buffer)
  unfolding refused_of over
  listing_within =
      by_answer (λ r b. Within r buffer b)
      (record { octets = octets; is = refl; long = sym (add-zero (length octets)); rest = over_rest })
      (λ _. record { octets = []; is = refl; long = refl; rest = refl })

  pub listing_state : (listing_outcome st table buffer).state ≡ st
  unfolding refused_of
  listing_state = by_answer (λ r _. r.state ≡ st) refl (λ _. refl)

  pub listing_formed : FormedState st → FormedState (listing_outcome st table buffer).state
  listing_formed f = subst FormedState (sym listing_state) f
