-- A listing is the same in every buffer that has room for it. Assumes nothing.
use Prim.Native.Nat.{ℕ}
use mathlib.Core.Path.{◌≡◌, refl, sym, ◌∙◌}
use mathlib.Core.Bool.{Bool, true, false, cond, ◌&&◌}
use mathlib.Core.List.{List, []}
use lib.Dec.{ltb, eqb}
use lib.ListN.{length, take}
use lib.Seq.{take-append_seam}
use Rattle.checks.specs.Checks.{check, if_ok}
use Rattle.checks.specs.Lists.{every}
use Rattle.octets.specs.Buffer.{over}
use Rattle.update_rows.specs.Storing.{zeros}
use Rattle.gateway_state.specs.declared.State.{State}
use Rattle.gateway_state.specs.Formed.{state_formed}
use Rattle.gateway_state.specs.Outcomes.{refused_of}
use Rattle.gateway_rules.specs.Calls.{table_fits, lent_checks}
use Rattle.listing_lines.specs.Lines.{listing_text}
use Rattle.listing_lines.specs.Listing.{entries, listable, listing_checks, listing_outcome, listing_buffer}
use Rattle.model.specs.Theorem.{Gateway, outcome_of, buffer_left, seen_of}
use Rattle.recording_call.specs.Told.{on}
use Rattle.recording_player.specs.declared.Player.{Player}
use Rattle.recording_player.specs.Player.{Step, roomy, listed_in, silent_step, finish_step}
use Rattle.recording_theorem.proofs.ByCalls.{listed}

-- the text, where the call is carried out
told_in : (carried : Bool) (answer : ℕ) (st : State) (text out : List ℕ)
    → take (cond carried (record { answer = 0; first = length text; second = 0; state = st }) (refused_of st answer)).first (cond carried (over text out) out)
    ≡ cond carried text []
unfolding refused_of over
told_in true answer st text out = rw take-append_seam
told_in false answer st text out = refl

-- checks 1 and 2; check 3 is the room
unfoldable two_checks : Gateway → ℕ
two_checks b = check (state_formed b.state) 1 (check (table_fits b.table && every listable (entries b.state b.table)) 2 0)

with_room : (out : List ℕ) (b : Gateway) → roomy out ≡ true → listing_checks b.state b.table out ≡ two_checks b
unfolding roomy listing_checks lent_checks two_checks check
with_room out b h = rw h

listing_in : (out : List ℕ) (b : Gateway) → roomy out ≡ true → listed_in out b ≡ if_ok (two_checks b) (listing_text (entries b.state b.table)) []
unfolding listed_in seen_of outcome_of buffer_left listing_outcome listing_buffer if_ok
listing_in out b h =
    let c = listing_checks b.state b.table out in
    told_in (eqb c 0) c b.state (listing_text (entries b.state b.table)) out ∙ rw (with_room out b h)

least_roomy : roomy (zeros 65536) ≡ true
unfolding roomy zeros
least_roomy = refl

pub listed_in_lem : (out : List ℕ) (b : Gateway) → roomy out ≡ true → listed_in out b ≡ listed b
unfolding listed
listed_in_lem out b h = listing_in out b h ∙ sym (listing_in (zeros 65536) b least_roomy)

choice_text : (s t : Bool) (q x y : Step) → x.text ≡ y.text → (cond s q (cond t q x)).text ≡ (cond s q (cond t q y)).text
choice_text true t q x y e = refl
choice_text false true q x y e = refl
choice_text false false q x y e = e

-- and so is what finish writes
pub finish_in : (out : List ℕ) (p : Player) (table : List ℕ) → roomy out ≡ true → (finish_step out p table).text ≡ (finish_step (zeros 65536) p table).text
unfolding finish_step listed
finish_in out p table h =
    choice_text p.broken (ltb p.lines 4) (silent_step p table 0) _ _ (listed_in_lem out (on p.state table) h)
