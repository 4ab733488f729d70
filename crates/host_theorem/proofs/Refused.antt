-- What a refused call leaves a host: `RefusedTouchesNothing`. Assumes nothing.
use Prim.Native.Nat.{ℕ}
use mathlib.Core.Path.{◌≡◌, refl, sym, ap, ◌∙◌}
use mathlib.Core.Bool.{Bool, true, false, false≢true}
use mathlib.Core.List.{List, []}
use lib.Dec.{eqb}
use lib.ListN.{length}
use borrow.Author.Tests.{ne_eqb}
use Rattle.checks.proofs.Laws.{and_left, and_right, and_both, check_holds, check_fails, if_ok_old}
use Rattle.octets.specs.Buffer.{over}
use Rattle.neighbour_machine.specs.declared.Reply.TheVariants.{Nothing}
use Rattle.gateway_state.specs.declared.State.{State}
use Rattle.gateway_state.specs.declared.Outcome.{Outcome}
use Rattle.gateway_state.specs.Outcomes.{refused_of}
use Rattle.gateway_rules.specs.Number.{named_reply}
use Rattle.gateway_rules.specs.Carried.{first_octets, second_octets, reply_octets}
use Rattle.gateway_theorems.specs.Claims.{Silent}
use Rattle.gateway_theorems.specs.Claims as Gateways
use Rattle.gateway_theorems.proofs.Refused.{refused_changes_nothing}
use Rattle.model.specs.Model.{Call, add, remove, happen, receive, listing}
use Rattle.model.specs.Theorem.{Gateway, outcome_of, table_left, buffer_of, buffer_left}
use Rattle.host_result.specs.Packed.{bare}
use Rattle.host_state_block.specs.Block.{block_size, state_in}
use Rattle.host_state_block.specs.Formed.{block_fits, block_in_range}
use Rattle.host_state_block.proofs.Slots.{slots_count}
use Rattle.host_rules.specs.Held.{held, holds_state, as_gateway}
use Rattle.host_rules.specs.Calls.{held_outcome, number_of, result_of, block_after, table_after, buffer_after, fresh_number, fresh_block}
use Rattle.host_theorem.specs.Theorem.{named_by, home_rows, reply_to, HostRefused, RefusedTouchesNothing}

-- ---- the gateway's own call

silent_refused : (st : State) (table buffer : List ℕ) (r : Outcome) (t b : List ℕ) → Silent st table buffer r t b → Gateways.Refused st table buffer Nothing [] r t b
unfolding refused_of reply_octets first_octets second_octets over
silent_refused st table buffer r t b s =
    record {
      state = ap (λ (x : Outcome). x.state) s.outcome;
      table = s.table;
      buffer = s.buffer;
      first = ap (λ (x : Outcome). x.first) s.outcome;
      second = ap (λ (x : Outcome). x.second) s.outcome;
    }

-- a refusal of add and remove, which lend nothing
bare_refused : (st : State) (table : List ℕ) (r : Outcome) → r ≡ refused_of st r.answer → Gateways.Refused st table [] Nothing [] r table []
bare_refused st table r e = silent_refused st table [] r table [] (record { outcome = e; table = refl; buffer = refl })

-- of any call, on any eight slots
pub gateway_refused : (call : Call) (b : Gateway) → length b.state.slots ≡ 8 → ((outcome_of call b).answer ≡ 0 → ⊥)
    → Gateways.Refused b.state b.table (buffer_of call) (named_by call b (outcome_of call b).answer) (home_rows call) (outcome_of call b) (table_left call b) (buffer_left call b)
unfolding outcome_of table_left buffer_of buffer_left named_by home_rows
gateway_refused (add address asn) b e z = bare_refused b.state b.table _ (refused_changes_nothing.add b.state address asn e z)
gateway_refused (remove address) b e z = bare_refused b.state b.table _ (refused_changes_nothing.remove b.state address e z)
gateway_refused (happen event a buffer) b e z =
    silent_refused b.state b.table buffer _ _ _ (refused_changes_nothing.events event b.state b.table buffer a z)
gateway_refused (receive a o home buffer) b e z = refused_changes_nothing.messages b.state b.table buffer home a o z
gateway_refused (listing buffer) b e z =
    silent_refused b.state b.table buffer _ _ _ (refused_changes_nothing.listings b.state b.table buffer z)

-- ---- through the layer

pub same_buffer : (call : Call) → buffer_of (as_gateway call) ≡ buffer_of call
unfolding buffer_of as_gateway
same_buffer (add address asn) = refl
same_buffer (remove address) = refl
same_buffer (happen event a buffer) = refl
same_buffer (receive a o home buffer) = refl
same_buffer (listing buffer) = refl

-- 01's column "Reply" has none beside 1, and none beside 20
none_at_20 : (call : Call) (b : Gateway) → named_by call b 20 ≡ Nothing
unfolding named_by named_reply
none_at_20 (add address asn) b = refl
none_at_20 (remove address) b = refl
none_at_20 (happen event a buffer) b = refl
none_at_20 (receive a o home buffer) b = refl
none_at_20 (listing buffer) b = refl

none_at_1 : (call : Call) (b : Gateway) → named_by call b 1 ≡ Nothing
unfolding named_by named_reply
none_at_1 (add address asn) b = refl
none_at_1 (remove address) b = refl
none_at_1 (happen event a buffer) b = refl
none_at_1 (receive a o home buffer) b = refl
none_at_1 (listing buffer) b = refl

held_eight : (block table : List ℕ) → length (held block table).state.slots ≡ 8
unfolding held state_in
held_eight block table = slots_count 8 _

module _ (call : Call) (block table : List ℕ) where
  -- a number of the layer's own: 20, or 1 for a range
  early : (k : ℕ) → number_of call block table ≡ k → (k ≡ 0 → ⊥) → holds_state block ≡ false → named_by (as_gateway call) (held block table) k ≡ Nothing
      → HostRefused call block table
  unfolding block_after table_after buffer_after result_of reply_to reply_octets first_octets second_octets over
  early k e z h none =
      let n : number_of call block table ≡ 0 → ⊥ = λ q. z (sym e ∙ q) in
      let reply : reply_to call block table ≡ Nothing = ap (named_by (as_gateway call) (held block table)) e ∙ none in
      record {
        block = if_ok_old (number_of call block table) _ block n;
        table = if_ok_old (number_of call block table) _ table n;
        buffer = rw (h, reply);
        result = rw (h, reply);
      }

  -- the number where the block holds a state
  pub number_is : holds_state block ≡ true → number_of call block table ≡ (held_outcome call block table).answer
  unfolding number_of holds_state
  number_is h =
      check_holds (block_fits block) 20 _ (and_left (block_fits block) (block_in_range block) h)
      ∙ check_holds (block_in_range block) 1 _ (and_right (block_fits block) (block_in_range block) h)

  gateways : holds_state block ≡ true → (number_of call block table ≡ 0 → ⊥) → HostRefused call block table
  unfolding block_after table_after buffer_after result_of held_outcome reply_to
  gateways h z =
      let e = number_is h in
      let f = gateway_refused (as_gateway call) (held block table) (held_eight block table) (λ q. z (e ∙ q)) in
      record {
        block = if_ok_old (number_of call block table) _ block z;
        table = if_ok_old (number_of call block table) _ table z;
        buffer = rw (h, e, ← (same_buffer call)) f.buffer;
        result = rw (h, e, f.first, f.second);
      }

  too_short : block_fits block ≡ false → (number_of call block table ≡ 20) × (holds_state block ≡ false)
  unfolding number_of holds_state
  too_short e = (check_fails (block_fits block) 20 _ e, rw e)

  out_of_range : block_fits block ≡ true → block_in_range block ≡ false → (number_of call block table ≡ 1) × (holds_state block ≡ false)
  unfolding number_of holds_state
  out_of_range e f = (check_holds (block_fits block) 20 _ e ∙ check_fails (block_in_range block) 1 _ f, rw (e, f))

  in_range_lem : block_fits block ≡ true → block_in_range block ≡ true → holds_state block ≡ true
  unfolding holds_state
  in_range_lem e f = and_both (block_fits block) (block_in_range block) e f

  refused : (number_of call block table ≡ 0 → ⊥) → HostRefused call block table
  refused z = go (block_fits block) refl (block_in_range block) refl
    where
      go : (a : Bool) → block_fits block ≡ a → (b : Bool) → block_in_range block ≡ b → HostRefused call block table
      go false p b q =
          early 20 (too_short p).0 (λ e. false≢true (ap (λ (k : ℕ). eqb k 0) e)) (too_short p).1 (none_at_20 (as_gateway call) (held block table))
      go true p false q =
          early 1 (out_of_range p q).0 (λ e. false≢true (ap (λ (k : ℕ). eqb k 0) e)) (out_of_range p q).1 (none_at_1 (as_gateway call) (held block table))
      go true p true q = gateways (in_range_lem p q) z

  wrong_length : (length block ≡ block_size → ⊥) → (result_of call block table ≡ bare 20) × (buffer_after call block table ≡ buffer_of call)
  unfolding result_of buffer_after
  wrong_length n =
      let e = too_short (ne_eqb (length block) block_size n) in
      (rw (e.0, e.1), rw e.1)

pub refused_touches_nothing : RefusedTouchesNothing
unfolding fresh_block
refused_touches_nothing =
    record { calls = refused; length20 = wrong_length; fresh = λ g block n. if_ok_old (fresh_number g block) _ block n }
