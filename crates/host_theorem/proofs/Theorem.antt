-- `HostListOfCalls`: by induction from any model in its widths. Assumes nothing.
use Prim.Native.Nat.{ℕ}
use native.Mathlib.Omega.{arith}
use mathlib.Core.Path.{◌≡◌, refl, sym, ap, ◌∙◌}
use mathlib.Core.Bool.{true}
use mathlib.Core.List.{List, [], ◌∷◌, map}
use lib.ListN.{length}
use borrow.Author.Tests.{eq-eqb}
use Rattle.checks.specs.Lists.{every}
use Rattle.checks.proofs.Laws.{and_left, and_right, check_holds, if_ok_new}
use Rattle.octets_words.specs.Words.{word_octets}
use Rattle.octets_words.proofs.Words.{word_octets_zeros}
use Rattle.update_rows.specs.Storing.{zeros}
use Rattle.neighbour.specs.declared.Settings.{Settings}
use Rattle.gateway_state.specs.Outcomes.{silent_of}
use Rattle.gateway_slots.specs.Calls.{fresh_of}
use Rattle.model.specs.Model.{Call, add, remove, happen, receive, listing, Model, empty, model, model_from, said_from, step}
use Rattle.model.specs.Theorem.{Gateway, seen_of, seen_from, empty_table, begun, run, seen_by, state_of, table_of, shown, carries_octets}
use Rattle.model.proofs.Simulation.{represent}
use Rattle.model.proofs.Theorem.{step_is, begun_is, empty_good, run_is, list_of_calls}
use Rattle.host_state_block.specs.Layout.{Fit}
use Rattle.host_state_block.specs.Block.{own_fields, own_numbers, block_size, block_of}
use Rattle.host_state_block.specs.Formed.{block_fits}
use Rattle.host_rules.specs.Held.{table_size, held, as_gateway}
use Rattle.host_rules.specs.Calls.{fresh_number, fresh_block}
use Rattle.host_theorem.specs.Theorem.{Lent, host_from, HostSeen, host_seen_from, host_begun, host_run, as_host_sees, fits_types, HostListOfCalls}
use Rattle.host_theorem.proofs.Narrow.{narrow, Kept, kept_step}
use Rattle.host_theorem.proofs.Lent.{lent_of, held_is, host_step_is, host_seen_is}

-- ---- a host's call fits the types as the gateway's call

fits_same : (call : Call) → fits_types call ≡ true → fits_types (as_gateway call) ≡ true
unfolding fits_types as_gateway
fits_same (add address asn) e = e
fits_same (remove address) e = e
fits_same (happen event a buffer) e = e
fits_same (receive a o home buffer) e = e
fits_same (listing buffer) e = e

fits_octets : (call : Call) → fits_types call ≡ true → carries_octets (as_gateway call) ≡ true
unfolding fits_types as_gateway carries_octets
fits_octets (add address asn) e = refl
fits_octets (remove address) e = refl
fits_octets (happen event a buffer) e = refl
fits_octets (receive a o home buffer) e = e
fits_octets (listing buffer) e = refl

all_octets : (calls : List Call) → every fits_types calls ≡ true → every carries_octets (map as_gateway calls) ≡ true
unfolding every
all_octets [] e = refl
all_octets (call ∷ rest) e =
    rw (fits_octets call (and_left (fits_types call) (every fits_types rest) e)) (all_octets rest (and_right (fits_types call) (every fits_types rest) e))

-- ---- any list, from any model in its widths

next : (m : Model) → Kept m → (call : Call) → fits_types call ≡ true → Kept (step (as_gateway call) m).model
next m k call e = kept_step m k (as_gateway call) (fits_same call e)

kept_from : (m : Model) → Kept m → (calls : List Call) → every fits_types calls ≡ true → Kept (model_from m (map as_gateway calls))
unfolding model_from every
kept_from m k [] e = k
kept_from m k (call ∷ rest) e =
    kept_from (step (as_gateway call) m).model (next m k call (and_left (fits_types call) (every fits_types rest) e)) rest
    (and_right (fits_types call) (every fits_types rest) e)

host_from_lem : (m : Model) → Kept m → (calls : List Call) → every fits_types calls ≡ true → host_from (lent_of m) calls ≡ lent_of (model_from m (map as_gateway calls))
unfolding host_from model_from every
host_from_lem m k [] e = refl
host_from_lem m k (call ∷ rest) e =
    rw (host_step_is m k call)
    (host_from_lem (step (as_gateway call) m).model (next m k call (and_left (fits_types call) (every fits_types rest) e)) rest
    (and_right (fits_types call) (every fits_types rest) e))

seen_from_lem : (m : Model) → Kept m → (calls : List Call) → every fits_types calls ≡ true
    → host_seen_from (lent_of m) calls ≡ map as_host_sees (seen_from (represent m) (map as_gateway calls))
unfolding host_seen_from seen_from every
seen_from_lem m k [] e = refl
seen_from_lem m k (call ∷ rest) e =
    rw (host_seen_is m k call, host_step_is m k call, step_is m k.ok (as_gateway call))
    (ap (λ (l : List HostSeen). as_host_sees (seen_of (as_gateway call) (represent m)) ∷ l)
    (seen_from_lem (step (as_gateway call) m).model (next m k call (and_left (fits_types call) (every fits_types rest) e)) rest
    (and_right (fits_types call) (every fits_types rest) e)))

-- ---- from fresh

begun_table : word_octets empty_table ≡ zeros table_size
unfolding empty_table zeros
begun_table = word_octets_zeros 3072

module _ (g : Settings) (f : Fit own_fields (own_numbers g)) (z : (fresh_of g).answer ≡ 0) where
  empty_kept : Kept (empty g)
  unfolding empty every narrow
  empty_kept = record { ok = empty_good g z; own = f; each = refl }

  begun_state : (fresh_of g).state ≡ state_of (empty g)
  unfolding begun represent
  begun_state = ap (λ (b : Gateway). b.state) (begun_is g z)

  begun_zeros : zeros table_size ≡ word_octets (table_of (empty g))
  unfolding begun represent
  begun_zeros = sym begun_table ∙ ap (λ (b : Gateway). word_octets b.table) (begun_is g z)

  module _ (block : List ℕ) (long : length block ≡ block_size) where
    fresh_zero : fresh_number g block ≡ 0
    unfolding fresh_number fresh_of silent_of
    fresh_zero = check_holds (block_fits block) 20 _ (eq-eqb (length block) block_size long) ∙ z

    fresh_block_lem : fresh_block g block ≡ block_of (state_of (empty g))
    unfolding fresh_block
    fresh_block_lem = if_ok_new (fresh_number g block) _ block fresh_zero ∙ ap block_of begun_state

    host_begun_lem : host_begun g block ≡ lent_of (empty g)
    unfolding host_begun lent_of
    host_begun_lem = λ i. record { block = fresh_block_lem i; table = begun_zeros i }

    module _ (calls : List Call) (e : every fits_types calls ≡ true) where
      host_run_lem : host_run g block calls ≡ lent_of (model g (map as_gateway calls))
      unfolding host_run model
      host_run_lem = rw host_begun_lem (host_from_lem (empty g) empty_kept calls e)

      run_kept : Kept (model g (map as_gateway calls))
      unfolding model
      run_kept = kept_from (empty g) empty_kept calls e

      run_block : (host_run g block calls).block ≡ block_of (state_of (model g (map as_gateway calls)))
      unfolding lent_of
      run_block = ap (λ (l : Lent). l.block) host_run_lem

      run_table : (host_run g block calls).table ≡ word_octets (table_of (model g (map as_gateway calls)))
      unfolding lent_of
      run_table = ap (λ (l : Lent). l.table) host_run_lem

      run_seen : host_seen_from (host_begun g block) calls ≡ map as_host_sees (shown (map as_gateway calls) (said_from (empty g) (map as_gateway calls)))
      unfolding seen_by
      run_seen =
          rw host_begun_lem
          (seen_from_lem (empty g) empty_kept calls e
          ∙ ap (λ (b : Gateway). map as_host_sees (seen_from b (map as_gateway calls))) (sym (begun_is g z))
          ∙ ap (map as_host_sees) ((list_of_calls g z (map as_gateway calls)).seen (all_octets calls e)))

      run_holds : held (host_run g block calls).block (host_run g block calls).table ≡ run g (map as_gateway calls)
      run_holds = rw (run_block, run_table) (held_is (model g (map as_gateway calls)) run_kept ∙ sym (run_is g z (map as_gateway calls)))

pub host_list_of_calls : HostListOfCalls
host_list_of_calls g f z block long calls e =
    record {
      block = run_block g f z block long calls e;
      table = run_table g f z block long calls e;
      seen = run_seen g f z block long calls e;
      holds = run_holds g f z block long calls e;
    }

-- there are settings of both kinds: AS 9 at 128.9.0.1 on 128.9.0.0, which fresh takes (`some_settings_lem` of the model)
pub some_fit : Fit own_fields (own_numbers (record { asn = 9; own = 2148073473; capability = 0; net = 2148073472; quiet = 0 }))
unfolding own_numbers
some_fit = omega arith
