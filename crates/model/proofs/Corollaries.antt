-- What a technician asks of a gateway, from the theorem about lists of calls. Assumes nothing.
use Prim.Native.Nat.{ℕ, zero, suc, ◌+◌, ◌-◌, ◌*◌, ◌<◌}
use native.Mathlib.Omega.{arith}
use mathlib.Core.Path.{◌≡◌, refl, sym, ◌∙◌, ap, subst}
use mathlib.Core.Bool.{Bool, true, false, cond, not, ◌&&◌, false≢true, true≢false}
use mathlib.Core.List.{List, [], ◌∷◌, ◌++◌, map, append-nil, append_assoc}
use lib.Dec.{leb, eqb}
use lib.ListN.{length, drop, get_or}
use lib.Seq.{drop_at}
use borrow.Author.Tests.{eq-eqb, ne_eqb, eqb-true, not-true}
use Rattle.checks.proofs.Laws.{and_left, and_right, and_both}
use Rattle.checks.specs.Lists.{every, join}
use Rattle.nets.specs.Rows.{Row, flat}
use Rattle.update_rows.specs.Storing.{zeros, padded}
use Rattle.update_rows.proofs.Laws.{flat_length}
use Rattle.message.specs.declared.Message.{Message}
use Rattle.message.specs.declared.Message.TheVariants as M
use Rattle.update_walk.specs.Body.{accepted, update_of}
use Rattle.neighbour.specs.declared.Phase.TheVariants as Phases
use Rattle.neighbour.specs.declared.Settings.{Settings}
use Rattle.neighbour.specs.declared.Neighbour.{Neighbour}
use Rattle.neighbour.specs.Record.{idle, is_up}
use Rattle.neighbour_machine.specs.declared.Event.TheVariants.{Start, Stop, Tick}
use Rattle.neighbour_machine.specs.Intrinsics as I
use Rattle.neighbour_machine.specs.Intrinsics.{Intrinsic, as_event}
use Rattle.neighbour_machine.specs.Step.{step_of}
use Rattle.gateway_state.specs.declared.Slot as Stored
use Rattle.gateway_state.specs.Slots.{free_slot}
use Rattle.gateway_state.specs.Places.{part_at}
use Rattle.gateway_state.proofs.Theorems.{slot_unique}
use Rattle.gateway_rules.specs.Home.{good_home}
use Rattle.gateway_theorems.proofs.Others.{others_untouched}
use Rattle.gateway_theorems.proofs.Calls.{is_up_lem}
use Rattle.neighbour_seconds.specs.Seconds.{clock_full}
use Rattle.model.specs.Model.{is_late, Call, add, remove, happen, start, stop, tick, receive, listing, Slot, free, used, Model, slot_in, found_at, no_octets, message_move, event_turn, step, model, model_from, Peer}
use Rattle.model.specs.History.{is_up_slot, accepts, up_after, told, last_from, last_accepted, is_about, is_elsewhere}
use Rattle.model.specs.Theorem.{Gateway, outcome_of, gateway_step, gateway_from, run, cell, state_of, rows_held, part, table_of, rows_at, lists_nothing, unused, Sensible, peer_from, model_of}
use Rattle.model.specs.Corollaries.{Taken, slot_on, is_up_on, Used, Unmoved, Bare, Says, RunsAreSensible, OthersStayOn, OthersStay, OthersStayInRuns, reports, BothReport, OneClosedOn, OneClosed, WhateverCloses, ClosedWhateverBy, NoDeadRow, RestartsBare, EntersUpBare, accepts_none, BareUntilUpdate, SaysRows, Stands, UpdateCounts, AfterLastNumber, StandsWhole, FullUpdateStands, EightFull}
use Rattle.model.proofs.Represent.{sound, Good, at_of, eight_of, good_at, sound_at, table_length, part_of}
use Rattle.model.proofs.Simulation.{represent, simulates, good_step}
use Rattle.model.proofs.History.{none_held, step_told, others_slot}
use Rattle.model.proofs.Theorem.{step_is, run_from, good_from, rows_read_lem, cell_count, run_is, run_table, model_good, list_of_calls}
use Rattle.model.proofs.AnyState.{model_back, good_back}
use Rattle.model.proofs.Closing.{up_stopped, up_started, timed_out, silenced, wrapped}
use Rattle.model.proofs.Found.{used_slot, event_slot, message_slot, message_says, event_phase, cease_move, request_move, update_answer, update_rows}

-- what holds of every good model's state and table holds of every sensible one
pub from_model : (P : Gateway → Type 0) → ((m : Model) → Good m → P (represent m)) → (b : Gateway) → Sensible b → P b
from_model P h b s = subst P (model_back b s) (h (model_of b) (good_back b s))

-- ---- slots of the gateway and of the model

pub up_shown : (slot : Slot) → is_up_slot slot ≡ is_up (cell slot).neighbour.phase
unfolding is_up_slot cell free_slot idle
up_shown free = refl
up_shown (used peer) = refl

-- a free slot is not Up
up_address : (slot : Slot) → is_up (cell slot).neighbour.phase ≡ true → sound slot ≡ true → (cell slot).address ≡ 0 → ⊥
unfolding cell free_slot idle sound
up_address free u s e = false≢true u
up_address (used peer) u s e = false≢true (sym (ap not (ap (λ (a : ℕ). eqb a 0) e)) ∙ s)

module _ (m : Model) (ok : Good m) where
  pub slot_is : (j : ℕ) → slot_on (represent m) j ≡ cell (slot_in m j)
  unfolding represent
  slot_is j = at_of m ok j

  part_is : (j : ℕ) → j < 8 → part_at (represent m).table j ≡ padded 384 (flat (rows_held (slot_in m j)))
  unfolding represent part
  part_is j j8 = part_of m ok j j8

  count_is : (j : ℕ) → (slot_on (represent m) j).rows ≡ length (rows_held (slot_in m j))
  count_is j = ap (λ (s : Stored.Slot). s.rows) (slot_is j) ∙ cell_count (slot_in m j)

  -- a slot without rows
  bare : (j : ℕ) → j < 8 → rows_held (slot_in m j) ≡ [] → Bare (represent m) j
  unfolding padded flat
  bare j j8 e =
      record {
        count = count_is j ∙ ap length e;
        rows = rows_read_lem m ok j j8 ∙ e;
        numbers = part_is j j8 ∙ ap (λ (l : List Row). padded 384 (flat l)) e;
      }

  down_slot : (j : ℕ) → is_up_on (represent m) j ≡ false → is_up_slot (slot_in m j) ≡ false
  down_slot j e = up_shown (slot_in m j) ∙ ap (λ (s : Stored.Slot). is_up s.neighbour.phase) (sym (slot_is j)) ∙ e

  no_rows_down : (j : ℕ) → is_up_on (represent m) j ≡ false → rows_held (slot_in m j) ≡ []
  no_rows_down j e = none_held (slot_in m j) (good_at m ok j) (down_slot j e)

  no_dead : (j : ℕ) → j < 8 → is_up_on (represent m) j ≡ false → Bare (represent m) j
  no_dead j j8 e = bare j j8 (no_rows_down j e)

  up_used : (j : ℕ) → is_up_on (represent m) j ≡ true → Used (represent m) j
  up_used j u e =
      up_address (slot_in m j) (ap (λ (x : Stored.Slot). is_up x.neighbour.phase) (sym (slot_is j)) ∙ u) (sound_at m ok j)
      (ap (λ (x : Stored.Slot). x.address) (sym (slot_is j)) ∙ e)

pub no_dead_row : NoDeadRow
no_dead_row g z calls j j8 e =
    let is = run_is g z calls in
    subst (λ (x : Gateway). Bare x j) (sym is) (no_dead (model g calls) (model_good g z calls) j j8 (ap (λ (x : Gateway). is_up_on x j) (sym is) ∙ e))

-- ---- every run is sensible

zeros_behind : (rows : List Row) → drop (3 * length rows) (padded 384 (flat rows)) ≡ zeros (384 - 3 * length rows)
unfolding padded
zeros_behind rows =
    drop_at (flat rows) (zeros (384 - length (flat rows))) (3 * length rows) (flat_length rows) ∙ ap (λ (k : ℕ). zeros (384 - k)) (flat_length rows)

pub good_sensible : (m : Model) → Good m → Sensible (represent m)
unfolding represent unused
good_sensible m ok =
    record {
      formed = ok.formed;
      eight = eight_of m ok;
      long = table_length m ok;
      zero_unused = λ j j8. rw (part_is m ok j j8, count_is m ok j) (zeros_behind (rows_held (slot_in m j)));
    }

run_append : (b : Gateway) (calls more : List Call) → gateway_from b (calls ++ more) ≡ gateway_from (gateway_from b calls) more
unfolding gateway_from
run_append b [] more = refl
run_append b (call ∷ rest) more = run_append (gateway_step call b) rest more

pub runs_are_sensible : RunsAreSensible
unfolding run
runs_are_sensible g z calls =
    record {
      sensible = subst Sensible (sym (run_is g z calls)) (good_sensible (model g calls) (model_good g z calls));
      onward = λ more. run_append _ calls more;
    }

-- ---- whom a call is about

other : (x a b : ℕ) → (a ≡ b → ⊥) → eqb x a ≡ true → not (eqb x b) ≡ true
other x a b n e = ap not (ne_eqb x b (λ q. n (sym (eqb-true x a e) ∙ q)))

about_elsewhere : (a b : ℕ) → (a ≡ b → ⊥) → (call : Call) → is_about a call ≡ true → is_elsewhere b call ≡ true
unfolding is_about is_elsewhere
about_elsewhere a b n (add x asn) e = other x a b n e
about_elsewhere a b n (remove x) e = other x a b n e
about_elsewhere a b n (happen event x buffer) e = other x a b n e
about_elsewhere a b n (receive x o home buffer) e = other x a b n e
about_elsewhere a b n (listing buffer) e = absurd (false≢true e)

all_elsewhere : (a b : ℕ) → (a ≡ b → ⊥) → (calls : List Call) → every (is_about a) calls ≡ true → every (is_elsewhere b) calls ≡ true
unfolding every
all_elsewhere a b n [] e = refl
all_elsewhere a b n (call ∷ rest) e =
    and_both (is_elsewhere b call) (every (is_elsewhere b) rest) (about_elsewhere a b n call (and_left (is_about a call) (every (is_about a) rest) e))
    (all_elsewhere a b n rest (and_right (is_about a call) (every (is_about a) rest) e))

-- ---- the others stay

module _ (m m' : Model) (ok : Good m) (ok' : Good m') (j : ℕ) (j8 : j < 8) (same : slot_in m' j ≡ slot_in m j) where
  unmoved : Unmoved (represent m) (represent m') j
  unmoved =
      record {
        slot = slot_is m' ok' j ∙ ap cell same ∙ sym (slot_is m ok j);
        rows = rows_read_lem m' ok' j j8 ∙ ap rows_held same ∙ sym (rows_read_lem m ok j j8);
        numbers = part_is m' ok' j j8 ∙ ap (λ (s : Slot). padded 384 (flat (rows_held s))) same ∙ sym (part_is m ok j j8);
      }

module _ (m : Model) (ok : Good m) where
  -- no address is in two slots
  addresses_differ : (i j : ℕ) → i < 8 → j < 8 → (i ≡ j → ⊥) → Used (represent m) j → (slot_on (represent m) i).address ≡ (slot_on (represent m) j).address → ⊥
  unfolding represent
  addresses_differ i j i8 j8 n u e =
      n (sym (slot_unique (state_of m) (slot_on (represent m) j).address i (eight_of m ok) ok.formed i8 e u)
      ∙ slot_unique (state_of m) (slot_on (represent m) j).address j (eight_of m ok) ok.formed j8 refl u)

  stay_on : OthersStayOn (represent m)
  stay_on more i j i8 j8 n u v e =
      let is : (slot_on (represent m) j).address ≡ (cell (slot_in m j)).address = ap (λ (s : Stored.Slot). s.address) (slot_is m ok j) in
      let same = others_slot m ok j more (λ q. v (is ∙ q))
      (ap (λ (a : ℕ). every (is_elsewhere a) more) (sym is) ∙ all_elsewhere _ _ (addresses_differ i j i8 j8 n v) more e) in
      subst (λ (x : Gateway). Unmoved (represent m) x j) (sym (run_from m ok more)) (unmoved m (model_from m more) ok (good_from m ok more) j j8 same)

pub others_stay : OthersStay
others_stay = from_model OthersStayOn stay_on

pub others_stay_in_runs : OthersStayInRuns
others_stay_in_runs g z calls more i j i8 j8 n u v e =
    let r = runs_are_sensible g z calls in
    subst (λ (x : Gateway). Unmoved (run g calls) x j) (sym (r.onward more)) (others_stay (run g calls) r.sensible more i j i8 j8 n u v e)

-- one call
stay_one : (b : Gateway) → OthersStayOn b → (call : Call) (i j : ℕ) → i < 8 → j < 8 → (i ≡ j → ⊥) → Used b i → Used b j → is_about (slot_on b i).address call ≡ true
    → Unmoved b (gateway_step call b) j
unfolding every gateway_from
stay_one b s call i j i8 j8 n u v e = s (call ∷ []) i j i8 j8 n u v (and_both (is_about (slot_on b i).address call) true e refl)

-- ---- one call about the neighbour in slot j

not_up : {n k : Neighbour} → n ≡ k → is_up k.phase ≡ false → is_up n.phase ≡ false
not_up {n = n} e d = ap (λ (x : Neighbour). is_up x.phase) e ∙ d

module _ (m : Model) (ok : Good m) (j : ℕ) (j8 : j < 8) where
  after_is : (call : Call) → slot_on (gateway_step call (represent m)) j ≡ cell (slot_in (step call m).model j)
  after_is call = ap (λ (x : Gateway). slot_on x j) (step_is m ok call) ∙ slot_is (step call m).model (good_step m ok call) j

  bare_after : (call : Call) → rows_held (slot_in (step call m).model j) ≡ [] → Bare (gateway_step call (represent m)) j
  bare_after call e = subst (λ (x : Gateway). Bare x j) (sym (step_is m ok call)) (bare (step call m).model (good_step m ok call) j j8 e)

  dead_after : (call : Call) → is_up_on (gateway_step call (represent m)) j ≡ false → Bare (gateway_step call (represent m)) j
  dead_after call e =
      let is = step_is m ok call in
      bare_after call (no_rows_down (step call m).model (good_step m ok call) j (ap (λ (x : Gateway). is_up_on x j) (sym is) ∙ e))

  module _ (u : Used (represent m) j) where
    abbrev before : Stored.Slot
    before = slot_on (represent m) j

    abbrev pub mine : Peer
    mine = peer_from before (rows_held (slot_in m j))

    pub here : slot_in m j ≡ used mine
    here =
        used_slot (slot_in m j) (λ e. u (ap (λ (x : Stored.Slot). x.address) (slot_is m ok j) ∙ e))
        ∙ ap (λ (x : Stored.Slot). used (peer_from x (rows_held (slot_in m j)))) (sym (slot_is m ok j))

    event_after : (event : Intrinsic) (buffer : List ℕ) → leb 2048 (length buffer) ≡ true → is_late event (used mine) ≡ false → (call : Call)
        → (step call m).model ≡ (event_turn event m before.address buffer).model
        → (slot_on (gateway_step call (represent m)) j).neighbour ≡ (step_of m.settings before.asn before.neighbour (as_event event) no_octets).neighbour
    event_after event buffer r l call e =
        ap (λ (x : Stored.Slot). x.neighbour) (after_is call)
        ∙ ap (λ (x : Model). (cell (slot_in x j)).neighbour) e
        ∙ ap (λ (x : Slot). (cell x).neighbour)
        (event_slot m ok j j8 mine here event buffer r l)
        ∙ event_phase m.settings event mine

    module _ (buffer : List ℕ) (r : leb 2048 (length buffer) ≡ true) where
      stop_after : (slot_on (gateway_step (stop before.address buffer) (represent m)) j).neighbour
          ≡ (step_of m.settings before.asn before.neighbour Stop no_octets).neighbour
      unfolding step is_late
      stop_after = event_after I.Stop buffer r refl (stop before.address buffer) refl

      start_after : (slot_on (gateway_step (start before.address buffer) (represent m)) j).neighbour
          ≡ (step_of m.settings before.asn before.neighbour Start no_octets).neighbour
      unfolding step is_late
      start_after = event_after I.Start buffer r refl (start before.address buffer) refl

      tick_after : clock_full before.seconds ≡ false → (slot_on (gateway_step (tick before.address buffer) (represent m)) j).neighbour
          ≡ (step_of m.settings before.asn before.neighbour Tick no_octets).neighbour
      unfolding step is_late
      tick_after l = event_after I.Tick buffer r l (tick before.address buffer) refl

    module _ (o home buffer : List ℕ) (x : Message) (k : Says (represent m) j o home buffer x) where
      message_after : slot_in (step (receive before.address o home buffer) m).model j
          ≡ (message_move m.settings o (used mine)).slot
      unfolding step represent state_of
      message_after = message_slot m ok j j8 mine here o home buffer k.room k.good_home_lem

      message_answer_lem : (step (receive before.address o home buffer) m).said.answer
          ≡ (message_move m.settings o (used mine)).answer
      unfolding step represent state_of
      message_answer_lem = message_says m ok j j8 mine here o home buffer k.room k.good_home_lem

      message_shown : slot_on (gateway_step (receive before.address o home buffer) (represent m)) j
          ≡ cell (message_move m.settings o (used mine)).slot
      message_shown = after_is (receive before.address o home buffer) ∙ ap cell message_after

    -- a Cease or a Request leaves it not Up
    cease_after : (o home buffer : List ℕ) (a q s : ℕ) → Says (represent m) j o home buffer (M.Cease a q s)
        → is_up_on (gateway_step (receive before.address o home buffer) (represent m)) j ≡ false
    cease_after o home buffer a q s k =
        not_up (ap (λ (x : Stored.Slot). x.neighbour) (message_shown o home buffer (M.Cease a q s) k))
        (cease_move m.settings mine o k.header k.from a q s k.meaning)

    request_after : (o home buffer : List ℕ) (a q s hello poll : ℕ) → Says (represent m) j o home buffer (M.Request a q s hello poll)
        → is_up_on (gateway_step (receive before.address o home buffer) (represent m)) j ≡ false
    request_after o home buffer a q s hello poll k =
        not_up (ap (λ (x : Stored.Slot). x.neighbour) (message_shown o home buffer (M.Request a q s hello poll) k))
        (request_move m.settings mine o k.header k.from a q s hello poll k.meaning)

-- ---- one is closed

reports_some : (net : ℕ) (rows : List Row) → reports net rows ≡ true → rows ≡ [] → ⊥
unfolding reports
reports_some net rows r e = false≢true (sym (ap (reports net) e) ∙ r)

module _ (m : Model) (ok : Good m) where
  reporter_up : (j : ℕ) → j < 8 → (net : ℕ) → reports net (rows_at (represent m) j) ≡ true → is_up_on (represent m) j ≡ true
  reporter_up j j8 net r = go (is_up_on (represent m) j) refl
    where
      go : (b : Bool) → is_up_on (represent m) j ≡ b → is_up_on (represent m) j ≡ true
      go true e = e
      go false e = absurd (reports_some net (rows_at (represent m) j) r (no_dead m ok j j8 e).rows)

  closed_on : OneClosedOn (represent m)
  closed_on call i j net b a left =
      let first = up_used m ok i (reporter_up i b.first net b.reported) in
      let second = up_used m ok j (reporter_up j b.second net b.also) in
      let stays = stay_one (represent m) (stay_on m ok) call i j b.first b.second b.apart first second a in
      record { left = left; gone = dead_after m ok i b.first call left; stays = stays; reported = ap (reports net) stays.rows ∙ b.also }

  whatever_on : (i j net : ℕ) → BothReport (represent m) i j net → WhateverCloses (represent m) i j net
  unfolding is_about
  whatever_on i j net b =
      let i8 = b.first in
      let up = reporter_up i i8 net b.reported in
      let u = up_used m ok i up in
      let s = slot_on (represent m) i in
      let is : s.neighbour.phase ≡ Phases.Up = is_up_lem s.neighbour.phase up in
      let own : eqb s.address s.address ≡ true = eq-eqb s.address s.address refl in
      record {
        by_stop =
            λ buffer r. closed_on _ i j net b own (not_up (stop_after m ok i i8 u buffer r) (up_stopped m.settings s.asn s.neighbour no_octets is));
        by_start =
            λ buffer r. closed_on _ i j net b own (not_up (start_after m ok i i8 u buffer r) (up_started m.settings s.asn s.neighbour no_octets is));
        by_cease = λ o home buffer a q t k. closed_on _ i j net b own (cease_after m ok i i8 u o home buffer a q t k);
        by_request_lem = λ o home buffer a q t hello poll k. closed_on _ i j net b own (request_after m ok i i8 u o home buffer a q t hello poll k);
        by_time_out =
            λ buffer r l t. closed_on _ i j net b own (not_up (tick_after m ok i i8 u buffer r l) (timed_out m.settings s.asn s.neighbour no_octets is t));
        by_silence =
            λ buffer r l t d. closed_on _ i j net b own (not_up (tick_after m ok i i8 u buffer r l) (silenced m.settings s.asn s.neighbour no_octets is t d));
      }

pub one_closed : OneClosed
one_closed = from_model OneClosedOn closed_on

pub closed_whatever_by : ClosedWhateverBy
closed_whatever_by = from_model (λ b. (i j net : ℕ) → BothReport b i j net → WhateverCloses b i j net) whatever_on

-- ---- no dead row

-- Start, Stop and tick keep address and AS of every slot
module _ (event : Intrinsic) (b : Gateway) (a : ℕ) (buffer : List ℕ) (j : ℕ) where
  event_address : (slot_on (gateway_step (happen event a buffer) b) j).address ≡ (slot_on b j).address
  unfolding gateway_step outcome_of
  event_address = (others_untouched.events event b.state b.table buffer a).addresses j

  event_asn : (slot_on (gateway_step (happen event a buffer) b) j).asn ≡ (slot_on b j).asn
  unfolding gateway_step outcome_of
  event_asn = (others_untouched.events event b.state b.table buffer a).asns j

  event_settings : (gateway_step (happen event a buffer) b).state.settings ≡ b.state.settings
  unfolding gateway_step outcome_of
  event_settings = (others_untouched.events event b.state b.table buffer a).settings

-- what a message says to a slot is told by the settings and the slot's AS alone
says_on : (b c : Gateway) (j : ℕ) (o home buffer : List ℕ) (x : Message) → c.state.settings ≡ b.state.settings → (slot_on c j).asn ≡ (slot_on b j).asn
    → Says b j o home buffer x → Says c j o home buffer x
says_on b c j o home buffer x g e k =
    record { room = k.room; good_home_lem = ap (λ (s : Settings). good_home s home) g ∙ k.good_home_lem; header = k.header; from = k.from ∙ sym e; meaning = k.meaning }

step_sensible : (call : Call) (b : Gateway) → Sensible b → Sensible (gateway_step call b)
step_sensible call =
    from_model (λ b. Sensible (gateway_step call b)) (λ m ok. subst Sensible (sym (step_is m ok call)) (good_sensible (step call m).model (good_step m ok call)))

-- a Request or a Cease carried out, from any sensible state
request_bare : (b : Gateway) → Sensible b → (j : ℕ) → j < 8 → Used b j → (o home buffer : List ℕ) (a q s hello poll : ℕ) → Says b j o home buffer (M.Request a q s hello poll)
    → Bare (gateway_step (receive (slot_on b j).address o home buffer) b) j
request_bare =
    from_model
    (λ b. (j : ℕ) → j < 8 → Used b j → (o home buffer : List ℕ) (a q s hello poll : ℕ) → Says b j o home buffer (M.Request a q s hello poll)
    → Bare (gateway_step (receive (slot_on b j).address o home buffer) b) j)
    (λ m ok j j8 u o home buffer a q s hello poll k. dead_after m ok j j8 _ (request_after m ok j j8 u o home buffer a q s hello poll k))

cease_bare : (b : Gateway) → Sensible b → (j : ℕ) → j < 8 → Used b j → (o home buffer : List ℕ) (a q s : ℕ) → Says b j o home buffer (M.Cease a q s)
    → Bare (gateway_step (receive (slot_on b j).address o home buffer) b) j
cease_bare =
    from_model
    (λ b. (j : ℕ) → j < 8 → Used b j → (o home buffer : List ℕ) (a q s : ℕ) → Says b j o home buffer (M.Cease a q s)
    → Bare (gateway_step (receive (slot_on b j).address o home buffer) b) j)
    (λ m ok j j8 u o home buffer a q s k. dead_after m ok j j8 _ (cease_after m ok j j8 u o home buffer a q s k))

pub restarts_bare : RestartsBare
unfolding gateway_from
restarts_bare b s j j8 u =
    let a = (slot_on b j).address in
    record {
      request = request_bare b s j j8 u;
      cease = cease_bare b s j j8 u;
      started =
          λ lent o home buffer x q t hello poll k.
          let c = gateway_step (start a lent) b in
          let same = event_address I.Start b a lent j in
          subst (λ (y : ℕ). Bare (gateway_step (receive y o home buffer) c) j) same
          (request_bare c (step_sensible (start a lent) b s) j j8 (λ e. u (sym same ∙ e)) o home buffer x q t hello poll
          (says_on b c j o home buffer _ (event_settings I.Start b a lent j) (event_asn I.Start b a lent j) k));
    }

-- the history of a list that goes on
last_split : (g : Settings) (j : ℕ) (before : List Call) (known : List Row) (calls more : List Call)
    → last_from g j before known (calls ++ more) ≡ last_from g j (before ++ calls) (last_from g j before known calls) more
unfolding last_from
last_split g j before known [] more = ap (λ (l : List Call). last_from g j l known more) (sym (append-nil before))
last_split g j before known (call ∷ rest) more =
    last_split g j (before ++ (call ∷ [])) (told g j before call known) rest more
    ∙ ap (λ (l : List Call). last_from g j l (last_from g j (before ++ (call ∷ [])) (told g j before call known) rest) more) (append_assoc before (call ∷ []) rest)

last_more : (g : Settings) (j : ℕ) (calls more : List Call) → last_accepted g j (calls ++ more) ≡ last_from g j calls (last_accepted g j calls) more
unfolding last_accepted
last_more g j calls more = last_split g j [] [] calls more

told_none : (g : Settings) (j : ℕ) (before : List Call) (call : Call) → accepts (model g before) j call ≡ false → told g j before call [] ≡ []
unfolding told
told_none g j before call e = rw e (go (up_after g j (before ++ (call ∷ []))) (up_after g j before))
  where
    go : (a b : Bool) → cond {A = List Row} a (cond b [] []) [] ≡ []
    go true true = refl
    go true false = refl
    go false b = refl

none_from : (g : Settings) (j : ℕ) (before more : List Call) → accepts_none g j before more ≡ true → last_from g j before [] more ≡ []
unfolding last_from accepts_none
none_from g j before [] e = refl
none_from g j before (call ∷ rest) e =
    let no : accepts (model g before) j call ≡ false =
    not-true (accepts (model g before) j call) (and_left (not (accepts (model g before) j call)) (accepts_none g j (before ++ (call ∷ [])) rest) e) in
    rw (told_none g j before call no)
    (none_from g j (before ++ (call ∷ [])) rest (and_right (not (accepts (model g before) j call)) (accepts_none g j (before ++ (call ∷ [])) rest) e))

-- by the history, from fresh
bare_run : (g : Settings) → Taken g → (calls : List Call) (j : ℕ) → j < 8 → last_accepted g j calls ≡ [] → Bare (run g calls) j
unfolding padded flat
bare_run g z calls j j8 e =
    let k = list_of_calls g z calls in
    record {
      count = k.count j j8 ∙ ap length e;
      rows = k.rows j j8 ∙ e;
      numbers = k.numbers j j8 ∙ ap (λ (l : List Row). padded 384 (flat l)) e;
    }

pub bare_until_update : BareUntilUpdate
bare_until_update g z calls more j j8 r e =
    bare_run g z (calls ++ more) j j8
    (last_more g j calls more ∙ ap (λ (l : List Row). last_from g j calls l more) (sym ((list_of_calls g z calls).rows j j8) ∙ r) ∙ none_from g j calls more e)

-- only a slot that is Up accepts
accepts_none_lem : (m : Model) (j : ℕ) (call : Call) → is_up_slot (slot_in m j) ≡ false → accepts m j call ≡ false
unfolding accepts
accepts_none_lem m j (add address asn) e = refl
accepts_none_lem m j (remove address) e = refl
accepts_none_lem m j (happen event a buffer) e = refl
accepts_none_lem m j (receive a o home buffer) e =
    rw e (go (eqb (step (receive a o home buffer) m).said.answer 0) (eqb (found_at m a) j))
  where
    go : (a b : Bool) → (a && (b && false)) ≡ false
    go true true = refl
    go true false = refl
    go false b = refl
accepts_none_lem m j (listing buffer) e = refl

-- a slot that was not Up has no rows after any call
down_then : (m : Model) → Good m → (call : Call) (j : ℕ) → j < 8 → is_up_on (represent m) j ≡ false → rows_held (slot_in (step call m).model j) ≡ []
down_then m ok call j j8 e =
    let was = down_slot m ok j e in
    step_told m ok j j8 call ∙ rw (accepts_none_lem m j call was, was) (go (is_up_slot (slot_in (step call m).model j)))
  where
    go : (b : Bool) → cond {A = List Row} b [] [] ≡ []
    go true = refl
    go false = refl

pub enters_up_bare : EntersUpBare
enters_up_bare =
    from_model (λ b. (call : Call) (j : ℕ) → j < 8 → is_up_on b j ≡ false → Bare (gateway_step call b) j)
    (λ m ok call j j8 e. bare_after m ok j j8 call (down_then m ok call j j8 e))

-- ---- an Update counts

module _ (m : Model) (ok : Good m) (j : ℕ) (j8 : j < 8) (up : is_up_on (represent m) j ≡ true) (o home buffer : List ℕ) (rows : List Row)
    (k : SaysRows (represent m) j (slot_on (represent m) j).neighbour.s o home buffer rows) where
  abbrev the_call : Call
  the_call = receive (slot_on (represent m) j).address o home buffer

  abbrev the_update : Message
  the_update = M.Update k.asn (slot_on (represent m) j).neighbour.s k.status k.net

  good_body : update_of 128 m.settings.net o ≡ accepted rows
  unfolding represent state_of
  good_body = k.body

  used_here : Used (represent m) j
  used_here = up_used m ok j up

  new_rows : rows_held (slot_in (step the_call m).model j) ≡ rows
  new_rows =
      let s = slot_on (represent m) j in
      ap rows_held (message_after m ok j j8 used_here o home buffer the_update k.says)
      ∙ update_rows m.settings (mine m ok j j8 used_here) o k.says.header k.says.from k.asn s.neighbour.s k.status k.net k.says.meaning
      (is_up_lem s.neighbour.phase up) refl rows good_body

  answered : (outcome_of the_call (represent m)).answer ≡ 0
  unfolding lists_nothing
  answered =
      let s = slot_on (represent m) j in
      (simulates m ok the_call (λ f. absurd (true≢false f))).answer
      ∙ message_answer_lem m ok j j8 used_here o home buffer the_update k.says
      ∙ update_answer m.settings (mine m ok j j8 used_here) o k.says.header k.says.from k.asn s.neighbour.s k.status k.net k.says.meaning
      (is_up_lem s.neighbour.phase up) refl rows good_body

  stands : Stands (represent m) the_call j rows
  stands =
      let n = (step the_call m).model in
      let fine = good_step m ok the_call in
      let is = step_is m ok the_call in
      record {
        answer = answered;
        is = ap (λ (x : Gateway). rows_at x j) is ∙ rows_read_lem n fine j j8 ∙ new_rows;
        count = ap (λ (x : Gateway). (slot_on x j).rows) is ∙ count_is n fine j ∙ ap length new_rows;
        numbers = ap (λ (x : Gateway). part_at x.table j) is ∙ part_is n fine j j8 ∙ ap (λ (l : List Row). padded 384 (flat l)) new_rows;
      }

pub update_counts : UpdateCounts
update_counts =
    from_model
    (λ b. (j : ℕ) → j < 8 → is_up_on b j ≡ true → (o home buffer : List ℕ) (rows : List Row) → SaysRows b j (slot_on b j).neighbour.s o home buffer rows
    → Stands b (receive (slot_on b j).address o home buffer) j rows)
    stands

zero_again : (b : Gateway) → Sensible b → (lent : List ℕ) (j : ℕ) → j < 8 → leb 2048 (length lent) ≡ true → clock_full (slot_on b j).seconds ≡ false
    → (slot_on b j).neighbour.s ≡ 65535 → (slot_on b j).neighbour.t2 ≡ 1 → is_up_on b j ≡ true → is_up_on (gateway_step (tick (slot_on b j).address lent) b) j ≡ true
    → (slot_on (gateway_step (tick (slot_on b j).address lent) b) j).neighbour.s ≡ 0
zero_again =
    from_model
    (λ b. (lent : List ℕ) (j : ℕ) → j < 8 → leb 2048 (length lent) ≡ true → clock_full (slot_on b j).seconds ≡ false
    → (slot_on b j).neighbour.s ≡ 65535 → (slot_on b j).neighbour.t2 ≡ 1 → is_up_on b j ≡ true → is_up_on (gateway_step (tick (slot_on b j).address lent) b) j ≡ true
    → (slot_on (gateway_step (tick (slot_on b j).address lent) b) j).neighbour.s ≡ 0)
    (λ m ok lent j j8 r l s t up still.
    let x = slot_on (represent m) j in
    let moves = tick_after m ok j j8 (up_used m ok j up) lent r l in
    ap (λ (n : Neighbour). n.s) moves
    ∙ wrapped m.settings x.asn x.neighbour no_octets (is_up_lem x.neighbour.phase up) s t
    (sym (ap (λ (n : Neighbour). is_up n.phase) moves) ∙ still))

pub after_last_number : AfterLastNumber
after_last_number b w lent j j8 r l s t up still =
    let a = (slot_on b j).address in
    let c = gateway_step (tick a lent) b in
    let zero-s : (slot_on c j).neighbour.s ≡ 0 = zero_again b w lent j j8 r l s t up still in
    record {
      again = zero-s;
      counts =
          λ o home buffer rows k. subst (λ (y : ℕ). Stands c (receive y o home buffer) j rows) (event_address I.Tick b a lent j)
          (update_counts c (step_sensible (tick a lent) b w) j j8 still o home buffer rows
          (record {
            asn = k.asn;
            status = k.status;
            net = k.net;
            says =
                subst (λ (n : ℕ). Says c j o home buffer (M.Update k.asn n k.status k.net)) (sym zero-s)
                (says_on b c j o home buffer _ (event_settings I.Tick b a lent j) (event_asn I.Tick b a lent j) k.says);
            body = ap (λ (g : Settings). update_of 128 g.net o) (event_settings I.Tick b a lent j) ∙ k.body;
          }));
    }

-- ---- eight times 128 rows

full_part : (rows : List Row) → length rows ≡ 128 → padded 384 (flat rows) ≡ flat rows
unfolding padded zeros
full_part rows e =
    let l : length (flat rows) ≡ 384 = omega (arith, flat_length rows) in
    rw l (append-nil (flat rows))

full_on : (m : Model) → Good m → (j : ℕ) → j < 8 → is_up_on (represent m) j ≡ true
    → (o home buffer : List ℕ) (rows : List Row) → length rows ≡ 128 → SaysRows (represent m) j (slot_on (represent m) j).neighbour.s o home buffer rows
    → StandsWhole (represent m) (receive (slot_on (represent m) j).address o home buffer) j rows
unfolding is_about
full_on m ok j j8 up o home buffer rows full k =
    let s = stands m ok j j8 up o home buffer rows k in
    let a = (slot_on (represent m) j).address in
    record {
      stands = s;
      numbers = s.numbers ∙ full_part rows full;
      others = λ i i8 n u. stay_one (represent m) (stay_on m ok) _ j i j8 i8 (λ e. n (sym e)) (up_used m ok j up) u (eq-eqb a a refl);
    }

pub full_update_stands : FullUpdateStands
full_update_stands =
    from_model
    (λ b. (j : ℕ) → j < 8 → is_up_on b j ≡ true
    → (o home buffer : List ℕ) (rows : List Row) → length rows ≡ 128 → SaysRows b j (slot_on b j).neighbour.s o home buffer rows
    → StandsWhole b (receive (slot_on b j).address o home buffer) j rows)
    full_on

-- a list of slots, as the parts that stand at its indexes
unfoldable up_from : ℕ → ℕ → List ℕ
up_from k zero = []
up_from k (suc n) = k ∷ up_from (suc k) n

map_each : (f : Slot → List ℕ) (h : ℕ → List ℕ) (k : ℕ) (l : List Slot) → ((i : ℕ) → i < length l → f (get_or l i free) ≡ h (k + i)) → map f l ≡ map h (up_from k (length l))
unfolding up_from
map_each f h k [] e = refl
map_each f h k (x ∷ xs) e =
    let a : k + 0 ≡ k = omega arith in
    let head : f x ≡ h k = e 0 (omega arith) ∙ ap h a in
    rw head
    (ap (λ (r : List (List ℕ)). h k ∷ r)
    (map_each f h (suc k) xs (λ i q. let b : k + suc i ≡ suc k + i = omega arith in e (suc i) (omega (arith, q)) ∙ ap h b)))

first_eight : (h : ℕ → List ℕ) → map h (up_from 0 8) ≡ map h (0 ∷ 1 ∷ 2 ∷ 3 ∷ 4 ∷ 5 ∷ 6 ∷ 7 ∷ [])
unfolding up_from
first_eight h = refl

all_parts : (g : Settings) (z : Taken g) (calls : List Call) → ((j : ℕ) → j < 8 → part_at (run g calls).table j ≡ flat (last_accepted g j calls))
    → table_of (model g calls) ≡ join (map (λ j. flat (last_accepted g j calls)) (0 ∷ 1 ∷ 2 ∷ 3 ∷ 4 ∷ 5 ∷ 6 ∷ 7 ∷ []))
unfolding table_of slot_in
all_parts g z calls numbers =
    let m = model g calls in
    let ok = model_good g z calls in
    let one : (i : ℕ) → i < 8 → part (slot_in m i) ≡ flat (last_accepted g i calls) =
    λ i i8. sym (part_of m ok i i8) ∙ ap (λ (t : List ℕ). part_at t i) (sym (run_table g z calls)) ∙ numbers i i8 in
    ap join
    (map_each part (λ j. flat (last_accepted g j calls)) 0 m.slots
    (λ i q. let b : 0 + i ≡ i = omega arith in one i (omega (arith, q, ok.eight)) ∙ ap (λ (j : ℕ). flat (last_accepted g j calls)) (sym b))
    ∙ ap (λ (n : ℕ). map (λ j. flat (last_accepted g j calls)) (up_from 0 n)) ok.eight ∙ first_eight (λ j. flat (last_accepted g j calls)))

pub eight_full : EightFull
eight_full g z calls full =
    let a = list_of_calls g z calls in
    let numbers : (j : ℕ) → j < 8 → part_at (run g calls).table j ≡ flat (last_accepted g j calls) = λ j j8. a.numbers j j8 ∙ full_part (last_accepted g j calls) (full j j8) in
    record {
      rows = a.rows;
      count = λ j j8. a.count j j8 ∙ full j j8;
      numbers = numbers;
      table = run_table g z calls ∙ all_parts g z calls numbers;
    }
