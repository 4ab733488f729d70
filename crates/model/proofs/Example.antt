-- The example meets the corollaries' premises. Assumes nothing.
use Prim.Native.Nat.{ℕ, zero, suc, ◌+◌, ◌*◌, ◌%◌, ◌<◌}
use native.Mathlib.Nat.{zero-add}
use native.Mathlib.Omega.{arith}
use mathlib.Core.Path.{◌≡◌, refl, sym, ◌∙◌, ap, subst}
use mathlib.Core.Bool.{true, false, not, ◌&&◌, true≢false}
use mathlib.Core.List.{List, [], ◌∷◌, ◌++◌, append_assoc}
use lib.Dec.{ltb, leb, eqb}
use lib.ListN.{length, length-set}
use borrow.Author.Tests.{eqb-true, ne_eqb, ltb-true, not-true}
use Rattle.std.specs.Prelude.{Ok}
use Rattle.checks.specs.Checks.{check}
use Rattle.checks.proofs.Laws.{and_left, and_right}
use Rattle.neighbour.specs.Record.{is_up, acquired, with_numbers, with_timers, with_reach}
use Rattle.checks.specs.Lists.{every, join}
use Rattle.octets_checksum.specs.Checksum as Checksum
use Rattle.nets.specs.Classes as Classes
use Rattle.nets.specs.Rows as Rows
use Rattle.nets.specs.Rows.{Row}
use Rattle.update_rows.specs.Storing as Storing
use Rattle.message.specs.Kinds as Kinds
use Rattle.message.specs.declared.Message.{Message}
use Rattle.message.specs.declared.Message.TheVariants.{Request, Confirm, Refuse, Cease, CeaseAck, Hello, IHeardYou, Poll, Update, Error}
use Rattle.message_reading.specs.Reading as Wire
use Rattle.message_reading.specs.Reading.{header_answer, asn_at, decode_of}
use Rattle.message_writing.specs.Writing as Writing
use Rattle.update_walk.specs.Body as Body
use Rattle.update_writing.specs.Blocks as Blocks
use Rattle.codec_writing.specs.Octets as Octets
use Rattle.codec_writing.specs.Octets.{message_octets}
use Rattle.neighbour.specs.declared.Mode.TheVariants.{Passive}
use Rattle.neighbour.specs.declared.Settings.{Settings}
use Rattle.neighbour.specs.declared.Neighbour.{Neighbour}
use Rattle.neighbour.specs.Rules.{ones_of, goes_down}
use Rattle.gateway_state.specs.Outcomes as Outcomes
use Rattle.gateway_state.specs.Formed as Formed
use Rattle.gateway_state.specs.Formed.{state_formed}
use Rattle.gateway_state.specs.declared.Slot as Stored
use Rattle.gateway_state.specs.Slots.{slot_at}
use Rattle.gateway_state.proofs.ListLaws.{every_set, every_in}
use Rattle.gateway_slots.specs.Calls as Slots
use Rattle.gateway_rules.specs.Home as Home
use Rattle.gateway_rules.specs.Home.{good_home}
use Rattle.neighbour_machine.specs.Step.{step_of}
use Rattle.neighbour_seconds.specs.Seconds.{seconds_sum, clock_full}
use Rattle.gateway_state.proofs.FormedLaws.{is_up_lem}
use Rattle.neighbour_machine.specs.declared.Event.TheVariants.{Tick}
use Rattle.neighbour.specs.declared.Phase.TheVariants.{Up}
use Rattle.model.specs.Model.{Call, add, tick, Slot, free, used, Model, slot_in, put, no_octets, step, model, model_from, empty}
use Rattle.model.specs.Theorem.{Gateway, outcome_of, lists_nothing, gateway_step, run, cell, state_of, rows_held, rows_at, Sensible}
use Rattle.model.specs.Corollaries.{Taken, slot_on, is_up_on, reports, BothReport, Says, SaysRows}
use Rattle.model.specs.History.{is_up_slot}
use Rattle.model.specs.Windows.{record_in, windows, any_of, first_four, one_in_four}
use Rattle.model.specs.Strays.{cease_seven}
use Rattle.model.specs.Example.{through_all, briefly, anew, filled, long_added, brimful, SecondsMet, FullClockMet, some_settings, quiet_settings, lent_buffer, class_a, tick_seconds, says_hello, reporting_calls, eight, poll_rounds, last_number, almost_up, acquired_calls, greeted, abandoned, slow, late, late_first, overdue, EightMet, TimeOutMet, FullMet, LastNumberMet, QuietMet, IndicationMet, EverySecondMet, UnheardMet, TooQuickMet, CallsOn, StrayMet}
use Rattle.model.proofs.Represent.{sound, Good, sound_at}
use Rattle.model.proofs.Simulation.{represent, simulates}
use Rattle.model.proofs.History.{model_append}
use Rattle.model.proofs.Theorem.{step_is, rows_read_lem, run_is, model_good, last}
use Rattle.model.proofs.Corollaries.{slot_is, good_sensible}
use Rattle.model.proofs.Quiet.{slot_run, up_run}
use Rattle.model.proofs.Strays.{settings_stay}
use Rattle.model.proofs.Computed.{is_full, all_report, falls_silent, eight_facts, silent_facts, at_rest, up_for, lone, alone, Rests, ticked, stays_up, greeting, RestsAfter, entered, greeted_facts, IdleAgain, computed}

some_taken : Taken some_settings
unfolding some_settings Slots.fresh_of Slots.fresh_answer Outcomes.silent_of check Formed.good_settings Classes.good_net Classes.on_net Classes.net_width Classes.host_span
some_taken = refl

-- ---- a run, by what holds of its model

rows_of_lem : (calls : List Call) (j : ℕ) → j < 8 → rows_at (run some_settings calls) j ≡ rows_held (slot_in (model some_settings calls) j)
rows_of_lem calls j j8 =
    ap (λ (b : Gateway). rows_at b j) (run_is some_settings some_taken calls)
    ∙ rows_read_lem (model some_settings calls) (model_good some_settings some_taken calls) j j8

run_settings : (calls : List Call) → (run some_settings calls).state.settings ≡ some_settings
run_settings calls = settings_stay some_settings some_taken calls

-- ---- eight neighbours

module _ (m : Model) (t : all_report m ≡ true) where
  all_full : every is_full m.slots ≡ true
  unfolding all_report
  all_full = and_left _ _ t

  full_slot : length m.slots ≡ 8 → (j : ℕ) → j < 8 → length (rows_held (slot_in m j)) ≡ 128
  unfolding is_full slot_in
  full_slot e j j8 = eqb-true (length (rows_held (slot_in m j))) 128 (every_in is_full m.slots free j all_full (omega (arith, e)))

  first_reports : reports 167772160 (rows_held (slot_in m 0)) ≡ true
  unfolding all_report
  first_reports = and_left _ _ (and_right (every is_full m.slots) _ t)

  behind_first : (reports 167772160 (rows_held (slot_in m 1)) && (eqb (cell (slot_in m 0)).asn 7 && (not (clock_full (cell (slot_in m 0)).seconds) && is_up (record_in m 0).phase))) ≡ true
  unfolding all_report
  behind_first = and_right (reports 167772160 (rows_held (slot_in m 0))) _ (and_right (every is_full m.slots) _ t)

  second_reports : reports 167772160 (rows_held (slot_in m 1)) ≡ true
  second_reports = and_left _ _ behind_first

  first_asn : (cell (slot_in m 0)).asn ≡ 7
  first_asn = eqb-true (cell (slot_in m 0)).asn 7 (and_left _ _ (and_right (reports 167772160 (rows_held (slot_in m 1))) _ behind_first))

  behind_asn : (not (clock_full (cell (slot_in m 0)).seconds) && is_up (record_in m 0).phase) ≡ true
  behind_asn = and_right (eqb (cell (slot_in m 0)).asn 7) _ (and_right (reports 167772160 (rows_held (slot_in m 1))) _ behind_first)

  first_up : is_up (record_in m 0).phase ≡ true
  first_up = and_right (not (clock_full (cell (slot_in m 0)).seconds)) _ behind_asn

  first_time : clock_full (cell (slot_in m 0)).seconds ≡ false
  first_time = not-true _ (and_left _ _ behind_asn)

module _ (m : Model) (t : eight_facts m ≡ true) where
  all_report_lem : all_report m ≡ true
  unfolding eight_facts
  all_report_lem = and_left _ _ t

  behind_report : (eqb (record_in m 0).s 1 && (all_report (late_first m) && (state_formed (state_of (late_first m)) && eqb (record_in (late_first m) 0).t3 1))) ≡ true
  unfolding eight_facts
  behind_report = and_right (all_report m) _ t

  number_one : (record_in m 0).s ≡ 1
  number_one = eqb-true (record_in m 0).s 1 (and_left _ _ behind_report)

  late_all : (all_report (late_first m) && (state_formed (state_of (late_first m)) && eqb (record_in (late_first m) 0).t3 1)) ≡ true
  late_all = and_right (eqb (record_in m 0).s 1) _ behind_report

  late_report : all_report (late_first m) ≡ true
  late_report = and_left _ _ late_all

  late_formed : state_formed (state_of (late_first m)) ≡ true
  late_formed = and_left _ _ (and_right (all_report (late_first m)) _ late_all)

  late_due : (record_in (late_first m) 0).t3 ≡ 1
  late_due = eqb-true (record_in (late_first m) 0).t3 1 (and_right (state_formed (state_of (late_first m))) _ (and_right (all_report (late_first m)) _ late_all))

eight_facts_lem : eight_facts (model some_settings eight) ≡ true
unfolding model
eight_facts_lem = computed.all_up

eight_report : all_report (model some_settings eight) ≡ true
eight_report = all_report_lem _ eight_facts_lem

silent_facts_lem : silent_facts (model some_settings (eight ++ tick_seconds 1 609)) ≡ true
unfolding model
silent_facts_lem = computed.silent

still_report : all_report (model some_settings (eight ++ tick_seconds 1 609)) ≡ true
unfolding silent_facts
still_report = and_left _ _ silent_facts_lem

-- two report one net, read off any table
both_in : (b : Gateway) (m : Model) → all_report m ≡ true → ((j : ℕ) → j < 8 → rows_at b j ≡ rows_held (slot_in m j)) → BothReport b 0 1 167772160
both_in b m t rows =
    record {
      first = omega arith;
      second = omega arith;
      apart = λ (q : ◌≡◌ {A = ℕ} 0 1). absurd (omega arith);
      reported = ap (reports 167772160) (rows 0 (omega arith)) ∙ first_reports m t;
      also = ap (reports 167772160) (rows 1 (omega arith)) ∙ second_reports m t;
    }

enough : leb 2048 (length lent_buffer) ≡ true
unfolding lent_buffer Storing.zeros
enough = refl

home_empty : good_home some_settings [] ≡ true
unfolding Home.good_home Home.own_first Rows.rows_of every
home_empty = refl

says : (o : List ℕ) (x : Message) → header_answer o ≡ 0 → asn_at o ≡ 7 → decode_of o ≡ Ok x → Says (run some_settings eight) 0 o [] lent_buffer x
says o x h a d =
    record {
      room = enough;
      good_home_lem = ap (λ (g : Settings). good_home g []) (run_settings eight) ∙ home_empty;
      header = h;
      from = a ∙ sym (ap (λ (s : Stored.Slot). s.asn) (slot_run some_settings some_taken eight 0) ∙ first_asn (model some_settings eight) eight_report);
      meaning = d;
    }

pub record Reads (o : List ℕ) (x : Message) : Type 0 where
  pub header : header_answer o ≡ 0
  pub from : asn_at o ≡ 7
  pub meaning : decode_of o ≡ Ok x

-- the octets of these messages, read back
pub record ReadBack : Type 0 where
  pub cease : Reads (message_octets (Cease 7 0 0) []) (Cease 7 0 0)
  pub request : Reads (message_octets (Request 7 0 0 120 120) []) (Request 7 0 0 120 120)
  pub update : Reads (message_octets (Update 7 0 1 2148073472) (class_a 10 1)) (Update 7 0 1 2148073472)
  pub body : Body.update_of 128 2148073472 (message_octets (Update 7 0 1 2148073472) (class_a 10 1)) ≡ Body.accepted (class_a 10 1)
  pub full_update : Reads (message_octets (Update 7 1 1 2148073472) (class_a 0 128)) (Update 7 1 1 2148073472)
  pub full_body : Body.update_of 128 2148073472 (message_octets (Update 7 1 1 2148073472) (class_a 0 128)) ≡ Body.accepted (class_a 0 128)
  pub full : length (class_a 0 128) ≡ 128
  pub marked_update : Reads (message_octets (Update 7 1 129 2148073472) (class_a 10 1)) (Update 7 1 129 2148073472)
  pub hello : Reads (message_octets (Hello 7 0 1) []) (Hello 7 0 1)
  pub poll : Reads (message_octets (Poll 7 0 1 2148073472) []) (Poll 7 0 1 2148073472)

-- and of these
pub record StraysBack : Type 0 where
  pub confirm : Reads (message_octets (Confirm 7 4 0 30 120) []) (Confirm 7 4 0 30 120)
  pub refuse : Reads (message_octets (Refuse 7 4 6) []) (Refuse 7 4 6)
  pub hello : Reads (message_octets (Hello 7 4 1) []) (Hello 7 4 1)
  pub i_heard_you : Reads (message_octets (IHeardYou 7 4 1) []) (IHeardYou 7 4 1)
  pub poll : Reads (message_octets (Poll 7 4 1 2148073472) []) (Poll 7 4 1 2148073472)
  pub update : Reads (message_octets (Update 7 4 1 2148073472) (class_a 10 1)) (Update 7 4 1 2148073472)
  pub bad_body : Reads (message_octets (Update 7 4 1 2148073472) [] ++ (0 ∷ [])) (Update 7 4 1 2148073472)
  pub cease_ack : Reads (message_octets (CeaseAck 7 4 0) []) (CeaseAck 7 4 0)
  pub error : Reads (message_octets (Error 7 4 1 2 0 0 0) []) (Error 7 4 1 2 0 0 0)

read_back : ReadBack
unfolding check Wire.header_of Wire.header_answer Wire.meaning_of Wire.decode_as Wire.decode_of Writing.head_of Octets.plain_octets Blocks.side_rows Blocks.joined Blocks.runs Blocks.each Blocks.address_octets Blocks.net_octets Blocks.host_octets Blocks.nets_octets Blocks.group_octets Blocks.groups_octets Blocks.block_octets Blocks.side_octets Blocks.blocks_written Blocks.internal_blocks Blocks.external_blocks Kinds.kind_at Kinds.plain_status Kinds.refusal_status Kinds.marked_status Checksum.ones_add Checksum.ones_sum Checksum.checksum_of Checksum.sealed Checksum.word_total Checksum.folded Octets.message_octets Classes.net_width Classes.host_span Classes.good_net Classes.on_net Body.extended Body.many Body.left_justified Body.row_of_width Body.net_row Body.group_rows Body.host_width Body.gateway_of Body.block_rows Body.group_at Body.block_at Body.sides_at Body.groups_hold Body.blocks_hold Body.sides_hold Body.read_as Body.both_sides Body.nothing_left Body.body_of Body.further Body.net_at Body.walked_blocks Body.read_within Body.update_of Body.update_number Body.rows_read class_a some_settings join
read_back =
    record {
      cease = record { header = refl; from = refl; meaning = refl };
      request = record { header = refl; from = refl; meaning = refl };
      update = record { header = refl; from = refl; meaning = refl };
      body = refl;
      full_update = record { header = refl; from = refl; meaning = refl };
      full_body = refl;
      full = refl;
      marked_update = record { header = refl; from = refl; meaning = refl };
      hello = record { header = refl; from = refl; meaning = refl };
      poll = record { header = refl; from = refl; meaning = refl };
    }

strays_back : StraysBack
unfolding check Wire.header_of Wire.header_answer Wire.meaning_of Wire.decode_as Wire.decode_of Writing.head_of Octets.plain_octets Blocks.side_rows Blocks.joined Blocks.runs Blocks.each Blocks.address_octets Blocks.net_octets Blocks.host_octets Blocks.nets_octets Blocks.group_octets Blocks.groups_octets Blocks.block_octets Blocks.side_octets Blocks.blocks_written Blocks.internal_blocks Blocks.external_blocks Kinds.kind_at Kinds.plain_status Kinds.refusal_status Kinds.marked_status Checksum.ones_add Checksum.ones_sum Checksum.checksum_of Checksum.sealed Checksum.word_total Checksum.folded Octets.message_octets Classes.net_width Classes.host_span Classes.good_net Classes.on_net Body.extended Body.many Body.left_justified Body.row_of_width Body.net_row Body.group_rows Body.host_width Body.gateway_of Body.block_rows Body.group_at Body.block_at Body.sides_at Body.groups_hold Body.blocks_hold Body.sides_hold Body.read_as Body.both_sides Body.nothing_left Body.body_of Body.further Body.net_at Body.walked_blocks Body.read_within Body.update_of Body.update_number Body.rows_read class_a some_settings join
strays_back =
    record {
      confirm = record { header = refl; from = refl; meaning = refl };
      refuse = record { header = refl; from = refl; meaning = refl };
      hello = record { header = refl; from = refl; meaning = refl };
      i_heard_you = record { header = refl; from = refl; meaning = refl };
      poll = record { header = refl; from = refl; meaning = refl };
      update = record { header = refl; from = refl; meaning = refl };
      bad_body = record { header = refl; from = refl; meaning = refl };
      cease_ack = record { header = refl; from = refl; meaning = refl };
      error = record { header = refl; from = refl; meaning = refl };
    }

-- the record in the first slot of a run
first_record : (calls : List Call) → (slot_on (run some_settings calls) 0).neighbour ≡ record_in (model some_settings calls) 0
unfolding record_in
first_record calls = ap (λ (s : Stored.Slot). s.neighbour) (slot_run some_settings some_taken calls 0)

goes_silent : falls_silent (record_in (model some_settings (eight ++ tick_seconds 1 609)) 0) ≡ true
unfolding silent_facts
goes_silent = and_right (all_report (model some_settings (eight ++ tick_seconds 1 609))) _ silent_facts_lem

module _ (n : Neighbour) (t : falls_silent n ≡ true) where
  one_second : n.t1 ≡ 1
  unfolding falls_silent
  one_second = eqb-true n.t1 1 (and_left _ _ t)

  goes_down_lem : goes_down n.mode (ones_of ((n.register * 2 + n.heard) % 16)) ≡ true
  unfolding falls_silent
  goes_down_lem = and_right (eqb n.t1 1) _ t

pub eight_met : EightMet
eight_met =
    record {
      taken = some_taken;
      full =
          λ j j8. ap length (last some_settings some_taken eight j j8)
          ∙ full_slot (model some_settings eight) eight_report (model_good some_settings some_taken eight).eight j j8;
      both = both_in _ (model some_settings eight) eight_report (rows_of_lem eight);
      room = enough;
      cease = says _ _ read_back.cease.header read_back.cease.from read_back.cease.meaning;
      request = says _ _ read_back.request.header read_back.request.from read_back.request.meaning;
      still_both = both_in _ (model some_settings (eight ++ tick_seconds 1 609)) still_report (rows_of_lem (eight ++ tick_seconds 1 609));
      time_left = ap (λ (s : Stored.Slot). clock_full s.seconds) (slot_run some_settings some_taken (eight ++ tick_seconds 1 609) 0) ∙ first_time _ still_report;
      silent = ap (λ (n : Neighbour). n.t1) (first_record (eight ++ tick_seconds 1 609)) ∙ one_second _ goes_silent;
      lost =
          ap (λ (n : Neighbour). goes_down n.mode (ones_of ((n.register * 2 + n.heard) % 16))) (first_record (eight ++ tick_seconds 1 609))
          ∙ goes_down_lem _ goes_silent;
    }

-- an Update of 128 rows
some_net : some_settings.net ≡ 2148073472
unfolding some_settings
some_net = refl

body_on : (b : Gateway) (o : List ℕ) (rows : List Row) → b.state.settings ≡ some_settings → Body.update_of 128 2148073472 o ≡ Body.accepted rows
    → Body.update_of 128 b.state.settings.net o ≡ Body.accepted rows
body_on b o rows e r =
    ap (λ (g : Settings). Body.update_of 128 g.net o) e ∙ ap (λ (net : ℕ). Body.update_of 128 net o) some_net ∙ r

pub full_met : FullMet
full_met =
    let s : (slot_on (run some_settings eight) 0).neighbour.s ≡ 1 = ap (λ (n : Neighbour). n.s) (first_record eight) ∙ number_one _ eight_facts_lem in
    let r = read_back.full_update in
    record {
      up = ap (λ (n : Neighbour). is_up n.phase) (first_record eight) ∙ first_up (model some_settings eight) eight_report;
      full = read_back.full;
      update =
          subst (λ (k : ℕ). SaysRows (run some_settings eight) 0 k (message_octets (Update 7 1 1 2148073472) (class_a 0 128)) [] lent_buffer (class_a 0 128)) (sym s)
          (record {
            asn = 7;
            status = 1;
            net = 2148073472;
            says = says _ _ r.header r.from r.meaning;
            body = body_on (run some_settings eight) _ _ (run_settings eight) read_back.full_body;
          });
    }

-- ---- seconds in each state

seconds_run : (calls : List Call) → (slot_on (run some_settings calls) 0).seconds ≡ (cell (slot_in (model some_settings calls) 0)).seconds
seconds_run calls = ap (λ (s : Stored.Slot). s.seconds) (slot_run some_settings some_taken calls 0)

pub seconds_met : SecondsMet
seconds_met =
    record {
      taken = computed.added;
      kept = computed.kept;
      counts = seconds_run (add 1 7 ∷ through_all) ∙ computed.counts;
      ticked = computed.ticked_so;
      shortened = computed.shortened;
      brief = seconds_run briefly ∙ computed.brief;
      told = computed.told;
      all = computed.all;
      again = seconds_run anew ∙ computed.again;
      told_again = computed.told_again;
      all_again = computed.all_again;
    }

sound_filled : (slot : Slot) → sound slot ≡ true → sound (filled slot) ≡ true
unfolding sound filled
sound_filled free e = refl
sound_filled (used p) e = e

long_good : Good long_added
unfolding long_added put
long_good =
    let m = model some_settings (add 1 7 ∷ []) in
    let ok = model_good some_settings some_taken (add 1 7 ∷ []) in
    record {
      eight = length-set m.slots 0 (filled (slot_in m 0)) ∙ ok.eight;
      each = every_set sound m.slots 0 (filled (slot_in m 0)) ok.each (sound_filled (slot_in m 0) (sound_at m ok 0));
      formed = computed.brim.formed;
    }

is_brimful : represent long_added ≡ brimful
unfolding represent brimful
is_brimful = refl

pub full_clock_met : FullClockMet
full_clock_met =
    let slot : slot_on brimful 0 ≡ cell (slot_in long_added 0) = ap (λ (b : Gateway). slot_on b 0) (sym is_brimful) ∙ slot_is long_added long_good 0 in
    record {
      sensible = subst Sensible is_brimful (good_sensible long_added long_good);
      known = λ e. absurd (omega (arith, sym (ap (λ (s : Stored.Slot). s.address) slot) ∙ e, computed.brim.address));
      full = ap (λ (s : Stored.Slot). clock_full s.seconds) slot ∙ computed.brim.seconds;
    }

-- ---- t3 run out

sound_late : (slot : Slot) → sound slot ≡ true → sound (late slot) ≡ true
unfolding sound late
sound_late free e = refl
sound_late (used p) e = e

late_good : Good (late_first (model some_settings eight))
unfolding late_first put
late_good =
    let m = model some_settings eight in
    let ok = model_good some_settings some_taken eight in
    record {
      eight = length-set m.slots 0 (late (slot_in m 0)) ∙ ok.eight;
      each = every_set sound m.slots 0 (late (slot_in m 0)) ok.each (sound_late (slot_in m 0) (sound_at m ok 0));
      formed = late_formed m eight_facts_lem;
    }

is_overdue : represent (late_first (model some_settings eight)) ≡ overdue
unfolding represent overdue
is_overdue = refl

pub time_out_met : TimeOutMet
unfolding record_in
time_out_met =
    let m = late_first (model some_settings eight) in
    record {
      sensible = subst Sensible is_overdue (good_sensible m late_good);
      both = both_in overdue m (late_report _ eight_facts_lem) (λ j j8. ap (λ (b : Gateway). rows_at b j) (sym is_overdue) ∙ rows_read_lem m late_good j j8);
      time_left = ap (λ (b : Gateway). clock_full (slot_on b 0).seconds) (sym is_overdue) ∙ ap (λ (s : Stored.Slot). clock_full s.seconds) (slot_is m late_good 0) ∙ first_time m (late_report _ eight_facts_lem);
      due = ap (λ (b : Gateway). (slot_on b 0).neighbour.t3) (sym is_overdue) ∙ ap (λ (s : Stored.Slot). s.neighbour.t3) (slot_is m late_good 0) ∙ late_due _ eight_facts_lem;
    }

-- ---- the last number

polled_more : (a n : ℕ) → poll_rounds (a + n) ≡ poll_rounds a ++ poll_rounds n
unfolding poll_rounds
polled_more zero n = ap poll_rounds (zero-add n)
polled_more (suc a) n =
    let e : suc a + n ≡ suc (a + n) = omega arith in
    ap poll_rounds e ∙ ap (λ (l : List Call). (says_hello 1 ∷ tick_seconds 1 122) ++ l) (polled_more a n) ∙ sym (append_assoc (says_hello 1 ∷ tick_seconds 1 122) (poll_rounds a) (poll_rounds n))

-- calls that go on from such a model
then : {m : Model} {u s register heard t1 t2 t3 u' s' register' heard' t1' t2' t3' : ℕ} → Rests m u s register heard t1 t2 t3 → (calls : List Call)
    → ((n : Neighbour) → Rests (model_from (alone (at_rest n s register heard t1 t2 t3) u) calls) u' s' register' heard' t1' t2' t3')
    → Rests (model_from m calls) u' s' register' heard' t1' t2' t3'
then {u' = u'} {s' = s'} {register' = register'} {heard' = heard'} {t1' = t1'} {t2' = t2'} {t3' = t3'} r calls h =
    subst (λ (x : Model). Rests (model_from x calls) u' s' register' heard' t1' t2' t3') (sym r.is) (h r.base)

-- the clock of a few years is not full
some_left : (u : ℕ) → u < 4000000000 → clock_full (up_for u) ≡ false
unfolding clock_full seconds_sum
some_left u h = ne_eqb (0 + 0 + 122 + u + 0) 4294967295 (λ e. absurd (omega (arith, e, h)))

-- so many ticks, Up after each
ticks : (k : ℕ) (n : Neighbour) (u : ℕ) → u + k < 4000000000 → n.phase ≡ Up → stays_up k n ≡ true
    → model_from (alone n u) (tick_seconds 1 k) ≡ alone (ticked k n) (u + k)
unfolding tick_seconds model_from ticked stays_up
ticks zero n u h p q = let e : u ≡ u + 0 = omega arith in ap (alone n) e
ticks (suc k) n u h p q =
    let next = (step_of some_settings 7 n Tick no_octets).neighbour in
    let up = and_left (is_up next.phase) (stays_up k next) q in
    let one = computed.tick_moves n u (some_left u (omega (arith, h))) p up in
    let e : u + 1 + k ≡ u + suc k = omega arith in
    ap (λ (m : Model). model_from m (tick_seconds 1 k)) one
    ∙ ticks k next (u + 1) (omega (arith, h)) (is_up_lem next.phase up) (and_right (is_up next.phase) (stays_up k next) q)
    ∙ ap (alone (ticked k next)) e

-- a Hello, then so many ticks
round : (k : ℕ) (n : Neighbour) (s u : ℕ) {s' register heard t1 t2 t3 : ℕ} → u + k < 4000000000 → RestsAfter k (greeting n s) s' register heard t1 t2 t3
    → Rests (model_from (alone (at_rest n s 15 0 122 122 3478) u) (says_hello 1 ∷ tick_seconds 1 k)) (u + k) s' register heard t1 t2 t3
round k n s u h r =
    record {
      base = ticked k (greeting n s);
      is =
          model_append (alone (at_rest n s 15 0 122 122 3478) u) (says_hello 1 ∷ []) (tick_seconds 1 k)
          ∙ ap (λ (m : Model). model_from m (tick_seconds 1 k)) (computed.hello_moves n s u)
          ∙ ticks k (greeting n s) u h (computed.greets n s) r.up ∙ ap (λ (x : Neighbour). alone x (u + k)) r.is;
    }

-- n polls more
polls : (n u s : ℕ) → s + n < 65536 → u + 122 * n < 4000000000 → (k : Neighbour)
    → Rests (model_from (alone (at_rest k s 15 0 122 122 3478) u) (poll_rounds n)) (u + 122 * n) (s + n) 15 0 122 122 3478
unfolding poll_rounds model_from
polls zero u s h l k =
    let e : s ≡ s + 0 = omega arith in
    let f : u ≡ u + 122 * 0 = omega arith in
    record { base = k; is = ap (λ (j : ℕ). alone (at_rest k j 15 0 122 122 3478) u) e ∙ ap (alone (at_rest k (s + 0) 15 0 122 122 3478)) f }
polls (suc n) u s h l k =
    let m = alone (at_rest k s 15 0 122 122 3478) u in
    let one = says_hello 1 ∷ tick_seconds 1 122 in
    let e : (s + 1) % 65536 ≡ suc s = omega (arith, h) in
    let f : suc s + n ≡ s + suc n = omega arith in
    let g : u + 122 + 122 * n ≡ u + 122 * suc n = omega arith in
    let r : Rests (model_from m one) (u + 122) (suc s) 15 0 122 122 3478 =
    subst (λ (j : ℕ). Rests (model_from m one) (u + 122) j 15 0 122 122 3478) e (round 122 k s u (omega (arith, l)) (computed.once k s)) in
    let q : Rests (model_from (model_from m one) (poll_rounds n)) (u + 122 + 122 * n) (suc s + n) 15 0 122 122 3478 =
    then r (poll_rounds n) (polls n (u + 122) (suc s) (omega (arith, h)) (omega (arith, l))) in
    subst (λ (j : ℕ). Rests (model_from m (one ++ poll_rounds n)) j (s + suc n) 15 0 122 122 3478) g
    (subst (λ (j : ℕ). Rests (model_from m (one ++ poll_rounds n)) (u + 122 + 122 * n) j 15 0 122 122 3478) f
    (subst (λ (x : Model). Rests x (u + 122 + 122 * n) (suc s + n) 15 0 122 122 3478) (sym (model_append m one (poll_rounds n))) q))

polled_all : poll_rounds 65534 ≡ poll_rounds 3 ++ poll_rounds 65531
polled_all = polled_more 3 65531

last_model : Rests (model some_settings last_number) 7995269 65535 15 1 1 1 3479
unfolding model last_number
last_model =
    let up = model_from (empty some_settings) (reporting_calls 1) in
    let second = says_hello 1 ∷ tick_seconds 1 121 in
    let full = then computed.one_up (poll_rounds 3) computed.full in
    let near = then full (poll_rounds 65531) (polls 65531 366 4 (omega arith) (omega arith)) in
    let split = model_append (empty some_settings) (reporting_calls 1) (poll_rounds 65534 ++ second)
    ∙ model_append up (poll_rounds 65534) second
    ∙ ap (λ (l : List Call). model_from (model_from up l) second) polled_all
    ∙ ap (λ (m : Model). model_from m second) (model_append up (poll_rounds 3) (poll_rounds 65531)) in
    subst (λ (m : Model). Rests m 7995269 65535 15 1 1 1 3479) (sym split)
    (then near second (λ n. round 121 n 65535 7995148 (omega arith) (computed.due n)))

-- the neighbour alone in slot 0
module _ (n : Neighbour) (u : ℕ) where
  lone_record : (slot_on (represent (alone n u)) 0).neighbour ≡ n
  unfolding represent state_of lone slot_at cell
  lone_record = refl

  lone_address : (slot_on (represent (alone n u)) 0).address ≡ 1
  unfolding represent state_of lone slot_at cell
  lone_address = refl

  lone_asn : (slot_on (represent (alone n u)) 0).asn ≡ 7
  unfolding represent state_of lone slot_at cell
  lone_asn = refl

  lone_seconds : (slot_on (represent (alone n u)) 0).seconds ≡ up_for u
  unfolding represent state_of lone slot_at cell
  lone_seconds = refl

abbrev due : Neighbour
due = at_rest last_model.base 65535 15 1 1 1 3479

last_run : run some_settings last_number ≡ represent (alone due 7995269)
last_run = run_is some_settings some_taken last_number ∙ ap represent last_model.is

last_good : Good (alone due 7995269)
last_good = subst Good last_model.is (model_good some_settings some_taken last_number)

module _ (n : Neighbour) (s register heard t1 t2 t3 : ℕ) where
  rest_up : is_up (at_rest n s register heard t1 t2 t3).phase ≡ true
  unfolding at_rest with_reach
  rest_up = refl

  rest_number : (at_rest n s register heard t1 t2 t3).s ≡ s
  unfolding at_rest with_reach with_timers with_numbers
  rest_number = refl

  rest_poll : (at_rest n s register heard t1 t2 t3).t2 ≡ t2
  unfolding at_rest with_reach with_timers
  rest_poll = refl

one_more_lem : (step (tick 1 lent_buffer) (alone due 7995269)).model ≡ alone (at_rest (ticked 1 due) 0 15 0 122 122 3478) 7995270
unfolding tick_seconds model_from
one_more_lem =
    let w = computed.wraps last_model.base in
    ticks 1 due 7995269 (omega arith) (is_up_lem due.phase (rest_up _ 65535 15 1 1 1 3479)) w.up ∙ ap (λ (n : Neighbour). alone n 7995270) w.is

-- the next tick polls with number 0
next_run : gateway_step (tick (slot_on (run some_settings last_number) 0).address lent_buffer) (run some_settings last_number)
    ≡ represent (alone (at_rest (ticked 1 due) 0 15 0 122 122 3478) 7995270)
next_run =
    ap (λ (b : Gateway). gateway_step (tick (slot_on b 0).address lent_buffer) b) last_run
    ∙ ap (λ (a : ℕ). gateway_step (tick a lent_buffer) (represent (alone due 7995269))) (lone_address due 7995269)
    ∙ step_is (alone due 7995269) last_good (tick 1 lent_buffer) ∙ ap represent one_more_lem

pub last_number_met : LastNumberMet
last_number_met =
    let record_is : (slot_on (run some_settings last_number) 0).neighbour ≡ due = ap (λ (b : Gateway). (slot_on b 0).neighbour) last_run ∙ lone_record due 7995269 in
    record {
      time_left =
          ap (λ (b : Gateway). clock_full (slot_on b 0).seconds) last_run ∙ ap clock_full (lone_seconds due 7995269) ∙ some_left 7995269 (omega arith);
      number = ap (λ (n : Neighbour). n.s) record_is ∙ rest_number _ 65535 15 1 1 1 3479;
      due = ap (λ (n : Neighbour). n.t2) record_is ∙ rest_poll _ 65535 15 1 1 1 3479;
      up = ap (λ (n : Neighbour). is_up n.phase) record_is ∙ rest_up _ 65535 15 1 1 1 3479;
      still =
          ap (λ (b : Gateway). is_up_on b 0) next_run ∙ ap (λ (n : Neighbour). is_up n.phase) (lone_record _ 7995270) ∙ rest_up _ 0 15 0 122 122 3478;
      update =
          record {
            asn = 7;
            status = 1;
            net = 2148073472;
            says =
                record {
                  room = enough;
                  good_home_lem = ap (λ (g : Settings). good_home g []) (run_settings last_number) ∙ home_empty;
                  header = read_back.update.header;
                  from = read_back.update.from ∙ sym (ap (λ (b : Gateway). (slot_on b 0).asn) last_run ∙ lone_asn due 7995269);
                  meaning = read_back.update.meaning;
                };
            body = body_on (run some_settings last_number) _ _ (run_settings last_number) read_back.body;
          };
    }

-- ---- a quiet neighbour

almost_up_lem : is_up_slot (slot_in (model some_settings almost_up) 0) ≡ false
unfolding model
almost_up_lem = computed.not_yet

just_up : is_up_slot (slot_in (model some_settings entered) 0) ≡ true
unfolding model
just_up = computed.just_up

just_passive : (record_in (model some_settings entered) 0).mode ≡ Passive
unfolding model
just_passive = computed.passive

run_passive : (slot_on (run some_settings entered) 0).neighbour.mode ≡ Passive
run_passive = ap (λ (n : Neighbour). n.mode) (first_record entered) ∙ just_passive

one_in_five : one_in_four (true ∷ false ∷ false ∷ false ∷ true ∷ []) ≡ true
unfolding one_in_four first_four any_of
one_in_five = refl

its_windows : windows (model some_settings entered) 0 false (slow 1 129) ≡ true ∷ false ∷ false ∷ false ∷ true ∷ []
unfolding model
its_windows = computed.ended

pub quiet_met : QuietMet
unfolding model entered
quiet_met =
    record {
      entered =
          record {
            not_before = up_run some_settings some_taken almost_up 0 ∙ almost_up_lem;
            since = up_run some_settings some_taken entered 0 ∙ just_up;
            passive = run_passive;
          };
      unrestarted = computed.unrestarted;
      ended = its_windows;
      often = ap one_in_four its_windows ∙ one_in_five;
      last = computed.last;
      lost = up_run some_settings some_taken (entered ++ slow 2 2) 0 ∙ computed.lost;
    }

pub indication_met : IndicationMet
unfolding model entered
indication_met = record { taken = computed.taken; says = read_back.marked_update.meaning; passive = run_passive }

-- ---- a quick neighbour

acquired_passive : (slot_on (run some_settings acquired_calls) 0).neighbour.mode ≡ Passive
unfolding model
acquired_passive = ap (λ (n : Neighbour). n.mode) (first_record acquired_calls) ∙ computed.acquired_passive

-- the gateway's answer to a Hello is the model's
hello_zero : (outcome_of (says_hello 1) (run some_settings acquired_calls)).answer ≡ 0
unfolding model says_hello lists_nothing
hello_zero =
    ap (λ (b : Gateway). (outcome_of (says_hello 1) b).answer) (run_is some_settings some_taken acquired_calls)
    ∙ (simulates (model some_settings acquired_calls) (model_good some_settings some_taken acquired_calls) (says_hello 1) (λ f. absurd (true≢false f))).answer
    ∙ computed.zero

pub every_second_met : EverySecondMet
unfolding model
every_second_met =
    record {
      first = record { passive = acquired_passive; comes = computed.comes; answer = hello_zero };
      every = computed.every_tick;
      ended = computed.both_heard;
    }

pub unheard_met : UnheardMet
unfolding model
unheard_met = record { passive = acquired_passive; other = computed.other }

module _ (m : Model) (t : greeted_facts m ≡ true) where
  greeted_asn : (cell (slot_in m 0)).asn ≡ 7
  unfolding greeted_facts
  greeted_asn = eqb-true (cell (slot_in m 0)).asn 7 (and_left _ _ t)

  behind_seven : (acquired (record_in m 0).phase && (ltb (record_in m 0).sincehello 30 && ltb (record_in m 0).sincepoll 120)) ≡ true
  unfolding greeted_facts
  behind_seven = and_right (eqb (cell (slot_in m 0)).asn 7) _ t

  greeted_reached : acquired (record_in m 0).phase ≡ true
  greeted_reached = and_left _ _ behind_seven

  greeted_soon : (ltb (record_in m 0).sincehello 30 && ltb (record_in m 0).sincepoll 120) ≡ true
  greeted_soon = and_right (acquired (record_in m 0).phase) _ behind_seven

  hello_soon : (record_in m 0).sincehello < 30
  hello_soon = ltb-true (record_in m 0).sincehello 30 (and_left _ _ greeted_soon)

  poll_soon : (record_in m 0).sincepoll < 120
  poll_soon = ltb-true (record_in m 0).sincepoll 120 (and_right (ltb (record_in m 0).sincehello 30) _ greeted_soon)

greeted_facts_lem : greeted_facts (model some_settings greeted) ≡ true
unfolding model
greeted_facts_lem = computed.greeted_so

says_greeted : (o : List ℕ) (x : Message) → Reads o x → Says (run some_settings greeted) 0 o [] lent_buffer x
says_greeted o x r =
    record {
      room = enough;
      good_home_lem = ap (λ (g : Settings). good_home g []) (run_settings greeted) ∙ home_empty;
      header = r.header;
      from = r.from ∙ sym (ap (λ (s : Stored.Slot). s.asn) (slot_run some_settings some_taken greeted 0) ∙ greeted_asn (model some_settings greeted) greeted_facts_lem);
      meaning = r.meaning;
    }

pub too_quick_met : TooQuickMet
too_quick_met =
    let is = sym (first_record greeted) in
    record {
      reached = ap (λ (n : Neighbour). acquired n.phase) (first_record greeted) ∙ greeted_reached _ greeted_facts_lem;
      hello = says_greeted _ _ read_back.hello;
      soon = subst (λ (n : Neighbour). n.sincehello < 30) is (hello_soon _ greeted_facts_lem);
      poll = says_greeted _ _ read_back.poll;
      as_soon = subst (λ (n : Neighbour). n.sincepoll < 120) is (poll_soon _ greeted_facts_lem);
    }

-- ---- a neighbour that was given up

quiet_taken : Taken quiet_settings
unfolding quiet_settings Slots.fresh_of Slots.fresh_answer Outcomes.silent_of check Formed.good_settings Classes.good_net Classes.on_net Classes.net_width Classes.host_span
quiet_taken = refl

home_quietly : good_home quiet_settings [] ≡ true
unfolding Home.good_home Home.own_first Rows.rows_of every
home_quietly = refl

module _ (g : Settings) (taken : Taken g) (quiet : ℕ) (setting : g.quiet ≡ quiet) (nine : g.asn ≡ 9) (home : good_home g [] ≡ true) (so : IdleAgain (model g abandoned)) where
  calls_on : (o : List ℕ) (x : Message) → Reads o x → CallsOn g o x
  unfolding record_in
  calls_on o x r =
      let is = slot_run g taken abandoned 0 in
      record {
        known = λ e. absurd (omega (arith, so.address, sym (ap (λ (s : Stored.Slot). s.address) is) ∙ e));
        idle = ap (λ (s : Stored.Slot). s.neighbour.phase) is ∙ so.phase;
        says =
            record {
              room = enough;
              good_home_lem = ap (λ (h : Settings). good_home h []) (settings_stay g taken abandoned) ∙ home;
              header = r.header;
              from = r.from ∙ sym (ap (λ (s : Stored.Slot). s.asn) is ∙ so.asn);
              meaning = r.meaning;
            };
      }

  drawn_is : cease_seven g.asn ≡ 2 ∷ 3 ∷ 3 ∷ 7 ∷ 250 ∷ 236 ∷ 0 ∷ 9 ∷ 0 ∷ 0 ∷ []
  unfolding cease_seven Checksum.sealed Checksum.checksum_of Checksum.ones_sum Checksum.ones_add
  drawn_is = ap cease_seven nine

  stray_met : StrayMet g quiet
  stray_met =
      record {
        taken = taken;
        setting = setting;
        confirm = calls_on _ _ strays_back.confirm;
        refuse = calls_on _ _ strays_back.refuse;
        hello = calls_on _ _ strays_back.hello;
        i_heard_you = calls_on _ _ strays_back.i_heard_you;
        poll = calls_on _ _ strays_back.poll;
        update = calls_on _ _ strays_back.update;
        bad_body = calls_on _ _ strays_back.bad_body;
        cease_ack = calls_on _ _ strays_back.cease_ack;
        error = calls_on _ _ strays_back.error;
        drawn = drawn_is;
      }

pub stray_answered_met : StrayMet some_settings 0
unfolding model some_settings
stray_answered_met = stray_met some_settings some_taken 0 refl refl home_empty computed.idle_again

pub stray_ignored_met : StrayMet quiet_settings 1
unfolding model quiet_settings
stray_ignored_met = stray_met quiet_settings quiet_taken 1 refl refl home_quietly computed.idle_quietly
