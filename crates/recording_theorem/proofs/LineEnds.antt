-- What the player does with a line that has ended is what the whole recording says of that line. Assumes nothing.
use Prim.Native.Nat.{ℕ, zero, suc, ◌≤◌, ◌<◌}
use native.Mathlib.Omega.{arith}
use mathlib.Core.Path.{◌≡◌, refl, sym, ap, ◌∙◌, subst}
use mathlib.Core.Bool.{Bool, true, false, cond, ◌&&◌, ◌||◌, false≢true}
use mathlib.Core.List.{List, [], ◌∷◌, map, append-nil}
use lib.Dec.{leb, ltb, eqb}
use lib.ListN.{take}
use borrow.Author.Tests.{ltb-true, ltb-false, leb-true, eq-eqb, eqb-true, eqb-false}
use Rattle.checks.specs.Lists.{join}
use Rattle.checks.proofs.Laws.{and_right, cond_elim}
use Rattle.text.specs.Text.{text, decimal, dotted}
use Rattle.neighbour.specs.declared.Settings.{Settings}
use Rattle.neighbour.specs.Record.{with_quiet}
use Rattle.gateway_state.specs.declared.Outcome.{Outcome}
use Rattle.gateway_slots.specs.Calls.{fresh_of}
use Rattle.std.specs.Prelude.{Option, Some, None}
use Rattle.text_values.specs.Numbers.{when_number}
use Rattle.recording_lines.specs.Lines.{Event, bad, add, remove, start, stop, tick, rx, event_of, own_as_of, own_of, capability_of, net_of, quiet_of}
use Rattle.recording_lines.specs.Claims.{is_address, is_good, in_range}
use Rattle.recording_lines.proofs.Events.{events, settings}
use Rattle.recording_bad_line.specs.BadLine.{bad_text, one_more}
use Rattle.model.specs.Model as M
use Rattle.model.specs.Theorem.{Gateway, gateway_step, gateway_from, begun, run, empty_table}
use Rattle.model.proofs.Represent.{Good}
use Rattle.model.proofs.Simulation.{represent, good_step}
use Rattle.model.proofs.Theorem.{step_is, begun_is, empty_good}
use Rattle.recording_call.specs.Told.{lent, call_text, on}
use Rattle.recording_player.specs.declared.Player.{Player}
use Rattle.recording_player.specs.Player.{next_line, breaking, due, settled, having, passing, telling_of, Step, bad_step, broken_step, silent_step, with_as, with_own, with_capability, with_net, setting_step, fresh_step, net_step, head_step, is_setting, call_step, only_step, event_step, line_step}
use Rattle.recording_theorem.specs.Output.{RecordedLine, ended, event_in, value_in, Opening, broken, opened, from_quiet, taken_by, from_net, from_capability, from_own, opening_of, ticks, calls_of, telling}
use Rattle.recording_theorem.proofs.ByCalls.{bad_line, calls_told, event_told, told_text, opening_text}
use Rattle.recording_player.proofs.Laws.{head_quiet, setting_late, setting_none, setting_quiet}
use Rattle.recording_theorem.proofs.Laws.{quiet_taken}
use Rattle.recording_theorem.proofs.Short.{event_short, number_short}
use Rattle.recording_theorem.proofs.Due.{Due, saying, silence, events_due, calls_due, final_of, opening_due, opening_from, remaining, remaining_early, remaining_late, line_due}

-- ---- what every step keeps

-- the state and the table are those of a good model, so checks 1 and 2 pass
pub record Stands (b : Gateway) : Type 0 where
  pub model : M.Model
  pub good : Good model
  pub is : b ≡ represent model

pub stands_call : (b : Gateway) (call : M.Call) → Stands b → Stands (gateway_step call b)
stands_call b call h =
    record {
      model = (M.step call h.model).model;
      good = good_step h.model h.good call;
      is = ap (gateway_step call) h.is ∙ step_is h.model h.good call;
    }

-- the state is fresh's, and a line `quiet` may still come
pub record Started (p : Player) : Type 0 where
  pub took : (fresh_of p.settings).answer ≡ 0
  pub state : (fresh_of p.settings).state ≡ p.state

-- before the events no tick is due, and until then, or once the player is broken, the table is as it was lent
pub record Kept (p : Player) (table : List ℕ) : Type 0 where
  pub idle : p.lines < 5 → p.ticks ≡ 0
  pub early : p.lines < 5 → table ≡ empty_table
  pub still : p.broken ≡ true → table ≡ empty_table
  pub started : p.broken ≡ false → p.lines ≡ 4 → Started p
  pub stands : p.broken ≡ false → 4 ≤ p.lines → Stands (on p.state table)
  -- 02: "count 1 to 86,400"
  pub few : p.ticks ≤ 86400

pub kept_early : (p : Player) → p.ticks ≡ 0 → (p.broken ≡ false → p.lines ≡ 4 → Started p)
    → (p.broken ≡ false → 4 ≤ p.lines → Stands (on p.state empty_table)) → Kept p empty_table
kept_early p e b s = record { idle = λ h. e; early = λ h. refl; still = λ h. refl; started = b; stands = s; few = omega (arith, e) }

pub kept_late : (p : Player) (table : List ℕ) → 5 ≤ p.lines → p.broken ≡ false → p.ticks ≤ 86400 → Stands (on p.state table) → Kept p table
kept_late p table h e t s =
    record {
      idle = λ k. absurd (omega (arith, h, k));
      early = λ k. absurd (omega (arith, h, k));
      still = λ k. absurd (false≢true (sym e ∙ k));
      started = λ f k. absurd (omega (arith, h, k));
      stands = λ f l. s;
      few = t;
    }

-- a step after which no octet of a line is held does its part of what was due
pub record Follows (s : Step) (d : Due) (l : List RecordedLine) : Type 0 where
  pub kept : Kept s.player s.table
  pub none : s.player.held ≡ 0
  pub same : d ≡ saying s.text (remaining s.player s.table l)

-- ---- one of the first four lines

module _ (p : Player) (l : List RecordedLine) (z : p.ticks ≡ 0) where
  broken_follows : (answer : ℕ) → Follows (broken_step p empty_table answer) (opening_due p.traced (broken (one_more p.lines))) l
  unfolding broken_step breaking next_line opening_due opening_text final_of remaining saying silence
  broken_follows answer =
      record {
        kept = kept_early (breaking (next_line p)) z (λ e h. absurd (false≢true (sym e))) (λ e h. absurd (false≢true (sym e)));
        none = refl;
        same = λ i. record { text = sym (append-nil (bad_text (one_more p.lines))) i; final = final_of (broken (one_more p.lines)) };
      }

  module _ (f : p.broken ≡ false) where
    setting_follows : (set : Settings → ℕ → Settings) (next : ℕ → Opening) → one_more p.lines < 4
        → ((n : ℕ) → next n ≡ opening_from (one_more p.lines) (set p.settings n) l)
        → (value : Option ℕ) → Follows (setting_step p empty_table value set) (opening_due p.traced (when_number value (broken (one_more p.lines)) next)) l
    unfolding setting_step when_number silent_step settled next_line saying
    setting_follows set next k h None = broken_follows 19
    setting_follows set next k h (Some n) =
        record {
          kept = kept_early (settled (next_line p) (set p.settings n)) z (λ e g. absurd (omega (arith, k, g))) (λ e g. absurd (omega (arith, k, g)));
          none = refl;
          same = ap (opening_due p.traced) (h n) ∙ sym (remaining_early (settled (next_line p) (set p.settings n)) empty_table l f (omega (arith, k)));
        }

-- fresh starts the gateway, and the events follow
opened_due : (traced : Bool) (g : Settings) (lines : ℕ) (l : List RecordedLine)
    → opening_due traced (opened g lines l) ≡ events_due traced lines (on (fresh_of g).state empty_table) l
unfolding opening_due opening_text final_of run begun on events_due
opened_due traced g lines l = refl

-- what it starts with is that of the empty model
stands_fresh : (g : Settings) → (fresh_of g).answer ≡ 0
    → Stands (on (fresh_of g).state empty_table)
unfolding begun on
stands_fresh g e = record { model = M.empty g; good = empty_good g e; is = begun_is g e }

-- no tick is due: what is due are the events
late_events : (p : Player) (table : List ℕ) (l : List RecordedLine) → p.broken ≡ false → 5 ≤ p.lines → p.ticks ≡ 0
    → remaining p table l ≡ events_due p.traced p.lines (on p.state table) l
unfolding calls_due calls_told gateway_from ticks join saying
late_events p table l f late z = remaining_late p table l f late ∙ rw z

module _ (p : Player) (l : List RecordedLine) (z : p.ticks ≡ 0) (f : p.broken ≡ false) (g : Settings) where
  -- the player once fresh took these settings
  abbrev begins : Player
  begins = having (settled (next_line p) g) (fresh_of g).state

  fresh_kept : (fresh_of g).answer ≡ 0 → Kept begins empty_table
  unfolding having settled next_line
  fresh_kept e = kept_early begins z (λ _ _. record { took = e; state = refl }) (λ _ _. stands_fresh g e)

module _ (p : Player) (l : List RecordedLine) (z : p.ticks ≡ 0) (f : p.broken ≡ false) (four : one_more p.lines ≡ 4) where
  net_broken : (answer : ℕ) → Follows (broken_step p empty_table answer) (opening_due p.traced (broken 4)) l
  net_broken answer = subst (λ (number : ℕ). Follows (broken_step p empty_table answer) (opening_due p.traced (broken number)) l) four (broken_follows p l z answer)

  fresh_follows : (g : Settings) → Follows (fresh_step p empty_table g) (opening_due p.traced (taken_by g l)) l
  unfolding fresh_step taken_by silent_step settled having next_line saying opening_from
  fresh_follows g = go (eqb fresh.answer 0) refl
    where
      fresh : Outcome
      fresh = fresh_of g

      go : (b : Bool) → eqb fresh.answer 0 ≡ b
          → Follows (cond b (silent_step (having (settled (next_line p) g) fresh.state) empty_table 0) (broken_step p empty_table fresh.answer))
          (opening_due p.traced (cond b (from_quiet g l) (broken 4))) l
      go true e =
          record {
            kept = fresh_kept p l z f g (eqb-true fresh.answer 0 e);
            none = refl;
            same = sym (remaining_early (begins p l z f g) empty_table l f (omega (arith, four)) ∙ ap (λ (n : ℕ). opening_due p.traced (opening_from n g l)) four);
          }
      go false e = net_broken fresh.answer

  net_follows : (value : Option ℕ) → Follows (net_step p empty_table value)
      (opening_due p.traced (when_number value (broken 4) (λ net. taken_by (with_net p.settings net) l))) l
  unfolding net_step when_number
  net_follows None = net_broken 19
  net_follows (Some net) = fresh_follows (with_net p.settings net)

-- the fifth: fresh takes the settings with `quiet` too
module _ (p : Player) (line : List ℕ) (l : List RecordedLine) (z : p.ticks ≡ 0) (f : p.broken ≡ false) (four : p.lines ≡ 4) (b : Started p) where
  quiet_follows : (n : ℕ) → quiet_of line ≡ Some n
      → Follows (fresh_step p empty_table (with_quiet p.settings n)) (opening_due p.traced (from_quiet p.settings (ended line ∷ l))) l
  unfolding fresh_step from_quiet value_in when_number silent_step settled having next_line one_more saying
  quiet_follows n q =
      let g = with_quiet p.settings n in
      let took = quiet_taken p.settings n b.took (settings.quiet.range n line q) in
      let five : one_more p.lines ≡ 5 = ap one_more four in
      rw (q, eq-eqb (fresh_of g).answer 0 took)
      (record {
        kept = fresh_kept p l z f g took;
        none = refl;
        same = opened_due p.traced g 5 l ∙ sym (late_events (begins p l z f g) empty_table l f (omega (arith, five)) z ∙ ap (λ (n : ℕ). events_due p.traced n (on (fresh_of g).state empty_table) l) five);
      })

-- which of the four it is
module _ (p : Player) (f : p.broken ≡ false) (z : p.ticks ≡ 0) (line : List ℕ) (l : List RecordedLine) where
  abbrev behind_lines : ℕ → Player
  behind_lines lines =
      record { lines = lines; held = p.held; broken = p.broken; address = p.address; ticks = p.ticks; settings = p.settings; state = p.state; traced = p.traced; passed = p.passed }

  first_follows : Follows (line_step (behind_lines 0) empty_table (take 4118 line)) (opening_due p.traced (opening_from 0 p.settings (ended line ∷ l))) l
  unfolding line_step is_setting head_step one_more opening_from opening_of value_in with_as
  first_follows =
      rw (number_short own_as_of (text "ownas=") decimal 65535 settings.own_as line)
      (setting_follows (behind_lines 0) l z f with_as (λ asn. from_own asn l) (omega arith) (λ n. refl) (own_as_of line))

  second_follows : Follows (line_step (behind_lines 1) empty_table (take 4118 line)) (opening_due p.traced (opening_from 1 p.settings (ended line ∷ l))) l
  unfolding line_step is_setting head_step one_more opening_from from_own value_in with_own
  second_follows =
      rw (number_short own_of (text "own=") dotted 4294967295 settings.own line)
      (setting_follows (behind_lines 1) l z f with_own (λ own. from_capability p.settings.asn own l) (omega arith) (λ n. refl) (own_of line))

  third_follows : Follows (line_step (behind_lines 2) empty_table (take 4118 line)) (opening_due p.traced (opening_from 2 p.settings (ended line ∷ l))) l
  unfolding line_step is_setting head_step one_more opening_from from_capability value_in with_capability
  third_follows =
      rw (number_short capability_of (text "cap=") decimal 255 settings.capability line)
      (setting_follows (behind_lines 2) l z f with_capability (λ capability. from_net p.settings.asn p.settings.own capability l) (omega arith)
      (λ n. refl) (capability_of line))

  fourth_follows : Follows (line_step (behind_lines 3) empty_table (take 4118 line)) (opening_due p.traced (opening_from 3 p.settings (ended line ∷ l))) l
  unfolding line_step is_setting head_step one_more opening_from from_net value_in with_net
  fourth_follows =
      rw (number_short net_of (text "net=") dotted 4294967295 settings.net line)
      (net_follows (behind_lines 3) l z f refl (net_of line))

  one_of_four : (lines : ℕ) → lines < 4
      → Follows (line_step (behind_lines lines) empty_table (take 4118 line)) (opening_due p.traced (opening_from lines p.settings (ended line ∷ l))) l
  one_of_four zero k = first_follows
  one_of_four (suc zero) k = second_follows
  one_of_four (suc (suc zero)) k = third_follows
  one_of_four (suc (suc (suc zero))) k = fourth_follows
  one_of_four (suc (suc (suc (suc lines)))) k = absurd (omega (arith, k))

  pub head_follows : p.lines < 4 → Follows (line_step p empty_table (take 4118 line)) (remaining p empty_table (ended line ∷ l)) l
  head_follows k = rw (remaining_early p empty_table (ended line ∷ l) f (omega (arith, k))) (one_of_four p.lines k)

-- ---- one of the events

-- no tick is due: what is due are the events, if the first is no `quiet` line right after `net`
pub then_events : (p : Player) (table : List ℕ) (l : List RecordedLine) → p.broken ≡ false → 4 ≤ p.lines → p.ticks ≡ 0 → Kept p table
    → (p.lines ≡ 4 → from_quiet p.settings l ≡ opened p.settings 4 l)
    → remaining p table l ≡ events_due p.traced p.lines (on p.state table) l
unfolding opening_from on
then_events p table l f late z k event = go (eqb p.lines 4) refl
  where
    first : p.lines ≡ 4 → remaining p table l ≡ events_due p.traced p.lines (on p.state table) l
    first four =
        let start = k.started f four in
        remaining_early p table l f (omega (arith, four)) ∙ ap (λ (n : ℕ). opening_due p.traced (opening_from n p.settings l)) four
        ∙ ap (opening_due p.traced) (event four) ∙ opened_due p.traced p.settings 4 l
        ∙ (λ i. events_due p.traced (sym four i) (record { state = start.state i; table = sym (k.early (omega (arith, four))) i }) l)

    go : (b : Bool) → eqb p.lines 4 ≡ b → remaining p table l ≡ events_due p.traced p.lines (on p.state table) l
    go true e = first (eqb-true p.lines 4 e)
    go false e = late_events p table l f (let n : (p.lines ≡ 4) → ⊥ = eqb-false p.lines 4 e in omega (arith, late, n)) z

module _ (p : Player) (table : List ℕ) (l : List RecordedLine) (f : p.broken ≡ false) (late : 5 ≤ one_more p.lines) (z : p.ticks ≡ 0) (stand : Stands (on p.state table)) where
  abbrev here : Gateway
  here = on p.state table

  abbrev lines : ℕ
  lines = one_more p.lines

  bad_follows : Follows (bad_step p table) (saying (join (map told_text (bad_line lines ∷ []))) (events_due p.traced lines here l)) l
  unfolding bad_step next_line join told_text
  bad_follows =
      record {
        kept = kept_late (next_line p) table late f (omega (arith, z)) stand;
        none = refl;
        same = rw (append-nil (bad_text lines), late_events (next_line p) table l f late z);
      }

  call_follows : (call : M.Call)
      → Follows (only_step (next_line p) table call)
      (saying (join (map told_text (calls_told p.traced lines 0 here (call ∷ [])))) (events_due p.traced lines (gateway_from here (call ∷ [])) l)) l
  unfolding only_step call_step next_line having passing telling_of telling join told_text calls_told call_text gateway_from gateway_step on
  call_follows call =
      let s = only_step (next_line p) table call in
      record {
        kept = kept_late s.player s.table late f (omega (arith, z)) (stands_call here call stand);
        none = refl;
        same = rw (append-nil (call_text (telling_of (next_line p) 0 true) call here), late_events s.player s.table l f late z);
      }

  tick_follows : (a count : ℕ) → count ≤ 86400
      → Follows (silent_step (due (next_line p) a count) table 0)
      (saying (join (map told_text (calls_told p.traced lines 0 here (ticks a count)))) (events_due p.traced lines (gateway_from here (ticks a count)) l)) l
  unfolding silent_step due next_line saying calls_due
  tick_follows a count few =
      record {
        kept = kept_late (due (next_line p) a count) table late f few stand;
        none = refl;
        same = sym (remaining_late (due (next_line p) a count) table l f late);
      }

  event_follows : (e : Event) → (is_good e ≡ true → in_range e ≡ true)
      → Follows (event_step p table e)
      (saying (join (map told_text (event_told p.traced lines here e))) (events_due p.traced lines (gateway_from here (calls_of e)) l)) l
  unfolding event_step event_told calls_of gateway_from is_good in_range
  event_follows bad r = bad_follows
  event_follows (add a asn) r = call_follows (M.add a asn)
  event_follows (remove a) r = call_follows (M.remove a)
  event_follows (start a) r = call_follows (M.start a lent)
  event_follows (stop a) r = call_follows (M.stop a lent)
  event_follows (tick a count) r =
      tick_follows a count (leb-true count 86400 (and_right (leb 1 count) (leb count 86400) (and_right (is_address a) (leb 1 count && leb count 86400) (r refl))))
  event_follows (rx a octets) r = call_follows (M.receive a octets [] lent)

-- behind four lines one line more is the fifth or a later one
pub more_lines : (lines : ℕ) → 4 ≤ lines → 5 ≤ one_more lines
unfolding one_more
more_lines lines h =
    cond_elim (λ (n : ℕ). 5 ≤ n) (ltb lines 18446744073709551615) (suc lines) lines (λ e. omega (arith, h))
    (λ e. omega (arith, ltb-false lines 18446744073709551615 e))

-- what is no setting comes behind four lines
pub no_setting : (lines : ℕ) (line : List ℕ) → is_setting lines line ≡ false → 4 ≤ lines
unfolding is_setting
no_setting lines line e = go (ltb lines 4) refl e
  where
    go : (b : Bool) → ltb lines 4 ≡ b → (b || (eqb lines 4 && when_number (quiet_of line) false (λ _. true))) ≡ false → 4 ≤ lines
    go true h e = absurd (false≢true (sym e))
    go false h e = ltb-false lines 4 h

module _ (p : Player) (table line : List ℕ) (l : List RecordedLine) (f : p.broken ≡ false) (z : p.ticks ≡ 0) (k : Kept p table) where
  events_follow : 4 ≤ p.lines → is_setting p.lines (take 4118 line) ≡ false → (p.lines ≡ 4 → quiet_of line ≡ None)
      → Follows (line_step p table (take 4118 line)) (remaining p table (ended line ∷ l)) l
  unfolding line_step event_in from_quiet value_in when_number
  events_follow late event unset =
      rw (
        event,
        event_short line,
        then_events p table (ended line ∷ l) f late z k (λ four. rw (unset four)),
        line_due p.traced p.lines (on p.state table) (ended line) l,
      )
      (event_follows p table l f (more_lines p.lines late) z (k.stands f late) (event_of line) (events.range line))

  -- right after `net`
  module _ (four : p.lines ≡ 4) where
    short : quiet_of (take 4118 line) ≡ quiet_of line
    short = number_short quiet_of (text "quiet=") decimal 1 settings.quiet line

    fresh_again : (n : ℕ) → quiet_of line ≡ Some n → line_step p table (take 4118 line) ≡ fresh_step p table (with_quiet p.settings n)
    unfolding line_step
    fresh_again n q =
        let yes = sym (setting_quiet p.lines (take 4118 line) n (omega (arith, four)) four (short ∙ q)) in
        rw yes (head_quiet p table (take 4118 line) n four (short ∙ q))

    fifth_follows : (value : Option ℕ) → quiet_of line ≡ value → Follows (line_step p table (take 4118 line)) (remaining p table (ended line ∷ l)) l
    unfolding opening_from
    fifth_follows None q =
        events_follow (omega (arith, four)) (sym (setting_none p.lines (take 4118 line) (omega (arith, four)) four (short ∙ q))) (λ _. q)
    fifth_follows (Some n) q =
        let due : remaining p table (ended line ∷ l) ≡ opening_due p.traced (from_quiet p.settings (ended line ∷ l)) =
        remaining_early p table (ended line ∷ l) f (omega (arith, four)) ∙ ap (λ (n : ℕ). opening_due p.traced (opening_from n p.settings (ended line ∷ l))) four in
        rw (fresh_again n q, due, k.early (omega (arith, four))) (quiet_follows p line l z f four (k.started f four) n q)

  -- any line that has ended
  pub line_follows : Follows (line_step p table (take 4118 line)) (remaining p table (ended line ∷ l)) l
  line_follows = go (ltb p.lines 4) refl
    where
      at_event : (b : Bool) → eqb p.lines 4 ≡ b → 4 ≤ p.lines → Follows (line_step p table (take 4118 line)) (remaining p table (ended line ∷ l)) l
      at_event true e late = fifth_follows (eqb-true p.lines 4 e) (quiet_of line) refl
      at_event false e late =
          let n : (p.lines ≡ 4) → ⊥ = eqb-false p.lines 4 e in
          events_follow late (sym (setting_late p.lines (take 4118 line) late n)) (λ four. absurd (n four))

      go : (b : Bool) → ltb p.lines 4 ≡ b → Follows (line_step p table (take 4118 line)) (remaining p table (ended line ∷ l)) l
      go true e = rw (k.early (omega (arith, ltb-true p.lines 4 e))) (head_follows p f z line l (ltb-true p.lines 4 e))
      go false e = at_event (eqb p.lines 4) refl (ltb-false p.lines 4 e)
