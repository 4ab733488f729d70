-- What the player's functions ask at their returns, over plain variables. Assumes nothing.
use Prim.Native.Nat.{ℕ, zero, suc, ◌≤◌, ◌<◌, ◌-◌}
use denote.Ref.{Bor}
use native.Mathlib.Omega.{arith}
use mathlib.Core.Path.{◌≡◌, refl, sym, ap, ◌∙◌}
use mathlib.Core.Bool.{Bool, true, false, cond, not, ◌&&◌, ◌||◌, false≢true}
use mathlib.Core.List.{List}
use lib.Dec.{leb, ltb, eqb}
use lib.ListN.{length, take, drop}
use lib.Seq.{take-append_seam}
use borrow.Author.Tests.{lt-ltb, le-ltb, le-leb, lt-leb, leb-true, eq-eqb, ne_eqb}
use Rattle.checks.specs.Checks.{check, if_ok}
use Rattle.checks.proofs.Laws.{and_left, and_right, cond_elim}
use Rattle.octets.specs.Buffer.{over}
use Rattle.neighbour.specs.declared.Settings.{Settings}
use Rattle.neighbour.specs.Record.{with_quiet}
use Rattle.gateway_state.specs.declared.State.{State}
use Rattle.gateway_state.specs.declared.Outcome.{Outcome}
use Rattle.gateway_state.specs.Formed.{state_formed}
use Rattle.gateway_state.specs.Outcomes.{refused_of}
use Rattle.gateway_slots.specs.Calls.{fresh_of}
use Rattle.recording_gather.specs.declared.Gathered.{Gathered}
use Rattle.recording_gather.specs.Gathering.{gathered, line_after, line_held}
use Rattle.recording_bad_line.specs.BadLine.{bad_text}
use Rattle.listing_lines.specs.Lines.{listing_text}
use Rattle.listing_lines.specs.Listing.{entries, listing_checks, listing_outcome, listing_buffer}
use Rattle.model.specs.Model as M
use Rattle.model.specs.Theorem.{outcome_of, table_left, buffer_left, seen_of}
use Rattle.recording_call.specs.declared.Called.{Called}
use Rattle.recording_trace.specs.declared.Telling.{Telling}
use Rattle.recording_trace.specs.Steps.{happened_in}
use Rattle.recording_call.specs.Told.{lent, called_for, happened_by, call_text, called_of, on}
use Rattle.text.specs.Text.{text}
use Rattle.std.specs.Prelude.{Option, Some, None, Result, Err, is_some}
use Rattle.checks.specs.declared.Refusal.{Refusal}
use Rattle.checks.specs.declared.Refusal.TheVariants as N
use Rattle.checks.specs.Refusals.{number_of, answer_of}
use Rattle.text_values.specs.Numbers.{when_number, decimal_of}
use Rattle.text_values.specs.Places.{starts_with}
use Rattle.text_values.specs.Hex.{is_hex}
use Rattle.text_values.proofs.Readings.{decimal_bound}
use Rattle.recording_lines.specs.declared.LineEvent.{LineEvent}
use Rattle.recording_lines.specs.declared.LineEvent.TheVariants as R
use Rattle.recording_lines.specs.Lines.{bad, behind, own_as_of, own_of, capability_of, net_of, quiet_of, event_of}
use Rattle.recording_lines.specs.Meant.{said}
use Rattle.recording_lines.specs.Steps.{has_hex}
use Rattle.gateway_rules.specs.Calls.{lent_checks}
use Rattle.recording_player.specs.declared.Player.{Player}
use Rattle.recording_player.specs.declared.Told.{Told}
use Rattle.recording_player.specs.Player.{Step, next_line, holding, breaking, due, settled, having, telling_of, roomy, line_fits, call_checks, formed_check, report_check, given, reported, with_used, bad_step, broken_step, silent_step, with_as, with_own, with_capability, with_net, setting_step, fresh_step, net_step, quiet_line_step, head_step, is_setting, call_step, only_step, event_step, event_checked, line_step, line_checked, tick_step, ended_line, free_step, turn_checked, turn_step, only_holds, held_of, told_of, close_step, listed_in, finish_step}
use Rattle.recording_player.specs.Steps.{put_in, settings_of, carried_turn}

-- the same turn, with so many octets used
abbrev pub using_of : Told → ℕ → Told
using_of t used = record { player = t.player; answer = t.answer; used = used; written = t.written }

-- what is promised of a step: the turn that is answered, and the output buffer after it
abbrev pub Taken : Step → Told → List ℕ → List ℕ → Type 0
Taken s r old new = (r ≡ told_of s) × (new ≡ over s.text old)

-- a choice whose test is known
pub on_true : {A : Type 0} (b : Bool) (x y : A) → b ≡ true → cond b x y ≡ x
on_true b x y e = rw e

pub on_false : {A : Type 0} (b : Bool) (x y : A) → b ≡ false → cond b x y ≡ y
on_false b x y e = rw e

-- the step that is taken, by another name
pub taken_as : {s s' : Step} {r : Told} (old : List ℕ) {new : List ℕ} → s ≡ s' → Taken s' r old new → Taken s r old new
taken_as old e h = rw e h

-- a silent step leaves the output buffer alone
pub silent_taken : (s : Step) (p : Player) (table : List ℕ) (answer : ℕ) (r : Told) (out : List ℕ)
    → s ≡ silent_step p table answer → r ≡ told_of (silent_step p table answer) → Taken s r out out
unfolding silent_step over
silent_taken s p table answer r out e h = rw e (h, refl)

-- what holds for every table, for the answer and for the buffer
pub for_each : {A B : List ℕ → Type 0} → ((table : List ℕ) → A table × B table) → ((table : List ℕ) → A table) × ((table : List ℕ) → B table)
for_each h = (λ table. (h table).0, λ table. (h table).1)

-- ---- what the host must lend

-- a refusal has a number
pub refused_number : (refusal : Refusal) → number_of refusal ≡ 0 → ⊥
refused_number N.IllFormedState e = absurd (omega (arith, e))
refused_number N.WrongTable e = absurd (omega (arith, e))
refused_number N.ShortBuffer e = absurd (omega (arith, e))
refused_number N.BadHomeList e = absurd (omega (arith, e))
refused_number N.UnknownNeighbour e = absurd (omega (arith, e))
refused_number N.BadSize e = absurd (omega (arith, e))
refused_number N.OtherVersion e = absurd (omega (arith, e))
refused_number N.WrongChecksum e = absurd (omega (arith, e))
refused_number N.OtherAs e = absurd (omega (arith, e))
refused_number N.UnknownKind e = absurd (omega (arith, e))
refused_number N.BadStatus e = absurd (omega (arith, e))
refused_number N.BadLength e = absurd (omega (arith, e))
refused_number N.OutOfSequence e = absurd (omega (arith, e))
refused_number N.BrokenBlocks e = absurd (omega (arith, e))
refused_number N.TooManyRows e = absurd (omega (arith, e))
refused_number N.BadArgument e = absurd (omega (arith, e))
refused_number N.NoFreeSlot e = absurd (omega (arith, e))
refused_number N.NotIdle e = absurd (omega (arith, e))
refused_number N.BadLine e = absurd (omega (arith, e))
refused_number N.WrongBlock e = absurd (omega (arith, e))
refused_number N.TooQuick e = absurd (omega (arith, e))
refused_number N.ClockFull e = absurd (omega (arith, e))

-- what a check that refused says
pub refused_as : {r : Result (Unit {0}) Refusal} {refusal : Refusal} {number checks : ℕ} → answer_of r ≡ checks → r ≡ Err refusal → number ≡ number_of refusal
    → (number ≡ checks) × (number ≡ 0 → ⊥)
refused_as {refusal = refusal} e f g = (g ∙ ap answer_of (sym f) ∙ e, λ z. refused_number refusal (sym g ∙ z))

-- where all is lent there is room
pub lent_room : (out : List ℕ) (st : State) (numbers : ℕ) → call_checks (roomy out) st numbers ≡ 0 → 65536 ≤ length out
unfolding roomy lent_checks check
lent_room out st numbers e = go (state_formed st) (eqb numbers 3072) (leb 65536 (length out)) refl e
  where
    go : (f n b : Bool) → leb 65536 (length out) ≡ b → ◌≡◌ {A = ℕ} (cond f (cond n (cond b 0 3) 2) 1) 0 → 65536 ≤ length out
    go true true true k h = leb-true 65536 (length out) k
    go true true false k h = absurd (omega (arith, h))
    go true false b k h = absurd (omega (arith, h))
    go false n b k h = absurd (omega (arith, h))

module _ (p : Player) (table : List ℕ) (refusal : ℕ) (s : Step) where
  pub given_whole : refusal ≡ 0 → given p table refusal s ≡ s
  unfolding given if_ok
  given_whole e = on_true (eqb refusal 0) _ _ (eq-eqb refusal 0 e)

  pub given_refused : (refusal ≡ 0 → ⊥) → given p table refusal s ≡ silent_step p table refusal
  unfolding given if_ok
  given_refused n = on_false (eqb refusal 0) _ _ (ne_eqb refusal 0 n)

-- a report, and none for want of room
module _ (p : Player) (table out : List ℕ) (used : ℕ) (s : Step) (r : Told) where
  pub reported_not : length out < 65536 → (s.answer ≡ 0 → ⊥) → r ≡ told_of (silent_step p table s.answer) → Taken (reported (roomy out) p table used s) r out out
  unfolding roomy reported report_check check silent_step over
  reported_not h n e =
      taken_as out (ap (λ (b : Bool). given p table (cond b 0 s.answer) (with_used used s)) (lt-leb 65536 (length out) h) ∙ given_refused p table s.answer (with_used used s) n)
      (e, refl)

  pub reported_so : 65536 ≤ length out → (new : List ℕ) → r ≡ told_of (with_used used s) → new ≡ over s.text out → Taken (reported (roomy out) p table used s) r out new
  unfolding roomy reported report_check check with_used
  reported_so h new e f =
      taken_as out (ap (λ (b : Bool). given p table (cond b 0 s.answer) (with_used used s)) (le-leb 65536 (length out) h) ∙ given_whole p table 0 (with_used used s) refl)
      (e, f)

-- what reports nothing needs no room
pub reported_silent : (room : Bool) (p q : Player) (table : List ℕ) (used : ℕ)
    → reported room p table used (silent_step q table 0) ≡ with_used used (silent_step q table 0)
unfolding reported report_check check silent_step
reported_silent true p q table used = given_whole p table 0 _ refl
reported_silent false p q table used = given_whole p table 0 _ refl

pub silent_using : (s : Step) (p : Player) (table : List ℕ) (used : ℕ) (q r : Told) (out : List ℕ)
    → s ≡ with_used used (silent_step p table 0) → q ≡ told_of (silent_step p table 0) → r ≡ using_of q used → Taken s r out out
unfolding silent_step with_used told_of over
silent_using s p table used q r out e h u = rw e (u ∙ ap (λ (t : Told). using_of t used) h, refl)

-- ---- bad lines

-- the line behind those taken is reported by its number
module _ (p next : Player) (e : next ≡ next_line p) (table : List ℕ) (written : ℕ) (f : written ≡ length (bad_text next.lines)) where
  pub bad_told : (used : ℕ) → record { player = next; answer = 19; used = used; written = written } ≡ told_of (with_used used (bad_step p table))
  unfolding told_of with_used bad_step
  bad_told used = λ i. record { player = e i; answer = 19; used = used; written = (f ∙ ap (λ (q : Player). length (bad_text q.lines)) e) i }

  pub broken_told : (answer used : ℕ) (q : Player) → q ≡ breaking next
      → record { player = q; answer = answer; used = used; written = written } ≡ told_of (with_used used (broken_step p table answer))
  unfolding told_of with_used broken_step
  broken_told answer used q k =
      λ i. record { player = (k ∙ ap breaking e) i; answer = answer; used = used; written = (f ∙ ap (λ (q : Player). length (bad_text q.lines)) e) i }

pub line_told : (p next : Player) → next ≡ next_line p → (out new : List ℕ) → new ≡ over (bad_text next.lines) out → new ≡ over (bad_text (next_line p).lines) out
line_told p next e out new f = f ∙ ap (λ (q : Player). over (bad_text q.lines) out) e

-- ---- the first four lines

behind_bound : (limit n : ℕ) (key line : List ℕ) → behind key (decimal_of limit) None line ≡ Some n → n ≤ limit
unfolding behind
behind_bound limit n key line e = go (starts_with key line) e
  where
    go : (starts : Bool) → cond starts (decimal_of limit (drop (length key) line)) None ≡ Some n → n ≤ limit
    go true e = decimal_bound limit n (drop (length key) line) e
    go false e = cc

-- "AS to 65,535" and "`cap` to 255" fit the settings
pub own_as_bound : (line : List ℕ) (n : ℕ) → own_as_of line ≡ Some n → n ≤ 65535
unfolding own_as_of
own_as_bound line n e = behind_bound 65535 n (text "ownas=") line e

pub capability_bound : (line : List ℕ) (n : ℕ) → capability_of line ≡ Some n → n ≤ 255
unfolding capability_of
capability_bound line n e = behind_bound 255 n (text "cap=") line e

pub quiet_bound : (line : List ℕ) (n : ℕ) → quiet_of line ≡ Some n → n ≤ 1
unfolding quiet_of
quiet_bound line n e = behind_bound 1 n (text "quiet=") line e

-- whether a line is a setting
module _ (lines : ℕ) (line : List ℕ) where
  pub setting_early : lines < 4 → true ≡ is_setting lines line
  unfolding is_setting
  setting_early h = rw (lt-ltb lines 4 h)

  pub setting_late : 4 ≤ lines → (lines ≡ 4 → ⊥) → false ≡ is_setting lines line
  unfolding is_setting
  setting_late h n = rw (le-ltb lines 4 h, ne_eqb lines 4 n)

  pub setting_none : 4 ≤ lines → lines ≡ 4 → quiet_of line ≡ None → false ≡ is_setting lines line
  unfolding is_setting when_number
  setting_none h e q = rw (le-ltb lines 4 h, eq-eqb lines 4 e, q)

  pub setting_quiet : (n : ℕ) → 4 ≤ lines → lines ≡ 4 → quiet_of line ≡ Some n → true ≡ is_setting lines line
  unfolding is_setting when_number
  setting_quiet n h e q = rw (le-ltb lines 4 h, eq-eqb lines 4 e, q)

-- whether there is a value
pub any_value : (value : Option ℕ) → is_some value ≡ when_number value false (λ _. true)
unfolding when_number
any_value None = refl
any_value (Some n) = refl

-- a value, put into the settings
module _ (value : Option ℕ) (set : ℕ → Settings) where
  pub put_none : value ≡ None → None ≡ put_in value set
  unfolding put_in when_number
  put_none e = rw e

  pub put_some : (n : ℕ) → value ≡ Some n → Some (set n) ≡ put_in value set
  unfolding put_in when_number
  put_some n e = rw e

-- which of them is read
module _ (g : Settings) (lines : ℕ) (line : List ℕ) where
  pub first_line : lines ≡ 0 → put_in (own_as_of line) (with_as g) ≡ settings_of g lines line
  unfolding settings_of
  first_line e = rw e

  pub second_line : lines ≡ 1 → put_in (own_of line) (with_own g) ≡ settings_of g lines line
  unfolding settings_of
  second_line e = rw e

  pub third_line : lines ≡ 2 → put_in (capability_of line) (with_capability g) ≡ settings_of g lines line
  unfolding settings_of
  third_line e = rw e

  pub fourth_line : lines ≡ 3 → put_in (net_of line) (with_net g) ≡ settings_of g lines line
  unfolding settings_of
  fourth_line e = rw e

  pub later_line : (lines ≡ 0 → ⊥) → (lines ≡ 1 → ⊥) → (lines ≡ 2 → ⊥) → (lines ≡ 3 → ⊥) → put_in (quiet_of line) (with_quiet g) ≡ settings_of g lines line
  unfolding settings_of
  later_line a b d e = sym (rw (ne_eqb lines 0 a, ne_eqb lines 1 b, ne_eqb lines 2 d, ne_eqb lines 3 e))

-- the step that the settings ask for: after one of the first three lines more are to come
module _ (p : Player) (table : List ℕ) where
  settings_step : Bool → Option Settings → Step
  settings_step early None = broken_step p table 19
  settings_step true (Some g) = silent_step (settled (next_line p) g) table 0
  settings_step false (Some g) = fresh_step p table g

  by_number : (one two three four : Bool) (asn own capability net quiet : Option ℕ)
      → cond one (setting_step p table asn with_as)
      (cond two (setting_step p table own with_own) (cond three (setting_step p table capability with_capability)
      (cond four (net_step p table net) (quiet_line_step p table quiet))))
      ≡ settings_step (one || (two || three))
      (cond one (put_in asn (with_as p.settings))
      (cond two (put_in own (with_own p.settings))
      (cond three (put_in capability (with_capability p.settings))
      (cond four (put_in net (with_net p.settings)) (put_in quiet (with_quiet p.settings))))))
  unfolding setting_step net_step quiet_line_step when_number settings_step put_in
  by_number true two three four None own capability net quiet = refl
  by_number true two three four (Some n) own capability net quiet = refl
  by_number false true three four asn None capability net quiet = refl
  by_number false true three four asn (Some n) capability net quiet = refl
  by_number false false true four asn own None net quiet = refl
  by_number false false true four asn own (Some n) net quiet = refl
  by_number false false false true asn own capability None quiet = refl
  by_number false false false true asn own capability (Some n) quiet = refl
  by_number false false false false asn own capability net None = refl
  by_number false false false false asn own capability net (Some n) = refl

  module _ (line : List ℕ) where
    head_is : head_step p table line ≡ settings_step (eqb p.lines 0 || (eqb p.lines 1 || eqb p.lines 2)) (settings_of p.settings p.lines line)
    unfolding head_step settings_of
    head_is =
        by_number (eqb p.lines 0) (eqb p.lines 1) (eqb p.lines 2) (eqb p.lines 3) (own_as_of line) (own_of line) (capability_of line) (net_of line)
        (quiet_of line)

    pub head_bad : settings_of p.settings p.lines line ≡ None → head_step p table line ≡ broken_step p table 19
    unfolding settings_step
    head_bad e = head_is ∙ ap (settings_step (eqb p.lines 0 || (eqb p.lines 1 || eqb p.lines 2))) e

    module _ (g : Settings) (e : settings_of p.settings p.lines line ≡ Some g) where
      pub head_more : p.lines < 3 → head_step p table line ≡ silent_step (settled (next_line p) g) table 0
      unfolding settings_step
      head_more h = head_is ∙ ap (settings_step _) e ∙ ap (λ (b : Bool). settings_step b (Some g)) (early p.lines h)
        where
          early : (n : ℕ) → n < 3 → (eqb n 0 || (eqb n 1 || eqb n 2)) ≡ true
          early zero h = refl
          early (suc zero) h = refl
          early (suc (suc zero)) h = refl
          early (suc (suc (suc n))) h = absurd (omega arith)

      pub head_fresh : 3 ≤ p.lines → head_step p table line ≡ fresh_step p table g
      unfolding settings_step
      head_fresh h = head_is ∙ ap (settings_step _) e ∙ ap (λ (b : Bool). settings_step b (Some g)) (late p.lines h)
        where
          late : (n : ℕ) → 3 ≤ n → (eqb n 0 || (eqb n 1 || eqb n 2)) ≡ false
          late n h = rw (ne_eqb n 0 (λ e. omega arith), ne_eqb n 1 (λ e. omega arith), ne_eqb n 2 (λ e. omega arith))

-- the fourth line and the fifth ask for fresh
module _ (p : Player) (table line : List ℕ) where
  pub head_net : (net : ℕ) → p.lines ≡ 3 → net_of line ≡ Some net → head_step p table line ≡ fresh_step p table (with_net p.settings net)
  unfolding head_step net_step when_number
  head_net net three k =
      let z : eqb p.lines 0 ≡ false = rw three in
      let o : eqb p.lines 1 ≡ false = rw three in
      let t : eqb p.lines 2 ≡ false = rw three in
      on_false (eqb p.lines 0) _ _ z ∙ on_false (eqb p.lines 1) _ _ o ∙ on_false (eqb p.lines 2) _ _ t
      ∙ on_true (eqb p.lines 3) _ _ (eq-eqb p.lines 3 three) ∙ ap (net_step p table) k

  pub head_quiet : (quiet : ℕ) → p.lines ≡ 4 → quiet_of line ≡ Some quiet → head_step p table line ≡ fresh_step p table (with_quiet p.settings quiet)
  unfolding head_step quiet_line_step when_number
  head_quiet quiet four k =
      let z : eqb p.lines 0 ≡ false = rw four in
      let o : eqb p.lines 1 ≡ false = rw four in
      let t : eqb p.lines 2 ≡ false = rw four in
      let h : eqb p.lines 3 ≡ false = rw four in
      on_false (eqb p.lines 0) _ _ z ∙ on_false (eqb p.lines 1) _ _ o ∙ on_false (eqb p.lines 2) _ _ t ∙ on_false (eqb p.lines 3) _ _ h
      ∙ ap (quiet_line_step p table) k

module _ (p : Player) (table : List ℕ) (g : Settings) (o : Outcome) (e : o ≡ fresh_of g) where
  pub fresh_refused : (o.answer ≡ 0 → ⊥) → fresh_step p table g ≡ broken_step p table o.answer
  unfolding fresh_step
  fresh_refused n = rw (sym e, ne_eqb o.answer 0 n)

  pub fresh_had : o.answer ≡ 0 → fresh_step p table g ≡ silent_step (having (settled (next_line p) g) o.state) table 0
  unfolding fresh_step
  fresh_had z = rw (sym e, eq-eqb o.answer 0 z)

-- a step by another name, reported
pub reported_as : (room : Bool) (p : Player) (table : List ℕ) (used : ℕ) {s s' : Step} → s ≡ s' → reported room p table used s ≡ reported room p table used s'
reported_as room p table used e = ap (reported room p table used) e

-- a bad line does not touch the table
pub bad_reported : (p : Player) (table : List ℕ) (used : ℕ) (room : Bool) → (reported room p table used (bad_step p table)).table ≡ table
unfolding reported given if_ok silent_step with_used bad_step
bad_reported p table used room = cond_elim (λ (s : Step). s.table ≡ table) (eqb (report_check room 19) 0) _ _ (λ e. refl) (λ e. refl)

-- none of them touches the table
module _ (p : Player) (table : List ℕ) where
  setting_table : (value : Option ℕ) (put : Settings → ℕ → Settings) → (setting_step p table value put).table ≡ table
  unfolding setting_step when_number broken_step silent_step
  setting_table None put = refl
  setting_table (Some n) put = refl

  fresh_table : (g : Settings) → (fresh_step p table g).table ≡ table
  unfolding fresh_step broken_step silent_step
  fresh_table g = cond_elim (λ (s : Step). s.table ≡ table) (eqb (fresh_of g).answer 0) _ _ (λ e. refl) (λ e. refl)

  net_table : (value : Option ℕ) → (net_step p table value).table ≡ table
  unfolding net_step when_number broken_step
  net_table None = refl
  net_table (Some n) = fresh_table (with_net p.settings n)

  quiet_table : (value : Option ℕ) → (quiet_line_step p table value).table ≡ table
  unfolding quiet_line_step when_number broken_step
  quiet_table None = refl
  quiet_table (Some n) = fresh_table (with_quiet p.settings n)

  head_table : (line : List ℕ) → (head_step p table line).table ≡ table
  unfolding head_step
  head_table line =
      cond_elim (λ (s : Step). s.table ≡ table) (eqb p.lines 0) _ _ (λ e. setting_table (own_as_of line) with_as)
      (λ e. cond_elim (λ (s : Step). s.table ≡ table) (eqb p.lines 1) _ _ (λ e. setting_table (own_of line) with_own)
      (λ e. cond_elim (λ (s : Step). s.table ≡ table) (eqb p.lines 2) _ _ (λ e. setting_table (capability_of line) with_capability)
      (λ e. cond_elim (λ (s : Step). s.table ≡ table) (eqb p.lines 3) _ _ (λ e. net_table (net_of line)) (λ e. quiet_table (quiet_of line)))))

  pub reported_table : (room : Bool) (used : ℕ) (line : List ℕ) → (reported room p table used (head_step p table line)).table ≡ table
  unfolding reported given if_ok silent_step with_used
  reported_table room used line =
      cond_elim (λ (s : Step). s.table ≡ table) (eqb (report_check room (head_step p table line).answer) 0) _ _ (λ e. head_table line) (λ e. refl)

-- ---- what an event asks for

-- all that an event asks for, by what it is
pub asks : (traced room : Bool) (st : State) (numbers : ℕ) {event e : LineEvent} → event ≡ e
    → event_checked traced room st numbers (said event) ≡ 0 → event_checked traced room st numbers (said e) ≡ 0
asks traced room st numbers e h = ap (λ (x : LineEvent). event_checked traced room st numbers (said x)) (sym e) ∙ h

-- ---- calls

-- what is promised of a step that may change the table
abbrev pub Made : Step → Told → List ℕ → List ℕ → List ℕ → Type 0
Made s r table old new = (r ≡ told_of s) × ((table ≡ s.table) × (new ≡ over s.text old))

pub made_as : {s s' : Step} {r : Told} {table : List ℕ} (old : List ℕ) {new : List ℕ} → s ≡ s' → Made s' r table old new → Made s r table old new
made_as old e h = rw e h

pub silent_made : (p : Player) (table : List ℕ) (answer : ℕ) (r : Told) (out : List ℕ)
    → r ≡ told_of (silent_step p table answer) → Made (silent_step p table answer) r table out out
unfolding silent_step over
silent_made p table answer r out h = (h, (refl, refl))

-- a call from the player's state, and the turn that carries what it left to the player behind the line
module _ (p next : Player) (n : next ≡ next_line p) (t : Telling) (w : t ≡ telling_of next 0 true) (table after : List ℕ) (k : Called) (r : Told) (out new : List ℕ) where
  pub call_made : (call : M.Call)
      → k ≡ called_of t call (on p.state table) → r ≡ carried_turn next k
      → after ≡ table_left call (on p.state table) → new ≡ over (call_text t call (on p.state table)) out → Made (only_step (next_line p) table call) r after out new
  unfolding only_step call_step carried_turn called_of called_for call_text happened_by happened_in told_of next_line
  call_made call e f h u =
      let so = w ∙ ap (λ (q : Player). telling_of q 0 true) n in (
        f ∙ ap (λ (q : Player). carried_turn q k) n ∙ ap (carried_turn (next_line p)) (e ∙ ap (λ (x : Telling). called_of x call (on p.state table)) so),
        (h, u ∙ ap (λ (x : Telling). over (call_text x call (on p.state table)) out) so),
      )

-- what an event is
pub event_as : {event e : LineEvent} (p : Player) (table : List ℕ) → event ≡ e → event_step p table (said event) ≡ event_step p table (said e)
event_as p table e = ap (λ (x : LineEvent). event_step p table (said x)) e

-- the hex of a message
pub hex_there : {event : LineEvent} {a : ℕ} {digits : Bor (List ℕ)} → event ≡ R.Receive a digits → has_hex event ≡ true
    → (is_hex digits.now ≡ true) × (length digits.now ≤ 4098)
hex_there {a = a} {digits} e h =
    let k = ap has_hex (sym e) ∙ h in
    (and_right (leb (length digits.now) 4098) _ k, leb-true _ _ (and_left (leb (length digits.now) 4098) _ k))

-- whether a line's call is traced
pub told_traced : (p next : Player) → next ≡ next_line p → (t : Telling) → t ≡ telling_of next 0 true → t.traced ≡ p.traced
unfolding telling_of next_line
told_traced p next n t w = ap (λ (x : Telling). x.traced) w ∙ ap (λ (q : Player). q.traced) n

-- a line of the trace has room
pub formed_room : (traced : Bool) (out : List ℕ) (st : State) → formed_check traced (roomy out) st ≡ 0 → traced ≡ true → 65536 ≤ length out
unfolding formed_check roomy check
formed_room traced out st e z = go (state_formed st) traced z (leb 65536 (length out)) refl e
  where
    go : (f t : Bool) → t ≡ true → (b : Bool) → leb 65536 (length out) ≡ b → ◌≡◌ {A = ℕ} (cond f (cond (not t || b) 0 3) 1) 0 → 65536 ≤ length out
    go true true z true k h = leb-true 65536 (length out) k
    go true true z false k h = absurd (omega (arith, h))
    go true false z b k h = absurd (false≢true z)
    go false t z b k h = absurd (omega (arith, h))

-- ---- lines and ticks

-- a step made without using octets, told with those used
pub using_made : (s : Step) (used : ℕ) (q r : Told) (table out new : List ℕ) → Made s q table out new → r ≡ using_of q used → Made (with_used used s) r table out new
unfolding told_of with_used
using_made s used q r table out new m e = (e ∙ ap (λ (t : Told). using_of t used) m.0, m.1)

module _ (p : Player) (table line out : List ℕ) (used : ℕ) (r : Told) where
  abbrev taken : Step
  taken = given p table (line_checked (roomy out) p table line) (with_used used (line_step p table line))

  line_as : (c : ℕ) (s : Step) → line_checked (roomy out) p table line ≡ c → line_step p table line ≡ s → taken ≡ given p table c (with_used used s)
  line_as c s e f = ap (λ (n : ℕ). given p table n (with_used used (line_step p table line))) e ∙ ap (λ (x : Step). given p table c (with_used used x)) f

  -- one of the settings
  pub line_setting : is_setting p.lines line ≡ true → (new : List ℕ) → r ≡ told_of (reported (roomy out) p table used (head_step p table line))
      → new ≡ over (reported (roomy out) p table used (head_step p table line)).text out → Made taken r table out new
  unfolding line_step line_checked reported
  line_setting h new f k =
      made_as out
      (line_as (report_check (roomy out) (head_step p table line).answer) (head_step p table line) (on_true (is_setting p.lines line) _ _ h)
      (on_true (is_setting p.lines line) _ _ h))
      (f, (sym (reported_table p table (roomy out) used line), k))

  -- a bad line
  pub line_bad : bad ≡ event_of line → is_setting p.lines line ≡ false → (new : List ℕ)
      → r ≡ told_of (reported (roomy out) p table used (bad_step p table)) → new ≡ over (reported (roomy out) p table used (bad_step p table)).text out
      → Made taken r table out new
  unfolding line_step line_checked reported event_checked event_step bad_step
  line_bad m h new f k =
      made_as out
      (line_as (report_check (roomy out) 19) (bad_step p table)
      (on_false (is_setting p.lines line) _ _ h ∙ ap (event_checked p.traced (roomy out) p.state (length table)) (sym m))
      (on_false (is_setting p.lines line) _ _ h ∙ ap (event_step p table) (sym m)))
      (f, (sym (bad_reported p table used (roomy out)), k))

  module _ (event : LineEvent) (m : said event ≡ event_of line) (h : is_setting p.lines line ≡ false) where
    abbrev asked : ℕ
    asked = event_checked p.traced (roomy out) p.state (length table) (said event)

    event_given : taken ≡ given p table asked (with_used used (event_step p table (said event)))
    unfolding line_step line_checked
    event_given =
        line_as asked (event_step p table (said event))
        (on_false (is_setting p.lines line) _ _ h ∙ ap (event_checked p.traced (roomy out) p.state (length table)) (sym m))
        (on_false (is_setting p.lines line) _ _ h ∙ ap (event_step p table) (sym m))

    pub line_refused : (refusal : ℕ) → refusal ≡ asked → (refusal ≡ 0 → ⊥) → r ≡ told_of (silent_step p table refusal) → Made taken r table out out
    line_refused refusal e n f =
        made_as out (event_given ∙ ap (λ (k : ℕ). given p table k (with_used used (event_step p table (said event)))) (sym e) ∙ given_refused p table refusal _ n)
        (silent_made p table refusal r out f)

    pub line_made : asked ≡ 0 → (after new : List ℕ) → Made (with_used used (event_step p table (said event))) r after out new → Made taken r after out new
    line_made e after new f = made_as out (event_given ∙ given_whole p table asked _ e) f

module _ (p : Player) (table out : List ℕ) (r : Told) (refusal : ℕ) (e : refusal ≡ call_checks (roomy out) p.state (length table)) where
  abbrev ticked : Step
  ticked = given p table (call_checks (roomy out) p.state (length table)) (tick_step p table)

  pub tick_refused : (refusal ≡ 0 → ⊥) → r ≡ told_of (silent_step p table refusal) → Made ticked r table out out
  tick_refused n f =
      made_as out (ap (λ (k : ℕ). given p table k (tick_step p table)) (sym e) ∙ given_refused p table refusal _ n) (silent_made p table refusal r out f)

  pub tick_made : refusal ≡ 0 → (q : Player) → q ≡ due p p.address (p.ticks - 1) → (t : Telling) → t ≡ telling_of p p.passed (eqb p.ticks 1)
      → (k : Called) (after new : List ℕ) → k ≡ called_of t (M.tick p.address lent) (on p.state table) → r ≡ carried_turn q k
      → after ≡ table_left (M.tick p.address lent) (on p.state table) → new ≡ over (call_text t (M.tick p.address lent) (on p.state table)) out
      → Made ticked r after out new
  unfolding tick_step call_step carried_turn called_of called_for call_text happened_by happened_in told_of due
  tick_made z q d t w k after new c f a u =
      made_as out (given_whole p table _ (tick_step p table) (sym e ∙ z)) (
        f ∙ ap (λ (x : Player). carried_turn x k) d ∙ ap (carried_turn (due p p.address (p.ticks - 1))) (c ∙ ap (λ (x : Telling). called_of x (M.tick p.address lent) (on p.state table)) w),
        (a, u ∙ ap (λ (x : Telling). over (call_text x (M.tick p.address lent) (on p.state table)) out) w),
      )

-- ---- the turn

-- what is promised of a turn: the answer, the line buffer, the table and the output buffer
abbrev pub Turned : Player → List ℕ → List ℕ → List ℕ → List ℕ → Told → List ℕ → List ℕ → List ℕ → Type 0
Turned p line table input out r line' table' out' =
    (r ≡ told_of (turn_step (roomy out) p line table input))
    × ((line' ≡ held_of p line input) × ((table' ≡ (turn_step (roomy out) p line table input).table) × (out' ≡ over (turn_step (roomy out) p line table input).text out)))

-- the line buffer is touched only where a piece is held
module _ (p : Player) (line input : List ℕ) where
  untouched : only_holds p line input ≡ false → held_of p line input ≡ line
  unfolding held_of
  untouched e = on_false (only_holds p line input) _ _ e

  held_broken : p.broken ≡ true → held_of p line input ≡ line
  unfolding only_holds
  held_broken e = untouched (rw e)

  module _ (b : p.broken ≡ false) where
    held_tick : ltb 0 p.ticks ≡ true → held_of p line input ≡ line
    unfolding only_holds
    held_tick e = untouched (rw (b, e))

    module _ (t : ltb 0 p.ticks ≡ false) where
      held_unfit : line_fits line ≡ false → held_of p line input ≡ line
      unfolding only_holds
      held_unfit e = untouched (rw (b, t, e))

      held_ended : line_fits line ≡ true → (gathered 0 p.held input).ended ≡ true → held_of p line input ≡ line
      unfolding only_holds
      held_ended f e = untouched (rw (b, t, f, e))

      held_held : line_fits line ≡ true → (gathered 0 p.held input).ended ≡ false → held_of p line input ≡ line_after p.held line input
      unfolding only_holds held_of
      held_held f e = on_true (not p.broken && not (ltb 0 p.ticks) && line_fits line && not (gathered 0 p.held input).ended) _ _ (rw (b, t, f, e))

module _ (p : Player) (line table input out : List ℕ) (r : Told) where
  -- what a way through the turn does, from what it asks for, its step and the line buffer that it leaves
  turned : (c : ℕ) (s : Step) (line' table' out' : List ℕ) → turn_checked (roomy out) p line table input ≡ c → free_step p line table input ≡ s
      → held_of p line input ≡ line' → Made (given p table c s) r table' out out' → Turned p line table input out r line' table' out'
  unfolding turn_step
  turned c s line' table' out' e f h m =
      let k = ap (λ (n : ℕ). given p table n (free_step p line table input)) e ∙ ap (given p table c) f in
      (m.0 ∙ ap told_of (sym k), (sym h, (m.1.0 ∙ ap (λ (x : Step). x.table) (sym k), m.1.1 ∙ ap (λ (x : Step). over x.text out) (sym k))))

  -- a broken player uses the whole piece
  pub turn_broken : p.broken ≡ true → (q : Told) → q ≡ told_of (silent_step p table 0) → r ≡ using_of q (length input) → Turned p line table input out r line table out
  unfolding turn_checked free_step
  turn_broken b q h u =
      turned 0 (with_used (length input) (silent_step p table 0)) line table out (on_true p.broken _ _ b) (on_true p.broken _ _ b) (held_broken p line input b)
      (made_as out (given_whole p table 0 _ refl) (using_made (silent_step p table 0) (length input) q r table out out (silent_made p table 0 q out h) u))

  module _ (b : p.broken ≡ false) where
    -- one of the ticks that are due; of the piece nothing is used
    pub turn_tick : 0 < p.ticks → (table' out' : List ℕ)
        → Made (given p table (call_checks (roomy out) p.state (length table)) (tick_step p table)) r table' out out' → Turned p line table input out r line table' out'
    unfolding turn_checked free_step
    turn_tick t table' out' m =
        let k = lt-ltb 0 p.ticks t in
        turned (call_checks (roomy out) p.state (length table)) (tick_step p table) line table' out' (on_false p.broken _ _ b ∙ on_true (ltb 0 p.ticks) _ _ k)
        (on_false p.broken _ _ b ∙ on_true (ltb 0 p.ticks) _ _ k) (held_tick p line input b k) m

    module _ (t : p.ticks ≤ 0) where
      -- the line buffer is too short
      pub turn_unfit : length line < 4118 → r ≡ told_of (silent_step p table 3) → Turned p line table input out r line table out
      unfolding turn_checked line_fits check
      turn_unfit h f =
          let k = le-ltb 0 p.ticks t in
          let l = lt-leb 4118 (length line) h in
          turned 3 (free_step p line table input) line table out
          (on_false p.broken _ _ b ∙ on_false (ltb 0 p.ticks) _ _ k ∙ on_false (leb 4118 (length line)) _ _ l) refl (held_unfit p line input b k l)
          (made_as out (given_refused p table 3 _ (λ z. absurd (omega (arith, z)))) (silent_made p table 3 r out f))

      module _ (fits : 4118 ≤ length line) (g : Gathered) (e : g ≡ gathered 0 p.held input) where
        -- the piece ends no line
        pub turn_held : g.ended ≡ false → (q : Told) → q ≡ told_of (silent_step (holding p g.held) table 0) → r ≡ using_of q g.used
            → (line' : List ℕ) → line' ≡ line_after p.held line input → Turned p line table input out r line' table out
        unfolding turn_checked free_step line_fits check
        turn_held n q h u line' l =
            let k = le-ltb 0 p.ticks t in
            let m = le-leb 4118 (length line) fits in
            turned 0 (with_used g.used (silent_step (holding p g.held) table 0)) line' table out
            (on_false p.broken _ _ b ∙ on_false (ltb 0 p.ticks) _ _ k ∙ on_true (leb 4118 (length line)) _ _ m ∙ rw (sym e) (on_false g.ended _ _ n))
            (on_false p.broken _ _ b ∙ on_false (ltb 0 p.ticks) _ _ k ∙ rw (sym e) (ap (with_used g.used) (on_false g.ended _ _ n)))
            (held_held p line input b k m (ap (λ (x : Gathered). x.ended) (sym e) ∙ n) ∙ sym l)
            (made_as out (given_whole p table 0 _ refl) (using_made (silent_step (holding p g.held) table 0) g.used q r table out out (silent_made (holding p g.held) table 0 q out h) u))

        -- a line has ended
        pub turn_line : g.ended ≡ true → (whole : List ℕ) → whole ≡ line_after p.held (take 4118 line) input → (table' out' : List ℕ)
            → Made (given p table (line_checked (roomy out) p table (line_held g.held whole)) (with_used g.used (line_step p table (line_held g.held whole)))) r table' out out'
            → Turned p line table input out r line table' out'
        unfolding turn_checked free_step line_fits check ended_line
        turn_line n whole l table' out' m =
            let k = le-ltb 0 p.ticks t in
            let o = le-leb 4118 (length line) fits in
            turned (line_checked (roomy out) p table (line_held g.held whole)) (with_used g.used (line_step p table (line_held g.held whole))) line table' out'
            (on_false p.broken _ _ b ∙ on_false (ltb 0 p.ticks) _ _ k ∙ on_true (leb 4118 (length line)) _ _ o ∙ rw (sym e, sym l) (on_true g.ended _ _ n))
            (on_false p.broken _ _ b ∙ on_false (ltb 0 p.ticks) _ _ k ∙ rw (sym e, sym l) (ap (with_used g.used) (on_true g.ended _ _ n)))
            (held_ended p line input b k o (ap (λ (x : Gathered). x.ended) (sym e) ∙ n)) m

-- ---- the listing

-- as many octets as are said are those of the text, and the rest of the buffer is as it was
listed_as : (carried : Bool) (answer : ℕ) (st : State) (text out : List ℕ) (o : Outcome) (new : List ℕ)
    → o ≡ cond carried (record { answer = 0; first = length text; second = 0; state = st }) (refused_of st answer) → new ≡ cond carried (over text out) out
    → (o.first ≡ length (take o.first new)) × (new ≡ over (take o.first new) out)
unfolding refused_of over
listed_as true answer st text out o new e f = rw (e, f, take-append_seam) (refl, refl)
listed_as false answer st text out o new e f = rw (e, f) (refl, refl)

module _ (out : List ℕ) (p : Player) (table : List ℕ) where
  pub finish_broken : p.broken ≡ true → finish_step out p table ≡ silent_step p table 0
  unfolding finish_step
  finish_broken b = rw b

  pub finish_unbegun : p.broken ≡ false → p.lines < 4 → finish_step out p table ≡ silent_step p table 0
  unfolding finish_step
  finish_unbegun b h = rw (b, lt-ltb p.lines 4 h)

  pub finish_listed : p.broken ≡ false → 4 ≤ p.lines → (o : Outcome) (new : List ℕ)
      → o ≡ listing_outcome p.state table out → new ≡ listing_buffer p.state table out
      → Taken (finish_step out p table) record { player = p; answer = o.answer; used = 0; written = o.first } out new
  unfolding finish_step listed_in seen_of outcome_of buffer_left on listing_outcome listing_buffer if_ok told_of
  finish_listed b h o new e f =
      let checks = listing_checks p.state table out in
      let l = listed_as (eqb checks 0) checks p.state (listing_text (entries p.state table)) out o new e f in
      taken_as out (on_false p.broken _ _ b ∙ on_false (ltb p.lines 4) _ _ (le-ltb p.lines 4 h))
      (rw (sym e, sym f) (ap (λ (n : ℕ). record { player = p; answer = o.answer; used = 0; written = n }) l.0, l.1))

-- ---- the end of the recording

module _ (room : Bool) (p : Player) (table : List ℕ) where
  pub close_broken : p.broken ≡ true → close_step room p table ≡ silent_step p table 0
  unfolding close_step
  close_broken b = on_true p.broken _ _ b

  pub close_missing : p.broken ≡ false → p.lines < 4 → close_step room p table ≡ reported room p table 0 (broken_step p table 19)
  unfolding close_step
  close_missing b h = on_false p.broken _ _ b ∙ on_true (ltb p.lines 4) _ _ (lt-ltb p.lines 4 h)

  pub close_unended : p.broken ≡ false → 4 ≤ p.lines → 0 < p.held → close_step room p table ≡ reported room p table 0 (bad_step p table)
  unfolding close_step
  close_unended b h k =
      on_false p.broken _ _ b ∙ on_false (ltb p.lines 4) _ _ (le-ltb p.lines 4 h) ∙ on_true (ltb 0 p.held) _ _ (lt-ltb 0 p.held k)

  pub close_ended : p.broken ≡ false → 4 ≤ p.lines → p.held ≤ 0 → close_step room p table ≡ silent_step p table 0
  unfolding close_step
  close_ended b h k =
      on_false p.broken _ _ b ∙ on_false (ltb p.lines 4) _ _ (le-ltb p.lines 4 h) ∙ on_false (ltb 0 p.held) _ _ (le-ltb 0 p.held k)
