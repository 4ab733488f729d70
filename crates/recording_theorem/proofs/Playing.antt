-- The theorem about recordings: turn after turn the player writes what the whole recording says, and ends as it says.
-- Assumes nothing.
use Prim.Native.Nat.{ℕ, zero, suc, min, ◌≤◌, ◌<◌}
use mathlib.Core.Path.{◌≡◌, refl, sym, ap, ◌∙◌}
use mathlib.Core.Bool.{Bool, true, false, cond, ◌&&◌, ◌||◌, true≢false, false≢true}
use mathlib.Core.List.{List, [], ◌∷◌, ◌++◌, append-nil}
use lib.Dec.{ltb, eqb}
use lib.ListN.{length, take, drop, take-append-drop}
use borrow.Author.Tests.{eqb-true, eqb-false, ltb-true, ltb-false, lt-ltb, le-ltb, leb-true}
use native.Mathlib.Omega.{arith}
use Rattle.checks.specs.Checks.{check, if_ok}
use Rattle.checks.specs.Lists.{join}
use Rattle.checks.proofs.Laws.{and_left, and_right, cond_elim}
use Rattle.update_rows.specs.Storing.{zeros}
use Rattle.neighbour.specs.declared.Settings.{Settings}
use Rattle.text_values.specs.Numbers.{when_number}
use Rattle.recording_bad_line.specs.BadLine.{bad_text, one_more}
use Rattle.model.specs.Theorem.{Gateway, gateway_from, run, empty_table}
use Rattle.recording_call.specs.Told.{on}
use Rattle.recording_player.specs.declared.Player.{Player}
use Rattle.recording_player.specs.Player.{beginning, roomy, line_fits, next_line, breaking, report_check, given, with_used, reported, bad_step, broken_step, silent_step, turn_step, held_of, close_step, finish_step}
use Rattle.recording_theorem.specs.Output.{RecordedLine, unended, lines_from, lines_of, event_in, value_in, broken, opened, from_quiet, opening_of, from_own, from_capability, from_net, calls_of, good_calls, output_of}
use Rattle.recording_theorem.proofs.ByCalls.{event_told, told_from, told_text, events_text, listed, opening_text}
use Rattle.recording_theorem.specs.Theorem.{Deck, fresh_deck, Lent, step_on, after_turn, Driven, writing, drive, is_done, closed, finished, all_text, EndsAs, Played, Recordings}
use Rattle.recording_theorem.proofs.Laws.{no_length, left_of}
use Rattle.recording_theorem.proofs.OneByOne.{one_by_one}
use Rattle.model.proofs.Theorem.{list_of_calls}
use Rattle.recording_theorem.proofs.Listed.{finish_in}
use Rattle.recording_theorem.proofs.ByModel.{recording_text, fresh_took}
use Rattle.recording_theorem.proofs.Held.{holds_none}
use Rattle.recording_theorem.proofs.Due.{Final, unplayed, played_to, Due, saying, saying_twice, silence, events_due, final_of, opening_due, opening_from, remaining, remaining_broken, remaining_early}
use Rattle.recording_theorem.proofs.LineEnds.{Kept, kept_early, then_events, more_lines}
use Rattle.recording_theorem.proofs.Turns.{Sound, due_of, deck_of, turned, used_within}

-- ---- the end of the recording

-- what a deck says of the end, once nothing is left
unfoldable pub final_in : Deck → Final
final_in d = cond d.player.broken unplayed (cond (ltb d.player.lines 4) unplayed (played_to (on d.player.state d.table)))

unfoldable pub end_due : Deck → Due
end_due d = record { text = (closed d).text ++ (finished (zeros 65536) d).text; final = final_in d }

broken_end : (d : Deck) (held : List ℕ) → d.player.broken ≡ true → remaining d.player d.table (lines_from held []) ≡ end_due d
unfolding end_due closed finished close_step finish_step final_in silent_step silence
broken_end d held e = remaining_broken d.player d.table (lines_from held []) e ∙ rw e

-- one of the first four is missing, or has no end
early_missing : (lines : ℕ) → lines < 4 → (g : Settings) (held : List ℕ) (b : Bool)
    → opening_from lines g (cond b [] (unended held ∷ [])) ≡ broken (one_more lines)
unfolding opening_from opening_of from_own from_capability from_net one_more value_in when_number
early_missing zero k g held true = refl
early_missing zero k g held false = refl
early_missing (suc zero) k g held true = refl
early_missing (suc zero) k g held false = refl
early_missing (suc (suc zero)) k g held true = refl
early_missing (suc (suc zero)) k g held false = refl
early_missing (suc (suc (suc zero))) k g held true = refl
early_missing (suc (suc (suc zero))) k g held false = refl
early_missing (suc (suc (suc (suc lines)))) k g held b = absurd (omega (arith, k))

-- nor does an unended line say `quiet`
no_quiet : (g : Settings) (held : List ℕ) → from_quiet g (lines_from held []) ≡ opened g 4 (lines_from held [])
unfolding lines_from from_quiet value_in when_number
no_quiet g held =
    cond_elim (λ (l : List RecordedLine). from_quiet g l ≡ opened g 4 l) (eqb (length held) 0) [] (unended held ∷ []) (λ _. refl) (λ _. refl)

module _ (d : Deck) (held : List ℕ) (f : d.player.broken ≡ false) where
  abbrev p : Player
  p = d.player

  early_end : p.lines < 4 → remaining p d.table (lines_from held []) ≡ end_due d
  unfolding lines_from opening_due opening_text final_of end_due closed finished close_step finish_step final_in broken_step reported report_check check given if_ok with_used breaking next_line silent_step
  early_end k =
      remaining_early p d.table (lines_from held []) f (omega (arith, k)) ∙ ap (opening_due p.traced) (early_missing p.lines k p.settings held (eqb (length held) 0))
      ∙ rw (f, lt-ltb p.lines 4 k) (λ i. record { text = sym (append-nil (bad_text (one_more p.lines))) i; final = unplayed })

  module _ (late : 4 ≤ p.lines) (z : p.ticks ≡ 0) (counted : p.held ≡ min (length held) 4118) (kept : Kept p d.table) where
    -- an unended line is bad
    unended_end : eqb (length held) 0 ≡ false → events_due p.traced p.lines (on p.state d.table) (lines_from held []) ≡ end_due d
    unfolding lines_from end_due closed finished close_step finish_step final_in bad_step reported report_check check given if_ok with_used next_line events_due events_text told_from event_told event_in calls_of good_calls gateway_from join told_text listed
    unended_end e =
        let some : (length held ≡ 0) → ⊥ = eqb-false (length held) 0 e in
        let k : 0 < p.held = omega (arith, counted, some) in
        rw (e, f, le-ltb p.lines 4 late, lt-ltb 0 p.held k, le-ltb (one_more p.lines) 4 (omega (arith, more_lines p.lines late)), append-nil (bad_text (one_more p.lines)))

    ended_end : eqb (length held) 0 ≡ true → events_due p.traced p.lines (on p.state d.table) (lines_from held []) ≡ end_due d
    unfolding lines_from end_due closed finished close_step finish_step final_in silent_step events_due events_text told_from good_calls gateway_from join listed
    ended_end e =
        let k : p.held ≡ 0 = omega (arith, counted, eqb-true (length held) 0 e) in
        let four = le-ltb p.lines 4 late in
        rw (e, f, four, k, four)

    late_end : remaining p d.table (lines_from held []) ≡ end_due d
    late_end = then_events p d.table (lines_from held []) f late z kept (λ _. no_quiet p.settings held) ∙ go (eqb (length held) 0) refl
      where
        go : (b : Bool) → eqb (length held) 0 ≡ b → events_due p.traced p.lines (on p.state d.table) (lines_from held []) ≡ end_due d
        go true e = ended_end e
        go false e = unended_end e

-- no tick is due, or the player is broken
at_end : (d : Deck) (held : List ℕ) → Sound d held → (d.player.broken || eqb d.player.ticks 0) ≡ true → due_of d held [] ≡ end_due d
unfolding due_of
at_end d held ok done = go d.player.broken refl (ltb d.player.lines 4) refl
  where
    none : (b : Bool) → b ≡ false → (b || eqb d.player.ticks 0) ≡ true → d.player.ticks ≡ 0
    none true e h = absurd (true≢false e)
    none false e h = eqb-true d.player.ticks 0 h

    go : (b : Bool) → d.player.broken ≡ b → (c : Bool) → ltb d.player.lines 4 ≡ c
        → remaining d.player d.table (lines_from held []) ≡ end_due d
    go true e c h = broken_end d held e
    go false e true h = early_end d held e (ltb-true d.player.lines 4 h)
    go false e false h =
        late_end d held e (ltb-false d.player.lines 4 h) (none d.player.broken e done) ok.holds.counted ok.kept

-- ---- turn after turn

pub record Finishes (d : Deck) (held input : List ℕ) (r : Driven) : Type 0 where
  pub kept : Kept r.deck.player r.deck.table
  pub same : due_of d held input ≡ saying r.text (end_due r.deck)

no_more : (rest : List ℕ) (done : Bool) → (eqb (length rest) 0 && done) ≡ true → rest ≡ []
no_more rest done h = no_length rest (eqb-true (length rest) 0 (and_left (eqb (length rest) 0) done h))

finishes : (lents : List Lent) (d : Deck) (held input : List ℕ) → Sound d held → is_done (drive lents d input) ≡ true → Finishes d held input (drive lents d input)
unfolding drive is_done writing saying step_on after_turn
finishes [] d held input ok done =
    let k = d.player.broken || eqb d.player.ticks 0 in
    record {
      kept = ok.kept;
      same = ap (due_of d held) (no_more input k done) ∙ at_end d held ok (and_right (eqb (length input) 0) k done);
    }
finishes (lent ∷ lents) d held input ok done =
    let piece = take lent.size input in
    let room = roomy lent.out in
    let s = turn_step room d.player d.line d.table piece in
    let next = deck_of s (held_of d.player d.line piece) in
    let t = turned d held piece (drop lent.size input) ok room in
    let r = finishes lents next t.next (drop s.used input) t.sound done in
    record {
      kept = r.kept;
      same = ap (due_of d held) (sym (take-append-drop lent.size input)) ∙ t.same
          ∙ ap (λ (l : List ℕ). saying s.text (due_of next t.next l)) (left_of lent.size s.used input (used_within room d.player d.line d.table piece))
          ∙ ap (saying s.text) r.same
          ∙ saying_twice s.text (drive lents next (drop s.used input)).text (end_due (drive lents next (drop s.used input)).deck);
    }

pub start_sound : (traced : Bool) (line : List ℕ) → line_fits line ≡ true → Sound (fresh_deck traced line) []
unfolding fresh_deck beginning line_fits
start_sound traced line h = record { holds = holds_none line (leb-true 4118 (length line) h); kept = kept_early (beginning traced) refl (λ e k. absurd (omega (arith, k))) (λ e k. absurd (omega (arith, k))) }

start_due : (traced : Bool) (line recording : List ℕ) → due_of (fresh_deck traced line) [] recording ≡ opening_due traced (opening_of (lines_of recording))
unfolding due_of fresh_deck beginning remaining opening_from lines_of
start_due traced line recording = refl

-- ---- the end, told from what was due

final_gateway : Gateway → Final → Gateway
final_gateway b unplayed = b
final_gateway b (played_to b') = b'

is_played : Final → Bool
is_played unplayed = false
is_played (played_to b) = true

-- a player that played ends with this state and this table
played_final : (d : Deck) (b : Gateway) → played_to b ≡ final_in d → b ≡ on d.player.state d.table
unfolding final_in final_gateway is_played
played_final d b e = go d.player.broken (ltb d.player.lines 4) e
  where
    go : (s t : Bool) → played_to b ≡ cond s unplayed (cond t unplayed (played_to (on d.player.state d.table))) → b ≡ on d.player.state d.table
    go true t h = absurd (true≢false (ap is_played h))
    go false true h = absurd (true≢false (ap is_played h))
    go false false h = ap (final_gateway b) h

-- one that did not has left the table as it was lent
unplayed_final : (d : Deck) → Kept d.player d.table → unplayed ≡ final_in d → d.table ≡ empty_table
unfolding final_in is_played
unplayed_final d k e = go d.player.broken refl (ltb d.player.lines 4) refl e
  where
    go : (s : Bool) → d.player.broken ≡ s → (t : Bool) → ltb d.player.lines 4 ≡ t
        → unplayed ≡ cond s unplayed (cond t unplayed (played_to (on d.player.state d.table))) → d.table ≡ empty_table
    go true f t h c = k.still f
    go false f true h c = k.early (omega (arith, ltb-true d.player.lines 4 h))
    go false f false h c = absurd (false≢true (ap is_played c))

-- ---- the theorem

module _ (traced : Bool) (line recording : List ℕ) (lents : List Lent) (fits : line_fits line ≡ true) (done : is_done (drive lents (fresh_deck traced line) recording) ≡ true) where
  abbrev r : Driven
  r = drive lents (fresh_deck traced line) recording

  finished_so : Finishes (fresh_deck traced line) [] recording r
  finished_so = finishes lents (fresh_deck traced line) [] recording (start_sound traced line fits) done

  whole_due : opening_due traced (opening_of (lines_of recording)) ≡ saying r.text (end_due r.deck)
  whole_due = sym (start_due traced line recording) ∙ finished_so.same

  same_output : length recording < 18446744073709551616 → (out : List ℕ) → roomy out ≡ true → all_text out r ≡ output_of traced recording
  unfolding all_text finished output_of opening_due saying end_due
  same_output few out h =
      ap (λ (l : List ℕ). r.text ++ ((closed r.deck).text ++ l)) (finish_in out (closed r.deck).player r.deck.table h)
      ∙ sym (ap (λ (d : Due). d.text) whole_due) ∙ recording_text traced recording few

  same_final : final_of (opening_of (lines_of recording)) ≡ final_in r.deck
  unfolding opening_due saying end_due
  same_final = ap (λ (d : Due). d.final) whole_due

  ends_as : (g : Settings) (lines : ℕ) (l : List RecordedLine) → opening_of (lines_of recording) ≡ opened g lines l → EndsAs r.deck g l
  unfolding final_of on
  ends_as g lines l e =
      let k = played_final r.deck (run g (good_calls l)) (sym (ap final_of e) ∙ same_final) in
      let a = list_of_calls g (fresh_took recording g lines l e) (good_calls l) in
      record { state = sym (ap (λ (b : Gateway). b.state) k) ∙ a.state; table = sym (ap (λ (b : Gateway). b.table) k) ∙ a.table }

  left_alone : (number : ℕ) → opening_of (lines_of recording) ≡ broken number → r.deck.table ≡ empty_table
  unfolding final_of
  left_alone number e = unplayed_final r.deck finished_so.kept (sym (ap final_of e) ∙ same_final)

  pub as_played : Played traced line recording lents
  as_played = record { output = same_output; ends = ends_as; untouched = left_alone }

pub recordings : Recordings
recordings = record { one_by_one = one_by_one; played = as_played }
