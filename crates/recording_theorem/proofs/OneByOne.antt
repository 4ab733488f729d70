-- Playing the events is making their calls one by one. Assumes nothing.
use Prim.Native.Nat.{ℕ, zero, suc}
use mathlib.Core.Path.{◌≡◌, refl, ap, ◌∙◌}
use mathlib.Core.Bool.{Bool, true, ◌&&◌}
use mathlib.Core.List.{List, [], ◌∷◌, ◌++◌}
use lib.Dec.{ltb, leb}
use lib.ListN.{length}
use Rattle.checks.specs.Lists.{every}
use Rattle.checks.proofs.Laws.{and_right, and_both}
use Rattle.neighbour.specs.declared.Settings.{Settings}
use Rattle.recording_lines.specs.Lines.{Event, bad, add, remove, start, stop, tick, rx, event_of}
use Rattle.recording_lines.specs.Claims.{is_address, in_range, is_good}
use Rattle.recording_lines.proofs.Events.{events}
use Rattle.model.specs.Model as M
use Rattle.model.specs.Theorem.{carries_octets}
use Rattle.model.proofs.Theorem.{list_of_calls}
use Rattle.recording_call.specs.Told.{passed_after}
use Rattle.recording_theorem.specs.Output.{RecordedLine, ended, unended, event_in, ticks, calls_of, good_calls, happened, Told, bad_line, called, telling, calls_told, event_told, told_from}
use Rattle.recording_theorem.specs.Theorem.{calls_in, said_in, OneByOne}
use Rattle.recording_theorem.proofs.Laws.{every_append, said_append}

-- ---- the calls told of

calls_append : (l m : List Told) → calls_in (l ++ m) ≡ calls_in l ++ calls_in m
unfolding calls_in
calls_append [] m = refl
calls_append (bad_line number ∷ l) m = calls_append l m
calls_append (called t call h ∷ l) m = ap (λ (r : List M.Call). call ∷ r) (calls_append l m)

calls_told_lem : (traced : Bool) (number passed : ℕ) (m : M.Model) (calls : List M.Call) → calls_in (calls_told traced number passed m calls) ≡ calls
unfolding calls_in calls_told
calls_told_lem traced number passed m [] = refl
calls_told_lem traced number passed m (call ∷ calls) =
    ap (λ (r : List M.Call). call ∷ r) (calls_told_lem traced number (passed_after (telling traced number passed calls) (happened call m)) (M.step call m).model calls)

event_calls : (traced : Bool) (number : ℕ) (m : M.Model) (e : Event) → calls_in (event_told traced number m e) ≡ calls_of e
unfolding event_told calls_in calls_of
event_calls traced number m bad = refl
event_calls traced number m (add a asn) = calls_told_lem traced number 0 m (calls_of (add a asn))
event_calls traced number m (remove a) = calls_told_lem traced number 0 m (calls_of (remove a))
event_calls traced number m (start a) = calls_told_lem traced number 0 m (calls_of (start a))
event_calls traced number m (stop a) = calls_told_lem traced number 0 m (calls_of (stop a))
event_calls traced number m (tick a count) = calls_told_lem traced number 0 m (calls_of (tick a count))
event_calls traced number m (rx a octets) = calls_told_lem traced number 0 m (calls_of (rx a octets))

from_calls : (traced : Bool) (count : ℕ) (m : M.Model) (l : List RecordedLine) → calls_in (told_from traced count m l) ≡ good_calls l
unfolding told_from good_calls calls_in
from_calls traced count m [] = refl
from_calls traced count m (line ∷ l) =
    calls_append (event_told traced (suc count) m (event_in line)) (told_from traced (suc count) (M.model_from m (calls_of (event_in line))) l)
    ∙ rw (event_calls traced (suc count) m (event_in line))
    (ap (λ (r : List M.Call). calls_of (event_in line) ++ r) (from_calls traced (suc count) (M.model_from m (calls_of (event_in line))) l))

-- ---- what is seen of them

seen_told_append : (l m : List Told) → said_in (l ++ m) ≡ said_in l ++ said_in m
unfolding said_in
seen_told_append [] m = refl
seen_told_append (bad_line number ∷ l) m = seen_told_append l m
seen_told_append (called t call h ∷ l) m = ap (λ (r : List M.Said). record { answer = h.answer; first = h.first; second = h.second } ∷ r) (seen_told_append l m)

seen_told : (traced : Bool) (number passed : ℕ) (m : M.Model) (calls : List M.Call) → said_in (calls_told traced number passed m calls) ≡ M.said_from m calls
unfolding said_in calls_told happened M.said_from
seen_told traced number passed m [] = refl
seen_told traced number passed m (call ∷ calls) =
    ap (λ (r : List M.Said). (M.step call m).said ∷ r)
    (seen_told traced number (passed_after (telling traced number passed calls) (happened call m)) (M.step call m).model calls)

event_seen : (traced : Bool) (number : ℕ) (m : M.Model) (e : Event) → said_in (event_told traced number m e) ≡ M.said_from m (calls_of e)
unfolding event_told said_in calls_of M.said_from
event_seen traced number m bad = refl
event_seen traced number m (add a asn) = seen_told traced number 0 m (calls_of (add a asn))
event_seen traced number m (remove a) = seen_told traced number 0 m (calls_of (remove a))
event_seen traced number m (start a) = seen_told traced number 0 m (calls_of (start a))
event_seen traced number m (stop a) = seen_told traced number 0 m (calls_of (stop a))
event_seen traced number m (tick a count) = seen_told traced number 0 m (calls_of (tick a count))
event_seen traced number m (rx a octets) = seen_told traced number 0 m (calls_of (rx a octets))

from_seen : (traced : Bool) (count : ℕ) (m : M.Model) (l : List RecordedLine) → said_in (told_from traced count m l) ≡ M.said_from m (good_calls l)
unfolding told_from good_calls said_in M.said_from
from_seen traced count m [] = refl
from_seen traced count m (line ∷ l) =
    seen_told_append (event_told traced (suc count) m (event_in line)) (told_from traced (suc count) (M.model_from m (calls_of (event_in line))) l)
    ∙ rw (event_seen traced (suc count) m (event_in line), said_append m (calls_of (event_in line)) (good_calls l))
    (ap (λ (r : List M.Said). M.said_from m (calls_of (event_in line)) ++ r) (from_seen traced (suc count) (M.model_from m (calls_of (event_in line))) l))

-- ---- their messages are of octets

ticks_octets : (a count : ℕ) → every carries_octets (ticks a count) ≡ true
unfolding every carries_octets ticks
ticks_octets a zero = refl
ticks_octets a (suc count) = ticks_octets a count

line_octets_lem : (line : List ℕ) → every carries_octets (calls_of (event_of line)) ≡ true
unfolding every carries_octets calls_of is_good in_range
line_octets_lem line = go (event_of line) (events.range line)
  where
    go : (e : Event) → (is_good e ≡ true → in_range e ≡ true) → every carries_octets (calls_of e) ≡ true
    go bad h = refl
    go (add a asn) h = refl
    go (remove a) h = refl
    go (start a) h = refl
    go (stop a) h = refl
    go (tick a count) h = ticks_octets a count
    go (rx a octets) h =
        and_both (every (λ o. ltb o 256) octets) true
        (and_right (leb (length octets) 2049) (every (λ o. ltb o 256) octets)
        (and_right (is_address a) (leb (length octets) 2049 && every (λ o. ltb o 256) octets) (h refl))) refl

pub in_octets : (line : RecordedLine) → every carries_octets (calls_of (event_in line)) ≡ true
unfolding event_in calls_of every
in_octets (ended line) = line_octets_lem line
in_octets (unended line) = refl

pub from_octets : (l : List RecordedLine) → every carries_octets (good_calls l) ≡ true
unfolding good_calls every
from_octets [] = refl
from_octets (line ∷ l) = every_append carries_octets (calls_of (event_in line)) (good_calls l) (in_octets line) (from_octets l)

-- ---- the whole

pub one_by_one : (traced : Bool) (g : Settings) (lines : ℕ) (l : List RecordedLine) → OneByOne traced g lines l
one_by_one traced g lines l =
    record {
      calls = from_calls traced lines (M.empty g) l;
      said = from_seen traced lines (M.empty g) l;
      octets = from_octets l;
      agreement = λ z. list_of_calls g z (good_calls l);
    }
