-- What a player has still to write, and where it will end, told of the lines that are to come. Assumes nothing.
use Prim.Native.Nat.{ℕ, zero, suc, ◌≤◌, ◌<◌}
use mathlib.Core.Path.{◌≡◌, sym, ap, ◌∙◌}
use mathlib.Core.Bool.{Bool, true, false, cond}
use mathlib.Core.List.{List, [], ◌∷◌, ◌++◌, map, append_assoc}
use lib.Dec.{ltb}
use borrow.Author.Tests.{lt-ltb, le-ltb}
use Rattle.checks.specs.Lists.{join}
use Rattle.neighbour.specs.declared.Settings.{Settings}
use Rattle.recording_bad_line.specs.BadLine.{one_more}
use Rattle.model.specs.Model as M
use Rattle.model.specs.Theorem.{Gateway, gateway_step, gateway_from, run}
use Rattle.recording_call.specs.Told.{passed_after, happened_by, call_text, on}
use Rattle.recording_player.specs.declared.Player.{Player}
use Rattle.recording_theorem.specs.Output.{RecordedLine, event_in, Opening, broken, opened, from_quiet, from_net, from_capability, from_own, opening_of, ticks, calls_of, good_calls, telling}
use Rattle.recording_theorem.proofs.ByCalls.{calls_told, event_told, told_from, told_text, events_text, listed, opening_text}
use Rattle.recording_theorem.proofs.Laws.{join_append, run_append}

-- ---- what is to be written, and the end

-- the gateway at the end, if anything is played
pub data Final : Type 0 where
  unplayed : Final
  played_to : Gateway → Final

pub record Due : Type 0 where
  pub text : List ℕ
  pub final : Final

-- text before it
unfoldable pub saying : List ℕ → Due → Due
saying text d = record { text = text ++ d.text; final = d.final }

pub saying_twice : (s t : List ℕ) (d : Due) → saying s (saying t d) ≡ saying (s ++ t) d
unfolding saying
saying_twice s t d = λ i. record { text = sym (append_assoc s t d.text) i; final = d.final }

-- once a player is broken
unfoldable pub silence : Due
silence = record { text = []; final = unplayed }

-- from these events on, behind so many lines
unfoldable pub events_due : Bool → ℕ → Gateway → List RecordedLine → Due
events_due traced lines b events =
    record { text = events_text traced lines b events ++ listed (gateway_from b (good_calls events)); final = played_to (gateway_from b (good_calls events)) }

-- with calls of the last line to be made before them
unfoldable pub calls_due : Bool → ℕ → ℕ → Gateway → List M.Call → List RecordedLine → Due
calls_due traced lines passed b calls events =
    saying (join (map told_text (calls_told traced lines passed b calls))) (events_due traced lines (gateway_from b calls) events)

unfoldable pub final_of : Opening → Final
final_of (broken number) = unplayed
final_of (opened g lines events) = played_to (run g (good_calls events))

unfoldable pub opening_due : Bool → Opening → Due
opening_due traced o = record { text = opening_text traced o; final = final_of o }

-- what is left of the settings' lines, behind so many of them
unfoldable pub opening_from : ℕ → Settings → List RecordedLine → Opening
opening_from zero g l = opening_of l
opening_from (suc zero) g l = from_own g.asn l
opening_from (suc (suc zero)) g l = from_capability g.asn g.own l
opening_from (suc (suc (suc zero))) g l = from_net g.asn g.own g.capability l
opening_from (suc (suc (suc (suc lines)))) g l = from_quiet g l

unfoldable pub remaining : Player → List ℕ → List RecordedLine → Due
remaining p table l =
    cond p.broken silence
    (cond (ltb p.lines 5) (opening_due p.traced (opening_from p.lines p.settings l))
    (calls_due p.traced p.lines p.passed (on p.state table) (ticks p.address p.ticks) l))

module _ (p : Player) (table : List ℕ) (l : List RecordedLine) where
  pub remaining_broken : p.broken ≡ true → remaining p table l ≡ silence
  unfolding remaining
  remaining_broken e = rw e

  pub remaining_early : p.broken ≡ false → p.lines < 5 → remaining p table l ≡ opening_due p.traced (opening_from p.lines p.settings l)
  unfolding remaining
  remaining_early e k = rw (e, lt-ltb p.lines 5 k)

  pub remaining_late :
      p.broken ≡ false → 5 ≤ p.lines → remaining p table l ≡ calls_due p.traced p.lines p.passed (on p.state table) (ticks p.address p.ticks) l
  unfolding remaining
  remaining_late e k = rw (e, le-ltb p.lines 5 k)

-- ---- one call, one line

pub call_due : (traced : Bool) (lines passed : ℕ) (b : Gateway) (call : M.Call) (calls : List M.Call) (l : List RecordedLine)
    → calls_due traced lines passed b (call ∷ calls) l
    ≡ saying (call_text (telling traced lines passed calls) call b)
    (calls_due traced lines (passed_after (telling traced lines passed calls) (happened_by call b)) (gateway_step call b) calls l)
unfolding calls_due calls_told gateway_from join told_text call_text
call_due traced lines passed b call calls l =
    let t = telling traced lines passed calls in
    sym (saying_twice (call_text t call b) (join (map told_text (calls_told traced lines (passed_after t (happened_by call b)) (gateway_step call b) calls)))
    (events_due traced lines (gateway_from (gateway_step call b) calls) l))

pub line_due : (traced : Bool) (lines : ℕ) (b : Gateway) (line : RecordedLine) (l : List RecordedLine)
    → events_due traced lines b (line ∷ l)
    ≡ saying (join (map told_text (event_told traced (one_more lines) b (event_in line)))) (events_due traced (one_more lines) (gateway_from b (calls_of (event_in line))) l)
unfolding events_due events_text told_from good_calls saying
line_due traced lines b line l =
    let e = event_in line in
    let b' = gateway_from b (calls_of e) in
    let end = run_append b (calls_of e) (good_calls l) in
    let text = ap (λ (t : List ℕ). t ++ listed (gateway_from b' (good_calls l))) (join_append told_text (event_told traced (one_more lines) b e) (told_from traced (one_more lines) b' l))
    ∙ append_assoc (join (map told_text (event_told traced (one_more lines) b e))) (join (map told_text (told_from traced (one_more lines) b' l))) (listed (gateway_from b' (good_calls l))) in
    rw end (λ i. record { text = text i; final = played_to (gateway_from b' (good_calls l)) })
