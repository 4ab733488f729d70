-- What the calls' definitions show is what the model says, by the theorem about lists of calls; and no recording has
-- more lines than can be counted.
-- Assumes nothing.
use Prim.Native.Nat.{ℕ, suc, ◌+◌, ◌≤◌, ◌<◌}
use native.Mathlib.Omega.{arith}
use mathlib.Core.Path.{◌≡◌, refl, sym, ap, ◌∙◌}
use mathlib.Core.Bool.{Bool, true}
use mathlib.Core.List.{List, [], ◌∷◌, ◌++◌, map, append_assoc}
use lib.Dec.{eqb}
use lib.ListN.{length, take, drop, length-append}
use lib.Seq.{take-append_seam, drop-append_seam}
use borrow.Author.Tests.{lt-ltb, eqb-true, eqb-false}
use Rattle.checks.specs.Checks.{check, if_ok}
use Rattle.checks.specs.Lists.{every, join}
use Rattle.checks.proofs.Laws.{and_left, and_right, and_both, cond_elim}
use Rattle.octets.specs.Buffer.{over}
use Rattle.update_rows.specs.Storing.{zeros}
use Rattle.neighbour.specs.declared.Settings.{Settings}
use Rattle.neighbour.specs.Record.{with_quiet}
use Rattle.gateway_slots.specs.Calls.{fresh_of}
use Rattle.listing_lines.specs.Lines.{listing_text}
use Rattle.std.specs.Prelude.{Option, Some, None}
use Rattle.text_values.specs.Numbers.{when_number}
use Rattle.recording_lines.specs.Lines.{Event, bad, add, remove, start, stop, tick, rx, own_as_of, own_of, capability_of, net_of, quiet_of}
use Rattle.recording_lines.proofs.Events.{settings}
use Rattle.recording_bad_line.specs.BadLine.{one_more}
use Rattle.model.specs.Model as M
use Rattle.model.specs.Theorem.{Gateway, Seen, seen_of, seen_from, gateway_step, gateway_from, outcome_of, begun, run, seen_by, state_of, shown_in, shown, buffer_of, carries_octets}
use Rattle.model.proofs.Theorem.{list_of_calls}
use Rattle.recording_trace.specs.Trace.{Happened}
use Rattle.recording_trace.specs.Steps.{happened_in}
use Rattle.recording_call.specs.Told.{addressed_to, deed_of, message_in, tell_text, passed_after, happened_by}
use Rattle.recording_player.specs.Player.{listed_in}
use Rattle.recording_theorem.specs.Output.{RecordedLine, ended, unended, lines_from, lines_of, event_in, value_in, Opening, broken, opened, from_quiet, taken_by, from_net, from_capability, from_own, opening_of, calls_of, good_calls, happened, telling, calls_told, event_told, told_from, told_text, events_text, opening_text}
use Rattle.recording_theorem.proofs.ByCalls as C
use Rattle.recording_theorem.proofs.Laws.{join_append, quiet_taken}
use Rattle.recording_theorem.proofs.OneByOne.{in_octets, from_octets}

-- ---- what is seen of a call is what the model says of it

-- from this gateway and this model on, whatever the calls
record Agrees (b : Gateway) (m : M.Model) : Type 0 where
  seen : (calls : List M.Call) → every carries_octets calls ≡ true → seen_from b calls ≡ shown calls (M.said_from m calls)
  state : (calls : List M.Call) → (gateway_from b calls).state ≡ state_of (M.model_from m calls)

tail_of : List Seen → List Seen
tail_of [] = []
tail_of (seen ∷ rest) = rest

head_of : Seen → List Seen → Seen
head_of none [] = none
head_of none (seen ∷ rest) = seen

module _ (b : Gateway) (m : M.Model) (h : Agrees b m) (call : M.Call) (o : carries_octets call ≡ true) where
  agrees_now : seen_of call b ≡ shown_in (buffer_of call) (M.step call m).said
  unfolding seen_from shown M.said_from every head_of
  agrees_now = ap (head_of (seen_of call b)) (h.seen (call ∷ []) (and_both (carries_octets call) true o refl))

  agrees_next : Agrees (gateway_step call b) (M.step call m).model
  unfolding seen_from shown M.said_from every tail_of gateway_from M.model_from
  agrees_next =
      record {
        seen = λ calls e. ap tail_of (h.seen (call ∷ calls) (and_both (carries_octets call) (every carries_octets calls) o e));
        state = λ calls. h.state (call ∷ calls);
      }

  -- the state before it, and after it
  before_is : b.state ≡ state_of m
  unfolding gateway_from M.model_from
  before_is = h.state []

  after_is : (outcome_of call b).state ≡ state_of (M.step call m).model
  unfolding gateway_from M.model_from gateway_step
  after_is = h.state (call ∷ [])

agrees_calls : (calls : List M.Call) (b : Gateway) (m : M.Model) → Agrees b m → every carries_octets calls ≡ true → Agrees (gateway_from b calls) (M.model_from m calls)
unfolding gateway_from M.model_from every
agrees_calls [] b m h e = h
agrees_calls (call ∷ calls) b m h e =
    agrees_calls calls (gateway_step call b) (M.step call m).model (agrees_next b m h call (and_left (carries_octets call) (every carries_octets calls) e))
    (and_right (carries_octets call) (every carries_octets calls) e)

-- ---- as text

-- a buffer that the two messages were laid over
first_shown : (buffer : List ℕ) (said : M.Said) → take (shown_in buffer said).first (shown_in buffer said).buffer ≡ said.first
unfolding shown_in over
first_shown buffer said =
    rw (
      append_assoc said.first said.second (drop (length (said.first ++ said.second)) buffer),
      take-append_seam said.first (said.second ++ drop (length (said.first ++ said.second)) buffer),
    )

second_shown : (buffer : List ℕ) (said : M.Said)
    → take (shown_in buffer said).second (drop (shown_in buffer said).first (shown_in buffer said).buffer) ≡ said.second
unfolding shown_in over
second_shown buffer said =
    rw (
      append_assoc said.first said.second (drop (length (said.first ++ said.second)) buffer),
      drop-append_seam said.first (said.second ++ drop (length (said.first ++ said.second)) buffer),
      take-append_seam said.second (drop (length (said.first ++ said.second)) buffer),
    )

-- what happened by the call's own definitions is what happened as the model says
same_happening : (b : Gateway) (m : M.Model) → Agrees b m → (call : M.Call) → carries_octets call ≡ true → happened_by call b ≡ happened call m
unfolding happened_by happened_in happened seen_of shown_in
same_happening b m h call o =
    let said = (M.step call m).said in
    let now = agrees_now b m h call o in
    λ i. record {
      deed = deed_of call;
      address = addressed_to call;
      received = message_in call;
      before = before_is b m h call o i;
      after = after_is b m h call o i;
      answer = (now i).answer;
      first = (ap (λ (s : Seen). take s.first s.buffer) now ∙ first_shown (buffer_of call) said) i;
      second = (ap (λ (s : Seen). take s.second (drop s.first s.buffer)) now ∙ second_shown (buffer_of call) said) i;
    }

calls_text : (traced : Bool) (number passed : ℕ) (calls : List M.Call) (b : Gateway) (m : M.Model) → Agrees b m → every carries_octets calls ≡ true
    → join (map C.told_text (C.calls_told traced number passed b calls)) ≡ join (map told_text (calls_told traced number passed m calls))
unfolding C.told_text C.calls_told told_text calls_told join every
calls_text traced number passed [] b m h e = refl
calls_text traced number passed (call ∷ calls) b m h e =
    let o = and_left (carries_octets call) (every carries_octets calls) e in
    let t = telling traced number passed calls in
    ap (λ (x : Happened). tell_text t x ++ join (map C.told_text (C.calls_told traced number (passed_after t x) (gateway_step call b) calls))) (same_happening b m h call o)
    ∙ ap (λ (l : List ℕ). tell_text t (happened call m) ++ l)
    (calls_text traced number (passed_after t (happened call m)) calls (gateway_step call b) (M.step call m).model (agrees_next b m h call o)
    (and_right (carries_octets call) (every carries_octets calls) e))

event_text_lem : (traced : Bool) (number : ℕ) (b : Gateway) (m : M.Model) → Agrees b m → (e : Event) → every carries_octets (calls_of e) ≡ true
    → join (map C.told_text (C.event_told traced number b e)) ≡ join (map told_text (event_told traced number m e))
unfolding C.event_told C.told_text event_told told_text join
event_text_lem traced number b m h bad o = refl
event_text_lem traced number b m h (add a asn) o = calls_text traced number 0 (calls_of (add a asn)) b m h o
event_text_lem traced number b m h (remove a) o = calls_text traced number 0 (calls_of (remove a)) b m h o
event_text_lem traced number b m h (start a) o = calls_text traced number 0 (calls_of (start a)) b m h o
event_text_lem traced number b m h (stop a) o = calls_text traced number 0 (calls_of (stop a)) b m h o
event_text_lem traced number b m h (tick a count) o = calls_text traced number 0 (calls_of (tick a count)) b m h o
event_text_lem traced number b m h (rx a octets) o = calls_text traced number 0 (calls_of (rx a octets)) b m h o

-- the code counts these lines as they are
counted : (lines : ℕ) → lines < 18446744073709551615 → one_more lines ≡ suc lines
unfolding one_more
counted lines k = rw (lt-ltb lines 18446744073709551615 k)

events_text_lem : (traced : Bool) (l : List RecordedLine) (lines : ℕ) (b : Gateway) (m : M.Model) → Agrees b m → lines + length l ≤ 18446744073709551615
    → C.events_text traced lines b l ≡ events_text traced lines m l
unfolding C.events_text events_text C.told_from told_from
events_text_lem traced [] lines b m h k = refl
events_text_lem traced (line ∷ l) lines b m h k =
    let e = event_in line in
    let b' = gateway_from b (calls_of e) in
    let m' = M.model_from m (calls_of e) in
    rw (counted lines (omega (arith, k)))
    (join_append C.told_text (C.event_told traced (suc lines) b e) (C.told_from traced (suc lines) b' l)
    ∙ ap (λ (t : List ℕ). t ++ join (map C.told_text (C.told_from traced (suc lines) b' l))) (event_text_lem traced (suc lines) b m h e (in_octets line))
    ∙ ap (λ (t : List ℕ). join (map told_text (event_told traced (suc lines) m e)) ++ t)
    (events_text_lem traced l (suc lines) b' m' (agrees_calls (calls_of e) b m h (in_octets line)) (omega (arith, k)))
    ∙ sym (join_append told_text (event_told traced (suc lines) m e) (told_from traced (suc lines) m' l)))

-- the listing, in a buffer of the least size
listing_said_lem : (m : M.Model) → (M.step (M.listing (zeros 65536)) m).said ≡ M.listing_said m
unfolding M.step M.listing_turn M.listing_answer if_ok check zeros
listing_said_lem m = refl

listing_text_lem : (b : Gateway) (m : M.Model) → Agrees b m → C.listed b ≡ listing_text (M.listed m)
unfolding C.listed listed_in shown_in buffer_of carries_octets M.listing_said over
listing_text_lem b m h =
    ap (λ (s : Seen). take s.first s.buffer) (agrees_now b m h (M.listing (zeros 65536)) refl ∙ ap (shown_in (zeros 65536)) (listing_said_lem m))
    ∙ rw (append_assoc (listing_text (M.listed m)) [] (drop (length (listing_text (M.listed m) ++ [])) (zeros 65536)), take-append_seam (listing_text (M.listed m)) (drop (length (listing_text (M.listed m) ++ [])) (zeros 65536)))

-- ---- the first four lines

-- where they are good: fresh takes them, and so many lines are left
unfoldable pub Opens : ℕ → Opening → Type 0
Opens lines (broken number) = number ≡ number
Opens lines (opened g before events) = ((fresh_of g).answer ≡ 0) × (before + length events ≤ lines)

-- a fifth, or the first event
quiet_opens : (lines : ℕ) (g : Settings) (rest : List RecordedLine) → (fresh_of g).answer ≡ 0 → 4 + length rest ≤ lines → Opens lines (from_quiet g rest)
unfolding from_quiet Opens when_number value_in
quiet_opens lines g [] e k = (e, k)
quiet_opens lines g (unended line ∷ events) e k = (e, k)
quiet_opens lines g (ended line ∷ events) e k = go (quiet_of line) (λ n q. settings.quiet.range n line q)
  where
    go : (value : Option ℕ) → ((n : ℕ) → value ≡ Some n → n ≤ 1)
        → Opens lines (when_number value (opened g 4 (ended line ∷ events)) (λ quiet. opened (with_quiet g quiet) 5 events))
    go None small = (e, k)
    go (Some n) small = (quiet_taken g n e (small n refl), omega (arith, k))

taken_opens : (lines : ℕ) (g : Settings) (rest : List RecordedLine) → 4 + length rest ≤ lines → Opens lines (taken_by g rest)
unfolding taken_by Opens
taken_opens lines g rest k =
    cond_elim (λ (o : Opening). Opens lines o) (eqb (fresh_of g).answer 0) (from_quiet g rest) (broken 4)
    (λ e. quiet_opens lines g rest (eqb-true (fresh_of g).answer 0 e) k) (λ e. refl)

-- a value, or the end
value_opens : (lines number : ℕ) (value : Option ℕ) (next : ℕ → Opening) → ((n : ℕ) → Opens lines (next n)) → Opens lines (when_number value (broken number) next)
unfolding when_number Opens
value_opens lines number None next h = refl
value_opens lines number (Some n) next h = h n

net_opens : (lines asn own capability : ℕ) (l : List RecordedLine) → 3 + length l ≤ lines → Opens lines (from_net asn own capability l)
unfolding from_net Opens
net_opens lines asn own capability [] k = refl
net_opens lines asn own capability (line ∷ l) k =
    value_opens lines 4 (value_in net_of line) _ (λ net. taken_opens lines (record { asn = asn; own = own; capability = capability; net = net; quiet = 0 }) l (omega (arith, k)))

capability_opens : (lines asn own : ℕ) (l : List RecordedLine) → 2 + length l ≤ lines → Opens lines (from_capability asn own l)
unfolding from_capability Opens
capability_opens lines asn own [] k = refl
capability_opens lines asn own (line ∷ l) k = value_opens lines 3 (value_in capability_of line) _ (λ capability. net_opens lines asn own capability l (omega (arith, k)))

own_opens : (lines asn : ℕ) (l : List RecordedLine) → 1 + length l ≤ lines → Opens lines (from_own asn l)
unfolding from_own Opens
own_opens lines asn [] k = refl
own_opens lines asn (line ∷ l) k = value_opens lines 2 (value_in own_of line) _ (λ own. capability_opens lines asn own l (omega (arith, k)))

opening_opens : (l : List RecordedLine) → Opens (length l) (opening_of l)
unfolding opening_of Opens
opening_opens [] = refl
opening_opens (line ∷ l) = value_opens (suc (length l)) 1 (value_in own_as_of line) _ (λ asn. own_opens (suc (length l)) asn l (omega arith))

-- ---- every line has an octet of its own

lines_few : (begun rest : List ℕ) → length (lines_from begun rest) ≤ length begun + length rest
unfolding lines_from
lines_few begun [] =
    cond_elim (λ (l : List RecordedLine). length l ≤ length begun + 0) (eqb (length begun) 0) [] (unended begun ∷ []) (λ e. omega arith)
    (λ e. let n : (length begun ≡ 0) → ⊥ = eqb-false (length begun) 0 e in omega (arith, n))
lines_few begun (octet ∷ rest) =
    cond_elim (λ (l : List RecordedLine). length l ≤ length begun + suc (length rest)) (eqb octet 10) (ended begun ∷ lines_from [] rest) (lines_from (begun ++ (octet ∷ [])) rest)
    (λ e. omega (arith, lines_few [] rest)) (λ e. omega (arith, lines_few (begun ++ (octet ∷ [])) rest, length-append begun (octet ∷ [])))

-- ---- the whole

opening_text_lem : (traced : Bool) (lines : ℕ) (o : Opening) → Opens lines o → lines ≤ 18446744073709551615 → C.opening_text traced o ≡ opening_text traced o
unfolding C.opening_text opening_text Opens run begun M.model seen_by
opening_text_lem traced lines (broken number) h k = refl
opening_text_lem traced lines (opened g before events) h k =
    let agrees : Agrees (begun g) (M.empty g) = record { seen = λ calls o. (list_of_calls g h.0 calls).seen o; state = λ calls. (list_of_calls g h.0 calls).state } in
    ap (λ (t : List ℕ). t ++ C.listed (run g (good_calls events))) (events_text_lem traced events before (begun g) (M.empty g) agrees (omega (arith, h.1, k)))
    ∙ ap (λ (t : List ℕ). events_text traced before (M.empty g) events ++ t)
    (listing_text_lem (run g (good_calls events)) (M.model g (good_calls events)) (agrees_calls (good_calls events) (begun g) (M.empty g) agrees (from_octets events)))

pub recording_text : (traced : Bool) (recording : List ℕ) → length recording < 18446744073709551616 → C.opening_text traced (opening_of (lines_of recording)) ≡ opening_text traced (opening_of (lines_of recording))
unfolding lines_of
recording_text traced recording k =
    opening_text_lem traced (length (lines_from [] recording)) (opening_of (lines_from [] recording)) (opening_opens (lines_from [] recording)) (omega (arith, k, lines_few [] recording))

-- fresh took the settings of a recording that is played
pub fresh_took : (recording : List ℕ) (g : Settings) (lines : ℕ) (events : List RecordedLine) → opening_of (lines_of recording) ≡ opened g lines events
    → (fresh_of g).answer ≡ 0
unfolding Opens
fresh_took recording g lines events e = (rw e at (opening_opens (lines_of recording))).0
