-- An example, so that no corollary's premise is one that nothing meets: neighbours that come Up, report 128 nets each,
-- fall silent, poll 65,535 times, are heard of by their Updates alone, say Hello every second, and call on when we gave
-- them up; one that is for seconds in each state, and is removed and added again; and two that no run comes to, one
-- with its t3 run out and one whose clock is full.
use Rattle.std.specs.Prelude.{ℕ, zero, suc, ◌+◌, ◌*◌, ◌%◌, ◌<◌, ◌≡◌, true, false, List, [], ◌∷◌, ◌++◌, map, leb, length, Ok}
use Rattle.nets.specs.Rows.{Row}
use Rattle.update_rows.specs.Storing.{zeros}
use Rattle.message.specs.declared.Message.{Message}
use Rattle.message.specs.declared.Message.TheVariants.{Request, Confirm, Refuse, Cease, CeaseAck, Hello, IHeardYou, Poll, Update, Error}
use Rattle.message_reading.specs.Reading.{decode_of}
use Rattle.codec_writing.specs.Octets.{message_octets}
use Rattle.neighbour.specs.declared.Mode.TheVariants.{Passive}
use Rattle.neighbour.specs.declared.Settings.{Settings}
use Rattle.neighbour.specs.Record.{acquired, with_timers}
use Rattle.neighbour.specs.Rules.{ones_of, goes_down}
use Rattle.neighbour.specs.declared.Phase.{Phase}
use Rattle.neighbour.specs.declared.Phase.TheVariants as Phases
use Rattle.neighbour_seconds.specs.Seconds.{clock_full}
use Rattle.neighbour_seconds.specs.Cases.{seconds}
use Rattle.model.specs.Model.{Call, add, remove, start, stop, tick, receive, peer_with, Slot, free, used, Model, slot_in, put, model}
use Rattle.model.specs.History.{accepts, last_accepted}
use Rattle.model.specs.Theorem.{Gateway, gateway_step, run, state_of, table_of, Sensible}
use Rattle.model.specs.Windows.{brings, restarts_none, windows, one_in_four, latest}
use Rattle.model.specs.Ticks.{ticks, changes_hands, keeps_hands, ticks_finding, ticks_since}
use Rattle.model.specs.Corollaries.{Taken, slot_on, is_up_on, Used, BothReport, Says, SaysRows, EnteredUp}
use Rattle.model.specs.Quick.{is_other_hello, hello_every_tick, HelloCarriedOut}
use Rattle.model.specs.Strays.{cease_seven, IdleSays}

-- AS 9 at 128.9.0.1 on 128.9.0.0, passive only
unfoldable pub some_settings : Settings
some_settings = record { asn = 9; own = 2148073473; capability = 2; net = 2148073472; quiet = 0 }

-- the same with `quiet` 1
unfoldable pub quiet_settings : Settings
quiet_settings = record { asn = 9; own = 2148073473; capability = 2; net = 2148073472; quiet = 1 }

-- a reply buffer
unfoldable pub lent_buffer : List ℕ
lent_buffer = zeros 2048

-- the class A nets from k on, that many, at distance 0 through 128.9.0.5
unfoldable pub class_a : ℕ → ℕ → List Row
class_a k zero = []
class_a k (suc n) = record { net = k * 16777216; gateway = 2148073477; third = 0 } ∷ class_a (suc k) n

-- n seconds
unfoldable pub tick_seconds : ℕ → ℕ → List Call
tick_seconds a zero = []
tick_seconds a (suc n) = tick a lent_buffer ∷ tick_seconds a n

-- a Hello with status 1: an indication in passive mode
unfoldable pub says_hello : ℕ → Call
says_hello a = receive a (message_octets (Hello 7 0 1) []) [] lent_buffer

-- added, acquired with both intervals 120, heard once, Up after T1, which is 122; then its Update
unfoldable pub reporting_calls : ℕ → List Call
reporting_calls a =
    add a 7
    ∷ receive a (message_octets (Request 7 0 0 120 120) []) [] lent_buffer
    ∷ says_hello a
    ∷ (tick_seconds a 122 ++ (receive a (message_octets (Update 7 1 1 2148073472) (class_a 0 128)) [] lent_buffer ∷ []))

-- eight of them, in slots 0 to 7
unfoldable pub eight : List Call
eight =
    reporting_calls 1
    ++ (reporting_calls 2 ++ (reporting_calls 3 ++ (reporting_calls 4 ++ (reporting_calls 5 ++ (reporting_calls 6 ++ (reporting_calls 7 ++ reporting_calls 8))))))

-- heard once and polled once, n times
unfoldable pub poll_rounds : ℕ → List Call
poll_rounds zero = []
poll_rounds (suc n) = (says_hello 1 ∷ tick_seconds 1 122) ++ poll_rounds n

-- S is 1 when Up is entered, so 65,535 after 65,534 polls more; then a second before the next
unfoldable pub last_number : List Call
last_number = reporting_calls 1 ++ (poll_rounds 65534 ++ (says_hello 1 ∷ tick_seconds 1 121))

-- added, acquired with T1 32, heard once; the next tick enters Up
unfoldable pub almost_up : List Call
almost_up = add 1 7 ∷ receive 1 (message_octets (Request 7 0 0 30 120) []) [] lent_buffer ∷ says_hello 1 ∷ tick_seconds 1 31

-- acquired with T1 32, and nothing else
unfoldable pub acquired_calls : List Call
acquired_calls = add 1 7 ∷ receive 1 (message_octets (Request 7 0 0 30 120) []) [] lent_buffer ∷ []

-- then a Hello and a Poll, both carried out
unfoldable pub greeted : List Call
greeted = acquired_calls ++ (says_hello 1 ∷ receive 1 (message_octets (Poll 7 0 1 2148073472) []) [] lent_buffer ∷ [])

-- then stopped, and stopped again before its Cease-ack: Idle, while it may think that it is still acquired
unfoldable pub abandoned : List Call
abandoned = greeted ++ (stop 1 lent_buffer ∷ stop 1 lent_buffer ∷ [])

-- n seconds, a Hello of status 1 after each
unfoldable pub hello_seconds : ℕ → ℕ → List Call
hello_seconds a zero = []
hello_seconds a (suc n) = tick a lent_buffer ∷ says_hello a ∷ hello_seconds a n

-- an Update of this status in the first window of 32 seconds, the next one in the fifth; our second Poll went out in
-- the fourth
unfoldable pub slow : ℕ → ℕ → List Call
slow first second =
    receive 1 (message_octets (Update 7 1 first 2148073472) (class_a 10 1)) [] lent_buffer
    ∷ (tick_seconds 1 128 ++ (receive 1 (message_octets (Update 7 2 second 2148073472) (class_a 11 1)) [] lent_buffer ∷ tick_seconds 1 32))

-- three seconds in Idle, five in Acquisition, 32 in Down, seven in Up, four in Cease, and two in Idle again
unfoldable pub through_all : List Call
through_all =
    tick_seconds 1 3
    ++ (start 1 lent_buffer
    ∷ (tick_seconds 1 5
    ++ (receive 1 (message_octets (Request 7 0 0 30 120) []) [] lent_buffer
    ∷ says_hello 1
    ∷ (tick_seconds 1 39 ++ (stop 1 lent_buffer ∷ (tick_seconds 1 4 ++ (stop 1 lent_buffer ∷ tick_seconds 1 2)))))))

-- a second in Idle, two in Acquisition and one in Idle; of these a tick with too short a buffer is none
unfoldable pub briefly : List Call
briefly = add 1 7 ∷ tick 1 lent_buffer ∷ tick 1 [] ∷ start 1 lent_buffer ∷ tick 1 lent_buffer ∷ tick 1 lent_buffer ∷ stop 1 lent_buffer ∷ tick 1 lent_buffer ∷ []

-- then removed, and added again for a second
unfoldable pub anew : List Call
anew = briefly ++ (remove 1 ∷ add 1 8 ∷ tick 1 lent_buffer ∷ [])

abbrev pub phases : List Phase
phases = Phases.Idle ∷ Phases.Acquisition ∷ Phases.Down ∷ Phases.Up ∷ Phases.Cease ∷ []

-- a slot's clock at its limit
unfoldable pub filled : Slot → Slot
filled free = free
filled (used p) = used (peer_with p p.neighbour p.rows (seconds 4294967290 1 1 1 2))

-- a neighbour that was added so long ago
unfoldable pub long_added : Model
long_added = put (model some_settings (add 1 7 ∷ [])) 0 (filled (slot_in (model some_settings (add 1 7 ∷ [])) 0))

unfoldable pub brimful : Gateway
brimful = record { state = state_of long_added; table = table_of long_added }

-- t3 of a slot's neighbour at its last second
unfoldable pub late : Slot → Slot
late free = free
late (used p) = used (peer_with p (with_timers p.neighbour p.neighbour.t1 p.neighbour.t2 1) p.rows p.seconds)

-- the first neighbour so, in Up: a run loses reachability long before, but a host may hand such a state over
unfoldable pub late_first : Model → Model
late_first m = put m 0 (late (slot_in m 0))

unfoldable pub overdue : Gateway
overdue = record { state = state_of (late_first (model some_settings eight)); table = table_of (late_first (model some_settings eight)) }

-- ---- the premises

-- eight neighbours of 128 rows; two that report 10.0.0.0; a Cease and a Request of the first, and its silence
pub record EightMet : Type 0 where
  pub taken : Taken some_settings
  pub full : (j : ℕ) → j < 8 → length (last_accepted some_settings j eight) ≡ 128
  pub both : BothReport (run some_settings eight) 0 1 167772160
  pub room : leb 2048 (length lent_buffer) ≡ true
  pub cease : Says (run some_settings eight) 0 (message_octets (Cease 7 0 0) []) [] lent_buffer (Cease 7 0 0)
  pub request : Says (run some_settings eight) 0 (message_octets (Request 7 0 0 120 120) []) [] lent_buffer (Request 7 0 0 120 120)
  pub still_both : BothReport (run some_settings (eight ++ tick_seconds 1 609)) 0 1 167772160
  pub time_left : clock_full (slot_on (run some_settings (eight ++ tick_seconds 1 609)) 0).seconds ≡ false
  pub silent : (slot_on (run some_settings (eight ++ tick_seconds 1 609)) 0).neighbour.t1 ≡ 1
  pub lost :
      goes_down (slot_on (run some_settings (eight ++ tick_seconds 1 609)) 0).neighbour.mode
      (ones_of (((slot_on (run some_settings (eight ++ tick_seconds 1 609)) 0).neighbour.register * 2 + (slot_on (run some_settings (eight ++ tick_seconds 1 609)) 0).neighbour.heard) % 16)) ≡ true

-- the one premise that no run meets: two neighbours report 10.0.0.0, and the first's t3 runs out at the next tick
pub record TimeOutMet : Type 0 where
  pub sensible : Sensible overdue
  pub both : BothReport overdue 0 1 167772160
  pub time_left : clock_full (slot_on overdue 0).seconds ≡ false
  pub due : (slot_on overdue 0).neighbour.t3 ≡ 1

-- an Update of 128 rows to one of eight that are Up
pub record FullMet : Type 0 where
  pub up : is_up_on (run some_settings eight) 0 ≡ true
  pub full : length (class_a 0 128) ≡ 128
  pub update :
      SaysRows (run some_settings eight) 0 (slot_on (run some_settings eight) 0).neighbour.s
      (message_octets (Update 7 1 1 2148073472) (class_a 0 128)) [] lent_buffer (class_a 0 128)

-- a run from fresh in which S is 65,535 and the next tick polls; and an Update with number 0
pub record LastNumberMet : Type 0 where
  pub time_left : clock_full (slot_on (run some_settings last_number) 0).seconds ≡ false
  pub number : (slot_on (run some_settings last_number) 0).neighbour.s ≡ 65535
  pub due : (slot_on (run some_settings last_number) 0).neighbour.t2 ≡ 1
  pub up : is_up_on (run some_settings last_number) 0 ≡ true
  pub still : is_up_on (gateway_step (tick (slot_on (run some_settings last_number) 0).address lent_buffer) (run some_settings last_number)) 0 ≡ true
  pub update : SaysRows (run some_settings last_number) 0 0 (message_octets (Update 7 0 1 2148073472) (class_a 10 1)) [] lent_buffer (class_a 10 1)

-- a passive neighbour that is heard of once in four windows, by its Updates of status 1 and 129; of status 2 they would
-- not keep it
pub record QuietMet : Type 0 where
  pub entered : EnteredUp some_settings almost_up (tick 1 lent_buffer) 0
  pub unrestarted : restarts_none (model some_settings (almost_up ++ (tick 1 lent_buffer ∷ []))) 0 (slow 1 129) ≡ true
  pub ended : windows (model some_settings (almost_up ++ (tick 1 lent_buffer ∷ []))) 0 false (slow 1 129) ≡ true ∷ false ∷ false ∷ false ∷ true ∷ []
  pub often : one_in_four (windows (model some_settings (almost_up ++ (tick 1 lent_buffer ∷ []))) 0 false (slow 1 129)) ≡ true
  pub last : latest (model some_settings (almost_up ++ (tick 1 lent_buffer ∷ []))) 0 [] (slow 1 129) ≡ class_a 11 1
  pub lost : is_up_on (run some_settings ((almost_up ++ (tick 1 lent_buffer ∷ [])) ++ slow 2 2)) 0 ≡ false

-- an Update of status 129 that a passive neighbour's slot accepts
pub record IndicationMet : Type 0 where
  pub taken :
      accepts (model some_settings (almost_up ++ (tick 1 lent_buffer ∷ []))) 0
      (receive 1 (message_octets (Update 7 1 129 2148073472) (class_a 10 1)) [] lent_buffer) ≡ true
  pub says : decode_of (message_octets (Update 7 1 129 2148073472) (class_a 10 1)) ≡ Ok (Update 7 1 129 2148073472)
  pub passive : (slot_on (run some_settings (almost_up ++ (tick 1 lent_buffer ∷ []))) 0).neighbour.mode ≡ Passive

-- a passive neighbour that says Hello every second through two windows
pub record EverySecondMet : Type 0 where
  pub first : HelloCarriedOut some_settings acquired_calls (says_hello 1) 0
  pub every : hello_every_tick (model some_settings (acquired_calls ++ (says_hello 1 ∷ []))) 0 false (hello_seconds 1 64) ≡ true
  pub ended : windows (model some_settings (acquired_calls ++ (says_hello 1 ∷ []))) 0 true (hello_seconds 1 64) ≡ true ∷ true ∷ []

-- one whose Hello has status 2
pub record UnheardMet : Type 0 where
  pub passive : (slot_on (run some_settings acquired_calls) 0).neighbour.mode ≡ Passive
  pub other : brings is_other_hello (model some_settings acquired_calls) 0 (receive 1 (message_octets (Hello 7 0 2) []) [] lent_buffer) ≡ true

-- a second Hello in the same second, and a second Poll
pub record TooQuickMet : Type 0 where
  pub reached : acquired (slot_on (run some_settings greeted) 0).neighbour.phase ≡ true
  pub hello : Says (run some_settings greeted) 0 (message_octets (Hello 7 0 1) []) [] lent_buffer (Hello 7 0 1)
  pub soon : (slot_on (run some_settings greeted) 0).neighbour.sincehello < 30
  pub poll : Says (run some_settings greeted) 0 (message_octets (Poll 7 0 1 2148073472) []) [] lent_buffer (Poll 7 0 1 2148073472)
  pub as_soon : (slot_on (run some_settings greeted) 0).neighbour.sincepoll < 120

-- that neighbour calls on
abbrev pub CallsOn : Settings → List ℕ → Message → Type 0
CallsOn g o m = IdleSays (run g abandoned) 0 o [] lent_buffer m

-- by each of the six kinds, the last time with an octet left over; by Cease-ack and Error too. The Cease in octets.
pub record StrayMet (g : Settings) (quiet : ℕ) : Type 0 where
  pub taken : Taken g
  pub setting : g.quiet ≡ quiet
  pub confirm : CallsOn g (message_octets (Confirm 7 4 0 30 120) []) (Confirm 7 4 0 30 120)
  pub refuse : CallsOn g (message_octets (Refuse 7 4 6) []) (Refuse 7 4 6)
  pub hello : CallsOn g (message_octets (Hello 7 4 1) []) (Hello 7 4 1)
  pub i_heard_you : CallsOn g (message_octets (IHeardYou 7 4 1) []) (IHeardYou 7 4 1)
  pub poll : CallsOn g (message_octets (Poll 7 4 1 2148073472) []) (Poll 7 4 1 2148073472)
  pub update : CallsOn g (message_octets (Update 7 4 1 2148073472) (class_a 10 1)) (Update 7 4 1 2148073472)
  pub bad_body : CallsOn g (message_octets (Update 7 4 1 2148073472) [] ++ (0 ∷ [])) (Update 7 4 1 2148073472)
  pub cease_ack : CallsOn g (message_octets (CeaseAck 7 4 0) []) (CeaseAck 7 4 0)
  pub error : CallsOn g (message_octets (Error 7 4 1 2 0 0 0) []) (Error 7 4 1 2 0 0 0)
  pub drawn : cease_seven g.asn ≡ 2 ∷ 3 ∷ 3 ∷ 7 ∷ 250 ∷ 236 ∷ 0 ∷ 9 ∷ 0 ∷ 0 ∷ []

-- seconds in each state, as many as were spent there; removed and added again, only those since; the history tells the
-- same
pub record SecondsMet : Type 0 where
  pub taken : changes_hands (model some_settings []) 0 (add 1 7) ≡ true
  pub kept : keeps_hands some_settings 0 (add 1 7 ∷ []) through_all ≡ true
  pub counts : (slot_on (run some_settings (add 1 7 ∷ through_all)) 0).seconds ≡ seconds 5 5 32 7 4
  pub ticked : ticks (model some_settings (add 1 7 ∷ [])) 0 (tick 1 lent_buffer) ≡ true
  pub shortened : ticks (model some_settings (add 1 7 ∷ [])) 0 (tick 1 []) ≡ false
  pub brief : (slot_on (run some_settings briefly) 0).seconds ≡ seconds 2 2 0 0 0
  pub told : map (λ (p : Phase). ticks_finding some_settings 0 p briefly) phases ≡ 2 ∷ 2 ∷ 0 ∷ 0 ∷ 0 ∷ []
  pub all : ticks_since some_settings 0 briefly ≡ 4
  pub again : (slot_on (run some_settings anew) 0).seconds ≡ seconds 1 0 0 0 0
  pub told_again : map (λ (p : Phase). ticks_finding some_settings 0 p anew) phases ≡ 1 ∷ 0 ∷ 0 ∷ 0 ∷ 0 ∷ []
  pub all_again : ticks_since some_settings 0 anew ≡ 1

-- no run of ours comes there: a clock at its limit, in a state that a host hands in
pub record FullClockMet : Type 0 where
  pub sensible : Sensible brimful
  pub known : Used brimful 0
  pub full : clock_full (slot_on brimful 0).seconds ≡ true
