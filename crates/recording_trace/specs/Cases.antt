-- Worked lines of a trace, and which ticks are quiet. The proofs are in proofs/Cases.antt.
use Rattle.std.specs.Prelude.{ℕ, Bool, true, false, ◌≡◌, List, [], ◌∷◌, ◌++◌, map}
use Rattle.text.specs.Text.{text}
use Rattle.neighbour.specs.declared.Phase.{Phase}
use Rattle.neighbour.specs.declared.Phase.TheVariants as P
use Rattle.neighbour.specs.declared.Mode.{Mode}
use Rattle.neighbour.specs.declared.Mode.TheVariants.{Active, Passive}
use Rattle.neighbour.specs.declared.Neighbour.{Neighbour}
use Rattle.gateway_state.specs.declared.Slot.{Slot}
use Rattle.gateway_state.specs.declared.State.{State}
use Rattle.gateway_state.specs.Slots.{free_slot}
use Rattle.recording_trace.specs.declared.Deed.{Deed}
use Rattle.recording_trace.specs.declared.Deed.TheVariants as D
use Rattle.recording_trace.specs.declared.Telling.{Telling}
use Rattle.recording_message.specs.Message.{message_text}
use Rattle.recording_trace.specs.Trace.{received_text, messages_text, deed_word, record_text, Happened, trace_text, is_quiet_tick, is_passed_over}

-- ---- neighbours

-- no two numbers of a line are alike but those that stay
unfoldable pub numbered : Phase → Mode → ℕ → ℕ → Neighbour
numbered phase mode register t1 =
    record {
      s = 1;
      r = 2;
      period1 = 32;
      period2 = 122;
      t1 = t1;
      t2 = 50;
      t3 = 100;
      phase = phase;
      mode = mode;
      register = register;
      heard = 3;
      cause = 4;
      sincehello = 11;
      sincepoll = 12;
    }

-- 128.9.0.5, so many seconds up and others in the other states
unfoldable pub slot_of_five : ℕ → Neighbour → ℕ → ℕ → Slot
slot_of_five asn n rows up =
    record {
      address = 2148073477;
      asn = asn;
      neighbour = n;
      rows = rows;
      seconds = record { idle = 1; acquisition = 2; down = 4; up = up; cease = 16 };
    }

unfoldable pub was_up : Slot
was_up = slot_of_five 18 (numbered P.Up Active 7 31) 5 8

unfoldable pub is_down : Slot
is_down = slot_of_five 17 (numbered P.Down Passive 14 30) 6 9

-- it stands in the second of the eight
unfoldable pub holding : Slot → State
holding slot =
    record {
      settings = record { asn = 9; own = 2148073473; capability = 0; net = 2148073472; quiet = 0 };
      slots = free_slot ∷ slot ∷ free_slot ∷ free_slot ∷ free_slot ∷ free_slot ∷ free_slot ∷ free_slot ∷ [];
    }

unfoldable pub called : Deed → ℕ → List ℕ → Slot → Slot → List ℕ → Happened
called deed a received found left first =
    record {
      deed = deed;
      address = a;
      received = received;
      before = holding found;
      after = holding left;
      answer = 13;
      first = first;
      second = [];
    }

unfoldable pub ticked : Slot → List ℕ → Happened
ticked left first = called D.Tick 2148073477 [] was_up left first

unfoldable pub telling : Bool → Telling
telling last = record { traced = true; line = 9; passed = 10; last = last }

pub record TraceCases : Type 0 where
  pub deeds :
      map deed_word (D.Add ∷ D.Remove ∷ D.Start ∷ D.Stop ∷ D.Tick ∷ D.Receive ∷ [])
      ≡ text "add" ∷ text "remove" ∷ text "start" ∷ text "stop" ∷ text "tick" ∷ text "rx" ∷ []
  -- the message received, then those sent; of a tick none is received
  pub both :
      (net : ℕ) → messages_text D.Receive net (1 ∷ []) (2 ∷ []) (3 ∷ [])
      ≡ message_text (text " received=") net (1 ∷ []) ++ (message_text (text " sent=") net (2 ∷ []) ++ message_text (text " sent=") net (3 ∷ []))
  pub empty : (net : ℕ) → received_text D.Receive net [] ≡ message_text (text " received=") net []
  pub none : (net : ℕ) → messages_text D.Tick net (1 ∷ []) [] [] ≡ []
  -- the record: what was found and left; the numbers of the slot that is left, or of the one that is there no more
  pub changed :
      record_text 10 was_up is_down
      ≡ text " before=up after=down mode=passive quiet=10 rowsbefore=5 rowsafter=6 registerbefore=7 registerafter=14 peer=17 S=1 R=2 T1=32 T2=122 t1=30 t2=50 t3=100 heard=3 cause=4 sincehello=11 sincepoll=12"
  pub removed :
      record_text 0 was_up free_slot
      ≡ text " before=up after=none mode=active quiet=0 rowsbefore=5 rowsafter=0 registerbefore=7 registerafter=0 peer=18 S=1 R=2 T1=32 T2=122 t1=31 t2=50 t3=100 heard=3 cause=4 sincehello=11 sincepoll=12"
  pub whole :
      trace_text (telling false) (ticked is_down [])
      ≡ text "line=9 neighbour=128.9.0.5 event=tick second=32 answer=13 before=up after=down mode=passive quiet=10 rowsbefore=5 rowsafter=6 registerbefore=7 registerafter=14 peer=17 S=1 R=2 T1=32 T2=122 t1=30 t2=50 t3=100 heard=3 cause=4 sincehello=11 sincepoll=12\n"
  pub nobody :
      trace_text (telling false) (called D.Remove 2148073478 [] was_up was_up [])
      ≡ text "line=9 neighbour=128.9.0.6 event=remove second=0 answer=13 before=none after=none mode=none quiet=10 rowsbefore=0 rowsafter=0 registerbefore=0 registerafter=0 peer=0 S=0 R=0 T1=0 T2=0 t1=0 t2=0 t3=0 heard=0 cause=0 sincehello=0 sincepoll=0\n"
  -- quiet ticks: only the timers moved
  pub quiet : is_quiet_tick (ticked (slot_of_five 18 (numbered P.Up Active 7 30) 5 9) []) ≡ true
  pub sent : is_quiet_tick (ticked was_up (1 ∷ [])) ≡ false
  pub state : is_quiet_tick (ticked (slot_of_five 18 (numbered P.Down Active 7 31) 5 9) []) ≡ false
  pub register : is_quiet_tick (ticked (slot_of_five 18 (numbered P.Up Active 14 31) 5 9) []) ≡ false
  pub rows : is_quiet_tick (ticked (slot_of_five 18 (numbered P.Up Active 7 31) 6 9) []) ≡ false
  pub unknown : is_quiet_tick (called D.Tick 2148073478 [] was_up is_down []) ≡ true
  -- which of them are passed over
  pub passed : is_passed_over (telling false) (ticked was_up []) ≡ true
  pub last : is_passed_over (telling true) (ticked was_up []) ≡ false
  pub loud : is_passed_over (telling false) (ticked was_up (1 ∷ [])) ≡ false
  pub another : is_passed_over (telling false) (called D.Stop 2148073477 [] was_up was_up []) ≡ false
