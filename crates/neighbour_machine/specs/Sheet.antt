-- The machine sheet: 01's table of "One neighbour" and its tick, line by line, and the claim that each comes out.
-- The lines are written from 01 and RFC 904 in literal numbers, and name no rule: a rule that is wrong in its
-- definition and in the code alike fails here. So that it shows, the numbers of a record differ from each other and
-- from those that a rule writes: S 4, R 17, T1 40, T2 130, t1 19, t2 77, t3 50, register 10, 47 ticks since a
-- Hello, 83 since a Poll. A command received has number 21, a response S, or 21 in Idle; the intervals offered are 60
-- and 200. Every record, before and after, is well formed.
use Rattle.std.specs.Prelude.{ℕ, ◌≡◌, List, [], ◌∷◌, map}
use Prim.Native.String.{String}
use Rattle.message.specs.declared.Message.{Message}
use Rattle.message.specs.declared.Message.TheVariants as M
use Rattle.neighbour.specs.declared.Phase.{Phase}
use Rattle.neighbour.specs.declared.Phase.TheVariants.{Idle, Acquisition, Down, Up, Cease}
use Rattle.neighbour.specs.declared.Mode.{Mode}
use Rattle.neighbour.specs.declared.Mode.TheVariants.{Unset, Active, Passive}
use Rattle.neighbour.specs.declared.Settings.{Settings}
use Rattle.neighbour.specs.declared.Neighbour.{Neighbour}
use Rattle.neighbour_messages.specs.declared.Head.{Head}
use Rattle.neighbour_machine.specs.declared.Event.{Event}
use Rattle.neighbour_machine.specs.declared.Event.TheVariants.{Received, Start, Stop, Tick}
use Rattle.neighbour_machine.specs.declared.Reply.{Reply}
use Rattle.neighbour_machine.specs.declared.Reply.TheVariants.{Nothing, One, Two}
use Rattle.neighbour_machine.specs.declared.After.{After}
use Rattle.neighbour_machine.specs.Step.{step_of}

-- a neighbour's record: state, S, R, T1, T2, t1, t2, t3, M, register, heard, cause, ticks since a Hello and a Poll
unfoldable pub at : Phase → ℕ → ℕ → ℕ → ℕ → ℕ → ℕ → ℕ → Mode → ℕ → ℕ → ℕ → ℕ → ℕ → Neighbour
at phase s r period1 period2 t1 t2 t3 mode register heard cause sincehello sincepoll =
    record {
      s = s;
      r = r;
      period1 = period1;
      period2 = period2;
      t1 = t1;
      t2 = t2;
      t3 = t3;
      phase = phase;
      mode = mode;
      register = register;
      heard = heard;
      cause = cause;
      sincehello = sincehello;
      sincepoll = sincepoll;
    }

-- a line: its label, our settings, the neighbour's AS, its record, the event; the record after it, and the reply
pub data Line : Type 0 where
  line : String → Settings → ℕ → Neighbour → Event → Neighbour → Reply → Line

-- 128.9.0.0, the common net; 128.9.0.1, our address; 10.0.0.0, another net
abbrev pub common : ℕ
common = 2148073472

abbrev pub ours : ℕ
ours = 2148073473

abbrev pub ten_net : ℕ
ten_net = 167772160

-- our settings with capability 0, 1 and 2; our AS is 9
unfoldable pub g0 : Settings
g0 = record { asn = 9; own = ours; capability = 0; net = common; quiet = 0 }

unfoldable pub g1 : Settings
g1 = record { asn = 9; own = ours; capability = 1; net = common; quiet = 0 }

unfoldable pub g2 : Settings
g2 = record { asn = 9; own = ours; capability = 2; net = common; quiet = 0 }

-- the second again, and Idle leaves stray messages unanswered
unfoldable pub q1 : Settings
q1 = record { asn = 9; own = ours; capability = 1; net = common; quiet = 1 }

-- the first twelve octets of whatever is received, as three words
unfoldable pub words : Head
words = record { first = 101; second = 202; third = 303 }

-- what the machine makes of a line
unfoldable pub computed : Line → After
computed (line label g asn n event after reply) = step_of g asn n event words

-- what the line says
unfoldable pub written : Line → After
written (line label g asn n event after reply) = record { neighbour = after; reply = reply }

-- T1 and T2 by a Request in Idle and by a Confirm in Acquisition: hello and poll interval; T1, T2
unfoldable pub by_request : String → ℕ → ℕ → ℕ → ℕ → Line
by_request label hello poll T1 T2 =
    line label g2 7 (at Idle 0 0 0 0 0 0 0 Unset 0 0 0 0 0) (Received (M.Request 7 21 0 hello poll))
    (at Down 0 21 T1 T2 T1 0 120 Passive 0 0 0 120 120) (One (M.Confirm 9 21 2 30 120))

unfoldable pub by_confirm : String → ℕ → ℕ → ℕ → ℕ → Line
by_confirm label hello poll T1 T2 =
    line label g2 7 (at Acquisition 4 17 0 0 19 0 50 Unset 0 0 0 47 83) (Received (M.Confirm 7 4 0 hello poll))
    (at Down 4 17 T1 T2 T1 0 120 Passive 0 0 0 120 120) Nothing

-- M by a Request in Idle and by a Confirm in Acquisition: our settings, the neighbour's AS, their status; M, the reply
unfoldable pub mode_by_request : String → Settings → ℕ → ℕ → Mode → Reply → Line
mode_by_request label g asn status mode reply =
    line label g asn (at Idle 0 0 0 0 0 0 0 Unset 0 0 0 0 0) (Received (M.Request asn 21 status 60 200))
    (at Down 0 21 62 202 62 0 120 mode 0 0 0 120 120) reply

unfoldable pub mode_by_confirm : String → Settings → ℕ → ℕ → Mode → Reply → Line
mode_by_confirm label g asn status mode reply =
    line label g asn (at Acquisition 4 17 0 0 19 0 50 Unset 0 0 0 47 83) (Received (M.Confirm asn 4 status 60 200))
    (at Down 4 17 62 202 62 0 120 mode 0 0 0 120 120) reply

-- a message in Down or Up that leaves all but R, t3, heard and the counts: state, t2, M, the message; R, t3, heard,
-- ticks since a Hello and a Poll, the reply
unfoldable pub hears : String → Phase → ℕ → Mode → Message → ℕ → ℕ → ℕ → ℕ → ℕ → Reply → Line
hears label phase t2 mode m r t3 heard sincehello sincepoll reply =
    line label g0 7 (at phase 4 17 40 130 19 t2 50 mode 10 0 0 47 83) (Received m) (at phase 4 r 40 130 19 t2 t3 mode 10 heard 0 sincehello sincepoll) reply

-- a tick that ends a hello interval, by M and by where it goes: register and heard; the register after it
unfoldable pub stays_down_active : ℕ → ℕ → ℕ → Line
stays_down_active register heard after =
    line "tick, t1 at 1, active: Down stays" g0 7 (at Down 4 17 40 130 1 0 50 Active register heard 0 47 83) Tick
    (at Down 4 17 40 130 40 0 49 Active after 0 0 48 84) (One (M.Hello 9 4 2))

unfoldable pub rises_active : ℕ → ℕ → ℕ → Line
rises_active register heard after =
    line "tick, t1 at 1, active: Down goes Up" g0 7 (at Down 4 17 40 130 1 0 50 Active register heard 0 47 83) Tick
    (at Up 5 17 40 130 40 130 49 Active after 0 0 48 84) (Two (M.Hello 9 4 1) (M.Poll 9 5 1 common))

unfoldable pub stays_down_passive : ℕ → ℕ → ℕ → Line
stays_down_passive register heard after =
    line "tick, t1 at 1, passive: Down stays" g0 7 (at Down 4 17 40 130 1 0 50 Passive register heard 0 47 83) Tick
    (at Down 4 17 40 130 40 0 49 Passive after 0 0 48 84) Nothing

unfoldable pub rises_passive : ℕ → ℕ → ℕ → Line
rises_passive register heard after =
    line "tick, t1 at 1, passive: Down goes Up" g0 7 (at Down 4 17 40 130 1 0 50 Passive register heard 0 47 83) Tick
    (at Up 5 17 40 130 40 130 49 Passive after 0 0 48 84) (One (M.Poll 9 5 1 common))

unfoldable pub stays_up_active : ℕ → ℕ → ℕ → Line
stays_up_active register heard after =
    line "tick, t1 at 1, active: Up stays" g0 7 (at Up 4 17 40 130 1 77 50 Active register heard 0 47 83) Tick
    (at Up 4 17 40 130 40 76 49 Active after 0 0 48 84) (One (M.Hello 9 4 1))

unfoldable pub falls_active : ℕ → ℕ → ℕ → Line
falls_active register heard after =
    line "tick, t1 at 1, active: Up goes Down" g0 7 (at Up 4 17 40 130 1 77 50 Active register heard 0 47 83) Tick
    (at Down 4 17 40 130 40 0 49 Active after 0 0 48 84) (One (M.Hello 9 4 2))

unfoldable pub stays_up_passive : ℕ → ℕ → ℕ → Line
stays_up_passive register heard after =
    line "tick, t1 at 1, passive: Up stays" g0 7 (at Up 4 17 40 130 1 77 50 Passive register heard 0 47 83) Tick
    (at Up 4 17 40 130 40 76 49 Passive after 0 0 48 84) Nothing

unfoldable pub falls_passive : ℕ → ℕ → ℕ → Line
falls_passive register heard after =
    line "tick, t1 at 1, passive: Up goes Down" g0 7 (at Up 4 17 40 130 1 77 50 Passive register heard 0 47 83) Tick
    (at Down 4 17 40 130 40 0 49 Passive after 0 0 48 84) Nothing

-- 01: | Request, acceptable | Down, A | Down, A | Down, A | Down, A | send Cease |
-- "A: send Confirm. A and B: T1, T2, M set, register and heard 0, t1 = T1, t3 = P5, then Hello if active." "Leaving
-- Idle sets S to 0, and R .. to the Request's number." "Outside Idle every command that passes its checks sets R
-- first." "Leaving Up zeroes t2"
unfoldable pub acceptable_row : List Line
acceptable_row =
    line "Request, acceptable: Idle, active" g1 7 (at Idle 0 0 0 0 0 0 0 Unset 0 0 0 0 0) (Received (M.Request 7 21 0 60 200))
    (at Down 0 21 62 202 62 0 120 Active 0 0 0 120 120) (Two (M.Confirm 9 21 1 30 120) (M.Hello 9 0 2)) ∷
    line "Request, acceptable: Idle, passive" g2 7 (at Idle 0 0 0 0 0 0 0 Unset 0 0 0 0 0) (Received (M.Request 7 21 1 60 200))
    (at Down 0 21 62 202 62 0 120 Passive 0 0 0 120 120) (One (M.Confirm 9 21 2 30 120)) ∷
    line "Request, acceptable: Acquisition, active" g1 7 (at Acquisition 4 17 0 0 19 0 50 Unset 0 0 0 47 83) (Received (M.Request 7 21 0 60 200))
    (at Down 4 21 62 202 62 0 120 Active 0 0 0 120 120) (Two (M.Confirm 9 21 1 30 120) (M.Hello 9 4 2)) ∷
    line "Request, acceptable: Acquisition, passive" g2 7 (at Acquisition 4 17 0 0 19 0 50 Unset 0 0 0 47 83) (Received (M.Request 7 21 1 60 200))
    (at Down 4 21 62 202 62 0 120 Passive 0 0 0 120 120) (One (M.Confirm 9 21 2 30 120)) ∷
    line "Request, acceptable: Down, active" g1 7 (at Down 4 17 40 130 19 0 50 Passive 10 1 0 47 83) (Received (M.Request 7 21 0 60 200))
    (at Down 4 21 62 202 62 0 120 Active 0 0 0 120 120) (Two (M.Confirm 9 21 1 30 120) (M.Hello 9 4 2)) ∷
    line "Request, acceptable: Down, passive" g2 7 (at Down 4 17 40 130 19 0 50 Active 10 1 0 47 83) (Received (M.Request 7 21 1 60 200))
    (at Down 4 21 62 202 62 0 120 Passive 0 0 0 120 120) (One (M.Confirm 9 21 2 30 120)) ∷
    line "Request, acceptable: Up, active" g1 7 (at Up 4 17 40 130 19 77 50 Passive 10 1 0 47 83) (Received (M.Request 7 21 0 60 200))
    (at Down 4 21 62 202 62 0 120 Active 0 0 0 120 120) (Two (M.Confirm 9 21 1 30 120) (M.Hello 9 4 2)) ∷
    line "Request, acceptable: Up, passive" g2 7 (at Up 4 17 40 130 19 77 50 Active 10 1 0 47 83) (Received (M.Request 7 21 1 60 200))
    (at Down 4 21 62 202 62 0 120 Passive 0 0 0 120 120) (One (M.Confirm 9 21 2 30 120)) ∷
    line "Request, acceptable: Cease, cause 6" g1 7 (at Cease 4 17 0 0 19 0 50 Unset 0 0 6 47 83) (Received (M.Request 7 21 0 60 200))
    (at Cease 4 21 0 0 19 0 50 Unset 0 0 6 47 83) (One (M.Cease 9 4 6)) ∷
    line "Request, acceptable: Cease, cause 5" g2 7 (at Cease 4 17 0 0 19 0 50 Unset 0 0 5 47 83) (Received (M.Request 7 21 1 60 200))
    (at Cease 4 21 0 0 19 0 50 Unset 0 0 5 47 83) (One (M.Cease 9 4 5)) ∷
    []

-- 01: | Request, unacceptable | send Refuse 6 | Idle | Cease 6 | Cease 6 | send Cease |
-- "Unacceptable: hello above 120, poll above 480, or both ends passive only." "Cease n: enter Cease, send it with
-- status n, keep n as cause for repeats." "Entering Acquisition or Cease ..: t1 = P3, t3 = P5, and T1, T2, M, register
-- and heard 0; S and R stay."
unfoldable pub unacceptable_row : List Line
unacceptable_row =
    line "Request, unacceptable: Idle" g1 7 (at Idle 0 0 0 0 0 0 0 Unset 0 0 0 0 0) (Received (M.Request 7 21 0 121 200))
    (at Idle 0 0 0 0 0 0 0 Unset 0 0 0 0 0) (One (M.Refuse 9 21 6)) ∷
    line "Request, unacceptable: Acquisition" g1 7 (at Acquisition 4 17 0 0 19 0 50 Unset 0 0 0 47 83) (Received (M.Request 7 21 0 121 200))
    (at Idle 0 0 0 0 0 0 0 Unset 0 0 0 0 0) Nothing ∷
    line "Request, unacceptable: Down, active" g1 7 (at Down 4 17 40 130 19 0 50 Active 10 1 0 47 83) (Received (M.Request 7 21 0 121 200))
    (at Cease 4 21 0 0 30 0 120 Unset 0 0 6 47 83) (One (M.Cease 9 4 6)) ∷
    line "Request, unacceptable: Down, passive" g1 7 (at Down 4 17 40 130 19 0 50 Passive 10 1 0 47 83) (Received (M.Request 7 21 0 121 200))
    (at Cease 4 21 0 0 30 0 120 Unset 0 0 6 47 83) (One (M.Cease 9 4 6)) ∷
    line "Request, unacceptable: Up, active" g1 7 (at Up 4 17 40 130 19 77 50 Active 10 1 0 47 83) (Received (M.Request 7 21 0 121 200))
    (at Cease 4 21 0 0 30 0 120 Unset 0 0 6 47 83) (One (M.Cease 9 4 6)) ∷
    line "Request, unacceptable: Up, passive" g1 7 (at Up 4 17 40 130 19 77 50 Passive 10 1 0 47 83) (Received (M.Request 7 21 0 121 200))
    (at Cease 4 21 0 0 30 0 120 Unset 0 0 6 47 83) (One (M.Cease 9 4 6)) ∷
    line "Request, unacceptable: Cease, cause 5" g1 7 (at Cease 4 17 0 0 19 0 50 Unset 0 0 5 47 83) (Received (M.Request 7 21 0 121 200))
    (at Cease 4 21 0 0 19 0 50 Unset 0 0 5 47 83) (One (M.Cease 9 4 5)) ∷
    line "Request, unacceptable: Cease, cause 6" g1 7 (at Cease 4 17 0 0 19 0 50 Unset 0 0 6 47 83) (Received (M.Request 7 21 0 121 200))
    (at Cease 4 21 0 0 19 0 50 Unset 0 0 6 47 83) (One (M.Cease 9 4 6)) ∷
    []

-- 01, and 02 for Idle: | Confirm | stray | Down, B, or Idle if unacceptable | - | - | - |
-- In active mode it is an indication in Down and Up, whatever it offers; outside them it is none.
unfoldable pub confirm_row : List Line
confirm_row =
    line "Confirm, acceptable: Idle" g1 7 (at Idle 0 0 0 0 0 0 0 Unset 0 0 0 0 0) (Received (M.Confirm 7 21 1 60 200))
    (at Idle 0 0 0 0 0 0 0 Unset 0 0 0 0 0) (One (M.Cease 9 0 7)) ∷
    line "Confirm, unacceptable: Idle" g1 7 (at Idle 0 0 0 0 0 0 0 Unset 0 0 0 0 0) (Received (M.Confirm 7 21 1 121 200))
    (at Idle 0 0 0 0 0 0 0 Unset 0 0 0 0 0) (One (M.Cease 9 0 7)) ∷
    line "Confirm, acceptable: Acquisition, active" g1 7 (at Acquisition 4 17 0 0 19 0 50 Unset 0 0 0 47 83) (Received (M.Confirm 7 4 0 60 200))
    (at Down 4 17 62 202 62 0 120 Active 0 0 0 120 120) (One (M.Hello 9 4 2)) ∷
    line "Confirm, acceptable: Acquisition, passive" g2 7 (at Acquisition 4 17 0 0 19 0 50 Unset 0 0 0 47 83) (Received (M.Confirm 7 4 1 60 200))
    (at Down 4 17 62 202 62 0 120 Passive 0 0 0 120 120) Nothing ∷
    line "Confirm, unacceptable: Acquisition" g1 7 (at Acquisition 4 17 0 0 19 0 50 Unset 0 0 0 47 83) (Received (M.Confirm 7 4 0 121 200))
    (at Idle 0 0 0 0 0 0 0 Unset 0 0 0 0 0) Nothing ∷
    line "Confirm, acceptable: Down, active" g1 7 (at Down 4 17 40 130 19 0 50 Active 10 0 0 47 83) (Received (M.Confirm 7 4 0 60 200))
    (at Down 4 17 40 130 19 0 3600 Active 10 1 0 47 83) Nothing ∷
    line "Confirm, acceptable: Down, passive" g1 7 (at Down 4 17 40 130 19 0 50 Passive 10 0 0 47 83) (Received (M.Confirm 7 4 0 60 200))
    (at Down 4 17 40 130 19 0 50 Passive 10 0 0 47 83) Nothing ∷
    line "Confirm, unacceptable: Down, active" g1 7 (at Down 4 17 40 130 19 0 50 Active 10 0 0 47 83) (Received (M.Confirm 7 4 0 500 200))
    (at Down 4 17 40 130 19 0 3600 Active 10 1 0 47 83) Nothing ∷
    line "Confirm, unacceptable: Down, passive" g1 7 (at Down 4 17 40 130 19 0 50 Passive 10 0 0 47 83) (Received (M.Confirm 7 4 0 500 200))
    (at Down 4 17 40 130 19 0 50 Passive 10 0 0 47 83) Nothing ∷
    line "Confirm, acceptable: Up, active" g1 7 (at Up 4 17 40 130 19 77 50 Active 10 0 0 47 83) (Received (M.Confirm 7 4 0 60 200))
    (at Up 4 17 40 130 19 77 3600 Active 10 1 0 47 83) Nothing ∷
    line "Confirm, acceptable: Up, passive" g1 7 (at Up 4 17 40 130 19 77 50 Passive 10 0 0 47 83) (Received (M.Confirm 7 4 0 60 200))
    (at Up 4 17 40 130 19 77 50 Passive 10 0 0 47 83) Nothing ∷
    line "Confirm, unacceptable: Up, active" g1 7 (at Up 4 17 40 130 19 77 50 Active 10 0 0 47 83) (Received (M.Confirm 7 4 0 500 200))
    (at Up 4 17 40 130 19 77 3600 Active 10 1 0 47 83) Nothing ∷
    line "Confirm, unacceptable: Up, passive" g1 7 (at Up 4 17 40 130 19 77 50 Passive 10 0 0 47 83) (Received (M.Confirm 7 4 0 500 200))
    (at Up 4 17 40 130 19 77 50 Passive 10 0 0 47 83) Nothing ∷
    line "Confirm: Cease, cause 5" g1 7 (at Cease 4 17 0 0 19 0 50 Unset 0 0 5 47 83) (Received (M.Confirm 7 4 1 60 200))
    (at Cease 4 17 0 0 19 0 50 Unset 0 0 5 47 83) Nothing ∷
    line "Confirm: Cease, cause 6" g1 7 (at Cease 4 17 0 0 19 0 50 Unset 0 0 6 47 83) (Received (M.Confirm 7 4 1 60 200))
    (at Cease 4 17 0 0 19 0 50 Unset 0 0 6 47 83) Nothing ∷
    []

-- 01, and 02 for Idle: | Refuse | stray | Idle | - | - | - |
unfoldable pub refuse_row : List Line
refuse_row =
    line "Refuse: Idle" g1 7 (at Idle 0 0 0 0 0 0 0 Unset 0 0 0 0 0) (Received (M.Refuse 7 21 6))
    (at Idle 0 0 0 0 0 0 0 Unset 0 0 0 0 0) (One (M.Cease 9 0 7)) ∷
    line "Refuse, status 0: Acquisition" g1 7 (at Acquisition 4 17 0 0 19 0 50 Unset 0 0 0 47 83) (Received (M.Refuse 7 4 0))
    (at Idle 0 0 0 0 0 0 0 Unset 0 0 0 0 0) Nothing ∷
    line "Refuse, status 3: Acquisition" g1 7 (at Acquisition 4 17 0 0 19 0 50 Unset 0 0 0 47 83) (Received (M.Refuse 7 4 3))
    (at Idle 0 0 0 0 0 0 0 Unset 0 0 0 0 0) Nothing ∷
    line "Refuse, status 4: Acquisition" g1 7 (at Acquisition 4 17 0 0 19 0 50 Unset 0 0 0 47 83) (Received (M.Refuse 7 4 4))
    (at Idle 0 0 0 0 0 0 0 Unset 0 0 0 0 0) Nothing ∷
    line "Refuse, status 5: Acquisition" g1 7 (at Acquisition 4 17 0 0 19 0 50 Unset 0 0 0 47 83) (Received (M.Refuse 7 4 5))
    (at Idle 0 0 0 0 0 0 0 Unset 0 0 0 0 0) Nothing ∷
    line "Refuse, status 6: Acquisition" g1 7 (at Acquisition 4 17 0 0 19 0 50 Unset 0 0 0 47 83) (Received (M.Refuse 7 4 6))
    (at Idle 0 0 0 0 0 0 0 Unset 0 0 0 0 0) Nothing ∷
    line "Refuse, status 7: Acquisition" g1 7 (at Acquisition 4 17 0 0 19 0 50 Unset 0 0 0 47 83) (Received (M.Refuse 7 4 7))
    (at Idle 0 0 0 0 0 0 0 Unset 0 0 0 0 0) Nothing ∷
    line "Refuse: Down, active" g1 7 (at Down 4 17 40 130 19 0 50 Active 10 1 0 47 83) (Received (M.Refuse 7 4 6))
    (at Down 4 17 40 130 19 0 50 Active 10 1 0 47 83) Nothing ∷
    line "Refuse: Down, passive" g1 7 (at Down 4 17 40 130 19 0 50 Passive 10 1 0 47 83) (Received (M.Refuse 7 4 6))
    (at Down 4 17 40 130 19 0 50 Passive 10 1 0 47 83) Nothing ∷
    line "Refuse: Up, active" g1 7 (at Up 4 17 40 130 19 77 50 Active 10 1 0 47 83) (Received (M.Refuse 7 4 6))
    (at Up 4 17 40 130 19 77 50 Active 10 1 0 47 83) Nothing ∷
    line "Refuse: Up, passive" g1 7 (at Up 4 17 40 130 19 77 50 Passive 10 1 0 47 83) (Received (M.Refuse 7 4 6))
    (at Up 4 17 40 130 19 77 50 Passive 10 1 0 47 83) Nothing ∷
    line "Refuse: Cease, cause 5" g1 7 (at Cease 4 17 0 0 19 0 50 Unset 0 0 5 47 83) (Received (M.Refuse 7 4 7))
    (at Cease 4 17 0 0 19 0 50 Unset 0 0 5 47 83) Nothing ∷
    line "Refuse: Cease, cause 6" g1 7 (at Cease 4 17 0 0 19 0 50 Unset 0 0 6 47 83) (Received (M.Refuse 7 4 7))
    (at Cease 4 17 0 0 19 0 50 Unset 0 0 6 47 83) Nothing ∷
    []

-- 01: | Cease | Idle, Cease-ack, in every state |
-- "Responses carry R; in Idle they carry the command's number." "0 on Cease-ack". "Entering Idle zeroes all but
-- address and AS."
unfoldable pub cease_row : List Line
cease_row =
    line "Cease: Idle" g1 7 (at Idle 0 0 0 0 0 0 0 Unset 0 0 0 0 0) (Received (M.Cease 7 21 0))
    (at Idle 0 0 0 0 0 0 0 Unset 0 0 0 0 0) (One (M.CeaseAck 9 21 0)) ∷
    line "Cease: Acquisition" g1 7 (at Acquisition 4 17 0 0 19 0 50 Unset 0 0 0 47 83) (Received (M.Cease 7 21 3))
    (at Idle 0 0 0 0 0 0 0 Unset 0 0 0 0 0) (One (M.CeaseAck 9 21 0)) ∷
    line "Cease: Down, active" g1 7 (at Down 4 17 40 130 19 0 50 Active 10 1 0 47 83) (Received (M.Cease 7 21 4))
    (at Idle 0 0 0 0 0 0 0 Unset 0 0 0 0 0) (One (M.CeaseAck 9 21 0)) ∷
    line "Cease: Down, passive" g1 7 (at Down 4 17 40 130 19 0 50 Passive 10 1 0 47 83) (Received (M.Cease 7 21 5))
    (at Idle 0 0 0 0 0 0 0 Unset 0 0 0 0 0) (One (M.CeaseAck 9 21 0)) ∷
    line "Cease: Up, active" g1 7 (at Up 4 17 40 130 19 77 50 Active 10 1 0 47 83) (Received (M.Cease 7 21 6))
    (at Idle 0 0 0 0 0 0 0 Unset 0 0 0 0 0) (One (M.CeaseAck 9 21 0)) ∷
    line "Cease: Up, passive" g1 7 (at Up 4 17 40 130 19 77 50 Passive 10 1 0 47 83) (Received (M.Cease 7 21 7))
    (at Idle 0 0 0 0 0 0 0 Unset 0 0 0 0 0) (One (M.CeaseAck 9 21 0)) ∷
    line "Cease: Cease, cause 5" g1 7 (at Cease 4 17 0 0 19 0 50 Unset 0 0 5 47 83) (Received (M.Cease 7 21 5))
    (at Idle 0 0 0 0 0 0 0 Unset 0 0 0 0 0) (One (M.CeaseAck 9 21 0)) ∷
    line "Cease: Cease, cause 6" g1 7 (at Cease 4 17 0 0 19 0 50 Unset 0 0 6 47 83) (Received (M.Cease 7 21 0))
    (at Idle 0 0 0 0 0 0 0 Unset 0 0 0 0 0) (One (M.CeaseAck 9 21 0)) ∷
    []

-- 01: | Cease-ack | - | - | - | - | Idle |
unfoldable pub cease_ack_row : List Line
cease_ack_row =
    line "Cease-ack: Idle" g1 7 (at Idle 0 0 0 0 0 0 0 Unset 0 0 0 0 0) (Received (M.CeaseAck 7 21 0))
    (at Idle 0 0 0 0 0 0 0 Unset 0 0 0 0 0) Nothing ∷
    line "Cease-ack: Acquisition" g1 7 (at Acquisition 4 17 0 0 19 0 50 Unset 0 0 0 47 83) (Received (M.CeaseAck 7 4 3))
    (at Acquisition 4 17 0 0 19 0 50 Unset 0 0 0 47 83) Nothing ∷
    line "Cease-ack: Down, active" g1 7 (at Down 4 17 40 130 19 0 50 Active 10 1 0 47 83) (Received (M.CeaseAck 7 4 4))
    (at Down 4 17 40 130 19 0 50 Active 10 1 0 47 83) Nothing ∷
    line "Cease-ack: Down, passive" g1 7 (at Down 4 17 40 130 19 0 50 Passive 10 1 0 47 83) (Received (M.CeaseAck 7 4 5))
    (at Down 4 17 40 130 19 0 50 Passive 10 1 0 47 83) Nothing ∷
    line "Cease-ack: Up, active" g1 7 (at Up 4 17 40 130 19 77 50 Active 10 1 0 47 83) (Received (M.CeaseAck 7 4 6))
    (at Up 4 17 40 130 19 77 50 Active 10 1 0 47 83) Nothing ∷
    line "Cease-ack: Up, passive" g1 7 (at Up 4 17 40 130 19 77 50 Passive 10 1 0 47 83) (Received (M.CeaseAck 7 4 7))
    (at Up 4 17 40 130 19 77 50 Passive 10 1 0 47 83) Nothing ∷
    line "Cease-ack: Cease, cause 5" g1 7 (at Cease 4 17 0 0 19 0 50 Unset 0 0 5 47 83) (Received (M.CeaseAck 7 4 0))
    (at Idle 0 0 0 0 0 0 0 Unset 0 0 0 0 0) Nothing ∷
    line "Cease-ack: Cease, cause 6" g1 7 (at Cease 4 17 0 0 19 0 50 Unset 0 0 6 47 83) (Received (M.CeaseAck 7 4 5))
    (at Idle 0 0 0 0 0 0 0 Unset 0 0 0 0 0) Nothing ∷
    []

-- 01, and 02 for Idle: | Hello | stray | - | I-H-U | I-H-U | - |
-- A command sets R even where its cell is "-", but not in Idle. "We send status 2 in Down and 1 in Up on Hello, I-H-U,
-- Poll, Update and Error"
unfoldable pub hello_row : List Line
hello_row =
    line "Hello: Idle" g1 7 (at Idle 0 0 0 0 0 0 0 Unset 0 0 0 0 0) (Received (M.Hello 7 21 1))
    (at Idle 0 0 0 0 0 0 0 Unset 0 0 0 0 0) (One (M.Cease 9 0 7)) ∷
    line "Hello: Acquisition" g1 7 (at Acquisition 4 17 0 0 19 0 50 Unset 0 0 0 47 83) (Received (M.Hello 7 21 1))
    (at Acquisition 4 21 0 0 19 0 50 Unset 0 0 0 47 83) Nothing ∷
    line "Hello: Down, active" g1 7 (at Down 4 17 40 130 19 0 50 Active 10 1 0 47 83) (Received (M.Hello 7 21 2))
    (at Down 4 21 40 130 19 0 50 Active 10 1 0 0 83) (One (M.IHeardYou 9 21 2)) ∷
    line "Hello: Down, passive" g1 7 (at Down 4 17 40 130 19 0 50 Passive 10 1 0 47 83) (Received (M.Hello 7 21 2))
    (at Down 4 21 40 130 19 0 50 Passive 10 1 0 0 83) (One (M.IHeardYou 9 21 2)) ∷
    line "Hello: Up, active" g1 7 (at Up 4 17 40 130 19 77 50 Active 10 1 0 47 83) (Received (M.Hello 7 21 2))
    (at Up 4 21 40 130 19 77 50 Active 10 1 0 0 83) (One (M.IHeardYou 9 21 1)) ∷
    line "Hello: Up, passive" g1 7 (at Up 4 17 40 130 19 77 50 Passive 10 1 0 47 83) (Received (M.Hello 7 21 2))
    (at Up 4 21 40 130 19 77 50 Passive 10 1 0 0 83) (One (M.IHeardYou 9 21 1)) ∷
    line "Hello: Cease, cause 5" g1 7 (at Cease 4 17 0 0 19 0 50 Unset 0 0 5 47 83) (Received (M.Hello 7 21 1))
    (at Cease 4 21 0 0 19 0 50 Unset 0 0 5 47 83) Nothing ∷
    line "Hello: Cease, cause 6" g1 7 (at Cease 4 17 0 0 19 0 50 Unset 0 0 6 47 83) (Received (M.Hello 7 21 1))
    (at Cease 4 21 0 0 19 0 50 Unset 0 0 6 47 83) Nothing ∷
    []

-- 01, and 02 for Idle: | Poll | stray | - | - | Update, or Error 3 for another net | - |
-- "Error carries R and the first 12 octets, zero-filled." Another net's Poll is carried out: R is set first.
unfoldable pub poll_row : List Line
poll_row =
    line "Poll: Idle" g1 7 (at Idle 0 0 0 0 0 0 0 Unset 0 0 0 0 0) (Received (M.Poll 7 21 1 common))
    (at Idle 0 0 0 0 0 0 0 Unset 0 0 0 0 0) (One (M.Cease 9 0 7)) ∷
    line "Poll: Acquisition" g1 7 (at Acquisition 4 17 0 0 19 0 50 Unset 0 0 0 47 83) (Received (M.Poll 7 21 1 common))
    (at Acquisition 4 21 0 0 19 0 50 Unset 0 0 0 47 83) Nothing ∷
    line "Poll: Down, active" g1 7 (at Down 4 17 40 130 19 0 50 Active 10 1 0 47 83) (Received (M.Poll 7 21 2 common))
    (at Down 4 21 40 130 19 0 50 Active 10 1 0 47 0) Nothing ∷
    line "Poll: Down, passive" g1 7 (at Down 4 17 40 130 19 0 50 Passive 10 1 0 47 83) (Received (M.Poll 7 21 2 common))
    (at Down 4 21 40 130 19 0 50 Passive 10 1 0 47 0) Nothing ∷
    line "Poll for our net: Up, active" g1 7 (at Up 4 17 40 130 19 77 50 Active 10 1 0 47 83) (Received (M.Poll 7 21 2 common))
    (at Up 4 21 40 130 19 77 50 Active 10 1 0 47 0) (One (M.Update 9 21 1 common)) ∷
    line "Poll for our net: Up, passive" g1 7 (at Up 4 17 40 130 19 77 50 Passive 10 1 0 47 83) (Received (M.Poll 7 21 2 common))
    (at Up 4 21 40 130 19 77 50 Passive 10 1 0 47 0) (One (M.Update 9 21 1 common)) ∷
    line "Poll for 10.0.0.0: Up, active" g1 7 (at Up 4 17 40 130 19 77 50 Active 10 1 0 47 83) (Received (M.Poll 7 21 2 ten_net))
    (at Up 4 21 40 130 19 77 50 Active 10 1 0 47 0) (One (M.Error 9 21 1 3 101 202 303)) ∷
    line "Poll for 10.0.0.0: Up, passive" g1 7 (at Up 4 17 40 130 19 77 50 Passive 10 1 0 47 83) (Received (M.Poll 7 21 2 ten_net))
    (at Up 4 21 40 130 19 77 50 Passive 10 1 0 47 0) (One (M.Error 9 21 1 3 101 202 303)) ∷
    line "Poll for 128.9.0.1: Up, active" g1 7 (at Up 4 17 40 130 19 77 50 Active 10 1 0 47 83) (Received (M.Poll 7 21 2 ours))
    (at Up 4 21 40 130 19 77 50 Active 10 1 0 47 0) (One (M.Error 9 21 1 3 101 202 303)) ∷
    line "Poll for 128.9.0.1: Up, passive" g1 7 (at Up 4 17 40 130 19 77 50 Passive 10 1 0 47 83) (Received (M.Poll 7 21 2 ours))
    (at Up 4 21 40 130 19 77 50 Passive 10 1 0 47 0) (One (M.Error 9 21 1 3 101 202 303)) ∷
    line "Poll for net 0: Up, active" g1 7 (at Up 4 17 40 130 19 77 50 Active 10 1 0 47 83) (Received (M.Poll 7 21 2 0))
    (at Up 4 21 40 130 19 77 50 Active 10 1 0 47 0) (One (M.Error 9 21 1 3 101 202 303)) ∷
    line "Poll for net 0: Up, passive" g1 7 (at Up 4 17 40 130 19 77 50 Passive 10 1 0 47 83) (Received (M.Poll 7 21 2 0))
    (at Up 4 21 40 130 19 77 50 Passive 10 1 0 47 0) (One (M.Error 9 21 1 3 101 202 303)) ∷
    line "Poll for 10.0.0.0: Down, active" g1 7 (at Down 4 17 40 130 19 0 50 Active 10 1 0 47 83) (Received (M.Poll 7 21 2 ten_net))
    (at Down 4 21 40 130 19 0 50 Active 10 1 0 47 0) Nothing ∷
    line "Poll for 10.0.0.0: Down, passive" g1 7 (at Down 4 17 40 130 19 0 50 Passive 10 1 0 47 83) (Received (M.Poll 7 21 2 ten_net))
    (at Down 4 21 40 130 19 0 50 Passive 10 1 0 47 0) Nothing ∷
    line "Poll: Cease, cause 5" g1 7 (at Cease 4 17 0 0 19 0 50 Unset 0 0 5 47 83) (Received (M.Poll 7 21 1 common))
    (at Cease 4 21 0 0 19 0 50 Unset 0 0 5 47 83) Nothing ∷
    line "Poll: Cease, cause 6" g1 7 (at Cease 4 17 0 0 19 0 50 Unset 0 0 6 47 83) (Received (M.Poll 7 21 1 common))
    (at Cease 4 21 0 0 19 0 50 Unset 0 0 6 47 83) Nothing ∷
    []

-- 01, and 02 for Idle: | Update | stray | - | - | replace rows | - |: the rows stand outside the record, which changes by the indication
-- alone
unfoldable pub update_row : List Line
update_row =
    line "Update: Idle" g1 7 (at Idle 0 0 0 0 0 0 0 Unset 0 0 0 0 0) (Received (M.Update 7 21 1 common))
    (at Idle 0 0 0 0 0 0 0 Unset 0 0 0 0 0) (One (M.Cease 9 0 7)) ∷
    line "Update: Acquisition" g1 7 (at Acquisition 4 17 0 0 19 0 50 Unset 0 0 0 47 83) (Received (M.Update 7 4 1 common))
    (at Acquisition 4 17 0 0 19 0 50 Unset 0 0 0 47 83) Nothing ∷
    line "Update: Down, active" g1 7 (at Down 4 17 40 130 19 0 50 Active 10 0 0 47 83) (Received (M.Update 7 4 1 common))
    (at Down 4 17 40 130 19 0 3600 Active 10 1 0 47 83) Nothing ∷
    line "Update: Down, passive" g1 7 (at Down 4 17 40 130 19 0 50 Passive 10 0 0 47 83) (Received (M.Update 7 4 1 common))
    (at Down 4 17 40 130 19 0 3600 Passive 10 1 0 47 83) Nothing ∷
    line "Update: Up, active" g1 7 (at Up 4 17 40 130 19 77 50 Active 10 0 0 47 83) (Received (M.Update 7 4 1 common))
    (at Up 4 17 40 130 19 77 3600 Active 10 1 0 47 83) Nothing ∷
    line "Update: Up, passive" g1 7 (at Up 4 17 40 130 19 77 50 Passive 10 0 0 47 83) (Received (M.Update 7 4 1 common))
    (at Up 4 17 40 130 19 77 3600 Passive 10 1 0 47 83) Nothing ∷
    line "Update: Cease, cause 5" g1 7 (at Cease 4 17 0 0 19 0 50 Unset 0 0 5 47 83) (Received (M.Update 7 4 1 common))
    (at Cease 4 17 0 0 19 0 50 Unset 0 0 5 47 83) Nothing ∷
    line "Update: Cease, cause 6" g1 7 (at Cease 4 17 0 0 19 0 50 Unset 0 0 6 47 83) (Received (M.Update 7 4 1 common))
    (at Cease 4 17 0 0 19 0 50 Unset 0 0 6 47 83) Nothing ∷
    []

-- 01: | Start | Acquisition, Request | same | same | same | - |
-- "Leaving Idle sets S to 0, and R to 0 by Start". "Entering Acquisition or Cease, or Start in Acquisition: t1 = P3,
-- t3 = P5, and T1, T2, M, register and heard 0; S and R stay." "our capability, 30 and 120 on Request and Confirm"
unfoldable pub start_row : List Line
start_row =
    line "Start: Idle, capability 0" g0 7 (at Idle 0 0 0 0 0 0 0 Unset 0 0 0 0 0) Start
    (at Acquisition 0 0 0 0 30 0 120 Unset 0 0 0 0 0) (One (M.Request 9 0 0 30 120)) ∷
    line "Start: Idle, capability 1" g1 7 (at Idle 0 0 0 0 0 0 0 Unset 0 0 0 0 0) Start
    (at Acquisition 0 0 0 0 30 0 120 Unset 0 0 0 0 0) (One (M.Request 9 0 1 30 120)) ∷
    line "Start: Idle, capability 2" g2 7 (at Idle 0 0 0 0 0 0 0 Unset 0 0 0 0 0) Start
    (at Acquisition 0 0 0 0 30 0 120 Unset 0 0 0 0 0) (One (M.Request 9 0 2 30 120)) ∷
    line "Start: Acquisition" g1 7 (at Acquisition 4 17 0 0 19 0 50 Unset 0 0 0 47 83) Start
    (at Acquisition 4 17 0 0 30 0 120 Unset 0 0 0 47 83) (One (M.Request 9 4 1 30 120)) ∷
    line "Start: Down, active" g2 7 (at Down 4 17 40 130 19 0 50 Active 10 1 0 47 83) Start
    (at Acquisition 4 17 0 0 30 0 120 Unset 0 0 0 47 83) (One (M.Request 9 4 2 30 120)) ∷
    line "Start: Down, passive" g2 7 (at Down 4 17 40 130 19 0 50 Passive 10 1 0 47 83) Start
    (at Acquisition 4 17 0 0 30 0 120 Unset 0 0 0 47 83) (One (M.Request 9 4 2 30 120)) ∷
    line "Start: Up, active" g2 7 (at Up 4 17 40 130 19 77 50 Active 10 1 0 47 83) Start
    (at Acquisition 4 17 0 0 30 0 120 Unset 0 0 0 47 83) (One (M.Request 9 4 2 30 120)) ∷
    line "Start: Up, passive" g2 7 (at Up 4 17 40 130 19 77 50 Passive 10 1 0 47 83) Start
    (at Acquisition 4 17 0 0 30 0 120 Unset 0 0 0 47 83) (One (M.Request 9 4 2 30 120)) ∷
    line "Start: Cease, cause 5" g1 7 (at Cease 4 17 0 0 19 0 50 Unset 0 0 5 47 83) Start
    (at Cease 4 17 0 0 19 0 50 Unset 0 0 5 47 83) Nothing ∷
    line "Start: Cease, cause 6" g1 7 (at Cease 4 17 0 0 19 0 50 Unset 0 0 6 47 83) Start
    (at Cease 4 17 0 0 19 0 50 Unset 0 0 6 47 83) Nothing ∷
    []

-- 01: | Stop | - | Idle | Cease 5 | Cease 5 | Idle |
unfoldable pub stop_row : List Line
stop_row =
    line "Stop: Idle" g1 7 (at Idle 0 0 0 0 0 0 0 Unset 0 0 0 0 0) Stop
    (at Idle 0 0 0 0 0 0 0 Unset 0 0 0 0 0) Nothing ∷
    line "Stop: Acquisition" g1 7 (at Acquisition 4 17 0 0 19 0 50 Unset 0 0 0 47 83) Stop
    (at Idle 0 0 0 0 0 0 0 Unset 0 0 0 0 0) Nothing ∷
    line "Stop: Down, active" g1 7 (at Down 4 17 40 130 19 0 50 Active 10 1 0 47 83) Stop
    (at Cease 4 17 0 0 30 0 120 Unset 0 0 5 47 83) (One (M.Cease 9 4 5)) ∷
    line "Stop: Down, passive" g1 7 (at Down 4 17 40 130 19 0 50 Passive 10 1 0 47 83) Stop
    (at Cease 4 17 0 0 30 0 120 Unset 0 0 5 47 83) (One (M.Cease 9 4 5)) ∷
    line "Stop: Up, active" g1 7 (at Up 4 17 40 130 19 77 50 Active 10 1 0 47 83) Stop
    (at Cease 4 17 0 0 30 0 120 Unset 0 0 5 47 83) (One (M.Cease 9 4 5)) ∷
    line "Stop: Up, passive" g1 7 (at Up 4 17 40 130 19 77 50 Passive 10 1 0 47 83) Stop
    (at Cease 4 17 0 0 30 0 120 Unset 0 0 5 47 83) (One (M.Cease 9 4 5)) ∷
    line "Stop: Cease, cause 5" g1 7 (at Cease 4 17 0 0 19 0 50 Unset 0 0 5 47 83) Stop
    (at Idle 0 0 0 0 0 0 0 Unset 0 0 0 0 0) Nothing ∷
    line "Stop: Cease, cause 6" g1 7 (at Cease 4 17 0 0 19 0 50 Unset 0 0 6 47 83) Stop
    (at Idle 0 0 0 0 0 0 0 Unset 0 0 0 0 0) Nothing ∷
    []

-- I-H-U has no row: it is an indication, stray in Idle, or nothing.
unfoldable pub i_heard_you_received : List Line
i_heard_you_received =
    line "I-H-U: Idle" g1 7 (at Idle 0 0 0 0 0 0 0 Unset 0 0 0 0 0) (Received (M.IHeardYou 7 21 1))
    (at Idle 0 0 0 0 0 0 0 Unset 0 0 0 0 0) (One (M.Cease 9 0 7)) ∷
    line "I-H-U: Acquisition" g1 7 (at Acquisition 4 17 0 0 19 0 50 Unset 0 0 0 47 83) (Received (M.IHeardYou 7 4 1))
    (at Acquisition 4 17 0 0 19 0 50 Unset 0 0 0 47 83) Nothing ∷
    line "I-H-U: Down, active" g1 7 (at Down 4 17 40 130 19 0 50 Active 10 0 0 47 83) (Received (M.IHeardYou 7 4 1))
    (at Down 4 17 40 130 19 0 3600 Active 10 1 0 47 83) Nothing ∷
    line "I-H-U: Down, passive" g1 7 (at Down 4 17 40 130 19 0 50 Passive 10 0 0 47 83) (Received (M.IHeardYou 7 4 1))
    (at Down 4 17 40 130 19 0 50 Passive 10 0 0 47 83) Nothing ∷
    line "I-H-U: Up, active" g1 7 (at Up 4 17 40 130 19 77 50 Active 10 0 0 47 83) (Received (M.IHeardYou 7 4 1))
    (at Up 4 17 40 130 19 77 3600 Active 10 1 0 47 83) Nothing ∷
    line "I-H-U: Up, passive" g1 7 (at Up 4 17 40 130 19 77 50 Passive 10 0 0 47 83) (Received (M.IHeardYou 7 4 1))
    (at Up 4 17 40 130 19 77 50 Passive 10 0 0 47 83) Nothing ∷
    line "I-H-U: Cease, cause 5" g1 7 (at Cease 4 17 0 0 19 0 50 Unset 0 0 5 47 83) (Received (M.IHeardYou 7 4 1))
    (at Cease 4 17 0 0 19 0 50 Unset 0 0 5 47 83) Nothing ∷
    line "I-H-U: Cease, cause 6" g1 7 (at Cease 4 17 0 0 19 0 50 Unset 0 0 6 47 83) (Received (M.IHeardYou 7 4 1))
    (at Cease 4 17 0 0 19 0 50 Unset 0 0 6 47 83) Nothing ∷
    []

-- 02, L6: Idle answers Confirm, Refuse, Hello, I-H-U, Poll and Update with "a Cease, status 7, sequence 0", whatever
-- number they carry, "the neighbour staying Idle"; with `quiet` 1 it stays silent. Nothing else hears of the setting.
unfoldable pub strays : List Line
strays =
    line "stray Confirm, number 0: Idle" g2 7 (at Idle 0 0 0 0 0 0 0 Unset 0 0 0 0 0) (Received (M.Confirm 7 0 2 30 120))
    (at Idle 0 0 0 0 0 0 0 Unset 0 0 0 0 0) (One (M.Cease 9 0 7)) ∷
    line "stray Refuse, number 65535: Idle" g0 7 (at Idle 0 0 0 0 0 0 0 Unset 0 0 0 0 0) (Received (M.Refuse 7 65535 4))
    (at Idle 0 0 0 0 0 0 0 Unset 0 0 0 0 0) (One (M.Cease 9 0 7)) ∷
    line "stray Hello, number 0: Idle" g2 7 (at Idle 0 0 0 0 0 0 0 Unset 0 0 0 0 0) (Received (M.Hello 7 0 2))
    (at Idle 0 0 0 0 0 0 0 Unset 0 0 0 0 0) (One (M.Cease 9 0 7)) ∷
    line "stray I-H-U, number 4: Idle" g0 7 (at Idle 0 0 0 0 0 0 0 Unset 0 0 0 0 0) (Received (M.IHeardYou 7 4 0))
    (at Idle 0 0 0 0 0 0 0 Unset 0 0 0 0 0) (One (M.Cease 9 0 7)) ∷
    line "stray Poll, another net: Idle" g2 7 (at Idle 0 0 0 0 0 0 0 Unset 0 0 0 0 0) (Received (M.Poll 7 65535 1 ten_net))
    (at Idle 0 0 0 0 0 0 0 Unset 0 0 0 0 0) (One (M.Cease 9 0 7)) ∷
    line "stray Update, unsolicited: Idle" g0 7 (at Idle 0 0 0 0 0 0 0 Unset 0 0 0 0 0) (Received (M.Update 7 7 129 common))
    (at Idle 0 0 0 0 0 0 0 Unset 0 0 0 0 0) (One (M.Cease 9 0 7)) ∷
    line "Confirm, acceptable, quiet: Idle" q1 7 (at Idle 0 0 0 0 0 0 0 Unset 0 0 0 0 0) (Received (M.Confirm 7 21 1 60 200))
    (at Idle 0 0 0 0 0 0 0 Unset 0 0 0 0 0) Nothing ∷
    line "Confirm, unacceptable, quiet: Idle" q1 7 (at Idle 0 0 0 0 0 0 0 Unset 0 0 0 0 0) (Received (M.Confirm 7 21 1 121 200))
    (at Idle 0 0 0 0 0 0 0 Unset 0 0 0 0 0) Nothing ∷
    line "Refuse, quiet: Idle" q1 7 (at Idle 0 0 0 0 0 0 0 Unset 0 0 0 0 0) (Received (M.Refuse 7 21 6))
    (at Idle 0 0 0 0 0 0 0 Unset 0 0 0 0 0) Nothing ∷
    line "Hello, quiet: Idle" q1 7 (at Idle 0 0 0 0 0 0 0 Unset 0 0 0 0 0) (Received (M.Hello 7 21 1))
    (at Idle 0 0 0 0 0 0 0 Unset 0 0 0 0 0) Nothing ∷
    line "I-H-U, quiet: Idle" q1 7 (at Idle 0 0 0 0 0 0 0 Unset 0 0 0 0 0) (Received (M.IHeardYou 7 21 1))
    (at Idle 0 0 0 0 0 0 0 Unset 0 0 0 0 0) Nothing ∷
    line "Poll, quiet: Idle" q1 7 (at Idle 0 0 0 0 0 0 0 Unset 0 0 0 0 0) (Received (M.Poll 7 21 1 common))
    (at Idle 0 0 0 0 0 0 0 Unset 0 0 0 0 0) Nothing ∷
    line "Update, quiet: Idle" q1 7 (at Idle 0 0 0 0 0 0 0 Unset 0 0 0 0 0) (Received (M.Update 7 21 1 common))
    (at Idle 0 0 0 0 0 0 0 Unset 0 0 0 0 0) Nothing ∷
    line "Request, acceptable, quiet: Idle" q1 7 (at Idle 0 0 0 0 0 0 0 Unset 0 0 0 0 0) (Received (M.Request 7 21 0 60 200))
    (at Down 0 21 62 202 62 0 120 Active 0 0 0 120 120) (Two (M.Confirm 9 21 1 30 120) (M.Hello 9 0 2)) ∷
    line "Request, unacceptable, quiet: Idle" q1 7 (at Idle 0 0 0 0 0 0 0 Unset 0 0 0 0 0) (Received (M.Request 7 21 0 121 200))
    (at Idle 0 0 0 0 0 0 0 Unset 0 0 0 0 0) (One (M.Refuse 9 21 6)) ∷
    line "Cease, quiet: Idle" q1 7 (at Idle 0 0 0 0 0 0 0 Unset 0 0 0 0 0) (Received (M.Cease 7 21 0))
    (at Idle 0 0 0 0 0 0 0 Unset 0 0 0 0 0) (One (M.CeaseAck 9 21 0)) ∷
    line "Cease-ack, quiet: Idle" q1 7 (at Idle 0 0 0 0 0 0 0 Unset 0 0 0 0 0) (Received (M.CeaseAck 7 21 0))
    (at Idle 0 0 0 0 0 0 0 Unset 0 0 0 0 0) Nothing ∷
    line "Error, quiet: Idle" q1 7 (at Idle 0 0 0 0 0 0 0 Unset 0 0 0 0 0) (Received (M.Error 7 77 1 0 404 505 606))
    (at Idle 0 0 0 0 0 0 0 Unset 0 0 0 0 0) Nothing ∷
    line "Hello, quiet: Down, active" q1 7 (at Down 4 17 40 130 19 0 50 Active 10 0 0 47 83) (Received (M.Hello 7 21 1))
    (at Down 4 21 40 130 19 0 50 Active 10 0 0 0 83) (One (M.IHeardYou 9 21 2)) ∷
    line "Confirm, quiet: Cease" q1 7 (at Cease 4 17 0 0 19 0 50 Unset 0 0 5 47 83) (Received (M.Confirm 7 4 1 60 200))
    (at Cease 4 17 0 0 19 0 50 Unset 0 0 5 47 83) Nothing ∷
    []

-- 01: "An Error received changes nothing." Its number is not checked.
unfoldable pub error_received : List Line
error_received =
    line "Error: Idle" g1 7 (at Idle 0 0 0 0 0 0 0 Unset 0 0 0 0 0) (Received (M.Error 7 77 1 0 404 505 606))
    (at Idle 0 0 0 0 0 0 0 Unset 0 0 0 0 0) Nothing ∷
    line "Error: Acquisition" g1 7 (at Acquisition 4 17 0 0 19 0 50 Unset 0 0 0 47 83) (Received (M.Error 7 77 129 1 404 505 606))
    (at Acquisition 4 17 0 0 19 0 50 Unset 0 0 0 47 83) Nothing ∷
    line "Error: Down, active" g1 7 (at Down 4 17 40 130 19 0 50 Active 10 1 0 47 83) (Received (M.Error 7 77 1 2 404 505 606))
    (at Down 4 17 40 130 19 0 50 Active 10 1 0 47 83) Nothing ∷
    line "Error: Down, passive" g1 7 (at Down 4 17 40 130 19 0 50 Passive 10 1 0 47 83) (Received (M.Error 7 77 1 3 404 505 606))
    (at Down 4 17 40 130 19 0 50 Passive 10 1 0 47 83) Nothing ∷
    line "Error: Up, active" g1 7 (at Up 4 17 40 130 19 77 50 Active 10 1 0 47 83) (Received (M.Error 7 77 129 4 404 505 606))
    (at Up 4 17 40 130 19 77 50 Active 10 1 0 47 83) Nothing ∷
    line "Error: Up, passive" g1 7 (at Up 4 17 40 130 19 77 50 Passive 10 1 0 47 83) (Received (M.Error 7 77 1 5 404 505 606))
    (at Up 4 17 40 130 19 77 50 Passive 10 1 0 47 83) Nothing ∷
    line "Error: Cease, cause 5" g1 7 (at Cease 4 17 0 0 19 0 50 Unset 0 0 5 47 83) (Received (M.Error 7 77 2 6 404 505 606))
    (at Cease 4 17 0 0 19 0 50 Unset 0 0 5 47 83) Nothing ∷
    line "Error: Cease, cause 6" g1 7 (at Cease 4 17 0 0 19 0 50 Unset 0 0 6 47 83) (Received (M.Error 7 77 0 7 404 505 606))
    (at Cease 4 17 0 0 19 0 50 Unset 0 0 6 47 83) Nothing ∷
    []

-- 01: "Request and Confirm give T1 = larger of 30 and their hello interval, plus 2, and T2 = larger of 120 and their
-- poll interval, plus 2. Unacceptable: hello above 120, poll above 480"
unfoldable pub intervals : List Line
intervals =
    by_request "T1, T2 by Request: hello 0" 0 200 32 202 ∷
    by_confirm "T1, T2 by Confirm: hello 0" 0 200 32 202 ∷
    by_request "T1, T2 by Request: hello 30" 30 200 32 202 ∷
    by_confirm "T1, T2 by Confirm: hello 30" 30 200 32 202 ∷
    by_request "T1, T2 by Request: hello 31" 31 200 33 202 ∷
    by_confirm "T1, T2 by Confirm: hello 31" 31 200 33 202 ∷
    by_request "T1, T2 by Request: hello 120" 120 200 122 202 ∷
    by_confirm "T1, T2 by Confirm: hello 120" 120 200 122 202 ∷
    by_request "T1, T2 by Request: poll 0" 60 0 62 122 ∷
    by_confirm "T1, T2 by Confirm: poll 0" 60 0 62 122 ∷
    by_request "T1, T2 by Request: poll 120" 60 120 62 122 ∷
    by_confirm "T1, T2 by Confirm: poll 120" 60 120 62 122 ∷
    by_request "T1, T2 by Request: poll 121" 60 121 62 123 ∷
    by_confirm "T1, T2 by Confirm: poll 121" 60 121 62 123 ∷
    by_request "T1, T2 by Request: poll 480" 60 480 62 482 ∷
    by_confirm "T1, T2 by Confirm: poll 480" 60 480 62 482 ∷
    by_request "T1, T2 by Request: both 0" 0 0 32 122 ∷
    by_confirm "T1, T2 by Confirm: both 0" 0 0 32 122 ∷
    by_request "T1, T2 by Request: hello 120, poll 480" 120 480 122 482 ∷
    by_confirm "T1, T2 by Confirm: hello 120, poll 480" 120 480 122 482 ∷
    line "unacceptable Request: hello 121" g2 7 (at Idle 0 0 0 0 0 0 0 Unset 0 0 0 0 0) (Received (M.Request 7 21 0 121 200))
    (at Idle 0 0 0 0 0 0 0 Unset 0 0 0 0 0) (One (M.Refuse 9 21 6)) ∷
    line "unacceptable Confirm: hello 121" g2 7 (at Acquisition 4 17 0 0 19 0 50 Unset 0 0 0 47 83) (Received (M.Confirm 7 4 0 121 200))
    (at Idle 0 0 0 0 0 0 0 Unset 0 0 0 0 0) Nothing ∷
    line "unacceptable Request: hello 65535" g2 7 (at Idle 0 0 0 0 0 0 0 Unset 0 0 0 0 0) (Received (M.Request 7 21 0 65535 200))
    (at Idle 0 0 0 0 0 0 0 Unset 0 0 0 0 0) (One (M.Refuse 9 21 6)) ∷
    line "unacceptable Confirm: hello 65535" g2 7 (at Acquisition 4 17 0 0 19 0 50 Unset 0 0 0 47 83) (Received (M.Confirm 7 4 0 65535 200))
    (at Idle 0 0 0 0 0 0 0 Unset 0 0 0 0 0) Nothing ∷
    line "unacceptable Request: poll 481" g2 7 (at Idle 0 0 0 0 0 0 0 Unset 0 0 0 0 0) (Received (M.Request 7 21 0 60 481))
    (at Idle 0 0 0 0 0 0 0 Unset 0 0 0 0 0) (One (M.Refuse 9 21 6)) ∷
    line "unacceptable Confirm: poll 481" g2 7 (at Acquisition 4 17 0 0 19 0 50 Unset 0 0 0 47 83) (Received (M.Confirm 7 4 0 60 481))
    (at Idle 0 0 0 0 0 0 0 Unset 0 0 0 0 0) Nothing ∷
    line "unacceptable Request: poll 65535" g2 7 (at Idle 0 0 0 0 0 0 0 Unset 0 0 0 0 0) (Received (M.Request 7 21 0 60 65535))
    (at Idle 0 0 0 0 0 0 0 Unset 0 0 0 0 0) (One (M.Refuse 9 21 6)) ∷
    line "unacceptable Confirm: poll 65535" g2 7 (at Acquisition 4 17 0 0 19 0 50 Unset 0 0 0 47 83) (Received (M.Confirm 7 4 0 60 65535))
    (at Idle 0 0 0 0 0 0 0 Unset 0 0 0 0 0) Nothing ∷
    line "unacceptable Request: hello 121, poll 481" g2 7 (at Idle 0 0 0 0 0 0 0 Unset 0 0 0 0 0) (Received (M.Request 7 21 0 121 481))
    (at Idle 0 0 0 0 0 0 0 Unset 0 0 0 0 0) (One (M.Refuse 9 21 6)) ∷
    line "unacceptable Confirm: hello 121, poll 481" g2 7 (at Acquisition 4 17 0 0 19 0 50 Unset 0 0 0 47 83) (Received (M.Confirm 7 4 0 121 481))
    (at Idle 0 0 0 0 0 0 0 Unset 0 0 0 0 0) Nothing ∷
    []

-- 01: "Mode: if our capability is 1 or 2, that; else peer 1 gives passive, peer 2 active, peer 0 active for the
-- smaller AS." Ours is 9.
unfoldable pub modes : List Line
modes =
    mode_by_request "M by Request: capability 0, status 0, AS 7" g0 7 0 Passive (One (M.Confirm 9 21 0 30 120)) ∷
    mode_by_request "M by Request: capability 0, status 0, AS 12" g0 12 0 Active (Two (M.Confirm 9 21 0 30 120) (M.Hello 9 0 2)) ∷
    mode_by_request "M by Request: capability 0, status 1, AS 7" g0 7 1 Passive (One (M.Confirm 9 21 0 30 120)) ∷
    mode_by_request "M by Request: capability 0, status 1, AS 12" g0 12 1 Passive (One (M.Confirm 9 21 0 30 120)) ∷
    mode_by_request "M by Request: capability 0, status 2, AS 7" g0 7 2 Active (Two (M.Confirm 9 21 0 30 120) (M.Hello 9 0 2)) ∷
    mode_by_request "M by Request: capability 0, status 2, AS 12" g0 12 2 Active (Two (M.Confirm 9 21 0 30 120) (M.Hello 9 0 2)) ∷
    mode_by_request "M by Request: capability 1, status 0, AS 7" g1 7 0 Active (Two (M.Confirm 9 21 1 30 120) (M.Hello 9 0 2)) ∷
    mode_by_request "M by Request: capability 1, status 0, AS 12" g1 12 0 Active (Two (M.Confirm 9 21 1 30 120) (M.Hello 9 0 2)) ∷
    mode_by_request "M by Request: capability 1, status 1, AS 7" g1 7 1 Active (Two (M.Confirm 9 21 1 30 120) (M.Hello 9 0 2)) ∷
    mode_by_request "M by Request: capability 1, status 1, AS 12" g1 12 1 Active (Two (M.Confirm 9 21 1 30 120) (M.Hello 9 0 2)) ∷
    mode_by_request "M by Request: capability 1, status 2, AS 7" g1 7 2 Active (Two (M.Confirm 9 21 1 30 120) (M.Hello 9 0 2)) ∷
    mode_by_request "M by Request: capability 1, status 2, AS 12" g1 12 2 Active (Two (M.Confirm 9 21 1 30 120) (M.Hello 9 0 2)) ∷
    mode_by_request "M by Request: capability 2, status 0, AS 7" g2 7 0 Passive (One (M.Confirm 9 21 2 30 120)) ∷
    mode_by_request "M by Request: capability 2, status 0, AS 12" g2 12 0 Passive (One (M.Confirm 9 21 2 30 120)) ∷
    mode_by_request "M by Request: capability 2, status 1, AS 7" g2 7 1 Passive (One (M.Confirm 9 21 2 30 120)) ∷
    mode_by_request "M by Request: capability 2, status 1, AS 12" g2 12 1 Passive (One (M.Confirm 9 21 2 30 120)) ∷
    line "M by Request: capability 2, status 2, AS 7" g2 7 (at Idle 0 0 0 0 0 0 0 Unset 0 0 0 0 0) (Received (M.Request 7 21 2 60 200))
    (at Idle 0 0 0 0 0 0 0 Unset 0 0 0 0 0) (One (M.Refuse 9 21 6)) ∷
    line "M by Request: capability 2, status 2, AS 12" g2 12 (at Idle 0 0 0 0 0 0 0 Unset 0 0 0 0 0) (Received (M.Request 12 21 2 60 200))
    (at Idle 0 0 0 0 0 0 0 Unset 0 0 0 0 0) (One (M.Refuse 9 21 6)) ∷
    mode_by_confirm "M by Confirm: capability 0, status 0, AS 7" g0 7 0 Passive Nothing ∷
    mode_by_confirm "M by Confirm: capability 0, status 0, AS 12" g0 12 0 Active (One (M.Hello 9 4 2)) ∷
    mode_by_confirm "M by Confirm: capability 0, status 1, AS 7" g0 7 1 Passive Nothing ∷
    mode_by_confirm "M by Confirm: capability 0, status 1, AS 12" g0 12 1 Passive Nothing ∷
    mode_by_confirm "M by Confirm: capability 0, status 2, AS 7" g0 7 2 Active (One (M.Hello 9 4 2)) ∷
    mode_by_confirm "M by Confirm: capability 0, status 2, AS 12" g0 12 2 Active (One (M.Hello 9 4 2)) ∷
    mode_by_confirm "M by Confirm: capability 1, status 0, AS 7" g1 7 0 Active (One (M.Hello 9 4 2)) ∷
    mode_by_confirm "M by Confirm: capability 1, status 0, AS 12" g1 12 0 Active (One (M.Hello 9 4 2)) ∷
    mode_by_confirm "M by Confirm: capability 1, status 1, AS 7" g1 7 1 Active (One (M.Hello 9 4 2)) ∷
    mode_by_confirm "M by Confirm: capability 1, status 1, AS 12" g1 12 1 Active (One (M.Hello 9 4 2)) ∷
    mode_by_confirm "M by Confirm: capability 1, status 2, AS 7" g1 7 2 Active (One (M.Hello 9 4 2)) ∷
    mode_by_confirm "M by Confirm: capability 1, status 2, AS 12" g1 12 2 Active (One (M.Hello 9 4 2)) ∷
    mode_by_confirm "M by Confirm: capability 2, status 0, AS 7" g2 7 0 Passive Nothing ∷
    mode_by_confirm "M by Confirm: capability 2, status 0, AS 12" g2 12 0 Passive Nothing ∷
    mode_by_confirm "M by Confirm: capability 2, status 1, AS 7" g2 7 1 Passive Nothing ∷
    mode_by_confirm "M by Confirm: capability 2, status 1, AS 12" g2 12 1 Passive Nothing ∷
    line "M by Confirm: capability 2, status 2, AS 7" g2 7 (at Acquisition 4 17 0 0 19 0 50 Unset 0 0 0 47 83) (Received (M.Confirm 7 4 2 60 200))
    (at Idle 0 0 0 0 0 0 0 Unset 0 0 0 0 0) Nothing ∷
    line "M by Confirm: capability 2, status 2, AS 12" g2 12 (at Acquisition 4 17 0 0 19 0 50 Unset 0 0 0 47 83) (Received (M.Confirm 12 4 2 60 200))
    (at Idle 0 0 0 0 0 0 0 Unset 0 0 0 0 0) Nothing ∷
    []

-- 01: "An indication is noted when the state before was Down or Up: active mode, a Confirm, I-H-U or Update carried
-- out; passive mode, a Hello or Poll carried out with status 1 (section 3.3). It sets heard to 1 and t3 to P4." 02, L3:
-- "in passive mode, an Update carried out in Down or Up whose status without the unsolicited bit is 1 is an indication
-- too". Every kind in both, with its statuses.
unfoldable pub indications : List Line
indications =
    line "indication, Request 1: Down, active" g0 7 (at Down 4 17 40 130 19 0 50 Active 10 1 0 47 83) (Received (M.Request 7 21 1 60 200))
    (at Down 4 21 62 202 62 0 120 Passive 0 0 0 120 120) (One (M.Confirm 9 21 0 30 120)) ∷
    line "indication, Request 1: Down, passive" g0 7 (at Down 4 17 40 130 19 0 50 Passive 10 1 0 47 83) (Received (M.Request 7 21 1 60 200))
    (at Down 4 21 62 202 62 0 120 Passive 0 0 0 120 120) (One (M.Confirm 9 21 0 30 120)) ∷
    line "indication, Request 1: Up, active" g0 7 (at Up 4 17 40 130 19 77 50 Active 10 1 0 47 83) (Received (M.Request 7 21 1 60 200))
    (at Down 4 21 62 202 62 0 120 Passive 0 0 0 120 120) (One (M.Confirm 9 21 0 30 120)) ∷
    line "indication, Request 1: Up, passive" g0 7 (at Up 4 17 40 130 19 77 50 Passive 10 1 0 47 83) (Received (M.Request 7 21 1 60 200))
    (at Down 4 21 62 202 62 0 120 Passive 0 0 0 120 120) (One (M.Confirm 9 21 0 30 120)) ∷
    hears "indication, Confirm 0: Down, active" Down 0 Active (M.Confirm 7 4 0 60 200) 17 3600 1 47 83 Nothing ∷
    hears "indication, Confirm 0: Down, passive" Down 0 Passive (M.Confirm 7 4 0 60 200) 17 50 0 47 83 Nothing ∷
    hears "indication, Confirm 0: Up, active" Up 77 Active (M.Confirm 7 4 0 60 200) 17 3600 1 47 83 Nothing ∷
    hears "indication, Confirm 0: Up, passive" Up 77 Passive (M.Confirm 7 4 0 60 200) 17 50 0 47 83 Nothing ∷
    hears "indication, Confirm 1: Down, active" Down 0 Active (M.Confirm 7 4 1 60 200) 17 3600 1 47 83 Nothing ∷
    hears "indication, Confirm 1: Down, passive" Down 0 Passive (M.Confirm 7 4 1 60 200) 17 50 0 47 83 Nothing ∷
    hears "indication, Confirm 1: Up, active" Up 77 Active (M.Confirm 7 4 1 60 200) 17 3600 1 47 83 Nothing ∷
    hears "indication, Confirm 1: Up, passive" Up 77 Passive (M.Confirm 7 4 1 60 200) 17 50 0 47 83 Nothing ∷
    hears "indication, Confirm 2: Down, active" Down 0 Active (M.Confirm 7 4 2 60 200) 17 3600 1 47 83 Nothing ∷
    hears "indication, Confirm 2: Down, passive" Down 0 Passive (M.Confirm 7 4 2 60 200) 17 50 0 47 83 Nothing ∷
    hears "indication, Confirm 2: Up, active" Up 77 Active (M.Confirm 7 4 2 60 200) 17 3600 1 47 83 Nothing ∷
    hears "indication, Confirm 2: Up, passive" Up 77 Passive (M.Confirm 7 4 2 60 200) 17 50 0 47 83 Nothing ∷
    hears "indication, Refuse 0: Down, active" Down 0 Active (M.Refuse 7 4 0) 17 50 0 47 83 Nothing ∷
    hears "indication, Refuse 0: Down, passive" Down 0 Passive (M.Refuse 7 4 0) 17 50 0 47 83 Nothing ∷
    hears "indication, Refuse 0: Up, active" Up 77 Active (M.Refuse 7 4 0) 17 50 0 47 83 Nothing ∷
    hears "indication, Refuse 0: Up, passive" Up 77 Passive (M.Refuse 7 4 0) 17 50 0 47 83 Nothing ∷
    line "indication, Cease 0: Down, active" g0 7 (at Down 4 17 40 130 19 0 50 Active 10 0 0 47 83) (Received (M.Cease 7 21 0))
    (at Idle 0 0 0 0 0 0 0 Unset 0 0 0 0 0) (One (M.CeaseAck 9 21 0)) ∷
    line "indication, Cease 0: Down, passive" g0 7 (at Down 4 17 40 130 19 0 50 Passive 10 0 0 47 83) (Received (M.Cease 7 21 0))
    (at Idle 0 0 0 0 0 0 0 Unset 0 0 0 0 0) (One (M.CeaseAck 9 21 0)) ∷
    line "indication, Cease 0: Up, active" g0 7 (at Up 4 17 40 130 19 77 50 Active 10 0 0 47 83) (Received (M.Cease 7 21 0))
    (at Idle 0 0 0 0 0 0 0 Unset 0 0 0 0 0) (One (M.CeaseAck 9 21 0)) ∷
    line "indication, Cease 0: Up, passive" g0 7 (at Up 4 17 40 130 19 77 50 Passive 10 0 0 47 83) (Received (M.Cease 7 21 0))
    (at Idle 0 0 0 0 0 0 0 Unset 0 0 0 0 0) (One (M.CeaseAck 9 21 0)) ∷
    hears "indication, Cease-ack 0: Down, active" Down 0 Active (M.CeaseAck 7 4 0) 17 50 0 47 83 Nothing ∷
    hears "indication, Cease-ack 0: Down, passive" Down 0 Passive (M.CeaseAck 7 4 0) 17 50 0 47 83 Nothing ∷
    hears "indication, Cease-ack 0: Up, active" Up 77 Active (M.CeaseAck 7 4 0) 17 50 0 47 83 Nothing ∷
    hears "indication, Cease-ack 0: Up, passive" Up 77 Passive (M.CeaseAck 7 4 0) 17 50 0 47 83 Nothing ∷
    hears "indication, Hello 0: Down, active" Down 0 Active (M.Hello 7 21 0) 21 50 0 0 83 (One (M.IHeardYou 9 21 2)) ∷
    hears "indication, Hello 0: Down, passive" Down 0 Passive (M.Hello 7 21 0) 21 50 0 0 83 (One (M.IHeardYou 9 21 2)) ∷
    hears "indication, Hello 0: Up, active" Up 77 Active (M.Hello 7 21 0) 21 50 0 0 83 (One (M.IHeardYou 9 21 1)) ∷
    hears "indication, Hello 0: Up, passive" Up 77 Passive (M.Hello 7 21 0) 21 50 0 0 83 (One (M.IHeardYou 9 21 1)) ∷
    hears "indication, Hello 1: Down, active" Down 0 Active (M.Hello 7 21 1) 21 50 0 0 83 (One (M.IHeardYou 9 21 2)) ∷
    hears "indication, Hello 1: Down, passive" Down 0 Passive (M.Hello 7 21 1) 21 3600 1 0 83 (One (M.IHeardYou 9 21 2)) ∷
    hears "indication, Hello 1: Up, active" Up 77 Active (M.Hello 7 21 1) 21 50 0 0 83 (One (M.IHeardYou 9 21 1)) ∷
    hears "indication, Hello 1: Up, passive" Up 77 Passive (M.Hello 7 21 1) 21 3600 1 0 83 (One (M.IHeardYou 9 21 1)) ∷
    hears "indication, Hello 2: Down, active" Down 0 Active (M.Hello 7 21 2) 21 50 0 0 83 (One (M.IHeardYou 9 21 2)) ∷
    hears "indication, Hello 2: Down, passive" Down 0 Passive (M.Hello 7 21 2) 21 50 0 0 83 (One (M.IHeardYou 9 21 2)) ∷
    hears "indication, Hello 2: Up, active" Up 77 Active (M.Hello 7 21 2) 21 50 0 0 83 (One (M.IHeardYou 9 21 1)) ∷
    hears "indication, Hello 2: Up, passive" Up 77 Passive (M.Hello 7 21 2) 21 50 0 0 83 (One (M.IHeardYou 9 21 1)) ∷
    hears "indication, I-H-U 0: Down, active" Down 0 Active (M.IHeardYou 7 4 0) 17 3600 1 47 83 Nothing ∷
    hears "indication, I-H-U 0: Down, passive" Down 0 Passive (M.IHeardYou 7 4 0) 17 50 0 47 83 Nothing ∷
    hears "indication, I-H-U 0: Up, active" Up 77 Active (M.IHeardYou 7 4 0) 17 3600 1 47 83 Nothing ∷
    hears "indication, I-H-U 0: Up, passive" Up 77 Passive (M.IHeardYou 7 4 0) 17 50 0 47 83 Nothing ∷
    hears "indication, I-H-U 1: Down, active" Down 0 Active (M.IHeardYou 7 4 1) 17 3600 1 47 83 Nothing ∷
    hears "indication, I-H-U 1: Down, passive" Down 0 Passive (M.IHeardYou 7 4 1) 17 50 0 47 83 Nothing ∷
    hears "indication, I-H-U 1: Up, active" Up 77 Active (M.IHeardYou 7 4 1) 17 3600 1 47 83 Nothing ∷
    hears "indication, I-H-U 1: Up, passive" Up 77 Passive (M.IHeardYou 7 4 1) 17 50 0 47 83 Nothing ∷
    hears "indication, I-H-U 2: Down, active" Down 0 Active (M.IHeardYou 7 4 2) 17 3600 1 47 83 Nothing ∷
    hears "indication, I-H-U 2: Down, passive" Down 0 Passive (M.IHeardYou 7 4 2) 17 50 0 47 83 Nothing ∷
    hears "indication, I-H-U 2: Up, active" Up 77 Active (M.IHeardYou 7 4 2) 17 3600 1 47 83 Nothing ∷
    hears "indication, I-H-U 2: Up, passive" Up 77 Passive (M.IHeardYou 7 4 2) 17 50 0 47 83 Nothing ∷
    hears "indication, Poll 0: Down, active" Down 0 Active (M.Poll 7 21 0 common) 21 50 0 47 0 Nothing ∷
    hears "indication, Poll 0: Down, passive" Down 0 Passive (M.Poll 7 21 0 common) 21 50 0 47 0 Nothing ∷
    hears "indication, Poll 0: Up, active" Up 77 Active (M.Poll 7 21 0 common) 21 50 0 47 0 (One (M.Update 9 21 1 common)) ∷
    hears "indication, Poll 0: Up, passive" Up 77 Passive (M.Poll 7 21 0 common) 21 50 0 47 0 (One (M.Update 9 21 1 common)) ∷
    hears "indication, Poll 1: Down, active" Down 0 Active (M.Poll 7 21 1 common) 21 50 0 47 0 Nothing ∷
    hears "indication, Poll 1: Down, passive" Down 0 Passive (M.Poll 7 21 1 common) 21 3600 1 47 0 Nothing ∷
    hears "indication, Poll 1: Up, active" Up 77 Active (M.Poll 7 21 1 common) 21 50 0 47 0 (One (M.Update 9 21 1 common)) ∷
    hears "indication, Poll 1: Up, passive" Up 77 Passive (M.Poll 7 21 1 common) 21 3600 1 47 0 (One (M.Update 9 21 1 common)) ∷
    hears "indication, Poll 2: Down, active" Down 0 Active (M.Poll 7 21 2 common) 21 50 0 47 0 Nothing ∷
    hears "indication, Poll 2: Down, passive" Down 0 Passive (M.Poll 7 21 2 common) 21 50 0 47 0 Nothing ∷
    hears "indication, Poll 2: Up, active" Up 77 Active (M.Poll 7 21 2 common) 21 50 0 47 0 (One (M.Update 9 21 1 common)) ∷
    hears "indication, Poll 2: Up, passive" Up 77 Passive (M.Poll 7 21 2 common) 21 50 0 47 0 (One (M.Update 9 21 1 common)) ∷
    hears "indication, Poll 0 for 10.0.0.0: Down, active" Down 0 Active (M.Poll 7 21 0 ten_net) 21 50 0 47 0 Nothing ∷
    hears "indication, Poll 0 for 10.0.0.0: Down, passive" Down 0 Passive (M.Poll 7 21 0 ten_net) 21 50 0 47 0 Nothing ∷
    hears "indication, Poll 0 for 10.0.0.0: Up, active" Up 77 Active (M.Poll 7 21 0 ten_net) 21 50 0 47 0 (One (M.Error 9 21 1 3 101 202 303)) ∷
    hears "indication, Poll 0 for 10.0.0.0: Up, passive" Up 77 Passive (M.Poll 7 21 0 ten_net) 21 50 0 47 0 (One (M.Error 9 21 1 3 101 202 303)) ∷
    hears "indication, Poll 1 for 10.0.0.0: Down, active" Down 0 Active (M.Poll 7 21 1 ten_net) 21 50 0 47 0 Nothing ∷
    hears "indication, Poll 1 for 10.0.0.0: Down, passive" Down 0 Passive (M.Poll 7 21 1 ten_net) 21 3600 1 47 0 Nothing ∷
    hears "indication, Poll 1 for 10.0.0.0: Up, active" Up 77 Active (M.Poll 7 21 1 ten_net) 21 50 0 47 0 (One (M.Error 9 21 1 3 101 202 303)) ∷
    hears "indication, Poll 1 for 10.0.0.0: Up, passive" Up 77 Passive (M.Poll 7 21 1 ten_net) 21 3600 1 47 0 (One (M.Error 9 21 1 3 101 202 303)) ∷
    hears "indication, Poll 2 for 10.0.0.0: Down, active" Down 0 Active (M.Poll 7 21 2 ten_net) 21 50 0 47 0 Nothing ∷
    hears "indication, Poll 2 for 10.0.0.0: Down, passive" Down 0 Passive (M.Poll 7 21 2 ten_net) 21 50 0 47 0 Nothing ∷
    hears "indication, Poll 2 for 10.0.0.0: Up, active" Up 77 Active (M.Poll 7 21 2 ten_net) 21 50 0 47 0 (One (M.Error 9 21 1 3 101 202 303)) ∷
    hears "indication, Poll 2 for 10.0.0.0: Up, passive" Up 77 Passive (M.Poll 7 21 2 ten_net) 21 50 0 47 0 (One (M.Error 9 21 1 3 101 202 303)) ∷
    hears "indication, Update 0: Down, active" Down 0 Active (M.Update 7 4 0 common) 17 3600 1 47 83 Nothing ∷
    hears "indication, Update 0: Down, passive" Down 0 Passive (M.Update 7 4 0 common) 17 50 0 47 83 Nothing ∷
    hears "indication, Update 0: Up, active" Up 77 Active (M.Update 7 4 0 common) 17 3600 1 47 83 Nothing ∷
    hears "indication, Update 0: Up, passive" Up 77 Passive (M.Update 7 4 0 common) 17 50 0 47 83 Nothing ∷
    hears "indication, Update 1: Down, active" Down 0 Active (M.Update 7 4 1 common) 17 3600 1 47 83 Nothing ∷
    hears "indication, Update 1: Down, passive" Down 0 Passive (M.Update 7 4 1 common) 17 3600 1 47 83 Nothing ∷
    hears "indication, Update 1: Up, active" Up 77 Active (M.Update 7 4 1 common) 17 3600 1 47 83 Nothing ∷
    hears "indication, Update 1: Up, passive" Up 77 Passive (M.Update 7 4 1 common) 17 3600 1 47 83 Nothing ∷
    hears "indication, Update 2: Down, active" Down 0 Active (M.Update 7 4 2 common) 17 3600 1 47 83 Nothing ∷
    hears "indication, Update 2: Down, passive" Down 0 Passive (M.Update 7 4 2 common) 17 50 0 47 83 Nothing ∷
    hears "indication, Update 2: Up, active" Up 77 Active (M.Update 7 4 2 common) 17 3600 1 47 83 Nothing ∷
    hears "indication, Update 2: Up, passive" Up 77 Passive (M.Update 7 4 2 common) 17 50 0 47 83 Nothing ∷
    hears "indication, Update 128: Down, active" Down 0 Active (M.Update 7 4 128 common) 17 3600 1 47 83 Nothing ∷
    hears "indication, Update 128: Down, passive" Down 0 Passive (M.Update 7 4 128 common) 17 50 0 47 83 Nothing ∷
    hears "indication, Update 128: Up, active" Up 77 Active (M.Update 7 4 128 common) 17 3600 1 47 83 Nothing ∷
    hears "indication, Update 128: Up, passive" Up 77 Passive (M.Update 7 4 128 common) 17 50 0 47 83 Nothing ∷
    hears "indication, Update 129: Down, active" Down 0 Active (M.Update 7 4 129 common) 17 3600 1 47 83 Nothing ∷
    hears "indication, Update 129: Down, passive" Down 0 Passive (M.Update 7 4 129 common) 17 3600 1 47 83 Nothing ∷
    hears "indication, Update 129: Up, active" Up 77 Active (M.Update 7 4 129 common) 17 3600 1 47 83 Nothing ∷
    hears "indication, Update 129: Up, passive" Up 77 Passive (M.Update 7 4 129 common) 17 3600 1 47 83 Nothing ∷
    hears "indication, Update 130: Down, active" Down 0 Active (M.Update 7 4 130 common) 17 3600 1 47 83 Nothing ∷
    hears "indication, Update 130: Down, passive" Down 0 Passive (M.Update 7 4 130 common) 17 50 0 47 83 Nothing ∷
    hears "indication, Update 130: Up, active" Up 77 Active (M.Update 7 4 130 common) 17 3600 1 47 83 Nothing ∷
    hears "indication, Update 130: Up, passive" Up 77 Passive (M.Update 7 4 130 common) 17 50 0 47 83 Nothing ∷
    hears "indication, Error 1: Down, active" Down 0 Active (M.Error 7 77 1 2 404 505 606) 17 50 0 47 83 Nothing ∷
    hears "indication, Error 1: Down, passive" Down 0 Passive (M.Error 7 77 1 2 404 505 606) 17 50 0 47 83 Nothing ∷
    hears "indication, Error 1: Up, active" Up 77 Active (M.Error 7 77 1 2 404 505 606) 17 50 0 47 83 Nothing ∷
    hears "indication, Error 1: Up, passive" Up 77 Passive (M.Error 7 77 1 2 404 505 606) 17 50 0 47 83 Nothing ∷
    hears "indication, Error 129: Down, active" Down 0 Active (M.Error 7 77 129 2 404 505 606) 17 50 0 47 83 Nothing ∷
    hears "indication, Error 129: Down, passive" Down 0 Passive (M.Error 7 77 129 2 404 505 606) 17 50 0 47 83 Nothing ∷
    hears "indication, Error 129: Up, active" Up 77 Active (M.Error 7 77 129 2 404 505 606) 17 50 0 47 83 Nothing ∷
    hears "indication, Error 129: Up, passive" Up 77 Passive (M.Error 7 77 129 2 404 505 606) 17 50 0 47 83 Nothing ∷
    []

-- 01: "Tick: Idle does nothing."
unfoldable pub tick_idle : List Line
tick_idle =
    line "tick: Idle" g1 7 (at Idle 0 0 0 0 0 0 0 Unset 0 0 0 0 0) Tick
    (at Idle 0 0 0 0 0 0 0 Unset 0 0 0 0 0) Nothing ∷
    []

-- 01: "Else take 1 from t3; at 0 it is Stop and the tick ends.": whatever else ends on that tick
unfoldable pub tick_t3 : List Line
tick_t3 =
    line "tick, t3 at 2: Acquisition" g1 7 (at Acquisition 4 17 0 0 19 0 2 Unset 0 0 0 47 83) Tick
    (at Acquisition 4 17 0 0 18 0 1 Unset 0 0 0 48 84) Nothing ∷
    line "tick, t3 at 2: Down, active" g0 7 (at Down 4 17 40 130 19 0 2 Active 10 1 0 47 83) Tick
    (at Down 4 17 40 130 18 0 1 Active 10 1 0 48 84) Nothing ∷
    line "tick, t3 at 2: Down, passive" g0 7 (at Down 4 17 40 130 19 0 2 Passive 10 1 0 47 83) Tick
    (at Down 4 17 40 130 18 0 1 Passive 10 1 0 48 84) Nothing ∷
    line "tick, t3 at 2: Up, active" g0 7 (at Up 4 17 40 130 19 77 2 Active 10 1 0 47 83) Tick
    (at Up 4 17 40 130 18 76 1 Active 10 1 0 48 84) Nothing ∷
    line "tick, t3 at 2: Up, passive" g0 7 (at Up 4 17 40 130 19 77 2 Passive 10 1 0 47 83) Tick
    (at Up 4 17 40 130 18 76 1 Passive 10 1 0 48 84) Nothing ∷
    line "tick, t3 at 2: Cease, cause 5" g1 7 (at Cease 4 17 0 0 19 0 2 Unset 0 0 5 47 83) Tick
    (at Cease 4 17 0 0 18 0 1 Unset 0 0 5 48 84) Nothing ∷
    line "tick, t3 at 2: Cease, cause 6" g1 7 (at Cease 4 17 0 0 19 0 2 Unset 0 0 6 47 83) Tick
    (at Cease 4 17 0 0 18 0 1 Unset 0 0 6 48 84) Nothing ∷
    line "tick, t3 at 1: Acquisition" g1 7 (at Acquisition 4 17 0 0 19 0 1 Unset 0 0 0 47 83) Tick
    (at Idle 0 0 0 0 0 0 0 Unset 0 0 0 0 0) Nothing ∷
    line "tick, t3 at 1, t1 at 1: Acquisition" g1 7 (at Acquisition 4 17 0 0 1 0 1 Unset 0 0 0 47 83) Tick
    (at Idle 0 0 0 0 0 0 0 Unset 0 0 0 0 0) Nothing ∷
    line "tick, t3 at 1: Down, active" g0 7 (at Down 4 17 40 130 19 0 1 Active 10 1 0 47 83) Tick
    (at Cease 4 17 0 0 30 0 120 Unset 0 0 5 48 84) (One (M.Cease 9 4 5)) ∷
    line "tick, t3 at 1, t1 at 1, due Up: Down, active" g0 7 (at Down 65535 17 40 130 1 0 1 Active 7 1 0 47 83) Tick
    (at Cease 65535 17 0 0 30 0 120 Unset 0 0 5 48 84) (One (M.Cease 9 65535 5)) ∷
    line "tick, t3 at 1: Down, passive" g0 7 (at Down 4 17 40 130 19 0 1 Passive 10 1 0 47 83) Tick
    (at Cease 4 17 0 0 30 0 120 Unset 0 0 5 48 84) (One (M.Cease 9 4 5)) ∷
    line "tick, t3 at 1, t1 at 1, due Up: Down, passive" g0 7 (at Down 65535 17 40 130 1 0 1 Passive 7 1 0 47 83) Tick
    (at Cease 65535 17 0 0 30 0 120 Unset 0 0 5 48 84) (One (M.Cease 9 65535 5)) ∷
    line "tick, t3 at 1: Up, active" g0 7 (at Up 4 17 40 130 19 77 1 Active 10 1 0 47 83) Tick
    (at Cease 4 17 0 0 30 0 120 Unset 0 0 5 48 84) (One (M.Cease 9 4 5)) ∷
    line "tick, t3 at 1, t1 at 1: Up, active" g0 7 (at Up 4 17 40 130 1 77 1 Active 10 1 0 47 83) Tick
    (at Cease 4 17 0 0 30 0 120 Unset 0 0 5 48 84) (One (M.Cease 9 4 5)) ∷
    line "tick, t3 at 1, t2 at 1: Up, active" g0 7 (at Up 4 17 40 130 19 1 1 Active 10 1 0 47 83) Tick
    (at Cease 4 17 0 0 30 0 120 Unset 0 0 5 48 84) (One (M.Cease 9 4 5)) ∷
    line "tick, t3 at 1, t1 at 1, t2 at 1: Up, active" g0 7 (at Up 4 17 40 130 1 1 1 Active 10 1 0 47 83) Tick
    (at Cease 4 17 0 0 30 0 120 Unset 0 0 5 48 84) (One (M.Cease 9 4 5)) ∷
    line "tick, t3 at 1, t1 at 1, t2 at 1, due Down: Up, active" g0 7 (at Up 4 17 40 130 1 1 1 Active 8 0 0 47 83) Tick
    (at Cease 4 17 0 0 30 0 120 Unset 0 0 5 48 84) (One (M.Cease 9 4 5)) ∷
    line "tick, t3 at 1: Up, passive" g0 7 (at Up 4 17 40 130 19 77 1 Passive 10 1 0 47 83) Tick
    (at Cease 4 17 0 0 30 0 120 Unset 0 0 5 48 84) (One (M.Cease 9 4 5)) ∷
    line "tick, t3 at 1, t1 at 1: Up, passive" g0 7 (at Up 4 17 40 130 1 77 1 Passive 10 1 0 47 83) Tick
    (at Cease 4 17 0 0 30 0 120 Unset 0 0 5 48 84) (One (M.Cease 9 4 5)) ∷
    line "tick, t3 at 1, t2 at 1: Up, passive" g0 7 (at Up 4 17 40 130 19 1 1 Passive 10 1 0 47 83) Tick
    (at Cease 4 17 0 0 30 0 120 Unset 0 0 5 48 84) (One (M.Cease 9 4 5)) ∷
    line "tick, t3 at 1, t1 at 1, t2 at 1: Up, passive" g0 7 (at Up 4 17 40 130 1 1 1 Passive 10 1 0 47 83) Tick
    (at Cease 4 17 0 0 30 0 120 Unset 0 0 5 48 84) (One (M.Cease 9 4 5)) ∷
    line "tick, t3 at 1, t1 at 1, t2 at 1, due Down: Up, passive" g0 7 (at Up 4 17 40 130 1 1 1 Passive 8 0 0 47 83) Tick
    (at Cease 4 17 0 0 30 0 120 Unset 0 0 5 48 84) (One (M.Cease 9 4 5)) ∷
    line "tick, t3 at 1: Cease, cause 5" g1 7 (at Cease 4 17 0 0 19 0 1 Unset 0 0 5 47 83) Tick
    (at Idle 0 0 0 0 0 0 0 Unset 0 0 0 0 0) Nothing ∷
    line "tick, t3 at 1, t1 at 1: Cease, cause 5" g1 7 (at Cease 4 17 0 0 1 0 1 Unset 0 0 5 47 83) Tick
    (at Idle 0 0 0 0 0 0 0 Unset 0 0 0 0 0) Nothing ∷
    line "tick, t3 at 1: Cease, cause 6" g1 7 (at Cease 4 17 0 0 19 0 1 Unset 0 0 6 47 83) Tick
    (at Idle 0 0 0 0 0 0 0 Unset 0 0 0 0 0) Nothing ∷
    line "tick, t3 at 1, t1 at 1: Cease, cause 6" g1 7 (at Cease 4 17 0 0 1 0 1 Unset 0 0 6 47 83) Tick
    (at Idle 0 0 0 0 0 0 0 Unset 0 0 0 0 0) Nothing ∷
    []

-- 01: "Take 1 from t1; at 0, Acquisition sends Request and Cease sends Cease, t1 = P3."
unfoldable pub tick_retry : List Line
tick_retry =
    line "tick, t1 at 19: Acquisition" g1 7 (at Acquisition 4 17 0 0 19 0 50 Unset 0 0 0 47 83) Tick
    (at Acquisition 4 17 0 0 18 0 49 Unset 0 0 0 48 84) Nothing ∷
    line "tick, t1 at 2: Acquisition" g1 7 (at Acquisition 4 17 0 0 2 0 50 Unset 0 0 0 47 83) Tick
    (at Acquisition 4 17 0 0 1 0 49 Unset 0 0 0 48 84) Nothing ∷
    line "tick, t1 at 1: Acquisition, capability 0" g0 7 (at Acquisition 4 17 0 0 1 0 50 Unset 0 0 0 47 83) Tick
    (at Acquisition 4 17 0 0 30 0 49 Unset 0 0 0 48 84) (One (M.Request 9 4 0 30 120)) ∷
    line "tick, t1 at 1: Acquisition, capability 1" g1 7 (at Acquisition 4 17 0 0 1 0 50 Unset 0 0 0 47 83) Tick
    (at Acquisition 4 17 0 0 30 0 49 Unset 0 0 0 48 84) (One (M.Request 9 4 1 30 120)) ∷
    line "tick, t1 at 1: Acquisition, capability 2" g2 7 (at Acquisition 4 17 0 0 1 0 50 Unset 0 0 0 47 83) Tick
    (at Acquisition 4 17 0 0 30 0 49 Unset 0 0 0 48 84) (One (M.Request 9 4 2 30 120)) ∷
    line "tick, t1 at 1, t3 at 2: Acquisition" g1 7 (at Acquisition 4 17 0 0 1 0 2 Unset 0 0 0 47 83) Tick
    (at Acquisition 4 17 0 0 30 0 1 Unset 0 0 0 48 84) (One (M.Request 9 4 1 30 120)) ∷
    line "tick, t1 at 19: Cease, cause 5" g1 7 (at Cease 4 17 0 0 19 0 50 Unset 0 0 5 47 83) Tick
    (at Cease 4 17 0 0 18 0 49 Unset 0 0 5 48 84) Nothing ∷
    line "tick, t1 at 2: Cease, cause 5" g1 7 (at Cease 4 17 0 0 2 0 50 Unset 0 0 5 47 83) Tick
    (at Cease 4 17 0 0 1 0 49 Unset 0 0 5 48 84) Nothing ∷
    line "tick, t1 at 1: Cease, cause 5" g1 7 (at Cease 4 17 0 0 1 0 50 Unset 0 0 5 47 83) Tick
    (at Cease 4 17 0 0 30 0 49 Unset 0 0 5 48 84) (One (M.Cease 9 4 5)) ∷
    line "tick, t1 at 1, t3 at 2: Cease, cause 5" g1 7 (at Cease 4 17 0 0 1 0 2 Unset 0 0 5 47 83) Tick
    (at Cease 4 17 0 0 30 0 1 Unset 0 0 5 48 84) (One (M.Cease 9 4 5)) ∷
    line "tick, t1 at 19: Cease, cause 6" g1 7 (at Cease 4 17 0 0 19 0 50 Unset 0 0 6 47 83) Tick
    (at Cease 4 17 0 0 18 0 49 Unset 0 0 6 48 84) Nothing ∷
    line "tick, t1 at 2: Cease, cause 6" g1 7 (at Cease 4 17 0 0 2 0 50 Unset 0 0 6 47 83) Tick
    (at Cease 4 17 0 0 1 0 49 Unset 0 0 6 48 84) Nothing ∷
    line "tick, t1 at 1: Cease, cause 6" g1 7 (at Cease 4 17 0 0 1 0 50 Unset 0 0 6 47 83) Tick
    (at Cease 4 17 0 0 30 0 49 Unset 0 0 6 48 84) (One (M.Cease 9 4 6)) ∷
    line "tick, t1 at 1, t3 at 2: Cease, cause 6" g1 7 (at Cease 4 17 0 0 1 0 2 Unset 0 0 6 47 83) Tick
    (at Cease 4 17 0 0 30 0 1 Unset 0 0 6 48 84) (One (M.Cease 9 4 6)) ∷
    []

-- Register and heard stay until t1 is 0, whatever they hold.
unfoldable pub tick_listening : List Line
tick_listening =
    line "tick, t1 at 2, due Up: Down, active" g0 7 (at Down 4 17 40 130 2 0 50 Active 7 1 0 47 83) Tick
    (at Down 4 17 40 130 1 0 49 Active 7 1 0 48 84) Nothing ∷
    line "tick, t1 at 2, due Down: Up, active" g0 7 (at Up 4 17 40 130 2 77 50 Active 8 0 0 47 83) Tick
    (at Up 4 17 40 130 1 76 49 Active 8 0 0 48 84) Nothing ∷
    line "tick, t1 at 2, due Up: Down, passive" g0 7 (at Down 4 17 40 130 2 0 50 Passive 7 1 0 47 83) Tick
    (at Down 4 17 40 130 1 0 49 Passive 7 1 0 48 84) Nothing ∷
    line "tick, t1 at 2, due Down: Up, passive" g0 7 (at Up 4 17 40 130 2 77 50 Passive 8 0 0 47 83) Tick
    (at Up 4 17 40 130 1 76 49 Passive 8 0 0 48 84) Nothing ∷
    line "tick, all timers at their largest: Down, active" g0 7 (at Down 4 17 122 482 122 0 3600 Active 10 1 0 47 83) Tick
    (at Down 4 17 122 482 121 0 3599 Active 10 1 0 48 84) Nothing ∷
    line "tick, all timers at their largest: Up, active" g0 7 (at Up 4 17 122 482 122 482 3600 Active 10 1 0 47 83) Tick
    (at Up 4 17 122 482 121 481 3599 Active 10 1 0 48 84) Nothing ∷
    line "tick, all timers at their largest: Down, passive" g0 7 (at Down 4 17 122 482 122 0 3600 Passive 10 1 0 47 83) Tick
    (at Down 4 17 122 482 121 0 3599 Passive 10 1 0 48 84) Nothing ∷
    line "tick, all timers at their largest: Up, passive" g0 7 (at Up 4 17 122 482 122 482 3600 Passive 10 1 0 47 83) Tick
    (at Up 4 17 122 482 121 481 3599 Passive 10 1 0 48 84) Nothing ∷
    []

-- 01: "Down and Up shift heard into the register as its lowest bit, drop the highest, clear heard and set t1 = T1.
-- With n ones, active: Down goes Up at 3 or more, Up goes Down at 1 or fewer; passive: Up at 1 or more, Down at 0."
-- Register and heard before, register after.
unfoldable pub registers : List Line
registers =
    stays_down_active 0 0 0 ∷ stays_down_active 0 1 1 ∷ stays_down_active 1 0 2 ∷ stays_down_active 1 1 3 ∷
    stays_down_active 2 0 4 ∷ stays_down_active 2 1 5 ∷ stays_down_active 3 0 6 ∷ rises_active 3 1 7 ∷
    stays_down_active 4 0 8 ∷ stays_down_active 4 1 9 ∷ stays_down_active 5 0 10 ∷ rises_active 5 1 11 ∷
    stays_down_active 6 0 12 ∷ rises_active 6 1 13 ∷ rises_active 7 0 14 ∷ rises_active 7 1 15 ∷
    stays_down_active 8 0 0 ∷ stays_down_active 8 1 1 ∷ stays_down_active 9 0 2 ∷ stays_down_active 9 1 3 ∷
    stays_down_active 10 0 4 ∷ stays_down_active 10 1 5 ∷ stays_down_active 11 0 6 ∷ rises_active 11 1 7 ∷
    stays_down_active 12 0 8 ∷ stays_down_active 12 1 9 ∷ stays_down_active 13 0 10 ∷ rises_active 13 1 11 ∷
    stays_down_active 14 0 12 ∷ rises_active 14 1 13 ∷ rises_active 15 0 14 ∷ rises_active 15 1 15 ∷
    stays_down_passive 0 0 0 ∷ rises_passive 0 1 1 ∷ rises_passive 1 0 2 ∷ rises_passive 1 1 3 ∷
    rises_passive 2 0 4 ∷ rises_passive 2 1 5 ∷ rises_passive 3 0 6 ∷ rises_passive 3 1 7 ∷
    rises_passive 4 0 8 ∷ rises_passive 4 1 9 ∷ rises_passive 5 0 10 ∷ rises_passive 5 1 11 ∷
    rises_passive 6 0 12 ∷ rises_passive 6 1 13 ∷ rises_passive 7 0 14 ∷ rises_passive 7 1 15 ∷
    stays_down_passive 8 0 0 ∷ rises_passive 8 1 1 ∷ rises_passive 9 0 2 ∷ rises_passive 9 1 3 ∷
    rises_passive 10 0 4 ∷ rises_passive 10 1 5 ∷ rises_passive 11 0 6 ∷ rises_passive 11 1 7 ∷
    rises_passive 12 0 8 ∷ rises_passive 12 1 9 ∷ rises_passive 13 0 10 ∷ rises_passive 13 1 11 ∷
    rises_passive 14 0 12 ∷ rises_passive 14 1 13 ∷ rises_passive 15 0 14 ∷ rises_passive 15 1 15 ∷
    falls_active 0 0 0 ∷ falls_active 0 1 1 ∷ falls_active 1 0 2 ∷ stays_up_active 1 1 3 ∷
    falls_active 2 0 4 ∷ stays_up_active 2 1 5 ∷ stays_up_active 3 0 6 ∷ stays_up_active 3 1 7 ∷
    falls_active 4 0 8 ∷ stays_up_active 4 1 9 ∷ stays_up_active 5 0 10 ∷ stays_up_active 5 1 11 ∷
    stays_up_active 6 0 12 ∷ stays_up_active 6 1 13 ∷ stays_up_active 7 0 14 ∷ stays_up_active 7 1 15 ∷
    falls_active 8 0 0 ∷ falls_active 8 1 1 ∷ falls_active 9 0 2 ∷ stays_up_active 9 1 3 ∷
    falls_active 10 0 4 ∷ stays_up_active 10 1 5 ∷ stays_up_active 11 0 6 ∷ stays_up_active 11 1 7 ∷
    falls_active 12 0 8 ∷ stays_up_active 12 1 9 ∷ stays_up_active 13 0 10 ∷ stays_up_active 13 1 11 ∷
    stays_up_active 14 0 12 ∷ stays_up_active 14 1 13 ∷ stays_up_active 15 0 14 ∷ stays_up_active 15 1 15 ∷
    falls_passive 0 0 0 ∷ stays_up_passive 0 1 1 ∷ stays_up_passive 1 0 2 ∷ stays_up_passive 1 1 3 ∷
    stays_up_passive 2 0 4 ∷ stays_up_passive 2 1 5 ∷ stays_up_passive 3 0 6 ∷ stays_up_passive 3 1 7 ∷
    stays_up_passive 4 0 8 ∷ stays_up_passive 4 1 9 ∷ stays_up_passive 5 0 10 ∷ stays_up_passive 5 1 11 ∷
    stays_up_passive 6 0 12 ∷ stays_up_passive 6 1 13 ∷ stays_up_passive 7 0 14 ∷ stays_up_passive 7 1 15 ∷
    falls_passive 8 0 0 ∷ stays_up_passive 8 1 1 ∷ stays_up_passive 9 0 2 ∷ stays_up_passive 9 1 3 ∷
    stays_up_passive 10 0 4 ∷ stays_up_passive 10 1 5 ∷ stays_up_passive 11 0 6 ∷ stays_up_passive 11 1 7 ∷
    stays_up_passive 12 0 8 ∷ stays_up_passive 12 1 9 ∷ stays_up_passive 13 0 10 ∷ stays_up_passive 13 1 11 ∷
    stays_up_passive 14 0 12 ∷ stays_up_passive 14 1 13 ∷ stays_up_passive 15 0 14 ∷ stays_up_passive 15 1 15 ∷
    []

-- 01: "Active then sends Hello with the new state. Entering Up sends Poll, t2 = T2. If Up before this tick and still
-- Up, take 1 from t2; at 0 send Poll, t2 = T2." "Leaving Up zeroes t2 ..; going Down by a tick keeps the register." t3
-- goes on by one.
unfoldable pub tick_poll : List Line
tick_poll =
    line "tick, t2 at 2: Up, active" g0 7 (at Up 4 17 40 130 19 2 50 Active 10 1 0 47 83) Tick
    (at Up 4 17 40 130 18 1 49 Active 10 1 0 48 84) Nothing ∷
    line "tick, t2 at 1: Up, active" g0 7 (at Up 4 17 40 130 19 1 50 Active 10 1 0 47 83) Tick
    (at Up 5 17 40 130 18 130 49 Active 10 1 0 48 84) (One (M.Poll 9 5 1 common)) ∷
    line "tick, t1 at 2, t2 at 1: Up, active" g0 7 (at Up 4 17 40 130 2 1 50 Active 10 1 0 47 83) Tick
    (at Up 5 17 40 130 1 130 49 Active 10 1 0 48 84) (One (M.Poll 9 5 1 common)) ∷
    line "tick, t1 at 1, t2 at 2: Up, active" g0 7 (at Up 4 17 40 130 1 2 50 Active 10 1 0 47 83) Tick
    (at Up 4 17 40 130 40 1 49 Active 5 0 0 48 84) (One (M.Hello 9 4 1)) ∷
    line "tick, t1 at 1, t2 at 1: Up, active" g0 7 (at Up 4 17 40 130 1 1 50 Active 10 1 0 47 83) Tick
    (at Up 5 17 40 130 40 130 49 Active 5 0 0 48 84) (Two (M.Hello 9 4 1) (M.Poll 9 5 1 common)) ∷
    line "tick, t1 at 1, t2 at 1, t3 at 2: Up, active" g0 7 (at Up 4 17 40 130 1 1 2 Active 10 1 0 47 83) Tick
    (at Up 5 17 40 130 40 130 1 Active 5 0 0 48 84) (Two (M.Hello 9 4 1) (M.Poll 9 5 1 common)) ∷
    line "tick, t2 at 1, t3 at 2: Up, active" g0 7 (at Up 4 17 40 130 19 1 2 Active 10 1 0 47 83) Tick
    (at Up 5 17 40 130 18 130 1 Active 10 1 0 48 84) (One (M.Poll 9 5 1 common)) ∷
    line "tick, t1 at 1, t2 at 1, due Down: Up, active" g0 7 (at Up 4 17 40 130 1 1 50 Active 8 0 0 47 83) Tick
    (at Down 4 17 40 130 40 0 49 Active 0 0 0 48 84) (One (M.Hello 9 4 2)) ∷
    line "tick, t1 at 1, t2 at 2, due Down: Up, active" g0 7 (at Up 4 17 40 130 1 2 50 Active 8 0 0 47 83) Tick
    (at Down 4 17 40 130 40 0 49 Active 0 0 0 48 84) (One (M.Hello 9 4 2)) ∷
    line "tick, t1 at 1, t3 at 2, due Up: Down, active" g0 7 (at Down 4 17 40 130 1 0 2 Active 3 1 0 47 83) Tick
    (at Up 5 17 40 130 40 130 1 Active 7 0 0 48 84) (Two (M.Hello 9 4 1) (M.Poll 9 5 1 common)) ∷
    line "tick, Up entered with t3 at 3000: Down, active" g0 7 (at Down 4 17 122 482 1 0 3000 Active 3 1 0 47 83) Tick
    (at Up 5 17 122 482 122 482 2999 Active 7 0 0 48 84) (Two (M.Hello 9 4 1) (M.Poll 9 5 1 common)) ∷
    line "tick, Up left with t3 at 3000: Up, active" g0 7 (at Up 4 17 40 130 1 77 3000 Active 8 0 0 47 83) Tick
    (at Down 4 17 40 130 40 0 2999 Active 0 0 0 48 84) (One (M.Hello 9 4 2)) ∷
    line "tick, t2 at 2: Up, passive" g0 7 (at Up 4 17 40 130 19 2 50 Passive 10 1 0 47 83) Tick
    (at Up 4 17 40 130 18 1 49 Passive 10 1 0 48 84) Nothing ∷
    line "tick, t2 at 1: Up, passive" g0 7 (at Up 4 17 40 130 19 1 50 Passive 10 1 0 47 83) Tick
    (at Up 5 17 40 130 18 130 49 Passive 10 1 0 48 84) (One (M.Poll 9 5 1 common)) ∷
    line "tick, t1 at 2, t2 at 1: Up, passive" g0 7 (at Up 4 17 40 130 2 1 50 Passive 10 1 0 47 83) Tick
    (at Up 5 17 40 130 1 130 49 Passive 10 1 0 48 84) (One (M.Poll 9 5 1 common)) ∷
    line "tick, t1 at 1, t2 at 2: Up, passive" g0 7 (at Up 4 17 40 130 1 2 50 Passive 10 1 0 47 83) Tick
    (at Up 4 17 40 130 40 1 49 Passive 5 0 0 48 84) Nothing ∷
    line "tick, t1 at 1, t2 at 1: Up, passive" g0 7 (at Up 4 17 40 130 1 1 50 Passive 10 1 0 47 83) Tick
    (at Up 5 17 40 130 40 130 49 Passive 5 0 0 48 84) (One (M.Poll 9 5 1 common)) ∷
    line "tick, t1 at 1, t2 at 1, t3 at 2: Up, passive" g0 7 (at Up 4 17 40 130 1 1 2 Passive 10 1 0 47 83) Tick
    (at Up 5 17 40 130 40 130 1 Passive 5 0 0 48 84) (One (M.Poll 9 5 1 common)) ∷
    line "tick, t2 at 1, t3 at 2: Up, passive" g0 7 (at Up 4 17 40 130 19 1 2 Passive 10 1 0 47 83) Tick
    (at Up 5 17 40 130 18 130 1 Passive 10 1 0 48 84) (One (M.Poll 9 5 1 common)) ∷
    line "tick, t1 at 1, t2 at 1, due Down: Up, passive" g0 7 (at Up 4 17 40 130 1 1 50 Passive 8 0 0 47 83) Tick
    (at Down 4 17 40 130 40 0 49 Passive 0 0 0 48 84) Nothing ∷
    line "tick, t1 at 1, t2 at 2, due Down: Up, passive" g0 7 (at Up 4 17 40 130 1 2 50 Passive 8 0 0 47 83) Tick
    (at Down 4 17 40 130 40 0 49 Passive 0 0 0 48 84) Nothing ∷
    line "tick, t1 at 1, t3 at 2, due Up: Down, passive" g0 7 (at Down 4 17 40 130 1 0 2 Passive 3 1 0 47 83) Tick
    (at Up 5 17 40 130 40 130 1 Passive 7 0 0 48 84) (One (M.Poll 9 5 1 common)) ∷
    line "tick, Up entered with t3 at 3000: Down, passive" g0 7 (at Down 4 17 122 482 1 0 3000 Passive 3 1 0 47 83) Tick
    (at Up 5 17 122 482 122 482 2999 Passive 7 0 0 48 84) (One (M.Poll 9 5 1 common)) ∷
    line "tick, Up left with t3 at 3000: Up, passive" g0 7 (at Up 4 17 40 130 1 77 3000 Passive 8 0 0 47 83) Tick
    (at Down 4 17 40 130 40 0 2999 Passive 0 0 0 48 84) Nothing ∷
    []

-- 01: "S goes up by one, 65,535 to 0, just before each Poll only.": so Hello carries the old S and the Poll after it
-- the new one
unfoldable pub tick_s : List Line
tick_s =
    line "tick, S 65535, t2 at 1: Up, active" g0 7 (at Up 65535 17 40 130 19 1 50 Active 10 1 0 47 83) Tick
    (at Up 0 17 40 130 18 130 49 Active 10 1 0 48 84) (One (M.Poll 9 0 1 common)) ∷
    line "tick, S 65534, t2 at 1: Up, active" g0 7 (at Up 65534 17 40 130 19 1 50 Active 10 1 0 47 83) Tick
    (at Up 65535 17 40 130 18 130 49 Active 10 1 0 48 84) (One (M.Poll 9 65535 1 common)) ∷
    line "tick, S 0, t2 at 1: Up, active" g0 7 (at Up 0 17 40 130 19 1 50 Active 10 1 0 47 83) Tick
    (at Up 1 17 40 130 18 130 49 Active 10 1 0 48 84) (One (M.Poll 9 1 1 common)) ∷
    line "tick, S 65535, t1 at 1, t2 at 1: Up, active" g0 7 (at Up 65535 17 40 130 1 1 50 Active 10 1 0 47 83) Tick
    (at Up 0 17 40 130 40 130 49 Active 5 0 0 48 84) (Two (M.Hello 9 65535 1) (M.Poll 9 0 1 common)) ∷
    line "tick, S 65535, due Up: Down, active" g0 7 (at Down 65535 17 40 130 1 0 50 Active 3 1 0 47 83) Tick
    (at Up 0 17 40 130 40 130 49 Active 7 0 0 48 84) (Two (M.Hello 9 65535 1) (M.Poll 9 0 1 common)) ∷
    line "tick, S 65535, t1 at 1, no Poll due: Up, active" g0 7 (at Up 65535 17 40 130 1 77 50 Active 10 1 0 47 83) Tick
    (at Up 65535 17 40 130 40 76 49 Active 5 0 0 48 84) (One (M.Hello 9 65535 1)) ∷
    line "tick, S 65535, Up left: Up, active" g0 7 (at Up 65535 17 40 130 1 1 50 Active 8 0 0 47 83) Tick
    (at Down 65535 17 40 130 40 0 49 Active 0 0 0 48 84) (One (M.Hello 9 65535 2)) ∷
    line "tick, S 65535, t2 at 1: Up, passive" g0 7 (at Up 65535 17 40 130 19 1 50 Passive 10 1 0 47 83) Tick
    (at Up 0 17 40 130 18 130 49 Passive 10 1 0 48 84) (One (M.Poll 9 0 1 common)) ∷
    line "tick, S 65534, t2 at 1: Up, passive" g0 7 (at Up 65534 17 40 130 19 1 50 Passive 10 1 0 47 83) Tick
    (at Up 65535 17 40 130 18 130 49 Passive 10 1 0 48 84) (One (M.Poll 9 65535 1 common)) ∷
    line "tick, S 0, t2 at 1: Up, passive" g0 7 (at Up 0 17 40 130 19 1 50 Passive 10 1 0 47 83) Tick
    (at Up 1 17 40 130 18 130 49 Passive 10 1 0 48 84) (One (M.Poll 9 1 1 common)) ∷
    line "tick, S 65535, t1 at 1, t2 at 1: Up, passive" g0 7 (at Up 65535 17 40 130 1 1 50 Passive 10 1 0 47 83) Tick
    (at Up 0 17 40 130 40 130 49 Passive 5 0 0 48 84) (One (M.Poll 9 0 1 common)) ∷
    line "tick, S 65535, due Up: Down, passive" g0 7 (at Down 65535 17 40 130 1 0 50 Passive 3 1 0 47 83) Tick
    (at Up 0 17 40 130 40 130 49 Passive 7 0 0 48 84) (One (M.Poll 9 0 1 common)) ∷
    line "tick, S 65535, t1 at 1, no Poll due: Up, passive" g0 7 (at Up 65535 17 40 130 1 77 50 Passive 10 1 0 47 83) Tick
    (at Up 65535 17 40 130 40 76 49 Passive 5 0 0 48 84) Nothing ∷
    line "tick, S 65535, Up left: Up, passive" g0 7 (at Up 65535 17 40 130 1 1 50 Passive 8 0 0 47 83) Tick
    (at Down 65535 17 40 130 40 0 49 Passive 0 0 0 48 84) Nothing ∷
    []

-- 02, L5: "holding at 120"; "Every tick carried out outside Idle adds one to each below 120"; READINGS: also the one on
-- which t3 ends, and "zero only if the tick ends in Idle". Acquisition and Cease keep the counts, A and B set them.
unfoldable pub tick_counts : List Line
tick_counts =
    line "tick, counts 0 and 119: Acquisition" g0 7 (at Acquisition 4 17 0 0 19 0 50 Unset 0 0 0 0 119) Tick
    (at Acquisition 4 17 0 0 18 0 49 Unset 0 0 0 1 120) Nothing ∷
    line "tick, counts 120 and 0: Down" g0 7 (at Down 4 17 40 130 19 0 50 Passive 10 1 0 120 0) Tick
    (at Down 4 17 40 130 18 0 49 Passive 10 1 0 120 1) Nothing ∷
    line "tick, counts 119 and 120: Up" g0 7 (at Up 4 17 40 130 19 77 50 Active 10 1 0 119 120) Tick
    (at Up 4 17 40 130 18 76 49 Active 10 1 0 120 120) Nothing ∷
    line "tick, counts 29 and 118: Cease" g0 7 (at Cease 4 17 0 0 19 0 50 Unset 0 0 5 29 118) Tick
    (at Cease 4 17 0 0 18 0 49 Unset 0 0 5 30 119) Nothing ∷
    line "tick, t3 at 1, counts 29 and 120: Down" g0 7 (at Down 4 17 40 130 19 0 1 Active 10 1 0 29 120) Tick
    (at Cease 4 17 0 0 30 0 120 Unset 0 0 5 30 120) (One (M.Cease 9 4 5)) ∷
    line "tick, t3 at 1, counts 120 and 119: Up" g0 7 (at Up 4 17 40 130 19 77 1 Passive 10 1 0 120 119) Tick
    (at Cease 4 17 0 0 30 0 120 Unset 0 0 5 120 120) (One (M.Cease 9 4 5)) ∷
    line "tick, t3 at 1, counts 29 and 30: Acquisition" g0 7 (at Acquisition 4 17 0 0 19 0 1 Unset 0 0 0 29 30) Tick
    (at Idle 0 0 0 0 0 0 0 Unset 0 0 0 0 0) Nothing ∷
    line "tick, t3 at 1, counts 29 and 30: Cease" g0 7 (at Cease 4 17 0 0 19 0 1 Unset 0 0 5 29 30) Tick
    (at Idle 0 0 0 0 0 0 0 Unset 0 0 0 0 0) Nothing ∷
    line "tick: Idle" g0 7 (at Idle 0 0 0 0 0 0 0 Unset 0 0 0 0 0) Tick
    (at Idle 0 0 0 0 0 0 0 Unset 0 0 0 0 0) Nothing ∷
    line "Start, counts 29 and 119: Up" g0 7 (at Up 4 17 40 130 19 77 50 Active 10 1 0 29 119) Start
    (at Acquisition 4 17 0 0 30 0 120 Unset 0 0 0 29 119) (One (M.Request 9 4 0 30 120)) ∷
    line "Stop, counts 29 and 119: Up" g0 7 (at Up 4 17 40 130 19 77 50 Active 10 1 0 29 119) Stop
    (at Cease 4 17 0 0 30 0 120 Unset 0 0 5 29 119) (One (M.Cease 9 4 5)) ∷
    line "Confirm, counts 1 and 2: Acquisition" g2 7 (at Acquisition 4 17 0 0 19 0 50 Unset 0 0 0 1 2) (Received (M.Confirm 7 4 0 60 200))
    (at Down 4 17 62 202 62 0 120 Passive 0 0 0 120 120) Nothing ∷
    line "Request, counts 1 and 2: Up" g2 7 (at Up 4 17 40 130 19 77 50 Active 10 1 0 1 2) (Received (M.Request 7 21 0 60 200))
    (at Down 4 21 62 202 62 0 120 Passive 0 0 0 120 120) (One (M.Confirm 9 21 2 30 120)) ∷
    []

-- the sheet, row by row and sentence by sentence
unfoldable pub sheet : List (List Line)
sheet =
    acceptable_row ∷ unacceptable_row ∷ confirm_row ∷ refuse_row ∷ cease_row ∷ cease_ack_row ∷ hello_row ∷ poll_row ∷
    update_row ∷ start_row ∷ stop_row ∷ i_heard_you_received ∷ strays ∷ error_received ∷ intervals ∷
    modes ∷ indications ∷ tick_idle ∷ tick_t3 ∷ tick_retry ∷ tick_listening ∷ registers ∷ tick_poll ∷ tick_s ∷ tick_counts ∷ []

-- every line comes out: what the machine makes of it is what it says
abbrev pub MachineSheet : Type 0
MachineSheet = map (map computed) sheet ≡ map (map written) sheet
