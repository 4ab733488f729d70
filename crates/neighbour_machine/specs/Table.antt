-- 01's table of "One neighbour": a definition for each row, its cells in the order Idle, Acquisition, Down, Up, Cease.
-- A row is given the record once R is set by a command, an indication is noted, and a Hello's or a Poll's count zeroed.
use Rattle.std.specs.Prelude.{ℕ, Option, Some, None, cond, eqb}
use Rattle.message.specs.declared.Message.{Message}
use Rattle.message.specs.declared.Message.TheVariants as M
use Rattle.neighbour.specs.declared.Phase.TheVariants.{Acquisition, Cease}
use Rattle.neighbour.specs.declared.Mode.{Mode}
use Rattle.neighbour.specs.declared.Mode.TheVariants.{Unset, Active, Passive}
use Rattle.neighbour.specs.declared.Settings.{Settings}
use Rattle.neighbour.specs.declared.Neighbour.{Neighbour}
use Rattle.neighbour_messages.specs.declared.Head.{Head}
use Rattle.neighbour.specs.declared.Terms.{Terms}
use Rattle.neighbour.specs.Record.{under, idle, left_idle, waiting, initialised}
use Rattle.neighbour_messages.specs.Sent.{request_message, confirm_message, refuse_message, cease_message, stray_cease_message, cease_ack_message, hello_message, i_heard_you_message, update_message, error_message}
use Rattle.neighbour_machine.specs.declared.Reply.{Reply}
use Rattle.neighbour_machine.specs.declared.Reply.TheVariants.{Nothing, One, Two}
use Rattle.neighbour_machine.specs.declared.After.{After}

-- what a third message would make of a reply, so that none is dropped unseen: no step leaves it (`NoThird` in
-- Laws.antt)
abbrev pub overfull : Reply
overfull = Two (M.Update 0 0 0 0) (M.Update 0 0 0 0)

-- 01: "A reply is at most two messages, the second written straight after the first"
unfoldable pub followed : Reply → Message → Reply
followed Nothing m = One m
followed (One first) m = Two first m
followed (Two first second) m = overfull

-- this record, and nothing sent
unfoldable pub unanswered : Neighbour → After
unanswered n = record { neighbour = n; reply = Nothing }

-- this record, and one message sent
unfoldable pub answers : Neighbour → Message → After
answers n m = record { neighbour = n; reply = One m }

-- the same record, and one message more
unfoldable pub says : After → Message → After
says x m = record { neighbour = x.neighbour; reply = followed x.reply m }

-- 01: "then Hello if active"; "Active then sends Hello with the new state"
unfoldable pub hello_if : Mode → Settings → After → After
hello_if Unset g x = x
hello_if Active g x = says x (hello_message g x.neighbour)
hello_if Passive g x = x

abbrev pub then_hello : Settings → After → After
then_hello g x = hello_if x.neighbour.mode g x

-- 01: "A: send Confirm. A and B: T1, T2, M set, .., then Hello if active."
unfoldable pub does_a : Settings → Neighbour → ℕ → ℕ → Mode → After
does_a g n period1 period2 mode =
    then_hello g (answers (initialised n period1 period2 mode) (confirm_message g (initialised n period1 period2 mode)))

unfoldable pub does_b : Settings → Neighbour → ℕ → ℕ → Mode → After
does_b g n period1 period2 mode = then_hello g (unanswered (initialised n period1 period2 mode))

-- 01: "Cease n: enter Cease, send it with status n, keep n as cause for repeats."
unfoldable pub ceases : Settings → Neighbour → ℕ → After
ceases g n cause = answers (waiting n Cease cause) (cease_message g (waiting n Cease cause))

-- 01: "send Cease"
unfoldable pub repeats_cease : Settings → Neighbour → After
repeats_cease g n = answers n (cease_message g n)

-- 01: "Acquisition, Request"
unfoldable pub acquires : Settings → Neighbour → After
acquires g n = answers (waiting n Acquisition 0) (request_message g (waiting n Acquisition 0))

-- 02: "Idle answer Confirm, Refuse, Hello, I-H-U, Poll and Update with Cease .. the neighbour staying Idle"; "`quiet=1` ..
-- keeps the old behaviour", 01's cells "-" (I-H-U has no row)
unfoldable pub stray : Settings → Neighbour → After
stray g n = cond (eqb g.quiet 1) (unanswered n) (answers n (stray_cease_message g))

-- | Request, acceptable   | Down, A | Down, A | Down, A | Down, A | send Cease |
-- | Request, unacceptable | send Refuse 6 | Idle | Cease 6 | Cease 6 | send Cease |
unfoldable pub on_request : Settings → Neighbour → ℕ → Option Terms → After
on_request g n sequence (Some t) =
    under n.phase
    (does_a g (left_idle sequence) t.period1 t.period2 t.mode)
    (does_a g n t.period1 t.period2 t.mode) (does_a g n t.period1 t.period2 t.mode) (does_a g n t.period1 t.period2 t.mode)
    (repeats_cease g n)
on_request g n sequence None =
    under n.phase (answers n (refuse_message g sequence 6)) (unanswered idle) (ceases g n 6) (ceases g n 6) (repeats_cease g n)

-- 01: "Down, B, or Idle if unacceptable"
unfoldable pub settles : Settings → Neighbour → Option Terms → After
settles g n (Some t) = does_b g n t.period1 t.period2 t.mode
settles g n None = unanswered idle

-- | Confirm | stray | Down, B, or Idle if unacceptable | - | - | - |
unfoldable pub on_confirm : Settings → Neighbour → Option Terms → After
on_confirm g n offer = under n.phase (stray g n) (settles g n offer) (unanswered n) (unanswered n) (unanswered n)

-- | Refuse | stray | Idle | - | - | - |
unfoldable pub on_refuse : Settings → Neighbour → After
on_refuse g n = under n.phase (stray g n) (unanswered idle) (unanswered n) (unanswered n) (unanswered n)

-- | Cease | Idle, Cease-ack, in every state |
unfoldable pub on_cease : Settings → ℕ → After
on_cease g sequence = answers idle (cease_ack_message g sequence)

-- | Cease-ack | - | - | - | - | Idle |
unfoldable pub on_cease_ack : Neighbour → After
on_cease_ack n = under n.phase (unanswered n) (unanswered n) (unanswered n) (unanswered n) (unanswered idle)

-- | Hello | stray | - | I-H-U | I-H-U | - |
unfoldable pub on_hello : Settings → Neighbour → After
on_hello g n =
    under n.phase (stray g n) (unanswered n) (answers n (i_heard_you_message g n)) (answers n (i_heard_you_message g n)) (unanswered n)

-- I-H-U has no row: it is an indication, stray in Idle, or nothing
unfoldable pub on_i_heard_you : Settings → Neighbour → After
on_i_heard_you g n = under n.phase (stray g n) (unanswered n) (unanswered n) (unanswered n) (unanswered n)

-- 01: "Update, or Error 3 for another net"
unfoldable pub answers_poll : Settings → Neighbour → ℕ → Head → After
answers_poll g n net head = cond (eqb net g.net) (answers n (update_message g n)) (answers n (error_message g n 3 head))

-- | Poll | stray | - | - | Update, or Error 3 for another net | - |
unfoldable pub on_poll : Settings → Neighbour → ℕ → Head → After
on_poll g n net head = under n.phase (stray g n) (unanswered n) (unanswered n) (answers_poll g n net head) (unanswered n)

-- | Update | stray | - | - | replace rows | - |: the rows stand outside this record
unfoldable pub on_update : Settings → Neighbour → After
on_update g n = under n.phase (stray g n) (unanswered n) (unanswered n) (unanswered n) (unanswered n)

-- | Start | Acquisition, Request | same | same | same | - |
unfoldable pub on_start : Settings → Neighbour → After
on_start g n = under n.phase (acquires g (left_idle 0)) (acquires g n) (acquires g n) (acquires g n) (unanswered n)

-- | Stop | - | Idle | Cease 5 | Cease 5 | Idle |
unfoldable pub on_stop : Settings → Neighbour → After
on_stop g n = under n.phase (unanswered n) (unanswered idle) (ceases g n 5) (ceases g n 5) (unanswered idle)
