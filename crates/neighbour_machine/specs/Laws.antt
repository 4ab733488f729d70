-- What holds after every event, whatever the record and the message: laws of `step_of`. Their proofs are in proofs/Theorems.antt.
use Rattle.std.specs.Prelude.{ℕ, ◌+◌, ◌%◌, ◌≡◌, Bool, true, false, cond, not, ◌&&◌, ◌||◌, eqb}
use Rattle.message.specs.Kinds.{kind_of, sequence_of}
use Rattle.message.specs.declared.Message.{Message}
use Rattle.message.specs.declared.Message.TheVariants as M
use Rattle.message.specs.declared.Kind.TheVariants as K
use Rattle.neighbour.specs.declared.Phase.{Phase}
use Rattle.neighbour.specs.declared.Phase.TheVariants.{Idle, Acquisition, Down, Up, Cease}
use Rattle.neighbour.specs.declared.Settings.{Settings}
use Rattle.neighbour.specs.declared.Neighbour.{Neighbour}
use Rattle.neighbour_messages.specs.declared.Head.{Head}
use Rattle.neighbour.specs.Record.{is_idle, idle, is_up, with_quiet}
use Rattle.neighbour.specs.Rules.{same, is_command}
use Rattle.neighbour_wellformed.specs.Formed.{well_formed}
use Rattle.neighbour_machine.specs.declared.Event.{Event}
use Rattle.neighbour_machine.specs.declared.Event.TheVariants.{Received, Start, Stop, Tick}
use Rattle.neighbour_machine.specs.declared.Reply.{Reply}
use Rattle.neighbour_machine.specs.declared.Reply.TheVariants.{Nothing, One, Two}
use Rattle.neighbour_machine.specs.declared.After.{After}
use Rattle.neighbour_machine.specs.Table.{overfull, unanswered}
use Rattle.neighbour_machine.specs.Step.{step_of}

abbrev pub is_down : Phase → Bool
is_down Idle = false
is_down Acquisition = false
is_down Down = true
is_down Up = false
is_down Cease = false

abbrev pub is_tick : Event → Bool
is_tick (Received m) = false
is_tick Start = false
is_tick Stop = false
is_tick Tick = true

abbrev pub is_poll : Message → Bool
is_poll m = same (kind_of m) K.Poll

abbrev pub sends_poll : Reply → Bool
sends_poll Nothing = false
sends_poll (One m) = is_poll m
sends_poll (Two first second) = is_poll first || is_poll second

-- the number that a command brings, or the one that is there
abbrev pub brought : Event → ℕ → ℕ
brought (Received m) r = cond (is_command (kind_of m)) (sequence_of m) r
brought Start r = r
brought Stop r = r
brought Tick r = r

-- what holds of an outcome, given the phase and S before, R once a command has set it, and whether the event is a tick
pub record Lawful (phase : Phase) (s r : ℕ) (tick : Bool) (x : After) : Type 0 where
  -- 01: "Every call keeps a state well formed."
  pub formed : well_formed x.neighbour ≡ true
  -- S is 0 where Idle is left, kept or entered, goes up where a Poll is sent, and else stays
  pub s_moves :
      x.neighbour.s
      ≡ cond (is_idle phase || is_idle x.neighbour.phase) 0 (cond (sends_poll x.reply) ((s + 1) % 65536) s)
  -- R is 0 in Idle, and else the number of the command, or the one that was there
  pub r_moves : x.neighbour.r ≡ cond (is_idle x.neighbour.phase) 0 r
  -- Up is entered by a tick in Down, and in no other way
  pub up_entered : (not (is_up x.neighbour.phase) || (is_up phase || (is_down phase && tick))) ≡ true

-- every event, from every well-formed record
abbrev pub StepLawful : Type 0
StepLawful =
    (g : Settings) (asn : ℕ) (n : Neighbour) (event : Event) (head : Head)
    → well_formed n ≡ true
    → Lawful n.phase n.s (brought event n.r) (is_tick event) (step_of g asn n event head)

-- a message of fixed length: any but an Update
abbrev pub short : Message → Bool
short m = not (same (kind_of m) K.Update)

-- the Update that we send: our AS, the status of Up, the common net
abbrev pub our_update : Settings → Message → Bool
our_update g (M.Request a q s hello poll) = false
our_update g (M.Confirm a q s hello poll) = false
our_update g (M.Refuse a q s) = false
our_update g (M.Cease a q s) = false
our_update g (M.CeaseAck a q s) = false
our_update g (M.Hello a q s) = false
our_update g (M.IHeardYou a q s) = false
our_update g (M.Poll a q s net) = false
our_update g (M.Update a q s net) = eqb a g.asn && eqb s 1 && eqb net g.net
our_update g (M.Error a q s reason x y z) = false

-- nothing, one short message, our Update, or two short messages
abbrev pub may_send : Settings → Reply → Bool
may_send g Nothing = true
may_send g (One m) = short m || our_update g m
may_send g (Two first second) = short first && short second

-- what a step may send, from any record at all
abbrev pub StepSends : Type 0
StepSends = (g : Settings) (asn : ℕ) (n : Neighbour) (event : Event) (head : Head) → may_send g (step_of g asn n event head).reply ≡ true

-- 01: "A reply is at most two messages": no step says a third
abbrev pub NoThird : Type 0
NoThird = (g : Settings) (asn : ℕ) (n : Neighbour) (event : Event) (head : Head) → (step_of g asn n event head).reply ≡ overfull → ⊥

-- a well-formed record in Idle is zero throughout
abbrev pub IdleIsZero : Type 0
IdleIsZero = (n : Neighbour) → well_formed n ≡ true → n.phase ≡ Idle → n ≡ idle

-- 01: "t2 .. 0 elsewhere": a neighbour that is not Up, so also one that left Up, has t2 0
abbrev pub T2OnlyInUp : Type 0
T2OnlyInUp = (n : Neighbour) → well_formed n ≡ true → is_up n.phase ≡ false → n.t2 ≡ 0

-- 01: "An Error received changes nothing."
abbrev pub ErrorIgnored : Type 0
ErrorIgnored =
    (g : Settings) (asn : ℕ) (n : Neighbour) (a sequence status reason first second third : ℕ) (head : Head)
    → step_of g asn n (Received (M.Error a sequence status reason first second third)) head ≡ unanswered n

-- the six kinds that are stray in Idle
abbrev pub is_stray : Message → Bool
is_stray (M.Request a q s hello poll) = false
is_stray (M.Confirm a q s hello poll) = true
is_stray (M.Refuse a q s) = true
is_stray (M.Cease a q s) = false
is_stray (M.CeaseAck a q s) = false
is_stray (M.Hello a q s) = true
is_stray (M.IHeardYou a q s) = true
is_stray (M.Poll a q s net) = true
is_stray (M.Update a q s net) = true
is_stray (M.Error a q s reason x y z) = false

-- 02: "a Cease, status 7, sequence 0, answer 0, the neighbour staying Idle", whatever else its record holds
abbrev pub StrayAnswered : Type 0
StrayAnswered =
    (g : Settings) (asn : ℕ) (n : Neighbour) (m : Message) (head : Head)
    → n.phase ≡ Idle → is_stray m ≡ true → g.quiet ≡ 0
    → step_of g asn n (Received m) head ≡ record { neighbour = n; reply = One (M.Cease g.asn 0 7) }

-- 02: "`quiet=1` .. keeps the old behaviour"
abbrev pub StrayUnanswered : Type 0
StrayUnanswered =
    (g : Settings) (asn : ℕ) (n : Neighbour) (m : Message) (head : Head)
    → n.phase ≡ Idle → is_stray m ≡ true → g.quiet ≡ 1
    → step_of g asn n (Received m) head ≡ record { neighbour = n; reply = Nothing }

abbrev pub brings_stray : Event → Bool
brings_stray (Received m) = is_stray m
brings_stray Start = false
brings_stray Stop = false
brings_stray Tick = false

-- the setting says nothing of any other event, and nothing outside Idle
abbrev pub QuietElsewhere : Type 0
QuietElsewhere =
    (g : Settings) (quiet asn : ℕ) (n : Neighbour) (event : Event) (head : Head)
    → (is_idle n.phase && brings_stray event) ≡ false
    → step_of (with_quiet g quiet) asn n event head ≡ step_of g asn n event head

-- 01: "replace rows": an Update finds its neighbour Up and leaves it Up, with nothing sent
abbrev pub UpdateStaysUp : Type 0
UpdateStaysUp =
    (g : Settings) (asn : ℕ) (n : Neighbour) (a sequence status net : ℕ) (head : Head)
    → n.phase ≡ Up
    → ((step_of g asn n (Received (M.Update a sequence status net)) head).neighbour.phase ≡ Up)
    × ((step_of g asn n (Received (M.Update a sequence status net)) head).reply ≡ Nothing)
