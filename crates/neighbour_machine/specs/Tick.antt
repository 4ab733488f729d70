-- 01's paragraph "Tick", sentence by sentence.
use Rattle.std.specs.Prelude.{◌-◌, ◌<◌, ◌≡◌, cond, eqb}
use Rattle.message.specs.declared.Message.{Message}
use Rattle.neighbour.specs.declared.Phase.TheVariants.{Up}
use Rattle.neighbour.specs.declared.Settings.{Settings}
use Rattle.neighbour.specs.declared.Neighbour.{Neighbour}
use Rattle.neighbour.specs.Record.{P3, under, is_idle, with_timers, shifted, polled, aged}
use Rattle.neighbour.specs.Rules.{judged}
use Rattle.neighbour_messages.specs.Sent.{request_message, cease_message, poll_message}
use Rattle.neighbour_machine.specs.declared.After.{After}
use Rattle.neighbour_machine.specs.Table.{unanswered, answers, says, then_hello, on_stop}

-- 01: "at 0 it is Stop"
unfoldable pub expired : Settings → Neighbour → After
expired g n = on_stop g n

-- 01: "Take 1 from t1; at 0, ..": what is due at 0, and else the record with t1 one less
abbrev pub takes_t1 : Neighbour → After → After
takes_t1 n due = cond (eqb (n.t1 - 1) 0) due (unanswered (with_timers n (n.t1 - 1) n.t2 n.t3))

-- 01: "at 0, Acquisition sends Request and Cease sends Cease, t1 = P3"
unfoldable pub repeats : Neighbour → Message → After
repeats n m = takes_t1 n (answers (with_timers n P3 n.t2 n.t3) m)

-- 01: "at 0, .. Down and Up shift heard into the register ..  With n ones, ..  Active then sends Hello with the new
-- state."
unfoldable pub listens : Settings → Neighbour → After
listens g n = takes_t1 n (then_hello g (unanswered (judged (shifted n))))

-- 01: "S goes up by one .. just before each Poll"; "Poll, t2 = T2"
unfoldable pub polls : Settings → After → After
polls g x = says (record { neighbour = polled x.neighbour; reply = x.reply }) (poll_message g (polled x.neighbour))

-- 01: "Entering Up sends Poll, t2 = T2." The state before this tick was Down.
unfoldable pub polls_on_entry : Settings → After → After
polls_on_entry g x = under x.neighbour.phase x x x (polls g x) x

-- 01: "take 1 from t2; at 0 send Poll, t2 = T2"
unfoldable pub takes_t2 : Settings → After → After
takes_t2 g x =
    cond (eqb (x.neighbour.t2 - 1) 0) (polls g x)
    (record { neighbour = with_timers x.neighbour x.neighbour.t1 (x.neighbour.t2 - 1) x.neighbour.t3; reply = x.reply })

-- 01: "If Up before this tick and still Up, take 1 from t2". The state before this tick was Up.
unfoldable pub polls_in_up : Settings → After → After
polls_in_up g x = under x.neighbour.phase x x x (takes_t2 g x) x

-- what follows once 1 is taken from t3
unfoldable pub tick_on : Settings → Neighbour → After
tick_on g n =
    under n.phase (unanswered n)
    (repeats n (request_message g n))
    (polls_on_entry g (listens g n))
    (polls_in_up g (listens g n))
    (repeats n (cease_message g n))

-- 01: "Else take 1 from t3; at 0 it is Stop and the tick ends."
unfoldable pub tick_outside : Settings → Neighbour → After
tick_outside g n = cond (eqb (n.t3 - 1) 0) (expired g n) (tick_on g (with_timers n n.t1 n.t2 (n.t3 - 1)))

-- 01: "Tick: Idle does nothing."; 02, L5: "Every tick carried out outside Idle adds one to each", so also the one on
-- which t3 ends; where it ends in Idle, Idle zeroes them
unfoldable pub on_tick : Settings → Neighbour → After
on_tick g n = cond (is_idle n.phase) (unanswered n) (tick_outside g (aged n))

-- the neighbour is Up, and the next tick ends no timer: such a tick only counts
abbrev pub OnlyCounts : Neighbour → Type 0
OnlyCounts n = (n.phase ≡ Up) × (1 < n.t1) × (1 < n.t2) × (1 < n.t3)
