-- Laws of a Hello or an I-H-U in Up: what they leave is the machine's step, and the rows stay. Assumes nothing.
use Prim.Native.Nat.{ℕ}
use borrow.Author.Tests.{eq-eqb}
use mathlib.Core.Path.{◌≡◌, refl, ◌∙◌, ap}
use mathlib.Core.Bool.{Bool, true, false, cond, not, ◌&&◌, false≢true}
use mathlib.Core.List.{List}
use Rattle.std.specs.Prelude.{Ok}
use Rattle.message.specs.Kinds.{kind_of, sequence_of, status_of}
use Rattle.message.specs.declared.Kind.TheVariants as K
use Rattle.message.specs.declared.Message.{Message}
use Rattle.message.specs.declared.Message.TheVariants.{Request, Confirm, Refuse, Cease, CeaseAck, Hello, IHeardYou, Poll, Update, Error}
use Rattle.neighbour.specs.declared.Phase.{Phase}
use Rattle.neighbour.specs.declared.Phase.TheVariants as P
use Rattle.neighbour.specs.declared.Settings.{Settings}
use Rattle.neighbour.specs.declared.Neighbour.{Neighbour}
use Rattle.neighbour.specs.Record.{under, is_idle, acquired, is_up, with_numbers, with_reach, with_counts, heard_from}
use Rattle.neighbour.specs.Rules.{same, is_command, in_sequence, commanded, indicates, noted, too_quick, recounted}
use Rattle.neighbour_messages.specs.Sent.{i_heard_you_message}
use Rattle.neighbour_machine.specs.declared.Reply.{Reply}
use Rattle.neighbour_machine.specs.declared.Reply.TheVariants.{Nothing, One}
use Rattle.neighbour_machine.specs.declared.After.{After}
use Rattle.neighbour_machine.specs.Table.{unanswered, answers, on_hello, on_i_heard_you}
use Rattle.neighbour_machine.specs.Step.{on_message, step_of}
use Rattle.gateway_rules.specs.Ruling.{leaving, stepped, receive_ruling}
use Rattle.gateway_stages.specs.Stages.{read_from, Reach, keeping}
use Rattle.gateway_stages.proofs.Laws.{taken_step_lem}

up_is : (p : Phase) → is_up p ≡ true → p ≡ P.Up
up_is P.Idle e = absurd (false≢true e)
up_is P.Acquisition e = absurd (false≢true e)
up_is P.Down e = absurd (false≢true e)
up_is P.Up e = refl
up_is P.Cease e = absurd (false≢true e)

-- ---- whether a message is one

module _ (n : Neighbour) (m : Message) (up : is_up n.phase ≡ true) (a q s : ℕ) where
  pub reach_hello : m ≡ Hello a q s → too_quick n m ≡ false → Reach n m
  unfolding Reach
  reach_hello e f = rw e (up_is n.phase up, rw e at f)

  pub reach_heard : m ≡ IHeardYou a q s → q ≡ n.s → Reach n m
  unfolding Reach
  reach_heard e f = rw e (up_is n.phase up, f)

-- ---- what it says

pub says : Settings → Neighbour → Message → Reply
says g n (Request a q s hello poll) = Nothing
says g n (Confirm a q s hello poll) = Nothing
says g n (Refuse a q s) = Nothing
says g n (Cease a q s) = Nothing
says g n (CeaseAck a q s) = Nothing
says g n (Hello a q s) = One (i_heard_you_message g n)
says g n (IHeardYou a q s) = Nothing
says g n (Poll a q s net) = Nothing
says g n (Update a q s net) = Nothing
says g n (Error a q s reason first second third) = Nothing

module _ (g : Settings) (n : Neighbour) where
  pub hello_says : (m : Message) (a q s : ℕ) → m ≡ Hello a q s → One (i_heard_you_message g n) ≡ says g n m
  unfolding says
  hello_says m a q s e = rw e

  pub other_says : (m : Message) → ((a : ℕ) (b : ℕ) (c : ℕ) → m ≡ Hello a b c → ⊥) → Nothing ≡ says g n m
  unfolding says
  other_says (Request a q s hello poll) k = refl
  other_says (Confirm a q s hello poll) k = refl
  other_says (Refuse a q s) k = refl
  other_says (Cease a q s) k = refl
  other_says (CeaseAck a q s) k = refl
  other_says (Hello a q s) k = absurd (k a q s refl)
  other_says (IHeardYou a q s) k = refl
  other_says (Poll a q s net) k = refl
  other_says (Update a q s net) k = refl
  other_says (Error a q s reason first second third) k = refl

-- ---- what it leaves

-- neither a command nor an indication nor a count moves the neighbour
module _ (n : Neighbour) (m : Message) where
  commanded_phase : (commanded n m).phase ≡ n.phase
  unfolding commanded with_numbers
  commanded_phase = go (not (is_idle n.phase) && is_command (kind_of m))
    where
      go : (b : Bool) → (cond b (with_numbers n n.s (sequence_of m)) n).phase ≡ n.phase
      go true = refl
      go false = refl

  noted_phase : (noted n m).phase ≡ n.phase
  unfolding noted heard_from with_reach
  noted_phase = go (acquired n.phase && indicates n.mode (kind_of m) (status_of m))
    where
      go : (b : Bool) → (cond b (heard_from n) n).phase ≡ n.phase
      go true = refl
      go false = refl

  recounted_phase : (recounted n m).phase ≡ n.phase
  unfolding recounted
  recounted_phase = go (acquired n.phase)
    where
      go : (b : Bool) → (cond b (with_counts n (cond (same (kind_of m) K.Hello) 0 n.sincehello) (cond (same (kind_of m) K.Poll) 0 n.sincepoll)) n).phase ≡ n.phase
      go true = refl
      go false = refl

in_up_lem : (p : Phase) → p ≡ P.Up → (a b c d e : After) → d ≡ under p a b c d e
unfolding under
in_up_lem p e a b c d f = rw e

pub keeps : (n : Neighbour) (after : After) → n.phase ≡ P.Up → after.neighbour.phase ≡ P.Up → keeping after ≡ stepped n after
unfolding keeping stepped leaving
keeps n after p q = rw (p, q)

module _ (g : Settings) (n : Neighbour) (room asn : ℕ) (o : List ℕ) where
  after : Message → After
  after m = record { neighbour = recounted (noted (commanded n m) m) m; reply = says g (recounted (noted (commanded n m) m) m) m }

  stays : (m : Message) → n.phase ≡ P.Up → (recounted (noted (commanded n m) m) m).phase ≡ P.Up
  stays m up = recounted_phase (noted (commanded n m) m) m ∙ noted_phase (commanded n m) m ∙ commanded_phase n m ∙ up

  reached : (m : Message) → Reach n m → read_from asn o ≡ Ok m → keeping (after m) ≡ receive_ruling room g asn n o
  unfolding Reach after says step_of on_message on_hello on_i_heard_you answers unanswered in_sequence too_quick
  reached (Request a q s hello poll) k r = absurd k
  reached (Confirm a q s hello poll) k r = absurd k
  reached (Refuse a q s) k r = absurd k
  reached (Cease a q s) k r = absurd k
  reached (CeaseAck a q s) k r = absurd k
  reached (Hello a q s) k r =
      let m = Hello a q s in
      keeps n (after m) k.0 (stays m k.0)
      ∙ ap (stepped n) (in_up_lem (recounted (noted (commanded n m) m) m).phase (stays m k.0) _ _ _ _ _)
      ∙ taken_step_lem room g asn n o m r (rw k.0) k.1 refl
  reached (IHeardYou a q s) k r =
      let m = IHeardYou a q s in
      keeps n (after m) k.0 (stays m k.0)
      ∙ ap (stepped n) (in_up_lem (recounted (noted (commanded n m) m) m).phase (stays m k.0) _ _ _ _ _)
      ∙ taken_step_lem room g asn n o m r (rw (k.0, eq-eqb q n.s k.1)) (rw k.0) refl
  reached (Poll a q s net) k r = absurd k
  reached (Update a q s net) k r = absurd k
  reached (Error a q s reason first second third) k r = absurd k

-- the same, by what the code's calls gave
module _ (g : Settings) (n : Neighbour) (m : Message) (k : Reach n m) (x y z : Neighbour) (f : x ≡ commanded n m) (h : y ≡ noted x m) (l : z ≡ recounted y m) (reply : Reply) where
  pub left_by : reply ≡ says g z m → (room asn : ℕ) (o : List ℕ) → read_from asn o ≡ Ok m
      → keeping (record { neighbour = z; reply = reply }) ≡ receive_ruling room g asn n o
  unfolding after
  left_by e room asn o r = rw (e, l, h, f) (reached g n room asn o m k r)
