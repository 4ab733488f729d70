-- Laws of a ruling on one neighbour's message. Assumes nothing.
use Prim.Native.Nat.{ℕ, ◌<◌, ◌≤◌}
use native.Mathlib.Omega.{arith}
use mathlib.Core.Path.{◌≡◌, refl, sym, ◌∙◌, ap}
use mathlib.Core.Bool.{Bool, true, false, ◌&&◌}
use mathlib.Core.List.{List}
use lib.Dec.{eqb}
use lib.ListN.{length}
use Rattle.std.specs.Result.{result_and}
use Rattle.std.specs.Prelude.{Result, Ok, Err}
use Rattle.checks.specs.Refusals.{number_of, answer_of, checked}
use Rattle.checks.specs.declared.Refusal.{Refusal}
use Rattle.checks.specs.declared.Refusal.TheVariants.{OtherAs}
use Rattle.checks.specs.Checks.{check, if_ok}
use Rattle.checks.proofs.Laws.{number_some, if_ok_old}
use Rattle.nets.specs.Rows.{Row}
use Rattle.message.specs.Kinds.{kind_of}
use Rattle.message.specs.declared.Kind.TheVariants as K
use Rattle.message.specs.declared.Message.{Message}
use Rattle.message.specs.declared.Message.TheVariants.{Request, Confirm, Refuse, Cease, CeaseAck, Hello, IHeardYou, Poll, Update, Error}
use Rattle.message_reading.specs.Reading.{header_of, header_answer, asn_at, kind_in, decode_of}
use Rattle.update_walk.specs.Body.{UpdateRead, accepted, broken_at, too_many, update_of, rows_read}
use Rattle.update_walk.specs.Body.{walked_of, refusal_of}
use Rattle.update_walk.specs.Body as Body
use Rattle.update_walk.specs.declared.BodyError.{BodyError}
use Rattle.update_walk.specs.declared.BodyError.TheVariants.{Broken, TooMany}
use Rattle.update_walk.proofs.Accepted.{accepted_is}
use Rattle.codec.proofs.Laws.{OtherKind}
use Rattle.neighbour.specs.declared.Settings.{Settings}
use Rattle.neighbour.specs.declared.Neighbour.{Neighbour}
use Rattle.neighbour.specs.Record.{is_up}
use Rattle.neighbour.specs.Rules.{same, in_sequence, too_quick}
use Rattle.neighbour_machine.specs.declared.Event.TheVariants.{Received}
use Rattle.neighbour_machine.specs.declared.After.{After}
use Rattle.neighbour_machine.specs.Step.{step_of}
use Rattle.gateway_rules.specs.Number.{body_number, message_number, error_head, named_reply}
use Rattle.gateway_rules.specs.declared.Effect.TheVariants.{Replace}
use Rattle.gateway_rules.specs.declared.Verdict.{Verdict}
use Rattle.gateway_rules.specs.Ruling.{stepped, refuses, taken_step, change_by, carried_out, receive_ruling, effect_of, verdict_of}
use Rattle.gateway_rules.proofs.Number.{meaning_number, kind_number, brings_as, number_header, number_asn, number_kind}
use Rattle.gateway_stages.specs.Stages.{read_from, taken_update}

-- ---- the stages

-- a message that passed 6 to 12, and what it says
pub record ReadAs (asn : ℕ) (o : List ℕ) (m : Message) : Type 0 where
  pub header : header_answer o ≡ 0
  pub from : eqb (asn_at o) asn ≡ true
  pub meaning : decode_of o ≡ Ok m

pub read_as : (asn : ℕ) (o : List ℕ) (m : Message) → read_from asn o ≡ Ok m → ReadAs asn o m
unfolding read_from header_answer
read_as asn o m e = go (header_of o) refl (eqb (asn_at o) asn) refl e
  where
    go : (h : Result (Unit {0}) Refusal) → header_of o ≡ h → (b : Bool) → eqb (asn_at o) asn ≡ b
        → result_and h (checked b OtherAs (decode_of o)) ≡ Ok m → ReadAs asn o m
    go (Ok tt) f true g e = record { header = rw f; from = g; meaning = e }
    go (Ok tt) f false g e = absurd (cc)
    go (Err refusal) f b g e = absurd (cc)

-- what these checks refuse
pub read_refused : (room : ℕ) (g : Settings) (asn : ℕ) (n : Neighbour) (o : List ℕ) (refusal : Refusal)
    → read_from asn o ≡ Err refusal → message_number room g asn n o ≡ number_of refusal
unfolding read_from header_answer kind_number
read_refused room g asn n o refusal e = go (header_of o) refl (eqb (asn_at o) asn) refl (decode_of o) refl e
  where
    go : (h : Result (Unit {0}) Refusal) → header_of o ≡ h → (b : Bool) → eqb (asn_at o) asn ≡ b
        → (d : Result Message Refusal) → decode_of o ≡ d
        → result_and h (checked b OtherAs d) ≡ Err refusal → message_number room g asn n o ≡ number_of refusal
    go (Ok tt) f true k (Ok m) i e = absurd (cc)
    go (Ok tt) f true k (Err told) i e =
        let same : told ≡ refusal = cc in
        number_kind room g n o asn (rw f) k ∙ ap (kind_number room g n o) i ∙ ap number_of same
    go (Ok tt) f false k d i e =
        let same : OtherAs ≡ refusal = cc in
        number_asn room g n o asn (rw f) k ∙ ap number_of same
    go (Err told) f b k d i e =
        let same : told ≡ refusal = cc in
        number_header room g n o asn (λ z. number_some told (rw f at z)) ∙ rw f (ap number_of same)

-- what a reading that is no message answers
pub read_number : (room : ℕ) (g : Settings) (asn : ℕ) (n : Neighbour) (o : List ℕ) (r : Result Message Refusal) (number : ℕ)
    → r ≡ read_from asn o → ((m : Message) → r ≡ Ok m → ⊥) → number ≡ answer_of r
    → (number ≡ 0 → ⊥) × (message_number room g asn n o ≡ number)
read_number room g asn n o (Ok m) number e k a = absurd (k m refl)
read_number room g asn n o (Err refusal) number e k a =
    (λ z. number_some refusal (sym a ∙ z), read_refused room g asn n o refusal (sym e) ∙ sym a)

-- ---- an Update's blocks

pub rows_read_lem : (room net : ℕ) (o : List ℕ) (count : ℕ) → walked_of (update_of room net o) ≡ Ok count
    → (rows : List Row) × (update_of room net o ≡ accepted rows) × (length rows ≡ count) × (length rows ≤ room)
rows_read_lem room net o count e = go (update_of room net o) refl e
  where
    go : (u : UpdateRead) → update_of room net o ≡ u → walked_of u ≡ Ok count
        → (rows : List Row) × (update_of room net o ≡ accepted rows) × (length rows ≡ count) × (length rows ≤ room)
    go (accepted rows) f g = (rows, f, cc, (accepted_is room net o rows f).fits)
    go (broken_at k) f g = let z : ◌≡◌ {A = ℕ} 0 1 = cc in absurd (omega arith)
    go too_many f g = let z : ◌≡◌ {A = ℕ} 0 1 = cc in absurd (omega arith)

module _ (g : Settings) (n : Neighbour) (o : List ℕ) (after : After) (room : ℕ) where
  pub rows_taken : (count : ℕ) → walked_of (update_of room g.net o) ≡ Ok count
      → ◌≡◌ {A = Verdict} (record { answer = 0; reply = after.reply; neighbour = after.neighbour; effect = Replace count })
      (verdict_of (taken_update g n o after (update_of room g.net o)))
  unfolding verdict_of effect_of taken_update
  rows_taken count e =
      let r = rows_read_lem room g.net o count e in rw r.1 (rw r.2 refl)

  pub refused_taken : (u : UpdateRead) (error : BodyError) → walked_of u ≡ Err error
      → verdict_of (refuses n (number_of (refusal_of error)) (named_reply g n o (number_of (refusal_of error)))) ≡ verdict_of (taken_update g n o after u)
  unfolding taken_update
  refused_taken (accepted rows) error e = absurd (cc)
  refused_taken (broken_at offset) (Broken k) e = refl
  refused_taken (broken_at offset) TooMany e = absurd (cc)
  refused_taken too_many (Broken k) e = absurd (cc)
  refused_taken too_many TooMany e = refl

pub update_small : (room net : ℕ) (o : List ℕ) (count : ℕ) → room < 65536 → walked_of (update_of room net o) ≡ Ok count → count < 65536
update_small room net o count h e = let r = rows_read_lem room net o count e in omega (arith, h, r.2, r.3)

-- ---- kinds

pub other_kind : (m : Message) (b : Bool) → OtherKind m → false ≡ (same (kind_of m) K.Update && b)
other_kind (Request a q s h p) b k = refl
other_kind (Confirm a q s h p) b k = refl
other_kind (Refuse a q s) b k = refl
other_kind (Cease a q s) b k = refl
other_kind (CeaseAck a q s) b k = refl
other_kind (Hello a q s) b k = refl
other_kind (IHeardYou a q s) b k = refl
other_kind (Poll a q s net) b k = refl
other_kind (Update a q s net) b k = absurd (k a q s net refl)
other_kind (Error a q s r x y z) b k = refl

pub update_kind : (m : Message) (b : Bool) (a q s net : ℕ) → m ≡ Update a q s net → b ≡ (same (kind_of m) K.Update && b)
update_kind m b a q s net e = rw e

-- ---- a message that was read

module _ (room : ℕ) (g : Settings) (asn : ℕ) (n : Neighbour) (o : List ℕ) (m : Message) (is : read_from asn o ≡ Ok m) where
  r : ReadAs asn o m
  r = read_as asn o m is

  number_is : message_number room g asn n o ≡ meaning_number room g n o m
  unfolding kind_number
  number_is = number_kind room g n o asn r.header r.from ∙ ap (kind_number room g n o) r.meaning

  refused_as : (k : ℕ) → (k ≡ 0 → ⊥) → meaning_number room g n o m ≡ k → refuses n k (named_reply g n o k) ≡ receive_ruling room g asn n o
  unfolding receive_ruling
  refused_as k z e = let f = number_is ∙ e in rw f (sym (if_ok_old _ _ _ z))

  pub taken_13 : in_sequence n m ≡ false → refuses n 13 (named_reply g n o 13) ≡ receive_ruling room g asn n o
  unfolding meaning_number check
  taken_13 e = refused_as 13 (λ z. absurd (omega (arith, z))) (rw e)

  pub taken_21 : in_sequence n m ≡ true → too_quick n m ≡ true → refuses n 21 (named_reply g n o 21) ≡ receive_ruling room g asn n o
  unfolding meaning_number check
  taken_21 s e = refused_as 21 (λ z. absurd (omega (arith, z))) (rw (s, e))

  module _ (s : in_sequence n m ≡ true) (t : too_quick n m ≡ false) where
    carried_as : meaning_number room g n o m ≡ 0 → carried_out room g n o (step_of g asn n (Received m) (error_head o)) ≡ receive_ruling room g asn n o
    unfolding receive_ruling taken_step if_ok
    carried_as e = let f = number_is ∙ e in rw f (rw r.meaning refl)

    pub taken_step_lem : (same (kind_of m) K.Update && is_up n.phase) ≡ false → stepped n (step_of g asn n (Received m) (error_head o)) ≡ receive_ruling room g asn n o
    unfolding meaning_number check stepped carried_out change_by decode_of
    taken_step_lem b =
        rw (brings_as n.phase o (kind_in o) m r.meaning, b) at (carried_as (rw (s, t, b)))

    pub taken_update_lem : (same (kind_of m) K.Update && is_up n.phase) ≡ true
        → taken_update g n o (step_of g asn n (Received m) (error_head o)) (update_of room g.net o) ≡ receive_ruling room g asn n o
    unfolding meaning_number check carried_out change_by decode_of body_number taken_update Body.update_number rows_read
    taken_update_lem b = go (update_of room g.net o) refl
      where
        go : (u : UpdateRead) → update_of room g.net o ≡ u → taken_update g n o (step_of g asn n (Received m) (error_head o)) u ≡ receive_ruling room g asn n o
        go (accepted rows) e = rw (brings_as n.phase o (kind_in o) m r.meaning, b, e) at (carried_as (rw (s, t, b, e)))
        go (broken_at k) e = refused_as 14 (λ z. absurd (omega (arith, z))) (rw (s, t, b, e))
        go too_many e = refused_as 15 (λ z. absurd (omega (arith, z))) (rw (s, t, b, e))
