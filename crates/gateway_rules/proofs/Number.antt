-- The number of a message, stage by stage: the header, the AS, the kind, then what its meaning asks. Assumes nothing.
use Prim.Native.Nat.{ℕ}
use native.Mathlib.Omega.{arith}
use borrow.Author.Tests.{eqb-true, eqb-false}
use mathlib.Core.Path.{◌≡◌, refl, sym, ◌∙◌, ap}
use mathlib.Core.Bool.{Bool, true, false, cond, not, ◌&&◌, false≢true}
use mathlib.Core.List.{List}
use lib.Dec.{eqb}
use Rattle.std.specs.Prelude.{Option, Some, None, Result, Ok, Err}
use Rattle.checks.specs.Refusals.{number_of, checked}
use Rattle.checks.specs.declared.Refusal.{Refusal}
use Rattle.checks.specs.declared.Refusal.TheVariants.{BadStatus, BadLength}
use Rattle.checks.specs.Checks.{check, if_ok}
use Rattle.checks.proofs.Laws.{check_passed, number_some, if_ok_new, if_ok_old}
use Rattle.message_reading.proofs.Laws.{header_checks}
use Rattle.message.specs.Kinds.{kind_of, status_allowed, length_allowed}
use Rattle.message.specs.declared.Kind.{Kind}
use Rattle.message.specs.declared.Kind.TheVariants as K
use Rattle.message.specs.declared.Message.{Message}
use Rattle.message_reading.specs.Reading.{size_allowed, version_is2, checksum_holds, header_answer, asn_at, status_at, kind_in, is_known, status_fits, length_fits, meaning_of, decode_as, decode_of}
use Rattle.update_walk.specs.Body.{UpdateRead, accepted, broken_at, too_many, update_of, rows_read}
use Rattle.update_walk.specs.Body as Body
use Rattle.neighbour.specs.declared.Phase.{Phase}
use Rattle.neighbour.specs.declared.Settings.{Settings}
use Rattle.neighbour.specs.declared.Neighbour.{Neighbour}
use Rattle.neighbour.specs.Record.{is_up}
use Rattle.neighbour.specs.Rules.{same, in_sequence, too_quick}
use Rattle.gateway_rules.specs.Number.{sequence_fits, spacing_fits, brings_rows, body_number, message_number}
use lib.ListN.{length}

-- 13, 21, 14 and 15, of a message that was read
unfoldable pub meaning_number : ℕ → Settings → Neighbour → List ℕ → Message → ℕ
meaning_number room g n o m =
    check (in_sequence n m) 13 (check (not (too_quick n m)) 21 (cond (same (kind_of m) K.Update && is_up n.phase) (body_number room g.net o) 0))

-- 10 to 12 before them
unfoldable pub kind_number : ℕ → Settings → Neighbour → List ℕ → Result Message Refusal → ℕ
kind_number room g n o (Ok m) = meaning_number room g n o m
kind_number room g n o (Err refused) = number_of refused

pub kind_of_meaning : (kind : Kind) (o : List ℕ) → kind_of (meaning_of kind o) ≡ kind
unfolding meaning_of
kind_of_meaning K.Request o = refl
kind_of_meaning K.Confirm o = refl
kind_of_meaning K.Refuse o = refl
kind_of_meaning K.Cease o = refl
kind_of_meaning K.CeaseAck o = refl
kind_of_meaning K.Hello o = refl
kind_of_meaning K.IHeardYou o = refl
kind_of_meaning K.Poll o = refl
kind_of_meaning K.Update o = refl
kind_of_meaning K.Error o = refl

three_then : (a b c : Bool) (rest : ℕ)
    → check a 6 (check b 7 (check c 8 rest)) ≡ if_ok (check a 6 (check b 7 (check c 8 0))) rest (check a 6 (check b 7 (check c 8 0)))
unfolding check if_ok
three_then false b c rest = refl
three_then true false c rest = refl
three_then true true false rest = refl
three_then true true true rest = refl

module _ (room : ℕ) (g : Settings) (n : Neighbour) (o : List ℕ) where
  kind_then : (k : Option Kind)
      → check (is_known k) 10 (check (status_fits k o) 11 (check (length_fits k o) 12 (check (sequence_fits n k o) 13 (check (spacing_fits n k o) 21 (cond (brings_rows n.phase k) (body_number room g.net o) 0)))))
      ≡ kind_number room g n o (decode_as k o)
  unfolding check is_known status_fits length_fits sequence_fits spacing_fits brings_rows decode_as kind_number meaning_number
  kind_then None = refl
  kind_then (Some kind) = go (status_allowed kind (status_at o)) (length_allowed kind (length o))
    where
      go : (s l : Bool)
          → cond s (cond l (cond (in_sequence n (meaning_of kind o)) (cond (not (too_quick n (meaning_of kind o))) (cond (same kind K.Update && is_up n.phase) (body_number room g.net o) 0) 21) 13) 12) 11
          ≡ kind_number room g n o (checked s BadStatus (checked l BadLength (Ok (meaning_of kind o))))
      go false l = refl
      go true false = refl
      go true true = rw (kind_of_meaning kind o)

  -- the number in the stages that the code goes through
  pub message_number_lem : (asn : ℕ)
      → message_number room g asn n o ≡ if_ok (header_answer o) (check (eqb (asn_at o) asn) 9 (kind_number room g n o (decode_of o))) (header_answer o)
  unfolding message_number decode_of
  message_number_lem asn =
      three_then (size_allowed o) (version_is2 o) (checksum_holds o) _
      ∙ rw (← (header_checks o)) (ap (λ (k : ℕ). if_ok (header_answer o) (check (eqb (asn_at o) asn) 9 k) (header_answer o)) (kind_then (kind_in o)))

  module _ (asn : ℕ) where
    pub number_header : (header_answer o ≡ 0 → ⊥) → message_number room g asn n o ≡ header_answer o
    number_header z = message_number_lem asn ∙ if_ok_old _ _ _ z

    module _ (z : header_answer o ≡ 0) where
      pub number_asn : eqb (asn_at o) asn ≡ false → message_number room g asn n o ≡ 9
      unfolding check
      number_asn e = message_number_lem asn ∙ if_ok_new _ _ _ z ∙ rw e

      pub number_kind : eqb (asn_at o) asn ≡ true → message_number room g asn n o ≡ kind_number room g n o (decode_of o)
      unfolding check
      number_kind e = message_number_lem asn ∙ if_ok_new _ _ _ z ∙ rw e

-- ---- what a number 0 tells

accepted_is : (u : UpdateRead) → Body.update_number u ≡ 0 → u ≡ accepted (rows_read u)
unfolding Body.update_number rows_read
accepted_is (accepted rows) e = refl
accepted_is (broken_at offset) e = absurd (omega (arith, e))
accepted_is too_many e = absurd (omega (arith, e))

-- a message with number 0 was read, and so was its body where it brings rows
pub record NumberPassed (room : ℕ) (g : Settings) (asn : ℕ) (n : Neighbour) (o : List ℕ) : Type 0 where
  pub header : header_answer o ≡ 0
  pub from : eqb (asn_at o) asn ≡ true
  pub message : Message
  pub read : decode_of o ≡ Ok message
  pub sequence : in_sequence n message ≡ true
  pub spacing : not (too_quick n message) ≡ true
  pub brings : brings_rows n.phase (kind_in o) ≡ (same (kind_of message) K.Update && is_up n.phase)
  pub body : (same (kind_of message) K.Update && is_up n.phase) ≡ true → update_of room g.net o ≡ accepted (rows_read (update_of room g.net o))

pub brings_as : (phase : Phase) (o : List ℕ) (k : Option Kind) (m : Message) → decode_as k o ≡ Ok m → brings_rows phase k ≡ (same (kind_of m) K.Update && is_up phase)
unfolding decode_as brings_rows
brings_as phase o None m e = let z : ◌≡◌ {A = ℕ} 0 1 = cc in absurd (omega arith)
brings_as phase o (Some kind) m e = go (status_allowed kind (status_at o)) (length_allowed kind (length o)) e
  where
    go : (s l : Bool) → checked s BadStatus (checked l BadLength (Ok (meaning_of kind o))) ≡ Ok m
        → (same kind K.Update && is_up phase) ≡ (same (kind_of m) K.Update && is_up phase)
    go false l e = let z : ◌≡◌ {A = ℕ} 0 1 = cc in absurd (omega arith)
    go true false e = let z : ◌≡◌ {A = ℕ} 0 1 = cc in absurd (omega arith)
    go true true e = let z : meaning_of kind o ≡ m = cc in rw (← z, kind_of_meaning kind o)

module _ (room : ℕ) (g : Settings) (asn : ℕ) (n : Neighbour) (o : List ℕ) where
  body_passed : (b : Bool) → cond b (body_number room g.net o) 0 ≡ 0 → b ≡ true → update_of room g.net o ≡ accepted (rows_read (update_of room g.net o))
  unfolding body_number
  body_passed true e h = accepted_is (update_of room g.net o) e
  body_passed false e h = absurd (false≢true h)

  kind_passed : header_answer o ≡ 0 → eqb (asn_at o) asn ≡ true → (d : Result Message Refusal) → decode_of o ≡ d → kind_number room g n o d ≡ 0 → NumberPassed room g asn n o
  unfolding kind_number meaning_number decode_of
  kind_passed h f (Ok m) e z =
      let p = check_passed (in_sequence n m) 13 _ refl z in
      let q = check_passed (not (too_quick n m)) 21 _ refl p.1 in
      record {
        header = h;
        from = f;
        message = m;
        read = e;
        sequence = p.0;
        spacing = q.0;
        brings = brings_as n.phase o (kind_in o) m e;
        body = body_passed (same (kind_of m) K.Update && is_up n.phase) q.1;
      }
  kind_passed h f (Err refused) e z = absurd (number_some refused z)

  asn_passed : header_answer o ≡ 0 → check (eqb (asn_at o) asn) 9 (kind_number room g n o (decode_of o)) ≡ 0 → NumberPassed room g asn n o
  asn_passed h z =
      let p = check_passed (eqb (asn_at o) asn) 9 _ refl z in kind_passed h p.0 (decode_of o) refl p.1

  pub number_passed : message_number room g asn n o ≡ 0 → NumberPassed room g asn n o
  number_passed z = go (eqb (header_answer o) 0) refl
    where
      go : (b : Bool) → eqb (header_answer o) 0 ≡ b → NumberPassed room g asn n o
      go true e =
          let h = eqb-true (header_answer o) 0 e in
          asn_passed h (sym (if_ok_new _ _ _ h) ∙ sym (message_number_lem room g n o asn) ∙ z)
      go false e = let h = eqb-false (header_answer o) 0 e in absurd (h (sym (number_header room g n o asn h) ∙ z))
