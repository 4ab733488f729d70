-- What a message to an idle neighbour draws. Assumes nothing.
use Prim.Native.Nat.{ℕ, ◌<◌}
use mathlib.Core.Path.{◌≡◌, refl, sym, ◌∙◌, ap, subst}
use mathlib.Core.Bool.{true, and-false, false≢true, true≢false}
use mathlib.Core.List.{List, [], ◌∷◌, append-nil}
use lib.Dec.{leb}
use lib.ListN.{length}
use borrow.Author.Tests.{eq-eqb}
use Rattle.std.specs.Prelude.{Ok}
use Rattle.checks.specs.Checks.{check, if_ok}
use Rattle.octets.specs.Buffer.{over}
use Rattle.octets_checksum.proofs.Laws.{sealed_length}
use Rattle.nets.specs.Rows.{Row, rows_of}
use Rattle.message.specs.declared.Message.{Message}
use Rattle.message.specs.declared.Message.TheVariants as M
use Rattle.message_reading.specs.Reading.{header_answer, asn_at, decode_of}
use Rattle.codec_writing.specs.Octets.{plain_octets, message_octets}
use Rattle.neighbour.specs.declared.Phase.{Phase}
use Rattle.neighbour.specs.declared.Phase.TheVariants.{Idle, Acquisition, Down, Up, Cease}
use Rattle.neighbour.specs.declared.Settings.{Settings}
use Rattle.neighbour.specs.declared.Neighbour.{Neighbour}
use Rattle.neighbour.specs.Record.{under, is_idle, is_up, acquired}
use Rattle.neighbour.specs.Rules.{in_sequence, too_quick, commanded, noted, recounted}
use Rattle.neighbour_wellformed.proofs.Formed.{at}
use Rattle.neighbour_messages.specs.declared.Head.{Head}
use Rattle.neighbour_machine.specs.declared.Event.TheVariants.{Received}
use Rattle.neighbour_machine.specs.declared.Reply.{Reply}
use Rattle.neighbour_machine.specs.declared.Reply.TheVariants.{Nothing, One}
use Rattle.neighbour_machine.specs.Table.{unanswered, on_cease_ack}
use Rattle.neighbour_machine.specs.Step.{on_message, step_of}
use Rattle.neighbour_machine.specs.Laws.{is_stray}
use Rattle.neighbour_machine.proofs.Theorems.{error_ignored, stray_answered, stray_unanswered}
use Rattle.gateway_state.specs.declared.State.{State}
use Rattle.gateway_state.specs.declared.Slot as Stored
use Rattle.gateway_rules.specs.Home.{good_home}
use Rattle.model.specs.Model.{Call, receive, used, Model, slot_in, put, spoken, silent, rows_in_phase, moved, is_update, kind_answer, answer_to, first_twelve, after_message, message_move, message_answer, turn_at, message_turn, step, model, model_from, empty, Peer, peer_with}
use Rattle.model.specs.Theorem.{buffer_of, gateway_step, seen_of, run, state_of, rows_held, shown_in, lists_nothing}
use Rattle.model.specs.Corollaries.{slot_on}
use Rattle.model.specs.Strays.{cease_seven, DrawsCease, DrawsNothing, IdleSays, StrayDrawsCease, QuietIsSilent, NoStray, OthersDrawNothing, SettingsStay, StraysInRuns}
use Rattle.model.proofs.Represent.{Good, good_at}
use Rattle.model.proofs.Simulation.{represent}
use Rattle.model.proofs.History.{none_held, step_settings}
use Rattle.model.proofs.Theorem.{step_is, seen_is, run_state}
use Rattle.model.proofs.Steady.{put_same}
use Rattle.model.proofs.Found.{place_here, present_here}
use Rattle.model.proofs.Corollaries.{from_model, up_shown, slot_is, mine, here, runs_are_sensible}

-- ---- a message in Idle is carried out, whatever its number and an Update's body

-- octets that say this message, to this record
record Reaches (asn : ℕ) (n : Neighbour) (o : List ℕ) (x : Message) : Type 0 where
  header : header_answer o ≡ 0
  from : asn_at o ≡ asn
  meaning : decode_of o ≡ Ok x
  idle : n.phase ≡ Idle

module _ (g : Settings) (asn : ℕ) (n : Neighbour) (o : List ℕ) (x : Message) (h : Reaches asn n o x) where
  idle_zero : answer_to g asn n o ≡ 0
  unfolding answer_to if_ok check kind_answer in_sequence too_quick
  idle_zero =
      rw (h.header, eq-eqb (asn_at o) asn h.from, h.meaning, ap is_idle h.idle, ap acquired h.idle, ap is_up h.idle, and-false (is_update x))

-- a reply that leaves the record as it is leaves the whole slot
module _ (m : Model) (ok : Good m) (j : ℕ) (j8 : j < 8) (peer : Peer) (is : slot_in m j ≡ used peer) (bare : peer.rows ≡ []) (o home buffer : List ℕ) (x : Message)
    (room : leb 2048 (length buffer) ≡ true) (good : good_home m.settings home ≡ true) (h : Reaches peer.asn peer.neighbour o x) (reply : Reply)
    (law : step_of m.settings peer.asn peer.neighbour (Received x) (first_twelve o) ≡ record { neighbour = peer.neighbour; reply = reply }) where
  abbrev call : Call
  call = receive peer.address o home buffer

  move_is : message_move m.settings o (used peer) ≡ record { answer = 0; reply = reply; slot = used peer }
  unfolding message_move if_ok after_message moved rows_in_phase
  move_is =
      rw (idle_zero m.settings peer.asn peer.neighbour o x h, h.meaning, law, ap is_up h.idle)
      (ap (λ (rows : List Row). record { answer = 0; reply = reply; slot = used (peer_with peer peer.neighbour rows peer.seconds) }) (sym bare))

  said_is : (step call m).said ≡ spoken 0 reply (rows_of home)
  unfolding step message_turn turn_at if_ok message_answer check
  said_is = rw (room, good, present_here m ok j j8 peer is, place_here m ok j j8 peer is, is, move_is)

  model_is : (step call m).model ≡ m
  unfolding step message_turn turn_at if_ok message_answer check
  model_is =
      rw (room, good, present_here m ok j j8 peer is, place_here m ok j j8 peer is, is, move_is)
      (ap (put m j) (sym is) ∙ put_same m j)

  kept : gateway_step call (represent m) ≡ represent m
  kept = step_is m ok call ∙ ap represent model_is

  seen_so : seen_of call (represent m) ≡ shown_in buffer (spoken 0 reply (rows_of home))
  unfolding buffer_of lists_nothing
  seen_so = seen_is m ok call (λ f. absurd (true≢false f)) ∙ ap (shown_in buffer) said_is

-- ---- what a caller sees

shown_cease : (asn : ℕ) (buffer : List ℕ) (home : List Row)
    → shown_in buffer (spoken 0 (One (M.Cease asn 0 7)) home) ≡ record { answer = 0; first = 10; second = 0; buffer = over (cease_seven asn) buffer }
unfolding shown_in spoken message_octets plain_octets cease_seven
shown_cease asn buffer home =
    let a = sealed_length _ in
    let b = ap (λ (l : List ℕ). over l buffer) (append-nil (cease_seven asn)) in
    λ i. record { answer = 0; first = a i; second = 0; buffer = b i }

shown_nothing : (buffer : List ℕ) (home : List Row) → shown_in buffer (spoken 0 Nothing home) ≡ record { answer = 0; first = 0; second = 0; buffer = buffer }
unfolding shown_in spoken silent over
shown_nothing buffer home = refl

-- ---- in a model's state

cease_ack_ignored : (g : Settings) (asn : ℕ) (n : Neighbour) (a q s : ℕ) (head : Head) → n.phase ≡ Idle
    → step_of g asn n (Received (M.CeaseAck a q s)) head ≡ unanswered n
unfolding step_of recounted noted commanded on_message on_cease_ack under
cease_ack_ignored g asn n a q s head e = go n.phase e
  where
    go : (p : Phase) → p ≡ Idle → step_of g asn (at n p) (Received (M.CeaseAck a q s)) head ≡ unanswered (at n p)
    go Idle e = refl
    go Acquisition e = absurd (false≢true (ap is_idle e))
    go Down e = absurd (false≢true (ap is_idle e))
    go Up e = absurd (false≢true (ap is_idle e))
    go Cease e = absurd (false≢true (ap is_idle e))

module _ (m : Model) (ok : Good m) (j : ℕ) (j8 : j < 8) (o home buffer : List ℕ) (x : Message) (k : IdleSays (represent m) j o home buffer x) where
  abbrev stored : Stored.Slot
  stored = slot_on (represent m) j

  abbrev peer : Peer
  peer = mine m ok j j8 k.known

  is_bare : rows_held (slot_in m j) ≡ []
  is_bare =
      none_held (slot_in m j) (good_at m ok j)
      (up_shown (slot_in m j) ∙ ap (λ (s : Stored.Slot). is_up s.neighbour.phase) (sym (slot_is m ok j)) ∙ ap is_up k.idle)

  reaches : Reaches peer.asn peer.neighbour o x
  reaches = record { header = k.says.header; from = k.says.from; meaning = k.says.meaning; idle = k.idle }

  abbrev Steps : Reply → Type 0
  Steps reply = step_of m.settings stored.asn stored.neighbour (Received x) (first_twelve o) ≡ record { neighbour = stored.neighbour; reply = reply }

  draws_cease : Steps (One (M.Cease m.settings.asn 0 7)) → DrawsCease (represent m) m.settings.asn (receive stored.address o home buffer)
  unfolding buffer_of represent state_of
  draws_cease law =
      let room = k.says.room in
      let good = k.says.good_home_lem in
      let u = here m ok j j8 k.known in
      record {
        seen = seen_so m ok j j8 peer u is_bare o home buffer x room good reaches _ law ∙ shown_cease m.settings.asn buffer (rows_of home);
        unchanged = kept m ok j j8 peer u is_bare o home buffer x room good reaches _ law;
      }

  draws_nothing : Steps Nothing → DrawsNothing (represent m) (receive stored.address o home buffer)
  unfolding buffer_of represent state_of
  draws_nothing law =
      let room = k.says.room in
      let good = k.says.good_home_lem in
      let u = here m ok j j8 k.known in
      record {
        seen = seen_so m ok j j8 peer u is_bare o home buffer x room good reaches _ law ∙ shown_nothing buffer (rows_of home);
        unchanged = kept m ok j j8 peer u is_bare o home buffer x room good reaches _ law;
      }

  abbrev heard : Call
  heard = receive stored.address o home buffer

  answered : (represent m).state.settings.quiet ≡ 0 → is_stray x ≡ true → DrawsCease (represent m) (represent m).state.settings.asn heard
  unfolding represent state_of
  answered q t = draws_cease (stray_answered m.settings stored.asn stored.neighbour x (first_twelve o) k.idle t q)

  silenced : (represent m).state.settings.quiet ≡ 1 → is_stray x ≡ true → DrawsNothing (represent m) heard
  unfolding represent state_of
  silenced q t = draws_nothing (stray_unanswered m.settings stored.asn stored.neighbour x (first_twelve o) k.idle t q)

-- ---- in any sensible state

pub stray_draws_cease : StrayDrawsCease
stray_draws_cease =
    from_model
    (λ b. b.state.settings.quiet ≡ 0 → (j : ℕ) → j < 8 → (o home buffer : List ℕ) (x : Message) → is_stray x ≡ true → IdleSays b j o home buffer x
    → DrawsCease b b.state.settings.asn (receive (slot_on b j).address o home buffer))
    (λ m ok q j j8 o home buffer x t k. answered m ok j j8 o home buffer x k q t)

pub quiet_is_silent : QuietIsSilent
quiet_is_silent =
    from_model
    (λ b. b.state.settings.quiet ≡ 1 → (j : ℕ) → j < 8 → (o home buffer : List ℕ) (x : Message) → is_stray x ≡ true → IdleSays b j o home buffer x
    → DrawsNothing b (receive (slot_on b j).address o home buffer))
    (λ m ok q j j8 o home buffer x t k. silenced m ok j j8 o home buffer x k q t)

no_stray : (m : Model) → Good m → (j : ℕ) → j < 8 → (o home buffer : List ℕ) → NoStray (represent m) j o home buffer
unfolding unanswered
no_stray m ok j j8 o home buffer =
    record {
      cease_ack = λ a q s k. draws_nothing m ok j j8 o home buffer (M.CeaseAck a q s) k (cease_ack_ignored m.settings _ _ a q s (first_twelve o) k.idle);
      error = λ a q s r x y z k. draws_nothing m ok j j8 o home buffer (M.Error a q s r x y z) k (error_ignored m.settings _ _ a q s r x y z (first_twelve o));
    }

pub others_draw_nothing : OthersDrawNothing
others_draw_nothing = from_model (λ b. (j : ℕ) → j < 8 → (o home buffer : List ℕ) → NoStray b j o home buffer) no_stray

-- ---- after any list of calls from fresh

settings_from_lem : (m : Model) (calls : List Call) → (model_from m calls).settings ≡ m.settings
unfolding model_from
settings_from_lem m [] = refl
settings_from_lem m (call ∷ rest) = settings_from_lem (step call m).model rest ∙ step_settings call m

pub settings_stay : SettingsStay
unfolding state_of model empty
settings_stay g z calls = ap (λ (s : State). s.settings) (run_state g z calls) ∙ settings_from_lem (empty g) calls

pub strays_in_runs : StraysInRuns
strays_in_runs g z calls j j8 o home buffer x t k =
    let s = (runs_are_sensible g z calls).sensible in
    let is = settings_stay g z calls in
    let call = receive (slot_on (run g calls) j).address o home buffer in
    record {
      answered =
          λ q. subst (λ (a : ℕ). DrawsCease (run g calls) a call) (ap (λ (h : Settings). h.asn) is)
          (stray_draws_cease (run g calls) s (ap (λ (h : Settings). h.quiet) is ∙ q) j j8 o home buffer x t k);
      silent = λ q. quiet_is_silent (run g calls) s (ap (λ (h : Settings). h.quiet) is ∙ q) j j8 o home buffer x t k;
    }
