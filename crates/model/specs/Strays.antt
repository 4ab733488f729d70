-- Stray messages to an idle neighbour (02, L6): what they draw, and that nothing else comes of them. The proofs are in
-- proofs/.
use Rattle.std.specs.Prelude.{ℕ, ◌/◌, ◌%◌, ◌<◌, ◌≡◌, true, List, [], ◌∷◌}
use Rattle.octets.specs.Buffer.{over}
use Rattle.octets_checksum.specs.Checksum.{sealed}
use Rattle.message.specs.declared.Message.{Message}
use Rattle.message.specs.declared.Message.TheVariants as M
use Rattle.neighbour.specs.declared.Phase.TheVariants.{Idle}
use Rattle.neighbour.specs.declared.Settings.{Settings}
use Rattle.neighbour_machine.specs.Laws.{is_stray}
use Rattle.model.specs.Model.{Call, receive}
use Rattle.model.specs.Theorem.{Gateway, buffer_of, gateway_step, seen_of, run, Sensible}
use Rattle.model.specs.Corollaries.{Taken, slot_on, Used, Says}

-- ---- words

-- 02: "a Cease, status 7, sequence 0": version, type, code, status; the checksum put in; our AS; the sequence number
unfoldable pub cease_seven : ℕ → List ℕ
cease_seven asn = sealed (2 ∷ 3 ∷ 3 ∷ 7 ∷ 0 ∷ 0 ∷ asn / 256 % 256 ∷ asn % 256 ∷ 0 ∷ 0 ∷ [])

-- 02: "answer 0, the neighbour staying Idle": ten octets over the lent buffer, the whole state and table as before
pub record DrawsCease (b : Gateway) (asn : ℕ) (call : Call) : Type 0 where
  pub seen : seen_of call b ≡ record { answer = 0; first = 10; second = 0; buffer = over (cease_seven asn) (buffer_of call) }
  pub unchanged : gateway_step call b ≡ b

-- answer 0, the lent buffer as it was, the whole state and table as before
pub record DrawsNothing (b : Gateway) (call : Call) : Type 0 where
  pub seen : seen_of call b ≡ record { answer = 0; first = 0; second = 0; buffer = buffer_of call }
  pub unchanged : gateway_step call b ≡ b

-- octets that pass 3 to 12 and say this message, from the neighbour in slot j, which is Idle
pub record IdleSays (b : Gateway) (j : ℕ) (o home buffer : List ℕ) (m : Message) : Type 0 where
  pub known : Used b j
  pub idle : (slot_on b j).neighbour.phase ≡ Idle
  pub says : Says b j o home buffer m

-- ---- in any sensible state

-- 02: "Idle answer Confirm, Refuse, Hello, I-H-U, Poll and Update with Cease", whatever number or body they have
abbrev pub StrayDrawsCease : Type 0
StrayDrawsCease =
    (b : Gateway) → Sensible b → b.state.settings.quiet ≡ 0
    → (j : ℕ) → j < 8 → (o home buffer : List ℕ) (m : Message) → is_stray m ≡ true → IdleSays b j o home buffer m
    → DrawsCease b b.state.settings.asn (receive (slot_on b j).address o home buffer)

-- 02: "`quiet=1` .. keeps the old behaviour"
abbrev pub QuietIsSilent : Type 0
QuietIsSilent =
    (b : Gateway) → Sensible b → b.state.settings.quiet ≡ 1
    → (j : ℕ) → j < 8 → (o home buffer : List ℕ) (m : Message) → is_stray m ≡ true → IdleSays b j o home buffer m
    → DrawsNothing b (receive (slot_on b j).address o home buffer)

-- neither is among the six: with either setting
pub record NoStray (b : Gateway) (j : ℕ) (o home buffer : List ℕ) : Type 0 where
  pub cease_ack :
      (asn number status : ℕ) → IdleSays b j o home buffer (M.CeaseAck asn number status)
      → DrawsNothing b (receive (slot_on b j).address o home buffer)
  pub error :
      (asn number status reason x y z : ℕ) → IdleSays b j o home buffer (M.Error asn number status reason x y z)
      → DrawsNothing b (receive (slot_on b j).address o home buffer)

abbrev pub OthersDrawNothing : Type 0
OthersDrawNothing = (b : Gateway) → Sensible b → (j : ℕ) → j < 8 → (o home buffer : List ℕ) → NoStray b j o home buffer

-- ---- after any list of calls from fresh

-- 02: the setting "is fixed when the state is fresh"
abbrev pub SettingsStay : Type 0
SettingsStay = (g : Settings) → Taken g → (calls : List Call) → (run g calls).state.settings ≡ g

-- so a stray message is answered, or not, by what fresh was given
pub record ByQuiet (g : Settings) (calls : List Call) (call : Call) : Type 0 where
  pub answered : g.quiet ≡ 0 → DrawsCease (run g calls) g.asn call
  pub silent : g.quiet ≡ 1 → DrawsNothing (run g calls) call

abbrev pub StraysInRuns : Type 0
StraysInRuns =
    (g : Settings) → Taken g → (calls : List Call)
    → (j : ℕ) → j < 8 → (o home buffer : List ℕ) (m : Message) → is_stray m ≡ true → IdleSays (run g calls) j o home buffer m
    → ByQuiet g calls (receive (slot_on (run g calls) j).address o home buffer)
