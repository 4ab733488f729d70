-- The theorem about recordings: the player's turns, on pieces of any size and whatever room they are lent, write what
-- the model says of the whole recording's lines and calls, with a trace or without. For every list of octets.
use Rattle.std.specs.Prelude.{ℕ, suc, ◌*◌, ◌≤◌, ◌<◌, ◌≡◌, Bool, true, cond, not, ◌||◌, ◌&&◌, List, [], ◌∷◌, ◌++◌, map, ◌⊎◌, ltb, eqb, length, take, drop}
use Rattle.checks.specs.Lists.{every, join}
use Rattle.neighbour.specs.declared.Settings.{Settings}
use Rattle.gateway_slots.specs.Calls.{fresh_of}
use Rattle.model.specs.Model as M
use Rattle.model.specs.Theorem.{empty_table, state_of, table_of, carries_octets, Agreement}
use Rattle.recording_player.specs.declared.Player.{Player}
use Rattle.recording_player.specs.Player.{beginning, Step, roomy, line_fits, turn_checked, turn_step, held_of, close_step, finish_step}
use Rattle.recording_theorem.specs.Output.{RecordedLine, ended, unended, lines_of, broken, opened, opening_of, good_calls, Told, bad_line, called, told_from, output_of}

-- ---- lines are what they should be

unfoldable pub line_octets : RecordedLine → List ℕ
line_octets (ended line) = line ++ (10 ∷ [])
line_octets (unended line) = line

unfoldable pub line_text : RecordedLine → List ℕ
line_text (ended line) = line
line_text (unended line) = line

-- the lines make up the recording, and no line has an octet 10 within
pub record Lines : Type 0 where
  pub whole : (recording : List ℕ) → join (map line_octets (lines_of recording)) ≡ recording
  pub apart : (recording : List ℕ) → every (λ line. every (λ octet. not (eqb octet 10)) (line_text line)) (lines_of recording) ≡ true

-- ---- making the calls one by one

-- the calls that were told of, and what the model says of each
unfoldable pub calls_in : List Told → List M.Call
calls_in [] = []
calls_in (bad_line number ∷ rest) = calls_in rest
calls_in (called t call h ∷ rest) = call ∷ calls_in rest

unfoldable pub said_in : List Told → List M.Said
said_in [] = []
said_in (bad_line number ∷ rest) = said_in rest
said_in (called t call h ∷ rest) = record { answer = h.answer; first = h.first; second = h.second } ∷ said_in rest

-- "Playing a recording must equal making the calls of its good lines one by one, from a zeroed table and with an empty
-- home list."
pub record OneByOne (traced : Bool) (g : Settings) (lines : ℕ) (events : List RecordedLine) : Type 0 where
  pub calls : calls_in (told_from traced lines (M.empty g) events) ≡ good_calls events
  pub said : said_in (told_from traced lines (M.empty g) events) ≡ M.said_from (M.empty g) (good_calls events)
  -- hex says octets only, so what the theorem about lists of calls says of listings holds too
  pub octets : every carries_octets (good_calls events) ≡ true
  -- the state, the table and every row at the end, told from the settings and the calls alone
  pub agreement : (fresh_of g).answer ≡ 0 → Agreement g (good_calls events)

-- ---- the player's turns

-- the player, and what the host lends it from turn to turn
pub record Deck : Type 0 where
  pub player : Player
  pub line : List ℕ
  pub table : List ℕ

-- with any line buffer, whatever it holds
unfoldable pub fresh_deck : Bool → List ℕ → Deck
fresh_deck traced line = record { player = beginning traced; line = line; table = empty_table }

-- what is lent for one turn: so many of the octets that are left, and any output buffer
pub record Lent : Type 0 where
  pub size : ℕ
  pub out : List ℕ

unfoldable pub step_on : Deck → Lent → List ℕ → Step
step_on d lent input = turn_step (roomy lent.out) d.player d.line d.table (take lent.size input)

unfoldable pub after_turn : Deck → Lent → List ℕ → Deck
after_turn d lent input =
    record {
      player = (step_on d lent input).player;
      line = held_of d.player d.line (take lent.size input);
      table = (step_on d lent input).table;
    }

-- turn after turn: the deck, what of the recording is left, and all that was written
pub record Driven : Type 0 where
  pub deck : Deck
  pub rest : List ℕ
  pub text : List ℕ

unfoldable pub writing : List ℕ → Driven → Driven
writing text r = record { deck = r.deck; rest = r.rest; text = text ++ r.text }

-- what a turn has not used is handed over again, all of it where the turn was refused
unfoldable pub drive : List Lent → Deck → List ℕ → Driven
drive [] d input = record { deck = d; rest = input; text = [] }
drive (lent ∷ lents) d input =
    writing (step_on d lent input).text (drive lents (after_turn d lent input) (drop (step_on d lent input).used input))

-- the recording is used up and no tick is due
unfoldable pub is_done : Driven → Bool
is_done r = eqb (length r.rest) 0 && (r.deck.player.broken || eqb r.deck.player.ticks 0)

-- what close and finish add, once each is lent a buffer with room, whatever it holds
unfoldable pub closed : Deck → Step
closed d = close_step true d.player d.table

unfoldable pub finished : List ℕ → Deck → Step
finished out d = finish_step out (closed d).player d.table

unfoldable pub all_text : List ℕ → Driven → List ℕ
all_text out r = r.text ++ ((closed r.deck).text ++ (finished out r.deck).text)

-- ---- the statement

-- where the first four lines are good: the state and the table that the player ends with are those of the model
pub record EndsAs (d : Deck) (g : Settings) (events : List RecordedLine) : Type 0 where
  pub state : d.player.state ≡ state_of (M.model g (good_calls events))
  pub table : d.table ≡ table_of (M.model g (good_calls events))

-- however the recording was cut into pieces, and however little room was lent on the way
pub record Played (traced : Bool) (line recording : List ℕ) (lents : List Lent) : Type 0 where
  -- lines are counted in 64 bits: no more fit a recording that is shorter than this
  pub output :
      length recording < 18446744073709551616 → (out : List ℕ) → roomy out ≡ true → all_text out (drive lents (fresh_deck traced line) recording) ≡ output_of traced recording
  pub ends :
      (g : Settings) (lines : ℕ) (events : List RecordedLine) → opening_of (lines_of recording) ≡ opened g lines events → EndsAs (drive lents (fresh_deck traced line) recording).deck g events
  -- nothing is played: the table is still all zero
  pub untouched :
      (number : ℕ) → opening_of (lines_of recording) ≡ broken number → (drive lents (fresh_deck traced line) recording).deck.table ≡ empty_table

-- every list of octets is a recording
pub record Recordings : Type 0 where
  pub one_by_one : (traced : Bool) (g : Settings) (lines : ℕ) (events : List RecordedLine) → OneByOne traced g lines events
  pub played :
      (traced : Bool) (line recording : List ℕ) (lents : List Lent) → line_fits line ≡ true → is_done (drive lents (fresh_deck traced line) recording) ≡ true
      → Played traced line recording lents

-- ---- a refusal changes nothing

-- nothing used, nothing written, all as given
unfoldable pub as_given : Player → List ℕ → ℕ → Step
as_given p table answer = record { player = p; table = table; answer = answer; used = 0; text = [] }

-- whatever is lent, of any length and contents: a line buffer, a table, an output buffer
pub record Refusals : Type 0 where
  pub turn :
      (room : Bool) (p : Player) (line table input : List ℕ) → (turn_checked room p line table input ≡ 0 → ⊥)
      → (turn_step room p line table input ≡ as_given p table (turn_checked room p line table input)) × (held_of p line input ≡ line)
  -- close: made, or still owed
  pub close : (room : Bool) (p : Player) (table : List ℕ) → (close_step room p table ≡ close_step true p table) ⊎ (close_step room p table ≡ as_given p table 19)
  -- finish: it can always be called again
  pub finish : (out : List ℕ) (p : Player) (table : List ℕ) → ((finish_step out p table).player ≡ p) × ((finish_step out p table).table ≡ table)

-- ---- every way of cutting comes to the end

-- a turn that is lent room and at least one octet of what is left
unfoldable pub is_plenty : Lent → Bool
is_plenty lent = roomy lent.out && ltb 0 lent.size

unfoldable pub plenty : List Lent → ℕ
plenty [] = 0
plenty (lent ∷ lents) = cond (is_plenty lent) (suc (plenty lents)) (plenty lents)

-- 86,401 such turns for each octet are always enough, whatever their sizes and whatever is lent between them
abbrev pub EveryRecordingEnds : Type 0
EveryRecordingEnds =
    (traced : Bool) (line recording : List ℕ) (lents : List Lent) → line_fits line ≡ true → 86401 * length recording ≤ plenty lents
    → is_done (drive lents (fresh_deck traced line) recording) ≡ true
