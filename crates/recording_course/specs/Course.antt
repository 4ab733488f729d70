-- What is done around the player's turns: when a piece is read, how many turns are made on it, and how the recording
-- ends. 02: "Playing a recording must equal making the calls of its good lines one by one", "and the listing at the
-- end".
use Rattle.std.specs.Prelude.{ℕ, ◌+◌, ◌-◌, min, Bool, true, false, cond, ◌&&◌, ◌||◌, List, [], eqb, ltb, length, take, drop}
use Rattle.recording_player.specs.declared.Player.{Player}
use Rattle.recording_player.specs.Player.{beginning, Step, roomy, turn_step, held_of, close_step, finish_step}
use Rattle.recording_course.specs.declared.Stage.{Stage}
use Rattle.recording_course.specs.declared.Stage.TheVariants.{Read, Play, Close, List as Listing, Over}
use Rattle.recording_course.specs.declared.Course.{Course}
use Rattle.recording_course.specs.declared.Went.{Went}

-- ---- stages

unfoldable pub is_read : Stage → Bool
is_read Read = true
is_read Play = false
is_read Close = false
is_read Listing = false
is_read Over = false

unfoldable pub is_over : Stage → Bool
is_over Read = false
is_over Play = false
is_over Close = false
is_over Listing = false
is_over Over = true

unfoldable pub staged : Course → Stage → Course
staged c stage = record { player = c.player; stage = stage; from = c.from; to = c.to }

-- before the first read; calls are told of by a trace, or not
unfoldable pub set_out : Bool → Course
set_out traced = record { player = beginning traced; stage = Read; from = 0; to = 0 }

-- ---- what the host says

-- a read failed: nothing more; it gave nothing: the recording ended; it gave so many octets: they are played
unfoldable pub given_of : Course → Bool → ℕ → Course
given_of c is_good size =
    cond is_good (cond (eqb size 0) (staged c Close) (record { player = c.player; stage = Play; from = 0; to = size })) (staged c Over)

-- what was gathered is written before a read, at the end, and where the next step would not find room
unfoldable pub is_due : Stage → ℕ → Bool
is_due stage room = is_read stage || (is_over stage || ltb room 65536)

-- what was gathered could not be written: nothing more
unfoldable pub wrote_of : Course → Bool → Course
wrote_of c is_good = cond is_good c (staged c Over)

-- ---- one step

-- the course after it, what is lent from step to step, and the text that it writes
pub record Stepped : Type 0 where
  pub course : Course
  pub line : List ℕ
  pub table : List ℕ
  pub text : List ℕ

unfoldable pub went_of : Stepped → Went
went_of s = record { course = s.course; written = length s.text }

-- what is left of the piece
unfoldable pub rest_of : ℕ → ℕ → List ℕ → List ℕ
rest_of from to piece = take (min to (length piece) - from) (drop from piece)

-- a piece is used up where nothing of it is left and no tick is due
unfoldable pub used_up : Player → ℕ → Bool
used_up p left = eqb left 0 && (p.broken || eqb p.ticks 0)

-- so many turns on a piece as it takes to use it up
unfoldable pub next_stage : Player → ℕ → Stage
next_stage p left = cond (used_up p left) Read Play

-- after a turn on the rest
unfoldable pub turned_to : Course → Step → List ℕ → List ℕ → Stepped
turned_to c s line rest =
    record {
      course = record { player = s.player; stage = next_stage s.player (length rest - s.used); from = c.from + s.used; to = c.to };
      line = line;
      table = s.table;
      text = s.text;
    }

-- a turn
unfoldable pub play_on : Bool → Course → List ℕ → List ℕ → List ℕ → Stepped
play_on room c line table rest =
    turned_to c (turn_step room c.player line table rest) (held_of c.player line rest) rest

unfoldable pub play_step : List ℕ → Course → List ℕ → List ℕ → List ℕ → Stepped
play_step out c line table piece = play_on (roomy out) c line table (rest_of c.from c.to piece)

-- close, or the listing; then that stage
unfoldable pub ended_by : Course → Step → Stage → List ℕ → List ℕ → Stepped
ended_by c s stage line table =
    record { course = record { player = s.player; stage = stage; from = c.from; to = c.to }; line = line; table = table; text = s.text }

unfoldable pub close_on : List ℕ → Course → List ℕ → List ℕ → Stepped
close_on out c line table = ended_by c (close_step (roomy out) c.player table) Listing line table

unfoldable pub list_on : List ℕ → Course → List ℕ → List ℕ → Stepped
list_on out c line table = ended_by c (finish_step out c.player table) Over line table

-- nothing is done
unfoldable pub still_on : Course → List ℕ → List ℕ → Stepped
still_on c line table = record { course = c; line = line; table = table; text = [] }

unfoldable pub course_at : Stage → List ℕ → Course → List ℕ → List ℕ → List ℕ → Stepped
course_at Read out c line table piece = still_on c line table
course_at Play out c line table piece = play_step out c line table piece
course_at Close out c line table piece = close_on out c line table
course_at Listing out c line table piece = list_on out c line table
course_at Over out c line table piece = still_on c line table

unfoldable pub course_step : List ℕ → Course → List ℕ → List ℕ → List ℕ → Stepped
course_step out c line table piece = course_at c.stage out c line table piece
