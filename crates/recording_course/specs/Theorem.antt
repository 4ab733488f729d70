-- The theorem about a recording's course: the loop of the program, whatever pieces its reads give, writes what the
-- recording says; and nothing of the end where a read fails.
use Rattle.std.specs.Prelude.{ℕ, ◌-◌, ◌≤◌, ◌<◌, ◌≡◌, Bool, true, false, cond, not, List, [], ◌∷◌, ◌++◌, eqb, length}
use Rattle.checks.specs.Lists.{every, join}
use Rattle.octets.specs.Buffer.{over}
use Rattle.update_rows.specs.Storing.{zeros}
use Rattle.model.specs.Theorem.{empty_table}
use Rattle.recording_player.specs.Player.{roomy}
use Rattle.recording_theorem.specs.Output.{output_of}
use Rattle.recording_theorem.specs.Theorem.{Lent, fresh_deck, drive, is_done}
use Rattle.recording_course.specs.declared.Course.{Course}
use Rattle.recording_course.specs.Course.{is_read, is_over, set_out, given_of, is_due, wrote_of, Stepped, course_step}

-- ---- the host's loop

-- the course, what the host lends from step to step, the pieces that the reads to come give, what was gathered and is
-- not yet written, and all that was written
pub record Host : Type 0 where
  pub course : Course
  pub line : List ℕ
  pub table : List ℕ
  pub piece : List ℕ
  pub coming : List (List ℕ)
  pub held : List ℕ
  pub text : List ℕ

-- a read leaves a piece at the front of the lent buffer; behind the last piece the input ends, or a read fails
unfoldable pub read_next : Bool → List (List ℕ) → Host → Host
read_next ends [] h =
    record { course = given_of h.course ends 0; line = h.line; table = h.table; piece = h.piece; coming = []; held = h.held; text = h.text }
read_next ends (octets ∷ rest) h =
    record {
      course = given_of h.course true (length octets);
      line = h.line;
      table = h.table;
      piece = over octets h.piece;
      coming = rest;
      held = h.held;
      text = h.text;
    }

unfoldable pub read_on : Bool → Host → Host
read_on ends h = cond (is_read h.course.stage) (read_next ends h.coming h) h

-- what a step wrote is gathered
unfoldable pub gathered : Host → Stepped → Host
gathered h s =
    record {
      course = s.course;
      line = s.line;
      table = s.table;
      piece = h.piece;
      coming = h.coming;
      held = h.held ++ s.text;
      text = h.text;
    }

-- all that was gathered is written
unfoldable pub shown : Host → Host
shown h =
    record {
      course = wrote_of h.course true;
      line = h.line;
      table = h.table;
      piece = h.piece;
      coming = h.coming;
      held = [];
      text = h.text ++ h.held;
    }

-- where it is due; the step had a buffer with so much room
unfoldable pub showing : ℕ → Host → Stepped → Host
showing room h s = cond (is_due s.course.stage (room - length s.text)) (shown (gathered h s)) (gathered h s)

unfoldable pub go_on : List ℕ → Host → Host
go_on out h = showing (length out) h (course_step out h.course h.line h.table h.piece)

-- step after step, each with what is left of the output buffer, until nothing more comes
unfoldable pub play_all : Bool → List (List ℕ) → Host → Host
play_all ends [] h = h
play_all ends (out ∷ outs) h = cond (is_over h.course.stage) h (play_all ends outs (go_on out (read_on ends h)))

-- before the first read, whatever the buffer for pieces holds
unfoldable pub host_of : Bool → List ℕ → List (List ℕ) → Host
host_of traced buffer pieces =
    record { course = set_out traced; line = zeros 4118; table = empty_table; piece = buffer; coming = pieces; held = []; text = [] }

-- ---- the statement

-- a read that gives no octet is the end
unfoldable pub is_some : List ℕ → Bool
is_some octets = not (eqb (length octets) 0)

-- what the player's turns write, once nothing of the recording is left and no tick is due; neither close nor listing
pub record Unlisted (traced : Bool) (recording text : List ℕ) : Type 0 where
  pub lents : List Lent
  pub done : is_done (drive lents (fresh_deck traced (zeros 4118)) recording) ≡ true
  pub same : text ≡ (drive lents (fresh_deck traced (zeros 4118)) recording).text

pub record Courses : Type 0 where
  -- the recording was read to its end: what it should write was written, all of it; lines are counted in 64 bits
  pub ended :
      (traced : Bool) (pieces outs : List (List ℕ)) (buffer : List ℕ) → length (join pieces) < 18446744073709551616
      → every is_some pieces ≡ true → every roomy outs ≡ true
      → is_over (play_all true outs (host_of traced buffer pieces)).course.stage ≡ true
      → (play_all true outs (host_of traced buffer pieces)).text ≡ output_of traced (join pieces)
  -- a read failed
  pub failed :
      (traced : Bool) (pieces outs : List (List ℕ)) (buffer : List ℕ) → every is_some pieces ≡ true → every roomy outs ≡ true
      → is_over (play_all false outs (host_of traced buffer pieces)).course.stage ≡ true
      → Unlisted traced (join pieces) (play_all false outs (host_of traced buffer pieces)).text
  -- nothing is held back at a read
  pub shown_at_reads :
      (traced ends : Bool) (pieces outs : List (List ℕ)) (buffer : List ℕ)
      → is_read (play_all ends outs (host_of traced buffer pieces)).course.stage ≡ true
      → (play_all ends outs (host_of traced buffer pieces)).held ≡ []

-- however the recording is cut into pieces, and whether its last read ends or fails, the loop comes to its end
pub record CourseEnding (traced ends : Bool) (buffer : List ℕ) (pieces : List (List ℕ)) : Type 0 where
  pub steps : ℕ
  pub over :
      (outs : List (List ℕ)) → every roomy outs ≡ true → steps ≤ length outs
      → is_over (play_all ends outs (host_of traced buffer pieces)).course.stage ≡ true

abbrev pub EveryCourseEnds : Type 0
EveryCourseEnds =
    (traced ends : Bool) (buffer : List ℕ) (pieces : List (List ℕ)) → every is_some pieces ≡ true → CourseEnding traced ends buffer pieces
