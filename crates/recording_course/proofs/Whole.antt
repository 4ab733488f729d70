-- The theorem about a recording's course: after each step the turns so far are turns on the recording, and the rest
-- of it is what is left of the piece and the pieces to come. Assumes nothing.
use Prim.Native.Nat.{ℕ, zero, suc, ◌+◌, ◌-◌, ◌≤◌, ◌<◌, min}
use native.Mathlib.Omega.{arith}
use mathlib.Core.Path.{◌≡◌, refl, sym, ap, subst, ◌∙◌}
use mathlib.Core.Bool.{Bool, true, false, cond, not, ◌&&◌, ◌||◌, true≢false, false≢true}
use mathlib.Core.List.{List, [], ◌∷◌, ◌++◌, append-nil, append_assoc}
use lib.Dec.{eqb}
use lib.ListN.{length, take, drop, length-append, drop_of_length-le}
use lib.Seq.{take-append_seam, drop-append-le, drop-drop}
use borrow.Author.Tests.{eqb-true, le-leb}
use Rattle.checks.specs.Lists.{every, join}
use Rattle.checks.proofs.Laws.{and_left, and_right, cond_elim}
use Rattle.octets.specs.Buffer.{over}
use Rattle.update_rows.specs.Storing.{zeros}
use Rattle.update_rows.proofs.Laws.{zeros_length}
use Rattle.recording_player.specs.declared.Player.{Player}
use Rattle.recording_player.specs.Player.{beginning, Step, roomy, line_fits, turn_step, held_of, close_step, finish_step}
use Rattle.recording_theorem.specs.Output.{output_of}
use Rattle.recording_theorem.specs.Theorem.{Deck, Lent, fresh_deck, step_on, after_turn, Driven, writing, drive, is_done, closed, finished, all_text}
use Rattle.recording_theorem.proofs.Turns.{used_within}
use Rattle.recording_theorem.proofs.Playing.{recordings}
use Rattle.recording_course.specs.declared.Stage.{Stage}
use Rattle.recording_course.specs.declared.Stage.TheVariants.{Read, Play, Close, List as Listing, Over}
use Rattle.recording_course.specs.declared.Course.{Course}
use Rattle.recording_course.specs.Course.{is_read, is_over, staged, set_out, given_of, is_due, wrote_of, Stepped, rest_of, used_up, next_stage, turned_to, play_on, play_step, ended_by, close_on, list_on, still_on, course_at, course_step}
use Rattle.recording_course.proofs.Laws.{given_some}
use Rattle.recording_course.specs.Theorem.{Host, read_next, read_on, gathered, shown, showing, go_on, play_all, host_of, is_some, Unlisted, Courses}

-- ---- one turn more

-- a turn on so many octets of what is left
unfoldable pub onward : Lent → Driven → Driven
onward lent r =
    record {
      deck = after_turn r.deck lent r.rest;
      rest = drop (step_on r.deck lent r.rest).used r.rest;
      text = r.text ++ (step_on r.deck lent r.rest).text;
    }

driven_path : (d : Deck) (rest text text' : List ℕ) → text ≡ text'
    → ◌≡◌ {A = Driven} (record { deck = d; rest = rest; text = text }) (record { deck = d; rest = rest; text = text' })
driven_path d rest text text' e = λ i. record { deck = d; rest = rest; text = e i }

pub drive_onward : (lents : List Lent) (lent : Lent) (d : Deck) (input : List ℕ) → drive (lents ++ (lent ∷ [])) d input ≡ onward lent (drive lents d input)
unfolding drive writing onward
drive_onward [] lent d input =
    driven_path (after_turn d lent input) (drop (step_on d lent input).used input) _ _ (append-nil (step_on d lent input).text)
drive_onward (l ∷ lents) lent d input =
    let r = drive lents (after_turn d l input) (drop (step_on d l input).used input) in
    let said = (step_on d l input).text in
    ap (writing said) (drive_onward lents lent (after_turn d l input) (drop (step_on d l input).used input))
    ∙ driven_path _ _ _ _ (sym (append_assoc said r.text (step_on r.deck lent r.rest).text))

-- a line buffer of the program
pub zeros_fit : line_fits (zeros 4118) ≡ true
unfolding line_fits
zeros_fit = le-leb 4118 (length (zeros 4118)) (omega (arith, zeros_length 4118))

-- ---- the rest of a piece

none_taken : (n : ℕ) → ◌≡◌ {A = List ℕ} [] (take n [])
none_taken zero = refl
none_taken (suc n) = refl

drop_take : (k n : ℕ) (l : List ℕ) → drop k (take n l) ≡ take (n - k) (drop k l)
drop_take zero n l = let e : n ≡ n - 0 = omega arith in ap (λ (m : ℕ). take m l) e
drop_take (suc k) zero [] = none_taken (0 - suc k)
drop_take (suc k) zero (x ∷ l) = let e : 0 ≡ 0 - suc k = omega arith in ap (λ (m : ℕ). take m (drop k l)) e
drop_take (suc k) (suc n) [] = none_taken (suc n - suc k)
drop_take (suc k) (suc n) (x ∷ l) = let e : n - k ≡ suc n - suc k = omega arith in drop_take k n l ∙ ap (λ (m : ℕ). take m (drop k l)) e

-- after so many octets more
pub rest_on : (from to used : ℕ) (piece : List ℕ) → rest_of (from + used) to piece ≡ drop used (rest_of from to piece)
unfolding rest_of
rest_on from to used piece =
    let n = min to (length piece) in
    let e : n - (from + used) ≡ (n - from) - used = omega arith in
    ap (λ (k : ℕ). take k (drop (from + used) piece)) e
    ∙ ap (take ((n - from) - used)) (sym (drop-drop used from piece))
    ∙ sym (drop_take used (n - from) (drop from piece))

-- of a piece that was just read, all
pub rest_read : (octets buffer : List ℕ) → rest_of 0 (length octets) (over octets buffer) ≡ octets
unfolding rest_of over
rest_read octets buffer =
    let e : min (length octets) (length (octets ++ drop (length octets) buffer)) - 0 ≡ length octets =
    omega (arith, length-append octets (drop (length octets) buffer)) in
    ap (λ (k : ℕ). take k (octets ++ drop (length octets) buffer)) e ∙ take-append_seam octets (drop (length octets) buffer)

-- ---- what stands between two steps

abbrev ready : Player → Bool
ready p = p.broken || eqb p.ticks 0

abbrev deck_of : Player → List ℕ → List ℕ → Deck
deck_of p line table = record { player = p; line = line; table = table }

module _ (traced ends : Bool) (recording : List ℕ) where
  -- the turns so far
  record Sofar (d : Deck) (rest text : List ℕ) : Type 0 where
    lents : List Lent
    same : drive lents (fresh_deck traced (zeros 4118)) recording ≡ record { deck = d; rest = rest; text = text }

  -- close was made behind the last turn
  record Closed (p : Player) (table text : List ℕ) : Type 0 where
    deck : Deck
    before : List ℕ
    sofar : Sofar deck [] before
    none : ready deck.player ≡ true
    player : p ≡ (closed deck).player
    table_as : table ≡ deck.table
    text_as : text ≡ before ++ (closed deck).text

  -- all was said
  record Said (text : List ℕ) : Type 0 where
    whole : length recording < 18446744073709551616 → ends ≡ true → text ≡ output_of traced recording
    unlisted : ends ≡ false → Unlisted traced recording text

  -- at each stage
  abbrev At : Stage → Player → ℕ → ℕ → List ℕ → List ℕ → List ℕ → List (List ℕ) → List ℕ → Type 0
  At Read p from to line table piece coming text =
      (Sofar (deck_of p line table) (join coming) text) × ((ready p ≡ true) × (every is_some coming ≡ true))
  At Play p from to line table piece coming text =
      (Sofar (deck_of p line table) (rest_of from to piece ++ join coming) text) × (every is_some coming ≡ true)
  At Close p from to line table piece coming text = (Sofar (deck_of p line table) [] text) × ((ready p ≡ true) × (ends ≡ true))
  At Listing p from to line table piece coming text = (Closed p table text) × (ends ≡ true)
  At Over p from to line table piece coming text = Said text

  -- what was written and what is held are one text
  abbrev Stands : Host → Type 0
  Stands h = At h.course.stage h.course.player h.course.from h.course.to h.line h.table h.piece h.coming (h.text ++ h.held)

  -- after a step behind that text
  abbrev Steps : List ℕ → List (List ℕ) → List ℕ → Stepped → Type 0
  Steps piece coming text s =
      At s.course.stage s.course.player s.course.from s.course.to s.line s.table piece coming (text ++ s.text)

  abbrev host : Stage → Player → ℕ → ℕ → List ℕ → List ℕ → List ℕ → List (List ℕ) → List ℕ → List ℕ → Host
  host stage p from to line table piece coming held text =
      record {
        course = record { player = p; stage = stage; from = from; to = to };
        line = line;
        table = table;
        piece = piece;
        coming = coming;
        held = held;
        text = text;
      }

  -- ---- a read

  module _ (p : Player) (from to : ℕ) (line table piece held text : List ℕ) where
    no_more_given : (b : Bool) → ends ≡ b → At Read p from to line table piece [] (text ++ held) → Stands (read_next b [] (host Read p from to line table piece [] held text))
    unfolding read_next given_of staged join is_done
    no_more_given true e s = (s.0, (s.1.0, e))
    no_more_given false e s =
        record {
          whole = λ few k. absurd (false≢true (sym e ∙ k));
          unlisted = λ k. record {
            lents = s.0.lents;
            done = ap is_done s.0.same ∙ s.1.0;
            same = sym (ap (λ (r : Driven). r.text) s.0.same);
          };
        }

    piece_given : (octets : List ℕ) (coming : List (List ℕ)) → At Read p from to line table piece (octets ∷ coming) (text ++ held)
        → Stands (read_next ends (octets ∷ coming) (host Read p from to line table piece (octets ∷ coming) held text))
    unfolding read_next every is_some join
    piece_given octets coming s = go (eqb (length octets) 0) refl (and_left (not (eqb (length octets) 0)) (every is_some coming) s.1.1)
      where
        given : Course → Host
        given c = record { course = c; line = line; table = table; piece = over octets piece; coming = coming; held = held; text = text }

        c : Course
        c = record { player = p; stage = Read; from = from; to = to }

        go : (b : Bool) → eqb (length octets) 0 ≡ b → not b ≡ true → Stands (given (given_of c true (length octets)))
        go true e k = absurd (false≢true k)
        go false e k =
            subst (λ (x : Course). Stands (given x)) (sym (given_some c true (length octets) refl e)) (
              record {
                lents = s.0.lents;
                same = s.0.same
                    ∙ (λ i. record { deck = deck_of p line table; rest = (sym (rest_read octets piece) i) ++ join coming; text = text ++ held });
              },
              and_right (not (eqb (length octets) 0)) (every is_some coming) s.1.1,
            )

  read_kept : (stage : Stage) (p : Player) (from to : ℕ) (line table piece : List ℕ) (coming : List (List ℕ)) (held text : List ℕ)
      → At stage p from to line table piece coming (text ++ held)
      → Stands (read_on ends (host stage p from to line table piece coming held text))
  unfolding read_on is_read
  read_kept Read p from to line table piece [] held text s = no_more_given p from to line table piece held text ends refl s
  read_kept Read p from to line table piece (octets ∷ coming) held text s = piece_given p from to line table piece held text octets coming s
  read_kept Play p from to line table piece coming held text s = s
  read_kept Close p from to line table piece coming held text s = s
  read_kept Listing p from to line table piece coming held text s = s
  read_kept Over p from to line table piece coming held text s = s

  -- ---- a step

  module _ (p : Player) (from to : ℕ) (line table piece : List ℕ) (coming : List (List ℕ)) (text : List ℕ) where
    abbrev rest : List ℕ
    rest = rest_of from to piece

    abbrev d : Deck
    d = deck_of p line table

    abbrev course : Stage → Course
    course stage = record { player = p; stage = stage; from = from; to = to }

    module _ (out : List ℕ) where
      abbrev s : Step
      s = turn_step (roomy out) p line table rest

      abbrev after : Deck
      after = record { player = s.player; line = held_of p line rest; table = s.table }

      one_more_lem : Sofar d (rest ++ join coming) text → Sofar after (drop s.used rest ++ join coming) (text ++ s.text)
      unfolding onward after_turn step_on
      one_more_lem t =
          let q = take-append_seam rest (join coming) in
          record {
            lents = t.lents ++ (record { size = length rest; out = out } ∷ []);
            same = drive_onward t.lents (record { size = length rest; out = out }) (fresh_deck traced (zeros 4118)) recording
                ∙ ap (onward (record { size = length rest; out = out })) t.same
                ∙ (λ i. record {
                  deck = record {
                    player = (turn_step (roomy out) p line table (q i)).player;
                    line = held_of p line (q i);
                    table = (turn_step (roomy out) p line table (q i)).table;
                  };
                  rest = drop (turn_step (roomy out) p line table (q i)).used (rest ++ join coming);
                  text = text ++ (turn_step (roomy out) p line table (q i)).text;
                })
                ∙ (λ i. record {
                  deck = after;
                  rest = drop-append-le s.used rest (join coming) (used_within (roomy out) p line table rest) i;
                  text = text ++ s.text;
                });
          }

      -- the piece is used up
      none_left : Sofar after (drop s.used rest ++ join coming) (text ++ s.text) → length rest - s.used ≡ 0 → Sofar after (join coming) (text ++ s.text)
      none_left t z =
          let k : length rest ≤ s.used = omega (arith, z) in
          record {
            lents = t.lents;
            same = t.same ∙ (λ i. record { deck = after; rest = (drop_of_length-le rest k i) ++ join coming; text = text ++ s.text });
          }

      some_left : Sofar after (drop s.used rest ++ join coming) (text ++ s.text) → Sofar after (rest_of (from + s.used) to piece ++ join coming) (text ++ s.text)
      some_left t =
          record {
            lents = t.lents;
            same = t.same ∙ (λ i. record { deck = after; rest = (sym (rest_on from to s.used piece) i) ++ join coming; text = text ++ s.text });
          }

      play_step_lem : At Play p from to line table piece coming text
          → Steps piece coming text (play_on (roomy out) (course Play) line table rest)
      unfolding play_on turned_to next_stage used_up
      play_step_lem t = go (eqb (length rest - s.used) 0 && ready s.player) refl
        where
          go : (b : Bool) → (eqb (length rest - s.used) 0 && ready s.player) ≡ b
              → At (cond b Read Play) s.player (from + s.used) to (held_of p line rest) s.table piece coming (text ++ s.text)
          go true e = (
            none_left (one_more_lem t.0) (eqb-true (length rest - s.used) 0 (and_left (eqb (length rest - s.used) 0) (ready s.player) e)),
            (and_right (eqb (length rest - s.used) 0) (ready s.player) e, t.1),
          )
          go false e = (some_left (one_more_lem t.0), t.1)

    close_step_lem : At Close p from to line table piece coming text
        → Steps piece coming text (ended_by (course Close) (close_step true p table) Listing line table)
    unfolding ended_by closed
    close_step_lem s =
        (record { deck = d; before = text; sofar = s.0; none = s.1.0; player = refl; table_as = refl; text_as = refl }, s.1.1)

    list_step : (out : List ℕ) → roomy out ≡ true → At Listing p from to line table piece coming text
        → Steps piece coming text (ended_by (course Listing) (finish_step out p table) Over line table)
    unfolding ended_by finished all_text is_done
    list_step out room s =
        let k = s.0 in
        let r = k.sofar in
        let last = (finished out k.deck).text in
        record {
          whole = λ few e.
              (λ i. (k.text_as i) ++ (finish_step out (k.player i) (k.table_as i)).text)
              ∙ append_assoc k.before (closed k.deck).text last
              ∙ ap (all_text out) (sym r.same)
              ∙ (recordings.played traced (zeros 4118) recording r.lents zeros_fit (ap is_done r.same ∙ k.none)).output few out room;
          unlisted = λ e. absurd (true≢false (sym s.1 ∙ e));
        }

  still : (stage : Stage) (p : Player) (from to : ℕ) (line table piece : List ℕ) (coming : List (List ℕ)) (text : List ℕ)
      → At stage p from to line table piece coming text
      → Steps piece coming text (still_on (record { player = p; stage = stage; from = from; to = to }) line table)
  unfolding still_on
  still stage p from to line table piece coming text s =
      subst (λ (t : List ℕ). At stage p from to line table piece coming t) (sym (append-nil text)) s

  -- what a step wrote is gathered, and written where that is due
  module _ (h : Host) (s : Stepped) where
    gathered_kept : Steps h.piece h.coming (h.text ++ h.held) s → Stands (gathered h s)
    unfolding gathered
    gathered_kept k =
        subst
        (λ (t : List ℕ). At s.course.stage s.course.player s.course.from s.course.to s.line s.table h.piece h.coming t)
        (append_assoc h.text h.held s.text) k

    shown_kept : Stands (gathered h s) → Stands (shown (gathered h s))
    unfolding gathered shown wrote_of
    shown_kept k =
        subst
        (λ (t : List ℕ). At s.course.stage s.course.player s.course.from s.course.to s.line s.table h.piece h.coming t)
        (sym (append-nil (h.text ++ (h.held ++ s.text)))) k

    showing_kept : (room : ℕ) → Steps h.piece h.coming (h.text ++ h.held) s → Stands (showing room h s)
    unfolding showing
    showing_kept room k =
        cond_elim (λ (x : Host). Stands x) (is_due s.course.stage (room - length s.text)) (shown (gathered h s)) (gathered h s)
        (λ _. shown_kept (gathered_kept k)) (λ _. gathered_kept k)

  module _ (out : List ℕ) (room : roomy out ≡ true) where
    step_kept : (stage : Stage) (p : Player) (from to : ℕ) (line table piece : List ℕ) (coming : List (List ℕ)) (text : List ℕ)
        → At stage p from to line table piece coming text
        → Steps piece coming text (course_step out (record { player = p; stage = stage; from = from; to = to }) line table piece)
    unfolding course_step course_at play_step close_on list_on
    step_kept Read p from to line table piece coming text s = still Read p from to line table piece coming text s
    step_kept Play p from to line table piece coming text s = play_step_lem p from to line table piece coming text out s
    step_kept Close p from to line table piece coming text s =
        subst
        (λ (b : Bool). Steps piece coming text (ended_by (record { player = p; stage = Close; from = from; to = to }) (close_step b p table) Listing line table))
        (sym room) (close_step_lem p from to line table piece coming text s)
    step_kept Listing p from to line table piece coming text s = list_step p from to line table piece coming text out room s
    step_kept Over p from to line table piece coming text s = still Over p from to line table piece coming text s

    turn_kept : (h : Host) → Stands h → Stands (go_on out (read_on ends h))
    unfolding go_on
    turn_kept h s =
        let r = read_on ends h in
        let k = read_kept h.course.stage h.course.player h.course.from h.course.to h.line h.table h.piece h.coming h.held h.text s in
        showing_kept r (course_step out r.course r.line r.table r.piece) (length out)
        (step_kept r.course.stage r.course.player r.course.from r.course.to r.line r.table r.piece r.coming (r.text ++ r.held) k)

  all_kept : (outs : List (List ℕ)) → every roomy outs ≡ true → (h : Host) → Stands h → Stands (play_all ends outs h)
  unfolding play_all every
  all_kept [] e h s = s
  all_kept (out ∷ outs) e h s =
      cond_elim (λ (x : Host). Stands x) (is_over h.course.stage) h (play_all ends outs (go_on out (read_on ends h))) (λ k. s)
      (λ k. all_kept outs (and_right (roomy out) (every roomy outs) e) (go_on out (read_on ends h)) (turn_kept out (and_left (roomy out) (every roomy outs) e) h s))

  over_said : (stage : Stage) (p : Player) (from to : ℕ) (line table piece : List ℕ) (coming : List (List ℕ)) (text : List ℕ)
      → is_over stage ≡ true → At stage p from to line table piece coming text → Said text
  unfolding is_over
  over_said Read p from to line table piece coming text e s = absurd (false≢true e)
  over_said Play p from to line table piece coming text e s = absurd (false≢true e)
  over_said Close p from to line table piece coming text e s = absurd (false≢true e)
  over_said Listing p from to line table piece coming text e s = absurd (false≢true e)
  over_said Over p from to line table piece coming text e s = s

-- ---- what is held

-- nothing, where a read comes next or nothing more
record Bare (h : Host) : Type 0 where
  at_read : is_read h.course.stage ≡ true → h.held ≡ []
  at_end : is_over h.course.stage ≡ true → h.held ≡ []

-- it is due there
due_read : (stage : Stage) (room : ℕ) → is_due stage room ≡ false → is_read stage ≡ false
unfolding is_due is_read
due_read Read room e = absurd (true≢false e)
due_read Play room e = refl
due_read Close room e = refl
due_read Listing room e = refl
due_read Over room e = refl

due_end : (stage : Stage) (room : ℕ) → is_due stage room ≡ false → is_over stage ≡ false
unfolding is_due is_read is_over
due_end Read room e = refl
due_end Play room e = refl
due_end Close room e = refl
due_end Listing room e = refl
due_end Over room e = absurd (true≢false e)

bare_step : (room : ℕ) (h : Host) (s : Stepped) → Bare (showing room h s)
unfolding showing shown gathered
bare_step room h s =
    cond_elim Bare (is_due s.course.stage (room - length s.text)) (shown (gathered h s)) (gathered h s)
    (λ _. record { at_read = λ _. refl; at_end = λ _. refl })
    (λ e. record {
      at_read = λ k. absurd (true≢false (sym k ∙ due_read s.course.stage (room - length s.text) e));
      at_end = λ k. absurd (true≢false (sym k ∙ due_end s.course.stage (room - length s.text) e));
    })

bare_turn : (out : List ℕ) (h : Host) → Bare (go_on out h)
unfolding go_on
bare_turn out h = bare_step (length out) h (course_step out h.course h.line h.table h.piece)

all_bare : (ends : Bool) (outs : List (List ℕ)) (h : Host) → Bare h → Bare (play_all ends outs h)
unfolding play_all
all_bare ends [] h k = k
all_bare ends (out ∷ outs) h k =
    cond_elim Bare (is_over h.course.stage) h (play_all ends outs (go_on out (read_on ends h))) (λ _. k)
    (λ _. all_bare ends outs (go_on out (read_on ends h)) (bare_turn out (read_on ends h)))

bare : (traced ends : Bool) (outs pieces : List (List ℕ)) (buffer : List ℕ) → Bare (play_all ends outs (host_of traced buffer pieces))
unfolding host_of
bare traced ends outs pieces buffer = all_bare ends outs (host_of traced buffer pieces) (record { at_read = λ _. refl; at_end = λ _. refl })

-- before the first read
set_out_lem : (traced ends : Bool) (buffer : List ℕ) (pieces : List (List ℕ)) → every is_some pieces ≡ true → Stands traced ends (join pieces) (host_of traced buffer pieces)
unfolding host_of set_out fresh_deck drive beginning
set_out_lem traced ends buffer pieces e = (record { lents = []; same = refl }, (refl, e))

module _ (traced ends : Bool) (pieces outs : List (List ℕ)) (buffer : List ℕ) (some : every is_some pieces ≡ true) (room : every roomy outs ≡ true) where
  abbrev h : Host
  h = play_all ends outs (host_of traced buffer pieces)

  said : is_over h.course.stage ≡ true → Said traced ends (join pieces) h.text
  said e =
      subst (Said traced ends (join pieces)) (ap (λ (l : List ℕ). h.text ++ l) ((bare traced ends outs pieces buffer).at_end e) ∙ append-nil h.text)
      (over_said traced ends (join pieces) h.course.stage h.course.player h.course.from h.course.to h.line h.table h.piece h.coming
      (h.text ++ h.held) e
      (all_kept traced ends (join pieces) outs room (host_of traced buffer pieces) (set_out_lem traced ends buffer pieces some)))

pub courses : Courses
courses =
    record {
      ended = λ traced pieces outs buffer few some room e. (said traced true pieces outs buffer some room e).whole few refl;
      failed = λ traced pieces outs buffer some room e. (said traced false pieces outs buffer some room e).unlisted refl;
      shown_at_reads = λ traced ends pieces outs buffer e. (bare traced ends outs pieces buffer).at_read e;
    }
