-- Every course comes to its end: its turns are turns on the recording, and those come to its end. Assumes nothing.
use Prim.Native.Nat.{ℕ, zero, suc, ◌+◌, ◌*◌, ◌-◌, ◌≤◌, ◌<◌}
use native.Mathlib.Omega.{arith}
use mathlib.Core.Path.{◌≡◌, refl, sym, ap, subst, ◌∙◌}
use mathlib.Core.Bool.{Bool, true, false, cond, not, ◌&&◌, ◌||◌, true≢false, false≢true}
use mathlib.Core.List.{List, [], ◌∷◌, ◌++◌}
use lib.Dec.{eqb, ltb}
use lib.ListN.{length, take, drop, length-append, length-drop, drop_of_length-le}
use lib.Seq.{take-append_seam, drop-append-le}
use borrow.Author.Tests.{eqb-true, eqb-false, eq-eqb, lt-ltb}
use Rattle.checks.specs.Lists.{every, join}
use Rattle.checks.proofs.Laws.{and_left, and_right, cond_elim}
use Rattle.octets.specs.Buffer.{over}
use Rattle.update_rows.specs.Storing.{zeros}
use Rattle.recording_player.specs.declared.Player.{Player}
use Rattle.recording_player.specs.Player.{beginning, Step, roomy, call_checks, given, tick_step, free_step, turn_checked, turn_step, only_holds, held_of}
use Rattle.recording_theorem.specs.Theorem.{Deck, Lent, fresh_deck, step_on, after_turn, drive, is_done, is_plenty, plenty}
use Rattle.recording_theorem.proofs.Turns.{used_within}
use Rattle.recording_theorem.proofs.Ends.{every_recording_ends}
use Rattle.recording_course.specs.declared.Stage.{Stage}
use Rattle.recording_course.specs.declared.Stage.TheVariants.{Read, Play, Close, List as Listing, Over}
use Rattle.recording_course.specs.declared.Course.{Course}
use Rattle.recording_course.specs.Course.{is_read, is_over, staged, set_out, given_of, is_due, wrote_of, Stepped, rest_of, used_up, next_stage, turned_to, play_on, play_step, ended_by, close_on, list_on, still_on, course_at, course_step}
use Rattle.recording_course.specs.Theorem.{Host, read_next, read_on, gathered, shown, showing, go_on, play_all, host_of, is_some, EveryCourseEnds}
use Rattle.recording_course.proofs.Laws.{given_some}
use Rattle.recording_course.proofs.Whole.{onward, drive_onward, rest_on, rest_read, zeros_fit}

abbrev ready : Player → Bool
ready p = p.broken || eqb p.ticks 0

-- ---- a turn on a piece is a turn with room and an octet on the recording

-- where nothing of the piece is left, a tick is due
tick_due : (p : Player) (left : ℕ) → eqb left 0 ≡ true → used_up p left ≡ false → (p.broken ≡ false) × (ltb 0 p.ticks ≡ true)
unfolding used_up
tick_due p left e u = go (eqb left 0) e u
  where
    both : (b : Bool) → p.broken ≡ b → (t : Bool) → eqb p.ticks 0 ≡ t → (b || t) ≡ false → (p.broken ≡ false) × (ltb 0 p.ticks ≡ true)
    both true f t k h = absurd (true≢false h)
    both false f true k h = absurd (true≢false h)
    both false f false k h = let some : (p.ticks ≡ 0) → ⊥ = eqb-false p.ticks 0 k in (f, lt-ltb 0 p.ticks (omega (arith, some)))

    go : (b : Bool) → b ≡ true → (b && ready p) ≡ false → (p.broken ≡ false) × (ltb 0 p.ticks ≡ true)
    go true k h = both p.broken refl (eqb p.ticks 0) refl h
    go false k h = absurd (false≢true k)

-- and then a turn does not look at its input
module _ (room : Bool) (p : Player) (line table input : List ℕ) (f : p.broken ≡ false) (k : ltb 0 p.ticks ≡ true) where
  tick_turn : turn_step room p line table input ≡ given p table (call_checks room p.state (length table)) (tick_step p table)
  unfolding turn_step turn_checked free_step
  tick_turn = rw (f, k)

  tick_held : held_of p line input ≡ line
  unfolding held_of only_holds
  tick_held = rw (f, k)

plenty_more : (lents : List Lent) (lent : Lent) → is_plenty lent ≡ true → plenty (lents ++ (lent ∷ [])) ≡ suc (plenty lents)
unfolding plenty
plenty_more [] lent e = rw e
plenty_more (l ∷ lents) lent e = go (is_plenty l) (plenty_more lents lent e)
  where
    go : (b : Bool) → plenty (lents ++ (lent ∷ [])) ≡ suc (plenty lents)
        → cond b (suc (plenty (lents ++ (lent ∷ [])))) (plenty (lents ++ (lent ∷ []))) ≡ suc (cond b (suc (plenty lents)) (plenty lents))
    go true h = ap suc h
    go false h = h

abbrev deck_of : Player → List ℕ → List ℕ → Deck
deck_of p line table = record { player = p; line = line; table = table }

module _ (traced : Bool) (recording : List ℕ) where
  -- so many turns at least with room and an octet led here
  record Sofar (turns : ℕ) (d : Deck) (rest : List ℕ) : Type 0 where
    lents : List Lent
    many : turns ≤ plenty lents
    text : List ℕ
    same : drive lents (fresh_deck traced (zeros 4118)) recording ≡ record { deck = d; rest = rest; text = text }

  -- after 86,401 such turns for each octet nothing is left to do
  all_done : (turns : ℕ) (p : Player) (line table rest : List ℕ) → 86401 * length recording ≤ turns → Sofar turns (deck_of p line table) rest
      → (eqb (length rest) 0 && ready p) ≡ true
  unfolding is_done
  all_done turns p line table rest m t =
      ap is_done (sym t.same) ∙ every_recording_ends traced (zeros 4118) recording t.lents zeros_fit (omega (arith, m, t.many))

module _ (traced : Bool) (recording out : List ℕ) (room : roomy out ≡ true) where
  lent_plenty : (n : ℕ) → 0 < n → is_plenty (record { size = n; out = out }) ≡ true
  unfolding is_plenty
  lent_plenty n k = rw (room, lt-ltb 0 n k)

  module _ (p : Player) (line table rest left : List ℕ) where
    abbrev s : Step
    s = turn_step (roomy out) p line table rest

    abbrev after : Deck
    after = deck_of s.player (held_of p line rest) s.table

    by_size : (turns n : ℕ) → 0 < n → turn_step (roomy out) p line table (take n (rest ++ left)) ≡ s
        → held_of p line (take n (rest ++ left)) ≡ held_of p line rest
        → Sofar traced recording turns (deck_of p line table) (rest ++ left) → Sofar traced recording (suc turns) after (drop s.used rest ++ left)
    unfolding onward after_turn step_on
    by_size turns n k e f t =
        let lent : Lent = record { size = n; out = out } in
        record {
          lents = t.lents ++ (lent ∷ []);
          many = omega (arith, t.many, plenty_more t.lents lent (lent_plenty n k));
          text = t.text ++ s.text;
          same = drive_onward t.lents lent (fresh_deck traced (zeros 4118)) recording
              ∙ ap (onward lent) t.same
              ∙ (λ i. record {
                deck = record { player = (e i).player; line = f i; table = (e i).table };
                rest = drop (e i).used (rest ++ left);
                text = t.text ++ (e i).text;
              })
              ∙ (λ i. record {
                deck = after;
                rest = drop-append-le s.used rest left (used_within (roomy out) p line table rest) i;
                text = t.text ++ s.text;
              });
        }

    turn_more : (turns : ℕ) → used_up p (length rest) ≡ false → Sofar traced recording turns (deck_of p line table) (rest ++ left)
        → Sofar traced recording (suc turns) after (drop s.used rest ++ left)
    turn_more turns u t = go (eqb (length rest) 0) refl
      where
        go : (b : Bool) → eqb (length rest) 0 ≡ b → Sofar traced recording (suc turns) after (drop s.used rest ++ left)
        go false e =
            let some : (length rest ≡ 0) → ⊥ = eqb-false (length rest) 0 e in
            by_size turns (length rest) (omega (arith, some)) (ap (turn_step (roomy out) p line table) (take-append_seam rest left))
            (ap (held_of p line) (take-append_seam rest left)) t
        go true e =
            let f = (tick_due p (length rest) e u).0 in
            let k = (tick_due p (length rest) e u).1 in
            by_size turns 1 (omega arith)
            (tick_turn (roomy out) p line table (take 1 (rest ++ left)) f k ∙ sym (tick_turn (roomy out) p line table rest f k))
            (tick_held (roomy out) p line table (take 1 (rest ++ left)) f k ∙ sym (tick_held (roomy out) p line table rest f k)) t

abbrev host : Stage → Player → ℕ → ℕ → List ℕ → List ℕ → List ℕ → List (List ℕ) → List ℕ → List ℕ → Host
host stage p from to line table piece coming held text =
    record {
      course = record { player = p; stage = stage; from = from; to = to };
      line = line;
      table = table;
      piece = piece;
      coming = coming;
      held = held;
      text = text;
    }

module _ (traced ends : Bool) (recording : List ℕ) where
  -- from this host on, in so many steps
  abbrev Done : ℕ → Host → Type 0
  Done n h = (outs : List (List ℕ)) → every roomy outs ≡ true → n ≤ length outs → is_over (play_all ends outs h).course.stage ≡ true

  done_now : (n : ℕ) (h : Host) → is_over h.course.stage ≡ true → Done n h
  unfolding play_all
  done_now n h e [] r k = e
  done_now n h e (out ∷ outs) r k = rw e e

  one_more_lem : (n : ℕ) (h : Host) → is_over h.course.stage ≡ false → ((out : List ℕ) → roomy out ≡ true → Done n (go_on out (read_on ends h))) → Done (suc n) h
  unfolding play_all every
  one_more_lem n h e f [] r k = absurd (omega (arith, k))
  one_more_lem n h e f (out ∷ outs) r k =
      rw e (f out (and_left (roomy out) (every roomy outs) r) outs (and_right (roomy out) (every roomy outs) r) (omega (arith, k)))

  -- whether a step's text is written or held back, the course is the same
  showing_done : (n room : ℕ) (h : Host) (s : Stepped)
      → ((held text : List ℕ) → Done n (host s.course.stage s.course.player s.course.from s.course.to s.line s.table h.piece h.coming held text))
      → Done n (showing room h s)
  unfolding showing shown gathered wrote_of
  showing_done n room h s f =
      cond_elim (Done n) (is_due s.course.stage (room - length s.text)) (shown (gathered h s)) (gathered h s) (λ _. f _ _) (λ _. f _ _)

  over_done : (n : ℕ) (p : Player) (from to : ℕ) (line table piece : List ℕ) (coming : List (List ℕ)) (held text : List ℕ)
      → Done n (host Over p from to line table piece coming held text)
  unfolding is_over
  over_done n p from to line table piece coming held text = done_now n (host Over p from to line table piece coming held text) refl

  list_done : (n : ℕ) (p : Player) (from to : ℕ) (line table piece : List ℕ) (coming : List (List ℕ)) (held text : List ℕ)
      → Done (suc n) (host Listing p from to line table piece coming held text)
  unfolding is_over is_read read_on go_on course_step course_at list_on ended_by
  list_done n p from to line table piece coming held text =
      one_more_lem n (host Listing p from to line table piece coming held text) refl (λ out room.
      showing_done n (length out) (host Listing p from to line table piece coming held text) _ (over_done n _ from to line table piece coming))

  -- behind the last piece
  none_done : (n : ℕ) (p : Player) (from to : ℕ) (line table piece held text : List ℕ)
      → Done (suc (suc n)) (host Read p from to line table piece [] held text)
  unfolding is_over is_read read_on read_next given_of staged go_on course_step course_at still_on close_on ended_by
  none_done n p from to line table piece held text =
      one_more_lem (suc n) (host Read p from to line table piece [] held text) refl (λ out room. go out ends)
    where
      go : (out : List ℕ) (b : Bool) → Done (suc n) (go_on out (read_next b [] (host Read p from to line table piece [] held text)))
      go out true =
          showing_done (suc n) (length out) (host Close p from to line table piece [] held text) _ (list_done n _ from to line table piece [])
      go out false =
          showing_done (suc n) (length out) (host Over p from to line table piece [] held text) _ (over_done (suc n) p from to line table piece [])

  -- with so many turns more, close and listing
  record Goes (fuel : ℕ) : Type 0 where
    reads : (turns : ℕ) (p : Player) (from to : ℕ) (line table piece : List ℕ) (coming : List (List ℕ)) (held text : List ℕ)
        → every is_some coming ≡ true → 86401 * length recording ≤ turns + fuel → Sofar traced recording turns (deck_of p line table) (join coming)
        → Done (suc (suc fuel)) (host Read p from to line table piece coming held text)
    plays : (turns : ℕ) (p : Player) (from to : ℕ) (line table piece : List ℕ) (coming : List (List ℕ)) (held text : List ℕ)
        → every is_some coming ≡ true → 86401 * length recording ≤ turns + fuel → used_up p (length (rest_of from to piece)) ≡ false
        → Sofar traced recording turns (deck_of p line table) (rest_of from to piece ++ join coming)
        → Done (suc (suc fuel)) (host Play p from to line table piece coming held text)

  -- ---- a turn

  module _ (fuel : ℕ) (g : Goes fuel) (turns : ℕ) (p : Player) (from to : ℕ) (line table piece : List ℕ) (coming : List (List ℕ))
      (some : every is_some coming ≡ true) (m : 86401 * length recording ≤ turns + suc fuel) (u : used_up p (length (rest_of from to piece)) ≡ false)
      (t : Sofar traced recording turns (deck_of p line table) (rest_of from to piece ++ join coming)) where
    abbrev rest : List ℕ
    rest = rest_of from to piece

    module _ (out : List ℕ) (room : roomy out ≡ true) where
      abbrev turn : Step
      turn = turn_step (roomy out) p line table rest

      abbrev next : Deck
      next = deck_of turn.player (held_of p line rest) turn.table

      made : Sofar traced recording (suc turns) next (drop turn.used rest ++ join coming)
      made = turn_more traced recording out room p line table rest (join coming) turns u t

      -- so many octets are left after the turn
      left_after : length (rest_of (from + turn.used) to piece) ≡ length rest - turn.used
      left_after = ap length (rest_on from to turn.used piece) ∙ length-drop turn.used rest

      none_left : length rest - turn.used ≡ 0 → Sofar traced recording (suc turns) next (join coming)
      none_left z =
          let k : length rest ≤ turn.used = omega (arith, z) in
          subst (λ (l : List ℕ). Sofar traced recording (suc turns) next (l ++ join coming)) (drop_of_length-le rest k) made

      some_left : Sofar traced recording (suc turns) next (rest_of (from + turn.used) to piece ++ join coming)
      some_left =
          subst (λ (l : List ℕ). Sofar traced recording (suc turns) next (l ++ join coming)) (sym (rest_on from to turn.used piece)) made

      none_of : used_up turn.player (length rest - turn.used) ≡ true → length rest - turn.used ≡ 0
      unfolding used_up
      none_of e = eqb-true (length rest - turn.used) 0 (and_left (eqb (length rest - turn.used) 0) (ready turn.player) e)

      -- another one, or the next piece
      turned : (held text : List ℕ)
          → Done (suc (suc fuel))
          (showing (length out) (host Play p from to line table piece coming held text)
          (play_on (roomy out) (record { player = p; stage = Play; from = from; to = to }) line table rest))
      unfolding play_on turned_to next_stage
      turned held text =
          showing_done (suc (suc fuel)) (length out) (host Play p from to line table piece coming held text) _
          (go (used_up turn.player (length rest - turn.used)) refl)
        where
          go : (b : Bool) → used_up turn.player (length rest - turn.used) ≡ b → (held text : List ℕ)
              → Done (suc (suc fuel)) (host (cond b Read Play) turn.player (from + turn.used) to (held_of p line rest) turn.table piece coming held text)
          go true e held text =
              g.reads (suc turns) turn.player (from + turn.used) to (held_of p line rest) turn.table piece coming held text some
              (omega (arith, m)) (none_left (none_of e))
          go false e held text =
              g.plays (suc turns) turn.player (from + turn.used) to (held_of p line rest) turn.table piece coming held text some
              (omega (arith, m)) (ap (used_up turn.player) left_after ∙ e) some_left

      step_done : (held text : List ℕ) → Done (suc (suc fuel)) (go_on out (host Play p from to line table piece coming held text))
      unfolding go_on course_step course_at play_step
      step_done held text = turned held text

    turn_done : (held text : List ℕ) → Done (suc (suc (suc fuel))) (host Play p from to line table piece coming held text)
    unfolding is_over is_read read_on
    turn_done held text =
        one_more_lem (suc (suc fuel)) (host Play p from to line table piece coming held text) refl (λ out room. step_done out room held text)

  -- ---- a read

  some_tail : (octets : List ℕ) (coming : List (List ℕ)) → every is_some (octets ∷ coming) ≡ true → every is_some coming ≡ true
  unfolding every
  some_tail octets coming e = and_right (is_some octets) (every is_some coming) e

  some_head : (octets : List ℕ) (coming : List (List ℕ)) → every is_some (octets ∷ coming) ≡ true → eqb (length octets) 0 ≡ false
  unfolding every is_some
  some_head octets coming e = go (eqb (length octets) 0) (and_left (not (eqb (length octets) 0)) (every is_some coming) e)
    where
      go : (b : Bool) → not b ≡ true → b ≡ false
      go true k = absurd (false≢true k)
      go false k = refl

  -- a piece that was just read is not used up
  fresh_piece : (p : Player) (octets buffer : List ℕ) → eqb (length octets) 0 ≡ false → used_up p (length (rest_of 0 (length octets) (over octets buffer))) ≡ false
  unfolding used_up
  fresh_piece p octets buffer e = ap (λ (l : List ℕ). eqb (length l) 0 && ready p) (rest_read octets buffer) ∙ rw e

  read_done : (fuel : ℕ) → Goes fuel → (turns : ℕ) (p : Player) (from to : ℕ) (line table piece octets : List ℕ) (coming : List (List ℕ)) (held text : List ℕ)
      → every is_some (octets ∷ coming) ≡ true → 86401 * length recording ≤ turns + suc fuel
      → Sofar traced recording turns (deck_of p line table) (join (octets ∷ coming))
      → Done (suc (suc (suc fuel))) (host Read p from to line table piece (octets ∷ coming) held text)
  unfolding is_over is_read read_on read_next join
  read_done fuel g turns p from to line table piece octets coming held text e m t =
      let buffer = over octets piece in
      let some = some_head octets coming e in
      let c : Course = record { player = p; stage = Read; from = from; to = to } in
      one_more_lem (suc (suc fuel)) (host Read p from to line table piece (octets ∷ coming) held text) refl (λ out room.
      subst
      (λ (x : Course). Done (suc (suc fuel)) (go_on out (record { course = x; line = line; table = table; piece = buffer; coming = coming; held = held; text = text })))
      (sym (given_some c true (length octets) refl some))
      (step_done fuel g turns p 0 (length octets) line table buffer coming (some_tail octets coming e) m (fresh_piece p octets piece some)
      (subst (λ (l : List ℕ). Sofar traced recording turns (deck_of p line table) (l ++ join coming)) (sym (rest_read octets piece)) t) out room held text))

  -- ---- no turn is left: neither is an octet or a tick

  no_octet : (turns : ℕ) (p : Player) (line table octets : List ℕ) (coming : List (List ℕ)) → every is_some (octets ∷ coming) ≡ true
      → 86401 * length recording ≤ turns → Sofar traced recording turns (deck_of p line table) (join (octets ∷ coming)) → ⊥
  unfolding join
  no_octet turns p line table octets coming e m t =
      let all = octets ++ join coming in
      let z = eqb-true (length all) 0 (and_left (eqb (length all) 0) (ready p) (all_done traced recording turns p line table all m t)) in
      let some : (length octets ≡ 0) → ⊥ = eqb-false (length octets) 0 (some_head octets coming e) in
      some (omega (arith, z, length-append octets (join coming)))

  no_turn : (turns : ℕ) (p : Player) (line table rest left : List ℕ) → used_up p (length rest) ≡ false
      → 86401 * length recording ≤ turns → Sofar traced recording turns (deck_of p line table) (rest ++ left) → ⊥
  unfolding used_up
  no_turn turns p line table rest left u m t =
      let done = all_done traced recording turns p line table (rest ++ left) m t in
      let z = eqb-true (length (rest ++ left)) 0 (and_left (eqb (length (rest ++ left)) 0) (ready p) done) in
      let n : length rest ≡ 0 = omega (arith, z, length-append rest left) in
      let r = and_right (eqb (length (rest ++ left)) 0) (ready p) done in
      true≢false (sym (λ i. (eq-eqb (length rest) 0 n i) && (r i)) ∙ u)

  goes : (fuel : ℕ) → Goes fuel
  goes zero =
      record {
        reads = λ turns p from to line table piece coming held text e m t. ending turns p from to line table piece coming held text e m t;
        plays = λ turns p from to line table piece coming held text e m u t.
            absurd (no_turn turns p line table (rest_of from to piece) (join coming) u (omega (arith, m)) t);
      }
    where
      ending : (turns : ℕ) (p : Player) (from to : ℕ) (line table piece : List ℕ) (coming : List (List ℕ)) (held text : List ℕ)
          → every is_some coming ≡ true → 86401 * length recording ≤ turns + 0 → Sofar traced recording turns (deck_of p line table) (join coming)
          → Done 2 (host Read p from to line table piece coming held text)
      ending turns p from to line table piece [] held text e m t = none_done 0 p from to line table piece held text
      ending turns p from to line table piece (octets ∷ coming) held text e m t =
          absurd (no_octet turns p line table octets coming e (omega (arith, m)) t)
  goes (suc fuel) =
      record {
        reads = λ turns p from to line table piece coming held text e m t. reading (goes fuel) turns p from to line table piece coming held text e m t;
        plays = λ turns p from to line table piece coming held text e m u t.
            turn_done fuel (goes fuel) turns p from to line table piece coming e m u t held text;
      }
    where
      reading : Goes fuel → (turns : ℕ) (p : Player) (from to : ℕ) (line table piece : List ℕ) (coming : List (List ℕ)) (held text : List ℕ)
          → every is_some coming ≡ true → 86401 * length recording ≤ turns + suc fuel → Sofar traced recording turns (deck_of p line table) (join coming)
          → Done (suc (suc (suc fuel))) (host Read p from to line table piece coming held text)
      reading g turns p from to line table piece [] held text e m t = none_done (suc fuel) p from to line table piece held text
      reading g turns p from to line table piece (octets ∷ coming) held text e m t =
          read_done fuel g turns p from to line table piece octets coming held text e m t

-- a turn for each octet and each second that it may say, close and listing
pub every_course_ends : EveryCourseEnds
unfolding host_of set_out fresh_deck drive
every_course_ends traced ends buffer pieces e =
    record {
      steps = suc (suc (86401 * length (join pieces)));
      over = (goes traced ends (join pieces) (86401 * length (join pieces))).reads 0 (beginning traced) 0 0 _ _ buffer pieces [] [] e (omega arith)
          (record { lents = []; many = omega arith; text = []; same = refl });
    }
