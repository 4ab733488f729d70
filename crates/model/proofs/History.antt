-- The model's rows are those that the history tells, and a call about one neighbour leaves the others. Assumes nothing.
use Prim.Native.Nat.{ℕ, zero, suc, ◌<◌}
use native.Mathlib.Omega.{arith}
use mathlib.Core.Path.{◌≡◌, refl, sym, ◌∙◌, ap, subst}
use mathlib.Core.Bool.{Bool, true, false, cond, not, ◌&&◌, false≢true, true≢false}
use mathlib.Core.List.{List, [], ◌∷◌, ◌++◌}
use lib.Dec.{eqb}
use lib.ListN.{get_or, replicate}
use lib.Seq.{get_or-set_same, get_or-set_other}
use borrow.Author.Tests.{eq-eqb, ne_eqb, eqb-true, eqb-false, not-true}
use Rattle.std.specs.Prelude.{Result, Ok, Err}
use Rattle.checks.specs.declared.Refusal.{Refusal}
use Rattle.checks.specs.Checks.{if_ok}
use Rattle.checks.proofs.Laws.{and_left, and_right}
use Rattle.checks.specs.Lists.{every}
use Rattle.message.specs.declared.Message.{Message}
use Rattle.nets.specs.Rows.{Row}
use Rattle.message_reading.specs.Reading.{decode_of}
use Rattle.update_walk.specs.Body.{update_of, rows_read}
use Rattle.neighbour.specs.declared.Settings.{Settings}
use Rattle.neighbour.specs.declared.Neighbour.{Neighbour}
use Rattle.neighbour.specs.Record.{idle, is_up}
use Rattle.neighbour_machine.specs.Intrinsics.{Intrinsic, as_event}
use Rattle.neighbour_machine.specs.Step.{step_of}
use Rattle.gateway_state.specs.Slots.{free_slot}
use Rattle.gateway_state.specs.Claims.{SlotGood}
use Rattle.model.specs.Model.{is_free, has_address, no_octets, Said, Call, add, remove, happen, receive, listing, Slot, free, used, Model, slot_in, put, found_at, vacancy, silent, answer_to_add, answer_to_remove, add_turn, remove_turn, no_move, rows_in_phase, moved, event_move, is_update, answer_to, after_message, rows_after, message_move, event_answer, message_answer, turn_at, event_turn, message_turn, listing_turn, step, model, model_from, empty, Peer, new_peer, refused_move}
use Rattle.model.specs.History.{is_up_slot, says_update, accepts, rows_said, up_after, told, last_from, last_accepted, is_about, is_elsewhere, takes_no_slot}
use Rattle.model.specs.Theorem.{cell, rows_held}
use Rattle.model.proofs.Represent.{sound, Good, good_at}
use Rattle.model.proofs.Moves.{no_rows}
use Rattle.model.proofs.Simulation.{good_step, spoken_answer, found_used, found_free, add_free, remove_below, event_below, message_below}

-- the rows of a slot after a call, by the slot before it and whether an Update was accepted that says these
abbrev pub Tells : Slot → Slot → Bool → List Row → Type 0
Tells old new took read = rows_held new ≡ cond (is_up_slot new) (cond took read (cond (is_up_slot old) (rows_held old) [])) []

-- 01: "A slot not Up has no rows."
pub none_held : (slot : Slot) → SlotGood (cell slot) → is_up_slot slot ≡ false → rows_held slot ≡ []
unfolding cell is_up_slot rows_held
none_held free good e = refl
none_held (used peer) good e = no_rows peer.rows (good.none e)

still_tells : (slot : Slot) (read : List Row) → SlotGood (cell slot) → Tells slot slot false read
still_tells slot read good = go (is_up_slot slot) refl
  where
    go : (b : Bool) → is_up_slot slot ≡ b → Tells slot slot false read
    go true e = rw e
    go false e = rw e (none_held slot good e)

cond_held : (b : Bool) (rows : List Row) (c : Bool) → (c ≡ false → rows ≡ []) → cond b rows [] ≡ cond b (cond c rows []) []
cond_held false rows c h = refl
cond_held true rows true h = refl
cond_held true rows false h = h refl

event_tells : (g : Settings) (event : Intrinsic) (slot : Slot) (read : List Row) → SlotGood (cell slot) → Tells slot (event_move g event slot).slot false read
unfolding event_move no_move moved is_up_slot rows_held rows_in_phase
event_tells g event free read good = refl
event_tells g event (used peer) read good =
    cond_held (is_up (step_of g peer.asn peer.neighbour (as_event event) no_octets).neighbour.phase) peer.rows (is_up peer.neighbour.phase) (λ e. none_held (used peer) good e)

-- a message carried out: the rows by the kind of what was read
kind_tells : (g : Settings) (n : Neighbour) (o : List ℕ) (d : Result Message Refusal) (rows : List Row) (b : Bool) → (is_up n.phase ≡ false → rows ≡ [])
    → cond b (rows_after g n o d rows) [] ≡ cond b (cond (is_up n.phase && says_update d) (rows_read (update_of 128 g.net o)) (cond (is_up n.phase) rows [])) []
unfolding rows_after says_update
kind_tells g n o (Ok m) rows b h = go b (is_update m) (is_up n.phase) h
  where
    go : (b u p : Bool) → (p ≡ false → rows ≡ [])
        → cond b (cond (u && p) (rows_read (update_of 128 g.net o)) rows) [] ≡ cond b (cond (p && u) (rows_read (update_of 128 g.net o)) (cond p rows [])) []
    go false u p k = refl
    go true true true k = refl
    go true true false k = k refl
    go true false true k = refl
    go true false false k = k refl
kind_tells g n o (Err refused) rows b h = go (is_up n.phase) h
  where
    go : (p : Bool) → (p ≡ false → rows ≡ []) → cond b rows [] ≡ cond b (cond (p && false) (rows_read (update_of 128 g.net o)) (cond p rows [])) []
    go true k = refl
    go false k = rw (k refl)

-- a refusal keeps the slot
pub message_stays : (g : Settings) (o : List ℕ) (peer : Peer) → eqb (answer_to g peer.asn peer.neighbour o) 0 ≡ false
    → message_move g o (used peer) ≡ refused_move g o peer (answer_to g peer.asn peer.neighbour o)
unfolding message_move if_ok
message_stays g o peer e = rw e

refused_tells : (g : Settings) (o : List ℕ) (peer : Peer) → SlotGood (cell (used peer)) → eqb (answer_to g peer.asn peer.neighbour o) 0 ≡ false
    → Tells (used peer) (message_move g o (used peer)).slot
    (eqb (message_move g o (used peer)).answer 0 && (is_up_slot (used peer) && says_update (decode_of o))) (rows_read (update_of 128 g.net o))
refused_tells g o peer good e =
    rw (message_stays g o peer e, e) (still_tells (used peer) (rows_read (update_of 128 g.net o)) good)

said_refused : (k : ℕ) (s : Said) → (k ≡ 0 → ⊥) → eqb (if_ok k s (silent k)).answer 0 ≡ false
unfolding if_ok silent
said_refused k s n = go (eqb k 0) (ne_eqb k 0 n)
  where
    go : (b : Bool) → b ≡ false → eqb (cond b s (silent k)).answer 0 ≡ false
    go true e = absurd (true≢false e)
    go false e = ne_eqb k 0 n

said_done : (k : ℕ) (s : Said) → k ≡ 0 → if_ok k s (silent k) ≡ s
unfolding if_ok
said_done k s z = rw z

and_false : (a b c : Bool) → b ≡ false → (a && (b && c)) ≡ false
and_false true b c e = rw e
and_false false b c e = refl

message_tells : (g : Settings) (o : List ℕ) (slot : Slot) → SlotGood (cell slot)
    → Tells slot (message_move g o slot).slot (eqb (message_move g o slot).answer 0 && (is_up_slot slot && says_update (decode_of o))) (rows_read (update_of 128 g.net o))
unfolding message_move no_move if_ok moved is_up_slot rows_held rows_in_phase
message_tells g o free good = refl
message_tells g o (used peer) good = go (eqb (answer_to g peer.asn peer.neighbour o) 0) refl
  where
    go : (b : Bool) → eqb (answer_to g peer.asn peer.neighbour o) 0 ≡ b
        → Tells (used peer) (message_move g o (used peer)).slot
        (eqb (message_move g o (used peer)).answer 0 && (is_up_slot (used peer) && says_update (decode_of o))) (rows_read (update_of 128 g.net o))
    go true e = rw e (kind_tells g peer.neighbour o (decode_of o) peer.rows (is_up (after_message g peer.asn peer.neighbour o (decode_of o)).neighbour.phase) (λ q. none_held (used peer) good q))
    go false e = refused_tells g o peer good e

module _ (m : Model) (ok : Good m) (j : ℕ) (j8 : j < 8) where
  -- a call that puts a slot at i where its answer is 0
  put_tells : (k i : ℕ) (new : Slot) (took : Bool) (read : List Row) → ((k ≡ 0 → ⊥) → took ≡ false) → ((i ≡ j → ⊥) → took ≡ false)
      → (k ≡ 0 → i ≡ j → Tells (slot_in m j) new took read) → Tells (slot_in m j) (slot_in (if_ok k (put m i new) m) j) took read
  unfolding if_ok slot_in put
  put_tells k i new took read p q r = go (eqb k 0) refl (eqb i j) refl
    where
      still : took ≡ false → Tells (slot_in m j) (slot_in m j) took read
      still f = rw f (still_tells (slot_in m j) read (good_at m ok j))

      go : (a : Bool) → eqb k 0 ≡ a → (b : Bool) → eqb i j ≡ b → Tells (slot_in m j) (slot_in (cond (eqb k 0) (put m i new) m) j) took read
      go false e b f = rw e (still (p (eqb-false k 0 e)))
      go true e true f = rw (e, eqb-true i j f, get_or-set_same m.slots j new free (omega (arith, ok.eight))) (r (eqb-true k 0 e) (eqb-true i j f))
      go true e false f = rw (e, get_or-set_other m.slots i j new free (λ x. eqb-false i j f (sym x))) (still (q (eqb-false i j f)))

  event_told_lem : (event : Intrinsic) (a : ℕ) (buffer : List ℕ) (read : List Row) → Tells (slot_in m j) (slot_in (event_turn event m a buffer).model j) false read
  unfolding event_turn turn_at
  event_told_lem event a buffer read =
      put_tells (event_answer event m a buffer) (found_at m a) _ false read (λ _. refl) (λ _. refl)
      (λ _ e. rw e (event_tells m.settings event (slot_in m j) read (good_at m ok j)))

  message_told : (a : ℕ) (o home buffer : List ℕ)
      → Tells (slot_in m j) (slot_in (message_turn m a o home buffer).model j)
      (eqb (message_turn m a o home buffer).said.answer 0 && (eqb (found_at m a) j && (is_up_slot (slot_in m j) && says_update (decode_of o)))) (rows_read (update_of 128 m.settings.net o))
  unfolding message_turn turn_at
  message_told a o home buffer =
      put_tells (message_answer m a home buffer) (found_at m a) (message_move m.settings o (slot_in m (found_at m a))).slot
      (eqb (message_turn m a o home buffer).said.answer 0 && (eqb (found_at m a) j && (is_up_slot (slot_in m j) && says_update (decode_of o))))
      (rows_read (update_of 128 m.settings.net o))
      (λ n. rw (said_refused (message_answer m a home buffer) _ n))
      (λ n. and_false (eqb (message_turn m a o home buffer).said.answer 0) (eqb (found_at m a) j) (is_up_slot (slot_in m j) && says_update (decode_of o)) (ne_eqb (found_at m a) j n))
      (λ z e. rw (said_done (message_answer m a home buffer) _ z, spoken_answer, eq-eqb (found_at m a) j e, e)
      (message_tells m.settings o (slot_in m j) (good_at m ok j)))

  -- any call
  pub step_told : (call : Call) → Tells (slot_in m j) (slot_in (step call m).model j) (accepts m j call) (rows_said m.settings call)
  unfolding step accepts rows_said add_turn remove_turn listing_turn is_up_slot rows_held idle
  step_told (add address asn) = put_tells (answer_to_add m address asn) (vacancy m) (used (new_peer address asn)) false [] (λ _. refl) (λ _. refl) (λ _ _. refl)
  step_told (remove address) = put_tells (answer_to_remove m address) (found_at m address) free false [] (λ _. refl) (λ _. refl) (λ _ _. refl)
  step_told (happen event a buffer) = event_told_lem event a buffer []
  step_told (receive a o home buffer) = message_told a o home buffer
  step_told (listing buffer) = still_tells (slot_in m j) [] (good_at m ok j)

  step_told_on : (call : Call) (g : Settings) → m.settings ≡ g → Tells (slot_in m j) (slot_in (step call m).model j) (accepts m j call) (rows_said g call)
  step_told_on call g e =
      subst (λ (s : Settings). Tells (slot_in m j) (slot_in (step call m).model j) (accepts m j call) (rows_said s call)) e (step_told call)

-- ---- over a list

pub model_append : (m : Model) (calls more : List Call) → model_from m (calls ++ more) ≡ model_from (model_from m calls) more
unfolding model_from
model_append m [] more = refl
model_append m (call ∷ rest) more = model_append (step call m).model rest more

pub model_next : (g : Settings) (before : List Call) (call : Call) → model g (before ++ (call ∷ [])) ≡ (step call (model g before)).model
unfolding model model_from
model_next g before call = model_append (empty g) before (call ∷ [])

when_settings : (k i : ℕ) (slot : Slot) (m : Model) → (if_ok k (put m i slot) m).settings ≡ m.settings
unfolding if_ok put
when_settings k i slot m = go (eqb k 0)
  where
    go : (b : Bool) → (cond b (put m i slot) m).settings ≡ m.settings
    go true = refl
    go false = refl

pub step_settings : (call : Call) (m : Model) → (step call m).model.settings ≡ m.settings
unfolding step add_turn remove_turn event_turn message_turn listing_turn turn_at
step_settings (add address asn) m = when_settings _ _ _ m
step_settings (remove address) m = when_settings _ _ _ m
step_settings (happen event a buffer) m = when_settings _ _ _ m
step_settings (receive a o home buffer) m = when_settings _ _ _ m
step_settings (listing buffer) m = refl

told_next : (g : Settings) (j : ℕ) → j < 8 → (before : List Call) (call : Call) → Good (model g before) → (model g before).settings ≡ g
    → rows_held (slot_in (model g (before ++ (call ∷ []))) j) ≡ told g j before call (rows_held (slot_in (model g before) j))
unfolding told up_after
told_next g j j8 before call ok e =
    rw (model_next g before call)
    (step_told_on (model g before) ok j j8 call g e)

last_from_lem : (g : Settings) (j : ℕ) → j < 8 → (before : List Call) (known : List Row) (rest : List Call) → Good (model g before) → (model g before).settings ≡ g
    → known ≡ rows_held (slot_in (model g before) j)
    → last_from g j before known rest ≡ rows_held (slot_in (model_from (model g before) rest) j)
unfolding last_from model_from
last_from_lem g j j8 before known [] ok s e = e
last_from_lem g j j8 before known (call ∷ rest) ok s e =
    last_from_lem g j j8 (before ++ (call ∷ [])) (told g j before call known) rest
    (rw (model_next g before call) (good_step (model g before) ok call))
    (rw (model_next g before call) (step_settings call (model g before) ∙ s))
    (rw e (sym (told_next g j j8 before call ok s)))
    ∙ ap (λ (m : Model). rows_held (slot_in (model_from m rest) j)) (model_next g before call)

free_held : (k j : ℕ) → rows_held (get_or (replicate k free) j free) ≡ []
unfolding rows_held
free_held zero j = refl
free_held (suc k) zero = refl
free_held (suc k) (suc j) = free_held k j

pub last_is : (g : Settings) (j : ℕ) → j < 8 → Good (empty g) → (calls : List Call) → last_accepted g j calls ≡ rows_held (slot_in (model g calls) j)
unfolding last_accepted model model_from empty slot_in
last_is g j j8 ok calls = last_from_lem g j j8 [] [] calls ok refl (sym (free_held 8 j))

-- ---- the others

abbrev is_other : ℕ → ℕ → Bool
is_other address a = not (eqb a address)

module _ (m : Model) (ok : Good m) (j : ℕ) where
  put_others : (k i : ℕ) (new : Slot) → (k ≡ 0 → i ≡ j → ⊥) → slot_in (if_ok k (put m i new) m) j ≡ slot_in m j
  unfolding if_ok slot_in put
  put_others k i new h = go (eqb k 0) refl
    where
      go : (b : Bool) → eqb k 0 ≡ b → slot_in (cond (eqb k 0) (put m i new) m) j ≡ slot_in m j
      go true e = rw e (get_or-set_other m.slots i j new free (λ x. h (eqb-true k 0 e) (sym x)))
      go false e = rw e

  module _ (peer : Peer) (here : slot_in m j ≡ used peer) where
    -- a neighbour that was found is another one
    found_other : (a : ℕ) → is_other peer.address a ≡ true → found_at m a < 8 → found_at m a ≡ j → ⊥
    unfolding has_address
    found_other a e h q =
        let x : has_address a (slot_in m (found_at m a)) ≡ true = found_used m ok a h in
        let y : eqb peer.address a ≡ true = sym (ap (has_address a) (ap (slot_in m) q ∙ here)) ∙ x in
        eqb-false a peer.address (not-true (eqb a peer.address) e) (sym (eqb-true peer.address a y))

    free_other : vacancy m < 8 → vacancy m ≡ j → ⊥
    unfolding is_free
    free_other h q = false≢true (sym (ap is_free (ap (slot_in m) q ∙ here)) ∙ found_free m ok h)

    pub step_others : (call : Call) → is_elsewhere peer.address call ≡ true → slot_in (step call m).model j ≡ slot_in m j
    unfolding is_elsewhere is_about step add_turn remove_turn event_turn message_turn listing_turn turn_at
    step_others (add a as₀) e = put_others (answer_to_add m a as₀) (vacancy m) _ (λ z. free_other (add_free m ok a as₀ z))
    step_others (remove a) e = put_others (answer_to_remove m a) (found_at m a) _ (λ z. found_other a e (remove_below m ok a z))
    step_others (happen event a buffer) e = put_others (event_answer event m a buffer) (found_at m a) _ (λ z. found_other a e (event_below m ok event a buffer z))
    step_others (receive a o home buffer) e = put_others (message_answer m a home buffer) (found_at m a) _ (λ z. found_other a e (message_below m ok a home buffer z))
    step_others (listing buffer) e = refl

pub others_from : (m : Model) → Good m → (j : ℕ) (peer : Peer) → slot_in m j ≡ used peer
    → (more : List Call) → every (is_elsewhere peer.address) more ≡ true → slot_in (model_from m more) j ≡ slot_in m j
unfolding model_from every
others_from m ok j peer here [] e = refl
others_from m ok j peer here (call ∷ rest) e =
    let one : slot_in (step call m).model j ≡ slot_in m j =
    step_others m ok j peer here call (and_left (is_elsewhere peer.address call) (every (is_elsewhere peer.address) rest) e) in
    others_from (step call m).model (good_step m ok call) j peer (one ∙ here) rest (and_right (is_elsewhere peer.address call) (every (is_elsewhere peer.address) rest) e) ∙ one

pub others_slot : (m : Model) → Good m → (j : ℕ) (more : List Call) → ((cell (slot_in m j)).address ≡ 0 → ⊥)
    → every (is_elsewhere (cell (slot_in m j)).address) more ≡ true → slot_in (model_from m more) j ≡ slot_in m j
unfolding cell free_slot
others_slot m ok j more = go (slot_in m j) refl
  where
    go : (s : Slot) → slot_in m j ≡ s → ((cell s).address ≡ 0 → ⊥) → every (is_elsewhere (cell s).address) more ≡ true → slot_in (model_from m more) j ≡ slot_in m j
    go free q p e = absurd (p refl)
    go (used peer) q p e = others_from m ok j peer q more e

-- ---- free slots

module _ (m : Model) (ok : Good m) (j : ℕ) (here : slot_in m j ≡ free) where
  found_elsewhere : (a : ℕ) → found_at m a < 8 → found_at m a ≡ j → ⊥
  unfolding has_address
  found_elsewhere a h q = false≢true (sym (ap (has_address a) (ap (slot_in m) q ∙ here)) ∙ found_used m ok a h)

  step_free : (call : Call) → takes_no_slot call ≡ true → slot_in (step call m).model j ≡ slot_in m j
  unfolding takes_no_slot step remove_turn event_turn message_turn listing_turn turn_at
  step_free (add a as₀) e = absurd (false≢true e)
  step_free (remove a) e = put_others m ok j (answer_to_remove m a) (found_at m a) _ (λ z. found_elsewhere a (remove_below m ok a z))
  step_free (happen event a buffer) e = put_others m ok j (event_answer event m a buffer) (found_at m a) _ (λ z. found_elsewhere a (event_below m ok event a buffer z))
  step_free (receive a o home buffer) e = put_others m ok j (message_answer m a home buffer) (found_at m a) _ (λ z. found_elsewhere a (message_below m ok a home buffer z))
  step_free (listing buffer) e = refl

pub free_from : (m : Model) → Good m → (j : ℕ) → slot_in m j ≡ free → (more : List Call) → every takes_no_slot more ≡ true → slot_in (model_from m more) j ≡ free
unfolding model_from every
free_from m ok j here [] e = here
free_from m ok j here (call ∷ rest) e =
    free_from (step call m).model (good_step m ok call) j
    (step_free m ok j here call (and_left (takes_no_slot call) (every takes_no_slot rest) e) ∙ here) rest (and_right (takes_no_slot call) (every takes_no_slot rest) e)

-- a slot shown without an address is free
pub shown_free : (slot : Slot) → sound slot ≡ true → (cell slot).address ≡ 0 → slot ≡ free
unfolding cell sound
shown_free free s e = refl
shown_free (used peer) s e = absurd (eqb-false peer.address 0 (not-true (eqb peer.address 0) s) e)
