-- One text for each event and each setting, and nothing else is good. Assumes nothing.
use Prim.Native.Nat.{ℕ, zero, suc, ◌≤◌, ◌<◌}
use native.Mathlib.Numerals.{add-one}
use native.Mathlib.Omega.{arith}
use mathlib.Core.Path.{◌≡◌, refl, sym, ap, ◌∙◌}
use mathlib.Core.Bool.{true, ◌&&◌, false≢true}
use mathlib.Core.List.{List, [], ◌∷◌, ◌++◌}
use borrow.Author.Tests.{lt-ltb, ltb-true, le-leb, leb-true, eq-eqb, ne_eqb, eqb-true, eqb-false}
use lib.Dec.{leb, ltb, eqb}
use lib.ListN.{length, take, drop, get_or, length-append}
use lib.Seq.{split_at, take-append_seam, drop-append_seam, drop-append-add}
use Rattle.checks.specs.Lists.{every}
use Rattle.checks.proofs.Laws.{and_left, and_right, and_both, cond_elim}
use Rattle.text.specs.Text.{text, decimal, dotted}
use Rattle.text.proofs.Laws.{decimal_most, dotted_length}
use Rattle.std.specs.Prelude.{Option, Some, None}
use Rattle.text_values.specs.Places.{index_of, starts_with}
use Rattle.text_values.specs.Numbers.{when_number, decimal_of, dotted_of}
use Rattle.text_values.specs.Hex.{hex_text, is_hex, hex_octets}
use Rattle.text_values.proofs.Readings.{decimals, addresses, hexes, hex_half, slash_place, never, place_found}
use Rattle.recording_lines.specs.Lines.{behind, own_as_of, own_of, capability_of, net_of, quiet_of, Event, bad, add, remove, start, stop, tick, rx, alone, slashed, add_event, tick_event, rx_event, event_of}
use Rattle.recording_lines.specs.Claims.{event_text, is_address, in_range, is_good, Events, Setting, SettingLines, QuietNoEvent}

-- ---- behind a key

key_there : (key value : List ℕ) → starts_with key (key ++ value) ≡ true
unfolding starts_with
key_there [] value = refl
key_there (x ∷ key) value = and_both (eqb x x) (starts_with key (key ++ value)) (eq-eqb x x refl) (key_there key value)

key_first : (key line : List ℕ) → starts_with key line ≡ true → line ≡ key ++ drop (length key) line
unfolding starts_with
key_first [] line h = refl
key_first (x ∷ key) [] h = absurd (false≢true h)
key_first (x ∷ key) (y ∷ line) h =
    let e : y ≡ x = eqb-true y x (and_left (eqb y x) (starts_with key line) h) in
    rw e (ap (λ (l : List ℕ). x ∷ l) (key_first key line (and_right (eqb y x) (starts_with key line) h)))

module _ {A : Type 0} (key : List ℕ) (read : List ℕ → A) (other : A) where
  behind_key : (value : List ℕ) → behind key read other (key ++ value) ≡ read value
  unfolding behind
  behind_key value = rw (key_there key value, drop-append_seam key value)

  behind_elim : (P : A → Type 0) (line : List ℕ) → ((value : List ℕ) → line ≡ key ++ value → P (read value)) → P other → P (behind key read other line)
  unfolding behind
  behind_elim P line f g =
      cond_elim P (starts_with key line) (read (drop (length key) line)) other (λ h. f (drop (length key) line) (key_first key line h)) (λ h. g)

-- ---- what is written reads back the same

module _ {A : Type 0} (n : ℕ) (none : A) (some : ℕ → A) where
  number_back : (limit : ℕ) → n ≤ limit → when_number (decimal_of limit (decimal n)) none some ≡ some n
  unfolding when_number
  number_back limit h = rw (decimals.back limit n h)

  address_back : is_address n ≡ true → when_number (dotted_of (dotted n)) none some ≡ some n
  unfolding when_number
  address_back h = rw (addresses.back n (ltb-true n 4294967296 h))

slashed_back : (event : ℕ → List ℕ → Event) (a : ℕ) (rest : List ℕ) → is_address a ≡ true
    → slashed event (dotted a ++ (text "/" ++ rest)) ≡ event a rest
unfolding slashed text
slashed_back event a rest h =
    let found : length (dotted a) < length (dotted a ++ (47 ∷ rest)) = simp length-append (omega arith) in
    let tail : drop (suc (length (dotted a))) (dotted a ++ (47 ∷ rest)) ≡ rest
    = rw (← (add-one (length (dotted a)))) (drop-append-add (dotted a) (47 ∷ rest) 1) in
    rw (slash_place a rest, lt-ltb (length (dotted a)) (length (dotted a ++ (47 ∷ rest))) found, take-append_seam (dotted a) (47 ∷ rest), tail)
    (address_back a bad (λ a. event a rest) h)

add_back : (a asn : ℕ) → leb asn 65535 ≡ true → add_event a (decimal asn) ≡ add a asn
unfolding add_event
add_back a asn h = number_back asn bad (λ asn. add a asn) _ (leb-true asn 65535 h)

tick_back : (a count : ℕ) → (leb 1 count && leb count 86400) ≡ true → tick_event a (decimal count) ≡ tick a count
unfolding tick_event
tick_back a count h =
    let least = leb-true 1 count (and_left (leb 1 count) (leb count 86400) h) in
    let most = leb-true count 86400 (and_right (leb 1 count) (leb count 86400) h) in
    number_back count bad _ _ (omega arith) ∙ rw (ne_eqb count 0 (λ e. omega arith))

rx_back : (a : ℕ) (octets : List ℕ) → (leb (length octets) 2049 && every (λ o. ltb o 256) octets) ≡ true → rx_event a (hex_text octets) ≡ rx a octets
unfolding rx_event
rx_back a octets h =
    let most = leb-true (length octets) 2049 (and_left (leb (length octets) 2049) (every (λ o. ltb o 256) octets) h) in
    let each = and_right (leb (length octets) 2049) (every (λ o. ltb o 256) octets) h in
    let twice = hexes.twice octets in
    rw (le-leb (length (hex_text octets)) 4098 (omega arith), hexes.good octets each, hexes.back octets each)

event_back : (e : Event) → in_range e ≡ true → event_of (event_text e) ≡ e
unfolding event_of event_text in_range behind starts_with text alone
event_back bad h = absurd (false≢true h)
event_back (add a asn) h =
    slashed_back add_event a (decimal asn) (and_left (is_address a) (leb asn 65535) h) ∙ add_back a asn (and_right (is_address a) (leb asn 65535) h)
event_back (remove a) h = address_back a bad remove h
event_back (start a) h = address_back a bad start h
event_back (stop a) h = address_back a bad stop h
event_back (tick a count) h =
    slashed_back tick_event a (decimal count) (and_left (is_address a) (leb 1 count && leb count 86400) h)
    ∙ tick_back a count (and_right (is_address a) (leb 1 count && leb count 86400) h)
event_back (rx a octets) h =
    slashed_back rx_event a (hex_text octets) (and_left (is_address a) (leb (length octets) 2049 && every (λ o. ltb o 256) octets) h)
    ∙ rx_back a octets (and_right (is_address a) (leb (length octets) 2049 && every (λ o. ltb o 256) octets) h)

-- an event, if it is a good one, is in range, and the line is its text
record Told (line : List ℕ) (e : Event) : Type 0 where
  same : is_good e ≡ true → line ≡ event_text e
  within : is_good e ≡ true → in_range e ≡ true

module _ (line : List ℕ) where
  told_bad : Told line bad
  unfolding is_good
  told_bad = record { same = λ h. absurd (false≢true h); within = λ h. absurd (false≢true h) }

  told_number : (x : Option ℕ) (event : ℕ → Event) → ((n : ℕ) → x ≡ Some n → Told line (event n)) → Told line (when_number x bad event)
  unfolding when_number
  told_number None event f = told_bad
  told_number (Some n) event f = f n refl

  told_alone : (key : List ℕ) (event : ℕ → Event) → ((a : ℕ) → event_text (event a) ≡ key ++ dotted a) → ((a : ℕ) → in_range (event a) ≡ is_address a)
      → (value : List ℕ) → line ≡ key ++ value → Told line (alone event value)
  unfolding alone
  told_alone key event says ranges value e =
      told_number (dotted_of value) event (λ a q.
      let r = addresses.only a value q in
      record { same = λ good. e ∙ ap (λ (l : List ℕ). key ++ l) r.0 ∙ sym (says a); within = λ good. ranges a ∙ lt-ltb a 4294967296 r.1 })

  told_slashed : (event : ℕ → List ℕ → Event) (value : List ℕ)
      → ((a : ℕ) (rest : List ℕ) → value ≡ dotted a ++ (text "/" ++ rest) → is_address a ≡ true → Told line (event a rest)) → Told line (slashed event value)
  unfolding slashed text
  told_slashed event value f =
      let i = index_of 47 value in
      cond_elim (Told line) (ltb i (length value)) _ bad
      (λ h. told_number (dotted_of (take i value)) (λ a. event a (drop (suc i) value)) (λ a q.
      let found = ltb-true i (length value) h in
      let r = addresses.only a (take i value) q in
      let parts : take i value ++ (get_or value i 0 ∷ drop (suc i) value) ≡ dotted a ++ (47 ∷ drop (suc i) value) = rw (r.0, place_found 47 value found) in
      f a (drop (suc i) value) (split_at value i 0 found ∙ parts) (lt-ltb a 4294967296 r.1)))
      (λ h. told_bad)

  told_add : (value : List ℕ) → line ≡ text "add=" ++ value → Told line (slashed add_event value)
  unfolding add_event event_text in_range
  told_add value e =
      told_slashed add_event value (λ a rest q address.
      told_number _ _ (λ asn p.
      let r = decimals.only _ asn rest p in
      record { same = λ good. e ∙ rw (q, r.0); within = λ good. and_both (is_address a) (leb asn 65535) address (le-leb asn 65535 r.1) }))

  told_tick : (value : List ℕ) → line ≡ text "tick=" ++ value → Told line (slashed tick_event value)
  unfolding tick_event event_text in_range
  told_tick value e =
      told_slashed tick_event value (λ a rest q address.
      told_number _ _ (λ count p.
      let r = decimals.only _ count rest p in
      cond_elim (Told line) (eqb count 0) bad (tick a count) (λ z. told_bad) (λ z.
      let some = eqb-false count 0 z in
      let range = and_both (leb 1 count) (leb count 86400) (le-leb 1 count (omega arith)) (le-leb count 86400 r.1) in
      record { same = λ good. e ∙ rw (q, r.0); within = λ good. and_both (is_address a) (leb 1 count && leb count 86400) address range })))

  told_rx : (value : List ℕ) → line ≡ text "rx=" ++ value → Told line (slashed rx_event value)
  unfolding rx_event event_text in_range
  told_rx value e =
      told_slashed rx_event value (λ a rest q address.
      cond_elim (Told line) (leb (length rest) 4098 && is_hex rest) (rx a (hex_octets rest)) bad (λ h.
      let most = leb-true (length rest) 4098 (and_left (leb (length rest) 4098) (is_hex rest) h) in
      let hex = and_right (leb (length rest) 4098) (is_hex rest) h in
      let half = hex_half rest hex in
      let range = and_both (leb (length (hex_octets rest)) 2049) _ (le-leb (length (hex_octets rest)) 2049 (omega arith)) (hexes.octets rest hex) in
      record { same = λ good. e ∙ rw (q, hexes.only rest hex); within = λ good. and_both (is_address a) _ address range })
      (λ h. told_bad))

  event_told_lem : Told line (event_of line)
  unfolding event_of event_text in_range
  event_told_lem =
      behind_elim (text "add=") (slashed add_event) _ (Told line) line told_add
      (behind_elim (text "remove=") (alone remove) _ (Told line) line (told_alone (text "remove=") remove (λ a. refl) (λ a. refl))
      (behind_elim (text "start=") (alone start) _ (Told line) line (told_alone (text "start=") start (λ a. refl) (λ a. refl))
      (behind_elim (text "stop=") (alone stop) _ (Told line) line (told_alone (text "stop=") stop (λ a. refl) (λ a. refl))
      (behind_elim (text "tick=") (slashed tick_event) _ (Told line) line told_tick
      (behind_elim (text "rx=") (slashed rx_event) _ (Told line) line told_rx told_bad)))))

-- ---- how long the texts are

text_most : (e : Event) → in_range e ≡ true → length (event_text e) ≤ 4117
unfolding event_text in_range text
text_most bad h = absurd (false≢true h)
text_most (add a asn) h =
    let p = dotted_length a in
    let most = leb-true asn 65535 (and_right (is_address a) (leb asn 65535) h) in
    let q = decimal_most 4 asn (omega arith) in
    simp length-append (omega arith)
text_most (remove a) h = let p = dotted_length a in omega arith
text_most (start a) h = let p = dotted_length a in omega arith
text_most (stop a) h = let p = dotted_length a in omega arith
text_most (tick a count) h =
    let p = dotted_length a in
    let most = leb-true count 86400 (and_right (leb 1 count) (leb count 86400) (and_right (is_address a) (leb 1 count && leb count 86400) h)) in
    let q = decimal_most 4 count (omega arith) in
    simp length-append (omega arith)
text_most (rx a octets) h =
    let p = dotted_length a in
    let most = leb-true (length octets) 2049
    (and_left (leb (length octets) 2049) (every (λ o. ltb o 256) octets) (and_right (is_address a) (leb (length octets) 2049 && every (λ o. ltb o 256) octets) h)) in
    let q = hexes.twice octets in
    simp length-append (omega arith)

event_most : (line : List ℕ) → is_good (event_of line) ≡ true → length line ≤ 4117
event_most line h =
    let most = text_most (event_of line) ((event_told_lem line).within h) in
    let same = ap length ((event_told_lem line).same h) in
    omega arith

pub events : Events
events =
    record {
      back = event_back;
      only = λ line. (event_told_lem line).same;
      range = λ line. (event_told_lem line).within;
      longest = event_most;
    }

-- ---- the first four lines

module _ (key : List ℕ) (read : List ℕ → Option ℕ) (value : ℕ → List ℕ) (most : ℕ) (short : length key ≤ 6)
    (back : (n : ℕ) → n ≤ most → read (value n) ≡ Some n) (only : (n : ℕ) (t : List ℕ) → read t ≡ Some n → (t ≡ value n) × (n ≤ most))
    (small : (n : ℕ) → n ≤ most → length (value n) ≤ 15) where
  setting_only : (n : ℕ) (line : List ℕ) → behind key read None line ≡ Some n → (line ≡ key ++ value n) × (n ≤ most)
  setting_only n line =
      behind_elim key read None (λ x. x ≡ Some n → (line ≡ key ++ value n) × (n ≤ most)) line
      (λ v q e. let r = only n v e in (q ∙ ap (λ (l : List ℕ). key ++ l) r.0, r.1)) (λ e. never n e)

  setting_most : (n : ℕ) (line : List ℕ) → behind key read None line ≡ Some n → length line ≤ 4117
  setting_most n line e =
      let r = setting_only n line e in
      let same = simp length-append at (ap length r.0) in
      let p = small n r.1 in
      omega arith

  setting : Setting (behind key read None) key value most
  setting =
      record {
        back = λ n h. behind_key key read None (value n) ∙ back n h;
        only = λ n line e. (setting_only n line e).0;
        range = λ n line e. (setting_only n line e).1;
        longest = setting_most;
      }

decimal_setting : (key : List ℕ) (most : ℕ) → length key ≤ 6 → most < 100000 → Setting (behind key (decimal_of most) None) key decimal most
decimal_setting key most h k =
    setting key (decimal_of most) decimal most h (decimals.back most) (decimals.only most)
    (λ n h. let p = decimal_most 4 n (omega arith) in omega arith)

address_setting : (key : List ℕ) → length key ≤ 6 → Setting (behind key dotted_of None) key dotted 4294967295
address_setting key h =
    setting key dotted_of dotted 4294967295 h (λ n h. addresses.back n (omega arith))
    (λ n t e. let r = addresses.only n t e in (r.0, omega arith)) (λ n h. dotted_length n)

pub settings : SettingLines
unfolding own_as_of own_of capability_of net_of quiet_of text
settings =
    record {
      own_as = decimal_setting (text "ownas=") 65535 (omega arith) (omega arith);
      own = address_setting (text "own=") (omega arith);
      capability = decimal_setting (text "cap=") 255 (omega arith) (omega arith);
      net = address_setting (text "net=") (omega arith);
      quiet = decimal_setting (text "quiet=") 1 (omega arith) (omega arith);
    }

pub quiet_no_event : QuietNoEvent
unfolding event_of behind starts_with text decimal
quiet_no_event n line e = rw (settings.quiet.only n line e) (go n (settings.quiet.range n line e))
  where
    go : (n : ℕ) → n ≤ 1 → event_of (text "quiet=" ++ decimal n) ≡ bad
    go zero h = refl
    go (suc zero) h = refl
    go (suc (suc n)) h = absurd (omega (arith, h))
