-- Laws of the reader of lines: what each way through its code knows of the line. Assumes nothing.
use Rattle.std.proofs.Common.{ℕ, ◌≡◌, ◌∙◌, true, false, List, length, take, drop, Some, None, eqb}
use borrow.Author.Tests.{lt-ltb, le-ltb, leb-true}
use Rattle.std.specs.Cmp.Lexicographic.{pointwise}
use Rattle.text_values.proofs.Laws.{prefix_is}
use Rattle.text.specs.Text.{text}
use Rattle.text_values.specs.Places.{no_place, IsCut}
use Rattle.text_values.specs.Numbers.{when_number, dotted_of}
use Rattle.recording_lines.specs.Lines.{Event, bad, remove, start, stop, behind, alone, slashed, add_event, tick_event, rx_event, event_of}

module _ {A : Type 0} (key : List ℕ) (read : List ℕ → A) (other : A) (line : List ℕ) where
  -- the line begins with the key
  pub with_key : {rest : List ℕ} → pointwise eqb (take (length key) line) key ≡ true → rest ≡ drop (length key) line → read rest ≡ behind key read other line
  unfolding behind
  with_key e r = rw (r, ← (prefix_is key line), e)

  pub without_key : pointwise eqb (take (length key) line) key ≡ false → behind key read other line ≡ other
  unfolding behind
  without_key e = rw (← (prefix_is key line), e)

-- ---- the address before a slash

module _ (event : ℕ → List ℕ → Event) (value : List ℕ) where
  pub no_slash : no_place 47 value ≡ true → bad ≡ slashed event value
  unfolding slashed
  no_slash e = rw (le-ltb _ _ (leb-true _ _ e))

  module _ {front rest : List ℕ} (cut : IsCut 47 value front rest) where
    pub no_address : dotted_of front ≡ None → bad ≡ slashed event value
    unfolding slashed when_number
    no_address e = rw (lt-ltb _ _ cut.found, ← cut.front, e)

    pub address_read : (a : ℕ) → dotted_of front ≡ Some a → event a rest ≡ slashed event value
    unfolding slashed when_number
    address_read a e = rw (lt-ltb _ _ cut.found, ← cut.front, e, ← cut.rest)

-- ---- the keys, one after the other

module _ (line : List ℕ) where
  abbrev pub from_rx : Event
  from_rx = behind (text "rx=") (slashed rx_event) bad line

  abbrev pub from_tick : Event
  from_tick = behind (text "tick=") (slashed tick_event) from_rx line

  abbrev pub from_stop : Event
  from_stop = behind (text "stop=") (alone stop) from_tick line

  abbrev pub from_start : Event
  from_start = behind (text "start=") (alone start) from_stop line

  abbrev pub from_remove : Event
  from_remove = behind (text "remove=") (alone remove) from_start line

  -- the line does not begin with this key
  abbrev pub Lacks : List ℕ → Type 0
  Lacks key = pointwise eqb (take (length key) line) key ≡ false

  pub not_add : Lacks (text "add=") → event_of line ≡ from_remove
  unfolding event_of text
  not_add h1 = without_key (text "add=") (slashed add_event) _ line h1

  pub not_remove : Lacks (text "add=") → Lacks (text "remove=") → event_of line ≡ from_start
  unfolding event_of text
  not_remove h1 h2 = not_add h1 ∙ without_key (text "remove=") (alone remove) _ line h2

  pub not_start : Lacks (text "add=") → Lacks (text "remove=") → Lacks (text "start=") → event_of line ≡ from_stop
  unfolding event_of text
  not_start h1 h2 h3 = not_remove h1 h2 ∙ without_key (text "start=") (alone start) _ line h3

  pub not_stop : Lacks (text "add=") → Lacks (text "remove=") → Lacks (text "start=") → Lacks (text "stop=") → event_of line ≡ from_tick
  unfolding event_of text
  not_stop h1 h2 h3 h4 = not_start h1 h2 h3 ∙ without_key (text "stop=") (alone stop) _ line h4

  pub not_tick : Lacks (text "add=") → Lacks (text "remove=") → Lacks (text "start=") → Lacks (text "stop=") → Lacks (text "tick=") → event_of line ≡ from_rx
  unfolding event_of text
  not_tick h1 h2 h3 h4 h5 = not_stop h1 h2 h3 h4 ∙ without_key (text "tick=") (slashed tick_event) _ line h5

-- an address alone
module _ (event : ℕ → Event) (value : List ℕ) where
  pub alone_bad : dotted_of value ≡ None → bad ≡ alone event value
  unfolding alone when_number
  alone_bad e = rw e

  pub alone_read : (a : ℕ) → dotted_of value ≡ Some a → event a ≡ alone event value
  unfolding alone when_number
  alone_read a e = rw e
