-- What holds of the calls, whatever state, table, buffer, home list, address and octets they are given.
use Rattle.std.specs.Prelude.{ℕ, ◌+◌, ◌≤◌, ◌<◌, ◌≡◌, Bool, true, false, cond, ◌&&◌, ◌||◌, List, [], leb, eqb, length, drop, set, Result, Ok, Err}
use Rattle.checks.specs.declared.Refusal.{Refusal}
use Rattle.neighbour.specs.Record.{is_up}
use Rattle.octets.specs.Buffer.{over}
use Rattle.nets.specs.Rows.{Row, rows_of}
use Rattle.message.specs.Kinds.{kind_of}
use Rattle.message.specs.declared.Kind.TheVariants as K
use Rattle.message.specs.declared.Message.{Message}
use Rattle.message_reading.specs.Reading.{decode_of}
use Rattle.update_walk.specs.Body.{update_of, rows_read}
use Rattle.codec.specs.Reading.{refusal, read_of}
use Rattle.codec.specs.Writing.{write_answer, write_length, write_octets}
use Rattle.neighbour.specs.declared.Settings.{Settings}
use Rattle.neighbour.specs.declared.Neighbour.{Neighbour}
use Rattle.neighbour.specs.Rules.{same}
use Rattle.neighbour_machine.specs.Intrinsics.{Intrinsic}
use Rattle.neighbour_machine.specs.declared.Reply.{Reply}
use Rattle.neighbour_machine.specs.declared.Reply.TheVariants.{Nothing}
use Rattle.gateway_state.specs.declared.State.{State}
use Rattle.gateway_state.specs.declared.Outcome.{Outcome}
use Rattle.gateway_state.specs.Slots.{slot_at, slot_of, lowest_free}
use Rattle.gateway_state.specs.Places.{slot_rows, slot_numbers, row_counts, part_at, with_part, read_rows, write_rows}
use Rattle.gateway_state.specs.Formed.{state_formed}
use Rattle.gateway_state.specs.Outcomes.{refused_of}
use Rattle.gateway_slots.specs.Calls.{fresh_of, add_of, remove_of}
use Rattle.gateway_rules.specs.Number.{named_reply}
use Rattle.gateway_rules.specs.Carried.{first_octets, second_octets, reply_octets}
use Rattle.listing_lines.specs.Listing.{listing_outcome, listing_buffer}
use Rattle.gateway_rules.specs.Calls.{event_outcome, event_table, event_buffer, update_room, message_outcome, message_table, message_buffer}

-- the record of the neighbour that has this address
abbrev pub neighbour_of : State → ℕ → Neighbour
neighbour_of st a = (slot_at st (slot_of st a)).neighbour

-- ---- refused calls change nothing

-- 01: the answers 1 to 8 and 13 have no reply
abbrev pub is_silent : ℕ → Bool
is_silent answer = leb answer 8 || eqb answer 13

-- 01: "Every refusal returns the state as given, keeps the table and all octets beyond the named reply, and reports lengths 0 and 0 unless a reply is named."
pub record Refused (st : State) (table₀ buffer₀ : List ℕ) (reply : Reply) (home : List Row) (result : Outcome) (table₁ buffer₁ : List ℕ) : Type 0 where
  pub state : result.state ≡ st
  pub table : table₁ ≡ table₀
  pub buffer : buffer₁ ≡ over (reply_octets reply home) buffer₀
  pub first : result.first ≡ length (first_octets reply home)
  pub second : result.second ≡ length (second_octets reply home)

-- the same where no reply is named: lengths 0 and 0, and no octet of the buffer changes
pub record Silent (st : State) (table₀ buffer₀ : List ℕ) (result : Outcome) (table₁ buffer₁ : List ℕ) : Type 0 where
  pub outcome : result ≡ refused_of st result.answer
  pub table : table₁ ≡ table₀
  pub buffer : buffer₁ ≡ buffer₀

-- 01: "Every refusal returns the state as given, keeps the table and all octets beyond the named reply"
pub record RefusedChangesNothing : Type 0 where
  -- Start, Stop and tick name no reply
  pub events :
      (event : Intrinsic) (st : State) (table buffer : List ℕ) (a : ℕ) → ((event_outcome event st table buffer a).answer ≡ 0 → ⊥)
      → Silent st table buffer (event_outcome event st table buffer a) (event_table event st table buffer a) (event_buffer event st table buffer a)
  pub messages :
      (st : State) (table buffer home : List ℕ) (a : ℕ) (o : List ℕ) → ((message_outcome st table buffer home a o).answer ≡ 0 → ⊥)
      → Refused st table buffer (named_reply st.settings (neighbour_of st a) o (message_outcome st table buffer home a o).answer) (rows_of home)
      (message_outcome st table buffer home a o) (message_table st table buffer home a o) (message_buffer st table buffer home a o)
  pub silent_messages :
      (st : State) (table buffer home : List ℕ) (a : ℕ) (o : List ℕ) → ((message_outcome st table buffer home a o).answer ≡ 0 → ⊥)
      → is_silent (message_outcome st table buffer home a o).answer ≡ true
      → Silent st table buffer (message_outcome st table buffer home a o) (message_table st table buffer home a o) (message_buffer st table buffer home a o)
  -- add and remove take no table and no buffer
  pub add :
      (st : State) (address asn : ℕ) → length st.slots ≡ 8 → ((add_of st address asn).answer ≡ 0 → ⊥)
      → add_of st address asn ≡ refused_of st (add_of st address asn).answer
  pub remove :
      (st : State) (address : ℕ) → length st.slots ≡ 8 → ((remove_of st address).answer ≡ 0 → ⊥)
      → remove_of st address ≡ refused_of st (remove_of st address).answer
  pub listings :
      (st : State) (table buffer : List ℕ) → ((listing_outcome st table buffer).answer ≡ 0 → ⊥)
      → Silent st table buffer (listing_outcome st table buffer) table (listing_buffer st table buffer)
  -- reading alone and writing take no state and no table: a refusal hands back no row, or writes no octet
  pub readings : (net : ℕ) (o : List ℕ) (refused : Refusal) → (read_of net o).meaning ≡ Err refused → read_of net o ≡ refusal refused
  pub writings :
      (m : Message) (numbers buffer : List ℕ) → (write_answer m numbers buffer ≡ 0 → ⊥)
      → (write_length m numbers buffer ≡ 0) × (over (write_octets m numbers buffer) buffer ≡ buffer)

-- ---- a call about one neighbour leaves the others

-- 01: "slot by slot, three a row": a part that is written is read back, and every other part is as it was
pub record PartLaws (table part : List ℕ) (i : ℕ) : Type 0 where
  pub same : part_at (with_part table i part) i ≡ part
  pub others : (j : ℕ) → (j ≡ i → ⊥) → part_at (with_part table i part) j ≡ part_at table j
  pub long : length (with_part table i part) ≡ length table

-- rows that are written to slot i are read back, and every other slot's rows are as they were; the counts go with them
pub record PlaceLaws (table counts : List ℕ) (i : ℕ) (rows : List Row) : Type 0 where
  pub same : read_rows (write_rows table counts i rows) (set counts i (length rows)) i ≡ rows
  pub others : (j : ℕ) → (j ≡ i → ⊥) → read_rows (write_rows table counts i rows) (set counts i (length rows)) j ≡ read_rows table counts j

-- every slot but i, its rows and its numbers; and in every slot the settings, address and AS, and where each address
-- is found
pub record Untouched (st : State) (table₀ : List ℕ) (i : ℕ) (result : State) (table₁ : List ℕ) : Type 0 where
  pub slots : (j : ℕ) → (j ≡ i → ⊥) → slot_at result j ≡ slot_at st j
  pub rows : (j : ℕ) → (j ≡ i → ⊥) → read_rows table₁ (row_counts result) j ≡ read_rows table₀ (row_counts st) j
  pub parts : (j : ℕ) → (j ≡ i → ⊥) → part_at table₁ j ≡ part_at table₀ j
  pub settings : result.settings ≡ st.settings
  pub addresses : (j : ℕ) → (slot_at result j).address ≡ (slot_at st j).address
  pub asns : (j : ℕ) → (slot_at result j).asn ≡ (slot_at st j).asn
  pub found : (b : ℕ) → slot_of result b ≡ slot_of st b
  pub long : length table₁ ≡ length table₀

-- 01: "Facts shared by slots or net classes are proved once, over the slot"; the table may hold any numbers
pub record OthersUntouched : Type 0 where
  pub law : (table part : List ℕ) (i : ℕ) → length table ≡ 3072 → length part ≡ slot_numbers → i < 8 → PartLaws table part i
  pub places :
      (table counts : List ℕ) (i : ℕ) (rows : List Row) → length table ≡ 3072 → length counts ≡ 8 → length rows ≤ slot_rows → i < 8
      → PlaceLaws table counts i rows
  pub events :
      (event : Intrinsic) (st : State) (table buffer : List ℕ) (a : ℕ)
      → Untouched st table (slot_of st a) (event_outcome event st table buffer a).state (event_table event st table buffer a)
  pub messages :
      (st : State) (table buffer home : List ℕ) (a : ℕ) (o : List ℕ)
      → Untouched st table (slot_of st a) (message_outcome st table buffer home a o).state (message_table st table buffer home a o)
  -- 01: "It takes the lowest free slot, and a removed slot is free again."
  pub add : (st : State) (address asn j : ℕ) → (j ≡ lowest_free st → ⊥) → slot_at (add_of st address asn).state j ≡ slot_at st j
  pub remove : (st : State) (address j : ℕ) → (j ≡ slot_of st address → ⊥) → slot_at (remove_of st address).state j ≡ slot_at st j

-- ---- no octet past the reported lengths changes

-- the buffer after a call is the reported octets over the buffer before it; what lies beyond is as it was
pub record Within (result : Outcome) (buffer₀ buffer₁ : List ℕ) : Type 0 where
  pub octets : List ℕ
  pub is : buffer₁ ≡ over octets buffer₀
  pub long : length octets ≡ result.first + result.second
  pub rest : drop (result.first + result.second) buffer₁ ≡ drop (result.first + result.second) buffer₀

-- 01: "none writes past the lengths it reports, table apart"
pub record WritesWithinLengths : Type 0 where
  pub events :
      (event : Intrinsic) (st : State) (table buffer : List ℕ) (a : ℕ)
      → Within (event_outcome event st table buffer a) buffer (event_buffer event st table buffer a)
  pub messages :
      (st : State) (table buffer home : List ℕ) (a : ℕ) (o : List ℕ)
      → Within (message_outcome st table buffer home a o) buffer (message_buffer st table buffer home a o)
  pub listings : (st : State) (table buffer : List ℕ) → Within (listing_outcome st table buffer) buffer (listing_buffer st table buffer)
  pub writings :
      (m : Message) (numbers buffer : List ℕ)
      → drop (write_length m numbers buffer) (over (write_octets m numbers buffer) buffer) ≡ drop (write_length m numbers buffer) buffer

-- 01: "Reply buffer at least 2,048 octets": every reply fits, the longest being an Update of 128 rows, and the buffer keeps its length
pub record ReplyFits (result : Outcome) (buffer₀ buffer₁ : List ℕ) : Type 0 where
  pub few : result.first + result.second ≤ 1168
  pub same : length buffer₁ ≡ length buffer₀

-- 01: "A reply is at most two messages"
pub record RepliesFit : Type 0 where
  pub events :
      (event : Intrinsic) (st : State) (table buffer : List ℕ) (a : ℕ)
      → ReplyFits (event_outcome event st table buffer a) buffer (event_buffer event st table buffer a)
  pub messages :
      (st : State) (table buffer home : List ℕ) (a : ℕ) (o : List ℕ)
      → ReplyFits (message_outcome st table buffer home a o) buffer (message_buffer st table buffer home a o)

-- ---- what writes the table

-- the phase of the neighbour in slot i
abbrev pub is_up_in : State → ℕ → Bool
is_up_in st i = is_up (slot_at st i).neighbour.phase

-- whether the kind stage found an Update
unfoldable pub decodes_update : Result Message Refusal → Bool
decodes_update (Ok m) = same (kind_of m) K.Update
decodes_update (Err refused) = false

-- 01: "Leaving Up zeroes .. the neighbour's rows"; "An Update that finds its slot Up and fails no check is accepted: its rows replace the slot's."
-- Nothing else writes the table.
pub record TableWrites (st : State) (table₀ : List ℕ) (i : ℕ) (update : Bool) (rows : List Row) (result : Outcome) (table₁ : List ℕ) : Type 0 where
  pub kept : is_up_in st i ≡ false → table₁ ≡ table₀
  pub stayed : is_up_in result.state i ≡ true → update ≡ false → table₁ ≡ table₀
  pub cleared : result.answer ≡ 0 → is_up_in st i ≡ true → is_up_in result.state i ≡ false → table₁ ≡ write_rows table₀ (row_counts st) i []
  pub replaced : result.answer ≡ 0 → is_up_in st i ≡ true → update ≡ true → table₁ ≡ write_rows table₀ (row_counts st) i rows

-- 01: "A slot not Up has no rows"; an accepted Update's rows "replace the slot's"
pub record TableKept : Type 0 where
  pub events :
      (event : Intrinsic) (st : State) (table buffer : List ℕ) (a : ℕ) → length st.slots ≡ 8
      → TableWrites st table (slot_of st a) false [] (event_outcome event st table buffer a) (event_table event st table buffer a)
  pub messages :
      (st : State) (table buffer home : List ℕ) (a : ℕ) (o : List ℕ) → length st.slots ≡ 8
      → TableWrites st table (slot_of st a) (decodes_update (decode_of o)) (rows_read (update_of (update_room (row_counts st) (slot_of st a)) st.settings.net o))
      (message_outcome st table buffer home a o) (message_table st table buffer home a o)

-- ---- every call keeps a state well formed

-- a state that passes check 1; it has eight slots by its type
pub record FormedState (st : State) : Type 0 where
  pub formed : state_formed st ≡ true
  pub eight : length st.slots ≡ 8

-- 01: "Every call keeps a state well formed."
pub record WellFormedKept : Type 0 where
  pub events : (event : Intrinsic) (st : State) (table buffer : List ℕ) (a : ℕ) → FormedState st → FormedState (event_outcome event st table buffer a).state
  -- any octets at all
  pub messages :
      (st : State) (table buffer home : List ℕ) (a : ℕ) (o : List ℕ) → FormedState st → FormedState (message_outcome st table buffer home a o).state
  pub add : (st : State) (address asn : ℕ) → FormedState st → FormedState (add_of st address asn).state
  pub remove : (st : State) (address : ℕ) → FormedState st → FormedState (remove_of st address).state
  -- a listing changes nothing at all; reading alone and writing are given no state
  pub listings : (st : State) (table buffer : List ℕ) → FormedState st → FormedState (listing_outcome st table buffer).state
  pub listed : (st : State) (table buffer : List ℕ) → (listing_outcome st table buffer).state ≡ st
  -- 01: where fresh refuses, it "returns the all-zero state, which is not well formed"
  pub fresh : (g : Settings) → (fresh_of g).answer ≡ 0 → FormedState (fresh_of g).state
