-- What holds of every listing. The proofs are in proofs/Bound.antt.
use Rattle.std.specs.Prelude.{ℕ, ◌<◌, ◌≤◌, true, ◌≡◌, List, length}
use Rattle.gateway_state.specs.declared.State.{State}
use Rattle.gateway_state.specs.Slots.{slot_at}
use Rattle.gateway_state.specs.Formed.{state_formed}
use Rattle.listing_lines.specs.Lines.{listing_text}
use Rattle.listing_lines.specs.Listing.{entries, listing_outcome, listing_buffer}

-- a state of the code has eight slots, and 16-bit ASs, by its type
pub record Typed (st : State) : Type 0 where
  pub eight : length st.slots ≡ 8
  pub words : (i : ℕ) → (slot_at st i).asn < 65536

-- The longest listing has 13 octets, and of each of eight neighbours 68, and 82 of its seconds, and 57 of each of its 128 rows: fewer than 65,536,
-- the buffer's least length, which the buffer keeps; and the text's length fits the 16 bits in which it is reported.
-- Check 1 is what bounds it: no rows outside Up, and at most 128; and seconds whose sum lets four counts have ten
-- digits, and not five.
pub record ShortListing : Type 0 where
  pub text : (st : State) (table : List ℕ) → Typed st → state_formed st ≡ true → length (listing_text (entries st table)) ≤ 59581
  pub reported : (st : State) (table buffer : List ℕ) → Typed st → (listing_outcome st table buffer).first ≤ 59581
  pub same : (st : State) (table buffer : List ℕ) → Typed st → length (listing_buffer st table buffer) ≡ length buffer
