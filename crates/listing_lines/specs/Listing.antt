-- The call that lists the table: which slots and rows it lists, its checks, and what it leaves.
use Rattle.std.specs.Prelude.{ℕ, suc, Bool, cond, ◌&&◌, List, [], ◌∷◌, leb, eqb, length}
use Rattle.checks.specs.Checks.{if_ok}
use Rattle.checks.specs.Lists.{every}
use Rattle.octets.specs.Buffer.{over}
use Rattle.nets.specs.Rows.{Row}
use Rattle.gateway_state.specs.declared.Slot.{Slot}
use Rattle.gateway_state.specs.declared.State.{State}
use Rattle.gateway_state.specs.declared.Outcome.{Outcome}
use Rattle.gateway_state.specs.Places.{row_counts, read_rows}
use Rattle.gateway_state.specs.Outcomes.{refused_of}
use Rattle.gateway_rules.specs.Calls.{table_fits, lent_checks}
use Rattle.listing_lines.specs.Lines.{Entry, listing_text}
use Rattle.listing_lines.specs.Steps.{slot_entry}

-- what is listed of slot i, with this table and these row counts of all slots
unfoldable pub entry_of : ℕ → Slot → List ℕ → List ℕ → Entry
entry_of i slot table counts = slot_entry i slot (read_rows table counts i)

-- 01: "used slots in order"; these are the slots from index i on
unfoldable pub entries_from : ℕ → List Slot → List ℕ → List ℕ → List Entry
entries_from i [] table counts = []
entries_from i (slot ∷ rest) table counts =
    cond (eqb slot.address 0) (entries_from (suc i) rest table counts) (entry_of i slot table counts ∷ entries_from (suc i) rest table counts)

unfoldable pub entries : State → List ℕ → List Entry
entries st table = entries_from 0 st.slots table (row_counts st)

-- 2: "in a listing, also a used row's third number above 511"
unfoldable pub marked_row : Row → Bool
marked_row row = leb row.third 511

unfoldable pub listable : Entry → Bool
listable e = every marked_row e.rows

-- 01: "listing buffer at least 65,536": the checks 1, 2 and 3
unfoldable pub listing_checks : State → List ℕ → List ℕ → ℕ
listing_checks st table buffer =
    lent_checks st (table_fits table && every listable (entries st table)) (leb 65536 (length buffer)) 0

-- carried out: the text's length, then 0; the state as given
unfoldable pub listing_outcome : State → List ℕ → List ℕ → Outcome
listing_outcome st table buffer =
    if_ok (listing_checks st table buffer)
    (record { answer = 0; first = length (listing_text (entries st table)); second = 0; state = st }) (refused_of st (listing_checks st table buffer))

unfoldable pub listing_buffer : State → List ℕ → List ℕ → List ℕ
listing_buffer st table buffer = if_ok (listing_checks st table buffer) (over (listing_text (entries st table)) buffer) buffer
