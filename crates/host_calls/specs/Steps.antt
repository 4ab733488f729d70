-- What the inner functions of a host's calls promise.
use Rattle.std.specs.Prelude.{ℕ, ◌<◌, ◌≡◌, true, List, Result, Ok, Err}
use Rattle.checks.specs.Checks.{check}
use Rattle.checks.specs.declared.Refusal.{Refusal}
use Rattle.checks.specs.Refusals.{number_of}
use Rattle.octets_words.specs.Words.{words_of, word_octets}
use Rattle.neighbour_machine.specs.declared.Event.{Event}
use Rattle.neighbour_machine.specs.Intrinsics.{Intrinsic, as_event}
use Rattle.gateway_state.specs.Slots.{slot_at, slot_of}
use Rattle.gateway_rules.specs.Ruling.{Change}
use Rattle.gateway_rules.specs.Home.{good_home}
use Rattle.gateway_rules.specs.Seconds.{has_time}
use Rattle.gateway_rules.specs.Carried as Carried
use Rattle.gateway_rules.specs.Calls.{table_fits, buffer_fits, lent_checks, event_checks, message_checks}
use Rattle.host_state_block.specs.Block.{state_in}
use Rattle.host_state_block.specs.Formed.{block_fits, block_in_range}
use Rattle.host_home.specs.Home.{home_in}
use Rattle.host_rules.specs.Held.{table_in}

-- 20, then the block's own 1, then what the rest says
unfoldable pub host_checks : List ℕ → ℕ → ℕ
host_checks block rest = check (block_fits block) 20 (check (block_in_range block) 1 rest)

-- 20, then 1, 2 and 3 of what the blocks hold
abbrev pub host_lent : List ℕ → List ℕ → List ℕ → ℕ
host_lent block table buffer = host_checks block (lent_checks (state_in block) (table_fits (table_in table)) (buffer_fits buffer) 0)

-- what Start, Stop or tick finds before anything is done: its neighbour's slot, or the check that fails first
abbrev pub EventSlot : Event → List ℕ → List ℕ → List ℕ → ℕ → Result ℕ Refusal → Type 0
EventSlot event block table buffer a (Err refusal) =
    (e : Intrinsic) → event ≡ as_event e → number_of refusal ≡ host_checks block (event_checks e (state_in block) (table_in table) buffer a)
EventSlot event block table buffer a (Ok i) =
    (0 ≡ host_lent block table buffer) × (i ≡ slot_of (state_in block) a) × (i < 8) × (has_time event (slot_at (state_in block) i).seconds ≡ true)

-- what a message finds
abbrev pub MessageSlot : List ℕ → List ℕ → List ℕ → List ℕ → ℕ → Result ℕ Refusal → Type 0
MessageSlot block table buffer home a (Err refusal) =
    number_of refusal ≡ host_checks block (message_checks (state_in block) (table_in table) buffer (home_in home) a)
MessageSlot block table buffer home a (Ok i) =
    (0 ≡ host_lent block table buffer) × (good_home (state_in block).settings (home_in home) ≡ true) × (i ≡ slot_of (state_in block) a) × (i < 8)

-- the table's octets once slot i's rows are changed, whatever the row counts
unfoldable pub octets_after : List ℕ → List ℕ → ℕ → Change → List ℕ
octets_after table counts i change = word_octets (Carried.table_after (words_of table) counts i change)
