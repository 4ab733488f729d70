-- Worked listings. The proofs are in proofs/Cases.antt.
use Rattle.std.specs.Prelude.{ℕ, true, ◌≡◌, List, [], ◌∷◌, ◌++◌, length}
use Rattle.checks.specs.Lists.{join}
use Rattle.octets.specs.Buffer.{over}
use Rattle.text.specs.Text.{text}
use Rattle.update_rows.specs.Storing.{zeros}
use Rattle.neighbour.specs.declared.Phase.{Phase}
use Rattle.neighbour.specs.declared.Phase.TheVariants.{Acquisition, Down, Up, Cease}
use Rattle.neighbour.specs.declared.Mode.{Mode}
use Rattle.neighbour.specs.declared.Mode.TheVariants.{Active, Passive}
use Rattle.neighbour.specs.declared.Settings.{Settings}
use Rattle.neighbour.specs.declared.Neighbour.{Neighbour}
use Rattle.neighbour.specs.Record.{with_numbers, with_timers, with_reach, idle, waiting, initialised}
use Rattle.neighbour_seconds.specs.declared.Seconds.{Seconds}
use Rattle.neighbour_seconds.specs.Cases.{seconds}
use Rattle.gateway_state.specs.declared.Slot.{Slot}
use Rattle.gateway_state.specs.declared.State.{State}
use Rattle.gateway_state.specs.Slots.{free_slot}
use Rattle.gateway_state.specs.Formed.{state_formed}
use Rattle.listing_lines.specs.Lines.{seconds_lines, listing_text}
use Rattle.listing_lines.specs.Listing.{entries, listing_checks, listing_outcome, listing_buffer}

-- own AS 9, own address 128.9.0.1, on 128.9.0.0
unfoldable pub case_settings : Settings
case_settings = record { asn = 9; own = 2148073473; capability = 0; net = 2148073472; quiet = 0 }

-- 01: T1 32, T2 122, as the least offer gives
unfoldable pub acquired_neighbour : Phase → Mode → ℕ → Neighbour
acquired_neighbour phase mode t2 = with_reach (with_timers (with_numbers (initialised idle 32 122 mode) 1 0) 32 t2 3600) phase 7 0

unfoldable pub slot : ℕ → ℕ → Neighbour → ℕ → Seconds → Slot
slot address asn n rows s = record { address = address; asn = asn; neighbour = n; rows = rows; seconds = s }

-- case U: one neighbour, 128.9.0.5, AS 7, Up and active, with the two rows of the Update
unfoldable pub state_u : State
state_u =
    record {
      settings = case_settings;
      slots = slot 2148073477 7 (acquired_neighbour Up Active 122) 2 (seconds 0 0 0 0 0) ∷ free_slot ∷ free_slot ∷ free_slot ∷ free_slot ∷ free_slot ∷ free_slot ∷ free_slot ∷ [];
    }

unfoldable pub table_u : List ℕ
table_u = 167772160 ∷ 2148073477 ∷ 0 ∷ 3221554688 ∷ 2148073477 ∷ 0 ∷ zeros 3066

-- slots 0, 2, 4 and 6 free; slot 1 has an internal row of distance 255 and external ones of distance 0 and 255; no row of slot 3 is used;
-- the seconds of slots 1 and 7 are five different numbers each
unfoldable pub state_mixed : State
state_mixed =
    record {
      settings = case_settings;
      slots =
          free_slot
          ∷ slot 2148073477 300 (acquired_neighbour Up Passive 122) 3 (seconds 3600 120 32 8640 7)
          ∷ free_slot
          ∷ slot 3758096385 10 (acquired_neighbour Down Active 0) 0 (seconds 1 0 2 0 5)
          ∷ free_slot
          ∷ slot 16909060 7 (waiting idle Acquisition 0) 0 (seconds 1000 30 0 0 4)
          ∷ free_slot
          ∷ slot 167772161 1 (waiting idle Cease 5) 0 (seconds 0 99 9 999 9999)
          ∷ [];
    }

-- its third number of slot 3 is no used row's; the last of slot 1 is given
unfoldable pub table_mixed : ℕ → List ℕ
table_mixed third =
    zeros 384
    ++ (167772160 ∷ 2148073477 ∷ 255 ∷ 3221554688 ∷ 2148073478 ∷ 256 ∷ 0 ∷ 2148073487 ∷ third ∷ [])
    ++ zeros 759
    ++ (1 ∷ 2 ∷ 9999 ∷ [])
    ++ zeros 1917

pub record ListingCases : Type 0 where
  pub formed_u : state_formed state_u ≡ true
  -- 01: "The whole listing for case U"
  pub text_u :
      listing_text (entries state_u table_u)
      ≡ text "neighbours=1\nslot=0\naddr=128.9.0.5\nas=7\nstate=up\nmode=active\nrows=2\nsidle=0\nsacq=0\nsdown=0\nsup=0\nscease=0\nnet=10.0.0.0\ngw=128.9.0.5\ndist=0\nside=int\nnet=192.5.6.0\ngw=128.9.0.5\ndist=0\nside=int\n"
  pub length_u : length (listing_text (entries state_u table_u)) ≡ 191
  pub formed_mixed : state_formed state_mixed ≡ true
  pub long_mixed : length (table_mixed 511) ≡ 3072
  pub text_mixed :
      listing_text (entries state_mixed (table_mixed 511))
      ≡ text "neighbours=4\nslot=1\naddr=128.9.0.5\nas=300\nstate=up\nmode=passive\nrows=3\nsidle=3600\nsacq=120\nsdown=32\nsup=8640\nscease=7\nnet=10.0.0.0\ngw=128.9.0.5\ndist=255\nside=int\nnet=192.5.6.0\ngw=128.9.0.6\ndist=0\nside=ext\nnet=0.0.0.0\ngw=128.9.0.15\ndist=255\nside=ext\nslot=3\naddr=224.0.0.1\nas=10\nstate=down\nmode=active\nrows=0\nsidle=1\nsacq=0\nsdown=2\nsup=0\nscease=5\nslot=5\naddr=1.2.3.4\nas=7\nstate=acquisition\nmode=none\nrows=0\nsidle=1000\nsacq=30\nsdown=0\nsup=0\nscease=4\nslot=7\naddr=10.0.0.1\nas=1\nstate=cease\nmode=none\nrows=0\nsidle=0\nsacq=99\nsdown=9\nsup=999\nscease=9999\n"
  -- counts of all lengths: one that uses up the sum, and five that are as long as its bound lets them be
  pub large : join (seconds_lines (seconds 4294967290 0 3 0 2)) ≡ text "sidle=4294967290\nsacq=0\nsdown=3\nsup=0\nscease=2\n"
  pub longest :
      join (seconds_lines (seconds 1000000000 1000000001 1000000002 1000000003 294967289))
      ≡ text "sidle=1000000000\nsacq=1000000001\nsdown=1000000002\nsup=1000000003\nscease=294967289\n"
  pub length_longest : length (join (seconds_lines (seconds 1000000000 1000000001 1000000002 1000000003 294967289))) ≡ 82
  -- the checks: 511 passes and 512 does not, a table of 3,071 numbers, a state that is not formed, and 2 before 3
  pub passed : (buffer : List ℕ) → length buffer ≡ 65536 → listing_checks state_mixed (table_mixed 511) buffer ≡ 0
  pub marked : listing_checks state_mixed (table_mixed 512) [] ≡ 2
  pub tabled : (buffer : List ℕ) → listing_checks state_u (zeros 3071) buffer ≡ 2
  pub roomy : (buffer : List ℕ) → length buffer ≡ 65535 → listing_checks state_u table_u buffer ≡ 3
  pub unformed : listing_checks (record { settings = case_settings; slots = slot 0 1 idle 0 (seconds 0 0 0 0 0) ∷ [] }) [] [] ≡ 1
  -- carried out: 191 octets reported first and 0 second, the state as given, the text at the front of the buffer
  pub outcome_u : (buffer : List ℕ) → length buffer ≡ 65536 → listing_outcome state_u table_u buffer ≡ record { answer = 0; first = 191; second = 0; state = state_u }
  pub buffer_u : (buffer : List ℕ) → length buffer ≡ 65536 → listing_buffer state_u table_u buffer ≡ over (listing_text (entries state_u table_u)) buffer
  -- refused: lengths 0 and 0, the state and the buffer as given
  pub outcome_refused : listing_outcome state_mixed (table_mixed 512) [] ≡ record { answer = 2; first = 0; second = 0; state = state_mixed }
  pub buffer_refused : listing_buffer state_mixed (table_mixed 512) (7 ∷ []) ≡ 7 ∷ []
