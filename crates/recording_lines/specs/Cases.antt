-- Worked lines, those of docs/RECORDING.md among them. The proofs are in proofs/Cases.antt.
use Rattle.std.specs.Prelude.{ℕ, ◌≡◌, true, not, List, [], ◌∷◌, ◌++◌, map, replicate, Some, None}
use Rattle.checks.specs.Lists.{every}
use Rattle.text.specs.Text.{text}
use Rattle.recording_lines.specs.Lines.{Event, add, remove, start, stop, tick, rx, event_of, own_as_of, own_of, capability_of, net_of, quiet_of}
use Rattle.recording_lines.specs.Claims.{is_good}

unfoldable pub good_lines : List (List ℕ)
good_lines =
    text "add=128.9.0.5/7"
    ∷ text "add=255.255.255.255/65535"
    ∷ text "add=0.0.0.0/0"
    ∷ text "remove=128.9.0.5"
    ∷ text "start=128.9.0.5"
    ∷ text "stop=128.9.0.5"
    ∷ text "tick=128.9.0.5/1"
    ∷ text "tick=128.9.0.5/86400"
    ∷ text "rx=128.9.0.5/0AF9"
    ∷ text "rx=128.9.0.5/"
    ∷ []

-- what they say; 128.9.0.5 is 2148073477
unfoldable pub their_events : List Event
their_events =
    add 2148073477 7
    ∷ add 4294967295 65535
    ∷ add 0 0
    ∷ remove 2148073477
    ∷ start 2148073477
    ∷ stop 2148073477
    ∷ tick 2148073477 1
    ∷ tick 2148073477 86400
    ∷ rx 2148073477 (10 ∷ 249 ∷ [])
    ∷ rx 2148073477 []
    ∷ []

unfoldable pub bad_lines : List (List ℕ)
bad_lines =
    text ""
    ∷ text "rx=128.9.0.5/0af9"
    ∷ text "rx=128.9.0.5/0AF"
    ∷ text "rx=128.9.0.5/0A F9"
    ∷ text "rx=128.9.0.5"
    ∷ text "tick=128.9.0.5/0"
    ∷ text "tick=128.9.0.5/86401"
    ∷ text "tick=128.9.0.5/032"
    ∷ text "tick=128.9.0.5/"
    ∷ text "tick=128.9.0.5"
    ∷ text "add=128.9.0.5/65536"
    ∷ text "add=128.9.0.5/07"
    ∷ text "add=128.9.0.5/+7"
    ∷ text "add=128.9.0.5/7/7"
    ∷ text "start=128.9.0.5/1"
    ∷ text "start=128.9.0"
    ∷ text "start=128.9.0.5.1"
    ∷ text "start=128.9.0.256"
    ∷ text "start=128.9.0.05"
    ∷ text "start=128..0.5"
    ∷ text "start=128.9.0.5 "
    ∷ text " start=128.9.0.5"
    ∷ text "Start=128.9.0.5"
    ∷ text "start"
    ∷ text "drop=128.9.0.5"
    ∷ text "cap=1"
    ∷ text "quiet=1"
    ∷ text "quiet=0"
    ∷ (text "stop=128.9.0.5" ++ (13 ∷ []))
    ∷ []

pub record LineCases : Type 0 where
  pub good : map event_of good_lines ≡ their_events
  pub bad : every (λ line. not (is_good (event_of line))) bad_lines ≡ true
  -- 2,049 octets, and one more
  pub longest : is_good (event_of (text "rx=128.9.0.5/" ++ replicate 4098 65)) ≡ true
  pub too_long : is_good (event_of (text "rx=128.9.0.5/" ++ replicate 4100 65)) ≡ not true
  -- the first four lines
  pub own_as : map own_as_of (text "ownas=9" ∷ text "ownas=65535" ∷ text "ownas=0" ∷ text "ownas=65536" ∷ text "ownas=09" ∷ text "own=9" ∷ []) ≡ Some 9 ∷ Some 65535 ∷ Some 0 ∷ None ∷ None ∷ None ∷ []
  pub own : map own_of (text "own=128.9.0.5" ∷ text "own=128.9.0" ∷ text "net=128.9.0.5" ∷ []) ≡ Some 2148073477 ∷ None ∷ None ∷ []
  pub capability : map capability_of (text "cap=3" ∷ text "cap=255" ∷ text "cap=256" ∷ text "cap=" ∷ []) ≡ Some 3 ∷ Some 255 ∷ None ∷ None ∷ []
  pub net : map net_of (text "net=128.9.0.0" ∷ text "net=128.9.0.00" ∷ []) ≡ Some 2148073472 ∷ None ∷ []
  -- the fifth
  pub quiet :
      map quiet_of
      (text "quiet=0" ∷ text "quiet=1" ∷ text "quiet=2" ∷ text "quiet=01" ∷ text "quiet=00" ∷ text "quiet=" ∷ text "quiet" ∷ text "quiet=1 " ∷ text " quiet=1" ∷ text "Quiet=1" ∷ text "quiet=10" ∷ text "quiet=-1" ∷ [])
      ≡ Some 0 ∷ Some 1 ∷ None ∷ None ∷ None ∷ None ∷ None ∷ None ∷ None ∷ None ∷ None ∷ None ∷ []
