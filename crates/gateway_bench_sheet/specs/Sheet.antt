-- 01's bench sheet: cases H, Z, Q, U, V, W, X, Y, K, M as one table, and the claim about it.
use Rattle.std.specs.Prelude.{ℕ, ◌≡◌, true, List, [], ◌∷◌}
use Rattle.checks.specs.Lists.{every}
use Rattle.checks.specs.declared.Refusal.TheVariants.{WrongChecksum, BrokenBlocks}
use Rattle.message.specs.declared.Message.TheVariants.{Request, Confirm, Refuse, Hello, Poll, Update, Error}
use Rattle.neighbour.specs.declared.Phase.{Phase}
use Rattle.neighbour.specs.declared.Phase.TheVariants.{Idle, Acquisition, Down, Up, Cease}
use Rattle.neighbour.specs.declared.Mode.{Mode}
use Rattle.neighbour.specs.declared.Mode.TheVariants.{Unset, Active, Passive}
use Rattle.neighbour.specs.declared.Settings.{Settings}
use Rattle.neighbour.specs.declared.Neighbour.{Neighbour}
use Rattle.neighbour.specs.Record.{with_numbers, with_state, with_counts, idle}
use Rattle.neighbour_seconds.specs.declared.Seconds.{Seconds}
use Rattle.neighbour_machine.specs.declared.Event.TheVariants.{Received, Tick}
use Rattle.neighbour_machine.specs.declared.Reply.TheVariants.{Nothing, One, Two}
use Rattle.gateway_state.specs.declared.Slot.{Slot}
use Rattle.gateway_state.specs.declared.State.{State}
use Rattle.gateway_rules.specs.declared.Effect.TheVariants.{Keep, Clear}
use Rattle.gateway_bench_sheet.specs.Cases.{Case, reads, refused, received, happens, called, passes}

-- 128.9.0.0, the common net; 128.9.0.1 and 128.9.0.5, gateways on it
abbrev pub common : ℕ
common = 2148073472

abbrev pub ours : ℕ
ours = 2148073473

abbrev pub theirs : ℕ
theirs = 2148073477

-- 10.0.0.0 and 192.5.6.0, the nets of U's rows
abbrev pub ten_net : ℕ
ten_net = 167772160

abbrev pub c_net : ℕ
c_net = 3221554688

-- a gateway of AS 9 and one of AS 7, both of capability 0: 01's "both ends capability 0, AS 7 and 9"
unfoldable pub nine : Settings
nine = record { asn = 9; own = ours; capability = 0; net = common; quiet = 0 }

unfoldable pub seven : Settings
seven = record { asn = 7; own = theirs; capability = 0; net = common; quiet = 0 }

-- 02, L5: ticks since a Hello and since a Poll, "holding at 120", "zeroed in Idle"
unfoldable pub settled : Phase → ℕ
settled Idle = 0
settled Acquisition = 120
settled Down = 120
settled Up = 120
settled Cease = 120

-- a neighbour's record without a cause: state, M, S, R, T1, T2, t1, t2, t3, register, heard
unfoldable pub neighbour_as : Phase → Mode → ℕ → ℕ → ℕ → ℕ → ℕ → ℕ → ℕ → ℕ → ℕ → Neighbour
neighbour_as phase mode s r hello poll t1 t2 t3 register heard =
    with_counts (with_state (with_numbers idle s r) phase mode hello poll t1 t2 t3 register heard 0) (settled phase) (settled phase)

-- a neighbour in Idle: all zero
unfoldable pub resting : Neighbour
resting = neighbour_as Idle Unset 0 0 0 0 0 0 0 0 0

-- a neighbour that was sent a Request 1 second ago
unfoldable pub asked : Neighbour
asked = neighbour_as Acquisition Unset 0 0 0 0 29 0 119 0 0

-- a neighbour that has just agreed on T1 and on a Poll interval of 120 seconds, and on who is active
unfoldable pub agreed_on : ℕ → Mode → Neighbour
agreed_on hello mode = neighbour_as Down mode 0 0 hello 122 hello 0 120 0 0

-- on 30 and 120 seconds
unfoldable pub agreed_on_thirty : Mode → Neighbour
agreed_on_thirty mode = agreed_on 32 mode

-- a neighbour in Down
unfoldable pub reached : Neighbour
reached = neighbour_as Down Active 2 4 32 122 20 0 50 1 0

-- 01's U: "state=up", "mode=active", and S is 1, which U carries
unfoldable pub polling : Neighbour
polling = neighbour_as Up Active 1 4 32 122 20 100 50 7 0

-- 02, L7: "all 0 in case U"
unfoldable pub no_time : Seconds
no_time = record { idle = 0; acquisition = 0; down = 0; up = 0; cease = 0 }

-- 01: "free slots are all zero"
unfoldable pub vacant : Slot
vacant = record { address = 0; asn = 0; neighbour = resting; rows = 0; seconds = no_time }

-- 01's U: one neighbour, in slot 0, at 128.9.0.5 with AS 7, with this record and row count; the other slots free
unfoldable pub one_neighbour : Neighbour → ℕ → State
one_neighbour n rows =
    record {
      settings = nine;
      slots =
          record { address = theirs; asn = 7; neighbour = n; rows = rows; seconds = no_time }
          ∷ vacant ∷ vacant ∷ vacant ∷ vacant ∷ vacant ∷ vacant ∷ vacant ∷ [];
    }

-- the cases, each with what must come out
unfoldable pub sheet : List Case
sheet =
    -- H: 02 05 00 02 FD F0 00 07 00 01
    reads common (2 ∷ 5 ∷ 0 ∷ 2 ∷ 253 ∷ 240 ∷ 0 ∷ 7 ∷ 0 ∷ 1 ∷ []) (Hello 7 1 2) [] ∷
    -- Z: 02 05 00 02 00 00 FD F8 00 00 is right, and is what is written
    reads common (2 ∷ 5 ∷ 0 ∷ 2 ∷ 0 ∷ 0 ∷ 253 ∷ 248 ∷ 0 ∷ 0 ∷ []) (Hello 65016 0 2) [] ∷
    -- Z: with FF FF as checksum, 8; also from a neighbour, without reply
    refused common (2 ∷ 5 ∷ 0 ∷ 2 ∷ 255 ∷ 255 ∷ 253 ∷ 248 ∷ 0 ∷ 0 ∷ []) WrongChecksum ∷
    received nine 65016 reached (2 ∷ 5 ∷ 0 ∷ 2 ∷ 255 ∷ 255 ∷ 253 ∷ 248 ∷ 0 ∷ 0 ∷ [])
    (record { answer = 8; reply = Nothing; neighbour = reached; effect = Keep }) ∷
    -- Q: 02 03 00 00 FD 5F 00 07 00 00 00 1E 00 78
    reads common (2 ∷ 3 ∷ 0 ∷ 0 ∷ 253 ∷ 95 ∷ 0 ∷ 7 ∷ 0 ∷ 0 ∷ 0 ∷ 30 ∷ 0 ∷ 120 ∷ []) (Request 7 0 0 30 120) [] ∷
    -- Q: T1 32, T2 122
    received nine 7 resting (2 ∷ 3 ∷ 0 ∷ 0 ∷ 253 ∷ 95 ∷ 0 ∷ 7 ∷ 0 ∷ 0 ∷ 0 ∷ 30 ∷ 0 ∷ 120 ∷ [])
    (record {
      answer = 0;
      reply = One (Confirm 9 0 0 30 120);
      neighbour = agreed_on 32 Passive;
      effect = Keep;
    }) ∷
    -- U: 02 01 00 01 B3 D7 00 07 00 01 01 00 80 09 00 00 00 05 01 00 02 0A C0 05 06: two rows
    reads common
    (2 ∷ 1 ∷ 0 ∷ 1 ∷ 179 ∷ 215 ∷ 0 ∷ 7 ∷ 0 ∷ 1 ∷ 1 ∷ 0 ∷ 128 ∷ 9 ∷ 0 ∷ 0 ∷ 0 ∷ 5 ∷ 1 ∷ 0 ∷ 2 ∷ 10 ∷ 192 ∷ 5 ∷ 6 ∷ [])
    (Update 7 1 1 common)
    (record { net = ten_net; gateway = theirs; third = 0 } ∷ record { net = c_net; gateway = theirs; third = 0 } ∷ []) ∷
    -- V: U without its last octet, checksum remade, 02 01 00 01 B9 D7 00 07 00 01 01 00 80 09 00 00 00 05 01 00 02 0A C0 05: 14
    refused common (2 ∷ 1 ∷ 0 ∷ 1 ∷ 185 ∷ 215 ∷ 0 ∷ 7 ∷ 0 ∷ 1 ∷ 1 ∷ 0 ∷ 128 ∷ 9 ∷ 0 ∷ 0 ∷ 0 ∷ 5 ∷ 1 ∷ 0 ∷ 2 ∷ 10 ∷ 192 ∷ 5 ∷ []) BrokenBlocks ∷
    -- V: from a neighbour in Up, Error 2
    received nine 7 polling (2 ∷ 1 ∷ 0 ∷ 1 ∷ 185 ∷ 215 ∷ 0 ∷ 7 ∷ 0 ∷ 1 ∷ 1 ∷ 0 ∷ 128 ∷ 9 ∷ 0 ∷ 0 ∷ 0 ∷ 5 ∷ 1 ∷ 0 ∷ 2 ∷ 10 ∷ 192 ∷ 5 ∷ [])
    (record { answer = 14; reply = One (Error 9 4 1 2 33619969 3117875207 65792); neighbour = polling; effect = Keep }) ∷
    -- W: hello interval 120, 02 03 00 00 FD 05 00 07 00 00 00 78 00 78, gives T1 122
    received nine 7 resting (2 ∷ 3 ∷ 0 ∷ 0 ∷ 253 ∷ 5 ∷ 0 ∷ 7 ∷ 0 ∷ 0 ∷ 0 ∷ 120 ∷ 0 ∷ 120 ∷ [])
    (record {
      answer = 0;
      reply = One (Confirm 9 0 0 30 120);
      neighbour = agreed_on 122 Passive;
      effect = Keep;
    }) ∷
    -- W: 121, 02 03 00 00 FD 04 00 07 00 00 00 79 00 78, is unacceptable: in Idle Refuse 6
    received nine 7 resting (2 ∷ 3 ∷ 0 ∷ 0 ∷ 253 ∷ 4 ∷ 0 ∷ 7 ∷ 0 ∷ 0 ∷ 0 ∷ 121 ∷ 0 ∷ 120 ∷ [])
    (record { answer = 0; reply = One (Refuse 9 0 6); neighbour = resting; effect = Keep }) ∷
    -- X: active, register 0011 then heard: Up, with Hello and Poll
    happens nine 7
    (neighbour_as Down Active 0 4 32 122 1 0 50 3 1)
    Tick
    (record {
      answer = 0;
      reply = Two (Hello 9 0 1) (Poll 9 1 1 common);
      neighbour = neighbour_as Up Active 1 4 32 122 32 122 49 7 0;
      effect = Keep;
    }) ∷
    -- Y: passive, register 1000 then silence: Down, and the rows go
    happens nine 7
    (neighbour_as Up Passive 3 4 32 122 1 60 50 8 0)
    Tick
    (record {
      answer = 0;
      reply = Nothing;
      neighbour = neighbour_as Down Passive 3 4 32 122 32 0 49 0 0;
      effect = Clear;
    }) ∷
    -- K: S 65,535, Poll carries 0
    happens nine 7
    (neighbour_as Up Active 65535 4 32 122 20 1 50 15 0)
    Tick
    (record {
      answer = 0;
      reply = One (Poll 9 0 1 common);
      neighbour = neighbour_as Up Active 0 4 32 122 19 122 49 15 0;
      effect = Keep;
    }) ∷
    -- M: 7 is active, by 9's Request and by 9's Confirm
    happens seven 9 resting (Received (Request 9 0 0 30 120))
    (record { answer = 0; reply = Two (Confirm 7 0 0 30 120) (Hello 7 0 2); neighbour = agreed_on_thirty Active; effect = Keep }) ∷
    happens seven 9 asked (Received (Confirm 9 0 0 30 120))
    (record { answer = 0; reply = One (Hello 7 0 2); neighbour = agreed_on_thirty Active; effect = Keep }) ∷
    -- M: 9 is passive, by 7's Request and by 7's Confirm
    happens nine 7 resting (Received (Request 7 0 0 30 120))
    (record { answer = 0; reply = One (Confirm 9 0 0 30 120); neighbour = agreed_on_thirty Passive; effect = Keep }) ∷
    happens nine 7 asked (Received (Confirm 7 0 0 30 120))
    (record { answer = 0; reply = Nothing; neighbour = agreed_on_thirty Passive; effect = Keep }) ∷
    -- U, the whole call in Up: its rows are stored, and it is an indication in active mode
    called (one_neighbour polling 0) theirs
    (2 ∷ 1 ∷ 0 ∷ 1 ∷ 179 ∷ 215 ∷ 0 ∷ 7 ∷ 0 ∷ 1 ∷ 1 ∷ 0 ∷ 128 ∷ 9 ∷ 0 ∷ 0 ∷ 0 ∷ 5 ∷ 1 ∷ 0 ∷ 2 ∷ 10 ∷ 192 ∷ 5 ∷ 6 ∷ [])
    (record {
      outcome =
          record {
            answer = 0;
            first = 0;
            second = 0;
            state =
                one_neighbour
                (neighbour_as Up Active 1 4 32 122 20 100 3600 7 1)
                2;
          };
      reply = [];
      rows = ten_net ∷ theirs ∷ 0 ∷ c_net ∷ theirs ∷ 0 ∷ [];
    }) ∷
    -- V, the whole call in Up: Error 2, 02 08 00 01 41 06 00 09 00 04 00 02 and V's first 12 octets
    called (one_neighbour polling 0) theirs
    (2 ∷ 1 ∷ 0 ∷ 1 ∷ 185 ∷ 215 ∷ 0 ∷ 7 ∷ 0 ∷ 1 ∷ 1 ∷ 0 ∷ 128 ∷ 9 ∷ 0 ∷ 0 ∷ 0 ∷ 5 ∷ 1 ∷ 0 ∷ 2 ∷ 10 ∷ 192 ∷ 5 ∷ [])
    (record {
      outcome = record { answer = 14; first = 24; second = 0; state = one_neighbour polling 0 };
      reply = 2 ∷ 8 ∷ 0 ∷ 1 ∷ 65 ∷ 6 ∷ 0 ∷ 9 ∷ 0 ∷ 4 ∷ 0 ∷ 2 ∷ 2 ∷ 1 ∷ 0 ∷ 1 ∷ 185 ∷ 215 ∷ 0 ∷ 7 ∷ 0 ∷ 1 ∷ 1 ∷ 0 ∷ [];
      rows = [];
    }) ∷
    []

-- every case of the sheet comes out as it says
abbrev pub BenchSheet : Type 0
BenchSheet = every passes sheet ≡ true
