-- The head of a record and the head of an answer.
use Rattle.std.specs.Prelude.{ℕ, List, [], ◌∷◌, get_or}
use Rattle.octets.specs.Numbers.{word16, word32, octets16, octets32}
use Rattle.neighbour.specs.declared.Settings.{Settings}
use Rattle.driver_records.specs.declared.RecordHead.{RecordHead}

-- kind (1), capability or fill (1), AS (2), address (4), net (4), buffer (4), times (4), octets (4), numbers (4), unused
-- (3), `quiet` (1)
unfoldable pub record_head : List ℕ → RecordHead
record_head l =
    record {
      kind = get_or l 0 0;
      octet = get_or l 1 0;
      asn = word16 l 2;
      address = word32 l 4;
      net = word32 l 8;
      room = word32 l 12;
      times = word32 l 16;
      octets = word32 l 20;
      numbers = word32 l 24;
      quiet = get_or l 31 0;
    }

-- fresh is told own AS, own address, capability, common net and `quiet`
abbrev pub settings_in : RecordHead → Settings
settings_in head = record { asn = head.asn; own = head.address; capability = head.octet; net = head.net; quiet = head.quiet }

-- zero (1), answer (1), first length (2), second length (2), zero (2), buffer (4), numbers in the table (4)
unfoldable pub answer_octets : ℕ → ℕ → ℕ → ℕ → ℕ → List ℕ
answer_octets answer first second room count =
    0 ∷ answer ∷ octets16 first (octets16 second (0 ∷ 0 ∷ octets32 room (octets32 count [])))
