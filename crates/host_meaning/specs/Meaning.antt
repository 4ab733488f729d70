-- The meaning of a message in 24 octets.
use Rattle.std.specs.Prelude.{ℕ, List, [], ◌∷◌, cond, get_or, eqb, ltb}
use Rattle.octets.specs.Numbers.{word16, word32, octets16, octets32}
use Rattle.message.specs.declared.Message.{Message}
use Rattle.message.specs.declared.Message.TheVariants.{Request, Confirm, Refuse, Cease, CeaseAck, Hello, IHeardYou, Poll, Update, Error}

-- kind (1), status (1), AS (2), sequence (2), hello interval or an Error's reason (2), poll interval (2), zero (2),
-- net or the first of an Error's words (4), its second (4), its third (4); the kinds from 0 in the order of 01's table:
-- 0 and 1 have intervals, 2 to 6 nothing more, 7 and 8 a net
unfoldable pub intervals_at : List ℕ → ℕ → Message
intervals_at l kind =
    cond (eqb kind 0) (Request (word16 l 2) (word16 l 4) (get_or l 1 0) (word16 l 6) (word16 l 8))
    (Confirm (word16 l 2) (word16 l 4) (get_or l 1 0) (word16 l 6) (word16 l 8))

unfoldable pub plain_at : List ℕ → ℕ → Message
plain_at l kind =
    cond (eqb kind 2) (Refuse (word16 l 2) (word16 l 4) (get_or l 1 0))
    (cond (eqb kind 3) (Cease (word16 l 2) (word16 l 4) (get_or l 1 0))
    (cond (eqb kind 4) (CeaseAck (word16 l 2) (word16 l 4) (get_or l 1 0))
    (cond (eqb kind 5) (Hello (word16 l 2) (word16 l 4) (get_or l 1 0)) (IHeardYou (word16 l 2) (word16 l 4) (get_or l 1 0)))))

unfoldable pub net_message_at : List ℕ → ℕ → Message
net_message_at l kind =
    cond (eqb kind 7) (Poll (word16 l 2) (word16 l 4) (get_or l 1 0) (word32 l 12))
    (Update (word16 l 2) (word16 l 4) (get_or l 1 0) (word32 l 12))

unfoldable pub error_at : List ℕ → Message
error_at l = Error (word16 l 2) (word16 l 4) (get_or l 1 0) (word16 l 6) (word32 l 12) (word32 l 16) (word32 l 20)

unfoldable pub meaning_at : List ℕ → Message
meaning_at l =
    cond (ltb (get_or l 0 0) 2) (intervals_at l (get_or l 0 0))
    (cond (ltb (get_or l 0 0) 7) (plain_at l (get_or l 0 0)) (cond (ltb (get_or l 0 0) 9) (net_message_at l (get_or l 0 0)) (error_at l)))

-- the same fields in the same places; a field that the kind has not is 0
unfoldable pub field_octets : ℕ → ℕ → ℕ → ℕ → ℕ → ℕ → ℕ → ℕ → ℕ → List ℕ
field_octets kind status asn sequence short poll first second third =
    kind ∷ status ∷ octets16 asn (octets16 sequence (octets16 short (octets16 poll
    (0 ∷ 0 ∷ octets32 first (octets32 second (octets32 third []))))))

unfoldable pub meaning_octets : Message → List ℕ
meaning_octets (Request asn sequence status hello poll) = field_octets 0 status asn sequence hello poll 0 0 0
meaning_octets (Confirm asn sequence status hello poll) = field_octets 1 status asn sequence hello poll 0 0 0
meaning_octets (Refuse asn sequence status) = field_octets 2 status asn sequence 0 0 0 0 0
meaning_octets (Cease asn sequence status) = field_octets 3 status asn sequence 0 0 0 0 0
meaning_octets (CeaseAck asn sequence status) = field_octets 4 status asn sequence 0 0 0 0 0
meaning_octets (Hello asn sequence status) = field_octets 5 status asn sequence 0 0 0 0 0
meaning_octets (IHeardYou asn sequence status) = field_octets 6 status asn sequence 0 0 0 0 0
meaning_octets (Poll asn sequence status net) = field_octets 7 status asn sequence 0 0 net 0 0
meaning_octets (Update asn sequence status net) = field_octets 8 status asn sequence 0 0 net 0 0
meaning_octets (Error asn sequence status reason first second third) = field_octets 9 status asn sequence reason 0 first second third
