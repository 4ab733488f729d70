-- What the trace says of a message: fields, and what reading alone makes of its octets. docs/RECORDING.md has the
-- format.
use Rattle.std.specs.Prelude.{ℕ, suc, ◌*◌, cond, List, [], ◌∷◌, ◌++◌, map, ltb, length, get_or, take, drop, Result, Ok, Err}
use Rattle.checks.specs.Lists.{join}
use Rattle.checks.specs.Refusals.{answer_of}
use Rattle.checks.specs.declared.Refusal.{Refusal}
use Rattle.octets.specs.Numbers.{word16}
use Rattle.octets_checksum.specs.Checksum.{checksum_of}
use Rattle.nets.specs.Rows.{Row, rows_of}
use Rattle.text.specs.Text.{text, decimal, dotted}
use Rattle.text_values.specs.Places.{index_of}
use Rattle.text_values.specs.Hex.{hex_text}
use Rattle.message.specs.declared.Kind.{Kind}
use Rattle.message.specs.declared.Kind.TheVariants as K
use Rattle.message.specs.declared.Message.{Message}
use Rattle.message.specs.declared.Message.TheVariants.{Request, Confirm, Refuse, Cease, CeaseAck, Hello, IHeardYou, Poll, Update, Error}
use Rattle.message.specs.Kinds.{kind_of}
use Rattle.listing_lines.specs.Lines.{distance_in, side_word}
use Rattle.codec.specs.declared.Reading.{Reading}
use Rattle.codec.specs.Reading.{read_of}

-- ---- fields

-- the keys of a line stand one after the other: the first ends in its `=`
unfoldable pub key_size : List ℕ → ℕ
key_size keys = cond (ltb (index_of 61 keys) (length keys)) (suc (index_of 61 keys)) (length keys)

-- numbers, each behind its key
unfoldable pub fields : List ℕ → List ℕ → List ℕ
fields keys [] = []
fields keys (value ∷ rest) = take (key_size keys) keys ++ (decimal value ++ fields (drop (key_size keys) keys) rest)

unfoldable pub address_field : List ℕ → ℕ → List ℕ
address_field key a = key ++ dotted a

-- ---- a message

unfoldable pub kind_word : Kind → List ℕ
kind_word K.Request = text "request"
kind_word K.Confirm = text "confirm"
kind_word K.Refuse = text "refuse"
kind_word K.Cease = text "cease"
kind_word K.CeaseAck = text "cease-ack"
kind_word K.Hello = text "hello"
kind_word K.IHeardYou = text "i-h-u"
kind_word K.Poll = text "poll"
kind_word K.Update = text "update"
kind_word K.Error = text "error"

-- what reading alone makes of it
unfoldable pub meaning_word : Result Message Refusal → List ℕ
meaning_word (Ok m) = kind_word (kind_of m)
meaning_word (Err refused) = text "refused"

abbrev pub head_keys : List ℕ
head_keys = text " reading= octets= status= checksum= right= as= sequence= rows="

-- what stands in its octets, whatever reading makes of them; 01: "Header: version 2, type, code, status, checksum (2), AS
-- (2), sequence (2)"
unfoldable pub head_numbers : ℕ → ℕ → List ℕ → List ℕ
head_numbers number count o =
    number ∷ length o ∷ get_or o 3 0 ∷ word16 o 4 ∷ checksum_of o ∷ word16 o 6 ∷ word16 o 8 ∷ count ∷ []

unfoldable pub interval_fields : ℕ → ℕ → List ℕ
interval_fields hello poll = fields (text " hello= poll=") (hello ∷ poll ∷ [])

unfoldable pub error_fields : ℕ → ℕ → ℕ → ℕ → List ℕ
error_fields reason first second third = fields (text " reason= word1= word2= word3=") (reason ∷ first ∷ second ∷ third ∷ [])

-- 01: "ten kinds, each carrying its own fields"
unfoldable pub own_fields : Message → List ℕ
own_fields (Request a q s hello poll) = interval_fields hello poll
own_fields (Confirm a q s hello poll) = interval_fields hello poll
own_fields (Refuse a q s) = []
own_fields (Cease a q s) = []
own_fields (CeaseAck a q s) = []
own_fields (Hello a q s) = []
own_fields (IHeardYou a q s) = []
own_fields (Poll a q s net) = address_field (text " net=") net
own_fields (Update a q s net) = address_field (text " net=") net
own_fields (Error a q s reason first second third) = error_fields reason first second third

unfoldable pub body_fields : Result Message Refusal → List ℕ
body_fields (Ok m) = own_fields m
body_fields (Err refused) = []

-- the listing's word
unfoldable pub side_field : ℕ → List ℕ
side_field third = text " side=" ++ side_word third

unfoldable pub row_fields : Row → List ℕ
row_fields row =
    address_field (text " row=") row.net
    ++ (address_field (text " gw=") row.gateway ++ (fields (text " dist=") (distance_in row.third ∷ []) ++ side_field row.third))

unfoldable pub rows_fields : List Row → List ℕ
rows_fields rows = join (map row_fields rows)

unfoldable pub reading_text : List ℕ → Reading → List ℕ → List ℕ
reading_text key r o =
    key
    ++ (meaning_word r.meaning
    ++ (fields head_keys (head_numbers (answer_of r.meaning) r.count o)
    ++ (body_fields r.meaning ++ (rows_fields (rows_of (take (r.count * 3) r.rows)) ++ (text " hex=" ++ hex_text o)))))

-- its reading, given the common net, and its octets beside it
unfoldable pub message_text : List ℕ → ℕ → List ℕ → List ℕ
message_text key net o = reading_text key (read_of net o) o
