-- 01's table of kinds: type and code, status, length. A definition for each column, a line for each kind.
use Rattle.std.specs.Prelude.{ℕ, Bool, Option, Some, None, cond, ◌&&◌, ◌||◌, List, [], ◌∷◌, leb, eqb}
use Rattle.message.specs.declared.Kind.{Kind}
use Rattle.message.specs.declared.Kind.TheVariants.{Request, Confirm, Refuse, Cease, CeaseAck, Hello, IHeardYou, Poll, Update, Error}
use Rattle.message.specs.declared.Message.{Message}
use Rattle.message.specs.declared.Message.TheVariants as M

-- 01's column "Type, code": the type of each kind
abbrev pub type_of : Kind → ℕ
type_of Request = 3
type_of Confirm = 3
type_of Refuse = 3
type_of Cease = 3
type_of CeaseAck = 3
type_of Hello = 5
type_of IHeardYou = 5
type_of Poll = 2
type_of Update = 1
type_of Error = 8

-- 01's column "Type, code": the code of each kind
abbrev pub code_of : Kind → ℕ
code_of Request = 0
code_of Confirm = 1
code_of Refuse = 2
code_of Cease = 3
code_of CeaseAck = 4
code_of Hello = 0
code_of IHeardYou = 1
code_of Poll = 0
code_of Update = 0
code_of Error = 0

-- the kind among those listed that has this type and this code
abbrev pub among : List Kind → ℕ → ℕ → Option Kind
among [] number code = None
among (k ∷ rest) number code = cond (eqb number (type_of k) && eqb code (code_of k)) (Some k) (among rest number code)

-- 01: "one of ten kinds"
abbrev pub all_kinds : List Kind
all_kinds = Request ∷ Confirm ∷ Refuse ∷ Cease ∷ CeaseAck ∷ Hello ∷ IHeardYou ∷ Poll ∷ Update ∷ Error ∷ []

-- the kind that a type and a code name; any other pair names none
unfoldable pub kind_at : ℕ → ℕ → Option Kind
kind_at number code = among all_kinds number code

-- 01: "0 to 2"
unfoldable pub plain_status : ℕ → Bool
plain_status status = leb status 2

-- 01: "0, 3 to 7"
unfoldable pub refusal_status : ℕ → Bool
refusal_status status = eqb status 0 || (leb 3 status && leb status 7)

-- 01: "0 to 2, also plus 128"
unfoldable pub marked_status : ℕ → Bool
marked_status status = leb status 2 || (leb 128 status && leb status 130)

-- 01's column "Status"
abbrev pub status_allowed : Kind → ℕ → Bool
status_allowed Request status = plain_status status
status_allowed Confirm status = plain_status status
status_allowed Refuse status = refusal_status status
status_allowed Cease status = refusal_status status
status_allowed CeaseAck status = refusal_status status
status_allowed Hello status = plain_status status
status_allowed IHeardYou status = plain_status status
status_allowed Poll status = plain_status status
status_allowed Update status = marked_status status
status_allowed Error status = marked_status status

-- 01's column "Length"
abbrev pub length_allowed : Kind → ℕ → Bool
length_allowed Request length = eqb length 14
length_allowed Confirm length = eqb length 14
length_allowed Refuse length = eqb length 10
length_allowed Cease length = eqb length 10
length_allowed CeaseAck length = eqb length 10
length_allowed Hello length = eqb length 10
length_allowed IHeardYou length = eqb length 10
length_allowed Poll length = eqb length 16
length_allowed Update length = leb 16 length
length_allowed Error length = eqb length 24

-- the kind of a message
abbrev pub kind_of : Message → Kind
kind_of (M.Request a q s h p) = Request
kind_of (M.Confirm a q s h p) = Confirm
kind_of (M.Refuse a q s) = Refuse
kind_of (M.Cease a q s) = Cease
kind_of (M.CeaseAck a q s) = CeaseAck
kind_of (M.Hello a q s) = Hello
kind_of (M.IHeardYou a q s) = IHeardYou
kind_of (M.Poll a q s n) = Poll
kind_of (M.Update a q s n) = Update
kind_of (M.Error a q s r x y z) = Error

-- the sequence number of a message
abbrev pub sequence_of : Message → ℕ
sequence_of (M.Request a q s h p) = q
sequence_of (M.Confirm a q s h p) = q
sequence_of (M.Refuse a q s) = q
sequence_of (M.Cease a q s) = q
sequence_of (M.CeaseAck a q s) = q
sequence_of (M.Hello a q s) = q
sequence_of (M.IHeardYou a q s) = q
sequence_of (M.Poll a q s n) = q
sequence_of (M.Update a q s n) = q
sequence_of (M.Error a q s r x y z) = q

-- the status of a message
abbrev pub status_of : Message → ℕ
status_of (M.Request a q s h p) = s
status_of (M.Confirm a q s h p) = s
status_of (M.Refuse a q s) = s
status_of (M.Cease a q s) = s
status_of (M.CeaseAck a q s) = s
status_of (M.Hello a q s) = s
status_of (M.IHeardYou a q s) = s
status_of (M.Poll a q s n) = s
status_of (M.Update a q s n) = s
status_of (M.Error a q s r x y z) = s
