-- The rules of "One neighbour" that need no event: numbers in sequence, what Request and Confirm agree on, reachability.
use Rattle.std.specs.Prelude.{ℕ, ◌+◌, ◌/◌, ◌%◌, Bool, false, Option, Some, None, cond, not, ◌&&◌, ◌||◌, List, [], ◌∷◌, ltb, leb, eqb}
use Rattle.message.specs.Kinds.{type_of, code_of, kind_of, sequence_of, status_of}
use Rattle.message.specs.declared.Kind.{Kind}
use Rattle.message.specs.declared.Kind.TheVariants as K
use Rattle.message.specs.declared.Message.{Message}
use Rattle.neighbour.specs.declared.Settings.{Settings}
use Rattle.neighbour.specs.declared.Mode.{Mode}
use Rattle.neighbour.specs.declared.Mode.TheVariants.{Unset, Active, Passive}
use Rattle.neighbour.specs.declared.Terms.{Terms}
use Rattle.neighbour.specs.declared.Neighbour.{Neighbour}
use Rattle.neighbour.specs.Record.{P1, P2, under, is_idle, acquired, with_numbers, with_counts, heard_from, enter_up, leave_up}

-- a kind is told by its type and code
abbrev pub same : Kind → Kind → Bool
same a b = eqb (type_of a) (type_of b) && eqb (code_of a) (code_of b)

abbrev pub one_of : Kind → List Kind → Bool
one_of kind [] = false
one_of kind (k ∷ rest) = same kind k || one_of kind rest

-- RFC 904's commands
abbrev pub is_command : Kind → Bool
is_command kind = one_of kind (K.Request ∷ K.Cease ∷ K.Hello ∷ K.Poll ∷ [])

-- 01: "Confirm, Refuse, Cease-ack, I-H-U and Update must carry S"
abbrev pub must_carry_s : Kind → Bool
must_carry_s kind = one_of kind (K.Confirm ∷ K.Refuse ∷ K.CeaseAck ∷ K.IHeardYou ∷ K.Update ∷ [])

-- 01: "must carry S, except in Idle", where any number is answered 0
unfoldable pub in_sequence : Neighbour → Message → Bool
in_sequence n m = is_idle n.phase || not (must_carry_s (kind_of m)) || eqb (sequence_of m) n.s

-- 01: "Outside Idle every command that passes its checks sets R first."
unfoldable pub commanded : Neighbour → Message → Neighbour
commanded n m = cond (not (is_idle n.phase) && is_command (kind_of m)) (with_numbers n n.s (sequence_of m)) n

-- 01: "active mode, a Confirm, I-H-U or Update carried out; passive mode, a Hello or Poll carried out with status 1";
-- 02, L3: "in passive mode, an Update .. whose status without the unsolicited bit is 1 is an indication too"
unfoldable pub indicates : Mode → Kind → ℕ → Bool
indicates Unset kind status = false
indicates Active kind status = one_of kind (K.Confirm ∷ K.IHeardYou ∷ K.Update ∷ [])
indicates Passive kind status = (one_of kind (K.Hello ∷ K.Poll ∷ []) && eqb status 1) || (same kind K.Update && eqb (status % 128) 1)

-- 01: "An indication is noted when the state before was Down or Up". No kind that indicates leaves that state.
unfoldable pub noted : Neighbour → Message → Neighbour
noted n m = cond (acquired n.phase && indicates n.mode (kind_of m) (status_of m)) (heard_from n) n

-- 02, L5: "a Hello less than 30 ticks, or a Poll less than 120 ticks, after the last one carried out"; "in Down and Up only"
unfoldable pub too_quick : Neighbour → Message → Bool
too_quick n m =
    acquired n.phase
    && ((same (kind_of m) K.Hello && ltb n.sincehello P1) || (same (kind_of m) K.Poll && ltb n.sincepoll P2))

-- 02, L5: "a carried-out Hello or Poll in Down or Up zeroes its own"
unfoldable pub recounted : Neighbour → Message → Neighbour
recounted n m =
    cond (acquired n.phase)
    (with_counts n (cond (same (kind_of m) K.Hello) 0 n.sincehello) (cond (same (kind_of m) K.Poll) 0 n.sincepoll)) n

abbrev pub larger : ℕ → ℕ → ℕ
larger a b = cond (leb a b) b a

-- 01: "T1 = larger of 30 and their hello interval, plus 2"
unfoldable pub period1_of : ℕ → ℕ
period1_of hello = larger P1 hello + 2

-- 01: "T2 = larger of 120 and their poll interval, plus 2"
unfoldable pub period2_of : ℕ → ℕ
period2_of poll = larger P2 poll + 2

-- 01: "Unacceptable: hello above 120, poll above 480, or both ends passive only."
unfoldable pub unacceptable : ℕ → ℕ → ℕ → ℕ → Bool
unacceptable capability status hello poll = ltb 120 hello || ltb 480 poll || (eqb capability 2 && eqb status 2)

-- 01: "Mode: if our capability is 1 or 2, that; else peer 1 gives passive, peer 2 active, peer 0 active for the smaller AS."
unfoldable pub mode_of : ℕ → ℕ → ℕ → ℕ → Mode
mode_of capability status own peer =
    cond (eqb capability 1) Active
    (cond (eqb capability 2) Passive
    (cond (eqb status 1) Passive
    (cond (eqb status 2) Active
    (cond (ltb own peer) Active Passive))))

-- what a Request or a Confirm offers a gateway with these settings: T1, T2 and M, or nothing that it takes
unfoldable pub offer_of : Settings → ℕ → ℕ → ℕ → ℕ → Option Terms
offer_of g asn status hello poll =
    cond (unacceptable g.capability status hello poll) None
    (Some (record { period1 = period1_of hello; period2 = period2_of poll; mode = mode_of g.capability status g.asn asn }))

-- 01: "With n ones": the ones among the register's four bits
unfoldable pub ones_of : ℕ → ℕ
ones_of register = register % 2 + register / 2 % 2 + register / 4 % 2 + register / 8 % 2

-- 01: "active: Down goes Up at 3 or more ..; passive: Up at 1 or more"
unfoldable pub goes_up : Mode → ℕ → Bool
goes_up Unset ones = false
goes_up Active ones = leb 3 ones
goes_up Passive ones = leb 1 ones

-- 01: "active: .. Up goes Down at 1 or fewer; passive: .. Down at 0"
unfoldable pub goes_down : Mode → ℕ → Bool
goes_down Unset ones = false
goes_down Active ones = leb ones 1
goes_down Passive ones = eqb ones 0

-- the record once its register is judged
unfoldable pub judged : Neighbour → Neighbour
judged n =
    under n.phase n n
    (cond (goes_up n.mode (ones_of n.register)) (enter_up n) n)
    (cond (goes_down n.mode (ones_of n.register)) (leave_up n) n)
    n
