-- Numbers and addresses read from text. 02: "numbers and addresses are as in the listing, no leading zeros".
use Rattle.std.specs.Prelude.{ℕ, zero, suc, ◌+◌, ◌-◌, ◌*◌, Bool, cond, ◌&&◌, List, [], ◌∷◌, leb, ltb, eqb, length, take, drop, get_or, Option, Some, None}
use Rattle.text_values.specs.Places.{index_of}

-- what is made of a number, if there is one
unfoldable pub when_number : {A : Type 0} → Option ℕ → A → (ℕ → A) → A
when_number None none some = none
when_number (Some n) none some = some n

-- 0 to 9
unfoldable pub is_digit : ℕ → Bool
is_digit octet = leb 48 octet && leb octet 57

-- digits to the end, behind those that gave n; none of the numbers on the way is above the limit
unfoldable pub digits_of : ℕ → ℕ → List ℕ → Option ℕ
digits_of limit n [] = Some n
digits_of limit n (octet ∷ rest) =
    cond (is_digit octet && leb (n * 10 + (octet - 48)) limit) (digits_of limit (n * 10 + (octet - 48)) rest) None

-- a zero at the front stands alone
unfoldable pub leads_with_zero : List ℕ → Bool
leads_with_zero text = eqb (get_or text 0 0) 48 && ltb 1 (length text)

-- a number up to this limit: at least one digit, and no leading zero
unfoldable pub decimal_of : ℕ → List ℕ → Option ℕ
decimal_of limit text = cond (eqb (length text) 0) None (cond (leads_with_zero text) None (digits_of limit 0 text))

-- numbers up to 255 with dots between them, so many dots to come, behind those that gave n
unfoldable pub dotted_from : ℕ → ℕ → List ℕ → Option ℕ
dotted_from zero n text = when_number (decimal_of 255 text) None (λ octet. Some (n * 256 + octet))
dotted_from (suc dots) n text =
    cond (ltb (index_of 46 text) (length text))
    (when_number (decimal_of 255 (take (index_of 46 text) text)) None (λ octet. dotted_from dots (n * 256 + octet) (drop (suc (index_of 46 text)) text)))
    None

-- an address: four numbers with three dots
unfoldable pub dotted_of : List ℕ → Option ℕ
dotted_of text = dotted_from 3 0 text
