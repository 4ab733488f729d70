-- Laws of the lines that show a reply. Assumes nothing.
use Prim.Native.Nat.{ℕ, ◌+◌, ◌-◌, ◌*◌, ◌≤◌}
use native.Mathlib.Nat.{add-sub_cancel_left}
use native.Mathlib.Omega.{arith}
use mathlib.Core.Path.{◌≡◌, refl, ap}
use mathlib.Core.List.{List, [], ◌∷◌, ◌++◌, append_assoc}
use lib.ListN.{length, take, drop, length-append, length-drop}
use lib.Seq.{length-take-le}
use Rattle.text.specs.Text.{text, dotted, line}
use Rattle.text.specs.declared.Writer.{Writer}
use Rattle.text.specs.Writer.{Puts, HasRoom}
use Rattle.text.proofs.Writing.{puts_nothing, puts_both}
use Rattle.text.proofs.Laws.{dotted_length}
use Rattle.text_values.specs.Hex.{hex_text}
use Rattle.text_values.proofs.Readings.{hexes}
use Rattle.gateway_state.specs.declared.Outcome.{Outcome}
use Rattle.recording_replies.specs.Replies.{tx_text, replies_text}
use Rattle.recording_replies.specs.Seen.{seen_in}

-- ---- one line

-- name, address, slash, octets, end
pub tx_parts : (a : ℕ) (message : List ℕ) → (length message ≡ 0 → ⊥)
    → tx_text a message ≡ (116 ∷ 120 ∷ 61 ∷ []) ++ (dotted a ++ ((47 ∷ []) ++ (hex_text message ++ (10 ∷ []))))
unfolding tx_text line text
tx_parts a [] n = absurd (n refl)
tx_parts a (octet ∷ rest) n = ap (λ (l : List ℕ). 116 ∷ 120 ∷ 61 ∷ l) (append_assoc (dotted a) (47 ∷ hex_text (octet ∷ rest)) (10 ∷ []))

pub tx_long : (a : ℕ) (message : List ℕ) → (length message ≡ 0 → ⊥) → length (tx_text a message) ≡ 5 + length (dotted a) + length (hex_text message)
tx_long a message n = rw (tx_parts a message n) (simp length-append (omega arith))

-- no message, no line
pub nothing_done : (a : ℕ) (message : List ℕ) → length message ≡ 0 → (w : Writer) → Puts (tx_text a message) w w
unfolding tx_text
nothing_done a [] e w = puts_nothing w
nothing_done a (octet ∷ rest) e w = absurd (omega arith)

-- 15 octets of address at most
tx_length : (a : ℕ) (message : List ℕ) → length (tx_text a message) ≤ 20 + 2 * length message
unfolding tx_text line text
tx_length a [] = omega arith
tx_length a (octet ∷ rest) = simp length-append (omega (arith, dotted_length a, hexes.twice (octet ∷ rest)))

-- ---- both lines

module _ (a : ℕ) (o : Outcome) (reply : List ℕ) (out : List ℕ)
    (h : (o.first + o.second ≤ 2048) × (length reply ≡ 2048) × (5000 ≤ length out)) where
  -- the two messages
  pub first_length : length (take o.first reply) ≡ o.first
  first_length = length-take-le o.first reply (omega (arith, h.0, h.1))

  second_length : length (take o.second (drop o.first reply)) ≡ o.second
  second_length = length-take-le o.second (drop o.first reply) (simp length-drop (omega (arith, h.0, h.1)))

  pub both_room : (w : Writer) → w.end ≡ 0 → w.out.now ≡ out → HasRoom w (replies_text a (seen_in o reply))
  unfolding replies_text seen_in
  both_room w z e =
      let l : length w.out.now ≡ length out = ap length e in
      simp length-append
      (omega (arith, z, h.0, h.2, first_length, second_length, tx_length a (take o.first reply), tx_length a (take o.second (drop o.first reply))))

  -- the code takes the octets from the first message's end to the second's
  pub both_done : {w mid new : Writer} → Puts (tx_text a (take o.first reply)) w mid
      → Puts (tx_text a (take (o.first + o.second - o.first) (drop o.first reply))) mid new → Puts (replies_text a (seen_in o reply)) w new
  unfolding replies_text seen_in
  both_done p q = puts_both p (rw (add-sub_cancel_left o.first o.second) at q)

  pub first_room : (w : Writer) → w.end ≡ 0 → w.out.now ≡ out → HasRoom w (tx_text a (take o.first reply))
  first_room w z e =
      let l : length w.out.now ≡ length out = ap length e in
      omega (arith, z, h.0, h.2, first_length, tx_length a (take o.first reply))

  pub second_room : {w mid : Writer} → w.end ≡ 0 → w.out.now ≡ out → Puts (tx_text a (take o.first reply)) w mid
      → HasRoom mid (tx_text a (take (o.first + o.second - o.first) (drop o.first reply)))
  second_room {w} z e p =
      let l : length w.out.now ≡ length out = ap length e in
      rw (add-sub_cancel_left o.first o.second)
      (omega (arith, z, h.0, h.2, p.after, p.long, first_length, second_length, tx_length a (take o.first reply), tx_length a (take o.second (drop o.first reply))))
