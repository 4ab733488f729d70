-- Laws of a home list in octets: its rows are those of its numbers. Assumes nothing.
use Rattle.std.proofs.Common.{ℕ, zero, suc, ◌+◌, ◌/◌, ◌%◌, ◌<◌, ◌≡◌, refl, sym, ap, ◌∙◌, Bool, true, false, cond, eqb, List, [], ◌∷◌, length, map, take, drop, arith, eqb-true, length-drop, drop-drop, get_or-drop, get_or-take, add-zero}
use Rattle.std.specs.Simd.{first_chunks}
use mathlib.Core.Bool.{false≢true}
use Rattle.octets.specs.Numbers.{word32}
use Rattle.octets_words.specs.Words.{words_of, row_numbers}
use Rattle.octets_words.proofs.Words.{words_length, words_cons}
use Rattle.nets.specs.Rows.{Row, rows_of}
use Rattle.neighbour.specs.declared.Settings.{Settings}
use Rattle.update_writing.specs.Writable.{writable_rows, writable_numbers}
use Rattle.update_writing.proofs.Lists.{rows_short}
use Rattle.codec_writing.proofs.Laws.{writable_rows_lem}
use Rattle.gateway_rules.specs.Home.{good_home}
use Rattle.gateway_home.specs.Rows.{good_rows}
use Rattle.gateway_home.proofs.Laws.{whole_home, ragged_home}
use Rattle.host_home.specs.Home.{home_in}

-- the row that twelve octets lend
abbrev pub octet_row : List ℕ → Row
octet_row l = record { net = word32 l 0; gateway = word32 l 4; third = word32 l 8 }

word_behind : (k : ℕ) (l : List ℕ) → word32 (drop k l) 0 ≡ word32 l k
word_behind k l = rw (get_or-drop k l 0 0, get_or-drop k l 1 0, get_or-drop k l 2 0, get_or-drop k l 3 0, add-zero k)

words_row : (l : List ℕ) → 11 < length l → words_of l ≡ word32 l 0 ∷ word32 l 4 ∷ word32 l 8 ∷ words_of (drop 12 l)
words_row l h =
    let m = length-drop 4 l in
    let n = length-drop 4 (drop 4 l) in
    words_cons l (omega arith)
    ∙ ap (λ (r : List ℕ). word32 l 0 ∷ r) (words_cons (drop 4 l) (omega arith))
    ∙ ap (λ (r : List ℕ). word32 l 0 ∷ word32 (drop 4 l) 0 ∷ r) (words_cons (drop 4 (drop 4 l)) (omega arith))
    ∙ rw (drop-drop 4 4 l, drop-drop 4 8 l, word_behind 4 l, word_behind 8 l)

front_word : (k : ℕ) (l : List ℕ) → k + 3 < 12 → word32 (take 12 l) k ≡ word32 l k
front_word k l h = rw (get_or-take 12 l k 0 (omega arith), get_or-take 12 l (k + 1) 0 (omega arith), get_or-take 12 l (k + 2) 0 (omega arith), get_or-take 12 l (k + 3) 0 h)

front_row : (l : List ℕ) → octet_row (take 12 l) ≡ octet_row l
front_row l = rw (front_word 0 l (omega arith), front_word 4 l (omega arith), front_word 8 l (omega arith))

rows_front : (l : List ℕ) → 11 < length l → rows_of (words_of l) ≡ octet_row l ∷ rows_of (words_of (drop 12 l))
unfolding rows_of
rows_front l h = rw (words_row l h)

pub octets_chunks : (n : ℕ) (l : List ℕ) → n ≡ length l / 12 → map octet_row (first_chunks 12 n l) ≡ rows_of (words_of l)
octets_chunks zero l e = sym (rows_short (words_of l) (omega (arith, words_length l)))
octets_chunks (suc n) l e =
    let d = length-drop 12 l in
    rw (front_row l, octets_chunks n (drop 12 l) (omega arith)) (sym (rows_front l (omega arith)))

-- ---- a list of whole rows

whole : (l : List ℕ) → length l % 12 ≡ 0 → home_in l ≡ words_of l
unfolding row_numbers
whole l e = rw e

pub home_good : (g : Settings) (n : ℕ) (l : List ℕ) → n ≡ length l / 12 → length l % 12 ≡ 0 → good_rows g (map octet_row (first_chunks 12 n l)) ≡ good_home g (home_in l)
home_good g n l e w = rw (octets_chunks n l e, whole l w) (sym (whole_home g (words_of l) (omega (arith, words_length l))))

pub home_ragged : (g : Settings) (l : List ℕ) → eqb (length l % 12) 0 ≡ false → good_home g (home_in l) ≡ false
unfolding row_numbers
home_ragged g l e = rw e (ragged_home g (0 ∷ []) refl)

-- a list that an Update can carry is such
pub home_whole : (net : ℕ) (l : List ℕ) → writable_numbers net (home_in l) ≡ true → length l % 12 ≡ 0
unfolding row_numbers writable_numbers
home_whole net l w = go (eqb (length l % 12) 0) refl w
  where
    go : (b : Bool) → eqb (length l % 12) 0 ≡ b → writable_numbers net (cond b (words_of l) (0 ∷ [])) ≡ true → length l % 12 ≡ 0
    go true e w = eqb-true (length l % 12) 0 e
    go false e w = absurd (false≢true w)

pub home_rows : (net n : ℕ) (l : List ℕ) → n ≡ length l / 12 → writable_numbers net (home_in l) ≡ true → map octet_row (first_chunks 12 n l) ≡ rows_of (home_in l)
home_rows net n l e w = rw (whole l (home_whole net l w)) (octets_chunks n l e)

pub rows_writable : (net n : ℕ) (l : List ℕ) → n ≡ length l / 12 → writable_numbers net (home_in l) ≡ true → writable_rows net (map octet_row (first_chunks 12 n l)) ≡ true
rows_writable net n l e w = rw (home_rows net n l e w) (writable_rows_lem net (home_in l) w)
