-- The lines of a recording make it up, and none has an octet 10 within. Assumes nothing.
use Prim.Native.Nat.{ℕ}
use mathlib.Core.Path.{◌≡◌, refl, sym, ap, ◌∙◌}
use mathlib.Core.Bool.{Bool, true, not}
use mathlib.Core.List.{List, [], ◌∷◌, ◌++◌, map}
use lib.Dec.{eqb}
use lib.ListN.{length}
use lib.Seq.{append_snoc}
use borrow.Author.Tests.{eqb-true}
use Rattle.checks.specs.Lists.{every, join}
use Rattle.checks.proofs.Laws.{and_both, cond_elim}
use Rattle.recording_theorem.specs.Output.{RecordedLine, ended, unended, lines_from, lines_of}
use Rattle.recording_theorem.specs.Theorem.{line_octets, line_text, Lines}
use Rattle.recording_theorem.proofs.Laws.{no_length, every_append}

whole_from : (begun rest : List ℕ) → join (map line_octets (lines_from begun rest)) ≡ begun ++ rest
unfolding lines_from join line_octets
whole_from begun [] =
    cond_elim (λ (l : List RecordedLine). join (map line_octets l) ≡ begun ++ []) (eqb (length begun) 0) [] (unended begun ∷ [])
    (λ e. rw (no_length begun (eqb-true (length begun) 0 e))) (λ e. refl)
whole_from begun (octet ∷ rest) =
    cond_elim (λ (l : List RecordedLine). join (map line_octets l) ≡ begun ++ (octet ∷ rest)) (eqb octet 10)
    (ended begun ∷ lines_from [] rest) (lines_from (begun ++ (octet ∷ [])) rest)
    (λ e. ap (λ (r : List ℕ). begun ++ (10 ∷ []) ++ r) (whole_from [] rest) ∙ append_snoc begun 10 rest
    ∙ ap (λ (o : ℕ). begun ++ (o ∷ rest)) (sym (eqb-true octet 10 e)))
    (λ e. whole_from (begun ++ (octet ∷ [])) rest ∙ append_snoc begun octet rest)

abbrev is_other : ℕ → Bool
is_other octet = not (eqb octet 10)

abbrev is_apart : RecordedLine → Bool
is_apart line = every is_other (line_text line)

apart_from : (begun rest : List ℕ) → every is_other begun ≡ true → every is_apart (lines_from begun rest) ≡ true
unfolding lines_from line_text every
apart_from begun [] h =
    cond_elim (λ (l : List RecordedLine). every is_apart l ≡ true) (eqb (length begun) 0) [] (unended begun ∷ []) (λ e. refl) (λ e. and_both (every is_other begun) true h refl)
apart_from begun (octet ∷ rest) h =
    cond_elim (λ (l : List RecordedLine). every is_apart l ≡ true) (eqb octet 10) (ended begun ∷ lines_from [] rest) (lines_from (begun ++ (octet ∷ [])) rest)
    (λ e. and_both (every is_other begun) (every is_apart (lines_from [] rest)) h (apart_from [] rest refl))
    (λ e. apart_from (begun ++ (octet ∷ [])) rest (every_append is_other begun (octet ∷ []) h (rw e)))

pub lines : Lines
unfolding lines_of every
lines = record { whole = whole_from []; apart = λ recording. apart_from [] recording refl }
