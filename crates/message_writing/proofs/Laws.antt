-- Laws of a message that is stored header first, then its fields, then its checksum. Assumes nothing.
use Prim.Native.Nat.{ℕ, zero, suc, ◌+◌, ◌-◌, ◌*◌, ◌/◌, ◌%◌, ◌≤◌, ◌<◌}
use native.Mathlib.Omega.{arith}
use mathlib.Core.Path.{◌≡◌, refl, sym, ap, ◌∙◌}
use mathlib.Core.List.{List, [], ◌∷◌, ◌++◌}
use lib.ListN.{length, take, drop}
use lib.Seq.{sets}
use Rattle.octets.specs.Numbers.{Octets, octets16, octets32}
use Rattle.octets.specs.Buffer.{over}
use Rattle.octets_checksum.specs.Checksum.{sealed, checksum_of, word_total, folded}
use Rattle.octets.proofs.Buffer.{over_length}
use Rattle.octets.proofs.Numbers.{over_more}
use Rattle.octets_checksum.proofs.Laws.{over_sealed, fold_sum, folds}
use Rattle.octets_checksum.proofs.Wide.{fold_halves}
use Rattle.message.specs.declared.Kind.{Kind}
use Rattle.message.specs.declared.Kind.TheVariants.{Update}
use Rattle.message_writing.specs.Writing.{headed, head_of}

-- a sum of four words at most: the carries brought round twice
round_fits : (n : ℕ) → n < 65539 → n / 65536 + n % 65536 < 65536
round_fits n h = omega arith

pub fold_few : (sum : ℕ) → sum < 262144 → (sum / 65536 + sum % 65536) / 65536 + (sum / 65536 + sum % 65536) % 65536 ≡ folded sum
fold_few sum h =
    fold_sum ((sum / 65536 + sum % 65536) / 65536 + (sum / 65536 + sum % 65536) % 65536) (round_fits (sum / 65536 + sum % 65536) (omega arith))
    ∙ fold_halves (sum / 65536 + sum % 65536) ∙ fold_halves sum

octets_cons : (a : ℕ) (l : List ℕ) → a < 256 → Octets l → Octets (a ∷ l)
octets_cons a l h o zero = h
octets_cons a l h o (suc i) = o i

octets_two : (n : ℕ) (l : List ℕ) → Octets l → Octets (octets16 n l)
octets_two n l o = octets_cons (n / 256 % 256) (n % 256 ∷ l) (omega arith) (octets_cons (n % 256) l (omega arith) o)

-- the checksum of ten octets from the words that they are made of
pub short_sum : (number code status asn sequence : ℕ) → number < 256 → code < 256 → status < 256 → asn < 65536 → sequence < 65536
    → 65535 - folded (512 + number + code * 256 + status + asn + sequence) ≡ checksum_of (2 ∷ number ∷ code ∷ status ∷ 0 ∷ 0 ∷ octets16 asn (octets16 sequence []))
unfolding checksum_of word_total
short_sum number code status asn sequence n k s a q =
    let l : List ℕ = 2 ∷ number ∷ code ∷ status ∷ 0 ∷ 0 ∷ octets16 asn (octets16 sequence []) in
    let tail : List ℕ = octets16 asn (octets16 sequence []) in
    let o : Octets tail = octets_two asn (octets16 sequence []) (octets_two sequence [] (λ i. omega arith)) in
    let e : 512 + number + code * 256 + status + asn + sequence ≡ word_total l = omega arith in
    ap (λ (x : ℕ). 65535 - x)
    (ap folded e
    ∙ sym (folds.once l
    (octets_cons 2 (number ∷ code ∷ status ∷ 0 ∷ 0 ∷ tail) (omega arith)
    (octets_cons number (code ∷ status ∷ 0 ∷ 0 ∷ tail) n
    (octets_cons code (status ∷ 0 ∷ 0 ∷ tail) k (octets_cons status (0 ∷ 0 ∷ tail) s (octets_cons 0 (0 ∷ tail) (omega arith) (octets_cons 0 tail (omega arith) o))))))))

module _ (b h x : List ℕ) (k : Kind) (a q s : ℕ) (is : h ≡ headed k a q s []) (e : x ≡ over h b) where
  stored : x ≡ over (headed k a q s []) b
  stored = e ∙ ap (λ (l : List ℕ). over l b) is

  pub intervals_written : 14 ≤ length b → (hello poll : ℕ) (x1 x2 y : List ℕ) → x1 ≡ sets x 10 (octets16 hello []) → x2 ≡ sets x1 12 (octets16 poll [])
      → y ≡ sealed (take 14 x2) ++ drop 14 x2 → y ≡ over (sealed (headed k a q s (octets16 hello (octets16 poll [])))) b
  intervals_written room hello poll x1 x2 y p1 p2 f =
      let e1 = over_more (headed k a q s []) (octets16 hello []) b x x1 10 stored refl p1 (omega arith) in
      let e2 = over_more (headed k a q s (octets16 hello [])) (octets16 poll []) b x1 x2 12 e1 refl p2 (omega arith) in
      f ∙ over_sealed (headed k a q s (octets16 hello (octets16 poll []))) b x2 14 e2 refl

  pub net_written : 16 ≤ length b → (net : ℕ) (x1 x2 y : List ℕ) → x1 ≡ sets x 10 (octets16 0 []) → x2 ≡ sets x1 12 (octets32 net [])
      → y ≡ sealed (take 16 x2) ++ drop 16 x2 → y ≡ over (sealed (headed k a q s (0 ∷ 0 ∷ octets32 net []))) b
  net_written room net x1 x2 y p1 p2 f =
      let e1 = over_more (headed k a q s []) (0 ∷ 0 ∷ []) b x x1 10 stored refl p1 (omega arith) in
      let e2 = over_more (headed k a q s (0 ∷ 0 ∷ [])) (octets32 net []) b x1 x2 12 e1 refl p2 (omega arith) in
      f ∙ over_sealed (headed k a q s (0 ∷ 0 ∷ octets32 net [])) b x2 16 e2 refl

  pub words_written : 24 ≤ length b → (reason first second third : ℕ) (x1 x2 x3 x4 y : List ℕ) → x1 ≡ sets x 10 (octets16 reason []) → x2 ≡ sets x1 12 (octets32 first [])
      → x3 ≡ sets x2 16 (octets32 second []) → x4 ≡ sets x3 20 (octets32 third []) → y ≡ sealed (take 24 x4) ++ drop 24 x4
      → y ≡ over (sealed (headed k a q s (octets16 reason (octets32 first (octets32 second (octets32 third [])))))) b
  words_written room reason first second third x1 x2 x3 x4 y p1 p2 p3 p4 f =
      let e1 = over_more (headed k a q s []) (octets16 reason []) b x x1 10 stored refl p1 (omega arith) in
      let e2 = over_more (headed k a q s (octets16 reason [])) (octets32 first []) b x1 x2 12 e1 refl p2 (omega arith) in
      let e3 = over_more (headed k a q s (octets16 reason (octets32 first []))) (octets32 second []) b x2 x3 16 e2 refl p3 (omega arith) in
      let e4 = over_more (headed k a q s (octets16 reason (octets32 first (octets32 second [])))) (octets32 third []) b x3 x4 20 e3 refl p4 (omega arith) in
      f ∙ over_sealed (headed k a q s (octets16 reason (octets32 first (octets32 second (octets32 third []))))) b x4 24 e4 refl

pub head_written : (b h x : List ℕ) (internal external a q s net : ℕ) → h ≡ headed Update a q s [] → x ≡ over h b → 16 ≤ length b
    → (y : List ℕ) → y ≡ sets (sets x 10 (internal ∷ external ∷ [])) 12 (octets32 net []) → y ≡ over (head_of internal external a q s net) b
unfolding head_of
head_written b h x internal external a q s net is e room y f =
    let e1 = over_more (headed Update a q s []) (internal ∷ external ∷ []) b x (sets x 10 (internal ∷ external ∷ [])) 10 (stored b h x Update a q s is e) refl refl (omega arith) in
    over_more (headed Update a q s (internal ∷ external ∷ [])) (octets32 net []) b (sets x 10 (internal ∷ external ∷ [])) y 12 e1 refl f (omega arith)

pub head_same : (b y : List ℕ) (internal external a q s net : ℕ) → y ≡ over (head_of internal external a q s net) b → 16 ≤ length b → length y ≡ length b
unfolding head_of
head_same b y internal external a q s net e room = ap length e ∙ over_length _ b room
