-- Groups and blocks as octets, there and back. Assumes nothing.
use Prim.Native.Nat.{ℕ, suc, ◌+◌, ◌%◌, ◌<◌}
use native.Mathlib.Numerals.{add-one}
use mathlib.Core.Bool.{true}
use mathlib.Core.Path.{◌≡◌, refl, sym, ap, ap₂, subst₂, ◌∙◌}
use mathlib.Core.List.{List, [], ◌∷◌, ◌++◌, append_assoc}
use native.Mathlib.Omega.{arith}
use borrow.Author.Tests.{leb-false, le-ltb, lt-leb}
use lib.Dec.{leb}
use lib.ListN.{length, drop, get_or, length-append, take-append-drop}
use lib.Seq.{get_or_at, drop-cons, drop-append-add}
use Rattle.checks.specs.Lists.{join}
use Rattle.checks.proofs.Laws.{cond_elim}
use Rattle.nets.specs.Classes.{good_net, on_net}
use Rattle.nets.specs.Rows.{Row}
use Rattle.update_walk.specs.Body.{Got, got, stop, and_then, many, net_row, Group, Block, group_at, host_width, gateway_of, block_at, groups_hold, blocks_hold, read_as, block_rows}
use Rattle.update_writing.specs.Blocks.{each, net_octets, nets_octets, host_octets}
use Rattle.update_theorem.specs.Trip.{octets_only}
use Rattle.update_walk.proofs.Flat.{blocks_rows}
use Rattle.update_theorem.proofs.Readings.{AllOf, all_map, each_single, Reads, many_reads, spread, join_each, One, Several, Ones, never, many_unreads}
use Rattle.update_theorem.proofs.Octets.{octet_at, octets_drop, net_reads, RowFact, net_unreads, host_length, host_reads, host_unreads}

-- the octets of a group and of a block
unfoldable pub group_sent : Group → List ℕ
group_sent group = group.third % 256 ∷ length group.rows ∷ nets_octets group.rows

unfoldable pub block_sent : ℕ → Block → List ℕ
block_sent net block = host_octets net block.gateway ++ (length block.groups ∷ each group_sent block.groups)

-- the rows of a block
unfoldable pub block_holds : Block → List Row
block_holds block = each (λ (group : Group). group.rows) block.groups

-- what is known of a group and of a block that were read, on a side
pub record GroupFact (side gateway : ℕ) (group : Group) : Type 0 where
  pub far : side + group.third % 256 ≡ group.third
  pub rows : AllOf (RowFact gateway group.third) group.rows

pub record BlockFact (side net : ℕ) (block : Block) : Type 0 where
  pub on : on_net net block.gateway ≡ true
  pub groups : AllOf (GroupFact side block.gateway) block.groups

-- read back
row_reads : (gateway third : ℕ) (row : Row) → RowFact gateway third row → Reads (net_row gateway third) (net_octets row.net) (row ∷ [])
row_reads gateway third row f q =
    net_reads gateway third row.net f.good q ∙ ap₂ (λ (g k : ℕ). got (record { net = row.net; gateway = g; third = k } ∷ []) q) (sym f.via) (sym f.far)

nets_read : (gateway third : ℕ) (rows : List Row) → AllOf (RowFact gateway third) rows → Reads (many (net_row gateway third) (length rows)) (nets_octets rows) rows
unfolding nets_octets
nets_read gateway third rows f q =
    many_reads (net_row gateway third) (λ row. net_octets row.net) (λ row. row ∷ []) rows (all_map (λ row k. row_reads gateway third row k) rows f) q
    ∙ ap (λ (l : List Row). got l q) (each_single rows)

module _ (side : ℕ) where
  pub group_reads : (gateway : ℕ) (group : Group) → GroupFact side gateway group → Reads (group_at side gateway) (group_sent group) (group ∷ [])
  unfolding group_at group_sent
  group_reads gateway group f q =
      rw (le-ltb (suc (suc (length (nets_octets group.rows ++ q)))) 2 (omega arith), f.far, nets_read gateway group.third group.rows f.rows q)

  pub groups_read : (gateway : ℕ) (groups : List Group) → AllOf (GroupFact side gateway) groups → Reads (many (group_at side gateway) (length groups)) (each group_sent groups) groups
  groups_read gateway groups f q =
      many_reads (group_at side gateway) group_sent (λ group. group ∷ []) groups (all_map (λ group k. group_reads gateway group k) groups f) q
      ∙ ap (λ (l : List Group). got l q) (each_single groups)

  module _ (net : ℕ) (good : good_net net ≡ true) where
    pub block_reads : (block : Block) → BlockFact side net block → Reads (block_at side net) (block_sent net block) (block ∷ [])
    unfolding block_at block_sent
    block_reads block f q =
        let h = host_octets net block.gateway in
        let n = length block.groups in
        let gs = each group_sent block.groups in
        let e = host_length net block.gateway in
        let l = length-append h (n ∷ gs ++ q) in
        rw (
          append_assoc h (n ∷ gs) q,
          lt-leb (length (h ++ (n ∷ gs ++ q))) (host_width net) (omega arith),
          host_reads net block.gateway good f.on (n ∷ gs ++ q),
          get_or_at h n (gs ++ q) 0 (host_width net) e,
          dropped h n (gs ++ q) (host_width net) e,
          groups_read block.gateway block.groups f.groups q,
        )
      where
        dropped : (h : List ℕ) (n : ℕ) (t : List ℕ) (w : ℕ) → length h ≡ w → drop (w + 1) (h ++ (n ∷ t)) ≡ t
        dropped h n t w e = ap (λ (k : ℕ). drop (k + 1) (h ++ (n ∷ t))) (sym e) ∙ drop-append-add h (n ∷ t) 1

    pub blocks_read : (blocks : List Block) → AllOf (BlockFact side net) blocks → Reads (many (block_at side net) (length blocks)) (each (block_sent net) blocks) blocks
    blocks_read blocks f q =
        many_reads (block_at side net) (block_sent net) (λ block. block ∷ []) blocks (all_map (λ block k. block_reads block k) blocks f) q
        ∙ ap (λ (l : List Block). got l q) (each_single blocks)

-- written back
module _ (side : ℕ) (m : side % 256 ≡ 0) where
  group_item : (gateway d n : ℕ) (t : List ℕ) (rows : List Row) (rest : List ℕ) → d < 256
      → Several (λ (row : Row). net_octets row.net) (RowFact gateway (side + d)) n t rows rest
      → One group_sent (GroupFact side gateway) (d ∷ n ∷ t) (record { third = side + d; rows = rows } ∷ []) rest
  unfolding group_sent nets_octets
  group_item gateway d n t rows rest h s =
      let e : (side + d) % 256 ≡ d = omega arith in
      record {
        item = record { third = side + d; rows = rows };
        only = refl;
        octets = rw (e, s.number) (ap (λ (l : List ℕ). d ∷ n ∷ l) s.octets);
        fact = record { far = ap (λ (k : ℕ). side + k) e; rows = s.facts };
      }

  pub group_unreads : (gateway : ℕ) → Ones (group_at side gateway) group_sent (GroupFact side gateway)
  unfolding group_at
  group_unreads gateway [] o xs rest e = never e
  group_unreads gateway (d ∷ []) o xs rest e = never e
  group_unreads gateway (d ∷ n ∷ t) o xs rest e =
      let p = octet_at d (n ∷ t) o in
      let r = octet_at n t p.1 in
      go p.0 (many (net_row gateway (side + d)) n t) (λ rows end k. many_unreads (net_row gateway (side + d)) (λ row. net_octets row.net) (RowFact gateway (side + d)) (net_unreads gateway (side + d)) n t r.1 rows end k)
      (rw (le-ltb (suc (suc (length t))) 2 (omega arith)) at e)
    where
      go : d < 256 → (g : Got (List Row)) → ((rows : List Row) (end : List ℕ) → g ≡ got rows end → Several (λ (row : Row). net_octets row.net) (RowFact gateway (side + d)) n t rows end)
          → and_then g (λ rows end. got (record { third = side + d; rows = rows } ∷ []) end) ≡ got xs rest
          → One group_sent (GroupFact side gateway) (d ∷ n ∷ t) xs rest
      go h (got rows end) s e =
          let p : (record { third = side + d; rows = rows } ∷ []) ≡ xs = cc in
          let q : end ≡ rest = cc in
          subst₂ (λ (l : List Group) (r : List ℕ). One group_sent (GroupFact side gateway) (d ∷ n ∷ t) l r) p q (group_item gateway d n t rows end h (s rows end refl))
      go h (stop left) s e = never e

  module _ (net : ℕ) (good : good_net net ≡ true) where
    block_item : (t : List ℕ) → octets_only t ≡ true → host_width net < length t → (groups : List Group) (rest : List ℕ)
        → Several group_sent (GroupFact side (gateway_of net t)) (get_or t (host_width net) 0) (drop (host_width net + 1) t) groups rest
        → One (block_sent net) (BlockFact side net) t (record { gateway = gateway_of net t; groups = groups } ∷ []) rest
    unfolding block_sent
    block_item t o h groups rest s =
        let u = host_unreads net good t o (omega arith) in
        record {
          item = record { gateway = gateway_of net t; groups = groups };
          only = refl;
          octets =
              sym (take-append-drop (host_width net) t)
              ∙ ap₂ (λ (a b : List ℕ). a ++ b) (sym u.1)
              (drop-cons t (host_width net) 0 h ∙ ap₂ (λ (a : ℕ) (b : List ℕ). a ∷ b) (sym s.number) (ap (λ (k : ℕ). drop k t) (sym (add-one (host_width net))) ∙ s.octets))
              ∙ sym (append_assoc (host_octets net (gateway_of net t)) (length groups ∷ each group_sent groups) rest);
          fact = record { on = u.0; groups = s.facts };
        }

    pub block_unreads : Ones (block_at side net) (block_sent net) (BlockFact side net)
    unfolding block_at
    block_unreads t o xs rest e =
        cond_elim (λ (x : Got (List Block)). x ≡ got xs rest → One (block_sent net) (BlockFact side net) t xs rest) (leb (length t) (host_width net)) (stop 0) _ (λ z k. never k)
        (λ z k.
        go (leb-false (length t) (host_width net) z) (many (group_at side (gateway_of net t)) (get_or t (host_width net) 0) (drop (host_width net + 1) t))
        (λ groups end y. many_unreads (group_at side (gateway_of net t)) group_sent (GroupFact side (gateway_of net t)) (group_unreads (gateway_of net t)) (get_or t (host_width net) 0) (drop (host_width net + 1) t) (octets_drop (host_width net + 1) t o) groups end y)
        k)
        e
      where
        go : host_width net < length t → (g : Got (List Group))
            → ((groups : List Group) (end : List ℕ) → g ≡ got groups end → Several group_sent (GroupFact side (gateway_of net t)) (get_or t (host_width net) 0) (drop (host_width net + 1) t) groups end)
            → and_then g (λ groups end. got (record { gateway = gateway_of net t; groups = groups } ∷ []) end) ≡ got xs rest
            → One (block_sent net) (BlockFact side net) t xs rest
        go h (got groups end) s e =
            let p : (record { gateway = gateway_of net t; groups = groups } ∷ []) ≡ xs = cc in
            let q : end ≡ rest = cc in
            subst₂ (λ (l : List Block) (r : List ℕ). One (block_sent net) (BlockFact side net) t l r) p q (block_item t o h groups end (s groups end refl))
        go h (stop left) s e = never e

    pub blocks_unread : (n : ℕ) (t : List ℕ) → octets_only t ≡ true → (blocks : List Block) (rest : List ℕ) → many (block_at side net) n t ≡ got blocks rest
        → Several (block_sent net) (BlockFact side net) n t blocks rest
    blocks_unread n t o blocks rest e = many_unreads (block_at side net) (block_sent net) (BlockFact side net) block_unreads n t o blocks rest e

-- the rows that the walk reads are those of the groups and blocks
groups_hold_lem : (groups : List Group) → groups_hold groups ≡ each (λ (group : Group). group.rows) groups
unfolding groups_hold
groups_hold_lem groups = join_each (λ (group : Group). group.rows) groups

pub blocks_held : (blocks : List Block) → blocks_hold blocks ≡ each block_holds blocks
unfolding blocks_hold each block_holds join
blocks_held [] = refl
blocks_held (block ∷ blocks) = ap₂ (λ (a b : List Row). a ++ b) (groups_hold_lem block.groups) (blocks_held blocks)

pub blocks_spread : (side net n : ℕ) (t : List ℕ) → many (block_rows side net) n t ≡ spread block_holds (many (block_at side net) n t)
unfolding read_as spread
blocks_spread side net n t = sym (blocks_rows side net n t) ∙ go (many (block_at side net) n t)
  where
    go : (g : Got (List Block)) → read_as blocks_hold g ≡ spread block_holds g
    go (got blocks rest) = ap (λ (l : List Row). got l rest) (blocks_held blocks)
    go (stop left) = refl
