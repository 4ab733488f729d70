-- Runs of rows as groups and blocks, and which groups and blocks are runs. Assumes nothing.
use Prim.Native.Nat.{ℕ, ◌+◌, ◌%◌}
use mathlib.Core.Bool.{Bool, true, false, cond, not, ◌&&◌, false≢true}
use mathlib.Core.Path.{◌≡◌, refl, sym, ap, ap₂, ◌∙◌}
use mathlib.Core.List.{List, [], ◌∷◌, ◌++◌, map}
use borrow.Author.Tests.{eqb-true, eqb-false, eq-eqb, ne_eqb, not-true}
use lib.Dec.{eqb}
use lib.ListN.{length, length-map}
use Rattle.checks.proofs.Laws.{and_left, and_right, and_both}
use Rattle.checks.specs.Lists.{every}
use Rattle.nets.specs.Classes.{good_net, on_net}
use Rattle.nets.specs.Rows.{Row}
use Rattle.update_writing.specs.Blocks.{joined, runs, gateway_runs, distance_runs, each, group_octets, groups_octets, host_octets, block_octets, side_octets}
use Rattle.update_writing.proofs.Runs.{runs_whole}
use Rattle.update_walk.specs.Body.{Group, Block}
use Rattle.update_theorem.specs.Canonical.{some, adjacent_differ, full_block, full_side}
use Rattle.update_theorem.proofs.Readings.{AllOf, every_all, all_every, all_map, all_each, each_map, each_same}
use Rattle.update_theorem.proofs.Octets.{RowFact}
use Rattle.update_theorem.proofs.Sent.{group_sent, block_sent, block_holds, GroupFact, BlockFact}

-- the key of the first row
unfoldable pub leader : (Row → ℕ) → List Row → ℕ
leader key [] = 0
leader key (row ∷ rest) = key row

-- a run: some rows, and their keys are that of the first
pub record Run (key : Row → ℕ) (rows : List Row) : Type 0 where
  pub full : some rows ≡ true
  pub same : AllOf (λ row. key row ≡ leader key rows) rows

module _ (key : Row → ℕ) where
  -- runs are runs, neighbours differ, and a property of rows is one of the runs' rows
  joined_run : (row : Row) (later : List (List Row)) → AllOf (Run key) later → AllOf (Run key) (joined key row later)
  unfolding joined leader some
  joined_run row [] h = (record { full = refl; same = (refl, tt) }, tt)
  joined_run row ([] ∷ later) h = (record { full = refl; same = (refl, tt) }, h.1)
  joined_run row ((next ∷ run) ∷ later) h = go (eqb (key row) (key next)) (eqb-true (key row) (key next))
    where
      go : (b : Bool) → (b ≡ true → key row ≡ key next) → AllOf (Run key) (cond b ((row ∷ next ∷ run) ∷ later) ((row ∷ []) ∷ (next ∷ run) ∷ later))
      go true e = (record { full = refl; same = (refl, all_map (λ r k. k ∙ sym (e refl)) (next ∷ run) h.0.same) }, h.1)
      go false e = (record { full = refl; same = (refl, tt) }, h)

  pub runs_run : (rows : List Row) → AllOf (Run key) (runs key rows)
  unfolding runs
  runs_run [] = tt
  runs_run (row ∷ rest) = joined_run row (runs key rest) (runs_run rest)

  joined_apart : (row : Row) (later : List (List Row)) → AllOf (Run key) later → adjacent_differ (leader key) later ≡ true → adjacent_differ (leader key) (joined key row later) ≡ true
  unfolding joined leader adjacent_differ some
  joined_apart row [] h a = refl
  joined_apart row ([] ∷ later) h a = absurd (false≢true h.0.full)
  joined_apart row ((next ∷ run) ∷ later) h a = go (eqb (key row) (key next)) refl later a
    where
      go : (b : Bool) → eqb (key row) (key next) ≡ b → (later : List (List Row)) → adjacent_differ (leader key) ((next ∷ run) ∷ later) ≡ true
          → adjacent_differ (leader key) (cond b ((row ∷ next ∷ run) ∷ later) ((row ∷ []) ∷ (next ∷ run) ∷ later)) ≡ true
      go true e [] a = refl
      go true e (run' ∷ more) a = rw (eqb-true (key row) (key next) e) a
      go false e later a = rw e a

  pub runs_apart : (rows : List Row) → adjacent_differ (leader key) (runs key rows) ≡ true
  unfolding runs adjacent_differ
  runs_apart [] = refl
  runs_apart (row ∷ rest) = joined_apart row (runs key rest) (runs_run rest) (runs_apart rest)

  joined_keeps : (P : Row → Type 0) (row : Row) (later : List (List Row)) → P row → AllOf (AllOf P) later → AllOf (AllOf P) (joined key row later)
  unfolding joined
  joined_keeps P row [] p h = ((p, tt), tt)
  joined_keeps P row ([] ∷ later) p h = ((p, tt), h.1)
  joined_keeps P row ((next ∷ run) ∷ later) p h = go (eqb (key row) (key next))
    where
      go : (b : Bool) → AllOf (AllOf P) (cond b ((row ∷ next ∷ run) ∷ later) ((row ∷ []) ∷ (next ∷ run) ∷ later))
      go true = ((p, h.0), h.1)
      go false = ((p, tt), h)

  pub runs_keep : (P : Row → Type 0) (rows : List Row) → AllOf P rows → AllOf (AllOf P) (runs key rows)
  unfolding runs
  runs_keep P [] h = tt
  runs_keep P (row ∷ rest) h = joined_keeps P row (runs key rest) h.0 (runs_keep P rest h.1)

-- items that hold rows, each with a key of its own that all its rows have; make gives the item of such rows
pub record Part {B : Type 0} (key : Row → ℕ) (own : B → ℕ) (hold : B → List Row) (make : List Row → B) (item : B) : Type 0 where
  pub full : some (hold item) ≡ true
  pub same : AllOf (λ row. key row ≡ own item) (hold item)
  pub back : make (hold item) ≡ item

-- rows of one key k before runs that none of them joins
front_run : (key : Row → ℕ) (k : ℕ) (row : Row) (rows later : List Row) (parts : List (List Row)) → key row ≡ k → AllOf (λ r. key r ≡ k) rows → runs key later ≡ parts
    → ((r : Row) → key r ≡ k → joined key r parts ≡ (r ∷ []) ∷ parts) → runs key (row ∷ rows ++ later) ≡ (row ∷ rows) ∷ parts
unfolding runs joined
front_run key k row [] later parts e h p fresh = ap (joined key row) p ∙ fresh row e
front_run key k row (next ∷ rows) later parts e h p fresh =
    ap (joined key row) (front_run key k next rows later parts h.0 h.1 p fresh)
    ∙ rw (eq-eqb (key row) (key next) (e ∙ sym h.0))

-- such items whose neighbours differ are the items of the runs of all their rows
module _ {B : Type 0} (key : Row → ℕ) (own : B → ℕ) (hold : B → List Row) (make : List Row → B) where
  fresh : (item : B) (items : List B) → AllOf (Part key own hold make) items → adjacent_differ own (item ∷ items) ≡ true
      → (r : Row) → key r ≡ own item → joined key r (map hold items) ≡ (r ∷ []) ∷ map hold items
  unfolding joined adjacent_differ some
  fresh item [] h a r e = refl
  fresh item (next ∷ items) h a r e = go (hold next) h.0.full h.0.same
    where
      go : (l : List Row) → some l ≡ true → AllOf (λ row. key row ≡ own next) l → joined key r (l ∷ map hold items) ≡ (r ∷ []) ∷ l ∷ map hold items
      go [] f m = absurd (false≢true f)
      go (row ∷ rows) f m =
          let d = eqb-false (own item) (own next) (not-true (eqb (own item) (own next)) (and_left (not (eqb (own item) (own next))) (adjacent_differ own (next ∷ items)) a)) in
          rw (ne_eqb (key r) (key row) (λ z. d (sym e ∙ z ∙ m.0)))

  apart_rest : (item : B) (items : List B) → adjacent_differ own (item ∷ items) ≡ true → adjacent_differ own items ≡ true
  unfolding adjacent_differ
  apart_rest item [] a = refl
  apart_rest item (next ∷ items) a = and_right (not (eqb (own item) (own next))) (adjacent_differ own (next ∷ items)) a

  runs_back : (items : List B) → AllOf (Part key own hold make) items → adjacent_differ own items ≡ true → runs key (each hold items) ≡ map hold items
  unfolding runs each some
  runs_back [] h a = refl
  runs_back (item ∷ items) h a = go (hold item) h.0.full h.0.same (runs_back items h.1 (apart_rest item items a))
    where
      go : (l : List Row) → some l ≡ true → AllOf (λ row. key row ≡ own item) l → runs key (each hold items) ≡ map hold items
          → runs key (l ++ each hold items) ≡ l ∷ map hold items
      go [] f m ih = absurd (false≢true f)
      go (row ∷ rows) f m ih = front_run key (own item) row rows (each hold items) (map hold items) m.0 m.1 ih (fresh item items h.1 a)

  map_back : (items : List B) → AllOf (Part key own hold make) items → map make (map hold items) ≡ items
  map_back [] h = refl
  map_back (item ∷ items) h = ap₂ (λ (x : B) (xs : List B). x ∷ xs) h.0.back (map_back items h.1)

  pub regroup : (items : List B) → AllOf (Part key own hold make) items → adjacent_differ own items ≡ true → map make (runs key (each hold items)) ≡ items
  regroup items h a = ap (map make) (runs_back items h a) ∙ map_back items h

-- the groups and blocks of rows
unfoldable pub group_from : List Row → Group
group_from rows = record { third = leader (λ row. row.third) rows; rows = rows }

unfoldable pub groups_from : List Row → List Group
groups_from rows = map group_from (distance_runs rows)

unfoldable pub block_from : List Row → Block
block_from rows = record { gateway = leader (λ row. row.gateway) rows; groups = groups_from rows }

unfoldable pub blocks_from : List Row → List Block
blocks_from rows = map block_from (gateway_runs rows)

-- they are as many as the runs, hold the rows, and their octets are those that are written
pub blocks_number : (rows : List Row) → length (blocks_from rows) ≡ length (gateway_runs rows)
unfolding blocks_from
blocks_number rows = length-map (gateway_runs rows) block_from

groups_hold_lem : (rows : List Row) → each (λ (group : Group). group.rows) (groups_from rows) ≡ rows
unfolding groups_from group_from
groups_hold_lem rows = each_map (λ (group : Group). group.rows) group_from (distance_runs rows) ∙ runs_whole (λ row. row.third) rows

block_holds_lem : (rows : List Row) → block_holds (block_from rows) ≡ rows
unfolding block_holds block_from
block_holds_lem rows = groups_hold_lem rows

all_always : {A : Type 0} {P : A → Type 0} → ((x : A) → P x) → (xs : List A) → AllOf P xs
all_always f [] = tt
all_always f (x ∷ xs) = (f x, all_always f xs)

pub blocks_hold_lem : (rows : List Row) → each block_holds (blocks_from rows) ≡ rows
unfolding blocks_from
blocks_hold_lem rows =
    each_map block_holds block_from (gateway_runs rows)
    ∙ each_same (λ run. block_holds (block_from run)) (λ run. run) (gateway_runs rows) (all_always block_holds_lem (gateway_runs rows))
    ∙ runs_whole (λ row. row.gateway) rows

group_sent_lem : (key : Row → ℕ) (rows : List Row) → Run key rows → group_sent (group_from rows) ≡ group_octets rows
unfolding group_sent group_from group_octets leader some
group_sent_lem key [] r = absurd (false≢true r.full)
group_sent_lem key (row ∷ rest) r = refl

groups_sent : (rows : List Row) → each group_sent (groups_from rows) ≡ groups_octets rows
unfolding groups_from groups_octets
groups_sent rows =
    each_map group_sent group_from (distance_runs rows)
    ∙ each_same (λ run. group_sent (group_from run)) group_octets (distance_runs rows)
    (all_map (λ run r. group_sent_lem (λ row. row.third) run r) (distance_runs rows) (runs_run (λ row. row.third) rows))

groups_number : (rows : List Row) → length (groups_from rows) ≡ length (distance_runs rows)
unfolding groups_from
groups_number rows = length-map (distance_runs rows) group_from

block_sent_lem : (net : ℕ) (key : Row → ℕ) (rows : List Row) → Run key rows → block_sent net (block_from rows) ≡ block_octets net rows
unfolding block_sent block_from block_octets leader some
block_sent_lem net key [] r = absurd (false≢true r.full)
block_sent_lem net key (row ∷ rest) r =
    ap₂ (λ (n : ℕ) (l : List ℕ). host_octets net row.gateway ++ (n ∷ l)) (groups_number (row ∷ rest)) (groups_sent (row ∷ rest))

pub blocks_sent : (net : ℕ) (rows : List Row) → each (block_sent net) (blocks_from rows) ≡ side_octets net rows
unfolding blocks_from side_octets
blocks_sent net rows =
    each_map (block_sent net) block_from (gateway_runs rows)
    ∙ each_same (λ run. block_sent net (block_from run)) (block_octets net) (gateway_runs rows)
    (all_map (λ run r. block_sent_lem net (λ row. row.gateway) run r) (gateway_runs rows) (runs_run (λ row. row.gateway) rows))

-- what a row is that can be sent on a side
pub record Sound (side net : ℕ) (row : Row) : Type 0 where
  pub good : good_net row.net ≡ true
  pub on : on_net net row.gateway ≡ true
  pub far : side + row.third % 256 ≡ row.third

-- every block has its facts
all_made : {A B : Type 0} (P : B → Type 0) (f : A → B) (xs : List A) → AllOf (λ x. P (f x)) xs → AllOf P (map f xs)
all_made P f [] h = tt
all_made P f (x ∷ xs) h = (h.0, all_made P f xs h.1)

all_two : {A : Type 0} {P Q R : A → Type 0} → ((x : A) → P x → Q x → R x) → (xs : List A) → AllOf P xs → AllOf Q xs → AllOf R xs
all_two f [] p q = tt
all_two f (x ∷ xs) p q = (f x p.0 q.0, all_two f xs p.1 q.1)

all_three : {A : Type 0} {P Q R S : A → Type 0} → ((x : A) → P x → Q x → R x → S x) → (xs : List A) → AllOf P xs → AllOf Q xs → AllOf R xs → AllOf S xs
all_three f [] p q r = tt
all_three f (x ∷ xs) p q r = (f x p.0 q.0 r.0, all_three f xs p.1 q.1 r.1)

module _ (side net : ℕ) where
  group_fact : (gateway : ℕ) (rows : List Row) → Run (λ row. row.third) rows → AllOf (Sound side net) rows → AllOf (λ row. row.gateway ≡ gateway) rows → GroupFact side gateway (group_from rows)
  unfolding group_from leader some
  group_fact gateway [] r h g = absurd (false≢true r.full)
  group_fact gateway (row ∷ rest) r h g =
      record {
        far = h.0.far;
        rows =
            all_three {S = RowFact gateway row.third} (λ x (a : Sound side net x) (b : x.gateway ≡ gateway) (d : x.third ≡ row.third). record { good = a.good; via = b; far = d })
            (row ∷ rest) h g r.same;
      }

  first_on : (rows : List Row) → some rows ≡ true → AllOf (Sound side net) rows → on_net net (leader (λ row. row.gateway) rows) ≡ true
  unfolding leader some
  first_on [] f h = absurd (false≢true f)
  first_on (row ∷ rest) f h = h.0.on

  block_fact : (rows : List Row) → Run (λ row. row.gateway) rows → AllOf (Sound side net) rows → BlockFact side net (block_from rows)
  unfolding block_from groups_from
  block_fact rows r h =
      record {
        on = first_on rows r.full h;
        groups =
            all_made (GroupFact side (leader (λ row. row.gateway) rows)) group_from (distance_runs rows)
            (all_three (λ run a b d. group_fact (leader (λ row. row.gateway) rows) run a b d) (distance_runs rows)
            (runs_run (λ row. row.third) rows)
            (runs_keep (λ row. row.third) (Sound side net) rows h)
            (runs_keep (λ row. row.third) (λ row. row.gateway ≡ leader (λ row. row.gateway) rows) rows r.same));
      }

  pub blocks_facts : (rows : List Row) → AllOf (Sound side net) rows → AllOf (BlockFact side net) (blocks_from rows)
  unfolding blocks_from
  blocks_facts rows h =
      all_made (BlockFact side net) block_from (gateway_runs rows)
      (all_two (λ run a b. block_fact run a b) (gateway_runs rows) (runs_run (λ row. row.gateway) rows) (runs_keep (λ row. row.gateway) (Sound side net) rows h))

-- groups and blocks made of runs are full, and neighbours differ
apart_made : {A B : Type 0} (own : B → ℕ) (f : A → B) (xs : List A) → adjacent_differ own (map f xs) ≡ adjacent_differ (λ x. own (f x)) xs
unfolding adjacent_differ
apart_made own f [] = refl
apart_made own f (x ∷ []) = refl
apart_made own f (x ∷ y ∷ xs) = ap (λ (b : Bool). not (eqb (own (f x)) (own (f y))) && b) (apart_made own f (y ∷ xs))

joined_some : (key : Row → ℕ) (row : Row) (later : List (List Row)) → some (joined key row later) ≡ true
unfolding joined some
joined_some key row [] = refl
joined_some key row ([] ∷ later) = refl
joined_some key row ((next ∷ run) ∷ later) = go (eqb (key row) (key next))
  where
    go : (b : Bool) → some (cond b ((row ∷ next ∷ run) ∷ later) ((row ∷ []) ∷ (next ∷ run) ∷ later)) ≡ true
    go true = refl
    go false = refl

runs_some : (key : Row → ℕ) (rows : List Row) → some rows ≡ true → some (runs key rows) ≡ true
unfolding runs some
runs_some key [] f = f
runs_some key (row ∷ rest) f = joined_some key row (runs key rest)

some_made : {A B : Type 0} (f : A → B) (xs : List A) → some (map f xs) ≡ some xs
unfolding some
some_made f [] = refl
some_made f (x ∷ xs) = refl

groups_apart : (rows : List Row) → adjacent_differ (λ (group : Group). group.third) (groups_from rows) ≡ true
unfolding groups_from group_from
groups_apart rows = apart_made (λ (group : Group). group.third) group_from (distance_runs rows) ∙ runs_apart (λ row. row.third) rows

groups_some : (rows : List Row) → some rows ≡ true → some (groups_from rows) ≡ true
unfolding groups_from
groups_some rows f = some_made group_from (distance_runs rows) ∙ runs_some (λ row. row.third) rows f

groups_full : (rows : List Row) → every (λ (group : Group). some group.rows) (groups_from rows) ≡ true
unfolding groups_from group_from
groups_full rows =
    all_every (λ (group : Group). some group.rows) (map group_from (distance_runs rows))
    (all_made (λ (group : Group). some group.rows ≡ true) group_from (distance_runs rows)
    (all_map (λ run (r : Run (λ row. row.third) run). r.full) (distance_runs rows) (runs_run (λ row. row.third) rows)))

blocks_apart : (rows : List Row) → adjacent_differ (λ (block : Block). block.gateway) (blocks_from rows) ≡ true
unfolding blocks_from block_from
blocks_apart rows = apart_made (λ (block : Block). block.gateway) block_from (gateway_runs rows) ∙ runs_apart (λ row. row.gateway) rows

block_full : (key : Row → ℕ) (rows : List Row) → Run key rows → full_block (block_from rows) ≡ true
unfolding full_block block_from
block_full key rows r =
    and_both _ _ (and_both _ _ (groups_some rows r.full) (groups_full rows)) (groups_apart rows)

pub blocks_full : (rows : List Row) → full_side (blocks_from rows) ≡ true
unfolding full_side blocks_from
blocks_full rows =
    and_both _ _
    (all_every full_block (map block_from (gateway_runs rows))
    (all_made (λ block. full_block block ≡ true) block_from (gateway_runs rows) (all_map (λ run r. block_full (λ row. row.gateway) run r) (gateway_runs rows) (runs_run (λ row. row.gateway) rows))))
    (blocks_apart rows)

-- full groups and blocks whose neighbours differ are made of runs
leader_is : (key : Row → ℕ) (k : ℕ) (rows : List Row) → some rows ≡ true → AllOf (λ row. key row ≡ k) rows → leader key rows ≡ k
unfolding leader some
leader_is key k [] f h = absurd (false≢true f)
leader_is key k (row ∷ rest) f h = h.0

module _ (side gateway : ℕ) where
  group_part : (group : Group) → GroupFact side gateway group → some group.rows ≡ true
      → Part (λ row. row.third) (λ (group : Group). group.third) (λ (group : Group). group.rows) group_from group
  unfolding group_from
  group_part group f s =
      let h = all_map (λ row (k : RowFact gateway group.third row). k.far) group.rows f.rows in
      record {
        full = s;
        same = h;
        back = ap (λ (k : ℕ). record { third = k; rows = group.rows }) (leader_is (λ row. row.third) group.third group.rows s h);
      }

  groups_back : (groups : List Group) → AllOf (GroupFact side gateway) groups → every (λ group. some group.rows) groups ≡ true → adjacent_differ (λ group. group.third) groups ≡ true
      → groups_from (each (λ (group : Group). group.rows) groups) ≡ groups
  unfolding groups_from
  groups_back groups f s a =
      regroup (λ row. row.third) (λ (group : Group). group.third) (λ (group : Group). group.rows) group_from groups
      (all_two (λ group k m. group_part group k m) groups f (every_all (λ group. some group.rows) groups s)) a

holds_some : (groups : List Group) → some groups ≡ true → every (λ (group : Group). some group.rows) groups ≡ true → some (each (λ (group : Group). group.rows) groups) ≡ true
unfolding some every each
holds_some [] s e = s
holds_some (group ∷ groups) s e = go group.rows (and_left (some group.rows) (every (λ (group : Group). some group.rows) groups) e)
  where
    go : (rows : List Row) → some rows ≡ true → some (rows ++ each (λ (group : Group). group.rows) groups) ≡ true
    go [] s = absurd (false≢true s)
    go (row ∷ rows) s = refl

module _ (side net : ℕ) where
  block_part : (block : Block) → BlockFact side net block → full_block block ≡ true → Part (λ row. row.gateway) (λ (block : Block). block.gateway) block_holds block_from block
  unfolding full_block block_holds block_from
  block_part block f full =
      let s = and_left (some block.groups) (every (λ group. some group.rows) block.groups) (and_left _ _ full) in
      let e = and_right (some block.groups) (every (λ group. some group.rows) block.groups) (and_left _ _ full) in
      let a = and_right (some block.groups && every (λ group. some group.rows) block.groups) (adjacent_differ (λ group. group.third) block.groups) full in
      let some_rows = holds_some block.groups s e in
      let via = all_each (λ row. row.gateway ≡ block.gateway) (λ (group : Group). group.rows) block.groups
      (all_map (λ group (k : GroupFact side block.gateway group). all_map (λ row (m : RowFact block.gateway group.third row). m.via) group.rows k.rows) block.groups f.groups) in
      record {
        full = some_rows;
        same = via;
        back =
            ap₂ (λ (k : ℕ) (gs : List Group). record { gateway = k; groups = gs })
            (leader_is (λ row. row.gateway) block.gateway _ some_rows via)
            (groups_back side block.gateway block.groups f.groups e a);
      }

  pub blocks_back : (blocks : List Block) → AllOf (BlockFact side net) blocks → full_side blocks ≡ true → blocks_from (each block_holds blocks) ≡ blocks
  unfolding blocks_from full_side
  blocks_back blocks f full =
      regroup (λ row. row.gateway) (λ (block : Block). block.gateway) block_holds block_from blocks
      (all_two (λ block k m. block_part block k m) blocks f (every_all full_block blocks (and_left (every full_block blocks) (adjacent_differ (λ block. block.gateway) blocks) full)))
      (and_right (every full_block blocks) (adjacent_differ (λ block. block.gateway) blocks) full)

  -- the rows of blocks that were read can be sent
  pub holds_sound : (blocks : List Block) → AllOf (BlockFact side net) blocks → AllOf (Sound side net) (each block_holds blocks)
  unfolding block_holds
  holds_sound blocks f =
      all_each (Sound side net) block_holds blocks
      (all_map (λ block (b : BlockFact side net block).
      all_each (Sound side net) (λ (group : Group). group.rows) block.groups
      (all_map (λ group (g : GroupFact side block.gateway group).
      all_map (λ row (r : RowFact block.gateway group.third row).
      record { good = r.good; on = ap (on_net net) r.via ∙ b.on; far = ap (λ (k : ℕ). side + k % 256) r.far ∙ g.far ∙ sym r.far })
      group.rows g.rows)
      block.groups b.groups))
      blocks f)
