-- What the functions of the walk answer: rows counted, and the octets that are left.
use Rattle.std.specs.Prelude.{ℕ, ◌+◌, ◌-◌, ◌≤◌, ◌≡◌, List, [], length, take, drop, get_or, Result, Ok, Err, IfOk}
use Rattle.nets.specs.Rows.{Row}
use Rattle.update_walk.specs.Body.{Got, got, stop, many, net_row, group_rows}
use Rattle.update_walk.specs.declared.Past.{Past}
use Rattle.update_walk.specs.declared.Stop.{Stop}
use Rattle.update_walk.specs.declared.Group as Declared

-- what was skipped is what a reading gives: as many rows, and the same octets after them, or as many left at the stop
abbrev pub Skipped : Got (List Row) → Result Past Stop → Type 0
Skipped (got rs rest) (Ok past) = (past.rows ≡ length rs) × (past.rest.now ≡ rest)
Skipped (got rs rest) (Err at) = ⊥
Skipped (stop left) (Ok past) = ⊥
Skipped (stop left) (Err at) = at.left ≡ left

-- the rows that were passed and the octets after them are no more than these octets
abbrev pub Within : List ℕ → Result Past Stop → Type 0
Within t result = IfOk result (λ past. past.rows + length past.rest.now ≤ length t)

-- how far a group was read
abbrev pub past_group : Result Declared.Group Stop → Result Past Stop
past_group (Ok group) = Ok group.past
past_group (Err at) = Err at

-- how many octets of t a reading took, 0 where it is bad
unfoldable pub taken : {A : Type 0} → List ℕ → Got A → ℕ
taken t (got a rest) = length t - length rest
taken t (stop left) = 0

-- where the distance group at the front ends, 0 where it is bad; the same for every side and gateway (proofs/Groups: end-any)
unfoldable pub group_end : List ℕ → ℕ
group_end t = taken t (group_rows 0 0 t)

-- 01: "The nets of one distance are handed back as a part of the received octets"; none where the group is bad
unfoldable pub group_nets : List ℕ → List ℕ
group_nets t = take (group_end t - 2) (drop 2 t)

-- the part is the nets and nothing else: read alone it gives the group's rows, and nothing is left (proofs/Groups)
pub record NetsAlone : Type 0 where
  pub rows : (side gateway : ℕ) (t : List ℕ) (rs : List Row) (rest : List ℕ) → group_rows side gateway t ≡ got rs rest
      → many (net_row gateway (side + get_or t 0 0)) (get_or t 1 0) (group_nets t) ≡ got rs []
  -- and a bad group has none, whatever side and gateway are
  pub none : (side gateway : ℕ) (t : List ℕ) (left : ℕ) → group_rows side gateway t ≡ stop left → group_nets t ≡ []
