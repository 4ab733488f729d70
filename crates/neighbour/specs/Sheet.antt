-- The sheet of indications: whether a message of each kind, carried out in Down or Up, is one, in each mode and with
-- each status. The lines are written from 01 and 02's L3 and name no rule: a changed rule fails here, before anything
-- is built on it.
use Rattle.std.specs.Prelude.{ℕ, ◌≡◌, Bool, true, false, List, [], ◌∷◌, map}
use Rattle.message.specs.declared.Kind.{Kind}
use Rattle.message.specs.declared.Kind.TheVariants as K
use Rattle.neighbour.specs.declared.Mode.{Mode}
use Rattle.neighbour.specs.declared.Mode.TheVariants.{Unset, Active, Passive}
use Rattle.neighbour.specs.Rules.{indicates}

-- a line: mode, kind, and yes or no for each of the statuses
pub data Line : Type 0 where
  line : Mode → Kind → List Bool → Line

-- the statuses that Hello, Poll and Update may have, and three that none of them has
abbrev pub statuses : List ℕ
statuses = 0 ∷ 1 ∷ 2 ∷ 128 ∷ 129 ∷ 130 ∷ 3 ∷ 65 ∷ 255 ∷ []

-- with no status, with every status, with status 1 alone, with 1 solicited or not
abbrev pub never : List Bool
never = false ∷ false ∷ false ∷ false ∷ false ∷ false ∷ false ∷ false ∷ false ∷ []

abbrev pub always : List Bool
always = true ∷ true ∷ true ∷ true ∷ true ∷ true ∷ true ∷ true ∷ true ∷ []

abbrev pub status_up : List Bool
status_up = false ∷ true ∷ false ∷ false ∷ false ∷ false ∷ false ∷ false ∷ false ∷ []

abbrev pub status_up_marked : List Bool
status_up_marked = false ∷ true ∷ false ∷ false ∷ true ∷ false ∷ false ∷ false ∷ false ∷ []

unfoldable pub computed : Line → List Bool
computed (line mode kind answers) = map (indicates mode kind) statuses

unfoldable pub written : Line → List Bool
written (line mode kind answers) = answers

unfoldable pub indication_sheet : List Line
indication_sheet =
    line Unset K.Request never ∷
    line Unset K.Confirm never ∷
    line Unset K.Refuse never ∷
    line Unset K.Cease never ∷
    line Unset K.CeaseAck never ∷
    line Unset K.Hello never ∷
    line Unset K.IHeardYou never ∷
    line Unset K.Poll never ∷
    line Unset K.Update never ∷
    line Unset K.Error never ∷
    line Active K.Request never ∷
    line Active K.Confirm always ∷
    line Active K.Refuse never ∷
    line Active K.Cease never ∷
    line Active K.CeaseAck never ∷
    line Active K.Hello never ∷
    line Active K.IHeardYou always ∷
    line Active K.Poll never ∷
    line Active K.Update always ∷
    line Active K.Error never ∷
    line Passive K.Request never ∷
    line Passive K.Confirm never ∷
    line Passive K.Refuse never ∷
    line Passive K.Cease never ∷
    line Passive K.CeaseAck never ∷
    line Passive K.Hello status_up ∷
    line Passive K.IHeardYou never ∷
    line Passive K.Poll status_up ∷
    line Passive K.Update status_up_marked ∷
    line Passive K.Error never ∷
    []

-- every line comes out
abbrev pub IndicationSheet : Type 0
IndicationSheet = map computed indication_sheet ≡ map written indication_sheet
