-- 14 and 15: what an Update's refusal answers is the number of what the walk found. Assumes nothing.
use mathlib.Core.Path.{◌≡◌, refl}
use Rattle.std.specs.Prelude.{Err}
use Rattle.checks.specs.Refusals.{number_of}
use Rattle.update_walk.specs.Body.{refusal_of, walked_number, RefusalNumber}
use Rattle.update_walk.specs.declared.BodyError.{BodyError}
use Rattle.update_walk.specs.declared.BodyError.TheVariants.{Broken, TooMany}

pub refusal_numbered : (error : BodyError) → number_of (refusal_of error) ≡ walked_number (Err error)
refusal_numbered (Broken offset) = refl
refusal_numbered TooMany = refl

pub refusal_number : RefusalNumber
refusal_number = record { number = refusal_numbered }
