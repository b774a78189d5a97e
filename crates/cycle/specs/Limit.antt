-- "7: H > 50,000"
use Rattle.std.specs.Prelude.{ℕ, cond, leb, Option, Some, None}
use Rattle.model.specs.Limits.{most_cycle}

-- what is found of a set whose common cycle is h: the cycle within the limit, or none
unfoldable pub within : ℕ → Option ℕ
within h = cond (leb h most_cycle) (Some h) None
