-- What two days of counts are asked. Assumes nothing.
use Rattle.std.specs.Prelude.{ℕ, List, length, pos, replicate, Option}
use Rattle.rows.specs.Collected.{collected}
use Rattle.rows.specs.Row.{number}
use Rattle.rows.specs.declared.operator.CompareOperator.{CompareOperator}
use Rattle.duty.specs.Counts.{count_rows}

-- the results of the operator at each station's two counts
abbrev pub pairwise : List (Option ℕ) → List (Option ℕ) → CompareOperator → List ℕ
pairwise today yesterday op = collected (count_rows today) (count_rows yesterday) op (length today)

-- the results of the operator at each count and one number
abbrev pub against : List (Option ℕ) → ℕ → CompareOperator → List ℕ
against counts n op = collected (count_rows counts) (replicate (length counts) (number (pos n))) op (length counts)
