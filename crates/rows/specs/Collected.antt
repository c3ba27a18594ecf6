-- What a collection answers, and what it leaves in the output. Assumes nothing.
use Rattle.std.specs.Prelude.{ℕ, Bool, cond, ◌||◌, List, ◌++◌, length, drop, Ok, Err, Result, nat_lt}
use Rattle.faults.specs.declared.CollectFault.{CollectFault}
use Rattle.faults.specs.declared.CollectFault.TheVariants.{Length, Output}
use Rattle.rows.specs.Row.{Row, order, row}
use Rattle.rows.specs.Bits.{bytes_of, bytes_for}
use Rattle.rows.specs.Operators.{holds}
use Rattle.rows.specs.declared.operator.CompareOperator.{CompareOperator}

-- the result of row i: the operator of the order of the two rows
abbrev pub result_at : List Row → List Row → CompareOperator → ℕ → Bool
result_at xs ys op i = holds op (order (row xs i) (row ys i))

-- the results of the first n rows, packed
abbrev pub collected : List Row → List Row → CompareOperator → ℕ → List ℕ
collected xs ys op n = bytes_of (result_at xs ys op) n

-- n is above one of the lengths
abbrev pub too_long : List Row → List Row → ℕ → Bool
too_long xs ys n = nat_lt (length xs) n || nat_lt (length ys) n

-- the output has less than the bytes for n results
abbrev pub too_short : ℕ → ℕ → Bool
too_short n room = nat_lt room (bytes_for n)

-- the answer over an output of so many bytes: the number of bytes written, or the first of two refusals
abbrev pub collection : List Row → List Row → ℕ → ℕ → Result ℕ CollectFault
collection xs ys n room = cond (too_long xs ys n) (Err Length) (cond (too_short n room) (Err Output) (Ok (bytes_for n)))

-- the first answer that is a refusal, else the last
abbrev pub first_refusal : Result ℕ CollectFault → Result ℕ CollectFault → Result ℕ CollectFault
first_refusal (Ok k) r = r
first_refusal (Err e) r = Err e

-- what an output holds after an answer: the bytes and then what stood behind them, or all as it was
abbrev pub written : {E : Type 0} → Result ℕ E → List ℕ → List ℕ → List ℕ
written (Ok k) bytes out = bytes ++ drop k out
written (Err e) bytes out = out
