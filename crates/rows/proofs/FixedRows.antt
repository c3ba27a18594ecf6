-- The right list of a fixed row: one row, repeated. Assumes nothing.
use Rattle.std.proofs.Common.{◌≡◌, ℕ, ◌+◌, ◌<◌, ◌≤◌, List, length, replicate, IfSome, Some, None, Option, sym, ap, ◌∙◌, arith}
use Rattle.std.proofs.lemmas.List.{get_or-replicate}
use Rattle.rows.specs.Row.{Row, null, row, order}
use Rattle.rows.specs.Bits.{bits}
use Rattle.rows.specs.Collected.{result_at}
use Rattle.rows.specs.Operators.{holds}
use Rattle.rows.specs.declared.operator.CompareOperator.{CompareOperator}
use Rattle.rows.proofs.BitLaws.{bits_same}

within : (n j : ℕ) (x : Row) → j < n → row (replicate n x) j ≡ x
within n j x h = get_or-replicate n j x null h

-- eight results against row 0 are eight results against the repeated row
pub fixed_byte : (xs ys : List Row) (op : CompareOperator) (s : ℕ) (r : Option ℕ) → s + 8 ≤ length xs
    → IfSome r (λ b. b ≡ bits (λ i. holds op (order (row xs i) (row ys 0))) s 8)
    → IfSome r (λ b. b ≡ bits (result_at xs (replicate (length xs) (row ys 0)) op) s 8)
fixed_byte xs ys op s None h e = tt
fixed_byte xs ys op s (Some b) h e =
    e
    ∙ bits_same (λ i. holds op (order (row xs i) (row ys 0))) (result_at xs (replicate (length xs) (row ys 0)) op) s s 8
    (λ k l. ap (λ y. holds op (order (row xs (s + k)) y)) (sym (within (length xs) (s + k) (row ys 0) (omega arith))))
