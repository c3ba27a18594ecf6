-- Rows of a number column. Assumes nothing.
use Rattle.std.proofs.Common.{◌≡◌, ℕ, ◌<◌, ◌≤◌, Bool, true, false, length, ℤ, sym, ap, ◌∙◌, arith}
use Rattle.std.proofs.lemmas.List.FromFn.{get_or-map-range_with_len, length-map-range_with_len}
use Rattle.std.proofs.lemmas.List.{get_or_past}
use Rattle.rows.specs.Row.{null, number, row}
use Rattle.numbers.specs.Columns.{cell, cells}

-- ---- rows by their number

pub cells_length : (v : ℕ → Bool) (x : ℕ → ℤ) (n : ℕ) → length (cells v x n) ≡ n
cells_length v x n = length-map-range_with_len (λ i. cell (v i) (x i)) 0 n

pub row_cell : (v : ℕ → Bool) (x : ℕ → ℤ) (n i : ℕ) → i < n → row (cells v x n) i ≡ cell (v i) (x i)
row_cell v x n i h = get_or-map-range_with_len (λ i. cell (v i) (x i)) 0 n i i null h (omega arith)

pub row_past : (v : ℕ → Bool) (x : ℕ → ℤ) (n i : ℕ) → n ≤ i → null ≡ row (cells v x n) i
row_past v x n i h = sym (get_or_past (cells v x n) i null (omega (arith, cells_length v x n)))

pub row_null : (v : ℕ → Bool) (x : ℕ → ℤ) (n i : ℕ) → i < n → v i ≡ false → null ≡ row (cells v x n) i
row_null v x n i h e = sym (row_cell v x n i h ∙ ap (λ b. cell b (x i)) e)

pub row_key : (v : ℕ → Bool) (x : ℕ → ℤ) (n i : ℕ) (z : ℤ) → i < n → v i ≡ true → z ≡ x i → number z ≡ row (cells v x n) i
row_key v x n i z h e k = ap number k ∙ sym (row_cell v x n i h ∙ ap (λ b. cell b (x i)) e)
