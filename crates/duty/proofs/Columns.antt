-- The rows of columns over an area of names. Assumes nothing.
use Rattle.std.proofs.Common.{◌≡◌, ℕ, ◌+◌, ◌*◌, List, length, take, drop, replicate, None, sym, ap, ◌∙◌, ap₂, arith}
use Rattle.std.proofs.lemmas.List.FromFn.{fill_by_all, get_or-map-range_with_len, length-map-range_with_len}
use Rattle.std.proofs.lemmas.List.{get_or-drop, length-drop}
use Rattle.parts.specs.declared.part.Part.{Part}
use Rattle.parts.specs.declared.validity.Validity.TheVariants.{NonNullable}
use Rattle.rows.specs.Row.{Row, null, text}
use Rattle.views.specs.Texts.{column_texts, rows_standing, text_fault, text_row, text_rows}
use Rattle.views.specs.View.{value_of}

-- a column that is not refused, with its data by another name
pub column_rows : (bytes held : List ℕ) (buffers : List Part) (views n : ℕ) → bytes ≡ held → None ≡ text_fault bytes buffers views NonNullable n
    → column_texts bytes buffers views NonNullable n ≡ text_rows held buffers views NonNullable n
unfolding column_texts
column_rows bytes held buffers views n e h =
    ap (λ f. text_rows bytes buffers views NonNullable (rows_standing f n)) (sym h) ∙ ap (λ bs. text_rows bs buffers views NonNullable n) e

-- there are as many rows as were asked for
rows_length : (bytes : List ℕ) (buffers : List Part) (n : ℕ) → length (text_rows bytes buffers 0 NonNullable n) ≡ n
unfolding text_rows
rows_length bytes buffers n = length-map-range_with_len (text_row bytes buffers 0 NonNullable) 0 n

-- one value for each row of a column
pub value_rows : (rows : List Row) (bytes : List ℕ) (buffers : List Part) (n : ℕ) (value name : List ℕ) → rows ≡ text_rows bytes buffers 0 NonNullable n → value ≡ name
    → replicate (length rows) (text value) ≡ replicate n (text name)
value_rows rows bytes buffers n value name e is = ap₂ (λ m v. replicate m (text v)) (ap length e ∙ rows_length bytes buffers n) is

module _ (bytes : List ℕ) (buffers : List Part) where
  -- row i from view d on is row d + i
  row_behind : (d i : ℕ) → text_row bytes buffers 0 NonNullable (d + i) ≡ text_row bytes buffers (16 * d) NonNullable i
  unfolding text_row
  row_behind d i = ap (λ at. text (value_of bytes buffers (take 16 (drop at bytes)))) (omega arith)

  -- the rows from view d on are those behind the first d
  pub rows_behind : (d m n : ℕ) → d + m ≡ n → text_rows bytes buffers (16 * d) NonNullable m ≡ drop d (text_rows bytes buffers 0 NonNullable n)
  unfolding text_rows
  rows_behind d m n e =
      let all = text_rows bytes buffers 0 NonNullable n in
      sym (fill_by_all (text_row bytes buffers (16 * d) NonNullable) (drop d all) m null (length-drop d all ∙ omega (arith, rows_length bytes buffers n))
      (λ i h. get_or-drop d all i null ∙ get_or-map-range_with_len (text_row bytes buffers 0 NonNullable) 0 n (d + i) (d + i) null (omega arith) (omega arith) ∙ row_behind d i))
