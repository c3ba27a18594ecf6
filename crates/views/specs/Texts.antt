-- Columns of text and binary values as row values. Assumes nothing.
use Rattle.std.specs.Prelude.{ℕ, zero, suc, ◌+◌, ◌*◌, Bool, cond, ◌||◌, List, map, take, drop, is_some, Some, None, Option}
use Rattle.std.specs.Borrow.{Bor}
use Rattle.std.specs.List.{range_with_len}
use Rattle.faults.specs.declared.ColumnFault.{ColumnFault}
use Rattle.faults.specs.declared.ColumnFault.TheVariants.{Range, Rows}
use Rattle.faults.specs.declared.ViewFault.{ViewFault}
use Rattle.faults.specs.Numbers.{at_row}
use Rattle.parts.specs.declared.part.Part.{Part}
use Rattle.parts.specs.declared.validity.Validity.{Validity}
use Rattle.parts.specs.Parts.{valid_at, too_many, ends_past, validity_past, parts_past}
use Rattle.rows.specs.Row.{Row, null, text}
use Rattle.views.specs.declared.texts.TextParts.{TextParts}
use Rattle.views.specs.View.{value_of, view_fault}

-- the bytes of view i, where the first begins at `views`
abbrev pub view_at : List ℕ → ℕ → ℕ → List ℕ
view_at bytes views i = take 16 (drop (views + 16 * i) bytes)

-- ---- row values

-- a row is null where it is not valid, and else the text of its view
unfoldable pub text_row : List ℕ → List Part → ℕ → Validity → ℕ → Row
text_row bytes buffers views validity i = cond (valid_at validity bytes i) (text (value_of bytes buffers (view_at bytes views i))) null

unfoldable pub text_rows : List ℕ → List Part → ℕ → Validity → ℕ → List Row
text_rows bytes buffers views validity n = map (text_row bytes buffers views validity) (range_with_len 0 n)

-- ---- what is refused

-- a view's fault, with its row
abbrev pub with_row : ℕ → Option ViewFault → Option ColumnFault
with_row i None = None
with_row i (Some f) = Some (at_row i f)

-- the same of a view's fault that is paired with its row
abbrev pub with_pair : Option (ℕ × ViewFault) → Option ColumnFault
with_pair None = None
with_pair (Some p) = Some (at_row p.0 p.1)

-- a null row has no fault, whatever stands in its view
unfoldable pub row_fault : List ℕ → List Part → ℕ → Validity → ℕ → Option ColumnFault
row_fault bytes buffers views validity i = cond (valid_at validity bytes i) (with_row i (view_fault bytes buffers (view_at bytes views i))) None

abbrev pub or_else : Option ColumnFault → Option ColumnFault → Option ColumnFault
or_else None other = other
or_else (Some f) other = Some f

-- the first fault of n rows from row i on
abbrev pub first_fault : (ℕ → Option ColumnFault) → ℕ → ℕ → Option ColumnFault
first_fault f i zero = None
first_fault f i (suc n) = or_else (f i) (first_fault f (i + 1) n)

-- a part of the column ends past the data: its validity, its views, or a buffer
abbrev pub text_past : List ℕ → List Part → ℕ → Validity → ℕ → Bool
text_past bytes buffers views validity n = validity_past validity bytes n || (ends_past bytes views (16 * n) || parts_past bytes buffers)

-- the fault of a column: its rows, then its parts, then its valid rows from row 0 on
abbrev pub text_fault : List ℕ → List Part → ℕ → Validity → ℕ → Option ColumnFault
text_fault bytes buffers views validity n =
    cond (too_many n) (Some Rows) (cond (text_past bytes buffers views validity n) (Some Range) (first_fault (row_fault bytes buffers views validity) 0 n))

-- a column that is refused has no rows
abbrev pub rows_standing : Option ColumnFault → ℕ → ℕ
rows_standing fault n = cond (is_some fault) 0 n

unfoldable pub column_texts : List ℕ → List Part → ℕ → Validity → ℕ → List Row
column_texts bytes buffers views validity n = text_rows bytes buffers views validity (rows_standing (text_fault bytes buffers views validity n) n)

-- a row that was read: null where there is no value
abbrev pub read_text : Option (Bor (List ℕ)) → Row
read_text None = null
read_text (Some value) = text value.now

-- ---- the parts of a column as one value

abbrev pub row_fault_in : TextParts → ℕ → Option ColumnFault
row_fault_in p i = row_fault p.bytes.now p.buffers.now p.views p.validity i

abbrev pub parts_fault : TextParts → Option ColumnFault
parts_fault p = text_fault p.bytes.now p.buffers.now p.views p.validity p.len

abbrev pub texts_of : TextParts → List Row
texts_of p = column_texts p.bytes.now p.buffers.now p.views p.validity p.len
