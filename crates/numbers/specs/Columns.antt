-- Number columns as row values. Assumes nothing.
use Rattle.std.specs.Prelude.{ℕ, ◌+◌, ◌*◌, Bool, cond, ◌||◌, List, map, ℤ, Some, None, Option}
use Rattle.std.specs.List.{range_with_len}
use Rattle.faults.specs.declared.ColumnFault.{ColumnFault}
use Rattle.faults.specs.declared.ColumnFault.TheVariants.{Range, Rows}
use Rattle.rows.specs.Row.{Row, null, number}
use Rattle.elements.specs.declared.ptype.PType.{PType}
use Rattle.elements.specs.Kinds.{width_of}
use Rattle.elements.specs.Keys.{key_of}
use Rattle.elements.specs.Reading.{pattern_at}
use Rattle.parts.specs.declared.validity.Validity.{Validity}
use Rattle.parts.specs.Parts.{valid_at, too_many, ends_past, validity_past}

-- ---- what is refused

-- the fault of a number column: its rows, then its validity, then its values
abbrev pub number_fault : ℕ → List ℕ → ℕ → Validity → ℕ → Option ColumnFault
number_fault width bytes start validity n =
    cond (too_many n) (Some Rows) (cond (validity_past validity bytes n || ends_past bytes start (width * n)) (Some Range) None)

-- ---- row values

abbrev pub cell : Bool → ℤ → Row
cell valid key = cond valid (number key) null

-- the key of element i of the values from `start` on
abbrev pub key_at : PType → List ℕ → ℕ → ℕ → ℤ
key_at p bytes start i = key_of p (pattern_at (width_of p) bytes (start + width_of p * i))

abbrev pub cells : (ℕ → Bool) → (ℕ → ℤ) → ℕ → List Row
cells valid key n = map (λ i. cell (valid i) (key i)) (range_with_len 0 n)

-- the row values of a number column
abbrev pub number_rows : PType → List ℕ → ℕ → Validity → ℕ → List Row
number_rows p bytes start validity n = cells (valid_at validity bytes) (key_at p bytes start) n

-- a row that was read: null where there is no key
abbrev pub read_row : Option ℤ → Row
read_row None = null
read_row (Some key) = number key
