-- Packet counts as row values. Assumes nothing.
use Rattle.std.specs.Prelude.{ℕ, ◌*◌, List, map, pos, Some, None, Option}
use Rattle.rows.specs.Row.{Row, null, number}
use Rattle.elements.specs.declared.ptype.PType.TheVariants.{U64}
use Rattle.parts.specs.declared.validity.Validity.TheVariants.{Bitmap}
use Rattle.numbers.specs.Columns.{number_rows}

-- a missing count is null, and not zero
abbrev pub count_row : Option ℕ → Row
count_row None = null
count_row (Some n) = number (pos n)

abbrev pub count_rows : List (Option ℕ) → List Row
count_rows counts = map count_row counts

-- the rows of so many U64 values from byte 0 of an area on, with a bitmap behind them
abbrev pub area_rows : List ℕ → ℕ → List Row
area_rows bytes n = number_rows U64 bytes 0 (Bitmap (8 * n)) n
