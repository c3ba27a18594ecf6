-- What columns of every kind share: which rows are valid, and parts of the data. Assumes nothing.
use Rattle.std.specs.List.{list_any}
use Rattle.std.specs.Prelude.{ℕ, ◌+◌, min, Bool, true, false, List, length, take, drop, Some, None, Ok, Err, Option, Result, ◌==◌, nat_lt}
use Rattle.rows.specs.Bits.{bytes_for}
use Rattle.elements.specs.Reading.{bit_at}
use Rattle.parts.specs.declared.part.Part.{Part}
use Rattle.parts.specs.declared.validity.Validity.{Validity}
use Rattle.parts.specs.declared.validity.Validity.TheVariants.{NonNullable, AllValid, AllInvalid, Bitmap}

-- whether row i is valid
abbrev pub valid_at : Validity → List ℕ → ℕ → Bool
valid_at NonNullable bytes i = true
valid_at AllValid bytes i = true
valid_at AllInvalid bytes i = false
valid_at (Bitmap start) bytes i = bit_at bytes start i == 1

-- the validity by a bitmap that begins at a byte, or by none
abbrev pub validity_of : Option ℕ → Validity
validity_of (Some start) = Bitmap start
validity_of None = NonNullable

-- what the data has of a part
abbrev pub part_bytes : List ℕ → Part → List ℕ
part_bytes bytes p = take p.len (drop p.start bytes)

-- ---- what is refused

-- a column has at most so many rows
abbrev pub too_many : ℕ → Bool
too_many n = nat_lt 16777216 n

-- `size` bytes from `start` on end past the data, or past the greatest place
abbrev pub ends_past : List ℕ → ℕ → ℕ → Bool
ends_past bytes start size = nat_lt (min (length bytes) 2147483647) (start + size)

abbrev pub validity_past : Validity → List ℕ → ℕ → Bool
validity_past NonNullable bytes n = false
validity_past AllValid bytes n = false
validity_past AllInvalid bytes n = false
validity_past (Bitmap start) bytes n = ends_past bytes start (bytes_for n)

abbrev pub part_past : List ℕ → Part → Bool
part_past bytes p = ends_past bytes p.start p.len

-- one of some parts does
abbrev pub parts_past : List ℕ → List Part → Bool
parts_past bytes ps = list_any (part_past bytes) ps

-- the fault that an answer carries
abbrev pub fault_of : {A E : Type 0} → Result A E → Option E
fault_of (Ok a) = None
fault_of (Err f) = Some f
