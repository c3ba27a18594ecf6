-- Eight rows at a time. Assumes nothing.
use Rattle.std.specs.Prelude.{ℕ, ◌+◌, ◌*◌, ◌/◌, ◌%◌, ◌^◌, ◌≤◌, Bool, cond, List, map, length, ℤ, pos, ◌==◌, slice_index_or}
use Rattle.std.specs.List.{range_with_len}
use Rattle.rows.specs.Row.{Row}
use Rattle.elements.specs.declared.ptype.PType.{PType}
use Rattle.elements.specs.declared.ptype.Class.{Class}
use Rattle.elements.specs.declared.ptype.Class.TheVariants.{Unsigned, Signed, Float}
use Rattle.elements.specs.Kinds.{class_of, width_of}
use Rattle.elements.specs.Keys.{sign_bit}
use Rattle.elements.specs.Reading.{pattern_at}
use Rattle.numbers.specs.Columns.{cell}

-- bit b of a byte of valid rows
abbrev pub bit : ℕ → ℕ → Bool
bit byte b = byte / 2 ^ b % 2 == 1

-- key b of eight that were read
abbrev pub key_of_lane : List ℤ → ℕ → ℤ
key_of_lane keys b = slice_index_or keys b (pos 0)

-- row b of eight: null where its bit is clear
abbrev pub eighth : ℕ → (ℕ → ℤ) → ℕ → Row
eighth valid key b = cell (bit valid b) (key b)

-- ---- eight elements in the data: side by side from `start` on, or fixed, all of them the one that stands there

-- where element b stands
abbrev pub at : ℕ → ℕ → Bool → ℕ → ℕ
at width start fixed b = start + cond fixed 0 (width * b)

abbrev pub element : ℕ → List ℕ → ℕ → Bool → ℕ → ℕ
element width bytes start fixed b = pattern_at width bytes (at width start fixed b)

-- they lie in the data
abbrev pub LieIn : ℕ → List ℕ → ℕ → Bool → Type 0
LieIn width bytes start fixed = start + cond fixed width (width * 8) ≤ length bytes

-- a vector of eight lanes
abbrev pub eight_of : (ℕ → ℕ) → List ℕ
eight_of f = map f (range_with_len 0 8)

-- what makes a key of this kind an unsigned number in the same order
abbrev pub offset_by : Class → ℕ → ℕ
offset_by Unsigned width = 0
offset_by Signed width = sign_bit width
offset_by Float width = sign_bit width

abbrev pub offset : PType → ℕ
offset p = offset_by (class_of p) (width_of p)
