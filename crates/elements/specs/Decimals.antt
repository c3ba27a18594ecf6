-- Decimals. Assumes nothing.
use Rattle.std.specs.Prelude.{ℕ, Bool, cond, ◌&&◌, ℤ, pos, negsuc, is_some, Some, None, Option, ◌==◌, int_le, nat_le}
use Rattle.elements.specs.declared.ptype.PType.{PType}
use Rattle.elements.specs.declared.ptype.PType.TheVariants.{I8, I16, I32, I64}

-- the signed kind that reads a stored number of so many bytes, whose key is that number
abbrev pub stored_as : ℕ → Option PType
stored_as width =
    cond (width == 1) (Some I8) (cond (width == 2) (Some I16) (cond (width == 4) (Some I32) (cond (width == 8) (Some I64) None)))

-- precision 1 to 18, scale −128 to 127, and a width that there is
abbrev pub decimal_ranges : ℕ → ℤ → ℕ → Bool
decimal_ranges precision scale width = is_some (stored_as width) && (nat_le 1 precision && (nat_le precision 18 && (int_le (negsuc 127) scale && int_le scale (pos 127))))
