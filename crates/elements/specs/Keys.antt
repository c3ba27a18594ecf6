-- The key of an element's pattern, and the law of an element kind. Assumes nothing.
use Rattle.std.specs.Prelude.{◌≡◌, ℕ, ◌-◌, ◌*◌, ◌%◌, ◌^◌, ◌<◌, cond, ℤ, pos, negsuc, ◌-ℤ◌, ◌≢◌, nat_lt}
use Rattle.std.specs.declared.cmp.Ordering.TheVariants.{Equal, Greater}
use Rattle.std.specs.declared.cmp.Ordering.{Ordering}
use Rattle.std.specs.Ordering.{ordering_reverse, int_cmp}
use Rattle.elements.specs.declared.ptype.PType.{PType}
use Rattle.elements.specs.declared.ptype.Class.{Class}
use Rattle.elements.specs.declared.ptype.Class.TheVariants.{Unsigned, Signed, Float}
use Rattle.elements.specs.Kinds.{class_of, width_of}

-- the sign bit of so many bytes
abbrev pub sign_bit : ℕ → ℕ
sign_bit width = 2 ^ (8 * width - 1)

-- The key of an integer is its value. For a float let m be its pattern without the sign bit: the key is m with a clear sign bit, and −1 − m with a set one.
unfoldable pub key_by : Class → ℕ → ℕ → ℤ
key_by Unsigned width n = pos n
key_by Signed width n = cond (nat_lt n (sign_bit width)) (pos n) (pos n -ℤ pos (2 ^ (8 * width)))
key_by Float width n = cond (nat_lt n (sign_bit width)) (pos n) (negsuc (n - sign_bit width))

-- the number in the lowest bytes
abbrev pub low_bytes : ℕ → ℕ → ℕ
low_bytes width n = n % 2 ^ (8 * width)

-- the key of the pattern in the lowest bytes of a number
unfoldable pub key_of : PType → ℕ → ℤ
key_of p n = key_by (class_of p) (width_of p) (low_bytes (width_of p) n)

-- the order of two patterns is that of their keys
abbrev pub by_key : (ℕ → ℤ) → ℕ → ℕ → Ordering
by_key key m n = int_cmp (key m) (key n)

-- the law of a kind: that order is total and transitive, and Equal only for the same pattern
pub record KeyLaw (width : ℕ) (key : ℕ → ℤ) : Type 0 where
  pub itself : (m : ℕ) → by_key key m m ≡ Equal
  pub flip : (m n : ℕ) → by_key key n m ≡ ordering_reverse (by_key key m n)
  pub trans : (l m n : ℕ) → (by_key key l m ≢ Greater) → (by_key key m n ≢ Greater) → by_key key l n ≢ Greater
  pub same : (m n : ℕ) → m < 2 ^ (8 * width) → n < 2 ^ (8 * width) → by_key key m n ≡ Equal → m ≡ n
