-- IEEE 754 totalOrder on the patterns of a binary interchange format: `width` bytes, whose lowest `fraction` bits are the trailing significand field.
-- Above it stands the biased exponent field, and above that the sign bit. Assumes nothing.
use Rattle.std.specs.Prelude.{◌≡◌, ℕ, ◌+◌, ◌-◌, ◌*◌, ◌/◌, ◌%◌, ◌^◌, ◌<◌, Bool, true, false, cond, not, ◌&&◌, ℤ, pos, neg_ℤ, ◌<ℤ◌, ◌==◌, nat_le, nat_lt}
use Rattle.std.specs.Ordering.{is_le, int_cmp}
use Rattle.elements.specs.declared.ptype.Class.TheVariants.{Float}
use Rattle.elements.specs.Keys.{sign_bit, key_by}

-- ---- what a pattern shows

abbrev pub negative : ℕ → ℕ → Bool
negative width n = not (nat_lt n (sign_bit width))

abbrev pub exponent : ℕ → ℕ → ℕ → ℕ
exponent width fraction n = n % sign_bit width / 2 ^ fraction

abbrev pub significand : ℕ → ℕ → ℕ
significand fraction n = n % 2 ^ fraction

-- the greatest exponent field is that of the infinities and the NaNs
abbrev pub top_exponent : ℕ → ℕ → ℕ
top_exponent width fraction = 2 ^ (8 * width - 1 - fraction) - 1

abbrev pub is_nan : ℕ → ℕ → ℕ → Bool
is_nan width fraction n = exponent width fraction n == top_exponent width fraction && not (significand fraction n == 0)

-- the highest bit of a NaN's significand is set where it is quiet, and the bits below are its payload
abbrev pub is_quiet : ℕ → ℕ → Bool
is_quiet fraction n = nat_le (2 ^ (fraction - 1)) (significand fraction n)

abbrev pub payload : ℕ → ℕ → ℕ
payload fraction n = n % 2 ^ (fraction - 1)

-- The absolute value of a number, counted in the least positive number of the format: a subnormal number is its significand,
-- and any other has a leading one before the significand, and doubles with each step of the exponent. An infinity, by the same rule, stands above each finite number.
abbrev pub absolute : ℕ → ℕ → ℕ → ℕ
absolute width fraction n =
    cond (exponent width fraction n == 0) (significand fraction n) ((2 ^ fraction + significand fraction n) * 2 ^ (exponent width fraction n - 1))

abbrev pub value : ℕ → ℕ → ℕ → ℤ
value width fraction n = cond (negative width n) (neg_ℤ (pos (absolute width fraction n))) (pos (absolute width fraction n))

-- ---- the standard's rules

-- a pattern of the format that is a number, an infinity included
pub record Number (width fraction n : ℕ) : Type 0 where
  pub fits : n < 2 ^ (8 * width)
  pub is : is_nan width fraction n ≡ false

pub record NaN (width fraction n : ℕ) : Type 0 where
  pub fits : n < 2 ^ (8 * width)
  pub is : is_nan width fraction n ≡ true

pub record TotalOrder (width fraction : ℕ) (le : ℕ → ℕ → Bool) : Type 0 where
  -- numbers go by their values
  pub lesser : (x y : ℕ) → Number width fraction x → Number width fraction y → value width fraction x <ℤ value width fraction y → le x y ≡ true
  pub greater : (x y : ℕ) → Number width fraction x → Number width fraction y → value width fraction y <ℤ value width fraction x → le x y ≡ false
  -- −0 is below +0
  pub zeros : le (sign_bit width) 0 ≡ true
  pub zeros_back : le 0 (sign_bit width) ≡ false
  -- two numbers of one value and one sign are one pattern, and it is at most itself
  pub datum : (x y : ℕ) → Number width fraction x → Number width fraction y → value width fraction x ≡ value width fraction y → negative width x ≡ negative width y → x ≡ y
  pub itself : (x : ℕ) → x < 2 ^ (8 * width) → le x x ≡ true
  -- a negative NaN is below each number, and a positive one above it
  pub negative_nan : (x y : ℕ) → NaN width fraction x → Number width fraction y → negative width x ≡ true → (le x y ≡ true) × (le y x ≡ false)
  pub positive_nan : (x y : ℕ) → Number width fraction x → NaN width fraction y → negative width y ≡ false → (le x y ≡ true) × (le y x ≡ false)
  -- of two NaNs a negative one is below a positive one
  pub nan_signs : (x y : ℕ) → NaN width fraction x → NaN width fraction y → negative width x ≡ true → negative width y ≡ false → (le x y ≡ true) × (le y x ≡ false)
  -- a signaling NaN is below a quiet one where both are positive, and above it where both are negative
  pub signaling : (x y : ℕ) → NaN width fraction x → NaN width fraction y → negative width x ≡ false → negative width y ≡ false → is_quiet fraction x ≡ false → is_quiet fraction y ≡ true → (le x y ≡ true) × (le y x ≡ false)
  pub signaling_negative : (x y : ℕ) → NaN width fraction x → NaN width fraction y → negative width x ≡ true → negative width y ≡ true → is_quiet fraction x ≡ false → is_quiet fraction y ≡ true → (le x y ≡ false) × (le y x ≡ true)
  -- two NaNs of one sign, both quiet or both signaling, go by their payloads, the negative ones in reverse
  pub payloads : (x y : ℕ) → NaN width fraction x → NaN width fraction y → negative width x ≡ false → negative width y ≡ false → is_quiet fraction x ≡ is_quiet fraction y → le x y ≡ nat_le (payload fraction x) (payload fraction y)
  pub payloads_negative : (x y : ℕ) → NaN width fraction x → NaN width fraction y → negative width x ≡ true → negative width y ≡ true → is_quiet fraction x ≡ is_quiet fraction y → le x y ≡ nat_le (payload fraction y) (payload fraction x)

-- the order of the keys of floats
abbrev pub key_le : ℕ → ℕ → ℕ → Bool
key_le width x y = is_le (int_cmp (key_by Float width x) (key_by Float width y))

-- in each of the three formats it is totalOrder
pub record KeysAreTotalOrder : Type 0 where
  pub binary16 : TotalOrder 2 10 (key_le 2)
  pub binary32 : TotalOrder 4 23 (key_le 4)
  pub binary64 : TotalOrder 8 52 (key_le 8)
