-- The keys as the code computes them. Assumes nothing.
use Rattle.std.proofs.Common.{◌≡◌, ℕ, suc, ◌+◌, ◌-◌, ◌*◌, ◌/◌, ◌%◌, ◌^◌, ◌<◌, ◌≤◌, true, cond, ltb, pos, negsuc, ◌-ℤ◌, sym, ap, ◌∙◌, subst, ap₂, ⊎_elim, mod-eq_of_lt, add-mul, arith, w64, to_z, refl}
use native.Mathlib.Nat.{pow-succ', div-eq_of_lt, zero-div}
use lib.Bits.{bit_and, bit_xor, xor_zero_r, xor_block, xor_add_and}
use lib.Signed.{shr_z}
use Rattle.std.proofs.lemmas.Nat.{and_mask, div-mul-add, pow-add, pow_pos, mul-le, mod_below, shl-shr}
use Rattle.std.proofs.lemmas.Nat.Bits.{ones_shr}
use Rattle.std.proofs.Math.Arith.{mod-mul}
use Rattle.std.proofs.Math.Nat.{mul-mod_left}
use Rattle.std.proofs.Math.Facts.{to_z-neg}
use Rattle.std.proofs.lemmas.Int.{ints, to_z_pos}
use Rattle.std.proofs.lemmas.Bool.{cases_lt, cond-true, cond-false, lt-ltb, le-ltb}
use Rattle.elements.specs.declared.ptype.Class.TheVariants.{Signed, Float}
use Rattle.elements.specs.Keys.{key_by, sign_bit, low_bytes}

-- a power is twice the one below
pub doubled : (k : ℕ) → 0 < k → 2 ^ k ≡ 2 * 2 ^ (k - 1)
doubled k h = let e : k ≡ suc (k - 1) = omega arith in ap (λ j. 2 ^ j) e ∙ pow-succ' 2 (k - 1)

-- ---- the lowest k bits of 64

-- k of 64 ones
ones_high : (k : ℕ) → k ≤ 64 → (2 ^ 64 - 1) / 2 ^ (64 - k) ≡ 2 ^ k - 1
ones_high k h = let rest : 64 - (64 - k) ≡ k = omega arith in ones_shr 64 (64 - k) (omega arith) ∙ ap (λ j. 2 ^ j - 1) rest

-- a mask takes them
pub masked : (width k n : ℕ) → k ≡ 8 * width → k ≤ 64 → bit_and n ((2 ^ 64 - 1) / 2 ^ (64 - k)) ≡ low_bytes width n
masked width k n e h = ap (bit_and n) (ones_high k h) ∙ and_mask n k ∙ ap (λ j. n % 2 ^ j) e

-- shifted to the top, and down again with the sign, they are the signed number that they write
module _ (k low : ℕ) (some : 0 < k) (most : k ≤ 64) (fits : low < 2 ^ k) where
  abbrev A : ℕ
  A = 2 ^ k

  abbrev B : ℕ
  B = 2 ^ (64 - k)

  abbrev S : ℕ
  S = 2 ^ (k - 1)

  -- the word and its half as products
  whole : 2 ^ 64 ≡ A * B
  whole = let sum : 64 ≡ k + (64 - k) = omega arith in ap (λ e. 2 ^ e) sum ∙ pow-add 2 k (64 - k)

  half : 2 ^ 63 ≡ S * B
  half = let sum : 63 ≡ k - 1 + (64 - k) = omega arith in ap (λ e. 2 ^ e) sum ∙ pow-add 2 (k - 1) (64 - k)

  -- the sign bit is clear
  plain : low < S → shr_z (to_z w64 (low * B)) B ≡ pos low
  plain h =
      let l : low * B + B ≤ S * B = omega (arith, mul-le (low + 1) B S B (omega arith) (omega arith)) in
      let top : low * B < 2 ^ 63 = omega (arith, half, pow_pos (64 - k)) in
      ap (λ z. shr_z z B) (to_z_pos w64 (low * B) top) ∙ ap pos (shl-shr low (64 - k))

  -- the sign bit is set
  minus : S ≤ low → shr_z (to_z w64 (low * B)) B ≡ pos low -ℤ pos A
  minus h =
      let d = A - low - 1 in
      let j = d * B + (B - 1) in
      let sum : A ≡ low + (d + 1) = omega arith in
      let split : A * B ≡ low * B + (d * B + B) = ap (λ a. a * B) sum ∙ add-mul low (d + 1) B ∙ omega (arith, add-mul d 1 B) in
      let up : low * B ≡ 2 ^ 64 - suc j = omega (arith, whole, split, pow_pos (64 - k)) in
      let l : d * B + B ≤ S * B = omega (arith, doubled k some, mul-le (d + 1) B S B (omega (arith, doubled k some)) (omega arith), add-mul d 1 B) in
      let small : j < 2 ^ 63 = omega (arith, half, pow_pos (64 - k)) in
      ap (λ m. shr_z (to_z w64 m) B) up ∙ ap (λ z. shr_z z B) (to_z-neg w64 j small)
      ∙ ap negsuc (div-mul-add d B (B - 1) (omega (arith, pow_pos (64 - k)))) ∙ omega (arith, ints)

  -- by the sign bit
  number : shr_z (to_z w64 (low * B)) B ≡ cond (ltb low S) (pos low) (pos low -ℤ pos A)
  number =
      ⊎_elim
      (λ (h : low < S). plain h ∙ sym (cond-true (ltb low S) (pos low) (pos low -ℤ pos A) (lt-ltb low S h)))
      (λ (h : S ≤ low). minus h ∙ sym (cond-false (ltb low S) (pos low) (pos low -ℤ pos A) (le-ltb low S h)))
      (cases_lt low S)

  -- what is shifted out does not count
  shift : (n : ℕ) → n % A ≡ low → n * B % 2 ^ 64 ≡ low * B
  shift n e = ap (λ m. n * B % m) whole ∙ mod-mul (n * B) {m = A} {c = B} (pow_pos k) (pow_pos (64 - k)) ∙ omega (arith, mul-mod_left n B, ap (λ m. m % A * B) (shl-shr n (64 - k)), ap (λ m. m * B) e)

-- so the shifts make the key
pub shifted : (width k n : ℕ) → k ≡ 8 * width → 0 < k → k ≤ 64 → shr_z (to_z w64 (n * 2 ^ (64 - k) % 2 ^ 64)) (2 ^ (64 - k)) ≡ key_by Signed width (low_bytes width n)
unfolding key_by
shifted width k n e some most =
    let low = n % 2 ^ k in
    let fits : low < 2 ^ k = mod_below n (2 ^ k) (pow_pos k) in
    ap (λ m. shr_z (to_z w64 m) (2 ^ (64 - k))) (shift k low some most fits n refl) ∙ number k low some most fits
    ∙ ap (λ j. cond (ltb (n % 2 ^ j) (2 ^ (j - 1))) (pos (n % 2 ^ j)) (pos (n % 2 ^ j) -ℤ pos (2 ^ j))) e

-- ---- floats

-- twice the sign bit is above all patterns
pub two_signs : (width : ℕ) → 0 < width → 2 ^ (8 * width) ≡ 2 * sign_bit width
two_signs width h = doubled (8 * width) (omega arith)

-- all bits below the sign bit flipped
flipped : (k m : ℕ) → m < 2 ^ k → bit_xor m (2 ^ k - 1) ≡ 2 ^ k - 1 - m
flipped k m h =
    let low : bit_and m (2 ^ k - 1) ≡ m = and_mask m k ∙ mod-eq_of_lt h in
    omega (arith, xor_add_and m (2 ^ k - 1), low)

-- the mask that flips: nothing where the sign bit is clear, and all bits below it where it is set
flip_clear : (k low : ℕ) → low < 2 ^ k → (0 + (2 ^ 64 - low / 2 ^ k)) % 2 ^ 64 / 2 ^ (64 - k) ≡ 0
flip_clear k low h =
    let none : low / 2 ^ k ≡ 0 = div-eq_of_lt h in
    let all : (0 + (2 ^ 64 - low / 2 ^ k)) % 2 ^ 64 ≡ 0 = omega arith in
    ap (λ z. z / 2 ^ (64 - k)) all ∙ zero-div (2 ^ (64 - k))

flip_set : (k low : ℕ) → k ≤ 64 → 2 ^ k ≤ low → low < 2 * 2 ^ k → (0 + (2 ^ 64 - low / 2 ^ k)) % 2 ^ 64 / 2 ^ (64 - k) ≡ 2 ^ k - 1
flip_set k low most l h =
    let split : low ≡ 1 * 2 ^ k + (low - 2 ^ k) = omega arith in
    let one : low / 2 ^ k ≡ 1 = ap (λ x. x / 2 ^ k) split ∙ div-mul-add 1 (2 ^ k) (low - 2 ^ k) (omega arith) in
    let all : (0 + (2 ^ 64 - low / 2 ^ k)) % 2 ^ 64 ≡ 2 ^ 64 - 1 = omega arith in
    ap (λ z. z / 2 ^ (64 - k)) all ∙ ones_high k most

-- a pattern with its sign bit set, and the bits below it flipped
turned : (k low : ℕ) → 2 ^ k ≤ low → low < 2 * 2 ^ k → bit_xor low (2 ^ k - 1) ≡ 2 ^ k + (2 ^ k - 1 - (low - 2 ^ k))
turned k low l h =
    let m = low - 2 ^ k in
    let split : low ≡ 1 * 2 ^ k + m = omega arith in
    let none : 2 ^ k - 1 ≡ 0 * 2 ^ k + (2 ^ k - 1) = omega arith in
    let fits : m < 2 ^ k = omega arith in
    let below : 2 ^ k - 1 < 2 ^ k = omega (arith, pow_pos k) in
    let parts : bit_xor low (2 ^ k - 1) ≡ bit_xor 1 0 * 2 ^ k + bit_xor m (2 ^ k - 1) = ap₂ bit_xor split none ∙ xor_block k 1 0 m (2 ^ k - 1) fits below in
    let one : bit_xor 1 0 * 2 ^ k ≡ 2 ^ k = ap (λ z. z * 2 ^ k) (xor_zero_r 1) ∙ omega arith in
    omega (arith, parts, one, flipped k m fits)

-- the code's way to a float's key
module _ (width low flip : ℕ) (some : 0 < width) (most : width ≤ 8) (fits : low < 2 ^ (8 * width)) (is : flip ≡ (0 + (2 ^ 64 - low / sign_bit width)) % 2 ^ 64 / 2 ^ (64 - (8 * width - 1))) where
  twice : low < 2 * sign_bit width
  twice = subst (λ a. low < a) (two_signs width some) fits

  clear : low < sign_bit width → key_by Signed width (low_bytes width (bit_xor low flip)) ≡ key_by Float width low
  unfolding key_by
  clear h =
      let none : flip ≡ 0 = is ∙ flip_clear (8 * width - 1) low h in
      let same : low_bytes width (bit_xor low flip) ≡ low = ap (low_bytes width) (ap (bit_xor low) none ∙ xor_zero_r low) ∙ mod-eq_of_lt fits in
      let test : ltb low (sign_bit width) ≡ true = lt-ltb low (sign_bit width) h in
      ap (key_by Signed width) same ∙ cond-true (ltb low (sign_bit width)) (pos low) (pos low -ℤ pos (2 ^ (8 * width))) test
      ∙ sym (cond-true (ltb low (sign_bit width)) (pos low) (negsuc (low - sign_bit width)) test)

  set : sign_bit width ≤ low → key_by Signed width (low_bytes width (bit_xor low flip)) ≡ key_by Float width low
  unfolding key_by
  set h =
      let S = sign_bit width in
      let m = low - S in
      let x = S + (S - 1 - m) in
      let ones : flip ≡ S - 1 = is ∙ flip_set (8 * width - 1) low (omega arith) h twice in
      let xored : bit_xor low flip ≡ x = ap (bit_xor low) ones ∙ turned (8 * width - 1) low h twice in
      let small : x < 2 ^ (8 * width) = subst (λ a. x < a) (sym (two_signs width some)) (omega (arith, twice)) in
      let same : low_bytes width (bit_xor low flip) ≡ x = ap (low_bytes width) xored ∙ mod-eq_of_lt small in
      let number : pos x -ℤ pos (2 ^ (8 * width)) ≡ negsuc m = ap (λ a. pos x -ℤ pos a) (two_signs width some) ∙ omega (arith, ints, twice) in
      let high : S ≤ x = omega arith in
      ap (key_by Signed width) same ∙ cond-false (ltb x S) (pos x) (pos x -ℤ pos (2 ^ (8 * width))) (le-ltb x S high) ∙ number
      ∙ sym (cond-false (ltb low S) (pos low) (negsuc m) (le-ltb low S h))

  pub float_form : key_by Signed width (low_bytes width (bit_xor low flip)) ≡ key_by Float width low
  float_form = ⊎_elim clear set (cases_lt low (sign_bit width))

-- the same by the number of bits
pub float_bits : (width k n low : ℕ) → k ≡ 8 * width → 8 ≤ k → k ≤ 64 → low ≡ low_bytes width n
    → key_by Signed width (low_bytes width (bit_xor low ((0 + (2 ^ 64 - low / 2 ^ (k - 1))) % 2 ^ 64 / 2 ^ (65 - k)))) ≡ key_by Float width (low_bytes width n)
float_bits width k n low e least most is =
    let some : 0 < width = omega arith in
    let eight : width ≤ 8 = omega arith in
    let fits : low < 2 ^ (8 * width) = subst (λ x. x < 2 ^ (8 * width)) (sym is) (mod_below n (2 ^ (8 * width)) (pow_pos (8 * width))) in
    let places : 65 - 8 * width ≡ 64 - (8 * width - 1) = omega arith in
    let flip = ap (λ j. (0 + (2 ^ 64 - low / 2 ^ (j - 1))) % 2 ^ 64 / 2 ^ (65 - j)) e ∙ ap (λ j. (0 + (2 ^ 64 - low / 2 ^ (8 * width - 1))) % 2 ^ 64 / 2 ^ j) places in
    float_form width low _ some eight fits flip ∙ ap (key_by Float width) is
