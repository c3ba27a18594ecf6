-- Numbers and their bytes, least significant first. Assumes nothing.
use Rattle.std.proofs.Common.{◌≡◌, ℕ, zero, suc, ◌+◌, ◌*◌, ◌/◌, ◌%◌, ◌^◌, ◌<◌, ◌≤◌, List, [], ◌∷◌, length, get_or, take, drop, sym, refl, ap, ◌∙◌, mod-lt, pow-suc, arith}
use native.Mathlib.Nat.{div-div-eq-div-mul}
use Rattle.std.proofs.lemmas.Nat.{mod-pow-add}
use Rattle.std.proofs.lemmas.List.{length-take, length-drop}
use Rattle.std.specs.Int.Digits.{number_from_digits, AllBelowBase}
use Rattle.elements.specs.Reading.{little_endian, le_bytes, pattern_at}

-- what `to_le_bytes` makes
pub eight_bytes : (n : ℕ)
    → (n % 256) ∷ (n / 256 % 256) ∷ (n / 65536 % 256) ∷ (n / 16777216 % 256) ∷ (n / 4294967296 % 256) ∷ (n / 1099511627776 % 256) ∷ (n / 281474976710656 % 256) ∷ (n / 72057594037927936 % 256) ∷ [] ≡ le_bytes 8 n
eight_bytes n = simp div-div-eq-div-mul

pub four_bytes : (n : ℕ) → (n % 256) ∷ (n / 256 % 256) ∷ (n / 65536 % 256) ∷ (n / 16777216 % 256) ∷ [] ≡ le_bytes 4 n
four_bytes n = simp div-div-eq-div-mul

-- the bytes of a number read as the number
pub le_value : (width n : ℕ) → n < 256 ^ width → little_endian (le_bytes width n) ≡ n
le_value zero n h = omega arith
le_value (suc width) n h = omega (arith, le_value width (n / 256) (omega (arith, pow-suc 256 width)))

-- bytes that read as a number are the bytes of the number
pub le_read : (bs : List ℕ) → AllBelowBase 256 bs → le_bytes (length bs) (little_endian bs) ≡ bs
le_read [] u = refl
le_read (b ∷ bs) u =
    let lt : b < 256 = u.0 in
    let p : (b + 256 * little_endian bs) % 256 ≡ b = omega arith in
    let q : (b + 256 * little_endian bs) / 256 ≡ little_endian bs = omega arith in
    λ i. p i ∷ (ap (le_bytes (length bs)) q ∙ le_read bs u.1) i

pub le_under : (width n : ℕ) → AllBelowBase 256 (le_bytes width n)
le_under zero n = tt
le_under (suc width) n = (mod-lt _ (omega arith), le_under width (n / 256))

-- ---- lists of bytes

pub under_all : (xs : List ℕ) → ((i : ℕ) → get_or xs i 0 < 256) → AllBelowBase 256 xs
under_all [] f = tt
under_all (x ∷ xs) f = (f 0, under_all xs (λ i. f (suc i)))

pub under_take : (n : ℕ) (xs : List ℕ) → AllBelowBase 256 xs → AllBelowBase 256 (take n xs)
under_take zero xs u = tt
under_take (suc n) [] u = tt
under_take (suc n) (x ∷ xs) u = (u.0, under_take n xs u.1)

pub under_drop : (n : ℕ) (xs : List ℕ) → AllBelowBase 256 xs → AllBelowBase 256 (drop n xs)
under_drop zero xs u = u
under_drop (suc n) [] u = tt
under_drop (suc n) (x ∷ xs) u = under_drop n xs u.1

-- the bytes that a pattern was read from
pub pattern_bytes : (width : ℕ) (bytes : List ℕ) (start : ℕ) → AllBelowBase 256 bytes → start + width ≤ length bytes → le_bytes width (pattern_at width bytes start) ≡ take width (drop start bytes)
pattern_bytes width bytes start u h =
    let part : List ℕ = take width (drop start bytes) in
    let l : width ≡ length part = omega (arith, length-take width (drop start bytes), length-drop start bytes) in
    ap (λ k. le_bytes k (little_endian part)) l ∙ le_read part (under_take width (drop start bytes) (under_drop start bytes u))

-- ---- the halves of a word

pub low_half : (n : ℕ) → n % 4294967296 ≡ little_endian (le_bytes 4 n)
low_half n = omega (arith, mod-pow-add n 24 8, mod-pow-add (n / 256) 16 8, mod-pow-add (n / 256 / 256) 8 8)

pub high_bytes : (n : ℕ) → drop 4 (le_bytes 8 n) ≡ le_bytes 4 (n / 4294967296)
high_bytes n = simp div-div-eq-div-mul

pub high_half : (n : ℕ) → n < 2 ^ 64 → n / 4294967296 ≡ little_endian (drop 4 (le_bytes 8 n))
high_half n h = sym (le_value 4 (n / 4294967296) (omega arith)) ∙ ap little_endian (sym (high_bytes n))

-- a word is told by its bytes
pub same_word : (m n : ℕ) → m < 2 ^ 64 → n < 2 ^ 64 → le_bytes 8 m ≡ le_bytes 8 n → m ≡ n
same_word m n hm hn e = sym (le_value 8 m hm) ∙ ap little_endian e ∙ le_value 8 n hn

-- ---- words turned round

be_four : (a b c d : ℕ) → a * 16777216 + b * 65536 + c * 256 + d ≡ number_from_digits 256 (a ∷ b ∷ c ∷ d ∷ [])
be_four a b c d = omega arith

be_eight : (a b c d e f g h : ℕ) → a * 72057594037927936 + b * 281474976710656 + c * 1099511627776 + d * 4294967296 + e * 16777216 + f * 65536 + g * 256 + h ≡ number_from_digits 256 (a ∷ b ∷ c ∷ d ∷ e ∷ f ∷ g ∷ h ∷ [])
be_eight a b c d e f g h = omega arith

pub turned_four : (n : ℕ) → n % 256 * 16777216 + n / 256 % 256 * 65536 + n / 65536 % 256 * 256 + n / 16777216 % 256 ≡ number_from_digits 256 (le_bytes 4 n)
turned_four n = be_four (n % 256) (n / 256 % 256) (n / 65536 % 256) (n / 16777216 % 256) ∙ ap (number_from_digits 256) (four_bytes n)

pub turned_eight : (n : ℕ)
    → n % 256 * 72057594037927936 + n / 256 % 256 * 281474976710656 + n / 65536 % 256 * 1099511627776 + n / 16777216 % 256 * 4294967296 + n / 4294967296 % 256 * 16777216 + n / 1099511627776 % 256 * 65536 + n / 281474976710656 % 256 * 256 + n / 72057594037927936 % 256 ≡ number_from_digits 256 (le_bytes 8 n)
turned_eight n =
    be_eight (n % 256) (n / 256 % 256) (n / 65536 % 256) (n / 16777216 % 256) (n / 4294967296 % 256) (n / 1099511627776 % 256) (n / 281474976710656 % 256) (n / 72057594037927936 % 256)
    ∙ ap (number_from_digits 256) (eight_bytes n)
