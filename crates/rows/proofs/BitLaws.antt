-- Bytes of results by and, or, exclusive or and complement. Assumes nothing.
use Rattle.std.proofs.Common.{◌≡◌, ℕ, zero, suc, ◌+◌, ◌-◌, ◌*◌, ◌/◌, ◌%◌, ◌^◌, ◌<◌, min, max, Bool, true, false, cond, not, ◌&&◌, ◌||◌, eqb, sym, refl, ap, ◌∙◌, ap₂, pow-suc, arith}
use lib.Bits.{bit_and, bit_or, bit_xor, differ, and_step, or_step, xor_step, and_zero_l, or_zero_l, xor_zero_l}
use Rattle.std.proofs.lemmas.Nat.{shr-shr}
use Rattle.rows.specs.Bits.{digit, bits}
use Rattle.rows.proofs.Packed.{digit_below}

-- the same results from another place on
pub bits_same : (f g : ℕ → Bool) (s t n : ℕ) → ((k : ℕ) → k < n → f (s + k) ≡ g (t + k)) → bits f s n ≡ bits g t n
unfolding bits
bits_same f g s t zero h = refl
bits_same f g s t (suc n) h =
    let here : f s ≡ g t = ap f (omega arith) ∙ h 0 (omega arith) ∙ ap g (omega arith) in
    let rest : bits f (s + 1) n ≡ bits g (t + 1) n = bits_same f g (s + 1) (t + 1) n (λ k l. ap f (omega arith) ∙ h (k + 1) (omega arith) ∙ ap g (omega arith)) in
    ap₂ (λ d r. digit d + 2 * r) here rest

half : (b : Bool) (r : ℕ) → (digit b + 2 * r) / 2 ≡ r
half b r = omega (arith, digit_below b)

odd : (b : Bool) (r : ℕ) → (digit b + 2 * r) % 2 ≡ digit b
odd b r = omega (arith, digit_below b)

and_digit : (a b : Bool) → min (digit a) (digit b) ≡ digit (a && b)
and_digit true true = refl
and_digit true false = refl
and_digit false true = refl
and_digit false false = refl

or_digit : (a b : Bool) → max (digit a) (digit b) ≡ digit (a || b)
or_digit true true = refl
or_digit true false = refl
or_digit false true = refl
or_digit false false = refl

xor_digit : (a b : Bool) → differ (digit a) (digit b) ≡ digit (cond a (not b) b)
xor_digit true true = refl
xor_digit true false = refl
xor_digit false true = refl
xor_digit false false = refl

not_digit : (a : Bool) → digit (not a) + digit a ≡ 1
not_digit true = refl
not_digit false = refl

pub bits_and : (f g : ℕ → Bool) (s n : ℕ) → bit_and (bits f s n) (bits g s n) ≡ bits (λ i. f i && g i) s n
unfolding bits
bits_and f g s zero = and_zero_l 0
bits_and f g s (suc n) =
    let a = digit (f s) + 2 * bits f (s + 1) n in
    let b = digit (g s) + 2 * bits g (s + 1) n in
    let high : bit_and (a / 2) (b / 2) ≡ bits (λ i. f i && g i) (s + 1) n = ap₂ bit_and (half (f s) (bits f (s + 1) n)) (half (g s) (bits g (s + 1) n)) ∙ bits_and f g (s + 1) n in
    let low : min (a % 2) (b % 2) ≡ digit (f s && g s) = ap₂ min (odd (f s) (bits f (s + 1) n)) (odd (g s) (bits g (s + 1) n)) ∙ and_digit (f s) (g s) in
    and_step a b ∙ ap₂ (λ h l. h * 2 + l) high low ∙ omega arith

pub bits_or : (f g : ℕ → Bool) (s n : ℕ) → bit_or (bits f s n) (bits g s n) ≡ bits (λ i. f i || g i) s n
unfolding bits
bits_or f g s zero = or_zero_l 0
bits_or f g s (suc n) =
    let a = digit (f s) + 2 * bits f (s + 1) n in
    let b = digit (g s) + 2 * bits g (s + 1) n in
    let high : bit_or (a / 2) (b / 2) ≡ bits (λ i. f i || g i) (s + 1) n = ap₂ bit_or (half (f s) (bits f (s + 1) n)) (half (g s) (bits g (s + 1) n)) ∙ bits_or f g (s + 1) n in
    let low : max (a % 2) (b % 2) ≡ digit (f s || g s) = ap₂ max (odd (f s) (bits f (s + 1) n)) (odd (g s) (bits g (s + 1) n)) ∙ or_digit (f s) (g s) in
    or_step a b ∙ ap₂ (λ h l. h * 2 + l) high low ∙ omega arith

pub bits_xor : (f g : ℕ → Bool) (s n : ℕ) → bit_xor (bits f s n) (bits g s n) ≡ bits (λ i. cond (f i) (not (g i)) (g i)) s n
unfolding bits
bits_xor f g s zero = xor_zero_l 0
bits_xor f g s (suc n) =
    let a = digit (f s) + 2 * bits f (s + 1) n in
    let b = digit (g s) + 2 * bits g (s + 1) n in
    let high : bit_xor (a / 2) (b / 2) ≡ bits (λ i. cond (f i) (not (g i)) (g i)) (s + 1) n = ap₂ bit_xor (half (f s) (bits f (s + 1) n)) (half (g s) (bits g (s + 1) n)) ∙ bits_xor f g (s + 1) n in
    let low : differ (a % 2) (b % 2) ≡ digit (cond (f s) (not (g s)) (g s)) = ap₂ differ (odd (f s) (bits f (s + 1) n)) (odd (g s) (bits g (s + 1) n)) ∙ xor_digit (f s) (g s) in
    xor_step a b ∙ ap₂ (λ h l. h * 2 + l) high low ∙ omega arith

-- the complement
both : (f : ℕ → Bool) (s n : ℕ) → bits (λ i. not (f i)) s n + bits f s n + 1 ≡ 2 ^ n
unfolding bits
both f s zero = refl
both f s (suc n) = omega (arith, both f (s + 1) n, not_digit (f s), pow-suc 2 n)

pub bits_not : (f : ℕ → Bool) (s : ℕ) → 255 - bits f s 8 ≡ bits (λ i. not (f i)) s 8
bits_not f s = omega (arith, both f s 8)

-- a byte is its bits
bit_digit : (x : ℕ) → digit (eqb (x % 2) 1) ≡ x % 2
bit_digit x = two (x % 2) (omega arith)
  where
    two : (r : ℕ) → r < 2 → digit (eqb r 1) ≡ r
    two zero h = refl
    two (suc zero) h = refl
    two (suc (suc r)) h = absurd (omega arith)

pub bits_of : (x n : ℕ) → x < 2 ^ n → bits (λ i. eqb (x / 2 ^ i % 2) 1) 0 n ≡ x
unfolding bits
bits_of x zero h = omega arith
bits_of x (suc n) h =
    let low : digit (eqb (x / 2 ^ 0 % 2) 1) ≡ x % 2 = ap (λ y. digit (eqb (y % 2) 1)) (omega arith) ∙ bit_digit x in
    let move : bits (λ i. eqb (x / 2 ^ i % 2) 1) (0 + 1) n ≡ bits (λ i. eqb (x / 2 / 2 ^ i % 2) 1) 0 n =
    bits_same (λ i. eqb (x / 2 ^ i % 2) 1) (λ i. eqb (x / 2 / 2 ^ i % 2) 1) (0 + 1) 0 n (λ k l. ap (λ y. eqb (y % 2) 1) (ap (λ m. x / 2 ^ m) (omega arith) ∙ sym (shr-shr x 1 k) ∙ ap (λ m. x / 2 / 2 ^ m) (omega arith))) in
    let high : bits (λ i. eqb (x / 2 / 2 ^ i % 2) 1) 0 n ≡ x / 2 = bits_of (x / 2) n (omega (arith, pow-suc 2 n)) in
    omega (arith, low, move, high)
