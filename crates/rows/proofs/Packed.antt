-- Laws of bits packed into bytes. Assumes nothing.
use Rattle.std.proofs.Common.{◌≡◌, ℕ, zero, suc, ◌+◌, ◌-◌, ◌*◌, ◌/◌, ◌%◌, ◌^◌, ◌<◌, ◌≤◌, min, Bool, true, false, List, [], ◌∷◌, ◌++◌, map, length, get_or, take, drop, set, sym, refl, ap, ◌∙◌, subst, ⊎_elim, lt_of_lt_of_le, add-zero, mul_assoc, mul_comm, pow-suc, add-one, arith, pow_mono}
use native.Mathlib.Nat.{zero-div, div-eq_of_lt}
use Rattle.std.proofs.lemmas.Nat.{shr-shr, or_shifted, or_comm, shl_whole}
use Rattle.std.proofs.lemmas.List.FromFn.{get_or-map-range_with_len, map-range_with_len_more, length-map-range_with_len}
use Rattle.std.proofs.lemmas.List.{get_or_past, drop_all, drop_more, set_at, append-nil, append_assoc, length-take}
use Rattle.std.specs.List.{range_with_len}
use lib.Bits.{bit_or}
use mir.Val.{bool_byte}
use Rattle.rows.specs.Bits.{digit, bits, bytes_for, byte_at, bytes_of, bit_of}
use Rattle.std.proofs.lemmas.Bool.{cases_lt}

pub digit_below : (b : Bool) → digit b < 2
digit_below true = omega arith
digit_below false = omega arith

-- one result more, at the top
bits_suc : (f : ℕ → Bool) (s k : ℕ) → bits f s (suc k) ≡ digit (f (s + k)) * 2 ^ k + bits f s k
unfolding bits
bits_suc f s zero = simp add-zero (omega arith)
bits_suc f s (suc k) =
    let at : f (s + 1 + k) ≡ f (s + suc k) = ap f (omega arith) in
    let ih : bits f (s + 1) (suc k) ≡ digit (f (s + suc k)) * 2 ^ k + bits f (s + 1) k = bits_suc f (s + 1) k ∙ ap (λ b. digit b * 2 ^ k + bits f (s + 1) k) at in
    let two : digit (f (s + suc k)) * 2 ^ suc k ≡ 2 * (digit (f (s + suc k)) * 2 ^ k) = ap (λ x. digit (f (s + suc k)) * x) (pow-suc 2 k) ∙ sym (mul_assoc (digit (f (s + suc k))) (2 ^ k) 2) ∙ mul_comm (digit (f (s + suc k)) * 2 ^ k) 2 in
    omega (arith, ih, two)

pub bits_more : (f : ℕ → Bool) (s k : ℕ) → bits f s (k + 1) ≡ digit (f (s + k)) * 2 ^ k + bits f s k
bits_more f s k = rw add-one (bits_suc f s k)

pub bits_below : (f : ℕ → Bool) (s k : ℕ) → bits f s k < 2 ^ k
unfolding bits
bits_below f s zero = omega arith
bits_below f s (suc k) = omega (arith, bits_below f (s + 1) k, digit_below (f s), pow-suc 2 k)

pub bits_none : (f : ℕ → Bool) (s : ℕ) → ◌≡◌ {A = ℕ} 0 (bits f s 0)
unfolding bits
bits_none f s = refl

digit_byte : (b : Bool) → bool_byte b ≡ digit b
digit_byte true = refl
digit_byte false = refl

-- one turn of the packing: the result of row s + k goes in at bit k
pub pack_more : (f : ℕ → Bool) (s k byte : ℕ) (b : Bool) → k < 8 → byte ≡ bits f s k → b ≡ f (s + k)
    → bit_or byte (bool_byte b * 2 ^ k % 256) ≡ bits f s (k + 1)
pack_more f s k byte b h e t =
    let whole : bool_byte b * 2 ^ k % 256 ≡ digit b * 2 ^ k = ap (λ d. d * 2 ^ k % 256) (digit_byte b) ∙ shl_whole (digit b) 1 k 8 (digit_below b) (omega arith) in
    let low : byte < 2 ^ k = subst (λ x. x < 2 ^ k) (sym e) (bits_below f s k) in
    ap (bit_or byte) whole ∙ or_comm byte (digit b * 2 ^ k) ∙ or_shifted (digit b) k byte low
    ∙ ap (λ x. digit x * 2 ^ k + byte) t ∙ ap (λ x. digit (f (s + k)) * 2 ^ k + x) e ∙ sym (bits_more f s k)

-- one turn of a loop that writes b at place k, where what stands below k is done
pub write_more : (f : ℕ → ℕ) (k b : ℕ) (old now : List ℕ) → k < length old → now ≡ map f (range_with_len 0 k) ++ drop k old → b ≡ f k
    → set now k b ≡ map f (range_with_len 0 (k + 1)) ++ drop (k + 1) old
write_more f k b old now h e t =
    let split : now ≡ map f (range_with_len 0 k) ++ get_or old k 0 ∷ drop (k + 1) old = e ∙ ap (λ xs. map f (range_with_len 0 k) ++ xs) (drop_more old k 0 h) in
    let put : set now k b ≡ map f (range_with_len 0 k) ++ b ∷ drop (k + 1) old = ap (λ xs. set xs k b) split ∙ set_at (map f (range_with_len 0 k)) _ _ b k (length-map-range_with_len f 0 k) in
    put ∙ ap (λ y. map f (range_with_len 0 k) ++ y ∷ drop (k + 1) old) t ∙ sym (append_assoc (map f (range_with_len 0 k)) (f k ∷ []) (drop (k + 1) old))
    ∙ ap (λ xs. xs ++ drop (k + 1) old) (sym (map-range_with_len_more f 0 k k (omega arith)))

-- the end of a loop over the first q places: they are done, and the rest stands
pub front_done : (f : ℕ → ℕ) (q k : ℕ) (old front : List ℕ) → k ≡ q → front ≡ map f (range_with_len 0 k) ++ drop k (take q old)
    → front ++ drop q old ≡ map f (range_with_len 0 q) ++ drop q old
front_done f q k old front h e =
    ap (λ xs. xs ++ drop q old)
    (e ∙ ap (λ i. map f (range_with_len 0 i) ++ drop i (take q old)) h
    ∙ ap (λ xs. map f (range_with_len 0 q) ++ xs) (drop_all q (take q old) (omega (arith, length-take q old)))
    ∙ append-nil (map f (range_with_len 0 q)))

-- ---- the bits of what was packed

bits_half : (f : ℕ → Bool) (s n : ℕ) → bits f s (suc n) / 2 ≡ bits f (s + 1) n
unfolding bits
bits_half f s n = omega (arith, digit_below (f s))

bits_odd : (f : ℕ → Bool) (s n : ℕ) → bits f s (suc n) % 2 ≡ digit (f s)
unfolding bits
bits_odd f s n = omega (arith, digit_below (f s))

half_pow : (a k : ℕ) → a / 2 ^ suc k ≡ a / 2 / 2 ^ k
half_pow a k = ap (λ m. a / 2 ^ m) (omega arith) ∙ sym (shr-shr a 1 k)

-- bit k is result k
pub bits_bit : (f : ℕ → Bool) (s n k : ℕ) → k < n → bits f s n / 2 ^ k % 2 ≡ digit (f (s + k))
bits_bit f s zero k h = absurd (omega arith)
bits_bit f s (suc n) zero h = ap (λ x. x % 2) (omega arith) ∙ bits_odd f s n ∙ ap (λ x. digit (f x)) (omega arith)
bits_bit f s (suc n) (suc k) h =
    let ih : bits f (s + 1) n / 2 ^ k % 2 ≡ digit (f (s + 1 + k)) = bits_bit f (s + 1) n k (omega arith) in
    ap (λ x. x % 2) (half_pow (bits f s (suc n)) k) ∙ ap (λ x. x / 2 ^ k % 2) (bits_half f s n) ∙ ih ∙ ap (λ x. digit (f x)) (omega arith)

-- the bits above are 0
pub bits_above : (f : ℕ → Bool) (s n k : ℕ) → n ≤ k → bits f s n / 2 ^ k % 2 ≡ 0
bits_above f s n k h =
    let low : bits f s n < 2 ^ k = lt_of_lt_of_le (bits_below f s n) (pow_mono h) in
    ap (λ x. x % 2) (div-eq_of_lt low)

-- bit i of the bytes is result i, for each result
pub packed_bit : (f : ℕ → Bool) (n i : ℕ) → i < n → bit_of (bytes_of f n) i ≡ digit (f i)
packed_bit f n i h =
    let byte : get_or (bytes_of f n) (i / 8) 0 ≡ byte_at f n (i / 8) = get_or-map-range_with_len (byte_at f n) 0 (bytes_for n) (i / 8) (i / 8) 0 (omega arith) (omega arith) in
    ap (λ b. b / 2 ^ (i % 8) % 2) byte ∙ bits_bit f (8 * (i / 8)) (min (n - 8 * (i / 8)) 8) (i % 8) (omega arith) ∙ ap (λ x. digit (f x)) (omega arith)

-- and 0 past them
pub packed_spare : (f : ℕ → Bool) (n i : ℕ) → n ≤ i → bit_of (bytes_of f n) i ≡ 0
packed_spare f n i h =
    ⊎_elim
    (λ l. let byte : get_or (bytes_of f n) (i / 8) 0 ≡ byte_at f n (i / 8) = get_or-map-range_with_len (byte_at f n) 0 (bytes_for n) (i / 8) (i / 8) 0 l (omega arith) in
    ap (λ b. b / 2 ^ (i % 8) % 2) byte ∙ bits_above f (8 * (i / 8)) (min (n - 8 * (i / 8)) 8) (i % 8) (omega arith))
    (λ l. ap (λ b. b / 2 ^ (i % 8) % 2) (get_or_past (bytes_of f n) (i / 8) 0 (omega (arith, length-map-range_with_len (byte_at f n) 0 (bytes_for n)))) ∙ ap (λ x. x % 2) (zero-div (2 ^ (i % 8))))
    (cases_lt (i / 8) (bytes_for n))
