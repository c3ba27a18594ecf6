-- Vectors of eight lanes. Assumes nothing.
use Rattle.std.proofs.Common.{◌≡◌, ℕ, zero, suc, ◌+◌, ◌-◌, ◌*◌, ◌/◌, ◌%◌, ◌^◌, ◌<◌, ◌≤◌, Bool, true, false, cond, ltb, ◌⊎◌, List, [], ◌∷◌, map, length, get_or, take, drop, ℤ, pos, ◌+ℤ◌, ◌-ℤ◌, sym, refl, ap, ◌∙◌, subst, ap₂, inl, inr, ⊎_elim, mod-eq_of_lt, mul-one, mul-add, arith, w8, w32, Fits, rules}
use lib.Bits.{bit_xor, xor_zero_l, xor_zero_r, xor_self, xor_block, xor_lt}
use lib.Lanes.{zip2, mask_l, top, chunk, digits_l, number_l, Each1}
use mir.Val.{bits as width_bits, hbits}
use Rattle.std.proofs.lemmas.Nat.{mul-le, pow-add, pow_pos, mod_below, shr_below}
use Rattle.std.proofs.lemmas.List.FromFn.{fill_by_all, get_or-map-range_with_len}
use Rattle.std.proofs.lemmas.Simd.{tops_compared, mask_l-mod, length-zip2, get_or-zip2, get_or-chunk, get_or_wider, length-chunk, chunk-fits, below_from_Fits}
use Rattle.std.proofs.lemmas.List.{take-take, drop-drop, drop_more, drop-take}
use Rattle.std.proofs.lemmas.Int.{ints}
use Rattle.std.proofs.lemmas.Bool.{cases_lt, cond-true, cond-false, lt-ltb, le-ltb, ltb-false}
use Rattle.std.proofs.lemmas.Bool.Decides.{nat_tests}
use Rattle.std.specs.Ordering.{int_cmp, is_lt}
use Rattle.rows.specs.Bits.{bits, digit}
use Rattle.rows.proofs.BitLaws.{bits_same}
use Rattle.elements.specs.declared.ptype.Class.TheVariants.{Unsigned, Signed, Float}
use Rattle.elements.specs.declared.ptype.Class.{Class}
use Rattle.elements.specs.declared.ptype.PType.{PType}
use Rattle.elements.specs.Kinds.{class_of, width_of}
use Rattle.elements.specs.Keys.{key_by, key_of, sign_bit, low_bytes}
use Rattle.elements.specs.Reading.{little_endian, pattern_at}
use Rattle.elements.proofs.KeyForms.{two_signs, float_form}
use Rattle.numbers.specs.Eights.{element, eight_of, offset_by, offset}

-- ---- masks

-- a mask of lanes
bits_mask : (ms : List Bool) → mask_l ms ≡ bits (λ i. get_or ms i false) 0 (length ms)
unfolding bits
bits_mask [] = refl
bits_mask (m ∷ ms) =
    let move : bits (λ i. get_or (m ∷ ms) i false) (0 + 1) (length ms) ≡ bits (λ i. get_or ms i false) 0 (length ms) =
    bits_same (λ i. get_or (m ∷ ms) i false) (λ i. get_or ms i false) (0 + 1) 0 (length ms) (λ k l. let e : 0 + 1 + k ≡ suc k = omega arith in let d : k ≡ 0 + k = omega arith in ap (λ j. get_or (m ∷ ms) j false) e ∙ ap (λ j. get_or ms j false) d) in
    ap (λ r. digit m + 2 * r) (bits_mask ms ∙ sym move)

-- the mask of a comparison t of two vectors
pub mask_bits : (t : ℕ → ℕ → Bool) (xs ys : List ℕ) (f : ℕ → Bool) → length xs ≡ 8 → length ys ≡ 8
    → ((b : ℕ) → b < 8 → t (get_or xs b 0) (get_or ys b 0) ≡ f b)
    → mask_l (map (top (hbits w32)) (zip2 (λ a b. cond (t a b) (2 ^ width_bits w32 - 1) 0) xs ys)) % 2 ^ 64 % 256 ≡ bits f 0 8
mask_bits t xs ys f hx hy h =
    let ms = zip2 t xs ys in
    let long : length ms ≡ 8 = length-zip2 t xs ys (hx ∙ sym hy) ∙ hx in
    let mask : mask_l (map (top (hbits w32)) (zip2 (λ a b. cond (t a b) (2 ^ width_bits w32 - 1) 0) xs ys)) ≡ mask_l ms = ap mask_l (tops_compared w32 t xs ys) in
    let low : mask_l ms % 2 ^ 64 ≡ mask_l ms = mask_l-mod ms 64 (omega arith) in
    let byte : mask_l ms % 2 ^ 8 ≡ mask_l ms = mask_l-mod ms 8 (omega arith) in
    ap (λ z. z % 2 ^ 64 % 256) mask ∙ ap (λ z. z % 256) low ∙ byte ∙ bits_mask ms ∙ ap (bits (λ i. get_or ms i false) 0) long
    ∙ bits_same (λ i. get_or ms i false) f 0 0 8
    (λ k l.
    let e : 0 + k ≡ k = omega arith in
    ap (λ i. get_or ms i false) e ∙ get_or-zip2 t xs ys k 0 0 false (omega arith) (omega arith) ∙ h k l ∙ ap f (sym e))

-- a lane of eight
pub lane_of : (f : ℕ → ℕ) (b : ℕ) → b < 8 → get_or (eight_of f) b 0 ≡ f b
lane_of f b h = get_or-map-range_with_len f 0 8 b b 0 h (omega arith)

-- lanes by what they are as numbers with a sign
pub lanes_of : (r : List ℕ) (f : ℕ → ℕ) (k : ℕ → ℤ) → r ≡ eight_of f → ((b : ℕ) → pos (f b) ≡ k b) → (length r ≡ 8) × ((b : ℕ) → b < 8 → pos (get_or r b 0) ≡ k b)
lanes_of r f k e h = (ap length e, λ b l. ap (λ xs. pos (get_or xs b 0)) e ∙ ap pos (lane_of f b l) ∙ h b)

-- ---- what is loaded

-- a part of a part
part_of : (l : List ℕ) (p n i k : ℕ) → i + k ≤ n → take k (drop i (take n (drop p l))) ≡ take k (drop (p + i) l)
part_of l p n i k h =
    let whole : n ≡ i + (n - i) = omega arith in
    ap (λ m. take k (drop i (take m (drop p l)))) whole ∙ ap (take k) (drop-take i (n - i) (drop p l)) ∙ take-take k (n - i) (drop i (drop p l)) (omega arith) ∙ ap (take k) (drop-drop i p l)

same_number : (xs : List ℕ) → number_l 256 xs ≡ little_endian xs
same_number [] = refl
same_number (x ∷ xs) = ap (λ n. x + 256 * n) (same_number xs)

module _ (l : List ℕ) (typed : (i : ℕ) → Fits w8 (get_or l i 0)) where
  below : (w : ℕ) (xs : List ℕ) → Each1 (λ x. x < 2 ^ 8) (take w xs) → little_endian (take w xs) < 2 ^ (8 * w)
  below zero xs h = omega arith
  below (suc w) [] h = pow_pos (8 * suc w)
  below (suc w) (x ∷ xs) h =
      let e : 8 * suc w ≡ 8 + 8 * w = omega arith in
      let whole : 2 ^ (8 * suc w) ≡ 256 * 2 ^ (8 * w) = ap (λ k. 2 ^ k) e ∙ pow-add 2 8 (8 * w) in
      omega (arith, whole, h.0, below w xs h.1)

  -- a pattern is below 2 to its bits
  pub pattern_below : (w s : ℕ) → pattern_at w l s < 2 ^ (8 * w)
  pattern_below w s = below w (drop s l) (below_from_Fits w8 (chunk s w l) (chunk-fits w8 s w l typed))

  pub low_pattern : (w s : ℕ) → low_bytes w (pattern_at w l s) ≡ pattern_at w l s
  low_pattern w s = mod-eq_of_lt (pattern_below w s)

  -- lane b of a load of elements of w bytes
  pub lane : (w q n p b : ℕ) → q ≡ 256 ^ w → n ≡ w * 8 → b < 8 → get_or (digits_l q 8 (number_l 256 (chunk p n l))) b 0 ≡ pattern_at w l (p + w * b)
  lane w q n p b e long h =
      get_or_wider 256 w q 8 (chunk p n l) b e (below_from_Fits w8 (chunk p n l) (chunk-fits w8 p n l typed)) h
      ∙ ap (number_l 256) (part_of l p n (w * b) w (omega (arith, mul-le w (b + 1) w 8 (omega arith) (omega arith), mul-add w b 1, mul-one w))) ∙ same_number (take w (drop (p + w * b) l))

  -- eight elements of two or four bytes that were loaded
  pub loaded : (w q n p : ℕ) → q ≡ 256 ^ w → n ≡ w * 8 → digits_l q 8 (number_l 256 (chunk p n l)) ≡ eight_of (λ b. low_bytes w (element w l p false b))
  loaded w q n p e long =
      fill_by_all (λ b. low_bytes w (element w l p false b)) (digits_l q 8 (number_l 256 (chunk p n l))) 8 0 refl (λ b h. lane w q n p b e long h ∙ sym (low_pattern w (p + w * b)))

  -- and of one byte
  pub loaded_bytes : (p : ℕ) → p + 8 ≤ length l → chunk p 8 l ≡ eight_of (λ b. low_bytes 1 (element 1 l p false b))
  loaded_bytes p fits =
      fill_by_all (λ b. low_bytes 1 (element 1 l p false b)) (chunk p 8 l) 8 0 (length-chunk p 8 l fits)
      (λ b h.
      let one : pattern_at 1 l (p + b) ≡ get_or l (p + b) 0 = ap (λ xs. little_endian (take 1 xs)) (drop_more l (p + b) 0 (omega arith)) ∙ omega arith in
      let at : p + b ≡ p + 1 * b = omega arith in
      get_or-chunk p 8 l b 0 h ∙ sym one ∙ ap (pattern_at 1 l) at ∙ sym (low_pattern 1 (p + 1 * b)))

-- ---- numbers in the order of the keys

-- the order of numbers is that of the keys that they are away from by one offset
pub shifted_lt : (x y o : ℕ) (u v : ℤ) → pos x ≡ u +ℤ pos o → pos y ≡ v +ℤ pos o → ltb x y ≡ is_lt (int_cmp u v)
shifted_lt x y o u v h k = grind (arith, ints, nat_tests)

-- the sign bit turned
xor_sign : (k z : ℕ) → z < 2 * 2 ^ k → bit_xor z (2 ^ k) ≡ cond (ltb z (2 ^ k)) (z + 2 ^ k) (z - 2 ^ k)
xor_sign k z h =
    let one : 2 ^ k ≡ 1 * 2 ^ k + 0 = omega arith in
    ⊎_elim
    (λ (l : z < 2 ^ k).
    let split : z ≡ 0 * 2 ^ k + z = omega arith in
    let done : bit_xor z (2 ^ k) ≡ bit_xor 0 1 * 2 ^ k + bit_xor z 0 = ap₂ bit_xor split one ∙ xor_block k 0 1 z 0 l (pow_pos k) in
    omega (arith, done, ap (λ y. y * 2 ^ k) (xor_zero_l 1), xor_zero_r z, cond-true (ltb z (2 ^ k)) (z + 2 ^ k) (z - 2 ^ k) (lt-ltb z (2 ^ k) l)))
    (λ (l : 2 ^ k ≤ z).
    let m = z - 2 ^ k in
    let split : z ≡ 1 * 2 ^ k + m = omega arith in
    let done : bit_xor z (2 ^ k) ≡ bit_xor 1 1 * 2 ^ k + bit_xor m 0 = ap₂ bit_xor split one ∙ xor_block k 1 1 m 0 (omega arith) (pow_pos k) in
    omega (arith, done, ap (λ y. y * 2 ^ k) (xor_self 1), xor_zero_r m, cond-false (ltb z (2 ^ k)) (z + 2 ^ k) (z - 2 ^ k) (le-ltb z (2 ^ k) l)))
    (cases_lt z (2 ^ k))

pub unsigned_rank : (w n : ℕ) → pos n ≡ key_by Unsigned w n +ℤ pos 0
unfolding key_by
unsigned_rank w n = omega (arith, ints)

by_sign : (a : Bool) (z S A : ℕ) → ltb z S ≡ a → A ≡ 2 * S → z < A → pos (cond a (z + S) (z - S)) ≡ cond a (pos z) (pos z -ℤ pos A) +ℤ pos S
by_sign true z S A p e h = omega (arith, ints)
by_sign false z S A p e h = let l : S ≤ z = ltb-false z S p in omega (arith, ints)

pub signed_rank : (w z : ℕ) → 0 < w → z < 2 ^ (8 * w) → pos (bit_xor z (sign_bit w)) ≡ key_by Signed w z +ℤ pos (sign_bit w)
unfolding key_by
signed_rank w z some h =
    ap pos (xor_sign (8 * w - 1) z (subst (λ a. z < a) (two_signs w some) h)) ∙ by_sign (ltb z (sign_bit w)) z (sign_bit w) (2 ^ (8 * w)) refl (two_signs w some) h

-- the bits to flip, of a number in the lowest w bytes of n bits
abbrev pub flip : ℕ → ℕ → ℕ → ℕ
flip n w m = (0 + (2 ^ n - m / 2 ^ (8 * w - 1))) % 2 ^ n / 2 ^ (n - (8 * w - 1))

narrow_flip : (w m : ℕ) → (w ≡ 1) ⊎ ((w ≡ 2) ⊎ (w ≡ 4)) → m < 2 ^ (8 * w) → flip 32 w m ≡ flip 64 w m
narrow_flip w m (inl e) = subst (λ k. m < 2 ^ (8 * k) → flip 32 k m ≡ flip 64 k m) (sym e) (λ h. omega arith)
narrow_flip w m (inr (inl e)) = subst (λ k. m < 2 ^ (8 * k) → flip 32 k m ≡ flip 64 k m) (sym e) (λ h. omega arith)
narrow_flip w m (inr (inr e)) = subst (λ k. m < 2 ^ (8 * k) → flip 32 k m ≡ flip 64 k m) (sym e) (λ h. omega arith)

pub float_rank : (w m : ℕ) → (w ≡ 1) ⊎ ((w ≡ 2) ⊎ (w ≡ 4)) → 0 < w → w ≤ 4 → m < 2 ^ (8 * w) → pos (bit_xor (bit_xor m (flip 32 w m)) (sign_bit w)) ≡ key_by Float w m +ℤ pos (sign_bit w)
float_rank w m is some most h =
    let f = flip 32 w m in
    let sum : 8 * w - 1 + (32 - (8 * w - 1)) ≡ 32 = omega arith in
    let wide : (0 + (2 ^ 32 - m / 2 ^ (8 * w - 1))) % 2 ^ 32 < 2 ^ (8 * w - 1 + (32 - (8 * w - 1))) = rw sum (mod_below _ (2 ^ 32) (pow_pos 32)) in
    let small : f < 2 ^ (8 * w) = omega (arith, two_signs w some, shr_below _ (8 * w - 1) (32 - (8 * w - 1)) wide) in
    let fits : bit_xor m f < 2 ^ (8 * w) = xor_lt (8 * w) m f h small in
    signed_rank w (bit_xor m f) some fits
    ∙ ap (λ k. k +ℤ pos (sign_bit w)) (ap (key_by Signed w) (sym (mod-eq_of_lt fits)) ∙ float_form w m f some (omega arith) h (narrow_flip w m is h))

-- the widths below eight
pub narrow : (p : PType) → width_of p < 8 → (width_of p ≡ 1) ⊎ ((width_of p ≡ 2) ⊎ (width_of p ≡ 4))
narrow p h = search rules

-- at the class of a kind
pub at_class : (p : PType) (c : Class) (m x : ℕ) → class_of p ≡ c → pos x ≡ key_by c (width_of p) (low_bytes (width_of p) m) +ℤ pos (offset_by c (width_of p)) → pos x ≡ key_of p m +ℤ pos (offset p)
unfolding key_of
at_class p c m x e h = h ∙ ap (λ k. key_by k (width_of p) (low_bytes (width_of p) m) +ℤ pos (offset_by k (width_of p))) (sym e)
