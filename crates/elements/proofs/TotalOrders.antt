-- The order of the keys of floats is IEEE 754 totalOrder. Assumes nothing.
-- The magnitude of a pattern is what is left of it without the sign bit. The keys order patterns by sign and magnitude, `key_at_most`;
-- absolute values grow with magnitudes, `size_grows`; a NaN's magnitude is above that of each number, `nan_out`.
use Rattle.std.proofs.Common.{◌≡◌, ℕ, zero, suc, ◌+◌, ◌-◌, ◌*◌, ◌/◌, ◌%◌, ◌^◌, ◌<◌, ◌≤◌, Bool, true, false, cond, not, ◌&&◌, eqb, ltb, leb, ◌⊎◌, ℤ, pos, negsuc, neg_ℤ, ◌<ℤ◌, sym, refl, ap, ◌∙◌, subst, inl, inr, ⊎_elim, mod-eq_of_lt, mul_assoc, mul-lt-mul_of_pos_right, arith, lit<}
use native.Mathlib.Nat.{pow-succ', mod-eq-sub-mod, pow-le-pow_right}
use lib.Pow.{mod-mod-pow}
use Rattle.std.proofs.lemmas.Nat.{pow_pos, pow_below, mul-le, div-add-mod', mod_below, shr_below}
use Rattle.std.proofs.lemmas.Int.{ints}
use Rattle.std.proofs.lemmas.Bool.{ltb-true, ltb-false, leb-true, leb-false, eqb-true, eqb-false, not-true, and_parts, lt-ltb, le-ltb, le-leb, lt-leb, ne_eqb, cond-false, cases_lt, cases_order}
use Rattle.std.proofs.lemmas.Bool.Decides.{nat_tests}
use Rattle.std.specs.Ordering.{is_le, int_cmp}
use Rattle.elements.specs.Keys.{sign_bit, key_by}
use Rattle.elements.proofs.KeyForms.{doubled}
use Rattle.elements.specs.TotalOrder.{KeysAreTotalOrder, TotalOrder, Number, NaN, negative, exponent, significand, top_exponent, is_quiet, payload, absolute, value, key_le}

-- ---- powers of two

-- the low k bits of the low j
low_bits : (x j k : ℕ) → k ≤ j → x % 2 ^ j % 2 ^ k ≡ x % 2 ^ k
low_bits x j k h =
    let e : j ≡ j - k + k = omega arith in
    ap (λ i. x % 2 ^ i % 2 ^ k) e ∙ mod-mod-pow x (j - k) k

-- without its highest bit H
high_off : (H x : ℕ) → H ≤ x → x < 2 * H → x % H ≡ x - H
high_off H x l h =
    let k : x - H < H = omega arith in
    mod-eq-sub-mod l ∙ mod-eq_of_lt k

-- ---- the order by sign and magnitude. The sign is true for a negative pattern

-- whether sign s and magnitude m are at most sign t and magnitude n
abbrev at_most : Bool → Bool → ℕ → ℕ → Bool
at_most false false m n = leb m n
at_most false true m n = false
at_most true false m n = true
at_most true true m n = leb n m

-- sign s and magnitude m are strictly below sign t and magnitude n
abbrev Under : Bool → Bool → ℕ → ℕ → Type 0
Under false false m n = m < n
Under false true m n = ⊥
Under true false m n = Unit
Under true true m n = n < m

-- what is strictly below is at most the other, and not the other way round
under : (s t : Bool) (m n : ℕ) → Under s t m n → (at_most s t m n ≡ true) × (at_most t s n m ≡ false)
under false false m n h = (le-leb m n (omega arith), lt-leb n m h)
under false true m n h = absurd h
under true false m n h = (refl, refl)
under true true m n h = (le-leb n m (omega arith), lt-leb m n h)

-- each is at most itself
at_most_itself : (s : Bool) (m : ℕ) → at_most s s m m ≡ true
at_most_itself false m = le-leb m m (omega arith)
at_most_itself true m = le-leb m m (omega arith)

-- a negative pattern of greater magnitude is below the other, whatever the sign of that
out_below : (t : Bool) (m n : ℕ) → n < m → Under true t m n
out_below false m n h = tt
out_below true m n h = h

-- a positive pattern of greater magnitude is above the other
out_above : (s : Bool) (m n : ℕ) → m < n → Under s false m n
out_above false m n h = h
out_above true m n h = tt

-- measures a and b that tell the order of m and n serve in their place
under_like : (s t : Bool) (a b m n : ℕ) → (a < b → m < n) → (b < a → n < m) → Under s t a b → Under s t m n
under_like false false a b m n f g h = f h
under_like false true a b m n f g h = h
under_like true false a b m n f g h = tt
under_like true true a b m n f g h = g h

-- ---- keys and patterns, where H is the sign bit

-- the order of two keys with clear sign bits, and of two with set ones
rank_clear : (m n : ℕ) → is_le (int_cmp (pos m) (pos n)) ≡ leb m n
rank_clear m n = grind (arith, nat_tests)

rank_set : (m n : ℕ) → is_le (int_cmp (negsuc m) (negsuc n)) ≡ leb n m
rank_set m n = grind (arith, nat_tests)

-- the order of two keys is that by sign and magnitude
keys : (H x y : ℕ) (a b : Bool) → ltb x H ≡ a → ltb y H ≡ b → x < 2 * H → y < 2 * H → is_le (int_cmp (cond a (pos x) (negsuc (x - H))) (cond b (pos y) (negsuc (y - H)))) ≡ at_most (not a) (not b) (x % H) (y % H)
keys H x y true true p q h k = rw (mod-eq_of_lt (ltb-true x H p), mod-eq_of_lt (ltb-true y H q), rank_clear)
keys H x y true false p q h k = refl
keys H x y false true p q h k = refl
keys H x y false false p q h k = rw (high_off H x (ltb-false x H p) h, high_off H y (ltb-false y H q) k, rank_set)

-- a pattern is its sign and its magnitude
whole : (H x : ℕ) (a : Bool) → ltb x H ≡ a → x < 2 * H → x ≡ cond (not a) H 0 + x % H
whole H x true p h = omega (arith, mod-eq_of_lt (ltb-true x H p))
whole H x false p h = omega (arith, ltb-false x H p, high_off H x (ltb-false x H p) h)

-- ---- the absolute value grows with the magnitude. T is 2 to the number of bits of a significand

-- the absolute value from the exponent e and the significand f
abbrev size : ℕ → ℕ → ℕ → ℕ
size T e f = cond (eqb e 0) f ((T + f) * 2 ^ (e - 1))

size_suc : (T e f : ℕ) → size T (suc e) f ≡ (T + f) * 2 ^ e
size_suc T e f = cond-false (eqb (suc e) 0) f ((T + f) * 2 ^ (suc e - 1)) (ne_eqb (suc e) 0 (λ h. omega arith)) ∙ ap (λ k. (T + f) * 2 ^ k) (omega arith)

-- it is below T * 2 ^ e
size_below : (T e f : ℕ) → f < T → size T e f < T * 2 ^ e
size_below T zero f h = omega arith
size_below T (suc e) f h =
    let l : T + f < T * 2 = omega arith in
    rw (size_suc T e f, pow-succ', ← mul_assoc) (mul-lt-mul_of_pos_right l (pow_pos e))

-- and at the next exponent it is not
size_from : (T e f : ℕ) → T * 2 ^ e ≤ size T (suc e) f
size_from T e f = rw (size_suc T e f) (mul-le T (2 ^ e) (T + f) (2 ^ e) (omega arith) (omega arith))

-- so it grows with the exponent, whatever the significands
size_exponent : (T e d f g : ℕ) → f < T → e < d → size T e f < size T d g
size_exponent T e zero f g h k = omega arith
size_exponent T e (suc d) f g h k = omega (arith, size_below T e f h, size_from T d g, mul-le T (2 ^ e) T (2 ^ d) (omega arith) (pow-le-pow_right (omega arith) (omega arith)))

-- and at one exponent with the significand
size_significand : (T e f g : ℕ) → f < g → size T e f < size T e g
size_significand T zero f g h = h
size_significand T (suc e) f g h =
    let l : T + f < T + g = omega arith in
    rw (size_suc T e f, size_suc T e g) (mul-lt-mul_of_pos_right l (pow_pos e))

-- so it grows with e * T + f
size_parts : (T e d f g : ℕ) → (e ≡ d) ⊎ ((e < d) ⊎ (d < e)) → f < T → g < T → e * T + f < d * T + g → size T e f < size T d g
size_parts T e d f g (inl q) h k l = subst (λ x. size T e f < size T x g) q (size_significand T e f g (omega (arith, ap (λ x. x * T) q)))
size_parts T e d f g (inr (inl q)) h k l = size_exponent T e d f g h q
size_parts T e d f g (inr (inr q)) h k l = absurd (omega (arith, mul-le (d + 1) T e T (omega arith) (omega arith)))

-- the absolute value from the magnitude
abbrev size_of : ℕ → ℕ → ℕ
size_of T m = size T (m / T) (m % T)

size_grows : (T m n : ℕ) → 0 < T → m < n → size_of T m < size_of T n
size_grows T m n p h =
    size_parts T (m / T) (n / T) (m % T) (n % T) (cases_order (m / T) (n / T)) (mod_below m T p) (mod_below n T p) (omega (arith, div-add-mod' m T, div-add-mod' n T))

-- a lesser absolute value has a lesser magnitude
size_lesser : (T m n : ℕ) → 0 < T → size_of T m < size_of T n → m < n
size_lesser T m n p h =
    ⊎_elim
    (λ (e : m ≡ n). omega (arith, ap (size_of T) e))
    (⊎_elim (λ (l : m < n). l) (λ (l : n < m). omega (arith, size_grows T n m p l)))
    (cases_order m n)

-- one absolute value has one magnitude
size_same : (T m n : ℕ) → 0 < T → size_of T m ≡ size_of T n → m ≡ n
size_same T m n p h =
    ⊎_elim
    (λ (e : m ≡ n). e)
    (⊎_elim (λ (l : m < n). omega (arith, size_grows T m n p l)) (λ (l : n < m). omega (arith, size_grows T n m p l)))
    (cases_order m n)

-- ---- values

-- the value of sign s and absolute value a
abbrev signed : Bool → ℕ → ℤ
signed s a = cond s (neg_ℤ (pos a)) (pos a)

-- a lesser value is strictly below, by sign and absolute value
signed_under : (s t : Bool) (a b : ℕ) → signed s a <ℤ signed t b → Under s t a b
signed_under false false a b h = omega (arith, ints)
signed_under false true a b h = omega (arith, ints)
signed_under true false a b h = tt
signed_under true true a b h = omega (arith, ints)

-- one value of one sign has one absolute value
signed_same : (s : Bool) (a b : ℕ) → signed s a ≡ signed s b → a ≡ b
signed_same false a b h = omega (arith, ints)
signed_same true a b h = omega (arith, ints)

-- ---- NaNs, where c is the greatest exponent

-- a NaN has the greatest exponent, and a significand that is not 0
nan_parts : (c e f : ℕ) → (eqb e c && not (eqb f 0)) ≡ true → (e ≡ c) × (0 < f)
nan_parts c e f h =
    let both = and_parts (eqb e c) (not (eqb f 0)) h in
    (eqb-true e c both.0, omega (arith, eqb-false f 0 (not-true (eqb f 0) both.1)))

-- a number's magnitude is at most that of an infinity
number_parts : (T c e f : ℕ) → e ≤ c → f < T → (eqb e c && not (eqb f 0)) ≡ false → e * T + f ≤ c * T
number_parts T c e f l b h =
    ⊎_elim
    (λ (k : e < c). omega (arith, mul-le (e + 1) T c T (omega arith) (omega arith)))
    (λ (k : c ≤ e). let q : e ≡ c = omega arith in let z : f ≡ 0 = grind (arith, nat_tests) in omega (arith, ap (λ k. k * T) q))
    (cases_lt e c)

-- two significands f and g with one highest bit, which is Q or 0, go by what is left without it
by_payload : (A Q f g : ℕ) (b : Bool) → f < 2 * Q → g < 2 * Q → leb Q f ≡ b → leb Q g ≡ b → leb (A + f) (A + g) ≡ leb (f % Q) (g % Q)
by_payload A Q f g true h k p q =
    let l : Q ≤ f = leb-true Q f p in
    let m : Q ≤ g = leb-true Q g q in
    rw (high_off Q f l h, high_off Q g m k) (grind (arith, nat_tests))
by_payload A Q f g false h k p q = rw (mod-eq_of_lt (leb-false Q f p), mod-eq_of_lt (leb-false Q g q)) (grind (arith, nat_tests))

-- ---- the patterns of a format

module _ (width fraction : ℕ) where
  -- short names
  abbrev Fits : ℕ → Type 0
  Fits x = x < 2 ^ (8 * width)

  abbrev H : ℕ
  H = sign_bit width

  abbrev T : ℕ
  T = 2 ^ fraction

  abbrev Q : ℕ
  Q = 2 ^ (fraction - 1)

  abbrev top : ℕ
  top = top_exponent width fraction

  abbrev sign : ℕ → Bool
  sign = negative width

  abbrev mag : ℕ → ℕ
  mag x = x % H

  abbrev expo : ℕ → ℕ
  expo = exponent width fraction

  abbrev sig : ℕ → ℕ
  sig = significand fraction

  abbrev abs : ℕ → ℕ
  abs = absolute width fraction

  abbrev val : ℕ → ℤ
  val = value width fraction

  module _ (some : 0 < fraction) (room : fraction + 1 < 8 * width) where
    fits_twice : (x : ℕ) → Fits x → x < 2 * H
    fits_twice x h = omega (arith, doubled (8 * width) (omega arith))

    -- the keys go by sign and magnitude
    key_at_most : (x y : ℕ) (s t : Bool) → Fits x → Fits y → sign x ≡ s → sign y ≡ t → key_le width x y ≡ at_most s t (mag x) (mag y)
    unfolding key_by
    key_at_most x y s t h k p q = keys H x y (ltb x H) (ltb y H) refl refl (fits_twice x h) (fits_twice y k) ∙ (λ i. at_most (p i) (q i) (mag x) (mag y))

    strictly : (x y : ℕ) (s t : Bool) → Fits x → Fits y → sign x ≡ s → sign y ≡ t → Under s t (mag x) (mag y) → (key_le width x y ≡ true) × (key_le width y x ≡ false)
    strictly x y s t h k p q u =
        let both = under s t (mag x) (mag y) u in
        (key_at_most x y s t h k p q ∙ both.0, key_at_most y x t s k h q p ∙ both.1)

    -- −0 and +0
    zeros : (key_le width H 0 ≡ true) × (key_le width 0 H ≡ false)
    zeros =
        let h : Fits H = pow_below (8 * width - 1) (8 * width) (omega arith) in
        let p : sign H ≡ true = ap not (le-ltb H H (omega arith)) in
        let q : sign 0 ≡ false = ap not (lt-ltb 0 H (pow_pos (8 * width - 1))) in
        strictly H 0 true false h (pow_pos (8 * width)) p q tt

    -- the exponent and the significand make up the magnitude
    sig_is : (x : ℕ) → mag x % T ≡ sig x
    sig_is x = low_bits x (8 * width - 1) fraction (omega arith)

    sig_below : (x : ℕ) → sig x < T
    sig_below x = mod_below x T (pow_pos fraction)

    parts : (x : ℕ) → mag x ≡ expo x * T + sig x
    parts x = omega (arith, sig_is x, div-add-mod' (mag x) T)

    expo_up_to : (x : ℕ) → expo x ≤ top
    expo_up_to x =
        let e : 8 * width - 1 - fraction + fraction ≡ 8 * width - 1 = omega arith in
        let l : mag x < 2 ^ (8 * width - 1 - fraction + fraction) = rw e (mod_below x H (pow_pos (8 * width - 1))) in
        omega (arith, shr_below (mag x) (8 * width - 1 - fraction) fraction l)

    -- numbers go by their values
    abs_is : (x : ℕ) → abs x ≡ size_of T (mag x)
    abs_is x = ap (size T (expo x)) (sym (sig_is x))

    lesser_abs : (x y : ℕ) → abs x < abs y → mag x < mag y
    lesser_abs x y h = size_lesser T (mag x) (mag y) (pow_pos fraction) (omega (arith, abs_is x, abs_is y))

    lesser_value : (x y : ℕ) → val x <ℤ val y → Under (sign x) (sign y) (mag x) (mag y)
    lesser_value x y h = under_like (sign x) (sign y) (abs x) (abs y) (mag x) (mag y) (lesser_abs x y) (lesser_abs y x) (signed_under (sign x) (sign y) (abs x) (abs y) h)

    -- one value of one sign is one pattern
    same_value : (x y : ℕ) → val x ≡ val y → sign x ≡ sign y → mag x ≡ mag y
    same_value x y e p =
        let k : abs x ≡ abs y = signed_same (sign x) (abs x) (abs y) (e ∙ ap (λ s. signed s (abs y)) (sym p)) in
        size_same T (mag x) (mag y) (pow_pos fraction) (sym (abs_is x) ∙ k ∙ abs_is y)

    datum : (x y : ℕ) → Fits x → Fits y → val x ≡ val y → sign x ≡ sign y → x ≡ y
    datum x y h k e p = whole H x (ltb x H) refl (fits_twice x h) ∙ (λ i. cond (p i) H 0 + same_value x y e p i) ∙ sym (whole H y (ltb y H) refl (fits_twice y k))

    -- a NaN is farther out than a number
    nan_mag : (x : ℕ) → NaN width fraction x → mag x ≡ top * T + sig x
    nan_mag x n = parts x ∙ ap (λ e. e * T + sig x) (nan_parts top (expo x) (sig x) n.is).0

    nan_out : (x y : ℕ) → Number width fraction x → NaN width fraction y → mag x < mag y
    nan_out x y n m =
        omega (arith, parts x, number_parts T top (expo x) (sig x) (expo_up_to x) (sig_below x) n.is, nan_mag y m, (nan_parts top (expo y) (sig y) m.is).1)

    -- a quiet NaN is farther out than a signaling one
    quiet_out : (x y : ℕ) → NaN width fraction x → NaN width fraction y → is_quiet fraction x ≡ false → is_quiet fraction y ≡ true → mag x < mag y
    quiet_out x y n m p q = omega (arith, nan_mag x n, nan_mag y m, leb-false Q (sig x) p, leb-true Q (sig y) q)

    -- the others go by their payloads
    payload_is : (x : ℕ) → sig x % Q ≡ payload fraction x
    payload_is x = low_bits x fraction (fraction - 1) (omega arith)

    sig_twice : (x : ℕ) → sig x < 2 * Q
    sig_twice x = omega (arith, doubled fraction some, sig_below x)

    payload_order : (x y : ℕ) → NaN width fraction x → NaN width fraction y → is_quiet fraction x ≡ is_quiet fraction y → leb (mag x) (mag y) ≡ leb (payload fraction x) (payload fraction y)
    payload_order x y n m e =
        (λ i. leb (nan_mag x n i) (nan_mag y m i))
        ∙ by_payload (top * T) Q (sig x) (sig y) (is_quiet fraction y) (sig_twice x) (sig_twice y) e refl
        ∙ (λ i. leb (payload_is x i) (payload_is y i))

    total_order : TotalOrder width fraction (key_le width)
    total_order = record {
      lesser = λ x y n m h. (strictly x y (sign x) (sign y) n.fits m.fits refl refl (lesser_value x y h)).0;
      greater = λ x y n m h. (strictly y x (sign y) (sign x) m.fits n.fits refl refl (lesser_value y x h)).1;
      zeros = zeros.0;
      zeros_back = zeros.1;
      datum = λ x y n m. datum x y n.fits m.fits;
      itself = λ x h. key_at_most x x (sign x) (sign x) h h refl refl ∙ at_most_itself (sign x) (mag x);
      negative_nan = λ x y n m p. strictly x y true (sign y) n.fits m.fits p refl (out_below (sign y) (mag x) (mag y) (nan_out y x m n));
      positive_nan = λ x y n m p. strictly x y (sign x) false n.fits m.fits refl p (out_above (sign x) (mag x) (mag y) (nan_out x y n m));
      nan_signs = λ x y n m p q. strictly x y true false n.fits m.fits p q tt;
      signaling = λ x y n m p q a b. strictly x y false false n.fits m.fits p q (quiet_out x y n m a b);
      signaling_negative = λ x y n m p q a b. let both = strictly y x true true m.fits n.fits q p (quiet_out x y n m a b) in (both.1, both.0);
      payloads = λ x y n m p q e. key_at_most x y false false n.fits m.fits p q ∙ payload_order x y n m e;
      payloads_negative = λ x y n m p q e. key_at_most x y true true n.fits m.fits p q ∙ payload_order y x m n (sym e);
    }

pub stands : KeysAreTotalOrder
stands = record {
  binary16 = total_order 2 10 (lit< tt) (lit< tt);
  binary32 = total_order 4 23 (lit< tt) (lit< tt);
  binary64 = total_order 8 52 (lit< tt) (lit< tt);
}
