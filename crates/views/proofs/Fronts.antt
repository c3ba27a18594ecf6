-- Byte strings by their fronts. Assumes nothing.
use Rattle.std.proofs.Common.{◌≡◌, ℕ, zero, suc, ◌+◌, ◌-◌, ◌≤◌, min, eqb, List, [], ◌∷◌, ◌++◌, length, take, drop, Ordering, Less, Equal, Greater, sym, refl, ap, ◌∙◌, ap₂, true≢false, arith}
use Rattle.std.proofs.lemmas.List.{take-append-drop, take-take, drop-take, length-drop, length-take}
use Rattle.std.proofs.lemmas.Bool.{ne_eqb}
use Rattle.std.specs.Ordering.{is_eq, is_gt, is_lt, nat_cmp, ordering_then}
use Rattle.std.proofs.lemmas.Map.Lookups.{exact_bytes}
use Rattle.std.specs.Int.Digits.{number_from_digits, AllBelowBase}
use Rattle.elements.specs.Reading.{le_bytes, pattern_at}
use Rattle.elements.proofs.LittleEndian.{le_under, pattern_bytes}
use Rattle.views.specs.Window.{byte_order, window}
use Rattle.views.proofs.Decisions.{lex_shared, differ_answer}
use Rattle.views.proofs.Faults.{window_take}
use Rattle.views.proofs.Windows.{lexed, by_lex, lex_differ, numbers, rank_lt, rank_eq, rank_gt, rank_suc}

-- fronts that are one leave the order to what follows
pub lex_front : (k : ℕ) (xs ys : List ℕ) → take k xs ≡ take k ys → lexed xs ys ≡ lexed (drop k xs) (drop k ys)
lex_front k xs ys e =
    ap₂ lexed (sym (take-append-drop k xs)) (sym (take-append-drop k ys) ∙ ap (λ f. f ++ drop k ys) (sym e)) ∙ lex_shared (take k xs) (drop k xs) (drop k ys)

-- fronts that differ decide
pub lex_first : (n : ℕ) (xs ys : List ℕ) → n ≤ length xs → n ≤ length ys → (lexed (take n xs) (take n ys) ≡ Equal → ⊥) → lexed xs ys ≡ lexed (take n xs) (take n ys)
lex_first n xs ys h k d =
    let e : lexed (window n xs) (window n ys) ≡ lexed (take n xs) (take n ys) = ap₂ lexed (window_take n xs h) (window_take n ys k) in
    lex_differ n xs ys (λ t. d (sym e ∙ t)) ∙ e

-- where all that both have is one, the lengths decide
pub lex_common : (n : ℕ) (xs ys : List ℕ) → n ≡ min (length xs) (length ys) → take n xs ≡ take n ys → lexed xs ys ≡ nat_cmp (length xs) (length ys)
lex_common n [] [] e t = sym (rank_eq 0 0 refl)
lex_common n [] (y ∷ ys) e t = sym (rank_lt 0 (suc (length ys)) (omega arith))
lex_common n (x ∷ xs) [] e t = sym (rank_gt (suc (length xs)) 0 (omega arith))
lex_common zero (x ∷ xs) (y ∷ ys) e t = absurd (omega arith)
lex_common (suc n) (x ∷ xs) (y ∷ ys) e t =
    let p : x ≡ y = cc in
    let q : take n xs ≡ take n ys = cc in
    ap (λ o. ordering_then o (lexed xs ys)) (rank_eq x y p) ∙ lex_common n xs ys (omega arith) q ∙ sym (rank_suc (length xs) (length ys))

-- ---- eight bytes as a number

pub by_word : (xs ys : List ℕ) (at : ℕ) → AllBelowBase 256 xs → AllBelowBase 256 ys → at + 8 ≤ length xs → at + 8 ≤ length ys
    → nat_cmp (number_from_digits 256 (le_bytes 8 (pattern_at 8 xs at))) (number_from_digits 256 (le_bytes 8 (pattern_at 8 ys at))) ≡ byte_order (take 8 (drop at xs)) (take 8 (drop at ys))
by_word xs ys at u v h k =
    numbers (le_bytes 8 (pattern_at 8 xs at)) (le_bytes 8 (pattern_at 8 ys at)) (le_under 8 (pattern_at 8 xs at)) (le_under 8 (pattern_at 8 ys at)) refl
    ∙ ap₂ lexed (pattern_bytes 8 xs at u h) (pattern_bytes 8 ys at v k) ∙ sym (by_lex (take 8 (drop at xs)) (take 8 (drop at ys)))

-- ---- the first n bytes, w at a time

take_add : (k m : ℕ) (xs : List ℕ) → take (k + m) xs ≡ take k xs ++ take m (drop k xs)
take_add k m xs = sym (take-append-drop k (take (k + m) xs)) ∙ ap₂ ◌++◌ (take-take k (k + m) xs (omega arith)) (drop-take k m xs)

module _ (w n : ℕ) (xs ys : List ℕ) (hx : n ≤ length xs) (hy : n ≤ length ys) where
  front : (k m : ℕ) → k + m ≤ n → (zs : List ℕ) → take m (drop k (take n zs)) ≡ take m (drop k zs)
  front k m h zs =
      let e : k + (n - k) ≡ n = omega arith in
      ap (λ j. take m (drop k (take j zs))) (sym e) ∙ ap (take m) (drop-take k (n - k) zs) ∙ take-take m (n - k) (drop k zs) (omega arith)

  same_front : (k : ℕ) → k ≤ n → take k xs ≡ take k ys → take k (take n xs) ≡ take k (take n ys)
  same_front k h e = take-take k n xs h ∙ e ∙ sym (take-take k n ys h)

  after : (k : ℕ) → k ≤ n → take k xs ≡ take k ys → byte_order (take n xs) (take n ys) ≡ lexed (drop k (take n xs)) (drop k (take n ys))
  after k h e = by_lex (take n xs) (take n ys) ∙ lex_front k (take n xs) (take n ys) (same_front k h e)

  -- a word that differs, after bytes that are one
  pub stops : (k : ℕ) (r : Ordering) → k + w ≤ n → take k xs ≡ take k ys → r ≡ byte_order (take w (drop k xs)) (take w (drop k ys)) → (r ≡ Equal → ⊥) → r ≡ byte_order (take n xs) (take n ys)
  stops k r h e is d =
      let words : byte_order (take w (drop k xs)) (take w (drop k ys)) ≡ lexed (take w (drop k (take n xs))) (take w (drop k (take n ys))) = by_lex (take w (drop k xs)) (take w (drop k ys)) ∙ ap₂ lexed (sym (front k w h xs)) (sym (front k w h ys)) in
      is ∙ words
      ∙ sym (lex_first w (drop k (take n xs)) (drop k (take n ys)) (omega (arith, length-drop k (take n xs), length-take n xs)) (omega (arith, length-drop k (take n ys), length-take n ys)) (λ t. d (is ∙ words ∙ t)))
      ∙ sym (after k (omega arith) e)

  -- a word that ties: so many more bytes are one
  pub goes_on : (k : ℕ) → k + w ≤ n → take k xs ≡ take k ys → Equal ≡ byte_order (take w (drop k xs)) (take w (drop k ys)) → take (k + w) xs ≡ take (k + w) ys
  goes_on k h e t = take_add k w xs ∙ ap₂ ◌++◌ e (exact_bytes (take w (drop k xs)) (take w (drop k ys)) (sym (by_lex (take w (drop k xs)) (take w (drop k ys))) ∙ sym t)) ∙ sym (take_add k w ys)

  -- the last word, behind bytes that are one
  pub ends : (k at : ℕ) (r : Ordering) → k + w ≡ n → k ≤ at → take at xs ≡ take at ys → r ≡ byte_order (take w (drop k xs)) (take w (drop k ys)) → r ≡ byte_order (take n xs) (take n ys)
  ends k at r h l e is =
      let e' : take k xs ≡ take k ys = sym (take-take k at xs l) ∙ ap (take k) e ∙ take-take k at ys l in
      is ∙ by_lex (take w (drop k xs)) (take w (drop k ys))
      ∙ ap₂ lexed (sym (last xs)) (sym (last ys)) ∙ sym (after k (omega arith) e')
    where
      last : (zs : List ℕ) → drop k (take n zs) ≡ take w (drop k zs)
      last zs = ap (λ j. drop k (take j zs)) (sym h) ∙ drop-take k w zs

-- two parts, of which the second may overlap the first
pub two_parts : (a b k : ℕ) (xs ys : List ℕ) (p q : Ordering) → a + b ≤ length xs → a + b ≤ length ys → k ≤ a → p ≡ byte_order (take a xs) (take a ys) → q ≡ byte_order (take (a + b - k) (drop k xs)) (take (a + b - k) (drop k ys)) → ordering_then p q ≡ byte_order (take (a + b) xs) (take (a + b) ys)
two_parts a b k xs ys p q hx hy l is_p is_q = by p (is_p ∙ by_lex (take a xs) (take a ys)) ∙ sym (by_lex (take (a + b) xs) (take (a + b) ys))
  where
    start : (zs : List ℕ) → take a (take (a + b) zs) ≡ take a zs
    start zs = take-take a (a + b) zs (omega arith)

    rest : (zs : List ℕ) → drop k (take (a + b) zs) ≡ take (a + b - k) (drop k zs)
    rest zs = let e : k + (a + b - k) ≡ a + b = omega arith in ap (λ j. drop k (take j zs)) (sym e) ∙ drop-take k (a + b - k) zs

    first : (o : Ordering) → o ≡ lexed (take a xs) (take a ys) → (o ≡ Equal → ⊥) → o ≡ lexed (take (a + b) xs) (take (a + b) ys)
    first o e d =
        let e' : o ≡ lexed (take a (take (a + b) xs)) (take a (take (a + b) ys)) = e ∙ ap₂ lexed (sym (start xs)) (sym (start ys)) in
        e' ∙ sym (lex_first a (take (a + b) xs) (take (a + b) ys) (omega (arith, length-take (a + b) xs)) (omega (arith, length-take (a + b) ys)) (λ t. d (e' ∙ t)))

    by : (o : Ordering) → o ≡ lexed (take a xs) (take a ys) → ordering_then o q ≡ lexed (take (a + b) xs) (take (a + b) ys)
    by Less e = first Less e (λ t. true≢false (ap is_lt t))
    by Equal e =
        let same : take a xs ≡ take a ys = exact_bytes (take a xs) (take a ys) (sym e) in
        let front : take k (take (a + b) xs) ≡ take k (take (a + b) ys) = take-take k (a + b) xs (omega arith) ∙ sym (take-take k a xs l) ∙ ap (take k) same ∙ take-take k a ys l ∙ sym (take-take k (a + b) ys (omega arith)) in
        is_q ∙ by_lex (take (a + b - k) (drop k xs)) (take (a + b - k) (drop k ys)) ∙ ap₂ lexed (sym (rest xs)) (sym (rest ys)) ∙ sym (lex_front k (take (a + b) xs) (take (a + b) ys) front)
    by Greater e = first Greater e (λ t. true≢false (ap is_gt t))

-- ---- whole strings, by all that both have

pub then_lengths : (n : ℕ) (xs ys : List ℕ) (r sizes : Ordering) → n ≡ min (length xs) (length ys) → r ≡ byte_order (take n xs) (take n ys) → sizes ≡ nat_cmp (length xs) (length ys) → ordering_then r sizes ≡ byte_order xs ys
then_lengths n xs ys r sizes m is s = by r (is ∙ by_lex (take n xs) (take n ys)) ∙ sym (by_lex xs ys)
  where
    first : (o : Ordering) → o ≡ lexed (take n xs) (take n ys) → (o ≡ Equal → ⊥) → o ≡ lexed xs ys
    first o e d = e ∙ sym (lex_first n xs ys (omega arith) (omega arith) (λ t. d (e ∙ t)))

    by : (o : Ordering) → o ≡ lexed (take n xs) (take n ys) → ordering_then o sizes ≡ lexed xs ys
    by Less e = first Less e (λ t. true≢false (ap is_lt t))
    by Equal e = s ∙ sym (lex_common n xs ys m (exact_bytes (take n xs) (take n ys) (sym e)))
    by Greater e = first Greater e (λ t. true≢false (ap is_gt t))

pub other_length : (xs ys : List ℕ) → (length xs ≡ length ys → ⊥) → eqb (length xs) (length ys) ≡ is_eq (byte_order xs ys)
other_length xs ys n = ne_eqb (length xs) (length ys) n ∙ differ_answer xs ys (λ e. n (ap length e))
