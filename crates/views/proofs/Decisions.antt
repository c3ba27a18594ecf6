-- Words answer as the values do that they tell of. Assumes nothing.
use Rattle.std.proofs.Common.{◌≡◌, ℕ, ◌/◌, ◌%◌, ◌^◌, ◌<◌, ◌≤◌, min, Bool, true, false, eqb, List, [], ◌∷◌, ◌++◌, length, drop, Ordering, Less, Equal, Greater, sym, refl, ap, ◌∙◌, subst, ap₂, true≢false, arith}
use Rattle.std.proofs.lemmas.List.{drop-drop}
use Rattle.std.proofs.lemmas.Bool.{eqb-true, eq-eqb}
use Rattle.std.specs.Ordering.{is_eq, nat_cmp, ordering_then}
use Rattle.std.proofs.lemmas.Map.Lookups.{exact_bytes, exact_unsigned}
use Rattle.std.specs.Int.Digits.{number_from_digits}
use Rattle.elements.specs.Reading.{little_endian}
use Rattle.views.specs.declared.view.View.{View}
use Rattle.views.specs.View.{view_bytes, size_of, prefix_of}
use Rattle.views.specs.Window.{window, byte_order}
use Rattle.views.specs.Words.{Whole, Words}
use Rattle.views.proofs.Words.{length_prefix, under_prefix, length_tail, under_tail, split, size_word, prefix_word, prefix_from, tail_from, high_from, size_from}
use Rattle.views.proofs.Windows.{lexed, by_lex, rank_eq, numbers, same_numbers, lex_differ, lex_tie}

-- ---- answers

not_equal : (o : Ordering) → (o ≡ Equal → ⊥) → false ≡ is_eq o
not_equal Less n = refl
not_equal Equal n = absurd (n refl)
not_equal Greater n = refl

pub differ_answer : (xs ys : List ℕ) → (xs ≡ ys → ⊥) → false ≡ is_eq (byte_order xs ys)
differ_answer xs ys n = not_equal (byte_order xs ys) (λ e. n (exact_bytes xs ys (sym (by_lex xs ys) ∙ e)))

pub lex_shared : (front xs ys : List ℕ) → lexed (front ++ xs) (front ++ ys) ≡ lexed xs ys
lex_shared [] xs ys = refl
lex_shared (x ∷ front) xs ys = ap (λ o. ordering_then o (lexed (front ++ xs) (front ++ ys))) (rank_eq x x refl) ∙ lex_shared front xs ys

-- ---- words as numbers

abbrev pub prefixes : View → View → Ordering
prefixes u v = nat_cmp (number_from_digits 256 (prefix_of (view_bytes u))) (number_from_digits 256 (prefix_of (view_bytes v)))

abbrev pub tails : View → View → Ordering
tails u v = nat_cmp (number_from_digits 256 (drop 8 (view_bytes u))) (number_from_digits 256 (drop 8 (view_bytes v)))

-- first four bytes that tie are one
pub one_prefix : (u v : View) (r : Ordering) → r ≡ prefixes u v → r ≡ Equal → prefix_of (view_bytes u) ≡ prefix_of (view_bytes v)
one_prefix u v r h e =
    same_numbers (prefix_of (view_bytes u)) (prefix_of (view_bytes v)) (under_prefix u) (under_prefix v) (length_prefix u ∙ sym (length_prefix v))
    (exact_unsigned _ _ (sym h ∙ e))

-- ---- the first twelve, where the words hold them and the first four tie

module _ (u v : View) (xs ys : List ℕ) (front : prefix_of (view_bytes u) ≡ prefix_of (view_bytes v)) (left : Whole (view_bytes u) xs) (right : Whole (view_bytes v) ys) where
  whole_words : lexed (window 12 xs) (window 12 ys) ≡ lexed (drop 8 (view_bytes u)) (drop 8 (view_bytes v))
  whole_words =
      ap₂ lexed (left ∙ split u) (right ∙ split v ∙ ap (λ f. f ++ drop 8 (view_bytes v)) (sym front))
      ∙ lex_shared (prefix_of (view_bytes u)) (drop 8 (view_bytes u)) (drop 8 (view_bytes v))

  one_window : drop 8 (view_bytes u) ≡ drop 8 (view_bytes v) → window 12 xs ≡ window 12 ys
  one_window e = left ∙ split u ∙ ap₂ ◌++◌ front e ∙ sym (split v) ∙ sym right

  -- the tails decide where they differ
  pub by_tail : (r : Ordering) → r ≡ tails u v → (r ≡ Equal → ⊥) → r ≡ byte_order xs ys
  by_tail r h n =
      let words : tails u v ≡ lexed (drop 8 (view_bytes u)) (drop 8 (view_bytes v)) = numbers (drop 8 (view_bytes u)) (drop 8 (view_bytes v)) (under_tail u) (under_tail v) (length_tail u ∙ sym (length_tail v)) in
      let is : r ≡ lexed (window 12 xs) (window 12 ys) = h ∙ words ∙ sym whole_words in
      is ∙ sym (lex_differ 12 xs ys (λ e. n (is ∙ e))) ∙ sym (by_lex xs ys)

  -- where they tie, the first twelve bytes are one
  pub one_tail : (r : Ordering) → r ≡ tails u v → r ≡ Equal → window 12 xs ≡ window 12 ys
  one_tail r h e =
      one_window (same_numbers (drop 8 (view_bytes u)) (drop 8 (view_bytes v)) (under_tail u) (under_tail v) (length_tail u ∙ sym (length_tail v))
      (exact_unsigned _ _ (sym h ∙ e)))

-- then the lengths decide
pub by_size : (xs ys : List ℕ) (a b : ℕ) → a ≡ length xs → b ≡ length ys → window 12 xs ≡ window 12 ys → length xs ≤ 12 → nat_cmp a b ≡ byte_order xs ys
by_size xs ys a b is_a is_b e h = ap₂ nat_cmp is_a is_b ∙ sym (lex_tie 12 xs ys e h) ∙ sym (by_lex xs ys)

-- ---- two views, and the values that their words tell of

module _ (u v : View) (xs ys : List ℕ) (us : Words (view_bytes u) xs) (vs : Words (view_bytes v) ys) where
  -- values that are one have one head
  one_head : u.low < 2 ^ 64 → v.low < 2 ^ 64 → xs ≡ ys → u.low ≡ v.low
  one_head hu hv e =
      let sizes : u.low % 4294967296 ≡ v.low % 4294967296 = size_word u ∙ us.sized ∙ ap (λ zs. min (length zs) 4294967295) e ∙ sym vs.sized ∙ sym (size_word v) in
      let fronts : u.low / 4294967296 ≡ v.low / 4294967296 = prefix_word u hu ∙ ap little_endian (sym us.prefixed ∙ ap (window 4) e ∙ vs.prefixed) ∙ sym (prefix_word v hv) in
      omega arith

  pub by_head : u.low < 2 ^ 64 → v.low < 2 ^ 64 → eqb u.low v.low ≡ false → false ≡ is_eq (byte_order xs ys)
  by_head hu hv n = differ_answer xs ys (λ e. true≢false (sym (eq-eqb u.low v.low (one_head hu hv e)) ∙ n))

  -- ---- the first four bytes

  prefix_words : prefixes u v ≡ lexed (window 4 xs) (window 4 ys)
  prefix_words =
      numbers (prefix_of (view_bytes u)) (prefix_of (view_bytes v)) (under_prefix u) (under_prefix v) (length_prefix u ∙ sym (length_prefix v))
      ∙ ap₂ lexed (sym us.prefixed) (sym vs.prefixed)

  -- where they differ, they decide
  pub by_prefix : (r : Ordering) → r ≡ prefixes u v → (r ≡ Equal → ⊥) → r ≡ byte_order xs ys
  by_prefix r h n =
      let is : r ≡ lexed (window 4 xs) (window 4 ys) = h ∙ prefix_words in
      is ∙ sym (lex_differ 4 xs ys (λ e. n (is ∙ e))) ∙ sym (by_lex xs ys)

  short_length : size_of (view_bytes u) ≤ 12 → length xs ≤ 12
  short_length h = omega (arith, us.sized)

  -- ---- words with one head, of values that they hold whole

  module _ (heads : u.low ≡ v.low) (short : size_of (view_bytes u) ≤ 12) where
    left_whole : Whole (view_bytes u) xs
    left_whole = us.whole short

    right_whole : Whole (view_bytes v) ys
    right_whole = vs.whole (subst (λ n. n ≤ 12) (size_from u v heads) short)

    one_length : length xs ≡ length ys
    one_length = let e : size_of (view_bytes u) ≡ size_of (view_bytes v) = size_from u v heads in omega (arith, us.sized, vs.sized)

    one_word : u.high ≡ v.high → true ≡ is_eq (byte_order xs ys)
    one_word e = sym (ap is_eq (by_lex xs ys ∙ lex_tie 12 xs ys (one_window u v xs ys (prefix_from u v heads) left_whole right_whole (tail_from u v e)) (short_length short) ∙ rank_eq (length xs) (length ys) one_length))

    one_value : u.high < 2 ^ 64 → v.high < 2 ^ 64 → xs ≡ ys → u.high ≡ v.high
    one_value hu hv e = high_from u v hu hv (sym (drop-drop 4 4 (view_bytes u)) ∙ ap (drop 4) (sym left_whole ∙ ap (window 12) e ∙ right_whole) ∙ drop-drop 4 4 (view_bytes v))

    pub by_word : u.high < 2 ^ 64 → v.high < 2 ^ 64 → (p q : ℕ) → p ≡ u.high → q ≡ v.high → eqb p q ≡ is_eq (byte_order xs ys)
    by_word hu hv p q is_p is_q = ap₂ eqb is_p is_q ∙ by (eqb u.high v.high) refl
      where
        by : (b : Bool) → eqb u.high v.high ≡ b → b ≡ is_eq (byte_order xs ys)
        by true e = one_word (eqb-true u.high v.high e)
        by false e = differ_answer xs ys (λ same. true≢false (sym (eq-eqb u.high v.high (one_value hu hv same)) ∙ e))
