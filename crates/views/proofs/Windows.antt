-- Words of windows compare as the byte strings do. Assumes nothing.
use Rattle.std.proofs.Common.{◌≡◌, ℕ, zero, suc, ◌+◌, ◌*◌, ◌<◌, ◌≤◌, List, [], ◌∷◌, length, Ordering, Less, Equal, Greater, sym, refl, ap, ◌∙◌, arith}
use Rattle.std.specs.Ordering.{MatchOrdering, nat_cmp, ordering_then}
use Rattle.std.specs.Cmp.{ranks, nat_cmp_is}
use Rattle.std.proofs.lemmas.Cmp.{nat_list_cmp_total, tied_itself}
use Rattle.std.proofs.lemmas.Map.Lookups.{exact_bytes}
use Rattle.std.specs.Cmp.Lexicographic.{slice_cmp}
use Rattle.std.specs.Int.Digits.{number_from_digits, number_from_digits_after, AllBelowBase}
use Rattle.rows.proofs.Orders.{stands}
use Rattle.views.specs.Window.{window, byte_order, Windows}

abbrev pub lexed : List ℕ → List ℕ → Ordering
lexed xs ys = slice_cmp nat_cmp xs ys

pub by_lex : (xs ys : List ℕ) → byte_order xs ys ≡ lexed xs ys
by_lex xs ys = stands.texts xs ys

-- ---- what `nat_cmp` answers

pub rank_lt : (a b : ℕ) → a < b → nat_cmp a b ≡ Less
rank_lt a b h = sym (nat_cmp_is a b Less h)

pub rank_eq : (a b : ℕ) → a ≡ b → nat_cmp a b ≡ Equal
rank_eq a b h = sym (nat_cmp_is a b Equal h)

pub rank_gt : (a b : ℕ) → b < a → nat_cmp a b ≡ Greater
rank_gt a b h = sym (nat_cmp_is a b Greater h)

pub rank_suc : (a b : ℕ) → nat_cmp (suc a) (suc b) ≡ nat_cmp a b
rank_suc a b = go (nat_cmp a b) (ranks a b)
  where
    go : (o : Ordering) → MatchOrdering o (a < b) (a ≡ b) (b < a) → nat_cmp (suc a) (suc b) ≡ o
    go Less h = rank_lt (suc a) (suc b) (omega arith)
    go Equal h = rank_eq (suc a) (suc b) (omega arith)
    go Greater h = rank_gt (suc a) (suc b) (omega arith)

-- ---- numbers of lists of one length

after_lt : (a b : ℕ) (xs ys : List ℕ) → AllBelowBase 256 xs → AllBelowBase 256 ys → length xs ≡ length ys → a < b → number_from_digits_after 256 a xs < number_from_digits_after 256 b ys
after_lt a b [] [] u v e h = h
after_lt a b [] (y ∷ ys) u v e h = absurd (omega arith)
after_lt a b (x ∷ xs) [] u v e h = absurd (omega arith)
after_lt a b (x ∷ xs) (y ∷ ys) u v e h = after_lt (a * 256 + x) (b * 256 + y) xs ys u.1 v.1 (omega arith) (omega (arith, u.0, v.0))

at_heads : (a x y : ℕ) (xs ys : List ℕ) → AllBelowBase 256 xs → AllBelowBase 256 ys → length xs ≡ length ys → x < 256 → y < 256 → nat_cmp (number_from_digits_after 256 (a * 256 + x) xs) (number_from_digits_after 256 (a * 256 + x) ys) ≡ lexed xs ys → (o : Ordering) → MatchOrdering o (x < y) (x ≡ y) (y < x) → nat_cmp (number_from_digits_after 256 (a * 256 + x) xs) (number_from_digits_after 256 (a * 256 + y) ys) ≡ ordering_then o (lexed xs ys)
at_heads a x y xs ys u v e hx hy rest Less h = rank_lt _ _ (after_lt (a * 256 + x) (a * 256 + y) xs ys u v e (omega arith))
at_heads a x y xs ys u v e hx hy rest Equal h = ap (λ z. nat_cmp (number_from_digits_after 256 (a * 256 + x) xs) (number_from_digits_after 256 (a * 256 + z) ys)) (sym h) ∙ rest
at_heads a x y xs ys u v e hx hy rest Greater h = rank_gt _ _ (after_lt (a * 256 + y) (a * 256 + x) ys xs v u (sym e) (omega arith))

after_rank : (a : ℕ) (xs ys : List ℕ) → AllBelowBase 256 xs → AllBelowBase 256 ys → length xs ≡ length ys → nat_cmp (number_from_digits_after 256 a xs) (number_from_digits_after 256 a ys) ≡ lexed xs ys
after_rank a [] [] u v e = rank_eq a a refl
after_rank a [] (y ∷ ys) u v e = absurd (omega arith)
after_rank a (x ∷ xs) [] u v e = absurd (omega arith)
after_rank a (x ∷ xs) (y ∷ ys) u v e =
    let same : length xs ≡ length ys = omega arith in
    at_heads a x y xs ys u.1 v.1 same u.0 v.0 (after_rank (a * 256 + x) xs ys u.1 v.1 same) (nat_cmp x y) (ranks x y)

pub numbers : (xs ys : List ℕ) → AllBelowBase 256 xs → AllBelowBase 256 ys → length xs ≡ length ys → nat_cmp (number_from_digits 256 xs) (number_from_digits 256 ys) ≡ lexed xs ys
numbers xs ys = after_rank 0 xs ys

pub length_window : (n : ℕ) (xs : List ℕ) → length (window n xs) ≡ n
length_window zero xs = refl
length_window (suc n) [] = ap suc (length_window n [])
length_window (suc n) (x ∷ xs) = ap suc (length_window n xs)

pub under_window : (n : ℕ) (xs : List ℕ) → AllBelowBase 256 xs → AllBelowBase 256 (window n xs)
under_window zero xs u = tt
under_window (suc n) [] u = (omega arith, under_window n [] tt)
under_window (suc n) (x ∷ xs) u = (u.0, under_window n xs u.1)

-- ---- windows that differ

-- against the empty string, only zeros tie
left_head : (y : ℕ) (r o : Ordering) → MatchOrdering o (0 < y) (0 ≡ y) (y < 0) → ((r ≡ Equal → ⊥) → r ≡ Less) → (ordering_then o r ≡ Equal → ⊥) → ordering_then o r ≡ Less
left_head y r Less l rest k = refl
left_head y r Equal l rest k = rest k
left_head y r Greater l rest k = absurd (omega arith)

differ_left : (n : ℕ) (ys : List ℕ) → (lexed (window n []) (window n ys) ≡ Equal → ⊥) → lexed (window n []) (window n ys) ≡ Less
differ_left zero ys h = absurd (h refl)
differ_left (suc n) [] h = absurd (h (tied_itself nat_list_cmp_total (window (suc n) [])))
differ_left (suc n) (y ∷ ys) h = left_head y (lexed (window n []) (window n ys)) (nat_cmp 0 y) (ranks 0 y) (differ_left n ys) h

right_head : (x : ℕ) (r o : Ordering) → MatchOrdering o (x < 0) (x ≡ 0) (0 < x) → ((r ≡ Equal → ⊥) → r ≡ Greater) → (ordering_then o r ≡ Equal → ⊥) → ordering_then o r ≡ Greater
right_head x r Less l rest k = absurd (omega arith)
right_head x r Equal l rest k = rest k
right_head x r Greater l rest k = refl

differ_right : (n : ℕ) (xs : List ℕ) → (lexed (window n xs) (window n []) ≡ Equal → ⊥) → lexed (window n xs) (window n []) ≡ Greater
differ_right zero xs h = absurd (h refl)
differ_right (suc n) [] h = absurd (h (tied_itself nat_list_cmp_total (window (suc n) [])))
differ_right (suc n) (x ∷ xs) h = right_head x (lexed (window n xs) (window n [])) (nat_cmp x 0) (ranks x 0) (differ_right n xs) h

both_heads : (o t r : Ordering) → ((r ≡ Equal → ⊥) → t ≡ r) → (ordering_then o r ≡ Equal → ⊥) → ordering_then o t ≡ ordering_then o r
both_heads Less t r rest k = refl
both_heads Equal t r rest k = rest k
both_heads Greater t r rest k = refl

pub lex_differ : (n : ℕ) (xs ys : List ℕ) → (lexed (window n xs) (window n ys) ≡ Equal → ⊥) → lexed xs ys ≡ lexed (window n xs) (window n ys)
lex_differ zero xs ys h = absurd (h refl)
lex_differ (suc n) [] [] h = absurd (h (tied_itself nat_list_cmp_total (window (suc n) [])))
lex_differ (suc n) [] (y ∷ ys) h = sym (differ_left (suc n) (y ∷ ys) h)
lex_differ (suc n) (x ∷ xs) [] h = sym (differ_right (suc n) (x ∷ xs) h)
lex_differ (suc n) (x ∷ xs) (y ∷ ys) h = both_heads (nat_cmp x y) (lexed xs ys) (lexed (window n xs) (window n ys)) (lex_differ n xs ys) h

-- ---- windows that tie

pub lex_tie : (n : ℕ) (xs ys : List ℕ) → window n xs ≡ window n ys → length xs ≤ n → lexed xs ys ≡ nat_cmp (length xs) (length ys)
lex_tie n [] [] e h = sym (rank_eq 0 0 refl)
lex_tie n [] (y ∷ ys) e h = sym (rank_lt 0 (suc (length ys)) (omega arith))
lex_tie n (x ∷ xs) [] e h = sym (rank_gt (suc (length xs)) 0 (omega arith))
lex_tie zero (x ∷ xs) (y ∷ ys) e h = absurd (omega arith)
lex_tie (suc n) (x ∷ xs) (y ∷ ys) e h =
    let p : x ≡ y = cc in
    let q : window n xs ≡ window n ys = cc in
    ap (λ o. ordering_then o (lexed xs ys)) (rank_eq x y p) ∙ lex_tie n xs ys q (omega arith) ∙ sym (rank_suc (length xs) (length ys))

-- ---- lists that tie

pub same_numbers : (xs ys : List ℕ) → AllBelowBase 256 xs → AllBelowBase 256 ys → length xs ≡ length ys → number_from_digits 256 xs ≡ number_from_digits 256 ys → xs ≡ ys
same_numbers xs ys u v l e = exact_bytes xs ys (sym (numbers xs ys u v l) ∙ rank_eq (number_from_digits 256 xs) (number_from_digits 256 ys) e)

pub windows_stand : Windows
windows_stand = record {
  words = λ n xs ys u v. numbers (window n xs) (window n ys) (under_window n xs u) (under_window n ys v) (length_window n xs ∙ sym (length_window n ys)) ∙ sym (by_lex (window n xs) (window n ys));
  differ = λ n xs ys h. by_lex xs ys ∙ lex_differ n xs ys (λ e. h (by_lex (window n xs) (window n ys) ∙ e)) ∙ sym (by_lex (window n xs) (window n ys));
  tie = λ n xs ys e h. by_lex xs ys ∙ lex_tie n xs ys e h;
}
