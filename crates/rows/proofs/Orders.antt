-- The order of row values is a total order. Assumes nothing.
use Rattle.std.proofs.Common.{◌≡◌, ℕ, ◌<◌, ◌≤◌, Bool, true, false, cond, ltb, ◌⊎◌, List, [], ◌∷◌, ◌++◌, ℤ, pos, ◌<ℤ◌, Ordering, Less, Equal, Greater, sym, refl, ap, ◌∙◌, subst, inl, inr, true≢false, arith, nat_cmp, ltb-false, ltb-true}
use Rattle.std.specs.Ordering.{MatchOrdering, int_cmp, is_gt, is_lt, ordering_reverse, ordering_then}
use Rattle.std.specs.Cmp.{int_ranks, int_cmp_total, nat_cmp_is}
use Rattle.std.specs.Cmp.Lexicographic.{slice_cmp}
use Rattle.rows.specs.Row.{Row, Rows, null, number, rows, none, more, packed, items, list, text, order, orders}
use Rattle.rows.specs.Laws.{Lawful, SmallerAtDifference, ProperBeginning, RowOrder}

-- ---- answers that differ

no_lt_eq : {G : Type 0} → Less ≡ Equal → G
no_lt_eq e = absurd (true≢false (ap is_lt e))

no_lt_gt : {G : Type 0} → Less ≡ Greater → G
no_lt_gt e = absurd (true≢false (ap is_lt e))

no_gt_lt : {G : Type 0} → Greater ≡ Less → G
no_gt_lt e = absurd (true≢false (ap is_gt e))

no_gt_eq : {G : Type 0} → Greater ≡ Equal → G
no_gt_eq e = absurd (true≢false (ap is_gt e))

-- ---- a total order from a strict one

own_flip : (o : Ordering) → o ≡ ordering_reverse o → o ≡ Equal
own_flip Less e = no_lt_gt e
own_flip Equal e = refl
own_flip Greater e = no_gt_lt e

module _ {K : Type 0} (cmp : K → K → Ordering) (flip : (a b : K) → cmp b a ≡ ordering_reverse (cmp a b)) (chain : (a b c : K) → cmp a b ≡ Less → cmp b c ≡ Less → cmp a c ≡ Less) (same : (a b : K) → cmp a b ≡ Equal → a ≡ b) where
  by_answers : (a b c : K) (p q : Ordering) → cmp a b ≡ p → cmp b c ≡ q → (cmp a b ≡ Greater → ⊥) → (cmp b c ≡ Greater → ⊥) → cmp a c ≡ Greater → ⊥
  by_answers a b c Less Less e f h k g = no_lt_gt (sym (chain a b c e f) ∙ g)
  by_answers a b c Less Equal e f h k g = h (ap (cmp a) (same b c f) ∙ g)
  by_answers a b c Less Greater e f h k g = k f
  by_answers a b c Equal q e f h k g = k (ap (λ x. cmp x c) (sym (same a b e)) ∙ g)
  by_answers a b c Greater q e f h k g = h e

  pub lawful_from : Lawful cmp
  lawful_from = record {
    itself = λ a. own_flip (cmp a a) (flip a a);
    flip = flip;
    trans = λ a b c. by_answers a b c (cmp a b) (cmp b c) refl refl;
    same = same;
  }

-- ---- numbers

int_cmp_same : (a b : ℤ) → int_cmp a b ≡ Equal → a ≡ b
int_cmp_same a b e = subst (λ o. MatchOrdering o (a <ℤ b) (a ≡ b) (b <ℤ a)) e (int_ranks a b)

int_cmp_flip : (a b : ℤ) → int_cmp b a ≡ ordering_reverse (int_cmp a b)
int_cmp_flip a b = int_cmp_total.antisymm b a

int_cmp_chain : (a b c : ℤ) → int_cmp a b ≡ Less → int_cmp b c ≡ Less → int_cmp a c ≡ Less
int_cmp_chain a b c = int_cmp_total.trans a b c

pub numbers : Lawful int_cmp
numbers = lawful_from int_cmp int_cmp_flip int_cmp_chain int_cmp_same

-- ---- row values

then_flip : (a b : Ordering) → ordering_then (ordering_reverse a) (ordering_reverse b) ≡ ordering_reverse (ordering_then a b)
then_flip Less b = refl
then_flip Equal b = refl
then_flip Greater b = refl

then_equal : (a b : Ordering) → ordering_then a b ≡ Equal → (a ≡ Equal) × (b ≡ Equal)
then_equal Less b e = no_lt_eq e
then_equal Equal b e = (refl, e)
then_equal Greater b e = no_gt_eq e

mutual
  row_flip : (a b : Row) → order b a ≡ ordering_reverse (order a b)
  row_flip null null = refl
  row_flip null (number n) = refl
  row_flip null (rows ys) = refl
  row_flip (number m) null = refl
  row_flip (number m) (number n) = int_cmp_flip m n
  row_flip (number m) (rows ys) = refl
  row_flip (rows xs) null = refl
  row_flip (rows xs) (number n) = refl
  row_flip (rows xs) (rows ys) = rows_flip xs ys

  rows_flip : (xs ys : Rows) → orders ys xs ≡ ordering_reverse (orders xs ys)
  rows_flip none none = refl
  rows_flip none (more y ys) = refl
  rows_flip (more x xs) none = refl
  rows_flip (more x xs) (more y ys) = (λ i. ordering_then (row_flip x y i) (rows_flip xs ys i)) ∙ then_flip (order x y) (orders xs ys)

mutual
  row_same : (a b : Row) → order a b ≡ Equal → a ≡ b
  row_same null null e = refl
  row_same null (number n) e = no_lt_eq e
  row_same null (rows ys) e = no_lt_eq e
  row_same (number m) null e = no_gt_eq e
  row_same (number m) (number n) e = ap number (int_cmp_same m n e)
  row_same (number m) (rows ys) e = no_lt_eq e
  row_same (rows xs) null e = no_gt_eq e
  row_same (rows xs) (number n) e = no_gt_eq e
  row_same (rows xs) (rows ys) e = ap rows (rows_same xs ys e)

  rows_same : (xs ys : Rows) → orders xs ys ≡ Equal → xs ≡ ys
  rows_same none none e = refl
  rows_same none (more y ys) e = no_lt_eq e
  rows_same (more x xs) none e = no_gt_eq e
  rows_same (more x xs) (more y ys) e =
      let h : (order x y ≡ Equal) × (orders xs ys ≡ Equal) = then_equal (order x y) (orders xs ys) e in
      λ i. more (row_same x y h.0 i) (rows_same xs ys h.1 i)

-- one step along three lists: what is known of the heads, and of the rests
step : (x y z : Row) (a b c p q : Ordering) → (order x y ≡ Less → order y z ≡ Less → order x z ≡ Less) → (a ≡ Less → b ≡ Less → c ≡ Less) → order x y ≡ p → order y z ≡ q → ordering_then p a ≡ Less → ordering_then q b ≡ Less → ordering_then (order x z) c ≡ Less
step x y z a b c Less Less heads rests e f h k = ap (λ o. ordering_then o c) (heads e f)
step x y z a b c Less Equal heads rests e f h k = ap (λ o. ordering_then o c) (ap (order x) (sym (row_same y z f)) ∙ e)
step x y z a b c Less Greater heads rests e f h k = no_gt_lt k
step x y z a b c Equal Less heads rests e f h k = ap (λ o. ordering_then o c) (ap (λ w. order w z) (row_same x y e) ∙ f)
step x y z a b c Equal Equal heads rests e f h k = ap (λ o. ordering_then o c) (ap (λ w. order w z) (row_same x y e) ∙ f) ∙ rests h k
step x y z a b c Equal Greater heads rests e f h k = no_gt_lt k
step x y z a b c Greater q heads rests e f h k = no_gt_lt h

-- nothing is below null, or below no elements
under_null : {G : Type 0} (b : Row) → order b null ≡ Less → G
under_null null e = no_lt_eq (sym e)
under_null (number n) e = no_gt_lt e
under_null (rows xs) e = no_gt_lt e

under_none : {G : Type 0} (xs : Rows) → orders xs none ≡ Less → G
under_none none e = no_lt_eq (sym e)
under_none (more x xs) e = no_gt_lt e

mutual
  row_chain : (a b c : Row) → order a b ≡ Less → order b c ≡ Less → order a c ≡ Less
  row_chain null b null h k = under_null b k
  row_chain null b (number n) h k = refl
  row_chain null b (rows zs) h k = refl
  row_chain (number m) null c h k = no_gt_lt h
  row_chain (number m) (number n) null h k = no_gt_lt k
  row_chain (number m) (number n) (number l) h k = int_cmp_chain m n l h k
  row_chain (number m) (number n) (rows zs) h k = refl
  row_chain (number m) (rows ys) null h k = no_gt_lt k
  row_chain (number m) (rows ys) (number l) h k = no_gt_lt k
  row_chain (number m) (rows ys) (rows zs) h k = refl
  row_chain (rows xs) null c h k = no_gt_lt h
  row_chain (rows xs) (number n) c h k = no_gt_lt h
  row_chain (rows xs) (rows ys) null h k = no_gt_lt k
  row_chain (rows xs) (rows ys) (number l) h k = no_gt_lt k
  row_chain (rows xs) (rows ys) (rows zs) h k = rows_chain xs ys zs h k

  rows_chain : (xs ys zs : Rows) → orders xs ys ≡ Less → orders ys zs ≡ Less → orders xs zs ≡ Less
  rows_chain none ys none h k = under_none ys k
  rows_chain none ys (more z zs) h k = refl
  rows_chain (more x xs) none zs h k = no_gt_lt h
  rows_chain (more x xs) (more y ys) none h k = k
  rows_chain (more x xs) (more y ys) (more z zs) h k = step x y z (orders xs ys) (orders ys zs) (orders xs zs) (order x y) (order y z) (row_chain x y z) (rows_chain xs ys zs) refl refl h k

pub row_order : Lawful order
row_order = lawful_from order row_flip row_chain row_same

null_lowest : (a : Row) → (order null a ≡ Equal → a ≡ null) × (order null a ≡ Greater → ⊥)
null_lowest null = (λ e. refl, λ e. no_gt_eq (sym e))
null_lowest (number n) = (λ e. no_lt_eq e, λ e. no_lt_gt e)
null_lowest (rows xs) = (λ e. no_lt_eq e, λ e. no_lt_gt e)

unpacked : (xs : List Row) → items (packed xs) ≡ xs
unpacked [] = refl
unpacked (x ∷ xs) = ap (λ ys. x ∷ ys) (unpacked xs)

repacked : (xs : Rows) → packed (items xs) ≡ xs
repacked none = refl
repacked (more x xs) = ap (more x) (repacked xs)

-- ---- lists

shared : (front xs ys : List Row) → order (list (front ++ xs)) (list (front ++ ys)) ≡ order (list xs) (list ys)
shared [] xs ys = refl
shared (x ∷ front) xs ys = ap (λ o. ordering_then o (order (list (front ++ xs)) (list (front ++ ys)))) (row_order.itself x) ∙ shared front xs ys

by_difference : (xs ys : List Row) → SmallerAtDifference xs ys → order (list xs) (list ys) ≡ Less
by_difference xs ys d =
    (λ i. order (list (d.xs_is i)) (list (d.ys_is i))) ∙ shared d.front (d.x ∷ d.xs_rest) (d.y ∷ d.ys_rest)
    ∙ ap (λ o. ordering_then o (order (list d.xs_rest) (list d.ys_rest))) d.less

none_less : (xs : List Row) (y : Row) (rest : List Row) → order (list xs) (list (xs ++ (y ∷ rest))) ≡ Less
none_less [] y rest = refl
none_less (x ∷ xs) y rest = ap (λ o. ordering_then o (order (list xs) (list (xs ++ (y ∷ rest))))) (row_order.itself x) ∙ none_less xs y rest

by_beginning : (xs ys : List Row) → ProperBeginning xs ys → order (list xs) (list ys) ≡ Less
by_beginning xs ys d = ap (λ zs. order (list xs) (list zs)) d.ys_is ∙ none_less xs d.y d.rest

-- one more element in front of both
further : (x y : Row) (xs ys : List Row) → x ≡ y → SmallerAtDifference xs ys ⊎ ProperBeginning xs ys → SmallerAtDifference (x ∷ xs) (y ∷ ys) ⊎ ProperBeginning (x ∷ xs) (y ∷ ys)
further x y xs ys e (inl d) = inl record {
  front = y ∷ d.front;
  x = d.x;
  y = d.y;
  xs_rest = d.xs_rest;
  ys_rest = d.ys_rest;
  xs_is = λ i. e i ∷ d.xs_is i;
  ys_is = λ i. y ∷ d.ys_is i;
  less = d.less;
}
further x y xs ys e (inr d) = inr record { y = d.y; rest = d.rest; ys_is = λ i. sym e i ∷ d.ys_is i }

at_heads : (x y : Row) (xs ys : List Row) (o : Ordering) → order x y ≡ o → (order (list xs) (list ys) ≡ Less → SmallerAtDifference xs ys ⊎ ProperBeginning xs ys) → ordering_then o (order (list xs) (list ys)) ≡ Less → SmallerAtDifference (x ∷ xs) (y ∷ ys) ⊎ ProperBeginning (x ∷ xs) (y ∷ ys)
at_heads x y xs ys Less e rests h = inl record { front = []; x = x; y = y; xs_rest = xs; ys_rest = ys; xs_is = refl; ys_is = refl; less = e }
at_heads x y xs ys Equal e rests h = further x y xs ys (row_order.same x y e) (rests h)
at_heads x y xs ys Greater e rests h = no_gt_lt h

only_so : (xs ys : List Row) → order (list xs) (list ys) ≡ Less → SmallerAtDifference xs ys ⊎ ProperBeginning xs ys
only_so [] [] h = no_lt_eq (sym h)
only_so [] (y ∷ ys) h = inr record { y = y; rest = ys; ys_is = refl }
only_so (x ∷ xs) [] h = no_gt_lt h
only_so (x ∷ xs) (y ∷ ys) h = at_heads x y xs ys (order x y) refl (only_so xs ys) h

-- ---- texts

ranked : (a b : ℕ) (p q : Bool) → ltb a b ≡ p → ltb b a ≡ q → MatchOrdering (cond p Less (cond q Greater Equal)) (a < b) (a ≡ b) (b < a)
ranked a b true q e f = ltb-true a b e
ranked a b false true e f = ltb-true b a f
ranked a b false false e f = let h : b ≤ a = ltb-false a b e in let k : a ≤ b = ltb-false b a f in omega arith

texts : (xs ys : List ℕ) → order (text xs) (text ys) ≡ slice_cmp nat_cmp xs ys
texts [] [] = refl
texts [] (y ∷ ys) = refl
texts (x ∷ xs) [] = refl
texts (x ∷ xs) (y ∷ ys) = λ i. ordering_then (nat_cmp_is x y (int_cmp (pos x) (pos y)) (ranked x y (ltb x y) (ltb y x) refl refl) i) (texts xs ys i)

pub stands : RowOrder
stands = record {
  lawful = row_order;
  null_lowest = null_lowest;
  number_below_list = λ n xs. refl;
  unpacked = unpacked;
  repacked = repacked;
  by_difference = by_difference;
  by_beginning = by_beginning;
  only_so = only_so;
  texts = texts;
}
