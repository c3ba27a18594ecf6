-- The laws of collections. Assumes nothing.
use Rattle.std.proofs.Common.{◌≡◌, ℕ, ◌/◌, ◌%◌, ◌^◌, ◌<◌, Bool, true, false, List, ◌++◌, length, take, drop, Ok, Result, Ordering, Less, Equal, Greater, sym, refl, ap, ◌∙◌, ap₂, ⊎_elim, arith}
use Rattle.std.proofs.lemmas.List.FromFn.{length-map-range_with_len}
use Rattle.std.proofs.lemmas.List.{get_or_append_left, take_at}
use Rattle.std.proofs.lemmas.Bool.{cases_lt, false≢true}
use Rattle.std.proofs.lemmas.Bool.Decides.{nat_tests}
use Rattle.faults.specs.declared.CollectFault.{CollectFault}
use Rattle.std.specs.Ordering.{is_le}
use Rattle.rows.specs.Row.{Row, row, order}
use Rattle.rows.specs.Bits.{digit, bit_of, bytes_of, byte_at, bytes_for}
use Rattle.rows.specs.Operators.{holds, swapped, Mirrors}
use Rattle.rows.specs.Collected.{result_at, collected, collection, first_refusal, written}
use Rattle.rows.specs.Laws.{Exchange, LteGoesOn, Collections, SameBytes, GoesOn}
use Rattle.rows.specs.declared.operator.CompareOperator.{CompareOperator}
use Rattle.rows.specs.declared.operator.CompareOperator.TheVariants.{Eq, NotEq, Gt, Gte, Lt, Lte}
use Rattle.rows.proofs.Packed.{packed_bit, packed_spare}
use Rattle.rows.proofs.Orders.{row_order}

pub mirrors : (op : CompareOperator) → Mirrors op (swapped op)
mirrors Eq Less = refl
mirrors Eq Equal = refl
mirrors Eq Greater = refl
mirrors NotEq Less = refl
mirrors NotEq Equal = refl
mirrors NotEq Greater = refl
mirrors Gt Less = refl
mirrors Gt Equal = refl
mirrors Gt Greater = refl
mirrors Gte Less = refl
mirrors Gte Equal = refl
mirrors Gte Greater = refl
mirrors Lt Less = refl
mirrors Lt Equal = refl
mirrors Lt Greater = refl
mirrors Lte Less = refl
mirrors Lte Equal = refl
mirrors Lte Greater = refl

result_swapped : (xs ys : List Row) (op : CompareOperator) (i : ℕ) → result_at ys xs (swapped op) i ≡ result_at xs ys op i
result_swapped xs ys op i = ap (holds (swapped op)) (row_order.flip (row xs i) (row ys i)) ∙ mirrors op (order (row xs i) (row ys i))

pub exchange : Exchange
exchange xs ys op n = ap (λ f. bytes_of f n) (λ t i. result_swapped xs ys op i t)

-- "at most" is "not greater"
not_greater : (o : Ordering) → is_le o ≡ true → o ≡ Greater → ⊥
not_greater Less h e = let z : is_le Greater ≡ true = ap is_le (sym e) ∙ h in absurd (false≢true z)
not_greater Equal h e = let z : is_le Greater ≡ true = ap is_le (sym e) ∙ h in absurd (false≢true z)
not_greater Greater h e = absurd (false≢true h)

at_most : (o : Ordering) → (o ≡ Greater → ⊥) → is_le o ≡ true
at_most Less h = refl
at_most Equal h = refl
at_most Greater h = absurd (h refl)

pub lte_trans : (x y z : Row) → is_le (order x y) ≡ true → is_le (order y z) ≡ true → is_le (order x z) ≡ true
lte_trans x y z h k = at_most (order x z) (row_order.trans x y z (not_greater (order x y) h) (not_greater (order y z) k))

digit_one : (b : Bool) → digit b ≡ 1 → b ≡ true
digit_one true h = refl
digit_one false h = absurd (omega arith)

pub lte_goes_on : LteGoesOn
lte_goes_on xs ys zs n i h k =
    ⊎_elim
    (λ l.
    let p : result_at xs ys Lte i ≡ true = digit_one (result_at xs ys Lte i) (sym (packed_bit (result_at xs ys Lte) n i l) ∙ h) in
    let q : result_at ys zs Lte i ≡ true = digit_one (result_at ys zs Lte i) (sym (packed_bit (result_at ys zs Lte) n i l) ∙ k) in
    packed_bit (result_at xs zs Lte) n i l ∙ ap digit (lte_trans (row xs i) (row ys i) (row zs i) p q))
    (λ l. absurd (omega (arith, packed_spare (result_at xs ys Lte) n i l)))
    (cases_lt i n)

-- ---- what a granted collection leaves

-- a grant answers the number of bytes
pub grants : (xs ys : List Row) (n room k : ℕ) → Ok k ≡ collection xs ys n room → k ≡ bytes_for n
grants xs ys n room k h = grind (arith, nat_tests)

-- two grants
pub grants_both : (xs ys us vs : List Row) (n r s k : ℕ) → Ok k ≡ first_refusal (collection xs ys n r) (collection us vs n s)
    → (Ok (bytes_for n) ≡ collection xs ys n r) × (Ok (bytes_for n) ≡ collection us vs n s) × (k ≡ bytes_for n)
grants_both xs ys us vs n r s k h = (grind (arith, nat_tests), grind (arith, nat_tests), grind (arith, nat_tests))

-- the output of a collection that a check granted before
pub leaves : (xs ys : List Row) (n room k : ℕ) (bytes out after : List ℕ) (r : Result ℕ CollectFault) → Ok k ≡ collection xs ys n room
    → r ≡ collection xs ys n room → after ≡ written r bytes out → after ≡ bytes ++ drop (bytes_for n) out
leaves xs ys n room k bytes out after r granted answer writes =
    writes ∙ ap (λ q. written q bytes out) (answer ∙ sym granted) ∙ ap (λ j. bytes ++ drop j out) (grants xs ys n room k granted)

pub collected_length : (xs ys : List Row) (op : CompareOperator) (n : ℕ) → length (collected xs ys op n) ≡ bytes_for n
collected_length xs ys op n = length-map-range_with_len (byte_at (result_at xs ys op) n) 0 (bytes_for n)

pub first_bytes : (xs ys : List Row) (op : CompareOperator) (n : ℕ) (rest : List ℕ) → take (bytes_for n) (collected xs ys op n ++ rest) ≡ collected xs ys op n
first_bytes xs ys op n rest = take_at (collected xs ys op n) rest (bytes_for n) (collected_length xs ys op n)

pub first_bit : (xs ys : List Row) (op : CompareOperator) (n i : ℕ) (rest : List ℕ) → i < n → bit_of (collected xs ys op n ++ rest) i ≡ bit_of (collected xs ys op n) i
first_bit xs ys op n i rest h = ap (λ b. b / 2 ^ (i % 8) % 2) (get_or_append_left (collected xs ys op n) rest 0 (i / 8) (omega (arith, collected_length xs ys op n)))

pub same_bytes : (xs ys us vs : List Row) (op : CompareOperator) (n : ℕ) (out back rest rest' : List ℕ) → us ≡ ys → vs ≡ xs
    → out ≡ collected xs ys op n ++ rest → back ≡ collected us vs (swapped op) n ++ rest' → SameBytes n out back
same_bytes xs ys us vs op n out back rest rest' p q h k =
    ap (take (bytes_for n)) h ∙ first_bytes xs ys op n rest ∙ sym (exchange xs ys op n) ∙ sym (ap₂ (λ a b. collected a b (swapped op) n) p q)
    ∙ sym (ap (take (bytes_for n)) k ∙ first_bytes us vs (swapped op) n rest')

pub goes_on : (xs ys ys' zs xs' zs' : List Row) (n : ℕ) (ab bc ac r r' r'' : List ℕ) → ys ≡ ys' → xs' ≡ xs → zs' ≡ zs
    → ab ≡ collected xs ys Lte n ++ r → bc ≡ collected ys' zs Lte n ++ r' → ac ≡ collected xs' zs' Lte n ++ r'' → GoesOn n ab bc ac
goes_on xs ys ys' zs xs' zs' n ab bc ac r r' r'' p q s h k l i lt one two =
    let first : bit_of (collected xs ys Lte n) i ≡ 1 = sym (ap (λ bs. bit_of bs i) h ∙ first_bit xs ys Lte n i r lt) ∙ one in
    let second : bit_of (collected ys zs Lte n) i ≡ 1 = ap (λ a. bit_of (collected a zs Lte n) i) p ∙ sym (ap (λ bs. bit_of bs i) k ∙ first_bit ys' zs Lte n i r' lt) ∙ two in
    ap (λ bs. bit_of bs i) l ∙ first_bit xs' zs' Lte n i r'' lt ∙ ap₂ (λ a b. bit_of (collected a b Lte n) i) q s ∙ lte_goes_on xs ys zs n i first second

pub stands : Collections
stands = record { exchange = exchange; lte_goes_on = lte_goes_on }
