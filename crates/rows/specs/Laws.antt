-- The laws of the order of row values, and of collections. Assumes nothing.
use Rattle.std.specs.Prelude.{◌≡◌, ℕ, ◌<◌, ◌⊎◌, List, ◌∷◌, ◌++◌, take, ◌≢◌}
use Rattle.std.specs.declared.cmp.Ordering.TheVariants.{Less, Equal, Greater}
use Rattle.std.specs.declared.cmp.Ordering.{Ordering}
use Rattle.std.specs.Ordering.{nat_cmp, ordering_reverse}
use Rattle.std.specs.Cmp.Lexicographic.{slice_cmp}
use Rattle.rows.specs.Row.{Row, Rows, null, number, packed, items, list, text, order}
use Rattle.rows.specs.Bits.{bit_of, bytes_for}
use Rattle.rows.specs.Collected.{collected}
use Rattle.rows.specs.Operators.{swapped}
use Rattle.rows.specs.declared.operator.CompareOperator.{CompareOperator}
use Rattle.rows.specs.declared.operator.CompareOperator.TheVariants.{Lte}

-- what it is to be a total order, Equal only for one value
pub record Lawful {K : Type 0} (cmp : K → K → Ordering) : Type 0 where
  pub itself : (a : K) → cmp a a ≡ Equal
  pub flip : (a b : K) → cmp b a ≡ ordering_reverse (cmp a b)
  pub trans : (a b c : K) → (cmp a b ≢ Greater) → (cmp b c ≢ Greater) → cmp a c ≢ Greater
  pub same : (a b : K) → cmp a b ≡ Equal → a ≡ b

-- xs and ys go alike up to a place where xs has the smaller value
pub record SmallerAtDifference (xs ys : List Row) : Type 0 where
  pub front : List Row
  pub x : Row
  pub y : Row
  pub xs_rest : List Row
  pub ys_rest : List Row
  pub xs_is : xs ≡ front ++ (x ∷ xs_rest)
  pub ys_is : ys ≡ front ++ (y ∷ ys_rest)
  pub less : order x y ≡ Less

-- ys is xs and something more
pub record ProperBeginning (xs ys : List Row) : Type 0 where
  pub y : Row
  pub rest : List Row
  pub ys_is : ys ≡ xs ++ (y ∷ rest)

pub record RowOrder : Type 0 where
  pub lawful : Lawful order
  -- null is below every other value, and a number below every list
  pub null_lowest : (a : Row) → (order null a ≡ Equal → a ≡ null) × (order null a ≢ Greater)
  pub number_below_list : (n : _) (xs : List Row) → order (number n) (list xs) ≡ Less
  -- `Rows` is a list of row values, and nothing else
  pub unpacked : (xs : List Row) → items (packed xs) ≡ xs
  pub repacked : (xs : Rows) → packed (items xs) ≡ xs
  -- a list is less exactly where it is smaller at the first difference or a proper beginning
  pub by_difference : (xs ys : List Row) → SmallerAtDifference xs ys → order (list xs) (list ys) ≡ Less
  pub by_beginning : (xs ys : List Row) → ProperBeginning xs ys → order (list xs) (list ys) ≡ Less
  pub only_so : (xs ys : List Row) → order (list xs) (list ys) ≡ Less → SmallerAtDifference xs ys ⊎ ProperBeginning xs ys
  -- texts go as Rust orders slices of bytes
  pub texts : (xs ys : List ℕ) → order (text xs) (text ys) ≡ slice_cmp nat_cmp xs ys

-- the lists exchanged under the swapped operator give the same bytes
abbrev pub Exchange : Type 0
Exchange = (xs ys : List Row) (op : CompareOperator) (n : ℕ) → collected ys xs (swapped op) n ≡ collected xs ys op n

-- where Lte holds in a row from the first list to the second and from the second to the third, it holds from the first to the third
abbrev pub LteGoesOn : Type 0
LteGoesOn = (xs ys zs : List Row) (n i : ℕ) → bit_of (collected xs ys Lte n) i ≡ 1 → bit_of (collected ys zs Lte n) i ≡ 1 → bit_of (collected xs zs Lte n) i ≡ 1

pub record Collections : Type 0 where
  pub exchange : Exchange
  pub lte_goes_on : LteGoesOn

-- two outputs agree in the bytes of n results
abbrev pub SameBytes : ℕ → List ℕ → List ℕ → Type 0
SameBytes n out back = take (bytes_for n) out ≡ take (bytes_for n) back

-- each of the first n bits that is 1 in the first two outputs is 1 in the third
abbrev pub GoesOn : ℕ → List ℕ → List ℕ → List ℕ → Type 0
GoesOn n ab bc ac = (i : ℕ) → i < n → bit_of ab i ≡ 1 → bit_of bc i ≡ 1 → bit_of ac i ≡ 1
