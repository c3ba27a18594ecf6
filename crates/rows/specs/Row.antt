-- Row values and their order. Assumes nothing.
use Rattle.std.specs.Prelude.{ℕ, Bool, true, false, List, [], ◌∷◌, map, ℤ, pos, slice_index_or}
use Rattle.std.specs.declared.cmp.Ordering.TheVariants.{Less, Equal, Greater}
use Rattle.std.specs.declared.cmp.Ordering.{Ordering}
use Rattle.std.specs.Ordering.{int_cmp, ordering_then}

-- A row value is null, a whole number, or a list of row values.
-- `Rows` is such a list, since antt has no recursion through `List`: `packed` and `items` go from one to the other and back.
mutual
  pub data Row : Type 0 where
    null : Row
    number : ℤ → Row
    rows : Rows → Row

  pub data Rows : Type 0 where
    none : Rows
    more : Row → Rows → Rows

abbrev pub packed : List Row → Rows
packed [] = none
packed (x ∷ xs) = more x (packed xs)

abbrev pub items : Rows → List Row
items none = []
items (more x xs) = x ∷ items xs

abbrev pub list : List Row → Row
list xs = rows (packed xs)

-- Null is lowest and equal to null. Numbers go by size, and a number is below a list. Lists go by their first difference, and a proper beginning is less.
abbrev mutual
  pub order : Row → Row → Ordering
  order null null = Equal
  order null (number n) = Less
  order null (rows ys) = Less
  order (number m) null = Greater
  order (number m) (number n) = int_cmp m n
  order (number m) (rows ys) = Less
  order (rows xs) null = Greater
  order (rows xs) (number n) = Greater
  order (rows xs) (rows ys) = orders xs ys

  pub orders : Rows → Rows → Ordering
  orders none none = Equal
  orders none (more y ys) = Less
  orders (more x xs) none = Greater
  orders (more x xs) (more y ys) = ordering_then (order x y) (orders xs ys)

abbrev pub is_null : Row → Bool
is_null null = true
is_null (number n) = false
is_null (rows xs) = false

-- a text is the list of its bytes
abbrev pub text : List ℕ → Row
text bytes = list (map (λ b. number (pos b)) bytes)

-- row i of a list: past its end a row is null
abbrev pub row : List Row → ℕ → Row
row xs i = slice_index_or xs i null
