-- The six operators on the order of two values. Assumes nothing.
use Rattle.std.specs.Prelude.{◌≡◌, Bool, not}
use Rattle.std.specs.declared.cmp.Ordering.{Ordering}
use Rattle.std.specs.Ordering.{is_eq, is_ne, is_lt, is_le, is_gt, is_ge, ordering_reverse}
use Rattle.rows.specs.declared.operator.CompareOperator.{CompareOperator}
use Rattle.rows.specs.declared.operator.CompareOperator.TheVariants.{Eq, NotEq, Gt, Gte, Lt, Lte}

-- the operator of an order, a bit
abbrev pub holds : CompareOperator → Ordering → Bool
holds Eq o = is_eq o
holds NotEq o = is_ne o
holds Gt o = is_gt o
holds Gte o = is_ge o
holds Lt o = is_lt o
holds Lte o = is_le o

abbrev pub inverted : CompareOperator → CompareOperator
inverted Eq = NotEq
inverted NotEq = Eq
inverted Gt = Lte
inverted Gte = Lt
inverted Lt = Gte
inverted Lte = Gt

abbrev pub swapped : CompareOperator → CompareOperator
swapped Eq = Eq
swapped NotEq = NotEq
swapped Gt = Lt
swapped Gte = Lte
swapped Lt = Gt
swapped Lte = Gte

-- q holds exactly where p does not
abbrev pub Complements : CompareOperator → CompareOperator → Type 0
Complements p q = (o : Ordering) → holds q o ≡ not (holds p o)

-- q holds of an order read backwards exactly where p holds of it
abbrev pub Mirrors : CompareOperator → CompareOperator → Type 0
Mirrors p q = (o : Ordering) → holds q (ordering_reverse o) ≡ holds p o
