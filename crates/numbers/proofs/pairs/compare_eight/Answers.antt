use Rattle.std.proofs.Common.{◌≡◌, ℕ, Less, Equal, Greater, sym, refl, ap, ◌∙◌}
use Rattle.rows.specs.Bits.{bits}
use Rattle.rows.specs.Row.{Row, order}
use Rattle.rows.specs.Operators.{holds, Complements}
use Rattle.rows.specs.declared.operator.CompareOperator.{CompareOperator}
use Rattle.rows.specs.declared.operator.CompareOperator.TheVariants.{Eq, NotEq, Gt, Gte, Lt, Lte}
use Rattle.numbers.specs.Eights.{eighth}
use Rattle.numbers.specs.Eight.{keys}
use Rattle.numbers.proofs.EightRows.{others, exchanged, lesser, equal}
use Rattle.numbers.proofs.pairs.compare_eight.Goals as goal

-- the results of the operator that the arm has
at_operator : (op p : CompareOperator) (x y : ℕ → Row) (e : ℕ) → op ≡ p → e ≡ bits (λ b. holds p (order (x b) (y b))) 0 8 → e ≡ bits (λ b. holds op (order (x b) (y b))) 0 8
at_operator op p x y e is h = h ∙ ap (λ o. bits (λ b. holds o (order (x b) (y b))) 0 8) (sym is)

not_eq : Complements Eq NotEq
not_eq Less = refl
not_eq Equal = refl
not_eq Greater = refl

not_less : Complements Lt Gte
not_less Less = refl
not_less Equal = refl
not_less Greater = refl

not_greater : Complements Gt Lte
not_greater Less = refl
not_greater Equal = refl
not_greater Greater = refl

pub returns-in-Eq : goal.returns-in-Eq
returns-in-Eq g c =
    let v = c.args.left_valid in
    let w = c.args.right_valid in
    let l = keys c.args.left.now in
    let r = keys c.args.right.now in
    at_operator c.args.op Eq (eighth v l) (eighth w r) _ c.in-Eq.is
    (c.equal_rows.ensures ∙ equal v w c.ranges.left_valid.fits c.ranges.right_valid.fits l r c.alike.result c.alike.ensures)

pub returns-in-NotEq : goal.returns-in-NotEq
returns-in-NotEq g c =
    let v = c.args.left_valid in
    let w = c.args.right_valid in
    let l = keys c.args.left.now in
    let r = keys c.args.right.now in
    at_operator c.args.op NotEq (eighth v l) (eighth w r) _ c.in-NotEq.is
    (others Eq NotEq (eighth v l) (eighth w r) c.equal_rows-in-NotEq.result not_eq
    (c.equal_rows-in-NotEq.ensures ∙ equal v w c.ranges.left_valid.fits c.ranges.right_valid.fits l r c.alike-in-NotEq.result c.alike-in-NotEq.ensures))

pub returns-in-Lt : goal.returns-in-Lt
returns-in-Lt g c =
    let v = c.args.left_valid in
    let w = c.args.right_valid in
    let l = keys c.args.left.now in
    let r = keys c.args.right.now in
    at_operator c.args.op Lt (eighth v l) (eighth w r) _ c.in-Lt.is
    (c.lesser_rows.ensures ∙ lesser v w c.ranges.left_valid.fits c.ranges.right_valid.fits l r c.lower.result c.lower.ensures)

pub returns-in-Gte : goal.returns-in-Gte
returns-in-Gte g c =
    let v = c.args.left_valid in
    let w = c.args.right_valid in
    let l = keys c.args.left.now in
    let r = keys c.args.right.now in
    at_operator c.args.op Gte (eighth v l) (eighth w r) _ c.in-Gte.is
    (others Lt Gte (eighth v l) (eighth w r) c.lesser_rows-in-Gte.result not_less
    (c.lesser_rows-in-Gte.ensures ∙ lesser v w c.ranges.left_valid.fits c.ranges.right_valid.fits l r c.lower-in-Gte.result c.lower-in-Gte.ensures))

pub returns-in-Gt : goal.returns-in-Gt
returns-in-Gt g c =
    let v = c.args.left_valid in
    let w = c.args.right_valid in
    let l = keys c.args.left.now in
    let r = keys c.args.right.now in
    at_operator c.args.op Gt (eighth v l) (eighth w r) _ c.in-Gt.is
    (exchanged Lt (eighth w r) (eighth v l) c.lesser_rows-in-Gt.result
    (c.lesser_rows-in-Gt.ensures ∙ lesser w v c.ranges.right_valid.fits c.ranges.left_valid.fits r l c.lower-in-Gt.result c.lower-in-Gt.ensures))

pub returns-in-Lte : goal.returns-in-Lte
returns-in-Lte g c =
    let v = c.args.left_valid in
    let w = c.args.right_valid in
    let l = keys c.args.left.now in
    let r = keys c.args.right.now in
    at_operator c.args.op Lte (eighth v l) (eighth w r) _ c.in-Lte.is
    (others Gt Lte (eighth v l) (eighth w r) c.lesser_rows-in-Lte.result not_greater
    (exchanged Lt (eighth w r) (eighth v l) c.lesser_rows-in-Lte.result
    (c.lesser_rows-in-Lte.ensures ∙ lesser w v c.ranges.right_valid.fits c.ranges.left_valid.fits r l c.lower-in-Lte.result c.lower-in-Lte.ensures)))
