use Rattle.std.proofs.Common.{◌≤◌, length, sym, refl, ap, subst, arith}
use Rattle.std.proofs.lemmas.Bool.{leb-true}
use Rattle.views.specs.Resolved.{value}
use Rattle.views.specs.View.{size_of, view_bytes}
use Rattle.views.specs.Words.{Whole}
use Rattle.views.proofs.compare.told_cmp.Goals as goal

pub returns-in-Equal-tail_cmp : goal.returns-in-Equal-tail_cmp
returns-in-Equal-tail_cmp g c =
    let l = c.words-l.result in
    let xs = value c.args.left in
    let ys = g.R.Told.told c.args.right in
    let left : size_of (view_bytes l) ≤ 12 = leb-true (size_of (view_bytes l)) 12 (sym c.if-is_inlined.ensures) in
    let right = subst (λ w. Whole w ys) (sym c.words-r.ensures.image) (c.if-has_front.ensures refl) in
    let short : length xs ≤ 12 = omega (arith, c.words-l.ensures.size) in
    c.size_cmp.ensures xs ys c.len.ensures (ap length c.value.ensures)
    (c.in-Equal-tail_cmp.ensures.tie refl xs ys (c.words-l.ensures.tells.whole left) right (c.in-Equal.ensures.tie refl)) short
