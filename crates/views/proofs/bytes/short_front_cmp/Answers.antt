use Rattle.std.proofs.Common.{◌≡◌, ◌+◌, ◌-◌, take, drop, sym, ◌∙◌, arith}
use Rattle.views.specs.Window.{byte_order}
use Rattle.views.proofs.Fronts.{two_parts}
use Rattle.views.proofs.Windows.{by_lex}
use Rattle.views.proofs.bytes.short_front_cmp.Goals as goal

pub returns-then-n-lt8 : goal.returns-then-n-lt8
returns-then-n-lt8 c =
    let n = c.args.n in
    let xs = c.args.left.now in
    let ys = c.args.right.now in
    let e : n - 0 ≡ n = omega arith in
    c.cmp.ensures ∙ sym (by_lex (take (n - 0) xs) (take (n - 0) ys))
    ∙ (λ i. byte_order (take (e i) xs) (take (e i) ys))

pub returns : goal.returns
returns c =
    let n = c.args.n in
    let xs = c.args.left.now in
    let ys = c.args.right.now in
    let all : 8 + (n - 8) ≡ n = omega arith in
    let last : 8 ≡ 8 + (n - 8) - (n - 8) = omega arith in
    c.then.ensures
    ∙ two_parts 8 (n - 8) (n - 8) xs ys c.word_cmp.result c.word_cmp-2.result (omega (arith, c.requires.left_has)) (omega (arith, c.requires.right_has)) (omega (arith, c.requires.short)) c.word_cmp.ensures
    (c.word_cmp-2.ensures ∙ (λ i. byte_order (take (last i) (drop (n - 8) xs)) (take (last i) (drop (n - 8) ys))))
    ∙ (λ i. byte_order (take (all i) xs) (take (all i) ys))
