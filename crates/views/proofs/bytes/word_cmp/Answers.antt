use Rattle.std.proofs.Common.{ℕ, ap, ◌∙◌, ap₂, arith}
use Rattle.std.specs.Ordering.{nat_cmp}
use Rattle.std.specs.Int.Digits.{number_from_digits}
use Rattle.elements.specs.Reading.{le_bytes}
use Rattle.elements.proofs.LittleEndian.{turned_eight, under_all}
use Rattle.views.proofs.Fronts.{by_word}
use Rattle.views.proofs.bytes.word_cmp.Goals as goal

pub returns : goal.returns
returns c =
    let xs = c.args.left.now in
    let ys = c.args.right.now in
    let turned = λ (n : ℕ). number_from_digits 256 (le_bytes 8 n) in
    c.cmp.ensures
    ∙ ap₂ nat_cmp (c.swap_bytes-left_word.ensures ∙ turned_eight c.read.result ∙ ap turned c.read.ensures) (c.swap_bytes-right_word.ensures ∙ turned_eight c.read-2.result ∙ ap turned c.read-2.ensures)
    ∙ by_word xs ys c.args.at (under_all xs (λ k. omega (arith, c.type_inv.left k))) (under_all ys (λ k. omega (arith, c.type_inv.right k))) c.requires.left_has c.requires.right_has
