use Rattle.std.proofs.Common.{take, drop, sym, ◌∙◌, ap₂, arith}
use Rattle.std.proofs.lemmas.List.{drop-drop, length-drop}
use Rattle.views.specs.Window.{byte_order}
use Rattle.views.proofs.Fronts.{two_parts}
use Rattle.views.proofs.bytes.two_words_cmp.Goals as goal

pub returns : goal.returns
returns c =
    let xs = c.args.left.now in
    let ys = c.args.right.now in
    let at = c.args.at in
    c.then.ensures
    ∙ two_parts 8 8 8 (drop at xs) (drop at ys) c.word_cmp.result c.word_cmp-2.result (omega (arith, c.requires.left_has, length-drop at xs)) (omega (arith, c.requires.right_has, length-drop at ys)) (omega arith) c.word_cmp.ensures
    (c.word_cmp-2.ensures ∙ ap₂ (λ a b. byte_order (take 8 a) (take 8 b)) (sym (drop-drop 8 at xs)) (sym (drop-drop 8 at ys)))
