use Rattle.std.proofs.Common.{sym, ap, ◌∙◌}
use Rattle.rows.specs.Row.{text}
use Rattle.views.specs.Column.{rows_of}
use Rattle.views.specs.Texts.{read_text}
use Rattle.export.proofs.Lists.{wrote, fixed_list, plain_list, text_list}
use Rattle.export.proofs.texts.collect_texts.Goals as goal

pub returns-in-Some-clause-writes : goal.returns-in-Some-clause-writes
returns-in-Some-clause-writes c =
    let asked = c.args.asked.now in
    let left = c.new-against.ensures.left_list in
    let value = ap text (c.new-against.ensures.value ∙ c.new.ensures) ∙ ap read_text (sym c.in-Some.is) ∙ c.get.ensures in
    wrote _ _ _ _ asked.op asked.len c.collect_again.result c.args.out.now _ left (text_list asked.fixed _ _ (rows_of c.args.right) _ c.if-asked.true left value) c.collect_again.ensures.writes

pub returns-in-None-clause-writes : goal.returns-in-None-clause-writes
returns-in-None-clause-writes c =
    let asked = c.args.asked.now in
    let left = c.new-in-None-2.ensures.left_list ∙ c.new-in-None.ensures.left_list in
    let right = c.new-in-None-2.ensures.right_list ∙ c.new-in-None.ensures.right_list in
    wrote _ _ _ _ asked.op asked.len c.collect_again-in-None.result c.args.out.now _ left (fixed_list asked.fixed _ _ _ _ c.if-asked.true left right) c.collect_again-in-None.ensures.writes

pub returns-else-asked-clause-writes : goal.returns-else-asked-clause-writes
returns-else-asked-clause-writes c =
    let asked = c.args.asked.now in
    let e = c.new-else-asked.ensures in
    wrote _ _ _ _ asked.op asked.len c.collect_again-else-asked.result c.args.out.now _ e.left_list (e.right_list ∙ plain_list asked.fixed _ _ c.if-asked.false) c.collect_again-else-asked.ensures.writes
