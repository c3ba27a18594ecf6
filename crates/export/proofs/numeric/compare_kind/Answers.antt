use Rattle.std.proofs.Common.{◌∙◌}
use Rattle.faults.specs.declared.CollectFault.{CollectFault}
use Rattle.std.proofs.Common.{Ok}
use Rattle.export.specs.Compared.{met_rows, rows_at}
use Rattle.export.proofs.Lists.{wrote, met}
use Rattle.export.proofs.numeric.compare_kind.Goals as goal

pub returns-clause-writes : goal.returns-clause-writes
returns-clause-writes g c =
    let p = g.K.ElementKind.PTYPE in
    let asked = c.args.asked.now in
    let left = c.new-3.ensures.left_list ∙ c.in_ok-left.ensures.means in
    let right = c.new-3.ensures.right_list ∙ c.in_ok-right.ensures.means in
    wrote {E = CollectFault} _ _ (rows_at p asked asked.left) (met_rows p asked) asked.op asked.len (Ok c.in_ok-collect.field-0) c.args.out.now _ left (met p asked _ _ left right) c.in_ok-collect.ensures.writes
