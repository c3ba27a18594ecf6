use Rattle.std.proofs.Common.{sym, ◌∙◌}
use Rattle.views.specs.Texts.{row_fault_in}
use Rattle.views.proofs.TextRows.{first_step}
use Rattle.views.proofs.texts.TextParts.check_rows.Goals as goal

pub loop-i-preserved : goal.loop-i-preserved
loop-i-preserved c =
    let f = row_fault_in c.args.self.now in
    sym (first_step f c.loop-i.i c.args.self.now.len c.loop-i-test.true (sym c.in_ok-check_row.ensures)) ∙ c.loop-i.invariant
