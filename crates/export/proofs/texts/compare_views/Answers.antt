use Rattle.std.proofs.Common.{Ok}
use Rattle.faults.specs.declared.CollectFault.{CollectFault}
use Rattle.export.proofs.Lists.{wrote_met}
use Rattle.export.proofs.texts.compare_views.Goals as goal

pub returns-clause-writes : goal.returns-clause-writes
returns-clause-writes c =
    wrote_met {E = CollectFault} c.args.asked.now _ _ _ _ (Ok c.in_ok-collect_texts.field-0) c.args.out.now _ c.new-left.ensures.means c.new-right.ensures.means c.in_ok-collect_texts.ensures.writes
