use Rattle.std.proofs.Common.{refl}
use Rattle.export.proofs.Lists.{wrote, plain_list, fixed_list}
use Rattle.export.proofs.collect.collect.Goals as goal

pub returns-then-asked-clause-writes : goal.returns-then-asked-clause-writes
returns-then-asked-clause-writes g c =
    let left = c.new.ensures.left_list in
    wrote _ _ _ _ c.args.asked.now.op c.args.asked.now.len c.collect_ordering_bits.result c.args.out.now _ left (fixed_list c.args.asked.now.fixed _ _ _ _ c.if-asked.true left c.new.ensures.right_list)
    c.collect_ordering_bits.ensures.writes

pub returns-else-asked-clause-writes : goal.returns-else-asked-clause-writes
returns-else-asked-clause-writes g c =
    wrote _ _ _ _ c.args.asked.now.op c.args.asked.now.len c.collect_ordering_bits-else-asked.result c.args.out.now _ refl (plain_list c.args.asked.now.fixed _ _ c.if-asked.false)
    c.collect_ordering_bits-else-asked.ensures.writes
