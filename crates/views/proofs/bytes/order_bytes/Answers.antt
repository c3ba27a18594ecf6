use Rattle.std.proofs.Common.{◌∙◌}
use Rattle.views.proofs.Fronts.{then_lengths}
use Rattle.views.proofs.bytes.order_bytes.Goals as goal

pub returns : goal.returns
returns c = c.then.ensures ∙ then_lengths c.min.result c.args.left.now c.args.right.now c.front_cmp.result c.cmp-sizes.result c.min.ensures c.front_cmp.ensures c.cmp-sizes.ensures
