use Rattle.std.proofs.Common.{◌∙◌}
use Rattle.elements.proofs.LittleEndian.{turned_eight}
use Rattle.views.specs.View.{view_bytes}
use Rattle.views.proofs.view.View.order_tail.Goals as goal

pub returns : goal.returns
unfolding view_bytes
returns c = c.swap_bytes.ensures ∙ turned_eight c.args.self.high
