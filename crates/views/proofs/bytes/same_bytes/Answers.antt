use Rattle.views.proofs.Fronts.{other_length}
use Rattle.views.proofs.bytes.same_bytes.Goals as goal

pub returns-else-left-right : goal.returns-else-left-right
returns-else-left-right c = other_length c.args.left.now c.args.right.now c.if-left-right.false
