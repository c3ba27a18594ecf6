use Rattle.views.proofs.TextOrder.{text_order}
use Rattle.views.proofs.text_order_stands.Goals as goal

pub returns : goal.returns
returns c = text_order
