use Rattle.std.proofs.Common.{arith}
use Rattle.elements.proofs.LittleEndian.{high_half}
use Rattle.views.specs.View.{view_bytes, offset_of}
use Rattle.views.proofs.view.View.offset.Goals as goal

pub returns : goal.returns
unfolding view_bytes offset_of
returns c = high_half c.args.self.high (omega arith)
