use Rattle.std.proofs.Common.{◌∙◌}
use Rattle.std.proofs.lemmas.Nat.{and_mask}
use Rattle.elements.proofs.LittleEndian.{low_half}
use Rattle.views.specs.View.{view_bytes, index_of}
use Rattle.views.proofs.view.View.index.Goals as goal

pub returns : goal.returns
unfolding view_bytes index_of
returns c = and_mask c.args.self.high 32 ∙ low_half c.args.self.high
