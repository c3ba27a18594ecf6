use Rattle.std.proofs.Common.{◌∙◌}
use Rattle.std.proofs.lemmas.Nat.{and_mask}
use Rattle.elements.proofs.LittleEndian.{low_half}
use Rattle.views.specs.View.{view_bytes, size_of}
use Rattle.views.proofs.view.View.size.Goals as goal

pub returns : goal.returns
unfolding view_bytes size_of
returns c = and_mask c.args.self.low 32 ∙ low_half c.args.self.low
