use Rattle.std.proofs.Common.{refl}
use Rattle.numbers.proofs.lanes.flipped.Goals as goal

pub returns : goal.returns
returns c = λ f e. rw e refl
