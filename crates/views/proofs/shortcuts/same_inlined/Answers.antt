use Rattle.std.proofs.Common.{arith}
use Rattle.views.proofs.Decisions.{by_word}
use Rattle.views.proofs.shortcuts.same_inlined.Goals as goal

pub returns : goal.returns
returns c = λ xs ys us vs heads short. by_word c.args.left c.args.right xs ys us vs heads short (omega arith) (omega arith) c.inlined_word.result c.inlined_word-2.result c.inlined_word.ensures c.inlined_word-2.ensures
