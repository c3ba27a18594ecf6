use Rattle.std.proofs.Common.{eqb, sym, ◌∙◌, ap₂, arith}
use Rattle.views.proofs.Decisions.{by_head}
use Rattle.views.proofs.shortcuts.same_head.Goals as goal

pub returns-clause-differ : goal.returns-clause-differ
returns-clause-differ c = λ e xs ys us vs. by_head c.args.left c.args.right xs ys us vs (omega arith) (omega arith) (ap₂ eqb (sym c.head.ensures) (sym c.head-2.ensures) ∙ e)
