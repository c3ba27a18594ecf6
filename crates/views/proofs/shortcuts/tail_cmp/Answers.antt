use Rattle.std.proofs.Common.{◌∙◌, ap₂}
use Rattle.std.specs.Ordering.{nat_cmp}
use Rattle.views.proofs.Decisions.{by_tail, one_tail}
use Rattle.views.proofs.shortcuts.tail_cmp.Goals as goal

pub returns : goal.returns
returns c =
    record {
      decides = λ n xs ys l r front. by_tail c.args.left c.args.right xs ys front l r c.cmp.result (c.cmp.ensures ∙ ap₂ nat_cmp c.order_tail.ensures c.order_tail-2.ensures) n;
      tie = λ e xs ys l r front. one_tail c.args.left c.args.right xs ys front l r c.cmp.result (c.cmp.ensures ∙ ap₂ nat_cmp c.order_tail.ensures c.order_tail-2.ensures) e;
    }
