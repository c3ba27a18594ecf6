use Rattle.std.proofs.Common.{◌∙◌, ap₂}
use Rattle.std.specs.Ordering.{nat_cmp}
use Rattle.views.proofs.Decisions.{by_prefix, one_prefix}
use Rattle.views.proofs.shortcuts.prefix_cmp.Goals as goal

pub returns : goal.returns
returns c =
    record {
      decides = λ n xs ys us vs. by_prefix c.args.left c.args.right xs ys us vs c.cmp.result (c.cmp.ensures ∙ ap₂ nat_cmp c.order_prefix.ensures c.order_prefix-2.ensures) n;
      tie = one_prefix c.args.left c.args.right c.cmp.result (c.cmp.ensures ∙ ap₂ nat_cmp c.order_prefix.ensures c.order_prefix-2.ensures);
    }
