use Rattle.std.proofs.Common.{◌∙◌}
use Rattle.views.proofs.Decisions.{by_size}
use Rattle.views.proofs.shortcuts.size_cmp.Goals as goal

pub returns : goal.returns
returns c = λ xs ys is_left is_right windows short. c.cmp.ensures ∙ by_size xs ys c.args.left c.args.right is_left is_right windows short
