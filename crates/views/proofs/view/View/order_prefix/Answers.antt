use Rattle.std.proofs.Common.{◌/◌, sym, ap, ◌∙◌}
use Rattle.std.specs.Int.Digits.{number_from_digits}
use Rattle.elements.proofs.LittleEndian.{turned_four, high_bytes}
use Rattle.views.specs.View.{view_bytes, prefix_of}
use Rattle.views.proofs.view.View.order_prefix.Goals as goal

pub returns : goal.returns
unfolding view_bytes prefix_of
returns c = c.swap_bytes.ensures ∙ turned_four (c.args.self.low / 4294967296) ∙ ap (number_from_digits 256) (sym (high_bytes c.args.self.low))
