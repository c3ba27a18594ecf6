use Rattle.std.proofs.Common.{sym, ap, ◌∙◌}
use mir.Syntax.{w128}
use Rattle.std.proofs.lemmas.Int.{to_z-of_z}
use Rattle.rows.specs.Row.{number}
use Rattle.numbers.proofs.column.NumberColumn.get.Goals as goal

pub returns : goal.returns
returns g c = ap number (to_z-of_z w128 c.key.result (record { sfits = c.key.type_inv }) ∙ c.key.ensures) ∙ sym (c.in_ok-repeated.ensures 0)
