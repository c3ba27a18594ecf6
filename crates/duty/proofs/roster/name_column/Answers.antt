use Rattle.std.proofs.Common.{◌-◌, vec_items, ap, ◌∙◌, arith}
use Rattle.parts.specs.declared.validity.Validity.TheVariants.{NonNullable}
use Rattle.views.specs.Texts.{text_rows}
use Rattle.duty.proofs.Columns.{column_rows, rows_behind}
use Rattle.duty.proofs.roster.name_column.Goals as goal

pub returns : goal.returns
returns c =
    let names = c.args.names.now in
    let bytes = vec_items names.bytes in
    let len = c.args.len in
    c.new-column.ensures.means ∙ column_rows _ bytes names.buffers c.args.start len c.deref.ensures.value (c.in_ok-check.ensures ∙ c.new-column.ensures.answers)
    ∙ ap (λ s. text_rows bytes names.buffers s NonNullable len) c.requires.last ∙ rows_behind bytes names.buffers (names.len - len) len names.len (omega (arith, c.requires.some))
