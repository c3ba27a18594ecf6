use Rattle.std.proofs.Common.{sym}
use Rattle.parts.specs.Parts.{valid_at}
use Rattle.numbers.specs.Columns.{key_at}
use Rattle.numbers.proofs.Cells.{cells_length}
use Rattle.numbers.proofs.column.NumberColumn.rows.Goals as goal

pub returns-clause-value : goal.returns-clause-value
returns-clause-value g c =
    let s = c.args.self.now in
    sym (cells_length (valid_at s.validity s.bytes.now) (key_at g.K.ElementKind.PTYPE s.bytes.now s.start) s.len)
