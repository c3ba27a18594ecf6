use Rattle.std.proofs.Common.{◌*◌}
use Rattle.rows.specs.Row.{row}
use Rattle.numbers.specs.Column.{rows_of}
use Rattle.numbers.proofs.EightRows.{spread, in_column}
use Rattle.numbers.proofs.numbers.NumbersRowComparator.whole.Goals as goal

pub returns : goal.returns
returns g c =
    let l = c.args.self.now.left in
    let r = c.args.self.now.right in
    let s = 8 * c.args.k in
    spread c.args.op c.compare_eight.result s _ _ (row (rows_of l)) (row (rows_of r)) c.compare_eight.ensures
    (in_column g.L.ElementKind.PTYPE l.bytes.now l.start l.validity l.len s _ _ c.requires.left_has c.valid_byte-left_valid.ensures c.eight-left.ensures)
    (in_column g.R.ElementKind.PTYPE r.bytes.now r.start r.validity r.len s _ _ c.requires.right_has c.valid_byte-right_valid.ensures c.eight-right.ensures)
