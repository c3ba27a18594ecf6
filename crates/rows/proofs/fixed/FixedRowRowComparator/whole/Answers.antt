use Rattle.std.proofs.Common.{◌*◌, arith}
use Rattle.rows.proofs.FixedRows.{fixed_byte}
use Rattle.rows.proofs.fixed.FixedRowRowComparator.whole.Goals as goal

pub returns : goal.returns
returns g c =
    let m = g.C.RowComparator in
    let s = c.args.self.now.below in
    fixed_byte (m.left s) (m.right s) c.args.op (8 * c.args.k) c.against.result (omega arith) c.against.ensures
