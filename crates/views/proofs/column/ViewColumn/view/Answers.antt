use Rattle.std.proofs.Common.{◌≡◌, ℕ, ◌+◌, ◌*◌, ◌≤◌, false, length, arith}
use Rattle.rows.specs.Row.{is_null, row}
use Rattle.views.specs.Column.{rows_of}
use Rattle.views.specs.declared.column.ViewColumn.{ViewColumn}
use Rattle.views.proofs.TextRows.{not_null, text_there, view_lies, view_good}
use Rattle.views.proofs.column.ViewColumn.view.Goals as goal

lies : (s : ViewColumn) (i : ℕ) → is_null (row (rows_of s) i) ≡ false → s.parts.views + 16 * i + 16 ≤ length s.parts.bytes.now
lies s i e = view_lies s i (not_null s i e).0

pub overflow_mul-at : goal.overflow_mul-at
overflow_mul-at c = omega (arith, lies c.args.self.now c.args.i c.requires)

pub overflow_add-at : goal.overflow_add-at
overflow_add-at c = omega (arith, lies c.args.self.now c.args.i c.requires)

pub invariant_of-result : goal.invariant_of-result
invariant_of-result c =
    let s = c.args.self.now in
    let n = not_null s c.args.i c.requires in
    record { inside = lies s c.args.i c.requires; formed = view_good s c.args.i n.0 n.1 }

pub returns : goal.returns
returns c =
    let s = c.args.self.now in
    let n = not_null s c.args.i c.requires in
    text_there s c.args.i n.0 n.1
