-- What a comparison of two number columns answers, and its results. Assumes nothing.
use Rattle.std.specs.Prelude.{ℕ, Bool, cond, List, replicate, Some, None, Ok, Err, Option, Result}
use Rattle.faults.specs.declared.CollectFault.{CollectFault}
use Rattle.faults.specs.declared.ColumnFault.{ColumnFault}
use Rattle.elements.specs.declared.ptype.PType.{PType}
use Rattle.elements.specs.Kinds.{width_of}
use Rattle.numbers.specs.Columns.{number_fault, number_rows}
use Rattle.rows.specs.Collected.{collected, collection}
use Rattle.rows.specs.Row.{Row, row}
use Rattle.export.specs.declared.comparison.Comparison.{Comparison}
use Rattle.export.specs.declared.comparison.Side.{Side}
use Rattle.export.specs.declared.fault.CompareFault.{CompareFault}
use Rattle.export.specs.declared.fault.CompareFault.TheVariants.{Column, Collect}

-- the right list: the right column, or its row 0 for each left row
abbrev pub right_list : Bool → ℕ → List Row → List Row
right_list fixed n rows = cond fixed (replicate n (row rows 0)) rows

abbrev pub fault_at : PType → Comparison → Side → Option ColumnFault
fault_at p c side = number_fault (width_of p) c.bytes.now side.start side.validity c.len

abbrev pub rows_at : PType → Comparison → Side → List Row
rows_at p c side = number_rows p c.bytes.now side.start side.validity c.len

-- the list that the left rows meet: the right rows, or right row 0 for each
abbrev pub met_rows : PType → Comparison → List Row
met_rows p c = right_list c.fixed c.len (rows_at p c c.right)

-- the first refusal, of the left column, of the right one, of the collection; else what the collection answers
abbrev pub first_fault : Option ColumnFault → Option ColumnFault → Result ℕ CollectFault → Result ℕ CompareFault
first_fault (Some f) right collected = Err (Column f)
first_fault None (Some f) collected = Err (Column f)
first_fault None None (Err f) = Err (Collect f)
first_fault None None (Ok k) = Ok k

-- the answer over an output of so many bytes
abbrev pub compared : PType → Comparison → ℕ → Result ℕ CompareFault
compared p c room = first_fault (fault_at p c c.left) (fault_at p c c.right) (collection (rows_at p c c.left) (met_rows p c) c.len room)

-- the results, packed
abbrev pub results : PType → Comparison → List ℕ
results p c = collected (rows_at p c c.left) (met_rows p c) c.op c.len
