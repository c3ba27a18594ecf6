-- The rows of a number column. Assumes nothing.
use Rattle.std.specs.Prelude.{List}
use Rattle.elements.specs.declared.kind.ElementKind.{Ghosts}
use Rattle.rows.specs.Row.{Row}
use Rattle.numbers.specs.declared.column.NumberColumn.{NumberColumn}
use Rattle.numbers.specs.Columns.{number_rows}

abbrev pub rows_of : {K : Type 0} {kind : Ghosts K} → NumberColumn K kind → List Row
rows_of {kind = kind} c = number_rows kind.PTYPE c.bytes.now c.start c.validity c.len
