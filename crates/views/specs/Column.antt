-- The rows of a column of text or binary values. Assumes nothing.
use Rattle.std.specs.Prelude.{List}
use Rattle.rows.specs.Row.{Row}
use Rattle.views.specs.declared.column.ViewColumn.{ViewColumn}
use Rattle.views.specs.Texts.{texts_of}

abbrev pub rows_of : ViewColumn → List Row
rows_of c = texts_of c.parts
