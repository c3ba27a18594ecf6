-- What a comparison of two text columns answers, and its results. Assumes nothing.
use Rattle.std.specs.Prelude.{ℕ, List, length, Option, Result}
use Rattle.faults.specs.declared.ColumnFault.{ColumnFault}
use Rattle.parts.specs.declared.part.Part.{Part}
use Rattle.rows.specs.Collected.{collected, collection}
use Rattle.rows.specs.Row.{Row}
use Rattle.views.specs.Texts.{column_texts, text_fault}
use Rattle.export.specs.declared.comparison.Comparison.{Comparison}
use Rattle.export.specs.declared.comparison.Side.{Side}
use Rattle.export.specs.declared.fault.CompareFault.{CompareFault}
use Rattle.export.specs.Compared.{first_fault, right_list}

-- the fault of a side
abbrev pub fault_of_texts : List Part → Comparison → Side → Option ColumnFault
fault_of_texts buffers c side = text_fault c.bytes.now buffers side.start side.validity c.len

-- the rows of a side; one that is refused has none
abbrev pub texts_at : List Part → Comparison → Side → List Row
texts_at buffers c side = column_texts c.bytes.now buffers side.start side.validity c.len

-- the list that the left rows meet: the right rows, or right row 0 for each
abbrev pub met_texts : List Part → Comparison → List Row
met_texts buffers c = right_list c.fixed (length (texts_at buffers c c.left)) (texts_at buffers c c.right)

-- the answer over an output of so many bytes
abbrev pub compared_texts : List Part → Comparison → ℕ → Result ℕ CompareFault
compared_texts buffers c room = first_fault (fault_of_texts buffers c c.left) (fault_of_texts buffers c c.right) (collection (texts_at buffers c c.left) (met_texts buffers c) c.len room)

-- the results, packed
abbrev pub text_results : List Part → Comparison → List ℕ
text_results buffers c = collected (texts_at buffers c c.left) (met_texts buffers c) c.op c.len
