-- The refusal number of each fault, with the row and the cause that it carries. Assumes nothing.
use Rattle.std.specs.Prelude.{ℕ, Some, None, Option}
use Rattle.faults.specs.declared.CollectFault.{CollectFault}
use Rattle.faults.specs.declared.CollectFault.TheVariants.{Length, Output}
use Rattle.faults.specs.declared.ViewFault.{ViewFault}
use Rattle.faults.specs.declared.ViewFault.TheVariants.{Padding, Index, End, Prefix}
use Rattle.faults.specs.declared.ColumnFault.{ColumnFault}
use Rattle.faults.specs.declared.ColumnFault.TheVariants.{Range, Rows, Kind, View}
use Rattle.faults.specs.declared.Refusal.{Refusal}

abbrev pub collect_number : CollectFault → ℕ
collect_number Length = 8
collect_number Output = 9

-- the causes of a malformed view, in their order
abbrev pub view_cause : ViewFault → ℕ
view_cause Padding = 1
view_cause Index = 2
view_cause End = 3
view_cause Prefix = 4

-- a view's fault with its row is a column's fault, and nothing of it is lost
abbrev pub at_row : ℕ → ViewFault → ColumnFault
at_row row fault = View row fault

abbrev pub refused : ℕ → Option ℕ → Option ℕ → Refusal
refused number row cause = record { number = number; row = row; cause = cause }

abbrev pub column_refusal : ColumnFault → Refusal
column_refusal Range = refused 1 None None
column_refusal Rows = refused 2 None None
column_refusal Kind = refused 3 None None
column_refusal (View row fault) = refused 7 (Some row) (Some (view_cause fault))

abbrev pub column_number : ColumnFault → ℕ
column_number f = (column_refusal f).number
