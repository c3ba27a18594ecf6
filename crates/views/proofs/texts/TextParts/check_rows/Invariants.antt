use Rattle.std.proofs.Common.{◌≡◌, ◌-◌}
use Rattle.views.specs.Texts.{first_fault, row_fault_in}
use Rattle.views.proofs.texts.TextParts.check_rows.Given as goal

abbrev pub invariant-loop-i : goal.invariant-loop-i
invariant-loop-i l = first_fault (row_fault_in l.self) l.i (l.self.len - l.i) ≡ first_fault (row_fault_in l.self) 0 l.self.len
