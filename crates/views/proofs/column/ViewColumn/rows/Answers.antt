use Rattle.std.proofs.Common.{◌≡◌, length, sym, ap, ◌∙◌}
use Rattle.parts.specs.Parts.{fault_of}
use Rattle.views.specs.Column.{rows_of}
use Rattle.views.specs.Texts.{rows_standing}
use Rattle.views.specs.declared.column.ViewColumn.{ViewColumn}
use Rattle.views.proofs.TextRows.{standing, rows_length, standing_rows}
use Rattle.views.proofs.column.ViewColumn.rows.Goals as goal

count : (s : ViewColumn) → standing s ≡ length (rows_of s)
count s = sym (ap length (standing_rows s.parts (fault_of s.checked) s.told) ∙ rows_length s.parts (standing s))

pub returns-in-Ok-clause-value : goal.returns-in-Ok-clause-value
returns-in-Ok-clause-value c =
    let s = c.args.self.now in
    sym (ap (λ r. rows_standing (fault_of r) s.parts.len) c.in-Ok.is) ∙ count s

pub returns-in-Err-clause-value : goal.returns-in-Err-clause-value
returns-in-Err-clause-value c =
    let s = c.args.self.now in
    sym (ap (λ r. rows_standing (fault_of r) s.parts.len) c.in-Err.is) ∙ count s
