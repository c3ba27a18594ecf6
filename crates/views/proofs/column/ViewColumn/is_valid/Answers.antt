use Rattle.std.proofs.Common.{◌≡◌, ℕ, ◌<◌, Bool, true, false, not, Less, Greater, sym, ap, true≢false, arith}
use Rattle.parts.specs.Parts.{valid_at}
use Rattle.rows.specs.Row.{is_null, null, order, row}
use Rattle.views.specs.Column.{rows_of}
use Rattle.views.specs.declared.column.ViewColumn.{ViewColumn}
use Rattle.views.proofs.TextRows.{standing, null_there, text_there}
use Rattle.views.proofs.column.ViewColumn.is_valid.Goals as goal

-- what an answer says of row i
abbrev Says : ViewColumn → ℕ → Bool → Type 0
Says s i b =
    (b ≡ not (is_null (row (rows_of s) i))) × (b ≡ false → row (rows_of s) i ≡ null) × (b ≡ true → order (row (rows_of s) i) null ≡ Greater) × (b ≡ true → order null (row (rows_of s) i) ≡ Less)

says_null : (s : ViewColumn) (i : ℕ) → row (rows_of s) i ≡ null → Says s i false
says_null s i e = (sym (ap (λ r. not (is_null r)) e), λ _. e, λ t. absurd (true≢false (sym t)), λ t. absurd (true≢false (sym t)))

there : (s : ViewColumn) (i : ℕ) → i < standing s → (b : Bool) → valid_at s.parts.validity s.parts.bytes.now i ≡ b → Says s i b
there s i h true e = (sym (ap (λ r. not (is_null r)) (text_there s i h e)), λ t. absurd (true≢false t), λ _. ap (λ r. order r null) (text_there s i h e), λ _. ap (order null) (text_there s i h e))
there s i h false e = says_null s i (null_there s i h e)

pub returns-then-i-rows : goal.returns-then-i-rows
returns-then-i-rows c =
    let p = there c.args.self.now c.args.i (omega (arith, c.rows.ensures.stands)) c.is_valid.result (sym c.is_valid.ensures) in
    record { value = p.0; invalid = p.1; above = p.2; below = p.3 }
