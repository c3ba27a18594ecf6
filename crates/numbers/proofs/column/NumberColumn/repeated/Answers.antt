use Rattle.std.proofs.Common.{sym, ◌∙◌, arith}
use Rattle.parts.specs.Parts.{valid_at}
use Rattle.numbers.specs.Columns.{key_at}
use Rattle.numbers.proofs.Cells.{row_past, row_null, row_key}
use Rattle.numbers.proofs.Elements.{one_means}
use Rattle.numbers.proofs.column.NumberColumn.repeated.Goals as goal
use Rattle.numbers.proofs.column.NumberColumn.repeated.Goals.{then-i-self-via-then-i-self, then-i-self-via-else-i-self+then-not-is_valid}

pub returns-then-i-self : goal.returns-then-i-self
returns-then-i-self g c =
    let s = c.args.self.now in
    let valid = valid_at s.validity s.bytes.now in
    let key = key_at g.K.ElementKind.PTYPE s.bytes.now s.start in
    elim c.then-i-self.branch [
      | then-i-self-via-then-i-self w ↦ sym (row_past valid key s.len c.args.i (omega (arith, w.if-i-self.true)))
      | then-i-self-via-else-i-self+then-not-is_valid w ↦ sym (row_null valid key s.len c.args.i (omega (arith, w.if-i-self.false)) (sym w.is_valid.ensures ∙ w.if-not-is_valid.true))
    ]

pub returns : goal.returns
returns g c = λ b.
    let s = c.args.self.now in
    let p = g.K.ElementKind.PTYPE in
    sym (row_key (valid_at s.validity s.bytes.now) (key_at p s.bytes.now s.start) s.len c.args.i _ (omega (arith, c.if-i-self.false)) (sym c.is_valid.ensures ∙ c.if-not-is_valid.false)
    (one_means p s.bytes.now s.start _ c.args.i b (c.WIDTH.ensures ∙ g.met.K.ElementKind.wide)))
