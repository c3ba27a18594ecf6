use Rattle.std.proofs.Common.{◌*◌, sym, ap, ◌∙◌}
use Rattle.rows.specs.Row.{row}
use Rattle.numbers.specs.Column.{rows_of}
use Rattle.numbers.specs.Columns.{cell}
use Rattle.numbers.specs.Eight.{keys}
use Rattle.numbers.proofs.EightRows.{spread, in_column, all_set, none_set}
use Rattle.numbers.proofs.numbers.NumbersRowComparator.against.Goals as goal

pub returns-in-Some : goal.returns-in-Some
returns-in-Some g c =
    let l = c.args.self.now.left in
    let y = row (rows_of c.args.self.now.right) c.args.j in
    let s = 8 * c.args.k in
    spread c.args.op c.compare_eight.result s _ _ (row (rows_of l)) (λ i. y) c.compare_eight.ensures
    (in_column g.L.ElementKind.PTYPE l.bytes.now l.start l.validity l.len s _ _ c.requires.left_has c.valid_byte-left_valid.ensures c.eight-left.ensures)
    (λ b h. ap (λ v. cell v (keys c.in-Some.right b)) (all_set b h) ∙ sym (c.in-Some.ensures b))

pub returns-in-None : goal.returns-in-None
returns-in-None g c =
    let l = c.args.self.now.left in
    let y = row (rows_of c.args.self.now.right) c.args.j in
    let s = 8 * c.args.k in
    spread c.args.op c.compare_eight-in-None.result s _ _ (row (rows_of l)) (λ i. y) c.compare_eight-in-None.ensures
    (in_column g.L.ElementKind.PTYPE l.bytes.now l.start l.validity l.len s _ _ c.requires.left_has c.valid_byte-left_valid.ensures c.eight-left.ensures)
    (λ b h. ap (λ v. cell v (keys c.eight-left.result b)) (none_set b) ∙ sym c.in-None.ensures)
