use Rattle.std.proofs.Common.{length, ap, ◌∙◌, sym}
use Rattle.export.specs.declared.comparison.Comparison.{Comparison}
use Rattle.export.specs.Compared.{results}
use Rattle.rows.specs.Collected.{written}
use Rattle.export.specs.Exported.{exported, exported_by, filled, filled_by, validity_of, operator_of}
use Rattle.export.specs.Faults.{told}
use Rattle.export.proofs.Told.{writes}
use Rattle.export.proofs.compare_numbers.Goals as goal

pub returns-clause-answers : goal.returns-clause-answers
returns-clause-answers c =
    let a = c.args in
    let p = c.in-Ok.kind in
    let bs = a.bytes.now in
    let lv = validity_of a.nullable a.left_bitmap in
    let rv = validity_of a.nullable a.right_bitmap in
    let l = c.side.ensures in
    let r = c.side-2.ensures in
    let room = length a.out.now in
    let asked : Comparison = record { bytes = a.bytes; left = c.side.result; right = c.side-2.result; len = a.len; op = c.operator.result; fixed = a.fixed } in
    c.answer.ensures ∙ ap told c.compare_numbers.ensures.answers
    ∙ (λ i. exported p bs (l.start i) (l.validity i) (r.start i) (r.validity i) a.fixed a.len room)
    ∙ ap (λ k. exported_by k bs a.left lv a.right rv a.fixed a.len room) c.in-Ok.ensures

pub returns-clause-writes : goal.returns-clause-writes
returns-clause-writes c =
    let a = c.args in
    let p = c.in-Ok.kind in
    let bs = a.bytes.now in
    let lv = validity_of a.nullable a.left_bitmap in
    let rv = validity_of a.nullable a.right_bitmap in
    let l = c.side.ensures in
    let r = c.side-2.ensures in
    let out = a.out.now in
    let asked : Comparison = record { bytes = a.bytes; left = c.side.result; right = c.side-2.result; len = a.len; op = c.operator.result; fixed = a.fixed } in
    let n = sym (c.answer.ensures ∙ ap told c.compare_numbers.ensures.answers) in
    c.compare_numbers.ensures.writes
    ∙ ap (λ q. written q (results p asked) out) c.compare_numbers.ensures.answers
    ∙ writes p asked (length out) out
    ∙ (λ i. filled p bs (l.start i) (l.validity i) (r.start i) (r.validity i) (c.operator.ensures i) a.fixed a.len (n i) out)
    ∙ ap (λ k. filled_by k bs a.left lv a.right rv (operator_of a.op) a.fixed a.len c.answer.result out) c.in-Ok.ensures
