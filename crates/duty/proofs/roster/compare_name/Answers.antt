use Rattle.std.proofs.Common.{◌≡◌, ◌-◌, length, drop, replicate, vec_items, ap, ◌∙◌, ap₂, arith}
use Rattle.std.proofs.lemmas.Result.{IfOk-weaker}
use Rattle.rows.specs.Collected.{collected}
use Rattle.rows.specs.Row.{text}
use Rattle.views.specs.Column.{rows_of}
use Rattle.duty.specs.Names.{area_texts}
use Rattle.duty.proofs.Columns.{value_rows}
use Rattle.duty.proofs.roster.compare_name.Goals as goal

pub returns : goal.returns
returns c =
    let names = c.args.names.now in
    let n = names.len in
    let s = c.new-comparator.result in
    let none : n - n ≡ 0 = omega arith in
    let left : rows_of s.left ≡ area_texts names = c.new-comparator.ensures.left_list ∙ c.in_ok-column.ensures ∙ ap (λ k. drop k (area_texts names)) none in
    let right = value_rows (rows_of s.left) (vec_items names.bytes) names.buffers n _ c.args.name.now left (c.new-comparator.ensures.value ∙ c.new.ensures) in
    IfOk-weaker c.collect_rows.result (λ v. vec_items v ≡ collected (rows_of s.left) (replicate (length (rows_of s.left)) (text s.constant.bytes.now)) c.args.op n)
    (λ v. vec_items v ≡ collected (area_texts names) (replicate n (text c.args.name.now)) c.args.op n)
    (λ v h. h ∙ ap₂ (λ xs ys. collected xs ys c.args.op n) left right) c.collect_rows.ensures
