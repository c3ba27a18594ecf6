use Rattle.std.proofs.Common.{◌≡◌, length, replicate, pos, sym, ap, ◌∙◌}
use Rattle.std.proofs.lemmas.List.{length-map}
use Rattle.rows.specs.Bits.{bytes_for}
use Rattle.rows.specs.Operators.{swapped}
use Rattle.rows.specs.Row.{number}
use Rattle.rows.proofs.Collections.{exchange, grants_both}
use Rattle.duty.specs.Counts.{area_rows, count_row, count_rows}
use Rattle.duty.proofs.Outputs.{filled, fixed_list}
use Rattle.duty.proofs.checks.compare_threshold.Goals as goal

pub returns : goal.returns
returns c =
    let counts = c.args.counts.now in
    let n = length counts in
    let op = c.args.op in
    let xs = count_rows counts in
    let t = number (pos c.args.threshold) in
    let ys = replicate n t in
    let e = c.in_ok-collect_both_ways.ensures in
    let size : c.in_ok-collect_both_ways.field-0 ≡ bytes_for n = (grants_both _ _ _ _ n _ _ _ e.answers).2 in
    let left = c.new-after_sign.ensures.left_list ∙ c.new.ensures.left_list ∙ c.in_ok-count_column.ensures ∙ ap (λ bs. area_rows bs n) c.deref.ensures.value ∙ c.in_ok-area.ensures in
    let one = c.new-after_sign.ensures.right_list ∙ c.new.ensures.right_list ∙ c.in_ok-count_column-2.ensures ∙ ap (λ bs. area_rows bs 1) c.deref-2.ensures.value ∙ c.in_ok-one.ensures in
    let many = c.new-before_sign.ensures.left_list ∙ c.in_ok-count_column-3.ensures ∙ ap (λ bs. area_rows bs n) c.deref-3.ensures.value ∙ c.in_ok-many.ensures in
    let right = c.new-before_sign.ensures.right_list ∙ c.in_ok-count_column-4.ensures ∙ ap (λ bs. area_rows bs n) c.deref-4.ensures.value ∙ c.in_ok-area.ensures in
    let fixed = fixed_list _ _ xs (replicate 1 t) n left one (length-map counts count_row) in
    let room : c.in_ok-after.after.len ≡ bytes_for n = c.in_ok-after.ensures in
    let room' : c.in_ok-before.before.len ≡ bytes_for n = c.in_ok-before.ensures in
    let one_way = filled _ _ xs ys op n _ c.deref_mut.result.now c.collect_both_ways.new.out _ _ left fixed size (c.deref_mut.ensures.len ∙ room) room e.writes in
    let other_way = filled _ _ ys xs (swapped op) n _ c.deref_mut-2.result.now c.collect_both_ways.new.back _ _ many right size (c.deref_mut-2.ensures.len ∙ room') room' e.writes_back in
    (one_way, other_way ∙ exchange xs ys op n ∙ sym one_way)
