use Rattle.std.proofs.Common.{◌≡◌, length, replicate, pos, Some, vec_items, sym, ap, ◌∙◌, rules}
use Rattle.std.proofs.lemmas.List.{length-replicate}
use Rattle.std.proofs.lemmas.Result.{IfOk-weaker}
use Rattle.rows.specs.Row.{number}
use Rattle.duty.specs.Counts.{area_rows, count_rows}
use Rattle.duty.proofs.Outputs.{same_rows}
use Rattle.duty.proofs.checks.threshold_area.Goals as goal

pub returns : goal.returns
returns c =
    let t = Some c.args.threshold in
    let n = c.args.len in
    let all : c.deref.result.now ≡ replicate n t = c.deref.ensures.value ∙ c.in_ok-thresholds.ensures.items_if_clones_equal (λ y h. search rules) in
    let long : length c.deref.result.now ≡ n = ap length all ∙ length-replicate n t in
    IfOk-weaker c.count_area.result (λ v. area_rows (vec_items v) (length c.deref.result.now) ≡ count_rows c.deref.result.now) (λ v. area_rows (vec_items v) n ≡ replicate n (number (pos c.args.threshold)))
    (λ v h. sym (ap (area_rows (vec_items v)) long) ∙ h ∙ ap count_rows all ∙ same_rows n c.args.threshold) c.count_area.ensures
