use Rattle.std.proofs.Common.{◌++◌, length, replicate, vec_items, sym, ap, ◌∙◌, ap₂}
use Rattle.std.proofs.lemmas.List.{append_assoc, drop-replicate, take_rest}
use Rattle.elements.specs.Reading.{le_bytes}
use Rattle.duty.proofs.Views.{short_view}
use Rattle.duty.proofs.names.push_view.Goals as goal

pub returns-in_ok-extend_from_slice-2 : goal.returns-in_ok-extend_from_slice-2
returns-in_ok-extend_from_slice-2 c =
    let name = c.args.name.now in
    let before = vec_items c.args.views.now in
    let size = c.in_ok-push_number.ensures ∙ ap (λ n. before ++ le_bytes 4 n) c.requires in
    let front = c.in_ok-extend_from_slice.ensures.items in
    let back = c.in_ok-extend_from_slice-2.ensures.items in
    let zeros = take_rest (replicate 12 0) (length name) ∙ drop-replicate (length name) 12 0 in
    back ∙ ap₂ ◌++◌ (front ∙ ap (λ bs. bs ++ name) size) zeros
    ∙ simp append_assoc (ap (λ bs. before ++ bs) (sym (short_view name c.args.offset c.if-name-le-INLINE.true)))
