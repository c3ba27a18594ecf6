use Rattle.std.proofs.Common.{◌≡◌, ℕ, ◌+◌, ◌-◌, ◌<◌, Bool, List, take, drop, Decides, sym, ap, ◌∙◌, ap₂, arith, rules}
use Rattle.std.proofs.lemmas.Slice.Eq.{bytes_eq-Decides}
use Rattle.std.proofs.lemmas.List.{take-take}
use Rattle.std.proofs.lemmas.Bool.{leb-false}
use Rattle.std.specs.Str.{bytes_eq}
use Rattle.views.specs.View.{prefix_of, offset_of, size_of, view_bytes}
use Rattle.views.proofs.view.View.begins_in.Goals as goal

tested : (xs ys : List ℕ) (r : Bool) → Decides r (xs ≡ ys) → r ≡ bytes_eq xs ys
tested xs ys r h = search (rules, bytes_eq-Decides)

four : (w inlined : List ℕ) → inlined ≡ drop 4 w → take 4 inlined ≡ prefix_of w
unfolding prefix_of
four w inlined e = ap (take 4) e

pub returns : goal.returns
returns c =
    let w = view_bytes c.args.self in
    let buffer = c.args.buffer.now in
    let start = c.offset-start.result in
    let inlined = c.inlined_bytes-inlined.result in
    let long : 12 < size_of w = leb-false (size_of w) 12 c.requires.long in
    let n : start + 4 - start ≡ 4 = omega arith in
    c.eq.ensures
    ∙ ap₂ bytes_eq (four w inlined c.inlined_bytes-inlined.ensures)
    (ap₂ (λ k s. take k (drop s buffer)) n c.offset-start.ensures ∙ sym (take-take 4 (size_of w) (drop (offset_of w) buffer) (omega arith)))
