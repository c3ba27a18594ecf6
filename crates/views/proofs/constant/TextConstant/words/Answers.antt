use Rattle.std.proofs.Common.{◌≡◌, ℕ, min, List, length, take, drop, sym, ap, ◌∙◌, arith}
use Rattle.elements.specs.Reading.{little_endian}
use Rattle.elements.proofs.LittleEndian.{le_value}
use Rattle.views.specs.Image.{image_of}
use Rattle.views.specs.View.{prefix_of, size_of, view_bytes}
use Rattle.views.specs.Window.{window}
use Rattle.views.proofs.Faults.{window_shorter}
use Rattle.views.proofs.constant.TextConstant.words.Goals as goal

image_size : (w bs : List ℕ) → w ≡ image_of bs → size_of w ≡ min (length bs) 4294967295
unfolding size_of
image_size w bs e = ap (λ v. little_endian (take 4 v)) e ∙ le_value 4 (min (length bs) 4294967295) (omega arith)

image_prefix : (w bs : List ℕ) → w ≡ image_of bs → window 4 bs ≡ prefix_of w
unfolding prefix_of
image_prefix w bs e = window_shorter 4 12 bs (omega arith) ∙ sym (ap (λ v. take 4 (drop 4 v)) e)

pub returns-clause-tells : goal.returns-clause-tells
returns-clause-tells c =
    let s = c.args.self in
    let w = view_bytes s.image in
    let bs = s.bytes.now in
    record { sized = image_size w bs s.told; prefixed = image_prefix w bs s.told; whole = λ _. sym (ap (drop 4) s.told) }
