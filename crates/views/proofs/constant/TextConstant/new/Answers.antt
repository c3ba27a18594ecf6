use Rattle.std.proofs.Common.{◌≡◌, ℕ, min, List, ◌++◌, length, take, ap, ◌∙◌, arith}
use Rattle.std.proofs.lemmas.List.{take_all}
use Rattle.elements.specs.Reading.{le_bytes}
use Rattle.views.specs.Image.{image_of}
use Rattle.views.specs.Window.{window}
use Rattle.views.proofs.Windows.{length_window}
use Rattle.views.proofs.constant.TextConstant.new.Goals as goal

all_of_it : (bs : List ℕ) → take 16 (image_of bs) ≡ image_of bs
all_of_it bs = ap (λ r. le_bytes 4 (min (length bs) 4294967295) ++ r) (take_all 12 (window 12 bs) (omega (arith, length_window 12 bs)))

pub invariant_of-result : goal.invariant_of-result
invariant_of-result c = record { told = c.read_within-image.ensures ∙ ap (take 16) c.image_bytes.ensures ∙ all_of_it c.args.bytes.now }
