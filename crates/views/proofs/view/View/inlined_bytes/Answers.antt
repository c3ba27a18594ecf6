use Rattle.std.proofs.Common.{◌≡◌, ℕ, List, [], ◌∷◌, ◌++◌, take, drop, ap, ◌∙◌}
use Rattle.elements.specs.Reading.{le_bytes}
use Rattle.elements.proofs.LittleEndian.{eight_bytes}
use Rattle.views.specs.View.{view_bytes}
use Rattle.views.proofs.view.View.inlined_bytes.Goals as goal
use borrow.Rule.Slice.PartMut.{put_mid}

twelve : (low high : ℕ) (a b : List ℕ) → a ≡ take 4 (drop 4 (le_bytes 8 low)) → b ≡ le_bytes 8 high → put_mid 4 8 (a ++ 0 ∷ 0 ∷ 0 ∷ 0 ∷ 0 ∷ 0 ∷ 0 ∷ 0 ∷ []) b ≡ drop 4 (le_bytes 8 low ++ le_bytes 8 high)
twelve low high a b p q = λ i. put_mid 4 8 (p i ++ 0 ∷ 0 ∷ 0 ∷ 0 ∷ 0 ∷ 0 ∷ 0 ∷ 0 ∷ []) (q i)

pub returns : goal.returns
unfolding view_bytes
returns c =
    let v = c.args.self in
    twelve v.low v.high c.copy_from_slice.new.self c.copy_from_slice-2.new.self
    (c.copy_from_slice.ensures.after ∙ ap (λ bs. take 4 (drop 4 bs)) (c.to_le_bytes.ensures ∙ eight_bytes v.low)) (c.copy_from_slice-2.ensures.after ∙ c.to_le_bytes-2.ensures ∙ eight_bytes v.high)
