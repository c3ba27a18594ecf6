use Rattle.std.proofs.Common.{◌≡◌, ℕ, ◌+◌, List, ◌++◌, take, drop, sym, ap, ◌∙◌, ap₂, arith}
use Rattle.std.proofs.lemmas.List.{take-append-drop, take-take, drop-take, drop-drop}
use Rattle.std.specs.Int.Digits.{AllBelowBase}
use Rattle.elements.specs.Reading.{le_bytes}
use Rattle.elements.proofs.LittleEndian.{pattern_bytes, under_all}
use Rattle.views.specs.View.{view_bytes}
use Rattle.views.proofs.view.View.read_within.Goals as goal

sixteen : (xs : List ℕ) (at : ℕ) → take 8 (drop at xs) ++ take 8 (drop (at + 8) xs) ≡ take 16 (drop at xs)
sixteen xs at =
    let ys : List ℕ = drop at xs in
    let p : take 8 (take 16 ys) ≡ take 8 ys = take-take 8 16 ys (omega arith) in
    let q : drop 8 (take 16 ys) ≡ take 8 (drop (at + 8) xs) = drop-take 8 8 ys ∙ ap (take 8) (drop-drop 8 at xs) in
    ap₂ ◌++◌ (sym p) (sym q) ∙ take-append-drop 8 (take 16 ys)

pub returns : goal.returns
unfolding view_bytes
returns c =
    let bytes = c.args.bytes.now in
    let at = c.args.at in
    let u : AllBelowBase 256 bytes = under_all bytes (λ k. omega (arith, c.type_inv.bytes k)) in
    ap₂ (λ l h. le_bytes 8 l ++ le_bytes 8 h) c.read-low.ensures c.read-high.ensures
    ∙ ap₂ ◌++◌ (pattern_bytes 8 bytes at u (omega arith)) (pattern_bytes 8 bytes (at + 8) u (omega arith))
    ∙ sixteen bytes at
