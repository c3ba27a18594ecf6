use Rattle.std.proofs.Common.{◌≡◌, ℕ, eqb, length, get_or, sym, ap, ◌∙◌, ap₂, rules}
use Rattle.elements.specs.Kinds.{width_of}
use Rattle.elements.specs.Keys.{low_bytes}
use Rattle.numbers.specs.Eight.{patterns}
use Rattle.numbers.proofs.Elements.{one_key}
use Rattle.numbers.proofs.Vectors.{lane_of, mask_bits}
use Rattle.numbers.proofs.pairs.alike.Goals as goal

pub returns-then-WIDTH-lt8 : goal.returns-then-WIDTH-lt8
returns-then-WIDTH-lt8 g c =
    let p = g.K.ElementKind.PTYPE in
    let q = g.L.ElementKind.PTYPE in
    let kind : p ≡ q = search rules in
    let x : ℕ → ℕ = patterns c.args.left.now in
    let y : ℕ → ℕ = patterns c.args.right.now in
    let right = c.patterns-then-WIDTH-lt8 in
    mask_bits eqb c.patterns.result right.result _ (ap length c.patterns.ensures) (ap length right.ensures)
    (λ b h.
    ap₂ (λ xs ys. eqb (get_or xs b 0) (get_or ys b 0)) c.patterns.ensures right.ensures
    ∙ ap₂ eqb (lane_of (λ i. low_bytes (width_of p) (x i)) b h) (lane_of (λ i. low_bytes (width_of q) (y i)) b h)
    ∙ sym (one_key p q (x b) (y b) kind))
