use Rattle.std.proofs.Common.{◌≡◌, ltb, pos, ◌+ℤ◌, sym, ap, ◌∙◌, rules}
use Rattle.numbers.specs.Eight.{keys}
use Rattle.numbers.specs.Eights.{offset}
use Rattle.numbers.proofs.Vectors.{mask_bits, shifted_lt}
use Rattle.numbers.proofs.pairs.lower.Goals as goal

pub returns-then-WIDTH-lt8 : goal.returns-then-WIDTH-lt8
returns-then-WIDTH-lt8 g c =
    let kind : g.K.ElementKind.PTYPE ≡ g.L.ElementKind.PTYPE = search rules in
    let right = c.ranks-then-WIDTH-lt8 in
    mask_bits ltb c.ranks.result right.result _ c.ranks.ensures.long right.ensures.long
    (λ b h. shifted_lt _ _ (offset g.K.ElementKind.PTYPE) _ _ (c.ranks.ensures.ranked b h) (right.ensures.ranked b h ∙ ap (λ p. keys c.args.right.now b +ℤ pos (offset p)) (sym kind)))
