use Rattle.std.proofs.Common.{◌≡◌, ℕ, ◌*◌, ◌^◌, ◌<◌, eqb, sym, ap, ◌∙◌, subst, ap₂, arith, mod-eq_of_lt}
use Rattle.elements.specs.Kinds.{width_of}
use Rattle.elements.specs.Keys.{low_bytes}
use Rattle.numbers.specs.Eight.{patterns}
use Rattle.numbers.proofs.Elements.{one_key}
use Rattle.numbers.proofs.pairs.one_element.Goals as goal

-- eight bytes are all of a pattern
whole : (n w : ℕ) → w ≡ 8 → n < 2 ^ 64 → n ≡ low_bytes w n
whole n w e h = sym (mod-eq_of_lt (subst (λ v. n < 2 ^ (8 * v)) (sym e) h))

pub returns : goal.returns
returns g c =
    let p = g.K.ElementKind.PTYPE in
    let q = g.L.ElementKind.PTYPE in
    let x = patterns c.args.left.now c.args.b in
    let y = patterns c.args.right.now c.args.b in
    ap₂ eqb (c.pattern.ensures ∙ whole x (width_of p) c.requires.wide (omega (arith, c.pattern.ensures, c.pattern.type_inv)))
    (c.pattern-2.ensures ∙ whole y (width_of q) (ap width_of (sym c.requires.kind) ∙ c.requires.wide) (omega (arith, c.pattern-2.ensures, c.pattern-2.type_inv)))
    ∙ sym (one_key p q x y c.requires.kind)
