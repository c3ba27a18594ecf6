use Rattle.std.proofs.Common.{◌≡◌, ℕ, ◌+◌, ◌*◌, ◌^◌, ◌<◌, ◌≤◌, List, get_or, Fits, w8, sym, ap, ◌∙◌, arith, lit<, rules}
use Rattle.elements.specs.declared.ptype.PType.{PType}
use native.Mathlib.Nat.{pow-le-pow_right}
use Rattle.elements.specs.Kinds.{width_of}
use Rattle.elements.specs.Reading.{pattern_at}
use Rattle.numbers.specs.Eights.{eight_of}
use Rattle.numbers.proofs.Vectors.{pattern_below, low_pattern}
use Rattle.numbers.proofs.lanes.repeated.Goals as goal

-- a pattern of less than eight bytes is below 2 to the 32
below : (bs : List ℕ) (typed : (i : ℕ) → Fits w8 (get_or bs i 0)) (p : PType) (s n : ℕ) → width_of p < 8 → n ≡ pattern_at (width_of p) bs s → n < 2 ^ 32
below bs typed p s n narrow e =
    let few : 8 * width_of p ≤ 32 = search rules in
    let most : 2 ^ (8 * width_of p) ≤ 2 ^ 32 = pow-le-pow_right (lit< tt) few in
    omega (arith, e, pattern_below bs typed (width_of p) s)

pub overflow_cast-result : goal.overflow_cast-result
overflow_cast-result g c = let fits = below c.args.bytes.now c.type_inv.bytes g.K.ElementKind.PTYPE c.args.start _ c.requires.narrow c.read.ensures in search rules

pub returns : goal.returns
returns g c =
    let w = width_of g.K.ElementKind.PTYPE in
    let bs = c.args.bytes.now in
    let s = c.args.start in
    let at : s ≡ s + 0 = omega arith in
    ap (λ n. eight_of (λ _. n)) (c.read.ensures ∙ ap (pattern_at w bs) at ∙ sym (low_pattern bs c.type_inv.bytes w (s + 0)))
