use Rattle.std.proofs.Common.{◌≡◌, ℕ, ◌+◌, ◌≤◌, false, length, sym, refl, ap, ◌∙◌, rules}
use Rattle.elements.specs.Kinds.{width_of}
use Rattle.elements.specs.Keys.{low_bytes}
use Rattle.numbers.specs.Eights.{element, eight_of}
use Rattle.numbers.proofs.Vectors.{loaded, loaded_bytes}
use Rattle.numbers.proofs.lanes.beside.Goals as goal
use Rattle.numbers.proofs.lanes.beside.Goals.{in-1, in-2, in_default}

pub returns : goal.returns
returns g c =
    let bs = c.args.bytes.now in
    let s = c.args.start in
    let p = g.K.ElementKind.PTYPE in
    let is = c.WIDTH.ensures ∙ g.met.K.ElementKind.wide in
    let there : (k : ℕ) → k ≡ width_of p → eight_of (λ b. low_bytes k (element k bs s false b)) ≡ eight_of (λ b. low_bytes (width_of p) (element (width_of p) bs s false b)) =
    λ k e. ap (λ w. eight_of (λ b. low_bytes w (element w bs s false b))) e in
    elim c.match-WIDTH.branch [
      | in-1 w ↦ w.result-is ∙ w.ones.ensures ∙ loaded_bytes bs c.type_inv.bytes s (let fits : s + 8 ≤ length bs = search rules in fits) ∙ there 1 (sym w.in-1.is ∙ is)
      | in-2 w ↦ w.result-is ∙ w.twos.ensures ∙ loaded bs c.type_inv.bytes 2 65536 16 s refl refl ∙ there 2 (sym w.in-2.is ∙ is)
      | in_default w ↦ w.result-is ∙ w.fours.ensures ∙ loaded bs c.type_inv.bytes 4 4294967296 32 s refl refl ∙ there 4 (let e : 4 ≡ width_of p = search rules in e)
    ]
