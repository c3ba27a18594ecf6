use Rattle.std.proofs.Common.{◌≡◌, ◌*◌, ◌%◌, ◌^◌, refl, ap, ◌∙◌, mod-eq_of_lt, one-mul}
use Rattle.std.proofs.lemmas.Nat.{pow_below}
use Rattle.numbers.proofs.lanes.turned.Goals as goal

pub returns : goal.returns
returns c = λ f e.
    let h : 1 * 2 ^ c.args.low % 2 ^ 32 ≡ 2 ^ c.args.low = ap (λ n. n % 2 ^ 32) (one-mul (2 ^ c.args.low)) ∙ mod-eq_of_lt (pow_below c.args.low 32 c.requires) in
    rw (e, h) refl
