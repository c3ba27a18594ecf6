use Rattle.std.proofs.Common.{ℕ, ◌*◌, ◌^◌, ◌<◌, ◌≤◌, ℤ, pos, ◌+ℤ◌, sym, ap, ◌∙◌, rules}
use lib.Bits.{bit_xor}
use Rattle.std.proofs.lemmas.Nat.{mod_below, pow_pos}
use Rattle.elements.specs.Kinds.{class_of, width_of}
use Rattle.elements.specs.declared.ptype.Class.TheVariants.{Unsigned, Signed, Float}
use Rattle.elements.specs.Keys.{key_of, low_bytes, sign_bit}
use Rattle.numbers.specs.Eights.{eight_of, offset}
use Rattle.numbers.specs.Eight.{patterns}
use Rattle.numbers.proofs.Vectors.{lanes_of, unsigned_rank, signed_rank, float_rank, at_class, flip, narrow}
use Rattle.numbers.proofs.eight.Eight.ranks.Goals as goal
use Rattle.numbers.proofs.eight.Eight.ranks.Goals.{in-Unsigned, in-Signed, in-Float}

pub returns-clause-ranked : goal.returns-clause-ranked
returns-clause-ranked g c =
    let p = g.K.ElementKind.PTYPE in
    let w = width_of p in
    let m : ℕ → ℕ = patterns c.args.self.now in
    let k : ℕ → ℤ = λ b. key_of p (m b) +ℤ pos (offset p) in
    let f : ℕ → ℕ = λ b. low_bytes w (m b) in
    let below : (b : ℕ) → f b < 2 ^ (8 * w) = λ b. mod_below (m b) (2 ^ (8 * w)) (pow_pos (8 * w)) in
    let some : 0 < w = search rules in
    let most : w ≤ 4 = search rules in
    let class = sym (c.class.ensures ∙ ap class_of c.PTYPE.ensures) in
    let wide = c.WIDTH.ensures ∙ g.met.K.ElementKind.wide in
    let told = c.patterns-patterns.ensures in
    elim c.match-class.branch [
      | in-Unsigned v ↦
          (let all = lanes_of c.match-class.result f k (v.result-is ∙ told)
          (λ b. at_class p Unsigned (m b) (f b) (class ∙ v.in-Unsigned.is) (unsigned_rank w (f b))) in
          all.1)
      | in-Signed v ↦
          (let all = lanes_of c.match-class.result (λ b. bit_xor (f b) (sign_bit w)) k
          (v.result-is ∙ v.turned.ensures f told ∙ ap (λ u. eight_of (λ b. bit_xor (f b) (sign_bit u))) wide)
          (λ b. at_class p Signed (m b) (bit_xor (f b) (sign_bit w)) (class ∙ v.in-Signed.is) (signed_rank w (f b) some (below b))) in
          all.1)
      | in-Float v ↦
          (let all = lanes_of c.match-class.result (λ b. bit_xor (bit_xor (f b) (flip 32 w (f b))) (sign_bit w)) k
          (v.result-is ∙ v.turned-in-Float.ensures (λ b. bit_xor (f b) (flip 32 c.WIDTH.result (f b))) (v.flipped.ensures f told) ∙ ap (λ u. eight_of (λ b. bit_xor (bit_xor (f b) (flip 32 u (f b))) (sign_bit u))) wide)
          (λ b. at_class p Float (m b) (bit_xor (bit_xor (f b) (flip 32 w (f b))) (sign_bit w)) (class ∙ v.in-Float.is) (float_rank w (f b) (narrow p c.requires) some most (below b))) in
          all.1)
    ]
