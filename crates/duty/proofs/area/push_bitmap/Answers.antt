use Rattle.std.proofs.Common.{◌≡◌, [], ◌∷◌, ◌++◌, length, min, vec_items, sym, ap, ◌∙◌, arith, rules}
use Rattle.std.proofs.lemmas.List.{append_assoc}
use Rattle.rows.specs.Bits.{bits, bytes_of}
use Rattle.duty.specs.Layout.{present}
use Rattle.duty.proofs.Bytes.{chunk_byte}
use Rattle.duty.proofs.area.push_bitmap.Goals as goal

pub loop-eight-preserved : goal.loop-eight-preserved
loop-eight-preserved c =
    let before = vec_items c.loop-eight.bytes in
    let xs = c.in-Some.eight.now in
    let ys = c.next.new.self.rest.now in
    let size = c.loop-eight.invariant.0 in
    let step = c.in-Some.ensures.steps.1 in
    let byte : c.pack.result ≡ bits (present xs) 0 (min (length xs) 8) = c.pack.ensures (present xs) (λ k b h p. search rules) in
    let chunk = chunk_byte xs ys (omega (arith, ap length step.0, step.2)) (omega (arith, ap length step.0, step.1, size)) in (
      c.in-Some.ensures.steps.0 ∙ size,
      ap (λ bs. bs ++ bytes_of (present ys) (length ys)) c.in_ok-push.ensures.items ∙ append_assoc before (c.pack.result ∷ []) (bytes_of (present ys) (length ys))
          ∙ ap (λ bs. before ++ bs) (ap (λ b. b ∷ bytes_of (present ys) (length ys)) byte ∙ chunk ∙ ap (λ rest. bytes_of (present rest) (length rest)) (sym step.0))
          ∙ c.loop-eight.invariant.1,
    )
