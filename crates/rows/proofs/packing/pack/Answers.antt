use Rattle.std.proofs.Common.{ap, ◌∙◌, arith}
use Rattle.rows.proofs.Packed.{bits_none, pack_more}
use Rattle.rows.proofs.packing.pack.Goals as goal

pub loop-k-init : goal.loop-k-init
loop-k-init g c = λ f h. bits_none f 0

pub loop-k-preserved : goal.loop-k-preserved
loop-k-preserved g c = λ f h.
    pack_more f 0 c.loop-k.k c.loop-k.byte c.results-bit.result
    (omega arith) (c.loop-k.invariant f h) (h c.loop-k.k c.results-bit.result (omega (arith, c.loop-k-test.true)) c.results-bit.ensures ∙ ap f (omega arith))
