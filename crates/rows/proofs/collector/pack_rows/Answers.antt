use Rattle.std.proofs.Common.{◌+◌, rules, ap, ◌∙◌, arith}
use Rattle.rows.specs.Bits.{bits}
use Rattle.rows.specs.Collected.{result_at}
use Rattle.rows.proofs.BitLaws.{bits_same}
use Rattle.rows.proofs.collector.pack_rows.Goals as goal

pub returns : goal.returns
returns g c =
    let m = g.C.RowComparator in
    let f = result_at (m.left c.args.comparator.now) (m.right c.args.comparator.now) c.args.op in
    c.pack.ensures (λ k. f (c.args.start + k)) (λ k b h p. search rules) ∙ ap (bits (λ k. f (c.args.start + k)) 0) (omega arith)
    ∙ bits_same (λ k. f (c.args.start + k)) f 0 c.args.start c.args.count (λ k h. ap (λ j. f (c.args.start + j)) (omega arith))
