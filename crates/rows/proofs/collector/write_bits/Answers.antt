use Rattle.std.proofs.Common.{◌≡◌, ℕ, ◌*◌, ◌/◌, List, ◌++◌, map, drop, take, ap, ◌∙◌, arith}
use Rattle.std.specs.List.{range_with_len}
use Rattle.std.proofs.lemmas.List.{length-take}
use Rattle.rows.specs.Bits.{bits, byte_at}
use Rattle.rows.specs.Collected.{result_at}
use Rattle.rows.proofs.Packed.{front_done, write_more}
use Rattle.rows.proofs.collector.write_bits.Goals as goal

pub loop-k-preserved : goal.loop-k-preserved
loop-k-preserved g c =
    let m = g.C.RowComparator in
    let f = result_at (m.left c.args.comparator.now) (m.right c.args.comparator.now) c.args.op in
    write_more (byte_at f c.args.len) c.loop-k.k c.whole_byte.result (take (c.args.len / 8) c.args.out.now) c.loop-k.byte-items
    c.loop-k-test.true c.loop-k.invariant (c.whole_byte.ensures ∙ ap (bits f (8 * c.loop-k.k)) (omega (arith, length-take (c.args.len / 8) c.args.out.now)))

pub returns-then-len-gt0 : goal.returns-then-len-gt0
returns-then-len-gt0 g c =
    let m = g.C.RowComparator in
    let f = result_at (m.left c.args.comparator.now) (m.right c.args.comparator.now) c.args.op in
    let n = c.args.len in
    let out = c.args.out.now in
    let so_far : ℕ → List ℕ = λ i. map (byte_at f n) (range_with_len 0 i) ++ drop i out in
    let done = front_done (byte_at f n) (n / 8) c.loop-k.k out c.loop-k.byte-items (omega (arith, length-take (n / 8) out, c.loop-k.auto.k-end, c.loop-k.auto.byte-items, c.loop-k-test.false)) c.loop-k.invariant in
    let byte : c.pack_rows.result ≡ byte_at f n (n / 8) = c.pack_rows.ensures ∙ ap (bits f (8 * (n / 8))) (omega arith) in
    write_more (byte_at f n) (n / 8) c.pack_rows.result out _ (omega arith) done byte ∙ ap so_far (omega arith)
