use Rattle.std.proofs.Common.{◌≡◌, ◌++◌, map, drop}
use Rattle.std.specs.List.{range_with_len}
use Rattle.rows.specs.Bits.{byte_at}
use Rattle.rows.specs.Collected.{result_at}
use Rattle.rows.proofs.collector.write_bits.Given as goal

abbrev pub invariant-loop-k : goal.invariant-loop-k
invariant-loop-k g l =
    let m = g.C.RowComparator in
    l.byte-items ≡ map (byte_at (result_at (m.left l.comparator) (m.right l.comparator) l.op) l.len) (range_with_len 0 l.k) ++ drop l.k l.initial.byte-items
