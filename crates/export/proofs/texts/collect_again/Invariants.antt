use Rattle.std.proofs.Common.{◌≡◌, ◌<◌, length}
use Rattle.rows.specs.Collected.{collected, collection, written}
use Rattle.export.proofs.texts.collect_again.Given as goal

-- collecting into the output leaves what it would have left at first, and once that was done it stands there
abbrev pub invariant-loop-turn : goal.invariant-loop-turn
invariant-loop-turn g l =
    let left = g.C.RowComparator.left l.comparator in
    let right = g.C.RowComparator.right l.comparator in
    let answer = collection left right l.asked.len (length l.initial.out) in
    let bytes = collected left right l.asked.op l.asked.len in
    (l.answer ≡ answer)
    × (written answer bytes l.out ≡ written answer bytes l.initial.out)
    × (0 < l.turn → l.out ≡ written answer bytes l.initial.out)
