use Rattle.std.proofs.Common.{◌≡◌, ◌*◌, take}
use Rattle.views.proofs.bytes.front_cmp.Given as goal

abbrev pub invariant-loop-k : goal.invariant-loop-k
invariant-loop-k l = take (16 * l.k) l.left ≡ take (16 * l.k) l.right
