use Rattle.std.proofs.Common.{drop, vec_items}
use Rattle.duty.proofs.Views.{Written}
use Rattle.duty.proofs.names.name_area.Given as goal

abbrev pub invariant-loop-name : goal.invariant-loop-name
invariant-loop-name l = Written l.names (drop l.name-index l.names) (vec_items l.bytes) (vec_items l.buffer)
