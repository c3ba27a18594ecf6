use Rattle.std.proofs.Common.{◌≡◌, ℕ, ◌^◌, ◌<◌, ◌++◌, take, vec_items}
use Rattle.std.specs.List.{flat_map}
use Rattle.duty.specs.Layout.{count_bytes, count_value}
use Rattle.duty.proofs.area.push_values.Given as goal

abbrev pub invariant-loop-count : goal.invariant-loop-count
invariant-loop-count l =
    (vec_items l.bytes ≡ vec_items l.initial.bytes ++ flat_map count_bytes (take l.count-index l.counts))
    × ((i : ℕ) → i < l.count-index → count_value l.counts i < 2 ^ 64)
