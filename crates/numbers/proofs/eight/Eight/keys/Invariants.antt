use Rattle.std.proofs.Common.{◌≡◌, ℕ, ◌<◌, length}
use Rattle.numbers.specs.Eight.{keys}
use Rattle.numbers.specs.Eights.{key_of_lane}
use Rattle.numbers.proofs.eight.Eight.keys.Given as goal

abbrev pub invariant-loop-b : goal.invariant-loop-b
invariant-loop-b g l = (length l.key-items ≡ 8) × ((j : ℕ) → j < l.b → key_of_lane l.key-items j ≡ keys l.self j)
