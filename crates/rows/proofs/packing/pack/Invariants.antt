use Rattle.std.proofs.Common.{◌≡◌, ℕ, ◌<◌, min, Bool}
use Rattle.rows.specs.Bits.{bits}
use Rattle.rows.proofs.packing.pack.Given as goal

abbrev pub invariant-loop-k : goal.invariant-loop-k
invariant-loop-k g l = (f : ℕ → Bool) → ((k : ℕ) (b : Bool) → k < min l.count 8 → goal.F-post g l.results k b → b ≡ f k) → l.byte ≡ bits f 0 l.k
