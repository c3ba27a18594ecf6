-- The patterns and the keys of eight elements in the data. Assumes nothing.
use Rattle.std.specs.Prelude.{ℕ, ℤ}
use Rattle.elements.specs.declared.kind.ElementKind.{Ghosts}
use Rattle.elements.specs.Kinds.{width_of}
use Rattle.elements.specs.Keys.{key_of}
use Rattle.numbers.specs.declared.eight.Spread.{Ghosts as Spreads}
use Rattle.numbers.specs.declared.eight.Eight.{Eight}
use Rattle.numbers.specs.Eights.{element}

abbrev pub patterns : {K S : Type 0} {kind : Ghosts K} {spread : Spreads S} → Eight K S kind spread → ℕ → ℕ
patterns {kind = kind} {spread = spread} e b = element (width_of kind.PTYPE) e.bytes.now e.start spread.FIXED b

abbrev pub keys : {K S : Type 0} {kind : Ghosts K} {spread : Spreads S} → Eight K S kind spread → ℕ → ℤ
keys {kind = kind} e b = key_of kind.PTYPE (patterns e b)
