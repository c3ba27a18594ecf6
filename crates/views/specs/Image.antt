-- The words of a constant value. Assumes nothing.
use Rattle.std.specs.Prelude.{ℕ, min, List, ◌++◌, length}
use Rattle.elements.specs.Reading.{le_bytes}
use Rattle.views.specs.Window.{window}

-- the size, as far as four bytes tell it, and the first twelve bytes with zeros past the end
abbrev pub image_of : List ℕ → List ℕ
image_of bytes = le_bytes 4 (min (length bytes) 4294967295) ++ window 12 bytes
