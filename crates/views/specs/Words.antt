-- What the words of a view say of a value. Assumes nothing.
use Rattle.std.specs.Prelude.{◌≡◌, ℕ, ◌≤◌, min, List, length, drop}
use Rattle.views.specs.View.{prefix_of, size_of}
use Rattle.views.specs.Window.{window}

-- the first twelve bytes of the value, zeros past its end, are the last twelve of the view
abbrev pub Whole : List ℕ → List ℕ → Type 0
Whole w value = window 12 value ≡ drop 4 w

-- a value that is too long for a size to tell has the greatest size
pub record Words (w value : List ℕ) : Type 0 where
  pub sized : size_of w ≡ min (length value) 4294967295
  pub prefixed : window 4 value ≡ prefix_of w
  pub whole : size_of w ≤ 12 → Whole w value
