-- Counts as bytes. Assumes nothing.
use Rattle.std.specs.Prelude.{ℕ, Bool, List, is_some, None, Option, slice_index_or}
use Rattle.std.specs.Option.{unwrap_or}
use Rattle.elements.specs.Reading.{le_bytes}

-- a missing count takes its place as 0
abbrev pub count_bytes : Option ℕ → List ℕ
count_bytes count = le_bytes 8 (unwrap_or count 0)

abbrev pub count_value : List (Option ℕ) → ℕ → ℕ
count_value counts i = unwrap_or (slice_index_or counts i None) 0

-- whether count i is there
abbrev pub present : List (Option ℕ) → ℕ → Bool
present counts i = is_some (slice_index_or counts i None)
