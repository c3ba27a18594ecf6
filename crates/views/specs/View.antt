-- The variable-size binary view of the Arrow columnar format: sixteen bytes, over a data area and a list of buffers in it. Assumes nothing.
--     bytes 0-3 are the size; up to size 12 the value follows at byte 4, and the rest is zero;
--     above 12, bytes 4-7 repeat the value's first four bytes, 8-11 are a buffer index, and 12-15 an offset in that buffer.
use Rattle.std.specs.Prelude.{◌≡◌, ℕ, ◌+◌, ◌<◌, ◌≤◌, Bool, cond, not, ◌&&◌, List, ◌++◌, length, take, drop, Some, None, Option, ◌==◌, nat_le, nat_lt, slice_index, slice_index_or}
use Rattle.std.specs.List.{list_all}
use Rattle.std.specs.Str.{bytes_eq}
use Rattle.faults.specs.declared.ViewFault.{ViewFault}
use Rattle.faults.specs.declared.ViewFault.TheVariants.{Padding, Index, End, Prefix}
use Rattle.elements.specs.Reading.{pattern_at, le_bytes}
use Rattle.parts.specs.declared.part.Part.{Part}
use Rattle.parts.specs.Parts.{part_bytes}
use Rattle.views.specs.declared.view.View.{View}

-- the sixteen bytes that a view was read from
unfoldable pub view_bytes : View → List ℕ
view_bytes v = le_bytes 8 v.low ++ le_bytes 8 v.high

unfoldable pub size_of : List ℕ → ℕ
size_of w = pattern_at 4 w 0

unfoldable pub prefix_of : List ℕ → List ℕ
prefix_of w = take 4 (drop 4 w)

unfoldable pub index_of : List ℕ → ℕ
index_of w = pattern_at 4 w 8

unfoldable pub offset_of : List ℕ → ℕ
offset_of w = pattern_at 4 w 12

-- ---- the value

-- where no buffer is listed there are no bytes
abbrev pub nowhere : Part
nowhere = record { start = 0; len = 0 }

-- the bytes of the view's buffer
unfoldable pub buffer_of : List ℕ → List Part → List ℕ → List ℕ
buffer_of bytes buffers w = part_bytes bytes (slice_index_or buffers (index_of w) nowhere)

abbrev pub short_value : List ℕ → List ℕ
short_value w = take (size_of w) (drop 4 w)

abbrev pub long_value : List ℕ → List Part → List ℕ → List ℕ
long_value bytes buffers w = take (size_of w) (drop (offset_of w) (buffer_of bytes buffers w))

unfoldable pub value_of : List ℕ → List Part → List ℕ → List ℕ
value_of bytes buffers w = cond (nat_le (size_of w) 12) (short_value w) (long_value bytes buffers w)

-- ---- what is wrong with a view: the first of four conditions that holds

abbrev pub all_zero : List ℕ → Bool
all_zero = list_all (λ b. b == 0)

abbrev pub bad_padding : List ℕ → Bool
bad_padding w = nat_le (size_of w) 12 && not (all_zero (drop (4 + size_of w) w))

abbrev pub no_buffer : List Part → List ℕ → Bool
no_buffer buffers w = nat_lt 12 (size_of w) && nat_le (length buffers) (index_of w)

abbrev pub past_buffer : List ℕ → List Part → List ℕ → Bool
past_buffer bytes buffers w = nat_lt 12 (size_of w) && nat_lt (length (buffer_of bytes buffers w)) (offset_of w + size_of w)

abbrev pub other_prefix : List ℕ → List Part → List ℕ → Bool
other_prefix bytes buffers w = nat_lt 12 (size_of w) && not (bytes_eq (prefix_of w) (take 4 (long_value bytes buffers w)))

abbrev pub view_fault : List ℕ → List Part → List ℕ → Option ViewFault
view_fault bytes buffers w =
    cond (bad_padding w) (Some Padding)
    (cond (no_buffer buffers w) (Some Index)
    (cond (past_buffer bytes buffers w) (Some End)
    (cond (other_prefix bytes buffers w) (Some Prefix) None)))

-- what it is for a view to be well-formed
pub record WellFormed (bytes : List ℕ) (buffers : List Part) (w : List ℕ) : Type 0 where
  -- every byte behind a short value is zero
  pub padded : size_of w ≤ 12 → (k : ℕ) → 4 + size_of w ≤ k → slice_index w k ≡ 0
  -- a long value has a buffer, lies in it, and begins as the view says
  pub listed : 12 < size_of w → index_of w < length buffers
  pub inside : 12 < size_of w → offset_of w + size_of w ≤ length (buffer_of bytes buffers w)
  pub begins : 12 < size_of w → prefix_of w ≡ take 4 (value_of bytes buffers w)
