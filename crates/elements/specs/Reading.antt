-- Numbers and bits as they stand in the data. Assumes nothing.
use Rattle.std.specs.Prelude.{ℕ, zero, suc, ◌+◌, ◌*◌, ◌/◌, ◌%◌, ◌^◌, List, [], ◌∷◌, take, drop, slice_index}

-- the number that some bytes write, least significant first
abbrev pub little_endian : List ℕ → ℕ
little_endian [] = 0
little_endian (b ∷ bs) = b + 256 * little_endian bs

-- a number in so many bytes, least significant first
abbrev pub le_bytes : ℕ → ℕ → List ℕ
le_bytes zero n = []
le_bytes (suc width) n = (n % 256) ∷ le_bytes width (n / 256)

-- the pattern in the `width` bytes from `start` on
abbrev pub pattern_at : ℕ → List ℕ → ℕ → ℕ
pattern_at width bytes start = little_endian (take width (drop start bytes))

-- bit i of a bitmap that begins at `start`: bit i mod 8, least significant first, of byte i div 8
abbrev pub bit_at : List ℕ → ℕ → ℕ → ℕ
bit_at bytes start i = slice_index bytes (start + i / 8) / 2 ^ (i % 8) % 2
