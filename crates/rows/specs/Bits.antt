-- Results packed into bytes, the lowest bit first. Assumes nothing.
use Rattle.std.specs.Prelude.{ℕ, zero, suc, ◌+◌, ◌-◌, ◌*◌, ◌/◌, ◌%◌, ◌^◌, min, Bool, cond, List, map, slice_index}
use Rattle.std.specs.List.{range_with_len}

abbrev pub digit : Bool → ℕ
digit b = cond b 1 0

-- the number whose bit k is f (s + k) for each k below n, and whose bits above are 0
unfoldable pub bits : (ℕ → Bool) → ℕ → ℕ → ℕ
bits f s zero = 0
bits f s (suc n) = digit (f s) + 2 * bits f (s + 1) n

-- how many bytes n bits need: an eighth, rounded up
abbrev pub bytes_for : ℕ → ℕ
bytes_for n = (n + 7) / 8

-- byte k of n results
abbrev pub byte_at : (ℕ → Bool) → ℕ → ℕ → ℕ
byte_at f n k = bits f (8 * k) (min (n - 8 * k) 8)

-- the first n results, eight to a byte, the spare bits of the last byte 0
abbrev pub bytes_of : (ℕ → Bool) → ℕ → List ℕ
bytes_of f n = map (byte_at f n) (range_with_len 0 (bytes_for n))

-- bit i of some bytes: bit i mod 8, least significant first, of byte i div 8
abbrev pub bit_of : List ℕ → ℕ → ℕ
bit_of bs i = slice_index bs (i / 8) / 2 ^ (i % 8) % 2
