-- What the bytes of counts read as. Assumes nothing.
use Rattle.std.proofs.Common.{◌≡◌, ℕ, zero, suc, ◌+◌, ◌-◌, ◌*◌, ◌/◌, ◌%◌, ◌^◌, ◌<◌, min, eqb, List, [], ◌∷◌, ◌++◌, length, get_or, pos, is_some, Some, None, Option, unwrap_or, sym, refl, ap, ◌∙◌, ap₂, mod-eq_of_lt, length-append, arith}
use Rattle.std.proofs.lemmas.List.FromFn.{fill_by_all, get_or-map-range_with_len, length-map-range_with_len}
use Rattle.std.proofs.lemmas.List.{drop-drop, length-map, get_or-map, get_or-append-add, get_or_append_left}
use Rattle.std.specs.List.{flat_map}
use Rattle.rows.specs.Bits.{digit, bits, byte_at, bytes_for, bytes_of}
use Rattle.rows.specs.Row.{null}
use Rattle.rows.proofs.BitLaws.{bits_same}
use Rattle.rows.proofs.Packed.{packed_bit}
use Rattle.elements.specs.Keys.{key_of, key_by}
use Rattle.elements.specs.Reading.{pattern_at, bit_at}
use Rattle.elements.proofs.LittleEndian.{le_value}
use Rattle.elements.specs.declared.ptype.PType.TheVariants.{U64}
use Rattle.parts.specs.Parts.{valid_at}
use Rattle.numbers.specs.Columns.{cell, key_at, number_rows}
use Rattle.parts.specs.declared.validity.Validity.TheVariants.{Bitmap}
use Rattle.duty.specs.Counts.{count_row, count_rows}
use Rattle.duty.specs.Layout.{count_bytes, count_value, present}

-- ---- the values

-- value i stands at byte 8 * i, whatever follows the values
value_at : (counts : List (Option ℕ)) (more : List ℕ) (i : ℕ) → i < length counts → count_value counts i < 2 ^ 64
    → pattern_at 8 (flat_map count_bytes counts ++ more) (8 * i) ≡ count_value counts i
value_at [] more i h fits = absurd (omega arith)
value_at (count ∷ counts) more zero h fits = le_value 8 (unwrap_or count 0) fits
value_at (count ∷ counts) more (suc i) h fits =
    let next : 8 * suc i ≡ 8 + 8 * i = omega arith in
    rw (next, ← drop-drop) (value_at counts more i (omega arith) fits)

values_length : (counts : List (Option ℕ)) → length (flat_map count_bytes counts) ≡ 8 * length counts
values_length [] = refl
values_length (count ∷ counts) = omega (arith, values_length counts)

-- ---- the bitmap

-- the bitmap of a chunk and what follows it: the byte of the chunk, and the bitmap of the rest
module _ (xs ys : List (Option ℕ)) (some : 0 < length (xs ++ ys)) (chunk : length xs ≡ min 8 (length (xs ++ ys))) where
  abbrev n : ℕ
  n = length (xs ++ ys)

  sum : n ≡ length xs + length ys
  sum = length-append xs ys

  first : bits (present xs) 0 (min (length xs) 8) ≡ byte_at (present (xs ++ ys)) n 0
  first =
      ap (bits (present xs) 0) (omega (arith, chunk))
      ∙ bits_same (present xs) (present (xs ++ ys)) 0 (8 * 0) (min (n - 8 * 0) 8) (λ k l. ap is_some (sym (get_or_append_left xs ys None (0 + k) (omega (arith, chunk, l))) ∙ ap (λ j. get_or (xs ++ ys) j None) (omega arith)))

  later : (j : ℕ) → 8 * suc j < n → byte_at (present ys) (length ys) j ≡ byte_at (present (xs ++ ys)) n (suc j)
  later j h =
      let full : length xs ≡ 8 = omega (arith, chunk, h) in
      ap (bits (present ys) (8 * j)) (omega (arith, sum, full))
      ∙ bits_same (present ys) (present (xs ++ ys)) (8 * j) (8 * suc j) (min (n - 8 * suc j) 8)
      (λ k l. ap is_some (sym (get_or-append-add xs ys (8 * j + k) None) ∙ ap (λ i. get_or (xs ++ ys) i None) (omega (arith, full))))

  places : (i : ℕ) → i < bytes_for n → get_or (bits (present xs) 0 (min (length xs) 8) ∷ bytes_of (present ys) (length ys)) i 0 ≡ byte_at (present (xs ++ ys)) n i
  places zero h = first
  places (suc j) h =
      get_or-map-range_with_len (byte_at (present ys) (length ys)) 0 (bytes_for (length ys)) j j 0 (omega (arith, sum, chunk, h)) (omega arith) ∙ later j (omega (arith, h))

  pub chunk_byte : bits (present xs) 0 (min (length xs) 8) ∷ bytes_of (present ys) (length ys) ≡ bytes_of (present (xs ++ ys)) n
  chunk_byte =
      fill_by_all (byte_at (present (xs ++ ys)) n) (bits (present xs) 0 (min (length xs) 8) ∷ bytes_of (present ys) (length ys)) (bytes_for n) 0
      (omega (arith, sum, chunk, some, length-map-range_with_len (byte_at (present ys) (length ys)) 0 (bytes_for (length ys)))) places

-- ---- the rows

module _ (counts : List (Option ℕ)) (bytes : List ℕ) (are : bytes ≡ flat_map count_bytes counts ++ bytes_of (present counts) (length counts)) (fit : (i : ℕ) → i < length counts → count_value counts i < 2 ^ 64) where
  bit_there : (i : ℕ) → i < length counts → bit_at bytes (8 * length counts) i ≡ digit (present counts i)
  bit_there i h =
      ap₂ (λ bs s. get_or bs (s + i / 8) 0 / 2 ^ (i % 8) % 2) are (sym (values_length counts))
      ∙ ap (λ b. b / 2 ^ (i % 8) % 2) (get_or-append-add (flat_map count_bytes counts) (bytes_of (present counts) (length counts)) (i / 8) 0)
      ∙ packed_bit (present counts) (length counts) i h

  key_there : (i : ℕ) → i < length counts → key_at U64 bytes 0 i ≡ pos (count_value counts i)
  unfolding key_of key_by
  key_there i h =
      let at : 0 + 8 * i ≡ 8 * i = omega arith in
      let value : pattern_at 8 bytes (0 + 8 * i) ≡ count_value counts i = ap₂ (pattern_at 8) are at ∙ value_at counts _ i h (fit i h) in
      ap (λ n. pos (n % 2 ^ 64)) value ∙ ap pos (mod-eq_of_lt (fit i h))

  -- the bytes hold the counts
  pub area_rows : number_rows U64 bytes 0 (Bitmap (8 * length counts)) (length counts) ≡ count_rows counts
  area_rows =
      sym (fill_by_all (λ i. cell (valid_at (Bitmap (8 * length counts)) bytes i) (key_at U64 bytes 0 i)) (count_rows counts) (length counts) null (length-map counts count_row)
      (λ i h. get_or-map count_row counts i None null h ∙ one (get_or counts i None) ∙ sym (ap₂ (λ b z. cell (eqb b 1) z) (bit_there i h) (key_there i h))))
    where
      one : (count : Option ℕ) → count_row count ≡ cell (eqb (digit (is_some count)) 1) (pos (unwrap_or count 0))
      one None = refl
      one (Some n) = refl
