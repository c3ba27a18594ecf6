-- What the views of names read as. Assumes nothing.
use Rattle.std.proofs.Common.{◌≡◌, ℕ, ◌+◌, ◌-◌, ◌*◌, ◌^◌, ◌<◌, ◌≤◌, List, [], ◌∷◌, ◌++◌, map, length, get_or, take, drop, replicate, vec_items, Vec, sym, refl, ap, ◌∙◌, ap₂, ⊎_elim, arith}
use Rattle.std.proofs.lemmas.List.{append_assoc, append-nil, drop_at, drop-drop, length-append, length-replicate, length-take-le, take_all, take_at}
use Rattle.std.proofs.lemmas.Bool.{cases_lt, cond-true, cond-false, le-leb, lt-leb}
use Rattle.std.specs.List.{range_with_len, flat_map}
use Rattle.elements.specs.Reading.{le_bytes, little_endian}
use Rattle.elements.proofs.LittleEndian.{le_value}
use Rattle.parts.specs.Parts.{part_bytes}
use Rattle.parts.specs.declared.part.Part.{Part}
use Rattle.parts.specs.declared.validity.Validity.TheVariants.{NonNullable}
use Rattle.rows.specs.Row.{text}
use Rattle.views.specs.Texts.{view_at, text_row, text_rows}
use Rattle.views.specs.View.{size_of, index_of, offset_of, buffer_of, value_of, nowhere}
use Rattle.views.proofs.Faults.{value_short, value_long}
use Rattle.duty.specs.Names.{short, view_of, long_part, name_rows}

-- ---- one view

module _ (name : List ℕ) (offset : ℕ) where
  abbrev short_tail : List ℕ
  short_tail = name ++ replicate (12 - length name) 0

  abbrev long_tail : List ℕ
  long_tail = take 4 name ++ (le_bytes 4 0 ++ le_bytes 4 offset)

  pub short_view : length name ≤ 12 → view_of name offset ≡ le_bytes 4 (length name) ++ short_tail
  short_view h = ap (λ bs. le_bytes 4 (length name) ++ bs) (cond-true (short name) short_tail long_tail (le-leb (length name) 12 h))

  long_view : 12 < length name → view_of name offset ≡ le_bytes 4 (length name) ++ long_tail
  long_view h = ap (λ bs. le_bytes 4 (length name) ++ bs) (cond-false (short name) short_tail long_tail (lt-leb (length name) 12 h))

  view_length : length (view_of name offset) ≡ 16
  view_length =
      ⊎_elim
      (λ h. ap length (long_view h) ∙ omega (arith, length-append (take 4 name) (le_bytes 4 0 ++ le_bytes 4 offset), length-take-le 4 name (omega arith)))
      (λ h. ap length (short_view h) ∙ omega (arith, length-append name (replicate (12 - length name) 0), length-replicate {A = ℕ} (12 - length name) 0))
      (cases_lt 12 (length name))

  size_told : length name < 2 ^ 32 → size_of (view_of name offset) ≡ length name
  unfolding size_of
  size_told h = le_value 4 (length name) h

  -- what stands behind the first four bytes of a long name
  place_told : 12 < length name → drop 8 (view_of name offset) ≡ le_bytes 4 0 ++ le_bytes 4 offset
  place_told h = ap (drop 8) (long_view h) ∙ drop_at (take 4 name) (le_bytes 4 0 ++ le_bytes 4 offset) 4 (length-take-le 4 name (omega arith))

  index_told : 12 < length name → index_of (view_of name offset) ≡ 0
  unfolding index_of
  index_told h = ap (λ bs. little_endian (take 4 bs)) (place_told h)

  offset_told : 12 < length name → offset < 2 ^ 32 → offset_of (view_of name offset) ≡ offset
  unfolding offset_of
  offset_told h fits = ap (λ bs. little_endian (take 4 bs)) (sym (drop-drop 4 8 (view_of name offset)) ∙ ap (drop 4) (place_told h)) ∙ le_value 4 offset fits

-- the view behind 16 * k bytes is view k
view_there : (front v rest : List ℕ) (k : ℕ) → length front ≡ 16 * k → length v ≡ 16 → view_at (front ++ (v ++ rest)) 0 k ≡ v
view_there front v rest k h l = ap (take 16) (drop_at front (v ++ rest) (0 + 16 * k) (omega arith)) ∙ take_at v rest 16 l

-- ---- the value of a view, over data and a list of buffers

module _ (bytes : List ℕ) (buffers : List Part) (name : List ℕ) (offset : ℕ) (fits : length name < 2 ^ 32) where
  value_told_short : length name ≤ 12 → value_of bytes buffers (view_of name offset) ≡ name
  value_told_short h =
      let size : size_of (view_of name offset) ≡ length name = size_told name offset fits in
      value_short bytes buffers (view_of name offset) (omega arith) ∙ ap₂ take size (ap (drop 4) (short_view name offset h)) ∙ take_at name (replicate (12 - length name) 0) (length name) refl

  value_told_long : (buffer back : List ℕ) → 12 < length name → part_bytes bytes (get_or buffers 0 nowhere) ≡ buffer → drop offset buffer ≡ long_part name ++ back → offset < 2 ^ 32
      → value_of bytes buffers (view_of name offset) ≡ name
  unfolding buffer_of
  value_told_long buffer back h first there place =
      let size : size_of (view_of name offset) ≡ length name = size_told name offset fits in
      let held : buffer_of bytes buffers (view_of name offset) ≡ buffer = ap (λ i. part_bytes bytes (get_or buffers i nowhere)) (index_told name offset h) ∙ first in
      let long : long_part name ≡ name = cond-false (short name) [] name (lt-leb (length name) 12 h) in
      value_long bytes buffers (view_of name offset) (omega arith) ∙ ap₂ take size (ap₂ drop (offset_told name offset h place) held ∙ there ∙ ap (λ bs. bs ++ back) long)
      ∙ take_at name back (length name) refl

  -- a view reads as the name that it was made of
  value_told : (buffer back : List ℕ) → part_bytes bytes (get_or buffers 0 nowhere) ≡ buffer → drop offset buffer ≡ long_part name ++ back → offset < 2 ^ 32
      → value_of bytes buffers (view_of name offset) ≡ name
  value_told buffer back first there place = ⊎_elim (λ h. value_told_long buffer back h first there place) value_told_short (cases_lt 12 (length name))

-- ---- the column of some names

module _ {Z : Type 0} where
  -- the buffer: one long name behind the other
  abbrev long_bytes : List (Vec ℕ Z) → List ℕ
  long_bytes names = flat_map (λ name. long_part (vec_items name)) names

  -- the views of names, the long ones of which stand from `offset` of the buffer on
  abbrev views_of : List (Vec ℕ Z) → ℕ → List ℕ
  views_of [] offset = []
  views_of (name ∷ names) offset = view_of (vec_items name) offset ++ views_of names (offset + length (long_part (vec_items name)))

  -- sizes and offsets that four bytes hold
  abbrev Fit : List (Vec ℕ Z) → ℕ → Type 0
  Fit [] offset = Unit {0}
  Fit (name ∷ names) offset = (length (vec_items name) < 2 ^ 32) × (offset < 2 ^ 32) × Fit names (offset + length (long_part (vec_items name)))

  -- what is written while the names `left` are to come
  pub record Written (names left : List (Vec ℕ Z)) (views buffer : List ℕ) : Type 0 where
    pub views_on : views ++ views_of left (length buffer) ≡ views_of names 0
    pub buffer_on : buffer ++ long_bytes left ≡ long_bytes names
    pub fit_on : Fit left (length buffer) → Fit names 0

  -- the rows from row k on, where as many views and long names stand before
  rows_from : (bytes : List ℕ) (buffers : List Part) (buffer : List ℕ) → part_bytes bytes (get_or buffers 0 nowhere) ≡ buffer
      → (names : List (Vec ℕ Z)) (offset k : ℕ) (front more before : List ℕ) → length front ≡ 16 * k → length before ≡ offset
      → bytes ≡ front ++ (views_of names offset ++ more) → buffer ≡ before ++ long_bytes names → Fit names offset
      → map (text_row bytes buffers 0 NonNullable) (range_with_len k (length names)) ≡ name_rows names
  unfolding text_row
  rows_from bytes buffers buffer first [] offset k front more before l b is held f = refl
  rows_from bytes buffers buffer first (name ∷ names) offset k front more before l b is held f =
      let v : List ℕ = view_of (vec_items name) offset in
      let long : List ℕ = long_part (vec_items name) in
      let rest : List ℕ = views_of names (offset + length long) ++ more in
      let sixteen : length v ≡ 16 = view_length (vec_items name) offset in
      let split : bytes ≡ front ++ (v ++ rest) = is ∙ ap (λ bs. front ++ bs) (append_assoc v (views_of names (offset + length long)) more) in
      let here : view_at bytes 0 k ≡ v = ap (λ bs. view_at bs 0 k) split ∙ view_there front v rest k l sixteen in
      let there : drop offset buffer ≡ long ++ long_bytes names = ap (drop offset) held ∙ drop_at before (long ++ long_bytes names) offset b in
      ap₂ (λ x xs. text x ∷ xs)
      (ap (value_of bytes buffers) here ∙ value_told bytes buffers (vec_items name) offset f.0 buffer (long_bytes names) first there f.1)
      (rows_from bytes buffers buffer first names (offset + length long) (k + 1) (front ++ v) more (before ++ long) (length-append front v ∙ omega arith) (length-append before long ∙ omega arith)
      (split ∙ sym (append_assoc front v rest)) (held ∙ sym (append_assoc before long (long_bytes names))) f.2)

  -- all of the names are written, and the buffer stands behind the views
  pub written_rows : (names : List (Vec ℕ Z)) (views buffer bytes : List ℕ) (part : Part) → Written names [] views buffer → bytes ≡ views ++ buffer
      → part.start ≡ length views → part.len ≡ length buffer → text_rows bytes (part ∷ []) 0 NonNullable (length names) ≡ name_rows names
  unfolding text_rows
  written_rows names views buffer bytes part w is start len =
      let behind : drop part.start bytes ≡ buffer = ap₂ drop start is ∙ drop_at views buffer (length views) refl in
      let first : part_bytes bytes part ≡ buffer = ap₂ take len behind ∙ take_all (length buffer) buffer (omega arith) in
      rows_from bytes (part ∷ []) buffer first names 0 0 [] buffer [] refl refl
      (is ∙ ap (λ bs. bs ++ buffer) (sym (append-nil views) ∙ w.views_on)) (sym (append-nil buffer) ∙ w.buffer_on) (w.fit_on tt)
