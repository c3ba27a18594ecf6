-- Station names as bytes and as row values. Assumes nothing.
use Rattle.std.specs.Prelude.{ℕ, ◌-◌, Bool, cond, ◌&&◌, List, [], ◌++◌, map, length, take, replicate, vec_items, filter, Vec, nat_le}
use Rattle.elements.specs.Reading.{le_bytes}
use Rattle.parts.specs.declared.validity.Validity.TheVariants.{NonNullable}
use Rattle.rows.specs.Row.{Row, text}
use Rattle.views.specs.Texts.{text_rows}
use Rattle.duty.specs.declared.names.NameArea.{NameArea}

-- ---- plain names

-- whether a byte is a printable ASCII character
abbrev pub printable : ℕ → Bool
printable b = nat_le 32 b && nat_le b 126

-- the printable characters of a name, in their order
abbrev pub plain : List ℕ → List ℕ
plain name = filter printable name

-- ---- names as rows

-- the row of each name is its text
abbrev pub name_rows : {Z : Type 0} → List (Vec ℕ Z) → List Row
name_rows names = map (λ name. text (vec_items name)) names

-- the rows of an area of names: as many texts as it says, from byte 0 on
abbrev pub area_texts : NameArea → List Row
area_texts names = text_rows (vec_items names.bytes) names.buffers 0 NonNullable names.len

-- ---- names as bytes

-- whether a view holds the whole name
abbrev pub short : List ℕ → Bool
short name = nat_le (length name) 12

-- the sixteen bytes of a name's view: a long name stands at `offset` of buffer 0
abbrev pub view_of : List ℕ → ℕ → List ℕ
view_of name offset = le_bytes 4 (length name) ++ cond (short name) (name ++ replicate (12 - length name) 0) (take 4 name ++ (le_bytes 4 0 ++ le_bytes 4 offset))

-- what the buffer holds of a name: a long one whole
abbrev pub long_part : List ℕ → List ℕ
long_part name = cond (short name) [] name
