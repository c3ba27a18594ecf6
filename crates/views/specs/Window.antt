-- The order of byte strings, and their first bytes as one number. Assumes nothing.
use Rattle.std.specs.Prelude.{◌≡◌, ℕ, zero, suc, ◌<◌, ◌≤◌, ◌⊎◌, List, [], ◌∷◌, ◌++◌, length, ◌≢◌}
use Rattle.std.specs.declared.cmp.Ordering.TheVariants.{Less, Equal}
use Rattle.std.specs.declared.cmp.Ordering.{Ordering}
use Rattle.std.specs.Ordering.{nat_cmp}
use Rattle.std.specs.Int.Digits.{number_from_digits, AllBelowBase}
use Rattle.rows.specs.Laws.{Lawful}
use Rattle.rows.specs.Row.{order, text}

-- the order of two texts as row values
abbrev pub byte_order : List ℕ → List ℕ → Ordering
byte_order xs ys = order (text xs) (text ys)

-- xs and ys go alike up to a place where xs has the smaller byte
pub record SmallerByte (xs ys : List ℕ) : Type 0 where
  pub front : List ℕ
  pub x : ℕ
  pub y : ℕ
  pub xs_rest : List ℕ
  pub ys_rest : List ℕ
  pub xs_is : xs ≡ front ++ (x ∷ xs_rest)
  pub ys_is : ys ≡ front ++ (y ∷ ys_rest)
  pub less : x < y

-- ys is xs and something more
pub record Beginning (xs ys : List ℕ) : Type 0 where
  pub y : ℕ
  pub rest : List ℕ
  pub ys_is : ys ≡ xs ++ (y ∷ rest)

-- texts go bytewise: by the first difference, and a proper beginning is less
pub record TextOrder : Type 0 where
  pub lawful : Lawful byte_order
  pub by_difference : (xs ys : List ℕ) → SmallerByte xs ys → byte_order xs ys ≡ Less
  pub by_beginning : (xs ys : List ℕ) → Beginning xs ys → byte_order xs ys ≡ Less
  pub only_so : (xs ys : List ℕ) → byte_order xs ys ≡ Less → SmallerByte xs ys ⊎ Beginning xs ys

-- ---- windows

-- the first n bytes, with zeros past the end
abbrev pub window : ℕ → List ℕ → List ℕ
window zero xs = []
window (suc n) [] = 0 ∷ window n []
window (suc n) (x ∷ xs) = x ∷ window n xs

-- the window as a number, its first byte the highest
abbrev pub word : ℕ → List ℕ → ℕ
word n xs = number_from_digits 256 (window n xs)

pub record Windows : Type 0 where
  -- words are ordered as the windows are
  pub words : (n : ℕ) (xs ys : List ℕ) → AllBelowBase 256 xs → AllBelowBase 256 ys → nat_cmp (word n xs) (word n ys) ≡ byte_order (window n xs) (window n ys)
  -- windows that differ decide
  pub differ : (n : ℕ) (xs ys : List ℕ) → (byte_order (window n xs) (window n ys) ≢ Equal) → byte_order xs ys ≡ byte_order (window n xs) (window n ys)
  -- where windows tie and one of the strings fits, it is the other or a beginning of it, so the lengths decide
  pub tie : (n : ℕ) (xs ys : List ℕ) → window n xs ≡ window n ys → length xs ≤ n → byte_order xs ys ≡ nat_cmp (length xs) (length ys)
