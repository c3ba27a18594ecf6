-- The lines of a board file: NAME|COUNT|CHANNELS. Assumes nothing.
use Rattle.std.specs.Prelude.{ℕ, position, ◌+◌, ◌-◌, ◌*◌, ◌^◌, cond, ◌&&◌, List, [], ◌∷◌, Some, None, Option, ◌==◌, nat_le, nat_lt}

-- the place of the first byte b
abbrev pub place : ℕ → List ℕ → Option ℕ
place b xs = position (λ x. x == b) xs

-- one decimal digit more behind the number n, where the result has at most 64 bits
abbrev pub digit_after : ℕ → ℕ → Option ℕ
digit_after n x = cond (nat_le 48 x && nat_le x 57) (cond (nat_lt (10 * n + (x - 48)) (2 ^ 64)) (Some (10 * n + (x - 48))) None) None

abbrev pub onward : Option ℕ → (ℕ → Option ℕ) → Option ℕ
onward None f = None
onward (Some n) f = f n

-- the number that decimal digits write behind n
abbrev pub digits_from : ℕ → List ℕ → Option ℕ
digits_from n [] = Some n
digits_from n (x ∷ xs) = onward (digit_after n x) (λ m. digits_from m xs)
