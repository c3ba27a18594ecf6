-- Outputs that hold a collection and nothing else. Assumes nothing.
use Rattle.std.proofs.Common.{◌≡◌, ℕ, zero, suc, List, ◌∷◌, ◌++◌, length, take, drop, replicate, pos, Some, sym, refl, ap, ◌∙◌, ap₂, append-nil, arith}
use Rattle.std.proofs.lemmas.List.{drop_all, take_at}
use Rattle.duty.specs.Counts.{count_rows}
use Rattle.rows.specs.Bits.{bytes_for}
use Rattle.rows.specs.Collected.{collected}
use Rattle.rows.proofs.Collections.{collected_length}
use Rattle.rows.specs.Row.{Row, number, row}
use Rattle.rows.specs.declared.operator.CompareOperator.{CompareOperator}

-- what a Vec holds after a collection was written to all of its places, with the lists by other names
pub filled : (L R A B : List Row) (op : CompareOperator) (n k : ℕ) (before after rest : List ℕ) (m : ℕ) → L ≡ A → R ≡ B → k ≡ bytes_for n → length before ≡ bytes_for n → m ≡ bytes_for n
    → after ≡ collected L R op n ++ drop k before → take m (after ++ rest) ≡ collected A B op n
filled L R A B op n k before after rest m p q size long e is =
    let bits : List ℕ = collected L R op n in
    let all : after ≡ bits = is ∙ ap (λ xs. bits ++ xs) (drop_all k before (omega arith)) ∙ append-nil bits in
    ap (λ xs. take m (xs ++ rest)) all ∙ take_at bits rest m (collected_length L R op n ∙ sym e) ∙ ap₂ (λ a b. collected a b op n) p q

-- the right list of a fixed row
pub fixed_list : (L B A O : List Row) (n : ℕ) → L ≡ A → B ≡ O → length A ≡ n → replicate (length L) (row B 0) ≡ replicate n (row O 0)
fixed_list L B A O n p q h = ap₂ (λ m b. replicate m (row b 0)) (ap length p ∙ h) q

-- so many rows of one count
pub same_rows : (n t : ℕ) → count_rows (replicate n (Some t)) ≡ replicate n (number (pos t))
same_rows zero t = refl
same_rows (suc n) t = ap (λ rs. number (pos t) ∷ rs) (same_rows n t)
