-- Bytes of results from bytes of valid rows and of compared keys. Assumes nothing.
use Rattle.std.proofs.Common.{◌≡◌, ℕ, zero, suc, ◌+◌, ◌-◌, ◌%◌, ◌^◌, ◌<◌, ◌≤◌, Bool, true, false, cond, not, ◌&&◌, ◌||◌, eqb, List, length, ℤ, sym, refl, ap, ◌∙◌, ap₂, arith}
use native.Mathlib.Nat.{zero-div}
use lib.Bits.{bit_and, bit_or, bit_xor}
use Rattle.std.specs.Ordering.{int_cmp, is_eq, is_lt}
use Rattle.rows.specs.Bits.{bits}
use Rattle.rows.specs.Row.{Row, order, row}
use Rattle.rows.specs.Operators.{holds, swapped, Complements}
use Rattle.rows.specs.declared.operator.CompareOperator.{CompareOperator}
use Rattle.rows.proofs.BitLaws.{bits_same, bits_and, bits_or, bits_xor, bits_not, bits_of}
use Rattle.rows.proofs.Collections.{mirrors}
use Rattle.rows.proofs.Orders.{row_order}
use Rattle.parts.specs.declared.validity.Validity.{Validity}
use Rattle.parts.specs.Parts.{valid_at}
use Rattle.elements.specs.declared.ptype.PType.{PType}
use Rattle.numbers.specs.Columns.{cell, key_at, number_rows}
use Rattle.numbers.specs.Eights.{bit, eighth}
use Rattle.numbers.proofs.Cells.{row_cell, cells_length}

-- ---- one row

row_lt : (a b : Bool) (x y : ℤ) → (b && (not a || is_lt (int_cmp x y))) ≡ is_lt (order (cell a x) (cell b y))
row_lt true true x y = refl
row_lt true false x y = refl
row_lt false true x y = refl
row_lt false false x y = refl

row_eq : (a b : Bool) (x y : ℤ) → (not (cond a (not b) b) && (not a || is_eq (int_cmp x y))) ≡ is_eq (order (cell a x) (cell b y))
row_eq true true x y = refl
row_eq true false x y = refl
row_eq false true x y = refl
row_eq false false x y = refl

-- ---- eight rows

module _ (v w : ℕ) (v_fits : v < 2 ^ 8) (w_fits : w < 2 ^ 8) (x y : ℕ → ℤ) (e : ℕ) where
  -- null on the left, or so by the keys
  null_or : (f : ℕ → Bool) → e ≡ bits f 0 8 → bit_or (255 - v) e ≡ bits (λ b. not (bit v b) || f b) 0 8
  null_or f h = ap₂ bit_or (ap (λ z. 255 - z) (sym (bits_of v 8 v_fits)) ∙ bits_not (bit v) 0) h ∙ bits_or (λ b. not (bit v b)) f 0 8

  pub lesser : e ≡ bits (λ b. is_lt (int_cmp (x b) (y b))) 0 8 → bit_and w (bit_or (255 - v) e) ≡ bits (λ b. is_lt (order (eighth v x b) (eighth w y b))) 0 8
  lesser h =
      ap₂ bit_and (sym (bits_of w 8 w_fits)) (null_or (λ b. is_lt (int_cmp (x b) (y b))) h)
      ∙ bits_and (bit w) (λ b. not (bit v b) || is_lt (int_cmp (x b) (y b))) 0 8
      ∙ bits_same _ _ 0 0 8 (λ b l. row_lt (bit v (0 + b)) (bit w (0 + b)) (x (0 + b)) (y (0 + b)))

  pub equal : e ≡ bits (λ b. is_eq (int_cmp (x b) (y b))) 0 8 → bit_and (255 - bit_xor v w) (bit_or (255 - v) e) ≡ bits (λ b. is_eq (order (eighth v x b) (eighth w y b))) 0 8
  equal h =
      let both : bit_xor v w ≡ bits (λ b. cond (bit v b) (not (bit w b)) (bit w b)) 0 8 = ap₂ bit_xor (sym (bits_of v 8 v_fits)) (sym (bits_of w 8 w_fits)) ∙ bits_xor (bit v) (bit w) 0 8 in
      ap₂ bit_and (ap (λ z. 255 - z) both ∙ bits_not (λ b. cond (bit v b) (not (bit w b)) (bit w b)) 0) (null_or (λ b. is_eq (int_cmp (x b) (y b))) h)
      ∙ bits_and (λ b. not (cond (bit v b) (not (bit w b)) (bit w b))) (λ b. not (bit v b) || is_eq (int_cmp (x b) (y b))) 0 8
      ∙ bits_same _ _ 0 0 8 (λ b l. row_eq (bit v (0 + b)) (bit w (0 + b)) (x (0 + b)) (y (0 + b)))

-- ---- the other operators

-- the operator that holds where p does not
pub others : (p q : CompareOperator) (x y : ℕ → Row) (e : ℕ) → Complements p q → e ≡ bits (λ b. holds p (order (x b) (y b))) 0 8 → 255 - e ≡ bits (λ b. holds q (order (x b) (y b))) 0 8
others p q x y e law h =
    ap (λ z. 255 - z) h ∙ bits_not (λ b. holds p (order (x b) (y b))) 0 ∙ bits_same _ _ 0 0 8 (λ b l. sym (law (order (x (0 + b)) (y (0 + b)))))

-- the sides exchanged
pub exchanged : (p : CompareOperator) (x y : ℕ → Row) (e : ℕ) → e ≡ bits (λ b. holds p (order (x b) (y b))) 0 8 → e ≡ bits (λ b. holds (swapped p) (order (y b) (x b))) 0 8
exchanged p x y e h =
    h ∙ bits_same _ _ 0 0 8 (λ b l. sym (ap (holds (swapped p)) (row_order.flip (x (0 + b)) (y (0 + b))) ∙ mirrors p (order (x (0 + b)) (y (0 + b)))))

-- all eight rows are valid
pub all_set : (b : ℕ) → b < 8 → bit 255 b ≡ true
all_set zero h = refl
all_set (suc zero) h = refl
all_set (suc (suc zero)) h = refl
all_set (suc (suc (suc zero))) h = refl
all_set (suc (suc (suc (suc zero)))) h = refl
all_set (suc (suc (suc (suc (suc zero))))) h = refl
all_set (suc (suc (suc (suc (suc (suc zero)))))) h = refl
all_set (suc (suc (suc (suc (suc (suc (suc zero))))))) h = refl
all_set (suc (suc (suc (suc (suc (suc (suc (suc b)))))))) h = absurd (omega arith)

-- no row is valid
pub none_set : (b : ℕ) → bit 0 b ≡ false
none_set b = ap (λ q. eqb (q % 2) 1) (zero-div (2 ^ b))

-- eight results side by side are the results of the rows from s on
pub spread : (op : CompareOperator) (e s : ℕ) (f g F G : ℕ → Row) → e ≡ bits (λ b. holds op (order (f b) (g b))) 0 8
    → ((b : ℕ) → b < 8 → f b ≡ F (s + b)) → ((b : ℕ) → b < 8 → g b ≡ G (s + b)) → e ≡ bits (λ i. holds op (order (F i) (G i))) s 8
spread op e s f g F G h left right =
    h
    ∙ bits_same (λ b. holds op (order (f b) (g b))) (λ i. holds op (order (F i) (G i))) 0 s 8
    (λ b l. let at : 0 + b ≡ b = omega arith in ap (λ j. holds op (order (f j) (g j))) at ∙ ap₂ (λ x y. holds op (order x y)) (left b l) (right b l))

-- row b of eight is row s + b of its column
pub in_column : (p : PType) (bytes : List ℕ) (start : ℕ) (validity : Validity) (n s v : ℕ) (keys : ℕ → ℤ) → s + 8 ≤ length (number_rows p bytes start validity n)
    → ((b : ℕ) → b < 8 → bit v b ≡ valid_at validity bytes (s + b)) → ((b : ℕ) → keys b ≡ key_at p bytes start (s + b))
    → (b : ℕ) → b < 8 → eighth v keys b ≡ row (number_rows p bytes start validity n) (s + b)
in_column p bytes start validity n s v keys h vs ks b l =
    let valid = valid_at validity bytes in
    let key = key_at p bytes start in
    ap₂ cell (vs b l) (ks b) ∙ sym (row_cell valid key n (s + b) (omega (arith, h, cells_length valid key n)))
