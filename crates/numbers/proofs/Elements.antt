-- Eight elements in the data. Assumes nothing.
use Rattle.std.proofs.Common.{◌≡◌, ℕ, ◌+◌, ◌*◌, ◌^◌, ◌<◌, true, eqb, List, sym, ap, ◌∙◌, subst, mod-eq_of_lt, arith}
use Rattle.std.proofs.lemmas.Nat.{mod_below, pow_pos}
use Rattle.std.specs.Cmp.{signed_Decides}
use Rattle.std.specs.Ordering.{int_cmp, is_eq}
use Rattle.std.specs.Bool.{one_answer}
use Rattle.std.proofs.lemmas.Bool.{eq-eqb, eqb-true}
use Rattle.elements.specs.declared.ptype.PType.{PType}
use Rattle.elements.specs.Kinds.{class_of, width_of}
use Rattle.elements.specs.Keys.{key_by, key_of, low_bytes}
use Rattle.elements.specs.KeyLaws.{key_law}
use Rattle.elements.specs.Reading.{pattern_at}
use Rattle.numbers.specs.Columns.{key_at}
use Rattle.numbers.specs.Eights.{element}

-- the element that stands alone is that of its row
pub one_means : (p : PType) (bytes : List ℕ) (start w m b : ℕ) → w ≡ width_of p → key_of p (element (width_of p) bytes (start + w * m) true b) ≡ key_at p bytes start m
one_means p bytes start w m b is =
    let e : start + w * m + 0 ≡ start + width_of p * m = omega (arith, ap (λ k. k * m) is) in
    ap (λ i. key_of p (pattern_at (width_of p) bytes i)) e

-- ---- two keys of one kind are one where the patterns are

low_key : (p : PType) (m : ℕ) → key_of p (low_bytes (width_of p) m) ≡ key_of p m
unfolding key_of
low_key p m = ap (key_by (class_of p) (width_of p)) (mod-eq_of_lt (mod_below m (2 ^ (8 * width_of p)) (pow_pos (8 * width_of p))))

pub one_key : (p q : PType) (m n : ℕ) → p ≡ q → is_eq (int_cmp (key_of p m) (key_of q n)) ≡ eqb (low_bytes (width_of p) m) (low_bytes (width_of q) n)
one_key p q m n kind = subst (λ k. is_eq (int_cmp (key_of p m) (key_of k n)) ≡ eqb (low_bytes (width_of p) m) (low_bytes (width_of k) n)) kind alike
  where
    a : ℕ
    a = low_bytes (width_of p) m

    b : ℕ
    b = low_bytes (width_of p) n

    below : (x : ℕ) → low_bytes (width_of p) x < 2 ^ (8 * width_of p)
    below x = mod_below x (2 ^ (8 * width_of p)) (pow_pos (8 * width_of p))

    alike : is_eq (int_cmp (key_of p m) (key_of p n)) ≡ eqb a b
    alike =
        one_answer (is_eq (int_cmp (key_of p m) (key_of p n))) (eqb a b) (signed_Decides (key_of p m) (key_of p n)) (
          λ e. sym (low_key p m) ∙ ap (key_of p) (eqb-true a b e) ∙ low_key p n,
          λ e. eq-eqb a b ((key_law p).same a b (below m) (below n) (ap (int_cmp (key_of p a)) (low_key p n ∙ sym e ∙ sym (low_key p m)) ∙ (key_law p).itself a)),
        )
