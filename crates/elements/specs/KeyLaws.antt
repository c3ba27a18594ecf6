-- Every kind's key keeps the law of an element kind. Assumes nothing.
use Rattle.std.specs.Prelude.{◌≡◌, ℕ, ◌-◌, ◌*◌, ◌^◌, ◌<◌, ◌≤◌, Bool, true, false, cond, pos, negsuc, ◌-ℤ◌, nat_lt, refl}
use Rattle.std.proofs.Common.{sym, ap, ◌∙◌, mod-eq_of_lt, arith}
use Rattle.std.proofs.lemmas.Int.{ints}
use Rattle.std.proofs.lemmas.Bool.{ltb-false}
use Rattle.rows.proofs.Orders.{numbers}
use Rattle.elements.specs.declared.ptype.Class.{Class}
use Rattle.elements.specs.declared.ptype.Class.TheVariants.{Unsigned, Signed, Float}
use Rattle.elements.specs.declared.ptype.PType.{PType}
use Rattle.elements.specs.Kinds.{class_of, width_of}
use Rattle.elements.specs.Keys.{sign_bit, key_by, key_of, KeyLaw}

-- two patterns with one key, by their sign bits
signed_one : (A m n : ℕ) (a b : Bool) → m < A → n < A → cond a (pos m) (pos m -ℤ pos A) ≡ cond b (pos n) (pos n -ℤ pos A) → m ≡ n
signed_one A m n true true h k e = omega (arith, ints)
signed_one A m n true false h k e = omega (arith, ints)
signed_one A m n false true h k e = omega (arith, ints)
signed_one A m n false false h k e = omega (arith, ints)

float_one : (H m n : ℕ) (a b : Bool) → nat_lt m H ≡ a → nat_lt n H ≡ b → cond a (pos m) (negsuc (m - H)) ≡ cond b (pos n) (negsuc (n - H)) → m ≡ n
float_one H m n true true p q e = omega (arith, ints)
float_one H m n true false p q e = omega (arith, ints)
float_one H m n false true p q e = omega (arith, ints)
float_one H m n false false p q e = let h : H ≤ m = ltb-false m H p in let k : H ≤ n = ltb-false n H q in omega (arith, ints)

-- one lemma for every class and width
one_pattern : (c : Class) (w m n : ℕ) → m < 2 ^ (8 * w) → n < 2 ^ (8 * w) → key_by c w m ≡ key_by c w n → m ≡ n
unfolding key_by
one_pattern Unsigned w m n h k e = omega (arith, ints)
one_pattern Signed w m n h k e = signed_one (2 ^ (8 * w)) m n (nat_lt m (sign_bit w)) (nat_lt n (sign_bit w)) h k e
one_pattern Float w m n h k e = float_one (sign_bit w) m n (nat_lt m (sign_bit w)) (nat_lt n (sign_bit w)) refl refl e

same_key : (p : PType) (m n : ℕ) → m < 2 ^ (8 * width_of p) → n < 2 ^ (8 * width_of p) → key_of p m ≡ key_of p n → m ≡ n
unfolding key_of
same_key p m n h k e =
    let key = key_by (class_of p) (width_of p) in
    one_pattern (class_of p) (width_of p) m n h k (sym (ap key (mod-eq_of_lt h)) ∙ e ∙ ap key (mod-eq_of_lt k))

pub key_law : (p : PType) → KeyLaw (width_of p) (key_of p)
key_law p = record {
  itself = λ m. numbers.itself (key_of p m);
  flip = λ m n. numbers.flip (key_of p m) (key_of p n);
  trans = λ l m n. numbers.trans (key_of p l) (key_of p m) (key_of p n);
  same = λ m n h k e. same_key p m n h k (numbers.same (key_of p m) (key_of p n) e);
}
