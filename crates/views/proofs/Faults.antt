-- What is wrong with a view, and what holds of one that is well-formed. Assumes nothing.
use Rattle.std.proofs.Common.{◌≡◌, ℕ, zero, suc, ◌+◌, ◌-◌, ◌<◌, ◌≤◌, Bool, true, false, cond, not, ◌&&◌, eqb, ltb, leb, List, [], ◌∷◌, length, get_or, take, drop, is_some, Some, None, Option, sym, refl, ap, ◌∙◌, subst, ⊎_elim, true≢false, arith}
use Rattle.std.proofs.lemmas.List.{length-take, length-drop, drop-drop, get_or-drop}
use Rattle.std.proofs.lemmas.Bool.{le-leb, lt-leb, lt-ltb, le-ltb, leb-false, ltb-false, cond-true, cond-false, eqb-true, and_parts, and_from, cases_lt, eq-eqb}
use Rattle.std.proofs.lemmas.Slice.Eq.{bytes_eq-Decides}
use Rattle.std.specs.Str.{bytes_eq}
use Rattle.faults.specs.declared.ViewFault.{ViewFault}
use Rattle.faults.specs.declared.ViewFault.TheVariants.{Padding, Index, End, Prefix}
use Rattle.parts.specs.declared.part.Part.{Part}
use Rattle.views.specs.View.{size_of, prefix_of, index_of, offset_of, buffer_of, short_value, long_value, value_of, all_zero, view_fault, WellFormed}
use Rattle.views.specs.Window.{window}
use Rattle.views.specs.Words.{Words}

-- ---- the first of the four conditions, by their tests

abbrev chain : Bool → Bool → Bool → Bool → Bool → Bool → Option ViewFault
chain short long zeros unlisted past same =
    cond (short && not zeros) (Some Padding) (cond (long && unlisted) (Some Index) (cond (long && past) (Some End) (cond (long && not same) (Some Prefix) None)))

short_chain : (zeros unlisted past same : Bool) → chain true false zeros unlisted past same ≡ cond zeros None (Some Padding)
short_chain true unlisted past same = refl
short_chain false unlisted past same = refl

module _ (bytes : List ℕ) (buffers : List Part) (w : List ℕ) where
  abbrev zeros : Bool
  zeros = all_zero (drop (4 + size_of w) w)

  abbrev unlisted : Bool
  unlisted = leb (length buffers) (index_of w)

  abbrev past : Bool
  past = ltb (length (buffer_of bytes buffers w)) (offset_of w + size_of w)

  abbrev same : Bool
  same = bytes_eq (prefix_of w) (take 4 (long_value bytes buffers w))

  is_chain : (short long : Bool) → leb (size_of w) 12 ≡ short → ltb 12 (size_of w) ≡ long → view_fault bytes buffers w ≡ chain short long zeros unlisted past same
  is_chain short long s l = λ i. chain (s i) (l i) zeros unlisted past same

  pub if_short : size_of w ≤ 12 → view_fault bytes buffers w ≡ cond zeros None (Some Padding)
  if_short h = is_chain true false (le-leb (size_of w) 12 h) (le-ltb 12 (size_of w) h) ∙ short_chain zeros unlisted past same

  if_long : 12 < size_of w → view_fault bytes buffers w ≡ chain false true zeros unlisted past same
  if_long h = is_chain false true (lt-leb (size_of w) 12 h) (lt-ltb 12 (size_of w) h)

  listed : 12 < size_of w → index_of w < length buffers → view_fault bytes buffers w ≡ chain false true zeros false past same
  listed h i = if_long h ∙ ap (λ b. chain false true zeros b past same) (lt-leb (length buffers) (index_of w) i)

  inside : 12 < size_of w → index_of w < length buffers → offset_of w + size_of w ≤ length (buffer_of bytes buffers w) → view_fault bytes buffers w ≡ chain false true zeros false false same
  inside h i l = listed h i ∙ ap (λ b. chain false true zeros false b same) (le-ltb (length (buffer_of bytes buffers w)) (offset_of w + size_of w) l)

  pub fault_none : 12 < size_of w → index_of w < length buffers → offset_of w + size_of w ≤ length (buffer_of bytes buffers w) → prefix_of w ≡ take 4 (long_value bytes buffers w) → None ≡ view_fault bytes buffers w
  fault_none h i l e = sym (inside h i l ∙ ap (λ b. chain false true zeros false false b) ((bytes_eq-Decides (prefix_of w) (take 4 (long_value bytes buffers w))).1 e))

  -- ---- a view without a fault

  some_none : {G : Type 0} {f : ViewFault} → Some f ≡ None → G
  some_none e = absurd (true≢false (ap is_some e))

  pub zero_padded : size_of w ≤ 12 → view_fault bytes buffers w ≡ None → zeros ≡ true
  zero_padded h e = by zeros (sym (if_short h) ∙ e)
    where
      by : (b : Bool) → cond b None (Some Padding) ≡ None → b ≡ true
      by true e = refl
      by false e = some_none e

  pub long_formed : 12 < size_of w → view_fault bytes buffers w ≡ None → (index_of w < length buffers) × (offset_of w + size_of w ≤ length (buffer_of bytes buffers w)) × (prefix_of w ≡ take 4 (long_value bytes buffers w))
  long_formed h e = by unlisted past same refl refl refl (sym (if_long h) ∙ e)
    where
      by : (p q r : Bool) → unlisted ≡ p → past ≡ q → same ≡ r → chain false true zeros p q r ≡ None → (index_of w < length buffers) × (offset_of w + size_of w ≤ length (buffer_of bytes buffers w)) × (prefix_of w ≡ take 4 (long_value bytes buffers w))
      by true q r hp hq hr e = some_none e
      by false true r hp hq hr e = some_none e
      by false false false hp hq hr e = some_none e
      by false false true hp hq hr e =
          (leb-false (length buffers) (index_of w) hp, ltb-false (length (buffer_of bytes buffers w)) (offset_of w + size_of w) hq, (bytes_eq-Decides (prefix_of w) (take 4 (long_value bytes buffers w))).0 hr)

  pub value_short : size_of w ≤ 12 → value_of bytes buffers w ≡ short_value w
  unfolding value_of
  value_short h = cond-true (leb (size_of w) 12) (short_value w) (long_value bytes buffers w) (le-leb (size_of w) 12 h)

  pub value_long : 12 < size_of w → value_of bytes buffers w ≡ long_value bytes buffers w
  unfolding value_of
  value_long h = cond-false (leb (size_of w) 12) (short_value w) (long_value bytes buffers w) (lt-leb (size_of w) 12 h)

-- ---- the padding, byte by byte

zero_at : (xs : List ℕ) → all_zero xs ≡ true → (k : ℕ) → get_or xs k 0 ≡ 0
zero_at [] z k = refl
zero_at (x ∷ xs) z zero = eqb-true x 0 (and_parts (eqb x 0) (all_zero xs) z).0
zero_at (x ∷ xs) z (suc k) = zero_at xs (and_parts (eqb x 0) (all_zero xs) z).1 k

zero_all : (xs : List ℕ) → ((k : ℕ) → get_or xs k 0 ≡ 0) → all_zero xs ≡ true
zero_all [] f = refl
zero_all (x ∷ xs) f = and_from (eqb x 0) (all_zero xs) (eq-eqb x 0 (f 0)) (zero_all xs (λ k. f (suc k)))

-- ---- no fault, and well-formed

module _ (bytes : List ℕ) (buffers : List Part) (w : List ℕ) where
  pub formed : view_fault bytes buffers w ≡ None → WellFormed bytes buffers w
  formed e = record {
    padded = λ h k l.
        let at : 4 + size_of w + (k - (4 + size_of w)) ≡ k = omega arith in
        sym (ap (λ j. get_or w j 0) at) ∙ sym (get_or-drop (4 + size_of w) w (k - (4 + size_of w)) 0) ∙ zero_at (drop (4 + size_of w) w) (zero_padded bytes buffers w h e) (k - (4 + size_of w));
    listed = λ h. (long_formed bytes buffers w h e).0;
    inside = λ h. (long_formed bytes buffers w h e).1;
    begins = λ h. (long_formed bytes buffers w h e).2 ∙ ap (take 4) (sym (value_long bytes buffers w h));
  }

  pub unfaulted : WellFormed bytes buffers w → view_fault bytes buffers w ≡ None
  unfaulted f =
      ⊎_elim
      (λ h. sym (fault_none bytes buffers w h (f.listed h) (f.inside h) (f.begins h ∙ ap (take 4) (value_long bytes buffers w h))))
      (λ h. if_short bytes buffers w h ∙ ap (λ b. cond b None (Some Padding)) (zero_all (drop (4 + size_of w) w) (λ k. get_or-drop (4 + size_of w) w k 0 ∙ f.padded h (4 + size_of w + k) (omega arith))))
      (cases_lt 12 (size_of w))

-- ---- what the words of a well-formed view say of its value

-- zeros are what a window puts past the end
zero_window : (n : ℕ) (xs : List ℕ) → length xs ≡ n → all_zero xs ≡ true → window n [] ≡ xs
zero_window zero [] e z = refl
zero_window zero (x ∷ xs) e z = absurd (omega arith)
zero_window (suc n) [] e z = absurd (omega arith)
zero_window (suc n) (x ∷ xs) e z =
    let p : (eqb x 0 ≡ true) × (all_zero xs ≡ true) = and_parts (eqb x 0) (all_zero xs) z in
    λ i. sym (eqb-true x 0 p.0) i ∷ zero_window n xs (omega arith) p.1 i

padded_window : (n s : ℕ) (xs : List ℕ) → length xs ≡ n → s ≤ n → all_zero (drop s xs) ≡ true → window n (take s xs) ≡ xs
padded_window n zero xs e h z = zero_window n xs e z
padded_window zero (suc s) xs e h z = absurd (omega arith)
padded_window (suc n) (suc s) [] e h z = absurd (omega arith)
padded_window (suc n) (suc s) (x ∷ xs) e h z = ap (λ r. x ∷ r) (padded_window n s xs (omega arith) (omega arith) z)

-- a window within the string is its beginning
pub window_take : (n : ℕ) (xs : List ℕ) → n ≤ length xs → window n xs ≡ take n xs
window_take zero xs h = refl
window_take (suc n) [] h = absurd (omega arith)
window_take (suc n) (x ∷ xs) h = ap (λ r. x ∷ r) (window_take n xs (omega arith))

-- the window of a window
pub window_shorter : (m n : ℕ) (xs : List ℕ) → m ≤ n → window m xs ≡ take m (window n xs)
window_shorter zero n xs h = refl
window_shorter (suc m) zero xs h = absurd (omega arith)
window_shorter (suc m) (suc n) [] h = ap (λ r. 0 ∷ r) (window_shorter m n [] (omega arith))
window_shorter (suc m) (suc n) (x ∷ xs) h = ap (λ r. x ∷ r) (window_shorter m n xs (omega arith))

first_four : (w : List ℕ) {v : List ℕ} → v ≡ drop 4 w → take 4 v ≡ prefix_of w
unfolding prefix_of
first_four w e = ap (take 4) e

module _ (bytes : List ℕ) (buffers : List Part) (w : List ℕ) (long : length w ≡ 16) (told : size_of w ≤ 4294967295) (sound : view_fault bytes buffers w ≡ None) where
  short_length : size_of w ≤ 12 → length (short_value w) ≡ size_of w
  short_length h = length-take (size_of w) (drop 4 w) ∙ omega (arith, length-drop 4 w)

  long_length : 12 < size_of w → length (long_value bytes buffers w) ≡ size_of w
  long_length h =
      length-take (size_of w) (drop (offset_of w) (buffer_of bytes buffers w))
      ∙ omega (arith, length-drop (offset_of w) (buffer_of bytes buffers w), (long_formed bytes buffers w h sound).1)

  -- the value has the size that the view tells
  pub value_length : length (value_of bytes buffers w) ≡ size_of w
  value_length =
      ⊎_elim
      (λ h. ap length (value_long bytes buffers w h) ∙ long_length h)
      (λ h. ap length (value_short bytes buffers w h) ∙ short_length h)
      (cases_lt 12 (size_of w))

  words_short : size_of w ≤ 12 → Words w (short_value w)
  words_short h =
      let s : ℕ = size_of w in
      let twelve : length (drop 4 w) ≡ 12 = omega (arith, length-drop 4 w) in
      let z : all_zero (drop s (drop 4 w)) ≡ true = ap all_zero (drop-drop s 4 w) ∙ zero_padded bytes buffers w h sound in
      let all : window 12 (short_value w) ≡ drop 4 w = padded_window 12 s (drop 4 w) twelve h z in
      record {
        sized = omega (arith, short_length h, told);
        prefixed = window_shorter 4 12 (short_value w) (omega arith) ∙ first_four w all;
        whole = λ _. all;
      }

  words_long : 12 < size_of w → Words w (long_value bytes buffers w)
  words_long h =
      let s : ℕ = size_of w in
      let rest : List ℕ = drop (offset_of w) (buffer_of bytes buffers w) in
      let f = long_formed bytes buffers w h sound in
      let size : length (take s rest) ≡ s = long_length h in
      record {
        sized = omega (arith, told);
        prefixed = window_take 4 (take s rest) (omega arith) ∙ sym f.2;
        whole = λ k. absurd (omega arith);
      }

  pub words_of : Words w (value_of bytes buffers w)
  words_of =
      ⊎_elim
      (λ h. subst (Words w) (sym (value_long bytes buffers w h)) (words_long h))
      (λ h. subst (Words w) (sym (value_short bytes buffers w h)) (words_short h))
      (cases_lt 12 (size_of w))
