-- The rows of a column of text or binary values, and their faults. Assumes nothing.
use Rattle.std.proofs.Common.{◌≡◌, ℕ, zero, suc, ◌+◌, ◌-◌, ◌*◌, ◌<◌, ◌≤◌, min, Bool, true, false, cond, ◌||◌, List, length, is_some, Some, None, Option, sym, refl, ap, ◌∙◌, ⊎_elim, true≢false, arith}
use Rattle.std.proofs.lemmas.List.FromFn.{get_or-map-range_with_len, length-map-range_with_len}
use Rattle.std.proofs.lemmas.List.{get_or_past}
use Rattle.std.proofs.lemmas.Bool.{cases_lt, cond-true, cond-false, ltb-false}
use Rattle.faults.specs.declared.ColumnFault.{ColumnFault}
use Rattle.faults.specs.declared.ColumnFault.TheVariants.{Range, Rows}
use Rattle.faults.specs.declared.ViewFault.{ViewFault}
use Rattle.parts.specs.Parts.{fault_of, valid_at, too_many, ends_past, validity_past, parts_past}
use Rattle.rows.specs.Row.{Row, is_null, null, text, row}
use Rattle.views.specs.Column.{rows_of}
use Rattle.views.specs.declared.column.ViewColumn.{ViewColumn}
use Rattle.views.specs.View.{value_of, view_fault}
use Rattle.views.specs.declared.texts.TextParts.{TextParts}
use Rattle.views.specs.Texts.{view_at, text_row, text_rows, with_row, row_fault, row_fault_in, or_else, first_fault, text_past, parts_fault, texts_of, rows_standing, column_texts}

-- ---- the first fault, row by row

pub first_none : (f : ℕ → Option ColumnFault) (i n : ℕ) → first_fault f i n ≡ None → (k : ℕ) → k < n → f (i + k) ≡ None
first_none f i zero e k h = absurd (omega arith)
first_none f i (suc n) e k h = by (f i) refl e (λ e k h. first_none f (i + 1) n e k h) k h
  where
    by : (o : Option ColumnFault) → f i ≡ o → or_else o (first_fault f (i + 1) n) ≡ None → (first_fault f (i + 1) n ≡ None → (k : ℕ) → k < n → f (i + 1 + k) ≡ None) → (k : ℕ) → k < suc n → f (i + k) ≡ None
    by (Some x) is e rest k h = absurd (true≢false (ap is_some e))
    by None is e rest zero h = ap f (omega arith) ∙ is
    by None is e rest (suc k) h = ap f (omega arith) ∙ rest e k (omega arith)

more : (i n : ℕ) → i < n → n - i ≡ suc (n - (i + 1))
more i n h = omega arith

pub first_step : (f : ℕ → Option ColumnFault) (i n : ℕ) → i < n → f i ≡ None → first_fault f i (n - i) ≡ first_fault f (i + 1) (n - (i + 1))
first_step f i n h e = ap (first_fault f i) (more i n h) ∙ ap (λ o. or_else o (first_fault f (i + 1) (n - (i + 1)))) e

module _ (p : TextParts) where
  abbrev is_valid : ℕ → Bool
  is_valid i = valid_at p.validity p.bytes.now i

  abbrev fault_at : ℕ → Option ViewFault
  fault_at i = view_fault p.bytes.now p.buffers.now (view_at p.bytes.now p.views i)

  abbrev value_at : ℕ → List ℕ
  value_at i = value_of p.bytes.now p.buffers.now (view_at p.bytes.now p.views i)

  abbrev rows_upto : ℕ → List Row
  rows_upto n = text_rows p.bytes.now p.buffers.now p.views p.validity n

  -- ---- one row

  pub fault_null : (i : ℕ) → is_valid i ≡ false → row_fault_in p i ≡ None
  unfolding row_fault
  fault_null i e = cond-false (is_valid i) (with_row i (fault_at i)) None e

  pub fault_valid : (i : ℕ) → is_valid i ≡ true → row_fault_in p i ≡ with_row i (fault_at i)
  unfolding row_fault
  fault_valid i e = cond-true (is_valid i) (with_row i (fault_at i)) None e

  no_fault : (i : ℕ) (o : Option ViewFault) → with_row i o ≡ None → o ≡ None
  no_fault i None e = refl
  no_fault i (Some f) e = absurd (true≢false (ap is_some e))

  -- ---- parts without a fault: the views lie in the data, and a valid view has no fault

  abbrev part_past : Bool
  part_past = text_past p.bytes.now p.buffers.now p.views p.validity p.len

  abbrev first : Option ColumnFault
  first = first_fault (row_fault_in p) 0 p.len

  unfaulted : parts_fault p ≡ None → (part_past ≡ false) × (first ≡ None)
  unfaulted e = by (too_many p.len) part_past refl first refl e
    where
      by : (a b : Bool) → part_past ≡ b → (o : Option ColumnFault) → first ≡ o → cond a (Some Rows) (cond b (Some Range) o) ≡ None → (part_past ≡ false) × (first ≡ None)
      by true b q o r e = absurd (true≢false (ap is_some e))
      by false true q o r e = absurd (true≢false (ap is_some e))
      by false false q o r e = (q, r ∙ e)

  views_lie : parts_fault p ≡ None → p.views + 16 * p.len ≤ length p.bytes.now
  views_lie e = by (validity_past p.validity p.bytes.now p.len) (ends_past p.bytes.now p.views (16 * p.len)) refl (unfaulted e).0
    where
      by : (a b : Bool) → ends_past p.bytes.now p.views (16 * p.len) ≡ b → a || (b || parts_past p.bytes.now p.buffers.now) ≡ false → p.views + 16 * p.len ≤ length p.bytes.now
      by true b q e = absurd (true≢false e)
      by false true q e = absurd (true≢false e)
      by false false q e = omega (arith, ltb-false (min (length p.bytes.now) 2147483647) (p.views + 16 * p.len) q)

  view_formed : parts_fault p ≡ None → (i : ℕ) → i < p.len → is_valid i ≡ true → fault_at i ≡ None
  view_formed e i h v = no_fault i (fault_at i) (sym (fault_valid i v) ∙ ap (row_fault_in p) (omega arith) ∙ first_none (row_fault_in p) 0 p.len (unfaulted e).1 i h)

  -- ---- rows by their number

  pub rows_length : (n : ℕ) → length (rows_upto n) ≡ n
  unfolding text_rows
  rows_length n = length-map-range_with_len (text_row p.bytes.now p.buffers.now p.views p.validity) 0 n

  row_past : (n i : ℕ) → n ≤ i → row (rows_upto n) i ≡ null
  row_past n i h = get_or_past (rows_upto n) i null (omega (arith, rows_length n))

  row_at : (n i : ℕ) → i < n → row (rows_upto n) i ≡ text_row p.bytes.now p.buffers.now p.views p.validity i
  unfolding text_rows
  row_at n i h = get_or-map-range_with_len (text_row p.bytes.now p.buffers.now p.views p.validity) 0 n i i null h (omega arith)

  row_null : (n i : ℕ) → i < n → is_valid i ≡ false → row (rows_upto n) i ≡ null
  unfolding text_row
  row_null n i h e = row_at n i h ∙ cond-false (is_valid i) (text (value_at i)) null e

  row_text : (n i : ℕ) → i < n → is_valid i ≡ true → row (rows_upto n) i ≡ text (value_at i)
  unfolding text_row
  row_text n i h e = row_at n i h ∙ cond-true (is_valid i) (text (value_at i)) null e

  pub standing_rows : (fault : Option ColumnFault) → fault ≡ parts_fault p → texts_of p ≡ rows_upto (rows_standing fault p.len)
  unfolding column_texts
  standing_rows fault e = ap (λ f. rows_upto (rows_standing f p.len)) (sym e)

-- ---- the rows of a column

module _ (s : ViewColumn) where
  abbrev pub standing : ℕ
  standing = rows_standing (fault_of s.checked) s.parts.len

  rows_are : rows_of s ≡ rows_upto s.parts standing
  rows_are = standing_rows s.parts (fault_of s.checked) s.told

  -- what is below the rows that stand is below the length, and then there is no fault
  stands : (i : ℕ) → i < standing → (fault_of s.checked ≡ None) × (i < s.parts.len)
  stands i h = by (fault_of s.checked) refl h
    where
      by : (f : Option ColumnFault) → fault_of s.checked ≡ f → i < rows_standing f s.parts.len → (fault_of s.checked ≡ None) × (i < s.parts.len)
      by None e h = (e, h)
      by (Some x) e h = absurd (omega arith)

  pub null_past : (i : ℕ) → standing ≤ i → row (rows_of s) i ≡ null
  null_past i h = ap (λ xs. row xs i) rows_are ∙ row_past s.parts standing i h

  pub null_there : (i : ℕ) → i < standing → valid_at s.parts.validity s.parts.bytes.now i ≡ false → row (rows_of s) i ≡ null
  null_there i h e = ap (λ xs. row xs i) rows_are ∙ row_null s.parts standing i h e

  pub text_there : (i : ℕ) → i < standing → valid_at s.parts.validity s.parts.bytes.now i ≡ true → row (rows_of s) i ≡ text (value_at s.parts i)
  text_there i h e = ap (λ xs. row xs i) rows_are ∙ row_text s.parts standing i h e

  -- a row that is not null stands, and is valid
  pub not_null : (i : ℕ) → is_null (row (rows_of s) i) ≡ false → (i < standing) × (valid_at s.parts.validity s.parts.bytes.now i ≡ true)
  not_null i e = ⊎_elim near (λ h. absurd (true≢false (sym (ap is_null (null_past i h)) ∙ e))) (cases_lt i standing)
    where
      near : i < standing → (i < standing) × (valid_at s.parts.validity s.parts.bytes.now i ≡ true)
      near h = (h, by (valid_at s.parts.validity s.parts.bytes.now i) refl)
        where
          by : (b : Bool) → valid_at s.parts.validity s.parts.bytes.now i ≡ b → valid_at s.parts.validity s.parts.bytes.now i ≡ true
          by true v = v
          by false v = absurd (true≢false (sym (ap is_null (null_there i h v)) ∙ e))

  -- its view lies in the data, and is well-formed
  pub view_lies : (i : ℕ) → i < standing → s.parts.views + 16 * i + 16 ≤ length s.parts.bytes.now
  view_lies i h =
      let st = stands i h in
      omega (arith, views_lie s.parts (sym s.told ∙ st.0), st.1)

  pub view_good : (i : ℕ) → i < standing → valid_at s.parts.validity s.parts.bytes.now i ≡ true → fault_at s.parts i ≡ None
  view_good i h v =
      let st = stands i h in
      view_formed s.parts (sym s.told ∙ st.0) i st.1 v
