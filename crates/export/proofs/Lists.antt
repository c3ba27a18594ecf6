-- A collection with its lists by other names. Assumes nothing.
use Rattle.std.proofs.Common.{◌≡◌, ℕ, Bool, true, false, List, length, replicate, Result, sym, ap, ◌∙◌, ap₂}
use Rattle.elements.specs.declared.ptype.PType.{PType}
use Rattle.parts.specs.Parts.{valid_at}
use Rattle.numbers.specs.Columns.{key_at}
use Rattle.numbers.proofs.Cells.{cells_length}
use Rattle.rows.specs.Collected.{collected, written}
use Rattle.rows.specs.Row.{Row, row, text}
use Rattle.rows.specs.declared.operator.CompareOperator.{CompareOperator}
use Rattle.export.specs.declared.comparison.Comparison.{Comparison}
use Rattle.export.specs.declared.fault.CompareFault.{CompareFault}
use Rattle.export.specs.Compared.{met_rows, results, rows_at, right_list}

pub wrote : {E : Type 0} (L R A B : List Row) (op : CompareOperator) (n : ℕ) (r : Result ℕ E) (out out' : List ℕ) → L ≡ A → R ≡ B
    → out' ≡ written r (collected L R op n) out → out' ≡ written r (collected A B op n) out
wrote L R A B op n r out out' p q h = h ∙ ap₂ (λ a b. written r (collected a b op n) out) p q

-- the same of two columns by other names, with the list that the left rows meet
pub wrote_met : {E : Type 0} (c : Comparison) (L R A B : List Row) (r : Result ℕ E) (out out' : List ℕ) → L ≡ A → R ≡ B
    → out' ≡ written r (collected L (right_list c.fixed (length L) R) c.op c.len) out → out' ≡ written r (collected A (right_list c.fixed (length A) B) c.op c.len) out
wrote_met c L R A B r out out' p q = wrote L _ A _ c.op c.len r out out' p (ap₂ (λ a b. right_list c.fixed (length a) b) p q)

-- the right list is the right column, or its row 0 for each left row
pub plain_list : (fixed : Bool) (n : ℕ) (R : List Row) → fixed ≡ false → R ≡ right_list fixed n R
plain_list fixed n R e = ap (λ f. right_list f n R) (sym e)

-- where row 0 is a text, that text for each left row
pub text_list : (fixed : Bool) (L A R : List Row) (value : List ℕ) → fixed ≡ true → L ≡ A → text value ≡ row R 0 → replicate (length L) (text value) ≡ right_list fixed (length A) R
text_list fixed L A R value e p v = ap₂ (λ a r. replicate (length a) r) p v ∙ ap (λ f. right_list f (length A) R) (sym e)

pub fixed_list : (fixed : Bool) (L A R B : List Row) → fixed ≡ true → L ≡ A → R ≡ B → replicate (length L) (row R 0) ≡ right_list fixed (length A) B
fixed_list fixed L A R B e p q = ap₂ (λ a b. replicate (length a) (row b 0)) p q ∙ ap (λ f. right_list f (length A) B) (sym e)

-- the list that the left rows meet, by the columns that were asked for
pub met : (p : PType) (c : Comparison) (L R : List Row) → L ≡ rows_at p c c.left → R ≡ rows_at p c c.right → right_list c.fixed (length L) R ≡ met_rows p c
met p c L R left right = ap₂ (right_list c.fixed) (ap length left ∙ cells_length (valid_at c.left.validity c.bytes.now) (key_at p c.bytes.now c.left.start) c.len) right

-- what was written at one kind, with the kind by another name
pub by_kind : (p q : PType) (c : Comparison) (r : Result ℕ CompareFault) (out new : List ℕ) → p ≡ q → new ≡ written r (results q c) out → new ≡ written r (results p c) out
by_kind p q c r out new kind h = h ∙ ap (λ k. written r (results k c) out) (sym kind)
