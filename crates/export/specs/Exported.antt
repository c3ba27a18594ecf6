-- What the C interface answers. Assumes nothing.
use Rattle.std.specs.Prelude.{ℕ, Bool, cond, List, [], ◌∷◌, ◌++◌, length, drop, Ok, Err, Result, ◌==◌}
use Rattle.faults.specs.Numbers.{column_number}
use Rattle.faults.specs.declared.ColumnFault.{ColumnFault}
use Rattle.elements.specs.declared.ptype.PType.{PType}
use Rattle.elements.specs.Kinds.{width_of}
use Rattle.numbers.specs.Columns.{number_fault, number_rows}
use Rattle.rows.specs.Bits.{bytes_for}
use Rattle.rows.specs.Collected.{collected, collection}
use Rattle.rows.specs.Row.{Row}
use Rattle.rows.specs.declared.operator.CompareOperator.{CompareOperator}
use Rattle.rows.specs.declared.operator.CompareOperator.TheVariants.{Eq, NotEq, Gt, Gte, Lt, Lte}
use Rattle.parts.specs.declared.part.Part.{Part}
use Rattle.parts.specs.declared.validity.Validity.{Validity}
use Rattle.parts.specs.declared.validity.Validity.TheVariants.{NonNullable, Bitmap}
use Rattle.views.specs.Texts.{column_texts, text_fault}
use Rattle.export.specs.Compared.{first_fault, right_list}
use Rattle.export.specs.Faults.{told}

-- the operators by their codes, 0 to 5; any other code is Lte
abbrev pub operator_of : ℕ → CompareOperator
operator_of n =
    cond (n == 0) Eq (cond (n == 1) NotEq (cond (n == 2) Gt (cond (n == 3) Gte (cond (n == 4) Lt Lte))))

abbrev pub validity_of : Bool → ℕ → Validity
validity_of nullable start = cond nullable (Bitmap start) NonNullable

-- the right list of two columns of n rows
abbrev pub right_rows : PType → List ℕ → ℕ → Validity → Bool → ℕ → List Row
right_rows p bytes right validity fixed n = right_list fixed n (number_rows p bytes right validity n)

-- 0 where it is granted, and else the number of the first refusal
abbrev pub exported : PType → List ℕ → ℕ → Validity → ℕ → Validity → Bool → ℕ → ℕ → ℕ
exported p bytes left left_validity right right_validity fixed n room =
    told (first_fault (number_fault (width_of p) bytes left left_validity n) (number_fault (width_of p) bytes right right_validity n)
    (collection (number_rows p bytes left left_validity n) (right_rows p bytes right right_validity fixed n) n room))

-- the output after an answer: as it was, where that is a refusal
abbrev pub filled : PType → List ℕ → ℕ → Validity → ℕ → Validity → CompareOperator → Bool → ℕ → ℕ → List ℕ → List ℕ
filled p bytes left left_validity right right_validity op fixed n r out =
    cond (r == 0) (collected (number_rows p bytes left left_validity n) (right_rows p bytes right right_validity fixed n) op n ++ drop (bytes_for n) out) out

-- ---- the kind by its code

abbrev pub exported_by : Result PType ColumnFault → List ℕ → ℕ → Validity → ℕ → Validity → Bool → ℕ → ℕ → ℕ
exported_by (Err f) bytes left left_validity right right_validity fixed n room = column_number f
exported_by (Ok p) bytes left left_validity right right_validity fixed n room = exported p bytes left left_validity right right_validity fixed n room

abbrev pub filled_by : Result PType ColumnFault → List ℕ → ℕ → Validity → ℕ → Validity → CompareOperator → Bool → ℕ → ℕ → List ℕ → List ℕ
filled_by (Err f) bytes left left_validity right right_validity op fixed n r out = out
filled_by (Ok p) bytes left left_validity right right_validity op fixed n r out = filled p bytes left left_validity right right_validity op fixed n r out

-- ---- two text columns over some buffers

-- their right list
abbrev pub right_texts : List Part → List ℕ → ℕ → Validity → ℕ → Validity → Bool → ℕ → List Row
right_texts buffers bytes left left_validity right right_validity fixed n =
    right_list fixed (length (column_texts bytes buffers left left_validity n)) (column_texts bytes buffers right right_validity n)

abbrev pub exported_texts : List Part → List ℕ → ℕ → Validity → ℕ → Validity → Bool → ℕ → ℕ → ℕ
exported_texts buffers bytes left left_validity right right_validity fixed n room =
    told (first_fault (text_fault bytes buffers left left_validity n) (text_fault bytes buffers right right_validity n)
    (collection (column_texts bytes buffers left left_validity n) (right_texts buffers bytes left left_validity right right_validity fixed n) n room))

abbrev pub filled_texts : List Part → List ℕ → ℕ → Validity → ℕ → Validity → CompareOperator → Bool → ℕ → ℕ → List ℕ → List ℕ
filled_texts buffers bytes left left_validity right right_validity op fixed n r out =
    cond (r == 0) (collected (column_texts bytes buffers left left_validity n) (right_texts buffers bytes left left_validity right right_validity fixed n) op n ++ drop (bytes_for n) out) out

-- the one buffer that C names
abbrev pub one_buffer : ℕ → ℕ → List Part
one_buffer start n = record { start = start; len = n } ∷ []
