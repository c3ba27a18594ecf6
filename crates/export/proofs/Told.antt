-- A comparison's answer and output, as C is told them. Assumes nothing.
use Rattle.std.proofs.Common.{◌≡◌, ℕ, List, ◌++◌, drop, cond, eqb, Some, None, Ok, Err, Option, Result, refl, ap}
use Rattle.faults.specs.declared.CollectFault.{CollectFault}
use Rattle.faults.specs.declared.CollectFault.TheVariants.{Length, Output}
use Rattle.faults.specs.declared.ColumnFault.{ColumnFault}
use Rattle.faults.specs.declared.ColumnFault.TheVariants.{Range, Rows, Kind, View}
use Rattle.rows.specs.Bits.{bytes_for}
use Rattle.rows.specs.Collected.{written}
use Rattle.rows.proofs.Collections.{grants}
use Rattle.elements.specs.declared.ptype.PType.{PType}
use Rattle.export.specs.declared.comparison.Comparison.{Comparison}
use Rattle.export.specs.declared.fault.CompareFault.TheVariants.{Column, Collect}
use Rattle.export.specs.Compared.{compared, fault_at, first_fault, met_rows, results, rows_at}
use Rattle.export.specs.Exported.{filled, filled_texts}
use Rattle.export.specs.Faults.{told}
use Rattle.export.specs.Texts.{compared_texts, fault_of_texts, met_texts, text_results, texts_at}
use Rattle.parts.specs.declared.part.Part.{Part}

-- a refusal's number is not 0
module _ (bytes out : List ℕ) where
  column : (f : ColumnFault) → out ≡ cond (eqb (told (Err (Column f))) 0) bytes out
  column Range = refl
  column Rows = refl
  column Kind = refl
  column (View row fault) = refl

  collect : (f : CollectFault) → out ≡ cond (eqb (told (Err (Collect f))) 0) bytes out
  collect Length = refl
  collect Output = refl

first_written : (a b : Option ColumnFault) (q : Result ℕ CollectFault) (xs out : List ℕ) (n : ℕ) → ((k : ℕ) → Ok k ≡ q → k ≡ n)
    → written (first_fault a b q) xs out ≡ cond (eqb (told (first_fault a b q)) 0) (xs ++ drop n out) out
first_written (Some f) b q xs out n h = column (xs ++ drop n out) out f
first_written None (Some f) q xs out n h = column (xs ++ drop n out) out f
first_written None None (Err f) xs out n h = collect (xs ++ drop n out) out f
first_written None None (Ok k) xs out n h = ap (λ i. xs ++ drop i out) (h k refl)

pub writes : (p : PType) (c : Comparison) (room : ℕ) (out : List ℕ)
    → written (compared p c room) (results p c) out ≡ filled p c.bytes.now c.left.start c.left.validity c.right.start c.right.validity c.op c.fixed c.len (told (compared p c room)) out
writes p c room out =
    first_written (fault_at p c c.left) (fault_at p c c.right) _ (results p c) out (bytes_for c.len) (λ k h. grants (rows_at p c c.left) (met_rows p c) c.len room k h)

pub text_writes : (buffers : List Part) (c : Comparison) (room : ℕ) (out : List ℕ)
    → written (compared_texts buffers c room) (text_results buffers c) out ≡ filled_texts buffers c.bytes.now c.left.start c.left.validity c.right.start c.right.validity c.op c.fixed c.len (told (compared_texts buffers c room)) out
text_writes buffers c room out =
    first_written (fault_of_texts buffers c c.left) (fault_of_texts buffers c c.right) _ (text_results buffers c) out (bytes_for c.len) (λ k h. grants (texts_at buffers c c.left) (met_texts buffers c) c.len room k h)
