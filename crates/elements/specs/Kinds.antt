-- The element kinds by their PType: a code, a width in bytes, and how a pattern is read. Assumes nothing.
use Rattle.std.specs.Prelude.{ℕ, Bool, cond, ◌||◌, Ok, Err, Result, ◌==◌}
use Rattle.faults.specs.declared.ColumnFault.{ColumnFault}
use Rattle.faults.specs.declared.ColumnFault.TheVariants.{Kind}
use Rattle.elements.specs.declared.ptype.Class.{Class}
use Rattle.elements.specs.declared.ptype.Class.TheVariants.{Unsigned, Signed, Float}
use Rattle.elements.specs.declared.ptype.PType.{PType}
use Rattle.elements.specs.declared.ptype.PType.TheVariants.{U8, U16, U32, U64, I8, I16, I32, I64, F16, F32, F64}

abbrev pub code_of : PType → ℕ
code_of U8 = 0
code_of U16 = 1
code_of U32 = 2
code_of U64 = 3
code_of I8 = 4
code_of I16 = 5
code_of I32 = 6
code_of I64 = 7
code_of F16 = 8
code_of F32 = 9
code_of F64 = 10

abbrev pub width_of : PType → ℕ
width_of U8 = 1
width_of U16 = 2
width_of U32 = 4
width_of U64 = 8
width_of I8 = 1
width_of I16 = 2
width_of I32 = 4
width_of I64 = 8
width_of F16 = 2
width_of F32 = 4
width_of F64 = 8

abbrev pub class_of : PType → Class
class_of U8 = Unsigned
class_of U16 = Unsigned
class_of U32 = Unsigned
class_of U64 = Unsigned
class_of I8 = Signed
class_of I16 = Signed
class_of I32 = Signed
class_of I64 = Signed
class_of F16 = Float
class_of F32 = Float
class_of F64 = Float

-- the kind with this code, or the fault of an unknown one
abbrev pub coded : ℕ → Result PType ColumnFault
coded n =
    cond (n == 0) (Ok U8)
    (cond (n == 1) (Ok U16)
    (cond (n == 2) (Ok U32)
    (cond (n == 3) (Ok U64)
    (cond (n == 4) (Ok I8)
    (cond (n == 5) (Ok I16)
    (cond (n == 6) (Ok I32)
    (cond (n == 7) (Ok I64)
    (cond (n == 8) (Ok F16)
    (cond (n == 9) (Ok F32)
    (cond (n == 10) (Ok F64) (Err Kind)))))))))))

-- the widths that there are
abbrev pub is_width : ℕ → Bool
is_width w = w == 1 || (w == 2 || (w == 4 || w == 8))
