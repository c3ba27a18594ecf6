-- The refusal number of a comparison's fault. Assumes nothing.
use Rattle.std.specs.Prelude.{ℕ, Ok, Err, Result}
use Rattle.faults.specs.Numbers.{collect_number, column_number}
use Rattle.export.specs.declared.fault.CompareFault.{CompareFault}
use Rattle.export.specs.declared.fault.CompareFault.TheVariants.{Column, Collect}

abbrev pub compare_number : CompareFault → ℕ
compare_number (Column f) = column_number f
compare_number (Collect f) = collect_number f

-- 0 where a comparison is granted, and else the number of its fault
abbrev pub told : Result ℕ CompareFault → ℕ
told (Ok k) = 0
told (Err f) = compare_number f
