use Rattle.std.proofs.Common.{◌≡◌, drop}
use Rattle.duty.specs.Files.{digits_from}
use Rattle.duty.proofs.file.read_digits.Given as goal

abbrev pub invariant-loop-x : goal.invariant-loop-x
invariant-loop-x l = digits_from 0 l.digits ≡ digits_from l.number (drop l.x-index l.digits)
