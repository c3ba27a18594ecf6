use Rattle.std.proofs.Common.{rules}
use Rattle.duty.proofs.Bytes.{area_rows}
use Rattle.duty.proofs.area.count_area.Goals as goal

pub returns : goal.returns
returns c = search (rules, area_rows)
