use Rattle.std.proofs.Common.{rules}
use Rattle.std.proofs.lemmas.List.{drop_all}
use Rattle.duty.proofs.Views.{written_rows}
use Rattle.duty.proofs.names.name_area.Goals as goal

pub returns : goal.returns
returns c = search (rules, drop_all, written_rows)
