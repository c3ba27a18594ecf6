use Rattle.rows.proofs.Collections.{stands}
use Rattle.rows.proofs.collections_stand.Goals as goal

pub returns : goal.returns
returns c = stands
