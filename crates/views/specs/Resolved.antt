-- The value of a well-formed view. Assumes nothing.
use Rattle.std.specs.Prelude.{ℕ, List, take, drop}
use Rattle.views.specs.declared.resolved.ResolvedView.{ResolvedView}
use Rattle.views.specs.View.{value_of}

-- the sixteen bytes of the view
abbrev pub image : ResolvedView → List ℕ
image v = take 16 (drop v.at v.bytes.now)

abbrev pub value : ResolvedView → List ℕ
value v = value_of v.bytes.now v.buffers.now (image v)
