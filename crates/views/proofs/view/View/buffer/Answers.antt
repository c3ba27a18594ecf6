use Rattle.std.proofs.Common.{get_or, length, ap, ◌∙◌, arith}
use Rattle.std.proofs.lemmas.Bool.{lt-leb}
use Rattle.parts.specs.Parts.{part_bytes}
use Rattle.views.specs.View.{buffer_of, index_of, nowhere, view_bytes}
use Rattle.views.proofs.view.View.buffer.Goals as goal

pub returns : goal.returns
unfolding buffer_of
returns c =
    let found = c.in_ok-buffer.ensures.lookup.3 in (
      lt-leb (length c.args.buffers.now) (index_of (view_bytes c.args.self)) (omega (arith, found.0, c.index.ensures)),
      c.of.ensures ∙ ap (part_bytes c.args.bytes.now) (found.1 nowhere ∙ ap (λ k. get_or c.args.buffers.now k nowhere) c.index.ensures),
    )
