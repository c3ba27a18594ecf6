use Rattle.std.proofs.Common.{◌≡◌, rules, sym, ap, ◌∙◌}
use Rattle.parts.specs.Parts.{fault_of}
use Rattle.views.specs.View.{view_fault}
use Rattle.views.specs.Texts.{with_pair, with_row}
use Rattle.views.proofs.TextRows.{fault_null, fault_valid}
use Rattle.views.proofs.texts.TextParts.check_row.Goals as goal

pub returns-then-not-is_valid : goal.returns-then-not-is_valid
returns-then-not-is_valid c = sym (fault_null c.args.self.now c.args.i (sym c.if-not-is_valid.ensures))

pub returns : goal.returns
returns c =
    let p = c.args.self.now in
    let i = c.args.i in
    let named : with_pair (fault_of c.map_err.result) ≡ with_row i (fault_of c.check.result) = search rules in
    named ∙ ap (with_row i) (c.check.ensures.answers ∙ ap (view_fault p.bytes.now p.buffers.now) c.read_within-view.ensures) ∙ sym (fault_valid p i (sym c.if-not-is_valid.ensures))
