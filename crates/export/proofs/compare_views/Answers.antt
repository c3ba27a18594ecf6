use Rattle.std.proofs.Common.{length, ap, ◌∙◌, sym}
use Rattle.export.specs.declared.comparison.Comparison.{Comparison}
use Rattle.rows.specs.Collected.{written}
use Rattle.export.specs.Exported.{exported_texts, filled_texts, one_buffer}
use Rattle.export.specs.Faults.{told}
use Rattle.export.specs.Texts.{text_results}
use Rattle.export.proofs.Told.{text_writes}
use Rattle.export.proofs.compare_views.Goals as goal

pub returns-clause-answers : goal.returns-clause-answers
returns-clause-answers c =
    let a = c.args in
    let l = c.side.ensures in
    let r = c.side-2.ensures in
    c.answer.ensures ∙ ap told c.compare_views.ensures.answers
    ∙ (λ i. exported_texts (one_buffer a.buffer a.buffer_len) a.bytes.now (l.start i) (l.validity i) (r.start i) (r.validity i) a.fixed a.len (length a.out.now))

pub returns-clause-writes : goal.returns-clause-writes
returns-clause-writes c =
    let a = c.args in
    let l = c.side.ensures in
    let r = c.side-2.ensures in
    let out = a.out.now in
    let buffers = one_buffer a.buffer a.buffer_len in
    let asked : Comparison = record { bytes = a.bytes; left = c.side.result; right = c.side-2.result; len = a.len; op = c.operator.result; fixed = a.fixed } in
    let n = sym (c.answer.ensures ∙ ap told c.compare_views.ensures.answers) in
    c.compare_views.ensures.writes
    ∙ ap (λ q. written q (text_results buffers asked) out) c.compare_views.ensures.answers
    ∙ text_writes buffers asked (length out) out
    ∙ (λ i. filled_texts buffers a.bytes.now (l.start i) (l.validity i) (r.start i) (r.validity i) (c.operator.ensures i) a.fixed a.len (n i) out)
