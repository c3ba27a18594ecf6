use Rattle.std.proofs.Common.{◌≡◌, ◌%◌, ◌<◌, ◌≤◌, length, None, sym, ap, ◌∙◌, subst, mod-lt, arith}
use Rattle.views.specs.Resolved.{image, value}
use Rattle.views.specs.View.{size_of, value_of, view_bytes, view_fault}
use Rattle.views.specs.Words.{Words}
use Rattle.views.specs.declared.resolved.ResolvedView.{ResolvedView}
use Rattle.views.specs.declared.view.View.{View}
use Rattle.views.proofs.Faults.{words_of, value_length}
use Rattle.views.proofs.Words.{length_view, size_word}
use Rattle.views.proofs.values.ResolvedViewTold.words.Goals as goal

module _ (s : ResolvedView) (v : View) (own : view_bytes v ≡ image s) where
  told : size_of (view_bytes v) ≤ 4294967295
  told = let h : v.low % 4294967296 < 4294967296 = mod-lt _ (omega arith) in omega (arith, size_word v)

  sound : view_fault s.bytes.now s.buffers.now (view_bytes v) ≡ None
  sound = ap (view_fault s.bytes.now s.buffers.now) own ∙ s.formed

  tells : Words (view_bytes v) (value s)
  tells = subst (λ w. Words (view_bytes v) (value_of s.bytes.now s.buffers.now w)) own (words_of s.bytes.now s.buffers.now (view_bytes v) (length_view v) told sound)

  sizes : size_of (view_bytes v) ≡ length (value s)
  sizes = sym (value_length s.bytes.now s.buffers.now (view_bytes v) (length_view v) told sound) ∙ ap (λ w. length (value_of s.bytes.now s.buffers.now w)) own

pub returns-clause-tells : goal.returns-clause-tells
returns-clause-tells c = tells c.args.self c.read_within.result c.read_within.ensures

pub returns-clause-size : goal.returns-clause-size
returns-clause-size c = sizes c.args.self c.read_within.result c.read_within.ensures
