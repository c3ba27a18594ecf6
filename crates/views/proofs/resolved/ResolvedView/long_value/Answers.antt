use Rattle.std.proofs.Common.{◌≡◌, ℕ, ◌+◌, ◌-◌, ◌<◌, ◌≤◌, List, length, get_or, take, drop, sym, ap, ◌∙◌, arith}
use Rattle.parts.specs.Parts.{part_bytes}
use Rattle.views.specs.Resolved.{image, value}
use Rattle.views.specs.View.{buffer_of, index_of, nowhere, offset_of, size_of, value_of, view_bytes, view_fault}
use Rattle.views.specs.declared.resolved.ResolvedView.{ResolvedView}
use Rattle.views.proofs.Faults.{long_formed, value_long}
use Rattle.views.proofs.resolved.ResolvedView.long_value.Goals as goal

module _ (s : ResolvedView) (w : List ℕ) (own : w ≡ image s) (long : 12 < size_of w) where
  -- the buffer that the code takes
  buffer_is : (b : List ℕ) (i : ℕ) → i ≡ index_of w → b ≡ part_bytes s.bytes.now (get_or s.buffers.now i nowhere) → b ≡ buffer_of s.bytes.now s.buffers.now w
  unfolding buffer_of
  buffer_is b i is_i is_b = is_b ∙ ap (λ k. part_bytes s.bytes.now (get_or s.buffers.now k nowhere)) is_i

  inside : (b : List ℕ) → b ≡ buffer_of s.bytes.now s.buffers.now w → offset_of w + size_of w ≤ length b
  inside b e = omega (arith, (long_formed s.bytes.now s.buffers.now w long (ap (view_fault s.bytes.now s.buffers.now) own ∙ s.formed)).1, ap length e)

  shown : (b : List ℕ) (n o : ℕ) → b ≡ buffer_of s.bytes.now s.buffers.now w → n ≡ size_of w → o ≡ offset_of w → take n (drop o b) ≡ value s
  shown b n o is_b is_n is_o = (λ i. take (is_n i) (drop (is_o i) (is_b i))) ∙ sym (value_long s.bytes.now s.buffers.now w long) ∙ ap (value_of s.bytes.now s.buffers.now) own

pub slice_bounds-result-end : goal.slice_bounds-result-end
slice_bounds-result-end c =
    let s = c.args.self in
    let w = view_bytes c.args.view in
    let is_b = buffer_is s w c.requires.own c.requires.long c.of-buffer.result.now c.index.result c.index.ensures c.of-buffer.ensures in
    omega (arith, inside s w c.requires.own c.requires.long c.of-buffer.result.now is_b, c.offset-start.ensures, c.size.ensures)

pub returns : goal.returns
returns c =
    let s = c.args.self in
    let w = view_bytes c.args.view in
    let is_b = buffer_is s w c.requires.own c.requires.long c.of-buffer.result.now c.index.result c.index.ensures c.of-buffer.ensures in
    let n : c.offset-start.result + c.size.result - c.offset-start.result ≡ c.size.result = omega arith in
    shown s w c.requires.own c.requires.long c.of-buffer.result.now _ c.offset-start.result is_b (n ∙ c.size.ensures) c.offset-start.ensures
