use Rattle.std.proofs.Common.{◌≡◌, ℕ, ◌+◌, ◌-◌, ◌≤◌, List, take, drop, sym, ap, ◌∙◌, arith}
use Rattle.std.proofs.lemmas.List.{take-take, drop-take, drop-drop}
use Rattle.std.proofs.lemmas.Bool.{leb-true}
use Rattle.views.specs.View.{size_of, value_of, view_bytes}
use Rattle.views.proofs.Faults.{value_short}
use Rattle.views.proofs.values.ResolvedViewTold.value.Goals as goal

-- a short value stands four bytes into its view
short_there : (bytes w : List ℕ) (at n : ℕ) → w ≡ take 16 (drop at bytes) → n ≤ 12 → take n (drop (at + 4) bytes) ≡ take n (drop 4 w)
short_there bytes w at n is_w h =
    ap (take n) (sym (drop-drop 4 at bytes)) ∙ sym (take-take n 12 (drop 4 (drop at bytes)) h) ∙ ap (take n) (sym (drop-take 4 12 (drop at bytes)))
    ∙ ap (λ ys. take n (drop 4 ys)) (sym is_w)

pub returns-then-is_inlined : goal.returns-then-is_inlined
returns-then-is_inlined c =
    let s = c.args.self in
    let w = view_bytes c.words-view.result in
    let own = c.words-view.ensures.image in
    let h : size_of w ≤ 12 = leb-true (size_of w) 12 (sym c.if-is_inlined.ensures) in
    let n : s.at + 4 + c.size.result - (s.at + 4) ≡ size_of w = omega (arith, c.size.ensures) in
    ap (λ k. take k (drop (s.at + 4) s.bytes.now)) n ∙ short_there s.bytes.now w s.at (size_of w) own h ∙ sym (value_short s.bytes.now s.buffers.now w h) ∙ ap (value_of s.bytes.now s.buffers.now) own
