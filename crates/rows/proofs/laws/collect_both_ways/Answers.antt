use Rattle.std.proofs.Common.{◌≡◌, ◌++◌, length, drop, sym, ap, ◌∙◌}
use Rattle.rows.specs.Bits.{bytes_for}
use Rattle.rows.specs.Collected.{collected, written}
use Rattle.rows.specs.Operators.{swapped}
use Rattle.rows.proofs.Collections.{grants_both, leaves, same_bytes}
use Rattle.rows.proofs.laws.collect_both_ways.Goals as goal

pub returns : goal.returns
returns g c =
    let xs = g.C.RowComparator.left c.args.forward.now in
    let ys = g.C.RowComparator.right c.args.forward.now in
    let us = g.D.RowComparator.left c.args.backward.now in
    let vs = g.D.RowComparator.right c.args.backward.now in
    let n = c.args.len in
    let op = c.args.op in
    let out = c.args.out.now in
    let back = c.args.back.now in
    let two = c.in_ok-size.ensures in
    let both = grants_both xs ys us vs n (length out) (length back) c.in_ok-size.size two in
    let first : c.collect_ordering_bits.new.out ≡ collected xs ys op n ++ drop (bytes_for n) out =
    leaves xs ys n (length out) _ (collected xs ys op n) out _ _ both.0 c.collect_ordering_bits.ensures.answers c.collect_ordering_bits.ensures.writes in
    let second : c.collect_ordering_bits-2.new.out ≡ collected us vs (swapped op) n ++ drop (bytes_for n) back =
    leaves us vs n (length back) _ (collected us vs (swapped op) n) back _ _ both.1 c.collect_ordering_bits-2.ensures.answers
    (c.collect_ordering_bits-2.ensures.writes ∙ ap (λ o. written c.collect_ordering_bits-2.result (collected us vs o n) back) c.swap.ensures.value) in
    record {
      answers = two;
      writes = first ∙ ap (λ k. collected xs ys op n ++ drop k out) (sym both.2);
      writes_back = second ∙ ap (λ k. collected us vs (swapped op) n ++ drop k back) (sym both.2);
      law = λ p q t. same_bytes xs ys us vs op n _ _ _ _ p q first second;
    }
