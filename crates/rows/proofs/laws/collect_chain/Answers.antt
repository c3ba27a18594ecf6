use Rattle.std.proofs.Common.{◌≡◌, ◌++◌, length, drop, sym, ap, ◌∙◌}
use Rattle.rows.specs.Bits.{bytes_for}
use Rattle.rows.specs.Collected.{collected, first_refusal, collection}
use Rattle.rows.specs.declared.operator.CompareOperator.TheVariants.{Lte}
use Rattle.rows.proofs.Collections.{grants, grants_both, leaves, goes_on}
use Rattle.rows.proofs.laws.collect_chain.Goals as goal

pub returns : goal.returns
returns g c =
    let xs = g.C.RowComparator.left c.args.first.now in
    let ys = g.C.RowComparator.right c.args.first.now in
    let ys' = g.D.RowComparator.left c.args.second.now in
    let zs = g.D.RowComparator.right c.args.second.now in
    let xs' = g.E.RowComparator.left c.args.across.now in
    let zs' = g.E.RowComparator.right c.args.across.now in
    let n = c.args.len in
    let a = c.args.first_out.now in
    let b = c.args.second_out.now in
    let d = c.args.across_out.now in
    let both = grants_both xs ys ys' zs n (length a) (length b) c.in_ok-check_two.field-0 c.in_ok-check_two.ensures in
    let three = c.in_ok-size.ensures in
    let size = grants xs' zs' n (length d) c.in_ok-size.size three in
    let first : c.collect_ordering_bits.new.out ≡ collected xs ys Lte n ++ drop (bytes_for n) a =
    leaves xs ys n (length a) _ (collected xs ys Lte n) a _ _ both.0 c.collect_ordering_bits.ensures.answers c.collect_ordering_bits.ensures.writes in
    let second : c.collect_ordering_bits-2.new.out ≡ collected ys' zs Lte n ++ drop (bytes_for n) b =
    leaves ys' zs n (length b) _ (collected ys' zs Lte n) b _ _ both.1 c.collect_ordering_bits-2.ensures.answers c.collect_ordering_bits-2.ensures.writes in
    let third : c.collect_ordering_bits-3.new.out ≡ collected xs' zs' Lte n ++ drop (bytes_for n) d =
    leaves xs' zs' n (length d) _ (collected xs' zs' Lte n) d _ _ three c.collect_ordering_bits-3.ensures.answers c.collect_ordering_bits-3.ensures.writes in
    record {
      answers =
          three ∙ ap (λ q. first_refusal q (collection xs' zs' n (length d))) both.1
          ∙ ap (λ q. first_refusal q (first_refusal (collection ys' zs n (length b)) (collection xs' zs' n (length d)))) both.0;
      writes_first = first ∙ ap (λ k. collected xs ys Lte n ++ drop k a) (sym size);
      writes_second = second ∙ ap (λ k. collected ys' zs Lte n ++ drop k b) (sym size);
      writes_across = third ∙ ap (λ k. collected xs' zs' Lte n ++ drop k d) (sym size);
      law = λ p q s t. goes_on xs ys ys' zs xs' zs' n _ _ _ _ _ _ p q s first second third;
    }
