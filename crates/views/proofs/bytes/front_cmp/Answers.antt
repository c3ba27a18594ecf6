use Rattle.std.proofs.Common.{◌≡◌, ◌+◌, ◌-◌, ◌*◌, arith}
use Rattle.views.proofs.Fronts.{stops, goes_on, ends}
use Rattle.views.proofs.bytes.front_cmp.Goals as goal

pub loop-k-preserved : goal.loop-k-preserved
loop-k-preserved c =
    let k = c.loop-k.k in
    let e : 16 * (k + 1) ≡ 16 * k + 16 = omega arith in
    rw e (goes_on 16 c.args.n c.args.left.now c.args.right.now c.requires.left_has c.requires.right_has (16 * k) (omega arith) c.loop-k.invariant c.in-Equal.ensures)

pub returns-in_default : goal.returns-in_default
returns-in_default c =
    stops 16 c.args.n c.args.left.now c.args.right.now c.requires.left_has c.requires.right_has (16 * c.loop-k.k) c.two_words_cmp.result (omega arith) c.loop-k.invariant c.two_words_cmp.ensures c.in_default.not-Equal

pub returns : goal.returns
returns c =
    let n = c.args.n in
    ends 16 n c.args.left.now c.args.right.now c.requires.left_has c.requires.right_has (n - 16) (16 * c.loop-k.k) c.two_words_cmp-2.result (omega arith) (omega arith) c.loop-k.invariant c.two_words_cmp-2.ensures
