use Rattle.std.proofs.Common.{◌≡◌, ◌++◌, length, vec_items}
use Rattle.rows.specs.Bits.{bytes_of}
use Rattle.duty.specs.Layout.{present}
use Rattle.duty.proofs.area.push_bitmap.Given as goal

-- the bytes so far and the bitmap of what is left
abbrev pub invariant-loop-eight : goal.invariant-loop-eight
invariant-loop-eight l =
    let rest = l.eight-iterator.rest.now in
    (l.eight-iterator.size ≡ 8)
    × (vec_items l.bytes ++ bytes_of (present rest) (length rest) ≡ vec_items l.initial.bytes ++ bytes_of (present l.counts) (length l.counts))
