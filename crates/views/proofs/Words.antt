-- The two words of a view, and its bytes in parts. Assumes nothing.
use Rattle.std.proofs.Common.{◌≡◌, ℕ, ◌/◌, ◌%◌, ◌^◌, ◌<◌, List, [], ◌∷◌, ◌++◌, length, take, drop, sym, refl, ap, ◌∙◌}
use Rattle.std.specs.Int.Digits.{AllBelowBase}
use Rattle.elements.specs.Reading.{little_endian, le_bytes}
use Rattle.elements.proofs.LittleEndian.{low_half, high_half, same_word, le_under, under_take, under_drop}
use Rattle.views.specs.declared.view.View.{View}
use Rattle.views.specs.View.{view_bytes, size_of, prefix_of}

pub under_append : (xs ys : List ℕ) → AllBelowBase 256 xs → AllBelowBase 256 ys → AllBelowBase 256 (xs ++ ys)
under_append [] ys u v = v
under_append (x ∷ xs) ys u v = (u.0, under_append xs ys u.1 v)

pub length_view : (v : View) → length (view_bytes v) ≡ 16
unfolding view_bytes
length_view v = refl

pub under_view : (v : View) → AllBelowBase 256 (view_bytes v)
unfolding view_bytes
under_view v = under_append (le_bytes 8 v.low) (le_bytes 8 v.high) (le_under 8 v.low) (le_under 8 v.high)

pub length_prefix : (v : View) → length (prefix_of (view_bytes v)) ≡ 4
unfolding view_bytes prefix_of
length_prefix v = refl

pub under_prefix : (v : View) → AllBelowBase 256 (prefix_of (view_bytes v))
unfolding prefix_of
under_prefix v = under_take 4 (drop 4 (view_bytes v)) (under_drop 4 (view_bytes v) (under_view v))

pub length_tail : (v : View) → length (drop 8 (view_bytes v)) ≡ 8
unfolding view_bytes
length_tail v = refl

pub under_tail : (v : View) → AllBelowBase 256 (drop 8 (view_bytes v))
under_tail v = under_drop 8 (view_bytes v) (under_view v)

pub split : (v : View) → drop 4 (view_bytes v) ≡ prefix_of (view_bytes v) ++ drop 8 (view_bytes v)
unfolding view_bytes prefix_of
split v = refl

pub size_word : (v : View) → v.low % 4294967296 ≡ size_of (view_bytes v)
unfolding view_bytes size_of
size_word v = low_half v.low

pub prefix_word : (v : View) → v.low < 2 ^ 64 → v.low / 4294967296 ≡ little_endian (prefix_of (view_bytes v))
unfolding view_bytes prefix_of
prefix_word v h = high_half v.low h

pub prefix_from : (u v : View) → u.low ≡ v.low → prefix_of (view_bytes u) ≡ prefix_of (view_bytes v)
unfolding view_bytes prefix_of
prefix_from u v e = ap (λ n. take 4 (drop 4 (le_bytes 8 n))) e

pub tail_from : (u v : View) → u.high ≡ v.high → drop 8 (view_bytes u) ≡ drop 8 (view_bytes v)
unfolding view_bytes
tail_from u v e = ap (le_bytes 8) e

pub high_from : (u v : View) → u.high < 2 ^ 64 → v.high < 2 ^ 64 → drop 8 (view_bytes u) ≡ drop 8 (view_bytes v) → u.high ≡ v.high
unfolding view_bytes
high_from u v hu hv e = same_word u.high v.high hu hv e

pub size_from : (u v : View) → u.low ≡ v.low → size_of (view_bytes u) ≡ size_of (view_bytes v)
size_from u v e = sym (size_word u) ∙ ap (λ n. n % 4294967296) e ∙ size_word v
