-- Texts go bytewise. Assumes nothing.
use Rattle.std.proofs.Common.{◌≡◌, ℕ, ◌<◌, ◌⊎◌, List, [], ◌∷◌, ◌++◌, Ordering, Less, Equal, Greater, sym, refl, ap, ◌∙◌, ap₂, inl, inr, true≢false}
use Rattle.std.specs.Ordering.{MatchOrdering, is_lt, nat_cmp, ordering_then}
use Rattle.std.specs.Cmp.{ranks}
use Rattle.std.proofs.lemmas.Map.Lookups.{exact_bytes}
use Rattle.rows.specs.Laws.{Lawful}
use Rattle.rows.specs.Row.{text}
use Rattle.rows.proofs.Orders.{stands}
use Rattle.views.specs.Window.{byte_order, Beginning, SmallerByte, TextOrder}
use Rattle.views.proofs.Decisions.{lex_shared}
use Rattle.views.proofs.Windows.{lexed, by_lex, rank_lt, rank_eq}

lawful : Lawful byte_order
lawful = record {
  itself = λ a. stands.lawful.itself (text a);
  flip = λ a b. stands.lawful.flip (text a) (text b);
  trans = λ a b c. stands.lawful.trans (text a) (text b) (text c);
  same = λ a b e. exact_bytes a b (sym (by_lex a b) ∙ e);
}

by_difference : (xs ys : List ℕ) → SmallerByte xs ys → byte_order xs ys ≡ Less
by_difference xs ys d =
    ap₂ byte_order d.xs_is d.ys_is ∙ by_lex (d.front ++ (d.x ∷ d.xs_rest)) (d.front ++ (d.y ∷ d.ys_rest))
    ∙ lex_shared d.front (d.x ∷ d.xs_rest) (d.y ∷ d.ys_rest)
    ∙ ap (λ o. ordering_then o (lexed d.xs_rest d.ys_rest)) (rank_lt d.x d.y d.less)

lex_beginning : (xs : List ℕ) (y : ℕ) (rest : List ℕ) → lexed xs (xs ++ (y ∷ rest)) ≡ Less
lex_beginning [] y rest = refl
lex_beginning (x ∷ xs) y rest = ap (λ o. ordering_then o (lexed xs (xs ++ (y ∷ rest)))) (rank_eq x x refl) ∙ lex_beginning xs y rest

by_beginning : (xs ys : List ℕ) → Beginning xs ys → byte_order xs ys ≡ Less
by_beginning xs ys b = ap (byte_order xs) b.ys_is ∙ by_lex xs (xs ++ (b.y ∷ b.rest)) ∙ lex_beginning xs b.y b.rest

-- one byte more in front of both
longer : (x y : ℕ) (xs ys : List ℕ) → x ≡ y → SmallerByte xs ys ⊎ Beginning xs ys → SmallerByte (x ∷ xs) (y ∷ ys) ⊎ Beginning (x ∷ xs) (y ∷ ys)
longer x y xs ys e (inl d) = inl (record {
  front = x ∷ d.front;
  x = d.x;
  y = d.y;
  xs_rest = d.xs_rest;
  ys_rest = d.ys_rest;
  xs_is = ap (λ zs. x ∷ zs) d.xs_is;
  ys_is = ap₂ ◌∷◌ (sym e) d.ys_is;
  less = d.less;
})
longer x y xs ys e (inr b) = inr (record { y = b.y; rest = b.rest; ys_is = ap₂ ◌∷◌ (sym e) b.ys_is })

heads : (x y : ℕ) (xs ys : List ℕ) (o : Ordering) → MatchOrdering o (x < y) (x ≡ y) (y < x) → ordering_then o (lexed xs ys) ≡ Less → (lexed xs ys ≡ Less → SmallerByte xs ys ⊎ Beginning xs ys) → SmallerByte (x ∷ xs) (y ∷ ys) ⊎ Beginning (x ∷ xs) (y ∷ ys)
heads x y xs ys Less h e rest = inl (record { front = []; x = x; y = y; xs_rest = xs; ys_rest = ys; xs_is = refl; ys_is = refl; less = h })
heads x y xs ys Equal h e rest = longer x y xs ys h (rest e)
heads x y xs ys Greater h e rest = absurd (true≢false (sym (ap is_lt e)))

lex_only : (xs ys : List ℕ) → lexed xs ys ≡ Less → SmallerByte xs ys ⊎ Beginning xs ys
lex_only [] [] e = absurd (true≢false (sym (ap is_lt e)))
lex_only [] (y ∷ ys) e = inr (record { y = y; rest = ys; ys_is = refl })
lex_only (x ∷ xs) [] e = absurd (true≢false (sym (ap is_lt e)))
lex_only (x ∷ xs) (y ∷ ys) e = heads x y xs ys (nat_cmp x y) (ranks x y) e (lex_only xs ys)

pub text_order : TextOrder
text_order = record {
  lawful = lawful;
  by_difference = by_difference;
  by_beginning = by_beginning;
  only_so = λ xs ys e. lex_only xs ys (sym (by_lex xs ys) ∙ e);
}
