-- The order of texts by their bytes.
use Rattle.std.proofs.Common.{◌≡◌, ℕ, true, false, List, refl, sym, ap, ◌∙◌, nat_cmp}
use Rattle.std.specs.Cmp.Lexicographic.{slice_cmp, nat_list_cmp_total, texts_ties, bytes_decides}
use Rattle.std.specs.Ordering.{is_eq, is_gt, is_lt, ordering_reverse}
use Rattle.std.specs.declared.cmp.Ordering.{Ordering}
use Rattle.std.specs.declared.cmp.Ordering.TheVariants.{Less, Equal, Greater}
use Rattle.std.proofs.lemmas.Bool.{true≢false}
use Rattle.std.proofs.lemmas.Cmp.{upto, tied_itself}
use Rattle.tk_events.specs.Event.{is_before}

abbrev order : List ℕ → List ℕ → Ordering
order = slice_cmp nat_cmp

reverse_not : (o : Ordering) → is_lt o ≡ false → is_gt (ordering_reverse o) ≡ false
reverse_not Less e = absurd (true≢false e)
reverse_not Equal e = refl
reverse_not Greater e = refl

reverse_gt : (o : Ordering) → is_gt (ordering_reverse o) ≡ false → is_lt o ≡ false
reverse_gt Less e = absurd (true≢false e)
reverse_gt Equal e = refl
reverse_gt Greater e = refl

-- x is at most y where y isn't before x
at_most : (x y : List ℕ) → is_before y x ≡ false → is_gt (order x y) ≡ false
at_most x y e = ap is_gt (nat_list_cmp_total.antisymm x y) ∙ reverse_not (order y x) e

from_at_most : (x y : List ℕ) → is_gt (order x y) ≡ false → is_before y x ≡ false
from_at_most x y e = reverse_gt (order y x) (ap is_gt (sym (nat_list_cmp_total.antisymm x y)) ∙ e)

-- nothing is before itself
pub not_before_itself : (x : List ℕ) → is_before x x ≡ false
not_before_itself x = ap is_lt (tied_itself nat_list_cmp_total x)

-- y isn't before x, and z isn't before y
pub not_before_trans : (x y z : List ℕ) → is_before y x ≡ false → is_before z y ≡ false → is_before z x ≡ false
not_before_trans x y z a b =
    from_at_most x z (upto nat_list_cmp_total x y z (at_most x y a) (at_most y z b))

-- what is before isn't after
pub not_after : (x y : List ℕ) → is_before x y ≡ true → is_before y x ≡ false
not_after x y e = by (order x y) (nat_list_cmp_total.antisymm y x) e
  where
    by : (o : Ordering) → order y x ≡ ordering_reverse o → is_lt o ≡ true → is_lt (order y x) ≡ false
    by Less turned e = ap is_lt turned
    by Equal turned e = absurd (true≢false (sym e))
    by Greater turned e = absurd (true≢false (sym e))

-- neither text is before the other
pub neither_before : (x y : List ℕ) → is_before x y ≡ false → is_before y x ≡ false → x ≡ y
neither_before x y a b = (bytes_decides x y).0 (texts_ties x y ∙ tied (order x y) a (at_most x y b))
  where
    tied : (o : Ordering) → is_lt o ≡ false → is_gt o ≡ false → is_eq o ≡ true
    tied Less a b = absurd (true≢false a)
    tied Equal a b = refl
    tied Greater a b = absurd (true≢false b)
