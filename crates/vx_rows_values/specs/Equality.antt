-- The order on values and rows is a total order, and what it does not distinguish is equal: the laws that maps of rows ask for.
use Rattle.std.proofs.Common.{◌≡◌, true, refl, sym, ap, true≢false, is_eq, is_lt, Ordering, Less, Equal, Greater}
use Rattle.std.specs.Ordering.{ordering_reverse}
use Rattle.std.specs.Cmp.{IsTotalOrder, IsEquivalence}
use Rattle.std.specs.FinMap.{IsAntisymmetric, int_cmp-IsAntisymmetric, nat_cmp-IsAntisymmetric, slice_cmp-IsAntisymmetric}
use Rattle.std.proofs.lemmas.Cmp.{int_cmp_total, nat_list_cmp_total, lists_total, eq_by_cmp_equiv}
use Rattle.vx_rows_values.specs.Values.{Val, num, text, Row, val_cmp, row_cmp, row_eq}

-- values have a total order
pub val_cmp_total : IsTotalOrder val_cmp
val_cmp_total = record { antisymm = anti; trans = trans; congr = congr }
  where
    anti : (x y : Val) → val_cmp x y ≡ ordering_reverse (val_cmp y x)
    anti (num x) (num y) = int_cmp_total.antisymm x y
    anti (num x) (text y) = refl
    anti (text x) (num y) = refl
    anti (text x) (text y) = nat_list_cmp_total.antisymm x y

    trans : (x y z : Val) → val_cmp x y ≡ Less → val_cmp y z ≡ Less → val_cmp x z ≡ Less
    trans (num x) (num y) (num z) h k = int_cmp_total.trans x y z h k
    trans (num x) (num y) (text z) h k = refl
    trans (num x) (text y) (num z) h k = absurd (true≢false (sym (ap is_lt k)))
    trans (num x) (text y) (text z) h k = refl
    trans (text x) (num y) (num z) h k = absurd (true≢false (sym (ap is_lt h)))
    trans (text x) (num y) (text z) h k = absurd (true≢false (sym (ap is_lt h)))
    trans (text x) (text y) (num z) h k = absurd (true≢false (sym (ap is_lt k)))
    trans (text x) (text y) (text z) h k = nat_list_cmp_total.trans x y z h k

    congr : (x y z : Val) → val_cmp x y ≡ Equal → val_cmp x z ≡ val_cmp y z
    congr (num x) (num y) (num z) h = int_cmp_total.congr x y z h
    congr (num x) (num y) (text z) h = refl
    congr (num x) (text y) z h = absurd (true≢false (sym (ap is_eq h)))
    congr (text x) (num y) z h = absurd (true≢false (sym (ap is_eq h)))
    congr (text x) (text y) (num z) h = refl
    congr (text x) (text y) (text z) h = nat_list_cmp_total.congr x y z h

-- so have rows
pub row_cmp_total : IsTotalOrder row_cmp
row_cmp_total = lists_total val_cmp_total

-- values that compare as equal are one
pub val_cmp-same : IsAntisymmetric val_cmp
val_cmp-same (num x) (num y) h = ap num (int_cmp-IsAntisymmetric x y h)
val_cmp-same (num x) (text y) h = absurd (true≢false (sym (ap is_eq h)))
val_cmp-same (text x) (num y) h = absurd (true≢false (sym (ap is_eq h)))
val_cmp-same (text x) (text y) h = ap text (slice_cmp-IsAntisymmetric nat_cmp-IsAntisymmetric x y h)

-- what the test of equality says of an ordering
pub is_eq-Equal : (o : Ordering) → is_eq o ≡ true → o ≡ Equal
is_eq-Equal Less h = absurd (true≢false (sym h))
is_eq-Equal Equal h = refl
is_eq-Equal Greater h = absurd (true≢false (sym h))

-- rows that compare as equal are equal
pub row_eq-same : (a b : Row) → row_eq a b ≡ true → a ≡ b
row_eq-same a b h = slice_cmp-IsAntisymmetric val_cmp-same a b (is_eq-Equal _ h)

-- equality of rows is an equivalence
pub row_eq-laws : IsEquivalence row_eq
row_eq-laws = eq_by_cmp_equiv row_cmp_total
