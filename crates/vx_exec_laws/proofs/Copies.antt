-- Columns that an operator copies.
use Rattle.std.proofs.Common.{◌≡◌, ℕ, zero, suc, Bool, true, List, [], ◌∷◌, ◌++◌, refl, sym, ap, ◌∙◌, true≢false, Option, Some, None, slice_get, append-nil}
use Rattle.vx_rows_values.specs.Values.{Row, value_at, pick}
use Rattle.vx_check_rules.specs.Rules.{cons_both, copied, if_some}

-- the columns are copied, and the test holds of where they come from
pub if_some-is : (o : Option (List ℕ)) (test : List ℕ → Bool) → if_some o test ≡ true → (ds : List ℕ) × (o ≡ Some ds) × (test ds ≡ true)
if_some-is None test h = absurd (true≢false (sym h))
if_some-is (Some ds) test h = (ds, refl, h)

pub copied-at : (kept : List ℕ) (c d : ℕ) (row tail : Row) → slice_get kept c ≡ Some d → value_at (pick kept row ++ tail) c ≡ value_at row d
copied-at [] c d row tail h = cc
copied-at (k ∷ kept) zero d row tail h = let e : k ≡ d = cc in ap (λ x. value_at row x) e
copied-at (k ∷ kept) (suc c) d row tail h = copied-at kept c d row tail h

pub copied-cons : (kept : List ℕ) (c : ℕ) (cs ds : List ℕ) → copied kept (c ∷ cs) ≡ Some ds
    → (e : ℕ) × (es : List ℕ) × (ds ≡ e ∷ es) × (slice_get kept c ≡ Some e) × (copied kept cs ≡ Some es)
copied-cons kept c cs ds h = go (slice_get kept c) (copied kept cs) refl refl h
  where
    go : (o : Option ℕ) (os : Option (List ℕ)) → slice_get kept c ≡ o → copied kept cs ≡ os → cons_both o os ≡ Some ds
        → (e : ℕ) × (es : List ℕ) × (ds ≡ e ∷ es) × (slice_get kept c ≡ Some e) × (copied kept cs ≡ Some es)
    go (Some e) (Some es) a b h = (e, es, cc, a, b)
    go (Some e) None a b h = cc
    go None os a b h = cc

-- a row that begins with copies of columns has their values there
pub copied-pick : (kept cs ds : List ℕ) (row tail : Row) → copied kept cs ≡ Some ds → pick cs (pick kept row ++ tail) ≡ pick ds row
copied-pick kept [] ds row tail h = let e : [] ≡ ds = cc in ap (λ x. pick x row) e
copied-pick kept (c ∷ cs) ds row tail h =
    let w = copied-cons kept c cs ds h in
    let first : value_at (pick kept row ++ tail) c ≡ value_at row w.0 = copied-at kept c w.0 row tail w.3 in
    let rest : pick cs (pick kept row ++ tail) ≡ pick w.1 row = copied-pick kept cs w.1 row tail w.4 in
    let e : pick (w.0 ∷ w.1) row ≡ pick ds row = ap (λ x. pick x row) (sym w.2) in
    cc

pub copied-alone : (kept cs ds : List ℕ) (row : Row) → copied kept cs ≡ Some ds → pick cs (pick kept row) ≡ pick ds row
copied-alone kept cs ds row h = ap (λ x. pick cs x) (sym (append-nil (pick kept row))) ∙ copied-pick kept cs ds row [] h
