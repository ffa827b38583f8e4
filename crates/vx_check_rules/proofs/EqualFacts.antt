-- Lists of columns that are equal one by one, and pairs of equal columns.
use Rattle.std.proofs.Common.{◌≡◌, ◌∙◌, ℕ, suc, ◌+◌, ◌<◌, nat_lt, Bool, true, false, ◌&&◌, ◌||◌, slice_get, List, [], ◌∷◌, length, drop, drop-cons, add-one, slice_index, refl, ap}
use Rattle.std.specs.List.{list_any}
use Rattle.std.proofs.Math.Bool.{and-false}
use Rattle.vx_plan_nodes.specs.Describe.{Copying}
use Rattle.vx_plan_facts.specs.declared.facts.ColumnFacts.{ColumnFacts}
use Rattle.vx_plan_facts.specs.FactsView.{facts_of, width_of}
use Rattle.vx_plan_facts.specs.Equal.{Equality}
use Rattle.vx_plan_facts.specs.Determined.{column_in}
use Rattle.vx_plan_facts.specs.Following.{equal_lists}
use Rattle.vx_check_rules.specs.Derived.{has_pair_equally, all_pairs_equally, stands_for, stand_for}
use Rattle.vx_check_rules.specs.DerivedView.{equality_of}
use Rattle.vx_check_rules.proofs.CopyFacts.{eq_swap}
use Rattle.vx_check_rules.proofs.Exact.{slice-at}

-- two columns are equal either way
and-swap : (a b x y : Bool) → x ≡ y → (a && (b && x)) ≡ (b && (a && y))
and-swap true b x y e = ap (λ z. b && z) e
and-swap false true x y e = refl
and-swap false false x y e = refl

pub equal-swap : (k : ColumnFacts) (a b : ℕ) → equality_of k a b ≡ equality_of k b a
equal-swap k a b =
    and-swap (nat_lt a (width_of k)) (nat_lt b (width_of k)) _ _ (eq_swap (slice_index (facts_of k).firsts a) (slice_index (facts_of k).firsts b))

-- the column at this place, and those behind it
pub any-at : (f : ℕ → Bool) (xs : List ℕ) (i : ℕ) → i < length xs → list_any f (drop i xs) ≡ (column_in f (slice_get xs i) || list_any f (drop (i + 1) xs))
any-at f xs i h = rw (drop-cons xs i 0 h, add-one, slice-at xs i h) refl

-- it passes the test, or it does not
pub any-passes : (f : ℕ → Bool) (xs : List ℕ) (i : ℕ) → i < length xs → column_in f (slice_get xs i) ≡ true → list_any f (drop i xs) ≡ true
any-passes f xs i h t = any-at f xs i h ∙ ap (λ b. b || list_any f (drop (i + 1) xs)) t

pub any-fails : (f : ℕ → Bool) (xs : List ℕ) (i : ℕ) → i < length xs → column_in f (slice_get xs i) ≡ false → list_any f (drop i xs) ≡ list_any f (drop (i + 1) xs)
any-fails f xs i h t = any-at f xs i h ∙ ap (λ b. b || list_any f (drop (i + 1) xs)) t

-- lists of unequal lengths are not equal
pub lists-length : (e : Equality) (cs ds : List ℕ) → (length cs ≡ length ds → ⊥) → equal_lists e cs ds ≡ false
lists-length e [] [] other = absurd (other refl)
lists-length e [] (d ∷ ds) other = refl
lists-length e (c ∷ cs) [] other = refl
lists-length e (c ∷ cs) (d ∷ ds) other = rw (lists-length e cs ds (λ l. other (ap suc l))) (and-false (e c d))

-- nor are they paired
pub pairs-length : (e f : Equality) (on : List (ℕ × ℕ)) (ls rs : List ℕ) → (length ls ≡ length rs → ⊥) → all_pairs_equally e f on ls rs ≡ false
pairs-length e f on [] [] other = absurd (other refl)
pairs-length e f on [] (b ∷ bs) other = refl
pairs-length e f on (a ∷ as') [] other = refl
pairs-length e f on (a ∷ as') (b ∷ bs) other = rw (pairs-length e f on as' bs (λ l. other (ap suc l))) (and-false (has_pair_equally e f on a b))

-- nor do they stand for one another
pub stand-length : (w : ℕ) (k : Copying) (e f : Equality) (cs xs : List ℕ) → (length cs ≡ length xs → ⊥) → stand_for w k e f cs xs ≡ false
stand-length w k e f [] [] other = absurd (other refl)
stand-length w k e f [] (x ∷ xs) other = refl
stand-length w k e f (c ∷ cs) [] other = refl
stand-length w k e f (c ∷ cs) (x ∷ xs) other = rw (stand-length w k e f cs xs (λ l. other (ap suc l))) (and-false (stands_for w k e f c x))
