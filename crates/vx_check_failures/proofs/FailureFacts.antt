-- The first failure is what the checker refuses.
use Rattle.std.proofs.Common.{◌≡◌, ◌∙◌, ℕ, ◌++◌, Bool, List, [], ◌∷◌, Option, Some, None, slice_get, append_assoc, refl, sym, ap, ap₂, Result, Ok, Err}
use Rattle.std.specs.Prelude.{OnOk}
use Rattle.vx_catalog_relations.specs.Relation.{Relation}
use Rattle.vx_plan_nodes.specs.Plan.{Claim, Binary, Plan, scan, unary, binary, exchange, number}
use Rattle.vx_check_rules.specs.Refusal.{Rule, or_else, refused_at, first_failing, refusal_of_tests}
use Rattle.vx_check_rules.specs.declared.table.Table.{Table}
use Rattle.vx_check_rules.specs.TableView.{Judges, StaysTable}
use Rattle.vx_check_rules.proofs.TableFacts.{judges-both}
use Rattle.vx_check_failures.specs.Failures.{listed, failures_at, failures_in, failures_below, failures_of_tests}

first_listed : {X : Type 0} (o : Option X) → slice_get (listed o) 0 ≡ o
first_listed None = refl
first_listed (Some x) = refl

-- the first of two lists
first_append : {X : Type 0} (xs ys : List X) → slice_get (xs ++ ys) 0 ≡ or_else (slice_get xs 0) (slice_get ys 0)
first_append [] ys = refl
first_append (x ∷ xs) ys = refl

or_else_assoc : {X : Type 0} (o u v : Option X) → or_else (or_else o u) v ≡ or_else o (or_else u v)
or_else_assoc None u v = refl
or_else_assoc (Some x) u v = refl

-- the first failure of these, and of one more
first_then : {X : Type 0} (xs : List X) (o u : Option X) → slice_get xs 0 ≡ o → slice_get (xs ++ listed u) 0 ≡ or_else o u
first_then xs o u h = first_append xs (listed u) ∙ ap₂ or_else h (first_listed u)

first_both : {X : Type 0} (xs ys : List X) (o u : Option X) → slice_get xs 0 ≡ o → slice_get ys 0 ≡ u → slice_get (xs ++ ys) 0 ≡ or_else o u
first_both xs ys o u h k = first_append xs ys ∙ ap₂ or_else h k

first_in : (tests : Plan → List (Bool × Rule)) (p : Plan) → slice_get (failures_in tests p) 0 ≡ first_failing tests p
first_in tests (scan n c r m z) = first_listed (refused_at n (tests (scan n c r m z)))
first_in tests (unary n c op p) = first_then (failures_in tests p) _ (refused_at n (tests (unary n c op p))) (first_in tests p)
first_in tests (binary n c op p q) =
    let here = refused_at n (tests (binary n c op p q)) in
    first_both (failures_in tests p) (failures_in tests q ++ listed here) _ _ (first_in tests p) (first_then (failures_in tests q) _ here (first_in tests q))
first_in tests (exchange n c k m p) = first_then (failures_in tests p) _ (refused_at n (tests (exchange n c k m p))) (first_in tests p)

pub first_failure_refused : (tests root : Plan → List (Bool × Rule)) (p : Plan) → slice_get (failures_of_tests tests root p) 0 ≡ refusal_of_tests tests root p
first_failure_refused tests root (scan n c r m z) =
    first_listed (or_else (refused_at n (tests (scan n c r m z))) (refused_at n (root (scan n c r m z))))
first_failure_refused tests root (unary n c op p) =
    let here = refused_at n (tests (unary n c op p)) in
    let own = refused_at n (root (unary n c op p)) in
    first_then (failures_in tests p) _ (or_else here own) (first_in tests p) ∙ sym (or_else_assoc (first_failing tests p) here own)
first_failure_refused tests root (binary n c op p q) =
    let here = refused_at n (tests (binary n c op p q)) in
    let own = refused_at n (root (binary n c op p q)) in
    first_then (failures_in tests p ++ failures_in tests q) _ (or_else here own) (first_both (failures_in tests p) (failures_in tests q) _ _ (first_in tests p) (first_in tests q))
    ∙ (sym (or_else_assoc (or_else (first_failing tests p) (first_failing tests q)) here own)
    ∙ ap (λ o. or_else o own) (or_else_assoc (first_failing tests p) (first_failing tests q) here))
first_failure_refused tests root (exchange n c k m p) =
    let here = refused_at n (tests (exchange n c k m p)) in
    let own = refused_at n (root (exchange n c k m p)) in
    first_then (failures_in tests p) _ (or_else here own) (first_in tests p) ∙ sym (or_else_assoc (first_failing tests p) here own)

-- what is so is so where all went well
pub on-ok : {T E : Type 0} (r : Result T E) (P : Type 0) → P → OnOk r P
on-ok (Ok x) P h = h
on-ok (Err f) P h = tt

-- what is put behind others, after what is put behind them first
pub put_then : {T E X : Type 0} (r : Result T E) (new mid old below here : List X) → OnOk r (new ≡ mid ++ here) → mid ≡ old ++ below → OnOk r (new ≡ old ++ (below ++ here))
put_then (Ok x) new mid old below here h e = h ∙ (ap (λ xs. xs ++ here) e ∙ append_assoc old below here)
put_then (Err f) new mid old below here h e = tt

-- the failures of the nodes below, and the node's own
in-below : (tests : Plan → List (Bool × Rule)) (p : Plan) → failures_below tests p ++ failures_at tests p ≡ failures_in tests p
in-below tests (scan n c r m z) = refl
in-below tests (unary n c op p) = refl
in-below tests (binary n c op p q) = append_assoc (failures_in tests p) (failures_in tests q) (failures_at tests (binary n c op p q))
in-below tests (exchange n c k m p) = refl

-- they are put behind others
pub below-own : (tests : Plan → List (Bool × Rule)) (p : Plan) (new old : List (ℕ × Rule)) (own : Option (ℕ × Rule)) → new ≡ old ++ (failures_below tests p ++ listed own) → own ≡ refused_at (number p) (tests p)
    → new ≡ old ++ failures_in tests p
below-own tests p new old own put is = put ∙ ap (λ o. old ++ (failures_below tests p ++ listed o)) is ∙ ap (λ fs. old ++ fs) (in-below tests p)

-- the right input of a node is still judged after the left one was, and what is below it
pub still-beside : (catalog : List Relation) (old first second : Table) (n : ℕ) (c : Claim) (op : Binary) (p q : Plan) → Judges catalog old (binary n c op p q)
    → StaysTable old first p → StaysTable first second p → Judges catalog second q
still-beside catalog old first second n c op p q h below put =
    let both = judges-both catalog old n c op p q h in
    put.judges catalog (below.judges catalog both.0 p both.0) q (below.judges catalog both.0 q both.1)
