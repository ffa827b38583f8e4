-- Columns that stand for those of an input are columns of the output.
use Rattle.std.proofs.Common.{Vec, Global, ◌≡◌, ◌∙◌, ℕ, ◌<◌, nat_lt, Bool, true, false, cond, List, [], ◌∷◌, ◌++◌, map, Option, IfSome, refl, ap, sym, subst, ltb-true}
use Rattle.std.specs.List.{list_all, filter}
use Rattle.std.proofs.lemmas.List.{map-append}
use Rattle.std.proofs.lemmas.List.Folds.{list_all-append}
use Rattle.vx_rows_values.proofs.Booleans.{and-left, and-right, and-both}
use Rattle.vx_catalog_relations.specs.Relation.{Relation}
use Rattle.vx_catalog_relations.specs.Catalog.{all_below}
use Rattle.vx_plan_nodes.specs.Describe.{Copying, described}
use Rattle.vx_plan_nodes.specs.Phases.{first_columns}
use Rattle.vx_plan_nodes.specs.Plan.{Claim, Unary, Plan, unary}
use Rattle.vx_plan_nodes.specs.Types.{width}
use Rattle.vx_plan_facts.specs.Equal.{Equality}
use Rattle.vx_plan_facts.specs.FactsView.{facts_of}
use Rattle.vx_plan_facts.specs.KnownView.{IsKnownOf}
use Rattle.vx_plan_facts.specs.declared.known.KnownColumns as rust_known
use Rattle.vx_plan_facts.proofs.Searching.{known-left}
use Rattle.vx_check_rules.specs.Derived.{first_of, copy_of}
use Rattle.vx_check_rules.specs.KnownNode.{AreCopiesOf}
use Rattle.vx_check_rules.proofs.KeySteps.{known-in}
use Rattle.vx_check_shown.proofs.NamedKeys.{columns-below, is-below}

first-filtered : (w : ℕ) (test : ℕ → Bool) (xs : List ℕ) → all_below w xs ≡ true → IfSome (first_of (filter test xs)) (λ d. d < w)
first-filtered w test [] h = tt
first-filtered w test (x ∷ xs) h = go (test x) (first-filtered w test xs (and-right (nat_lt x w) (all_below w xs) h))
  where
    go : (b : Bool) → IfSome (first_of (filter test xs)) (λ d. d < w) → IfSome (first_of (cond b (x ∷ filter test xs) (filter test xs))) (λ d. d < w)
    go true rest = ltb-true x w (and-left (nat_lt x w) (all_below w xs) h)
    go false rest = rest

pub copy-below : (w : ℕ) (k : Copying) (e : Equality) (c : ℕ) (o : Option ℕ) → o ≡ copy_of w k e c → IfSome o (λ d. d < w)
copy-below w k e c o is = subst (λ p. IfSome p (λ d. d < w)) (sym is) (first-filtered w _ (first_columns w) (columns-below w))

-- one column, and one list more
pub column-more : (w : ℕ) (cols : List ℕ) (c : ℕ) → all_below w cols ≡ true → c < w → all_below w (cols ++ c ∷ []) ≡ true
column-more w cols c h l =
    list_all-append (λ d. nat_lt d w) cols (c ∷ []) ∙ and-both (all_below w cols) (all_below w (c ∷ [])) h (and-both (nat_lt c w) true (is-below c w l) refl)

pub list-more : (w : ℕ) (found : List (Vec ℕ Global)) (columns : Vec ℕ Global) → all_below w columns.items ≡ true → list_all (all_below w) (map (λ (k : Vec ℕ Global). k.items) found) ≡ true
    → list_all (all_below w) (map (λ (k : Vec ℕ Global). k.items) (found ++ columns ∷ [])) ≡ true
list-more w found columns h old =
    ap (list_all (all_below w)) (map-append (λ (k : Vec ℕ Global). k.items) found (columns ∷ []))
    ∙ list_all-append (all_below w) (map (λ (k : Vec ℕ Global). k.items) found) (columns.items ∷ [])
    ∙ and-both (list_all (all_below w) (map (λ (k : Vec ℕ Global). k.items) found)) (list_all (all_below w) (columns.items ∷ [])) old (and-both (all_below w columns.items) true h refl)

-- a node over one input copies its columns
pub copies-over : (catalog : ℕ → Relation) (k : rust_known.KnownColumns) (x : Plan) (n : ℕ) (c : Claim) (op : Unary) (p : Plan) (w : ℕ) → x ≡ unary n c op p → IsKnownOf catalog k x → w ≡ width catalog x
    → AreCopiesOf catalog k p w (described op).copying
copies-over catalog k x n c op p w is h wide =
    let top : Plan = unary n c op p in
    let P : Plan → Type 0 = λ y. IsKnownOf catalog k y in
    let known : IsKnownOf catalog k top = subst P is h in
    let same : width catalog top ≡ w = sym (wide ∙ ap (width catalog) is) in
    subst (λ v. AreCopiesOf catalog k p v (described op).copying) same
    (record { known = known-in catalog k x n c op p is h; reaches = (known-left catalog (map facts_of k.facts.items) top known.known).reaches })
