-- What is found is a cause below, and of every failure something is found.
use Rattle.std.proofs.Common.{◌≡◌, ◌∙◌, ℕ, suc, ◌==◌, Bool, true, false, cond, ◌||◌, List, [], ◌∷◌, ◌++◌, map, length, Option, Some, None, ap, refl, sym, subst, eq-eqb}
use Rattle.std.proofs.lemmas.List.{length-map}
use Rattle.vx_plan_nodes.specs.Plan.{Plan}
use Rattle.vx_plan_nodes.specs.Numbering.{is_numbered}
use Rattle.vx_plan_nodes.specs.Outline.{Outline, top, plan_in}
use Rattle.vx_plan_nodes.specs.Names.{TypedPlanView}
use Rattle.vx_check_rules.specs.Rules.{contains}
use Rattle.vx_check_rules.proofs.Bools.{or-left, or-right}
use Rattle.vx_check_rules.specs.Refusal.{Rule}
use Rattle.vx_check_failures.specs.Lines.{node_numbered}
use Rattle.vx_check_failures.specs.Grouped.{no_causes}
use Rattle.vx_check_failures.specs.declared.failure.Failure.{Failure}
use Rattle.vx_check_failures.specs.FailureView.{failure_is}
use Rattle.vx_check_causes.specs.Below.{is_below, is_in_inputs, is_in_found}
use Rattle.vx_check_causes.proofs.BelowFacts.{below-found}
use Rattle.vx_check_causes.specs.Causes.{goes_away, first_below, cause_at, cause_of, with_cause, causes_from, NamesCauses}

-- what is found first is one of the nodes, and lies below
below-first : (ms : List ℕ) (p : Plan) (m : ℕ) → first_below ms p ≡ Some m → (contains ms m ≡ true) × (is_below p m ≡ true)
below-first [] p m h = cc
below-first (n ∷ ms) p m h = by (is_below p n) refl h (below-first ms p m)
  where
    by : (b : Bool) → is_below p n ≡ b → cond b (Some n) (first_below ms p) ≡ Some m → (first_below ms p ≡ Some m → (contains ms m ≡ true) × (is_below p m ≡ true))
        → (((m == n) || contains ms m) ≡ true) × (is_below p m ≡ true)
    by true e k later =
        let is : n ≡ m = cc in
        let P : ℕ → Type 0 = λ x. is_below p x ≡ true in
        (or-left (m == n) (contains ms m) (eq-eqb m n (sym is)), subst P is e)
    by false e k later = let found = later k in (or-right (m == n) (contains ms m) found.0, found.1)

-- a cause is one of those before it, below the node
cause-below : (total : Bool) (r : Rule) (ms : List ℕ) (root : Outline) (n : ℕ) (o new : Option Outline) (m : ℕ) → is_numbered 0 (plan_in root) ≡ true → node_numbered n root ≡ o
    → cause_at total r ms o new ≡ Some m → (contains ms m ≡ true) × (is_in_found o m ≡ true)
cause-below total r ms root n None new m has is h = cc
cause-below total r ms root n (Some o) None m has is h = cc
cause-below total r ms root n (Some o) (Some x) m has is h = by (goes_away total (top x).claim r (plan_in o)) h
  where
    by : (b : Bool) → cond b (first_below ms (plan_in o)) None ≡ Some m → (contains ms m ≡ true) × (is_in_inputs (plan_in o) m ≡ true)
    by true k = let first = below-first ms (plan_in o) m k in (first.0, below-found root o m n has is first.1)
    by false k = cc

-- the causes of failures are named
pub causes-named : (p a : TypedPlanView) (ms : List ℕ) (fs : List (ℕ × Rule)) → is_numbered 0 (plan_in p.root) ≡ true → NamesCauses p.root ms fs (causes_from p a ms fs)
causes-named p a ms [] has = tt
causes-named p a ms (f ∷ fs) has = by (cause_of p a ms f) refl (λ xs. causes-named p a xs fs has)
  where
    by : (o : Option ℕ) → cause_of p a ms f ≡ o → ((xs : List ℕ) → NamesCauses p.root xs fs (causes_from p a xs fs))
        → NamesCauses p.root ms (f ∷ fs) (o ∷ causes_from p a (with_cause ms f.0 o) fs)
    by None e later = later (ms ++ f.0 ∷ [])
    by (Some m) e later =
        let is = cause-below a.total f.1 ms p.root f.0 (node_numbered f.0 p.root) (node_numbered f.0 a.root) m has refl e in
        (is.0, is.1, later ms)

-- and so where there are none
pub none-named : (root : Outline) (ms : List ℕ) (fs : List (ℕ × Rule)) → NamesCauses root ms fs (no_causes fs)
none-named root ms [] = tt
none-named root ms (f ∷ fs) = none-named root (ms ++ f.0 ∷ []) fs

-- there is one answer for each failure
pub named-length : (root : Outline) (ms : List ℕ) (fs : List (ℕ × Rule)) (causes : List (Option ℕ)) → NamesCauses root ms fs causes → length causes ≡ length fs
named-length root ms [] [] h = refl
named-length root ms [] (cause ∷ causes) h = absurd h
named-length root ms (f ∷ fs) [] h = absurd h
named-length root ms (f ∷ fs) (None ∷ causes) h = ap suc (named-length root (ms ++ f.0 ∷ []) fs causes h)
named-length root ms (f ∷ fs) (Some m ∷ causes) h = ap suc (named-length root ms fs causes h.2)

-- none for each of the failures, as the program holds them
none-each : (fs : List Failure) → map (λ f. None) fs ≡ no_causes (map failure_is fs)
none-each [] = refl
none-each (f ∷ fs) = ap (λ xs. None ∷ xs) (none-each fs)

pub are-none : (fs : List Failure) (causes : List (Option ℕ)) → causes ≡ map (λ f. None) fs → causes ≡ no_causes (map failure_is fs)
are-none fs causes h = h ∙ none-each fs

-- as many as there are failures
pub named-count : (root : Outline) (fs : List Failure) (causes : List (Option ℕ)) → NamesCauses root [] (map failure_is fs) causes → length causes ≡ length fs
named-count root fs causes h = named-length root [] (map failure_is fs) causes h ∙ length-map fs failure_is
