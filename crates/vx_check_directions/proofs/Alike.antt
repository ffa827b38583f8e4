-- What does not look at the directions of joins by merging.
use Rattle.std.proofs.Common.{◌≡◌, ℕ, suc, ◌+◌, Bool, true, false, not, List, [], refl, ap, ap₂, ◌∙◌}
use Rattle.vx_catalog_relations.specs.Relation.{Relation}
use Rattle.vx_plan_nodes.specs.Plan.{Aggregate, Unary, by_hashing, by_merging, Binary, union, join, semi_join, Plan, scan, unary, binary, exchange, number, claim, size, group, sort, partial, final, plain, select, project, distinct, limit}
use Rattle.vx_plan_nodes.specs.Types.{types_of, binary_types, width, binary_width}
use Rattle.vx_plan_nodes.specs.Numbering.{nodes, is_numbered}
use Rattle.vx_plan_nodes.specs.Phases.{is_open, opens, phase_fits, both_closed}
use Rattle.vx_plan_facts.specs.Equal.{binary_equal, equal_at}
use Rattle.vx_plan_facts.specs.Fixed.{binary_fixed, fixed_at}
use Rattle.vx_plan_facts.specs.Determined.{Columns, by_both, by_inputs, closure, determined, determined_aside}
use Rattle.vx_check_directions.specs.Turned.{pairs_of, in_falls, Choice, turned}

-- ---- operators

-- what a function of operators that does not look at directions says
pub alike : {X : Type 0} (f : Binary → X) → ((old new : List Bool) (on : List (ℕ × ℕ)) → f (join (by_merging new) on) ≡ f (join (by_merging old) on)) → (falls : List Bool) (op : Binary) → f (in_falls falls op) ≡ f op
alike f h falls union = refl
alike f h falls (join by_hashing on) = refl
alike f h falls (join (by_merging old) on) = h old falls on
alike f h falls (semi_join matched on conditions) = refl

pub pairs-alike : (falls : List Bool) (op : Binary) → pairs_of (in_falls falls op) ≡ pairs_of op
pairs-alike falls op = alike pairs_of (λ old new on. refl) falls op

pub falls-twice : (f g : List Bool) (op : Binary) → in_falls f (in_falls g op) ≡ in_falls f op
falls-twice f g op = alike (in_falls f) (λ old new on. refl) g op

-- ---- plans

pub number-alike : (h : Choice) (p : Plan) → number (turned h p) ≡ number p
number-alike h (scan n c r m z) = refl
number-alike h (unary n c op p) = refl
number-alike h (binary n c op p q) = refl
number-alike h (exchange n c k m p) = refl

pub claim-alike : (h : Choice) (p : Plan) → claim (turned h p) ≡ claim p
claim-alike h (scan n c r m z) = refl
claim-alike h (unary n c op p) = refl
claim-alike h (binary n c op p q) = refl
claim-alike h (exchange n c k m p) = refl

pub size-alike : (h : Choice) (p : Plan) → size (turned h p) ≡ size p
size-alike h (scan n c r m z) = refl
size-alike h (unary n c op p) = size-alike h p
size-alike h (binary n c op p q) = size-alike h p
size-alike h (exchange n c k m p) = refl

pub nodes-alike : (h : Choice) (p : Plan) → nodes (turned h p) ≡ nodes p
nodes-alike h (scan n c r m z) = refl
nodes-alike h (unary n c op p) = rw (nodes-alike h p) refl
nodes-alike h (binary n c op p q) = rw (nodes-alike h p, nodes-alike h q) refl
nodes-alike h (exchange n c k m p) = rw (nodes-alike h p) refl

pub numbered-alike : (h : Choice) (i : ℕ) (p : Plan) → is_numbered i (turned h p) ≡ is_numbered i p
numbered-alike h i (scan n c r m z) = refl
numbered-alike h i (unary n c op p) = rw (numbered-alike h (suc i) p) refl
numbered-alike h i (binary n c op p q) = rw (numbered-alike h (suc i) p, nodes-alike h p, numbered-alike h (suc i + nodes p) q) refl
numbered-alike h i (exchange n c k m p) = rw (numbered-alike h (suc i) p) refl

pub types-alike : (catalog : ℕ → Relation) (h : Choice) (p : Plan) → types_of catalog (turned h p) ≡ types_of catalog p
types-alike catalog h (scan n c r m z) = refl
types-alike catalog h (unary n c op p) = rw (types-alike catalog h p) refl
types-alike catalog h (binary n c op p q) =
    rw (types-alike catalog h p, types-alike catalog h q) (alike (λ o. binary_types o (types_of catalog p) (types_of catalog q)) (λ old new on. refl) (h (pairs_of op) p q) op)
types-alike catalog h (exchange n c k m p) = types-alike catalog h p

pub width-alike : (catalog : ℕ → Relation) (h : Choice) (p : Plan) → width catalog (turned h p) ≡ width catalog p
width-alike catalog h (scan n c r m z) = refl
width-alike catalog h (unary n c op p) = rw (width-alike catalog h p) refl
width-alike catalog h (binary n c op p q) =
    rw (width-alike catalog h p, width-alike catalog h q) (alike (λ o. binary_width o (width catalog p) (width catalog q)) (λ old new on. refl) (h (pairs_of op) p q) op)
width-alike catalog h (exchange n c k m p) = width-alike catalog h p

pub open-alike : (h : Choice) (p : Plan) → is_open (turned h p) ≡ is_open p
open-alike h (scan n c r m z) = refl
open-alike h (unary n c op p) = rw (open-alike h p) refl
open-alike h (binary n c op p q) = refl
open-alike h (exchange n c k m p) = open-alike h p

pub opens-alike : (h : Choice) (keys : List ℕ) (aggregates : List Aggregate) (p : Plan) → opens keys aggregates (turned h p) ≡ opens keys aggregates p
opens-alike h keys aggregates (scan n c r m z) = refl
opens-alike h keys aggregates (unary n c op p) = rw (opens-alike h keys aggregates p) refl
opens-alike h keys aggregates (binary n c op p q) = refl
opens-alike h keys aggregates (exchange n c k m p) = opens-alike h keys aggregates p

pub fits-alike : (h : Choice) (op : Unary) (p : Plan) → phase_fits op (turned h p) ≡ phase_fits op p
fits-alike h (select fs) p = ap not (open-alike h p)
fits-alike h (project es) p = ap not (open-alike h p)
fits-alike h (distinct cols) p = ap not (open-alike h p)
fits-alike h (sort true order) p = open-alike h p
fits-alike h (sort false order) p = ap not (open-alike h p)
fits-alike h (group plain by aggregates) p = ap not (open-alike h p)
fits-alike h (group partial by aggregates) p = ap not (open-alike h p)
fits-alike h (group final by aggregates) p = opens-alike h by aggregates p
fits-alike h (limit m) p = ap not (open-alike h p)

pub closed-alike : (h : Choice) (p q : Plan) → both_closed (turned h p) (turned h q) ≡ both_closed p q
closed-alike h p q = rw (open-alike h p, open-alike h q) refl

-- ---- facts of columns

pub equal-alike : (catalog : ℕ → Relation) (h : Choice) (p : Plan) → equal_at catalog (turned h p) ≡ equal_at catalog p
equal-alike catalog h (scan n c r m z) = refl
equal-alike catalog h (unary n c op p) = rw (equal-alike catalog h p) refl
equal-alike catalog h (binary n c op p q) =
    rw (width-alike catalog h p, equal-alike catalog h p, equal-alike catalog h q)
    (alike (λ o. binary_equal (width catalog p) o (equal_at catalog p) (equal_at catalog q)) (λ old new on. refl) (h (pairs_of op) p q) op)
equal-alike catalog h (exchange n c k m p) = equal-alike catalog h p

pub fixed-alike : (catalog : ℕ → Relation) (h : Choice) (p : Plan) → fixed_at catalog (turned h p) ≡ fixed_at catalog p
fixed-alike catalog h (scan n c r m z) = refl
fixed-alike catalog h (unary n c op p) = rw (width-alike catalog h p, equal-alike catalog h p, fixed-alike catalog h p) refl
fixed-alike catalog h (binary n c op p q) =
    ap₂ (λ w e. binary_fixed (width catalog (turned h p)) w e (in_falls (h (pairs_of op) p q) op) (fixed_at catalog (turned h p)) (fixed_at catalog (turned h q)))
    (width-alike catalog h (binary n c op p q)) (equal-alike catalog h (binary n c op p q))
    ∙ rw (width-alike catalog h p, fixed-alike catalog h p, fixed-alike catalog h q)
    (alike (λ o. binary_fixed (width catalog p) (width catalog (binary n c op p q)) (equal_at catalog (binary n c op p q)) o (fixed_at catalog p) (fixed_at catalog q)) (λ old new on. refl) (h (pairs_of op) p q) op)
fixed-alike catalog h (exchange n c k m p) = fixed-alike catalog h p

both-alike : (v w : ℕ) (op : Binary) (falls : List Bool) (f g : Columns → Columns) → by_both v w (in_falls falls op) f g ≡ by_both v w op f g
both-alike v w op falls f g = alike (λ o. by_both v w o f g) (λ old new on. refl) falls op

pub determined-alike : (catalog : ℕ → Relation) (h : Choice) (p : Plan) → determined catalog (turned h p) ≡ determined catalog p
determined-alike catalog h (scan n c r m z) = refl
determined-alike catalog h (unary n c op p) =
    rw (fixed-alike catalog h p, equal-alike catalog h p, width-alike catalog h p, determined-alike catalog h p) refl
determined-alike catalog h (binary n c op p q) =
    rw (
      fixed-alike catalog h (binary n c op p q),
      equal-alike catalog h (binary n c op p q),
      width-alike catalog h (binary n c op p q),
      width-alike catalog h p,
      determined-alike catalog h p,
      determined-alike catalog h q,
      both-alike (width catalog p) (width catalog (binary n c op p q)) op (h (pairs_of op) p q) (determined catalog p) (determined catalog q),
    ) refl
determined-alike catalog h (exchange n c k m p) =
    rw (fixed-alike catalog h p, equal-alike catalog h p, width-alike catalog h p, determined-alike catalog h p) refl

pub inputs-alike : (catalog : ℕ → Relation) (h : Choice) (p : Plan) → by_inputs catalog (turned h p) ≡ by_inputs catalog p
inputs-alike catalog h (scan n c r m z) = refl
inputs-alike catalog h (unary n c op p) = rw (width-alike catalog h p, determined-alike catalog h p) refl
inputs-alike catalog h (binary n c op p q) =
    rw (
      width-alike catalog h (binary n c op p q),
      width-alike catalog h p,
      determined-alike catalog h p,
      determined-alike catalog h q,
      both-alike (width catalog p) (width catalog (binary n c op p q)) op (h (pairs_of op) p q) (determined catalog p) (determined catalog q),
    ) refl
inputs-alike catalog h (exchange n c k m p) = rw (width-alike catalog h p, determined-alike catalog h p) refl

pub aside-alike : (catalog : ℕ → Relation) (h : Choice) (p : Plan) → determined_aside catalog (turned h p) ≡ determined_aside catalog p
aside-alike catalog h p =
    ap (λ i. closure (width catalog (turned h p)) (equal_at catalog (turned h p)) (fixed_at catalog (turned h p)) [] i) (inputs-alike catalog h p)
    ∙ (ap (λ f. closure (width catalog (turned h p)) (equal_at catalog (turned h p)) f [] (by_inputs catalog p)) (fixed-alike catalog h p)
    ∙ ap₂ (λ w e. closure w e (fixed_at catalog p) [] (by_inputs catalog p)) (width-alike catalog h p) (equal-alike catalog h p))
