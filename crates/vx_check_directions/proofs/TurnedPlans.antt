-- Plans that are turned, with their names: they stay typed, their nodes keep their columns, and a list of directions by the numbers of nodes turns them.
use Rattle.std.proofs.Common.{◌≡◌, ◌∙◌, ℕ, zero, suc, ◌+◌, ◌==◌, Bool, true, ◌&&◌, List, [], ◌∷◌, ◌++◌, map, length, drop, refl, sym, ap, ap₂, subst, eqb-true, eq-eqb, arith, length-append}
use Rattle.std.specs.Prelude.{slice_index_or}
use Rattle.std.specs.List.{list_all}
use Rattle.std.proofs.lemmas.List.{append_assoc, append-nil}
use Rattle.vx_rows_values.specs.declared.value.ColType.{ColType}
use Rattle.vx_rows_values.specs.Lists.{is_some_list}
use Rattle.vx_rows_values.specs.Order.{order_columns}
use Rattle.vx_rows_values.proofs.Booleans.{and-left, and-right, and-both}
use Rattle.vx_catalog_relations.specs.Relation.{Relation}
use Rattle.vx_catalog_relations.specs.Catalog.{relation_at}
use Rattle.vx_plan_nodes.specs.Plan.{by_hashing, by_merging, Binary, union, join, semi_join, Plan, scan, unary, binary, exchange}
use Rattle.vx_plan_nodes.specs.Types.{types_of, unary_types, binary_types}
use Rattle.vx_plan_nodes.specs.Numbering.{nodes, is_numbered}
use Rattle.vx_plan_nodes.specs.Phases.{phase_fits, both_closed}
use Rattle.vx_plan_nodes.specs.Typed.{Scope, is_pair, are_distinct_pairs, are_columns, is_unary, is_binary, is_kind, may_merge, is_output, typed, IsTyped}
use Rattle.vx_plan_nodes.specs.Outline.{Outline, Columns, plan_in}
use Rattle.vx_plan_nodes.specs.Outline as outline
use Rattle.vx_plan_nodes.specs.Outputs.{IsOutputOf, HasOutputs}
use Rattle.vx_check_directions.specs.Turned.{pairs_of, in_falls, Choice, IsFull, turned, turned_outline, falls_at, chosen, placed}
use Rattle.vx_check_directions.specs.Directed.{determined_by, asks, falls_of}
use Rattle.vx_check_directions.proofs.Alike.{alike, types-alike, fits-alike, closed-alike, nodes-alike, numbered-alike, open-alike}
use Rattle.vx_check_directions.proofs.AskedFalls.{asks-length, agreed-length}

-- ---- typed plans

operator-typed : (ts us : List ColType) (falls : List Bool) (op : Binary) → length falls ≡ length (pairs_of op) → is_binary ts us op ≡ true → is_binary ts us (in_falls falls op) ≡ true
operator-typed ts us falls union l h = h
operator-typed ts us falls (join by_hashing on) l h = h
operator-typed ts us falls (join (by_merging old) on) l h =
    let pairs : Bool = list_all (is_pair ts us) on in
    let apart : Bool = are_distinct_pairs on in
    let one = and-right (is_some_list on) (pairs && (apart && (length old == length on))) h in
    let two = and-right pairs (apart && (length old == length on)) one in
    and-both (is_some_list on) (pairs && (apart && (length falls == length on))) (and-left (is_some_list on) (pairs && (apart && (length old == length on))) h)
    (and-both pairs (apart && (length falls == length on)) (and-left pairs (apart && (length old == length on)) one)
    (and-both apart (length falls == length on) (and-left apart (length old == length on) two) (eq-eqb (length falls) (length on) l)))
operator-typed ts us falls (semi_join matched on conditions) l h = h

pub typed-turned : (s : Scope) (h : Choice) → IsFull h → (p : Plan) → typed s p ≡ true → typed s (turned h p) ≡ true
typed-turned s h full (scan n c r m z) t = t
typed-turned s h full (unary n c op p) t =
    let C : ℕ → Relation = relation_at s.catalog in
    let R : Bool → List ColType → Bool = λ fits ts. fits && (is_unary ts op && is_output s (unary_types op ts) c) in
    and-both (typed s (turned h p)) (R (phase_fits op (turned h p)) (types_of C (turned h p))) (typed-turned s h full p (and-left (typed s p) (R (phase_fits op p) (types_of C p)) t))
    (ap₂ R (fits-alike h op p) (types-alike C h p) ∙ and-right (typed s p) (R (phase_fits op p) (types_of C p)) t)
typed-turned s h full (binary n c op p q) t =
    let C : ℕ → Relation = relation_at s.catalog in
    let ts : List ColType = types_of C p in
    let us : List ColType = types_of C q in
    let falls : List Bool = h (pairs_of op) p q in
    let old : Binary = op in
    let new : Binary = in_falls falls op in
    let R : Binary → Bool = λ o. is_binary ts us o && is_output s (binary_types o ts us) c in
    let one = and-right (typed s p) (typed s q && (both_closed p q && R old)) t in
    let two = and-right (typed s q) (both_closed p q && R old) one in
    let three = and-right (both_closed p q) (R old) two in
    let output : is_output s (binary_types new ts us) c ≡ is_output s (binary_types old ts us) c =
    alike (λ o. is_output s (binary_types o ts us) c) (λ old new on. refl) falls op in
    let here : R new ≡ true =
    and-both (is_binary ts us new) (is_output s (binary_types new ts us) c) (operator-typed ts us falls op (full (pairs_of op) p q) (and-left (is_binary ts us old) (is_output s (binary_types old ts us) c) three))
    (output ∙ and-right (is_binary ts us old) (is_output s (binary_types old ts us) c) three) in
    let over : (is_binary (types_of C (turned h p)) (types_of C (turned h q)) new && is_output s (binary_types new (types_of C (turned h p)) (types_of C (turned h q))) c) ≡ R new =
    ap₂ (λ vs ws. is_binary vs ws new && is_output s (binary_types new vs ws) c) (types-alike C h p) (types-alike C h q) in
    and-both (typed s (turned h p)) _ (typed-turned s h full p (and-left (typed s p) (typed s q && (both_closed p q && R old)) t))
    (and-both (typed s (turned h q)) _ (typed-turned s h full q (and-left (typed s q) (both_closed p q && R old) one))
    (and-both (both_closed (turned h p) (turned h q)) _ (closed-alike h p q ∙ and-left (both_closed p q) (R old) two) (over ∙ here)))
typed-turned s h full (exchange n c k m p) t =
    let C : ℕ → Relation = relation_at s.catalog in
    let R : List ColType → Bool = λ ts. is_kind s ts k && (are_columns (length ts) (order_columns m) && (may_merge k m && is_output s ts c)) in
    and-both (typed s (turned h p)) (R (types_of C (turned h p))) (typed-turned s h full p (and-left (typed s p) (R (types_of C p)) t))
    (ap R (types-alike C h p) ∙ and-right (typed s p) (R (types_of C p)) t)

-- ---- the directions that claims ask for

pub length-map : {X Y : Type 0} (f : X → Y) (xs : List X) → length (map f xs) ≡ length xs
length-map f [] = refl
length-map f (x ∷ xs) = ap suc (length-map f xs)

-- one for each pair
pub falls-full : (derives : Bool) (catalog : ℕ → Relation) → IsFull (falls_of derives catalog)
falls-full derives catalog on p q =
    let left : length (asks derives catalog p (map (λ x. x.0) on)) ≡ length (map (λ (x : ℕ × ℕ). x.0) on) = asks-length (determined_by derives catalog p) [] _ (map (λ (x : ℕ × ℕ). x.0) on) in
    let right : length (asks derives catalog q (map (λ x. x.1) on)) ≡ length (map (λ (x : ℕ × ℕ). x.1) on) = asks-length (determined_by derives catalog q) [] _ (map (λ (x : ℕ × ℕ). x.1) on) in
    let firsts = length-map (λ (x : ℕ × ℕ). x.0) on in
    let seconds = length-map (λ (x : ℕ × ℕ). x.1) on in
    agreed-length (asks derives catalog p (map (λ x. x.0) on)) (asks derives catalog q (map (λ x. x.1) on)) (left ∙ (firsts ∙ (sym seconds ∙ sym right))) ∙ (left ∙ firsts)

-- a turned plan is typed where the plan is
pub is-typed : (s : Scope) (h : Choice) → IsFull h → (p : Plan) → IsTyped s p → IsTyped s (turned h p)
is-typed s h full p t = record {
  ranges = t.ranges;
  sizes = t.sizes;
  nodes = typed-turned s h full p t.nodes;
  numbered = numbered-alike h 0 p ∙ t.numbered;
  closed = open-alike h p ∙ t.closed;
}

-- ---- with names

pub plan-turned : (h : Choice) (o : Outline) → plan_in (turned_outline h o) ≡ turned h (plan_in o)
plan-turned h (outline.scan t r m z prefix) = refl
plan-turned h (outline.unary t op flags o) = ap (unary t.number t.claim op) (plan-turned h o)
plan-turned h (outline.binary t op o u) = ap₂ (binary t.number t.claim (in_falls (h (pairs_of op) (plan_in o) (plan_in u)) op)) (plan-turned h o) (plan-turned h u)
plan-turned h (outline.exchange t k m o) = ap (exchange t.number t.claim k m) (plan-turned h o)

-- the types of the output are the same
types-turned : (catalog : ℕ → Relation) (h : Choice) (o : Outline) → types_of catalog (plan_in (turned_outline h o)) ≡ types_of catalog (plan_in o)
types-turned catalog h o = ap (types_of catalog) (plan-turned h o) ∙ types-alike catalog h (plan_in o)

-- so are the columns
output-turned : (catalog : ℕ → Relation) (h : Choice) (o : Outline) (cols : Columns) → IsOutputOf (types_of catalog (plan_in o)) cols → IsOutputOf (types_of catalog (plan_in (turned_outline h o))) cols
output-turned catalog h o cols is = let P : List ColType → Type 0 = λ ts. IsOutputOf ts cols in subst P (sym (types-turned catalog h o)) is

pub outputs-turned : (catalog : ℕ → Relation) (h : Choice) (o : Outline) → HasOutputs catalog o → HasOutputs catalog (turned_outline h o)
outputs-turned catalog h (outline.scan t r m z prefix) is = is
outputs-turned catalog h (outline.unary t op flags o) is = (output-turned catalog h (outline.unary t op flags o) t.columns is.0, outputs-turned catalog h o is.1)
outputs-turned catalog h (outline.binary t op o u) is =
    (output-turned catalog h (outline.binary t op o u) t.columns is.0, outputs-turned catalog h o is.1, outputs-turned catalog h u is.2)
outputs-turned catalog h (outline.exchange t k m o) is = (output-turned catalog h (outline.exchange t k m o) t.columns is.0, outputs-turned catalog h o is.1)

-- ---- by the numbers of nodes

abbrev at : List (List Bool) → ℕ → List Bool
at falls n = slice_index_or falls n []

-- the first of what is left from a place on
at-place : (falls rest : List (List Bool)) (i : ℕ) (f : List Bool) → drop i falls ≡ f ∷ rest → at falls i ≡ f
at-place [] rest zero f h = cc
at-place [] rest (suc i) f h = cc
at-place (x ∷ xs) rest zero f h = cc
at-place (x ∷ xs) rest (suc i) f h = at-place xs rest i f h

behind-place : (falls rest : List (List Bool)) (i : ℕ) (f : List Bool) → drop i falls ≡ f ∷ rest → drop (suc i) falls ≡ rest
behind-place [] rest zero f h = cc
behind-place [] rest (suc i) f h = cc
behind-place (x ∷ xs) rest zero f h = cc
behind-place (x ∷ xs) rest (suc i) f h = behind-place xs rest i f h

behind-all : (falls front rest : List (List Bool)) (i : ℕ) → drop i falls ≡ front ++ rest → drop (i + length front) falls ≡ rest
behind-all falls [] rest i h = let z : i + 0 ≡ i = omega arith in ap (λ j. drop j falls) z ∙ h
behind-all falls (f ∷ front) rest i h =
    let z : i + suc (length front) ≡ suc i + length front = omega arith in
    ap (λ j. drop j falls) z ∙ behind-all falls front rest (suc i) (behind-place falls (front ++ rest) i f h)

chosen-length : (h : Choice) (p : Plan) → length (chosen h p) ≡ nodes p
chosen-length h (scan n c r m z) = refl
chosen-length h (unary n c op p) = ap suc (chosen-length h p)
chosen-length h (binary n c op p q) = ap suc (length-append (chosen h p) (chosen h q) ∙ ap₂ (λ a b. a + b) (chosen-length h p) (chosen-length h q))
chosen-length h (exchange n c k m p) = ap suc (chosen-length h p)

chosen-here : (h : Choice) (op : Binary) (p q : Plan) → in_falls (falls_at h op p q) op ≡ in_falls (h (pairs_of op) p q) op
chosen-here h union p q = refl
chosen-here h (join by_hashing on) p q = refl
chosen-here h (join (by_merging old) on) p q = refl
chosen-here h (semi_join matched on conditions) p q = refl

pub placed-turned : (h : Choice) (falls rest : List (List Bool)) (i : ℕ) (o : Outline) → is_numbered i (plan_in o) ≡ true → drop i falls ≡ chosen h (plan_in o) ++ rest
    → placed (at falls) o ≡ turned_outline h o
placed-turned h falls rest i (outline.scan t r m z prefix) n d = refl
placed-turned h falls rest i (outline.unary t op flags o) n d =
    ap (outline.unary t op flags)
    (placed-turned h falls rest (suc i) o (and-right (t.number == i) (is_numbered (suc i) (plan_in o)) n) (behind-place falls (chosen h (plan_in o) ++ rest) i [] d))
placed-turned h falls rest i (outline.binary t op o u) n d =
    let p : Plan = plan_in o in
    let q : Plan = plan_in u in
    let number : t.number ≡ i = eqb-true t.number i (and-left (t.number == i) (is_numbered (suc i) p && is_numbered (suc i + nodes p) q) n) in
    let both = and-right (t.number == i) (is_numbered (suc i) p && is_numbered (suc i + nodes p) q) n in
    let all : drop i falls ≡ falls_at h op p q ∷ (chosen h p ++ (chosen h q ++ rest)) = d ∙ ap (λ xs. falls_at h op p q ∷ xs) (append_assoc (chosen h p) (chosen h q) rest) in
    let here : at falls t.number ≡ falls_at h op p q = ap (at falls) number ∙ at-place falls (chosen h p ++ (chosen h q ++ rest)) i (falls_at h op p q) all in
    let below = behind-place falls (chosen h p ++ (chosen h q ++ rest)) i (falls_at h op p q) all in
    let last : drop (suc i + nodes p) falls ≡ chosen h q ++ rest =
    ap (λ k. drop (suc i + k) falls) (sym (chosen-length h p)) ∙ behind-all falls (chosen h p) (chosen h q ++ rest) (suc i) below in
    ap (λ x. outline.binary t x (placed (at falls) o) (placed (at falls) u)) (ap (λ f. in_falls f op) here ∙ chosen-here h op p q)
    ∙ ap₂ (outline.binary t (in_falls (h (pairs_of op) p q) op))
    (placed-turned h falls (chosen h q ++ rest) (suc i) o (and-left (is_numbered (suc i) p) (is_numbered (suc i + nodes p) q) both) below)
    (placed-turned h falls rest (suc i + nodes p) u (and-right (is_numbered (suc i) p) (is_numbered (suc i + nodes p) q) both) last)
placed-turned h falls rest i (outline.exchange t k m o) n d =
    ap (outline.exchange t k m)
    (placed-turned h falls rest (suc i) o (and-right (t.number == i) (is_numbered (suc i) (plan_in o)) n) (behind-place falls (chosen h (plan_in o) ++ rest) i [] d))

-- a list of what is chosen at each node turns the whole plan
pub placed-listed : (h : Choice) (falls : List (List Bool)) (o : Outline) → is_numbered 0 (plan_in o) ≡ true → falls ≡ chosen h (plan_in o) → placed (λ n. slice_index_or falls n []) o ≡ turned_outline h o
placed-listed h falls o n d = placed-turned h falls [] 0 o n (d ∙ sym (append-nil (chosen h (plan_in o))))

-- the nodes of a turned plan are as many
pub nodes-turned : (h : Choice) (o : Outline) → nodes (plan_in (turned_outline h o)) ≡ nodes (plan_in o)
nodes-turned h o = ap nodes (plan-turned h o) ∙ nodes-alike h (plan_in o)

-- so does one whose root is that of the whole plan
pub root-turned : (h : Choice) (falls : List (List Bool)) (whole o new : Outline) → o ≡ whole → is_numbered 0 (plan_in whole) ≡ true → falls ≡ chosen h (plan_in whole)
    → new ≡ placed (λ n. slice_index_or falls n []) o → new ≡ turned_outline h whole
root-turned h falls whole o new same n d is = is ∙ (ap (placed (λ n. slice_index_or falls n [])) same ∙ placed-listed h falls whole n d)
