-- The plan without exchanges is typed, and numbered in preorder.
use Rattle.vx_plan_nodes.specs.Erased.{erased_top, erased_from}
use Rattle.vx_plan_nodes.specs.Outline.{Outline, plan_in}
use Rattle.vx_rows_values.proofs.Booleans.{and-left, and-right, and-both}
use Rattle.std.proofs.Common.{◌≡◌, ℕ, suc, ◌+◌, ◌==◌, nat_lt, nat_le, Bool, true, ◌&&◌, List, length, refl, sym, ap, ◌∙◌, subst, arith, eq-eqb, zero, ◌<◌, false, not, cond, [], ◌∷◌, ◌++◌, map, ap₂, true≢false, append_assoc, length-append, ◌≤◌}
use Rattle.vx_rows_values.specs.declared.value.ColType.{ColType}
use Rattle.vx_catalog_relations.specs.Relation.{Relation}
use Rattle.vx_catalog_relations.specs.Catalog.{relation_at, all_below}
use Rattle.vx_rows_values.specs.Order.{order_columns}
use Rattle.vx_plan_nodes.specs.Plan.{Claim, Plan, scan, unary, binary, exchange, Aggregate, least, greatest, sum, count_rows, Unary, select, project, distinct, sort, group, limit, plain, partial, final}
use Rattle.vx_plan_nodes.specs.Types.{unary_types, binary_types, types_of, aggregate_type}
use Rattle.vx_plan_nodes.specs.Typed.{Scope, is_claim, is_unary, is_binary, is_size, is_output, typed, IsTyped}
use Rattle.vx_plan_nodes.specs.Numbering.{nodes, is_numbered}
use Rattle.vx_plan_nodes.specs.Erase.{no_claim, nodes_left, erase_from, at_once, erase}
use Rattle.vx_plan_nodes.specs.Outline as outline
use Rattle.vx_rows_values.specs.Types.{type_at}
use Rattle.vx_plan_nodes.specs.Phases.{columns_eq, aggregates_eq, columns_from, first_columns, merging, merged, unary_open, is_final, is_open, opens, phase_fits, both_closed}
use Rattle.vx_plan_nodes.proofs.PhaseEqual.{columns_eq-is, aggregates_eq-is}

-- nothing is open in a plan without exchanges
pub erased-closed : (i : ℕ) (p : Plan) → is_open (erase_from i p) ≡ false
erased-closed i (scan n c r m z) = refl
erased-closed i (unary n c op p) = go (is_final op) (erased-closed i p)
  where
    plain_op : (op : Unary) (below : Bool) → unary_open (at_once op) below ≡ false
    plain_op (select fs) below = refl
    plain_op (project es) below = refl
    plain_op (distinct cols) below = refl
    plain_op (sort of_parts order) below = refl
    plain_op (group phase by aggregates) below = refl
    plain_op (limit m) below = refl

    go : (b : Bool) → is_open (erase_from i p) ≡ false → is_open (cond b (erase_from i p) (unary i no_claim (at_once op) (erase_from (i + 1) p))) ≡ false
    go true h = h
    go false h = plain_op op (is_open (erase_from (i + 1) p))
erased-closed i (binary n c op p q) = refl
erased-closed i (exchange n c k m p) = erased-closed i p

-- the types of a final's columns are those of its partial's

types-from : (i : ℕ) (ks ts : List ColType) → ((c : ℕ) → c < length ks → type_at ts (i + c) ≡ type_at ks c) → map (type_at ts) (columns_from i (length ks)) ≡ ks
types-from i [] ts h = refl
types-from i (k ∷ ks) ts h =
    let z : i + 0 ≡ i = omega arith in
    let a : type_at ts i ≡ k = sym (ap (type_at ts) z) ∙ h 0 (omega arith) in
    let b : map (type_at ts) (columns_from (suc i) (length ks)) ≡ ks = types-from (suc i) ks ts (λ c l. let e : suc i + c ≡ i + suc c = omega arith in ap (type_at ts) e ∙ h (suc c) (omega arith)) in
    ap₂ (λ x y. x ∷ y) a b

type-left : (ks us : List ColType) (c : ℕ) → c < length ks → type_at (ks ++ us) c ≡ type_at ks c
type-left [] us c h = absurd (omega arith)
type-left (k ∷ ks) us zero h = refl
type-left (k ∷ ks) us (suc c) h = type-left ks us c (omega arith)

pub type-right : (ks us : List ColType) (c d : ℕ) → c ≡ length ks + d → type_at (ks ++ us) c ≡ type_at us d
type-right [] us c d h = let e : c ≡ d = omega arith in ap (type_at us) e
type-right (k ∷ ks) us zero d h = absurd (omega arith)
type-right (k ∷ ks) us (suc c) d h = type-right ks us c d (omega arith)

merged-types : (ts us front : List ColType) (i : ℕ) (aggregates : List Aggregate) → us ≡ front ++ map (aggregate_type ts) aggregates → length front ≡ i
    → map (aggregate_type us) (merged i aggregates) ≡ map (aggregate_type ts) aggregates
merged-types ts us front i [] e l = refl
merged-types ts us front i (a ∷ aggregates) e l =
    let v : ColType = aggregate_type ts a in
    let vs : List ColType = map (aggregate_type ts) aggregates in
    let at : type_at us i ≡ v = ap (λ r. type_at r i) e ∙ type-right front (v ∷ vs) i 0 (omega (arith, l)) in
    let split : us ≡ (front ++ v ∷ []) ++ vs = e ∙ sym (append_assoc front (v ∷ []) vs) in
    let more : length (front ++ v ∷ []) ≡ suc i = let k = length-append front (v ∷ []) in omega (arith, k, l) in
    ap₂ (λ x y. x ∷ y) (here a at) (merged-types ts us (front ++ v ∷ []) (suc i) aggregates split more)
  where
    here : (a : Aggregate) → type_at us i ≡ aggregate_type ts a → aggregate_type us (merging i a) ≡ aggregate_type ts a
    here (least c) h = h
    here (greatest c) h = h
    here (sum c) h = refl
    here count_rows h = refl

length-map : {X Y : Type 0} (f : X → Y) (xs : List X) → length (map f xs) ≡ length xs
length-map f [] = refl
length-map f (x ∷ xs) = ap suc (length-map f xs)

final-types-of : (ts : List ColType) (by : List ℕ) (aggregates : List Aggregate)
    → unary_types (group final (first_columns (length by)) (merged (length by) aggregates)) (unary_types (group partial by aggregates) ts) ≡ unary_types (group partial by aggregates) ts
final-types-of ts by aggregates =
    let ks : List ColType = map (type_at ts) by in
    let as' : List ColType = map (aggregate_type ts) aggregates in
    let n : length ks ≡ length by = length-map (type_at ts) by in
    let P : ℕ → Type 0 = λ m. map (type_at (ks ++ as')) (columns_from 0 m) ≡ ks in
    let a : map (type_at (ks ++ as')) (first_columns (length by)) ≡ ks = subst P n (types-from 0 ks (ks ++ as') (λ c l. let e : 0 + c ≡ c = omega arith in ap (type_at (ks ++ as')) e ∙ type-left ks as' c l)) in
    let b : map (aggregate_type (ks ++ as')) (merged (length by) aggregates) ≡ as' = merged-types ts (ks ++ as') ks (length by) aggregates refl n in
    ap₂ (λ x y. x ++ y) a b

pub final-types : (catalog : ℕ → Relation) (keys : List ℕ) (puts : List Aggregate) (p : Plan) → opens keys puts p ≡ true → unary_types (group final keys puts) (types_of catalog p) ≡ types_of catalog p
final-types catalog keys puts (scan n c r m z) e = absurd (true≢false (sym e))
final-types catalog keys puts (unary n c (select fs) p) e = absurd (true≢false (sym e))
final-types catalog keys puts (unary n c (project es) p) e = absurd (true≢false (sym e))
final-types catalog keys puts (unary n c (distinct cols) p) e = absurd (true≢false (sym e))
final-types catalog keys puts (unary n c (sort false order) p) e = absurd (true≢false (sym e))
final-types catalog keys puts (unary n c (sort true order) p) e =
    final-types catalog keys puts p (and-right (all_below (length keys) (order_columns order)) (opens keys puts p) e)
final-types catalog keys puts (unary n c (group plain by aggregates) p) e = absurd (true≢false (sym e))
final-types catalog keys puts (unary n c (group partial by aggregates) p) e =
    let k = columns_eq-is keys (first_columns (length by)) (and-left (columns_eq keys (first_columns (length by))) (aggregates_eq puts (merged (length by) aggregates)) e) in
    let a = aggregates_eq-is puts (merged (length by) aggregates) (and-right (columns_eq keys (first_columns (length by))) (aggregates_eq puts (merged (length by) aggregates)) e) in
    let ts : List ColType = types_of catalog p in
    let us : List ColType = unary_types (group partial by aggregates) ts in
    let K : List ℕ → Type 0 = λ v. unary_types (group final v puts) us ≡ us in
    let A : List Aggregate → Type 0 = λ v. unary_types (group final (first_columns (length by)) v) us ≡ us in
    subst K (sym k) (subst A (sym a) (final-types-of ts by aggregates))
final-types catalog keys puts (unary n c (group final by aggregates) p) e = absurd (true≢false (sym e))
final-types catalog keys puts (unary n c (limit m) p) e = absurd (true≢false (sym e))
final-types catalog keys puts (binary n c op p q) e = absurd (true≢false (sym e))
final-types catalog keys puts (exchange n c k m p) e = final-types catalog keys puts p e

pub once-types : (op : Unary) (ts : List ColType) → unary_types (at_once op) ts ≡ unary_types op ts
once-types (select fs) ts = refl
once-types (project es) ts = refl
once-types (distinct cols) ts = refl
once-types (sort of_parts order) ts = refl
once-types (group phase by aggregates) ts = refl
once-types (limit m) ts = refl

once-unary : (op : Unary) (ts : List ColType) → is_unary ts (at_once op) ≡ is_unary ts op
once-unary (select fs) ts = refl
once-unary (project es) ts = refl
once-unary (distinct cols) ts = refl
once-unary (sort of_parts order) ts = refl
once-unary (group phase by aggregates) ts = refl
once-unary (limit m) ts = refl

once-fits : (op : Unary) (p : Plan) → is_open p ≡ false → phase_fits (at_once op) p ≡ true
once-fits (select fs) p e = ap not e
once-fits (project es) p e = ap not e
once-fits (distinct cols) p e = ap not e
once-fits (sort of_parts order) p e = ap not e
once-fits (group phase by aggregates) p e = ap not e
once-fits (limit m) p e = ap not e

pub typed-below : (s : Scope) (n : ℕ) (c : Claim) (op : Unary) (p : Plan) → typed s (unary n c op p) ≡ true → (typed s p ≡ true) × (phase_fits op p ≡ true)
typed-below s n c op p h =
    let ts : List ColType = types_of (relation_at s.catalog) p in
    let rest : Bool = is_unary ts op && is_output s (unary_types op ts) c in
    (and-left (typed s p) (phase_fits op p && rest) h, and-left (phase_fits op p) rest (and-right (typed s p) (phase_fits op p && rest) h))

pub erased-types : (s : Scope) (i : ℕ) (p : Plan) → typed s p ≡ true → types_of (relation_at s.catalog) (erase_from i p) ≡ types_of (relation_at s.catalog) p
erased-types s i (scan n c r m z) h = refl
erased-types s i (unary n c op p) h =
    let t = typed-below s n c op p h in
    go op t.1 (λ j. erased-types s j p t.0)
  where
    over : (op : Unary) → ((j : ℕ) → types_of (relation_at s.catalog) (erase_from j p) ≡ types_of (relation_at s.catalog) p)
        → types_of (relation_at s.catalog) (unary i no_claim (at_once op) (erase_from (i + 1) p)) ≡ types_of (relation_at s.catalog) (unary n c op p)
    over op ih = ap (unary_types (at_once op)) (ih (i + 1)) ∙ once-types op (types_of (relation_at s.catalog) p)

    go : (op : Unary) → phase_fits op p ≡ true → ((j : ℕ) → types_of (relation_at s.catalog) (erase_from j p) ≡ types_of (relation_at s.catalog) p)
        → types_of (relation_at s.catalog) (erase_from i (unary n c op p)) ≡ types_of (relation_at s.catalog) (unary n c op p)
    go (select fs) f ih = over (select fs) ih
    go (project es) f ih = over (project es) ih
    go (distinct cols) f ih = over (distinct cols) ih
    go (sort of_parts order) f ih = over (sort of_parts order) ih
    go (group plain by aggregates) f ih = over (group plain by aggregates) ih
    go (group partial by aggregates) f ih = over (group partial by aggregates) ih
    go (limit m) f ih = over (limit m) ih
    go (group final by aggregates) f ih = ih i ∙ sym (final-types (relation_at s.catalog) by aggregates p f)
erased-types s i (binary n c op p q) h =
    let ts : List ColType = types_of (relation_at s.catalog) p in
    let us : List ColType = types_of (relation_at s.catalog) q in
    let rest : Bool = both_closed p q && (is_binary ts us op && is_output s (binary_types op ts us) c) in
    ap (λ xs. binary_types op xs (types_of (relation_at s.catalog) (erase_from (i + 1 + nodes_left p) q))) (erased-types s (i + 1) p (and-left (typed s p) (typed s q && rest) h))
    ∙ ap (binary_types op ts) (erased-types s (i + 1 + nodes_left p) q (and-left (typed s q) rest (and-right (typed s p) (typed s q && rest) h)))
erased-types s i (exchange n c k m p) h = erased-types s i p (and-left (typed s p) _ h)

-- as wide as the plan, with no claim
no-claim-output : (s : Scope) (types : List ColType) (c : Claim) → is_output s types c ≡ true → is_output s types no_claim ≡ true
no-claim-output s types c h = and-both (nat_le (length types) 64) true (and-left (nat_le (length types) 64) (is_claim s types c) h) refl

output-along : (s : Scope) (ts us : List ColType) → ts ≡ us → is_output s us no_claim ≡ true → is_output s ts no_claim ≡ true
output-along s ts us e h = let P : List ColType → Type 0 = λ xs. is_output s xs no_claim ≡ true in subst P (sym e) h

pub erased-typed : (s : Scope) (i : ℕ) (p : Plan) → typed s p ≡ true → typed s (erase_from i p) ≡ true
erased-typed s i (scan n c r m z) h =
    let out : Bool = is_output s (types_of (relation_at s.catalog) (scan n c r m z)) c in
    let last = and-right (is_size s.sizes z) out (and-right (nat_lt r (length s.catalog)) (is_size s.sizes z && out) h) in
    and-both (nat_lt r (length s.catalog)) (true && is_output s (types_of (relation_at s.catalog) (scan n c r m z)) no_claim)
    (and-left (nat_lt r (length s.catalog)) (is_size s.sizes z && out) h)
    (no-claim-output s (types_of (relation_at s.catalog) (scan n c r m z)) c last)
erased-typed s i (unary n c op p) h =
    let t = typed-below s n c op p h in
    go (is_final op) (erased-typed s i p t.0) (erased-typed s (i + 1) p t.0) (erased-types s (i + 1) p t.0)
  where
    ts : List ColType
    ts = types_of (relation_at s.catalog) p

    us : List ColType
    us = types_of (relation_at s.catalog) (erase_from (i + 1) p)

    go : (b : Bool) → typed s (erase_from i p) ≡ true → typed s (erase_from (i + 1) p) ≡ true → us ≡ ts
        → typed s (cond b (erase_from i p) (unary i no_claim (at_once op) (erase_from (i + 1) p))) ≡ true
    go true a b e = a
    go false a b e =
        let out : Bool = is_output s (unary_types op ts) c in
        let rest = and-right (phase_fits op p) (is_unary ts op && out) (and-right (typed s p) (phase_fits op p && (is_unary ts op && out)) h) in
        let P : List ColType → Type 0 = λ xs. is_unary xs (at_once op) ≡ true in
        let new : Bool = is_output s (unary_types (at_once op) us) no_claim in
        and-both (typed s (erase_from (i + 1) p)) (phase_fits (at_once op) (erase_from (i + 1) p) && (is_unary us (at_once op) && new)) b
        (and-both (phase_fits (at_once op) (erase_from (i + 1) p)) (is_unary us (at_once op) && new) (once-fits op (erase_from (i + 1) p) (erased-closed (i + 1) p))
        (and-both (is_unary us (at_once op)) new
        (subst P (sym e) (once-unary op ts ∙ and-left (is_unary ts op) out rest))
        (output-along s (unary_types (at_once op) us) (unary_types op ts) (ap (unary_types (at_once op)) e ∙ once-types op ts) (no-claim-output s (unary_types op ts) c (and-right (is_unary ts op) out rest)))))
erased-typed s i (binary n c op p q) h =
    let ts : List ColType = types_of (relation_at s.catalog) p in
    let us : List ColType = types_of (relation_at s.catalog) q in
    let j : ℕ = i + 1 + nodes_left p in
    let vs : List ColType = types_of (relation_at s.catalog) (erase_from (i + 1) p) in
    let ws : List ColType = types_of (relation_at s.catalog) (erase_from j q) in
    let tp = and-left (typed s p) (typed s q && (both_closed p q && (is_binary ts us op && is_output s (binary_types op ts us) c))) h in
    let tq = and-left (typed s q) (both_closed p q && (is_binary ts us op && is_output s (binary_types op ts us) c)) (and-right (typed s p) (typed s q && (both_closed p q && (is_binary ts us op && is_output s (binary_types op ts us) c))) h) in
    let e : vs ≡ ts = erased-types s (i + 1) p tp in
    let f : ws ≡ us = erased-types s j q tq in
    let out : Bool = is_output s (binary_types op ts us) c in
    let rest = and-right (typed s p) (typed s q && (both_closed p q && (is_binary ts us op && out))) h in
    let last = and-right (both_closed p q) (is_binary ts us op && out) (and-right (typed s q) (both_closed p q && (is_binary ts us op && out)) rest) in
    let shut : both_closed (erase_from (i + 1) p) (erase_from j q) ≡ true = and-both (not (is_open (erase_from (i + 1) p))) (not (is_open (erase_from j q))) (ap not (erased-closed (i + 1) p)) (ap not (erased-closed j q)) in
    let both : is_binary vs ws op ≡ is_binary ts us op = ap (λ xs. is_binary xs ws op) e ∙ ap (λ xs. is_binary ts xs op) f in
    let same : binary_types op vs ws ≡ binary_types op ts us = ap (λ xs. binary_types op xs ws) e ∙ ap (λ xs. binary_types op ts xs) f in
    let new : Bool = is_binary vs ws op && is_output s (binary_types op vs ws) no_claim in
    and-both (typed s (erase_from (i + 1) p)) (typed s (erase_from j q) && (both_closed (erase_from (i + 1) p) (erase_from j q) && new))
    (erased-typed s (i + 1) p tp)
    (and-both (typed s (erase_from j q)) (both_closed (erase_from (i + 1) p) (erase_from j q) && new)
    (erased-typed s j q tq)
    (and-both (both_closed (erase_from (i + 1) p) (erase_from j q)) new shut
    (and-both (is_binary vs ws op) (is_output s (binary_types op vs ws) no_claim)
    (both ∙ and-left (is_binary ts us op) out last)
    (output-along s (binary_types op vs ws) (binary_types op ts us) same (no-claim-output s (binary_types op ts us) c (and-right (is_binary ts us op) out last))))))
erased-typed s i (exchange n c k m p) h = erased-typed s i p (and-left (typed s p) _ h)

erased-nodes : (i : ℕ) (p : Plan) → nodes (erase_from i p) ≡ nodes_left p
erased-nodes i (scan n c r m z) = refl
erased-nodes i (unary n c op p) = go (is_final op) (erased-nodes i p) (erased-nodes (i + 1) p)
  where
    go : (b : Bool) → nodes (erase_from i p) ≡ nodes_left p → nodes (erase_from (i + 1) p) ≡ nodes_left p
        → nodes (cond b (erase_from i p) (unary i no_claim (at_once op) (erase_from (i + 1) p))) ≡ cond b (nodes_left p) (1 + nodes_left p)
    go true a b = a
    go false a b = omega (arith, b)
erased-nodes i (binary n c op p q) =
    let e = erased-nodes (i + 1) p in
    let f = erased-nodes (i + 1 + nodes_left p) q in
    omega (arith, e, f)
erased-nodes i (exchange n c k m p) = erased-nodes i p

pub erased-numbered : (i : ℕ) (p : Plan) → is_numbered i (erase_from i p) ≡ true
erased-numbered i (scan n c r m z) = eq-eqb i i refl
erased-numbered i (unary n c op p) = go (is_final op) (erased-numbered i p) (erased-numbered (i + 1) p)
  where
    go : (b : Bool) → is_numbered i (erase_from i p) ≡ true → is_numbered (i + 1) (erase_from (i + 1) p) ≡ true
        → is_numbered i (cond b (erase_from i p) (unary i no_claim (at_once op) (erase_from (i + 1) p))) ≡ true
    go true a b = a
    go false a b =
        let up : i + 1 ≡ suc i = omega arith in
        let P : ℕ → Type 0 = λ j. is_numbered j (erase_from (i + 1) p) ≡ true in
        and-both (i == i) (is_numbered (suc i) (erase_from (i + 1) p)) (eq-eqb i i refl) (subst P up b)
erased-numbered i (binary n c op p q) =
    let left : Plan = erase_from (i + 1) p in
    let right : Plan = erase_from (i + 1 + nodes_left p) q in
    let up : i + 1 ≡ suc i = omega arith in
    let e : nodes left ≡ nodes_left p = erased-nodes (i + 1) p in
    let at : i + 1 + nodes_left p ≡ suc i + nodes left = omega (arith, e) in
    let P : ℕ → Type 0 = λ j. is_numbered j left ≡ true in
    let Q : ℕ → Type 0 = λ j. is_numbered j right ≡ true in
    and-both (i == i) (is_numbered (suc i) left && is_numbered (suc i + nodes left) right) (eq-eqb i i refl)
    (and-both (is_numbered (suc i) left) (is_numbered (suc i + nodes left) right)
    (subst P up (erased-numbered (i + 1) p))
    (subst Q at (erased-numbered (i + 1 + nodes_left p) q)))
erased-numbered i (exchange n c k m p) = erased-numbered i p

nodes-fewer : (p : Plan) → nodes_left p ≤ nodes p
nodes-fewer (scan n c r m z) = omega arith
nodes-fewer (unary n c op p) = go (is_final op) (nodes-fewer p)
  where
    go : (b : Bool) → nodes_left p ≤ nodes p → cond b (nodes_left p) (1 + nodes_left p) ≤ suc (nodes p)
    go true h = omega (arith, h)
    go false h = omega (arith, h)
nodes-fewer (binary n c op p q) = omega (arith, nodes-fewer p, nodes-fewer q)
nodes-fewer (exchange n c k m p) = omega (arith, nodes-fewer p)

-- without the names it is the plan without exchanges
pub erased-plan : (i : ℕ) (o : Outline) → plan_in (erased_from i o) ≡ erase_from i (plan_in o)
erased-plan i (outline.scan h r m z p) = refl
erased-plan i (outline.unary h op flags t) = go (is_final op) (erased-plan i t) (erased-plan (i + 1) t)
  where
    go : (b : Bool) → plan_in (erased_from i t) ≡ erase_from i (plan_in t) → plan_in (erased_from (i + 1) t) ≡ erase_from (i + 1) (plan_in t)
        → plan_in (cond b (erased_from i t) (outline.unary (erased_top i h) (at_once op) flags (erased_from (i + 1) t)))
        ≡ cond b (erase_from i (plan_in t)) (unary i no_claim (at_once op) (erase_from (i + 1) (plan_in t)))
    go true a b = a
    go false a b = ap (unary i no_claim (at_once op)) b
erased-plan i (outline.binary h op t u) =
    ap (λ p. binary i no_claim op p (plan_in (erased_from (i + 1 + nodes_left (plan_in t)) u))) (erased-plan (i + 1) t)
    ∙ ap (binary i no_claim op (erase_from (i + 1) (plan_in t))) (erased-plan (i + 1 + nodes_left (plan_in t)) u)
erased-plan i (outline.exchange h k m t) = erased-plan i t

-- the erased plan of a typed plan is typed, and has no more nodes
pub erased-is-typed : (s : Scope) (o e : Outline) → IsTyped s (plan_in o) → e ≡ erased_from 0 o → IsTyped s (plan_in e) × (nodes (plan_in e) ≤ nodes (plan_in o))
erased-is-typed s o e h same =
    let p : Plan = plan_in o in
    let plan_is : plan_in e ≡ erase p = ap plan_in same ∙ erased-plan 0 o in
    let P : Plan → Type 0 = λ q. IsTyped s q × (nodes q ≤ nodes p) in
    let count = erased-nodes 0 p in
    let fewer = nodes-fewer p in
    subst P (sym plan_is) (record { ranges = h.ranges; sizes = h.sizes; nodes = erased-typed s 0 p h.nodes; numbered = erased-numbered 0 p; closed = erased-closed 0 p }, omega (arith, count, fewer))
