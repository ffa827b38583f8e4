-- What is placed is typed.
use Rattle.std.proofs.Common.{◌≡◌, ℕ, nat_lt, nat_le, Bool, true, false, not, ◌&&◌, List, [], length, refl, sym, ap, ◌∙◌}
use Rattle.vx_rows_values.specs.Order.{order_columns}
use Rattle.vx_rows_values.specs.declared.order.OrderEntry.{OrderEntry}
use Rattle.vx_rows_values.specs.declared.value.ColType.{ColType}
use Rattle.vx_rows_values.proofs.Booleans.{and-left, and-right, and-both}
use Rattle.vx_catalog_relations.specs.Relation.{Relation}
use Rattle.vx_catalog_relations.specs.Catalog.{relation_at, IsCatalog}
use Rattle.vx_plan_nodes.specs.Plan.{Part, Aggregate, Claim, Unary, select, project, distinct, sort, group, limit, plain, partial, final, Binary, ExchangeKind, Plan, scan, unary, binary, exchange, claim, size, is_one}
use Rattle.vx_plan_nodes.specs.Describe.{whole_rows, described}
use Rattle.vx_plan_nodes.specs.Types.{unary_types, binary_types, types_of}
use Rattle.vx_plan_nodes.specs.Typed.{Scope, are_columns, is_size, is_part, is_claim, is_unary, is_binary, is_kind, may_merge, is_output, typed}
use Rattle.vx_plan_nodes.specs.Phases.{unary_open, is_open, unary_opens, opens, phase_fits, both_closed}
use Rattle.vx_check_options.specs.Options.{OrderChoices, no_input, parts_at, places_over, places_at}
use Rattle.vx_check_options.specs.Placed.{order_along, order_below, order_to_left, order_to_right, order_sent, parts_below, part_sent, is_chosen, keyless, placed}
use Rattle.vx_check_options.specs.Laws.{is_option}
use Rattle.vx_check_options.proofs.ChosenParts.{option-passes, parts_below-options, part_sent-option}
use Rattle.vx_check_options.proofs.ChosenOrders.{along-chosen, chosen-begins, narrowed-begins}
use Rattle.vx_check_options.proofs.PlacedKeeps.{places-filled, below-chosen, left-chosen, right-chosen}
use Rattle.vx_check_options.proofs.TypedParts.{parts-typed}
use Rattle.vx_check_options.proofs.TypedOrders.{singles-typed, declared-typed, unary-order-typed, binary-order-typed, sent-order-typed}

-- ---- what does not look at claims

-- the types of the output
types-placed : (catalog : ℕ → Relation) (p : Plan) (q : Part) (order : List OrderEntry) → types_of catalog (placed catalog p q order) ≡ types_of catalog p
types-placed catalog (scan n c r m z) q order = refl
types-placed catalog (unary n c op p) q order = ap (unary_types op) (types-placed catalog p _ _)
types-placed catalog (binary n c op p p2) q order =
    ap (λ ts. binary_types op ts (types_of catalog (placed catalog p2 (parts_below catalog (binary n c op p p2) q (parts_at catalog p) (parts_at catalog p2)).1 (order_to_right op (places_at catalog p2))))) (types-placed catalog p _ _)
    ∙ ap (binary_types op (types_of catalog p)) (types-placed catalog p2 _ _)
types-placed catalog (exchange n c k m p) q order = types-placed catalog p _ _

-- that no partial is left open
open-placed : (catalog : ℕ → Relation) (p : Plan) (q : Part) (order : List OrderEntry) → is_open (placed catalog p q order) ≡ is_open p
open-placed catalog (scan n c r m z) q order = refl
open-placed catalog (unary n c op p) q order = ap (unary_open op) (open-placed catalog p _ _)
open-placed catalog (binary n c op p p2) q order = refl
open-placed catalog (exchange n c k m p) q order = open-placed catalog p _ _

-- that a final has its partial
opens-placed : (keys : List ℕ) (aggregates : List Aggregate) (catalog : ℕ → Relation) (p : Plan) (q : Part) (order : List OrderEntry) → opens keys aggregates (placed catalog p q order) ≡ opens keys aggregates p
opens-placed keys aggregates catalog (scan n c r m z) q order = refl
opens-placed keys aggregates catalog (unary n c op p) q order = ap (unary_opens keys aggregates op) (opens-placed keys aggregates catalog p _ _)
opens-placed keys aggregates catalog (binary n c op p p2) q order = refl
opens-placed keys aggregates catalog (exchange n c k m p) q order = opens-placed keys aggregates catalog p _ _

-- that the phases fit
fits-placed : (op : Unary) (catalog : ℕ → Relation) (p : Plan) (q : Part) (order : List OrderEntry) → phase_fits op (placed catalog p q order) ≡ phase_fits op p
fits-placed (select fs) catalog p q order = ap not (open-placed catalog p q order)
fits-placed (project es) catalog p q order = ap not (open-placed catalog p q order)
fits-placed (distinct cols) catalog p q order = ap not (open-placed catalog p q order)
fits-placed (sort false cols) catalog p q order = ap not (open-placed catalog p q order)
fits-placed (sort true cols) catalog p q order = open-placed catalog p q order
fits-placed (group plain by aggregates) catalog p q order = ap not (open-placed catalog p q order)
fits-placed (group partial by aggregates) catalog p q order = ap not (open-placed catalog p q order)
fits-placed (group final by aggregates) catalog p q order = opens-placed by aggregates catalog p q order
fits-placed (limit m) catalog p q order = ap not (open-placed catalog p q order)

-- that both inputs are closed
closed-placed : (catalog : ℕ → Relation) (p p2 : Plan) (x y : Part) (order order2 : List OrderEntry) → both_closed (placed catalog p x order) (placed catalog p2 y order2) ≡ both_closed p p2
closed-placed catalog p p2 x y order order2 = rw (open-placed catalog p x order, open-placed catalog p2 y order2) refl

-- the claim at the top is the one that is placed
claim-placed : (catalog : ℕ → Relation) (p : Plan) (q : Part) (order : List OrderEntry) → claim (placed catalog p q order) ≡ keyless q order
claim-placed catalog (scan n c r m z) q order = refl
claim-placed catalog (unary n c op p) q order = refl
claim-placed catalog (binary n c op p p2) q order = refl
claim-placed catalog (exchange n c k m p) q order = refl

-- ---- what a typed plan claims

-- a typed plan has a typed claim
output-of : (s : Scope) (p : Plan) → typed s p ≡ true → is_output s (types_of (relation_at s.catalog) p) (claim p) ≡ true
output-of s (scan n c r m z) h =
    let out : Bool = is_output s (types_of (relation_at s.catalog) (scan n c r m z)) c in
    and-right (is_size s.sizes z) out (and-right (nat_lt r (length s.catalog)) (is_size s.sizes z && out) h)
output-of s (unary n c op p) h =
    let out : Bool = is_output s (types_of (relation_at s.catalog) (unary n c op p)) c in
    let ok : Bool = is_unary (types_of (relation_at s.catalog) p) op in
    and-right ok out (and-right (phase_fits op p) (ok && out) (and-right (typed s p) (phase_fits op p && (ok && out)) h))
output-of s (binary n c op p q) h =
    let out : Bool = is_output s (types_of (relation_at s.catalog) (binary n c op p q)) c in
    let ok : Bool = is_binary (types_of (relation_at s.catalog) p) (types_of (relation_at s.catalog) q) op in
    and-right ok out (and-right (both_closed p q) (ok && out) (and-right (typed s q) (both_closed p q && (ok && out)) (and-right (typed s p) (typed s q && (both_closed p q && (ok && out))) h)))
output-of s (exchange n c k m p) h =
    let ts : List ColType = types_of (relation_at s.catalog) p in
    let out : Bool = is_output s ts c in
    let ok : Bool = is_kind s ts k in
    and-right (may_merge k m) out (and-right (are_columns (length ts) (order_columns m)) (may_merge k m && out) (and-right ok (are_columns (length ts) (order_columns m) && (may_merge k m && out))
    (and-right (typed s p) (ok && (are_columns (length ts) (order_columns m) && (may_merge k m && out))) h)))

-- of a plan that is placed and typed, the order names columns
order-of : (s : Scope) (p : Plan) (q : Part) (order : List OrderEntry) → typed s (placed (relation_at s.catalog) p q order) ≡ true
    → are_columns (length (types_of (relation_at s.catalog) p)) (order_columns order) ≡ true
order-of s p q order h =
    let made : Plan = placed (relation_at s.catalog) p q order in
    let ts : List ColType = types_of (relation_at s.catalog) p in
    let out : is_output s ts (keyless q order) ≡ true = sym (ap (λ us. is_output s us (keyless q order)) (types-placed (relation_at s.catalog) p q order))
    ∙ sym (ap (is_output s (types_of (relation_at s.catalog) made)) (claim-placed (relation_at s.catalog) p q order)) ∙ output-of s made h in
    and-left (are_columns (length ts) (order_columns order)) true (and-right (is_part s ts q) (are_columns (length ts) (order_columns order) && true) (and-right (nat_le (length ts) 64) (is_claim s ts (keyless q order)) out))

-- ---- what is placed

-- a part that is an option, and an order of columns, in place of a claim
output-placed : (s : Scope) (p : Plan) (q : Part) (order : List OrderEntry) → typed s p ≡ true → is_option (parts_at (relation_at s.catalog) p) q ≡ true
    → are_columns (length (types_of (relation_at s.catalog) p)) (order_columns order) ≡ true → is_output s (types_of (relation_at s.catalog) p) (keyless q order) ≡ true
output-placed s p q order h is_opt cols =
    let ts : List ColType = types_of (relation_at s.catalog) p in
    and-both (nat_le (length ts) 64) (is_claim s ts (keyless q order)) (and-left (nat_le (length ts) 64) (is_claim s ts (claim p)) (output-of s p h))
    (and-both (is_part s ts q) (are_columns (length ts) (order_columns order) && true) (option-passes (is_part s ts) q (parts_at (relation_at s.catalog) p) refl is_opt (parts-typed s p h))
    (and-both (are_columns (length ts) (order_columns order)) true cols refl))

-- an operator over one input is typed where its input is, and has the same types
unary-typed : (s : Scope) (n : ℕ) (op : Unary) (c : Claim) (p : Plan) (ts : List ColType) → typed s p ≡ true → phase_fits op p ≡ true → types_of (relation_at s.catalog) p ≡ ts → is_unary ts op ≡ true
    → is_output s (unary_types op ts) c ≡ true → typed s (unary n c op p) ≡ true
unary-typed s n op c p ts h f e o out =
    let us : List ColType = types_of (relation_at s.catalog) p in
    and-both (typed s p) (phase_fits op p && (is_unary us op && is_output s (unary_types op us) c)) h
    (and-both (phase_fits op p) (is_unary us op && is_output s (unary_types op us) c) f
    (ap (λ vs. is_unary vs op && is_output s (unary_types op vs) c) e ∙ and-both (is_unary ts op) (is_output s (unary_types op ts) c) o out))

-- so is one over two inputs
binary-typed : (s : Scope) (n : ℕ) (op : Binary) (c : Claim) (p q : Plan) (ts us : List ColType) → typed s p ≡ true → typed s q ≡ true → both_closed p q ≡ true → types_of (relation_at s.catalog) p ≡ ts
    → types_of (relation_at s.catalog) q ≡ us → is_binary ts us op ≡ true → is_output s (binary_types op ts us) c ≡ true → typed s (binary n c op p q) ≡ true
binary-typed s n op c p q ts us h k f d e o out =
    let vs : List ColType = types_of (relation_at s.catalog) p in
    let ws : List ColType = types_of (relation_at s.catalog) q in
    let last : Bool = is_binary vs ws op && is_output s (binary_types op vs ws) c in
    and-both (typed s p) (typed s q && (both_closed p q && last)) h
    (and-both (typed s q) (both_closed p q && last) k
    (and-both (both_closed p q) last f
    (ap (λ xs. is_binary xs ws op && is_output s (binary_types op xs ws) c) d ∙ ap (λ ys. is_binary ts ys op && is_output s (binary_types op ts ys) c) e
    ∙ and-both (is_binary ts us op) (is_output s (binary_types op ts us) c) o out)))

-- and an exchange
exchange-typed : (s : Scope) (n : ℕ) (k : ExchangeKind) (merge : List OrderEntry) (c : Claim) (p : Plan) (ts : List ColType) → typed s p ≡ true → types_of (relation_at s.catalog) p ≡ ts → is_kind s ts k ≡ true
    → are_columns (length ts) (order_columns merge) ≡ true → may_merge k merge ≡ true → is_output s ts c ≡ true → typed s (exchange n c k merge p) ≡ true
exchange-typed s n k merge c p ts h e o m may out =
    let us : List ColType = types_of (relation_at s.catalog) p in
    and-both (typed s p) (is_kind s us k && (are_columns (length us) (order_columns merge) && (may_merge k merge && is_output s us c))) h
    (ap (λ vs. is_kind s vs k && (are_columns (length vs) (order_columns merge) && (may_merge k merge && is_output s vs c))) e
    ∙ and-both (is_kind s ts k) (are_columns (length ts) (order_columns merge) && (may_merge k merge && is_output s ts c)) o
    (and-both (are_columns (length ts) (order_columns merge)) (may_merge k merge && is_output s ts c) m (and-both (may_merge k merge) (is_output s ts c) may out)))

-- by induction from the top: the order of each input is of columns, and those of the output are copies of them
pub placed-is-typed : (s : Scope) (p : Plan) (q : Part) (order : List OrderEntry) → IsCatalog s.catalog → typed s p ≡ true
    → is_option (parts_at (relation_at s.catalog) p) q ≡ true → is_chosen order (places_at (relation_at s.catalog) p) ≡ true
    → typed s (placed (relation_at s.catalog) p q order) ≡ true
placed-is-typed s (scan n c r m z) q order catalog h is_opt chosen =
    let node : Plan = scan n c r m z in
    let ts : List ColType = types_of (relation_at s.catalog) node in
    let named = and-left (nat_lt r (length s.catalog)) (is_size s.sizes z && is_output s ts c) h in
    let sized = and-right (nat_lt r (length s.catalog)) (is_size s.sizes z && is_output s ts c) h in
    let front = narrowed-begins c.order order (places_over (relation_at s.catalog) node [] []) (chosen-begins order (places_at (relation_at s.catalog) node) chosen) in
    and-both (nat_lt r (length s.catalog)) (is_size s.sizes z && is_output s ts (keyless q order)) named
    (and-both (is_size s.sizes z) (is_output s ts (keyless q order)) (and-left (is_size s.sizes z) (is_output s ts c) sized)
    (output-placed s node q order h is_opt (singles-typed ts order (relation_at s.catalog r).order front (declared-typed s r catalog named))))
placed-is-typed s (unary n c op p) q order catalog h is_opt chosen =
    let node : Plan = unary n c op p in
    let ts : List ColType = types_of (relation_at s.catalog) p in
    let us : List ColType = types_of (relation_at s.catalog) node in
    let places : OrderChoices = places_at (relation_at s.catalog) p in
    let part : Part = (parts_below (relation_at s.catalog) node q (parts_at (relation_at s.catalog) p) no_input).0 in
    let below : List OrderEntry = order_below (described op).order (described op).copying order places in
    let made : Plan = placed (relation_at s.catalog) p part below in
    let types : types_of (relation_at s.catalog) made ≡ ts = types-placed (relation_at s.catalog) p part below in
    let rest = and-right (typed s p) (phase_fits op p && (is_unary ts op && is_output s us c)) h in
    let ok = and-left (is_unary ts op) (is_output s us c) (and-right (phase_fits op p) (is_unary ts op && is_output s us c) rest) in
    let front = narrowed-begins c.order order (places_over (relation_at s.catalog) node [] places) (chosen-begins order (places_at (relation_at s.catalog) node) chosen) in
    let filled = places-filled (relation_at s.catalog) p in
    let made_typed = placed-is-typed s p part below catalog (and-left (typed s p) (phase_fits op p && (is_unary ts op && is_output s us c)) h)
    (parts_below-options (relation_at s.catalog) node q (parts_at (relation_at s.catalog) p) no_input).0
    (below-chosen (described op).order (described op).copying order places filled) in
    let columns = unary-order-typed op ts order places ok front (order-of s p part below made_typed) in
    unary-typed s n op (keyless q order) made ts made_typed
    (fits-placed op (relation_at s.catalog) p part below ∙ and-left (phase_fits op p) (is_unary ts op && is_output s us c) rest) types ok (output-placed s node q order h is_opt columns)
placed-is-typed s (binary n c op p p2) q order catalog h is_opt chosen =
    let node : Plan = binary n c op p p2 in
    let ts : List ColType = types_of (relation_at s.catalog) p in
    let vs : List ColType = types_of (relation_at s.catalog) p2 in
    let us : List ColType = types_of (relation_at s.catalog) node in
    let places : OrderChoices = places_at (relation_at s.catalog) p in
    let lefts : List Part = parts_at (relation_at s.catalog) p in
    let rights : List Part = parts_at (relation_at s.catalog) p2 in
    let parts : Part × Part = parts_below (relation_at s.catalog) node q lefts rights in
    let options = parts_below-options (relation_at s.catalog) node q lefts rights in
    let below : List OrderEntry = order_to_left op order places in
    let beside : List OrderEntry = order_to_right op (places_at (relation_at s.catalog) p2) in
    let left : Plan = placed (relation_at s.catalog) p parts.0 below in
    let right : Plan = placed (relation_at s.catalog) p2 parts.1 beside in
    let last : Bool = both_closed p p2 && (is_binary ts vs op && is_output s us c) in
    let rest = and-right (typed s p) (typed s p2 && last) h in
    let more = and-right (typed s p2) last rest in
    let ok = and-left (is_binary ts vs op) (is_output s us c) (and-right (both_closed p p2) (is_binary ts vs op && is_output s us c) more) in
    let front = narrowed-begins c.order order (places_over (relation_at s.catalog) node [] places) (chosen-begins order (places_at (relation_at s.catalog) node) chosen) in
    let filled = places-filled (relation_at s.catalog) p in
    let left_typed = placed-is-typed s p parts.0 below catalog (and-left (typed s p) (typed s p2 && last) h) options.0 (left-chosen op order places filled) in
    let right_typed = placed-is-typed s p2 parts.1 beside catalog (and-left (typed s p2) last rest) options.1
    (right-chosen op (places_at (relation_at s.catalog) p2) (places-filled (relation_at s.catalog) p2)) in
    let columns = binary-order-typed op ts vs order places front (order-of s p parts.0 below left_typed) in
    binary-typed s n op (keyless q order) left right ts vs left_typed right_typed
    (closed-placed (relation_at s.catalog) p p2 parts.0 parts.1 below beside ∙ and-left (both_closed p p2) (is_binary ts vs op && is_output s us c) more)
    (types-placed (relation_at s.catalog) p parts.0 below) (types-placed (relation_at s.catalog) p2 parts.1 beside) ok (output-placed s node q order h is_opt columns)
placed-is-typed s (exchange n c k merge p) q order catalog h is_opt chosen =
    let node : Plan = exchange n c k merge p in
    let ts : List ColType = types_of (relation_at s.catalog) p in
    let parts : List Part = parts_at (relation_at s.catalog) p in
    let places : OrderChoices = places_at (relation_at s.catalog) p in
    let below : List OrderEntry = order_along whole_rows (order_sent k (is_one (size p)) merge order) places in
    let made : Plan = placed (relation_at s.catalog) p (part_sent k order parts) below in
    let last : Bool = may_merge k merge && is_output s ts c in
    let rest = and-right (typed s p) (is_kind s ts k && (are_columns (length ts) (order_columns merge) && last)) h in
    let more = and-right (is_kind s ts k) (are_columns (length ts) (order_columns merge) && last) rest in
    let merged = and-left (are_columns (length ts) (order_columns merge)) last more in
    let front = narrowed-begins c.order order (places_over (relation_at s.catalog) node parts places) (chosen-begins order (places_at (relation_at s.catalog) node) chosen) in
    let filled = places-filled (relation_at s.catalog) p in
    let made_typed = placed-is-typed s p (part_sent k order parts) below catalog (and-left (typed s p) (is_kind s ts k && (are_columns (length ts) (order_columns merge) && last)) h)
    (part_sent-option k order parts) (along-chosen whole_rows (order_sent k (is_one (size p)) merge order) places filled) in
    let columns = sent-order-typed k (is_one (size p)) ts merge order parts places merged front (order-of s p (part_sent k order parts) below made_typed) in
    exchange-typed s n k merge (keyless q order) made ts made_typed (types-placed (relation_at s.catalog) p (part_sent k order parts) below)
    (and-left (is_kind s ts k) (are_columns (length ts) (order_columns merge) && last) rest) merged (and-left (may_merge k merge) (is_output s ts c) (and-right (are_columns (length ts) (order_columns merge)) last more))
    (output-placed s node q order h is_opt columns)
