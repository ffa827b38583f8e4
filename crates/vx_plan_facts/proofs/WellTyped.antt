-- What is typed is well formed.
use Rattle.std.proofs.Common.{◌≡◌, ℕ, suc, ◌+◌, ◌==◌, nat_lt, nat_le, Bool, true, ◌&&◌, List, [], ◌∷◌, ◌++◌, length, refl, sym, ap, ◌∙◌, subst, true≢false, eq-eqb}
use Rattle.std.specs.List.{list_all}
use Rattle.vx_rows_values.specs.Order.{order_columns}
use Rattle.vx_rows_values.specs.declared.value.ColType.{ColType}
use Rattle.vx_rows_values.specs.Types.{type_at}
use Rattle.vx_rows_values.specs.Lists.{is_some_list}
use Rattle.vx_rows_values.proofs.Booleans.{and-left, and-right, and-both}
use Rattle.vx_catalog_relations.specs.Catalog.{relation_at, all_below, are_distinct}
use Rattle.vx_plan_nodes.specs.Plan.{by_hash, by_range, Part, one, any, all, routed, Claim, union, join, semi_join, Plan, scan, unary, binary, exchange}
use Rattle.vx_plan_nodes.specs.Phases.{phase_fits, both_closed}
use Rattle.vx_plan_nodes.specs.Types.{types_of, width, part_columns, names_columns, well_formed}
use Rattle.vx_plan_nodes.specs.Typed.{Scope, type_eq, types_eq, are_columns, range_type, bounds_at, is_part, is_claim, is_unary, is_binary, is_kind, is_size, is_output, typed, may_merge}
use Rattle.vx_plan_facts.proofs.NamedColumns.{types-width}

all-weaker : {X : Type 0} (p q : X → Bool) → ((x : X) → p x ≡ true → q x ≡ true) → (xs : List X) → list_all p xs ≡ true → list_all q xs ≡ true
all-weaker p q h [] e = refl
all-weaker p q h (x ∷ xs) e = and-both _ _ (h x (and-left _ _ e)) (all-weaker p q h xs (and-right _ _ e))

-- a typed claim names columns

part-below : (s : Scope) (types : List ColType) (q : Part) → is_part s types q ≡ true → all_below (length types) (part_columns q) ≡ true
part-below s types one h = refl
part-below s types any h = refl
part-below s types all h = refl
part-below s types (routed (by_hash name) cols) h =
    let cs = and-right (is_some_list cols) (are_columns (length types) cols) (and-right (is_some_list name) (is_some_list cols && are_columns (length types) cols) h) in
    and-left (all_below (length types) cols) (are_distinct cols) cs
part-below s types (routed (by_range k) []) h = absurd (true≢false (sym h))
part-below s types (routed (by_range k) (c ∷ [])) h =
    let last : Bool = type_eq (type_at types c) (range_type (bounds_at s.ranges k)) in
    and-both (nat_lt c (length types)) true (and-left (nat_lt c (length types)) last (and-right (nat_lt k (length s.ranges)) (nat_lt c (length types) && last) h)) refl
part-below s types (routed (by_range k) (c ∷ d ∷ cs)) h = absurd (true≢false (sym h))

claim-names : (s : Scope) (types : List ColType) (c : Claim) → is_claim s types c ≡ true → names_columns (length types) c ≡ true
claim-names s types c h =
    let w : ℕ = length types in
    let rest = and-right (is_part s types c.part) (are_columns w (order_columns c.order) && list_all (are_columns w) c.keys) h in
    and-both (all_below w (part_columns c.part)) (all_below w (order_columns c.order) && list_all (all_below w) c.keys)
    (part-below s types c.part (and-left (is_part s types c.part) (are_columns w (order_columns c.order) && list_all (are_columns w) c.keys) h))
    (and-both (all_below w (order_columns c.order)) (list_all (all_below w) c.keys)
    (and-left (all_below w (order_columns c.order)) (are_distinct (order_columns c.order)) (and-left (are_columns w (order_columns c.order)) (list_all (are_columns w) c.keys) rest))
    (all-weaker (are_columns w) (all_below w) (λ k e. and-left (all_below w k) (are_distinct k) e) c.keys (and-right (are_columns w (order_columns c.order)) (list_all (are_columns w) c.keys) rest)))

output-names : (s : Scope) (types : List ColType) (c : Claim) → is_output s types c ≡ true → names_columns (length types) c ≡ true
output-names s types c h = claim-names s types c (and-right (nat_le (length types) 64) (is_claim s types c) h)

-- at the plan's own width
names-at : (s : Scope) (p : Plan) (c : Claim) → is_output s (types_of (relation_at s.catalog) p) c ≡ true → names_columns (width (relation_at s.catalog) p) c ≡ true
names-at s p c h = let P : ℕ → Type 0 = λ w. names_columns w c ≡ true in subst P (types-width (relation_at s.catalog) p) (output-names s (types_of (relation_at s.catalog) p) c h)

types_eq-length : (ts us : List ColType) → types_eq ts us ≡ true → length ts ≡ length us
types_eq-length [] [] h = refl
types_eq-length [] (u ∷ us) h = absurd (true≢false (sym h))
types_eq-length (t ∷ ts) [] h = absurd (true≢false (sym h))
types_eq-length (t ∷ ts) (u ∷ us) h = ap suc (types_eq-length ts us (and-right (type_eq t u) (types_eq ts us) h))

pub typed-well-formed : (s : Scope) (p : Plan) → typed s p ≡ true → well_formed (relation_at s.catalog) p ≡ true
typed-well-formed s (scan n c r m z) h =
    let out : Bool = is_output s (types_of (relation_at s.catalog) (scan n c r m z)) c in
    names-at s (scan n c r m z) c (and-right (is_size s.sizes z) out (and-right (nat_lt r (length s.catalog)) (is_size s.sizes z && out) h))
typed-well-formed s (unary n c op p) h =
    let out : Bool = is_output s (types_of (relation_at s.catalog) (unary n c op p)) c in
    let op_typed : Bool = is_unary (types_of (relation_at s.catalog) p) op in
    let nm : Bool = names_columns (width (relation_at s.catalog) (unary n c op p)) c in
    let rest = and-right (typed s p) (phase_fits op p && (op_typed && out)) h in
    and-both (well_formed (relation_at s.catalog) p) (phase_fits op p && nm)
    (typed-well-formed s p (and-left (typed s p) (phase_fits op p && (op_typed && out)) h))
    (and-both (phase_fits op p) nm (and-left (phase_fits op p) (op_typed && out) rest)
    (names-at s (unary n c op p) c (and-right op_typed out (and-right (phase_fits op p) (op_typed && out) rest))))
typed-well-formed s (binary n c union p q) h =
    let ts : List ColType = types_of (relation_at s.catalog) p in
    let us : List ColType = types_of (relation_at s.catalog) q in
    let out : Bool = is_output s ts c in
    let rest = and-right (typed s p) (typed s q && (both_closed p q && (types_eq ts us && out))) h in
    let more = and-right (typed s q) (both_closed p q && (types_eq ts us && out)) rest in
    let last = and-right (both_closed p q) (types_eq ts us && out) more in
    let wp : ℕ = width (relation_at s.catalog) p in
    let wq : ℕ = width (relation_at s.catalog) q in
    let same : wp ≡ wq = sym (types-width (relation_at s.catalog) p) ∙ types_eq-length ts us (and-left (types_eq ts us) out last) ∙ types-width (relation_at s.catalog) q in
    and-both (well_formed (relation_at s.catalog) p) (well_formed (relation_at s.catalog) q && (both_closed p q && ((wp == wq) && names_columns wp c)))
    (typed-well-formed s p (and-left (typed s p) (typed s q && (both_closed p q && (types_eq ts us && out))) h))
    (and-both (well_formed (relation_at s.catalog) q) (both_closed p q && ((wp == wq) && names_columns wp c))
    (typed-well-formed s q (and-left (typed s q) (both_closed p q && (types_eq ts us && out)) rest))
    (and-both (both_closed p q) ((wp == wq) && names_columns wp c) (and-left (both_closed p q) (types_eq ts us && out) more)
    (and-both (wp == wq) (names_columns wp c) (eq-eqb wp wq same) (names-at s p c (and-right (types_eq ts us) out last)))))
typed-well-formed s (binary n c (join m on) p q) h =
    let ts : List ColType = types_of (relation_at s.catalog) p in
    let us : List ColType = types_of (relation_at s.catalog) q in
    let out : Bool = is_output s (ts ++ us) c in
    let op_typed : Bool = is_binary ts us (join m on) in
    let rest = and-right (typed s p) (typed s q && (both_closed p q && (op_typed && out))) h in
    let more = and-right (typed s q) (both_closed p q && (op_typed && out)) rest in
    let nm : Bool = names_columns (width (relation_at s.catalog) p + width (relation_at s.catalog) q) c in
    and-both (well_formed (relation_at s.catalog) p) (well_formed (relation_at s.catalog) q && (both_closed p q && nm))
    (typed-well-formed s p (and-left (typed s p) (typed s q && (both_closed p q && (op_typed && out))) h))
    (and-both (well_formed (relation_at s.catalog) q) (both_closed p q && nm)
    (typed-well-formed s q (and-left (typed s q) (both_closed p q && (op_typed && out)) rest))
    (and-both (both_closed p q) nm (and-left (both_closed p q) (op_typed && out) more)
    (names-at s (binary n c (join m on) p q) c (and-right op_typed out (and-right (both_closed p q) (op_typed && out) more)))))
typed-well-formed s (binary n c (semi_join matched on conditions) p q) h =
    let ts : List ColType = types_of (relation_at s.catalog) p in
    let us : List ColType = types_of (relation_at s.catalog) q in
    let out : Bool = is_output s ts c in
    let op_typed : Bool = is_binary ts us (semi_join matched on conditions) in
    let rest = and-right (typed s p) (typed s q && (both_closed p q && (op_typed && out))) h in
    let more = and-right (typed s q) (both_closed p q && (op_typed && out)) rest in
    let nm : Bool = names_columns (width (relation_at s.catalog) p) c in
    and-both (well_formed (relation_at s.catalog) p) (well_formed (relation_at s.catalog) q && (both_closed p q && nm))
    (typed-well-formed s p (and-left (typed s p) (typed s q && (both_closed p q && (op_typed && out))) h))
    (and-both (well_formed (relation_at s.catalog) q) (both_closed p q && nm)
    (typed-well-formed s q (and-left (typed s q) (both_closed p q && (op_typed && out)) rest))
    (and-both (both_closed p q) nm (and-left (both_closed p q) (op_typed && out) more)
    (names-at s p c (and-right op_typed out (and-right (both_closed p q) (op_typed && out) more)))))
typed-well-formed s (exchange n c k m p) h =
    let ts : List ColType = types_of (relation_at s.catalog) p in
    let out : Bool = is_output s ts c in
    let kind_typed : Bool = is_kind s ts k in
    let more : Bool = may_merge k m && out in
    let rest = and-right (typed s p) (kind_typed && (are_columns (length ts) (order_columns m) && more)) h in
    and-both (well_formed (relation_at s.catalog) p) (names_columns (width (relation_at s.catalog) p) c)
    (typed-well-formed s p (and-left (typed s p) (kind_typed && (are_columns (length ts) (order_columns m) && more)) h))
    (names-at s p c (and-right (may_merge k m) out (and-right (are_columns (length ts) (order_columns m)) more (and-right kind_typed (are_columns (length ts) (order_columns m) && more) rest))))
