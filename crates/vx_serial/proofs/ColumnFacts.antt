-- Every node of a typed plan fits the types of its inputs.
use Rattle.std.proofs.Common.{◌≡◌, ℕ, nat_lt, Bool, true, false, ◌&&◌, cond, List, length, ltb-true, Option, Some, None, refl}
use Rattle.std.specs.Option.{option_or}
use Rattle.vx_rows_values.specs.declared.value.ColType.{ColType}
use Rattle.vx_rows_values.specs.Order.{order_columns}
use Rattle.vx_catalog_relations.specs.Catalog.{relation_at}
use Rattle.vx_rows_values.proofs.Booleans.{and-left, and-right}
use Rattle.vx_plan_nodes.specs.Known.{unary_known, first_unknown}
use Rattle.vx_plan_nodes.specs.Plan.{Plan, scan, unary, binary, exchange}
use Rattle.vx_plan_nodes.specs.Typed.{Scope, are_columns, is_unary, is_binary, is_kind, is_size, is_output, may_merge, typed}
use Rattle.vx_plan_nodes.specs.Phases.{phase_fits, both_closed}
use Rattle.vx_plan_nodes.specs.Types.{types_of}
use Rattle.vx_serial.specs.Evaluated.{IsFit}

-- where the first of two is none, both are
none-first : (a b : Option ℕ) → option_or a b ≡ None → a ≡ None
none-first (Some n) b h = h
none-first None b h = refl

none-second : (a b : Option ℕ) → option_or a b ≡ None → b ≡ None
none-second (Some n) b h = cc
none-second None b h = h

known-here : (b : Bool) (n : ℕ) → cond b None (Some n) ≡ None → b ≡ true
known-here true n h = refl
known-here false n h = cc

pub typed-fits : (s : Scope) (p : Plan) → typed s p ≡ true → first_unknown (relation_at s.catalog) p ≡ None → IsFit s.catalog p
typed-fits s (scan n c r m z) h g =
    ltb-true r (length s.catalog) (and-left (nat_lt r (length s.catalog)) (is_size s.sizes z && is_output s (types_of (relation_at s.catalog) (scan n c r m z)) c) h)
typed-fits s (unary n c op p) h g =
    let here : Bool = is_unary (types_of (relation_at s.catalog) p) op in
    let out : Bool = is_output s (types_of (relation_at s.catalog) (unary n c op p)) c in
    let rest = and-right (typed s p) (phase_fits op p && (here && out)) h in
    let known : Bool = unary_known (types_of (relation_at s.catalog) p) op in
    let below : Option ℕ = first_unknown (relation_at s.catalog) p in (
      typed-fits s p (and-left (typed s p) (phase_fits op p && (here && out)) h) (none-first below (cond known None (Some n)) g),
      and-left here out (and-right (phase_fits op p) (here && out) rest),
      known-here known n (none-second below (cond known None (Some n)) g),
    )
typed-fits s (binary n c op p q) h g =
    let here : Bool = is_binary (types_of (relation_at s.catalog) p) (types_of (relation_at s.catalog) q) op in
    let out : Bool = is_output s (types_of (relation_at s.catalog) (binary n c op p q)) c in
    let more : Bool = both_closed p q && (here && out) in
    let rest = and-right (typed s p) (typed s q && more) h in
    let left : Option ℕ = first_unknown (relation_at s.catalog) p in
    let right : Option ℕ = first_unknown (relation_at s.catalog) q in (
      typed-fits s p (and-left (typed s p) (typed s q && more) h) (none-first left right g),
      typed-fits s q (and-left (typed s q) more rest) (none-second left right g),
      and-left here out (and-right (both_closed p q) (here && out) (and-right (typed s q) more rest)),
    )
typed-fits s (exchange n c k m p) h g =
    let ts : List ColType = types_of (relation_at s.catalog) p in
    typed-fits s p (and-left (typed s p) (is_kind s ts k && (are_columns (length ts) (order_columns m) && (may_merge k m && is_output s ts c))) h) g
