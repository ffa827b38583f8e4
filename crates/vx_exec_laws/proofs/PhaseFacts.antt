-- Phases that fit, seen from below and from each node.
use Rattle.std.proofs.Common.{◌≡◌, Bool, true, false, not, ◌&&◌, ◌||◌, refl, sym, ap, ap₂, ◌∙◌}
use Rattle.vx_catalog_relations.specs.Catalog.{relation_at}
use Rattle.vx_plan_nodes.specs.Plan.{Unary, Plan, scan, unary, binary, exchange}
use Rattle.vx_plan_nodes.specs.Phases.{is_open, unary_open, opens, phase_fits, both_closed, phased, phase_seen, seen_below, phases_seen}
use Rattle.vx_plan_nodes.specs.Types.{types_of}
use Rattle.vx_plan_nodes.specs.Typed.{Scope, is_binary, is_output, typed}
use Rattle.vx_plan_nodes.specs.Types.{binary_types}
use Rattle.vx_exec_laws.specs.Forms.{PhasesAgree}
use Rattle.std.proofs.Math.Bool.{and-false, and_comm}
use Rattle.vx_check_rules.proofs.Bools.{or-false, or-true, and-true}
use Rattle.vx_exec_laws.proofs.Phased.{by-phase}
use Rattle.vx_exec_laws.proofs.Bags.{and-left, and-right, and-both}
use Rattle.vx_plan_nodes.proofs.ErasedFacts.{typed-below}

seen : (u : Bool) (p : Plan) → phases_seen u p ≡ (phased p && (u || not (is_open p)))
seen true (scan n c r m z) = refl
seen false (scan n c r m z) = refl
seen u (unary n c op p) = go u op (seen false p) (seen true p)
  where
    always : (u a : Bool) → a ≡ (a && (u || true))
    always u a = sym (ap (λ v. a && v) (or-true u) ∙ and-true a)

    -- a sort of parts sees what its input sees
    through : (u a o : Bool) (seen_by : Bool → Bool) → seen_by false ≡ (a && not o) → seen_by true ≡ (a && true) → ((u && o) && seen_by u) ≡ ((a && o) && (u || not o))
    through true a o seen_by e f = ap (λ v. o && v) (f ∙ and-true a) ∙ (and_comm o a ∙ sym (and-true (a && o)))
    through false a true seen_by e f = sym (and-false (a && true))
    through false a false seen_by e f = sym (ap (λ v. v && true) (and-false a))

    go : (u : Bool) (op : Unary) → phases_seen false p ≡ (phased p && not (is_open p)) → phases_seen true p ≡ (phased p && true)
        → (phase_seen u op p && phases_seen (seen_below u op) p) ≡ ((phased p && phase_fits op p) && (u || not (unary_open op (is_open p))))
    go u op e f = by-phase (λ op g. (g.seen u p && phases_seen (g.seen_under u) p) ≡ ((phased p && g.fits p) && (u || not (g.open_over (is_open p)))))
        (λ op v. e ∙ always u (phased p && not (is_open p)))
        (λ by aggregates. ap (λ v. u && v) e ∙ (and_comm u (phased p && not (is_open p)) ∙ ap (λ v. (phased p && not (is_open p)) && v) (sym (or-false u))))
        (λ cols. through u (phased p) (is_open p) (λ v. phases_seen v p) e f)
        (λ by aggregates. ap (λ v. opens by aggregates p && v) (f ∙ and-true (phased p)) ∙ (and_comm (opens by aggregates p) (phased p) ∙ always u (phased p && opens by aggregates p))) op
seen u (binary n c op p q) = ap₂ (λ a b. a && b) (seen false p) (seen false q) ∙ (shuffle (phased p) (phased q) (not (is_open p)) (not (is_open q)) ∙ sym (ap (λ v. here && v) (or-true u) ∙ and-true here))
  where
    here : Bool
    here = phased p && (phased q && (not (is_open p) && not (is_open q)))

    shuffle : (a b x y : Bool) → ((a && x) && (b && y)) ≡ (a && (b && (x && y)))
    shuffle false b x y = refl
    shuffle true b false y = sym (and-false b)
    shuffle true b true y = refl
seen u (exchange n c k m p) = seen u p

well : (s : Scope) (p : Plan) → typed s p ≡ true → phased p ≡ true
well s (scan n c r m z) h = refl
well s (unary n c op p) h = let t = typed-below s n c op p h in and-both (phased p) (phase_fits op p) (well s p t.0) t.1
well s (binary n c op p q) h =
    let rest : Bool = is_binary (types_of (relation_at s.catalog) p) (types_of (relation_at s.catalog) q) op && is_output s (binary_types op (types_of (relation_at s.catalog) p) (types_of (relation_at s.catalog) q)) c in
    let k = and-right (typed s p) (typed s q && (both_closed p q && rest)) h in
    and-both (phased p) (phased q && both_closed p q) (well s p (and-left (typed s p) (typed s q && (both_closed p q && rest)) h))
    (and-both (phased q) (both_closed p q) (well s q (and-left (typed s q) (both_closed p q && rest) k)) (and-left (both_closed p q) rest (and-right (typed s q) (both_closed p q && rest) k)))
well s (exchange n c k m p) h = well s p (and-left (typed s p) _ h)

pub phases-agree : PhasesAgree
phases-agree = record { seen = seen false; well = well }
