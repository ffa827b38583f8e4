-- What a well-formed plan says of its inputs, and of its claims.
use Rattle.std.proofs.Common.{◌≡◌, ℕ, ◌==◌, Bool, true, ◌&&◌, refl, eqb-true}
use Rattle.std.specs.List.{list_all}
use Rattle.vx_rows_values.specs.Order.{order_columns}
use Rattle.vx_catalog_relations.specs.Relation.{Relation}
use Rattle.vx_plan_nodes.specs.Plan.{Claim, Plan, scan, unary, binary, exchange, claim, Unary, Binary, union, join, semi_join}
use Rattle.vx_plan_nodes.specs.Types.{well_formed, names_columns, part_columns, width}
use Rattle.vx_catalog_relations.specs.Catalog.{all_below}
use Rattle.vx_plan_nodes.specs.Phases.{phase_fits, both_closed, phased}
use Rattle.vx_exec_laws.proofs.Bags.{and-left, and-right, and-both}

-- over one input: the input is well formed, the operator's phase fits it, and the claim names columns
pub well-under : (catalog : ℕ → Relation) (k : ℕ) (c : Claim) (op : Unary) (p : Plan) → well_formed catalog (unary k c op p) ≡ true
    → (well_formed catalog p ≡ true) × (phase_fits op p ≡ true) × (names_columns (width catalog (unary k c op p)) c ≡ true)
well-under catalog k c op p h =
    let named : Bool = names_columns (width catalog (unary k c op p)) c in
    let rest = and-right (well_formed catalog p) (phase_fits op p && named) h in
    (and-left (well_formed catalog p) (phase_fits op p && named) h, and-left (phase_fits op p) named rest, and-right (phase_fits op p) named rest)

four : (a b c d : Bool) → (a && (b && (c && d))) ≡ true → (a ≡ true) × (b ≡ true) × (c ≡ true) × (d ≡ true)
four a b c d h =
    let h1 = and-right a (b && (c && d)) h in
    let h2 = and-right b (c && d) h1 in
    (and-left a (b && (c && d)) h, and-left b (c && d) h1, and-left c d h2, and-right c d h2)

-- over two: both are well formed and closed, and the claim names columns
pub well-both : (catalog : ℕ → Relation) (k : ℕ) (c : Claim) (op : Binary) (p q : Plan) → well_formed catalog (binary k c op p q) ≡ true
    → (well_formed catalog p ≡ true) × (well_formed catalog q ≡ true) × (both_closed p q ≡ true) × (names_columns (width catalog (binary k c op p q)) c ≡ true)
well-both catalog k c union p q h =
    let same : Bool = width catalog p == width catalog q in
    let named : Bool = names_columns (width catalog p) c in
    let t = four (well_formed catalog p) (well_formed catalog q) (both_closed p q) (same && named) h in
    (t.0, t.1, t.2, and-right same named t.3)
well-both catalog k c (join m on) p q h = four (well_formed catalog p) (well_formed catalog q) (both_closed p q) (names_columns (width catalog (binary k c (join m on) p q)) c) h
well-both catalog k c (semi_join matched on conditions) p q h = four (well_formed catalog p) (well_formed catalog q) (both_closed p q) (names_columns (width catalog (binary k c (semi_join matched on conditions) p q)) c) h

-- the inputs of a union are equally wide
pub union-widths : (catalog : ℕ → Relation) (k : ℕ) (c : Claim) (p q : Plan) → well_formed catalog (binary k c union p q) ≡ true → width catalog p ≡ width catalog q
union-widths catalog k c p q h =
    let same : Bool = width catalog p == width catalog q in
    let named : Bool = names_columns (width catalog p) c in
    eqb-true (width catalog p) (width catalog q) (and-left same named (four (well_formed catalog p) (well_formed catalog q) (both_closed p q) (same && named) h).3)

-- a claim names columns with its part, its order and its keys
pub named : (w : ℕ) (c : Claim) → names_columns w c ≡ true → (all_below w (part_columns c.part) ≡ true) × (all_below w (order_columns c.order) ≡ true) × (list_all (all_below w) c.keys ≡ true)
named w c h =
    let rest = and-right (all_below w (part_columns c.part)) (all_below w (order_columns c.order) && list_all (all_below w) c.keys) h in (
      and-left (all_below w (part_columns c.part)) (all_below w (order_columns c.order) && list_all (all_below w) c.keys) h,
      and-left (all_below w (order_columns c.order)) (list_all (all_below w) c.keys) rest,
      and-right (all_below w (order_columns c.order)) (list_all (all_below w) c.keys) rest,
    )

-- the claim names columns
pub names : (catalog : ℕ → Relation) (p : Plan) → well_formed catalog p ≡ true → names_columns (width catalog p) (claim p) ≡ true
names catalog (scan k c r m z) h = h
names catalog (unary k c op p) h = (well-under catalog k c op p h).2
names catalog (binary k c op p q) h = (well-both catalog k c op p q h).3
names catalog (exchange k c kind m p) h = and-right (well_formed catalog p) (names_columns (width catalog p) c) h

-- the phases fit
pub well-phased : (catalog : ℕ → Relation) (p : Plan) → well_formed catalog p ≡ true → phased p ≡ true
well-phased catalog (scan k c r m z) h = refl
well-phased catalog (unary k c op p) h =
    let t = well-under catalog k c op p h in
    and-both (phased p) (phase_fits op p) (well-phased catalog p t.0) t.1
well-phased catalog (binary k c op p q) h =
    let t = well-both catalog k c op p q h in
    and-both (phased p) (phased q && both_closed p q) (well-phased catalog p t.0) (and-both (phased q) (both_closed p q) (well-phased catalog q t.1) t.2)
well-phased catalog (exchange k c kind m p) h = well-phased catalog p (and-left (well_formed catalog p) (names_columns (width catalog p) c) h)
