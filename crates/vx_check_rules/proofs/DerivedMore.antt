-- What the first rule table allows, the one with what is known of columns allows too.
use Rattle.std.proofs.Common.{◌≡◌, ℕ, Bool, true, false, not, ◌&&◌, ◌||◌, refl}
use Rattle.vx_catalog_relations.specs.Relation.{Relation}
use Rattle.vx_rows_values.specs.Order.{order_columns}
use Rattle.vx_rows_values.proofs.Booleans.{and-left, and-right, and-both}
use Rattle.vx_plan_nodes.specs.Plan.{select, project, distinct, sort, group, limit, Plan, scan, unary, binary, exchange, claim, size, is_one}
use Rattle.vx_plan_nodes.specs.Types.{width}
use Rattle.vx_plan_facts.specs.Determined.{determined, determined_aside}
use Rattle.vx_plan_facts.specs.Equal.{equal_at}
use Rattle.vx_plan_facts.specs.Following.{set_of, total_follows}
use Rattle.vx_check_rules.specs.Rules.{sizes_match, not_replicated, inputs_match, order_given, first_rows_known, part_shown, order_shown, keys_shown, keys_of, allowed, allowed_here, is_total_order, root_allowed}
use Rattle.vx_check_rules.specs.Derived.{unary_meets_equally, binary_meets_equally, inputs_match_derived, needed_follows, order_given_derived, first_rows_known_derived, part_derived, part_shown_derived, order_derived, order_shown_derived, members, key_below, key_derived, keys_shown_derived, allowed_here_derived, allowed_derived, root_allowed_derived}
use Rattle.vx_check_rules.proofs.Bools.{or-left, all-more}

pub eight : (a b c d e f g h : Bool) → (a && (b && (c && (d && (e && (f && (g && h))))))) ≡ true
    → (a ≡ true) × (b ≡ true) × (c ≡ true) × (d ≡ true) × (e ≡ true) × (f ≡ true) × (g ≡ true) × (h ≡ true)
eight a b c d e f g h k =
    let k1 = and-right a (b && (c && (d && (e && (f && (g && h)))))) k in
    let k2 = and-right b (c && (d && (e && (f && (g && h))))) k1 in
    let k3 = and-right c (d && (e && (f && (g && h)))) k2 in
    let k4 = and-right d (e && (f && (g && h))) k3 in
    let k5 = and-right e (f && (g && h)) k4 in
    let k6 = and-right f (g && h) k5 in
    (and-left a _ k, and-left b _ k1, and-left c _ k2, and-left d _ k3, and-left e _ k4, and-left f _ k5, and-left g _ k6, and-right g h k6)

pub all-eight : (a b c d e f g h : Bool) → a ≡ true → b ≡ true → c ≡ true → d ≡ true → e ≡ true → f ≡ true → g ≡ true → h ≡ true
    → (a && (b && (c && (d && (e && (f && (g && h))))))) ≡ true
all-eight a b c d e f g h ha hb hc hd he hf hg hh =
    and-both a (b && (c && (d && (e && (f && (g && h)))))) ha (and-both b (c && (d && (e && (f && (g && h))))) hb (and-both c (d && (e && (f && (g && h)))) hc
    (and-both d (e && (f && (g && h))) hd (and-both e (f && (g && h)) he (and-both f (g && h) hf (and-both g h hg hh))))))

-- the first rows of a limit's input
pub first-more : (catalog : ℕ → Relation) (p : Plan) → first_rows_known catalog p ≡ true → first_rows_known_derived catalog p ≡ true
first-more catalog (scan n c r m z) h = h
first-more catalog (unary n c (select fs) p) h = h
first-more catalog (unary n c (project es) p) h = h
first-more catalog (unary n c (distinct cols) p) h = h
first-more catalog (unary n c (sort of_parts cols) p) h = h
first-more catalog (unary n c (group phase by aggregates) p) h = h
first-more catalog (unary n c (limit m) p) h =
    let total : Bool = is_total_order catalog p in
    let follows : Bool = total_follows (width catalog p) (determined catalog p) (claim p).keys (order_columns (claim p).order) in
    and-both (is_one (size p)) (total || follows) (and-left (is_one (size p)) total h) (or-left total follows (and-right (is_one (size p)) total h))
first-more catalog (binary n c op p q) h = h
first-more catalog (exchange n c k m p) h = h

inputs-more : (catalog : ℕ → Relation) (p : Plan) → inputs_match p ≡ true → inputs_match_derived catalog p ≡ true
inputs-more catalog (scan n c r m z) h = h
inputs-more catalog (unary n c op p) h = or-left (inputs_match (unary n c op p)) (unary_meets_equally (equal_at catalog p) op (claim p).part) h
inputs-more catalog (binary n c op p q) h =
    or-left (inputs_match (binary n c op p q)) (binary_meets_equally (equal_at catalog p) (equal_at catalog q) op (claim p).part (claim q).part) h
inputs-more catalog (exchange n c k m p) h = h

here-more : (catalog : ℕ → Relation) (p : Plan) → allowed_here catalog p ≡ true → allowed_here_derived catalog p ≡ true
here-more catalog p h =
    let t = eight (sizes_match p) (not_replicated p) (inputs_match p) (order_given p) (first_rows_known catalog p) (part_shown catalog p) (order_shown catalog p) (keys_shown catalog p) h in
    all-eight (sizes_match p) (not_replicated p) (inputs_match_derived catalog p) (order_given_derived catalog p) (first_rows_known_derived catalog p) (part_shown_derived catalog p)
    (order_shown_derived catalog p) (keys_shown_derived catalog p)
    t.0 t.1 (inputs-more catalog p t.2) (or-left (order_given p) (needed_follows catalog p) t.3) (first-more catalog p t.4)
    (or-left (part_shown catalog p) (part_derived catalog p (claim p).part) t.5) (or-left (order_shown catalog p) (order_derived catalog p (claim p).order) t.6)
    (all-more (keys_of catalog p) (key_derived catalog p) (claim p).keys
    (λ key e. or-left (keys_of catalog p key) (keys_of catalog p (members (width catalog p) (determined_aside catalog p (set_of key))) || key_below catalog p key) e) t.7)

pub nodes-more : (catalog : ℕ → Relation) (p : Plan) → allowed catalog p ≡ true → allowed_derived catalog p ≡ true
nodes-more catalog (scan n c r m z) h = here-more catalog (scan n c r m z) h
nodes-more catalog (unary n c op p) h =
    let here : Bool = allowed_here catalog (unary n c op p) in
    and-both (allowed_derived catalog p) (allowed_here_derived catalog (unary n c op p)) (nodes-more catalog p (and-left (allowed catalog p) here h))
    (here-more catalog (unary n c op p) (and-right (allowed catalog p) here h))
nodes-more catalog (binary n c op p q) h =
    let here : Bool = allowed_here catalog (binary n c op p q) in
    let rest = and-right (allowed catalog p) (allowed catalog q && here) h in
    and-both (allowed_derived catalog p) (allowed_derived catalog q && allowed_here_derived catalog (binary n c op p q))
    (nodes-more catalog p (and-left (allowed catalog p) (allowed catalog q && here) h))
    (and-both (allowed_derived catalog q) (allowed_here_derived catalog (binary n c op p q)) (nodes-more catalog q (and-left (allowed catalog q) here rest))
    (here-more catalog (binary n c op p q) (and-right (allowed catalog q) here rest)))
nodes-more catalog (exchange n c k m p) h =
    let here : Bool = allowed_here catalog (exchange n c k m p) in
    and-both (allowed_derived catalog p) (allowed_here_derived catalog (exchange n c k m p)) (nodes-more catalog p (and-left (allowed catalog p) here h))
    (here-more catalog (exchange n c k m p) (and-right (allowed catalog p) here h))

pub root-more : (catalog : ℕ → Relation) (p : Plan) (is_total : Bool) → root_allowed catalog is_total p ≡ true → root_allowed_derived catalog is_total p ≡ true
root-more catalog p is_total h =
    let follows : Bool = total_follows (width catalog p) (determined catalog p) (claim p).keys (order_columns (claim p).order) in
    and-both (is_one (size p)) (not is_total || (is_total_order catalog p || follows)) (and-left (is_one (size p)) (not is_total || is_total_order catalog p) h)
    (by is_total (and-right (is_one (size p)) (not is_total || is_total_order catalog p) h))
  where
    by : (t : Bool) → (not t || is_total_order catalog p) ≡ true
        → (not t || (is_total_order catalog p || total_follows (width catalog p) (determined catalog p) (claim p).keys (order_columns (claim p).order))) ≡ true
    by true h = or-left (is_total_order catalog p) (total_follows (width catalog p) (determined catalog p) (claim p).keys (order_columns (claim p).order)) h
    by false h = refl
