-- What columns determine at a node of whose columns is known.
use Rattle.std.proofs.Common.{◌≡◌, ℕ, ◌<◌, Bool, true, ◌&&◌, ◌||◌, List, map, slice_index, sym, ◌∙◌, arith}
use Rattle.std.specs.List.{list_any, list_all}
use Rattle.vx_rows_values.specs.Lists.{is_some_list}
use Rattle.vx_catalog_relations.specs.Relation.{Relation}
use Rattle.vx_plan_nodes.specs.Plan.{Plan, claim}
use Rattle.vx_plan_nodes.specs.Phases.{first_columns}
use Rattle.vx_plan_nodes.specs.Types.{width}
use Rattle.vx_plan_facts.specs.Equal.{equal_at}
use Rattle.vx_plan_facts.specs.Fixed.{fixed_at}
use Rattle.vx_plan_facts.specs.Facts.{Facts, AreFactsOf}
use Rattle.vx_plan_facts.specs.Determined.{Columns, by_inputs, determined}
use Rattle.vx_plan_facts.specs.DeterminedFacts.{one_step}
use Rattle.vx_plan_facts.specs.Asking.{IsKnown}
use Rattle.vx_plan_facts.specs.FactsView.{facts_of}
use Rattle.vx_plan_facts.specs.KnownView.{IsKnownOf}
use Rattle.vx_plan_facts.specs.declared.known.KnownColumns as rust_known
use Rattle.vx_plan_facts.proofs.Tests.{or-left, or-right}
use Rattle.vx_plan_facts.proofs.ColumnSets.{any-at}
use Rattle.vx_plan_facts.proofs.Least.{least-sets}
use Rattle.vx_plan_facts.proofs.Searching.{top-stands}
use Rattle.vx_rows_values.proofs.Booleans.{and-both}
use Rattle.vx_check_rules.proofs.CopyFacts.{eq_swap}
use Rattle.vx_check_rules.proofs.Shortening.{Closes}

-- equal columns are equal either way
equal-swap : (catalog : ℕ → Relation) (p : Plan) (k : Facts) → AreFactsOf catalog p k → (c d : ℕ) → c < width catalog p → d < width catalog p
    → equal_at catalog p c d ≡ equal_at catalog p d c
equal-swap catalog p k are c d l m =
    let wide = are.wide in
    sym (are.equal c d (omega (arith, l, wide)) (omega (arith, m, wide))) ∙ eq_swap (slice_index k.firsts c) (slice_index k.firsts d)
    ∙ are.equal d c (omega (arith, m, wide)) (omega (arith, l, wide))

-- with a column those that are equal to it
equal-reached : (catalog : ℕ → Relation) (p : Plan) (s : Columns) (c d : ℕ) → c < width catalog p → equal_at catalog p c d ≡ true → s c ≡ true → one_step catalog p s d ≡ true
equal-reached catalog p s c d l same has =
    let w : ℕ = width catalog p in
    let equal : Bool = list_any (λ x. s x && equal_at catalog p x d) (first_columns w) in
    let keyed : Bool = list_any (list_all s) (claim p).keys in
    let fixed : Bool = is_some_list (fixed_at catalog p d) in
    let there : equal ≡ true = any-at (λ x. s x && equal_at catalog p x d) w c l (and-both (s c) (equal_at catalog p c d) has same) in
    or-left (s d || (fixed || (equal || keyed))) (by_inputs catalog p s d)
    (or-right (s d) (fixed || (equal || keyed)) (or-right fixed (equal || keyed) (or-left equal keyed there)))

closes-at : (catalog : ℕ → Relation) (facts : List Facts) (p : Plan) → IsKnown catalog facts p → Closes (width catalog p) (equal_at catalog p) (determined catalog p)
closes-at catalog facts p known =
    let top = top-stands catalog facts p known.numbered in
    record {
      holds = λ s c l h. (least-sets catalog p known.formed s).holds c h;
      again = λ s t h. (least-sets catalog p known.formed s).least (determined catalog p t) h (least-sets catalog p known.formed t).closed;
      equal = λ s c d l m same has.
          (least-sets catalog p known.formed s).closed d m (equal-reached catalog p (determined catalog p s) c d l same has);
      swap = λ c d l m same. sym (equal-swap catalog p top.0 top.2 c d l m) ∙ same;
    }

pub known-closes : (catalog : ℕ → Relation) (k : rust_known.KnownColumns) (p : Plan) → IsKnownOf catalog k p
    → Closes (width catalog p) (equal_at catalog p) (determined catalog p)
known-closes catalog k p h = closes-at catalog (map facts_of k.facts.items) p h.known
