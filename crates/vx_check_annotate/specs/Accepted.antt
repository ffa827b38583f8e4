-- That the claims which are found are accepted where any are.
use Rattle.std.specs.Prelude.{◌≡◌, ◌<◌, ◌⊎◌, true, List, length, None}
use Rattle.vx_rows_values.specs.declared.order.OrderEntry.{OrderEntry}
use Rattle.vx_catalog_relations.specs.Catalog.{relation_at}
use Rattle.vx_plan_nodes.specs.Plan.{Part, Plan, claim}
use Rattle.vx_plan_nodes.specs.Typed.{Scope, typed}
use Rattle.vx_check_rules.specs.Rules.{allowed}
use Rattle.vx_check_rules.specs.Refusal.{first_refused}
use Rattle.vx_check_options.specs.Options.{is_within}
use Rattle.vx_check_options.specs.Laws.{Keeps, AtEach}
use Rattle.vx_check_options.specs.Claimed.{IsClaimed, IsReady}

-- fewer than 16 keys are claimed at the node, so that none was left out
abbrev pub HasRoom : Plan → Type 0
HasRoom p = length (claim p).keys < 16

-- where claims that keep those of a plan are accepted, those that are found are, if fewer than 16 keys are found at each node, or if the plan's own claims are accepted;
-- no bound may cut off a part that a node could claim, unless they are the plan's own
abbrev pub FoundIsAccepted : Type 0
FoundIsAccepted = (s : Scope) (p y : Plan) (q : Part) (order : List OrderEntry) (x : Plan) → IsReady s p q order → Keeps p y → (is_within (relation_at s.catalog) p ≡ true) ⊎ (y ≡ p) → typed s y ≡ true
    → allowed (relation_at s.catalog) y ≡ true → IsClaimed (relation_at s.catalog) p q order x → (AtEach HasRoom x) ⊎ (y ≡ p) → first_refused (relation_at s.catalog) x ≡ None
