-- A claimed order that is total, also by what is known of columns, tells serial rows apart.
use Rattle.std.proofs.Common.{◌≡◌, ⊎_elim, ℕ, true, List, arith}
use Rattle.vx_rows_values.specs.Values.{Row}
use Rattle.vx_rows_values.specs.Order.{order_columns}
use Rattle.vx_catalog_relations.specs.Relation.{Relation, KeysHold, Meets}
use Rattle.vx_plan_nodes.specs.Plan.{Plan, claim}
use Rattle.vx_plan_nodes.specs.Types.{width, well_formed}
use Rattle.vx_plan_nodes.specs.Serial.{rows, serial}
use Rattle.vx_plan_facts.specs.Equal.{equal_at}
use Rattle.vx_plan_facts.specs.Fixed.{fixed_at}
use Rattle.vx_plan_facts.specs.Determined.{determined}
use Rattle.vx_plan_facts.specs.DeterminedFacts.{ClaimedKeysHold}
use Rattle.vx_plan_facts.specs.Following.{total_follows}
use Rattle.vx_plan_facts.specs.FollowLaws.{Agreeing}
use Rattle.vx_plan_facts.specs.RowFacts.{all_inputs_fit}
use Rattle.vx_plan_facts.proofs.FollowFacts.{total-follows}
use Rattle.vx_check_rules.specs.Rules.{is_total_order}
use Rattle.vx_check_rules.specs.Derived.{is_total_derived}
use Rattle.vx_exec_laws.proofs.Parts.{or-cases}
use Rattle.vx_exec_laws.proofs.Wide.{serial-wide}
use Rattle.vx_exec_laws.proofs.WellFormed.{names, named}
use Rattle.vx_exec_laws.proofs.FirstRows.{Reports, order-tells}
use Rattle.vx_exec_laws.proofs.DerivedPairs.{agreeing}
use Rattle.vx_exec_laws.proofs.DerivedSerial.{keys-here, serial-pairs}

pub order-tells-derived : (catalog : ℕ → Relation) (db : ℕ → List Row) → ((r : ℕ) → Meets (catalog r) (db r)) → (p : Plan) (base : List Row)
    → well_formed catalog p ≡ true → all_inputs_fit catalog p ≡ true → serial db p ≡ rows base → ClaimedKeysHold db p → is_total_derived catalog p ≡ true → Reports (order_columns (claim p).order) base
order-tells-derived catalog db meets p base wf fit is hold total =
    let w : ℕ = width catalog p in
    let cols : List ℕ = order_columns (claim p).order in
    let keys : List (List ℕ) = (claim p).keys in
    let keys_hold : KeysHold keys base = keys-here db p hold base is in
    ⊎_elim
    (λ g. order-tells catalog db meets p base wf is keys_hold g)
    (λ g.
    let agree_base : Agreeing w (equal_at catalog p) (determined catalog p) base
    = agreeing w (equal_at catalog p) (fixed_at catalog p) (determined catalog p) base (serial-pairs catalog db meets p fit hold base is) w (omega arith) in
    λ a b oa ob e. total-follows w (equal_at catalog p) (determined catalog p) base agree_base (serial-wide catalog db meets p base wf is) keys (named w (claim p) (names catalog p wf)).2 keys_hold cols g a b oa ob e)
    (or-cases (is_total_order catalog p) (total_follows w (determined catalog p) keys cols) total)
