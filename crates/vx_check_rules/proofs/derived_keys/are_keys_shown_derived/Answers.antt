use Rattle.std.proofs.Common.{◌∙◌, ◌+◌, ◌&&◌, sym, ap, map, drop, Bool, List, ℕ, Vec, Global, arith}
use Rattle.std.proofs.lemmas.List.{at_drop_all}
use Rattle.std.specs.List.{list_all}
use Rattle.vx_catalog_relations.specs.Catalog.{relation_at}
use Rattle.vx_plan_nodes.specs.Plan.{claim}
use Rattle.vx_plan_nodes.specs.Outline.{plan_of}
use Rattle.vx_plan_nodes.specs.Types.{width}
use Rattle.vx_check_rules.specs.Derived.{key_derived, key_derived_by}
use Rattle.vx_check_rules.proofs.ColumnFacts.{lists-here}
use Rattle.vx_check_rules.proofs.KeySteps.{key-at, derived-by}
use Rattle.vx_check_rules.proofs.NamedNodes.{keys-below}
use Rattle.vx_check_rules.proofs.derived_keys.are_keys_shown_derived.Goals as goal

pub is_key_derived-requires : goal.is_key_derived-requires
is_key_derived-requires c =
    let catalog = relation_at c.args.catalog.now in
    let p = plan_of c.args.node.now in
    let known = c.loop-key.invariant.kept catalog c.requires.known p c.requires.known in
    let below = key-at (width catalog p) c.claimed_keys-keys.result.now (claim p).keys c.loop-key.key-index c.key-item.result c.claimed_keys-keys.ensures
    (keys-below catalog c.args.known.now p c.requires.known) c.loop-key-test.true c.key-item.is in
    rw c.as_slice.ensures.value (catalog, record { known = known; key_below = below })

pub returns-then-not-is_key_derived-clause-shown : goal.returns-then-not-is_key_derived-clause-shown
returns-then-not-is_key_derived-clause-shown c =
    let catalog = relation_at c.args.catalog.now in
    let p = plan_of c.args.node.now in
    let shown : List ℕ → Bool = key_derived catalog p in
    let known = c.loop-key.invariant.kept catalog c.requires.known p c.requires.known in
    let below = key-at (width catalog p) c.claimed_keys-keys.result.now (claim p).keys c.loop-key.key-index c.key-item.result c.claimed_keys-keys.ensures
    (keys-below catalog c.args.known.now p c.requires.known) c.loop-key-test.true c.key-item.is in
    let x : List ℕ = c.key-item.result.items in
    let told =
    (rw c.as_slice.ensures.value at c.is_key_derived.ensures.derived) catalog (record { known = known; key_below = below })
    ∙ ap (λ ks. key_derived_by catalog p ks x) c.node_keyed-keyed.ensures ∙ derived-by catalog p x below in
    let rest : Bool = list_all shown (map (λ (v : Vec ℕ Global). v.items) (drop (c.loop-key.key-index + 1) c.claimed_keys-keys.result.now)) in
    sym (ap (list_all shown) (sym c.claimed_keys-keys.ensures) ∙ c.loop-key.invariant.rest
    ∙ lists-here shown c.claimed_keys-keys.result.now c.loop-key.key-index c.key-item.result c.loop-key-test.true c.key-item.is
    ∙ ap (λ b. b && rest) (sym told ∙ c.if-not-is_key_derived.true))

pub returns-clause-shown : goal.returns-clause-shown
returns-clause-shown c =
    let catalog = relation_at c.args.catalog.now in
    let p = plan_of c.args.node.now in
    let shown : List ℕ → Bool = key_derived catalog p in
    sym (ap (list_all shown) (sym c.claimed_keys-keys.ensures) ∙ c.loop-key.invariant.rest
    ∙ at_drop_all (λ vs. list_all shown (map (λ (v : Vec ℕ Global). v.items) vs)) c.claimed_keys-keys.result.now c.loop-key.key-index (omega (arith, c.loop-key-test.false)))

pub loop-key-preserved : goal.loop-key-preserved
loop-key-preserved c =
    let catalog = relation_at c.args.catalog.now in
    let p = plan_of c.args.node.now in
    let shown : List ℕ → Bool = key_derived catalog p in
    let known = c.loop-key.invariant.kept catalog c.requires.known p c.requires.known in
    let below = key-at (width catalog p) c.claimed_keys-keys.result.now (claim p).keys c.loop-key.key-index c.key-item.result c.claimed_keys-keys.ensures
    (keys-below catalog c.args.known.now p c.requires.known) c.loop-key-test.true c.key-item.is in
    let x : List ℕ = c.key-item.result.items in
    let told =
    (rw c.as_slice.ensures.value at c.is_key_derived.ensures.derived) catalog (record { known = known; key_below = below })
    ∙ ap (λ ks. key_derived_by catalog p ks x) c.node_keyed-keyed.ensures ∙ derived-by catalog p x below in
    let rest : Bool = list_all shown (map (λ (v : Vec ℕ Global). v.items) (drop (c.loop-key.key-index + 1) c.claimed_keys-keys.result.now)) in
    record {
      kept = λ cat here q h.
          let first = c.loop-key.invariant.kept cat here in
          c.is_key_derived.ensures.kept cat (first p here) q (first q h);
      rest = c.loop-key.invariant.rest
          ∙ lists-here shown c.claimed_keys-keys.result.now c.loop-key.key-index c.key-item.result c.loop-key-test.true c.key-item.is
          ∙ ap (λ b. b && rest) (sym told ∙ c.if-not-is_key_derived.false);
    }
