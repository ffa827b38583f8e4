use Rattle.std.proofs.Common.{◌∙◌, ◌+◌, ◌&&◌, sym, ap, map, drop, Bool, List, ℕ, Vec, Global, arith}
use Rattle.std.proofs.lemmas.List.{at_drop_all}
use Rattle.std.specs.List.{list_all, list_any}
use Rattle.vx_catalog_relations.specs.Catalog.{relation_at}
use Rattle.vx_plan_nodes.specs.Plan.{claim}
use Rattle.vx_plan_nodes.specs.Outline.{plan_of}
use Rattle.vx_check_rules.specs.Behaviour.{keys_give}
use Rattle.vx_check_rules.specs.KeyedView.{all_keyed_in}
use Rattle.vx_check_rules.proofs.ColumnFacts.{lists-here}
use Rattle.vx_check_rules.proofs.Exact.{keys-all}
use Rattle.vx_check_rules.proofs.keys.are_keys_shown.Goals as goal

pub returns-then-not-show_key : goal.returns-then-not-show_key
returns-then-not-show_key c =
    let catalog = relation_at c.args.catalog.now in
    let p = plan_of c.args.node.now in
    let shown : List ℕ → Bool = λ x. list_any (λ k. keys_give k x) (all_keyed_in c.node_keyed-keyed.result) in
    let rest : Bool = list_all shown (map (λ (v : Vec ℕ Global). v.items) (drop (c.loop-key.key-index + 1) c.claimed_keys-keys.result.now)) in
    sym (keys-all catalog p (claim p).keys c.requires.keys
    ∙ ap (λ ks. list_all (λ x. list_any (λ k. keys_give k x) ks) (claim p).keys) (sym c.node_keyed-keyed.ensures)
    ∙ ap (list_all shown) (sym c.claimed_keys-keys.ensures) ∙ c.loop-key.invariant ∙ lists-here shown c.claimed_keys-keys.result.now c.loop-key.key-index c.key-item.result c.loop-key-test.true c.key-item.is
    ∙ ap (λ b. b && rest) (ap shown (sym c.as_slice.ensures.value) ∙ sym c.show_key.ensures ∙ c.if-not-show_key.true))

pub returns : goal.returns
returns c =
    let catalog = relation_at c.args.catalog.now in
    let p = plan_of c.args.node.now in
    let shown : List ℕ → Bool = λ x. list_any (λ k. keys_give k x) (all_keyed_in c.node_keyed-keyed.result) in
    sym (keys-all catalog p (claim p).keys c.requires.keys
    ∙ ap (λ ks. list_all (λ x. list_any (λ k. keys_give k x) ks) (claim p).keys) (sym c.node_keyed-keyed.ensures)
    ∙ ap (list_all shown) (sym c.claimed_keys-keys.ensures) ∙ c.loop-key.invariant
    ∙ at_drop_all (λ vs. list_all shown (map (λ (v : Vec ℕ Global). v.items) vs)) c.claimed_keys-keys.result.now c.loop-key.key-index (omega (arith, c.loop-key-test.false)))

pub loop-key-preserved : goal.loop-key-preserved
loop-key-preserved c =
    let shown : List ℕ → Bool = λ x. list_any (λ k. keys_give k x) (all_keyed_in c.node_keyed-keyed.result) in
    let rest : Bool = list_all shown (map (λ (v : Vec ℕ Global). v.items) (drop (c.loop-key.key-index + 1) c.claimed_keys-keys.result.now)) in
    c.loop-key.invariant ∙ lists-here shown c.claimed_keys-keys.result.now c.loop-key.key-index c.key-item.result c.loop-key-test.true c.key-item.is
    ∙ ap (λ b. b && rest) (ap shown (sym c.as_slice.ensures.value) ∙ sym c.show_key.ensures ∙ c.if-not-show_key.false)
