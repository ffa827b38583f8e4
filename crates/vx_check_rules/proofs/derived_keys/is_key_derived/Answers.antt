use Rattle.std.proofs.Common.{◌∙◌, ◌||◌, Bool, List, ℕ, ap, sym}
use Rattle.std.specs.List.{list_any}
use Rattle.vx_plan_nodes.specs.Outline.{plan_of}
use Rattle.vx_plan_nodes.specs.Types.{width}
use Rattle.vx_plan_facts.specs.Determined.{determined_aside}
use Rattle.vx_plan_facts.specs.Following.{set_of}
use Rattle.vx_check_rules.specs.Behaviour.{keys_give}
use Rattle.vx_check_rules.specs.Derived.{members, key_below}
use Rattle.vx_check_rules.specs.KeyedView.{all_keyed_in}
use Rattle.vx_check_rules.proofs.derived_keys.is_key_derived.Goals as goal

pub returns-then-show_key-clause-derived : goal.returns-then-show_key-clause-derived
returns-then-show_key-clause-derived c = λ catalog key.
    let p = plan_of c.args.node.now in
    let x = c.args.key.now in
    let m : List ℕ = members (width catalog p) (determined_aside catalog p (set_of x)) in
    let reached : Bool = list_any (λ k. keys_give k m) (all_keyed_in c.args.keyed.now) in
    let below : Bool = key_below catalog p x in
    sym (ap (λ b. b || (reached || below)) (sym c.show_key.ensures ∙ c.if-show_key.true))

pub returns-then-is_key_reached-clause-derived : goal.returns-then-is_key_reached-clause-derived
returns-then-is_key_reached-clause-derived c = λ catalog key.
    let p = plan_of c.args.node.now in
    let x = c.args.key.now in
    let m : List ℕ = members (width catalog p) (determined_aside catalog p (set_of x)) in
    let reached : Bool = list_any (λ k. keys_give k m) (all_keyed_in c.args.keyed.now) in
    let below : Bool = key_below catalog p x in
    let there = sym (c.is_key_reached.ensures.reached catalog key) ∙ c.if-is_key_reached.true in
    sym (ap (λ b. b || (reached || below)) (sym c.show_key.ensures ∙ c.if-show_key.false) ∙ ap (λ b. b || below) there)

pub returns-clause-derived : goal.returns-clause-derived
returns-clause-derived c = λ catalog key.
    let p = plan_of c.args.node.now in
    let x = c.args.key.now in
    let m : List ℕ = members (width catalog p) (determined_aside catalog p (set_of x)) in
    let reached : Bool = list_any (λ k. keys_give k m) (all_keyed_in c.args.keyed.now) in
    let below : Bool = key_below catalog p x in
    let there = sym (c.is_key_reached.ensures.reached catalog key) ∙ c.if-is_key_reached.false in
    let last = c.is_key_below.ensures.below catalog (record { known = c.is_key_reached.ensures.kept catalog key.known p key.known; key_below = key.key_below }) in
    last ∙ sym (ap (λ b. b || (reached || below)) (sym c.show_key.ensures ∙ c.if-show_key.false) ∙ ap (λ b. b || below) there)

pub is_key_below-requires : goal.is_key_below-requires
is_key_below-requires c =
    let p = plan_of c.args.node.now in
    (c.requires.0, record { known = c.is_key_reached.ensures.kept c.requires.0 c.requires.1.known p c.requires.1.known; key_below = c.requires.1.key_below })

pub returns-clause-kept : goal.returns-clause-kept
returns-clause-kept c = λ catalog here q known.
    let first = c.is_key_reached.ensures.kept catalog here in
    c.is_key_below.ensures.kept catalog (first (plan_of c.args.node.now) here) q (first q known)
