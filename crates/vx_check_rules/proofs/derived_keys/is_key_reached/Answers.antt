use Rattle.std.proofs.Common.{◌≡◌, ◌∙◌, ap, arith}
use Rattle.std.specs.List.{list_any}
use Rattle.vx_plan_nodes.specs.Outline.{plan_of}
use Rattle.vx_plan_nodes.specs.Types.{width}
use Rattle.vx_plan_facts.specs.ColumnSetView.{set_of_columns}
use Rattle.vx_plan_facts.specs.Determined.{determined_aside}
use Rattle.vx_plan_facts.specs.Following.{set_of}
use Rattle.vx_plan_facts.proofs.Searching.{wide-enough}
use Rattle.vx_check_rules.specs.Behaviour.{keys_give}
use Rattle.vx_check_rules.specs.Derived.{members}
use Rattle.vx_check_rules.specs.KeyedView.{all_keyed_in}
use Rattle.vx_check_rules.proofs.KeySteps.{aside-of, members-found}
use Rattle.vx_check_rules.proofs.derived_keys.is_key_reached.Goals as goal

pub members-requires : goal.members-requires
members-requires c =
    let catalog = c.requires.0 in
    let p = plan_of c.args.node.now in
    let wide : c.width-width.result ≡ width catalog p = c.width-width.ensures ∙ (c.facts_of.ensures catalog c.requires.1.known).wide in
    let few = wide-enough catalog p c.requires.1.known.known.within in
    omega (arith, wide, few)

pub returns-clause-reached : goal.returns-clause-reached
returns-clause-reached c = λ catalog key.
    let p = plan_of c.args.node.now in
    let x = c.args.key.now in
    let w = width catalog p in
    let found = set_of_columns c.determined_aside-found.result in
    let aside = determined_aside catalog p (set_of x) in
    let wide : c.width-width.result ≡ w = c.width-width.ensures ∙ (c.facts_of.ensures catalog key.known).wide in
    let is = aside-of catalog c.args.known.now p key.known (set_of_columns c.of.result) (set_of x) found c.of.ensures (c.determined_aside-found.ensures.answer catalog key.known) in
    let list : c.as_slice.result.now ≡ members w aside = c.as_slice.ensures.value ∙ c.members.ensures ∙ ap (λ n. members n found) wide ∙ members-found w found aside is in
    c.show_key.ensures ∙ ap (λ cols. list_any (λ k. keys_give k cols) (all_keyed_in c.args.keyed.now)) list
