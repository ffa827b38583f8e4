use Rattle.std.proofs.Common.{◌≡◌, ◌∙◌, ℕ, Vec, Global, map}
use Rattle.vx_catalog_relations.specs.Catalog.{relation_at}
use Rattle.vx_plan_nodes.specs.Outline.{plan_of}
use Rattle.vx_plan_nodes.specs.Types.{width}
use Rattle.vx_check_rules.specs.KeyedView.{all_keyed_in}
use Rattle.vx_check_shown.proofs.CopiedKeys.{shown-from, shown-more, columns-named, copies-below}
use Rattle.vx_check_shown.proofs.keys.shown_keys.Goals as goal

pub add_keys-requires : goal.add_keys-requires
add_keys-requires c =
    let catalog = relation_at c.args.catalog.now in
    (catalog, c.requires.known, columns-named (width catalog (plan_of c.args.node.now)) (map (λ (v : Vec ℕ Global). v.items) c.args.claimed.now) c.requires.claimed)

pub returns-clause-found : goal.returns-clause-found
returns-clause-found c =
    let catalog = relation_at c.args.catalog.now in
    let p = plan_of c.args.node.now in
    let items = map (λ (v : Vec ℕ Global). v.items) in
    let known = c.add_keys.ensures.kept catalog c.requires.known p c.requires.known in
    let wide : c.width.result ≡ width catalog p = c.width.ensures ∙ (c.facts_of.ensures catalog known).wide in
    let claimed = c.in_ok-add_keys.ensures.added catalog c.requires.known (columns-named (width catalog p) (items c.args.claimed.now) c.requires.claimed) in
    let below = copies-below (width catalog p) c.width.result _ _ _ _ wide c.in_ok-copies.ensures in
    let copies = (rw c.as_slice.ensures.value at c.in_ok-add_keys-2.ensures.added) catalog known below in
    let more = c.add_keys-2.ensures.kept catalog known p known in
    let stand_ins = (rw c.as_slice-2.ensures.value at c.in_ok-add_keys-3.ensures.added) catalog more (c.in_ok-stand_ins.ensures catalog more) in
    shown-more catalog p _ (items c.args.claimed.now) _ _ _ (all_keyed_in c.keyed_from-keyed.result) c.keyed_from-keyed.ensures
    (shown-from catalog c.args.known.now p c.requires.known (all_keyed_in c.keyed_from-keyed.result) (items c.args.lefts.now) (items c.args.rights.now) (items c.args.claimed.now) _
    (items c.in_ok-copies.copies.items) _ c.width.result c.keyed_from-keyed.ensures wide (rw c.new-found.ensures.items at claimed) c.in_ok-copies.ensures copies) stand_ins
