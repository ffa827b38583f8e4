use Rattle.std.proofs.Common.{ℕ, Vec, Global}
use Rattle.std.proofs.lemmas.Result.{IfOk-weaker}
use Rattle.vx_plan_nodes.specs.Outline.{plan_of}
use Rattle.vx_check_rules.specs.KeyedView.{all_keyed_in}
use Rattle.vx_check_shown.proofs.NamedKeys.{named-key, needed-firsts}
use Rattle.vx_check_shown.proofs.keys.needed_firsts.Goals as goal

pub needed-requires : goal.needed-requires
needed-requires c =
    let catalog = c.requires.0 in
    let h = c.requires.1 in
    let p = plan_of c.args.node.now in
    rw c.as_slice.ensures.value
    (catalog, record { known = h.known; key_below = named-key catalog c.args.known.now p h.known c.args.key.now c.in_ok-firsts.firsts.items h.key_below (c.in_ok-firsts.ensures catalog h) })

pub returns-clause-needed : goal.returns-clause-needed
returns-clause-needed c = λ catalog h.
    let p = plan_of c.args.node.now in
    let named = c.in_ok-firsts.ensures catalog h in
    let below = named-key catalog c.args.known.now p h.known c.args.key.now c.in_ok-firsts.firsts.items h.key_below named in
    IfOk-weaker _ _ _ (λ (v : Vec ℕ Global) q. needed-firsts catalog c.args.known.now p h.known (all_keyed_in c.args.keyed.now) c.args.key.now c.in_ok-firsts.firsts.items v.items h.key_below named q)
    ((rw c.as_slice.ensures.value at c.needed.ensures.part) catalog (record { known = h.known; key_below = below }))
