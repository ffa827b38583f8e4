use Rattle.std.proofs.Common.{◌∙◌, ◌&&◌, Bool, sym, ap}
use Rattle.std.specs.List.{list_all}
use Rattle.vx_plan_nodes.specs.Outline.{plan_of}
use Rattle.vx_plan_nodes.specs.Plan.{Plan, claim}
use Rattle.vx_plan_facts.specs.Determined.{determined}
use Rattle.vx_plan_facts.specs.Equal.{equal_at}
use Rattle.vx_plan_facts.specs.Following.{order_follows, key_follows}
use Rattle.vx_check_rules.proofs.NamedNodes.{order-below}
use Rattle.vx_check_keeping.proofs.TellingNodes.{stays-then, part-beside, order-beside}
use Rattle.vx_check_keeping.proofs.telling.does_tell_here.Goals as goal

pub order_follows-requires : goal.order_follows-requires
order_follows-requires c =
    let here = c.requires in
    let f : Plan = plan_of c.args.node.now in
    let e : Plan = plan_of c.args.other.now in (
      here.0,
      record {
        known = here.1.known;
        given_below = rw c.claimed_order-given.ensures (order-below here.0 c.args.known.now f here.1.known);
        order_below = rw c.claimed_order-wanted.ensures (order-beside here.0 c.args.known.now f e here.1);
      },
    )

pub do_keys_follow-requires : goal.do_keys_follow-requires
do_keys_follow-requires c =
    let here = c.requires in
    let f : Plan = plan_of c.args.node.now in
    (here.0, c.order_follows.ensures.kept here.0 here.1.known f here.1.known)

pub returns-then-not-does_part_tell-clause-tells : goal.returns-then-not-does_part_tell-clause-tells
returns-then-not-does_part_tell-clause-tells c = λ catalog h.
    let f : Plan = plan_of c.args.node.now in
    let e : Plan = plan_of c.args.other.now in
    let rest : Bool = order_follows (equal_at catalog f) (determined catalog f) (claim f).order (claim e).order && list_all (key_follows (determined catalog f) (claim f).keys) (claim e).keys in
    let part = (rw c.claimed_part-part.ensures at c.does_part_tell.ensures) catalog h.known (part-beside catalog c.args.known.now f e h) in
    sym (ap (λ b. b && rest) (sym part ∙ c.if-not-does_part_tell.true))

pub returns-then-not-order_follows-clause-tells : goal.returns-then-not-order_follows-clause-tells
returns-then-not-order_follows-clause-tells c = λ catalog h.
    let f : Plan = plan_of c.args.node.now in
    let e : Plan = plan_of c.args.other.now in
    let keys : Bool = list_all (key_follows (determined catalog f) (claim f).keys) (claim e).keys in
    let order : Bool = order_follows (equal_at catalog f) (determined catalog f) (claim f).order (claim e).order in
    let part = (rw c.claimed_part-part.ensures at c.does_part_tell.ensures) catalog h.known (part-beside catalog c.args.known.now f e h) in
    let follows = (rw (c.claimed_order-given.ensures, c.claimed_order-wanted.ensures) at c.order_follows.ensures.follows) catalog
    (record { known = h.known; given_below = order-below catalog c.args.known.now f h.known; order_below = order-beside catalog c.args.known.now f e h }) in
    sym (ap (λ b. b && (order && keys)) (sym part ∙ c.if-not-does_part_tell.false) ∙ ap (λ b. b && keys) (sym follows ∙ c.if-not-order_follows.true))

pub returns-clause-tells : goal.returns-clause-tells
returns-clause-tells c = λ catalog h.
    let f : Plan = plan_of c.args.node.now in
    let e : Plan = plan_of c.args.other.now in
    let keys : Bool = list_all (key_follows (determined catalog f) (claim f).keys) (claim e).keys in
    let order : Bool = order_follows (equal_at catalog f) (determined catalog f) (claim f).order (claim e).order in
    let part = (rw c.claimed_part-part.ensures at c.does_part_tell.ensures) catalog h.known (part-beside catalog c.args.known.now f e h) in
    let follows = (rw (c.claimed_order-given.ensures, c.claimed_order-wanted.ensures) at c.order_follows.ensures.follows) catalog
    (record { known = h.known; given_below = order-below catalog c.args.known.now f h.known; order_below = order-beside catalog c.args.known.now f e h }) in
    let follow = (rw c.claimed_keys.ensures at c.do_keys_follow.ensures.follow) catalog (c.order_follows.ensures.kept catalog h.known f h.known) in
    follow ∙ sym (ap (λ b. b && (order && keys)) (sym part ∙ c.if-not-does_part_tell.false) ∙ ap (λ b. b && keys) (sym follows ∙ c.if-not-order_follows.false))

pub returns-clause-kept : goal.returns-clause-kept
returns-clause-kept c =
    stays-then c.args.known.now c.order_follows.new.known c.do_keys_follow.new.known (plan_of c.args.node.now) c.order_follows.ensures.kept c.do_keys_follow.ensures.kept
