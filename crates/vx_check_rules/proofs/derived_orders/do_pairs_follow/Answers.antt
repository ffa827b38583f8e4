use Rattle.std.proofs.Common.{◌∙◌, ◌&&◌, ℕ, Bool, List, ap, sym, subst}
use Rattle.vx_plan_nodes.specs.Outline.{binary_of, plan_of}
use Rattle.vx_plan_nodes.specs.Plan.{Plan, by_merging, Binary, claim, right_order}
use Rattle.vx_plan_facts.specs.Determined.{determined}
use Rattle.vx_plan_facts.specs.Equal.{equal_at}
use Rattle.vx_plan_facts.specs.Following.{order_follows}
use Rattle.vx_check_rules.specs.KnownNode.{AreJoined, pairs_follow}
use Rattle.vx_check_rules.proofs.NamedNodes.{left-orders, right-orders}
use Rattle.vx_check_rules.proofs.derived_orders.do_pairs_follow.Goals as goal

pub follows_claimed-requires : goal.follows_claimed-requires
follows_claimed-requires c =
    let p : Plan = plan_of c.args.left.now in
    let q : Plan = plan_of c.args.right.now in
    let P : Binary → Type 0 = λ o. AreJoined c.requires.0 c.args.known.now o p q in
    let h = subst P (ap binary_of c.in-MergeJoin.is) c.requires.1 in
    rw (c.as_slice-on.ensures.value, c.as_slice-falls.ensures.value) (c.requires.0, left-orders c.requires.0 c.args.known.now (by_merging c.in-MergeJoin.falls.items) c.in-MergeJoin.falls.items c.in-MergeJoin.on.items p q h)

pub returns-then-not-follows_claimed-clause-follows : goal.returns-then-not-follows_claimed-clause-follows
returns-then-not-follows_claimed-clause-follows c = λ catalog given.
    let p : Plan = plan_of c.args.left.now in
    let q : Plan = plan_of c.args.right.now in
    let on : List (ℕ × ℕ) = c.in-MergeJoin.on.items in
    let falls : List Bool = c.in-MergeJoin.falls.items in
    let P : Binary → Type 0 = λ o. AreJoined catalog c.args.known.now o p q in
    let h = subst P (ap binary_of c.in-MergeJoin.is) given in
    let told = (rw (c.as_slice-on.ensures.value, c.as_slice-falls.ensures.value) at c.follows_claimed.ensures.follows) catalog (left-orders catalog c.args.known.now (by_merging falls) falls on p q h) in
    let rest : Bool = order_follows (equal_at catalog q) (determined catalog q) (claim q).order (right_order falls on) in
    sym (ap (λ o. pairs_follow catalog o p q) (ap binary_of c.in-MergeJoin.is) ∙ ap (λ a. a && rest) (sym told ∙ c.if-not-follows_claimed.true))

pub returns-then-not-follows_claimed-clause-kept : goal.returns-then-not-follows_claimed-clause-kept
returns-then-not-follows_claimed-clause-kept c = λ catalog h. c.follows_claimed.ensures.kept catalog h.left

pub follows_claimed-requires-in-MergeJoin : goal.follows_claimed-requires-in-MergeJoin
follows_claimed-requires-in-MergeJoin c =
    let p : Plan = plan_of c.args.left.now in
    let q : Plan = plan_of c.args.right.now in
    let P : Binary → Type 0 = λ o. AreJoined c.requires.0 c.args.known.now o p q in
    let h = subst P (ap binary_of c.in-MergeJoin.is) c.requires.1 in
    let later = c.follows_claimed.ensures.kept c.requires.0 h.left q h.right in
    rw (c.as_slice-on.ensures.value, c.as_slice-falls.ensures.value) (c.requires.0, right-orders c.requires.0 c.args.known.now c.follows_claimed.new.known (by_merging c.in-MergeJoin.falls.items) c.in-MergeJoin.falls.items c.in-MergeJoin.on.items p q h later)

pub returns-else-not-follows_claimed-clause-follows : goal.returns-else-not-follows_claimed-clause-follows
returns-else-not-follows_claimed-clause-follows c = λ catalog given.
    let p : Plan = plan_of c.args.left.now in
    let q : Plan = plan_of c.args.right.now in
    let on : List (ℕ × ℕ) = c.in-MergeJoin.on.items in
    let falls : List Bool = c.in-MergeJoin.falls.items in
    let P : Binary → Type 0 = λ o. AreJoined catalog c.args.known.now o p q in
    let h = subst P (ap binary_of c.in-MergeJoin.is) given in
    let later = c.follows_claimed.ensures.kept catalog h.left q h.right in
    let told = (rw (c.as_slice-on.ensures.value, c.as_slice-falls.ensures.value) at c.follows_claimed.ensures.follows) catalog (left-orders catalog c.args.known.now (by_merging falls) falls on p q h) in
    let last = (rw (c.as_slice-on.ensures.value, c.as_slice-falls.ensures.value) at c.follows_claimed-in-MergeJoin.ensures.follows) catalog (right-orders catalog c.args.known.now c.follows_claimed.new.known (by_merging falls) falls on p q h later) in
    let rest : Bool = order_follows (equal_at catalog q) (determined catalog q) (claim q).order (right_order falls on) in
    sym (ap (λ o. pairs_follow catalog o p q) (ap binary_of c.in-MergeJoin.is) ∙ ap (λ a. a && rest) (sym told ∙ c.if-not-follows_claimed.false) ∙ sym last)

pub returns-else-not-follows_claimed-clause-kept : goal.returns-else-not-follows_claimed-clause-kept
returns-else-not-follows_claimed-clause-kept c = λ catalog h y known.
    let first = c.follows_claimed.ensures.kept catalog h.left in
    c.follows_claimed-in-MergeJoin.ensures.kept catalog (first (plan_of c.args.right.now) h.right) y (first y known)
