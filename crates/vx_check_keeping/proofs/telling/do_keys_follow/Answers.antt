use Rattle.std.proofs.Common.{◌∙◌, ◌+◌, ◌&&◌, sym, ap, map, drop, Bool, List, ℕ, Vec, Global, arith}
use Rattle.std.proofs.lemmas.List.{at_drop_all}
use Rattle.std.specs.List.{list_all}
use Rattle.vx_plan_nodes.specs.Plan.{claim}
use Rattle.vx_plan_nodes.specs.Outline.{plan_of}
use Rattle.vx_plan_facts.specs.Determined.{determined}
use Rattle.vx_plan_facts.specs.Following.{key_follows}
use Rattle.vx_check_rules.proofs.ColumnFacts.{lists-here}
use Rattle.vx_check_keeping.proofs.telling.do_keys_follow.Goals as goal

pub does_key_follow-requires : goal.does_key_follow-requires
does_key_follow-requires c =
    let here = c.requires in (here.0, c.loop-key.invariant.kept here.0 here.1 (plan_of c.args.node.now) here.1)

pub returns-then-not-does_key_follow-clause-follow : goal.returns-then-not-does_key_follow-clause-follow
returns-then-not-does_key_follow-clause-follow c = λ catalog is.
    let p = plan_of c.args.node.now in
    let test : List ℕ → Bool = key_follows (determined catalog p) (claim p).keys in
    let told = (rw c.as_slice.ensures.value at c.does_key_follow.ensures.follows) catalog (c.loop-key.invariant.kept catalog is p is) in
    let rest : Bool = list_all test (map (λ (v : Vec ℕ Global). v.items) (drop (c.loop-key.key-index + 1) c.args.keys.now)) in
    sym (c.loop-key.invariant.rest catalog is ∙ lists-here test c.args.keys.now c.loop-key.key-index c.key-item.result c.loop-key-test.true c.key-item.is
    ∙ ap (λ b. b && rest) (sym told ∙ c.if-not-does_key_follow.true))

pub returns-clause-follow : goal.returns-clause-follow
returns-clause-follow c = λ catalog is.
    let p = plan_of c.args.node.now in
    let test : List ℕ → Bool = key_follows (determined catalog p) (claim p).keys in
    sym (c.loop-key.invariant.rest catalog is
    ∙ at_drop_all (λ vs. list_all test (map (λ (v : Vec ℕ Global). v.items) vs)) c.args.keys.now c.loop-key.key-index (omega (arith, c.loop-key-test.false)))

pub loop-key-preserved : goal.loop-key-preserved
loop-key-preserved c = record {
  kept = λ catalog is q h.
      let p = plan_of c.args.node.now in
      let first = c.loop-key.invariant.kept catalog is in
      c.does_key_follow.ensures.kept catalog (first p is) q (first q h);
  rest = λ catalog is.
      let p = plan_of c.args.node.now in
      let test : List ℕ → Bool = key_follows (determined catalog p) (claim p).keys in
      let told = (rw c.as_slice.ensures.value at c.does_key_follow.ensures.follows) catalog (c.loop-key.invariant.kept catalog is p is) in
      let rest : Bool = list_all test (map (λ (v : Vec ℕ Global). v.items) (drop (c.loop-key.key-index + 1) c.args.keys.now)) in
      c.loop-key.invariant.rest catalog is ∙ lists-here test c.args.keys.now c.loop-key.key-index c.key-item.result c.loop-key-test.true c.key-item.is
      ∙ ap (λ b. b && rest) (sym told ∙ c.if-not-does_key_follow.false);
}
