use Rattle.std.proofs.Common.{List, Option, map, ℕ, Vec, Global, subst, arith}
use Rattle.std.proofs.lemmas.List.{take_all}
use Rattle.vx_plan_nodes.specs.Phases.{first_columns}
use Rattle.vx_check_rules.specs.declared.keyed.Keyed as rust_keyed
use Rattle.vx_check_rules.specs.KeyedView.{keyed_in, all_keyed_in}
use Rattle.vx_check_options.specs.FoundKeys.{show, IsKey, IsShown, Finds}
use Rattle.vx_check_options.proofs.KeyChoices.{finds-next, finds-some, finds-absent, keyed-any}
use Rattle.vx_check_options.proofs.keys.add_all.Goals as goal
use Rattle.vx_check_options.proofs.keys.add_all.Goals.{in-Some+in_ok-add_keyed-in-Some, in-None}

pub loop-each-preserved : goal.loop-each-preserved
loop-each-preserved c =
    let allowed : List ℕ = first_columns c.args.width in
    let items = map (λ (v : Vec ℕ Global). v.items) in
    let here : Finds (IsKey (show (keyed_in c.each-item.result)) allowed) (IsShown (show (keyed_in c.each-item.result)) allowed) (items c.loop-each.found.items) (items c.match-each.found.items) =
    elim c.match-each.branch [
      | in-Some+in_ok-add_keyed-in-Some w ↦ rw w.found-is (finds-some c.each-item.result w.in-Some.keyed allowed _ _ w.in-Some.is w.in_ok-add_keyed-in-Some.ensures)
      | in-None w ↦ rw w.found-is (finds-absent c.each-item.result allowed (items c.loop-each.found.items) w.in-None.is)
    ] in
    finds-next (λ (os : List (Option rust_keyed.Keyed)). show (all_keyed_in os)) (λ (o : Option rust_keyed.Keyed). show (keyed_in o)) allowed c.args.keyed.now c.loop-each.each-index c.each-item.result
    _ _ _ keyed-any c.loop-each-test.true c.each-item.is c.loop-each.invariant here

pub returns : goal.returns
returns c =
    let allowed : List ℕ = first_columns c.args.width in
    let items = map (λ (v : Vec ℕ Global). v.items) in
    let all : List (Option rust_keyed.Keyed) → Type 0 =
    λ os. Finds (IsKey (show (all_keyed_in c.args.keyed.now)) allowed) (IsShown (show (all_keyed_in os)) allowed) (items c.args.found.now.items) (items c.loop-each.found.items) in
    subst all (take_all c.loop-each.each-index c.args.keyed.now (omega (arith, c.loop-each-test.false))) c.loop-each.invariant
