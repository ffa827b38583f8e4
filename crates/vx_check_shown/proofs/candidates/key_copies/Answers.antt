use Rattle.std.proofs.Common.{List, Option}
use Rattle.vx_check_rules.specs.declared.keyed.Keyed as rust_keyed
use Rattle.vx_check_rules.specs.KeyedView.{keyed_in, all_keyed_in}
use Rattle.vx_check_options.specs.FoundKeys.{show}
use Rattle.vx_check_options.proofs.KeyChoices.{keyed-any}
use Rattle.vx_check_shown.specs.ShownKeys.{copies_by}
use Rattle.vx_check_shown.proofs.Gathering.{gathers-next, copies-among}
use Rattle.vx_check_shown.proofs.candidates.key_copies.Goals as goal

pub loop-each-preserved : goal.loop-each-preserved
loop-each-preserved c =
    let all : List (Option rust_keyed.Keyed) = c.args.keyed.now in
    let one : Option rust_keyed.Keyed = c.each-item.result in
    gathers-next (λ (os : List (Option rust_keyed.Keyed)). show (all_keyed_in os)) (λ (o : Option rust_keyed.Keyed). show (keyed_in o)) (copies_by (all_keyed_in all)) (copies_by (keyed_in one)) c.args.width
    all c.loop-each.each-index one _ _ _ keyed-any c.loop-each-test.true c.each-item.is (copies-among all c.loop-each.each-index one c.loop-each-test.true c.each-item.is)
    c.loop-each.invariant c.in_ok-put_some.ensures
