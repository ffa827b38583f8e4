use Rattle.std.proofs.Common.{rules, ◌≡◌, None, length, ap, arith}
use Rattle.vx_plan_nodes.specs.Serial.{group_keys}
use Rattle.vx_match.proofs.Fewer.{keys-more}
use Rattle.vx_match.proofs.group.KeyedGroupsCollectingKernel.take.Goals as goal

pub returns-in-Ok-clause-held : goal.returns-in-Ok-clause-held
returns-in-Ok-clause-held c =
    let none : c.self.inside.failed ≡ None = search rules in
    let some = c.self.invariant none in
    let old = c.self.inside.grouping in
    let new = c.add_rows.new.self in
    let more = c.in-Ok.ensures.taken some.rows some.taken in
    let keys = ap length more.keys_are in
    let few = keys-more new.by some.rows c.args.batch.rows in
    let same = ap (λ by. length (group_keys by some.rows)) c.add_rows.ensures.by in
    let were = ap length some.taken.keys_are in
    rw (← c.self.view_is, none) (omega (arith, keys, few, same, were))
