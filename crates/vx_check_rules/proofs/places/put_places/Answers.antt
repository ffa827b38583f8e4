use Rattle.std.proofs.Common.{arith}
use Rattle.vx_plan_nodes.specs.DescribeView.{copying_of}
use Rattle.vx_check_rules.specs.Seen.{columns_seen}
use Rattle.vx_check_rules.proofs.PlaceFacts.{front-none, front-some}
use Rattle.vx_check_rules.proofs.places.put_places.Goals as goal

pub returns-in_default : goal.returns-in_default
returns-in_default c =
    front-none (copying_of c.args.copying) (columns_seen c.args.columns) c.loop-i.i c.place.result _ _ (omega (arith, c.loop-i-test.true, c.len-i-end.ensures)) (rw c.at.ensures at c.place.ensures) c.loop-i.invariant c.in_default.is

pub loop-i-preserved : goal.loop-i-preserved
loop-i-preserved c =
    rw c.in_ok-push.ensures.items
    (front-some (copying_of c.args.copying) (columns_seen c.args.columns) c.loop-i.i c.place.result _ _ c.in-Some.place (omega (arith, c.loop-i-test.true, c.len-i-end.ensures)) (rw c.at.ensures at c.place.ensures) c.loop-i.invariant c.in-Some.is)
