use Rattle.std.proofs.Common.{◌∙◌, sym, ap, slice_get, arith}
use Rattle.vx_plan_nodes.specs.DescribeView.{copying_of}
use Rattle.vx_check_rules.specs.KeyedView.{keys_seen}
use Rattle.vx_check_rules.specs.Seen.{columns_seen}
use Rattle.vx_check_rules.proofs.PlaceFacts.{kept-here, kept-later}
use Rattle.vx_check_rules.proofs.carried_keys.first_kept.Goals as goal

pub returns-then-have_places : goal.returns-then-have_places
returns-then-have_places c =
    sym (ap (λ ks. slice_get ks 0) (c.loop-place.invariant
    ∙ kept-here (copying_of c.args.from.copying) (keys_seen c.args.from.keys) c.loop-place.place (columns_seen c.at-columns.result) _ (omega (arith, c.loop-place-test.true, c.count-place-end.ensures)) c.at-columns.ensures c.have_places.ensures c.if-have_places.true))

pub loop-place-preserved : goal.loop-place-preserved
loop-place-preserved c =
    c.loop-place.invariant
    ∙ kept-later (copying_of c.args.from.copying) (keys_seen c.args.from.keys) c.loop-place.place (columns_seen c.at-columns.result) _ (omega (arith, c.loop-place-test.true, c.count-place-end.ensures)) c.at-columns.ensures c.have_places.ensures c.if-have_places.false
