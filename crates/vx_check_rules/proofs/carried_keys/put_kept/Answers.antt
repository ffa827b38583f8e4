use Rattle.std.proofs.Common.{◌∙◌, ◌<◌, ◌++◌, ap, map, length, List, ℕ, Vec, Global, arith}
use Rattle.vx_plan_nodes.specs.Describe.{Copying}
use Rattle.vx_plan_nodes.specs.DescribeView.{copying_of}
use Rattle.vx_check_rules.specs.KeyedView.{keys_seen}
use Rattle.vx_check_rules.specs.Seen.{columns_seen}
use Rattle.vx_check_rules.proofs.PlaceFacts.{kept-put, kept-later}
use Rattle.vx_check_rules.proofs.carried_keys.put_kept.Goals as goal
use Rattle.vx_check_rules.proofs.carried_keys.put_kept.Goals.{then-have_places+in_ok-put_places+in_ok-push, else-have_places}

pub loop-place-preserved : goal.loop-place-preserved
loop-place-preserved c =
    let k : Copying = copying_of c.args.from.copying in
    let all : List (List ℕ) = keys_seen c.args.from.keys in
    let within : c.loop-place.place < length all = omega (arith, c.loop-place-test.true, c.count-place-end.ensures) in
    elim c.if-have_places.branch [
      | then-have_places+in_ok-put_places+in_ok-push w ↦
          rw w.keys-is (c.loop-place.invariant ∙ kept-put k all c.loop-place.place (columns_seen c.at-columns.result) _ _ _ w.new-key.result w.put_places.new.found within c.at-columns.ensures c.have_places.ensures w.if-have_places.true w.new-key.ensures.items w.in_ok-put_places.ensures w.in_ok-push.ensures.items)
      | else-have_places w ↦
          rw w.keys-is (c.loop-place.invariant ∙ ap (λ ks. map (λ (v : Vec ℕ Global). v.items) c.loop-place.keys.items ++ ks) (kept-later k all c.loop-place.place (columns_seen c.at-columns.result) _ within c.at-columns.ensures c.have_places.ensures w.if-have_places.false))
    ]
