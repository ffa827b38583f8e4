use Rattle.std.proofs.Common.{◌∷◌, ◌∙◌, List, length, map, flat_map, ap, arith}
use Rattle.vx_exec_layout.specs.declared.span.NodeSpan.{NodeSpan}
use Rattle.vx_exec_parallel.specs.Fragments.{fragment_in, places_from}
use Rattle.vx_exec_parallel.specs.Places.{place_in}
use Rattle.vx_exec_parallel.proofs.Fragments.{few-in, one-fragment}
use Rattle.vx_exec_parallel.proofs.places.places_of.Goals as goal

pub overflow_cast-fragment : goal.overflow_cast-fragment
overflow_cast-fragment c =
    let spans : List NodeSpan = c.args.layout.now.spans.items in
    let few = few-in spans in
    let count = ap length (c.in_ok-fragments.ensures ∙ ap (λ (z : List NodeSpan). 1 ∷ flat_map fragment_in z) c.spans.ensures) in
    let nodes = c.requires in
    let below = c.loop-fragment-test.true in
    let end = c.len-fragment-end.ensures in
    omega (arith, few, count, nodes, below, end)

pub loop-fragment-preserved : goal.loop-fragment-preserved
loop-fragment-preserved c =
    one-fragment c.in_ok-fragments.fragments.items c.loop-fragment.fragment c.index.result.now (map place_in c.loop-fragment.places.items) (map place_in c.add_places.new.places.items)
    (places_from 0 c.in_ok-fragments.fragments.items) (let below = c.loop-fragment-test.true in let end = c.len-fragment-end.ensures in let ok = c.in_ok-fragments.fragments.ok in omega (arith, below, end, ok)) c.index.ensures c.in_ok-add_places.ensures c.loop-fragment.invariant
