use Rattle.std.proofs.Common.{refl, map, flat_map}
use Rattle.std.proofs.lemmas.Grind.{flat_map-append}
use Rattle.vx_plan_nodes.specs.Outline.{part_of}
use Rattle.vx_check_rules.specs.WayView.{way_of, way_in, ways_in}
use Rattle.vx_check_options.specs.Options.{parts_of_way}
use Rattle.vx_check_options.proofs.PartLists.{loop-more, with-end}
use Rattle.vx_check_options.proofs.parts.add_ways.Goals as goal
use Rattle.vx_check_options.proofs.parts.add_ways.Goals.{in-Some+in_ok-add_way-in-Some, in-None}

pub loop-way-preserved : goal.loop-way-preserved
loop-way-preserved c =
    loop-more (λ ws. flat_map parts_of_way (ways_in ws)) (λ w. flat_map parts_of_way (way_in w)) (λ w ws. flat_map-append parts_of_way (way_in w) (ways_in ws))
    c.args.ways.now c.loop-way.way-index _ c.loop-way-test.true c.way-item.is _ _ _ c.loop-way.invariant
    (elim c.match-way.branch [
      | in-Some+in_ok-add_way-in-Some w ↦ rw (w.parts-is, w.in-Some.is) (with-end (map part_of c.loop-way.parts.items) (map part_of w.add_way.new.parts.items) (parts_of_way (way_of w.in-Some.way)) w.in_ok-add_way-in-Some.ensures)
      | in-None w ↦ rw (w.parts-is, w.in-None.is) refl
    ])
