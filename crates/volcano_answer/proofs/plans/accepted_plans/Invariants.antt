use Rattle.std.proofs.Common.{◌≡◌, map, take}
use Rattle.volcano_answer.specs.Files.{left_of}
use Rattle.volcano_answer.specs.Plans.{AreAccepted, input_after_all, paths_of}
use Rattle.volcano_answer.specs.PlansView.{named_is}
use Rattle.volcano_answer.proofs.plans.accepted_plans.Given as goal

abbrev pub invariant-loop-path : goal.invariant-loop-path
invariant-loop-path g l =
    (paths_of (map named_is l.plans.items) ≡ map (λ p. p.now) (take l.path-index l.paths))
    × AreAccepted (g.F.Store.holds l.files) (left_of l.fn.was_read (g.I.ByteIn.remaining l.fn.input)) l.catalog (map named_is l.plans.items)
    × (left_of l.was_read (g.I.ByteIn.remaining l.input) ≡ input_after_all (left_of l.fn.was_read (g.I.ByteIn.remaining l.fn.input)) (map (λ p. p.now) (take l.path-index l.paths)))
