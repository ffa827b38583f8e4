use Rattle.std.proofs.Common.{◌≡◌, ◌∙◌, Bool, [], ◌∷◌, refl}
use Rattle.vx_plan_nodes.specs.Plan.{Part, all}
use Rattle.vx_plan_nodes.specs.Describe.{Copying, whole_rows}
use Rattle.vx_plan_nodes.specs.DescribeView.{copying_of}
use Rattle.vx_check_rules.specs.Rules.{routed_alike}
use Rattle.vx_check_rules.specs.Behaviour.{way, if_so, bare, input_has}
use Rattle.vx_check_rules.specs.WayView.{had_of, way_in}
use Rattle.vx_check_rules.proofs.WayFacts.{way-same, kept-met}
use Rattle.vx_check_rules.proofs.ways.ways_matched.Goals as goal

pub returns : goal.returns
returns c =
    let h : Bool × Part = had_of c.args.left in
    let g : Bool × Part = had_of c.args.right in
    let l : Copying = copying_of c.args.described.left in
    let a : Bool = routed_alike c.args.on.now h.1 g.1 in
    let alike : c.are_seen_alike-are_alike.result ≡ a = c.are_seen_alike-are_alike.ensures in
    let first : way_in c.way_if.result ≡ if_so a (way whole_rows (bare h.1 ∷ []) ∷ []) = c.way_if.ensures ∙ way-same whole_rows _ _ _ _ alike c.bare.ensures in
    let second : way_in c.way_if-2.result ≡ if_so (input_has g all) (way l (h ∷ []) ∷ []) = c.way_if-2.ensures ∙ way-same l _ _ _ _ c.has.ensures refl in
    rw (first, second) (kept-met a (input_has g all) (way whole_rows (bare h.1 ∷ [])) (way l (h ∷ [])))
