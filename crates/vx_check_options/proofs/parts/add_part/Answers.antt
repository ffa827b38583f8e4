use Rattle.std.proofs.Common.{◌∙◌, ◌∷◌, [], map, ap, sym}
use Rattle.std.proofs.lemmas.List.{map-append}
use Rattle.vx_plan_nodes.specs.Outline.{part_of}
use Rattle.vx_check_options.proofs.PartLists.{part-added, part-there}
use Rattle.vx_check_options.proofs.parts.add_part.Goals as goal

pub returns-then-is_among : goal.returns-then-is_among
returns-then-is_among c = part-there _ _ (sym (rw c.as_slice.ensures.value at c.is_among.ensures) ∙ c.if-is_among.true)

pub returns : goal.returns
returns c =
    ap (map part_of) c.in_ok-push.ensures.items ∙ map-append part_of c.args.parts.now.items (c.args.part ∷ []) ∙ part-added _ _ (sym (rw c.as_slice.ensures.value at c.is_among.ensures) ∙ c.if-is_among.false)
