use Rattle.std.proofs.Common.{◌∙◌, map, take, ap, sym, rules}
use Rattle.std.proofs.lemmas.Fn.{filter_same}
use Rattle.std.proofs.lemmas.List.{take-map}
use Rattle.vx_plan_nodes.specs.declared.typed.Part as rust_part
use Rattle.vx_plan_nodes.specs.Outline.{part_of}
use Rattle.vx_check_options.specs.Options.{is_routed}
use Rattle.vx_check_options.proofs.PartLists.{telling-routed, telling-all}
use Rattle.vx_check_options.proofs.parts.most_telling.Goals as goal
use Rattle.vx_check_options.proofs.parts.most_telling.Goals.{then-has_routed, else-has_routed}

pub returns : goal.returns
returns c =
    let is = rw c.as_slice.ensures.value at c.has_routed.ensures in
    ap (map part_of) c.truncate.ensures.items ∙ sym (take-map part_of 64 c.if-has_routed.parts.items)
    ∙ ap (take 64)
    (elim c.if-has_routed.branch [
      | then-has_routed w ↦
          rw w.parts-is (telling-routed c.args.parts.items _ _ (filter_same _ (λ (p : rust_part.Part). is_routed (part_of p)) _ (λ x b f' k. search rules) _ _ w.retain.ensures.filtered) is w.if-has_routed.true)
      | else-has_routed w ↦ rw w.parts-is (telling-all c.args.parts.items _ is w.if-has_routed.false)
    ])
