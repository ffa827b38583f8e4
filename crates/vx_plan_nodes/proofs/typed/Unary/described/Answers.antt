use Rattle.std.proofs.Common.{sym, ap, ◌∙◌, ℕ, Option, None, List, map}
use Rattle.std.proofs.lemmas.Simd.{map-map}
use Rattle.vx_plan_nodes.specs.Describe.{entries_kept, order_kept, keys_kept, kept_column, Described}
use Rattle.vx_plan_nodes.specs.declared.typed.Entry.{Entry}
use Rattle.vx_plan_nodes.specs.Outline.{entry_of, unary_of}
use Rattle.vx_plan_nodes.specs.Describe.{described}
use Rattle.vx_plan_nodes.proofs.typed.Unary.described.Goals as goal

abbrev passed_on : List (Option ℕ) → Described
passed_on ks = record { copying = entries_kept ks; meets = None; order = order_kept; keys = keys_kept }

pub returns-in-Project : goal.returns-in-Project
returns-in-Project c =
    ap passed_on (ap (map (λ (e : Entry). kept_column (entry_of e))) c.as_slice.ensures.value ∙ sym (map-map kept_column entry_of c.in-Project.entries.items))
    ∙ ap (λ o. described (unary_of o)) (sym c.in-Project.is)
