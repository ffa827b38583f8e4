use Rattle.std.proofs.Common.{◌≡◌, ◌∙◌, ◌<◌, ℕ, List, map, true, length, ap, sym, subst}
use Rattle.std.specs.List.{list_any}
use Rattle.vx_rows_values.specs.Limits.{max_columns}
use Rattle.vx_catalog_relations.specs.Catalog.{all_below}
use Rattle.vx_plan_nodes.specs.Describe.{Copying, entries_kept, kept_column, source, described}
use Rattle.vx_plan_nodes.specs.DescribeView.{copying_of}
use Rattle.vx_plan_nodes.specs.Outline.{entry_of, unary_of, plan_of}
use Rattle.vx_plan_nodes.specs.Plan.{Plan, Entry, Unary, project}
use Rattle.vx_plan_nodes.specs.Types.{width, unary_width}
use Rattle.vx_plan_facts.specs.ColumnSetView.{set_of_columns}
use Rattle.vx_plan_facts.specs.Determined.{is_copy_of, sources_in}
use Rattle.vx_plan_facts.specs.Following.{set_of}
use Rattle.vx_check_rules.specs.KnownNode.{projected_below}
use Rattle.vx_check_rules.proofs.KeySteps.{key-found, sources-same}
use Rattle.vx_check_rules.proofs.derived_keys.is_projected_below.Goals as goal

pub returns-in-Project-clause-below : goal.returns-in-Project-clause-below
returns-in-Project-clause-below c = λ catalog h.
    let p : Plan = plan_of c.args.input.now in
    let es : List Entry = map entry_of c.in-Project.field-0.items in
    let key : List ℕ = c.args.key.now in
    let is : unary_of c.args.operator.now ≡ project es = ap unary_of c.in-Project.is in
    let Q : Unary → Type 0 = λ o. all_below (unary_width o (width catalog p)) key ≡ true in
    let below : all_below (length es) key ≡ true = subst Q is h.key_below in
    let copying : Copying = entries_kept (map kept_column es) in
    let same : copying_of c.described.result.copying ≡ copying = ap (λ d. d.copying) (c.described.ensures ∙ ap described is) in
    let A : Copying → Type 0 = λ k. (x : ℕ) → x < max_columns → set_of_columns c.sources_of.result x ≡ list_any (λ d. is_copy_of x (source k d)) key in
    let asked = subst A same c.sources_of.ensures in
    let keyed = key-found catalog c.args.known.now p h.known (set_of_columns c.sources_of.result) (sources_in (length es) copying (set_of key)) (set_of_columns c.determined-found.result)
    (λ x l. asked x l ∙ sources-same (length es) copying key below x) (c.determined-found.ensures.answer catalog h.known) c.claimed_keys.result.now c.claimed_keys.ensures in
    c.is_key_within.ensures ∙ keyed ∙ sym (ap (λ o. projected_below catalog o p key) is)
