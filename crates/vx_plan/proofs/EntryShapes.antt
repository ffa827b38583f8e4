-- The shapes of a select and of a projection, once what they name was found.
use Rattle.std.proofs.Common.{◌≡◌, ℕ, List, [], map, Result, Ok, refl, ap, ap₂, ◌∙◌, true}
use Rattle.std.specs.List.{list_all}
use Rattle.vx_rows_values.specs.declared.value.ColType.{ColType}
use Rattle.vx_rows_values.specs.Values.{Name}
use Rattle.vx_plan_nodes.specs.declared.typed.Entry.{Entry}
use Rattle.vx_plan_nodes.specs.Plan as plan
use Rattle.vx_plan_nodes.specs.Outline.{Columns, entry_of, is_renamed}
use Rattle.vx_plan_nodes.specs.Types.{entry_type}
use Rattle.vx_plan_json.specs.Document.{FilterForm, EntryForm}
use Rattle.vx_plan_json.specs.Fault.{Refusal, ◌>>=◌}
use Rattle.vx_plan.specs.Lookup.{test_match}
use Rattle.vx_plan.specs.Resolve.{Shape, FoundEntry, filter_fits, find_filters, select_shape, entry_name, entries_shape, entry_columns, project_shape}
use Rattle.vx_plan.specs.Shaped.{found_of}
use Rattle.vx_plan.proofs.EntryFacts.{entries-view, renamed-view, types-view}

pub select-found : (node : ℕ) (cols : Columns) (fs : List FilterForm) (ks : List plan.Filter) → find_filters node cols.names fs ≡ Ok ks
    → select_shape node cols fs ≡ (test_match node (list_all (filter_fits cols.types) ks) >>= λ u. Ok (record { op = plan.select ks; renamed = []; columns = cols }))
unfolding select_shape
select-found node cols fs ks e =
    ap (λ r. r >>= λ ks. test_match node (list_all (filter_fits cols.types) ks) >>= λ u. Ok (record { op = plan.select ks; renamed = []; columns = cols })) e

pub project-found : (node : ℕ) (cols : Columns) (fs : List EntryForm) (es : List Entry) (names : List Name) (types : List ColType) (own : Columns)
    → entries_shape node cols fs ≡ Ok (map found_of es) → names ≡ map entry_name fs → types ≡ map (entry_type cols.types) (map entry_of es) → own ≡ record { names = names; types = types }
    → project_shape node cols fs ≡ Ok (record { op = plan.project (map entry_of es); renamed = map is_renamed es; columns = own })
unfolding project_shape
project-found node cols fs es names types own e names-are types-are own-is =
    ap (λ r. r >>= λ ks. Ok (record { op = plan.project (map (λ k. k.entry) ks); renamed = map (λ k. k.renamed) ks; columns = entry_columns cols fs ks })) e
    ∙ rw (entries-view es, renamed-view es, types-view cols.types es, own-is, names-are, types-are) refl
