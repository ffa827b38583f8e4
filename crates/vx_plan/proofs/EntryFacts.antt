-- Columns of projections as the program holds them: what they are, and whether they have a new name.
use Rattle.std.proofs.Common.{◌≡◌, List, [], ◌∷◌, map, refl, ap}
use Rattle.vx_rows_values.specs.declared.value.ColType.{ColType}
use Rattle.vx_plan_nodes.specs.declared.typed.Entry.{Entry}
use Rattle.vx_plan_nodes.specs.Outline.{entry_of, is_renamed}
use Rattle.vx_plan_nodes.specs.Types.{entry_type}
use Rattle.vx_plan.specs.Resolve.{FoundEntry}
use Rattle.vx_plan.specs.Shaped.{found_of}

pub entries-view : (es : List Entry) → map (λ (k : FoundEntry). k.entry) (map found_of es) ≡ map entry_of es
entries-view [] = refl
entries-view (e ∷ es) = ap (λ l. entry_of e ∷ l) (entries-view es)

pub renamed-view : (es : List Entry) → map (λ (k : FoundEntry). k.renamed) (map found_of es) ≡ map is_renamed es
renamed-view [] = refl
renamed-view (e ∷ es) = ap (λ l. is_renamed e ∷ l) (renamed-view es)

pub types-view : (types : List ColType) (es : List Entry) → map (λ (k : FoundEntry). entry_type types k.entry) (map found_of es) ≡ map (entry_type types) (map entry_of es)
types-view types [] = refl
types-view types (e ∷ es) = ap (λ l. entry_type types (entry_of e) ∷ l) (types-view types es)

pub ruleset entry_views = (entries-view, renamed-view, types-view)
