-- Groups of failures of which none has a cause.
use Rattle.std.proofs.Common.{◌≡◌, ◌∙◌, ℕ, List, [], ◌∷◌, ◌++◌, ap, refl, append-nil}
use Rattle.vx_plan_nodes.specs.Names.{TypedPlanView}
use Rattle.vx_check_rules.specs.Refusal.{Rule}
use Rattle.vx_check_failures.specs.Lines.{line_of, lines_of}
use Rattle.vx_check_failures.specs.Grouped.{lines_behind, groups_of, grouped_lines, no_causes}

none-behind : (p : TypedPlanView) (n : ℕ) (fs : List (ℕ × Rule)) → lines_behind p n fs (no_causes fs) ≡ []
none-behind p n [] = refl
none-behind p n (f ∷ fs) = none-behind p n fs

groups-none : (p : TypedPlanView) (all fs : List (ℕ × Rule)) → groups_of p all (no_causes all) fs (no_causes fs) ≡ lines_of p fs
groups-none p all [] = refl
groups-none p all (f ∷ fs) =
    ap (λ xs. (line_of p f ++ xs) ++ groups_of p all (no_causes all) fs (no_causes fs)) (none-behind p f.0 all)
    ∙ (ap (λ xs. xs ++ groups_of p all (no_causes all) fs (no_causes fs)) (append-nil (line_of p f)) ∙ ap (λ xs. line_of p f ++ xs) (groups-none p all fs))

pub grouped-none : (p : TypedPlanView) (fs : List (ℕ × Rule)) → grouped_lines p fs (no_causes fs) ≡ lines_of p fs
grouped-none p fs = groups-none p fs fs
