use Rattle.std.proofs.Common.{rules, ◌≡◌, Bool, false, true, ℕ, List, [], Option, Vec, Global, length, map, get_or, sym, ap, ◌∙◌, subst}
use Rattle.std.specs.Prelude.{All, IfSome, IfNone}
use Rattle.vx_rows.specs.View.{row, ArePositions}
use Rattle.vx_rows_views.specs.Selected.{places_of}
use Rattle.vx_rows_views.proofs.Passing.{places-near}
use Rattle.vx_plan_nodes.specs.Serial.{filters_fit}
use Rattle.vx_ops_kernels.proofs.Conditions.{keeps-all}
use Rattle.vx_ops_computing.specs.Computed.{computed_hold}
use Rattle.vx_ops_computing.proofs.BlockFacts.{all-kept}
use Rattle.vx_ops_computing.proofs.Choosing.{mask-places}
use Rattle.vx_ops_computing.proofs.Fits.{all-fit}
use Rattle.vx_ops_computing.specs.Given.{filter_by}
use Rattle.vx_ops_computing.proofs.filtering.chosen_computed.Goals as goal

pub returns-then-not-has_computed-clause-rows : goal.returns-then-not-has_computed-clause-rows
returns-then-not-has_computed-clause-rows g c =
    let none : c.has_computed.result ≡ false = search rules in
    let xs = c.args.chunk.now.rows in
    ap (λ t. t.rows) c.in_ok-share.ensures ∙ keeps-all (computed_hold (map (filter_by (g.F.PlanFunctions.functions c.args.functions.now)) c.args.filters.now)) xs (λ k d l. c.has_computed.ensures.hold none (g.F.PlanFunctions.functions c.args.functions.now) (get_or xs k d))

pub returns-then-not-has_computed-clause-fits : goal.returns-then-not-has_computed-clause-fits
returns-then-not-has_computed-clause-fits g c =
    let none : c.has_computed.result ≡ false = search rules in
    let xs = c.args.chunk.now.rows in
    all-fit (filters_fit (map (filter_by (g.F.PlanFunctions.functions c.args.functions.now)) c.args.filters.now)) xs (λ k l. c.has_computed.ensures.fit none (g.F.PlanFunctions.functions c.args.functions.now) (get_or xs k []))

pub at-requires : goal.at-requires
at-requires g c =
    let xs = c.args.chunk.now.rows in
    let holds = computed_hold (map (filter_by (g.F.PlanFunctions.functions c.args.functions.now)) c.args.filters.now) in
    let P : Option (Vec ℕ Global) → Type 0 = λ o. IfSome o (λ v. v.items ≡ places_of (λ b. b) c.as_slice.result.now) in
    let found = subst P c.in-Some.is c.in_ok-places.ensures.some in
    let is : c.as_slice-2.result.now ≡ places_of holds xs =
    c.as_slice-2.ensures.value ∙ (found ∙ (ap (places_of (λ b. b)) c.as_slice.ensures.value ∙ mask-places holds xs c.in_ok-mask.mask.items c.in_ok-mask.ensures.mask)) in
    let Q : List ℕ → Type 0 = λ ps. ArePositions (length xs) ps in
    subst Q (sym is) (places-near holds xs)

pub returns-clause-rows : goal.returns-clause-rows
returns-clause-rows g c =
    let xs = c.args.chunk.now.rows in
    let holds = computed_hold (map (filter_by (g.F.PlanFunctions.functions c.args.functions.now)) c.args.filters.now) in
    let P : Option (Vec ℕ Global) → Type 0 = λ o. IfSome o (λ v. v.items ≡ places_of (λ b. b) c.as_slice.result.now) in
    let found = subst P c.in-Some.is c.in_ok-places.ensures.some in
    let is : c.as_slice-2.result.now ≡ places_of holds xs =
    c.as_slice-2.ensures.value ∙ (found ∙ (ap (places_of (λ b. b)) c.as_slice.ensures.value ∙ mask-places holds xs c.in_ok-mask.mask.items c.in_ok-mask.ensures.mask)) in
    c.in_ok-at.ensures.rows ∙ (ap (map (row c.args.chunk.now)) is ∙ c.places_are_a_filter.ensures holds c.args.chunk.now)

pub returns-in_default-clause-rows : goal.returns-in_default-clause-rows
returns-in_default-clause-rows g c =
    let xs = c.args.chunk.now.rows in
    let mask = c.in_ok-mask.mask.items in
    let holds = computed_hold (map (filter_by (g.F.PlanFunctions.functions c.args.functions.now)) c.args.filters.now) in
    let P : Option (Vec ℕ Global) → Type 0 = λ o. IfNone o (All (λ b. b ≡ true) c.as_slice.result.now) in
    let throughout = subst P c.in_default.is c.in_ok-places.ensures.all in
    let Q : List Bool → Type 0 = λ bs. All (λ b. b ≡ true) bs in
    ap (λ t. t.rows) c.in_ok-share-2.ensures ∙ all-kept holds xs mask c.in_ok-mask.ensures.mask (subst Q c.as_slice.ensures.value throughout)
