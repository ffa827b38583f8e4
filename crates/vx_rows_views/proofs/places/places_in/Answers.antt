use Rattle.std.proofs.Common.{◌≡◌, ap, sym, map, subst}
use Rattle.std.specs.Prelude.{ℤ, List, true, All, IfOk, IfNone}
use Rattle.vx_rows_values.specs.Values.{num}
use Rattle.vx_rows.specs.Numbers.{seen_numbers}
use Rattle.vx_rows_views.specs.Selected.{of_number}
use Rattle.vx_rows_views.proofs.places.places_in.Goals as goal

pub returns-in-Narrow-clause-all : goal.returns-in-Narrow-clause-all
returns-in-Narrow-clause-all g c =
    subst (λ (ns : List ℤ). IfOk c.passing.result (λ o. IfNone o (All (λ v. of_number (g.T.NumberTest.says c.args.test.now) v ≡ true) (map num ns))))
    (sym (ap seen_numbers c.in-Narrow.is)) c.passing.ensures.all

pub returns-in-Wide-clause-all : goal.returns-in-Wide-clause-all
returns-in-Wide-clause-all g c =
    subst (λ (ns : List ℤ). IfOk c.passing-in-Wide.result (λ o. IfNone o (All (λ v. of_number (g.T.NumberTest.says c.args.test.now) v ≡ true) (map num ns))))
    (sym (ap seen_numbers c.in-Wide.is)) c.passing-in-Wide.ensures.all
