-- Each row of each serial list has the facts of its node.
use Rattle.std.proofs.Common.{◌≡◌, ℕ, true, ◌&&◌, List, [], ◌∷◌, length, sym, subst, true≢false, ⊎_elim}
use Rattle.std.specs.List.{AllByRecursion}
use Rattle.vx_rows_values.specs.Values.{Row, row_eq}
use Rattle.vx_rows_values.proofs.Booleans.{and-left, and-right}
use Rattle.vx_rows_values.proofs.Compare.{row_eq-same}
use Rattle.vx_catalog_relations.specs.Relation.{Relation}
use Rattle.vx_plan_nodes.specs.Plan.{Plan, scan, unary, binary, exchange}
use Rattle.vx_plan_nodes.specs.Types.{width}
use Rattle.vx_plan_facts.specs.RowFacts.{MeetsAt, EachWide, inputs_fit, all_inputs_fit}
use Rattle.vx_plan_facts.specs.DeterminedFacts.{occurs, FactsAt, FactsOfSerial}
use Rattle.vx_plan_facts.proofs.Tests.{or-cases}
use Rattle.vx_plan_facts.proofs.RowFacts.{serial-meets}

each-occurring : (P : Row → Type 0) (a : Row) (xs : List Row) → AllByRecursion P xs → occurs a xs ≡ true → P a
each-occurring P a [] h o = absurd (true≢false (sym o))
each-occurring P a (x ∷ xs) h o =
    ⊎_elim (λ e. subst P (sym (row_eq-same a x e)) h.0) (λ l. each-occurring P a xs h.1 l) (or-cases (row_eq a x) (occurs a xs) o)

facts-at : (catalog : ℕ → Relation) (db : ℕ → List Row) → ((r : ℕ) → EachWide (length (catalog r).types) (db r))
    → (p : Plan) → all_inputs_fit catalog p ≡ true → FactsAt catalog db p
facts-at catalog db wide p fit xs e row o = each-occurring (MeetsAt catalog p) row xs (serial-meets catalog db wide p xs fit e) o

pub facts-of-serial : FactsOfSerial
facts-of-serial catalog db wide (scan n c r m z) fit = facts-at catalog db wide (scan n c r m z) fit
facts-of-serial catalog db wide (unary n c op p) fit = (facts-at catalog db wide (unary n c op p) fit, facts-of-serial catalog db wide p fit)
facts-of-serial catalog db wide (binary n c op p q) fit =
    let here = inputs_fit (width catalog p) (width catalog q) op in
    let rest = and-right (all_inputs_fit catalog p) (all_inputs_fit catalog q && here) fit in (
      facts-at catalog db wide (binary n c op p q) fit,
      facts-of-serial catalog db wide p (and-left (all_inputs_fit catalog p) (all_inputs_fit catalog q && here) fit),
      facts-of-serial catalog db wide q (and-left (all_inputs_fit catalog q) here rest),
    )
facts-of-serial catalog db wide (exchange n c k m p) fit = (facts-at catalog db wide (exchange n c k m p) fit, facts-of-serial catalog db wide p fit)
