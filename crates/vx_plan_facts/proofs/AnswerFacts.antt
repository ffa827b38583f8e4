-- What an answer says of other sets, and of a node that was asked before.
use Rattle.std.proofs.Common.{◌≡◌, ◌∙◌, ℕ, ◌<◌, ◌≤◌, nat_lt, true, ◌||◌, ⊎_elim, sym, arith}
use Rattle.vx_rows_values.specs.Limits.{max_columns}
use Rattle.vx_rows_values.proofs.Booleans.{and-right}
use Rattle.vx_catalog_relations.specs.Relation.{Relation}
use Rattle.vx_plan_nodes.specs.Plan.{Plan}
use Rattle.vx_plan_nodes.specs.Types.{width, well_formed}
use Rattle.vx_plan_facts.specs.Determined.{Columns, determined}
use Rattle.vx_plan_facts.specs.DeterminedFacts.{Within, WithinFirst}
use Rattle.vx_plan_facts.specs.Asking.{IsAnswer}
use Rattle.vx_plan_facts.specs.Known.{DetermineSame}
use Rattle.vx_plan_facts.proofs.Tests.{or-cases, or-left}
use Rattle.vx_plan_facts.proofs.Least.{least-sets, more-from-more}
use Rattle.vx_plan_facts.proofs.ClosingFacts.{below}
use Rattle.vx_plan_facts.proofs.AskingFacts.{bool-same}

module _ (catalog : ℕ → Relation) (p : Plan) (formed : well_formed catalog p ≡ true) where
  -- columns that a set determines determine no more than it
  no-more : (s t : Columns) → WithinFirst (width catalog p) t (determined catalog p s) → WithinFirst (width catalog p) (determined catalog p t) (determined catalog p s)
  no-more s t h = (least-sets catalog p formed t).least (determined catalog p s) h (least-sets catalog p formed s).closed

  told : (asked a : Columns) → IsAnswer catalog p asked a → (x : ℕ) → a x ≡ true → determined catalog p asked x ≡ true
  told asked a is x h = and-right (nat_lt x (width catalog p)) (determined catalog p asked x) (sym (is x) ∙ h)

  -- a set between what was asked and what was answered has the same answer
  pub same-again : (asked a s : Columns) → IsAnswer catalog p asked a → Within asked s → Within s a → IsAnswer catalog p s a
  same-again asked a s is more less x =
      is x
      ∙ bool-same (nat_lt x (width catalog p)) (determined catalog p asked x) (determined catalog p s x)
      (λ l h. more-from-more.of_all catalog p asked s more x h)
      (λ l h. no-more asked s (λ y m e. told asked a is y (less y e)) x (below x (width catalog p) l) h)

  -- a set determines no more with the answer to columns of it
  pub same-with : (asked a s t : Columns) → width catalog p ≤ max_columns → IsAnswer catalog p asked a → Within asked s → ((x : ℕ) → x < max_columns → t x ≡ (s x || a x))
      → DetermineSame catalog p s t
  same-with asked a s t few is more put x =
      bool-same (nat_lt x (width catalog p)) (determined catalog p t x) (determined catalog p s x)
      (λ l h. no-more s t
      (λ y m e. ⊎_elim (λ o. (least-sets catalog p formed s).holds y o) (λ o. more-from-more.of_all catalog p asked s more y (told asked a is y o))
      (or-cases (s y) (a y) (sym (put y (omega (arith, m, few))) ∙ e)))
      x (below x (width catalog p) l) h)
      (λ l h. more-from-more.of_first catalog p formed s t (λ y m e. put y (omega (arith, m, few)) ∙ or-left (s y) (a y) e) x (below x (width catalog p) l) h)

  pub same-then : (s t u : Columns) → DetermineSame catalog p s t → DetermineSame catalog p t u → DetermineSame catalog p s u
  same-then s t u e f x = f x ∙ e x
