-- What is true of each span of two lists.
use Rattle.std.proofs.Common.{List, [], ◌∷◌, ◌++◌}
use Rattle.std.specs.List.{AllByRecursion}
use Rattle.vx_exec_layout.specs.declared.span.NodeSpan.{NodeSpan}

module _ (P : NodeSpan → Type 0) where
  pub each-both : (xs ys : List NodeSpan) → AllByRecursion P xs → AllByRecursion P ys → AllByRecursion P (xs ++ ys)
  each-both [] ys h k = k
  each-both (x ∷ xs) ys h k = (h.0, each-both xs ys h.1 k)

  pub each-parts : (xs ys : List NodeSpan) → AllByRecursion P (xs ++ ys) → AllByRecursion P xs × AllByRecursion P ys
  each-parts [] ys h = (tt, h)
  each-parts (x ∷ xs) ys h = let z = each-parts xs ys h.1 in ((h.0, z.0), z.1)
