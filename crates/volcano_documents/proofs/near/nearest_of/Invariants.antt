use Rattle.std.proofs.Common.{map, IfSome, Contains}
use Rattle.volcano_documents.proofs.near.nearest_of.Given as goal

abbrev pub invariant-loop-word : goal.invariant-loop-word
invariant-loop-word l = IfSome l.nearest (λ w. Contains (map (λ x. x.now) l.words) w.now)
