use Rattle.std.proofs.Common.{◌≡◌, map, take}
use Rattle.volcano_documents.specs.Shapes.{names_of}
use Rattle.volcano_documents.proofs.wording.names_of.Given as goal

abbrev pub invariant-loop-member : goal.invariant-loop-member
invariant-loop-member l = map (λ w. w.now) l.names.items ≡ names_of (take l.member-index l.members)
