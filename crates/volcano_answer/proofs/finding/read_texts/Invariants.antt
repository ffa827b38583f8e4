use Rattle.std.proofs.Common.{map, take}
use Rattle.vx_catalog_finding.specs.Finding.{text_of}
use Rattle.volcano_answer.specs.Finding.{AreTextsAt}
use Rattle.volcano_answer.proofs.finding.read_texts.Given as goal

abbrev pub invariant-loop-path : goal.invariant-loop-path
invariant-loop-path g l = AreTextsAt (g.F.Store.holds l.files) (map (λ p. p.now) (take l.path-index l.paths)) (map text_of l.texts.items)
