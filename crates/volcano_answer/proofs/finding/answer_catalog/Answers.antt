use Rattle.std.proofs.Common.{List, map, subst}
use Rattle.vx_catalog_finding.specs.Finding.{text_of, IsNotFound}
use Rattle.vx_catalog_finding.specs.declared.catalog.NamedText.{NamedText}
use Rattle.volcano_answer.specs.Finding.{for_texts}
use Rattle.volcano_answer.proofs.finding.answer_catalog.Goals as goal

pub returns-clause-refused : goal.returns-clause-refused
returns-clause-refused g c =
    let P : List NamedText → Type 0 = λ ts. IsNotFound (map text_of ts) c.in-Err.fault in
    for_texts (map text_of c.in_ok-texts.texts.items) c.in-Err.fault c.in_ok-texts.ensures.texts c.refusal_of.ensures (subst P c.as_slice.ensures.value c.in-Err.ensures.refused)
