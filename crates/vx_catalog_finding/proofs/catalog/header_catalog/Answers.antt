use Rattle.std.proofs.Common.{◌≡◌, ◌++◌, [], ◌∷◌, ap, ◌∙◌, refl}
use Rattle.std.proofs.lemmas.Result.{err_from_is_err_and}
use Rattle.vx_catalog_finding.specs.Finding.{for_header, for_relation}
use Rattle.vx_catalog_finding.proofs.catalog.header_catalog.Goals as goal

pub returns-in-Err-clause-refused : goal.returns-in-Err-clause-refused
returns-in-Err-clause-refused c = for_header c.in-Err.fault refl c.in-Err.ensures

pub returns-in_err-read_back-clause-refused : goal.returns-in_err-read_back-clause-refused
returns-in_err-read_back-clause-refused c =
    let one : c.as_slice-2.result.now ≡ c.in-Ok.relation ∷ [] = c.as_slice-2.ensures.value ∙ (c.in_ok-push.ensures.items ∙ ap (λ l. l ++ c.in-Ok.relation ∷ []) c.new-relations.ensures.items) in
    let p = err_from_is_err_and c.from_residual-in_err-read_back.result c.from_residual-in_err-read_back.ensures.1 in
    let bad = rw one at c.in_err-read_back.ensures.refused in
    rw (p.1, p.2) (for_relation c.in-Ok.relation c.in_err-read_back.field-0.0 refl c.in-Ok.ensures bad)
