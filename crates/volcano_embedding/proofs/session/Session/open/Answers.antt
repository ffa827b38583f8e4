use Rattle.std.proofs.Common.{refl}
use Rattle.std.proofs.lemmas.Result.{err_from_is_err_and}
use Rattle.volcano_embedding.specs.Planning.{for_catalog}
use Rattle.volcano_embedding.proofs.session.Session.open.Goals as goal

pub returns-in_err-catalog-clause-refused : goal.returns-in_err-catalog-clause-refused
returns-in_err-catalog-clause-refused c =
    let p = err_from_is_err_and c.from_residual-in_err-catalog.result c.from_residual-in_err-catalog.ensures.1 in
    rw (p.1, p.2) (for_catalog c.in_err-catalog.field-0.0 refl c.in_err-catalog.ensures)
