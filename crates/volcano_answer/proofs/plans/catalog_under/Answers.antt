use Rattle.std.proofs.Common.{ℕ, List, refl}
use Rattle.std.proofs.lemmas.Result.{err_from_is_err_and}
use Rattle.vx_catalog_relations.specs.Naming.{catalog_text}
use Rattle.vx_catalog_relations.specs.Naming as catalog
use Rattle.volcano_answer.specs.Files.{known_at}
use Rattle.volcano_answer.specs.Plans.{for_catalog_text}
use Rattle.volcano_answer.proofs.FileFacts.{known_all}
use Rattle.volcano_answer.proofs.plans.catalog_under.Goals as goal

pub returns-in_err-read-clause-refused : goal.returns-in_err-read-clause-refused
returns-in_err-read-clause-refused g c =
    let fault = c.in_err-read.field-0.0 in
    let p = err_from_is_err_and c.from_residual-in_err-read.result c.from_residual-in_err-read.ensures.1 in
    let P : List ℕ → Type 0 = λ bytes. catalog.Fails fault (catalog_text bytes) in
    let fails : P c.in_ok-text.text.items = rw c.as_slice.ensures.value at c.in_err-read.ensures in
    rw (p.1, p.2) (for_catalog_text fault refl (known_all P (known_at (g.F.Store.holds c.args.files.now) (g.I.ByteIn.remaining c.args.input.now) c.args.path.now) c.in_ok-text.text.items c.in_ok-text.ensures.bytes fails))
