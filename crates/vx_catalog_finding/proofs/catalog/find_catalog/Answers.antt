use Rattle.std.proofs.Common.{◌≡◌, ◌∙◌, refl, arith}
use Rattle.std.proofs.lemmas.List.{length-map}
use Rattle.std.proofs.lemmas.Result.{err_from_is_err_and}
use Rattle.vx_catalog_finding.specs.Finding.{text_of, for_relations}
use Rattle.vx_catalog_finding.proofs.catalog.find_catalog.Goals as goal

pub returns-in_err-catalog-clause-refused : goal.returns-in_err-catalog-clause-refused
returns-in_err-catalog-clause-refused g c =
    let p = err_from_is_err_and c.from_residual-in_err-catalog.result c.from_residual-in_err-catalog.ensures.1 in
    let bad = rw c.as_slice-2.ensures.value at c.in_err-catalog.ensures.refused in
    rw (p.1, p.2) (for_relations c.in_ok-relations.relations.items c.in_err-catalog.field-0.0 refl c.in_ok-relations.ensures.ok bad)

pub returns-clause-found : goal.returns-clause-found
returns-clause-found g c =
    let same : c.in_ok-catalog.catalog ≡ c.in_ok-relations.relations.items = c.in_ok-catalog.ensures.ok ∙ c.as_slice-2.ensures.value in
    let read = rw c.as_str.ensures.value at c.in_ok-catalog.ensures.read in (
      c.in_ok-relations.relations.items,
      record {
        found = c.in_ok-relations.ensures.ok;
        loads = λ i h. rw same at (c.in_ok-load_all.ensures.ok i (omega (arith, h, length-map c.args.texts.now text_of)));
        is_written = rw c.as_slice.ensures.value at c.in_ok-text.ensures;
        reads_back = rw same at read;
      },
    )
