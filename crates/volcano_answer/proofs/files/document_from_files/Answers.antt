use Rattle.std.proofs.Common.{◌≡◌, ℕ, List, Option, Ok, refl, ap, subst}
use Rattle.std.proofs.lemmas.Result.{err_from_is_err_and}
use Rattle.vx_catalog_relations.specs.Naming.{catalog_text}
use Rattle.vx_catalog_relations.specs.Naming as catalog
use Rattle.vx_plan_json.specs.Fault as plan
use Rattle.vx_plan_json.specs.PlanView.{document_of}
use Rattle.vx_plan_json.specs.Reading.{document_of_text}
use Rattle.volcano_answer.specs.Files.{is_input, left_of, input_after, known_at, IsReadRefusal, no_catalog_bytes, no_catalog, no_plan_bytes, no_plan}
use Rattle.volcano_answer.proofs.FileFacts.{known_all, known_next, same_left}
use Rattle.volcano_answer.proofs.files.document_from_files.Goals as goal

pub returns-in_err-catalog_text-clause-refused : goal.returns-in_err-catalog_text-clause-refused
returns-in_err-catalog_text-clause-refused g c =
    let p = err_from_is_err_and c.from_residual.result c.from_residual.ensures.1 in
    rw (p.1, p.2) (no_catalog_bytes c.in_err-catalog_text.ensures.refused)

pub returns-in_err-catalog-clause-refused : goal.returns-in_err-catalog-clause-refused
returns-in_err-catalog-clause-refused g c =
    let files = g.F.Store.holds c.args.files.now in
    let before = g.I.ByteIn.remaining c.args.input.now in
    let fault = c.in_err-catalog.field-0.0 in
    let p = err_from_is_err_and c.from_residual-in_err-catalog.result c.from_residual-in_err-catalog.ensures.1 in
    let P : List ℕ → Type 0 = λ bytes. catalog.Fails fault (catalog_text bytes) in
    let fails : P c.in_ok-catalog_text.catalog_text.items = rw c.as_slice.ensures.value at c.in_err-catalog.ensures in
    rw (p.1, p.2)
    (no_catalog fault refl (known_all P (known_at files before c.args.sources.catalog.now) c.in_ok-catalog_text.catalog_text.items c.in_ok-catalog_text.ensures.bytes fails))

pub returns-in_err-plan_text-clause-refused : goal.returns-in_err-plan_text-clause-refused
returns-in_err-plan_text-clause-refused g c =
    let files = g.F.Store.holds c.args.files.now in
    let before = g.I.ByteIn.remaining c.args.input.now in
    let after = g.I.ByteIn.remaining c.bytes_at.new.input in
    let first = c.args.sources.catalog.now in
    let p = err_from_is_err_and c.from_residual-in_err-plan_text.result c.from_residual-in_err-plan_text.ensures.1 in
    let P : List ℕ → Type 0 = λ bytes. catalog_text bytes ≡ Ok c.in_ok-catalog.catalog in
    let declares : P c.in_ok-catalog_text.catalog_text.items = rw c.as_slice.ensures.value at c.in_ok-catalog.ensures in
    let left : left_of c.is_input-was_read.result after ≡ input_after before first = same_left (is_input first) c.is_input-was_read.result before after c.is_input-was_read.ensures (λ other. ap (g.I.ByteIn.remaining) (c.in_ok-catalog_text.ensures.kept other)) in
    let U : Option (List ℕ) → Type 0 = λ o. IsReadRefusal files (g.F.Store.is_reliable c.args.files.now) o (g.I.ByteIn.has_failed c.bytes_at-2.new.input) c.args.sources.plan.now c.in_err-plan_text.field-0.0 in
    rw (p.1, p.2)
    (no_plan_bytes c.in_ok-catalog.catalog (known_all P (known_at files before first) c.in_ok-catalog_text.catalog_text.items c.in_ok-catalog_text.ensures.bytes declares) (subst U left c.in_err-plan_text.ensures.refused))

pub returns-in_err-plan-clause-refused : goal.returns-in_err-plan-clause-refused
returns-in_err-plan-clause-refused g c =
    let files = g.F.Store.holds c.args.files.now in
    let before = g.I.ByteIn.remaining c.args.input.now in
    let after = g.I.ByteIn.remaining c.bytes_at.new.input in
    let first = c.args.sources.catalog.now in
    let second = c.args.sources.plan.now in
    let fault = c.in_err-plan.field-0.0 in
    let written = c.in_ok-plan_text.plan_text.items in
    let p = err_from_is_err_and c.from_residual-in_err-plan.result c.from_residual-in_err-plan.ensures.1 in
    let P : List ℕ → Type 0 = λ bytes. catalog_text bytes ≡ Ok c.in_ok-catalog.catalog in
    let declares : P c.in_ok-catalog_text.catalog_text.items = rw c.as_slice.ensures.value at c.in_ok-catalog.ensures in
    let fails : plan.Fails fault (document_of_text written) = rw c.as_slice-2.ensures.value at c.in_err-plan.ensures in
    let F : List ℕ → Type 0 = λ bytes. plan.Fails fault (document_of_text bytes) in
    rw (p.1, p.2) (no_plan c.in_ok-catalog.catalog fault refl
    (known_all P (known_at files before first) c.in_ok-catalog_text.catalog_text.items c.in_ok-catalog_text.ensures.bytes declares)
    (known_next F files before after first second c.is_input-was_read.result written c.is_input-was_read.ensures (λ other. ap (g.I.ByteIn.remaining) (c.in_ok-catalog_text.ensures.kept other)) c.in_ok-plan_text.ensures.bytes fails))

pub returns-clause-read : goal.returns-clause-read
returns-clause-read g c =
    let files = g.F.Store.holds c.args.files.now in
    let before = g.I.ByteIn.remaining c.args.input.now in
    let after = g.I.ByteIn.remaining c.bytes_at.new.input in
    let first = c.args.sources.catalog.now in
    let second = c.args.sources.plan.now in
    let written = c.in_ok-plan_text.plan_text.items in
    let d = document_of c.in_ok-plan.plan in
    let P : List ℕ → Type 0 = λ bytes. catalog_text bytes ≡ Ok c.in_ok-catalog.catalog in
    let declares : P c.in_ok-catalog_text.catalog_text.items = rw c.as_slice.ensures.value at c.in_ok-catalog.ensures in
    let reads : document_of_text written ≡ Ok d = rw c.as_slice-2.ensures.value at c.in_ok-plan.ensures in
    let R : List ℕ → Type 0 = λ bytes. document_of_text bytes ≡ Ok d in
    record {
      catalog = known_all P (known_at files before first) c.in_ok-catalog_text.catalog_text.items c.in_ok-catalog_text.ensures.bytes declares;
      plan = known_next R files before after first second c.is_input-was_read.result written c.is_input-was_read.ensures (λ other. ap (g.I.ByteIn.remaining) (c.in_ok-catalog_text.ensures.kept other)) c.in_ok-plan_text.ensures.bytes reads;
    }
