use Rattle.std.proofs.Common.{◌<◌, ◌∙◌, ap, arith, length, sym}
use Rattle.std.proofs.lemmas.Result.{err_from_is_err_and}
use Rattle.vx_catalog_loading.proofs.UnderFacts.{begins_line, begin_fails}
use Rattle.vx_catalog_loading.proofs.text.take_first_line.Goals as goal

pub returns-in_err-rows-clause-err : goal.returns-in_err-rows-clause-err
returns-in_err-rows-clause-err c =
    let text = c.args.buffer.now.items in
    let end = c.first_cut-end.result in
    let unquoted = rw c.deref.ensures.value at (sym c.is_unquoted.ensures ∙ c.if-not-is_unquoted.false) in
    let cut = rw c.as_slice.ensures.value at c.first_cut-end.ensures.cut in
    let near : end < length text = omega (arith, c.first_cut-end.ensures.within, c.as_slice.ensures.len, ap length c.as_slice.ensures.value, c.len.ensures, c.if-end-len.false) in
    let p = err_from_is_err_and c.from_residual.result c.from_residual.ensures.1 in
    let bad = rw c.deref-2.ensures.value at c.in_err-rows.ensures.err in
    rw (p.1, p.2) (begin_fails c.args.relation.now text end unquoted cut near c.in_err-rows.field-0.0 bad.0 bad.1)

pub returns-clause-rows : goal.returns-clause-rows
returns-clause-rows c =
    let text = c.args.buffer.now.items in
    let end = c.first_cut-end.result in
    let unquoted = rw c.deref.ensures.value at (sym c.is_unquoted.ensures ∙ c.if-not-is_unquoted.false) in
    let cut = rw c.as_slice.ensures.value at c.first_cut-end.ensures.cut in
    let near : end < length text = omega (arith, c.first_cut-end.ensures.within, c.as_slice.ensures.len, ap length c.as_slice.ensures.value, c.len.ensures, c.if-end-len.false) in
    let first = rw (c.in-Some.is, c.deref-2.ensures.value) at c.in_ok-rows.ensures.ok in
    rw c.drop_front.ensures (begins_line c.args.relation.now text end unquoted cut near c.in-Some.rows.rows first.0 first.1)
