use Rattle.std.proofs.Common.{◌≡◌, ◌<◌, ◌++◌, [], arith, length, sym, ◌∙◌, ap, subst, refl, drop, get_or}
use Rattle.std.proofs.lemmas.Result.{err_from_is_err_and}
use Rattle.std.proofs.lemmas.List.{get_or_read}
use Rattle.vx_catalog.specs.Loading.{Fails}
use Rattle.vx_catalog_loading.specs.Pieces.{rows_of_text}
use Rattle.vx_catalog_loading.proofs.RoundFacts.{left_from, left_first, round_pieces}
use Rattle.vx_catalog_loading.proofs.pieces.read_round.Goals as goal

pub returns-in_err-tables-clause-err : goal.returns-in_err-tables-clause-err
returns-in_err-tables-clause-err g c =
    let types = c.args.rows.now.types in
    let text = c.args.text.now in
    let cuts = c.in_ok-cuts.cuts.items in
    let p = err_from_is_err_and c.from_residual-in_err-tables.result c.from_residual-in_err-tables.ensures.1 in
    let each = rw (c.as_slice.ensures.value, c.types.ensures.types) at c.in_ok-parts.ensures.each in
    rw (p.1, p.2) (λ rest may.
    let pieces = round_pieces types text cuts rest c.in_ok-parts.parts.items c.in_ok-cuts.ensures may
    (omega (arith, c.in_ok-parts.ensures.len, c.in_ok-parts.parts.ok.0, ap length c.as_slice.ensures.value)) each in
    subst (λ t. Fails c.in_err-tables.field-0.0 (rows_of_text types c.args.rows.now.rows t)) (left_first text cuts rest (length text) c.in_ok-cuts.ensures)
    (c.in_err-tables.ensures.err types c.args.rows.now.rows (left_from text cuts rest) (sym c.len.ensures) pieces))

pub append_tables-requires : goal.append_tables-requires
append_tables-requires g c =
    let types = c.args.rows.now.types in
    let text = c.args.text.now in
    let cuts = c.in_ok-cuts.cuts.items in
    let each = rw (c.as_slice.ensures.value, c.types.ensures.types) at c.in_ok-parts.ensures.each in
    let pieces = round_pieces types text cuts [] c.in_ok-parts.parts.items c.in_ok-cuts.ensures refl
    (omega (arith, c.in_ok-parts.ensures.len, c.in_ok-parts.parts.ok.0, ap length c.as_slice.ensures.value)) each in
    let joined = c.in_ok-tables.ensures.joined types c.args.rows.now.rows (left_from text cuts []) (sym c.len.ensures) pieces in
    joined.same_types

pub returns-clause-within : goal.returns-clause-within
returns-clause-within g c =
    let cuts = c.in_ok-cuts.cuts.items in
    let tables = c.in_ok-tables.tables.items in
    let near : c.len-read.result < length cuts =
    omega (arith, c.len-read.ensures, c.in_ok-tables.tables.ok.0, c.in_ok-tables.ensures.many, c.in_ok-parts.ensures.len, c.in_ok-parts.parts.ok.0, ap length c.as_slice.ensures.value, c.in_ok-cuts.ensures.some) in
    let is = get_or_read cuts c.len-read.result _ near c.index.ensures 0 in
    let within = c.in_ok-cuts.ensures.within c.len-read.result near in
    omega (arith, is, within)

pub returns-clause-rows : goal.returns-clause-rows
returns-clause-rows g c rest may =
    let types = c.args.rows.now.types in
    let front = c.args.rows.now.rows in
    let text = c.args.text.now in
    let cuts = c.in_ok-cuts.cuts.items in
    let tables = c.in_ok-tables.tables.items in
    let each = rw (c.as_slice.ensures.value, c.types.ensures.types) at c.in_ok-parts.ensures.each in
    let pieces = round_pieces types text cuts rest c.in_ok-parts.parts.items c.in_ok-cuts.ensures may
    (omega (arith, c.in_ok-parts.ensures.len, c.in_ok-parts.parts.ok.0, ap length c.as_slice.ensures.value)) each in
    let joined = c.in_ok-tables.ensures.joined types front (left_from text cuts rest) (sym c.len.ensures) pieces in
    let near : c.len-read.result < length cuts =
    omega (arith, c.len-read.ensures, c.in_ok-tables.tables.ok.0, c.in_ok-tables.ensures.many, c.in_ok-parts.ensures.len, c.in_ok-parts.parts.ok.0, ap length c.as_slice.ensures.value, c.in_ok-cuts.ensures.some) in
    let here : c.len-read.result ≡ length tables = omega (arith, c.len-read.ensures, c.in_ok-tables.tables.ok.0) in
    let is = get_or_read cuts c.len-read.result _ near c.index.ensures 0 ∙ ap (λ k. get_or cuts k 0) here in
    let added = c.in_ok-append_tables.ensures.rows in
    ap (rows_of_text types front) (sym (left_first text cuts rest (length text) c.in_ok-cuts.ensures))
    ∙ (joined.rows
    ∙ (ap (λ r. rows_of_text types r (left_from text cuts rest (length tables))) (sym added) ∙ ap (λ n. rows_of_text types c.append_tables.new.rows.rows (drop n text ++ rest)) (sym is)))
