use Rattle.std.proofs.Common.{[], Some, None}
use Rattle.std.proofs.lemmas.Result.{err_from_is_err_and}
use Rattle.vx_catalog_loading.proofs.FrontFacts.{begins_behind, begins_on, rounds_fail, own_fault}
use Rattle.vx_catalog_loading.proofs.text.read_front.Goals as goal

pub returns-in_err-first-clause-own : goal.returns-in_err-first-clause-own
returns-in_err-first-clause-own g c =
    let p = err_from_is_err_and c.from_residual-in_err-first.result c.from_residual-in_err-first.ensures.1 in
    rw (p.1, p.2) (own_fault c.in_err-first.field-0.0 _ (c.in_err-first.ensures.err []))

pub returns-in_default-clause-rows : goal.returns-in_default-clause-rows
returns-in_default-clause-rows g c =
    let left = g.S.Read.remaining c.fill.new.source in
    let none = rw c.in_default.is at (c.in_ok-first.ensures.rows left) in
    begins_behind c.args.relation.now c.args.buffer.now.items c.fill.new.buffer.items c.take_first_line.new.buffer.items None (g.S.Read.remaining c.args.source.now) left left c.in_ok-fill.ensures.bytes none

pub returns-in_err-read_rounds-clause-err : goal.returns-in_err-read_rounds-clause-err
returns-in_err-read_rounds-clause-err g c =
    let relation = c.args.relation.now in
    let held = c.args.buffer.now.items in
    let all = g.S.Read.remaining c.args.source.now in
    let left = g.S.Read.remaining c.fill.new.source in
    let front = c.in-Some.first.rows in
    let behind = c.take_first_line.new.buffer.items in
    let first = rw c.in-Some.is at (c.in_ok-first.ensures.rows left) in
    let types = rw c.in-Some.is at c.in_ok-first.ensures.types in
    let begun = begins_behind relation held c.fill.new.buffer.items behind (Some front) all left left c.in_ok-fill.ensures.bytes first in
    let bad = rw (c.in_ok-rows.ensures, types) at c.in_err-read_rounds.ensures.err in
    let p = err_from_is_err_and c.from_residual-in_err-read_rounds.result c.from_residual-in_err-read_rounds.ensures.1 in
    rw (p.1, p.2) (rounds_fail relation c.in_err-read_rounds.field-0.0 held behind front all left begun bad)

pub returns-clause-rows : goal.returns-clause-rows
returns-clause-rows g c =
    let relation = c.args.relation.now in
    let held = c.args.buffer.now.items in
    let all = g.S.Read.remaining c.args.source.now in
    let left = g.S.Read.remaining c.fill.new.source in
    let front = c.in-Some.first.rows in
    let behind = c.take_first_line.new.buffer.items in
    let first = rw c.in-Some.is at (c.in_ok-first.ensures.rows left) in
    let types = rw c.in-Some.is at c.in_ok-first.ensures.types in
    let begun = begins_behind relation held c.fill.new.buffer.items behind (Some front) all left left c.in_ok-fill.ensures.bytes first in
    let rounds = rw (c.in_ok-rows.ensures, types) at c.in_ok-read_rounds.ensures.rows in
    begins_on relation held behind c.read_rounds.new.buffer.items front c.read_rounds.new.rows.rows all left (g.S.Read.remaining c.read_rounds.new.source) begun rounds
