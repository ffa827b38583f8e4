use Rattle.std.proofs.Common.{◌≡◌, ◌+◌, ◌-◌, arith, rules, sym, ap, ◌∙◌, get_or, pos, w64}
use Rattle.std.specs.Prelude.{position}
use Rattle.std.proofs.lemmas.Int.{to_z-of_z}
use Rattle.std.proofs.lemmas.List.{get_or_read}
use Rattle.vx_rows_values.specs.Values.{row_eq}
use Rattle.vx_match_keys.specs.Columns.{number_key}
use Rattle.vx_match_keys.proofs.DirectFacts.{beyond-number, zero-number, marked-number}
use Rattle.vx_match_keys.proofs.direct_keys.DirectKeys.find.Goals as goal

pub returns-in_err-place : goal.returns-in_err-place
returns-in_err-place c =
    let key = c.args.key in
    let t = c.self.inside in
    let same = to_z-of_z w64 key (search rules) in
    c.from_residual.ensures
    ∙ (sym (beyond-number t.keys.items t.table.items c.self.invariant key (λ v near e. c.in_err-place.ensures.none v (omega (arith, near, c.len.ensures, t.table.ok.0)) (same ∙ e)))
    ∙ ap (position (row_eq (number_key key))) c.self.view_is)

pub returns-then-mark-eq0 : goal.returns-then-mark-eq0
returns-then-mark-eq0 c =
    let key = c.args.key in
    let t = c.self.inside in
    let v = c.in_ok-place.place in
    let at : key ≡ pos v = sym (to_z-of_z w64 key (search rules)) ∙ c.in_ok-place.ensures.there in
    let zero : get_or t.table.items v 0 ≡ 0 = let read = get_or_read t.table.items v c.index.result.now (omega (arith, c.in_ok-place.ensures.within, c.len.ensures, t.table.ok.0)) c.index.ensures 0 in sym read ∙ c.if-mark-eq0.true in
    sym (zero-number t.keys.items t.table.items c.self.invariant key v at zero) ∙ ap (position (row_eq (number_key key))) c.self.view_is

pub returns : goal.returns
returns c =
    let key = c.args.key in
    let t = c.self.inside in
    let v = c.in_ok-place.place in
    let n = c.index.result.now - 1 in
    let at : key ≡ pos v = sym (to_z-of_z w64 key (search rules)) ∙ c.in_ok-place.ensures.there in
    let mark : get_or t.table.items v 0 ≡ n + 1 = let read = get_or_read t.table.items v c.index.result.now (omega (arith, c.in_ok-place.ensures.within, c.len.ensures, t.table.ok.0)) c.index.ensures 0 in let some = c.if-mark-eq0.false in omega (arith, read, some) in
    sym (marked-number t.keys.items t.table.items c.self.invariant key v n at mark) ∙ ap (position (row_eq (number_key key))) c.self.view_is
