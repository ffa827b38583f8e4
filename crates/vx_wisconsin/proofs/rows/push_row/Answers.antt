use Rattle.std.proofs.Common.{◌≤◌, ◌∙◌, ℕ, List, All, arith, sym, subst}
use Rattle.std.specs.Str.{IsUtf8}
use Rattle.vx_wisconsin.proofs.Unique.{unique1-below}
use Rattle.vx_wisconsin.proofs.RowFacts.{numbers-small, text-utf8, string4-utf8, row-put}
use Rattle.vx_wisconsin.proofs.rows.push_row.Goals as goal

pub push_numbers-requires-clause-small : goal.push_numbers-requires-clause-small
push_numbers-requires-clause-small c =
    let below = unique1-below c.args.count c.args.i c.requires.there.1 in
    let is = c.unique1-unique1.ensures in
    subst (λ (ks : List ℕ). All (λ k. k ≤ 9223372036854775807) ks) (sym c.numbers.ensures) (numbers-small c.unique1-unique1.result c.args.i (omega arith) (omega arith))

pub push_text-requires-clause-utf8 : goal.push_text-requires-clause-utf8
push_text-requires-clause-utf8 c = subst (λ (s : List ℕ). IsUtf8 s) (sym c.text_of.ensures) (text-utf8 c.unique1-unique1.result)

pub push_text-requires-2-clause-utf8 : goal.push_text-requires-2-clause-utf8
push_text-requires-2-clause-utf8 c = subst (λ (s : List ℕ). IsUtf8 s) (sym c.text_of-2.ensures) (text-utf8 c.args.i)

pub push_text-requires-3-clause-utf8 : goal.push_text-requires-3-clause-utf8
push_text-requires-3-clause-utf8 c = subst (λ (s : List ℕ). IsUtf8 s) (sym c.string4.ensures) (string4-utf8 c.args.i)

pub returns-clause-rows : goal.returns-clause-rows
returns-clause-rows c =
    let front =
    row-put c.args.count c.args.i c.unique1-unique1.result c.numbers.result c.text_of.result c.text_of-2.result c.string4.result _ _ _ _
    c.unique1-unique1.ensures c.numbers.ensures c.text_of.ensures c.text_of-2.ensures c.string4.ensures
    c.in_ok-push_numbers.ensures.front c.in_ok-push_text.ensures.front c.in_ok-push_text-2.ensures.front c.in_ok-push_text-3.ensures.front in
    let rows = c.in_ok-push_text-3.ensures.rows ∙ (c.in_ok-push_text-2.ensures.rows ∙ (c.in_ok-push_text.ensures.rows ∙ c.in_ok-push_numbers.ensures.rows)) in
    rw (rows, front) at c.end_row.ensures.rows
