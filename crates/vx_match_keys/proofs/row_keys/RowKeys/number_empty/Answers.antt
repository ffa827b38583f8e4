use Rattle.std.proofs.Common.{◌≡◌, ◌<◌, ◌++◌, [], ℕ, arith, sym, ap, ◌∙◌, length, map}
use Rattle.std.specs.List.{position_or_len}
use Rattle.std.proofs.lemmas.List.{append-nil}
use Rattle.indexmap.specs.IndexSet.{insert_key}
use Rattle.vx_rows_values.specs.Values.{row_eq}
use Rattle.vx_match_keys.proofs.EmptyKeys.{numbers-alike, keys-alike, numbers-none, keys-none}
use Rattle.vx_match_keys.proofs.row_keys.RowKeys.number_empty.Goals as goal

pub returns-then-len-eq0 : goal.returns-then-len-eq0
returns-then-len-eq0 c =
    let rows = c.args.chunk.now.rows in
    let none : length rows ≡ 0 = sym c.len.ensures ∙ c.if-len-eq0.true in
    record {
      numbers = sym (append-nil c.args.numbers.now.items) ∙ ap (λ ns. c.args.numbers.now.items ++ ns) (sym (numbers-none c.args.self.now rows none));
      keys = sym (keys-none c.args.self.now rows none);
    }

pub returns : goal.returns
returns c =
    let rows = c.args.chunk.now.rows in
    let known = c.args.self.now in
    let some : 0 < length rows = omega (arith, c.if-len-eq0.false, c.len.ensures) in
    let number-is : c.in_ok-number.number ≡ position_or_len (row_eq []) known = c.in_ok-number.ensures.number ∙ ap (λ k. position_or_len (row_eq k) known) c.new-key.ensures in
    record {
      numbers = c.in_ok-push_for_each.ensures
          ∙ ap (λ ns. c.args.numbers.now.items ++ ns) (ap (λ (n : ℕ). map (λ _. n) rows) number-is ∙ sym (numbers-alike known rows));
      keys = c.in_ok-number.ensures.keys ∙ ap (insert_key row_eq known) c.new-key.ensures ∙ sym (keys-alike known rows some);
    }
