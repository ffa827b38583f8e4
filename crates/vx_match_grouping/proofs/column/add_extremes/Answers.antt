use Rattle.std.proofs.Common.{◌≡◌, ◌∙◌, ℕ, ℤ, List, Result, IfErr, sym, ap, subst, map}
use Rattle.vx_rows_values.specs.Values.{Row, num}
use Rattle.vx_rows_values.specs.ValueView.{val_of}
use Rattle.vx_match_keys.proofs.ErrorFacts.{if-err, reported}
use Rattle.vx_match_grouping.specs.declared.fault.GroupFault.{GroupFault}
use Rattle.vx_match_grouping.specs.declared.folds.End.{End}
use Rattle.vx_match_grouping.specs.declared.folds.End.TheVariants.{Least, Greatest}
use Rattle.vx_match_grouping.specs.declared.column.Extremes.{Extremes}
use Rattle.vx_match_grouping.specs.Groups.{Held}
use Rattle.vx_match_grouping.specs.Takes.{entry_held, TakesNot}
use Rattle.vx_match_grouping.specs.Shown.{aggregate_at, extremes_held}
use Rattle.vx_match_grouping.proofs.ColumnFacts.{same-values}
use Rattle.vx_match_grouping.proofs.column.add_extremes.Goals as goal

-- why the numbers of a chunk are not taken, of the end that was asked for
numbers-blame : {T : Type 0} (kept end : End) (column : ℕ) (rows : List Row) (numbers : List ℕ) (entries : List ℤ) (extremes : Extremes) (r : Result T GroupFault) → end ≡ kept
    → map (entry_held (aggregate_at end column) (λ n. num n) (λ _. 0)) entries ≡ extremes_held (aggregate_at end column) extremes
    → IfErr r (λ e. TakesNot e (aggregate_at kept column) rows numbers (map (entry_held (aggregate_at kept column) (λ n. num n) (λ _. 0)) entries))
    → IfErr r (λ e. TakesNot e (aggregate_at end column) rows numbers (extremes_held (aggregate_at end column) extremes))
numbers-blame kept end column rows numbers entries extremes r is was =
    let held : End → List Held = λ x. map (entry_held (aggregate_at x column) (λ n. num n) (λ _. 0)) entries in
    if-err r (λ (e : GroupFault). TakesNot e (aggregate_at kept column) rows numbers (held kept))
    (λ (e : GroupFault). TakesNot e (aggregate_at end column) rows numbers (extremes_held (aggregate_at end column) extremes))
    (λ e h. subst (TakesNot e (aggregate_at end column) rows numbers) was
    (subst (λ x. TakesNot e (aggregate_at x column) rows numbers (held x)) (sym is) h))

pub returns-in-Least-clause-err : goal.returns-in-Least-clause-err
returns-in-Least-clause-err c =
    let f = c.args.fold in
    let extremes = c.args.extremes.now in
    numbers-blame Least f.end f.operand.column f.operand.chunk.now.rows c.args.numbers.now c.in-Numbers.entries.items extremes c.add_rows-in-Least.result c.in-Least.is (ap (extremes_held (aggregate_at f.end f.operand.column)) (sym c.in-Numbers.is))
    c.add_rows-in-Least.ensures.err

pub returns-in-Greatest-clause-err : goal.returns-in-Greatest-clause-err
returns-in-Greatest-clause-err c =
    let f = c.args.fold in
    let extremes = c.args.extremes.now in
    numbers-blame Greatest f.end f.operand.column f.operand.chunk.now.rows c.args.numbers.now c.in-Numbers.entries.items extremes c.add_rows-in-Greatest.result c.in-Greatest.is (ap (extremes_held (aggregate_at f.end f.operand.column)) (sym c.in-Numbers.is))
    c.add_rows-in-Greatest.ensures.err

pub returns-in_err-add_rows-in-Numbers-clause-err : goal.returns-in_err-add_rows-in-Numbers-clause-err
returns-in_err-add_rows-in-Numbers-clause-err c =
    let a = aggregate_at c.args.fold.end c.args.fold.operand.column in
    let numbers = c.args.numbers.now in
    let rows = c.args.fold.operand.chunk.now.rows in
    let e = c.in_err-add_rows-in-Numbers.field-0.0 in
    let values = c.in_ok-values-in-Numbers.values.items in
    let same : map (entry_held a (λ x. val_of x) (λ _. 0)) values ≡ extremes_held a c.args.extremes.now =
    same-values a (λ x. val_of x) (λ n. num n) values c.in-Numbers.entries.items (c.in_ok-values-in-Numbers.ensures ∙ ap (map (λ n. num n)) c.as_slice-in-Numbers.ensures.value)
    ∙ ap (extremes_held a) (sym c.in-Numbers.is) in
    reported c.from_residual-in_err-add_rows-in-Numbers.result e (λ x. TakesNot x a rows numbers (extremes_held a c.args.extremes.now)) c.from_residual-in_err-add_rows-in-Numbers.ensures.1
    (subst (TakesNot e a rows numbers) same c.in_err-add_rows-in-Numbers.ensures.err)

pub returns-in_ok-add_rows-in-Numbers-clause-taken : goal.returns-in_ok-add_rows-in-Numbers-clause-taken
returns-in_ok-add_rows-in-Numbers-clause-taken c = λ by xs are was.
    let a = aggregate_at c.args.fold.end c.args.fold.operand.column in
    let values = c.in_ok-values-in-Numbers.values.items in
    let same : map (entry_held a (λ x. val_of x) (λ _. 0)) values ≡ extremes_held a c.args.extremes.now =
    same-values a (λ x. val_of x) (λ n. num n) values c.in-Numbers.entries.items (c.in_ok-values-in-Numbers.ensures ∙ ap (map (λ n. num n)) c.as_slice-in-Numbers.ensures.value)
    ∙ ap (extremes_held a) (sym c.in-Numbers.is) in
    c.in_ok-add_rows-in-Numbers.ensures.taken by xs are (same ∙ was)
