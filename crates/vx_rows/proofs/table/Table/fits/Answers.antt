use Rattle.std.proofs.Common.{◌≡◌, ◌<◌, ◌≤◌, false, arith, ap, ◌∙◌, sym, length, map, true, refl, true≢false, get_or}
use Rattle.std.proofs.lemmas.List.{length-map, take_more_same, get_or_read, take_all}
use Rattle.std.specs.List.{list_all}
use Rattle.vx_rows_values.specs.declared.value.ColType.TheVariants as kind
use Rattle.vx_rows_values.specs.ValueView.{val_of, cell_val}
use Rattle.vx_rows_values.specs.Types.{type_of, is_held}
use Rattle.vx_rows.proofs.Fill.{map_at, held_more, types_are}
use Rattle.vx_rows.proofs.table.Table.fits.Goals as goal

pub loop-j-preserved : goal.loop-j-preserved
loop-j-preserved c =
    let values = c.args.values.now in
    let types = c.self.inside.types.items in
    let j = c.loop-j.j in
    let v = c.index-values-j.result in
    let n : length (map val_of values) ≡ length values = length-map values val_of in
    let m : length (map type_of (map val_of values)) ≡ length (map val_of values) = length-map (map val_of values) type_of in
    let near : j < length values = omega (arith, c.loop-j-test.true, c.len-n.ensures, c.if-values-n.false) in
    let there : j < length types = omega (arith, c.loop-j-test.true, c.len-n.ensures, c.self.inside.types.ok.0) in
    let e = map_at val_of values j v (val_of v) near c.index-values-j.is in
    let t = map_at type_of (map val_of values) j (val_of v) kind.Int (omega (arith, n, near)) (sym e) in
    let same : type_of (cell_val c.cell-cell.result) ≡ c.index.result.now = c.is_of.ensures.0 (let f : c.is_of.result ≡ true = c.if-not-is_of.false in f) in
    record {
      same = take_more_same (map type_of (map val_of values)) types j kind.Int (omega (arith, n, m, near)) there c.loop-j.invariant.same
          (t ∙ (ap type_of (sym c.cell-cell.ensures.same) ∙ (same ∙ get_or_read types j c.index.result.now there c.index.ensures kind.Int)));
      held = held_more (map val_of values) j (val_of v) (omega (arith, n, near)) (sym e) c.loop-j.invariant.held c.cell-cell.ensures.held;
    }

pub returns-then-not-is_of : goal.returns-then-not-is_of
returns-then-not-is_of c =
    let values = c.args.values.now in
    let types = c.self.inside.types.items in
    let j = c.loop-j.j in
    let v = c.index-values-j.result in
    let n : length (map val_of values) ≡ length values = length-map values val_of in
    let near : j < length values = omega (arith, c.loop-j-test.true, c.len-n.ensures, c.if-values-n.false) in
    let there : j < length types = omega (arith, c.loop-j-test.true, c.len-n.ensures, c.self.inside.types.ok.0) in
    let e = map_at val_of values j v (val_of v) near c.index-values-j.is in
    let t = map_at type_of (map val_of values) j (val_of v) kind.Int (omega (arith, n, near)) (sym e) in
    let s = types_are c.args.self.now types c.self.inside.count c.self.inside.columns.items c.self.view_is in
    let no : c.is_of.result ≡ false = c.if-not-is_of.true in (
      λ f. absurd (true≢false (sym f)),
      λ f.
          let yes : c.is_of.result ≡ true =
          c.is_of.ensures.1 (ap type_of c.cell-cell.ensures.same ∙ (sym t ∙ (ap (λ l. get_or l j kind.Int) (f.types_are ∙ sym s) ∙ sym (get_or_read types j c.index.result.now there c.index.ensures kind.Int)))) in
          absurd (true≢false (sym yes ∙ no)),
    )

pub returns : goal.returns
returns c =
    let values = c.args.values.now in
    let types = c.self.inside.types.items in
    let j = c.loop-j.j in
    let n : length (map val_of values) ≡ length values = length-map values val_of in
    let m : length (map type_of (map val_of values)) ≡ length (map val_of values) = length-map (map val_of values) type_of in
    let far : length values ≤ j = omega (arith, c.loop-j-test.false, c.len-n.ensures, c.if-values-n.false) in
    let end : length types ≤ j = omega (arith, c.loop-j-test.false, c.len-n.ensures, c.self.inside.types.ok.0) in
    let s = types_are c.args.self.now types c.self.inside.count c.self.inside.columns.items c.self.view_is in (
      λ _. record {
        types_are = sym (take_all j (map type_of (map val_of values)) (omega (arith, n, m, far))) ∙ (c.loop-j.invariant.same ∙ (take_all j types end ∙ s));
        values_are = ap (λ l. list_all is_held l) (sym (take_all j (map val_of values) (omega (arith, n, far)))) ∙ c.loop-j.invariant.held;
      },
      λ _. refl,
    )
