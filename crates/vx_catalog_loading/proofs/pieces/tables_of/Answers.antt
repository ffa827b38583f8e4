use Rattle.std.proofs.Common.{rules, ◌≡◌, ◌<◌, ◌≤◌, ◌+◌, ◌∷◌, Some, Ok, Err, arith, length, sym, ◌∙◌, subst, drop, refl}
use Rattle.std.specs.Vec.Iter.{into_iter_items}
use Rattle.std.proofs.lemmas.List.{length_push}
use Rattle.vx_catalog.specs.Loading.{Fails}
use Rattle.vx_catalog_loading.specs.Pieces.{rows_of_text}
use Rattle.vx_catalog_loading.proofs.JoinFacts.{next_is, joined_more, joined_over, joined_stop, count_pushed}
use Rattle.vx_catalog_loading.proofs.pieces.tables_of.Goals as goal
use Rattle.vx_rows_values.specs.Limits.{max_rows}

pub returns-in-Some-Err-clause-err : goal.returns-in-Some-Err-clause-err
returns-in-Some-Err-clause-err c types front left long pieces =
    let inv = c.loop-part.invariant in
    let tables = c.loop-part.tables.items in
    let next : into_iter_items c.loop-part.part-iterator ≡ c.in-Some.part ∷ into_iter_items c.next.new.self = search rules in
    let is : c.in-Some.part ≡ Some (Err c.in-Some-Err.fault) = search rules in
    let here = next_is (length tables) c.args.parts.items (into_iter_items c.next.new.self) c.in-Some.part (Some (Err c.in-Some-Err.fault)) (sym inv.2 ∙ next) in
    subst (λ e. Fails e (rows_of_text types front (left 0))) (sym c.fault_of.ensures)
    (joined_stop types front left c.args.parts.items tables c.loop-part.count c.args.before long pieces (inv.6 types front left long pieces) inv.4 inv.5 here.0 c.in-Some-Err.fault (here.1 ∙ is))

pub returns-then-len-count-clause-err : goal.returns-then-len-count-clause-err
returns-then-len-count-clause-err c types front left long pieces =
    let inv = c.loop-part.invariant in
    let tables = c.loop-part.tables.items in
    let next : into_iter_items c.loop-part.part-iterator ≡ c.in-Some.part ∷ into_iter_items c.next.new.self = search rules in
    let is : c.in-Some.part ≡ Some (Ok c.in-Some-Ok.table) = search rules in
    let here = next_is (length tables) c.args.parts.items (into_iter_items c.next.new.self) c.in-Some.part (Some (Ok c.in-Some-Ok.table)) (sym inv.2 ∙ next) in
    let many : max_rows < c.loop-part.count + length c.in-Some-Ok.table.rows = let few = inv.5 in omega (arith, few, c.len.ensures, c.if-len-count.true) in
    joined_over types front left c.args.parts.items tables c.loop-part.count c.args.before long pieces (inv.6 types front left long pieces) inv.4 inv.5 here.0 c.in-Some-Ok.table (here.1 ∙ is) many

pub loop-part-preserved : goal.loop-part-preserved
loop-part-preserved c =
    let inv = c.loop-part.invariant in
    let tables = c.loop-part.tables.items in
    let table = c.in-Some-Ok.table in
    let next : into_iter_items c.loop-part.part-iterator ≡ c.in-Some.part ∷ into_iter_items c.next.new.self = search rules in
    let is : c.in-Some.part ≡ Some (Ok table) = search rules in
    let here = next_is (length tables) c.args.parts.items (into_iter_items c.next.new.self) c.in-Some.part (Some (Ok table)) (sym inv.2 ∙ next) in
    let n = length_push tables table in
    let near = here.0 in
    let few : c.loop-part.count + length table.rows ≤ max_rows = let f = inv.5 in omega (arith, f, c.len.ensures, c.if-len-count.false) in
    rw (c.in_ok-push-in-Some-Ok.ensures.items, c.len-count.ensures) (
      tt,
      tt,
      here.2 ∙ subst (λ k. drop (length tables + 1) c.args.parts.items ≡ drop k c.args.parts.items) (sym n) refl,
      omega (arith, n, near),
      count_pushed c.args.before c.loop-part.count tables table inv.4,
      few,
      λ types front left long pieces.
          joined_more types front left c.args.parts.items tables c.loop-part.count c.args.before long pieces (inv.6 types front left long pieces) inv.4 inv.5 near table (here.1 ∙ is) few,
    )
