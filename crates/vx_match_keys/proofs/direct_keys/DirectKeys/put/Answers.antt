use Rattle.std.proofs.Common.{◌≡◌, ◌<◌, ◌+◌, arith, refl, sym, ap, ◌∙◌, subst, get_or, set, length, map, pos, List, ℕ}
use Rattle.std.specs.Prelude.{position, None}
use Rattle.vx_rows_values.specs.Values.{row_eq}
use Rattle.vx_match_keys.specs.Direct.{direct_key, IsTable}
use Rattle.vx_match_keys.proofs.DirectFacts.{new-number, next-table, same-table}
use Rattle.vx_match_keys.proofs.direct_keys.DirectKeys.put.Goals as goal

pub invariant_of-self : goal.invariant_of-self
invariant_of-self c = same-table c.self.inside.keys.items c.self.inside.table.items c.self.invariant c.reach.new.table.items c.in_err-reach.ensures.same

pub invariant_of-self-in_err-push : goal.invariant_of-self-in_err-push
invariant_of-self-in_err-push c =
    let t = c.self.inside in
    subst (λ (ks : List ℕ). IsTable ks c.reach.new.table.items) (sym c.in_err-push.ensures.items) (same-table t.keys.items t.table.items c.self.invariant c.reach.new.table.items c.in_ok-reach.ensures.same)

pub invariant_of-self-2 : goal.invariant_of-self-2
invariant_of-self-2 c =
    let t = c.self.inside in
    let table = c.reach.new.table.items in
    let v = c.args.place in
    let new : position (row_eq (direct_key v)) (map direct_key t.keys.items) ≡ None = ap (position (row_eq (direct_key v))) c.self.view_is ∙ c.requires in
    let zero : get_or table v 0 ≡ 0 = c.in_ok-reach.ensures.same v ∙ new-number t.keys.items t.table.items c.self.invariant (pos v) v refl new in
    let near : v < length table = omega (arith, c.in_ok-reach.ensures.there, c.reach.new.table.ok.0) in
    let count : c.len-number.result ≡ length t.keys.items = omega (arith, c.len-number.ensures, t.keys.ok.0) in
    let next = next-table t.keys.items table (same-table t.keys.items t.table.items c.self.invariant table c.in_ok-reach.ensures.same) v near zero in
    subst (λ (n : ℕ). IsTable c.push.new.self.items (set table v (n + 1))) (sym count)
    (subst (λ (ks : List ℕ). IsTable ks (set table v (length t.keys.items + 1))) (sym c.in_ok-push.ensures.items) next)
