use Rattle.std.proofs.Common.{arith, subst}
use Rattle.vx_rows.specs.Columns.{AreLong}
use Rattle.vx_rows.proofs.Fill.{still_rows}
use Rattle.vx_rows.proofs.Grown.{seen, still_seen}
use Rattle.vx_rows.proofs.PartFacts.{lent_back, grown_by_parts, grown_rows}
use Rattle.vx_rows.proofs.table.Table.append_all.Goals as goal

pub invariant_of-self : goal.invariant_of-self
invariant_of-self g c =
    let lent =
    lent_back c.self.inside.count c.self.inside.columns.len c.args.parts.now c.as_mut_slice.result.now c.self.inside.columns.items c.grow_all.new.columns c.as_mut_slice.ensures.value
    (omega (arith, c.self.inside.columns.ok.0)) c.grow_all.ensures.many c.grow_all.ensures.front c.grow_all.ensures.all in
    still_rows _ _ _ _ c.self.invariant lent.keep

pub returns-then-not-are_long-clause-err : goal.returns-then-not-are_long-clause-err
returns-then-not-are_long-clause-err g c =
    let lent =
    lent_back c.self.inside.count c.self.inside.columns.len c.args.parts.now c.as_mut_slice.result.now c.self.inside.columns.items c.grow_all.new.columns c.as_mut_slice.ensures.value
    (omega (arith, c.self.inside.columns.ok.0)) c.grow_all.ensures.many c.grow_all.ensures.front c.grow_all.ensures.all in
    still_seen (seen c.self.view_is c.self.invariant) _ lent.keep

pub invariant_of-self-2 : goal.invariant_of-self-2
invariant_of-self-2 g c =
    let lent =
    lent_back c.self.inside.count c.self.inside.columns.len c.args.parts.now c.as_mut_slice.result.now c.self.inside.columns.items c.grow_all.new.columns c.as_mut_slice.ensures.value
    (omega (arith, c.self.inside.columns.ok.0)) c.grow_all.ensures.many c.grow_all.ensures.front c.grow_all.ensures.all in
    let long = subst (AreLong c.in-Some.count) c.as_slice.ensures.value (c.are_long.ensures c.if-not-are_long.false) in
    (grown_by_parts (seen c.self.view_is c.self.invariant) c.in-Some.count c.args.parts.now _ lent long c.in-Some.ensures.count
    (c.in-Some.ensures.fit c.args.self.now.types c.requires.same_types)).are

pub returns-clause-ok : goal.returns-clause-ok
returns-clause-ok g c =
    let lent =
    lent_back c.self.inside.count c.self.inside.columns.len c.args.parts.now c.as_mut_slice.result.now c.self.inside.columns.items c.grow_all.new.columns c.as_mut_slice.ensures.value
    (omega (arith, c.self.inside.columns.ok.0)) c.grow_all.ensures.many c.grow_all.ensures.front c.grow_all.ensures.all in
    let long = subst (AreLong c.in-Some.count) c.as_slice.ensures.value (c.are_long.ensures c.if-not-are_long.false) in
    grown_rows c.args.parts.now (grown_by_parts (seen c.self.view_is c.self.invariant) c.in-Some.count c.args.parts.now _ lent long c.in-Some.ensures.count
    (c.in-Some.ensures.fit c.args.self.now.types c.requires.same_types))
