use Rattle.std.proofs.Common.{map, arith}
use Rattle.vx_plan_nodes.specs.Outline.{part_of}
use Rattle.vx_check_options.proofs.OptionFacts.{rising-put, first-within, some-length}
use Rattle.vx_check_options.proofs.order_choices.rising.Goals as goal

pub index_mut-requires : goal.index_mut-requires
index_mut-requires c =
    let found = c.in_ok-found.found in
    let within = first-within c.args.choices.now found.items c.in-len1-up.len_at_least c.in_ok-found.ensures in
    omega (arith, found.ok.0, within)

pub returns : goal.returns
returns c =
    let entries = c.in_ok-entries.entries in
    let some = some-length entries.items _ _ (omega (arith, entries.ok.0)) c.is_empty.ensures c.if-is_empty.false in
    rising-put (map part_of c.args.parts.now) c.args.choices.now c.in_ok-found.found.items c.place-item.result entries c.in-len1-up.len_at_least c.place-item.is (rw c.as_slice.ensures.value at c.in_ok-entries.ensures) some
    c.in_ok-found.ensures
