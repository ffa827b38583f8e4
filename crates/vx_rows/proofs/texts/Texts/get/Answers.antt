use Rattle.std.proofs.Common.{◌+◌, length, arith, sym, ap}
use Rattle.std.proofs.lemmas.List.{get_or_read}
use Rattle.vx_rows.proofs.Splice.{near_cut, at_piece}
use Rattle.vx_rows.proofs.texts.Texts.get.Goals as goal

pub index-requires : goal.index-requires
index-requires c =
    omega (arith, near_cut c.self.inside.bytes.items c.self.inside.cuts.items c.args.self.now c.self.view_is c.args.i c.requires, c.self.inside.cuts.ok.0)

pub overflow_add-i : goal.overflow_add-i
overflow_add-i c =
    omega (arith, near_cut c.self.inside.bytes.items c.self.inside.cuts.items c.args.self.now c.self.view_is c.args.i c.requires, c.self.inside.cuts.ok.0, c.self.inside.cuts.small)

pub index-requires-2 : goal.index-requires-2
index-requires-2 c =
    omega (arith, near_cut c.self.inside.bytes.items c.self.inside.cuts.items c.args.self.now c.self.view_is c.args.i c.requires, c.self.inside.cuts.ok.0)

pub text_of-requires-clause-rise : goal.text_of-requires-clause-rise
text_of-requires-clause-rise c =
    let near = near_cut c.self.inside.bytes.items c.self.inside.cuts.items c.args.self.now c.self.view_is c.args.i c.requires in
    let a = get_or_read c.self.inside.cuts.items c.args.i _ (omega arith) c.index.ensures 0 in
    let b = get_or_read c.self.inside.cuts.items (c.args.i + 1) _ near c.index-2.ensures 0 in
    let up = c.self.invariant.rise c.args.i (c.args.i + 1) (omega arith) near in
    omega (arith, a, b, up)

pub text_of-requires-clause-within : goal.text_of-requires-clause-within
text_of-requires-clause-within c =
    let near = near_cut c.self.inside.bytes.items c.self.inside.cuts.items c.args.self.now c.self.view_is c.args.i c.requires in
    let b = get_or_read c.self.inside.cuts.items (c.args.i + 1) _ near c.index-2.ensures 0 in
    let w = c.self.invariant.within (c.args.i + 1) near in
    omega (arith, b, w, ap length c.as_slice.ensures.value)

pub text_of-requires-clause-utf8 : goal.text_of-requires-clause-utf8
text_of-requires-clause-utf8 c =
    let near = near_cut c.self.inside.bytes.items c.self.inside.cuts.items c.args.self.now c.self.view_is c.args.i c.requires in
    let a = get_or_read c.self.inside.cuts.items c.args.i _ (omega arith) c.index.ensures 0 in
    let b = get_or_read c.self.inside.cuts.items (c.args.i + 1) _ near c.index-2.ensures 0 in
    rw (c.as_slice.ensures.value, a, b) (c.self.invariant.utf8 c.args.i near)

pub returns : goal.returns
returns c =
    let near = near_cut c.self.inside.bytes.items c.self.inside.cuts.items c.args.self.now c.self.view_is c.args.i c.requires in
    let a = get_or_read c.self.inside.cuts.items c.args.i _ (omega arith) c.index.ensures 0 in
    let b = get_or_read c.self.inside.cuts.items (c.args.i + 1) _ near c.index-2.ensures 0 in
    let piece_is = at_piece c.self.inside.bytes.items c.self.inside.cuts.items c.args.self.now c.self.view_is c.args.i near in
    rw (c.text_of.ensures, c.as_slice.ensures.value, a, b) (sym piece_is)
