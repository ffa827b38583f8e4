use Rattle.std.proofs.Common.{◌≡◌, Vec, Global, ap, ◌∙◌}
use Rattle.std.proofs.lemmas.Option.{get_or_from_slice_get}
use Rattle.vx_exec_threads.specs.declared.inlet.Inlet.{Inlet}
use Rattle.vx_exec_assembly.proofs.Finding.{found, found-ring, found-pair}
use Rattle.vx_exec_assembly.proofs.pairs.reunite_pair.Goals as goal

pub reunite_at-requires : goal.reunite_at-requires
reunite_at-requires c =
    let os = c.args.outs.now.items in
    let is = c.args.ins.now.items in
    let f = c.requires.ring in
    let here : c.index.result.now ≡ f.4.list = c.index.ensures ∙ get_or_from_slice_get is c.args.taker f.4.list c.index.result.now f.4.outer in
    let some = c.in-Some.ensures.some in
    let y = found is c.args.taker c.args.exchange c.args.from c.in-Some.place f.4.list c.as_slice.result.now f.4.outer
    (c.as_slice.ensures.value ∙ ap (λ (v : Vec Inlet Global). v.items) here) some.0 some.1 in
    found-ring os is c.args.putter c.args.to c.args.taker c.args.exchange c.args.from c.in-Some.place y f c.requires.apart

pub returns-clause-flows : goal.returns-clause-flows
returns-clause-flows c =
    let os = c.args.outs.now.items in
    let is = c.args.ins.now.items in
    let f = c.requires.ring in
    let here : c.index.result.now ≡ f.4.list = c.index.ensures ∙ get_or_from_slice_get is c.args.taker f.4.list c.index.result.now f.4.outer in
    let some = c.in-Some.ensures.some in
    let y = found is c.args.taker c.args.exchange c.args.from c.in-Some.place f.4.list c.as_slice.result.now f.4.outer
    (c.as_slice.ensures.value ∙ ap (λ (v : Vec Inlet Global). v.items) here) some.0 some.1 in
    found-pair os is c.args.putter c.args.to c.args.taker c.args.exchange c.args.from c.in-Some.place y c.reunite_at.ensures.flows
