use Rattle.std.proofs.Common.{◌≡◌, ◌∙◌, ◌++◌, arith, sym, ap, map, length, take_all, Vec, Global, ℕ}
use Rattle.std.proofs.lemmas.List.{length-map, append-nil}
use Rattle.vx_match_join.specs.Build.{parts_of}
use Rattle.vx_match_join.proofs.BuildFacts.{adds-next, length-numbers}
use Rattle.vx_match_join.proofs.key_places.push_places.Goals as goal

pub loop-i-init : goal.loop-i-init
loop-i-init c = λ by xs rows here are was. was ∙ ap (parts_of by) (sym (append-nil xs))

pub loop-i-preserved : goal.loop-i-preserved
loop-i-preserved c = λ by xs rows here are was.
    let ns = c.args.numbers.now in
    let i = c.loop-i.i in
    let items = λ (v : Vec ℕ Global). v.items in
    let now = map items c.loop-i.parts.items in
    let long = length-numbers by xs rows ns are in
    let many : length now ≡ length c.loop-i.parts.items = length-map c.loop-i.parts.items items in
    adds-next by xs rows c.args.first ns here are i (omega (arith, c.loop-i-test.true, long)) now (map items c.push_place.new.parts.items) (c.loop-i.invariant by xs rows here are was)
    (λ l. c.in_ok-push_place.ensures.known (omega (arith, l, many)))
    (λ g. c.in_ok-push_place.ensures.new (omega (arith, g, many)))

pub returns : goal.returns
returns c = λ by xs rows here are was.
    let long = length-numbers by xs rows c.args.numbers.now are in
    c.loop-i.invariant by xs rows here are was ∙ ap (λ l. parts_of by (xs ++ l)) (take_all c.loop-i.i rows (omega (arith, c.loop-i-test.false, long)))
