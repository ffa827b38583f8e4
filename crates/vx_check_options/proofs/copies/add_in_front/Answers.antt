use Rattle.std.proofs.Common.{◌∷◌, ◌++◌, ℕ, List, Vec, Global, map, sym, arith}
use Rattle.std.proofs.lemmas.List.{append-nil}
use Rattle.vx_check_options.proofs.LoopLists.{whole, front-next}
use Rattle.vx_check_options.proofs.copies.add_in_front.Goals as goal

pub loop-list-preserved : goal.loop-list-preserved
loop-list-preserved c =
    front-next c.args.column c.args.lists.now c.loop-list.list-index c.list-item.result c.in_ok-longer.longer c.insert.new.self c.loop-list.found.items c.push.new.self.items _ c.loop-list-test.true c.list-item.is
    (rw c.as_slice.ensures.value at c.in_ok-longer.ensures.items) c.in_ok-insert.ensures.items c.in_ok-push.ensures.items c.loop-list.invariant

pub loop-list-init : goal.loop-list-init
loop-list-init c = sym (append-nil (map (λ (v : Vec ℕ Global). v.items) c.args.found.now.items))

pub returns : goal.returns
returns c =
    let items = map (λ (v : Vec ℕ Global). v.items) in
    let all : List (Vec ℕ Global) → List (List ℕ) = λ us. items c.args.found.now.items ++ map (λ ds. c.args.column ∷ ds) (items us) in
    whole all c.args.lists.now c.loop-list.list-index _ (omega (arith, c.loop-list-test.false)) c.loop-list.invariant
