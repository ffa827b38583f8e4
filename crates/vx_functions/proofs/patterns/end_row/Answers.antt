use Rattle.std.proofs.Common.{◌≡◌, ◌∙◌, ◌++◌, [], ◌∷◌, true, false, replicate, ap, arith}
use Rattle.vx_functions.proofs.RowFacts.{end-row}
use Rattle.vx_functions.proofs.patterns.end_row.Goals as goal

pub returns : goal.returns
returns c = λ cs l.
    let all : c.loop.counter ≡ c.args.count = omega (arith, c.loop-test.false, c.loop.auto.counter-end) in
    end-row cs c.args.count c.push-2.new.self.items l (c.in_ok-push-2.ensures.items ∙ (ap (λ xs. xs ++ true ∷ []) c.loop.invariant ∙ ap (λ n. replicate n false ++ true ∷ []) all))
