use Rattle.std.proofs.Common.{◌≡◌, ◌+◌, arith, sym, subst, length, take, drop, Bool, ℕ}
use Rattle.std.proofs.lemmas.List.{length-take, length-drop}
use Rattle.vx_match_keys.specs.Rising.{IsRiseAnswer, AtMostAnswer}
use Rattle.vx_match_keys.proofs.RiseFacts.{rise-answer, fall-answer}
use Rattle.vx_match_keys.proofs.rising.block_rises.Goals as goal

pub returns-then-falling : goal.returns-then-falling
returns-then-falling c =
    let ns = c.args.numbers.now in
    let n = c.in-Some.last in
    let r = c.are_at_most.result in
    let e = sym c.in-Some.ensures.1 in
    let long : n + 1 ≡ length ns = let s = c.in-Some.ensures in omega (arith, s.0, s.1) in
    let count : length (take n (drop 1 ns)) ≡ n = let t = length-take n (drop 1 ns) in let d = length-drop 1 ns in omega (arith, t, d, long) in
    let here = subst (λ (m : ℕ). AtMostAnswer (take m (drop 1 ns)) (take n ns) (length (take m (drop 1 ns))) r) e c.are_at_most.ensures in
    subst (λ (f : Bool). IsRiseAnswer f ns r) (sym c.if-falling.true) (fall-answer ns n long (length (take n (drop 1 ns))) count r here)

pub returns-else-falling : goal.returns-else-falling
returns-else-falling c =
    let ns = c.args.numbers.now in
    let n = c.in-Some.last in
    let r = c.are_at_most-else-falling.result in
    let e = sym c.in-Some.ensures.1 in
    let long : n + 1 ≡ length ns = let s = c.in-Some.ensures in omega (arith, s.0, s.1) in
    let count : length (take n ns) ≡ n = let t = length-take n ns in omega (arith, t, long) in
    let here = subst (λ (m : ℕ). AtMostAnswer (take n ns) (take m (drop 1 ns)) (length (take n ns)) r) e c.are_at_most-else-falling.ensures in
    subst (λ (f : Bool). IsRiseAnswer f ns r) (sym c.if-falling.false) (rise-answer ns n long (length (take n ns)) count r here)
