use Rattle.std.proofs.Common.{arith, sym, ◌∙◌, ◌≡◌, ◌<◌, subst, refl, true≢false, length, Some, slice_get}
use Rattle.std.proofs.lemmas.Option.{slice_get_within, slice_get_read}
use Rattle.vx_exchange_receivers.specs.Heads.{Lacks}
use Rattle.vx_exchange_receivers.proofs.HeadFacts.{the-head}
use Rattle.vx_exchange_receivers.proofs.Merges.{by-order}
use Rattle.vx_exchange_receivers.proofs.heads.first_lacking.Goals as goal

pub loop-i-preserved : goal.loop-i-preserved
loop-i-preserved c p lt k =
    let hs = c.args.heads.now in
    let i = c.loop-i.i in
    let test = c.loop-i-test.true in
    by-order p i (λ l. c.loop-i.invariant p l k)
    (λ le.
    let e : p ≡ i = omega (arith, lt, le) in
    let near : i < length hs = omega (arith, test) in
    let there : slice_get hs i ≡ Some c.index-heads-i.result = slice_get_read hs (length hs) i c.index-heads-i.result refl near c.index-heads-i.is in
    let same = the-head hs i k.0 c.index-heads-i.result (subst (λ n. slice_get hs n ≡ Some k.0) e k.1) there in
    absurd (true≢false (sym (c.lacks.ensures.1 (subst Lacks same k.2)) ∙ c.if-lacks.false)))

pub returns : goal.returns
returns c p k =
    let lt = slice_get_within c.args.heads.now p k.0 k.1 in
    let test = c.loop-i-test.false in
    c.loop-i.invariant p (omega (arith, lt, test)) k
