use Rattle.std.proofs.Common.{arith, ◌≡◌, ◌∙◌, ◌<◌, ◌+◌, ◌-◌, length, get_or}
use Rattle.vx_exchange_receivers.specs.Heads.{held_at, position_at}
use Rattle.vx_exchange_receivers.proofs.Places.{place-at, place-count, run-up}
use Rattle.vx_exchange_receivers.proofs.heads.gallop.Goals as goal

pub doubles-preserved : goal.doubles-preserved
doubles-preserved c =
    let hs = c.args.heads.now in
    let p = c.args.p in
    let low = c.doubles.low in
    let at = (get_or hs p c.index-heads-p.result).at in
    let here : at ≡ position_at hs p = place-at hs p c.index-heads-p.result c.requires.row in
    let many : c.len-count.result ≡ length (held_at hs p) = c.len-count.ensures ∙ place-count hs p c.index-heads-p-2.result c.requires.row in
    let test = c.doubles-test.true in
    let more = c.doubles.invariant.more in
    let within = c.doubles.invariant.within in
    let near : (low + (low - at)) - 1 < length (held_at hs p) = omega (arith, here, many, test, more, within) in
    record {
      more = omega (arith, more);
      within = omega (arith, here, many, test, more, within);
      least = λ k a b. run-up c.args.merge.now hs p c.args.q ((low + (low - at)) - 1) c.requires.rises near (c.goes_before.ensures.before c.if-not-goes_before.false).le k (omega (arith, b));
    }

pub returns-clause-order : goal.returns-clause-order
returns-clause-order c =
    let hs = c.args.heads.now in
    let p = c.args.p in
    let many : c.len-count.result ≡ length (held_at hs p) = c.len-count.ensures ∙ place-count hs p c.index-heads-p-2.result c.requires.row in
    let within = c.doubles.invariant.within in
    omega (arith, many, within)

pub returns-clause-within : goal.returns-clause-within
returns-clause-within c =
    let hs = c.args.heads.now in
    let p = c.args.p in
    let many : c.len-count.result ≡ length (held_at hs p) = c.len-count.ensures ∙ place-count hs p c.index-heads-p-2.result c.requires.row in
    omega (arith, many)
