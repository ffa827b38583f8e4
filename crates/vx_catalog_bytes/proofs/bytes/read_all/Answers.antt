use Rattle.std.proofs.Common.{◌≡◌, arith, take, length-append, length-take-le, true, false}
use Rattle.vx_catalog_bytes.proofs.PortFacts.{consumes_more, over-consumed, all-consumed, still-works}
use Rattle.vx_catalog_bytes.proofs.bytes.read_all.Goals as goal

pub returns-in-Ok-eq0 : goal.returns-in-Ok-eq0
returns-in-Ok-eq0 g c =
    let sees = g.R.ByteIn.remaining in
    let ok = c.in-Ok-eq0.ensures in
    let none = c.in-Ok-eq0.field-0-test in
    let works = still-works _ _ ok.fails ok.stays in
    record {
      all = all-consumed (sees c.args.reader.now) (sees c.loop.reader) (sees c.read.new.self) c.loop.bytes.items c.loop.invariant.0 (rw none at ok.bytes.0) (ok.bytes.1 none (omega arith));
      small = c.loop.invariant.2;
      whole = works;
      err = tt;
      reliable = λ r. works;
    }

pub returns-then-len-limit : goal.returns-then-len-limit
returns-then-len-limit g c =
    let sees = g.R.ByteIn.remaining in
    let ok = c.in-Ok.ensures in
    let works = still-works _ _ ok.fails ok.stays in
    let more = consumes_more (sees c.args.reader.now) (sees c.loop.reader) (sees c.read.new.self) c.loop.bytes.items (take c.in-Ok.n c.read.new.buf) c.loop.invariant.0 ok.bytes.0 in
    record {
      all = tt;
      small = tt;
      whole = tt;
      err = (over-consumed c.args.limit (sees c.args.reader.now) (sees c.read.new.self) c.extend_from_slice.new.self.items (rw c.in_ok-extend_from_slice-in-Ok.ensures.items more) (omega arith), works);
      reliable = λ r. works;
    }

pub loop-preserved : goal.loop-preserved
loop-preserved g c =
    let sees = g.R.ByteIn.remaining in
    let inv = c.loop.invariant in
    let ok = c.in-Ok.ensures in
    let works = still-works _ _ ok.fails ok.stays in
    let more = consumes_more (sees c.args.reader.now) (sees c.loop.reader) (sees c.read.new.self) c.loop.bytes.items (take c.in-Ok.n c.read.new.buf) inv.0 ok.bytes.0 in
    let put = c.in_ok-extend_from_slice-in-Ok.ensures.items in
    let some = c.in-Ok.n-test in
    (rw put more, rw put (omega (arith, length-append c.loop.bytes.items (take c.in-Ok.n c.read.new.buf), length-take-le c.in-Ok.n c.read.new.buf ok.bound, some)), omega arith, λ later. works, λ r. (ok.reliable (inv.4 r)).0)

pub returns-in-Err-clause-reliable : goal.returns-in-Err-clause-reliable
returns-in-Err-clause-reliable g c = λ r.
    let no : false ≡ true = (c.in-Err.ensures.reliable (c.loop.invariant.4 r)).1 in
    cc

pub returns : goal.returns
returns g c = absurd (omega arith)
