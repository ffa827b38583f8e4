use Rattle.std.proofs.Common.{◌≡◌, ◌∙◌, ◌&&◌, Bool, refl, ap}
use Rattle.vx_plan_nodes.specs.Outline.{plan_of}
use Rattle.vx_plan_nodes.specs.Plan.{Plan}
use Rattle.vx_check_rules.specs.KnownNode.{StaysKnown}
use Rattle.vx_check_keeping.specs.Telling.{tells_here, tells_derived, IsBesideKnown}
use Rattle.vx_check_keeping.proofs.TellingNodes.{under-unary, under-sent, under-left, under-right, stays-over, stays-then, still-beside, beside-unary, beside-sent, beside-left, beside-right, unary-tells, sent-tells, both-tell, both-yes, first-no}
use Rattle.vx_check_keeping.proofs.telling.+do_nodes_tell.Goals.{then-do_nodes_tell-2, else-do_nodes_tell-2}
use Rattle.vx_check_keeping.proofs.telling.+do_nodes_tell.Goals as goal

-- ---- an operator over one input

pub returns-then-do_nodes_tell-clause-tell : goal.returns-then-do_nodes_tell-clause-tell
returns-then-do_nodes_tell-clause-tell t c = λ catalog h.
    let f : Plan = plan_of c.args.node.now in
    let p : Plan = plan_of c.in-Unary-Unary.input.value in
    let is = ap plan_of c.in-Unary-Unary.is-0 in
    let kept : StaysKnown c.args.known.now c.do_nodes_tell.new.known f = stays-over c.args.known.now c.do_nodes_tell.new.known p f (under-unary _ _ _ p f is) (rw c.deref.ensures at c.do_nodes_tell.ensures.kept) in
    let e : Plan = plan_of c.args.other.now in
    let q : Plan = plan_of c.in-Unary-Unary.below.value in
    let are = ap plan_of c.in-Unary-Unary.is-1 in
    let inside = (rw (c.deref.ensures, c.deref-in-Unary-Unary.ensures) at c.do_nodes_tell.ensures.tell) catalog (beside-unary catalog c.args.known.now f e h _ _ _ _ _ _ p q is are) in
    both-yes (tells_derived catalog p q) c.do_nodes_tell.result c.does_tell_here-then-do_nodes_tell.result (tells_here catalog f e) (tells_derived catalog f e) inside c.if-do_nodes_tell.true
    (c.does_tell_here-then-do_nodes_tell.ensures.tells catalog (still-beside catalog c.args.known.now c.do_nodes_tell.new.known f e kept h)) (unary-tells catalog f e _ _ _ _ _ _ p q is are)

pub returns-then-do_nodes_tell-clause-kept : goal.returns-then-do_nodes_tell-clause-kept
returns-then-do_nodes_tell-clause-kept t c =
    let f : Plan = plan_of c.args.node.now in
    let p : Plan = plan_of c.in-Unary-Unary.input.value in
    let is = ap plan_of c.in-Unary-Unary.is-0 in
    let kept : StaysKnown c.args.known.now c.do_nodes_tell.new.known f = stays-over c.args.known.now c.do_nodes_tell.new.known p f (under-unary _ _ _ p f is) (rw c.deref.ensures at c.do_nodes_tell.ensures.kept) in
    stays-then c.args.known.now c.do_nodes_tell.new.known c.does_tell_here-then-do_nodes_tell.new.known f kept c.does_tell_here-then-do_nodes_tell.ensures.kept

pub returns-else-do_nodes_tell-clause-kept : goal.returns-else-do_nodes_tell-clause-kept
returns-else-do_nodes_tell-clause-kept t c =
    let f : Plan = plan_of c.args.node.now in
    let p : Plan = plan_of c.in-Unary-Unary.input.value in
    let is = ap plan_of c.in-Unary-Unary.is-0 in
    let kept : StaysKnown c.args.known.now c.do_nodes_tell.new.known f = stays-over c.args.known.now c.do_nodes_tell.new.known p f (under-unary _ _ _ p f is) (rw c.deref.ensures at c.do_nodes_tell.ensures.kept) in
    kept

-- ---- an exchange

pub returns-then-do_nodes_tell-4-clause-tell : goal.returns-then-do_nodes_tell-4-clause-tell
returns-then-do_nodes_tell-4-clause-tell t c = λ catalog h.
    let f : Plan = plan_of c.args.node.now in
    let p : Plan = plan_of c.in-Exchange-Exchange.input.value in
    let is = ap plan_of c.in-Exchange-Exchange.is-0 in
    let kept : StaysKnown c.args.known.now c.do_nodes_tell-in-Exchange-Exchange.new.known f = stays-over c.args.known.now c.do_nodes_tell-in-Exchange-Exchange.new.known p f (under-sent _ _ _ _ p f is) (rw c.deref-in-Exchange-Exchange.ensures at c.do_nodes_tell-in-Exchange-Exchange.ensures.kept) in
    let e : Plan = plan_of c.args.other.now in
    let q : Plan = plan_of c.in-Exchange-Exchange.below.value in
    let are = ap plan_of c.in-Exchange-Exchange.is-1 in
    let inside = (rw (c.deref-in-Exchange-Exchange.ensures, c.deref-in-Exchange-Exchange-2.ensures) at c.do_nodes_tell-in-Exchange-Exchange.ensures.tell) catalog (beside-sent catalog c.args.known.now f e h _ _ _ _ _ _ _ _ p q is are) in
    both-yes (tells_derived catalog p q) c.do_nodes_tell-in-Exchange-Exchange.result c.does_tell_here-then-do_nodes_tell-4.result (tells_here catalog f e) (tells_derived catalog f e) inside c.if-do_nodes_tell-4.true
    (c.does_tell_here-then-do_nodes_tell-4.ensures.tells catalog (still-beside catalog c.args.known.now c.do_nodes_tell-in-Exchange-Exchange.new.known f e kept h)) (sent-tells catalog f e _ _ _ _ _ _ _ _ p q is are)

pub returns-then-do_nodes_tell-4-clause-kept : goal.returns-then-do_nodes_tell-4-clause-kept
returns-then-do_nodes_tell-4-clause-kept t c =
    let f : Plan = plan_of c.args.node.now in
    let p : Plan = plan_of c.in-Exchange-Exchange.input.value in
    let is = ap plan_of c.in-Exchange-Exchange.is-0 in
    let kept : StaysKnown c.args.known.now c.do_nodes_tell-in-Exchange-Exchange.new.known f = stays-over c.args.known.now c.do_nodes_tell-in-Exchange-Exchange.new.known p f (under-sent _ _ _ _ p f is) (rw c.deref-in-Exchange-Exchange.ensures at c.do_nodes_tell-in-Exchange-Exchange.ensures.kept) in
    stays-then c.args.known.now c.do_nodes_tell-in-Exchange-Exchange.new.known c.does_tell_here-then-do_nodes_tell-4.new.known f kept c.does_tell_here-then-do_nodes_tell-4.ensures.kept

pub returns-else-do_nodes_tell-4-clause-kept : goal.returns-else-do_nodes_tell-4-clause-kept
returns-else-do_nodes_tell-4-clause-kept t c =
    let f : Plan = plan_of c.args.node.now in
    let p : Plan = plan_of c.in-Exchange-Exchange.input.value in
    let is = ap plan_of c.in-Exchange-Exchange.is-0 in
    let kept : StaysKnown c.args.known.now c.do_nodes_tell-in-Exchange-Exchange.new.known f = stays-over c.args.known.now c.do_nodes_tell-in-Exchange-Exchange.new.known p f (under-sent _ _ _ _ p f is) (rw c.deref-in-Exchange-Exchange.ensures at c.do_nodes_tell-in-Exchange-Exchange.ensures.kept) in
    kept

-- ---- an operator over two inputs

pub returns-then-do_nodes_tell-3-clause-tell : goal.returns-then-do_nodes_tell-3-clause-tell
returns-then-do_nodes_tell-3-clause-tell t c = λ catalog h.
    let f : Plan = plan_of c.args.node.now in
    let e : Plan = plan_of c.args.other.now in
    let p : Plan = plan_of c.in-Binary-Binary.left.value in
    let p2 : Plan = plan_of c.in-Binary-Binary.right.value in
    let is = ap plan_of c.in-Binary-Binary.is-0 in
    let first : StaysKnown c.args.known.now c.do_nodes_tell-in-Binary-Binary.new.known f = stays-over c.args.known.now c.do_nodes_tell-in-Binary-Binary.new.known p f (under-left _ _ _ p p2 f is) (rw c.deref-in-Binary-Binary.ensures at c.do_nodes_tell-in-Binary-Binary.ensures.kept) in
    let kept : StaysKnown c.args.known.now c.if-do_nodes_tell-2.known f = elim c.if-do_nodes_tell-2.branch [
      | then-do_nodes_tell-2 w ↦ rw w.known-is (stays-then c.args.known.now c.do_nodes_tell-in-Binary-Binary.new.known w.do_nodes_tell-then-do_nodes_tell-2.new.known f first (stays-over c.do_nodes_tell-in-Binary-Binary.new.known w.do_nodes_tell-then-do_nodes_tell-2.new.known p2 f (under-right _ _ _ p p2 f is) (rw w.deref-then-do_nodes_tell-2.ensures at w.do_nodes_tell-then-do_nodes_tell-2.ensures.kept)))
      | else-do_nodes_tell-2 w ↦ rw w.known-is first
    ] in
    let q : Plan = plan_of c.in-Binary-Binary.first.value in
    let q2 : Plan = plan_of c.in-Binary-Binary.second.value in
    let are = ap plan_of c.in-Binary-Binary.is-1 in
    let a : Bool = tells_derived catalog p q in
    let b : Bool = tells_derived catalog p2 q2 in
    let lefts : c.do_nodes_tell-in-Binary-Binary.result ≡ a = (rw (c.deref-in-Binary-Binary.ensures, c.deref-in-Binary-Binary-2.ensures) at c.do_nodes_tell-in-Binary-Binary.ensures.tell) catalog (beside-left catalog c.args.known.now f e h _ _ _ _ _ _ p p2 q q2 is are) in
    let later : IsBesideKnown catalog c.do_nodes_tell-in-Binary-Binary.new.known p2 q2 = beside-right catalog c.do_nodes_tell-in-Binary-Binary.new.known f e (still-beside catalog c.args.known.now c.do_nodes_tell-in-Binary-Binary.new.known f e first h) _ _ _ _ _ _ p p2 q q2 is are in
    let both : c.if-do_nodes_tell-2.value ≡ (a && b) = elim c.if-do_nodes_tell-2.branch [
      | then-do_nodes_tell-2 w ↦ both-yes a c.do_nodes_tell-in-Binary-Binary.result c.if-do_nodes_tell-2.value b (a && b) lefts w.if-do_nodes_tell-2.true (w.value-is ∙ (rw (w.deref-then-do_nodes_tell-2.ensures, w.deref-then-do_nodes_tell-2-2.ensures) at w.do_nodes_tell-then-do_nodes_tell-2.ensures.tell) catalog later) refl
      | else-do_nodes_tell-2 w ↦ w.value-is ∙ first-no a c.do_nodes_tell-in-Binary-Binary.result b (a && b) lefts w.if-do_nodes_tell-2.false refl
    ] in
    let join = both-tell catalog f e _ _ _ _ _ _ p p2 q q2 is are in
    both-yes (a && b) c.if-do_nodes_tell-2.value c.does_tell_here-then-do_nodes_tell-3.result (tells_here catalog f e) (tells_derived catalog f e) both c.if-do_nodes_tell-3.true
    (c.does_tell_here-then-do_nodes_tell-3.ensures.tells catalog (still-beside catalog c.args.known.now c.if-do_nodes_tell-2.known f e kept h)) join

pub returns-else-do_nodes_tell-3-clause-tell : goal.returns-else-do_nodes_tell-3-clause-tell
returns-else-do_nodes_tell-3-clause-tell t c = λ catalog h.
    let f : Plan = plan_of c.args.node.now in
    let e : Plan = plan_of c.args.other.now in
    let p : Plan = plan_of c.in-Binary-Binary.left.value in
    let p2 : Plan = plan_of c.in-Binary-Binary.right.value in
    let is = ap plan_of c.in-Binary-Binary.is-0 in
    let first : StaysKnown c.args.known.now c.do_nodes_tell-in-Binary-Binary.new.known f = stays-over c.args.known.now c.do_nodes_tell-in-Binary-Binary.new.known p f (under-left _ _ _ p p2 f is) (rw c.deref-in-Binary-Binary.ensures at c.do_nodes_tell-in-Binary-Binary.ensures.kept) in
    let kept : StaysKnown c.args.known.now c.if-do_nodes_tell-2.known f = elim c.if-do_nodes_tell-2.branch [
      | then-do_nodes_tell-2 w ↦ rw w.known-is (stays-then c.args.known.now c.do_nodes_tell-in-Binary-Binary.new.known w.do_nodes_tell-then-do_nodes_tell-2.new.known f first (stays-over c.do_nodes_tell-in-Binary-Binary.new.known w.do_nodes_tell-then-do_nodes_tell-2.new.known p2 f (under-right _ _ _ p p2 f is) (rw w.deref-then-do_nodes_tell-2.ensures at w.do_nodes_tell-then-do_nodes_tell-2.ensures.kept)))
      | else-do_nodes_tell-2 w ↦ rw w.known-is first
    ] in
    let q : Plan = plan_of c.in-Binary-Binary.first.value in
    let q2 : Plan = plan_of c.in-Binary-Binary.second.value in
    let are = ap plan_of c.in-Binary-Binary.is-1 in
    let a : Bool = tells_derived catalog p q in
    let b : Bool = tells_derived catalog p2 q2 in
    let lefts : c.do_nodes_tell-in-Binary-Binary.result ≡ a = (rw (c.deref-in-Binary-Binary.ensures, c.deref-in-Binary-Binary-2.ensures) at c.do_nodes_tell-in-Binary-Binary.ensures.tell) catalog (beside-left catalog c.args.known.now f e h _ _ _ _ _ _ p p2 q q2 is are) in
    let later : IsBesideKnown catalog c.do_nodes_tell-in-Binary-Binary.new.known p2 q2 = beside-right catalog c.do_nodes_tell-in-Binary-Binary.new.known f e (still-beside catalog c.args.known.now c.do_nodes_tell-in-Binary-Binary.new.known f e first h) _ _ _ _ _ _ p p2 q q2 is are in
    let both : c.if-do_nodes_tell-2.value ≡ (a && b) = elim c.if-do_nodes_tell-2.branch [
      | then-do_nodes_tell-2 w ↦ both-yes a c.do_nodes_tell-in-Binary-Binary.result c.if-do_nodes_tell-2.value b (a && b) lefts w.if-do_nodes_tell-2.true (w.value-is ∙ (rw (w.deref-then-do_nodes_tell-2.ensures, w.deref-then-do_nodes_tell-2-2.ensures) at w.do_nodes_tell-then-do_nodes_tell-2.ensures.tell) catalog later) refl
      | else-do_nodes_tell-2 w ↦ w.value-is ∙ first-no a c.do_nodes_tell-in-Binary-Binary.result b (a && b) lefts w.if-do_nodes_tell-2.false refl
    ] in
    let join = both-tell catalog f e _ _ _ _ _ _ p p2 q q2 is are in
    first-no (a && b) c.if-do_nodes_tell-2.value (tells_here catalog f e) (tells_derived catalog f e) both c.if-do_nodes_tell-3.false join

pub returns-then-do_nodes_tell-3-clause-kept : goal.returns-then-do_nodes_tell-3-clause-kept
returns-then-do_nodes_tell-3-clause-kept t c =
    let f : Plan = plan_of c.args.node.now in
    let p : Plan = plan_of c.in-Binary-Binary.left.value in
    let p2 : Plan = plan_of c.in-Binary-Binary.right.value in
    let is = ap plan_of c.in-Binary-Binary.is-0 in
    let first : StaysKnown c.args.known.now c.do_nodes_tell-in-Binary-Binary.new.known f = stays-over c.args.known.now c.do_nodes_tell-in-Binary-Binary.new.known p f (under-left _ _ _ p p2 f is) (rw c.deref-in-Binary-Binary.ensures at c.do_nodes_tell-in-Binary-Binary.ensures.kept) in
    let kept : StaysKnown c.args.known.now c.if-do_nodes_tell-2.known f = elim c.if-do_nodes_tell-2.branch [
      | then-do_nodes_tell-2 w ↦ rw w.known-is (stays-then c.args.known.now c.do_nodes_tell-in-Binary-Binary.new.known w.do_nodes_tell-then-do_nodes_tell-2.new.known f first (stays-over c.do_nodes_tell-in-Binary-Binary.new.known w.do_nodes_tell-then-do_nodes_tell-2.new.known p2 f (under-right _ _ _ p p2 f is) (rw w.deref-then-do_nodes_tell-2.ensures at w.do_nodes_tell-then-do_nodes_tell-2.ensures.kept)))
      | else-do_nodes_tell-2 w ↦ rw w.known-is first
    ] in
    stays-then c.args.known.now c.if-do_nodes_tell-2.known c.does_tell_here-then-do_nodes_tell-3.new.known f kept c.does_tell_here-then-do_nodes_tell-3.ensures.kept

pub returns-else-do_nodes_tell-3-clause-kept : goal.returns-else-do_nodes_tell-3-clause-kept
returns-else-do_nodes_tell-3-clause-kept t c =
    let f : Plan = plan_of c.args.node.now in
    let p : Plan = plan_of c.in-Binary-Binary.left.value in
    let p2 : Plan = plan_of c.in-Binary-Binary.right.value in
    let is = ap plan_of c.in-Binary-Binary.is-0 in
    let first : StaysKnown c.args.known.now c.do_nodes_tell-in-Binary-Binary.new.known f = stays-over c.args.known.now c.do_nodes_tell-in-Binary-Binary.new.known p f (under-left _ _ _ p p2 f is) (rw c.deref-in-Binary-Binary.ensures at c.do_nodes_tell-in-Binary-Binary.ensures.kept) in
    let kept : StaysKnown c.args.known.now c.if-do_nodes_tell-2.known f = elim c.if-do_nodes_tell-2.branch [
      | then-do_nodes_tell-2 w ↦ rw w.known-is (stays-then c.args.known.now c.do_nodes_tell-in-Binary-Binary.new.known w.do_nodes_tell-then-do_nodes_tell-2.new.known f first (stays-over c.do_nodes_tell-in-Binary-Binary.new.known w.do_nodes_tell-then-do_nodes_tell-2.new.known p2 f (under-right _ _ _ p p2 f is) (rw w.deref-then-do_nodes_tell-2.ensures at w.do_nodes_tell-then-do_nodes_tell-2.ensures.kept)))
      | else-do_nodes_tell-2 w ↦ rw w.known-is first
    ] in
    kept
