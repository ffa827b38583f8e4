use Rattle.std.proofs.Common.{◌≡◌, ◌+◌, ◌*◌, ◌<◌, ◌&&◌, List, length, map, sym, ap, ◌∙◌, subst, refl, arith, Option, Some, option_map, true, false, nat_lt}
use Rattle.vx_plan_nodes.specs.Outline.{plan_of}
use Rattle.vx_plan_nodes.specs.Types.{width}
use Rattle.vx_plan_facts.specs.Determined.{Columns, determined}
use Rattle.vx_plan_facts.specs.FactsView.{facts_of}
use Rattle.vx_plan_facts.specs.ColumnSetView.{set_of_columns}
use Rattle.vx_plan_facts.specs.AskingView.{input_of, answer_of}
use Rattle.vx_plan_facts.specs.Asking.{Input, IsAnswer, Asked, with_keys, left_input, right_input}
use Rattle.vx_plan_facts.specs.AnswersView.{AreKept, InputIsKnownAmong}
use Rattle.vx_plan_facts.specs.declared.answers.Answers as rust_answers
use Rattle.vx_plan_facts.proofs.KeptFacts.{left-known, right-known, input-known, in-place, at-place, kept-at, own-keys, known-own}
use Rattle.vx_plan_facts.proofs.Searching.{wide-enough, number-same, keys-same, width-same, left-same, right-same, numbered-same, left-smaller, right-smaller, starts, room, asked-size, Searching}
use Rattle.vx_plan_nodes.specs.Numbering.{nodes}
use Rattle.vx_plan_facts.proofs.AskingFacts.{own-are, closes, was-answered, same-asked, sources-below, smaller-left, smaller-right, kept-left, kept-right, finished}
use Rattle.vx_plan_facts.specs.declared.column_set.ColumnSet as rust_set
use Rattle.vx_plan_nodes.specs.Plan.{claim}
use Rattle.vx_plan_facts.specs.Equal.{equal_at}
use Rattle.vx_plan_facts.specs.Fixed.{fixed_at}
use Rattle.vx_plan_facts.specs.Closing.{IsClosed}
use Rattle.vx_plan_facts.proofs.determining.+determined.Goals.{with_keys-then-ask, with_keys-else-ask+then-ask-2}
use Rattle.vx_plan_facts.proofs.determining.+determined.Goals as goal

pub ask-determined-new-requires : goal.ask-determined-new-requires
ask-determined-new-requires n c =
    let catalog = c.requires.0 in
    let all = c.requires.1 in
    let facts = map facts_of c.args.facts.now in
    let w = c.args.width in
    let i = input_of c.in-Some.input in
    let there = ap (option_map input_of) c.in-Some.is in
    let P : Option Input → Type 0 = λ o. InputIsKnownAmong catalog all facts c.args.answers.now w o in
    let size = ap asked-size there in
    let here : asked-size (option_map input_of c.args.input) ≡ n = c.decreases in
    let falls : 4 * nodes i.1 + 2 < n = omega (arith, size, here) in
    (falls, (catalog, all, input-known catalog all facts c.args.answers.now w i (subst P there c.requires.2)))

pub ask-returns-then-is_answered-clause-asked : goal.ask-returns-then-is_answered-clause-asked
ask-returns-then-is_answered-clause-asked n c catalog all =
    let facts = map facts_of c.args.facts.now in
    let w = c.args.width in
    let i = input_of c.in-Some.input in
    let found = set_of_columns c.args.found.now in
    let last = answer_of c.args.answer.now in
    let told = c.is_answered.ensures.all c.if-is_answered.true in
    let Q : Option Input → Type 0 = λ o. InputIsKnownAmong catalog all facts c.args.answers.now w o → Asked catalog w o false found found last last in
    subst Q (sym (ap (option_map input_of) c.in-Some.is))
    (λ known. was-answered catalog facts w i found (set_of_columns c.sources-asked.result) told.0 last known.input c.sources-asked.ensures told.1 told.2)

pub ask-returns-clause-asked : goal.ask-returns-clause-asked
ask-returns-clause-asked n c catalog all =
    let facts = map facts_of c.args.facts.now in
    let w = c.args.width in
    let i = input_of c.in-Some.input in
    let found = set_of_columns c.args.found.now in
    let new = set_of_columns c.put_copies.new.found in
    let a = set_of_columns c.determined-new.result in
    let asked = set_of_columns c.sources-asked.result in
    let last = answer_of c.args.answer.now in
    let old = c.args.answers.now in
    let P : Option Input → Type 0 = λ o. InputIsKnownAmong catalog all facts old w o → Asked catalog w o true found new last (Some a) in
    subst P (sym (ap (option_map input_of) c.in-Some.is))
    (λ known. (
      a,
      refl,
      record {
        answers = λ x. c.determined-new.ensures.answer catalog all (input-known catalog all facts old w i known) x
            ∙ same-asked catalog i.1 known.input.known.formed (wide-enough catalog i.1 known.input.known.within) asked _ c.sources-asked.ensures x;
        put = c.put_copies.ensures;
        fresh = λ b is.
            let one = c.is_answered.ensures.one c.if-is_answered.false b is in
            let there = sym (c.sources-asked.ensures one.0 one.1) ∙ one.2 in
            (one.0, sources-below w i.0 (width catalog i.1) found known.input.reaches one.0 there, there, one.3);
      },
    ))

pub ask-returns-clause-kept : goal.ask-returns-clause-kept
ask-returns-clause-kept n c catalog all =
    let facts = map facts_of c.args.facts.now in
    let w = c.args.width in
    let i = input_of c.in-Some.input in
    let old = c.args.answers.now in
    let P : Option Input → Type 0 = λ o. InputIsKnownAmong catalog all facts old w o → AreKept catalog all (length facts) c.determined-new.new.answers in
    subst P (sym (ap (option_map input_of) c.in-Some.is)) (λ known. c.determined-new.ensures.kept catalog all (input-known catalog all facts old w i known))

pub with_keys-closed-found-requires : goal.with_keys-closed-found-requires
with_keys-closed-found-requires n c =
    let catalog = c.requires.0 in
    let all = c.requires.1 in
    let h = c.requires.2 in
    let facts = map facts_of c.args.facts.now in
    let keys = map (λ k. k.items) c.args.keys.now in
    let q = plan_of c.args.node.now in
    let p = with_keys keys q in
    let own = c.index-facts-head.result in
    let are = own-are catalog c.args.facts.now p h.known own c.head.result.now.number (c.head.ensures.number ∙ sym (number-same keys q)) c.index-facts-head.is in
    let wide = are.wide in
    let few = wide-enough catalog p h.known.within in
    omega (arith, wide, few)

pub with_keys-loop-right-init : goal.with_keys-loop-right-init
with_keys-loop-right-init n c catalog all h =
    let facts = map facts_of c.args.facts.now in
    let keys = map (λ k. k.items) c.args.keys.now in
    let q = plan_of c.args.node.now in
    let p = with_keys keys q in
    let own = c.index-facts-head.result in
    let are = own-are catalog c.args.facts.now p h.known own c.head.result.now.number (c.head.ensures.number ∙ sym (number-same keys q)) c.index-facts-head.is in
    let s = set_of_columns c.args.set.now in
    let found = set_of_columns c.closed-found.result in
    record { searching = starts catalog facts p h.known s found (closes catalog p (facts_of own) keys s found are (keys-same keys q) c.closed-found.ensures); kept = h.kept }

pub with_keys-ask-requires : goal.with_keys-ask-requires
with_keys-ask-requires n c =
    let catalog = c.requires.0 in
    let all = c.requires.1 in
    let h = c.requires.2 in
    let facts = map facts_of c.args.facts.now in
    let keys = map (λ k. k.items) c.args.keys.now in
    let q = plan_of c.args.node.now in
    let p = with_keys keys q in
    let own = c.index-facts-head.result in
    let are = own-are catalog c.args.facts.now p h.known own c.head.result.now.number (c.head.ensures.number ∙ sym (number-same keys q)) c.index-facts-head.is in
    let numbered = numbered-same catalog facts keys q h.known.numbered in
    let left : option_map input_of c.inputs.result.0 ≡ left_input catalog p = c.inputs.ensures.left catalog numbered ∙ sym (left-same catalog keys q) in
    let right : option_map input_of c.inputs.result.1 ≡ right_input catalog p = c.inputs.ensures.right catalog numbered ∙ sym (right-same catalog keys q) in
    let w = c.width-width.result in
    let wide : w ≡ width catalog p = c.width-width.ensures ∙ are.wide in
    let i = option_map input_of c.inputs.result.0 in
    let j = option_map input_of c.inputs.result.1 in
    let old = c.args.answers.now in
    let at = c.loop-right.invariant catalog all h in
    let less = left-smaller catalog q in
    let size = ap asked-size (c.inputs.ensures.left catalog numbered) in
    let here : 4 * nodes q + 1 ≡ n = c.decreases in
    let falls : asked-size i < n = omega (arith, less, size, here) in
    (falls, (catalog, all, left-known catalog all facts old keys q h c.loop-right.answers at.kept w i wide left))

pub with_keys-ask-requires-else-ask : goal.with_keys-ask-requires-else-ask
with_keys-ask-requires-else-ask n c =
    let catalog = c.requires.0 in
    let all = c.requires.1 in
    let h = c.requires.2 in
    let facts = map facts_of c.args.facts.now in
    let keys = map (λ k. k.items) c.args.keys.now in
    let q = plan_of c.args.node.now in
    let p = with_keys keys q in
    let own = c.index-facts-head.result in
    let are = own-are catalog c.args.facts.now p h.known own c.head.result.now.number (c.head.ensures.number ∙ sym (number-same keys q)) c.index-facts-head.is in
    let numbered = numbered-same catalog facts keys q h.known.numbered in
    let left : option_map input_of c.inputs.result.0 ≡ left_input catalog p = c.inputs.ensures.left catalog numbered ∙ sym (left-same catalog keys q) in
    let right : option_map input_of c.inputs.result.1 ≡ right_input catalog p = c.inputs.ensures.right catalog numbered ∙ sym (right-same catalog keys q) in
    let w = c.width-width.result in
    let wide : w ≡ width catalog p = c.width-width.ensures ∙ are.wide in
    let i = option_map input_of c.inputs.result.0 in
    let j = option_map input_of c.inputs.result.1 in
    let old = c.args.answers.now in
    let at = c.loop-right.invariant catalog all h in
    let less = right-smaller catalog q in
    let size = ap asked-size (c.inputs.ensures.right catalog numbered) in
    let here : 4 * nodes q + 1 ≡ n = c.decreases in
    let falls : asked-size j < n = omega (arith, less, size, here) in
    let kept-i = c.ask.ensures.kept catalog all (left-known catalog all facts old keys q h c.loop-right.answers at.kept w i wide left) in
    (falls, (catalog, all, right-known catalog all facts old keys q h c.ask.new.answers kept-i w j wide right))

pub with_keys-closed-found-requires-in-loop-right : goal.with_keys-closed-found-requires-in-loop-right
with_keys-closed-found-requires-in-loop-right n c =
    let catalog = c.requires.0 in
    let all = c.requires.1 in
    let h = c.requires.2 in
    let facts = map facts_of c.args.facts.now in
    let keys = map (λ k. k.items) c.args.keys.now in
    let q = plan_of c.args.node.now in
    let p = with_keys keys q in
    let own = c.index-facts-head.result in
    let are = own-are catalog c.args.facts.now p h.known own c.head.result.now.number (c.head.ensures.number ∙ sym (number-same keys q)) c.index-facts-head.is in
    let wide = are.wide in
    let few = wide-enough catalog p h.known.within in
    omega (arith, wide, few)

pub with_keys-loop-right-smaller : goal.with_keys-loop-right-smaller
with_keys-loop-right-smaller n c =
    let catalog = c.requires.0 in
    let all = c.requires.1 in
    let h = c.requires.2 in
    let facts = map facts_of c.args.facts.now in
    let keys = map (λ k. k.items) c.args.keys.now in
    let q = plan_of c.args.node.now in
    let p = with_keys keys q in
    let own = c.index-facts-head.result in
    let are = own-are catalog c.args.facts.now p h.known own c.head.result.now.number (c.head.ensures.number ∙ sym (number-same keys q)) c.index-facts-head.is in
    let numbered = numbered-same catalog facts keys q h.known.numbered in
    let left : option_map input_of c.inputs.result.0 ≡ left_input catalog p = c.inputs.ensures.left catalog numbered ∙ sym (left-same catalog keys q) in
    let right : option_map input_of c.inputs.result.1 ≡ right_input catalog p = c.inputs.ensures.right catalog numbered ∙ sym (right-same catalog keys q) in
    let w = c.width-width.result in
    let wide : w ≡ width catalog p = c.width-width.ensures ∙ are.wide in
    let i = option_map input_of c.inputs.result.0 in
    let j = option_map input_of c.inputs.result.1 in
    let old = c.args.answers.now in
    let s = set_of_columns c.args.set.now in
    let at = c.loop-right.invariant catalog all h in
    let before = set_of_columns c.loop-right.found in
    let lefts = answer_of c.loop-right.lefts in
    let rights = answer_of c.loop-right.rights in
    let mid = set_of_columns c.ask.new.found in
    let next = answer_of c.ask.new.answer in
    let known-i = left-known catalog all facts old keys q h c.loop-right.answers at.kept w i wide left in
    let asked-i = c.ask.ensures.asked catalog all known-i in
    let kept-i = c.ask.ensures.kept catalog all known-i in
    let known-j = right-known catalog all facts old keys q h c.ask.new.answers kept-i w j wide right in
    elim c.if-ask.branch [
      | with_keys-then-ask u ↦ smaller-left catalog facts p h.known w wide i j left right s c.ask.result before mid lefts next rights (answer_of c.if-ask.rights) u.if-ask.true at.searching
          (ap answer_of u.rights-is) asked-i
      | with_keys-else-ask+then-ask-2 u ↦
          let S : Option rust_set.ColumnSet → Type 0 = λ o. room next + room (answer_of o) < room lefts + room rights in
          subst S (sym u.rights-is)
          (smaller-right catalog facts p h.known w wide i j left right s c.ask.result u.ask-else-ask.result before mid (set_of_columns u.ask-else-ask.new.found) lefts next rights
          (answer_of u.ask-else-ask.new.answer) u.if-ask.false u.if-ask-2.true at.searching asked-i (u.ask-else-ask.ensures.asked catalog all known-j))
    ]

pub with_keys-loop-right-preserved : goal.with_keys-loop-right-preserved
with_keys-loop-right-preserved n c catalog all h =
    let facts = map facts_of c.args.facts.now in
    let keys = map (λ k. k.items) c.args.keys.now in
    let q = plan_of c.args.node.now in
    let p = with_keys keys q in
    let own = c.index-facts-head.result in
    let are = own-are catalog c.args.facts.now p h.known own c.head.result.now.number (c.head.ensures.number ∙ sym (number-same keys q)) c.index-facts-head.is in
    let numbered = numbered-same catalog facts keys q h.known.numbered in
    let left : option_map input_of c.inputs.result.0 ≡ left_input catalog p = c.inputs.ensures.left catalog numbered ∙ sym (left-same catalog keys q) in
    let right : option_map input_of c.inputs.result.1 ≡ right_input catalog p = c.inputs.ensures.right catalog numbered ∙ sym (right-same catalog keys q) in
    let w = c.width-width.result in
    let wide : w ≡ width catalog p = c.width-width.ensures ∙ are.wide in
    let i = option_map input_of c.inputs.result.0 in
    let j = option_map input_of c.inputs.result.1 in
    let old = c.args.answers.now in
    let s = set_of_columns c.args.set.now in
    let at = c.loop-right.invariant catalog all h in
    let before = set_of_columns c.loop-right.found in
    let lefts = answer_of c.loop-right.lefts in
    let rights = answer_of c.loop-right.rights in
    let mid = set_of_columns c.ask.new.found in
    let next = answer_of c.ask.new.answer in
    let known-i = left-known catalog all facts old keys q h c.loop-right.answers at.kept w i wide left in
    let asked-i = c.ask.ensures.asked catalog all known-i in
    let kept-i = c.ask.ensures.kept catalog all known-i in
    let known-j = right-known catalog all facts old keys q h c.ask.new.answers kept-i w j wide right in
    let new = set_of_columns c.if-ask.found in
    let found = set_of_columns c.closed-found-in-loop-right.result in
    let shut = closes catalog p (facts_of own) keys new found are (keys-same keys q) c.closed-found-in-loop-right.ensures in
    let C : Columns → Type 0 = λ x. IsClosed (width catalog p) (equal_at catalog p) (fixed_at catalog p) (claim p).keys x found in
    let K : List rust_answers.Answers → Type 0 = λ x. AreKept catalog all (length facts) x in
    elim c.if-ask.branch [
      | with_keys-then-ask u ↦ record {
        searching = kept-left catalog facts p h.known w wide i j left right s c.ask.result before mid found lefts next rights (answer_of c.if-ask.rights) u.if-ask.true at.searching
            (ap answer_of u.rights-is) asked-i (subst C (ap set_of_columns u.found-is) shut);
        kept = subst K (sym u.answers-is) kept-i;
      }
      | with_keys-else-ask+then-ask-2 u ↦
          let S : Option rust_set.ColumnSet → Type 0 = λ o. Searching catalog p s found next (answer_of o) in
          record {
            searching = subst S (sym u.rights-is)
                (kept-right catalog facts p h.known w wide i j left right s c.ask.result u.ask-else-ask.result before mid (set_of_columns u.ask-else-ask.new.found) found lefts next rights
                (answer_of u.ask-else-ask.new.answer) u.if-ask.false u.if-ask-2.true at.searching asked-i (u.ask-else-ask.ensures.asked catalog all known-j)
                (subst C (ap set_of_columns u.found-is) shut));
            kept = subst K (sym u.answers-is) (u.ask-else-ask.ensures.kept catalog all known-j);
          }
    ]

pub with_keys-returns-clause-answer : goal.with_keys-returns-clause-answer
with_keys-returns-clause-answer n c catalog all h d =
    let facts = map facts_of c.args.facts.now in
    let keys = map (λ k. k.items) c.args.keys.now in
    let q = plan_of c.args.node.now in
    let p = with_keys keys q in
    let own = c.index-facts-head.result in
    let are = own-are catalog c.args.facts.now p h.known own c.head.result.now.number (c.head.ensures.number ∙ sym (number-same keys q)) c.index-facts-head.is in
    let numbered = numbered-same catalog facts keys q h.known.numbered in
    let left : option_map input_of c.inputs.result.0 ≡ left_input catalog p = c.inputs.ensures.left catalog numbered ∙ sym (left-same catalog keys q) in
    let right : option_map input_of c.inputs.result.1 ≡ right_input catalog p = c.inputs.ensures.right catalog numbered ∙ sym (right-same catalog keys q) in
    let w = c.width-width.result in
    let wide : w ≡ width catalog p = c.width-width.ensures ∙ are.wide in
    let i = option_map input_of c.inputs.result.0 in
    let j = option_map input_of c.inputs.result.1 in
    let old = c.args.answers.now in
    let s = set_of_columns c.args.set.now in
    let at = c.loop-right.invariant catalog all h in
    let before = set_of_columns c.loop-right.found in
    let lefts = answer_of c.loop-right.lefts in
    let rights = answer_of c.loop-right.rights in
    let mid = set_of_columns c.ask.new.found in
    let next = answer_of c.ask.new.answer in
    let known-i = left-known catalog all facts old keys q h c.loop-right.answers at.kept w i wide left in
    let asked-i = c.ask.ensures.asked catalog all known-i in
    let kept-i = c.ask.ensures.kept catalog all known-i in
    let known-j = right-known catalog all facts old keys q h c.ask.new.answers kept-i w j wide right in
    finished catalog facts p h.known w wide i j left right s c.ask.result c.ask-else-ask.result before mid (set_of_columns c.ask-else-ask.new.found) lefts next rights
    (answer_of c.ask-else-ask.new.answer) c.if-ask.false c.if-ask-2.false at.searching asked-i (c.ask-else-ask.ensures.asked catalog all known-j) d
    ∙ ap (λ v. nat_lt d v && determined catalog p s d) (width-same catalog keys q)

pub with_keys-returns-clause-kept : goal.with_keys-returns-clause-kept
with_keys-returns-clause-kept n c catalog all h =
    let facts = map facts_of c.args.facts.now in
    let keys = map (λ k. k.items) c.args.keys.now in
    let q = plan_of c.args.node.now in
    let p = with_keys keys q in
    let own = c.index-facts-head.result in
    let are = own-are catalog c.args.facts.now p h.known own c.head.result.now.number (c.head.ensures.number ∙ sym (number-same keys q)) c.index-facts-head.is in
    let numbered = numbered-same catalog facts keys q h.known.numbered in
    let left : option_map input_of c.inputs.result.0 ≡ left_input catalog p = c.inputs.ensures.left catalog numbered ∙ sym (left-same catalog keys q) in
    let right : option_map input_of c.inputs.result.1 ≡ right_input catalog p = c.inputs.ensures.right catalog numbered ∙ sym (right-same catalog keys q) in
    let w = c.width-width.result in
    let wide : w ≡ width catalog p = c.width-width.ensures ∙ are.wide in
    let i = option_map input_of c.inputs.result.0 in
    let j = option_map input_of c.inputs.result.1 in
    let old = c.args.answers.now in
    let at = c.loop-right.invariant catalog all h in
    let known-i = left-known catalog all facts old keys q h c.loop-right.answers at.kept w i wide left in
    let kept-i = c.ask.ensures.kept catalog all known-i in
    c.ask-else-ask.ensures.kept catalog all (right-known catalog all facts old keys q h c.ask.new.answers kept-i w j wide right)

pub determined-bounds-answers-number-2 : goal.determined-bounds-answers-number-2
determined-bounds-answers-number-2 n c =
    let l = in-place c.requires.0 c.requires.1 (map facts_of c.args.facts.now) c.args.answers.now (plan_of c.args.node.now) c.requires.2 in
    let e = c.head.ensures.number in
    omega (arith, l, e)

pub determined-bounds-answers-number-3 : goal.determined-bounds-answers-number-3
determined-bounds-answers-number-3 n c =
    let l = in-place c.requires.0 c.requires.1 (map facts_of c.args.facts.now) c.args.answers.now (plan_of c.args.node.now) c.requires.2 in
    let e = c.head.ensures.number in
    let a = c.with_keys-found.auto.answers in
    omega (arith, l, e, a)

pub determined-returns-in-Some-clause-answer : goal.determined-returns-in-Some-clause-answer
determined-returns-in-Some-clause-answer n c catalog all h =
    let p = plan_of c.args.node.now in
    let are = at-place catalog all (map facts_of c.args.facts.now) c.args.answers.now p h c.args.answers.now h.kept c.head.result.now.number _ c.head.ensures.number in
    c.in-Some.ensures catalog p h.known.formed are

pub determined-returns-clause-answer : goal.determined-returns-clause-answer
determined-returns-clause-answer n c catalog all h x =
    let p = plan_of c.args.node.now in
    let facts = map facts_of c.args.facts.now in
    let old = c.args.answers.now in
    let keys = map (λ k. k.items) c.as_slice-keys.result.now in
    let own : keys ≡ (claim p).keys = ap (map (λ k. k.items)) c.as_slice-keys.ensures.value ∙ ap (λ k. k.keys) c.head-2.ensures.claim in
    let are = at-place catalog all facts old p h old h.kept c.head.result.now.number _ c.head.ensures.number in
    let few = wide-enough catalog p h.known.within in
    c.with_keys-found.ensures.answer catalog all (known-own catalog all facts old p keys own h) x
    ∙ ap (λ q. nat_lt x (width catalog p) && determined catalog q (set_of_columns c.added_to-larger.result) x) (own-keys keys p own)
    ∙ c.added_to-larger.ensures catalog p h.known.formed few are x

pub determined-returns-clause-kept : goal.determined-returns-clause-kept
determined-returns-clause-kept n c catalog all h =
    let p = plan_of c.args.node.now in
    let facts = map facts_of c.args.facts.now in
    let old = c.args.answers.now in
    let keys = map (λ k. k.items) c.as_slice-keys.result.now in
    let own : keys ≡ (claim p).keys = ap (map (λ k. k.items)) c.as_slice-keys.ensures.value ∙ ap (λ k. k.keys) c.head-2.ensures.claim in
    let few = wide-enough catalog p h.known.within in
    let m = c.head.result.now.number in
    let new = c.with_keys-found.new.answers in
    let with = known-own catalog all facts old p keys own h in
    let kept = c.with_keys-found.ensures.kept catalog all with in
    let are = at-place catalog all facts old p h old h.kept m _ c.head.ensures.number in
    let still = at-place catalog all facts old p h new kept m _ c.head.ensures.number in
    let answer : IsAnswer catalog p (set_of_columns c.args.set.now) (set_of_columns c.with_keys-found.result) = λ x.
    c.with_keys-found.ensures.answer catalog all with x
    ∙ ap (λ q. nat_lt x (width catalog p) && determined catalog q (set_of_columns c.added_to-larger.result) x) (own-keys keys p own)
    ∙ c.added_to-larger.ensures catalog p h.known.formed few are x in
    kept-at catalog all facts old p h new kept m c.keep.new.self c.head.ensures.number (c.keep.ensures catalog p still answer)
