use Rattle.std.proofs.Common.{refl, sym, subst, ap, ◌∙◌, ◌≡◌, ◌<◌, ◌++◌, drop, length, true≢false}
use Rattle.std.specs.Prelude.{slice_range}
use Rattle.vx_exchange_receivers.specs.declared.heads.StreamHead.{StreamHead}
use Rattle.vx_exchange_receivers.specs.Heads.{HasRow}
use Rattle.vx_exchange_receivers.specs.Merge.{MergeView}
use Rattle.vx_exchange_receivers.proofs.HeadsLeft.{ends-set, run-left}
use Rattle.vx_exchange_receivers.proofs.MergeCalls.{same-head, read-set, remove-first, found-more, first-within, first-out, call-run-types, call-run-from, call-run-within, call-run-more, call-run-alike, call-run-order, call-run-row, call-run-fits, call-run-ended, call-run-lacks, call-run-merged}
use Rattle.vx_exchange_receivers.proofs.merge.StreamMerge.give_run.Goals as goal

pub slice-requires-clause-order : goal.slice-requires-clause-order
slice-requires-clause-order c =
    let p = c.index-p.result.now in
    let to = c.run_end-to.result in
    let some = subst (λ (y : MergeView). 0 < length y.order) (sym c.self.view_is) c.requires.some in
    let run = rw (c.deref-2.ensures.value, c.deref.ensures.value, c.deref-3.ensures.value) at c.run_end-to.ensures in
    let x = c.index-head.result.now in
    let g : StreamHead = record x { at = to } in
    call-run-from _ _ c.self.view_is c.self.invariant c.requires.missing some p c.index-p.ensures x g c.index-head.ensures to run refl refl refl

pub slice-requires-clause-there : goal.slice-requires-clause-there
slice-requires-clause-there c =
    let p = c.index-p.result.now in
    let to = c.run_end-to.result in
    let some = subst (λ (y : MergeView). 0 < length y.order) (sym c.self.view_is) c.requires.some in
    let run = rw (c.deref-2.ensures.value, c.deref.ensures.value, c.deref-3.ensures.value) at c.run_end-to.ensures in
    let x = c.index-head.result.now in
    let g : StreamHead = record x { at = to } in
    call-run-within _ _ c.self.view_is c.self.invariant c.requires.missing some p c.index-p.ensures x g c.index-head.ensures to run refl refl refl

pub append-requires : goal.append-requires
append-requires c =
    let p = c.index-p.result.now in
    let to = c.run_end-to.result in
    let some = subst (λ (y : MergeView). 0 < length y.order) (sym c.self.view_is) c.requires.some in
    let run = rw (c.deref-2.ensures.value, c.deref.ensures.value, c.deref-3.ensures.value) at c.run_end-to.ensures in
    let x = c.index-head.result.now in
    let g : StreamHead = record x { at = to } in
    c.in_ok-run.ensures.types ∙ (call-run-types _ _ c.self.view_is c.self.invariant c.requires.missing some p c.index-p.ensures x g c.index-head.ensures to run refl refl refl ∙ sym c.requires.types)

pub add_to_order-requires-clause-alike : goal.add_to_order-requires-clause-alike
add_to_order-requires-clause-alike c =
    let p = c.index-p.result.now in
    let to = c.run_end-to.result in
    let some = subst (λ (y : MergeView). 0 < length y.order) (sym c.self.view_is) c.requires.some in
    let run = rw (c.deref-2.ensures.value, c.deref.ensures.value, c.deref-3.ensures.value) at c.run_end-to.ensures in
    let x = c.index_mut.result.now in
    let g : StreamHead = record x { at = to } in
    rw (c.deref-then-has_row-2.ensures.value, c.deref-then-has_row.ensures.value) (call-run-alike _ _ c.self.view_is c.self.invariant c.requires.missing some p c.index-p.ensures x g c.index_mut.ensures.value to run refl refl refl)

pub add_to_order-requires-clause-order : goal.add_to_order-requires-clause-order
add_to_order-requires-clause-order c =
    let p = c.index-p.result.now in
    let to = c.run_end-to.result in
    let some = subst (λ (y : MergeView). 0 < length y.order) (sym c.self.view_is) c.requires.some in
    let run = rw (c.deref-2.ensures.value, c.deref.ensures.value, c.deref-3.ensures.value) at c.run_end-to.ensures in
    let x = c.index_mut.result.now in
    let g : StreamHead = record x { at = to } in
    let gone : c.remove.new.self.items ≡ drop 1 c.self.inside.order.items = c.remove.ensures.items ∙ remove-first c.self.inside.order.items in
    rw (c.deref-then-has_row-2.ensures.value, c.deref-then-has_row.ensures.value, gone) (call-run-order _ _ c.self.view_is c.self.invariant c.requires.missing some p c.index-p.ensures x g c.index_mut.ensures.value to run refl refl refl)

pub add_to_order-requires-clause-row : goal.add_to_order-requires-clause-row
add_to_order-requires-clause-row c =
    let p = c.index-p.result.now in
    let to = c.run_end-to.result in
    let some = subst (λ (y : MergeView). 0 < length y.order) (sym c.self.view_is) c.requires.some in
    let run = rw (c.deref-2.ensures.value, c.deref.ensures.value, c.deref-3.ensures.value) at c.run_end-to.ensures in
    let x = c.index_mut.result.now in
    let g : StreamHead = record x { at = to } in
    let within = first-within _ _ c.self.view_is c.self.invariant c.requires.missing some p c.index-p.ensures in
    let r : HasRow g = subst HasRow (read-set c.self.inside.heads.items p g c.index-moved.result.now within c.index-moved.ensures) (c.has_row.ensures.0 c.if-has_row.true) in
    rw c.deref-then-has_row.ensures.value (call-run-row _ _ c.self.view_is c.self.invariant c.requires.missing some p c.index-p.ensures x g c.index_mut.ensures.value to run refl refl refl r)

pub add_to_order-requires-clause-other : goal.add_to_order-requires-clause-other
add_to_order-requires-clause-other c =
    let p = c.index-p.result.now in
    let to = c.run_end-to.result in
    let some = subst (λ (y : MergeView). 0 < length y.order) (sym c.self.view_is) c.requires.some in
    let run = rw (c.deref-2.ensures.value, c.deref.ensures.value, c.deref-3.ensures.value) at c.run_end-to.ensures in
    let gone : c.remove.new.self.items ≡ drop 1 c.self.inside.order.items = c.remove.ensures.items ∙ remove-first c.self.inside.order.items in
    rw gone (first-out _ _ c.self.view_is c.self.invariant c.requires.missing some p c.index-p.ensures)

pub invariant_of-self : goal.invariant_of-self
invariant_of-self c =
    let p = c.index-p.result.now in
    let to = c.run_end-to.result in
    let some = subst (λ (y : MergeView). 0 < length y.order) (sym c.self.view_is) c.requires.some in
    let run = rw (c.deref-2.ensures.value, c.deref.ensures.value, c.deref-3.ensures.value) at c.run_end-to.ensures in
    let x = c.index_mut.result.now in
    let g : StreamHead = record x { at = to } in
    let within = first-within _ _ c.self.view_is c.self.invariant c.requires.missing some p c.index-p.ensures in
    let r : HasRow g = subst HasRow (read-set c.self.inside.heads.items p g c.index-moved.result.now within c.index-moved.ensures) (c.has_row.ensures.0 c.if-has_row.true) in
    let gone : c.remove.new.self.items ≡ drop 1 c.self.inside.order.items = c.remove.ensures.items ∙ remove-first c.self.inside.order.items in
    let a = c.add_to_order.ensures in
    call-run-fits _ _ c.self.view_is c.self.invariant c.requires.missing some p c.index-p.ensures x g c.index_mut.ensures.value to run refl refl refl r c.add_to_order.new.order.items (rw (c.deref-then-has_row-2.ensures.value, c.deref-then-has_row.ensures.value) at a.order) (rw gone at a.kept) a.added c.self.inside.missing refl

pub invariant_of-self-then-not-moved : goal.invariant_of-self-then-not-moved
invariant_of-self-then-not-moved c =
    let p = c.index-p.result.now in
    let to = c.run_end-to.result in
    let some = subst (λ (y : MergeView). 0 < length y.order) (sym c.self.view_is) c.requires.some in
    let run = rw (c.deref-2.ensures.value, c.deref.ensures.value, c.deref-3.ensures.value) at c.run_end-to.ensures in
    let x = c.index_mut.result.now in
    let g : StreamHead = record x { at = to } in
    let within = first-within _ _ c.self.view_is c.self.invariant c.requires.missing some p c.index-p.ensures in
    let there : c.index-moved.result.now ≡ g = read-set c.self.inside.heads.items p g c.index-moved.result.now within c.index-moved.ensures in
    let none : HasRow g → ⊥ = λ h. true≢false (sym (c.has_row.ensures.1 (subst HasRow (sym there) h)) ∙ c.if-has_row.false) in
    let gone : c.remove.new.self.items ≡ drop 1 c.self.inside.order.items = c.remove.ensures.items ∙ remove-first c.self.inside.order.items in
    rw gone (call-run-lacks _ _ c.self.view_is c.self.invariant c.requires.missing some p c.index-p.ensures x g c.index_mut.ensures.value to run refl refl refl none (ap (λ (y : StreamHead). y.ended) (sym there) ∙ c.if-not-moved.true))

pub invariant_of-self-else-not-moved : goal.invariant_of-self-else-not-moved
invariant_of-self-else-not-moved c =
    let p = c.index-p.result.now in
    let to = c.run_end-to.result in
    let some = subst (λ (y : MergeView). 0 < length y.order) (sym c.self.view_is) c.requires.some in
    let run = rw (c.deref-2.ensures.value, c.deref.ensures.value, c.deref-3.ensures.value) at c.run_end-to.ensures in
    let x = c.index_mut.result.now in
    let g : StreamHead = record x { at = to } in
    let within = first-within _ _ c.self.view_is c.self.invariant c.requires.missing some p c.index-p.ensures in
    let there : c.index-moved.result.now ≡ g = read-set c.self.inside.heads.items p g c.index-moved.result.now within c.index-moved.ensures in
    let none : HasRow g → ⊥ = λ h. true≢false (sym (c.has_row.ensures.1 (subst HasRow (sym there) h)) ∙ c.if-has_row.false) in
    let gone : c.remove.new.self.items ≡ drop 1 c.self.inside.order.items = c.remove.ensures.items ∙ remove-first c.self.inside.order.items in
    rw gone (call-run-ended _ _ c.self.view_is c.self.invariant c.requires.missing some p c.index-p.ensures x g c.index_mut.ensures.value to run refl refl refl none (ap (λ (y : StreamHead). y.ended) (sym there) ∙ c.if-not-moved.false) c.self.inside.missing refl)

pub returns-then-has_row-clause-more : goal.returns-then-has_row-clause-more
returns-then-has_row-clause-more c =
    let p = c.index-p.result.now in
    let to = c.run_end-to.result in
    let some = subst (λ (y : MergeView). 0 < length y.order) (sym c.self.view_is) c.requires.some in
    let run = rw (c.deref-2.ensures.value, c.deref.ensures.value, c.deref-3.ensures.value) at c.run_end-to.ensures in
    let x = c.index_mut.result.now in
    let g : StreamHead = record x { at = to } in
    let within = first-within _ _ c.self.view_is c.self.invariant c.requires.missing some p c.index-p.ensures in
    let same = same-head c.self.inside.heads.items p c.index-head.result.now x within c.index-head.ensures c.index_mut.ensures.value in
    let part = c.in_ok-run.ensures.rows ∙ ap (λ (y : StreamHead). slice_range y.rows.rows y.at to) same in
    let more = c.in_ok-append.ensures.ok ∙ ap (λ ys. c.args.found.now.rows ++ ys) part in
    found-more _ _ _ more (call-run-more _ _ c.self.view_is c.self.invariant c.requires.missing some p c.index-p.ensures x g c.index_mut.ensures.value to run refl refl refl)

pub returns-then-has_row-clause-merged : goal.returns-then-has_row-clause-merged
returns-then-has_row-clause-merged c closed came given h =
    let p = c.index-p.result.now in
    let to = c.run_end-to.result in
    let some = subst (λ (y : MergeView). 0 < length y.order) (sym c.self.view_is) c.requires.some in
    let run = rw (c.deref-2.ensures.value, c.deref.ensures.value, c.deref-3.ensures.value) at c.run_end-to.ensures in
    let x = c.index_mut.result.now in
    let g : StreamHead = record x { at = to } in
    let within = first-within _ _ c.self.view_is c.self.invariant c.requires.missing some p c.index-p.ensures in
    let same = same-head c.self.inside.heads.items p c.index-head.result.now x within c.index-head.ensures c.index_mut.ensures.value in
    let part = c.in_ok-run.ensures.rows ∙ ap (λ (y : StreamHead). slice_range y.rows.rows y.at to) same in
    let more = c.in_ok-append.ensures.ok ∙ ap (λ ys. c.args.found.now.rows ++ ys) part in
    call-run-merged _ _ c.self.view_is c.self.invariant c.requires.missing some p c.index-p.ensures x g c.index_mut.ensures.value to run refl refl refl closed came given _ _ more h

pub returns-then-not-moved-clause-more : goal.returns-then-not-moved-clause-more
returns-then-not-moved-clause-more c =
    let p = c.index-p.result.now in
    let to = c.run_end-to.result in
    let some = subst (λ (y : MergeView). 0 < length y.order) (sym c.self.view_is) c.requires.some in
    let run = rw (c.deref-2.ensures.value, c.deref.ensures.value, c.deref-3.ensures.value) at c.run_end-to.ensures in
    let x = c.index_mut.result.now in
    let g : StreamHead = record x { at = to } in
    let within = first-within _ _ c.self.view_is c.self.invariant c.requires.missing some p c.index-p.ensures in
    let same = same-head c.self.inside.heads.items p c.index-head.result.now x within c.index-head.ensures c.index_mut.ensures.value in
    let part = c.in_ok-run.ensures.rows ∙ ap (λ (y : StreamHead). slice_range y.rows.rows y.at to) same in
    let more = c.in_ok-append.ensures.ok ∙ ap (λ ys. c.args.found.now.rows ++ ys) part in
    found-more _ _ _ more (call-run-more _ _ c.self.view_is c.self.invariant c.requires.missing some p c.index-p.ensures x g c.index_mut.ensures.value to run refl refl refl)

pub returns-then-not-moved-clause-merged : goal.returns-then-not-moved-clause-merged
returns-then-not-moved-clause-merged c closed came given h =
    let p = c.index-p.result.now in
    let to = c.run_end-to.result in
    let some = subst (λ (y : MergeView). 0 < length y.order) (sym c.self.view_is) c.requires.some in
    let run = rw (c.deref-2.ensures.value, c.deref.ensures.value, c.deref-3.ensures.value) at c.run_end-to.ensures in
    let x = c.index_mut.result.now in
    let g : StreamHead = record x { at = to } in
    let within = first-within _ _ c.self.view_is c.self.invariant c.requires.missing some p c.index-p.ensures in
    let same = same-head c.self.inside.heads.items p c.index-head.result.now x within c.index-head.ensures c.index_mut.ensures.value in
    let part = c.in_ok-run.ensures.rows ∙ ap (λ (y : StreamHead). slice_range y.rows.rows y.at to) same in
    let more = c.in_ok-append.ensures.ok ∙ ap (λ ys. c.args.found.now.rows ++ ys) part in
    call-run-merged _ _ c.self.view_is c.self.invariant c.requires.missing some p c.index-p.ensures x g c.index_mut.ensures.value to run refl refl refl closed came given _ _ more h

pub returns-else-not-moved-clause-more : goal.returns-else-not-moved-clause-more
returns-else-not-moved-clause-more c =
    let p = c.index-p.result.now in
    let to = c.run_end-to.result in
    let some = subst (λ (y : MergeView). 0 < length y.order) (sym c.self.view_is) c.requires.some in
    let run = rw (c.deref-2.ensures.value, c.deref.ensures.value, c.deref-3.ensures.value) at c.run_end-to.ensures in
    let x = c.index_mut.result.now in
    let g : StreamHead = record x { at = to } in
    let within = first-within _ _ c.self.view_is c.self.invariant c.requires.missing some p c.index-p.ensures in
    let same = same-head c.self.inside.heads.items p c.index-head.result.now x within c.index-head.ensures c.index_mut.ensures.value in
    let part = c.in_ok-run.ensures.rows ∙ ap (λ (y : StreamHead). slice_range y.rows.rows y.at to) same in
    let more = c.in_ok-append.ensures.ok ∙ ap (λ ys. c.args.found.now.rows ++ ys) part in
    found-more _ _ _ more (call-run-more _ _ c.self.view_is c.self.invariant c.requires.missing some p c.index-p.ensures x g c.index_mut.ensures.value to run refl refl refl)

pub returns-else-not-moved-clause-merged : goal.returns-else-not-moved-clause-merged
returns-else-not-moved-clause-merged c closed came given h =
    let p = c.index-p.result.now in
    let to = c.run_end-to.result in
    let some = subst (λ (y : MergeView). 0 < length y.order) (sym c.self.view_is) c.requires.some in
    let run = rw (c.deref-2.ensures.value, c.deref.ensures.value, c.deref-3.ensures.value) at c.run_end-to.ensures in
    let x = c.index_mut.result.now in
    let g : StreamHead = record x { at = to } in
    let within = first-within _ _ c.self.view_is c.self.invariant c.requires.missing some p c.index-p.ensures in
    let same = same-head c.self.inside.heads.items p c.index-head.result.now x within c.index-head.ensures c.index_mut.ensures.value in
    let part = c.in_ok-run.ensures.rows ∙ ap (λ (y : StreamHead). slice_range y.rows.rows y.at to) same in
    let more = c.in_ok-append.ensures.ok ∙ ap (λ ys. c.args.found.now.rows ++ ys) part in
    call-run-merged _ _ c.self.view_is c.self.invariant c.requires.missing some p c.index-p.ensures x g c.index_mut.ensures.value to run refl refl refl closed came given _ _ more h

pub returns-then-has_row-clause-left : goal.returns-then-has_row-clause-left
returns-then-has_row-clause-left c =
    let p = c.index-p.result.now in
    let to = c.run_end-to.result in
    let some = subst (λ (y : MergeView). 0 < length y.order) (sym c.self.view_is) c.requires.some in
    let run = rw (c.deref-2.ensures.value, c.deref.ensures.value, c.deref-3.ensures.value) at c.run_end-to.ensures in
    let x = c.index_mut.result.now in
    let g : StreamHead = record x { at = to } in
    let within = first-within _ _ c.self.view_is c.self.invariant c.requires.missing some p c.index-p.ensures in
    let same = same-head c.self.inside.heads.items p c.index-head.result.now x within c.index-head.ensures c.index_mut.ensures.value in
    let part = c.in_ok-run.ensures.rows ∙ ap (λ (y : StreamHead). slice_range y.rows.rows y.at to) same in
    let more = c.in_ok-append.ensures.ok ∙ ap (λ ys. c.args.found.now.rows ++ ys) part in
    let from = call-run-from _ _ c.self.view_is c.self.invariant c.requires.missing some p c.index-p.ensures x g c.index_mut.ensures.value to run refl refl refl in
    let past = call-run-within _ _ c.self.view_is c.self.invariant c.requires.missing some p c.index-p.ensures x g c.index_mut.ensures.value to run refl refl refl in
    rw (← c.self.view_is) (run-left c.self.inside.heads.items p to x g c.args.found.now.rows c.append.new.self.rows within c.index_mut.ensures.value refl refl from past more)

pub returns-then-not-moved-clause-left : goal.returns-then-not-moved-clause-left
returns-then-not-moved-clause-left c =
    let p = c.index-p.result.now in
    let to = c.run_end-to.result in
    let some = subst (λ (y : MergeView). 0 < length y.order) (sym c.self.view_is) c.requires.some in
    let run = rw (c.deref-2.ensures.value, c.deref.ensures.value, c.deref-3.ensures.value) at c.run_end-to.ensures in
    let x = c.index_mut.result.now in
    let g : StreamHead = record x { at = to } in
    let within = first-within _ _ c.self.view_is c.self.invariant c.requires.missing some p c.index-p.ensures in
    let same = same-head c.self.inside.heads.items p c.index-head.result.now x within c.index-head.ensures c.index_mut.ensures.value in
    let part = c.in_ok-run.ensures.rows ∙ ap (λ (y : StreamHead). slice_range y.rows.rows y.at to) same in
    let more = c.in_ok-append.ensures.ok ∙ ap (λ ys. c.args.found.now.rows ++ ys) part in
    let from = call-run-from _ _ c.self.view_is c.self.invariant c.requires.missing some p c.index-p.ensures x g c.index_mut.ensures.value to run refl refl refl in
    let past = call-run-within _ _ c.self.view_is c.self.invariant c.requires.missing some p c.index-p.ensures x g c.index_mut.ensures.value to run refl refl refl in
    rw (← c.self.view_is) (run-left c.self.inside.heads.items p to x g c.args.found.now.rows c.append.new.self.rows within c.index_mut.ensures.value refl refl from past more)

pub returns-else-not-moved-clause-left : goal.returns-else-not-moved-clause-left
returns-else-not-moved-clause-left c =
    let p = c.index-p.result.now in
    let to = c.run_end-to.result in
    let some = subst (λ (y : MergeView). 0 < length y.order) (sym c.self.view_is) c.requires.some in
    let run = rw (c.deref-2.ensures.value, c.deref.ensures.value, c.deref-3.ensures.value) at c.run_end-to.ensures in
    let x = c.index_mut.result.now in
    let g : StreamHead = record x { at = to } in
    let within = first-within _ _ c.self.view_is c.self.invariant c.requires.missing some p c.index-p.ensures in
    let same = same-head c.self.inside.heads.items p c.index-head.result.now x within c.index-head.ensures c.index_mut.ensures.value in
    let part = c.in_ok-run.ensures.rows ∙ ap (λ (y : StreamHead). slice_range y.rows.rows y.at to) same in
    let more = c.in_ok-append.ensures.ok ∙ ap (λ ys. c.args.found.now.rows ++ ys) part in
    let from = call-run-from _ _ c.self.view_is c.self.invariant c.requires.missing some p c.index-p.ensures x g c.index_mut.ensures.value to run refl refl refl in
    let past = call-run-within _ _ c.self.view_is c.self.invariant c.requires.missing some p c.index-p.ensures x g c.index_mut.ensures.value to run refl refl refl in
    rw (← c.self.view_is) (run-left c.self.inside.heads.items p to x g c.args.found.now.rows c.append.new.self.rows within c.index_mut.ensures.value refl refl from past more)

pub returns-then-not-moved-clause-ends : goal.returns-then-not-moved-clause-ends
returns-then-not-moved-clause-ends c =
    let x = c.index_mut.result.now in
    rw (← c.self.view_is) (ends-set c.self.inside.heads.items c.index-p.result.now x (record x { at = c.run_end-to.result }) c.index_mut.ensures.value refl)

pub returns-else-not-moved-clause-ends : goal.returns-else-not-moved-clause-ends
returns-else-not-moved-clause-ends c =
    let x = c.index_mut.result.now in
    rw (← c.self.view_is) (ends-set c.self.inside.heads.items c.index-p.result.now x (record x { at = c.run_end-to.result }) c.index_mut.ensures.value refl)
