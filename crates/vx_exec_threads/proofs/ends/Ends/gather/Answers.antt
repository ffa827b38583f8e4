use Rattle.std.proofs.Common.{rules, refl, sym, subst, ◌∙◌, ◌≡◌, ◌<◌, Some, length, slice_get, arith, inl, inr}
use Rattle.std.proofs.Math.ListN.{get_or}
use Rattle.std.proofs.lemmas.Bool.{cases_lt}
use Rattle.std.proofs.lemmas.Option.{slice_get-get_or}
use Rattle.vx_worker.specs.Trace.{idle}
use Rattle.vx_exec_threads.specs.Carrying.{hold_of}
use Rattle.vx_exec_threads.specs.Gathering.{FillsOne}
use Rattle.vx_exec_threads.proofs.Bearing.{carries-idle, carries-then}
use Rattle.vx_exec_threads.proofs.Queues.{stays-self, stays-both, on-err}
use Rattle.vx_exec_threads.proofs.ends.Ends.gather.Goals as goal

pub loop-place-init : goal.loop-place-init
loop-place-init c =
    (carries-idle (hold_of c.args.self.now), refl, refl, λ k e l at. absurd (omega (arith, l)), λ e. stays-self c.args.self.now.ins.items, λ k l. refl, refl)

pub returns-in_err-moved-clause-does : goal.returns-in_err-moved-clause-does
returns-in_err-moved-clause-does c =
    carries-then (hold_of c.args.self.now) (hold_of c.loop-place.self) (hold_of c.gather_at.new.self) idle c.loop-place.invariant.0 c.gather_at.ensures.does

pub loop-place-preserved : goal.loop-place-preserved
loop-place-preserved c = (
  carries-then (hold_of c.args.self.now) (hold_of c.loop-place.self) (hold_of c.gather_at.new.self) idle c.loop-place.invariant.0 c.gather_at.ensures.does,
  c.gather_at.ensures.draws ∙ c.loop-place.invariant.1,
  c.gather_at.ensures.count ∙ c.loop-place.invariant.2,
  λ k e l at. elim (cases_lt k c.loop-place.place) [
    | inl b ↦ c.loop-place.invariant.3 k e b (sym (c.gather_at.ensures.others k (λ q. absurd (omega (arith, b, q)))) ∙ at)
    | inr b ↦
        let q : k ≡ c.loop-place.place = omega (arith, l, b) in
        c.in_ok-moved.ensures.here e (subst (λ n. slice_get c.gather_at.new.self.ins.items n ≡ Some e) q at)
  ],
  stays-both c.args.self.now.ins.items c.loop-place.self.ins.items c.gather_at.new.self.ins.items c.loop-place.moved c.in_ok-moved.field-0 c.loop-place.invariant.4 c.in_ok-moved.ensures.still,
  λ k l. c.gather_at.ensures.others k (λ q. absurd (omega (arith, l, q))) ∙ c.loop-place.invariant.5 k (omega (arith, l)),
  c.gather_at.ensures.unwoken ∙ c.loop-place.invariant.6,
)

pub returns-clause-gathered : goal.returns-clause-gathered
returns-clause-gathered c = λ k d l.
    let ins = c.loop-place.self.ins.items in
    let count : c.len-place-end.result ≡ length c.args.self.now.ins.items = c.len-place-end.ensures ∙ sym (search rules) in
    let past = c.loop-place-test.false in
    let same = c.loop-place.invariant.2 in
    let within : k < c.loop-place.place = omega (arith, l, count, past, same) in
    c.loop-place.invariant.3 k (get_or ins k d) within (slice_get-get_or ins k d l)

pub returns-in_err-moved-clause-filled : goal.returns-in_err-moved-clause-filled
returns-in_err-moved-clause-filled c =
    let f = c.in_err-moved.ensures.filled in
    let old = c.args.self.now.ins.items in
    let new = c.gather_at.new.self.ins.items in
    on-err (FillsOne old new) c.from_residual.result (c.loop-place.place, (f.0, f.1, sym (c.loop-place.invariant.5 c.loop-place.place (omega arith)) ∙ f.2, f.3, f.4))
