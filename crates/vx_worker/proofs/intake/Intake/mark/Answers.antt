use Rattle.std.proofs.Common.{◌<◌, ap, sym, ◌∙◌, length, get_or, add-one, arith}
use Rattle.std.proofs.Math.ListN.{set}
use Rattle.vx_worker.specs.Intake.{marked}
use Rattle.vx_worker.proofs.Marks.{marked_until, marked-more, marked-all}
use Rattle.vx_worker.proofs.intake.Intake.mark.Goals as goal

pub loop-place-preserved : goal.loop-place-preserved
loop-place-preserved c =
    let x = c.args.exchange in
    let i = c.args.from in
    let v = c.index_mut.result.now in
    let k = c.loop-place.place in
    let is = c.args.self.now.inputs.items in
    let within : k < length is = omega arith in (
      ap (set c.loop-place.self.inputs.items k) (c.mark.ensures ∙ ap (marked x i) c.index_mut.ensures.value)
          ∙ ap (λ js. set js k (marked x i (get_or js k v))) c.loop-place.invariant.0 ∙ marked-more k x i is v within
          ∙ ap (λ n. marked_until n x i is) (sym (add-one k)),
      c.loop-place.invariant.1,
    )

pub returns-clause-marks : goal.returns-clause-marks
returns-clause-marks c = c.loop-place.invariant.0 ∙ marked-all c.loop-place.place c.args.exchange c.args.from c.args.self.now.inputs.items (omega arith)
