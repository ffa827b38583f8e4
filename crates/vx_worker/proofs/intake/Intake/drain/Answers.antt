use Rattle.std.proofs.Common.{ap, sym, ◌∙◌, Some}
use Rattle.std.proofs.lemmas.List.{get_or_default}
use Rattle.vx_worker.specs.Intake.{source_of}
use Rattle.vx_worker.specs.Trace.{took_one}
use Rattle.vx_worker.proofs.Marks.{drained}
use Rattle.vx_worker.proofs.intake.Intake.drain.Goals as goal

pub returns-in_default-clause-all : goal.returns-in_default-clause-all
returns-in_default-clause-all g c = λ e t h. drained c.args.self.now.inputs.items t (rw c.as_slice.ensures.value at c.in_default.ensures.none) h.inputs

pub returns-in-Ok-Some-clause-drains : goal.returns-in-Ok-Some-clause-drains
returns-in-Ok-Some-clause-drains g c = (
  took_one c.index.result.now.exchange c.index.result.now.from (Some c.in-Ok-Some.packet),
  rw c.in-Ok-Some.field-0-is at c.in-Ok-Some.ensures.ok,
  record { is_take = tt; stands = c.note.ensures.stands; sources = c.note.ensures.sources },
  (
    record {
      place = c.in-Some.place;
      within = rw c.as_slice.ensures.value at c.in-Some.ensures.within;
      source = λ d. ap source_of (get_or_default c.args.self.now.inputs.items c.in-Some.place d c.index.result.now (rw c.as_slice.ensures.value at c.in-Some.ensures.within) ∙ sym c.index.ensures);
      is_open = rw c.as_slice.ensures.value at c.in-Some.ensures.some;
    },
    c.note.ensures.brings,
  ),
)
