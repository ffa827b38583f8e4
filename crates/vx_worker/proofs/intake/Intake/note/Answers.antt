use Rattle.std.proofs.Common.{refl, sym, ap, ◌∙◌, map, Some}
use Rattle.vx_worker.specs.Trace.{took_one}
use Rattle.vx_worker.specs.Intake.{source_of}
use Rattle.vx_worker.proofs.Marks.{intake-kept, intake-closed, marked-sources, fits-some}
use Rattle.vx_worker.proofs.intake.Intake.note.Goals as goal

pub returns-then-is_closing-clause-sources : goal.returns-then-is_closing-clause-sources
returns-then-is_closing-clause-sources c = ap (map source_of) c.mark.ensures.marks ∙ marked-sources c.args.exchange c.args.from c.args.self.now.inputs.items

pub returns-then-is_closing-clause-stands : goal.returns-then-is_closing-clause-stands
returns-then-is_closing-clause-stands c =
    λ t h. intake-closed c.args.self.now c.mark.new.self t c.args.exchange c.args.from c.args.packet.now c.mark.ensures.marks c.mark.ensures.scans
    (sym c.is_closing.ensures ∙ c.if-is_closing.true) h

pub returns-else-is_closing-clause-stands : goal.returns-else-is_closing-clause-stands
returns-else-is_closing-clause-stands c =
    λ t h. intake-kept c.args.self.now c.args.self.now t (took_one c.args.exchange c.args.from (Some c.args.packet.now)) (sym c.is_closing.ensures ∙ c.if-is_closing.false) refl refl h

pub returns-else-is_closing-clause-brings : goal.returns-else-is_closing-clause-brings
returns-else-is_closing-clause-brings c = fits-some c.args.packet.now.types c.args.packet.now.content c.types-types.ensures.fit
