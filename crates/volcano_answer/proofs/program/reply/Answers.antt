use Rattle.std.proofs.Common.{◌≡◌, true}
use Rattle.volcano_answer.proofs.Refusing.{refused_by, failed_by}
use Rattle.volcano_answer.proofs.program.reply.Goals as goal

pub returns-clause-refused : goal.returns-clause-refused
returns-clause-refused g c three =
    refused_by (g.O.ByteOut.has_failed c.deliver_bundle.new.out ≡ true) (c.deliver_bundle.new.out ≡ c.args.out.now) (g.I.ByteIn.remaining c.args.input.now)
    (g.I.ByteIn.has_failed c.text_outcome-outcome.new.input) c.text_outcome-outcome.result c.deliver_bundle.result c.deliver_bundle.ensures.failed c.deliver_bundle.ensures.refused
    c.text_outcome-outcome.ensures.refused three

pub returns-clause-failed : goal.returns-clause-failed
returns-clause-failed g c four =
    failed_by (g.O.ByteOut.has_failed c.deliver_bundle.new.out ≡ true) (c.deliver_bundle.new.out ≡ c.args.out.now) (g.I.ByteIn.remaining c.args.input.now)
    (g.I.ByteIn.has_failed c.text_outcome-outcome.new.input) c.text_outcome-outcome.result c.deliver_bundle.result c.deliver_bundle.ensures.failed c.deliver_bundle.ensures.refused
    c.text_outcome-outcome.ensures.refused four
