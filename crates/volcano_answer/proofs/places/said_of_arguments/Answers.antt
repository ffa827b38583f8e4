use Rattle.std.proofs.Common.{◌≡◌, ◌∙◌, ap, map}
use Rattle.volcano_arguments.specs.Asked.{errors_by}
use Rattle.volcano_answer.specs.CommandLine.{with_program_name}
use Rattle.volcano_answer.specs.Reports.{form_of, is_silent}
use Rattle.volcano_answer.proofs.places.said_of_arguments.Goals as goal

pub returns-in-Ok-Some : goal.returns-in-Ok-Some
returns-in-Ok-Some g c silent =
    let all : map (λ a. a.now) c.as_slice.result.now ≡ with_program_name (map (λ a. a.now) c.args.arguments.now) = ap (map (λ a. a.now)) c.as_slice.ensures.value ∙ c.in_ok-arguments.ensures in
    let reported : c.in-Ok-Some.request.errors ≡ errors_by (map (λ a. a.now) c.as_slice.result.now) = rw c.in-Ok-Some.field-0-is at c.in-Ok-Some.ensures.errors in
    c.said_if_asked.ensures (ap (λ e. is_silent (form_of e c.args.is_read)) (reported ∙ ap errors_by all) ∙ silent)
