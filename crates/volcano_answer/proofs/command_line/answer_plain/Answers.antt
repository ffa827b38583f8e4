use Rattle.std.proofs.Common.{◌≡◌, ◌∙◌, ℕ, List, sym, subst}
use Rattle.std.specs.Prelude.{IfOk, IfErr}
use Rattle.std.proofs.lemmas.Result.{err_from_is_err_and}
use Rattle.volcano_arguments.specs.Asked.{Ask, asked_is, paths_are}
use Rattle.volcano_answer.specs.declared.command_line.AskedJob.TheVariants as asked_job
use Rattle.volcano_answer.specs.CommandLine.{IsTask, IsEntry, for_task, for_plan_form, for_sql, for_claims, for_code, for_asked_task, for_asked_form, for_asked_sql, for_asked_claims}
use Rattle.volcano_answer.specs.CommandLineView.{task_is, IsJob, IsAskAnswer, IsAskFault}
use Rattle.volcano_answer.specs.UsageView.{IsUnmet}
use Rattle.volcano_answer.proofs.CommandLineFacts.{usage_fault_asked}
use Rattle.volcano_answer.proofs.command_line.answer_plain.Goals as goal

pub returns-in_err-text-in-Ok-Command : goal.returns-in_err-text-in-Ok-Command
returns-in_err-text-in-Ok-Command g c =
    let is : IsTask (asked_is c.args.asked.now) (task_is c.in-Ok-Command.task) = rw (c.in-Ok-Command.is, c.in-Ok-Command.field-0-is) at c.job_in.ensures in
    let p = err_from_is_err_and c.from_residual.result c.from_residual.ensures.1 in
    rw (p.1, p.2) (record { answer = tt; no_stats = tt; refused = for_asked_task (task_is c.in-Ok-Command.task) is c.in_err-text-in-Ok-Command.ensures.refused })

pub returns-in_ok-text-in-Ok-Command : goal.returns-in_ok-text-in-Ok-Command
returns-in_ok-text-in-Ok-Command g c =
    let is : IsTask (asked_is c.args.asked.now) (task_is c.in-Ok-Command.task) = rw (c.in-Ok-Command.is, c.in-Ok-Command.field-0-is) at c.job_in.ensures in
    record { answer = for_task (task_is c.in-Ok-Command.task) is c.in_ok-text-in-Ok-Command.ensures.text; no_stats = tt; refused = tt }

pub returns-in_err-text-in-Ok-Form : goal.returns-in_err-text-in-Ok-Form
returns-in_err-text-in-Ok-Form g c =
    let is : IsJob (asked_is c.args.asked.now) (asked_job.Form c.in-Ok-Form.form c.in-Ok-Form.sources) = rw (c.in-Ok-Form.is, c.in-Ok-Form.field-0-is) at c.job_in.ensures in
    let p = err_from_is_err_and c.from_residual-in_err-text-in-Ok-Form.result c.from_residual-in_err-text-in-Ok-Form.ensures.1 in
    rw (p.1, p.2) (record { answer = tt; no_stats = tt; refused = for_asked_form c.in-Ok-Form.form (paths_are c.in-Ok-Form.sources) is.0 is.1 is.2 c.in_err-text-in-Ok-Form.ensures.refused })

pub returns-in_ok-text-in-Ok-Form : goal.returns-in_ok-text-in-Ok-Form
returns-in_ok-text-in-Ok-Form g c =
    let is : IsJob (asked_is c.args.asked.now) (asked_job.Form c.in-Ok-Form.form c.in-Ok-Form.sources) = rw (c.in-Ok-Form.is, c.in-Ok-Form.field-0-is) at c.job_in.ensures in
    record { answer = rw c.from-in-Ok-Form.ensures (for_plan_form c.in-Ok-Form.form (paths_are c.in-Ok-Form.sources) is.0 is.1 is.2 c.in_ok-text-in-Ok-Form.ensures.text); no_stats = tt; refused = tt }

pub returns-in_err-text-in-Ok-Statement : goal.returns-in_err-text-in-Ok-Statement
returns-in_err-text-in-Ok-Statement g c =
    let is : IsJob (asked_is c.args.asked.now) (asked_job.Statement c.in-Ok-Statement.dialect c.in-Ok-Statement.sources) = rw (c.in-Ok-Statement.is, c.in-Ok-Statement.field-0-is) at c.job_in.ensures in
    let p = err_from_is_err_and c.from_residual-in_err-text-in-Ok-Statement.result c.from_residual-in_err-text-in-Ok-Statement.ensures.1 in
    rw (p.1, p.2) (record { answer = tt; no_stats = tt; refused = for_asked_sql c.in-Ok-Statement.dialect (paths_are c.in-Ok-Statement.sources) is.0 is.1 is.2 c.in_err-text-in-Ok-Statement.ensures.refused })

pub returns-in_ok-text-in-Ok-Statement : goal.returns-in_ok-text-in-Ok-Statement
returns-in_ok-text-in-Ok-Statement g c =
    let is : IsJob (asked_is c.args.asked.now) (asked_job.Statement c.in-Ok-Statement.dialect c.in-Ok-Statement.sources) = rw (c.in-Ok-Statement.is, c.in-Ok-Statement.field-0-is) at c.job_in.ensures in
    record { answer = rw c.from-in-Ok-Statement.ensures (for_sql c.in-Ok-Statement.dialect (paths_are c.in-Ok-Statement.sources) is.0 is.1 is.2 c.in_ok-text-in-Ok-Statement.ensures.text); no_stats = tt; refused = tt }

pub returns-in_ok-text-in-Ok-Entry-clause-answer : goal.returns-in_ok-text-in-Ok-Entry-clause-answer
returns-in_ok-text-in-Ok-Entry-clause-answer g c =
    let is : IsJob (asked_is c.args.asked.now) (asked_job.Entry c.in-Ok-Entry.text) = rw (c.in-Ok-Entry.is, c.in-Ok-Entry.field-0-is) at c.job_in.ensures in
    let same : c.in_ok-text-in-Ok-Entry.text.items ≡ c.in-Ok-Entry.text.now = c.in_ok-text-in-Ok-Entry.ensures.items ∙ c.as_bytes.ensures.value in
    let P : List ℕ → Type 0 = λ t. IsEntry is.0 t in
    rw c.from-in-Ok-Entry.ensures (for_code is.0 is.1 (subst P (sym same) is.2))

pub returns-in-Ok-Verdict : goal.returns-in-Ok-Verdict
returns-in-Ok-Verdict g c =
    let is : IsJob (asked_is c.args.asked.now) (asked_job.Verdict c.in-Ok-Verdict.sources) = rw (c.in-Ok-Verdict.is, c.in-Ok-Verdict.field-0-is) at c.job_in.ensures in
    let files = g.F.Store.holds c.args.files.now in
    let input = g.I.ByteIn.remaining c.args.input.now in
    let Answers : Ask → Type 0 = λ ask. IfOk c.answer_verdict.result (λ a. IsAskAnswer (g.R.Runs.counted c.args.services.now.engine.now) c.args.services.now.layout files input ask a) in
    let Refuses : Ask → Type 0 = λ ask. IfErr c.answer_verdict.result (IsAskFault files (g.F.Store.is_reliable c.args.files.now) input (g.I.ByteIn.has_failed c.answer_verdict.new.input) ask) in
    record { answer = subst Answers (sym is) c.answer_verdict.ensures.answer; no_stats = c.answer_verdict.ensures.no_stats; refused = subst Refuses (sym is) c.answer_verdict.ensures.refused }

pub returns-in_err-text-in-Ok-Annotation : goal.returns-in_err-text-in-Ok-Annotation
returns-in_err-text-in-Ok-Annotation g c =
    let is : IsJob (asked_is c.args.asked.now) (asked_job.Annotation c.in-Ok-Annotation.sources c.in-Ok-Annotation.derive) = rw (c.in-Ok-Annotation.is, c.in-Ok-Annotation.field-0-is) at c.job_in.ensures in
    let p = err_from_is_err_and c.from_residual-in_err-text-in-Ok-Annotation.result c.from_residual-in_err-text-in-Ok-Annotation.ensures.1 in
    rw (p.1, p.2) (record { answer = tt; no_stats = tt; refused = for_asked_claims (paths_are c.in-Ok-Annotation.sources) c.in-Ok-Annotation.derive is c.in_err-text-in-Ok-Annotation.ensures.refused })

pub returns-in_ok-text-in-Ok-Annotation : goal.returns-in_ok-text-in-Ok-Annotation
returns-in_ok-text-in-Ok-Annotation g c =
    let is : IsJob (asked_is c.args.asked.now) (asked_job.Annotation c.in-Ok-Annotation.sources c.in-Ok-Annotation.derive) = rw (c.in-Ok-Annotation.is, c.in-Ok-Annotation.field-0-is) at c.job_in.ensures in
    record { answer = rw c.from.ensures (for_claims (paths_are c.in-Ok-Annotation.sources) c.in-Ok-Annotation.derive is c.in_ok-text-in-Ok-Annotation.ensures.text); no_stats = tt; refused = tt }

pub returns-in-Ok-Drawing : goal.returns-in-Ok-Drawing
returns-in-Ok-Drawing g c =
    let is : IsJob (asked_is c.args.asked.now) (asked_job.Drawing c.in-Ok-Drawing.sources c.in-Ok-Drawing.stats) = rw (c.in-Ok-Drawing.is, c.in-Ok-Drawing.field-0-is) at c.job_in.ensures in
    let files = g.F.Store.holds c.args.files.now in
    let input = g.I.ByteIn.remaining c.args.input.now in
    let Answers : Ask → Type 0 = λ ask. IfOk c.answer_drawing.result (λ a. IsAskAnswer (g.R.Runs.counted c.args.services.now.engine.now) c.args.services.now.layout files input ask a) in
    let Refuses : Ask → Type 0 = λ ask. IfErr c.answer_drawing.result (IsAskFault files (g.F.Store.is_reliable c.args.files.now) input (g.I.ByteIn.has_failed c.answer_drawing.new.input) ask) in
    record { answer = subst Answers (sym is) c.answer_drawing.ensures.answer; no_stats = c.answer_drawing.ensures.no_stats; refused = subst Refuses (sym is) c.answer_drawing.ensures.refused }

pub returns-in-Ok-Relation : goal.returns-in-Ok-Relation
returns-in-Ok-Relation g c =
    let is : IsJob (asked_is c.args.asked.now) (asked_job.Relation c.in-Ok-Relation.rows) = rw (c.in-Ok-Relation.is, c.in-Ok-Relation.field-0-is) at c.job_in.ensures in
    let files = g.F.Store.holds c.args.files.now in
    let reliable = g.F.Store.is_reliable c.args.files.now in
    let input = g.I.ByteIn.remaining c.args.input.now in
    let failed = g.I.ByteIn.has_failed c.args.input.now in
    let Answers : Ask → Type 0 = λ ask. IfOk c.answer_relation.result (λ a. IsAskAnswer (g.R.Runs.counted c.args.services.now.engine.now) c.args.services.now.layout files input ask a) in
    let Refuses : Ask → Type 0 = λ ask. IfErr c.answer_relation.result (IsAskFault files reliable input failed ask) in
    record {
      answer = subst Answers (sym is) (c.answer_relation.ensures.answer files input);
      no_stats = c.answer_relation.ensures.no_stats;
      refused = subst Refuses (sym is) (c.answer_relation.ensures.refused files reliable input failed);
    }

pub returns-in-Err-clause-refused : goal.returns-in-Err-clause-refused
returns-in-Err-clause-refused g c =
    let unmet : IsUnmet (asked_is c.args.asked.now) c.in-Err.wrong = rw c.in-Err.is at c.job_in.ensures in
    usage_fault_asked (g.F.Store.holds c.args.files.now) (g.F.Store.is_reliable c.args.files.now) (g.I.ByteIn.remaining c.args.input.now) (g.I.ByteIn.has_failed c.args.input.now)
    (asked_is c.args.asked.now) c.in-Err.wrong.before.now c.in-Err.wrong.argument.now c.in-Err.wrong.after.now c.usage_fault.result unmet.0 unmet.1 c.usage_fault.ensures
