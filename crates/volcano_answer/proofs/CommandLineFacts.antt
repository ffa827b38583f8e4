-- From the answer to what arguments ask for, or its refusal, to that of the arguments.
use Rattle.std.proofs.Common.{codes, ◌≢◌, ◌≡◌, ◌⊎◌, ◌∙◌, ℕ, List, [], Some, Bool, Option, Result, Ok, Err, refl, inl, inr, sym, subst}
use Rattle.std.specs.Prelude.{IfOk, IfErr}
use Rattle.clap.specs.Values.{kind_of}
use Rattle.clap.specs.Words.{HasKind, IsAmong}
use Rattle.clap.specs.declared.error.Error.{Error}
use Rattle.clap.specs.declared.error.kind.ErrorKind.{ErrorKind}
use Rattle.clap.specs.declared.error.kind.ErrorKind.TheVariants as kind
use Rattle.vx_plan_nodes.specs.Names.{TypedPlanView}
use Rattle.volcano_arguments.specs.Asked.{Ask, Paths, draw, find_catalog, faults_of}
use Rattle.volcano_refusals.specs.declared.refusal.Refusal.{Refusal}
use Rattle.volcano_answer.specs.declared.command_line.ArgumentAnswer.{ArgumentAnswer}
use Rattle.volcano_answer.specs.declared.command_line.ArgumentAnswer.TheVariants as answer
use Rattle.volcano_answer.specs.declared.command_line.ArgumentFault.{ArgumentFault}
use Rattle.volcano_answer.specs.declared.command_line.ArgumentFault.TheVariants as fault
use Rattle.volcano_answer.specs.Commands.{CommandRefuses}
use Rattle.volcano_drawing.specs.declared.fault.DrawFault.{DrawFault}
use Rattle.volcano_drawing.specs.declared.fault.DrawFault.TheVariants as no_drawing
use Rattle.volcano_drawing.specs.Fault.{IsDrawFault}
use Rattle.volcano_stats.specs.Words.{op_words}
use Rattle.vx_catalog_bytes.specs.Stored.{Stored, IfBytes}
use Rattle.volcano_tables.specs.Folder.{holds_at, LacksAt}
use Rattle.vx_catalog_relations.specs.Relation.{Relation}
use Rattle.vx_plan_json.specs.Document.{Document}
use Rattle.volcano_answer.specs.Files.{known_at, AreRead, IsFilesPlan}
use Rattle.volcano_answer.specs.Annotated.{asking_if, AnnotationRefuses}
use Rattle.volcano_answer.specs.Forms.{FormRefuses}
use Rattle.volcano_answer.specs.Statements.{StatementFails}
use Rattle.volcano_answer.specs.CommandLine.{FileCommand, FormIsRefused, for_form, StatementIsRefused, for_statement, AnnotationIsRefused, for_annotation, TaskRefuses, for_plan_of, with_program_name, layout_asked, AsksFor, for_help, for_what_is_asked, for_kind, for_no_task, for_other_stats, for_asked_drawing, for_asked_catalog, drawing_memory, arguments_memory, for_ask, ask_memory, IsNoTask, for_stopped, ArgumentsRefuse, AsksForStopped}
use Rattle.vx_exec_runs.specs.Promise.{Counting}
use Rattle.volcano_answer.specs.FindingView.{IsCatalogFault}
use Rattle.volcano_answer.specs.Usage.{IsWrong}
use Rattle.volcano_answer.specs.CommandLineView.{IsAskAnswer, IsArgumentAnswer, IsHelp, IsClapFault, IsUsageFault, IsNoDrawing, IsAskFault, IsArgumentFault}

-- what the command makes nothing of, the task has no answer to
pub task_refused : {T : Type 0} (files : List ℕ → Stored) (reliable : List ℕ → Bool) (input : Option (List ℕ)) (failed : Bool) (t : FileCommand) (p : TypedPlanView) (r : Result T Refusal)
    → IsFilesPlan files input t.paths p
    → IfErr r (λ e. CommandRefuses t.command p (holds_at files t.folder) (LacksAt files reliable t.folder) t.setting e) → IfErr r (λ e. TaskRefuses files reliable input failed t e)
task_refused files reliable input failed t p (Ok x) planned h = tt
task_refused files reliable input failed t p (Err e) planned h = for_plan_of p planned h

-- what has no text in a form is refused for that
pub form_refused : {T : Type 0} (files : List ℕ → Stored) (reliable : List ℕ → Bool) (input : Option (List ℕ)) (failed : Bool) (paths : Paths) (p : TypedPlanView) (r : Result T Refusal)
    → IsFilesPlan files input paths p → IfErr r (λ e. FormRefuses p e) → IfErr r (λ e. FormIsRefused files reliable input failed paths e)
form_refused files reliable input failed paths p (Ok x) planned h = tt
form_refused files reliable input failed paths p (Err e) planned h = for_form p planned h

-- what has no statement is refused for that
pub statement_refused : {T : Type 0} (files : List ℕ → Stored) (reliable : List ℕ → Bool) (input : Option (List ℕ)) (failed : Bool) (paths : Paths) (p : TypedPlanView) (r : Result T Refusal)
    → IsFilesPlan files input paths p → IfErr r (StatementFails p) → IfErr r (λ e. StatementIsRefused files reliable input failed paths e)
statement_refused files reliable input failed paths p (Ok x) planned h = tt
statement_refused files reliable input failed paths p (Err e) planned h = for_statement p planned h

-- a document that gets no claims is refused for that
pub annotation_refused : {T : Type 0} (files : List ℕ → Stored) (reliable : List ℕ → Bool) (input : Option (List ℕ)) (failed : Bool) (paths : Paths) (derive : Bool) (relations : List Relation) (d : Document) (r : Result T Refusal)
    → AreRead files input paths relations d → IfErr r (AnnotationRefuses relations (asking_if derive d)) → IfErr r (AnnotationIsRefused files reliable input failed paths derive)
annotation_refused files reliable input failed paths derive relations d (Ok x) read h = tt
annotation_refused files reliable input failed paths derive relations d (Err e) read h = for_annotation relations d read h

-- what asks for what there is not has no answer, for the part that the message names
pub usage_fault_asked : (files : List ℕ → Stored) (reliable : List ℕ → Bool) (input : Option (List ℕ)) (failed : Bool) (ask : Ask) (before argument after : List ℕ) (e : ArgumentFault)
    → IsNoTask ask → IsWrong ask before argument → IsUsageFault before argument after e → IsAskFault files reliable input failed ask e
usage_fault_asked files reliable input failed ask before argument after (fault.Usage text) none wrong h = (inl none, (before, argument, wrong, (after, h)))
usage_fault_asked files reliable input failed ask before argument after (fault.Refused e) none wrong h = ask_memory h
usage_fault_asked files reliable input failed ask before argument after (fault.Failing lines) none wrong h = absurd h

-- the answer to what arguments ask for answers the arguments
pub arguments_answer : (Counted : Counting) (columns : Option ℕ) (files : List ℕ → Stored) (input : Option (List ℕ)) (arguments : List (List ℕ)) (ask : Ask) (r : Result ArgumentAnswer ArgumentFault)
    → AsksFor arguments ask → IfOk r (λ a. IsAskAnswer Counted (layout_asked columns arguments) files input ask a) → IfOk r (λ a. IsArgumentAnswer Counted columns files input arguments a)
arguments_answer Counted columns files input arguments ask (Ok (answer.Text text)) asked h = for_what_is_asked ask asked h
arguments_answer Counted columns files input arguments ask (Ok (answer.Relation rows)) asked h = let P : Ask → Type 0 = λ a. AsksFor arguments a in (subst P h.0 asked, h.1)
arguments_answer Counted columns files input arguments ask (Ok (answer.Counted k)) asked h = (for_what_is_asked ask asked h.0, record { ask = ask; asked = asked; reported = h.1 })
arguments_answer Counted columns files input arguments ask (Ok (answer.Runs l)) asked h = (ask, asked, h.0, h.1)
arguments_answer Counted columns files input arguments ask (Err e) asked h = tt

-- and so does its refusal
pub arguments_refused : {T : Type 0} (files : List ℕ → Stored) (reliable : List ℕ → Bool) (input : Option (List ℕ)) (failed : Bool) (arguments : List (List ℕ)) (ask : Ask) (r : Result T ArgumentFault)
    → AsksFor arguments ask → IfErr r (IsAskFault files reliable input failed ask) → IfErr r (IsArgumentFault files reliable input failed arguments)
arguments_refused files reliable input failed arguments ask (Ok v) asked h = tt
arguments_refused files reliable input failed arguments ask (Err (fault.Usage text)) asked h = elim h.0 [ inl k ↦ for_no_task ask asked k | inr k ↦ for_other_stats ask asked k ]
arguments_refused files reliable input failed arguments ask (Err (fault.Refused e)) asked h = for_ask ask asked h
arguments_refused files reliable input failed arguments ask (Err (fault.Failing lines)) asked h = let P : Ask → Type 0 = λ a. AsksFor arguments a in (h.0, subst P h.1 asked, h.2)

-- a fault that names the file of statistics says why there is no picture, unless memory ran out before
pub no_drawing_of : (path after : List ℕ) (d : DrawFault) (e : ArgumentFault) → (d ≢ no_drawing.NoMemory) → IsUsageFault (codes "volcano: --stats ") path after e → IsNoDrawing path d e
no_drawing_of path after d (fault.Usage text) other h = (other, (after, h))
no_drawing_of path after d (fault.Refused e) other h = h
no_drawing_of path after d (fault.Failing lines) other h = absurd h

-- statistics that are not drawn are none of the plan
pub drawing_fault : (files : List ℕ → Stored) (reliable : List ℕ → Bool) (input : Option (List ℕ)) (failed : Bool) (paths : Paths) (stats : List ℕ) (p : TypedPlanView) (counts : List ℕ) (d : DrawFault) (e : ArgumentFault)
    → IsFilesPlan files input paths p → IfBytes (known_at files (Some []) stats) (λ bytes. bytes ≡ counts) → IsDrawFault (op_words p.root) counts d → IsNoDrawing stats d e
    → IsAskFault files reliable input failed (draw paths stats) e
drawing_fault files reliable input failed paths stats p counts d (fault.Usage text) planned bytes is h =
    (inr (paths, stats, refl, (p, counts, planned, bytes, (d, h.0, is))), (codes "volcano: --stats ", stats, (refl, refl), h.1))
drawing_fault files reliable input failed paths stats p counts d (fault.Refused e) planned bytes is h = for_asked_drawing paths stats refl (drawing_memory h)
drawing_fault files reliable input failed paths stats p counts d (fault.Failing lines) planned bytes is h = absurd h

-- what clap answers is help or the version
pub clap_answer : (Counted : Counting) (columns : Option ℕ) (files : List ℕ → Stored) (input : Option (List ℕ)) (arguments : List (List ℕ)) (error : Error) (r : Result ArgumentAnswer ArgumentFault)
    → HasKind (faults_of (with_program_name arguments)) error → IfOk r (IsHelp (kind_of error)) → IfOk r (λ a. IsArgumentAnswer Counted columns files input arguments a)
clap_answer Counted columns files input arguments error (Ok (answer.Text text)) (inl memory) (inl help) = let no : kind.OutOfMemory ≡ kind.DisplayHelp = sym memory ∙ help in cc
clap_answer Counted columns files input arguments error (Ok (answer.Text text)) (inl memory) (inr version) = let no : kind.OutOfMemory ≡ kind.DisplayVersion = sym memory ∙ version in cc
clap_answer Counted columns files input arguments error (Ok (answer.Text text)) (inr among) (inl help) =
    let P : ErrorKind → Type 0 = λ k. IsAmong k (faults_of (with_program_name arguments)) in for_help (inl (subst P help among))
clap_answer Counted columns files input arguments error (Ok (answer.Text text)) (inr among) (inr version) =
    let P : ErrorKind → Type 0 = λ k. IsAmong k (faults_of (with_program_name arguments)) in for_help (inr (subst P version among))
clap_answer Counted columns files input arguments error (Ok (answer.Relation rows)) has h = absurd h
clap_answer Counted columns files input arguments error (Ok (answer.Counted k)) has h = absurd h
clap_answer Counted columns files input arguments error (Ok (answer.Runs l)) has h = absurd h
clap_answer Counted columns files input arguments error (Err e) has h = tt

-- what clap refuses is refused as its kind says
pub clap_refused : {T : Type 0} (files : List ℕ → Stored) (reliable : List ℕ → Bool) (input : Option (List ℕ)) (failed : Bool) (arguments : List (List ℕ)) (error : Error) (r : Result T ArgumentFault)
    → HasKind (faults_of (with_program_name arguments)) error → IfErr r (IsClapFault (kind_of error)) → IfErr r (IsArgumentFault files reliable input failed arguments)
clap_refused files reliable input failed arguments error (Ok x) has h = tt
clap_refused files reliable input failed arguments error (Err (fault.Usage text)) (inl memory) h = absurd (h.2 memory)
clap_refused files reliable input failed arguments error (Err (fault.Usage text)) (inr among) h = for_kind (kind_of error) among h
clap_refused files reliable input failed arguments error (Err (fault.Refused e)) has h = arguments_memory h
clap_refused files reliable input failed arguments error (Err (fault.Failing lines)) has h = absurd h

-- runs that stop at a plan are refused for that
pub stopped_refuses : (columns : Option ℕ) (files : List ℕ → Stored) (reliable : List ℕ → Bool) (input : Option (List ℕ)) (failed : Bool) (arguments : List (List ℕ)) (text : List ℕ) (e : Refusal) → AsksForStopped columns files input arguments text e
    → ArgumentsRefuse files reliable input failed arguments e
stopped_refuses columns files reliable input failed arguments text e h = for_ask h.0 h.1 (for_stopped (layout_asked columns arguments) text h.2)

-- why no catalog is found in the files that are asked for
pub catalog_fault_asked : (files : List ℕ → Stored) (reliable : List ℕ → Bool) (input : Option (List ℕ)) (failed : Bool) (ask : Ask) (paths : List (List ℕ)) (quiet : Bool) (f : ArgumentFault)
    → ask ≡ find_catalog paths quiet → IsCatalogFault files reliable paths f → IsAskFault files reliable input failed ask f
catalog_fault_asked files reliable input failed ask paths quiet (fault.Usage text) is h =
    rw is (inl (h.0, h.1), (codes "volcano: catalog ", h.0, (refl, h.1), h.2))
catalog_fault_asked files reliable input failed ask paths quiet (fault.Refused e) is h = for_asked_catalog paths quiet is h
catalog_fault_asked files reliable input failed ask paths quiet (fault.Failing lines) is h = absurd h
