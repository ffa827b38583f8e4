-- Answers with statistics: what they answer, and when there are none.
use Rattle.std.proofs.Common.{◌≡◌, ◌⊎◌, ◌∙◌, ℕ, List, map, Bool, Option, Some, None, false, Result, Ok, Err, [], inl, inr, refl, sym, subst, string_bytes, codes}
use Rattle.std.specs.Prelude.{IfOk, IfErr, IfSome}
use Rattle.clap.specs.Values.{kind_of}
use Rattle.clap.specs.Words.{HasKind, IsAmong, Kinds}
use Rattle.clap.specs.declared.error.Error.{Error}
use Rattle.clap.specs.declared.error.kind.ErrorKind.{ErrorKind}
use Rattle.clap.specs.declared.error.kind.ErrorKind.TheVariants as kind
use Rattle.volcano_arguments.specs.Asked.{Ask, Paths, ManyPaths, Given, bundle, run, run_plans, stats_by, layout_by, unknown_errors_by, faults_of}
use Rattle.volcano_bundle.specs.declared.command.Command.TheVariants as command
use Rattle.volcano_refusals.specs.declared.refusal.Refusal.{Refusal}
use Rattle.vx_exec_runs.specs.Promise.{Counting}
use Rattle.vx_exec_setup.specs.Setting.{Setting}
use Rattle.vx_catalog_bytes.specs.Stored.{Stored}
use Rattle.volcano_stats.specs.declared.text.StatsForm.{StatsForm}
use Rattle.volcano_answer.specs.Arguments.{IsSetting}
use Rattle.volcano_answer.specs.CommandLine.{FileCommand, IsTask, TaskRefuses, AskRefuses, with_program_name, AsksFor, for_no_stats, for_no_layout, for_unknown_errors, for_bundle, for_task, for_runs, for_asked_task, arguments_memory}
use Rattle.volcano_answer.specs.CommandLineView.{IsHelp, IsUsageFault, IsAskAnswer, IsAskFault, IsArgumentFault}
use Rattle.volcano_answer.specs.Files.{input_after}
use Rattle.volcano_answer.specs.Plans.{AnswersPlans}
use Rattle.volcano_answer.specs.PlansView.{named_is}
use Rattle.volcano_answer.specs.Answer.{IsAnswer, AsksForRun}
use Rattle.volcano_answer.specs.Layouts.{names_layout}
use Rattle.volcano_answer.specs.Made.{text_in, IfRun, IsRunReport}
use Rattle.volcano_answer.specs.Stats.{AsksForRuns, AreBundleStats, AreTaskStats, ArePlansStats, for_bundle_run, for_one, for_several}
use Rattle.volcano_answer.specs.StatsNames.{stats_named}
use Rattle.volcano_answer.specs.StatsView.{answer_with, made_with, IsCountedAs, IsUncounted, IsStatsFault, IsLayoutFault, IsErrorsFault}
use Rattle.volcano_answer.specs.declared.layouts.Layout.{Layout}
use Rattle.volcano_answer.specs.declared.command_line.ArgumentAnswer.{ArgumentAnswer}
use Rattle.volcano_answer.specs.declared.command_line.ArgumentAnswer.TheVariants as answer
use Rattle.volcano_answer.specs.declared.command_line.ArgumentFault.{ArgumentFault}
use Rattle.volcano_answer.specs.declared.command.CommandAnswer.{CommandAnswer}
use Rattle.volcano_answer.specs.declared.command.CommandAnswer.TheVariants as made
use Rattle.volcano_answer.specs.declared.stats.RunReport.{RunReport}
use Rattle.volcano_answer.specs.declared.command_line.ArgumentFault.TheVariants as fault
use Rattle.volcano_answer.proofs.CommandLineFacts.{arguments_refused}
use Rattle.volcano_answer.proofs.SharesFacts.{have_shares, answers_in}
use Rattle.volcano_answer.proofs.StatsFacts.{counted_answers, stats_answer}

-- what is reported of several plans answers them
pub plans_stats : (Counted : Counting) (layout : Layout) (files : List ℕ → Stored) (input : Option (List ℕ)) (f : Option StatsForm) (paths : ManyPaths) (folder : List ℕ) (s : Setting) (text opening : List ℕ)
    → ArePlansStats Counted layout files input f paths folder s text opening → AnswersPlans layout files input paths folder s text
plans_stats Counted layout files input f paths folder s text opening h =
    let ns = map named_is h.plans in
    let shares = have_shares h.relations ns _ h.all h.loaded files (input_after input paths.catalog) ns h.planned.accepted (λ i is. is) in
    (h.relations, ns, h.all, h.planned, h.loaded, answers_in layout _ h.all s ns text shares (counted_answers Counted layout f h.all s h.plans text h.stats h.runs))

-- arguments ask for one thing
pub one_ask : (arguments : List (List ℕ)) (a b : Ask) → AsksFor arguments a → AsksFor arguments b → a ≡ b
one_ask arguments a b h k = let e : ◌≡◌ {A = Option Ask} (Some a) (Some b) = sym h.asked ∙ k.asked in cc

-- help is an answer only where clap refuses something
pub help_no_stats : (kinds : Kinds) (error : Error) (r : Result ArgumentAnswer ArgumentFault) (f : StatsForm) → kinds ≡ [] → HasKind kinds error → IfOk r (IsHelp (kind_of error)) → IfOk r (IsCountedAs f)
help_no_stats kinds error (Ok (answer.Text text)) f none (inl memory) (inl help) = let no : kind.OutOfMemory ≡ kind.DisplayHelp = sym memory ∙ help in cc
help_no_stats kinds error (Ok (answer.Text text)) f none (inl memory) (inr version) = let no : kind.OutOfMemory ≡ kind.DisplayVersion = sym memory ∙ version in cc
help_no_stats kinds error (Ok (answer.Text text)) f none (inr among) h = let P : Kinds → Type 0 = λ ks. IsAmong (kind_of error) ks in absurd (subst P none among)
help_no_stats kinds error (Ok (answer.Relation rows)) f none has h = absurd h
help_no_stats kinds error (Ok (answer.Counted k)) f none has h = absurd h
help_no_stats kinds error (Ok (answer.Runs l)) f none has h = absurd h
help_no_stats kinds error (Err e) f none has h = tt

pub help_uncounted : (k : ErrorKind) (r : Result ArgumentAnswer ArgumentFault) → IfOk r (IsHelp k) → IfOk r IsUncounted
help_uncounted k (Ok (answer.Text text)) h = tt
help_uncounted k (Ok (answer.Relation rows)) h = tt
help_uncounted k (Ok (answer.Counted counted)) h = h
help_uncounted k (Ok (answer.Runs l)) h = absurd h
help_uncounted k (Err e) h = tt

-- the message about a word that is no form of statistics names it
pub stats_named_in : (word after : List ℕ) (e : ArgumentFault) → stats_named word ≡ None → IsUsageFault (codes "volcano: --stats ") word after e → IsStatsFault (Some word) e
stats_named_in word after (fault.Usage text) none h = (word, refl, none, (after, h))
stats_named_in word after (fault.Refused e) none h = h
stats_named_in word after (fault.Failing lines) none h = absurd h

-- and so does that about a word that is no layout of rows
pub layout_named_in : (word after : List ℕ) (e : ArgumentFault) → names_layout word ≡ false → IsUsageFault (codes "volcano: --format ") word after e → IsLayoutFault (Some word) e
layout_named_in word after (fault.Usage text) none h = (word, refl, none, (after, h))
layout_named_in word after (fault.Refused e) none h = h
layout_named_in word after (fault.Failing lines) none h = absurd h

-- and so does that about a word that is no form of refusals
pub errors_named_in : (word after : List ℕ) (e : ArgumentFault) → IsUsageFault (codes "volcano: --errors ") word after e → IsErrorsFault (Some word) e
errors_named_in word after (fault.Usage text) h = (word, refl, (after, h))
errors_named_in word after (fault.Refused e) h = h
errors_named_in word after (fault.Failing lines) h = absurd h

-- a word that is no form of statistics is a wrong argument
stats_refused : (files : List ℕ → Stored) (reliable : List ℕ → Bool) (input : Option (List ℕ)) (failed : Bool) (arguments : List (List ℕ)) (word : Option (List ℕ)) (e : ArgumentFault)
    → faults_of (with_program_name arguments) ≡ [] → word ≡ stats_by (with_program_name arguments) → IsStatsFault word e → IsArgumentFault files reliable input failed arguments e
stats_refused files reliable input failed arguments word (fault.Usage text) none is h = for_no_stats h.0 none (sym is ∙ h.1) h.2
stats_refused files reliable input failed arguments word (fault.Refused e) none is h = arguments_memory h
stats_refused files reliable input failed arguments word (fault.Failing lines) none is h = absurd h

-- and so is a word that is no layout of rows
layout_refused : (files : List ℕ → Stored) (reliable : List ℕ → Bool) (input : Option (List ℕ)) (failed : Bool) (arguments : List (List ℕ)) (word : Option (List ℕ)) (e : ArgumentFault)
    → faults_of (with_program_name arguments) ≡ [] → word ≡ layout_by (with_program_name arguments) → IsLayoutFault word e → IsArgumentFault files reliable input failed arguments e
layout_refused files reliable input failed arguments word (fault.Usage text) none is h = for_no_layout h.0 none (sym is ∙ h.1) h.2
layout_refused files reliable input failed arguments word (fault.Refused e) none is h = arguments_memory h
layout_refused files reliable input failed arguments word (fault.Failing lines) none is h = absurd h

-- and so is a word that is no form of refusals
errors_refused : (files : List ℕ → Stored) (reliable : List ℕ → Bool) (input : Option (List ℕ)) (failed : Bool) (arguments : List (List ℕ)) (unknown : Option (List ℕ)) (e : ArgumentFault)
    → faults_of (with_program_name arguments) ≡ [] → unknown ≡ unknown_errors_by (with_program_name arguments) → IsErrorsFault unknown e → IsArgumentFault files reliable input failed arguments e
errors_refused files reliable input failed arguments unknown (fault.Usage text) none is h = for_unknown_errors h.0 none (sym is ∙ h.1)
errors_refused files reliable input failed arguments unknown (fault.Refused e) none is h = arguments_memory h
errors_refused files reliable input failed arguments unknown (fault.Failing lines) none is h = absurd h

-- why a request is not answered is why the arguments are not
pub request_refused : {T : Type 0} (files : List ℕ → Stored) (reliable : List ℕ → Bool) (input : Option (List ℕ)) (failed : Bool) (arguments : List (List ℕ)) (ask : Ask) (word layout unknown : Option (List ℕ))
    (r : Result T ArgumentFault) → AsksFor arguments ask → word ≡ stats_by (with_program_name arguments) → layout ≡ layout_by (with_program_name arguments) → unknown ≡ unknown_errors_by (with_program_name arguments)
    → IfErr r (λ e. IsAskFault files reliable input failed ask e ⊎ (IsStatsFault word e ⊎ (IsLayoutFault layout e ⊎ IsErrorsFault unknown e))) → IfErr r (IsArgumentFault files reliable input failed arguments)
request_refused files reliable input failed arguments ask word layout unknown (Ok v) asked is layout_is errors_is h = tt
request_refused files reliable input failed arguments ask word layout unknown (Err e) asked is layout_is errors_is h = elim h [
  | inl k ↦ arguments_refused {T = ArgumentFault} files reliable input failed arguments ask (Err e) asked k
  | inr (inl k) ↦ stats_refused files reliable input failed arguments word e asked.unrefused is k
  | inr (inr (inl k)) ↦ layout_refused files reliable input failed arguments layout e asked.unrefused layout_is k
  | inr (inr (inr k)) ↦ errors_refused files reliable input failed arguments unknown e asked.unrefused errors_is k
]

-- a run answers what is asked for, with what is reported of it
pub one_reported : (Counted : Counting) (layout : Layout) (files : List ℕ → Stored) (input : Option (List ℕ)) (f : Option StatsForm) (ask : Ask) (paths : Paths) (folder : List ℕ) (given : Given) (s : Setting) (r : RunReport)
    → ask ≡ run paths folder given → IsSetting given s
    → AreTaskStats Counted layout files input f (record { command = command.Run; paths = paths; folder = folder; setting = s }) r.text.items (string_bytes r.stats)
    → IsAskAnswer Counted layout files input ask (answer_with f r)
one_reported Counted layout files input None ask paths folder given s r same set h =
    let t : FileCommand = record { command = command.Run; paths = paths; folder = folder; setting = s } in
    let P : Ask → Type 0 = λ a. IsAskAnswer Counted layout files input a (answer.Text r.text) in
    let is : IsTask (run paths folder given) t = (s, set, refl) in
    subst P (sym same) (for_task t is (stats_answer Counted layout files input None paths folder s r.text.items (string_bytes r.stats) h))
one_reported Counted layout files input (Some f) ask paths folder given s r same set h =
    let t : FileCommand = record { command = command.Run; paths = paths; folder = folder; setting = s } in
    let P : Ask → Type 0 = λ a. IsAskAnswer Counted layout files input a (answer_with (Some f) r) in
    let is : IsTask (run paths folder given) t = (s, set, refl) in
    subst P (sym same) (for_task t is (stats_answer Counted layout files input (Some f) paths folder s r.text.items (string_bytes r.stats) h), for_one t is refl h)

-- and so does what the command of a bundle made
pub bundle_reported : (Counted : Counting) (layout : Layout) (files : List ℕ → Stored) (input : Option (List ℕ)) (f : Option StatsForm) (ask : Ask) (a : CommandAnswer) → ask ≡ bundle
    → IfSome input (λ bytes. IsAnswer layout bytes (text_in a)) → IfRun (λ k. IfSome input (λ bytes. AreBundleStats Counted layout f bytes k.text.items (string_bytes k.stats))) a
    → IsAskAnswer Counted layout files input ask (made_with f a)
bundle_reported Counted layout files input None ask (made.Text text) same answers reported = for_bundle same answers
bundle_reported Counted layout files input None ask (made.Run k) same answers reported = for_bundle same answers
bundle_reported Counted layout files input (Some f) ask (made.Text text) same answers reported = for_bundle same answers
bundle_reported Counted layout files input (Some f) ask (made.Run k) same answers reported = (for_bundle same answers, for_bundle_run same reported)

-- where it asks for a run, it is the report of one
pub bundle_runs : (input : Option (List ℕ)) (ask : Ask) (a : CommandAnswer) → ask ≡ bundle → IfSome input (λ bytes. AsksForRun bytes → IsRunReport a) → AsksForRuns input ask → IsRunReport a
bundle_runs input ask a same runs asks =
    let P : Option (List ℕ) → Type 0 = λ i. IfSome i (λ bytes. AsksForRun bytes → IsRunReport a) in
    let asked : AsksForRuns input bundle = subst (λ (x : Ask). AsksForRuns input x) same asks in
    subst P asked.1 runs asked.2

-- why a task that is a run is refused
pub run_refused : (files : List ℕ → Stored) (reliable : List ℕ → Bool) (input : Option (List ℕ)) (failed : Bool) (ask : Ask) (paths : Paths) (folder : List ℕ) (given : Given) (s : Setting) (e : Refusal)
    → ask ≡ run paths folder given → IsSetting given s → TaskRefuses files reliable input failed (record { command = command.Run; paths = paths; folder = folder; setting = s }) e
    → AskRefuses files reliable input failed ask e
run_refused files reliable input failed ask paths folder given s e same set h =
    let t : FileCommand = record { command = command.Run; paths = paths; folder = folder; setting = s } in
    let P : Ask → Type 0 = λ a. AskRefuses files reliable input failed a e in
    let is : IsTask (run paths folder given) t = (s, set, refl) in
    subst P (sym same) (for_asked_task t is h)
