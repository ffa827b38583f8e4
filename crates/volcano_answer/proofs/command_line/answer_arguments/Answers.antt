use Rattle.std.proofs.Common.{◌≡◌, ◌∙◌, Some, None, option_map, sym, ap, map, subst}
use Rattle.clap.specs.Values.{kind_of}
use Rattle.volcano_arguments.specs.Asked.{Ask, asked_is, stats_by, layout_by, unknown_errors_by, faults_of}
use Rattle.volcano_answer.specs.CommandLine.{with_program_name, AsksFor}
use Rattle.volcano_answer.proofs.CommandLineFacts.{arguments_answer, clap_answer, clap_refused}
use Rattle.volcano_answer.proofs.StatsTextFacts.{one_ask, help_no_stats, help_uncounted, request_refused}
use Rattle.volcano_answer.specs.Stats.{AsksForRuns, stats_of_word}
use Rattle.volcano_answer.proofs.command_line.answer_arguments.Goals as goal

pub returns-in-Ok-Some-clause-answer : goal.returns-in-Ok-Some-clause-answer
returns-in-Ok-Some-clause-answer g c =
    let arguments = map (λ a. a.now) c.args.arguments.now in
    let all : map (λ a. a.now) c.as_slice.result.now ≡ with_program_name arguments = ap (map (λ a. a.now)) c.as_slice.ensures.value ∙ c.in_ok-arguments.ensures in
    let asked : AsksFor arguments (asked_is c.in-Ok-Some.request.asked) = record {
      unrefused = rw all at c.in-Ok-Some.ensures.faults;
      asked = sym (rw (c.in-Ok-Some.field-0-is, all) at c.in-Ok-Some.ensures.asked);
    } in
    let layout : option_map (λ s. s.now) c.in-Ok-Some.request.layout ≡ layout_by (with_program_name arguments) = rw (c.in-Ok-Some.field-0-is, all) at c.in-Ok-Some.ensures.layout in
    let answer = rw layout at c.answer_request.ensures.answer in
    arguments_answer (g.R.Runs.counted c.args.services.now.engine.now) c.args.services.now.columns (g.F.Store.holds c.args.files.now) (g.I.ByteIn.remaining c.args.input.now) arguments (asked_is c.in-Ok-Some.request.asked) c.answer_request.result asked answer

pub returns-in-Ok-Some-clause-refused : goal.returns-in-Ok-Some-clause-refused
returns-in-Ok-Some-clause-refused g c =
    let arguments = map (λ a. a.now) c.args.arguments.now in
    let all : map (λ a. a.now) c.as_slice.result.now ≡ with_program_name arguments = ap (map (λ a. a.now)) c.as_slice.ensures.value ∙ c.in_ok-arguments.ensures in
    let asked : AsksFor arguments (asked_is c.in-Ok-Some.request.asked) = record {
      unrefused = rw all at c.in-Ok-Some.ensures.faults;
      asked = sym (rw (c.in-Ok-Some.field-0-is, all) at c.in-Ok-Some.ensures.asked);
    } in
    let word : option_map (λ s. s.now) c.in-Ok-Some.request.stats ≡ stats_by (with_program_name arguments) = rw (c.in-Ok-Some.field-0-is, all) at c.in-Ok-Some.ensures.stats in
    let unknown : option_map (λ s. s.now) c.in-Ok-Some.request.unknown_errors ≡ unknown_errors_by (with_program_name arguments) = rw (c.in-Ok-Some.field-0-is, all) at c.in-Ok-Some.ensures.unknown_errors in
    let layout : option_map (λ s. s.now) c.in-Ok-Some.request.layout ≡ layout_by (with_program_name arguments) = rw (c.in-Ok-Some.field-0-is, all) at c.in-Ok-Some.ensures.layout in
    request_refused (g.F.Store.holds c.args.files.now) (g.F.Store.is_reliable c.args.files.now) (g.I.ByteIn.remaining c.args.input.now) (g.I.ByteIn.has_failed c.answer_request.new.input) arguments (asked_is c.in-Ok-Some.request.asked)
    (option_map (λ s. s.now) c.in-Ok-Some.request.stats) (option_map (λ s. s.now) c.in-Ok-Some.request.layout) (option_map (λ s. s.now) c.in-Ok-Some.request.unknown_errors) c.answer_request.result asked word layout unknown c.answer_request.ensures.refused

pub returns-clause-answer : goal.returns-clause-answer
returns-clause-answer g c =
    let arguments = map (λ a. a.now) c.args.arguments.now in
    let all : map (λ a. a.now) c.as_slice.result.now ≡ with_program_name arguments = ap (map (λ a. a.now)) c.as_slice.ensures.value ∙ c.in_ok-arguments.ensures in
    clap_answer (g.R.Runs.counted c.args.services.now.engine.now) c.args.services.now.columns (g.F.Store.holds c.args.files.now) (g.I.ByteIn.remaining c.args.input.now) arguments c.in-Err.error c.help_or_fault.result
    (rw all at c.in-Err.ensures.faults) c.help_or_fault.ensures.help

pub returns-clause-refused : goal.returns-clause-refused
returns-clause-refused g c =
    let arguments = map (λ a. a.now) c.args.arguments.now in
    let all : map (λ a. a.now) c.as_slice.result.now ≡ with_program_name arguments = ap (map (λ a. a.now)) c.as_slice.ensures.value ∙ c.in_ok-arguments.ensures in
    clap_refused (g.F.Store.holds c.args.files.now) (g.F.Store.is_reliable c.args.files.now) (g.I.ByteIn.remaining c.args.input.now) (g.I.ByteIn.has_failed c.args.input.now) arguments c.in-Err.error c.help_or_fault.result
    (rw all at c.in-Err.ensures.faults) c.help_or_fault.ensures.fault

pub returns-in-Ok-Some-clause-stats : goal.returns-in-Ok-Some-clause-stats
returns-in-Ok-Some-clause-stats g c = λ f ask asks run stats.
    let arguments = map (λ a. a.now) c.args.arguments.now in
    let all : map (λ a. a.now) c.as_slice.result.now ≡ with_program_name arguments = ap (map (λ a. a.now)) c.as_slice.ensures.value ∙ c.in_ok-arguments.ensures in
    let asked : AsksFor arguments (asked_is c.in-Ok-Some.request.asked) = record {
      unrefused = rw all at c.in-Ok-Some.ensures.faults;
      asked = sym (rw (c.in-Ok-Some.field-0-is, all) at c.in-Ok-Some.ensures.asked);
    } in
    let word : option_map (λ s. s.now) c.in-Ok-Some.request.stats ≡ stats_by (with_program_name arguments) = rw (c.in-Ok-Some.field-0-is, all) at c.in-Ok-Some.ensures.stats in
    let same = one_ask arguments ask (asked_is c.in-Ok-Some.request.asked) asks asked in
    c.answer_request.ensures.stats f (subst (λ (a : Ask). AsksForRuns (g.I.ByteIn.remaining c.args.input.now) a) same run) (subst (λ w. stats_of_word w ≡ Some f) (sym word) stats)

pub returns-in-Ok-Some-clause-no_stats : goal.returns-in-Ok-Some-clause-no_stats
returns-in-Ok-Some-clause-no_stats g c = λ none.
    let arguments = map (λ a. a.now) c.args.arguments.now in
    let all : map (λ a. a.now) c.as_slice.result.now ≡ with_program_name arguments = ap (map (λ a. a.now)) c.as_slice.ensures.value ∙ c.in_ok-arguments.ensures in
    let word : option_map (λ s. s.now) c.in-Ok-Some.request.stats ≡ stats_by (with_program_name arguments) = rw (c.in-Ok-Some.field-0-is, all) at c.in-Ok-Some.ensures.stats in
    c.answer_request.ensures.no_stats (subst (λ w. stats_of_word w ≡ None) (sym word) none)

pub returns-clause-stats : goal.returns-clause-stats
returns-clause-stats g c = λ f ask asks run stats.
    let arguments = map (λ a. a.now) c.args.arguments.now in
    let all : map (λ a. a.now) c.as_slice.result.now ≡ with_program_name arguments = ap (map (λ a. a.now)) c.as_slice.ensures.value ∙ c.in_ok-arguments.ensures in
    help_no_stats (faults_of (with_program_name arguments)) c.in-Err.error c.help_or_fault.result f asks.unrefused (rw all at c.in-Err.ensures.faults) c.help_or_fault.ensures.help

pub returns-clause-no_stats : goal.returns-clause-no_stats
returns-clause-no_stats g c = λ none. help_uncounted (kind_of c.in-Err.error) c.help_or_fault.result c.help_or_fault.ensures.help
