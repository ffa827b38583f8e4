use Rattle.std.proofs.Common.{arith, ◌≡◌, ◌∙◌, Some, ◌++◌, ℕ, List, refl, sym, subst, inl, inr, map, string_bytes}
use Rattle.std.specs.Io.KnownBytes.{Appends}
use Rattle.vx_catalog.specs.Csv.{csv_text}
use Rattle.vx_wisconsin.specs.Wisconsin.{wisconsin, column_names}
use Rattle.volcano_arguments.specs.Asked.{generate}
use Rattle.volcano_refusals.specs.declared.refusal.Refusal.TheVariants as refusal
use Rattle.volcano_stats.specs.Text.{write_end}
use Rattle.volcano_stats.specs.declared.text.StatsForm.{StatsForm}
use Rattle.volcano_answer.specs.Stats.{AreStatsOf}
use Rattle.volcano_answer.specs.CommandLine.{for_what_is_asked, for_relation, for_ask, for_asked_relation, arguments_memory}
use Rattle.volcano_answer.proofs.CommandLineFacts.{stopped_refuses}
use Rattle.volcano_answer.proofs.LoadedFacts.{printed_answers, printed_stats, printed_stops, true_false}
use Rattle.volcano_answer.proofs.Refusing.{has_status}
use Rattle.volcano_answer.proofs.program.reply_to_arguments.Goals as goal

pub returns-in-Ok-Text-clause-done : goal.returns-in-Ok-Text-clause-done
returns-in-Ok-Text-clause-done g c zero =
    let answers = rw c.in-Ok-Text.field-0-is at c.in-Ok-Text.ensures.answer in
    (c.in-Ok-Text.text.items, answers, c.write_answer.ensures.done zero)

pub returns-in-Ok-Relation-clause-done : goal.returns-in-Ok-Relation-clause-done
returns-in-Ok-Relation-clause-done g c zero =
    let rows = c.in-Ok-Relation.rows in
    let answers = rw c.in-Ok-Relation.field-0-is at c.in-Ok-Relation.ensures.answer in
    let written = c.write_relation.ensures.done zero in
    (csv_text column_names (wisconsin rows), for_what_is_asked (generate rows) answers.0 (for_relation rows refl written.0 (rw answers.1 refl)), written.1)

pub returns-in-Ok-Relation-clause-refused : goal.returns-in-Ok-Relation-clause-refused
returns-in-Ok-Relation-clause-refused g c three =
    let rows = c.in-Ok-Relation.rows in
    let answers = rw c.in-Ok-Relation.field-0-is at c.in-Ok-Relation.ensures.answer in
    inl (refusal.TooLarge, refl, for_ask (generate rows) answers.0 (for_asked_relation rows refl (c.write_relation.ensures.large.1 three).0 refl))

pub returns-in-Ok-Relation-clause-failed : goal.returns-in-Ok-Relation-clause-failed
returns-in-Ok-Relation-clause-failed g c four = inr (refusal.NoMemory, refl, arguments_memory refl)

pub returns-in-Err-Refused-clause-refused : goal.returns-in-Err-Refused-clause-refused
returns-in-Err-Refused-clause-refused g c three =
    let refused = rw c.in-Err-Refused.field-0-is at c.in-Err-Refused.ensures.refused in
    inl (c.in-Err-Refused.refusal, sym c.refuse_in_place.ensures ∙ three, refused)

pub returns-in-Err-Failing-clause-refused : goal.returns-in-Err-Failing-clause-refused
returns-in-Err-Failing-clause-refused g c three =
    let failing = rw c.in-Err-Failing.field-0-is at c.in-Err-Failing.ensures.refused in
    inr (string_bytes c.in-Err-Failing.lines, failing, rw c.as_str.ensures.value at c.write_lines.ensures.written)

pub returns-in-Err-Usage-clause-usage : goal.returns-in-Err-Usage-clause-usage
returns-in-Err-Usage-clause-usage g c two = (rw c.in-Err-Usage.field-0-is at c.in-Err-Usage.ensures.refused, refl)

pub returns-in-Ok-Text-clause-failed : goal.returns-in-Ok-Text-clause-failed
returns-in-Ok-Text-clause-failed g c four = inl (c.write_answer.ensures.failed (λ z. absurd (omega (arith, z, four)))).1

pub returns-in-Err-Refused-clause-failed : goal.returns-in-Err-Refused-clause-failed
returns-in-Err-Refused-clause-failed g c four =
    let refused = rw c.in-Err-Refused.field-0-is at c.in-Err-Refused.ensures.refused in
    inr (c.in-Err-Refused.refusal, sym c.refuse_in_place.ensures ∙ four, refused)

pub returns-in-Ok-Text-clause-stats : goal.returns-in-Ok-Text-clause-stats
returns-in-Ok-Text-clause-stats g c = λ zero whole f ask asked run stats. absurd (rw c.in-Ok-Text.field-0-is at (c.in-Ok-Text.ensures.stats f ask asked run stats))

pub returns-in-Ok-Relation-clause-stats : goal.returns-in-Ok-Relation-clause-stats
returns-in-Ok-Relation-clause-stats g c = λ zero whole f ask asked run stats. absurd (rw c.in-Ok-Relation.field-0-is at (c.in-Ok-Relation.ensures.stats f ask asked run stats))

pub returns-in-Ok-Counted-clause-done : goal.returns-in-Ok-Counted-clause-done
returns-in-Ok-Counted-clause-done g c zero =
    let answers = rw c.in-Ok-Counted.field-0-is at c.in-Ok-Counted.ensures.answer in
    (c.in-Ok-Counted.counted.text.items, answers.0, c.write_counted.ensures.done zero)

pub returns-in-Ok-Counted-clause-failed : goal.returns-in-Ok-Counted-clause-failed
returns-in-Ok-Counted-clause-failed g c four = inl (c.write_counted.ensures.failed (λ z. absurd (omega (arith, z, four)))).1

pub returns-in-Ok-Counted-clause-stats : goal.returns-in-Ok-Counted-clause-stats
returns-in-Ok-Counted-clause-stats g c = λ zero whole f ask asked run stats.
    let k = c.in-Ok-Counted.counted in
    let files = g.F.Store.holds c.args.files.now in
    let input = g.I.ByteIn.remaining c.args.input.now in
    let arguments = map (λ a. a.now) c.args.arguments.now in
    let answers = rw c.in-Ok-Counted.field-0-is at c.in-Ok-Counted.ensures.answer in
    let form = rw c.in-Ok-Counted.field-0-is at (c.in-Ok-Counted.ensures.stats f ask asked run stats) in
    let reported = c.write_counted.ensures.stats zero whole in
    let P : StatsForm → Type 0 = λ f. (text : List ℕ) × (stats : List ℕ) × AreStatsOf (g.R.Runs.counted c.args.services.now.engine.now) c.args.services.now.columns files input f arguments text stats
    × Appends (g.O.ByteOut.contents c.args.out.now) (g.O.ByteOut.contents c.write_counted.new.out) text
    × Appends (g.E.ByteOut.contents c.args.err.now) (g.E.ByteOut.contents c.write_counted.new.err) stats in
    subst P form (
      k.text.items,
      string_bytes k.opening ++ write_end k.form reported.0,
      record { opening = string_bytes k.opening; reports = answers.1; time = reported.0; is = refl },
      c.write_counted.ensures.done zero,
      reported.1,
    )

pub returns-in-Ok-Counted-clause-no_stats : goal.returns-in-Ok-Counted-clause-no_stats
returns-in-Ok-Counted-clause-no_stats g c = λ zero none plain. absurd (rw c.in-Ok-Counted.field-0-is at (c.in-Ok-Counted.ensures.no_stats none))

pub returns-in-Err-Refused-clause-stats : goal.returns-in-Err-Refused-clause-stats
returns-in-Err-Refused-clause-stats g c = λ zero whole f ask asked run stats. absurd (has_status c.in-Err-Refused.refusal (sym c.refuse_in_place.ensures ∙ zero))

pub returns-in-Ok-Runs-clause-done : goal.returns-in-Ok-Runs-clause-done
returns-in-Ok-Runs-clause-done g c = λ zero.
    let asks = rw c.in-Ok-Runs.field-0-is at c.in-Ok-Runs.ensures.answer in
    let w = c.write_runs.ensures.done zero in (
      w.1.text,
      printed_answers (g.R.Runs.counted c.args.services.now.engine.now) c.args.services.now.columns (g.F.Store.holds c.args.files.now) (g.I.ByteIn.remaining c.args.input.now) (map (λ a. a.now) c.args.arguments.now) c.in-Ok-Runs.loaded
          w.1.text w.0 asks w.1.runs,
      w.1.wrote,
    )

pub returns-in-Ok-Runs-clause-stats : goal.returns-in-Ok-Runs-clause-stats
returns-in-Ok-Runs-clause-stats g c = λ zero whole f ask asked run stats.
    let loaded = c.in-Ok-Runs.loaded in
    let asks = rw c.in-Ok-Runs.field-0-is at c.in-Ok-Runs.ensures.answer in
    let form : loaded.form ≡ Some f = rw c.in-Ok-Runs.field-0-is at (c.in-Ok-Runs.ensures.stats f ask asked run stats) in
    let w = c.write_runs.ensures.stats zero whole f form in
    let opening = w.0 ++ string_bytes loaded.common in
    let reports = printed_stats (g.R.Runs.counted c.args.services.now.engine.now) c.args.services.now.columns (g.F.Store.holds c.args.files.now) (g.I.ByteIn.remaining c.args.input.now) f (map (λ a. a.now) c.args.arguments.now) loaded
    w.2.text w.0 asks form w.2.runs in
    (w.2.text, opening ++ write_end f w.1, record { opening = opening; reports = reports; time = w.1; is = refl }, w.2.wrote, w.3)

pub returns-in-Ok-Runs-clause-no_stats : goal.returns-in-Ok-Runs-clause-no_stats
returns-in-Ok-Runs-clause-no_stats g c = λ zero none plain. c.write_runs.ensures.no_stats zero (rw c.in-Ok-Runs.field-0-is at (c.in-Ok-Runs.ensures.no_stats none))

pub returns-in-Ok-Runs-clause-kept : goal.returns-in-Ok-Runs-clause-kept
returns-in-Ok-Runs-clause-kept g c = λ some whole.
    let asks = rw c.in-Ok-Runs.field-0-is at c.in-Ok-Runs.ensures.answer in
    elim (c.write_runs.ensures.stopped some) [
      | inl h ↦ absurd (true_false _ h.1 whole)
      | inr h ↦ inr (h.2.text, h.0, printed_stops c.args.services.now.columns (g.F.Store.holds c.args.files.now) (g.I.ByteIn.remaining c.args.input.now) (map (λ a. a.now) c.args.arguments.now) c.in-Ok-Runs.loaded h.2.text h.0 asks h.2.stops, h.1, h.2.wrote)
    ]

pub returns-in-Ok-Runs-clause-refused : goal.returns-in-Ok-Runs-clause-refused
returns-in-Ok-Runs-clause-refused g c = λ three.
    let files = g.F.Store.holds c.args.files.now in
    let input = g.I.ByteIn.remaining c.args.input.now in
    let arguments = map (λ a. a.now) c.args.arguments.now in
    let asks = rw c.in-Ok-Runs.field-0-is at c.in-Ok-Runs.ensures.answer in
    elim (c.write_runs.ensures.stopped (λ z. absurd (omega (arith, z, three)))) [
      | inl h ↦ let four = h.0 in absurd (omega (arith, four, three))
      | inr h ↦ inl (
        h.0,
        sym h.1 ∙ three,
        stopped_refuses c.args.services.now.columns files (g.F.Store.is_reliable c.args.files.now) input (g.I.ByteIn.has_failed c.answer_arguments.new.input) arguments h.2.text h.0
            (printed_stops c.args.services.now.columns files input arguments c.in-Ok-Runs.loaded h.2.text h.0 asks h.2.stops),
      )
    ]

pub returns-in-Ok-Runs-clause-failed : goal.returns-in-Ok-Runs-clause-failed
returns-in-Ok-Runs-clause-failed g c = λ four.
    let files = g.F.Store.holds c.args.files.now in
    let input = g.I.ByteIn.remaining c.args.input.now in
    let arguments = map (λ a. a.now) c.args.arguments.now in
    let asks = rw c.in-Ok-Runs.field-0-is at c.in-Ok-Runs.ensures.answer in
    elim (c.write_runs.ensures.stopped (λ z. absurd (omega (arith, z, four)))) [
      | inl h ↦ inl h.1
      | inr h ↦ inr (
        h.0,
        sym h.1 ∙ four,
        stopped_refuses c.args.services.now.columns files (g.F.Store.is_reliable c.args.files.now) input (g.I.ByteIn.has_failed c.answer_arguments.new.input) arguments h.2.text h.0
            (printed_stops c.args.services.now.columns files input arguments c.in-Ok-Runs.loaded h.2.text h.0 asks h.2.stops),
      )
    ]
