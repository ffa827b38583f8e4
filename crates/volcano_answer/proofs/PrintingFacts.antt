-- Answers that are printed one after the other.
use Rattle.std.proofs.Common.{◌≡◌, ◌∙◌, ℕ, ◌+◌, ◌<◌, List, [], ◌∷◌, ◌++◌, map, take, length, get_or, Bool, true, false, Option, Some, None, Result, Ok, Err, refl, sym, ap, subst, codes, string_bytes}
use Rattle.std.specs.Prelude.{OnOk, ◌||◌, is_err}
use Rattle.std.specs.Io.KnownBytes.{Appends}
use Rattle.vx_catalog_bytes.proofs.PortFacts.{appends_more}
use Rattle.vx_catalog.specs.Database.{Database}
use Rattle.vx_exec_runs.specs.Promise.{Counting}
use Rattle.vx_exec_setup.specs.Setting.{Setting}
use Rattle.vx_plan_nodes.specs.TypedView.{resolved_of}
use Rattle.vx_check_rules.specs.CheckedView.{typed_plan}
use Rattle.volcano_stats.specs.declared.text.StatsForm.{StatsForm}
use Rattle.volcano_answer.specs.Commands.{IsRunOver, RunRefuses}
use Rattle.volcano_answer.specs.Plans.{title}
use Rattle.volcano_answer.specs.PlansView.{named_is}
use Rattle.volcano_answer.specs.Printing.{AreWritten, IsEndedBy, StopsWith}
use Rattle.volcano_answer.specs.Stats.{IsRunMore}
use Rattle.volcano_answer.specs.declared.layouts.Layout.{Layout}
use Rattle.volcano_answer.specs.declared.plans.AcceptedPlan.{AcceptedPlan}
use Rattle.volcano_answer.specs.declared.printing.PrintFault.{PrintFault}
use Rattle.volcano_answer.specs.declared.printing.PrintFault.TheVariants as fault
use Rattle.volcano_answer.proofs.PlansFacts.{stops_here}
use Rattle.volcano_answer.proofs.StatsFacts.{counted_answers, counted_grow}

-- the parts of a line, and then the text behind it
pub titled_text : {T F : Type 0} (r : Result T F) (a b c d e : Option (List ℕ)) (path text : List ℕ) → Appends a b (codes "# ") → Appends b c path → Appends c d (codes "\n") → OnOk r (Appends d e text)
    → OnOk r (Appends a e (title path ++ text))
titled_text (Ok x) a b c d e path text first second third last =
    appends_more a d e (title path) text (appends_more a b d (codes "# ") (path ++ codes "\n") first (appends_more b c d path (codes "\n") second third)) last
titled_text (Err x) a b c d e path text first second third last = tt

or_true : (b : Bool) → (b || true) ≡ true
or_true true = refl
or_true false = refl

-- a writer that has not failed wrote all
pub wrote_all : {T F : Type 0} (r : Result T F) (X : Type 0) (old new : Bool) → new ≡ (old || is_err r) → new ≡ false → OnOk r X → X
wrote_all (Ok x) X old new fails whole h = h
wrote_all (Err x) X old new fails whole h = let failed = or_true old in cc

module _ (Counted : Counting) (layout : Layout) (f : Option StatsForm) (db : Database) (s : Setting) (ns : List AcceptedPlan) where
  -- the answers of the first plans, and one more
  pub written_grow : (i : ℕ) (d n : AcceptedPlan) (before mid after : Option (List ℕ)) (stats own grown : List ℕ) → i < length ns → n ≡ get_or ns i d → AreWritten Counted layout f db s (take i ns) before mid stats
      → IsRunMore Counted layout f db s n [] stats own grown → Appends mid after own → AreWritten Counted layout f db s (take (i + 1) ns) before after grown
  written_grow i d n before mid after stats own grown there at w more wrote =
      let behind : IsRunMore Counted layout f db s n w.text stats (w.text ++ own) grown = record {
        own = more.own;
        counts = more.counts;
        time = more.time;
        run = more.run;
        timed = more.timed;
        text_is = ap (λ (t : List ℕ). w.text ++ t) more.text_is;
        stats_are = more.stats_are;
      } in
      record {
        text = w.text ++ own;
        runs = counted_grow Counted layout f db s ns i d n w.text stats (w.text ++ own) grown there at w.runs behind;
        wrote = appends_more before mid after w.text own w.wrote wrote;
      }

  -- the plan at which it stops, or the write that failed
  pub stops_with : (i : ℕ) (d n : AcceptedPlan) (before mid after : Option (List ℕ)) (stats : List ℕ) (had between has : Bool) (kept : Type 0) (e : PrintFault) → i < length ns → n ≡ get_or ns i d
      → AreWritten Counted layout f db s (take i ns) before mid stats → between ≡ had → (kept → (after ≡ mid) × (has ≡ between)) → IsEndedBy (λ e. RunRefuses (resolved_of (typed_plan n.plan)) db s e) kept has e
      → StopsWith layout db s (map named_is ns) before after had has e
  stops_with i d n before mid after stats had between has kept (fault.Refused e) there at w whole same ended =
      let P : AcceptedPlan → Type 0 = λ a. RunRefuses (named_is a).plan db s e in
      let Q : Option (List ℕ) → Type 0 = λ o. Appends before o w.text in (
        record {
          text = w.text;
          stops = stops_here (λ p own. IsRunOver layout p db s own) (λ p e. RunRefuses p db s e) named_is ns i d w.text e there (counted_answers Counted layout f db s (take i ns) w.text stats w.runs) (subst P at ended.0);
          wrote = subst Q (sym (same ended.1).0) w.wrote;
        },
        (same ended.1).1 ∙ whole,
      )
  stops_with i d n before mid after stats had between has kept fault.WriteFailed there at w whole same ended = ended
