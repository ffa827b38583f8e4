use Rattle.std.proofs.Common.{rules, arith, refl, sym, subst, ap, ◌∙◌, ◌≡◌, ◌++◌, [], append-nil, length, false, true≢false, not, None, vec_len}
use Rattle.std.proofs.lemmas.List.{nil_from_length}
use Rattle.vx_exchange_receivers.specs.Merge.{MergeView, MergeFits, HasMerged}
use Rattle.vx_exchange_receivers.proofs.MergeCalls.{all-given}
use Rattle.vx_exchange_receivers.proofs.merge.StreamMerge.give_runs.Goals.{then-runs-test+then-is_none+else-not-is_empty, then-runs-test+else-is_none, else-runs-test}
use Rattle.vx_exchange_receivers.proofs.merge.StreamMerge.give_runs.Goals as goal

pub runs-init : goal.runs-init
runs-init c = record {
  shape = record { merge = refl; types = refl; many = refl };
  types = c.in_ok-found.ensures.types ∙ (c.deref.ensures.value ∙ ap (λ (y : MergeView). y.types) c.self.view_is);
  ends = λ p. refl;
  left = let none = ap length c.in_ok-found.ensures.rows in omega (arith, none);
  none = λ e. c.requires;
  merged = λ closed came given h. subst (HasMerged c.args.self.now closed came) (sym (ap (λ ys. given ++ ys) c.in_ok-found.ensures.rows ∙ append-nil given)) h;
}

pub runs-preserved : goal.runs-preserved
runs-preserved c =
    let i = c.runs.invariant in
    let e = c.give_run.ensures in
    let k = c.in_ok-give_run.ensures in
    let longer = k.more in
    record {
      shape = record { merge = e.shape.merge ∙ i.shape.merge; types = e.shape.types ∙ i.shape.types; many = e.shape.many ∙ i.shape.many };
      types = e.types ∙ i.types;
      ends = λ p. e.ends p ∙ i.ends p;
      left = let a = k.left in let b = i.left in omega (arith, a, b);
      none = λ z. let n = ap length z in absurd (omega (arith, longer, n));
      merged = λ closed came given h. k.merged closed came given (i.merged closed came given h);
    }

pub give_run-requires-clause-types : goal.give_run-requires-clause-types
give_run-requires-clause-types c = c.runs.invariant.types ∙ sym c.runs.invariant.shape.types

pub returns-clause-all : goal.returns-clause-all
returns-clause-all c e =
    let seen = c.self-in-runs.view_is in
    let missing = c.runs.invariant.none e in
    let here : c.self-in-runs.inside.missing ≡ None = ap (λ (y : MergeView). y.missing) seen ∙ missing in
    let order : c.self-in-runs.inside.order.items ≡ [] = elim c.runs-test.branch [
      | then-runs-test+then-is_none+else-not-is_empty w ↦
          let same : vec_len c.self-in-runs.inside.order ≡ length c.self-in-runs.inside.order.items = search rules in
          let a = w.is_empty.ensures in
          let b = w.if-not-is_empty.false in
          nil_from_length c.self-in-runs.inside.order.items (grind (arith, same, a, b))
      | then-runs-test+else-is_none w ↦
          let b : false ≡ not w.is_none.result = rw here at w.is_none.ensures in
          let f : w.is_none.result ≡ false = w.if-is_none.false in
          absurd (true≢false (sym (b ∙ ap not f)))
      | else-runs-test w ↦
          let n : length c.runs.found.rows ≡ 0 = ap length e in
          let t = w.runs-test.false in
          absurd (omega (arith, n, t))
    ] in
    all-given c.runs.self (subst MergeFits seen c.self-in-runs.invariant) missing (sym (ap (λ (y : MergeView). y.order) seen) ∙ order)

pub returns-in_err-give_run-clause-ends : goal.returns-in_err-give_run-clause-ends
returns-in_err-give_run-clause-ends c p = c.give_run.ensures.ends p ∙ c.runs.invariant.ends p

pub returns-clause-ends : goal.returns-clause-ends
returns-clause-ends c = c.runs.invariant.ends

pub returns-clause-left : goal.returns-clause-left
returns-clause-left c = c.runs.invariant.left
