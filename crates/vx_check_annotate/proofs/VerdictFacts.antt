-- What the checker answers, by what resolving and the rule table answer.
use Rattle.std.proofs.Common.{◌≡◌, ℕ, Bool, true, false, ◌&&◌, List, Option, Some, None, is_none, Result, Ok, Err, true≢false, refl, sym, ap, ◌∙◌}
use Rattle.vx_catalog_relations.specs.Relation.{Relation}
use Rattle.vx_catalog_relations.specs.Catalog.{relation_at, IsCatalog}
use Rattle.vx_plan_nodes.specs.Plan.{Plan}
use Rattle.vx_plan_nodes.specs.Outline.{plan_in}
use Rattle.vx_plan_nodes.specs.Typed.{Scope, typed}
use Rattle.vx_plan_nodes.specs.Names.{scope_of, TypedPlanView}
use Rattle.vx_plan_json.specs.Fault.{Refusal}
use Rattle.vx_plan_json.specs.Document.{Document}
use Rattle.vx_plan_json.specs.Formed.{is_tree_form}
use Rattle.vx_plan.specs.Resolve.{resolved}
use Rattle.vx_plan.proofs.PlanExact.{plans_resolved_exactly}
use Rattle.vx_check_rules.specs.Refusal.{Rule, refusal}
use Rattle.vx_check_rules.specs.Tables.{refusal_by}
use Rattle.vx_check_rules.proofs.Refusals.{refusal-decides, refusal-decides-by}
use Rattle.vx_check_rules.proofs.DerivedMore.{nodes-more, root-more}
use Rattle.vx_check_directions.specs.Directed.{falls_of, directed}
use Rattle.vx_check_directions.proofs.Accepting.{directed-is-accepted}
use Rattle.vx_check_annotate.specs.Verdict.{refusal_in, accepts, is_accepted, refuses, refused, refusal_by_claims, accepts_by_claims, is_accepted_by_claims, refuses_by_claims, refused_by_claims}
use Rattle.vx_check_annotate.proofs.Turning.{rising-again, directed-typed}

pub accepted_so : (catalog : List Relation) (d : Document) (p : TypedPlanView) → resolved d catalog ≡ Ok p → is_accepted catalog d ≡ is_none (refusal_in p)
accepted_so catalog d p h = ap accepts h

pub claims_so : (catalog : List Relation) (d : Document) (p : TypedPlanView) → resolved d catalog ≡ Ok p → is_accepted_by_claims catalog d ≡ is_none (refusal_by_claims p)
claims_so catalog d p h = ap accepts_by_claims h

-- ---- both rule tables

-- what claims alone show is shown by what is known of columns too
refusal-more : (derives : Bool) (s : Scope) (total : Bool) (p : Plan) → typed s p ≡ true → refusal (relation_at s.catalog) total (directed false (relation_at s.catalog) p) ≡ None
    → refusal_by derives (relation_at s.catalog) total (directed derives (relation_at s.catalog) p) ≡ None
refusal-more false s total p t h = h
refusal-more true s total p t h =
    let C : ℕ → Relation = relation_at s.catalog in
    let q : Plan = directed false C p in
    let ok = (refusal-decides C total q).0 h in
    let more : refusal_by true C total q ≡ None = (refusal-decides-by true C total q).1 (nodes-more C q ok.0, root-more C q total ok.1) in
    directed-is-accepted true s total p q (sym (rising-again (falls_of false C) p)) (directed-typed s p t) more

none : (o : Option (ℕ × Rule)) → is_none o ≡ true → o ≡ None
none None h = refl
none (Some x) h = cc

pub claims-more : (catalog : List Relation) (d : Document) → IsCatalog catalog → is_tree_form d.root ≡ true → is_accepted_by_claims catalog d ≡ true → is_accepted catalog d ≡ true
claims-more catalog d cat formed = by (resolved d catalog) refl
  where
    by : (o : Result TypedPlanView Refusal) → resolved d catalog ≡ o → accepts_by_claims o ≡ true → accepts o ≡ true
    by (Ok p) e h =
        let is = (plans_resolved_exactly.resolves d catalog p cat formed).0 e in
        ap is_none (refusal-more p.derives (scope_of p.names) p.total (plan_in p.root) is.1.typed.nodes (none (refusal_by_claims p) h))
    by (Err x) e h = h

-- so what is not accepted is not accepted by claims alone
pub claims-refuse : (catalog : List Relation) (d : Document) → IsCatalog catalog → is_tree_form d.root ≡ true → is_accepted catalog d ≡ false → is_accepted_by_claims catalog d ≡ false
claims-refuse catalog d cat formed refused = by (is_accepted_by_claims catalog d) (claims-more catalog d cat formed)
  where
    by : (b : Bool) → (b ≡ true → is_accepted catalog d ≡ true) → b ≡ false
    by true f = absurd (true≢false (sym (f refl) ∙ refused))
    by false f = refl

-- a document that does not ask for what is known of its columns is judged by claims alone
pub plainly : (catalog : List Relation) (d : Document) → IsCatalog catalog → is_tree_form d.root ≡ true → d.derives ≡ false → is_accepted catalog d ≡ is_accepted_by_claims catalog d
plainly catalog d cat formed plain = by (resolved d catalog) refl
  where
    by : (o : Result TypedPlanView Refusal) → resolved d catalog ≡ o → accepts o ≡ accepts_by_claims o
    by (Ok p) h =
        let is = (plans_resolved_exactly.resolves d catalog p cat formed).0 h in
        let same : p.derives ≡ false = ap (λ (e : Document). e.derives) is.2 ∙ plain in
        ap (λ b. is_none (refusal_by b (relation_at p.names.catalog) p.total (directed b (relation_at p.names.catalog) (plan_in p.root)))) same
    by (Err e) h = refl

-- and refused where claims alone refuse it
pub refused-plainly : (catalog : List Relation) (d : Document) → IsCatalog catalog → is_tree_form d.root ≡ true → d.derives ≡ false → refused catalog d ≡ refused_by_claims catalog d
refused-plainly catalog d cat formed plain = by (resolved d catalog) refl
  where
    by : (o : Result TypedPlanView Refusal) → resolved d catalog ≡ o → refuses o ≡ refuses_by_claims o
    by (Ok p) h =
        let is = (plans_resolved_exactly.resolves d catalog p cat formed).0 h in
        let same : p.derives ≡ false = ap (λ (e : Document). e.derives) is.2 ∙ plain in
        ap (λ b. refusal_by b (relation_at p.names.catalog) p.total (directed b (relation_at p.names.catalog) (plan_in p.root))) same
    by (Err e) h = refl

-- of a document that is not accepted if it asks for that, both tables answer the same
pub answers-alike : (catalog : List Relation) (d : Document) → IsCatalog catalog → is_tree_form d.root ≡ true → (d.derives ≡ true → is_accepted catalog d ≡ false) → is_accepted catalog d ≡ is_accepted_by_claims catalog d
answers-alike catalog d cat formed refused = by d.derives refl
  where
    by : (b : Bool) → d.derives ≡ b → is_accepted catalog d ≡ is_accepted_by_claims catalog d
    by true e = refused e ∙ sym (claims-refuse catalog d cat formed (refused e))
    by false e = plainly catalog d cat formed e

pub not-both : (a b : Bool) → (a && b) ≡ false → a ≡ true → b ≡ false
not-both true b h e = h
not-both false b h e = cc
