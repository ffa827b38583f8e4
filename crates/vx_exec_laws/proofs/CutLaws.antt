-- The laws of rows given so far, for every setting.
use Rattle.std.proofs.Common.{◌≡◌, inl, true, refl}
use Rattle.vx_plan_nodes.specs.Plan.{Plan}
use Rattle.vx_plan_nodes.specs.Types.{well_formed}
use Rattle.vx_plan_nodes.specs.Numbering.{is_fit}
use Rattle.vx_plan_facts.specs.RowFacts.{all_inputs_fit}
use Rattle.vx_check_rules.specs.Derived.{allowed_derived}
use Rattle.vx_worker.specs.Fragment.{IsSet, RunModel}
use Rattle.vx_exec_laws.specs.CutRows.{RowsSoFarAgree, OneWorkerAgrees}
use Rattle.vx_exec_laws.proofs.Settings.{set-given}
use Rattle.vx_exec_laws.proofs.CutFacts.{rows-so-far-meet}
use Rattle.vx_exec_laws.proofs.CutPlaces.{Meeting, Fine, row-meets}
use Rattle.vx_exec_laws.proofs.CutAgree.{rows-agree}

pub meeting : (S : RunModel) → IsSet S → Meeting S
meeting S set p fit inputs ts run x = rows-so-far-meet S set p fit inputs ts run x.place x.below x.reads x.begins x.out x.abides

pub fine : (S : RunModel) (p : Plan) → is_fit S.relation_of p ≡ true → well_formed S.catalog p ≡ true → all_inputs_fit S.catalog p ≡ true → allowed_derived S.catalog p ≡ true → Fine S p
fine S p fit wf inputs ok = record { fit = fit; formed = wf; inputs = inputs; allowed = ok }

pub rows-so-far-agree : RowsSoFarAgree
rows-so-far-agree S set p fit wf inputs ok ts run x y alike a b oa ob =
    rows-agree S (set-given S set) set.some_morsel (meeting S set) p (fine S p fit wf inputs ok) ts run x y alike a b oa ob

pub one-worker-agrees : OneWorkerAgrees
one-worker-agrees S set p fit wf inputs ok ts run x = record {
  equal = λ row o c d l m t. (row-meets S (set-given S set) (meeting S set) p (fine S p fit wf inputs ok) ts run x row o).alike c d t;
  determined = λ a b oa ob s g. (rows-so-far-agree S set p fit wf inputs ok ts run x x (inl refl) a b oa ob).determined s g;
}
