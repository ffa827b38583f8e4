-- The setup of a run does not depend on the functions of a plan.
use Rattle.std.proofs.Common.{◌≡◌, ℕ, nat_le, List, Result, Ok, refl, sym, ap, ◌∙◌}
use Rattle.std.specs.Prelude.{⊤}
use Rattle.vx_rows_values.specs.Limits.{max_morsel_rows, max_packet_rows, max_slack, max_workers}
use Rattle.vx_rows_values.specs.Values.{Name}
use Rattle.vx_catalog_relations.specs.Walk.{◌>>=◌}
use Rattle.vx_catalog.specs.Database.{Database}
use Rattle.vx_plan_nodes.specs.Names.{TypedPlanView}
use Rattle.vx_plan_nodes.specs.Outline.{plan_in}
use Rattle.vx_plan_nodes.specs.Plan.{Plan}
use Rattle.vx_plan_nodes.specs.Under.{Functions, under, typed_plan_under}
use Rattle.vx_plan_nodes.specs.Workers.{worker_group_at}
use Rattle.vx_plan_nodes.proofs.UnderFacts.{nodes-stay}
use Rattle.vx_plan_nodes.proofs.UnderErased.{functions-go-along}
use Rattle.vx_exec_runs.specs.Runs.{HasSizes}
use Rattle.vx_exec_runs.specs.Setup.{SetupRefusal, size_missing, size_out_of_range, bad_packet, bad_morsel, bad_slack, too_many_workers, tested, no_name, few_workers, sizes_set}
use Rattle.vx_exec_runs.specs.Sizes.{Sizes}
use Rattle.vx_exec_runs.specs.UnderLaws.{SetupStays}
use Rattle.vx_exec_setup.specs.Setup.{SetupView, is_within, worker_groups_named, first_missing, first_out_of_range}

-- the sizes that a setup comes to where the plan has not too many workers, or the refusal
sizes-where : SetupView → List Name → Result ⊤ SetupRefusal → Result Sizes SetupRefusal
sizes-where s names few =
    no_name size_missing (first_missing s.sizes names) >>= λ _.
    no_name size_out_of_range (first_out_of_range s.sizes names) >>= λ _.
    tested (is_within max_packet_rows s.packet) bad_packet >>= λ _.
    tested (is_within max_morsel_rows s.morsel) bad_morsel >>= λ _.
    tested (is_within max_slack s.slack) bad_slack >>= λ _.
    few >>= λ _.
    Ok (record { worker_groups = worker_groups_named s.sizes names; packet = s.packet; morsel = s.morsel })

sizes-are : (s : SetupView) (names : List Name) (p : Plan) → sizes_set s names p ≡ sizes-where s names (few_workers (worker_groups_named s.sizes names) p)
unfolding sizes_set sizes-where
sizes-are s names p = refl

few-under : (given : Functions) (groups : List ℕ) (p : Plan) → few_workers groups (under given p) ≡ few_workers groups p
few-under given groups p = ap (λ k. tested (nat_le k max_workers) (too_many_workers k)) (nodes-stay.crews given (worker_group_at groups) p)

sizes-under : (given : Functions) (s : SetupView) (names : List Name) (p : Plan) → sizes_set s names (under given p) ≡ sizes_set s names p
sizes-under given s names p =
    sizes-are s names (under given p) ∙ (ap (sizes-where s names) (few-under given (worker_groups_named s.sizes names) p) ∙ sym (sizes-are s names p))

set-under : (given : Functions) (p : TypedPlanView) (db : Database) (setup : SetupView) (s : Sizes) → HasSizes p db setup s → HasSizes (typed_plan_under given p) db setup s
set-under given p db setup s h = record {
  same = h.same;
  sizes = ap (sizes_set setup p.names.sizes) (functions-go-along.with_names given p.root) ∙ (sizes-under given setup p.names.sizes (plan_in p.root) ∙ h.sizes);
}

pub setup-stays : SetupStays
setup-stays = record { sizes = sizes-under; set = set-under }
