-- The counts of workers, one worker after the other.
use Rattle.std.proofs.Common.{◌≡◌, ℕ, ◌+◌, ◌<◌, List, [], ◌∷◌, ◌++◌, length, map, take, get_or, sym, ap, ap₂, ◌∙◌}
use Rattle.std.proofs.lemmas.List.{map_push, take_more}
use Rattle.vx_plan_nodes.specs.declared.functions.PlanFunctions.{Ghosts}
use Rattle.vx_worker.specs.Worker.{tree_of, counts_of as step_counts}
use Rattle.vx_worker.specs.declared.worker.Worker.{Worker}
use Rattle.vx_exec_operators.specs.declared.destination.Destination.{Destination}
use Rattle.vx_exec_operators.specs.declared.operator.Operator.{Operator}
use Rattle.vx_exec_setup.specs.declared.counts.WorkerCounts.{WorkerCounts}
use Rattle.vx_exec.specs.Counts.{lines_of, IsCountOf, AreCountsOf}

-- with one worker more
pub counted-push : {F : Type 0} {given : Ghosts F} (ws : List (Worker (Operator F given) Destination)) (k : ℕ) (w : Worker (Operator F given) Destination) (old new : List WorkerCounts) (c : WorkerCounts)
    → k < length ws → w ≡ get_or ws k w → AreCountsOf (take k ws) old → IsCountOf w c → new ≡ old ++ c ∷ [] → AreCountsOf (take (k + 1) ws) new
counted-push {F} {given} ws k w old new c within is so_far counted e =
    let more : take (k + 1) ws ≡ take k ws ++ w ∷ [] = take_more ws k w within ∙ ap (λ z. take k ws ++ z ∷ []) (sym is) in
    let front = take k ws in
    record {
      steps = ap (map (λ (x : WorkerCounts). x.steps)) e ∙ map_push (λ (x : WorkerCounts). x.steps) old c ∙ ap₂ (λ xs x. xs ++ x ∷ []) so_far.steps counted.steps
          ∙ sym (ap (map step_counts) more ∙ map_push step_counts front w);
      nodes = ap (map (λ (x : WorkerCounts). x.nodes.items)) e ∙ map_push (λ (x : WorkerCounts). x.nodes.items) old c ∙ ap₂ (λ xs x. xs ++ x ∷ []) so_far.nodes counted.nodes
          ∙ sym (ap (map (λ (v : Worker (Operator F given) Destination). lines_of (tree_of v))) more ∙ map_push (λ (v : Worker (Operator F given) Destination). lines_of (tree_of v)) front w);
    }
