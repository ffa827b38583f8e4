use Rattle.std.proofs.Common.{◌≡◌, ◌∙◌, ◌++◌, List, ℕ, sym, ap}
use Rattle.vx_plan_nodes.specs.Describe.{Copying}
use Rattle.vx_plan_nodes.specs.DescribeView.{copying_of}
use Rattle.vx_check_rules.specs.Behaviour.{front_places}
use Rattle.vx_check_rules.specs.Seen.{columns_seen}
use Rattle.vx_check_rules.proofs.PlaceFacts.{all-placed}
use Rattle.vx_check_rules.proofs.carried.routed_at.Goals as goal

pub returns : goal.returns
returns c =
    let k : Copying = copying_of c.args.copying in
    let cols : List ℕ = columns_seen c.args.columns in
    let items : c.put_places.new.found.items ≡ front_places k cols = c.in_ok-put_places.ensures ∙ ap (λ xs. xs ++ front_places k cols) c.new-found.ensures.items in
    rw (all-placed k cols (sym c.have_places.ensures ∙ c.if-not-have_places.false)) (rw items at c.routed_part.ensures)
