-- A typed merge join has a direction for each of its pairs.
use Rattle.std.proofs.Common.{◌≡◌, ℕ, ◌==◌, Bool, true, ◌&&◌, List, length, eqb-true}
use Rattle.std.specs.List.{list_all}
use Rattle.vx_rows_values.specs.Lists.{is_some_list}
use Rattle.vx_rows_values.specs.declared.value.ColType.{ColType}
use Rattle.vx_rows_values.proofs.Booleans.{and-right}
use Rattle.vx_plan_nodes.specs.Plan.{join, by_merging}
use Rattle.vx_plan_nodes.specs.Typed.{is_pair, are_distinct_pairs, is_binary}

pub join-directions : (ts us : List ColType) (falls : List Bool) (on : List (ℕ × ℕ)) → is_binary ts us (join (by_merging falls) on) ≡ true → length falls ≡ length on
join-directions ts us falls on h =
    let many : Bool = length falls == length on in
    eqb-true (length falls) (length on)
    (and-right (are_distinct_pairs on) many
    (and-right (list_all (is_pair ts us) on) (are_distinct_pairs on && many)
    (and-right (is_some_list on) (list_all (is_pair ts us) on && (are_distinct_pairs on && many)) h)))
