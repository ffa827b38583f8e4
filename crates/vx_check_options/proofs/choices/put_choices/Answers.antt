use Rattle.std.proofs.Common.{◌++◌, ℕ, List, Vec, Global, map, arith}
use Rattle.vx_plan_nodes.specs.Phases.{first_columns}
use Rattle.vx_plan_nodes.specs.DescribeView.{copying_of}
use Rattle.vx_check_rules.specs.Seen.{columns_seen}
use Rattle.vx_check_options.specs.FoundKeys.{choices_of}
use Rattle.vx_check_options.proofs.LoopLists.{whole}
use Rattle.vx_check_options.proofs.choices.put_choices.Goals as goal

pub returns : goal.returns
returns c =
    let all : List ℕ → List (List ℕ) = λ xs. map (λ (v : Vec ℕ Global). v.items) c.args.choices.now.items ++ choices_of (copying_of c.args.copying) (first_columns c.args.width) xs in
    whole all (columns_seen c.args.key) c.loop-place.place _ (omega (arith, c.loop-place-test.false, c.len-place-end.ensures)) c.loop-place.invariant
