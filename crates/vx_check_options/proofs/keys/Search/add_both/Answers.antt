use Rattle.std.proofs.Common.{◌∙◌, ◌++◌, map, ℕ, List, Vec, Global, ap, sym}
use Rattle.std.proofs.lemmas.Result.{on_ok_weaker}
use Rattle.vx_plan_nodes.specs.Phases.{first_columns}
use Rattle.vx_plan_nodes.specs.DescribeView.{copying_of}
use Rattle.vx_check_rules.specs.Seen.{columns_seen}
use Rattle.vx_check_options.specs.FoundKeys.{choices_of}
use Rattle.vx_check_options.proofs.KeyChoices.{finds-no-copy, finds-both}
use Rattle.vx_check_options.proofs.keys.Search.add_both.Goals as goal

pub returns : goal.returns
returns c =
    let items = map (λ (v : Vec ℕ Global). v.items) in
    let seconds : List (List ℕ) = choices_of (copying_of c.args.self.now.second.copying) (first_columns c.args.self.now.width) (columns_seen c.args.other) in
    let are = c.in_ok-put_choices-2.ensures ∙ ap (λ cs. cs ++ seconds) (c.in_ok-put_choices.ensures ∙ ap (λ vs. items vs ++ choices_of (copying_of c.args.self.now.first.copying) (first_columns c.args.self.now.width) (columns_seen c.args.key)) c.new-choices.ensures.items) in
    on_ok_weaker _ (λ f. finds-both (copying_of c.args.self.now.first.copying) (copying_of c.args.self.now.second.copying) (first_columns c.args.self.now.width) (columns_seen c.args.key) (columns_seen c.args.other) _ _ _ (ap items c.as_slice-2.ensures.value ∙ are) f) c.add_choices.ensures

pub returns-then-are_covered : goal.returns-then-are_covered
returns-then-are_covered c =
    let items = map (λ (v : Vec ℕ Global). v.items) in
    let seconds : List (List ℕ) = choices_of (copying_of c.args.self.now.second.copying) (first_columns c.args.self.now.width) (columns_seen c.args.other) in
    let are = c.in_ok-put_choices-2.ensures ∙ ap (λ cs. cs ++ seconds) (c.in_ok-put_choices.ensures ∙ ap (λ vs. items vs ++ choices_of (copying_of c.args.self.now.first.copying) (first_columns c.args.self.now.width) (columns_seen c.args.key)) c.new-choices.ensures.items) in
    let empty = rw c.as_slice.ensures.value at c.are_covered.ensures in
    finds-no-copy (copying_of c.args.self.now.first.copying) (copying_of c.args.self.now.second.copying) (first_columns c.args.self.now.width) (columns_seen c.args.key) (columns_seen c.args.other) _ _ are (sym empty ∙ c.if-are_covered.true)
