use Rattle.std.proofs.Common.{◌∙◌, ◌++◌, ◌∷◌, [], map, ℕ, List, Vec, Global, ap, sym}
use Rattle.std.proofs.lemmas.List.{map-append}
use Rattle.vx_plan_nodes.specs.Phases.{first_columns}
use Rattle.vx_plan_nodes.specs.DescribeView.{copying_of}
use Rattle.vx_check_rules.specs.KeyedView.{keys_seen}
use Rattle.vx_check_rules.specs.Seen.{columns_seen}
use Rattle.vx_check_options.specs.FoundKeys.{choices_of}
use Rattle.vx_check_shown.proofs.Gathering.{within-columns, gathers-no-copy, gathers-both}
use Rattle.vx_check_shown.proofs.candidates.Search.put_both.Goals as goal

pub returns-then-are_covered : goal.returns-then-are_covered
returns-then-are_covered c =
    let items = map (λ (v : Vec ℕ Global). v.items) in
    let self = c.args.self.now in
    let seconds : List (List ℕ) = choices_of (copying_of self.second.copying) (first_columns self.width) (columns_seen c.args.other) in
    let are = c.in_ok-put_choices-2.ensures ∙ ap (λ cs. cs ++ seconds) (c.in_ok-put_choices.ensures ∙ ap (λ vs. items vs ++ choices_of (copying_of self.first.copying) (first_columns self.width) (columns_seen c.args.key)) c.new-choices.ensures.items) in
    let empty = rw c.as_slice.ensures.value at c.are_covered.ensures in
    gathers-no-copy (copying_of self.first.copying) (copying_of self.second.copying) (keys_seen self.first.keys) (keys_seen self.second.keys) self.width (columns_seen c.args.key) (columns_seen c.args.other) _ are
    (within-columns self.width) (items c.args.found.now.items) (sym empty ∙ c.if-are_covered.true)

pub returns : goal.returns
returns c =
    let items = map (λ (v : Vec ℕ Global). v.items) in
    let self = c.args.self.now in
    let seconds : List (List ℕ) = choices_of (copying_of self.second.copying) (first_columns self.width) (columns_seen c.args.other) in
    let are = c.in_ok-put_choices-2.ensures ∙ ap (λ cs. cs ++ seconds) (c.in_ok-put_choices.ensures ∙ ap (λ vs. items vs ++ choices_of (copying_of self.first.copying) (first_columns self.width) (columns_seen c.args.key)) c.new-choices.ensures.items) in
    let empty = rw c.as_slice.ensures.value at c.are_covered.ensures in
    let firsts = rw c.as_slice-2.ensures.value at c.in_ok-firsts_of.ensures in
    let old : List (List ℕ) = items c.args.found.now.items in
    gathers-both (copying_of self.first.copying) (copying_of self.second.copying) (keys_seen self.first.keys) (keys_seen self.second.keys) self.width (columns_seen c.args.key) (columns_seen c.args.other) _ are
    (within-columns self.width) old _ (sym empty ∙ c.if-are_covered.false)
    (ap items c.in_ok-push.ensures.items ∙ map-append (λ (v : Vec ℕ Global). v.items) c.args.found.now.items (c.in_ok-firsts_of.field-0 ∷ []) ∙ ap (λ xs. old ++ xs ∷ []) firsts)
