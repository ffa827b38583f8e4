use Rattle.std.proofs.Common.{◌≡◌, ◌∙◌, ◌++◌, ◌∷◌, [], false, not, ap, map, ℕ, Vec, Global, rules}
use Rattle.std.proofs.lemmas.Fn.{filter_same}
use Rattle.std.proofs.lemmas.List.{map-append}
use Rattle.vx_check_rules.specs.Rules.{within, covers}
use Rattle.vx_check_options.proofs.FoundFacts.{key-added, key-there, lists-filtered}
use Rattle.vx_check_options.proofs.choices.add_key.Goals as goal

pub returns : goal.returns
returns c =
    let items = λ (v : Vec ℕ Global). v.items in
    let key = c.args.key.items in
    let kept = filter_same _ (λ (v : Vec ℕ Global). not (within key v.items)) _ (λ x b f' k. search rules) _ _ c.retain.ensures.filtered in
    let no : covers (map items c.args.found.now.items) key ≡ false = search rules in
    ap (map items) c.in_ok-push.ensures.items ∙ map-append items c.retain.new.self.items (c.args.key ∷ [])
    ∙ ap (λ xs. map items xs ++ key ∷ []) kept ∙ ap (λ xs. xs ++ key ∷ []) (lists-filtered (λ other. not (within key other)) c.args.found.now.items) ∙ key-added (map items c.args.found.now.items) key no

pub returns-then-are_covered : goal.returns-then-are_covered
returns-then-are_covered c = key-there (map (λ (v : Vec ℕ Global). v.items) c.args.found.now.items) c.args.key.items (search rules)
