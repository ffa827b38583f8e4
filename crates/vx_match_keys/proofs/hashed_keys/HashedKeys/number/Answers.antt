use Rattle.std.proofs.Common.{rules, map, ap, ◌∙◌, w64}
use Rattle.std.proofs.lemmas.Int.{to_z-of_z}
use Rattle.std.specs.List.{position_or_len}
use Rattle.std.specs.Ordering.{int_eq}
use Rattle.indexmap.specs.IndexSet.{insert_key}
use Rattle.vx_rows_values.specs.Values.{row_eq}
use Rattle.vx_match_keys.specs.Columns.{number_key}
use Rattle.vx_match_keys.proofs.MadeFacts.{number-of, insert-made, numbers-same}
use Rattle.vx_match_keys.proofs.hashed_keys.HashedKeys.number.Goals as goal

pub returns-clause-number : goal.returns-clause-number
returns-clause-number c =
    let same = to_z-of_z w64 c.args.key (search rules) in
    c.in_ok-number.ensures.index ∙ (ap (λ z. position_or_len (int_eq z) c.self.inside.set.keys) same ∙ number-of c.args.key c.self.inside.set.keys c.args.self.now c.self.view_is)

pub returns-clause-keys : goal.returns-clause-keys
returns-clause-keys c =
    let key = number_key c.args.key in
    let same = to_z-of_z w64 c.args.key (search rules) in
    ap (map number_key) c.in_ok-number.ensures.keys
    ∙ (ap (λ z. map number_key (insert_key int_eq c.self.inside.set.keys z)) same
    ∙ (insert-made number_key int_eq numbers-same c.self.inside.set.keys c.args.key ∙ ap (λ ks. insert_key row_eq ks key) c.self.view_is))
