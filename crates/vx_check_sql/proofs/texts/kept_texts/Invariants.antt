use Rattle.std.proofs.Common.{◌≡◌, map, take, string_bytes}
use Rattle.vx_catalog_relations.specs.Naming.{name_at}
use Rattle.vx_check_sql.proofs.texts.kept_texts.Given as goal

abbrev pub invariant-loop-column : goal.invariant-loop-column
invariant-loop-column l =
    map string_bytes l.list.items ≡ map (name_at (map string_bytes l.texts)) (map (λ k. k.column) (take l.column-index l.kept))
