-- A part tells itself.
use Rattle.std.proofs.Common.{◌≡◌, List, [], ◌∷◌, true, ◌&&◌, bytes_eq, refl}
use Rattle.std.proofs.lemmas.Slice.Eq.{bytes_eq-Decides}
use Rattle.vx_rows_values.proofs.Booleans.{and-both}
use Rattle.vx_rows_values.specs.Values.{Name}
use Rattle.vx_plan_json.specs.Document.{PartForm, one, any, all, hash_part, range_part}
use Rattle.vx_check_annotate.specs.Telling.{begins, part_tells}

pub name_self : (n : Name) → bytes_eq n n ≡ true
name_self n = (bytes_eq-Decides n n).1 refl

begins_self : (ns : List Name) → begins ns ns ≡ true
begins_self [] = refl
begins_self (n ∷ ns) = and-both (bytes_eq n n) (begins ns ns) (name_self n) (begins_self ns)

pub part_self : (p : PartForm) → part_tells p p ≡ true
part_self one = refl
part_self any = refl
part_self all = refl
part_self (hash_part route cols) = and-both (bytes_eq route route) (begins cols cols && begins cols cols) (name_self route) (and-both (begins cols cols) (begins cols cols) (begins_self cols) (begins_self cols))
part_self (range_part name col) = and-both (bytes_eq name name) (bytes_eq col col) (name_self name) (name_self col)
