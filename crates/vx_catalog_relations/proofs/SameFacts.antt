-- What was read, seen as it is.
use Rattle.std.proofs.Common.{◌≡◌, List, map, None, refl}
use Rattle.std.proofs.lemmas.List.{map-id}
use Rattle.serde_json.specs.Data.{Data}
use Rattle.vx_catalog_json.specs.declared.misread.Misread.{Misread}
use Rattle.vx_catalog_json.specs.declared.misread.Misread.TheVariants.{NotOfForm, NoMemory}
use Rattle.vx_catalog_relations.specs.Form.{catalog_in}
use Rattle.vx_catalog_relations.specs.Naming.{catalog_of, Fails, fault_of}

pub same_list : {A : Type 0} (xs : List A) → map (λ (x : A). x) xs ≡ xs
same_list xs = map-id xs

-- a value that is not read as a catalog is refused
pub misread_fails : (m : Misread) (d : Data) → (m ≡ NotOfForm → catalog_in d ≡ None) → Fails (fault_of m) (catalog_of d)
unfolding catalog_of
misread_fails NotOfForm d h = rw (h refl) refl
misread_fails NoMemory d h = tt
