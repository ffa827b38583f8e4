-- Why the files of a folder have no rows of a relation.
use Rattle.std.proofs.Common.{◌≡◌, ℕ, List, Bool, true, false, Option, Result, Err, refl, subst, ap}
use Rattle.std.specs.Prelude.{IfSome, IfErr, IsErrOf}
use Rattle.vx_catalog_relations.specs.Relation.{Relation}
use Rattle.vx_catalog.specs.Loading.{load_of, Fails}
use Rattle.vx_catalog.specs.declared.fault.LoadFault.{LoadFault}
use Rattle.vx_catalog.specs.declared.fault.LoadFault.TheVariants as load
use Rattle.volcano_refusals.specs.declared.refusal.Refusal.TheVariants as refusal
use Rattle.vx_catalog_bytes.specs.Stored.{Stored, silent, absent, present, IfBytes, MayBePresent, OpensAs}
use Rattle.vx_catalog.specs.Folder.{path_in}
use Rattle.volcano_tables.specs.Folder.{leads_out, LacksAt, for_reading, for_text}

-- what failed was not reliable
pub may_fail : (reliable failed : Bool) → (reliable ≡ true → failed ≡ false) → failed ≡ true → reliable ≡ false
may_fail true failed never h = let whole : failed ≡ false = never refl in cc
may_fail false failed never h = refl

fault_is : {T : Type 0} (fault : LoadFault) → IsErrOf {T = T} (Err fault) load.ReadFailed → fault ≡ load.ReadFailed
fault_is {T} fault h = let P : Result T LoadFault → Type 0 = λ r. IfErr r (λ e. fault ≡ e) in subst P h refl

-- what holds of the bytes of a reader of a file holds of those of the file
pub opened_bytes : (s : Stored) (known : Option (List ℕ)) (P : List ℕ → Type 0) → OpensAs s known → IfSome known P → IfBytes s P
opened_bytes silent known P opened h = tt
opened_bytes absent known P opened h = opened
opened_bytes (present xs) known P opened h = let Q : Option (List ℕ) → Type 0 = λ o. IfSome o P in subst Q opened h

-- a file that opened may be there
pub opened_may : (s : Stored) (known : Option (List ℕ)) → OpensAs s known → MayBePresent s
opened_may silent known opened = tt
opened_may absent known opened = opened
opened_may (present xs) known opened = tt

is_fault : {T : Type 0} (fault : LoadFault) → fault ≡ load.ReadFailed → IsErrOf {T = T} (Err fault) load.ReadFailed
is_fault fault h = ap Err h

-- a file that failed while it was read, or whose text does not hold the rows
lacks_by : {T : Type 0} (failed : Bool) (known : Option (List ℕ)) (files : List ℕ → Stored) (reliable : List ℕ → Bool) (folder : List ℕ) (relation : Relation) (fault : LoadFault) → leads_out relation.name ≡ false
    → OpensAs (files (path_in folder relation.name)) known → (failed ≡ true → reliable (path_in folder relation.name) ≡ false) → (failed ≡ false → IfSome known (λ bytes. Fails fault (load_of relation bytes)))
    → (IsErrOf {T = T} (Err fault) load.ReadFailed → failed ≡ true) → (failed ≡ true → IsErrOf {T = T} (Err fault) load.ReadFailed) → LacksAt files reliable folder relation (refusal.Load fault)
lacks_by true known files reliable folder relation fault inside there may reported read broken = for_reading (ap refusal.Load (fault_is fault (broken refl))) inside (may refl) (opened_may (files (path_in folder relation.name)) known there)
lacks_by false known files reliable folder relation fault inside there may reported read broken =
    let P : List ℕ → Type 0 = λ bytes. Fails fault (load_of relation bytes) in
    for_text fault refl (λ h. let bad = read (is_fault fault h) in cc) inside (opened_bytes (files (path_in folder relation.name)) known P there (reported refl))

pub lacks_read : {T : Type 0} (failed : Bool) (known : Option (List ℕ)) (files : List ℕ → Stored) (reliable : List ℕ → Bool) (folder : List ℕ) (relation : Relation) (fault : LoadFault) → leads_out relation.name ≡ false
    → OpensAs (files (path_in folder relation.name)) known → (reliable (path_in folder relation.name) ≡ true → failed ≡ false) → (failed ≡ false → IfSome known (λ bytes. Fails fault (load_of relation bytes)))
    → (IsErrOf {T = T} (Err fault) load.ReadFailed → failed ≡ true) → (failed ≡ true → IsErrOf {T = T} (Err fault) load.ReadFailed) → LacksAt files reliable folder relation (refusal.Load fault)
lacks_read failed known files reliable folder relation fault inside there never reported read broken =
    lacks_by failed known files reliable folder relation fault inside there (may_fail (reliable (path_in folder relation.name)) failed never) reported read broken
