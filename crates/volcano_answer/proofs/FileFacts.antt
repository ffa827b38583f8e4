-- Bytes that are known or not, from files and standard input.
use Rattle.std.proofs.Common.{◌≡◌, ℕ, List, [], Vec, Global, Bool, true, false, Option, Some, None, Result, Ok, Err, refl, sym, subst, inl, inr}
use Rattle.std.specs.Prelude.{IfOk}
use Rattle.vx_catalog_bytes.specs.Ports.{IsAll, IsOver, ExplainsAll}
use Rattle.vx_catalog_bytes.specs.declared.bytes.ReadFault.TheVariants as fault
use Rattle.vx_plan_json.specs.Document.{Document}
use Rattle.vx_plan_json.specs.Fault as plan
use Rattle.vx_plan_json.specs.Reading.{document_of_text}
use Rattle.vx_plan_json.proofs.NodeFacts.{fails_then}
use Rattle.vx_check_directions.specs.Planned.{planned}
use Rattle.volcano_arguments.specs.Asked.{Paths}
use Rattle.volcano_refusals.specs.declared.refusal.Refusal.{Refusal}
use Rattle.vx_catalog_bytes.specs.Stored.{Stored, silent, absent, present, stored_by, IfBytes, OpensAs}
use Rattle.volcano_tables.proofs.FolderFacts.{may_fail}
use Rattle.volcano_answer.specs.Answer.{RefusedWith}
use Rattle.volcano_answer.specs.Planning.{plan_from, for_catalog, for_plan}
use Rattle.volcano_answer.specs.Files.{is_input, known_at, left_of, input_after, plan_at, IsUnreadable, IsInputRefusal, input_memory, for_input, AreNotRead, no_catalog_bytes, no_catalog, no_plan_bytes, no_plan, IsFilesRefusal, for_catalog_bytes, for_plan_bytes, for_contents}
use Rattle.vx_rows_values.specs.Limits.{max_text_bytes}

-- the bytes are all that there are, as far as is known
abbrev pub AreAll : Stored → List ℕ → Type 0
AreAll known bytes = IfBytes known (λ xs. xs ≡ bytes)

-- all bytes of a reader of a file are those of the file
pub file_all : (file : Stored) (known : Option (List ℕ)) (bytes : List ℕ) → OpensAs file known → IsAll known bytes → AreAll file bytes
file_all silent known bytes opened h = tt
file_all absent known bytes opened h = opened
file_all (present xs) known bytes opened h = let P : Option (List ℕ) → Type 0 = λ o. IsAll o bytes in subst P opened h

-- and all of standard input are those that it had left
pub input_all : {E : Type 0} (r : Result (Vec ℕ Global) E) (known : Option (List ℕ)) → IfOk r (λ v. IsAll known v.items) → IfOk r (λ v. AreAll (stored_by known) v.items)
input_all (Ok v) None h = tt
input_all (Ok v) (Some xs) h = h
input_all (Err e) known h = tt

-- what holds of all bytes that were read holds of those that are known
pub known_all : (P : List ℕ → Type 0) (known : Stored) (bytes : List ℕ) → AreAll known bytes → P bytes → IfBytes known P
known_all P silent bytes h p = tt
known_all P absent bytes h p = h
known_all P (present xs) bytes h p = subst P (sym h) p

-- what standard input has left after a path was read, as it is then and as it was before
pub same_left : (first was_read : Bool) (before after : Option (List ℕ)) → was_read ≡ first → (first ≡ false → after ≡ before) → left_of was_read after ≡ left_of first before
same_left true was_read before after is kept = let P : Bool → Type 0 = λ b. left_of b after ≡ Some [] in subst P (sym is) refl
same_left false was_read before after is kept = let P : Bool → Type 0 = λ b. left_of b after ≡ before in subst P (sym is) (kept refl)

-- what holds of the bytes under a path that is read after another
pub known_next : (P : List ℕ → Type 0) (files : List ℕ → Stored) (before after : Option (List ℕ)) (first second : List ℕ) (was_read : Bool) (bytes : List ℕ) → was_read ≡ is_input first
    → (is_input first ≡ false → after ≡ before) → AreAll (known_at files (left_of was_read after) second) bytes → P bytes → IfBytes (known_at files (input_after before first) second) P
known_next P files before after first second was_read bytes is kept all h =
    let U : Option (List ℕ) → Type 0 = λ o. IfBytes (known_at files o second) P in
    subst U (same_left (is_input first) was_read before after is kept) (known_all P (known_at files (left_of was_read after) second) bytes all h)

-- what follows of the bytes from what is known of them
known_weaker : (known : Stored) (P Q : List ℕ → Type 0) → ((bytes : List ℕ) → P bytes → Q bytes) → IfBytes known P → IfBytes known Q
known_weaker silent P Q f h = tt
known_weaker absent P Q f h = h
known_weaker (present xs) P Q f h = f xs h

-- what holds of the document that was read
pub known_as : (files : List ℕ → Stored) (input : Option (List ℕ)) (paths : Paths) (d : Document) (P : Result Document plan.Refusal → Type 0) → plan_at files input paths (λ r. r ≡ Ok d) → P (Ok d) → plan_at files input paths P
known_as files input paths d P read h =
    known_weaker (known_at files (input_after input paths.catalog) paths.plan) (λ bytes. document_of_text bytes ≡ Ok d) (λ bytes. P (document_of_text bytes)) (λ bytes e. subst P (sym e) h) read

-- there is no plan where the catalog or the plan was not read
pub not_read_refused : (files : List ℕ → Stored) (reliable : List ℕ → Bool) (input : Option (List ℕ)) (failed : Bool) (paths : Paths) (e : Refusal) → AreNotRead files reliable input failed paths e → IsFilesRefusal files reliable input failed paths e
not_read_refused files reliable input failed paths e (no_catalog_bytes h) = for_catalog_bytes h
not_read_refused files reliable input failed paths e (no_catalog fault is h) = for_contents (for_catalog fault is h)
not_read_refused files reliable input failed paths e (no_plan_bytes relations declares h) = for_plan_bytes relations declares h
not_read_refused files reliable input failed paths e (no_plan relations fault is declares h) =
    for_contents (for_plan relations fault is declares
    (known_weaker (known_at files (input_after input paths.catalog) paths.plan) (λ bytes. plan.Fails fault (document_of_text bytes)) (λ bytes. plan.Fails fault (plan_from relations (document_of_text bytes)))
    (λ bytes k. fails_then fault (document_of_text bytes) (λ d. planned d relations) k) h))

-- a file that failed while it was read
pub unreadable_broken : (reliable failed : Bool) (known : Option (List ℕ)) (file : Stored) → (reliable ≡ true → failed ≡ false) → ExplainsAll max_text_bytes known failed fault.Broken → IsUnreadable file reliable
unreadable_broken reliable failed known file never h = inr (inl (may_fail reliable failed never h))

-- a file that is too long
pub unreadable_long : (file : Stored) (known : Option (List ℕ)) (failed reliable : Bool) → OpensAs file known → ExplainsAll max_text_bytes known failed fault.TooLarge → IsUnreadable file reliable
unreadable_long silent known failed reliable opened h = inl tt
unreadable_long absent known failed reliable opened h = absurd opened
unreadable_long (present xs) known failed reliable opened h = let P : Option (List ℕ) → Type 0 = λ o. IsOver max_text_bytes o in inr (inr (subst P opened h.0))

-- input that was not read is refused for that
pub input_refused : (known : Option (List ℕ)) (failed : Bool) (e : Refusal) → IsInputRefusal known failed e → RefusedWith known failed e
input_refused known failed e (input_memory is) = let P : Refusal → Type 0 = λ r. RefusedWith known failed r in subst P (sym is) tt
input_refused known failed e (for_input is h) = let P : Refusal → Type 0 = λ r. RefusedWith known failed r in subst P (sym is) h
