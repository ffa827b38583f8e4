-- What was read of a text, what is answered of it, and what its loading gives.
use Rattle.std.proofs.Common.{◌≡◌, ℕ, ◌<◌, ◌≤◌, List, [], Option, Some, None, true, Result, Ok, Err, refl, sym, ◌∙◌, length, lt-ltb, le-ltb, inl, inr}
use Rattle.std.specs.Prelude.{IfSome, option_map}
use Rattle.csv.specs.Reading.{strip_bom}
use Rattle.csv.specs.declared.parser.State.{State}
use Rattle.csv.specs.declared.parser.State.TheVariants as st
use Rattle.vx_rows_values.specs.Values.{Row}
use Rattle.vx_rows_values.specs.declared.value.ColType.{ColType}
use Rattle.vx_catalog_relations.specs.Relation.{Relation}
use Rattle.vx_catalog_relations.specs.Walk.{◌>>=◌}
use Rattle.vx_catalog.specs.Records.{records_left, Begins}
use Rattle.vx_catalog.specs.Counting.{Settles}
use Rattle.vx_catalog.specs.declared.fault.LoadFault.{LoadFault}
use Rattle.vx_catalog.specs.declared.fault.LoadFault.TheVariants as fault
use Rattle.vx_catalog.specs.Loading.{Fails, Gives, is_header, rows_onto, under_header, records_of, tested, load_of}
use Rattle.vx_catalog.proofs.RowFacts.{fails_along}
use Rattle.vx_rows_values.specs.Limits.{max_text_bytes}

-- the rows under a header are those of the records behind it
pub under_reported : {X : Type 0} (look : X → List Row) (result : Result X LoadFault) (names : List (List ℕ)) (types : List ColType) (fields : List (List ℕ)) (all left : Option (List (List (List ℕ))))
    → Begins fields all left → is_header names fields ≡ true → IfSome left (λ records. Gives look result (rows_onto types [] records))
    → IfSome all (λ records. Gives look result (under_header names types records))
under_reported look result names types fields None left b is h = tt
under_reported look result names types fields (Some all) None b is h = absurd b
under_reported look result names types fields (Some all) (Some left) b is h = rw (b, is) h

-- what is read of all records of a text is read under its header
of_text : {X : Type 0} (look : X → List Row) (read : Result X LoadFault) (names : List (List ℕ)) (types : List ColType) (bytes : List ℕ) (rest : Option (List (List (List ℕ))))
    → rest ≡ option_map (records_left st.StartRecord) (option_map strip_bom (Some bytes)) → IfSome rest (λ records. Gives look read (under_header names types records))
    → Gives look read (under_header names types (records_of bytes))
of_text look read names types bytes rest e h = rw e at h

small_load : (relation : Relation) (bytes : List ℕ) → length bytes ≤ max_text_bytes → load_of relation bytes ≡ (under_header relation.names relation.types (records_of bytes) >>= tested relation)
unfolding load_of
small_load relation bytes small = rw (le-ltb max_text_bytes (length bytes) small) refl

large_load : (relation : Relation) (bytes : List ℕ) → max_text_bytes < length bytes → load_of relation bytes ≡ Err fault.TooLarge
unfolding load_of
large_load relation bytes large = rw (lt-ltb max_text_bytes (length bytes) large) refl

start_rest : (state : State) (source known text : Option (List ℕ)) → state ≡ st.StartRecord → source ≡ option_map strip_bom known → known ≡ text
    → option_map (records_left state) source ≡ option_map (records_left st.StartRecord) (option_map strip_bom text)
start_rest state source known text e f h = rw (e, f, h) refl

-- a refusal of a text is that of its loading
pub refused_reported : {X : Type 0} (look : X → List Row) (text : Option (List ℕ)) (relation : Relation) (read : Result X LoadFault) (e : LoadFault) (state : State) (source known : Option (List ℕ))
    → state ≡ st.StartRecord → source ≡ option_map strip_bom known → known ≡ text → IfSome (option_map (records_left state) source) (λ records. Gives look read (under_header relation.names relation.types records))
    → Settles text read (Err e) → IfSome text (λ bytes. Fails e (load_of relation bytes))
refused_reported look None relation read e state source known at_start all same reported s = tt
refused_reported look (Some bytes) relation read e state source known at_start all same reported (inl h) = let k : e ≡ fault.NoMemory = cc in rw k tt
refused_reported look (Some bytes) relation read e state source known at_start all same reported (inr (inl h)) = let g = h.0 in let k : e ≡ fault.TooLarge = cc in rw k (large_load relation bytes h.1)
refused_reported look (Some bytes) relation read e state source known at_start all same reported (inr (inr h)) =
    let bad = of_text look (Err e) relation.names relation.types bytes (option_map (records_left state) source) (start_rest state source known (Some bytes) at_start all same) (rw (sym h.0) at reported) in
    fails_along e (under_header relation.names relation.types (records_of bytes)) (load_of relation bytes) (λ f g. small_load relation bytes h.1 ∙ rw g refl) bad

-- what is answered of the rows of a text is what its loading gives
pub tested_reported : {X : Type 0} (look : X → List Row) (text : Option (List ℕ)) (relation : Relation) (read result : Result X LoadFault) (rows : X) (state : State) (source known : Option (List ℕ))
    → state ≡ st.StartRecord → source ≡ option_map strip_bom known → known ≡ text → IfSome (option_map (records_left state) source) (λ records. Gives look read (under_header relation.names relation.types records))
    → Settles text read (Ok rows) → Gives look result (tested relation (look rows)) → IfSome text (λ bytes. Gives look result (load_of relation bytes))
tested_reported look None relation read result rows state source known at_start all same reported s h = tt
tested_reported look (Some bytes) relation read result rows state source known at_start all same reported (inl s) h = cc
tested_reported look (Some bytes) relation read result rows state source known at_start all same reported (inr (inl s)) h = let bad = s.0 in cc
tested_reported look (Some bytes) relation read result rows state source known at_start all same reported (inr (inr s)) h =
    let whole : under_header relation.names relation.types (records_of bytes) ≡ Ok (look rows) = of_text look (Ok rows) relation.names relation.types bytes (option_map (records_left state) source) (start_rest state source known (Some bytes) at_start all same) (rw (sym s.0) at reported) in
    rw (small_load relation bytes s.1, whole) h
