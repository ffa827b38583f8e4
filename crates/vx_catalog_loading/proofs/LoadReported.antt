-- What was read of a text, what is answered of it, and what its loading gives.
use Rattle.std.proofs.Common.{◌≡◌, ℕ, ◌<◌, ◌≤◌, List, Option, Some, None, Result, Ok, Err, refl, sym, ◌∙◌, length, lt-ltb, le-ltb, inl, inr}
use Rattle.std.specs.Prelude.{IfSome}
use Rattle.vx_rows_values.specs.Values.{Row}
use Rattle.vx_catalog_relations.specs.Relation.{Relation}
use Rattle.vx_catalog_relations.specs.Walk.{◌>>=◌}
use Rattle.vx_catalog.specs.Counting.{Settles}
use Rattle.vx_catalog.specs.declared.fault.LoadFault.{LoadFault}
use Rattle.vx_catalog.specs.declared.fault.LoadFault.TheVariants as fault
use Rattle.vx_catalog.specs.Loading.{Fails, Gives, tested, load_of}
use Rattle.vx_catalog.proofs.RowFacts.{fails_along}
use Rattle.vx_catalog_loading.specs.Reading.{rows_under}
use Rattle.vx_rows_values.specs.Limits.{max_text_bytes}

small_load : (relation : Relation) (bytes : List ℕ) → length bytes ≤ max_text_bytes → load_of relation bytes ≡ (rows_under relation bytes >>= tested relation)
unfolding load_of
small_load relation bytes small = rw (le-ltb max_text_bytes (length bytes) small) refl

large_load : (relation : Relation) (bytes : List ℕ) → max_text_bytes < length bytes → load_of relation bytes ≡ Err fault.TooLarge
unfolding load_of
large_load relation bytes large = rw (lt-ltb max_text_bytes (length bytes) large) refl

module _ {X : Type 0} (look : X → List Row) (relation : Relation) (read : Result X LoadFault) where
  -- an error in a text is that of its loading
  refused : (bytes : List ℕ) (e : LoadFault) → Gives look read (rows_under relation bytes) → Settles (Some bytes) read (Err e) → Fails e (load_of relation bytes)
  refused bytes e reported (inl h) = let k : e ≡ fault.NoMemory = cc in rw k tt
  refused bytes e reported (inr (inl h)) = let g = h.0 in let k : e ≡ fault.TooLarge = cc in rw k (large_load relation bytes h.1)
  refused bytes e reported (inr (inr h)) =
      let bad : Gives look (Err e) (rows_under relation bytes) = rw (sym h.0) at reported in
      fails_along e (rows_under relation bytes) (load_of relation bytes) (λ f g. small_load relation bytes h.1 ∙ rw g refl) bad

  -- what is answered of the rows of a text is what its loading gives
  answered : (bytes : List ℕ) (result : Result X LoadFault) (rows : X) → Gives look read (rows_under relation bytes) → Settles (Some bytes) read (Ok rows) → Gives look result (tested relation (look rows)) → Gives look result (load_of relation bytes)
  answered bytes result rows reported (inl s) h = cc
  answered bytes result rows reported (inr (inl s)) h = let bad = s.0 in cc
  answered bytes result rows reported (inr (inr s)) h =
      let whole : rows_under relation bytes ≡ Ok (look rows) = rw (sym s.0) at reported in
      rw (small_load relation bytes s.1, whole) h

  pub refused_reported : (text known : Option (List ℕ)) (e : LoadFault) → known ≡ text → IfSome known (λ bytes. Gives look read (rows_under relation bytes))
      → Settles text read (Err e) → IfSome text (λ bytes. Fails e (load_of relation bytes))
  refused_reported None known e is reported s = tt
  refused_reported (Some bytes) known e is reported s = refused bytes e (rw is at reported) s

  pub answered_reported : (text known : Option (List ℕ)) (result : Result X LoadFault) (rows : X) → known ≡ text → IfSome known (λ bytes. Gives look read (rows_under relation bytes))
      → Settles text read (Ok rows) → Gives look result (tested relation (look rows)) → IfSome text (λ bytes. Gives look result (load_of relation bytes))
  answered_reported None known result rows is reported s h = tt
  answered_reported (Some bytes) known result rows is reported s h = answered bytes result rows (rw is at reported) s h
