-- The front of a text that was read, and what is held and left of it.
use Rattle.std.proofs.Common.{◌≡◌, ◌≢◌, ◌⊎◌, inl, inr, ℕ, List, ◌++◌, Option, Some, None, IsSome, Bool, true, false, Result, Err, refl, sym, subst, ◌∙◌}
use Rattle.std.specs.Prelude.{IfSome, option_map, if◌then◌else◌}
use Rattle.std.specs.Fmt.{option_append}
use Rattle.std.specs.Io.KnownBytes.{prepend_known}
use Rattle.std.specs.Io.Chain.{chain_remaining, chain_second}
use Rattle.std.specs.declared.io.traits.Chain.{Chain}
use Rattle.csv.specs.Reading.{strip_bom, source_of, reader_source}
use Rattle.csv.specs.declared.reader.Reader.{Reader}
use Rattle.vx_rows_values.specs.Values.{Row}
use Rattle.vx_catalog_relations.specs.Relation.{Relation}
use Rattle.vx_catalog.specs.declared.fault.LoadFault.{LoadFault}
use Rattle.vx_catalog.specs.declared.fault.LoadFault.TheVariants as fault
use Rattle.vx_catalog.specs.Counting.{StaysKnown}
use Rattle.vx_catalog.specs.Loading.{Fails}
use Rattle.vx_catalog_loading.specs.Pieces.{rows_of_text}
use Rattle.vx_catalog_loading.specs.Reading.{rows_under, Moves, ComesFrom, IsFront, BeginsFrom}

-- an error that what was read explains is not one of the reader
pub own_fault : (e : LoadFault) (read : Result (List Row) LoadFault) → Fails e read → e ≢ fault.ReadFailed
own_fault fault.ReadFailed read h = absurd h
own_fault fault.NoMemory read h = λ k. cc
own_fault fault.HeaderMismatch read h = λ k. cc
own_fault (fault.BadWidth row) read h = λ k. cc
own_fault (fault.BadInt row col) read h = λ k. cc
own_fault (fault.NotUtf8 row) read h = λ k. cc
own_fault (fault.KeyBroken key first second) read h = λ k. cc
own_fault (fault.OrderBroken row) read h = λ k. cc
own_fault fault.TooLarge read h = λ k. cc

module _ (relation : Relation) (held now : List ℕ) where
  -- bytes came into the buffer first
  pub begins_behind : (after : List ℕ) (front : Option (List Row)) (l m n : Option (List ℕ)) → Moves held l now m → BeginsFrom relation now m front after n → BeginsFrom relation held l front after n
  begins_behind after front None m n h k = tt
  begins_behind after front (Some l) None n h k = absurd h
  begins_behind after front (Some l) (Some m) None h k = absurd k
  begins_behind after front (Some l) (Some m) (Some n) h k = subst (λ t. IsFront relation t front (after ++ n)) (sym h) k

  -- rounds follow the front
  pub begins_on : (after : List ℕ) (front rows : List Row) (l m n : Option (List ℕ)) → BeginsFrom relation held l (Some front) now m → ComesFrom relation.types front now m rows after n → BeginsFrom relation held l (Some rows) after n
  begins_on after front rows None m n h k = tt
  begins_on after front rows (Some l) None n h k = absurd h
  begins_on after front rows (Some l) (Some m) None h k = absurd k
  begins_on after front rows (Some l) (Some m) (Some n) h k = h ∙ k

-- an error in a round
pub rounds_fail : (relation : Relation) (e : LoadFault) (held now : List ℕ) (front : List Row) (l m : Option (List ℕ)) → BeginsFrom relation held l (Some front) now m
    → IfSome m (λ left. Fails e (rows_of_text relation.types front (now ++ left))) → IfSome l (λ left. Fails e (rows_under relation (held ++ left)))
rounds_fail relation e held now front None m h k = tt
rounds_fail relation e held now front (Some l) None h k = absurd h
rounds_fail relation e held now front (Some l) (Some m) h k = subst (Fails e) (sym h) k

-- where the bytes of both readers of a chain are known, those of the second are
second_known : (done : Bool) (one two : Option (List ℕ)) → IsSome (if done then two else option_append one two) → IsSome two
second_known true one two h = h
second_known false None two h = cc
second_known false (Some one) None h = cc
second_known false (Some one) (Some two) h = refl

reader_known : (failed fresh : Bool) (bytes : List ℕ) (known : Option (List ℕ)) → IsSome (if failed then None else (if fresh then option_map strip_bom known else prepend_known bytes known)) → IsSome known
reader_known true fresh bytes known h = cc
reader_known false true bytes None h = cc
reader_known false true bytes (Some known) h = refl
reader_known false false bytes None h = cc
reader_known false false bytes (Some known) h = refl

module _ {A S : Type 0} (one : A → Option (List ℕ)) (two : S → Option (List ℕ)) where
  chain_known : (reader : Reader (Chain A S)) → IsSome (source_of (chain_remaining one two) reader) → IsSome (two (chain_second (reader_source reader)))
  chain_known reader h = second_known reader.rdr.is_first_done (one reader.rdr.a_done) (two reader.rdr.b_done) (reader_known _ _ _ _ h)

  -- what a source has left stays known where what its reader reads does
  source_known : (held : List ℕ) (source known rest : Option (List ℕ)) (reader : Reader (Chain A S)) → source ≡ option_map strip_bom known → known ≡ option_append (Some held) rest
      → StaysKnown source (source_of (chain_remaining one two) reader) → StaysKnown rest (two (chain_second (reader_source reader)))
  source_known held source known None reader all is h = tt
  source_known held source known (Some rest) reader all is h = chain_known reader (rw (all, is) at h)

  -- one reader read what was held and left
  pub finish_known : {X : Type 0} (held : List ℕ) (read again : Result X LoadFault) (source known rest : Option (List ℕ)) (new reader : Reader (Chain A S)) (chain : Chain A S) (left : S) → read ≡ again → reader ≡ new
      → source ≡ option_map strip_bom known → known ≡ option_append (Some held) rest → (again ≡ Err fault.NoMemory) ⊎ StaysKnown source (source_of (chain_remaining one two) new)
      → chain ≡ reader_source reader → left ≡ chain_second chain → (read ≡ Err fault.NoMemory) ⊎ StaysKnown rest (two left)
  finish_known held read again source known rest new reader chain left same is all held_first (inl h) inner second = inl (same ∙ h)
  finish_known held read again source known rest new reader chain left same is all held_first (inr h) inner second =
      inr (rw (second, inner, is) (source_known held source known rest new all held_first h))
