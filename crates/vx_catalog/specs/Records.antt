-- A reader of `csv`, and the records that it has left where its bytes are known.
use Rattle.std.specs.Prelude.{◌≡◌, ℕ, ◌+◌, List, [], ◌∷◌, length, Option, Some, None, IfSome, option_map, Bool, true, false}
use Rattle.csv.specs.Reading.{records_from, default_config, source_of, Ready, reader_trim, reader_config}
use Rattle.csv.specs.declared.parser.State.{State}
use Rattle.csv.specs.declared.reader.Reader.{Reader}
use Rattle.csv.specs.declared.reader.Trim.TheVariants as trim

-- it reads in the default dialect, trims nothing, and makes nothing of a header
pub record IsPlain {S : Type 0} (reader : Reader S) : Type 0 where
  pub trim : reader_trim reader ≡ trim.None
  pub ready : Ready reader
  pub config : reader_config reader ≡ default_config

-- the records of these bytes, from a state on
abbrev pub records_left : State → List ℕ → List (List (List ℕ))
records_left state bytes = records_from default_config (length bytes + 1) state bytes

-- the records that a reader has left, where its bytes are known
abbrev pub rest_of : {S : Type 0} → (S → Option (List ℕ)) → Reader S → Option (List (List (List ℕ)))
rest_of remaining reader = option_map (records_left reader.state) (source_of remaining reader)

-- known records begin with this one, and lose it
abbrev pub Begins : List (List ℕ) → Option (List (List (List ℕ))) → Option (List (List (List ℕ))) → Type 0
Begins fields None rest = Unit {0}
Begins fields (Some records) None = ⊥
Begins fields (Some records) (Some rest) = records ≡ fields ∷ rest

-- a read took the next record, or there was none
abbrev pub Takes : {S : Type 0} → (S → Option (List ℕ)) → Bool → Reader S → Reader S → List (List ℕ) → Type 0
Takes remaining true old new fields = IsPlain new × Begins fields (rest_of remaining old) (rest_of remaining new)
Takes remaining false old new fields = IfSome (rest_of remaining old) (λ records. records ≡ [])
