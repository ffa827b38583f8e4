-- The record with a number in a text, and where it begins. The records are those that `csv` reads.
use Rattle.std.specs.Prelude.{◌≡◌, ℕ, ◌+◌, List, [], ◌∷◌, ◌++◌, drop, count_by, Option, Some, None, false}
use Rattle.csv.specs.Machine.{next_record}
use Rattle.csv.specs.Reading.{records, default_config}
use Rattle.csv.specs.declared.parser.State.{State}
use Rattle.volcano_locations.specs.declared.stage.RecordState.{RecordState}
use Rattle.volcano_locations.specs.Lines.{is_feed, ends_line}
use Rattle.volcano_locations.specs.Stages.{state_of}

-- known bytes lost the next record, behind which this is the state; or there was none
abbrev pub ReadsOne : Option (List ℕ) → Option (List ℕ) → State → List (List ℕ) → Option RecordState → Type 0
ReadsOne None new state fields stage = Unit {0}
ReadsOne (Some xs) new state fields None = next_record default_config state [] [] xs ≡ None
ReadsOne (Some xs) None state fields (Some stage) = ⊥
ReadsOne (Some xs) (Some ys) state fields (Some stage) = next_record default_config state [] [] xs ≡ Some (fields, state_of stage, ys)

-- no end of a line comes first
abbrev pub StartsRecord : List ℕ → Type 0
StartsRecord [] = Unit {0}
StartsRecord (c ∷ rest) = ends_line c ≡ false

-- the record of a text with this number has these fields and begins on this line: the text is a front and a rest, of which the records
-- are those of the text from this one on, and the line is the one behind the line feeds of the front
pub record IsRecordAt (text : List ℕ) (number line : ℕ) (fields : List (List ℕ)) : Type 0 where
  pub front : List ℕ
  pub rest : List ℕ
  pub cut : text ≡ front ++ rest
  pub counted : line ≡ count_by is_feed front + 1
  pub starts : StartsRecord rest
  pub from : records default_config rest ≡ drop number (records default_config text)
  pub first : (more : List (List (List ℕ))) × (records default_config rest ≡ fields ∷ more)
