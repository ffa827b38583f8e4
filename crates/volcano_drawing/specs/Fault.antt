-- Why statistics are not drawn.
use Rattle.std.specs.Prelude.{◌≡◌, ◌≢◌, ℕ, ◌<◌, true, false, List, ◌∷◌, ◌++◌, length, string_bytes, Some, None, option_map}
use Rattle.std.specs.List.{list_all}
use Rattle.vx_catalog_json.specs.declared.misread.Misread.{Misread}
use Rattle.vx_catalog_json.specs.declared.misread.Misread.TheVariants as misread
use Rattle.volcano_drawing.specs.declared.fault.Difference.{Difference}
use Rattle.volcano_drawing.specs.declared.fault.DrawFault.{DrawFault}
use Rattle.volcano_drawing.specs.declared.fault.DrawFault.TheVariants as fault
use Rattle.volcano_drawing.specs.Entries.{Entry, entries_in_text}
use Rattle.volcano_drawing.specs.Totals.{fits, totals_at}

abbrev pub fault_of : Misread → DrawFault
fault_of misread.NotOfForm = fault.NotStatistics
fault_of misread.NoMemory = fault.NoMemory

-- where entries differ from the plan whose operators have these words: the first entry that does not fit, with its operator; or, if all fit, a node that has none
pub data IsDifference (words : List (List ℕ)) (es : List Entry) (d : Difference) : Type 0 where
  other_operator : (before after : List Entry) (e : Entry) → es ≡ before ++ (e ∷ after) → list_all (fits words) before ≡ true → fits words e ≡ false
      → d.node ≡ e.node → option_map string_bytes d.there ≡ Some e.op → IsDifference words es d
  no_entry : list_all (fits words) es ≡ true → d.node < length words → (totals_at es d.node).workers ≡ 0 → d.there ≡ None → IsDifference words es d

-- why entries are not added up
abbrev pub IsFaultOf : List (List ℕ) → List Entry → DrawFault → Type 0
IsFaultOf words es fault.NoMemory = Unit {0}
IsFaultOf words es fault.NotStatistics = ⊥
IsFaultOf words es (fault.OtherPlan d) = IsDifference words es d

-- the fault of an entry that does not fit: its node and its operator, unless memory ran out
abbrev pub IsOtherOperator : Entry → DrawFault → Type 0
IsOtherOperator e fault.NoMemory = Unit {0}
IsOtherOperator e fault.NotStatistics = ⊥
IsOtherOperator e (fault.OtherPlan d) = (d.node ≡ e.node) × (option_map string_bytes d.there ≡ Some e.op)

-- why the statistics of this text are not drawn into the plan whose operators have these words
abbrev pub IsDrawFault : List (List ℕ) → List ℕ → DrawFault → Type 0
IsDrawFault words text fault.NoMemory = Unit {0}
IsDrawFault words text fault.NotStatistics = entries_in_text text ≡ None
IsDrawFault words text (fault.OtherPlan d) = (es : List Entry) × (entries_in_text text ≡ Some es) × IsDifference words es d

-- the text has no statistics of that plan
abbrev pub HasNoTotals : List (List ℕ) → List ℕ → Type 0
HasNoTotals words text = (f : DrawFault) × (f ≢ fault.NoMemory) × IsDrawFault words text f
