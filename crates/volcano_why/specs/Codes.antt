-- The codes of refusals, with their names.
use Rattle.std.specs.Prelude.{◌≡◌, ℕ, ◌+◌, ◌++◌, Bool, ◌||◌, List, [], ◌∷◌, length, take, Option, Some, None, option_map, codes, bytes_eq}
use Rattle.std.specs.List.{find, list_any}
use Rattle.std.specs.Str.{str_eq_ignore_ascii_case}

-- of catalogs and tables
abbrev pub catalog_codes : List (List ℕ)
catalog_codes = codes "C1" ∷ codes "C2" ∷ codes "C3" ∷ codes "C4" ∷ codes "C5" ∷ codes "C6" ∷ codes "C7" ∷ codes "C8" ∷ codes "C9" ∷ codes "C10" ∷ codes "C11" ∷ codes "C12" ∷ []

-- of plans
abbrev pub plan_codes : List (List ℕ)
plan_codes = codes "P1" ∷ codes "P2" ∷ codes "P3" ∷ codes "P4" ∷ codes "P5" ∷ codes "P6" ∷ codes "P7" ∷ codes "P8" ∷ codes "P9" ∷ codes "P10" ∷ codes "P11" ∷ codes "P12" ∷ codes "P13" ∷ []

-- of the checker
abbrev pub checker_codes : List (List ℕ)
checker_codes = codes "K1" ∷ codes "K2" ∷ codes "K3" ∷ codes "K4" ∷ codes "K5" ∷ codes "K6" ∷ codes "K7" ∷ codes "K8" ∷ codes "K9" ∷ codes "K11" ∷ []

-- of runs and serial evaluations
abbrev pub run_codes : List (List ℕ)
run_codes = codes "X1" ∷ codes "X2" ∷ codes "X3" ∷ codes "X4" ∷ codes "X5" ∷ codes "X6" ∷ codes "X7" ∷ codes "X8" ∷ codes "X9" ∷ codes "X10" ∷ codes "X11" ∷ codes "X12" ∷ codes "X13" ∷ codes "X14" ∷ codes "X15" ∷ []

-- of the program
abbrev pub program_codes : List (List ℕ)
program_codes = codes "V1" ∷ codes "V2" ∷ codes "V3" ∷ codes "V4" ∷ codes "V5" ∷ codes "V6" ∷ []

abbrev pub is_one_of : List ℕ → List (List ℕ) → Bool
is_one_of code list = list_any (bytes_eq code) list

abbrev pub is_code : List ℕ → Bool
is_code code = is_one_of code catalog_codes || (is_one_of code plan_codes || (is_one_of code checker_codes || (is_one_of code run_codes || is_one_of code program_codes)))

-- a code, and the name that stands behind it in a refusal
abbrev pub Named : Type 0
Named = List ℕ × List ℕ

-- of catalogs and tables, of plans, of the checker, of runs and serial evaluations, and of the program
abbrev pub codes_and_names : List Named
codes_and_names =
    (codes "C1", codes "BadCatalog") ∷ (codes "C2", codes "DuplicateName") ∷ (codes "C3", codes "UnknownColumn") ∷ (codes "C4", codes "HeaderMismatch") ∷ (codes "C5", codes "BadWidth") ∷ (codes "C6", codes "BadInt") ∷ (codes "C7", codes "NotUtf8") ∷ (codes "C8", codes "KeyBroken") ∷ (codes "C9", codes "OrderBroken") ∷ (codes "C10", codes "ReadFailed") ∷ (codes "C11", codes "NoMemory") ∷ (codes "C12", codes "TooLarge") ∷
    (codes "P1", codes "NotJson") ∷ (codes "P2", codes "BadNode") ∷ (codes "P3", codes "TooDeep") ∷ (codes "P4", codes "UnknownRelation") ∷ (codes "P5", codes "UnknownColumn") ∷ (codes "P6", codes "DuplicateColumn") ∷ (codes "P7", codes "TypeMismatch") ∷ (codes "P8", codes "UnknownRange") ∷ (codes "P9", codes "BadRange") ∷ (codes "P10", codes "BadSize") ∷ (codes "P11", codes "NoMemory") ∷ (codes "P12", codes "TooWide") ∷ (codes "P13", codes "PhaseMismatch") ∷
    (codes "K1", codes "SizeMismatch") ∷ (codes "K2", codes "RootNotOne") ∷ (codes "K3", codes "PartNotShown") ∷ (codes "K4", codes "InputsNotMatched") ∷ (codes "K5", codes "ReplicatedInput") ∷ (codes "K6", codes "OrderNotShown") ∷ (codes "K7", codes "OrderNeeded") ∷ (codes "K8", codes "KeyNotShown") ∷ (codes "K9", codes "TotalNotShown") ∷ (codes "K11", codes "FirstRowsOpen") ∷
    (codes "X1", codes "SizeMissing") ∷ (codes "X2", codes "SizeOutOfRange") ∷ (codes "X3", codes "BadPacket") ∷ (codes "X4", codes "BadMorsel") ∷ (codes "X5", codes "BadStep") ∷ (codes "X6", codes "OtherCatalog") ∷ (codes "X7", codes "Overflow") ∷ (codes "X8", codes "NoMemory") ∷ (codes "X9", codes "NoThread") ∷ (codes "X10", codes "Unsorted") ∷ (codes "X11", codes "Stranger") ∷ (codes "X12", codes "TooManyWorkers") ∷ (codes "X13", codes "HasExchange") ∷ (codes "X14", codes "BadSlack") ∷ (codes "X15", codes "BadFunction") ∷
    (codes "V1", codes "BadBundle") ∷ (codes "V2", codes "NoTable") ∷ (codes "V3", codes "FileUnreadable") ∷ (codes "V4", codes "WriteFailed") ∷ (codes "V5", codes "Unfinished") ∷ (codes "V6", codes "TooLarge") ∷ []

-- a word is this code or its name, in any case
abbrev pub is_for : List ℕ → Named → Bool
is_for word named = str_eq_ignore_ascii_case named.0 word || str_eq_ignore_ascii_case named.1 word

abbrev pub code_in : List ℕ → List Named → Option (List ℕ)
code_in word list = option_map (λ (n : Named). n.0) (find (is_for word) list)

-- the code that a word is or names: the first, where several have the name
abbrev pub code_of : List ℕ → Option (List ℕ)
code_of word = code_in word codes_and_names

-- there is a code, and the text begins with it and a space
abbrev pub BeginsWith : Option (List ℕ) → List ℕ → Type 0
BeginsWith None text = ⊥
BeginsWith (Some code) text = take (length code + 1) text ≡ code ++ codes " "
