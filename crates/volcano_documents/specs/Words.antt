-- The words that the members of documents choose from.
use Rattle.std.specs.Prelude.{ℕ, List, map}
use Rattle.volcano_documents.specs.declared.words.Words.{Words}
use Rattle.volcano_documents.specs.declared.words.Words.TheVariants.{Commands, RunModes, Types, Parts, Operators, ScanModes, Tests, Methods, SemiMethods, JoinKinds, SortPhases, Phases, Functions, Kinds}
use Rattle.volcano_documents.specs.declared.words.TheConstants.{COMMANDS, RUN_MODES, TYPES, PARTS, OPERATORS, SCAN_MODES, TESTS, METHODS, SEMI_METHODS, JOIN_KINDS, SORT_PHASES, PHASES, FUNCTIONS, KINDS}

-- the words of a set
abbrev pub words_of : Words → List (List ℕ)
words_of Commands = map (λ w. w.now) COMMANDS.now
words_of RunModes = map (λ w. w.now) RUN_MODES.now
words_of Types = map (λ w. w.now) TYPES.now
words_of Parts = map (λ w. w.now) PARTS.now
words_of Operators = map (λ w. w.now) OPERATORS.now
words_of ScanModes = map (λ w. w.now) SCAN_MODES.now
words_of Tests = map (λ w. w.now) TESTS.now
words_of Methods = map (λ w. w.now) METHODS.now
words_of SemiMethods = map (λ w. w.now) SEMI_METHODS.now
words_of JoinKinds = map (λ w. w.now) JOIN_KINDS.now
words_of SortPhases = map (λ w. w.now) SORT_PHASES.now
words_of Phases = map (λ w. w.now) PHASES.now
words_of Functions = map (λ w. w.now) FUNCTIONS.now
words_of Kinds = map (λ w. w.now) KINDS.now
