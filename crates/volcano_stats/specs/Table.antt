-- Statistics for people: a table of the counts, and one of the times.
use Rattle.std.specs.Prelude.{ℕ, List, [], ◌∷◌, ◌++◌, codes, decimal}
use Rattle.vx_catalog_relations.specs.Relation.{Relation}
use Rattle.vx_catalog_relations.specs.Catalog.{relation_at}
use Rattle.volcano_stats.specs.Columns.{at_left, at_right, column, milliseconds}
use Rattle.volcano_stats.specs.Words.{word_at, phase_word}
use Rattle.volcano_stats.specs.declared.lines.Line.{Line}
use Rattle.volcano_stats.specs.declared.phases.WorkPhase.{WorkPhase}
use Rattle.volcano_stats.specs.declared.phases.WorkPhase.TheVariants as work_phase
use Rattle.volcano_stats.specs.declared.phases.PhaseTime.{PhaseTime}
use Rattle.volcano_stats.specs.declared.loads.LoadTime.{LoadTime}

-- the heads of the columns
unfoldable pub count_heads : List ℕ
count_heads = codes " node operator       worker      rows in     right in     rows out  morsels    taken      put    waits     full\n"

-- the rows that came from the left, or only, input and from the right one, and those that were given
unfoldable pub rows_row : Line → List ℕ
rows_row l = column 12 l.counts.left ++ (column 12 l.counts.right ++ column 12 l.counts.gave)

-- the morsels, the packets that came and those that were put, and the waits for a packet and for room
unfoldable pub moves_row : Line → List ℕ
moves_row l = column 8 l.counts.morsels ++ (column 8 l.counts.packets ++ (column 8 l.puts ++ (column 8 l.counts.waits ++ column 8 l.full)))

-- the node, and its word among these
unfoldable pub node_row : List (List ℕ) → ℕ → List ℕ
node_row words node = at_right 5 (decimal node) ++ (codes " " ++ at_left 14 (word_at words node))

-- one line of the counts
unfoldable pub count_row : List (List ℕ) → Line → List ℕ
count_row words l = node_row words l.node ++ (column 6 l.worker ++ (rows_row l ++ (moves_row l ++ codes "\n")))

abbrev pub count_rows : List (List ℕ) → List Line → List ℕ
count_rows words [] = []
count_rows words (l ∷ ls) = count_row words l ++ count_rows words ls

unfoldable pub time_heads : List ℕ
time_heads = codes "phase               ms\n"

unfoldable pub time_row : PhaseTime → List ℕ
time_row t = at_left 8 (phase_word t.phase) ++ (milliseconds t.microseconds ++ codes "\n")

-- the load of a relation of this catalog
unfoldable pub load_row : List Relation → LoadTime → List ℕ
load_row catalog l = at_left 8 [] ++ (milliseconds l.microseconds ++ (codes "  " ++ ((relation_at catalog l.relation).name ++ codes "\n")))

abbrev pub load_rows : List Relation → List LoadTime → List ℕ
load_rows catalog [] = []
load_rows catalog (l ∷ ls) = load_row catalog l ++ load_rows catalog ls

-- what stands below a phase: these loads, below that of the load
abbrev pub rows_below : List Relation → List LoadTime → WorkPhase → List ℕ
rows_below catalog loads work_phase.Load = load_rows catalog loads
rows_below catalog loads _ = []

abbrev pub time_rows : List Relation → List LoadTime → List PhaseTime → List ℕ
time_rows catalog loads [] = []
time_rows catalog loads (t ∷ ts) = time_row t ++ (rows_below catalog loads t.phase ++ time_rows catalog loads ts)
