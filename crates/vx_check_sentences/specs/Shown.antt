-- What is there in place of what a refused node claims or needs, as a sentence.
use Rattle.std.specs.Prelude.{ℕ, ◌++◌, Bool, cond, List, [], ◌∷◌, length, Option, Some, None, codes}
use Rattle.serde_json.specs.Data.{object}
use Rattle.serde_json.specs.Written.{compact_text}
use Rattle.vx_rows_values.specs.Order.{order_columns}
use Rattle.vx_rows_values.specs.Values.{Name}
use Rattle.vx_catalog_relations.specs.Catalog.{relation_at}
use Rattle.vx_plan_nodes.specs.Plan.{Size, one_worker, group_of, Claim, size}
use Rattle.vx_plan_nodes.specs.Outline.{Outline, scan, unary, binary, exchange, top, columns, plan_in}
use Rattle.vx_plan_nodes.specs.Names.{Names}
use Rattle.vx_plan_nodes.specs.Phases.{first_columns}
use Rattle.vx_plan_json.specs.Written.{claim_members}
use Rattle.vx_plan.specs.ByName.{claim_by_name}
use Rattle.vx_check.specs.Explain.{list_text, size_text, description}
use Rattle.vx_check_rules.specs.Rules.{contains}
use Rattle.vx_check_rules.specs.Refusal.{Rule, size_mismatch, root_not_one, part_not_shown, inputs_not_matched, replicated_input, order_not_shown, order_needed, key_not_shown, total_not_shown, first_rows_open}
use Rattle.vx_check_failures.specs.Shown.{shown_claim_by}
use Rattle.vx_check_sentences.specs.declared.told.Told.{Told}
use Rattle.vx_check_sentences.specs.declared.told.Told.TheVariants.{Part, Order, Keys}
use Rattle.vx_check_sentences.specs.Words.{node_text, told_text, input_text, inputs_text}

-- ---- sizes

abbrev pub size_of_text : Names → Outline → List ℕ
size_of_text s o = size_text s (size (plan_in o))

-- the size of an input
unfoldable pub input_size : Names → List ℕ → Outline → List ℕ
input_size s word t = word ++ (node_text t ++ (codes ", has the size " ++ size_of_text s t))

abbrev pub sizes_text : Names → Outline → List ℕ
sizes_text s (scan h r m z p) = []
sizes_text s (unary h op flags t) = []
sizes_text s (binary h op t u) = input_size s (codes "its left input, ") t ++ input_size s (codes ", and its right input, ") u
sizes_text s (exchange h k m t) = []

-- ---- the claim that the rule table shows

-- a claim as a plan document writes it
abbrev pub claim_json : Names → List Name → Claim → List ℕ
claim_json s names c = compact_text (object (claim_members (claim_by_name s names c)))

-- the claim that follows: first the part of it that is spoken of, and at the end all of it
unfoldable pub claim_follows : Told → Names → List Name → Claim → List ℕ
claim_follows told s names c = codes "; what follows here: " ++ (told_text told s names c ++ (codes ", as a claim: " ++ claim_json s names c))

abbrev pub follows_text : Told → Names → List Name → Option Claim → List ℕ
follows_text told s names None = codes "; nothing follows here"
follows_text told s names (Some c) = claim_follows told s names c

-- what it follows from: what the node does, and what its inputs claim
abbrev pub source_text : Told → Names → Outline → List ℕ
source_text told s (scan h r m z p) = codes "it is " ++ description s (scan h r m z p)
source_text told s (unary h op flags t) = inputs_text told s (unary h op flags t)
source_text told s (binary h op t u) = inputs_text told s (binary h op t u)
source_text told s (exchange h k m t) = codes "it is " ++ (description s (exchange h k m t) ++ (codes ", and " ++ inputs_text told s (exchange h k m t)))

abbrev pub followed_text : Told → Names → Outline → Option Claim → List ℕ
followed_text told s o shown = source_text told s o ++ follows_text told s (columns o).names shown

-- ---- what a total order lacks

-- the columns that are not in the order
abbrev pub missing : List ℕ → List ℕ → List ℕ
missing order [] = []
missing order (c ∷ cols) = cond (contains order c) [] (c ∷ []) ++ missing order cols

unfoldable pub lacks_text : List Name → List ℕ → List ℕ → List ℕ
lacks_text names order key = codes ", " ++ (list_text names (missing order key) ++ (codes " of the key " ++ list_text names key))

abbrev pub keys_lack : List Name → List ℕ → List (List ℕ) → List ℕ
keys_lack names order [] = []
keys_lack names order (k ∷ keys) = lacks_text names order k ++ keys_lack names order keys

-- of all columns, and of each key
abbrev pub all_lacks : List Name → List ℕ → List (List ℕ) → List ℕ
all_lacks names order keys = codes "it lacks " ++ (list_text names (missing order (first_columns (length names))) ++ (codes " of all columns" ++ keys_lack names order keys))

-- the same of the order that a node claims
unfoldable pub order_lacks : Outline → List ℕ
order_lacks t = all_lacks (columns t).names (order_columns (top t).claim.order) (top t).claim.keys

-- what the input of a limit lacks, which has this size: one worker, or else an order that is total
abbrev pub first_rows_lack : Size → Names → Outline → List ℕ
first_rows_lack (group_of k) s t = input_size s (codes "its input, ") t
first_rows_lack one_worker s t =
    input_text Order s (codes "its input, ") t ++ (codes ": " ++ order_lacks t)

abbrev pub first_rows_text : Names → Outline → List ℕ
first_rows_text s (scan h r m z p) = []
first_rows_text s (unary h op flags t) = first_rows_lack (size (plan_in t)) s t
first_rows_text s (binary h op t u) = []
first_rows_text s (exchange h k m t) = []

-- ---- by the rule that refuses the node

abbrev pub shown_text : Names → Rule → Outline → Option Claim → List ℕ
shown_text s size_mismatch o shown = sizes_text s o
shown_text s root_not_one o shown = codes "it has the size " ++ size_of_text s o
shown_text s part_not_shown o shown = followed_text Part s o shown
shown_text s inputs_not_matched o shown = inputs_text Part s o
shown_text s replicated_input o shown = inputs_text Part s o
shown_text s order_not_shown o shown = followed_text Order s o shown
shown_text s order_needed o shown = inputs_text Order s o
shown_text s key_not_shown o shown = followed_text Keys s o shown
shown_text s total_not_shown o shown = order_lacks o
shown_text s first_rows_open o shown = first_rows_text s o

-- over the claim that is shown at the node, by the table that a plan asks for
abbrev pub shown_at : (derives : Bool) → Names → Rule → Outline → List ℕ
shown_at derives s rule o = shown_text s rule o (shown_claim_by derives (relation_at s.catalog) (plan_in o))
