-- Words of a sentence about a node: its number, what it does, what it or an input of it claims.
use Rattle.std.specs.Prelude.{ℕ, ◌++◌, List, [], ◌∷◌, codes, decimal}
use Rattle.vx_rows_values.specs.declared.order.OrderEntry.{OrderEntry}
use Rattle.vx_rows_values.specs.Values.{Name}
use Rattle.vx_plan_nodes.specs.Plan.{Claim}
use Rattle.vx_plan_nodes.specs.Outline.{Outline, scan, unary, binary, exchange, top, columns}
use Rattle.vx_plan_nodes.specs.Names.{Names}
use Rattle.vx_check.specs.Explain.{order_text, part_text, keys_text, description}
use Rattle.vx_check_sentences.specs.declared.told.Told.{Told}
use Rattle.vx_check_sentences.specs.declared.told.Told.TheVariants.{Part, Order, Keys}

abbrev pub node_text : Outline → List ℕ
node_text o = codes "node " ++ decimal (top o).number

-- the node with what it does
abbrev pub doing_text : Names → Outline → List ℕ
doing_text s o = node_text o ++ (codes " (" ++ (description s o ++ codes ")"))

abbrev pub order_words : List Name → List OrderEntry → List ℕ
order_words names [] = codes "no order"
order_words names (e ∷ order) = codes "the order " ++ order_text names (e ∷ order)

abbrev pub keys_words : List Name → List (List ℕ) → List ℕ
keys_words names [] = codes "no key"
keys_words names (k ∷ keys) = codes "the keys " ++ keys_text names (k ∷ keys)

-- one of the three parts of a claim
abbrev pub told_text : Told → Names → List Name → Claim → List ℕ
told_text Part s names c = codes "the part " ++ part_text s names c.part
told_text Order s names c = order_words names c.order
told_text Keys s names c = keys_words names c.keys

-- what an input claims
unfoldable pub input_text : Told → Names → List ℕ → Outline → List ℕ
input_text told s word t = word ++ (node_text t ++ (codes ", claims " ++ told_text told s (columns t).names (top t).claim))

-- and so of each input of a node
abbrev pub inputs_text : Told → Names → Outline → List ℕ
inputs_text told s (scan h r m z p) = []
inputs_text told s (unary h op flags t) = input_text told s (codes "its input, ") t
inputs_text told s (binary h op t u) = input_text told s (codes "its left input, ") t ++ input_text told s (codes ", and its right input, ") u
inputs_text told s (exchange h k m t) = input_text told s (codes "its input, ") t
