-- What a node and its inputs can claim, as the program has it.
use Rattle.std.specs.Prelude.{ℕ, ◌≡◌, List, map, None, option_map}
use Rattle.vx_catalog_relations.specs.Relation.{Relation}
use Rattle.vx_plan_nodes.specs.Plan.{Part, Plan, scan, unary, binary, exchange}
use Rattle.vx_plan_nodes.specs.Outline.{part_of}
use Rattle.vx_check_rules.specs.RuleView.{refusal_of}
use Rattle.vx_check_options.specs.declared.options.Options as rust_options
use Rattle.vx_check_options.specs.Options.{no_input, parts_at, places_at, first_unfit}

-- what a node can claim, and the first node from it downwards that no claims can save
pub record CanClaim (catalog : ℕ → Relation) (p : Plan) (o : rust_options.Options) : Type 0 where
  pub parts : map part_of o.parts.items ≡ parts_at catalog p
  pub choices : map (λ v. v.items) o.choices.items ≡ places_at catalog p
  pub unfit : option_map refusal_of o.unfit ≡ first_unfit catalog p

-- of an input that a node does not have
pub record IsAbsent (o : rust_options.Options) : Type 0 where
  pub parts : map part_of o.parts.items ≡ no_input
  pub unfit : o.unfit ≡ None

-- what the inputs of a node can claim; of one with fewer than two the others are absent
abbrev pub AreInputs : (ℕ → Relation) → Plan → (left right : rust_options.Options) → Type 0
AreInputs catalog (scan n c r m z) x y = IsAbsent x × IsAbsent y
AreInputs catalog (unary n c op p) x y = CanClaim catalog p x × IsAbsent y
AreInputs catalog (binary n c op p q) x y = CanClaim catalog p x × CanClaim catalog q y
AreInputs catalog (exchange n c k m p) x y = CanClaim catalog p x × IsAbsent y

-- the parts of the left input at which a node looks: an exchange makes its own
abbrev pub parts_seen : (ℕ → Relation) → Plan → List Part
parts_seen catalog (scan n c r m z) = no_input
parts_seen catalog (unary n c op p) = parts_at catalog p
parts_seen catalog (binary n c op p q) = parts_at catalog p
parts_seen catalog (exchange n c k m p) = no_input
