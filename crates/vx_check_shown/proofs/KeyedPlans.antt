-- Plans with keys alone, which are shown at each node over those of its inputs.
use Rattle.std.proofs.Common.{◌≡◌, ◌≤◌, ℕ, Bool, true, ◌&&◌, List, [], ◌∷◌, length, refl, sym, ap, ◌∙◌, subst}
use Rattle.std.specs.List.{list_all, list_any}
use Rattle.vx_rows_values.proofs.Booleans.{and-both}
use Rattle.vx_catalog_relations.specs.Relation.{Relation}
use Rattle.vx_catalog_relations.specs.Catalog.{relation_at}
use Rattle.vx_plan_nodes.specs.Plan.{any, Binary, Plan, scan, unary, binary, exchange, claim}
use Rattle.vx_plan_nodes.specs.Types.{types_of, width}
use Rattle.vx_plan_nodes.specs.Describe.{DescribedBoth, described_both}
use Rattle.vx_plan_nodes.specs.Typed.{Scope, are_columns, typed}
use Rattle.vx_plan_facts.specs.Equal.{equal_at}
use Rattle.vx_plan_facts.proofs.NamedColumns.{types-width}
use Rattle.vx_check_rules.specs.Behaviour.{Keyed, keys_give, keyed_over, keyed_from, behaviour}
use Rattle.vx_check_options.specs.Placed.{keyless, bare}
use Rattle.vx_check_options.specs.Laws.{AtEach}
use Rattle.vx_check_shown.specs.Standing.{named_first}
use Rattle.vx_check_shown.specs.Found.{keyed, ShownAt, IsKeyed}
use Rattle.vx_check_shown.specs.ShownKeys.{ShownKeys}
use Rattle.vx_check_shown.specs.Strongest.{HasAllKeysDerived}
use Rattle.vx_check_shown.specs.FoundLaws.{HasFewKeys, KeyedLaw, KeyedIsGood}
use Rattle.vx_check_shown.proofs.SameNodes.{width-same, equal-same, IsClaimTyped, typed-with}

-- ---- the nodes

pub keyed-bare : (catalog : ℕ → Relation) (p x : Plan) → IsKeyed catalog p x → bare x ≡ bare p
keyed-bare catalog (scan n c r m z) x h = ap bare h.1
keyed-bare catalog (unary n c op p) x h = ap bare h.2 ∙ ap (unary n (keyless any []) op) (keyed-bare catalog p h.1 h.3)
keyed-bare catalog (binary n c op p q) x h =
    ap bare h.3 ∙ (λ i. binary n (keyless any []) op (keyed-bare catalog p h.1 h.4 i) (keyed-bare catalog q h.2 h.5 i))
keyed-bare catalog (exchange n c k m p) x h = ap bare h.2 ∙ ap (exchange n (keyless any []) k m) (keyed-bare catalog p h.1 h.3)

-- ---- one node

-- a node x in the place of p, over keys that are there
module _ (catalog : ℕ → Relation) (p x : Plan) (e : bare x ≡ bare p) (at : List Keyed) (keys : List (List ℕ)) (own : claim x ≡ keyed keys) (there : (behaviour catalog x).keyed ≡ at)
    (h : ShownKeys catalog p at (claim p).keys keys) where
  all-here : HasFewKeys p → HasAllKeysDerived catalog x
  all-here few =
      let W = width-same catalog x p e in
      let E = equal-same catalog x p e in
      let K : (claim x).keys ≡ keys = ap (λ c. c.keys) own in
      let F : List (List ℕ) → Type 0 = λ ks. length ks ≤ 16 in
      record {
        few = subst F (sym K) (h.few few);
        keys = rw (K, W, E, there) h.all;
      }

  claim-here : (s : Scope) → relation_at s.catalog ≡ catalog → IsClaimTyped s x
  claim-here s same =
      let wide : length (types_of (relation_at s.catalog) x) ≡ width catalog p = types-width (relation_at s.catalog) x ∙ (ap (λ c. width c x) same ∙ width-same catalog x p e) in
      let P : ℕ → Type 0 = λ w. list_all (are_columns w) keys ≡ true in
      rw own (subst P (sym wide) h.columns)

-- ---- all nodes

pub keyed-all : (catalog : ℕ → Relation) (p x : Plan) → IsKeyed catalog p x → AtEach HasFewKeys p → AtEach (HasAllKeysDerived catalog) x
keyed-all catalog (scan n c r m z) x h few =
    let P : Plan → Type 0 = AtEach (HasAllKeysDerived catalog) in
    subst P (sym h.1) (all-here catalog (scan n c r m z) (scan n (keyed h.0) r m z) refl _ h.0 refl refl h.2 few)
keyed-all catalog (unary n c op p) x h few =
    let P : Plan → Type 0 = AtEach (HasAllKeysDerived catalog) in
    let below = keyed-bare catalog p h.1 h.3 in
    subst P (sym h.2)
    (keyed-all catalog p h.1 h.3 few.0, all-here catalog (unary n c op p) (unary n (keyed h.0) op h.1) (ap (unary n (keyless any []) op) below) _ h.0 refl refl h.4 few.1)
keyed-all catalog (binary n c op p q) x h few =
    let P : Plan → Type 0 = AtEach (HasAllKeysDerived catalog) in
    let y : Plan = h.1 in
    let z : Plan = h.2 in
    let left = keyed-bare catalog p h.1 h.4 in
    let right = keyed-bare catalog q h.2 h.5 in
    let nodes : bare (binary n (keyed h.0) op y z) ≡ bare (binary n c op p q) = λ i. binary n (keyless any []) op (left i) (right i) in
    let same : (behaviour catalog (binary n (keyed h.0) op y z)).keyed ≡ keyed_from catalog (binary n c op p q) (claim y).keys (claim z).keys =
    ap (λ w. keyed_over (described_both w op).meeting (described_both w op) (claim y).keys (claim z).keys) (width-same catalog y p left) in
    subst P (sym h.3)
    (keyed-all catalog p y h.4 few.0, keyed-all catalog q z h.5 few.1, all-here catalog (binary n c op p q) (binary n (keyed h.0) op y z) nodes _ h.0 refl same h.6 few.2)
keyed-all catalog (exchange n c k m p) x h few =
    let P : Plan → Type 0 = AtEach (HasAllKeysDerived catalog) in
    let below = keyed-bare catalog p h.1 h.3 in
    subst P (sym h.2)
    (keyed-all catalog p h.1 h.3 few.0, all-here catalog (exchange n c k m p) (exchange n (keyed h.0) k m h.1) (ap (exchange n (keyless any []) k m) below) _ h.0 refl refl h.4 few.1)

keyed-claims : (s : Scope) (p x : Plan) → IsKeyed (relation_at s.catalog) p x → AtEach (IsClaimTyped s) x
keyed-claims s (scan n c r m z) x h =
    let P : Plan → Type 0 = AtEach (IsClaimTyped s) in
    subst P (sym h.1) (claim-here (relation_at s.catalog) (scan n c r m z) (scan n (keyed h.0) r m z) refl _ h.0 refl refl h.2 s refl)
keyed-claims s (unary n c op p) x h =
    let P : Plan → Type 0 = AtEach (IsClaimTyped s) in
    let C : ℕ → Relation = relation_at s.catalog in
    let below = keyed-bare C p h.1 h.3 in
    subst P (sym h.2)
    (keyed-claims s p h.1 h.3, claim-here C (unary n c op p) (unary n (keyed h.0) op h.1) (ap (unary n (keyless any []) op) below) _ h.0 refl refl h.4 s refl)
keyed-claims s (binary n c op p q) x h =
    let P : Plan → Type 0 = AtEach (IsClaimTyped s) in
    let C : ℕ → Relation = relation_at s.catalog in
    let y : Plan = h.1 in
    let z : Plan = h.2 in
    let left = keyed-bare C p h.1 h.4 in
    let right = keyed-bare C q h.2 h.5 in
    let nodes : bare (binary n (keyed h.0) op y z) ≡ bare (binary n c op p q) = λ i. binary n (keyless any []) op (left i) (right i) in
    let same : (behaviour C (binary n (keyed h.0) op y z)).keyed ≡ keyed_from C (binary n c op p q) (claim y).keys (claim z).keys =
    ap (λ w. keyed_over (described_both w op).meeting (described_both w op) (claim y).keys (claim z).keys) (width-same C y p left) in
    subst P (sym h.3)
    (keyed-claims s p y h.4, keyed-claims s q z h.5, claim-here C (binary n c op p q) (binary n (keyed h.0) op y z) nodes _ h.0 refl same h.6 s refl)
keyed-claims s (exchange n c k m p) x h =
    let P : Plan → Type 0 = AtEach (IsClaimTyped s) in
    let C : ℕ → Relation = relation_at s.catalog in
    let below = keyed-bare C p h.1 h.3 in
    subst P (sym h.2)
    (keyed-claims s p h.1 h.3, claim-here C (exchange n c k m p) (exchange n (keyed h.0) k m h.1) (ap (exchange n (keyless any []) k m) below) _ h.0 refl refl h.4 s refl)

pub keyed-is-good : KeyedIsGood
keyed-is-good s p x cat ok h =
    let same = keyed-bare (relation_at s.catalog) p x h in
    record {
      typed = typed-with s p x same ok (keyed-claims s p x h);
      same = same;
      all = λ few. keyed-all (relation_at s.catalog) p x h few;
    }
