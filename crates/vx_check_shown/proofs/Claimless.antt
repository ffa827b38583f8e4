-- What is equal, how many columns and workers there are, and what part a node shows of given ones does not depend on claims.
use Rattle.std.proofs.Common.{◌≡◌, ◌∙◌, ℕ, cond, refl, ap, ap₂, sym}
use Rattle.vx_catalog_relations.specs.Relation.{Relation}
use Rattle.vx_plan_nodes.specs.Plan.{Part, one, Binary, Plan, scan, unary, binary, exchange, size, is_one}
use Rattle.vx_plan_nodes.specs.Types.{width, unary_width, binary_width}
use Rattle.vx_plan_nodes.specs.Describe.{described, described_both}
use Rattle.vx_plan_facts.specs.Equal.{Equality, unary_equal, binary_equal, equal_at}
use Rattle.vx_check_options.specs.Placed.{bare}
use Rattle.vx_check_shown.specs.ShownPart.{part_carried, part_of_both, part_over, part_apart, shown_part}
use Rattle.vx_check_shown.specs.PartLaws.{PartIsClaimless}

pub size-bare : (p : Plan) → size (bare p) ≡ size p
size-bare (scan n c r m z) = refl
size-bare (unary n c op p) = size-bare p
size-bare (binary n c op p q) = size-bare p
size-bare (exchange n c k m p) = refl

pub width-bare : (catalog : ℕ → Relation) (p : Plan) → width catalog (bare p) ≡ width catalog p
width-bare catalog (scan n c r m z) = refl
width-bare catalog (unary n c op p) = ap (unary_width op) (width-bare catalog p)
width-bare catalog (binary n c op p q) = ap₂ (binary_width op) (width-bare catalog p) (width-bare catalog q)
width-bare catalog (exchange n c k m p) = width-bare catalog p

pub equal-bare : (catalog : ℕ → Relation) (p : Plan) → equal_at catalog (bare p) ≡ equal_at catalog p
equal-bare catalog (scan n c r m z) = refl
equal-bare catalog (unary n c op p) = ap (unary_equal op) (equal-bare catalog p)
equal-bare catalog (binary n c op p q) =
    ap (λ v. binary_equal v op (equal_at catalog (bare p)) (equal_at catalog (bare q))) (width-bare catalog p)
    ∙ ap₂ (λ e f. binary_equal (width catalog p) op e f) (equal-bare catalog p) (equal-bare catalog q)
equal-bare catalog (exchange n c k m p) = equal-bare catalog p

-- the part over an input of v columns and one of u
abbrev over : Binary → (v u : ℕ) → (left right : Equality) → Part → Part → Part
over op v u e f x y = part_of_both (binary_width op v u) (described_both v op).meeting (described_both v op) e f x y

over-bare : (catalog : ℕ → Relation) (p : Plan) (x y : Part) → part_over catalog (bare p) x y ≡ part_over catalog p x y
over-bare catalog (scan n c r m z) x y = refl
over-bare catalog (unary n c op p) x y =
    ap₂ (λ w e. part_carried (unary_width op w) (described op).copying e x) (width-bare catalog p) (equal-bare catalog p)
over-bare catalog (binary n c op p q) x y =
    ap₂ (λ v u. over op v u (equal_at catalog (bare p)) (equal_at catalog (bare q)) x y) (width-bare catalog p) (width-bare catalog q)
    ∙ ap₂ (λ e f. over op (width catalog p) (width catalog q) e f x y) (equal-bare catalog p) (equal-bare catalog q)
over-bare catalog (exchange n c k m p) x y = refl

shown-bare : (catalog : ℕ → Relation) (p : Plan) (x y : Part) → shown_part catalog (bare p) x y ≡ shown_part catalog p x y
shown-bare catalog p x y =
    ap (λ z. cond (is_one z) one (part_apart (width catalog (bare p)) (equal_at catalog (bare p)) (part_over catalog (bare p) x y))) (size-bare p)
    ∙ ap₂ (λ w e. cond (is_one (size p)) one (part_apart w e (part_over catalog (bare p) x y))) (width-bare catalog p) (equal-bare catalog p)
    ∙ ap (λ (q : Part). cond (is_one (size p)) one (part_apart (width catalog p) (equal_at catalog p) q)) (over-bare catalog p x y)

pub part-claimless : PartIsClaimless
part-claimless catalog p q h x y = sym (shown-bare catalog p x y) ∙ ap (λ r. shown_part catalog r x y) h ∙ shown-bare catalog q x y
