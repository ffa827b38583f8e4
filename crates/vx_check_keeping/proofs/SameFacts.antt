-- What is equal, fixed and how many columns there are does not depend on claims. The second of two plans of the same operators is the first one with
-- its own claims.
use Rattle.std.proofs.Common.{◌≡◌, ℕ, refl, ap, ◌∙◌}
use Rattle.vx_catalog_relations.specs.Relation.{Relation}
use Rattle.vx_plan_nodes.specs.Plan.{Plan, scan, unary, binary, exchange, claim, size}
use Rattle.vx_plan_nodes.specs.Types.{width, unary_width, binary_width}
use Rattle.vx_plan_facts.specs.Equal.{unary_equal, binary_equal, equal_at}
use Rattle.vx_plan_facts.specs.Fixed.{unary_fixed, binary_fixed, fixed_at}
use Rattle.vx_check_keeping.specs.Keeping.{SameNodes}
use Rattle.vx_check_keeping.specs.Laws.{SameFacts}

-- the (left) input of a node, and the right one
abbrev pub under : Plan → Plan
under (scan n c r m z) = scan n c r m z
under (unary n c op p) = p
under (binary n c op p q) = p
under (exchange n c k m p) = p

abbrev pub beside : Plan → Plan
beside (scan n c r m z) = scan n c r m z
beside (unary n c op p) = p
beside (binary n c op p q) = q
beside (exchange n c k m p) = p

-- the operators of the first plan, the claims of the second
abbrev pub with_claims : Plan → Plan → Plan
with_claims (scan n c r m z) g = scan n (claim g) r m z
with_claims (unary n c op p) g = unary n (claim g) op (with_claims p (under g))
with_claims (binary n c op p q) g = binary n (claim g) op (with_claims p (under g)) (with_claims q (beside g))
with_claims (exchange n c k m p) g = exchange n (claim g) k m (with_claims p (under g))

pub is-with : (e f : Plan) → SameNodes e f → f ≡ with_claims e f
is-with (scan n c r m z) (scan i d s o y) h = let a = h.0 in let b = h.1 in let t = h.2 in let u = h.3 in cc
is-with (unary n c op p) (unary i d other q) h = let a = h.0 in let b = h.1 in let t = is-with p q h.2 in cc
is-with (binary n c op p q) (binary i d other s t) h =
    let a = h.0 in let b = h.1 in let l = is-with p s h.2 in let r = is-with q t h.3 in cc
is-with (exchange n c k m p) (exchange i d l o q) h = let a = h.0 in let b = h.1 in let t = h.2 in let u = is-with p q h.3 in cc
is-with e f h = absurd h

pub width-same : (catalog : ℕ → Relation) (e g : Plan) → width catalog (with_claims e g) ≡ width catalog e
width-same catalog (scan n c r m z) g = refl
width-same catalog (unary n c op p) g = ap (unary_width op) (width-same catalog p (under g))
width-same catalog (binary n c op p q) g =
    ap (λ x. binary_width op x (width catalog (with_claims q (beside g)))) (width-same catalog p (under g))
    ∙ ap (binary_width op (width catalog p)) (width-same catalog q (beside g))
width-same catalog (exchange n c k m p) g = width-same catalog p (under g)

pub equal-same : (catalog : ℕ → Relation) (e g : Plan) → equal_at catalog (with_claims e g) ≡ equal_at catalog e
equal-same catalog (scan n c r m z) g = refl
equal-same catalog (unary n c op p) g = ap (unary_equal op) (equal-same catalog p (under g))
equal-same catalog (binary n c op p q) g =
    ap (λ w. binary_equal w op (equal_at catalog (with_claims p (under g))) (equal_at catalog (with_claims q (beside g)))) (width-same catalog p (under g))
    ∙ ap (λ x. binary_equal (width catalog p) op x (equal_at catalog (with_claims q (beside g)))) (equal-same catalog p (under g))
    ∙ ap (binary_equal (width catalog p) op (equal_at catalog p)) (equal-same catalog q (beside g))
equal-same catalog (exchange n c k m p) g = equal-same catalog p (under g)

pub fixed-same : (catalog : ℕ → Relation) (e g : Plan) → fixed_at catalog (with_claims e g) ≡ fixed_at catalog e
fixed-same catalog (scan n c r m z) g = refl
fixed-same catalog (unary n c op p) g =
    let q : Plan = with_claims p (under g) in
    ap (λ w. unary_fixed w (equal_at catalog (unary n (claim g) op q)) op (fixed_at catalog q)) (width-same catalog p (under g))
    ∙ ap (λ x. unary_fixed (width catalog p) x op (fixed_at catalog q)) (equal-same catalog (unary n c op p) g)
    ∙ ap (unary_fixed (width catalog p) (equal_at catalog (unary n c op p)) op) (fixed-same catalog p (under g))
fixed-same catalog (binary n c op p q) g =
    let s : Plan = with_claims p (under g) in
    let t : Plan = with_claims q (beside g) in
    let x : Plan = binary n (claim g) op s t in
    let y : Plan = binary n c op p q in
    ap (λ w. binary_fixed w (width catalog x) (equal_at catalog x) op (fixed_at catalog s) (fixed_at catalog t)) (width-same catalog p (under g))
    ∙ ap (λ w. binary_fixed (width catalog p) w (equal_at catalog x) op (fixed_at catalog s) (fixed_at catalog t)) (width-same catalog y g)
    ∙ ap (λ e. binary_fixed (width catalog p) (width catalog y) e op (fixed_at catalog s) (fixed_at catalog t)) (equal-same catalog y g)
    ∙ ap (λ f. binary_fixed (width catalog p) (width catalog y) (equal_at catalog y) op f (fixed_at catalog t)) (fixed-same catalog p (under g))
    ∙ ap (binary_fixed (width catalog p) (width catalog y) (equal_at catalog y) op (fixed_at catalog p)) (fixed-same catalog q (beside g))
fixed-same catalog (exchange n c k m p) g = fixed-same catalog p (under g)

pub size-same : (e g : Plan) → size (with_claims e g) ≡ size e
size-same (scan n c r m z) g = refl
size-same (unary n c op p) g = size-same p (under g)
size-same (binary n c op p q) g = size-same p (under g)
size-same (exchange n c k m p) g = refl

pub same-facts : SameFacts
same-facts catalog e f h =
    let is = is-with e f h in (
      ap (width catalog) is ∙ width-same catalog e f,
      ap (equal_at catalog) is ∙ equal-same catalog e f,
      ap (fixed_at catalog) is ∙ fixed-same catalog e f,
      ap size is ∙ size-same e f,
    )
