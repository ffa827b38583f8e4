use Rattle.std.proofs.Common.{◌≡◌, ◌∙◌, ◌<◌, ℕ, true, false, Some, None, List, [], ◌∷◌, map, length, refl, sym, ap, arith}
use Rattle.std.specs.Prelude.{is_some}
use Rattle.std.proofs.lemmas.List.{nil_from_length}
use Rattle.vx_rows_values.specs.Lists.{is_some_list}
use Rattle.vx_catalog_relations.specs.Relation.{Relation}
use Rattle.vx_catalog_relations.specs.Catalog.{relation_at}
use Rattle.vx_plan_nodes.specs.Plan.{Plan, scan, unary, binary, exchange, claim}
use Rattle.vx_plan_nodes.specs.declared.typed.Part as rust_part
use Rattle.vx_plan_nodes.specs.Outline.{part_of, plan_of}
use Rattle.vx_check_rules.specs.Rules.{sizes_match}
use Rattle.vx_check_rules.specs.Refusal.{inputs_not_matched, order_needed, order_not_shown, first_failure}
use Rattle.vx_check_options.specs.Options.{narrowed, places_here, can_send, can_meet, can_order, can_keep, fit_tests}
use Rattle.vx_check_options.proofs.OptionFacts.{some-length, none-length}
use Rattle.vx_check_options.proofs.options.unfit_at.Goals as goal

-- the tests that pass before others
record Fits (catalog : ℕ → Relation) (p : Plan) : Type 0 where
  sizes : sizes_match p ≡ true
  sent : can_send catalog p ≡ true
  met : can_meet catalog p ≡ true

not-met : (catalog : ℕ → Relation) (p : Plan) → sizes_match p ≡ true → can_send catalog p ≡ true → can_meet catalog p ≡ false → Some inputs_not_matched ≡ first_failure (fit_tests catalog p)
not-met catalog p h k l = rw (h, k, l) refl

not-ordered : (catalog : ℕ → Relation) (p : Plan) → Fits catalog p → can_order catalog p ≡ false → Some order_needed ≡ first_failure (fit_tests catalog p)
not-ordered catalog p f h = rw (f.sizes, f.sent, f.met, h) refl

not-kept : (catalog : ℕ → Relation) (p : Plan) → Fits catalog p → can_order catalog p ≡ true → can_keep catalog p ≡ false → Some order_not_shown ≡ first_failure (fit_tests catalog p)
not-kept catalog p f h k = rw (f.sizes, f.sent, f.met, h, k) refl

all-fit : (catalog : ℕ → Relation) (p : Plan) → Fits catalog p → can_order catalog p ≡ true → can_keep catalog p ≡ true → None ≡ first_failure (fit_tests catalog p)
all-fit catalog p f h k = rw (f.sizes, f.sent, f.met, h, k) refl

some-part : (ps : List rust_part.Part) → 0 < length ps → is_some_list (map part_of ps) ≡ true
some-part [] h = absurd (omega arith)
some-part (p ∷ ps) h = refl

keeps : (catalog : ℕ → Relation) (p : Plan) → is_some (narrowed (claim p).order (places_here catalog p)) ≡ can_keep catalog p
keeps catalog (scan n c r m z) = refl
keeps catalog (unary n c op p) = refl
keeps catalog (binary n c op p q) = refl
keeps catalog (exchange n c k m p) = refl

pub returns-then-is_empty : goal.returns-then-is_empty
returns-then-is_empty c =
    let ps : List rust_part.Part = c.args.parts.now in
    let none = nil_from_length ps (none-length ps (length ps) _ refl c.is_empty.ensures c.if-is_empty.true) in
    not-met (relation_at c.args.catalog.now) (plan_of c.args.node.now) (sym c.do_sizes_match.ensures ∙ c.if-not-do_sizes_match.false) (sym c.can_send.ensures ∙ c.if-not-can_send.false)
    (ap is_some_list (sym c.requires.parts ∙ ap (map part_of) none))

pub returns-then-not-can_order : goal.returns-then-not-can_order
returns-then-not-can_order c =
    let fits : Fits (relation_at c.args.catalog.now) (plan_of c.args.node.now) = record {
      sizes = sym c.do_sizes_match.ensures ∙ c.if-not-do_sizes_match.false;
      sent = sym c.can_send.ensures ∙ c.if-not-can_send.false;
      met = ap is_some_list (sym c.requires.parts) ∙ some-part c.args.parts.now (some-length c.args.parts.now _ _ refl c.is_empty.ensures c.if-is_empty.false);
    } in
    not-ordered (relation_at c.args.catalog.now) (plan_of c.args.node.now) fits (sym c.can_order.ensures ∙ c.if-not-can_order.true)

pub returns-then-not-may_begin : goal.returns-then-not-may_begin
returns-then-not-may_begin c =
    let catalog = relation_at c.args.catalog.now in
    let p = plan_of c.args.node.now in
    let fits : Fits catalog p = record {
      sizes = sym c.do_sizes_match.ensures ∙ c.if-not-do_sizes_match.false;
      sent = sym c.can_send.ensures ∙ c.if-not-can_send.false;
      met = ap is_some_list (sym c.requires.parts) ∙ some-part c.args.parts.now (some-length c.args.parts.now _ _ refl c.is_empty.ensures c.if-is_empty.false);
    } in
    let kept = rw (c.as_slice.ensures.value, c.requires.choices) at c.may_begin.ensures in
    not-kept catalog p fits (sym c.can_order.ensures ∙ c.if-not-can_order.false) (sym (kept ∙ ap (λ d. is_some (narrowed d.order (places_here catalog p))) c.head.ensures.claim ∙ keeps catalog p) ∙ c.if-not-may_begin.true)

pub returns : goal.returns
returns c =
    let catalog = relation_at c.args.catalog.now in
    let p = plan_of c.args.node.now in
    let fits : Fits catalog p = record {
      sizes = sym c.do_sizes_match.ensures ∙ c.if-not-do_sizes_match.false;
      sent = sym c.can_send.ensures ∙ c.if-not-can_send.false;
      met = ap is_some_list (sym c.requires.parts) ∙ some-part c.args.parts.now (some-length c.args.parts.now _ _ refl c.is_empty.ensures c.if-is_empty.false);
    } in
    let kept = rw (c.as_slice.ensures.value, c.requires.choices) at c.may_begin.ensures in
    all-fit catalog p fits (sym c.can_order.ensures ∙ c.if-not-can_order.false) (sym (kept ∙ ap (λ d. is_some (narrowed d.order (places_here catalog p))) c.head.ensures.claim ∙ keeps catalog p) ∙ c.if-not-may_begin.false)
