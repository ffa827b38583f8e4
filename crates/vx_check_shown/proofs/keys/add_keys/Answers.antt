use Rattle.std.proofs.Common.{◌≡◌, ◌∙◌, ℕ, refl, Vec, Global, map, sym, true, arith}
use Rattle.std.proofs.lemmas.List.{length-map}
use Rattle.std.specs.List.{list_all}
use Rattle.vx_catalog_relations.specs.Relation.{Relation}
use Rattle.vx_catalog_relations.specs.Catalog.{all_below}
use Rattle.vx_plan_facts.specs.KnownView.{IsKnownOf}
use Rattle.vx_plan_nodes.specs.Outline.{plan_of}
use Rattle.vx_plan_nodes.specs.Types.{width}
use Rattle.vx_check_rules.specs.KnownNode.{IsKeyOf}
use Rattle.vx_check_rules.specs.KeyedView.{all_keyed_in}
use Rattle.vx_check_rules.proofs.KeySteps.{key-at}
use Rattle.vx_check_shown.proofs.AddedKeys.{adds-none, adds-with, adds-without, adds-full, adds-all}
use Rattle.vx_check_shown.proofs.keys.add_keys.Goals as goal
use Rattle.vx_check_shown.proofs.keys.add_keys.Goals.{then-is_key_derived+in_ok-needed_firsts+in_ok-add_key, else-is_key_derived}

pub loop-key-init : goal.loop-key-init
loop-key-init c = record {
  added = λ catalog h below. adds-none catalog (plan_of c.args.node.now) (all_keyed_in c.args.keyed.now) c.args.keys.now (map (λ (v : Vec ℕ Global). v.items) c.args.found.now.items);
  kept = λ catalog here q known. known;
}

pub is_key_derived-requires : goal.is_key_derived-requires
is_key_derived-requires c =
    let catalog = c.requires.0 in
    let p = plan_of c.args.node.now in
    let known = c.requires.1 in
    let items = map (λ (v : Vec ℕ Global). v.items) c.args.keys.now in
    rw c.as_slice.ensures.value (
      catalog,
      record {
        known = c.loop-key.invariant.kept catalog known p known;
        key_below = key-at (width catalog p) c.args.keys.now items c.loop-key.key-index c.key-item.result refl c.requires.2 c.loop-key-test.true c.key-item.is;
      },
    )

pub needed_firsts-requires : goal.needed_firsts-requires
needed_firsts-requires c =
    let catalog = c.requires.0 in
    let p = plan_of c.args.node.now in
    let known = c.requires.1 in
    let items = map (λ (v : Vec ℕ Global). v.items) c.args.keys.now in
    let here = c.loop-key.invariant.kept catalog known p known in
    rw c.as_slice-then-is_key_derived.ensures.value (
      catalog,
      record {
        known = c.is_key_derived.ensures.kept catalog here p here;
        key_below = key-at (width catalog p) c.args.keys.now items c.loop-key.key-index c.key-item.result refl c.requires.2 c.loop-key-test.true c.key-item.is;
      },
    )

pub returns-then-len-ge-MAX_KEYS-clause-added : goal.returns-then-len-ge-MAX_KEYS-clause-added
returns-then-len-ge-MAX_KEYS-clause-added c = λ catalog h below.
    let found = map (λ (v : Vec ℕ Global). v.items) c.loop-key.found.items in
    let many = length-map c.loop-key.found.items (λ (v : Vec ℕ Global). v.items) in
    adds-full catalog (plan_of c.args.node.now) (all_keyed_in c.args.keyed.now) c.args.keys.now c.loop-key.key-index _ found c.loop-key-test.true (omega (arith, many, c.if-len-ge-MAX_KEYS.true, c.len.ensures))
    (c.loop-key.invariant.added catalog h below)

pub loop-key-preserved : goal.loop-key-preserved
loop-key-preserved c =
    let p = plan_of c.args.node.now in
    let keyed = all_keyed_in c.args.keyed.now in
    let i = c.loop-key.key-index in
    let items = map (λ (v : Vec ℕ Global). v.items) in
    let here : (catalog : ℕ → Relation) → IsKnownOf catalog c.args.known.now p → IsKnownOf catalog c.loop-key.known p = λ catalog known. c.loop-key.invariant.kept catalog known p known in
    let at : (catalog : ℕ → Relation) → list_all (all_below (width catalog p)) (items c.args.keys.now) ≡ true → all_below (width catalog p) c.key-item.result.items ≡ true =
    λ catalog below. key-at (width catalog p) c.args.keys.now (items c.args.keys.now) i c.key-item.result refl below c.loop-key-test.true c.key-item.is in
    let few = length-map c.loop-key.found.items (λ (v : Vec ℕ Global). v.items) in
    elim c.if-is_key_derived.branch [
      | then-is_key_derived+in_ok-needed_firsts+in_ok-add_key w ↦ rw (w.found-is, w.known-is) (record {
        added = λ catalog h below.
            let key : IsKeyOf catalog c.loop-key.known p c.key-item.result.items = record { known = here catalog h; key_below = at catalog below } in
            let told = (rw c.as_slice.ensures.value at c.is_key_derived.ensures.derived) catalog key in
            let again : IsKeyOf catalog c.is_key_derived.new.known p c.key-item.result.items = record { known = c.is_key_derived.ensures.kept catalog (here catalog h) p (here catalog h); key_below = at catalog below } in
            let part = (rw w.as_slice-then-is_key_derived.ensures.value at w.in_ok-needed_firsts.ensures.needed) catalog again in
            adds-with catalog p keyed c.args.keys.now i c.key-item.result _ _ (items c.loop-key.found.items) _ c.loop-key-test.true c.key-item.is (sym told ∙ w.if-is_key_derived.true)
            (omega (arith, few, c.if-len-ge-MAX_KEYS.false, c.len.ensures)) part w.in_ok-add_key.ensures (c.loop-key.invariant.added catalog h below);
        kept = λ catalog first q known.
            let one = c.loop-key.invariant.kept catalog first in
            let two = c.is_key_derived.ensures.kept catalog (one p first) in
            w.needed_firsts.ensures.kept catalog (two p (one p first)) q (two q (one q known));
      })
      | else-is_key_derived w ↦ rw (w.found-is, w.known-is) (record {
        added = λ catalog h below.
            let key : IsKeyOf catalog c.loop-key.known p c.key-item.result.items = record { known = here catalog h; key_below = at catalog below } in
            let told = (rw c.as_slice.ensures.value at c.is_key_derived.ensures.derived) catalog key in
            adds-without catalog p keyed c.args.keys.now i c.key-item.result _ (items c.loop-key.found.items) c.loop-key-test.true c.key-item.is (sym told ∙ w.if-is_key_derived.false)
            (c.loop-key.invariant.added catalog h below);
        kept = λ catalog first q known.
            let one = c.loop-key.invariant.kept catalog first in
            c.is_key_derived.ensures.kept catalog (one p first) q (one q known);
      })
    ]

pub returns-clause-added : goal.returns-clause-added
returns-clause-added c = λ catalog h below.
    adds-all catalog (plan_of c.args.node.now) (all_keyed_in c.args.keyed.now) c.args.keys.now c.loop-key.key-index _ (map (λ (v : Vec ℕ Global). v.items) c.loop-key.found.items)
    (omega (arith, c.loop-key-test.false)) (c.loop-key.invariant.added catalog h below)
