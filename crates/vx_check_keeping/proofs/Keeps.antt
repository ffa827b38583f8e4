-- Claims that tell the most keep what an accepted plan claims: by induction over the plan.
use Rattle.std.proofs.Common.{◌≡◌, ℕ, Bool, true, false, ◌&&◌, ◌||◌, ⊎_elim, List, refl, sym, ap, ◌∙◌, subst, true≢false}
use Rattle.vx_rows_values.specs.declared.order.OrderEntry.{OrderEntry}
use Rattle.vx_rows_values.specs.Order.{order_columns}
use Rattle.vx_rows_values.proofs.Booleans.{and-left, and-right, and-both}
use Rattle.vx_catalog_relations.specs.Relation.{Relation}
use Rattle.vx_catalog_relations.specs.Catalog.{relation_at, all_below, IsCatalog}
use Rattle.vx_plan_nodes.specs.Plan.{Claim, claim, Size, size, is_one, Unary, Binary, ExchangeKind, Plan, scan, unary, binary, exchange}
use Rattle.vx_plan_nodes.specs.Types.{width, part_columns}
use Rattle.vx_plan_nodes.specs.Typed.{are_columns}
use Rattle.vx_plan_facts.specs.Naming.{IsTypedOver}
use Rattle.vx_plan_facts.proofs.NamedColumns.{typed-unary, typed-both, typed-sent}
use Rattle.vx_plan_facts.proofs.Tests.{or-cases, or-left, or-right}
use Rattle.vx_check_rules.specs.Rules.{sizes_match, not_replicated, unless_one, shows, orders}
use Rattle.vx_check_rules.specs.Derived.{inputs_match_derived, order_given_derived, first_rows_known_derived, part_derived, part_shown_derived, order_derived, order_shown_derived, keys_shown_derived, allowed_here_derived, allowed_derived}
use Rattle.vx_check_options.specs.Laws.{AtEach}
use Rattle.vx_check_shown.specs.Strongest.{IsStrongestDerived}
use Rattle.vx_check_keeping.specs.Keeping.{IsShownDerived, KeysTellHere, KeysTell, TellsHere, Tells}
use Rattle.vx_check_keeping.specs.Laws.{KeepsTold}
use Rattle.vx_check_keeping.proofs.SameFacts.{under, beside, with_claims, is-with, width-same, size-same}
use Rattle.vx_check_keeping.proofs.OrdersKept.{Both, Under, order-below, part-below, merged-given, joined-given, first-orders, scanned-up, one-up, two-up, sent-order-up}
use Rattle.vx_check_keeping.proofs.TotalsKept.{first-kept}
use Rattle.vx_check_keeping.proofs.NodesKept.{claimed-distinct, sizes-kept, sent-kept, unary-inputs, binary-inputs, scan-parts, unary-parts, binary-parts, sent-parts}

joint : (a b c : Bool) → (b || c) ≡ true → ((a || b) || c) ≡ true
joint true b c h = refl
joint false b c h = h

unless : (a b c : Bool) → a ≡ false → ((a || b) || c) ≡ true → (b || c) ≡ true
unless true b c n h = absurd (true≢false n)
unless false b c n h = h

eight : (a b c d e f g h : Bool) → (a && (b && (c && (d && (e && (f && (g && h))))))) ≡ true
    → (a ≡ true) × (b ≡ true) × (c ≡ true) × (d ≡ true) × (e ≡ true) × (f ≡ true) × (g ≡ true) × (h ≡ true)
eight a b c d e f g h is =
    let h1 = and-right a (b && (c && (d && (e && (f && (g && h)))))) is in
    let h2 = and-right b (c && (d && (e && (f && (g && h))))) h1 in
    let h3 = and-right c (d && (e && (f && (g && h)))) h2 in
    let h4 = and-right d (e && (f && (g && h))) h3 in
    let h5 = and-right e (f && (g && h)) h4 in
    let h6 = and-right f (g && h) h5 in
    (and-left a _ is, and-left b _ h1, and-left c _ h2, and-left d _ h3, and-left e _ h4, and-left f _ h5, and-left g _ h6, and-right g h h6)

all-eight : (a b c d e f g h : Bool) → a ≡ true → b ≡ true → c ≡ true → d ≡ true → e ≡ true → f ≡ true → g ≡ true → h ≡ true
    → (a && (b && (c && (d && (e && (f && (g && h))))))) ≡ true
all-eight a b c d e f g h ha hb hc hd he hf hg hh =
    and-both a (b && (c && (d && (e && (f && (g && h)))))) ha (and-both b (c && (d && (e && (f && (g && h))))) hb (and-both c (d && (e && (f && (g && h)))) hc
    (and-both d (e && (f && (g && h))) hd (and-both e (f && (g && h)) he (and-both f (g && h) hf (and-both g h hg hh))))))

-- the tests of a node of the one plan, and those of the other one's node
pub record Passes (C : ℕ → Relation) (e f : Plan) : Type 0 where
  pub sizes : sizes_match e ≡ true → sizes_match f ≡ true
  pub once : not_replicated e ≡ true → not_replicated f ≡ true
  pub inputs : sizes_match e ≡ true → inputs_match_derived C e ≡ true → inputs_match_derived C f ≡ true
  pub given : order_given_derived C e ≡ true → order_given_derived C f ≡ true
  pub first : first_rows_known_derived C e ≡ true → first_rows_known_derived C f ≡ true
  pub part : sizes_match e ≡ true → is_one (size e) ≡ false → (unless_one (shows C e) (claim e).part || part_derived C e (claim e).part) ≡ true
      → (unless_one (shows C f) (claim e).part || part_derived C f (claim e).part) ≡ true
  pub order : order_derived C e (claim e).order ≡ true → order_derived C f (claim e).order ≡ true

module _ (catalog : List Relation) (fine : IsCatalog catalog) where
  abbrev C : ℕ → Relation
  C = relation_at catalog

  -- ---- one node

  module _ (e g : Plan) (b : Both catalog e g) (passes : Passes C e (with_claims e g)) (here : KeysTellHere C (with_claims e g) e)
      (strongest : IsStrongestDerived C (with_claims e g)) (shown : IsShownDerived C (with_claims e g)) (allowed : allowed_here_derived C e ≡ true) where
    abbrev f : Plan
    f = with_claims e g

    abbrev Tests : Type 0
    Tests = (sizes_match e ≡ true) × (not_replicated e ≡ true) × (inputs_match_derived C e ≡ true) × (order_given_derived C e ≡ true) × (first_rows_known_derived C e ≡ true)
        × (part_shown_derived C e ≡ true) × (order_shown_derived C e ≡ true) × (keys_shown_derived C e ≡ true)

    tests : Tests
    tests =
        eight (sizes_match e) (not_replicated e) (inputs_match_derived C e) (order_given_derived C e) (first_rows_known_derived C e) (part_shown_derived C e)
        (order_shown_derived C e) (keys_shown_derived C e) allowed

    sizes-hold : sizes_match f ≡ true
    sizes-hold = passes.sizes tests.0

    inputs-hold : inputs_match_derived C f ≡ true
    inputs-hold = passes.inputs tests.0 tests.2

    given-hold : order_given_derived C f ≡ true
    given-hold = passes.given tests.3

    part-holds : part_shown_derived C f ≡ true
    part-holds = by (is_one (size f)) refl
      where
        by : (a : Bool) → is_one (size f) ≡ a → part_shown_derived C f ≡ true
        by true i = or-left (is_one (size f) || unless_one (shows C f) (claim f).part) (part_derived C f (claim f).part) (or-left (is_one (size f)) (unless_one (shows C f) (claim f).part) i)
        by false i = joint (is_one (size f)) (unless_one (shows C f) (claim f).part) (part_derived C f (claim f).part) (shown.part i sizes-hold inputs-hold)

    pub node-allowed : allowed_here_derived C f ≡ true
    node-allowed =
        all-eight (sizes_match f) (not_replicated f) (inputs_match_derived C f) (order_given_derived C f) (first_rows_known_derived C f) (part_shown_derived C f)
        (order_shown_derived C f) (keys_shown_derived C f) sizes-hold (passes.once tests.1) inputs-hold given-hold (passes.first tests.4) part-holds (shown.order given-hold) shown.keys

    named : are_columns (width C f) (part_columns (claim e).part) ≡ true
    named = subst (λ (w : ℕ). are_columns w (part_columns (claim e).part) ≡ true) (sym (width-same C e g)) (claimed-distinct catalog e b.typed)

    follows-named : all_below (width C f) (order_columns (claim e).order) ≡ true
    follows-named = subst (λ (w : ℕ). all_below w (order_columns (claim e).order) ≡ true) (sym (width-same C e g)) (order-below catalog e b.typed)

    derived-order : order_derived C e (claim e).order ≡ true
    derived-order =
        ⊎_elim (λ i. first-orders catalog fine e b.typed (claim e).order (order-below catalog e b.typed) i) (λ i. i)
        (or-cases (orders C e (claim e).order) (order_derived C e (claim e).order) tests.6)

    pub node-tells : TellsHere C f e
    node-tells = record {
      part = λ n.
          let several : is_one (size e) ≡ false = ap is_one (sym (size-same e g)) ∙ n in
          strongest.part n sizes-hold inputs-hold (claim e).part named
          (passes.part tests.0 several (unless (is_one (size e)) (unless_one (shows C e) (claim e).part) (part_derived C e (claim e).part) several tests.5));
      order = strongest.order given-hold (claim e).order follows-named
          (or-right (orders C f (claim e).order) (order_derived C f (claim e).order) (passes.order derived-order));
      keys = here;
    }

  -- ---- the nodes of each kind

  scan-passes : (n : ℕ) (c : Claim) (r : ℕ) (m : Bool) (z : Size) (g : Plan) → Both catalog (scan n c r m z) g → Passes C (scan n c r m z) (with_claims (scan n c r m z) g)
  scan-passes n c r m z g b = record {
    sizes = λ h. h;
    once = λ h. h;
    inputs = λ h k. k;
    given = λ h. refl;
    first = λ h. refl;
    part = λ h i k. scan-parts catalog n n c (claim g) r m z c.part k;
    order = λ h. scanned-up catalog fine n c r m z g b c.order (order-below catalog (scan n c r m z) b.typed) h;
  }

  unary-passes : (n : ℕ) (c : Claim) (op : Unary) (p g : Plan) → Both catalog (unary n c op p) g → Under catalog p (under g)
      → Passes C (unary n c op p) (with_claims (unary n c op p) g)
  unary-passes n c op p g b u = record {
    sizes = λ h. h;
    once = λ h. h;
    inputs = λ h k. unary-inputs catalog n n c (claim g) op p (under g) u k;
    given = λ h. refl;
    first = λ h. first-kept catalog n n c (claim g) op p (under g) u h;
    part = λ h i k. unary-parts catalog n c op p g u i c.part (part-below catalog (unary n c op p) b.typed) k;
    order = λ h. one-up catalog n c op p g b u c.order (order-below catalog (unary n c op p) b.typed) h;
  }

  binary-passes : (n : ℕ) (c : Claim) (op : Binary) (p q g : Plan) → Both catalog (binary n c op p q) g → Under catalog p (under g) → Under catalog q (beside g)
      → Passes C (binary n c op p q) (with_claims (binary n c op p q) g)
  binary-passes n c op p q g b u v = record {
    sizes = λ h. sizes-kept catalog n n c (claim g) op p q (under g) (beside g) h;
    once = λ h. h;
    inputs = λ h k. binary-inputs catalog n n c (claim g) op p q (under g) (beside g) h u v k;
    given = λ h. joined-given catalog n n c (claim g) op p q (under g) (beside g) (typed-both catalog (binary n c op p q) n c op p q refl b.typed).2 u v h;
    first = λ h. refl;
    part = λ h i k. binary-parts catalog n c op p q g h u v i c.part (part-below catalog (binary n c op p q) b.typed) k;
    order = λ h. two-up catalog n c op p q g b u c.order (order-below catalog (binary n c op p q) b.typed) h;
  }

  sent-passes : (n : ℕ) (c : Claim) (k : ExchangeKind) (m : List OrderEntry) (p g : Plan) → Both catalog (exchange n c k m p) g → Under catalog p (under g)
      → Passes C (exchange n c k m p) (with_claims (exchange n c k m p) g)
  sent-passes n c k m p g b u = record {
    sizes = λ h. h;
    once = λ h. sent-kept catalog p (under g) u h;
    inputs = λ h i. i;
    given = λ h. merged-given catalog n n c (claim g) k m p (under g) b.typed u h;
    first = λ h. refl;
    part = λ h i j. sent-parts catalog n n c (claim g) k m p (under g) c.part j;
    order = λ h. sent-order-up catalog n c k m p g b u c.order (order-below catalog (exchange n c k m p) b.typed) h;
  }

  -- ---- all nodes

  top-tells : (f e : Plan) → Tells C f e → TellsHere C f e
  top-tells (scan n c r m z) (scan i d s o y) h = h
  top-tells (unary n c op p) (unary i d other q) h = h.0
  top-tells (binary n c op p q) (binary i d other s t) h = h.0
  top-tells (exchange n c k m p) (exchange i d l o q) h = h.0
  top-tells f e h = absurd h

  pub kept : (e g : Plan) → Both catalog e g → allowed_derived C e ≡ true → AtEach (IsStrongestDerived C) (with_claims e g) → AtEach (IsShownDerived C) (with_claims e g)
      → (allowed_derived C (with_claims e g) ≡ true) × Tells C (with_claims e g) e
  kept (scan n c r m z) g b allowed strongest shown =
      let e : Plan = scan n c r m z in
      let passes : Passes C e (with_claims e g) = scan-passes n c r m z g b in
      (node-allowed e g b passes b.keys strongest shown allowed, node-tells e g b passes b.keys strongest shown allowed)
  kept (unary n c op p) g b allowed strongest shown =
      let e : Plan = unary n c op p in
      let f : Plan = with_claims e g in
      let s : Plan = with_claims p (under g) in
      let below : Both catalog p (under g) = record {
        typed = (typed-unary catalog e n c op p refl b.typed).0;
        also = (typed-unary catalog f n (claim g) op s refl b.also).0;
        keys = b.keys.1;
      } in
      let t = kept p (under g) below (and-left (allowed_derived C p) (allowed_here_derived C e) allowed) strongest.0 shown.0 in
      let u : Under catalog p (under g) = record { both = below; tells = top-tells s p t.1 } in
      let passes : Passes C e f = unary-passes n c op p g b u in
      let own = and-right (allowed_derived C p) (allowed_here_derived C e) allowed in (
        and-both (allowed_derived C s) (allowed_here_derived C f) t.0 (node-allowed e g b passes b.keys.0 strongest.1 shown.1 own),
        (node-tells e g b passes b.keys.0 strongest.1 shown.1 own, t.1),
      )
  kept (binary n c op p q) g b allowed strongest shown =
      let e : Plan = binary n c op p q in
      let f : Plan = with_claims e g in
      let s : Plan = with_claims p (under g) in
      let y : Plan = with_claims q (beside g) in
      let typed_e = typed-both catalog e n c op p q refl b.typed in
      let typed_f = typed-both catalog f n (claim g) op s y refl b.also in
      let near : Both catalog p (under g) = record { typed = typed_e.0; also = typed_f.0; keys = b.keys.1 } in
      let far : Both catalog q (beside g) = record { typed = typed_e.1; also = typed_f.1; keys = b.keys.2 } in
      let rest = and-right (allowed_derived C p) (allowed_derived C q && allowed_here_derived C e) allowed in
      let l = kept p (under g) near (and-left (allowed_derived C p) (allowed_derived C q && allowed_here_derived C e) allowed) strongest.0 shown.0 in
      let r = kept q (beside g) far (and-left (allowed_derived C q) (allowed_here_derived C e) rest) strongest.1 shown.1 in
      let u : Under catalog p (under g) = record { both = near; tells = top-tells s p l.1 } in
      let v : Under catalog q (beside g) = record { both = far; tells = top-tells y q r.1 } in
      let passes : Passes C e f = binary-passes n c op p q g b u v in
      let own = and-right (allowed_derived C q) (allowed_here_derived C e) rest in (
        and-both (allowed_derived C s) (allowed_derived C y && allowed_here_derived C f) l.0
            (and-both (allowed_derived C y) (allowed_here_derived C f) r.0 (node-allowed e g b passes b.keys.0 strongest.2 shown.2 own)),
        (node-tells e g b passes b.keys.0 strongest.2 shown.2 own, l.1, r.1),
      )
  kept (exchange n c k m p) g b allowed strongest shown =
      let e : Plan = exchange n c k m p in
      let f : Plan = with_claims e g in
      let s : Plan = with_claims p (under g) in
      let below : Both catalog p (under g) = record {
        typed = typed-sent catalog e n c k m p refl b.typed;
        also = typed-sent catalog f n (claim g) k m s refl b.also;
        keys = b.keys.1;
      } in
      let t = kept p (under g) below (and-left (allowed_derived C p) (allowed_here_derived C e) allowed) strongest.0 shown.0 in
      let u : Under catalog p (under g) = record { both = below; tells = top-tells s p t.1 } in
      let passes : Passes C e f = sent-passes n c k m p g b u in
      let own = and-right (allowed_derived C p) (allowed_here_derived C e) allowed in (
        and-both (allowed_derived C s) (allowed_here_derived C f) t.0 (node-allowed e g b passes b.keys.0 strongest.1 shown.1 own),
        (node-tells e g b passes b.keys.0 strongest.1 shown.1 own, t.1),
      )

pub keeps-told : KeepsTold
keeps-told s e f fine typed_e typed_f same allowed strongest shown keys =
    let D : ℕ → Relation = relation_at s.catalog in
    let P : Plan → Type 0 = λ x. IsTypedOver s.catalog x → AtEach (IsStrongestDerived D) x → AtEach (IsShownDerived D) x → KeysTell D x e → (allowed_derived D x ≡ true) × Tells D x e in
    subst P (sym (is-with e f same))
    (λ t strong show k. kept s.catalog fine e f (record { typed = (s, refl, typed_e); also = t; keys = k }) allowed strong show)
    (s, refl, typed_f) strongest shown keys
