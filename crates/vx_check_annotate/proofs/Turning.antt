-- What plans that differ in the directions of their joins by merging have in common: what their nodes can claim, and what they show.
use Rattle.std.proofs.Common.{◌≡◌, ◌∙◌, ℕ, ◌≤◌, ◌<◌, nat_le, Bool, true, false, cond, not, ◌&&◌, List, [], ◌∷◌, ◌++◌, map, flat_map, length, take, refl, sym, ap, ap₂, subst, eqb-true}
use Rattle.std.specs.List.{list_all, list_any}
use Rattle.vx_rows_values.proofs.Booleans.{and-left, and-right}
use Rattle.vx_catalog_relations.specs.Relation.{Relation}
use Rattle.vx_catalog_relations.specs.Catalog.{relation_at, all_below}
use Rattle.vx_plan_nodes.specs.Plan.{Part, one, any, all, routed, Claim, by_hashing, by_merging, Binary, union, join, semi_join, Plan, scan, unary, binary, exchange, claim, size, is_one}
use Rattle.vx_plan_nodes.specs.Types.{width}
use Rattle.vx_plan_nodes.specs.Typed.{Scope, typed}
use Rattle.vx_plan_nodes.specs.Describe.{described_both}
use Rattle.vx_plan_nodes.specs.Outline.{Outline, plan_in}
use Rattle.vx_plan_nodes.specs.Outline as outline
use Rattle.vx_plan.specs.Exact.{AreNamed, merges_rising}
use Rattle.vx_check_rules.specs.Behaviour.{Behaviour, behaviour, over_both, ways_over, ways_from, gives, common_part, shown_part, shown_order, shown_key}
use Rattle.vx_check_options.specs.Options.{no_input, parts_of_way, with_parts, most_telling, told_parts, parts_above, parts_at, is_within_here, is_within, are_all_of}
use Rattle.vx_check_options.specs.Placed.{keyless, bare}
use Rattle.vx_check_options.specs.Laws.{Keeps, IsStrongest, AtEach}
use Rattle.vx_check_options.specs.Claimed.{KeepsKeysOf, KeepsKeys, HasAllKeys}
use Rattle.vx_check_rules.specs.Rules.{covers}
use Rattle.vx_check_directions.specs.Turned.{pairs_of, in_falls, Choice, turned, rising_pairs, all_rising}
use Rattle.vx_check_directions.specs.Directed.{falls_of, directed}
use Rattle.vx_check_directions.proofs.Alike.{alike, pairs-alike, falls-twice, size-alike, claim-alike, width-alike}
use Rattle.vx_check_directions.proofs.TurnedPlans.{typed-turned, falls-full}
use Rattle.vx_check_annotate.specs.Claimed.{claims_of}
use Rattle.vx_check_annotate.proofs.FoundTells.{TellsPart, TellsParts}
use Rattle.vx_check_annotate.proofs.PossibleFacts.{has_falls, have_falls}

-- ---- again

-- where a choice does not look at directions, it does not matter which there were
pub turned-again : (g h : Choice) → ((on : List (ℕ × ℕ)) (p q : Plan) → g on (turned h p) (turned h q) ≡ g on p q) → (p : Plan) → turned g (turned h p) ≡ turned g p
turned-again g h blind (scan n c r m z) = refl
turned-again g h blind (unary n c op p) = ap (unary n c op) (turned-again g h blind p)
turned-again g h blind (binary n c op p q) =
    let falls : List Bool = h (pairs_of op) p q in
    let chosen : g (pairs_of (in_falls falls op)) (turned h p) (turned h q) ≡ g (pairs_of op) p q =
    ap (λ on. g on (turned h p) (turned h q)) (pairs-alike falls op) ∙ blind (pairs_of op) p q in
    let same : in_falls (g (pairs_of (in_falls falls op)) (turned h p) (turned h q)) (in_falls falls op) ≡ in_falls (g (pairs_of op) p q) op =
    ap (λ fs. in_falls fs (in_falls falls op)) chosen ∙ falls-twice (g (pairs_of op) p q) falls op in
    λ i. binary n c (same i) (turned-again g h blind p i) (turned-again g h blind q i)
turned-again g h blind (exchange n c k m p) = ap (exchange n c k m) (turned-again g h blind p)

pub rising-again : (h : Choice) (p : Plan) → all_rising (turned h p) ≡ all_rising p
rising-again h p = turned-again rising_pairs h (λ on p q. refl) p

-- ---- ways

both-alike : (w : ℕ) (falls : List Bool) (op : Binary) → described_both w (in_falls falls op) ≡ described_both w op
both-alike w falls op = alike (described_both w) (λ old new on. refl) falls op

over-alike : (catalog : ℕ → Relation) (h : Choice) (falls : List Bool) (op : Binary) (p : Plan) → described_both (width catalog (turned h p)) (in_falls falls op) ≡ described_both (width catalog p) op
over-alike catalog h falls op p = ap (λ w. described_both w (in_falls falls op)) (width-alike catalog h p) ∙ both-alike (width catalog p) falls op

ways-alike : (catalog : ℕ → Relation) (h : Choice) (p : Plan) (x y : Bool × Part) → ways_from catalog (turned h p) x y ≡ ways_from catalog p x y
ways-alike catalog h (scan n c r m z) x y = refl
ways-alike catalog h (unary n c op p) x y = refl
ways-alike catalog h (binary n c op p q) x y = ap (λ d. ways_over d.meeting d x y) (over-alike catalog h (h (pairs_of op) p q) op p)
ways-alike catalog h (exchange n c k m p) x y = refl

-- ---- parts

told-alike : (catalog : ℕ → Relation) (h : Choice) (p : Plan) (c : Part) (lefts rights : List Part) → told_parts catalog (turned h p) c lefts rights ≡ told_parts catalog p c lefts rights
told-alike catalog h p one lefts rights =
    λ i. most_telling (with_parts [] (flat_map (λ x. flat_map (λ y. flat_map parts_of_way (ways-alike catalog h p (false, x) (false, y) i)) rights) lefts))
told-alike catalog h p any lefts rights =
    λ i. most_telling (with_parts [] (flat_map (λ x. flat_map (λ y. flat_map parts_of_way (ways-alike catalog h p (false, x) (false, y) i)) rights) lefts))
told-alike catalog h p all lefts rights =
    λ i. cond (list_any (λ x. list_any (λ y. list_any (λ w. gives w all) (ways-alike catalog h p (false, x) (false, y) i)) rights) lefts) (all ∷ []) []
told-alike catalog h p (routed r cols) lefts rights =
    λ i. cond (list_any (λ x. list_any (λ y. list_any (λ w. gives w (routed r cols)) (ways-alike catalog h p (false, x) (false, y) i)) rights) lefts) (routed r cols ∷ []) []

above-alike : (catalog : ℕ → Relation) (h : Choice) (p : Plan) (lefts rights : List Part) → parts_above catalog (turned h p) lefts rights ≡ parts_above catalog p lefts rights
above-alike catalog h p lefts rights =
    (λ i. cond (is_one (size-alike h p i)) (one ∷ []) (told_parts catalog (turned h p) (claim-alike h p i).part lefts rights))
    ∙ ap (λ ps. cond (is_one (size p)) (one ∷ []) ps) (told-alike catalog h p (claim p).part lefts rights)

pub parts-alike : (catalog : ℕ → Relation) (h : Choice) (p : Plan) → parts_at catalog (turned h p) ≡ parts_at catalog p
parts-alike catalog h (scan n c r m z) = refl
parts-alike catalog h (unary n c op p) =
    ap (λ ps. take 64 (parts_above catalog (unary n c op (turned h p)) ps no_input)) (parts-alike catalog h p) ∙ ap (take 64) (above-alike catalog h (unary n c op p) (parts_at catalog p) no_input)
parts-alike catalog h (binary n c op p q) =
    ap₂ (λ ps qs. take 64 (parts_above catalog (turned h (binary n c op p q)) ps qs)) (parts-alike catalog h p) (parts-alike catalog h q)
    ∙ ap (take 64) (above-alike catalog h (binary n c op p q) (parts_at catalog p) (parts_at catalog q))
parts-alike catalog h (exchange n c k m p) = ap (take 64) (above-alike catalog h (exchange n c k m p) no_input no_input)

here-alike : (catalog : ℕ → Relation) (h : Choice) (p : Plan) (lefts rights : List Part) → is_within_here catalog (turned h p) lefts rights ≡ is_within_here catalog p lefts rights
here-alike catalog h p lefts rights =
    λ i. nat_le (length (above-alike catalog h p lefts rights i)) 64
    && list_all (λ x. list_all (λ y. list_all (λ w. are_all_of w.copying (common_part w.from)) (ways-alike catalog h p (false, x) (false, y) i)) rights) lefts

pub within-alike : (catalog : ℕ → Relation) (h : Choice) (p : Plan) → is_within catalog (turned h p) ≡ is_within catalog p
within-alike catalog h (scan n c r m z) = refl
within-alike catalog h (unary n c op p) =
    ap₂ (λ b ps. b && is_within_here catalog (unary n c op (turned h p)) ps no_input) (within-alike catalog h p) (parts-alike catalog h p)
    ∙ ap (λ b. is_within catalog p && b) (here-alike catalog h (unary n c op p) (parts_at catalog p) no_input)
within-alike catalog h (binary n c op p q) =
    (λ i. within-alike catalog h p i && (within-alike catalog h q i && is_within_here catalog (turned h (binary n c op p q)) (parts-alike catalog h p i) (parts-alike catalog h q i)))
    ∙ ap (λ b. is_within catalog p && (is_within catalog q && b)) (here-alike catalog h (binary n c op p q) (parts_at catalog p) (parts_at catalog q))
within-alike catalog h (exchange n c k m p) = ap₂ (λ a b. a && b) (within-alike catalog h p) (here-alike catalog h (exchange n c k m p) no_input no_input)

-- ---- what a node shows

pub shows-alike : (catalog : ℕ → Relation) (h : Choice) (p : Plan) → behaviour catalog (turned h p) ≡ behaviour catalog p
shows-alike catalog h (scan n c r m z) = refl
shows-alike catalog h (unary n c op p) = rw (size-alike h p, claim-alike h p) refl
shows-alike catalog h (binary n c op p q) =
    ap (λ d. over_both d (turned h p) (turned h q)) (over-alike catalog h (h (pairs_of op) p q) op p) ∙ rw (size-alike h p, claim-alike h p, size-alike h q, claim-alike h q) refl
shows-alike catalog h (exchange n c k m p) = rw (size-alike h p, claim-alike h p) refl

pub strongest-alike : (catalog : ℕ → Relation) (h : Choice) (p : Plan) → IsStrongest catalog p → IsStrongest catalog (turned h p)
strongest-alike catalog h p s = record {
  alone = λ a. ap (λ (c : Claim). c.part) (claim-alike h p) ∙ s.alone (ap is_one (sym (size-alike h p)) ∙ a);
  routed_first = λ a b r cols few.
      ap (λ (b : Behaviour). shown_part b (routed r cols)) (shows-alike catalog h p)
      ∙ s.routed_first (ap is_one (sym (size-alike h p)) ∙ a) (ap (λ (c : Claim). c.part) (sym (claim-alike h p)) ∙ b) r cols few;
  longest = λ order a.
      let P : Claim → Type 0 = λ c. length order ≤ length c.order in
      subst P (sym (claim-alike h p)) (s.longest order (ap (λ (b : Behaviour). shown_order b order) (sym (shows-alike catalog h p)) ∙ a));
}

pub keys-alike : (catalog : ℕ → Relation) (h : Choice) (p : Plan) → HasAllKeys catalog p → HasAllKeys catalog (turned h p)
keys-alike catalog h p k =
    let Q : Claim → Type 0 = λ c. length c.keys < 16 in record {
      apart = rw (claim-alike h p) k.apart;
      all = λ few cols below shown.
          ap (λ (c : Claim). covers c.keys cols) (claim-alike h p)
          ∙ k.all (subst Q (claim-alike h p) few) cols (ap (λ w. all_below w cols) (sym (width-alike catalog h p)) ∙ below)
          (ap (λ (b : Behaviour). shown_key b cols) (sym (shows-alike catalog h p)) ∙ shown);
    }

-- what holds at each node of a plan, whatever its directions
pub each-alike : (P : Plan → Type 0) (h : Choice) → ((p : Plan) → P p → P (turned h p)) → (p : Plan) → AtEach P p → AtEach P (turned h p)
each-alike P h more (scan n c r m z) a = a
each-alike P h more (unary n c op p) a = (each-alike P h more p a.0, more (unary n c op p) a.1)
each-alike P h more (binary n c op p q) a = (each-alike P h more p a.0, each-alike P h more q a.1, more (binary n c op p q) a.2)
each-alike P h more (exchange n c k m p) a = (each-alike P h more p a.0, more (exchange n c k m p) a.1)

-- and the other way round
pub each-back : (P : Plan → Type 0) (h : Choice) → ((p : Plan) → P (turned h p) → P p) → (p : Plan) → AtEach P (turned h p) → AtEach P p
each-back P h more (scan n c r m z) a = a
each-back P h more (unary n c op p) a = (each-back P h more p a.0, more (unary n c op p) a.1)
each-back P h more (binary n c op p q) a = (each-back P h more p a.0, each-back P h more q a.1, more (binary n c op p q) a.2)
each-back P h more (exchange n c k m p) a = (each-back P h more p a.0, more (exchange n c k m p) a.1)

-- ---- claims

pub claims-alike : (h : Choice) (p : Plan) → claims_of (turned h p) ≡ claims_of p
claims-alike h (scan n c r m z) = refl
claims-alike h (unary n c op p) = ap (λ cs. c ∷ cs) (claims-alike h p)
claims-alike h (binary n c op p q) = ap₂ (λ cs ds. c ∷ cs ++ ds) (claims-alike h p) (claims-alike h q)
claims-alike h (exchange n c k m p) = ap (λ cs. c ∷ cs) (claims-alike h p)

pub bare-rising : (p : Plan) → bare (all_rising p) ≡ all_rising (bare p)
bare-rising (scan n c r m z) = refl
bare-rising (unary n c op p) = ap (unary n (keyless any []) op) (bare-rising p)
bare-rising (binary n c op p q) = ap₂ (binary n (keyless any []) (in_falls (map (λ x. false) (pairs_of op)) op)) (bare-rising p) (bare-rising q)
bare-rising (exchange n c k m p) = ap (exchange n (keyless any []) k m) (bare-rising p)

pub keeps-rising : (p x : Plan) → Keeps p x → Keeps (all_rising p) (all_rising x)
keeps-rising (scan n c r m z) x k = (k.0, ap all_rising k.1, k.2)
keeps-rising (unary n c op p) x k = (k.0, all_rising k.1, ap all_rising k.2, k.3, keeps-rising p k.1 k.4)
keeps-rising (binary n c op p q) x k = (k.0, all_rising k.1, all_rising k.2, ap all_rising k.3, k.4, keeps-rising p k.1 k.5, keeps-rising q k.2 k.6)
keeps-rising (exchange n c kind m p) x k = (k.0, all_rising k.1, ap all_rising k.2, k.3, keeps-rising p k.1 k.4)

pub keys-rising : (p x : Plan) → KeepsKeys p x → KeepsKeys (all_rising p) (all_rising x)
keys-rising (scan n c r m z) x k = let P : Claim → Type 0 = λ d. KeepsKeysOf c d in subst P (sym (claim-alike rising_pairs x)) k
keys-rising (unary n c op p) x k = (k.0, all_rising k.1, ap all_rising k.2, k.3, keys-rising p k.1 k.4)
keys-rising (binary n c op p q) x k = (k.0, all_rising k.1, all_rising k.2, ap all_rising k.3, k.4, keys-rising p k.1 k.5, keys-rising q k.2 k.6)
keys-rising (exchange n c kind m p) x k = (k.0, all_rising k.1, ap all_rising k.2, k.3, keys-rising p k.1 k.4)

pub parts-rising : (p x : Plan) → TellsParts p x → TellsParts (all_rising p) (all_rising x)
parts-rising (scan n c r m z) x k = let P : Claim → Type 0 = λ d. TellsPart c d in subst P (sym (claim-alike rising_pairs x)) k
parts-rising (unary n c op p) x k = (k.0, all_rising k.1, ap all_rising k.2, k.3, parts-rising p k.1 k.4)
parts-rising (binary n c op p q) x k = (k.0, all_rising k.1, all_rising k.2, ap all_rising k.3, k.4, parts-rising p k.1 k.5, parts-rising q k.2 k.6)
parts-rising (exchange n c kind m p) x k = (k.0, all_rising k.1, ap all_rising k.2, k.3, parts-rising p k.1 k.4)

-- ---- plans that resolve

falls-rise : (falls : List Bool) (on : List (ℕ × ℕ)) → length falls ≡ length on → list_all not falls ≡ true → map (λ x. false) on ≡ falls
falls-rise [] [] l h = refl
falls-rise [] (x ∷ on) l h = cc
falls-rise (f ∷ falls) [] l h = cc
falls-rise (true ∷ falls) (x ∷ on) l h = cc
falls-rise (false ∷ falls) (x ∷ on) l h = let more : length falls ≡ length on = cc in ap (λ fs. false ∷ fs) (falls-rise falls on more h)

operator-rises : (op : Binary) → has_falls op ≡ true → merges_rising op ≡ true → in_falls (map (λ x. false) (pairs_of op)) op ≡ op
operator-rises union f h = refl
operator-rises (join by_hashing on) f h = refl
operator-rises (join (by_merging falls) on) f h = ap (λ fs. join (by_merging fs) on) (falls-rise falls on (eqb-true (length falls) (length on) f) h)
operator-rises (semi_join matched on conditions) f h = refl

-- a document says no directions
pub named-rises : (catalog : List Relation) (o : Outline) → AreNamed catalog o → have_falls (plan_in o) ≡ true → all_rising (plan_in o) ≡ plan_in o
named-rises catalog (outline.scan h r shared z prefix) a f = refl
named-rises catalog (outline.unary h op renamed t) a f = ap (unary h.number h.claim op) (named-rises catalog t a.2 f)
named-rises catalog (outline.binary h op t u) a f =
    let more = and-right (have_falls (plan_in t)) (have_falls (plan_in u) && has_falls op) f in
    let left = named-rises catalog t a.2 (and-left (have_falls (plan_in t)) (have_falls (plan_in u) && has_falls op) f) in
    let right = named-rises catalog u a.3 (and-left (have_falls (plan_in u)) (has_falls op) more) in
    let here = operator-rises op (and-right (have_falls (plan_in u)) (has_falls op) more) a.5 in
    λ i. binary h.number h.claim (here i) (left i) (right i)
named-rises catalog (outline.exchange h k merge t) a f = ap (exchange h.number h.claim k merge) (named-rises catalog t a.2 f)

-- ---- the directions that claims ask for

pub directed-typed : (s : Scope) (p : Plan) → typed s p ≡ true → typed s (directed false (relation_at s.catalog) p) ≡ true
directed-typed s p t = typed-turned s (falls_of false (relation_at s.catalog)) (falls-full false (relation_at s.catalog)) p t
