-- Each plan tells what it claims itself.
use Rattle.std.proofs.Common.{◌≡◌, ℕ, ◌==◌, Bool, true, ◌&&◌, ◌||◌, List, [], ◌∷◌, refl, eq-eqb}
use Rattle.std.specs.List.{list_all, list_any}
use Rattle.vx_rows_values.specs.declared.order.OrderEntry.{OrderEntry}
use Rattle.vx_rows_values.proofs.Booleans.{and-both}
use Rattle.vx_catalog_relations.specs.Relation.{Relation}
use Rattle.vx_plan_nodes.specs.Plan.{Route, by_hash, by_range, Part, one, any, all, routed, Plan, scan, unary, binary, exchange, claim, size, is_one}
use Rattle.vx_plan_facts.specs.Determined.{Columns, determined}
use Rattle.vx_plan_facts.specs.DeterminedFacts.{Within}
use Rattle.vx_plan_facts.specs.Equal.{Equality, equal_at}
use Rattle.vx_plan_facts.specs.Following.{set_of, equal_entries, begins_equally, short, order_follows, key_follows}
use Rattle.vx_plan_facts.proofs.Least.{more-from-more}
use Rattle.vx_plan_facts.proofs.Tests.{or-left, or-right, all-more}
use Rattle.vx_check_rules.specs.Rules.{numbers_eq, route_eq, part_gives}
use Rattle.vx_check_rules.specs.Derived.{part_matches}
use Rattle.vx_check_shown.specs.PartLaws.{told}
use Rattle.vx_check_keeping.specs.Telling.{tells_here, tells_derived, TellsItself}
use Rattle.vx_check_shown.proofs.Entries.{entry-itself}
use Rattle.vx_check_shown.proofs.Equivalent.{equal-equivalence}

-- ---- parts

numbers-itself : (xs : List ℕ) → numbers_eq xs xs ≡ true
numbers-itself [] = refl
numbers-itself (x ∷ xs) = and-both (x == x) (numbers_eq xs xs) (eq-eqb x x refl) (numbers-itself xs)

route-itself : (r : Route) → route_eq r r ≡ true
route-itself (by_hash name) = numbers-itself name
route-itself (by_range k) = eq-eqb k k refl

part-itself : (q : Part) → part_gives q q ≡ true
part-itself one = refl
part-itself any = refl
part-itself all = refl
part-itself (routed r cols) = and-both (route_eq r r) (numbers_eq cols cols) (route-itself r) (numbers-itself cols)

-- ---- orders

begins-itself : (e : Equality) → ((c : ℕ) → e c c ≡ true) → (xs : List OrderEntry) → begins_equally e xs xs ≡ true
begins-itself e h [] = refl
begins-itself e h (x ∷ xs) = and-both (equal_entries e x x) (begins_equally e xs xs) (entry-itself e h x) (begins-itself e h xs)

-- ---- keys

pub all-among : (key xs : List ℕ) → ((c : ℕ) → set_of xs c ≡ true → set_of key c ≡ true) → list_all (set_of key) xs ≡ true
all-among key [] h = refl
all-among key (x ∷ xs) h =
    and-both (set_of key x) (list_all (set_of key) xs) (h x (or-left (x == x) (set_of xs x) (eq-eqb x x refl))) (all-among key xs (λ c m. h c (or-right (c == x) (set_of xs c) m)))

module _ (det : Columns → Columns) (holds : (s : Columns) → Within s (det s)) where
  key-itself : (key : List ℕ) → list_all (det (set_of key)) key ≡ true
  key-itself key = all-more (set_of key) (det (set_of key)) (holds (set_of key)) key (all-among key key (λ c m. m))

  keys-follow : (keys ks : List (List ℕ)) → ((test : List ℕ → Bool) → list_any test ks ≡ true → list_any test keys ≡ true) → list_all (key_follows det keys) ks ≡ true
  keys-follow keys [] h = refl
  keys-follow keys (k ∷ ks) h =
      let test : List ℕ → Bool = list_all (det (set_of k)) in
      and-both (key_follows det keys k) (list_all (key_follows det keys) ks) (h test (or-left (test k) (list_any test ks) (key-itself k)))
      (keys-follow keys ks (λ t m. h t (or-right (t k) (list_any t ks) m)))

-- ---- nodes

here-itself : (catalog : ℕ → Relation) (p : Plan) → tells_here catalog p p ≡ true
here-itself catalog p =
    let e : Equality = equal_at catalog p in
    let det : Columns → Columns = determined catalog p in
    let q : Part = (claim p).part in
    let order : List OrderEntry = (claim p).order in
    let keys : List (List ℕ) = (claim p).keys in
    and-both (is_one (size p) || told e q q) (order_follows e det order order && list_all (key_follows det keys) keys)
    (or-right (is_one (size p)) (told e q q) (or-left (part_gives q q) (part_matches e q q) (part-itself q)))
    (and-both (order_follows e det order order) (list_all (key_follows det keys) keys) (begins-itself e (equal-equivalence catalog p).itself (short det order))
    (keys-follow det (more-from-more.itself catalog p) keys keys (λ t m. m)))

pub tells-itself : TellsItself
tells-itself catalog (scan n c r m z) = here-itself catalog (scan n c r m z)
tells-itself catalog (unary n c op p) =
    and-both (tells_derived catalog p p) (tells_here catalog (unary n c op p) (unary n c op p)) (tells-itself catalog p) (here-itself catalog (unary n c op p))
tells-itself catalog (binary n c op p q) =
    let top : Plan = binary n c op p q in
    and-both (tells_derived catalog p p) (tells_derived catalog q q && tells_here catalog top top) (tells-itself catalog p)
    (and-both (tells_derived catalog q q) (tells_here catalog top top) (tells-itself catalog q) (here-itself catalog top))
tells-itself catalog (exchange n c k m p) =
    and-both (tells_derived catalog p p) (tells_here catalog (exchange n c k m p) (exchange n c k m p)) (tells-itself catalog p) (here-itself catalog (exchange n c k m p))
