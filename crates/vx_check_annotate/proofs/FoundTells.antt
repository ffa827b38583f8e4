-- Claims by position that keep those of a plan tell at least as much by names.
use Rattle.std.proofs.Common.{◌≡◌, ℕ, ◌==◌, Bool, true, cond, not, ◌&&◌, ◌⊎◌, ⊎_elim, List, [], ◌∷◌, map, bytes_eq, refl, sym, subst}
use Rattle.std.specs.List.{list_all}
use Rattle.std.proofs.lemmas.Bool.{eqb-true}
use Rattle.vx_rows_values.proofs.Booleans.{and-left, and-right, and-both}
use Rattle.vx_rows_values.specs.Values.{Name}
use Rattle.vx_rows_values.specs.declared.order.OrderEntry.{OrderEntry}
use Rattle.vx_rows_values.specs.Order.{entry_eq}
use Rattle.vx_catalog_relations.specs.Naming.{name_at, order_text}
use Rattle.vx_plan_nodes.specs.Plan.{by_hash, by_range, Part, one, any, all, routed, Claim, Plan, scan, unary, binary, exchange, claim}
use Rattle.vx_plan_nodes.specs.Outline.{Outline, plan_in}
use Rattle.vx_plan_nodes.specs.Outline as outline
use Rattle.vx_plan_nodes.specs.Names.{Names}
use Rattle.vx_plan_json.specs.Document as form
use Rattle.vx_plan.specs.ByName.{names_at, part_by_name, claim_by_name, tree_by_name}
use Rattle.vx_check_rules.specs.Rules.{part_gives, contains, within, is_front, covers}
use Rattle.vx_check_rules.proofs.Bools.{or-left, or-right, all-more}
use Rattle.vx_check_options.specs.Options.{is_routed}
use Rattle.vx_check_options.specs.Laws.{KeepsClaim, Keeps}
use Rattle.vx_check_options.specs.Claimed.{KeepsKeysOf, KeepsKeys}
use Rattle.vx_check_options.proofs.Telling.{same, gives-is, or-cases}
use Rattle.vx_check_annotate.specs.Claimed.{with_claims}
use Rattle.vx_check_annotate.specs.Telling.{begins_order, has_name, covers_name, part_tells, claim_tells, tree_tells}
use Rattle.vx_check_annotate.proofs.TellingFacts.{name_self, part_self}

-- ---- what is asked of parts

-- the second claim has all rows on one worker, or its part gives that of the first
abbrev pub TellsPart : Claim → Claim → Type 0
TellsPart c d = (d.part ≡ one) ⊎ (part_gives d.part c.part ≡ true)

-- so at every node
abbrev pub TellsParts : Plan → Plan → Type 0
TellsParts (scan n c r m z) x = TellsPart c (claim x)
TellsParts (unary n c op p) x = (d : Claim) × (y : Plan) × (x ≡ unary n d op y) × TellsPart c d × TellsParts p y
TellsParts (binary n c op p q) x = (d : Claim) × (y : Plan) × (z : Plan) × (x ≡ binary n d op y z) × TellsPart c d × TellsParts p y × TellsParts q z
TellsParts (exchange n c k m p) x = (d : Claim) × (y : Plan) × (x ≡ exchange n d k m y) × TellsPart c d × TellsParts p y

-- ---- parts

-- a routed part tells that each row is somewhere
routed-tells : (s : Names) (names : List Name) (q : Part) → is_routed q ≡ true → part_tells (part_by_name s names q) form.any ≡ true
routed-tells s names one h = cc
routed-tells s names any h = cc
routed-tells s names all h = cc
routed-tells s names (routed (by_hash route) cols) h = refl
routed-tells s names (routed (by_range k) cols) h = refl

-- so a part by its name tells what it gives by position
part-told : (s : Names) (names : List Name) (c q : Part) → (q ≡ one) ⊎ (part_gives q c ≡ true) → part_tells (part_by_name s names q) (part_by_name s names c) ≡ true
part-told s names c q h =
    ⊎_elim (λ e. subst (λ x. part_tells (part_by_name s names x) (part_by_name s names c) ≡ true) (sym e) refl)
    (λ g.
    ⊎_elim (λ e. subst (λ x. part_tells (part_by_name s names q) (part_by_name s names x) ≡ true) e (part_self (part_by_name s names q)))
    (λ w. subst (λ x. part_tells (part_by_name s names q) (part_by_name s names x) ≡ true) (sym w.0) (routed-tells s names q w.1)) (gives-is q c g))
    h

-- ---- orders

-- the same column has the same name
same-name : (names : List Name) (c d : ℕ) → (c == d) ≡ true → bytes_eq (name_at names c) (name_at names d) ≡ true
same-name names c d h = subst (λ x. bytes_eq (name_at names c) (name_at names x) ≡ true) (eqb-true c d h) (name_self (name_at names c))

-- an order that begins with another one does so by names
order-told : (names : List Name) (order other : List OrderEntry) → is_front order other ≡ true → begins_order (order_text names order) (order_text names other) ≡ true
order-told names [] other h = refl
order-told names (x ∷ xs) [] h = cc
order-told names (x ∷ xs) (y ∷ ys) h =
    let way : Bool = cond x.falling y.falling (not y.falling) in
    let here = and-left (entry_eq x y) (is_front xs ys) h in
    and-both (bytes_eq (name_at names x.column) (name_at names y.column) && way) (begins_order (order_text names xs) (order_text names ys))
    (and-both (bytes_eq (name_at names x.column) (name_at names y.column)) way (same-name names x.column y.column (and-left (x.column == y.column) way here)) (and-right (x.column == y.column) way here))
    (order-told names xs ys (and-right (entry_eq x y) (is_front xs ys) h))

-- ---- keys

-- a column of a key has one of its names
column-named : (names : List Name) (c : ℕ) (key : List ℕ) → contains key c ≡ true → has_name (names_at names key) (name_at names c) ≡ true
column-named names c [] h = cc
column-named names c (d ∷ key) h =
    ⊎_elim (λ e. or-left (bytes_eq (name_at names c) (name_at names d)) (has_name (names_at names key) (name_at names c)) (same-name names c d e))
    (λ e. or-right (bytes_eq (name_at names c) (name_at names d)) (has_name (names_at names key) (name_at names c)) (column-named names c key e)) (or-cases (c == d) (contains key c) h)

-- a key within another one is within it by names
within-named : (names : List Name) (cols key : List ℕ) → within cols key ≡ true → list_all (has_name (names_at names key)) (names_at names cols) ≡ true
within-named names [] key h = refl
within-named names (c ∷ cols) key h =
    and-both (has_name (names_at names key) (name_at names c)) (list_all (has_name (names_at names key)) (names_at names cols)) (column-named names c key (and-left (contains key c) (within cols key) h))
    (within-named names cols key (and-right (contains key c) (within cols key) h))

-- so a key that contains one of these does so by names
covered-named : (names : List Name) (keys : List (List ℕ)) (key : List ℕ) → covers keys key ≡ true → covers_name (map (names_at names) keys) (names_at names key) ≡ true
covered-named names [] key h = cc
covered-named names (first ∷ keys) key h =
    let here : Bool = list_all (has_name (names_at names key)) (names_at names first) in
    let later : Bool = covers_name (map (names_at names) keys) (names_at names key) in
    ⊎_elim (λ e. or-left here later (within-named names first key e)) (λ e. or-right here later (covered-named names keys key e)) (or-cases (within first key) (covers keys key) h)

-- each key contains itself
within-itself : (xs : List ℕ) → within xs xs ≡ true
within-itself [] = refl
within-itself (x ∷ xs) =
    and-both (contains (x ∷ xs) x) (list_all (contains (x ∷ xs)) xs) (or-left (x == x) (contains xs x) (same x))
    (all-more (contains xs) (contains (x ∷ xs)) xs (λ y h. or-right (y == x) (contains xs y) h) (within-itself xs))

-- and of each claimed key a part is a key by names
keys-told : (names : List Name) (claimed keys : List (List ℕ)) → ((key : List ℕ) → covers claimed key ≡ true → covers keys key ≡ true)
    → list_all (covers_name (map (names_at names) keys)) (map (names_at names) claimed) ≡ true
keys-told names [] keys h = refl
keys-told names (first ∷ claimed) keys h =
    and-both (covers_name (map (names_at names) keys) (names_at names first)) (list_all (covers_name (map (names_at names) keys)) (map (names_at names) claimed))
    (covered-named names keys first (h first (or-left (within first first) (covers claimed first) (within-itself first))))
    (keys-told names claimed keys (λ key e. h key (or-right (within first key) (covers claimed key) e)))

-- ---- claims and plans

-- at a node
claim-told : (s : Names) (names : List Name) (c d : Claim) → TellsPart c d → KeepsClaim c d → KeepsKeysOf c d → claim_tells (claim_by_name s names d) (claim_by_name s names c) ≡ true
claim-told s names c d part kept keys =
    let order : Bool = begins_order (order_text names c.order) (order_text names d.order) in
    let keyed : Bool = list_all (covers_name (map (names_at names) d.keys)) (map (names_at names) c.keys) in
    and-both (part_tells (part_by_name s names d.part) (part_by_name s names c.part)) (order && keyed) (part-told s names c.part d.part part)
    (and-both order keyed (order-told names c.order d.order kept.1) (keys-told names c.keys d.keys keys))

-- with claims that keep those of a plan, and parts that give its own, it tells by names at least as much
pub found-tells : (s : Names) (o : Outline) (x : Plan) → TellsParts (plan_in o) x → Keeps (plan_in o) x → KeepsKeys (plan_in o) x
    → tree_tells (tree_by_name s (with_claims x o)) (tree_by_name s o) ≡ true
found-tells s (outline.scan h relation shared size prefix) x t k f =
    let node : Outline = outline.scan h relation shared size prefix in
    subst (λ (y : Plan). tree_tells (tree_by_name s (with_claims y node)) (tree_by_name s node) ≡ true) (sym k.1)
    (claim-told s h.columns.names h.claim k.0 (subst (λ (y : Plan). TellsPart h.claim (claim y)) k.1 t) k.2 (subst (λ (y : Plan). KeepsKeysOf h.claim (claim y)) k.1 f))
found-tells s (outline.unary h op renamed below) x t k f =
    let node : Outline = outline.unary h op renamed below in
    let told : t.0 ≡ k.0 = cc (t.2, k.2) in
    let told_below : t.1 ≡ k.1 = cc (t.2, k.2) in
    let found : f.0 ≡ k.0 = cc (f.2, k.2) in
    let found_below : f.1 ≡ k.1 = cc (f.2, k.2) in
    let part : TellsPart h.claim k.0 = subst (λ d. TellsPart h.claim d) told t.3 in
    let keys : KeepsKeysOf h.claim k.0 = subst (λ d. KeepsKeysOf h.claim d) found f.3 in
    subst (λ (y : Plan). tree_tells (tree_by_name s (with_claims y node)) (tree_by_name s node) ≡ true) (sym k.2)
    (and-both _ _ (claim-told s h.columns.names h.claim k.0 part k.3 keys)
    (found-tells s below k.1 (subst (λ y. TellsParts (plan_in below) y) told_below t.4) k.4 (subst (λ y. KeepsKeys (plan_in below) y) found_below f.4)))
found-tells s (outline.binary h op left right) x t k f =
    let node : Outline = outline.binary h op left right in
    let told : t.0 ≡ k.0 = cc (t.3, k.3) in
    let told_left : t.1 ≡ k.1 = cc (t.3, k.3) in
    let told_right : t.2 ≡ k.2 = cc (t.3, k.3) in
    let found : f.0 ≡ k.0 = cc (f.3, k.3) in
    let found_left : f.1 ≡ k.1 = cc (f.3, k.3) in
    let found_right : f.2 ≡ k.2 = cc (f.3, k.3) in
    let part : TellsPart h.claim k.0 = subst (λ d. TellsPart h.claim d) told t.4 in
    let keys : KeepsKeysOf h.claim k.0 = subst (λ d. KeepsKeysOf h.claim d) found f.4 in
    subst (λ (y : Plan). tree_tells (tree_by_name s (with_claims y node)) (tree_by_name s node) ≡ true) (sym k.3)
    (and-both _ _ (claim-told s h.columns.names h.claim k.0 part k.4 keys)
    (and-both _ _ (found-tells s left k.1 (subst (λ y. TellsParts (plan_in left) y) told_left t.5) k.5 (subst (λ y. KeepsKeys (plan_in left) y) found_left f.5))
    (found-tells s right k.2 (subst (λ y. TellsParts (plan_in right) y) told_right t.6) k.6 (subst (λ y. KeepsKeys (plan_in right) y) found_right f.6))))
found-tells s (outline.exchange h kind merge below) x t k f =
    let node : Outline = outline.exchange h kind merge below in
    let told : t.0 ≡ k.0 = cc (t.2, k.2) in
    let told_below : t.1 ≡ k.1 = cc (t.2, k.2) in
    let found : f.0 ≡ k.0 = cc (f.2, k.2) in
    let found_below : f.1 ≡ k.1 = cc (f.2, k.2) in
    let part : TellsPart h.claim k.0 = subst (λ d. TellsPart h.claim d) told t.3 in
    let keys : KeepsKeysOf h.claim k.0 = subst (λ d. KeepsKeysOf h.claim d) found f.3 in
    subst (λ (y : Plan). tree_tells (tree_by_name s (with_claims y node)) (tree_by_name s node) ≡ true) (sym k.2)
    (and-both _ _ (claim-told s h.columns.names h.claim k.0 part k.3 keys)
    (found-tells s below k.1 (subst (λ y. TellsParts (plan_in below) y) told_below t.4) k.4 (subst (λ y. KeepsKeys (plan_in below) y) found_below f.4)))
