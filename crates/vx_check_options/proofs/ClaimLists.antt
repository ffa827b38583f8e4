-- The claims of a plan, node by node, as the program puts them behind one another.
use Rattle.std.proofs.Common.{◌≡◌, ℕ, zero, suc, Bool, true, ◌&&◌, ◌||◌, Some, slice_get, get_or, List, map, ◌<◌, arith, [], ◌∷◌, ◌++◌, length, refl, sym, ap, ◌∙◌, subst, append_assoc, Result, Ok, Err}
use Rattle.std.specs.Result.{IfOk}
use Rattle.vx_rows_values.specs.Order.{order_columns}
use Rattle.vx_rows_values.specs.declared.order.OrderEntry.{OrderEntry}
use Rattle.vx_rows_values.proofs.Booleans.{and-right}
use Rattle.vx_catalog_relations.specs.Relation.{Relation}
use Rattle.vx_plan_nodes.specs.Plan.{Part, Claim, Unary, Binary, ExchangeKind, Size, Plan, scan, unary, binary, exchange, claim, size, is_one}
use Rattle.vx_plan_nodes.specs.declared.typed.Claim as rust_claim
use Rattle.vx_plan_nodes.specs.Outline.{claim_of}
use Rattle.vx_plan_nodes.specs.Types.{types_of, width}
use Rattle.vx_plan_nodes.specs.Describe.{whole_rows, described}
use Rattle.vx_check_rules.specs.Rules.{covers, within, numbers_below, is_total_order}
use Rattle.vx_check_rules.specs.Behaviour.{keyed_from}
use Rattle.vx_check_rules.proofs.WidthFacts.{types_of-width}
use Rattle.vx_check_options.specs.Options.{no_input, parts_at, places_at}
use Rattle.vx_check_options.specs.Placed.{order_along, order_below, order_to_left, order_to_right, order_sent, parts_below, part_sent}
use Rattle.vx_check_options.specs.FoundKeys.{show, FoundKeys}
use Rattle.vx_check_options.proofs.WithoutKeys.{claimed-width}
use Rattle.vx_check_options.specs.Claimed.{note, names_keys_at, names_keys, keys_of, keys_at, FoundAt, IsClaimed, reversed_claims}

-- what was found of a node's claimed keys
pub found-at : (catalog : ℕ → Relation) (p : Plan) (lefts rights claimed found : List (List ℕ)) → claimed ≡ (claim p).keys
    → FoundKeys (show (keyed_from catalog p lefts rights)) (length (types_of catalog p)) claimed found → FoundAt catalog p lefts rights found
found-at catalog p lefts rights claimed found are f =
    let P : List (List ℕ) → Type 0 = λ ks. FoundKeys (show (keyed_from catalog p lefts rights)) (length (types_of catalog p)) ks found in
    let W : ℕ → Type 0 = λ w. FoundKeys (show (keyed_from catalog p lefts rights)) w (claim p).keys found in
    subst W (types_of-width catalog p) (subst P are f)

pub scan-claimed : (catalog : ℕ → Relation) (p : Plan) (n : ℕ) (c : Claim) (r : ℕ) (m : Bool) (z : Size) → p ≡ scan n c r m z → (q : Part) (order : List OrderEntry) (keys : List (List ℕ))
    → FoundAt catalog p [] [] keys → IsClaimed catalog p q order (scan n (note q order keys) r m z)
scan-claimed catalog p n c r m z is q order keys f =
    let P : Plan → Type 0 = λ x. FoundAt catalog x [] [] keys → IsClaimed catalog x q order (scan n (note q order keys) r m z) in subst P (sym is) (λ g. (keys, refl, g)) f

pub unary-claimed : (catalog : ℕ → Relation) (p : Plan) (n : ℕ) (c : Claim) (op : Unary) (below : Plan) → p ≡ unary n c op below → (q : Part) (order : List OrderEntry) (keys : List (List ℕ)) (y : Plan)
    → IsClaimed catalog below (parts_below catalog p q (parts_at catalog below) no_input).0 (order_below (described op).order (described op).copying order (places_at catalog below)) y
    → FoundAt catalog p (claim y).keys [] keys → IsClaimed catalog p q order (unary n (note q order keys) op y)
unary-claimed catalog p n c op below is q order keys y i f =
    let P : Plan → Type 0 = λ x.
    IsClaimed catalog below (parts_below catalog x q (parts_at catalog below) no_input).0 (order_below (described op).order (described op).copying order (places_at catalog below)) y
    → FoundAt catalog x (claim y).keys [] keys → IsClaimed catalog x q order (unary n (note q order keys) op y) in
    subst P (sym is) (λ j g. (keys, y, refl, j, g)) i f

pub binary-claimed : (catalog : ℕ → Relation) (p : Plan) (n : ℕ) (c : Claim) (op : Binary) (left right : Plan) → p ≡ binary n c op left right → (q : Part) (order : List OrderEntry) (keys : List (List ℕ)) (y z : Plan)
    → IsClaimed catalog left (parts_below catalog p q (parts_at catalog left) (parts_at catalog right)).0 (order_to_left op order (places_at catalog left)) y
    → IsClaimed catalog right (parts_below catalog p q (parts_at catalog left) (parts_at catalog right)).1 (order_to_right op (places_at catalog right)) z
    → FoundAt catalog p (claim y).keys (claim z).keys keys → IsClaimed catalog p q order (binary n (note q order keys) op y z)
binary-claimed catalog p n c op left right is q order keys y z i j f =
    let P : Plan → Type 0 = λ x.
    IsClaimed catalog left (parts_below catalog x q (parts_at catalog left) (parts_at catalog right)).0 (order_to_left op order (places_at catalog left)) y
    → IsClaimed catalog right (parts_below catalog x q (parts_at catalog left) (parts_at catalog right)).1 (order_to_right op (places_at catalog right)) z
    → FoundAt catalog x (claim y).keys (claim z).keys keys → IsClaimed catalog x q order (binary n (note q order keys) op y z) in
    subst P (sym is) (λ a b g. (keys, y, z, refl, a, b, g)) i j f

pub exchange-claimed : (catalog : ℕ → Relation) (p : Plan) (n : ℕ) (c : Claim) (k : ExchangeKind) (merge : List OrderEntry) (below : Plan) → p ≡ exchange n c k merge below
    → (q : Part) (order : List OrderEntry) (keys : List (List ℕ)) (y : Plan)
    → IsClaimed catalog below (part_sent k order (parts_at catalog below)) (order_along whole_rows (order_sent k (is_one (size below)) merge order) (places_at catalog below)) y
    → FoundAt catalog p (claim y).keys [] keys → IsClaimed catalog p q order (exchange n (note q order keys) k merge y)
exchange-claimed catalog p n c k merge below is q order keys y i f =
    let P : Plan → Type 0 = λ x. FoundAt catalog x (claim y).keys [] keys → IsClaimed catalog x q order (exchange n (note q order keys) k merge y) in
    subst P (sym is) (λ g. (keys, y, refl, i, g)) f

-- columns that the claimed keys of a whole plan name are named at its top
pub names-here : (catalog : ℕ → Relation) (p : Plan) → names_keys catalog p ≡ true → names_keys_at catalog p ≡ true
names-here catalog (scan n c r m z) h = h
names-here catalog (unary n c op p) h = and-right (names_keys catalog p) (names_keys_at catalog (unary n c op p)) h
names-here catalog (binary n c op p q) h =
    and-right (names_keys catalog q) (names_keys_at catalog (binary n c op p q)) (and-right (names_keys catalog p) (names_keys catalog q && names_keys_at catalog (binary n c op p q)) h)
names-here catalog (exchange n c k m p) h = and-right (names_keys catalog p) (names_keys_at catalog (exchange n c k m p)) h

-- ---- claims behind others

get-more : (xs ys : List Claim) (i : ℕ) (c : Claim) → slice_get xs i ≡ Some c → slice_get (xs ++ ys) i ≡ Some c
get-more [] ys i c h = cc
get-more (x ∷ xs) ys zero c h = h
get-more (x ∷ xs) ys (suc i) c h = get-more xs ys i c h

get-last : (xs : List Claim) (c : Claim) → slice_get (xs ++ c ∷ []) (length xs) ≡ Some c
get-last [] c = refl
get-last (x ∷ xs) c = get-last xs c

-- the keys of a claim that stands there, also when more are put behind it
pub keys-there : (claims : List Claim) (i : ℕ) (c : Claim) → slice_get claims i ≡ Some c → keys_at claims (Some i) ≡ c.keys
keys-there claims i c h = ap keys_of h

pub keys-still : (claims more all : List Claim) (i : ℕ) (c : Claim) → slice_get claims i ≡ Some c → all ≡ claims ++ more → keys_at all (Some i) ≡ c.keys
keys-still claims more all i c h e = ap (λ cs. keys_at cs (Some i)) e ∙ ap keys_of (get-more claims more i c h)

-- the claim at a place, as the program has it
pub claim-within : (cs : List rust_claim.Claim) (i : ℕ) (c : Claim) → slice_get (map claim_of cs) i ≡ Some c → i < length cs
claim-within [] i c h = cc
claim-within (x ∷ xs) zero c h = omega arith
claim-within (x ∷ xs) (suc i) c h = let l = claim-within xs i c h in omega (arith, l)

pub claim-there : (cs : List rust_claim.Claim) (i : ℕ) (c : Claim) (r : rust_claim.Claim) → r ≡ get_or cs i r → slice_get (map claim_of cs) i ≡ Some c → claim_of r ≡ c
claim-there [] i c r e h = cc
claim-there (x ∷ xs) zero c r e h = let is : claim_of x ≡ c = cc in ap claim_of e ∙ is
claim-there (x ∷ xs) (suc i) c r e h = claim-there xs i c r e h

-- the claim of a node, whatever keys were found, behind those below
pub last-put : {E : Type 0} (r : Result ℕ E) (q : Part) (order : List OrderEntry) (F : List (List ℕ) → Type 0) (C : Plan → Type 0) (x : List (List ℕ) → Plan) (new more old below : List Claim)
    → ((keys : List (List ℕ)) → F keys → C (x keys)) → ((keys : List (List ℕ)) → claim (x keys) ≡ note q order keys) → ((keys : List (List ℕ)) → reversed_claims (x keys) ≡ below ++ note q order keys ∷ [])
    → more ≡ old ++ below → IfOk r (λ at. (keys : List (List ℕ)) × F keys × (at ≡ length more) × (new ≡ more ++ note q order keys ∷ []))
    → IfOk r (λ at. (y : Plan) × C y × (slice_get new at ≡ Some (claim y)) × (new ≡ old ++ reversed_claims y))
last-put (Ok at) q order F C x new more old below is its all here put =
    let keys = put.0 in
    let last : Claim = note q order keys in
    let there : slice_get new at ≡ Some (claim (x keys)) = ap (λ cs. slice_get cs at) put.3 ∙ ap (slice_get (more ++ last ∷ [])) put.2 ∙ get-last more last ∙ ap (λ c. Some c) (sym (its keys)) in
    (x keys, is keys put.1, there, put.3 ∙ ap (λ cs. cs ++ last ∷ []) here ∙ append_assoc old below (last ∷ []) ∙ ap (λ cs. old ++ cs) (sym (all keys)))
last-put (Err e) q order F C x new more old below is its all here put = tt

-- the parts of two inputs, each by an equal one
pub both-parts : (catalog : ℕ → Relation) (p : Plan) (q a b x y : Part) (ls rs lefts rights : List Part) → a ≡ x → b ≡ y → (x, y) ≡ parts_below catalog p q ls rs → ls ≡ lefts → rs ≡ rights
    → (a, b) ≡ parts_below catalog p q lefts rights
both-parts catalog p q a b x y ls rs lefts rights e f g h k =
    ap (λ u. (u, b)) e ∙ ap (λ v. (x, v)) f ∙ g ∙ ap (λ l. parts_below catalog p q l rs) h ∙ ap (λ r. parts_below catalog p q lefts r) k

-- claims under an equal part and an equal order
pub claimed-as : (catalog : ℕ → Relation) (p : Plan) (q r : Part) (order other : List OrderEntry) (y : Plan) → q ≡ r → order ≡ other → IsClaimed catalog p q order y → IsClaimed catalog p r other y
claimed-as catalog p q r order other y e f is =
    let P : Part → Type 0 = λ a. IsClaimed catalog p a order y in
    let O : List OrderEntry → Type 0 = λ o. IsClaimed catalog p r o y in subst O f (subst P e is)

-- whether that is a total one
pub claimed-total : (catalog : ℕ → Relation) (p : Plan) (q : Part) (order : List OrderEntry) (x : Plan) (c : Claim) (w : ℕ) → IsClaimed catalog p q order x → c ≡ claim x → w ≡ width catalog p
    → (covers c.keys (order_columns c.order) || within (numbers_below w) (order_columns c.order)) ≡ is_total_order catalog x
claimed-total catalog p q order x c w is same wide =
    let w_is : w ≡ width catalog x = wide ∙ sym (claimed-width catalog p q order x is) in
    rw (same, w_is) refl
