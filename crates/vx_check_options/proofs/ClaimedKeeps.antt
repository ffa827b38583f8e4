-- Claims that are placed, with the keys that are found, keep what an accepted plan claims.
use Rattle.std.proofs.Common.{◌≡◌, ℕ, Bool, true, false, not, ◌&&◌, ◌||◌, inr, List, [], ◌∷◌, refl, sym, ap, ◌∙◌, subst, None}
use Rattle.std.specs.List.{list_all}
use Rattle.vx_rows_values.specs.declared.order.OrderEntry.{OrderEntry}
use Rattle.vx_rows_values.proofs.Booleans.{and-left, and-right}
use Rattle.vx_catalog_relations.specs.Relation.{Relation}
use Rattle.vx_catalog_relations.specs.Catalog.{relation_at}
use Rattle.vx_plan_nodes.specs.Plan.{Part, one, any, all, routed, Claim, Plan, scan, unary, binary, exchange, claim}
use Rattle.vx_check_rules.specs.Rules.{contains, within, is_front, covers, sizes_match, not_replicated, inputs_match, order_given, first_rows_known, part_shown, order_shown, keys_shown, allowed_here, allowed}
use Rattle.vx_check_rules.specs.Behaviour.{Keyed, keyed_from, behaviour, shown_key}
use Rattle.vx_check_rules.specs.Exactly.{KeysNameColumns}
use Rattle.vx_check_rules.proofs.Bools.{all-more}
use Rattle.vx_check_rules.proofs.Exact.{keys-all}
use Rattle.vx_check_rules.proofs.NamedKeys.{named-here, typed-keys}
use Rattle.vx_check_options.specs.Options.{first_unfit}
use Rattle.vx_check_options.specs.Placed.{keyless, placed}
use Rattle.vx_check_options.specs.Laws.{keeps_part, KeepsClaim, Keeps}
use Rattle.vx_check_options.specs.FoundKeys.{show}
use Rattle.vx_check_options.specs.Claimed.{note, FoundAt, IsClaimed, KeepsKeysOf, KeepsKeys, ClaimedKeeps}
use Rattle.vx_check_options.proofs.Entries.{front-same}
use Rattle.vx_check_options.proofs.Telling.{gives-self}
use Rattle.vx_check_options.proofs.OnlyOptions.{only-options}
use Rattle.vx_check_options.proofs.PlacedKeeps.{placed-keeps}
use Rattle.vx_check_options.proofs.KeysMonotone.{Wider, covered-passes, from-wider}

-- ---- parts and orders

-- each claim keeps itself
part-itself : (q : Part) → keeps_part q q ≡ true
part-itself one = refl
part-itself any = refl
part-itself all = refl
part-itself (routed r cols) = gives-self (routed r cols)

claim-itself : (c : Claim) → KeepsClaim c c
claim-itself c = (part-itself c.part, front-same c.order)

-- and each plan
pub plan-itself : (p : Plan) → Keeps p p
plan-itself (scan n c r m z) = (c, refl, claim-itself c)
plan-itself (unary n c op p) = (c, p, refl, claim-itself c, plan-itself p)
plan-itself (binary n c op p q) = (c, p, q, refl, claim-itself c, plan-itself p, plan-itself q)
plan-itself (exchange n c k m p) = (c, p, refl, claim-itself c, plan-itself p)

-- what a claim without keys keeps is kept with keys
claim-keyed : (c d : Claim) (q : Part) (order : List OrderEntry) (keys : List (List ℕ)) → keyless q order ≡ d → KeepsClaim c d → KeepsClaim c (note q order keys)
claim-keyed c d q order keys e k = (ap (λ (z : Claim). keeps_part c.part z.part) e ∙ k.0, ap (λ (z : Claim). is_front c.order z.order) e ∙ k.1)

-- what is placed keeps, it keeps with keys
keeps-keyed : (catalog : ℕ → Relation) (p : Plan) (q : Part) (order : List OrderEntry) (x : Plan) → Keeps p (placed catalog p q order) → IsClaimed catalog p q order x → Keeps p x
keeps-keyed catalog (scan n c r m z) q order x k f = (note q order f.0, f.1, claim-keyed c k.0 q order f.0 (cc k.1) k.2)
keeps-keyed catalog (unary n c op p) q order x k f =
    (note q order f.0, f.1, f.2, claim-keyed c k.0 q order f.0 (cc k.2) k.3, keeps-keyed catalog p _ _ f.1 (subst (λ y. Keeps p y) (cc k.2) k.4) f.3)
keeps-keyed catalog (binary n c op p p2) q order x k f = (
  note q order f.0,
  f.1,
  f.2,
  f.3,
  claim-keyed c k.0 q order f.0 (cc k.3) k.4,
  keeps-keyed catalog p _ _ f.1 (subst (λ y. Keeps p y) (cc k.3) k.5) f.4,
  keeps-keyed catalog p2 _ _ f.2 (subst (λ y. Keeps p2 y) (cc k.3) k.6) f.5,
)
keeps-keyed catalog (exchange n c kind m p) q order x k f =
    (note q order f.0, f.1, f.2, claim-keyed c k.0 q order f.0 (cc k.2) k.3, keeps-keyed catalog p _ _ f.1 (subst (λ y. Keeps p y) (cc k.2) k.4) f.3)

-- ---- keys

-- a key that is shown, of which a part is found if it is
pub if-shown : (a b : Bool) → (not a || b) ≡ true → a ≡ true → b ≡ true
if-shown true b h e = h
if-shown false b h e = cc

-- where all claimed keys are shown, a part of each is found
pub found-kept : (keyed : List Keyed) (found claimed : List (List ℕ)) → list_all (λ key. not (show keyed key) || covers found key) claimed ≡ true
    → list_all (show keyed) claimed ≡ true → Wider claimed found
found-kept keyed found [] h s key c = cc
found-kept keyed found (first ∷ claimed) h s key c =
    by (within first key) refl (found-kept keyed found claimed (and-right here _ h) (and-right (show keyed first) _ s) key) c
  where
    here : Bool
    here = not (show keyed first) || covers found first

    by : (b : Bool) → within first key ≡ b → (covers claimed key ≡ true → covers found key ≡ true) → (b || covers claimed key) ≡ true → covers found key ≡ true
    by true e more l = covered-passes (contains key) found first e (if-shown (show keyed first) (covers found first) (and-left here _ h) (and-left (show keyed first) _ s))
    by false e more l = more l

-- the last test at a node: its keys are shown
pub keys-tested : (catalog : ℕ → Relation) (p : Plan) → allowed_here catalog p ≡ true → keys_shown catalog p ≡ true
keys-tested catalog p h =
    and-right (order_shown catalog p) _
    (and-right (part_shown catalog p) _
    (and-right (first_rows_known catalog p) _ (and-right (order_given p) _ (and-right (inputs_match p) _ (and-right (not_replicated p) _ (and-right (sizes_match p) _ h))))))

-- at a node that shows over more keys what it showed
keys-here : (catalog : ℕ → Relation) (p : Plan) (lefts rights found : List (List ℕ)) → FoundAt catalog p lefts rights found → KeysNameColumns catalog p → allowed_here catalog p ≡ true
    → ((key : List ℕ) → shown_key (behaviour catalog p) key ≡ true → show (keyed_from catalog p lefts rights) key ≡ true) → Wider (claim p).keys found
keys-here catalog p lefts rights found f named ok more =
    let keyed : List Keyed = keyed_from catalog p lefts rights in
    let shown : list_all (shown_key (behaviour catalog p)) (claim p).keys ≡ true =
    sym (keys-all catalog p (claim p).keys (named-here catalog p named)) ∙ keys-tested catalog p ok in
    found-kept keyed found (claim p).keys f.kept (all-more (shown_key (behaviour catalog p)) (show keyed) (claim p).keys more shown)

-- at the top of a plan
pub keys-at-top : (p x : Plan) → KeepsKeys p x → Wider (claim p).keys (claim x).keys
keys-at-top (scan n c r m z) x h = h
keys-at-top (unary n c op p) x h = subst (λ y. KeepsKeysOf c (claim y)) (sym h.2) h.3
keys-at-top (binary n c op p q) x h = subst (λ y. KeepsKeysOf c (claim y)) (sym h.3) h.4
keys-at-top (exchange n c k m p) x h = subst (λ y. KeepsKeysOf c (claim y)) (sym h.2) h.3

-- at every node: the inputs keep their keys, so that each claimed one is still shown, and a part of it is found
keys-keep : (catalog : ℕ → Relation) (p : Plan) (q : Part) (order : List OrderEntry) (x : Plan) → KeysNameColumns catalog p → allowed catalog p ≡ true
    → IsClaimed catalog p q order x → KeepsKeys p x
keys-keep catalog (scan n c r m z) q order x named ok f =
    subst (λ y. KeepsKeysOf c (claim y)) (sym f.1) (keys-here catalog (scan n c r m z) [] [] f.0 f.2 named ok (λ key e. e))
keys-keep catalog (unary n c op p) q order x named ok f =
    let node : Plan = unary n c op p in
    let below : KeepsKeys p f.1 = keys-keep catalog p _ _ f.1 named.1 (and-left (allowed catalog p) (allowed_here catalog node) ok) f.3 in (
      note q order f.0,
      f.1,
      f.2,
      keys-here catalog node (claim f.1).keys [] f.0 f.4 named (and-right (allowed catalog p) (allowed_here catalog node) ok)
          (λ key e. from-wider catalog node (claim p).keys [] (claim f.1).keys [] key (keys-at-top p f.1 below) (λ other l. l) e),
      below,
    )
keys-keep catalog (binary n c op p p2) q order x named ok f =
    let node : Plan = binary n c op p p2 in
    let rest = and-right (allowed catalog p) (allowed catalog p2 && allowed_here catalog node) ok in
    let left : KeepsKeys p f.1 = keys-keep catalog p _ _ f.1 named.1 (and-left (allowed catalog p) (allowed catalog p2 && allowed_here catalog node) ok) f.4 in
    let right : KeepsKeys p2 f.2 = keys-keep catalog p2 _ _ f.2 named.2 (and-left (allowed catalog p2) (allowed_here catalog node) rest) f.5 in (
      note q order f.0,
      f.1,
      f.2,
      f.3,
      keys-here catalog node (claim f.1).keys (claim f.2).keys f.0 f.6 named (and-right (allowed catalog p2) (allowed_here catalog node) rest)
          (λ key e. from-wider catalog node (claim p).keys (claim p2).keys (claim f.1).keys (claim f.2).keys key (keys-at-top p f.1 left) (keys-at-top p2 f.2 right) e),
      left,
      right,
    )
keys-keep catalog (exchange n c k m p) q order x named ok f =
    let node : Plan = exchange n c k m p in
    let below : KeepsKeys p f.1 = keys-keep catalog p _ _ f.1 named.1 (and-left (allowed catalog p) (allowed_here catalog node) ok) f.3 in (
      note q order f.0,
      f.1,
      f.2,
      keys-here catalog node (claim f.1).keys [] f.0 f.4 named (and-right (allowed catalog p) (allowed_here catalog node) ok)
          (λ key e. from-wider catalog node (claim p).keys [] (claim f.1).keys [] key (keys-at-top p f.1 below) (λ other l. l) e),
      below,
    )

pub claimed-keeps : ClaimedKeeps
claimed-keeps s p q order x ready ok f =
    let catalog : ℕ → Relation = relation_at s.catalog in
    let fit : first_unfit catalog p ≡ None = (only-options s p p (plan-itself p) (inr refl) ready.1 ok).0 in
    (keeps-keyed catalog p q order x (placed-keeps catalog p q order fit ready.2 ready.3) f, keys-keep catalog p q order x (typed-keys s p ready.1) ok f)
