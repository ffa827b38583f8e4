-- Where an accepted plan is kept with its keys, the first rows that its limits take are known still; and what refuses the claims that are found is a node that no claims
-- can save, or a limit.
use Rattle.std.proofs.Common.{◌≡◌, ◌∙◌, ℕ, ◌==◌, Bool, true, false, cond, not, ◌&&◌, ◌||◌, ⊎_elim, List, [], ◌∷◌, Option, Some, None, true≢false, refl, sym, ap, subst}
use Rattle.vx_rows_values.proofs.Booleans.{and-left, and-right, and-both}
use Rattle.vx_rows_values.specs.declared.order.OrderEntry.{OrderEntry}
use Rattle.vx_rows_values.specs.Order.{order_columns, entry_eq}
use Rattle.vx_catalog_relations.specs.Relation.{Relation}
use Rattle.vx_plan_nodes.specs.Plan.{Claim, claim, Unary, select, project, distinct, sort, group, limit, Plan, scan, unary, binary, exchange, size, is_one}
use Rattle.vx_plan_nodes.specs.Types.{width, unary_width, binary_width}
use Rattle.vx_check_rules.specs.Rules.{contains, within, is_front, covers, numbers_below, is_total_order, sizes_match, not_replicated, inputs_match, order_given, first_rows_known, allowed_here, allowed}
use Rattle.vx_check_rules.specs.Refusal.{Rule, size_mismatch, root_not_one, part_not_shown, inputs_not_matched, replicated_input, order_not_shown, order_needed, key_not_shown, total_not_shown, first_rows_open, or_else, refused_at}
use Rattle.vx_check_rules.proofs.Bools.{or-left, or-right, all-more}
use Rattle.vx_check_rules.proofs.Refusals.{none-both}
use Rattle.vx_check_options.specs.Options.{can_send, can_meet, can_order, can_keep, fit_tests, first_unfit}
use Rattle.vx_check_options.specs.Laws.{KeepsClaim, Keeps}
use Rattle.vx_check_options.specs.Claimed.{KeepsKeysOf, KeepsKeys, first_input, second_input, fit_tests_with, unfit_in}
use Rattle.vx_check_options.proofs.ClaimedIsFit.{none-unfit}
use Rattle.vx_check_options.proofs.FoundFacts.{within-trans, covers-more}
use Rattle.vx_check_annotate.proofs.SavedFacts.{some-is, which}

-- ---- nodes that keep claims are the same

size-kept : (p x : Plan) → Keeps p x → size x ≡ size p
size-kept (scan n c r m z) x k = ap size k.1
size-kept (unary n c op p) x k = ap size k.2 ∙ size-kept p k.1 k.4
size-kept (binary n c op p q) x k = ap size k.3 ∙ size-kept p k.1 k.5
size-kept (exchange n c kind m p) x k = ap size k.2

width-kept : (catalog : ℕ → Relation) (p x : Plan) → Keeps p x → width catalog x ≡ width catalog p
width-kept catalog (scan n c r m z) x k = ap (width catalog) k.1
width-kept catalog (unary n c op p) x k = ap (width catalog) k.2 ∙ ap (unary_width op) (width-kept catalog p k.1 k.4)
width-kept catalog (binary n c op p q) x k =
    ap (width catalog) k.3 ∙ (λ i. binary_width op (width-kept catalog p k.1 k.5 i) (width-kept catalog q k.2 k.6 i))
width-kept catalog (exchange n c kind m p) x k = ap (width catalog) k.2 ∙ width-kept catalog p k.1 k.4

-- ---- total orders

pub front-within : (xs ys : List OrderEntry) → is_front xs ys ≡ true → within (order_columns xs) (order_columns ys) ≡ true
front-within [] ys h = refl
front-within (x ∷ xs) [] h = cc
front-within (x ∷ xs) (y ∷ ys) h =
    let same : (x.column == y.column) ≡ true = and-left (x.column == y.column) (cond x.falling y.falling (not y.falling)) (and-left (entry_eq x y) (is_front xs ys) h) in
    let others : List ℕ = order_columns ys in
    and-both (contains (y.column ∷ others) x.column) (within (order_columns xs) (y.column ∷ others)) (or-left (x.column == y.column) (contains others x.column) same)
    (all-more (contains others) (contains (y.column ∷ others)) (order_columns xs) (λ c e. or-right (c == y.column) (contains others c) e) (front-within xs ys (and-right (entry_eq x y) (is_front xs ys) h)))

keeps-top : (p x : Plan) → Keeps p x → KeepsClaim (claim p) (claim x)
keeps-top (scan n c r m z) x k = let P : Plan → Type 0 = λ y. KeepsClaim c (claim y) in subst P (sym k.1) k.2
keeps-top (unary n c op p) x k = let P : Plan → Type 0 = λ y. KeepsClaim c (claim y) in subst P (sym k.2) k.3
keeps-top (binary n c op p q) x k = let P : Plan → Type 0 = λ y. KeepsClaim c (claim y) in subst P (sym k.3) k.4
keeps-top (exchange n c kind m p) x k = let P : Plan → Type 0 = λ y. KeepsClaim c (claim y) in subst P (sym k.2) k.3

keys-top : (p x : Plan) → KeepsKeys p x → KeepsKeysOf (claim p) (claim x)
keys-top (scan n c r m z) x k = k
keys-top (unary n c op p) x k = let P : Plan → Type 0 = λ y. KeepsKeysOf c (claim y) in subst P (sym k.2) k.3
keys-top (binary n c op p q) x k = let P : Plan → Type 0 = λ y. KeepsKeysOf c (claim y) in subst P (sym k.3) k.4
keys-top (exchange n c kind m p) x k = let P : Plan → Type 0 = λ y. KeepsKeysOf c (claim y) in subst P (sym k.2) k.3

-- a total order stays one
pub total-kept : (catalog : ℕ → Relation) (p x : Plan) → Keeps p x → KeepsKeys p x → is_total_order catalog p ≡ true → is_total_order catalog x ≡ true
total-kept catalog p x k j h = by (covers (claim p).keys (order_columns (claim p).order)) refl h
  where
    wide : width catalog x ≡ width catalog p
    wide = width-kept catalog p x k

    longer : within (order_columns (claim p).order) (order_columns (claim x).order) ≡ true
    longer = front-within (claim p).order (claim x).order (keeps-top p x k).1

    by : (b : Bool) → covers (claim p).keys (order_columns (claim p).order) ≡ b → (b || within (numbers_below (width catalog p)) (order_columns (claim p).order)) ≡ true → is_total_order catalog x ≡ true
    by true e t =
        or-left (covers (claim x).keys (order_columns (claim x).order)) (within (numbers_below (width catalog x)) (order_columns (claim x).order))
        (covers-more (claim x).keys (order_columns (claim p).order) (order_columns (claim x).order) (keys-top p x j (order_columns (claim p).order) e) longer)
    by false e t =
        or-right (covers (claim x).keys (order_columns (claim x).order)) (within (numbers_below (width catalog x)) (order_columns (claim x).order))
        (rw wide (within-trans (numbers_below (width catalog p)) (order_columns (claim p).order) (order_columns (claim x).order) t longer))

-- ---- the first rows of limits

-- the input of a limit is kept by this one
known-over : (catalog : ℕ → Relation) (n : ℕ) (c d : Claim) (op : Unary) (p y : Plan) → Keeps p y → KeepsKeys p y → first_rows_known catalog (unary n c op p) ≡ true
    → first_rows_known catalog (unary n d op y) ≡ true
known-over catalog n c d (select fs) p y k j h = refl
known-over catalog n c d (project es) p y k j h = refl
known-over catalog n c d (distinct cols) p y k j h = refl
known-over catalog n c d (sort of_parts cols) p y k j h = refl
known-over catalog n c d (group phase by aggregates) p y k j h = refl
known-over catalog n c d (limit m) p y k j h =
    and-both (is_one (size y)) (is_total_order catalog y) (ap is_one (size-kept p y k) ∙ and-left (is_one (size p)) (is_total_order catalog p) h)
    (total-kept catalog p y k j (and-right (is_one (size p)) (is_total_order catalog p) h))

-- that they are known is among the tests of a node
known-here : (catalog : ℕ → Relation) (p : Plan) → allowed_here catalog p ≡ true → first_rows_known catalog p ≡ true
known-here catalog p h =
    and-left (first_rows_known catalog p) _ (and-right (order_given p) _ (and-right (inputs_match p) _ (and-right (not_replicated p) _ (and-right (sizes_match p) _ h))))

-- of two answers none
both-none : (o u : Option (ℕ × Rule)) → o ≡ None → u ≡ None → or_else o u ≡ None
both-none o u h k = ap (λ v. or_else v u) h ∙ k

-- where they are known, the tests are those that no claims can pass
fit-here : (catalog : ℕ → Relation) (n : ℕ) (known : Bool) (p : Plan) → known ≡ true → refused_at n (fit_tests catalog p) ≡ None → refused_at n (fit_tests_with known catalog p) ≡ None
fit-here catalog n known p e h = ap (λ b. refused_at n (fit_tests_with b catalog p)) e ∙ h

-- no node is unfit with claims that keep those of an accepted plan
pub unfit-kept : (catalog : ℕ → Relation) (p x : Plan) → allowed catalog p ≡ true → first_unfit catalog p ≡ None → Keeps p x → KeepsKeys p x → unfit_in catalog p x ≡ None
unfit-kept catalog (scan n c r m z) x ok fits k j = subst (λ y. unfit_in catalog (scan n c r m z) y ≡ None) (sym k.1) (fit-here catalog n true (scan n c r m z) refl fits)
unfit-kept catalog (unary n c op p) x ok fits k j =
    let node : Plan = unary n c op p in
    let none = none-both (first_unfit catalog p) (refused_at n (fit_tests catalog node)) fits in
    let same : j.1 ≡ k.1 = cc (j.2, k.2) in
    let keys : KeepsKeys p k.1 = subst (λ y. KeepsKeys p y) same j.4 in
    let known = known-over catalog n c k.0 op p k.1 k.4 keys (known-here catalog node (and-right (allowed catalog p) (allowed_here catalog node) ok)) in
    subst (λ y. unfit_in catalog node y ≡ None) (sym k.2)
    (both-none _ _ (unfit-kept catalog p k.1 (and-left (allowed catalog p) (allowed_here catalog node) ok) none.0 k.4 keys)
    (fit-here catalog n (first_rows_known catalog (unary n k.0 op k.1)) node known none.1))
unfit-kept catalog (binary n c op p q) x ok fits k j =
    let node : Plan = binary n c op p q in
    let here = refused_at n (fit_tests catalog node) in
    let none = none-both (first_unfit catalog p) (or_else (first_unfit catalog q) here) fits in
    let more = none-both (first_unfit catalog q) here none.1 in
    let left : j.1 ≡ k.1 = cc (j.3, k.3) in
    let right : j.2 ≡ k.2 = cc (j.3, k.3) in
    let rest = and-right (allowed catalog p) (allowed catalog q && allowed_here catalog node) ok in
    subst (λ y. unfit_in catalog node y ≡ None) (sym k.3)
    (both-none _ _
    (unfit-kept catalog p k.1 (and-left (allowed catalog p) (allowed catalog q && allowed_here catalog node) ok) none.0 k.5 (subst (λ y. KeepsKeys p y) left j.5))
    (both-none _ _ (unfit-kept catalog q k.2 (and-left (allowed catalog q) (allowed_here catalog node) rest) more.0 k.6 (subst (λ y. KeepsKeys q y) right j.6))
    (fit-here catalog n true node refl more.1)))
unfit-kept catalog (exchange n c kind m p) x ok fits k j =
    let node : Plan = exchange n c kind m p in
    let none = none-both (first_unfit catalog p) (refused_at n (fit_tests catalog node)) fits in
    let same : j.1 ≡ k.1 = cc (j.2, k.2) in
    subst (λ y. unfit_in catalog node y ≡ None) (sym k.2)
    (both-none _ _ (unfit-kept catalog p k.1 (and-left (allowed catalog p) (allowed_here catalog node) ok) none.0 k.4 (subst (λ y. KeepsKeys p y) same j.4))
    (fit-here catalog n true node refl none.1))

-- ---- what is refused

-- the rule of limits
abbrev pub leaves_open : Rule → Bool
leaves_open size_mismatch = false
leaves_open root_not_one = false
leaves_open part_not_shown = false
leaves_open inputs_not_matched = false
leaves_open replicated_input = false
leaves_open order_not_shown = false
leaves_open order_needed = false
leaves_open key_not_shown = false
leaves_open total_not_shown = false
leaves_open first_rows_open = true

pub open-is : (r : Rule) → leaves_open r ≡ true → r ≡ first_rows_open
open-is size_mismatch h = cc
open-is root_not_one h = cc
open-is part_not_shown h = cc
open-is inputs_not_matched h = cc
open-is replicated_input h = cc
open-is order_not_shown h = cc
open-is order_needed h = cc
open-is key_not_shown h = cc
open-is total_not_shown h = cc
open-is first_rows_open h = refl

-- another rule is that of a test that no claims can pass
other-test : (n : ℕ) (a b c d m e : Bool) (k : ℕ) (r : Rule) → leaves_open r ≡ false
    → refused_at n ((a, size_mismatch) ∷ (b, replicated_input) ∷ (c, inputs_not_matched) ∷ (d, order_needed) ∷ (m, first_rows_open) ∷ (e, order_not_shown) ∷ []) ≡ Some (k, r)
    → refused_at n ((a, size_mismatch) ∷ (b, replicated_input) ∷ (c, inputs_not_matched) ∷ (d, order_needed) ∷ (e, order_not_shown) ∷ []) ≡ Some (k, r)
other-test n false b c d m e k r f h = h
other-test n true false c d m e k r f h = h
other-test n true true false d m e k r f h = h
other-test n true true true false m e k r f h = h
other-test n true true true true false e k r f h =
    let same : first_rows_open ≡ r = ap (λ (y : ℕ × Rule). y.1) (some-is (n, first_rows_open) (k, r) h) in
    absurd (true≢false (ap leaves_open same ∙ f))
other-test n true true true true true e k r f h = h

other-here : (catalog : ℕ → Relation) (n : ℕ) (known : Bool) (p : Plan) (k : ℕ) (r : Rule) → leaves_open r ≡ false → refused_at n (fit_tests_with known catalog p) ≡ Some (k, r)
    → refused_at n (fit_tests catalog p) ≡ Some (k, r)
other-here catalog n known p k r f h = other-test n (sizes_match p) (can_send catalog p) (can_meet catalog p) (can_order catalog p) known (can_keep catalog p) k r f h

-- the first of two answers, or the second where there is no first one
first-of : (o u o' u' : Option (ℕ × Rule)) (x : ℕ × Rule) → (o ≡ Some x → o' ≡ Some x) → (o ≡ None → o' ≡ None) → (u ≡ Some x → u' ≡ Some x) → or_else o u ≡ Some x → or_else o' u' ≡ Some x
first-of o u o' u' x some none later h =
    ⊎_elim (λ a. ap (λ v. or_else v u') (some a)) (λ a. ap (λ v. or_else v u') (none a.0) ∙ later a.1) (which o u x h)

-- so that the node is one that no claims can save
pub unfit-first : (catalog : ℕ → Relation) (p x : Plan) (k : ℕ) (r : Rule) → leaves_open r ≡ false → unfit_in catalog p x ≡ Some (k, r) → first_unfit catalog p ≡ Some (k, r)
unfit-first catalog (scan n c z m s) x k r f h = other-here catalog n (first_rows_known catalog x) (scan n c z m s) k r f h
unfit-first catalog (unary n c op p) x k r f h =
    let y = first_input x in
    first-of (unfit_in catalog p y) _ (first_unfit catalog p) _ (k, r) (unfit-first catalog p y k r f) (none-unfit catalog p y)
    (other-here catalog n (first_rows_known catalog x) (unary n c op p) k r f) h
unfit-first catalog (binary n c op p q) x k r f h =
    let y = first_input x in
    let z = second_input x in
    first-of (unfit_in catalog p y) _ (first_unfit catalog p) _ (k, r) (unfit-first catalog p y k r f) (none-unfit catalog p y)
    (first-of (unfit_in catalog q z) _ (first_unfit catalog q) _ (k, r) (unfit-first catalog q z k r f) (none-unfit catalog q z)
    (other-here catalog n (first_rows_known catalog x) (binary n c op p q) k r f)) h
unfit-first catalog (exchange n c kind m p) x k r f h =
    let y = first_input x in
    first-of (unfit_in catalog p y) _ (first_unfit catalog p) _ (k, r) (unfit-first catalog p y k r f) (none-unfit catalog p y)
    (other-here catalog n (first_rows_known catalog x) (exchange n c kind m p) k r f) h
