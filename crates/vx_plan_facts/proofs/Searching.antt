-- The search for what columns determine at a node: what is found is within what is determined, and at the end it is that.
use Rattle.std.proofs.Common.{◌≡◌, ℕ, zero, suc, ◌+◌, ◌*◌, ◌-◌, ◌<◌, ◌≤◌, ◌==◌, nat_lt, nat_le, Bool, true, false, cond, ◌&&◌, inl, ◌⊎◌, ⊎_elim, List, [], ◌∷◌, refl, sym, ap, ◌∙◌, subst, arith, true≢false, map, Option, Some, None, slice_get}
use Rattle.std.specs.Bool.{⊤}
use Rattle.std.specs.List.{list_all}
use Rattle.std.proofs.lemmas.Bool.Decides.{nat_tests}
use Rattle.vx_rows_values.specs.Order.{order_columns}
use Rattle.vx_rows_values.specs.Limits.{max_columns}
use Rattle.vx_rows_values.proofs.Booleans.{and-left, and-right, and-both}
use Rattle.vx_catalog_relations.specs.Relation.{Relation}
use Rattle.vx_plan_nodes.specs.Plan.{Claim, claim, number, Entry, copy_of, made_by, Unary, select, project, distinct, sort, group, limit, plain, partial, final, union, join, semi_join, Plan, scan, unary, binary, exchange}
use Rattle.vx_plan_nodes.specs.Phases.{phase_fits, both_closed}
use Rattle.vx_plan_nodes.specs.Numbering.{nodes}
use Rattle.vx_plan_nodes.specs.Types.{width, unary_width, part_columns, names_columns, well_formed}
use Rattle.vx_plan_nodes.specs.Describe.{Copying, whole_rows, entries_kept, kept_column, left_of, right_of, source, described}
use Rattle.vx_plan_facts.specs.Naming.{names_within, entry_within}
use Rattle.vx_catalog_relations.specs.Catalog.{all_below}
use Rattle.vx_plan_facts.specs.Equal.{equal_at}
use Rattle.vx_plan_facts.specs.Fixed.{fixed_at}
use Rattle.vx_plan_facts.specs.Facts.{Facts, StandAt, AreNumbered}
use Rattle.std.proofs.lemmas.Bool.{cases_lt}
use Rattle.vx_plan_facts.specs.Determined.{Columns, column_in, is_copy_of, sources_in, by_input, by_rows, by_inputs, determined, determined_aside}
use Rattle.vx_plan_facts.specs.DeterminedFacts.{Within, WithinFirst, one_step}
use Rattle.vx_plan_facts.specs.Closing.{IsClosed}
use Rattle.vx_plan_facts.specs.Asking.{Input, claim_with, is_within, IsKnown, Reaches, Reached, InputIsKnown, left_input, right_input, IsAnswer, WasAsked, WasAnswered, Asked, with_keys}
use Rattle.vx_plan_facts.proofs.Tests.{or-cases, or-left, or-right, any-more-first}
use Rattle.vx_plan_facts.proofs.Least.{members, members-same, members-small, input-more, least-sets, more-from-more}
use Rattle.vx_plan_facts.proofs.ClosingFacts.{below, is-below}

-- ---- measures

abbrev pub asked-size : Option Input → ℕ
asked-size None = 0
asked-size (Some i) = 4 * nodes i.1 + 3

-- how many columns an input may still add to its answers
abbrev pub room : Option Columns → ℕ
room None = suc max_columns
room (Some a) = max_columns - members max_columns a

-- ---- what holds of the sets

-- the input gave this answer once, and its copies were put in
pub record Answered (catalog : ℕ → Relation) (w : ℕ) (k : Copying) (p : Plan) (found answer : Columns) : Type 0 where
  pub asked : Columns
  pub answers : IsAnswer catalog p asked answer
  pub older : Within asked (sources_in w k found)
  pub copied : (c : ℕ) → c < w → column_in answer (source k c) ≡ true → found c ≡ true

abbrev pub Fits : (ℕ → Relation) → ℕ → Columns → Option Input → Option Columns → Type 0
Fits catalog w found None last = ⊤
Fits catalog w found (Some i) None = ⊤
Fits catalog w found (Some i) (Some a) = Answered catalog w i.0 i.1 found a

pub record Searching (catalog : ℕ → Relation) (p : Plan) (s found : Columns) (lefts rights : Option Columns) : Type 0 where
  pub narrow : (c : ℕ) → found c ≡ true → c < width catalog p
  pub holds : WithinFirst (width catalog p) s found
  pub within : WithinFirst (width catalog p) found (determined catalog p s)
  pub rows : WithinFirst (width catalog p) (by_rows (width catalog p) (equal_at catalog p) (fixed_at catalog p) (claim p).keys found) found
  pub left : Fits catalog (width catalog p) found (left_input catalog p) lefts
  pub right : Fits catalog (width catalog p) found (right_input catalog p) rights

-- ---- one input

-- the columns that an input adds
abbrev pub by_asked : (ℕ → Relation) → ℕ → Option Input → Columns → Columns
by_asked catalog w None s c = false
by_asked catalog w (Some i) s c = by_input w i.0 (determined catalog i.1) s c

answered-in : (catalog : ℕ → Relation) (p : Plan) (asked a : Columns) → IsAnswer catalog p asked a → (o : Option ℕ) → column_in a o ≡ true → column_in (determined catalog p asked) o ≡ true
answered-in catalog p asked a is None h = h
answered-in catalog p asked a is (Some x) h = and-right (nat_lt x (width catalog p)) (determined catalog p asked x) (sym (is x) ∙ h)

answered-out : (catalog : ℕ → Relation) (p : Plan) (asked a : Columns) → IsAnswer catalog p asked a → (x : ℕ) → x < width catalog p → determined catalog p asked x ≡ true → a x ≡ true
answered-out catalog p asked a is x l h = is x ∙ and-both (nat_lt x (width catalog p)) (determined catalog p asked x) (is-below x (width catalog p) l) h

small : (w : ℕ) → nat_le w max_columns ≡ true → w ≤ max_columns
small w h = grind (arith, nat_tests)

put-new : (catalog : ℕ → Relation) (w : ℕ) (k : Copying) (p : Plan) (old new : Columns) (last : Option Columns) (a : Columns) → WasAsked catalog w k p old new last a
    → w ≤ max_columns → WithinFirst w old new
put-new catalog w k p old new last a was few c l h = was.put c (omega (arith, l, few)) ∙ or-left (old c) (nat_lt c w && column_in a (source k c)) h

put-copy : (catalog : ℕ → Relation) (w : ℕ) (k : Copying) (p : Plan) (old new : Columns) (last : Option Columns) (a : Columns) → WasAsked catalog w k p old new last a
    → w ≤ max_columns → (c : ℕ) → c < w → column_in a (source k c) ≡ true → new c ≡ true
put-copy catalog w k p old new last a was few c l h =
    was.put c (omega (arith, l, few)) ∙ or-right (old c) (nat_lt c w && column_in a (source k c)) (and-both (nat_lt c w) (column_in a (source k c)) (is-below c w l) h)

put-within : (catalog : ℕ → Relation) (w : ℕ) (k : Copying) (p : Plan) (old new : Columns) (last : Option Columns) (a : Columns) → WasAsked catalog w k p old new last a
    → w ≤ max_columns → (t : Columns) → WithinFirst w old t → ((c : ℕ) → c < w → by_input w k (determined catalog p) t c ≡ true → t c ≡ true) → WithinFirst w new t
put-within catalog w k p old new last a was few t more closed c l h =
    ⊎_elim (λ x. more c l x)
    (λ x. closed c l (input-more w k (determined catalog p) (more-from-more.of_all catalog p) old t more c
    (answered-in catalog p (sources_in w k old) a was.answers (source k c) (and-right (nat_lt c w) (column_in a (source k c)) x))))
    (or-cases (old c) (nat_lt c w && column_in a (source k c)) (sym (was.put c (omega (arith, l, few))) ∙ h))

sources-more : (w : ℕ) (k : Copying) (s t : Columns) → WithinFirst w s t → Within (sources_in w k s) (sources_in w k t)
sources-more w k s t more x h =
    any-more-first (λ i. s i && is_copy_of x (source k i)) (λ i. t i && is_copy_of x (source k i)) w
    (λ i l y. and-both (t i) (is_copy_of x (source k i)) (more i l (and-left (s i) (is_copy_of x (source k i)) y)) (and-right (s i) (is_copy_of x (source k i)) y)) h

fits-none : (catalog : ℕ → Relation) (w : ℕ) (found : Columns) (i : Option Input) → Fits catalog w found i None
fits-none catalog w found None = tt
fits-none catalog w found (Some i) = tt

fits-kept : (catalog : ℕ → Relation) (w : ℕ) (found more : Columns) (i : Option Input) (last : Option Columns) → WithinFirst w found more
    → Fits catalog w found i last → Fits catalog w more i last
fits-kept catalog w found more None last h f = tt
fits-kept catalog w found more (Some i) None h f = tt
fits-kept catalog w found more (Some i) (Some a) h f = record {
  asked = f.asked;
  answers = f.answers;
  older = λ x e. sources-more w i.0 found more h x (f.older x e);
  copied = λ c l e. h c l (f.copied c l e);
}

fits-new : (catalog : ℕ → Relation) (w : ℕ) (k : Copying) (p : Plan) (old new : Columns) (last : Option Columns) (a : Columns) → WasAsked catalog w k p old new last a
    → w ≤ max_columns → (found : Columns) → WithinFirst w new found → Answered catalog w k p found a
fits-new catalog w k p old new last a was few found more = record {
  asked = sources_in w k old;
  answers = was.answers;
  older = sources-more w k old found (λ c l h. more c l (put-new catalog w k p old new last a was few c l h));
  copied = λ c l h. more c l (put-copy catalog w k p old new last a was few c l h);
}

-- a later answer holds the earlier one, and more
pub room-less : (catalog : ℕ → Relation) (facts : List Facts) (w : ℕ) (i : Input) (old new : Columns) (last : Option Columns) (a : Columns) → Reached catalog facts w i.0 i.1
    → WasAsked catalog w i.0 i.1 old new last a → Fits catalog w old (Some i) last → width catalog i.1 ≤ max_columns → room (Some a) < room last
room-less catalog facts w i old new None a known was fits wide = let m = members-small max_columns a in omega (arith, m)
room-less catalog facts w i old new (Some b) a known was fits wide =
    let fresh = was.fresh b refl in
    let x = fresh.0 in
    let grown : (y : ℕ) → b y ≡ true → a y ≡ true = λ y h.
    let l = below y (width catalog i.1) (and-left (nat_lt y (width catalog i.1)) (determined catalog i.1 fits.asked y) (sym (fits.answers y) ∙ h)) in
    let d = and-right (nat_lt y (width catalog i.1)) (determined catalog i.1 fits.asked y) (sym (fits.answers y) ∙ h) in
    answered-out catalog i.1 (sources_in w i.0 old) a was.answers y l (more-from-more.of_all catalog i.1 fits.asked (sources_in w i.0 old) fits.older y d) in
    let there = answered-out catalog i.1 (sources_in w i.0 old) a was.answers x fresh.1 ((least-sets catalog i.1 known.known.formed (sources_in w i.0 old)).holds x fresh.2) in
    let few = members-small max_columns a in
    ⊎_elim
    (λ less. omega (arith, less, few))
    (λ more. absurd (true≢false (sym (members-same max_columns b a (λ y l h. grown y h) (omega (arith, more)) x (let l = fresh.1 in omega (arith, l, wide)) there) ∙ fresh.3)))
    (cases_lt (members max_columns b) (members max_columns a))

side-closed : (catalog : ℕ → Relation) (facts : List Facts) (w : ℕ) (i : Input) (found : Columns) (last : Option Columns) → Reached catalog facts w i.0 i.1
    → WasAnswered w i.0 found last → Fits catalog w found (Some i) last → (c : ℕ) → c < w → by_input w i.0 (determined catalog i.1) found c ≡ true → found c ≡ true
side-closed catalog facts w i found last known was fits c l h =
    let P : Option Columns → Type 0 = λ o. Fits catalog w found (Some i) o in
    let at : Answered catalog w i.0 i.1 found was.answer = subst P was.is_last fits in
    let least = (least-sets catalog i.1 known.known.formed (sources_in w i.0 found)).least in
    let all = least (determined catalog i.1 at.asked)
    (λ x m e. and-right (nat_lt x (width catalog i.1)) (determined catalog i.1 at.asked x) (sym (at.answers x) ∙ was.within x e))
    (least-sets catalog i.1 known.known.formed at.asked).closed in
    at.copied c l (go at all (source i.0 c) refl h)
  where
    go : (at : Answered catalog w i.0 i.1 found was.answer)
        → WithinFirst (width catalog i.1) (determined catalog i.1 (sources_in w i.0 found)) (determined catalog i.1 at.asked)
        → (o : Option ℕ) → source i.0 c ≡ o → column_in (determined catalog i.1 (sources_in w i.0 found)) o ≡ true → column_in was.answer o ≡ true
    go at all None is e = e
    go at all (Some x) is e = let m = known.reaches c x l is in answered-out catalog i.1 at.asked was.answer at.answers x m (all x m e)

-- ---- one input, if there is one

pub not-asked : (catalog : ℕ → Relation) (w : ℕ) (i : Option Input) (old new : Columns) (last next : Option Columns) → Asked catalog w i false old new last next
    → (new ≡ old) × (next ≡ last)
not-asked catalog w None old new last next h = (h.1, h.2)
not-asked catalog w (Some i) old new last next h = (h.1, h.2)

none-closed : (catalog : ℕ → Relation) (facts : List Facts) (w : ℕ) (i : Option Input) (old new : Columns) (last next : Option Columns) → InputIsKnown catalog facts w i
    → Asked catalog w i false old new last next → Fits catalog w old i last → (c : ℕ) → c < w → by_asked catalog w i old c ≡ true → old c ≡ true
none-closed catalog facts w None old new last next known h fits c l e = absurd (true≢false (sym e))
none-closed catalog facts w (Some i) old new last next known h fits c l e = side-closed catalog facts w i old last known h.0 fits c l e

asked-within : (catalog : ℕ → Relation) (w : ℕ) (i : Option Input) (old new : Columns) (last next : Option Columns) → w ≤ max_columns
    → Asked catalog w i true old new last next → (t : Columns) → WithinFirst w old t → ((c : ℕ) → c < w → by_asked catalog w i t c ≡ true → t c ≡ true) → WithinFirst w new t
asked-within catalog w None old new last next few h t more closed = absurd (true≢false h.0)
asked-within catalog w (Some i) old new last next few h t more closed = put-within catalog w i.0 i.1 old new last h.0 h.2 few t more closed

asked-grows : (catalog : ℕ → Relation) (w : ℕ) (i : Option Input) (old new : Columns) (last next : Option Columns) → w ≤ max_columns
    → Asked catalog w i true old new last next → WithinFirst w old new
asked-grows catalog w None old new last next few h = absurd (true≢false h.0)
asked-grows catalog w (Some i) old new last next few h = put-new catalog w i.0 i.1 old new last h.0 h.2 few

asked-fits : (catalog : ℕ → Relation) (w : ℕ) (i : Option Input) (old new : Columns) (last next : Option Columns) → w ≤ max_columns
    → Asked catalog w i true old new last next → (found : Columns) → WithinFirst w new found → Fits catalog w found i next
asked-fits catalog w None old new last next few h found more = absurd (true≢false h.0)
asked-fits catalog w (Some i) old new last next few h found more =
    let P : Option Columns → Type 0 = λ o. Fits catalog w found (Some i) o in
    subst P (sym h.1) (fits-new catalog w i.0 i.1 old new last h.0 h.2 few found more)

-- ---- the inputs of a node

left-adds : (catalog : ℕ → Relation) (p : Plan) (s : Columns) (d : ℕ) → by_asked catalog (width catalog p) (left_input catalog p) s d ≡ true → by_inputs catalog p s d ≡ true
left-adds catalog (scan n c r m z) s d h = h
left-adds catalog (unary n c op p) s d h = h
left-adds catalog (binary n c union p q) s d h = h
left-adds catalog (binary n c (join m on) p q) s d h =
    let w = width catalog p + width catalog q in
    or-left (by_input w (left_of (width catalog p)) (determined catalog p) s d) (by_input w (right_of (width catalog p)) (determined catalog q) s d) h
left-adds catalog (binary n c (semi_join matched on conditions) p q) s d h = h
left-adds catalog (exchange n c k m p) s d h = h

right-adds : (catalog : ℕ → Relation) (p : Plan) (s : Columns) (d : ℕ) → by_asked catalog (width catalog p) (right_input catalog p) s d ≡ true → by_inputs catalog p s d ≡ true
right-adds catalog (scan n c r m z) s d h = absurd (true≢false (sym h))
right-adds catalog (unary n c op p) s d h = absurd (true≢false (sym h))
right-adds catalog (binary n c union p q) s d h = absurd (true≢false (sym h))
right-adds catalog (binary n c (join m on) p q) s d h =
    let w = width catalog p + width catalog q in
    or-right (by_input w (left_of (width catalog p)) (determined catalog p) s d) (by_input w (right_of (width catalog p)) (determined catalog q) s d) h
right-adds catalog (binary n c (semi_join matched on conditions) p q) s d h = absurd (true≢false (sym h))
right-adds catalog (exchange n c k m p) s d h = absurd (true≢false (sym h))

inputs-add : (catalog : ℕ → Relation) (p : Plan) (s : Columns) (d : ℕ) → by_inputs catalog p s d ≡ true
    → (by_asked catalog (width catalog p) (left_input catalog p) s d ≡ true) ⊎ (by_asked catalog (width catalog p) (right_input catalog p) s d ≡ true)
inputs-add catalog (scan n c r m z) s d h = inl h
inputs-add catalog (unary n c op p) s d h = inl h
inputs-add catalog (binary n c union p q) s d h = inl h
inputs-add catalog (binary n c (join m on) p q) s d h =
    let w = width catalog p + width catalog q in
    or-cases (by_input w (left_of (width catalog p)) (determined catalog p) s d) (by_input w (right_of (width catalog p)) (determined catalog q) s d) h
inputs-add catalog (binary n c (semi_join matched on conditions) p q) s d h = inl h
inputs-add catalog (exchange n c k m p) s d h = inl h

pub wide-enough : (catalog : ℕ → Relation) (p : Plan) → is_within catalog p ≡ true → width catalog p ≤ max_columns
wide-enough catalog (scan n c r m z) h = small (width catalog (scan n c r m z)) h
wide-enough catalog (unary n c op p) h =
    let few = nat_le (width catalog (unary n c op p)) max_columns in
    small (width catalog (unary n c op p)) (and-right (names_within (width catalog p) op) few (and-right (is_within catalog p) (names_within (width catalog p) op && few) h))
wide-enough catalog (binary n c op p q) h =
    let few = nat_le (width catalog (binary n c op p q)) max_columns in
    small (width catalog (binary n c op p q)) (and-right (is_within catalog q) few (and-right (is_within catalog p) (is_within catalog q && few) h))
wide-enough catalog (exchange n c k m p) h = wide-enough catalog p h

-- ---- copies of columns that there are

abbrev from : ℕ → Option ℕ → ℕ
from d None = d
from d (Some x) = x

some-same : (c x : ℕ) → Some c ≡ Some x → c ≡ x
some-same c x e = ap (from c) e

abbrev is-some : Option ℕ → Bool
is-some None = false
is-some (Some x) = true

none-some : (x : ℕ) → None ≡ Some x → ⊥
none-some x e = true≢false (sym (ap is-some e))

whole-reaches : (w : ℕ) → Reaches w whole_rows w
whole-reaches w c x l e = let s = some-same c x e in omega (arith, l, s)

kept-reaches : (v : ℕ) (cols : List ℕ) → all_below v cols ≡ true → (c x : ℕ) → slice_get cols c ≡ Some x → x < v
kept-reaches v [] h c x e = absurd (none-some x e)
kept-reaches v (y ∷ ys) h zero x e = let s = some-same y x e in let l = below y v (and-left (nat_lt y v) (all_below v ys) h) in omega (arith, s, l)
kept-reaches v (y ∷ ys) h (suc c) x e = kept-reaches v ys (and-right (nat_lt y v) (all_below v ys) h) c x e

entries-reach : (v : ℕ) (es : List Entry) → list_all (entry_within v) es ≡ true → (c x : ℕ) → source (entries_kept (map kept_column es)) c ≡ Some x → x < v
entries-reach v [] h c x e = absurd (none-some x e)
entries-reach v (copy_of y ∷ es) h zero x e = let s = some-same y x e in let l = below y v (and-left (nat_lt y v) (list_all (entry_within v) es) h) in omega (arith, s, l)
entries-reach v (made_by y ∷ es) h zero x e = absurd (none-some x e)
entries-reach v (y ∷ es) h (suc c) x e = entries-reach v es (and-right (entry_within v y) (list_all (entry_within v) es) h) c x e

unary-reaches : (v : ℕ) (op : Unary) → names_within v op ≡ true → Reaches (unary_width op v) (described op).copying v
unary-reaches v (select fs) h = whole-reaches v
unary-reaches v (project es) h = λ c x l e. entries-reach v es h c x e
unary-reaches v (distinct cols) h = λ c x l e. kept-reaches v cols h c x e
unary-reaches v (sort of_parts cols) h = whole-reaches v
unary-reaches v (group plain by aggregates) h = λ c x l e. kept-reaches v by h c x e
unary-reaches v (group partial by aggregates) h = λ c x l e. kept-reaches v by h c x e
unary-reaches v (group final by aggregates) h = λ c x l e. kept-reaches v by h c x e
unary-reaches v (limit m) h = whole-reaches v

left-reaches : (v u : ℕ) → Reaches (v + u) (left_of v) v
left-reaches v u c x l e = go (nat_lt c v) refl e
  where
    go : (b : Bool) → nat_lt c v ≡ b → cond b (Some c) None ≡ Some x → x < v
    go true is e = let s = some-same c x e in let m = below c v is in omega (arith, s, m)
    go false is e = absurd (none-some x e)

right-reaches : (v u : ℕ) → Reaches (v + u) (right_of v) u
right-reaches v u c x l e = go (nat_le v c) refl e
  where
    go : (b : Bool) → nat_le v c ≡ b → cond b (Some (c - v)) None ≡ Some x → x < u
    go true is e = let s = some-same (c - v) x e in let m = upto v c is in omega (arith, s, m, l)
      where
        upto : (a b : ℕ) → nat_le a b ≡ true → a ≤ b
        upto a b h = grind (arith, nat_tests)
    go false is e = absurd (none-some x e)

few-enough : (w : ℕ) → w ≤ max_columns → nat_le w max_columns ≡ true
few-enough w h = grind (arith, nat_tests)

pub known-left : (catalog : ℕ → Relation) (facts : List Facts) (p : Plan) → IsKnown catalog facts p → InputIsKnown catalog facts (width catalog p) (left_input catalog p)
known-left catalog facts (scan n c r m z) known = tt
known-left catalog facts (unary n c op p) known =
    let w = width catalog (unary n c op p) in
    record {
      known = record {
        formed = and-left (well_formed catalog p) (phase_fits op p && names_columns w c) known.formed;
        within = and-left (is_within catalog p) (names_within (width catalog p) op && nat_le w max_columns) known.within;
        numbered = known.numbered.1;
      };
      narrow = few-enough w (wide-enough catalog (unary n c op p) known.within);
      reaches = unary-reaches (width catalog p) op (and-left (names_within (width catalog p) op) (nat_le w max_columns)
          (and-right (is_within catalog p) (names_within (width catalog p) op && nat_le w max_columns) known.within));
    }
known-left catalog facts (binary n c union p q) known = tt
known-left catalog facts (binary n c (join m on) p q) known =
    let w = width catalog p + width catalog q in
    record {
      known = record {
        formed = and-left (well_formed catalog p) (well_formed catalog q && (both_closed p q && names_columns w c)) known.formed;
        within = and-left (is_within catalog p) (is_within catalog q && nat_le w max_columns) known.within;
        numbered = known.numbered.1;
      };
      narrow = few-enough w (wide-enough catalog (binary n c (join m on) p q) known.within);
      reaches = left-reaches (width catalog p) (width catalog q);
    }
known-left catalog facts (binary n c (semi_join matched on conditions) p q) known =
    let w = width catalog p in
    record {
      known = record {
        formed = and-left (well_formed catalog p) (well_formed catalog q && (both_closed p q && names_columns w c)) known.formed;
        within = and-left (is_within catalog p) (is_within catalog q && nat_le w max_columns) known.within;
        numbered = known.numbered.1;
      };
      narrow = few-enough w (wide-enough catalog (binary n c (semi_join matched on conditions) p q) known.within);
      reaches = whole-reaches w;
    }
known-left catalog facts (exchange n c k m p) known =
    record {
      known = record {
        formed = and-left (well_formed catalog p) (names_columns (width catalog p) c) known.formed;
        within = known.within;
        numbered = known.numbered.1;
      };
      narrow = few-enough (width catalog p) (wide-enough catalog p known.within);
      reaches = whole-reaches (width catalog p);
    }

pub known-right : (catalog : ℕ → Relation) (facts : List Facts) (p : Plan) → IsKnown catalog facts p → InputIsKnown catalog facts (width catalog p) (right_input catalog p)
known-right catalog facts (scan n c r m z) known = tt
known-right catalog facts (unary n c op p) known = tt
known-right catalog facts (binary n c union p q) known = tt
known-right catalog facts (binary n c (join m on) p q) known =
    let w = width catalog p + width catalog q in
    record {
      known = record {
        formed = and-left (well_formed catalog q) (both_closed p q && names_columns w c)
            (and-right (well_formed catalog p) (well_formed catalog q && (both_closed p q && names_columns w c)) known.formed);
        within = and-left (is_within catalog q) (nat_le w max_columns) (and-right (is_within catalog p) (is_within catalog q && nat_le w max_columns) known.within);
        numbered = known.numbered.2;
      };
      narrow = few-enough w (wide-enough catalog (binary n c (join m on) p q) known.within);
      reaches = right-reaches (width catalog p) (width catalog q);
    }
known-right catalog facts (binary n c (semi_join matched on conditions) p q) known = tt
known-right catalog facts (exchange n c k m p) known = tt

-- ---- the search

module _ (catalog : ℕ → Relation) (facts : List Facts) (p : Plan) (known : IsKnown catalog facts p) where
  few : width catalog p ≤ max_columns
  few = wide-enough catalog p known.within

  formed : well_formed catalog p ≡ true
  formed = known.formed

  -- what is determined holds the columns of its own that rows and inputs add to it
  det-rows : (s : Columns) → WithinFirst (width catalog p) (by_rows (width catalog p) (equal_at catalog p) (fixed_at catalog p) (claim p).keys (determined catalog p s)) (determined catalog p s)
  det-rows s c l h =
      (least-sets catalog p known.formed s).closed c l
      (or-left (by_rows (width catalog p) (equal_at catalog p) (fixed_at catalog p) (claim p).keys (determined catalog p s) c) (by_inputs catalog p (determined catalog p s) c) h)

  det-inputs : (s : Columns) (c : ℕ) → c < width catalog p → by_inputs catalog p (determined catalog p s) c ≡ true → determined catalog p s c ≡ true
  det-inputs s c l h =
      (least-sets catalog p known.formed s).closed c l
      (or-right (by_rows (width catalog p) (equal_at catalog p) (fixed_at catalog p) (claim p).keys (determined catalog p s) c) (by_inputs catalog p (determined catalog p s) c) h)

  pub starts : (s found : Columns) → IsClosed (width catalog p) (equal_at catalog p) (fixed_at catalog p) (claim p).keys s found → Searching catalog p s found None None
  starts s found k = record {
    narrow = k.narrow;
    holds = k.holds;
    within = k.least (determined catalog p s) (λ c l h. (least-sets catalog p known.formed s).holds c h) (det-rows s);
    rows = k.closed;
    left = fits-none catalog (width catalog p) found (left_input catalog p);
    right = fits-none catalog (width catalog p) found (right_input catalog p);
  }

  pub goes-left : (s old new found : Columns) (lefts rights next : Option Columns) → Searching catalog p s old lefts rights
      → Asked catalog (width catalog p) (left_input catalog p) true old new lefts next
      → IsClosed (width catalog p) (equal_at catalog p) (fixed_at catalog p) (claim p).keys new found → Searching catalog p s found next rights
  goes-left s old new found lefts rights next at h k =
      let w = width catalog p in
      let i = left_input catalog p in
      let grows = asked-grows catalog w i old new lefts next (wide-enough catalog p known.within) h in
      record {
        narrow = k.narrow;
        holds = λ c l e. k.holds c l (grows c l (at.holds c l e));
        within = k.least (determined catalog p s)
            (asked-within catalog w i old new lefts next (wide-enough catalog p known.within) h (determined catalog p s) at.within
            (λ c l e. det-inputs s c l (left-adds catalog p (determined catalog p s) c e)))
            (det-rows s);
        rows = k.closed;
        left = asked-fits catalog w i old new lefts next (wide-enough catalog p known.within) h found k.holds;
        right = fits-kept catalog w old found (right_input catalog p) rights (λ c l e. k.holds c l (grows c l e)) at.right;
      }

  pub goes-right : (s old new found : Columns) (lefts rights next : Option Columns) → Searching catalog p s old lefts rights
      → Asked catalog (width catalog p) (right_input catalog p) true old new rights next
      → IsClosed (width catalog p) (equal_at catalog p) (fixed_at catalog p) (claim p).keys new found → Searching catalog p s found lefts next
  goes-right s old new found lefts rights next at h k =
      let w = width catalog p in
      let i = right_input catalog p in
      let grows = asked-grows catalog w i old new rights next (wide-enough catalog p known.within) h in
      record {
        narrow = k.narrow;
        holds = λ c l e. k.holds c l (grows c l (at.holds c l e));
        within = k.least (determined catalog p s)
            (asked-within catalog w i old new rights next (wide-enough catalog p known.within) h (determined catalog p s) at.within
            (λ c l e. det-inputs s c l (right-adds catalog p (determined catalog p s) c e)))
            (det-rows s);
        rows = k.closed;
        left = fits-kept catalog w old found (left_input catalog p) lefts (λ c l e. k.holds c l (grows c l e)) at.left;
        right = asked-fits catalog w i old new rights next (wide-enough catalog p known.within) h found k.holds;
      }

  -- neither input has more to say
  pub ends : (s found : Columns) (lefts rights : Option Columns) → Searching catalog p s found lefts rights
      → Asked catalog (width catalog p) (left_input catalog p) false found found lefts lefts
      → Asked catalog (width catalog p) (right_input catalog p) false found found rights rights
      → (c : ℕ) → found c ≡ (nat_lt c (width catalog p) && determined catalog p s c)
  ends s found lefts rights at left right c = same (found c) (nat_lt c (width catalog p)) (determined catalog p s c) into (λ n d. outof (below c (width catalog p) n) d)
    where
      same : (a b d : Bool) → (a ≡ true → (b && d) ≡ true) → (b ≡ true → d ≡ true → a ≡ true) → a ≡ (b && d)
      same true b d f g = sym (f refl)
      same false true true f g = g refl refl
      same false true false f g = refl
      same false false d f g = refl

      into : found c ≡ true → (nat_lt c (width catalog p) && determined catalog p s c) ≡ true
      into h = let l = at.narrow c h in and-both (nat_lt c (width catalog p)) (determined catalog p s c) (is-below c (width catalog p) l) (at.within c l h)

      step : WithinFirst (width catalog p) (one_step catalog p found) found
      step d l h =
          ⊎_elim (λ e. at.rows d l e)
          (λ e. ⊎_elim
          (λ x. none-closed catalog facts (width catalog p) (left_input catalog p) found found lefts lefts (known-left catalog facts p known) left at.left d l x)
          (λ x. none-closed catalog facts (width catalog p) (right_input catalog p) found found rights rights (known-right catalog facts p known) right at.right d l x)
          (inputs-add catalog p found d e))
          (or-cases (by_rows (width catalog p) (equal_at catalog p) (fixed_at catalog p) (claim p).keys found d) (by_inputs catalog p found d) h)

      outof : c < width catalog p → determined catalog p s c ≡ true → found c ≡ true
      outof l d = (least-sets catalog p known.formed s).least found at.holds step c l d

-- ---- other keys

pub left-same : (catalog : ℕ → Relation) (keys : List (List ℕ)) (p : Plan) → left_input catalog (with_keys keys p) ≡ left_input catalog p
left-same catalog keys (scan n c r m z) = refl
left-same catalog keys (unary n c op p) = refl
left-same catalog keys (binary n c union p q) = refl
left-same catalog keys (binary n c (join m on) p q) = refl
left-same catalog keys (binary n c (semi_join matched on conditions) p q) = refl
left-same catalog keys (exchange n c k m p) = refl

pub right-same : (catalog : ℕ → Relation) (keys : List (List ℕ)) (p : Plan) → right_input catalog (with_keys keys p) ≡ right_input catalog p
right-same catalog keys (scan n c r m z) = refl
right-same catalog keys (unary n c op p) = refl
right-same catalog keys (binary n c union p q) = refl
right-same catalog keys (binary n c (join m on) p q) = refl
right-same catalog keys (binary n c (semi_join matched on conditions) p q) = refl
right-same catalog keys (exchange n c k m p) = refl

pub width-same : (catalog : ℕ → Relation) (keys : List (List ℕ)) (p : Plan) → width catalog (with_keys keys p) ≡ width catalog p
width-same catalog keys (scan n c r m z) = refl
width-same catalog keys (unary n c op p) = refl
width-same catalog keys (binary n c op p q) = refl
width-same catalog keys (exchange n c k m p) = refl

pub number-same : (keys : List (List ℕ)) (p : Plan) → number (with_keys keys p) ≡ number p
number-same keys (scan n c r m z) = refl
number-same keys (unary n c op p) = refl
number-same keys (binary n c op p q) = refl
number-same keys (exchange n c k m p) = refl

pub keys-same : (keys : List (List ℕ)) (p : Plan) → (claim (with_keys keys p)).keys ≡ keys
keys-same keys (scan n c r m z) = refl
keys-same keys (unary n c op p) = refl
keys-same keys (binary n c op p q) = refl
keys-same keys (exchange n c k m p) = refl

pub numbered-same : (catalog : ℕ → Relation) (facts : List Facts) (keys : List (List ℕ)) (p : Plan) → AreNumbered catalog facts (with_keys keys p) → AreNumbered catalog facts p
numbered-same catalog facts keys (scan n c r m z) h = h
numbered-same catalog facts keys (unary n c op p) h = h
numbered-same catalog facts keys (binary n c op p q) h = h
numbered-same catalog facts keys (exchange n c k m p) h = h

pub top-stands : (catalog : ℕ → Relation) (facts : List Facts) (p : Plan) → AreNumbered catalog facts p → StandAt catalog facts p
top-stands catalog facts (scan n c r m z) h = h
top-stands catalog facts (unary n c op p) h = h.0
top-stands catalog facts (binary n c op p q) h = h.0
top-stands catalog facts (exchange n c k m p) h = h.0

pub left-smaller : (catalog : ℕ → Relation) (p : Plan) → asked-size (left_input catalog p) < 4 * nodes p + 1
left-smaller catalog (scan n c r m z) = omega arith
left-smaller catalog (unary n c op p) = omega arith
left-smaller catalog (binary n c union p q) = omega arith
left-smaller catalog (binary n c (join m on) p q) = omega arith
left-smaller catalog (binary n c (semi_join matched on conditions) p q) = omega arith
left-smaller catalog (exchange n c k m p) = omega arith

pub right-smaller : (catalog : ℕ → Relation) (p : Plan) → asked-size (right_input catalog p) < 4 * nodes p + 1
right-smaller catalog (scan n c r m z) = omega arith
right-smaller catalog (unary n c op p) = omega arith
right-smaller catalog (binary n c union p q) = omega arith
right-smaller catalog (binary n c (join m on) p q) = omega arith
right-smaller catalog (binary n c (semi_join matched on conditions) p q) = omega arith
right-smaller catalog (exchange n c k m p) = omega arith

-- ---- from the code

pub asked-room : (catalog : ℕ → Relation) (facts : List Facts) (w : ℕ) (i : Option Input) (old new : Columns) (last next : Option Columns) → InputIsKnown catalog facts w i
    → Asked catalog w i true old new last next → Fits catalog w old i last → room next < room last
asked-room catalog facts w None old new last next known h fits = absurd (true≢false h.0)
asked-room catalog facts w (Some i) old new last next known h fits =
    let P : Option Columns → Type 0 = λ o. room o < room last in
    subst P (sym h.1) (room-less catalog facts w i old new last h.0 known h.2 fits (wide-enough catalog i.1 known.known.within))

pub asked-at : (catalog : ℕ → Relation) (w v : ℕ) (i j : Option Input) (b d : Bool) (old new : Columns) (last next : Option Columns) → w ≡ v → i ≡ j → b ≡ d
    → Asked catalog w i b old new last next → Asked catalog v j d old new last next
asked-at catalog w v i j b d old new last next wide input flag h =
    let P : ℕ → Type 0 = λ x. Asked catalog x i b old new last next in
    let Q : Option Input → Type 0 = λ x. Asked catalog v x b old new last next in
    let R : Bool → Type 0 = λ x. Asked catalog v j x old new last next in
    subst R flag (subst Q input (subst P wide h))

pub asked-from : (catalog : ℕ → Relation) (w : ℕ) (i : Option Input) (b : Bool) (old older new : Columns) (last next : Option Columns) → old ≡ older
    → Asked catalog w i b old new last next → Asked catalog w i b older new last next
asked-from catalog w i b old older new last next same h =
    let P : Columns → Type 0 = λ x. Asked catalog w i b x new last next in
    subst P same h

-- ---- without keys

aside-named : (w : ℕ) (c : Claim) → names_columns w c ≡ true → names_columns w (claim_with [] c) ≡ true
aside-named w c h =
    let parts = all_below w (part_columns c.part) in
    let orders = all_below w (order_columns c.order) in
    let keyed = list_all (all_below w) c.keys in
    and-both parts (orders && true) (and-left parts (orders && keyed) h) (and-both orders true (and-left orders keyed (and-right parts (orders && keyed) h)) refl)

aside-formed : (catalog : ℕ → Relation) (p : Plan) → well_formed catalog p ≡ true → well_formed catalog (with_keys [] p) ≡ true
aside-formed catalog (scan n c r m z) h = aside-named (width catalog (scan n c r m z)) c h
aside-formed catalog (unary n c op p) h =
    let w = width catalog (unary n c op p) in
    let formed = well_formed catalog p in
    let fits = phase_fits op p in
    let named = names_columns w c in
    let rest = and-right formed (fits && named) h in
    and-both formed (fits && names_columns w (claim_with [] c)) (and-left formed (fits && named) h)
    (and-both fits (names_columns w (claim_with [] c)) (and-left fits named rest) (aside-named w c (and-right fits named rest)))
aside-formed catalog (binary n c union p q) h =
    let w = width catalog p in
    let a = well_formed catalog p in
    let b = well_formed catalog q in
    let d = both_closed p q in
    let e = width catalog p == width catalog q in
    let named = names_columns w c in
    let bare = names_columns w (claim_with [] c) in
    let hb = and-right a (b && (d && (e && named))) h in
    let hd = and-right b (d && (e && named)) hb in
    let he = and-right d (e && named) hd in
    and-both a (b && (d && (e && bare))) (and-left a (b && (d && (e && named))) h)
    (and-both b (d && (e && bare)) (and-left b (d && (e && named)) hb)
    (and-both d (e && bare) (and-left d (e && named) hd) (and-both e bare (and-left e named he) (aside-named w c (and-right e named he)))))
aside-formed catalog (binary n c (join m on) p q) h =
    let w = width catalog p + width catalog q in
    let a = well_formed catalog p in
    let b = well_formed catalog q in
    let d = both_closed p q in
    let named = names_columns w c in
    let bare = names_columns w (claim_with [] c) in
    let hb = and-right a (b && (d && named)) h in
    let hd = and-right b (d && named) hb in
    and-both a (b && (d && bare)) (and-left a (b && (d && named)) h)
    (and-both b (d && bare) (and-left b (d && named) hb) (and-both d bare (and-left d named hd) (aside-named w c (and-right d named hd))))
aside-formed catalog (binary n c (semi_join matched on conditions) p q) h =
    let w = width catalog p in
    let a = well_formed catalog p in
    let b = well_formed catalog q in
    let d = both_closed p q in
    let named = names_columns w c in
    let bare = names_columns w (claim_with [] c) in
    let hb = and-right a (b && (d && named)) h in
    let hd = and-right b (d && named) hb in
    and-both a (b && (d && bare)) (and-left a (b && (d && named)) h)
    (and-both b (d && bare) (and-left b (d && named) hb) (and-both d bare (and-left d named hd) (aside-named w c (and-right d named hd))))
aside-formed catalog (exchange n c k m p) h =
    let w = width catalog p in
    let a = well_formed catalog p in
    and-both a (names_columns w (claim_with [] c)) (and-left a (names_columns w c) h) (aside-named w c (and-right a (names_columns w c) h))

pub known-aside : (catalog : ℕ → Relation) (facts : List Facts) (p : Plan) → IsKnown catalog facts p → IsKnown catalog facts (with_keys [] p)
known-aside catalog facts p known = record {
  formed = aside-formed catalog p known.formed;
  within = within p ∙ known.within;
  numbered = numbered p known.numbered;
}
  where
    within : (p : Plan) → is_within catalog (with_keys [] p) ≡ is_within catalog p
    within (scan n c r m z) = refl
    within (unary n c op p) = refl
    within (binary n c op p q) = refl
    within (exchange n c k m p) = refl

    numbered : (p : Plan) → AreNumbered catalog facts p → AreNumbered catalog facts (with_keys [] p)
    numbered (scan n c r m z) h = h
    numbered (unary n c op p) h = h
    numbered (binary n c op p q) h = h
    numbered (exchange n c k m p) h = h

pub aside-same : (catalog : ℕ → Relation) (p : Plan) (s : Columns) (d : ℕ) → determined catalog (with_keys [] p) s d ≡ determined_aside catalog p s d
aside-same catalog (scan n c r m z) s d = refl
aside-same catalog (unary n c op p) s d = refl
aside-same catalog (binary n c op p q) s d = refl
aside-same catalog (exchange n c k m p) s d = refl
