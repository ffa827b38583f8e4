-- The facts of all nodes, as a walk puts them one behind the other, and by their numbers.
use Rattle.std.proofs.Common.{◌≡◌, ◌∙◌, ℕ, zero, suc, ◌+◌, ◌<◌, ◌==◌, Bool, true, List, [], ◌∷◌, ◌++◌, map, length, get_or, ap, sym, refl, arith, ◌&&◌, Some, slice_get, length-append, append_assoc, subst, reverse}
use Rattle.std.proofs.lemmas.Bool.{eqb-true, and_parts}
use Rattle.std.proofs.lemmas.List.{append-nil, map-append, reverse-append, length-reverse}
use Rattle.vx_rows_values.specs.declared.order.OrderEntry.{OrderEntry}
use Rattle.vx_catalog_relations.specs.Relation.{Relation}
use Rattle.vx_plan_nodes.specs.Plan.{Claim, Size, Unary, Binary, ExchangeKind, Plan, scan, unary, binary, exchange}
use Rattle.vx_plan_nodes.specs.Numbering.{nodes, is_numbered}
use Rattle.vx_plan_nodes.specs.Types.{width, unary_width, binary_width}
use Rattle.vx_plan_facts.specs.declared.facts.ColumnFacts as rust_facts
use Rattle.vx_plan_facts.specs.Equal.{Equality, equal_at, unary_equal, binary_equal}
use Rattle.vx_plan_facts.specs.Fixed.{Values, fixed_at, unary_fixed, binary_fixed}
use Rattle.vx_plan_facts.specs.Facts.{Facts, Keeps, AreFactsOf, AreNumbered, AreReversed, ArePut}
use Rattle.vx_plan_facts.specs.FactsView.{facts_of}

-- ---- one node

pub unary-facts : (catalog : ℕ → Relation) (x : Plan) (n : ℕ) (c : Claim) (op : Unary) (p : Plan) (k own : Facts) → x ≡ unary n c op p → AreFactsOf catalog p k
    → ((e : Equality) (f : Values) → Keeps (length k.firsts) e f k → Keeps (unary_width op (length k.firsts)) (unary_equal op e) (unary_fixed (length k.firsts) (unary_equal op e) op f) own)
    → AreFactsOf catalog x own
unary-facts catalog x n c op p k own is keeps after =
    let e = equal_at catalog p in
    let f = fixed_at catalog p in
    let made = after e f (subst (λ w. Keeps w e f k) (sym keeps.wide) keeps) in
    subst (λ y. AreFactsOf catalog y own) (sym is) (subst (λ w. Keeps (unary_width op w) (unary_equal op e) (unary_fixed w (unary_equal op e) op f) own) keeps.wide made)

pub both-facts : (catalog : ℕ → Relation) (x : Plan) (n : ℕ) (c : Claim) (op : Binary) (p q : Plan) (k l own : Facts) → x ≡ binary n c op p q → AreFactsOf catalog p k → AreFactsOf catalog q l
    → ((d e : Equality) (f g : Values) → Keeps (length k.firsts) d f k → Keeps (length l.firsts) e g l
    → Keeps (binary_width op (length k.firsts) (length l.firsts)) (binary_equal (length k.firsts) op d e)
    (binary_fixed (length k.firsts) (binary_width op (length k.firsts) (length l.firsts)) (binary_equal (length k.firsts) op d e) op f g) own)
    → AreFactsOf catalog x own
both-facts catalog x n c op p q k l own is lefts rights over =
    let d = equal_at catalog p in
    let e = equal_at catalog q in
    let f = fixed_at catalog p in
    let g = fixed_at catalog q in
    let made = over d e f g (subst (λ w. Keeps w d f k) (sym lefts.wide) lefts) (subst (λ w. Keeps w e g l) (sym rights.wide) rights) in
    let left = subst (λ v. Keeps (binary_width op v (length l.firsts)) (binary_equal v op d e) (binary_fixed v (binary_width op v (length l.firsts)) (binary_equal v op d e) op f g) own) lefts.wide made in
    subst (λ y. AreFactsOf catalog y own) (sym is)
    (subst (λ w. Keeps (binary_width op (width catalog p) w) (binary_equal (width catalog p) op d e) (binary_fixed (width catalog p) (binary_width op (width catalog p) w) (binary_equal (width catalog p) op d e) op f g) own)
    rights.wide left)

pub same-facts : (catalog : ℕ → Relation) (x : Plan) (n : ℕ) (c : Claim) (kind : ExchangeKind) (m : List OrderEntry) (p : Plan) (k own : Facts) → x ≡ exchange n c kind m p → own ≡ k → AreFactsOf catalog p k → AreFactsOf catalog x own
same-facts catalog x n c kind m p k own is same keeps = subst (λ y. AreFactsOf catalog y own) (sym is) (subst (λ l. AreFactsOf catalog p l) (sym same) keeps)

-- ---- one behind the other

last-there : (old : List Facts) (k : Facts) → slice_get (old ++ k ∷ []) (length old) ≡ Some k
last-there [] k = refl
last-there (x ∷ old) k = last-there old k

still-there : (xs ys : List Facts) (i : ℕ) (k : Facts) → slice_get xs i ≡ Some k → slice_get (xs ++ ys) i ≡ Some k
still-there [] ys i k h = absurd cc
still-there (x ∷ xs) ys zero k h = h
still-there (x ∷ xs) ys (suc i) k h = still-there xs ys i k h

pub within : (xs : List rust_facts.ColumnFacts) (i : ℕ) (k : Facts) → slice_get (map facts_of xs) i ≡ Some k → i < length xs
within [] i k h = absurd cc
within (x ∷ xs) zero k h = omega arith
within (x ∷ xs) (suc i) k h = let l = within xs i k h in omega (arith, l)

pub there : (xs : List rust_facts.ColumnFacts) (i : ℕ) (k : Facts) (r : rust_facts.ColumnFacts) → r ≡ get_or xs i r → slice_get (map facts_of xs) i ≡ Some k → facts_of r ≡ k
there [] i k r e h = absurd cc
there (x ∷ xs) zero k r e h = let is : facts_of x ≡ k = cc in ap facts_of e ∙ is
there (x ∷ xs) (suc i) k r e h = there xs i k r e h

-- the facts of a right input stay where they are
pub right-still : (catalog : ℕ → Relation) (p q : Plan) (old mid new : List Facts) (i j : ℕ) (rights : ArePut catalog q old mid i) (lefts : ArePut catalog p mid new j) → slice_get new i ≡ Some rights.own
right-still catalog p q old mid new i j rights lefts = ap (λ xs. slice_get xs i) lefts.put ∙ still-there mid lefts.made i rights.own rights.there

put-last : (mid new : List Facts) (own : Facts) (at : ℕ) → at ≡ length mid → new ≡ mid ++ own ∷ [] → slice_get new at ≡ Some own
put-last mid new own at is put = ap (λ xs. slice_get xs at) put ∙ ap (λ i. slice_get (mid ++ own ∷ []) i) is ∙ last-there mid own

pub put-scan : (catalog : ℕ → Relation) (x : Plan) (n : ℕ) (c : Claim) (r : ℕ) (m : Bool) (z : Size) (own : Facts) (old new : List Facts) (at : ℕ) → x ≡ scan n c r m z → AreFactsOf catalog (scan n c r m z) own
    → at ≡ length old → new ≡ old ++ own ∷ [] → ArePut catalog x old new at
put-scan catalog x n c r m z own old new at is facts place put = subst (λ y. ArePut catalog y old new at) (sym is)
    (record { own = own; made = own ∷ []; is = facts; all = (own, facts, refl); there = put-last old new own at place put; put = put })

pub put-unary : (catalog : ℕ → Relation) (x : Plan) (n : ℕ) (c : Claim) (op : Unary) (p : Plan) (own : Facts) (old mid new : List Facts) (i at : ℕ) → x ≡ unary n c op p → ArePut catalog p old mid i
    → AreFactsOf catalog x own → at ≡ length mid → new ≡ mid ++ own ∷ [] → ArePut catalog x old new at
put-unary catalog x n c op p own old mid new i at is before facts place put =
    let here : AreFactsOf catalog (unary n c op p) own = subst (λ y. AreFactsOf catalog y own) is facts in
    subst (λ y. ArePut catalog y old new at) (sym is)
    (record {
      own = own;
      made = before.made ++ own ∷ [];
      is = here;
      all = (own, before.made, here, before.all, refl);
      there = put-last mid new own at place put;
      put = put ∙ ap (λ xs. xs ++ own ∷ []) before.put ∙ append_assoc old before.made (own ∷ []);
    })

pub put-exchange : (catalog : ℕ → Relation) (x : Plan) (n : ℕ) (c : Claim) (kind : ExchangeKind) (m : List OrderEntry) (p : Plan) (own : Facts) (old mid new : List Facts) (i at : ℕ) → x ≡ exchange n c kind m p
    → ArePut catalog p old mid i → AreFactsOf catalog x own → at ≡ length mid → new ≡ mid ++ own ∷ [] → ArePut catalog x old new at
put-exchange catalog x n c kind m p own old mid new i at is before facts place put =
    let here : AreFactsOf catalog (exchange n c kind m p) own = subst (λ y. AreFactsOf catalog y own) is facts in
    subst (λ y. ArePut catalog y old new at) (sym is)
    (record {
      own = own;
      made = before.made ++ own ∷ [];
      is = here;
      all = (own, before.made, here, before.all, refl);
      there = put-last mid new own at place put;
      put = put ∙ ap (λ xs. xs ++ own ∷ []) before.put ∙ append_assoc old before.made (own ∷ []);
    })

pub put-binary : (catalog : ℕ → Relation) (x : Plan) (n : ℕ) (c : Claim) (op : Binary) (p q : Plan) (own : Facts) (old first mid new : List Facts) (i j at : ℕ) → x ≡ binary n c op p q
    → ArePut catalog q old first i → ArePut catalog p first mid j → AreFactsOf catalog x own → at ≡ length mid → new ≡ mid ++ own ∷ [] → ArePut catalog x old new at
put-binary catalog x n c op p q own old first mid new i j at is rights lefts facts place put =
    let here : AreFactsOf catalog (binary n c op p q) own = subst (λ y. AreFactsOf catalog y own) is facts in
    subst (λ y. ArePut catalog y old new at) (sym is)
    (record {
      own = own;
      made = rights.made ++ (lefts.made ++ own ∷ []);
      is = here;
      all = (own, lefts.made, rights.made, here, lefts.all, rights.all, refl);
      there = put-last mid new own at place put;
      put = put ∙ ap (λ xs. xs ++ own ∷ []) (lefts.put ∙ ap (λ xs. xs ++ lefts.made) rights.put) ∙ append_assoc (old ++ rights.made) lefts.made (own ∷ []) ∙ append_assoc old rights.made (lefts.made ++ own ∷ []);
    })

-- ---- by number

pub count : (catalog : ℕ → Relation) (p : Plan) (made : List Facts) → AreReversed catalog p made → length made ≡ nodes p
count catalog (scan n c r m z) made (k, is, all) = ap length all
count catalog (unary n c op p) made (k, under, is, below, all) = let e = ap length all ∙ length-append under (k ∷ []) in let i = count catalog p under below in omega (arith, e, i)
count catalog (binary n c op p q) made (k, lefts, rights, is, left, right, all) =
    let e = ap length all ∙ length-append rights (lefts ++ k ∷ []) in
    let f = length-append lefts (k ∷ []) in
    let i = count catalog p lefts left in
    let j = count catalog q rights right in
    omega (arith, e, f, i, j)
count catalog (exchange n c kind m p) made (k, under, is, below, all) = let e = ap length all ∙ length-append under (k ∷ []) in let i = count catalog p under below in omega (arith, e, i)

at-front : (pre post : List Facts) (k : Facts) (i n : ℕ) → length pre ≡ i → (n == i) ≡ true → slice_get (pre ++ (k ∷ post)) n ≡ Some k
at-front pre post k i n wide is = ap (slice_get (pre ++ (k ∷ post))) (eqb-true n i is ∙ sym wide) ∙ go pre
  where
    go : (xs : List Facts) → slice_get (xs ++ (k ∷ post)) (length xs) ≡ Some k
    go [] = refl
    go (x ∷ xs) = go xs

after-front : (pre post : List Facts) (k : Facts) → (pre ++ k ∷ []) ++ post ≡ pre ++ (k ∷ post)
after-front pre post k = append_assoc pre (k ∷ []) post

longer-front : (pre : List Facts) (k : Facts) (i : ℕ) → length pre ≡ i → length (pre ++ k ∷ []) ≡ suc i
longer-front pre k i wide = let e = length-append pre (k ∷ []) in omega (arith, e, wide)

-- the last one is the first in reverse
reverse-last : (xs : List Facts) (k : Facts) → reverse (xs ++ k ∷ []) ≡ k ∷ reverse xs
reverse-last xs k = reverse-append xs (k ∷ [])

placed : (catalog : ℕ → Relation) (p : Plan) (made all pre post : List Facts) (i : ℕ) → AreReversed catalog p made → is_numbered i p ≡ true → length pre ≡ i → all ≡ pre ++ (reverse made ++ post) → AreNumbered catalog all p
placed catalog (scan n c r m z) made all pre post i (k, is, one) numbered wide put =
    (k, ap (λ xs. slice_get xs n) (put ∙ ap (λ xs. pre ++ (reverse xs ++ post)) one) ∙ at-front pre post k i n wide numbered, is)
placed catalog (unary n c op p) made all pre post i (k, under, is, below, more) numbered wide put =
    let parts = and_parts (n == i) (is_numbered (suc i) p) numbered in
    let here : all ≡ pre ++ (k ∷ (reverse under ++ post)) = put ∙ ap (λ xs. pre ++ (xs ++ post)) (ap reverse more ∙ reverse-last under k) in (
      (k, ap (λ xs. slice_get xs n) here ∙ at-front pre (reverse under ++ post) k i n wide parts.0, is),
      placed catalog p under all (pre ++ k ∷ []) post (suc i) below parts.1 (longer-front pre k i wide) (here ∙ sym (after-front pre (reverse under ++ post) k)),
    )
placed catalog (binary n c op p q) made all pre post i (k, lefts, rights, is, left, right, more) numbered wide put =
    let parts = and_parts (n == i) (is_numbered (suc i) p && is_numbered (suc i + nodes p) q) numbered in
    let both = and_parts (is_numbered (suc i) p) (is_numbered (suc i + nodes p) q) parts.1 in
    let back : reverse made ≡ k ∷ (reverse lefts ++ reverse rights) = ap reverse more ∙ reverse-append rights (lefts ++ k ∷ []) ∙ ap (λ xs. xs ++ reverse rights) (reverse-last lefts k) in
    let here : all ≡ pre ++ (k ∷ ((reverse lefts ++ reverse rights) ++ post)) = put ∙ ap (λ xs. pre ++ (xs ++ post)) back in
    let there : all ≡ (pre ++ k ∷ []) ++ (reverse lefts ++ (reverse rights ++ post)) =
    here ∙ ap (λ xs. pre ++ (k ∷ xs)) (append_assoc (reverse lefts) (reverse rights) post) ∙ sym (after-front pre (reverse lefts ++ (reverse rights ++ post)) k) in
    let behind : all ≡ ((pre ++ k ∷ []) ++ reverse lefts) ++ (reverse rights ++ post) = there ∙ sym (append_assoc (pre ++ k ∷ []) (reverse lefts) (reverse rights ++ post)) in
    let front : length ((pre ++ k ∷ []) ++ reverse lefts) ≡ suc i + nodes p =
    length-append (pre ++ k ∷ []) (reverse lefts) ∙ ap (λ m. m + length (reverse lefts)) (longer-front pre k i wide) ∙ ap (λ m. suc i + m) (length-reverse lefts ∙ count catalog p lefts left) in (
      (k, ap (λ xs. slice_get xs n) here ∙ at-front pre ((reverse lefts ++ reverse rights) ++ post) k i n wide parts.0, is),
      placed catalog p lefts all (pre ++ k ∷ []) (reverse rights ++ post) (suc i) left both.0 (longer-front pre k i wide) there,
      placed catalog q rights all ((pre ++ k ∷ []) ++ reverse lefts) post (suc i + nodes p) right both.1 front behind,
    )
placed catalog (exchange n c kind m p) made all pre post i (k, under, is, below, more) numbered wide put =
    let parts = and_parts (n == i) (is_numbered (suc i) p) numbered in
    let here : all ≡ pre ++ (k ∷ (reverse under ++ post)) = put ∙ ap (λ xs. pre ++ (xs ++ post)) (ap reverse more ∙ reverse-last under k) in (
      (k, ap (λ xs. slice_get xs n) here ∙ at-front pre (reverse under ++ post) k i n wide parts.0, is),
      placed catalog p under all (pre ++ k ∷ []) post (suc i) below parts.1 (longer-front pre k i wide) (here ∙ sym (after-front pre (reverse under ++ post) k)),
    )

pub numbered-all : (catalog : ℕ → Relation) (p : Plan) (made all : List Facts) → AreReversed catalog p made → is_numbered 0 p ≡ true → all ≡ reverse made → AreNumbered catalog all p
numbered-all catalog p made all are numbered is = placed catalog p made all [] [] 0 are numbered refl (is ∙ sym (append-nil (reverse made)))

pub map-reverse : {X Y : Type 0} (f : X → Y) (xs : List X) → map f (reverse xs) ≡ reverse (map f xs)
map-reverse f [] = refl
map-reverse f (x ∷ xs) =
    ap (map f) (reverse-append (x ∷ []) xs) ∙ map-append f (reverse xs) (x ∷ []) ∙ ap (λ ys. ys ++ f x ∷ []) (map-reverse f xs) ∙ sym (reverse-append (f x ∷ []) (map f xs))
