-- What is kept of nodes, where one more answer is kept, and where inputs are asked.
use Rattle.std.proofs.Common.{◌≡◌, ◌∙◌, ℕ, zero, suc, ◌+◌, ◌<◌, inl, inr, ◌⊎◌, ⊎_elim, List, [], ◌∷◌, ◌++◌, length, length-append, take, drop, get_or, set, refl, sym, ap, subst, arith, Bool, true, false, true≢false, Option, Some, None, slice_get, option_map, map}
use Rattle.vx_catalog_relations.specs.Relation.{Relation}
use Rattle.vx_plan_nodes.specs.Plan.{Plan, number, claim, scan, unary, binary, exchange, union, join, semi_join}
use Rattle.vx_plan_nodes.specs.Types.{width}
use Rattle.vx_plan_facts.specs.declared.answers.Answer as rust_answer
use Rattle.vx_plan_facts.specs.declared.answers.Answers as rust_answers
use Rattle.vx_plan_facts.specs.declared.facts.ColumnFacts as rust_facts
use Rattle.vx_plan_facts.specs.ColumnSetView.{set_of_columns}
use Rattle.vx_plan_facts.specs.FactsView.{facts_of}
use Rattle.vx_plan_facts.specs.Facts.{Facts}
use Rattle.vx_plan_facts.specs.Determined.{Columns}
use Rattle.vx_plan_facts.specs.Asking.{Input, IsAnswer, IsKnown, InputIsKnown, with_keys, left_input, right_input}
use Rattle.vx_plan_facts.specs.Known.{IsAnswerOf, StandAmong, InputStandsAmong}
use Rattle.vx_plan_facts.specs.AnswersView.{answer_of, AreAnswersOf, AreKept, IsKnownAmong, IsKnownWith, InputIsKnownAmong}
use Rattle.vx_plan_facts.proofs.Searching.{Searching, top-stands, known-left, known-right}

-- ---- lists

abbrev or-this : {Y : Type 0} → Y → Option Y → Y
or-this d None = d
or-this d (Some x) = x

abbrev holds : {Y : Type 0} → Option Y → Bool
holds None = false
holds (Some x) = true

none-some : {Y : Type 0} (x : Y) {A : Type 0} → None ≡ Some x → A
none-some x e = absurd (true≢false (sym (ap holds e)))

pub some-same : {Y : Type 0} (x y : Y) → Some x ≡ Some y → x ≡ y
some-same x y e = ap (or-this x) e

pub in-list : {Y : Type 0} (xs : List Y) (n : ℕ) (x : Y) → slice_get xs n ≡ Some x → n < length xs
in-list [] n x e = none-some x e
in-list (y ∷ ys) zero x e = omega arith
in-list (y ∷ ys) (suc n) x e = let l = in-list ys n x e in omega (arith, l)

pub got : {Y : Type 0} (xs : List Y) (n : ℕ) (d x : Y) → slice_get xs n ≡ Some x → get_or xs n d ≡ x
got [] n d x e = none-some x e
got (y ∷ ys) zero d x e = some-same y x e
got (y ∷ ys) (suc n) d x e = got ys n d x e

pub stands-in : {Y : Type 0} (xs : List Y) (n : ℕ) (d : Y) → n < length xs → slice_get xs n ≡ Some (get_or xs n d)
stands-in [] n d l = absurd (omega (arith, l))
stands-in (y ∷ ys) zero d l = refl
stands-in (y ∷ ys) (suc n) d l = stands-in ys n d (omega (arith, l))

pub pushed : {Y : Type 0} (Q : Y → Type 0) (xs : List Y) (x : Y) → ((n : ℕ) (y : Y) → slice_get xs n ≡ Some y → Q y) → Q x
    → (n : ℕ) (y : Y) → slice_get (xs ++ x ∷ []) n ≡ Some y → Q y
pushed Q [] x h q zero y e = subst Q (some-same x y e) q
pushed Q [] x h q (suc n) y e = none-some y e
pushed Q (z ∷ zs) x h q zero y e = h zero y e
pushed Q (z ∷ zs) x h q (suc n) y e = pushed Q zs x (λ m w f. h (suc m) w f) q n y e

pub grown : {Y : Type 0} (xs ys : List Y) (x : Y) (n : ℕ) → ys ≡ xs ++ x ∷ [] → length xs ≡ n → length ys ≡ n + 1
grown xs ys x n is wide = let e = ap length is in let f = length-append xs (x ∷ []) in omega (arith, e, f, wide)

-- a list that was written over as far as another one goes, which is as long
pub written-over : {Y : Type 0} (n : ℕ) (new old : List Y) → length new ≡ length old → n ≡ length new → take n (new ++ drop (length new) old) ≡ new
written-over n new old same wide = ap (λ m. take m (new ++ drop (length new) old)) wide ∙ go new old same
  where
    go : {Y : Type 0} (new old : List Y) → length new ≡ length old → take (length new) (new ++ drop (length new) old) ≡ new
    go [] old e = refl
    go (x ∷ xs) [] e = absurd (omega (arith, e))
    go (x ∷ xs) (y ∷ ys) e = ap (λ zs. x ∷ zs) (go xs ys (omega (arith, e)))

pub set-wide : {Y : Type 0} (xs : List Y) (n : ℕ) (x : Y) → length (set xs n x) ≡ length xs
set-wide [] n x = refl
set-wide (y ∷ ys) zero x = refl
set-wide (y ∷ ys) (suc n) x = ap suc (set-wide ys n x)

set-at : {Y : Type 0} (xs : List Y) (n m : ℕ) (x y : Y) → slice_get (set xs n x) m ≡ Some y → ((m ≡ n) × (x ≡ y)) ⊎ (slice_get xs m ≡ Some y)
set-at [] n m x y e = none-some y e
set-at (z ∷ zs) zero zero x y e = inl (refl, some-same x y e)
set-at (z ∷ zs) zero (suc m) x y e = inr e
set-at (z ∷ zs) (suc n) zero x y e = inr e
set-at (z ∷ zs) (suc n) (suc m) x y e = ⊎_elim (λ h. inl (ap suc h.0, h.1)) (λ h. inr h) (set-at zs n m x y e)

-- ---- answers

top-among : (all : List Plan) (p : Plan) → StandAmong all p → slice_get all (number p) ≡ Some p
top-among all (scan n c r m z) h = h
top-among all (unary n c op p) h = h.0
top-among all (binary n c op p q) h = h.0
top-among all (exchange n c k m p) h = h.0

module _ (catalog : ℕ → Relation) (all : List Plan) (facts : List Facts) (answers : List rust_answers.Answers) (p : Plan) (h : IsKnownAmong catalog all facts answers p) where
  -- there is a place for the node
  pub in-place : number p < length answers
  in-place =
      let top = top-stands catalog facts p h.known.numbered in
      let l = in-list facts (number p) top.0 top.1 in
      let wide = h.kept.wide in
      omega (arith, l, wide)

  -- what is kept there are answers of it
  pub at-place : (now : List rust_answers.Answers) → AreKept catalog all (length facts) now → (n : ℕ) (d : rust_answers.Answers) → n ≡ number p → AreAnswersOf catalog p (get_or now n d)
  at-place now kept n d is =
      let l = in-place in
      let wide = h.kept.wide in
      let other = kept.wide in
      kept.right n p (get_or now n d) (ap (slice_get all) is ∙ top-among all p h.among) (stands-in now n d (omega (arith, l, wide, other, is)))

  -- more answers of it may stand there
  pub kept-at : (now : List rust_answers.Answers) → AreKept catalog all (length facts) now → (n : ℕ) (a : rust_answers.Answers) → n ≡ number p → AreAnswersOf catalog p a
      → AreKept catalog all (length facts) (set now n a)
  kept-at now kept n a is are = record {
    wide = set-wide now n a ∙ kept.wide;
    right = λ m q b at e.
        ⊎_elim
        (λ x.
        let same : p ≡ q = some-same p q (sym (ap (slice_get all) is ∙ top-among all p h.among) ∙ ap (slice_get all) (sym x.0) ∙ at) in
        let P : Plan → Type 0 = λ y. AreAnswersOf catalog y b in
        let Q : rust_answers.Answers → Type 0 = λ y. AreAnswersOf catalog p y in
        subst P same (subst Q x.1 are))
        (λ x. kept.right m q b at x)
        (set-at now n m a b e);
  }

-- the search goes on, and what is kept are answers
pub record StillKnown (catalog : ℕ → Relation) (all : List Plan) (facts : List Facts) (answers : List rust_answers.Answers) (p : Plan) (s found : Columns) (lefts rights : Option Columns) : Type 0 where
  pub searching : Searching catalog p s found lefts rights
  pub kept : AreKept catalog all (length facts) answers

-- the same, as slices hold it
pub known-as : (catalog : ℕ → Relation) (all : List Plan) (fs gs : List rust_facts.ColumnFacts) (xs ys : List rust_answers.Answers) (p : Plan) → gs ≡ fs → ys ≡ xs
    → IsKnownAmong catalog all (map facts_of fs) xs p → IsKnownAmong catalog all (map facts_of gs) ys p
known-as catalog all fs gs xs ys p facts answers h =
    let P : List rust_facts.ColumnFacts → Type 0 = λ zs. IsKnownAmong catalog all (map facts_of zs) xs p in
    let Q : List rust_answers.Answers → Type 0 = λ zs. IsKnownAmong catalog all (map facts_of gs) zs p in
    subst Q (sym answers) (subst P (sym facts) h)

-- ---- keys

with-own : (p : Plan) → with_keys (claim p).keys p ≡ p
with-own (scan n c r m z) = refl
with-own (unary n c op p) = refl
with-own (binary n c op p q) = refl
with-own (exchange n c k m p) = refl

pub own-keys : (keys : List (List ℕ)) (p : Plan) → keys ≡ (claim p).keys → with_keys keys p ≡ p
own-keys keys p is = ap (λ ks. with_keys ks p) is ∙ with-own p

pub known-own : (catalog : ℕ → Relation) (all : List Plan) (facts : List Facts) (answers : List rust_answers.Answers) (p : Plan) (keys : List (List ℕ)) → keys ≡ (claim p).keys
    → IsKnownAmong catalog all facts answers p → IsKnownWith catalog all facts answers keys p
known-own catalog all facts answers p keys is h = record { known = subst (λ q. IsKnown catalog facts q) (sym (own-keys keys p is)) h.known; among = h.among; kept = h.kept }

-- ---- inputs

stands-left : (catalog : ℕ → Relation) (all : List Plan) (keys : List (List ℕ)) (p : Plan) → StandAmong all p → InputStandsAmong all (left_input catalog (with_keys keys p))
stands-left catalog all keys (scan n c r m z) h = tt
stands-left catalog all keys (unary n c op p) h = h.1
stands-left catalog all keys (binary n c union p q) h = tt
stands-left catalog all keys (binary n c (join m on) p q) h = h.1
stands-left catalog all keys (binary n c (semi_join matched on conditions) p q) h = h.1
stands-left catalog all keys (exchange n c k m p) h = h.1

stands-right : (catalog : ℕ → Relation) (all : List Plan) (keys : List (List ℕ)) (p : Plan) → StandAmong all p → InputStandsAmong all (right_input catalog (with_keys keys p))
stands-right catalog all keys (scan n c r m z) h = tt
stands-right catalog all keys (unary n c op p) h = tt
stands-right catalog all keys (binary n c union p q) h = tt
stands-right catalog all keys (binary n c (join m on) p q) h = h.2
stands-right catalog all keys (binary n c (semi_join matched on conditions) p q) h = tt
stands-right catalog all keys (exchange n c k m p) h = tt

module _ (catalog : ℕ → Relation) (all : List Plan) (facts : List Facts) (old : List rust_answers.Answers) (keys : List (List ℕ)) (q : Plan) (h : IsKnownWith catalog all facts old keys q) where
  pub left-known : (now : List rust_answers.Answers) → AreKept catalog all (length facts) now → (w : ℕ) (i : Option Input) → w ≡ width catalog (with_keys keys q)
      → i ≡ left_input catalog (with_keys keys q) → InputIsKnownAmong catalog all facts now w i
  left-known now kept w i wide is =
      let P : ℕ → Type 0 = λ v. InputIsKnown catalog facts v i in
      let Q : Option Input → Type 0 = λ o. InputIsKnown catalog facts (width catalog (with_keys keys q)) o in
      let R : Option Input → Type 0 = λ o. InputStandsAmong all o in
      record {
        input = subst P (sym wide) (subst Q (sym is) (known-left catalog facts (with_keys keys q) h.known));
        among = subst R (sym is) (stands-left catalog all keys q h.among);
        kept = kept;
      }

  pub right-known : (now : List rust_answers.Answers) → AreKept catalog all (length facts) now → (w : ℕ) (i : Option Input) → w ≡ width catalog (with_keys keys q)
      → i ≡ right_input catalog (with_keys keys q) → InputIsKnownAmong catalog all facts now w i
  right-known now kept w i wide is =
      let P : ℕ → Type 0 = λ v. InputIsKnown catalog facts v i in
      let Q : Option Input → Type 0 = λ o. InputIsKnown catalog facts (width catalog (with_keys keys q)) o in
      let R : Option Input → Type 0 = λ o. InputStandsAmong all o in
      record {
        input = subst P (sym wide) (subst Q (sym is) (known-right catalog facts (with_keys keys q) h.known));
        among = subst R (sym is) (stands-right catalog all keys q h.among);
        kept = kept;
      }

-- an input that there is
pub input-known : (catalog : ℕ → Relation) (all : List Plan) (facts : List Facts) (answers : List rust_answers.Answers) (w : ℕ) (i : Input) → InputIsKnownAmong catalog all facts answers w (Some i)
    → IsKnownAmong catalog all facts answers i.1
input-known catalog all facts answers w i h = record { known = h.input.known; among = h.among; kept = h.kept }

-- no answer that is not there is wrong
pub none-are : (catalog : ℕ → Relation) (p : Plan) (a : rust_answers.Answers) → ((i : ℕ) → slice_get a.kept.items i ≡ None) → AreAnswersOf catalog p a
none-are catalog p a none i = let P : Option rust_answer.Answer → Type 0 = λ o. IsAnswerOf catalog p (option_map answer_of o) in subst P (sym (none i)) tt

-- each that is kept is an answer
pub kept-is : (catalog : ℕ → Relation) (p : Plan) (a : rust_answers.Answers) (kept : List rust_answer.Answer) (n : ℕ) (d : rust_answer.Answer) → kept ≡ a.kept.items → n < length kept
    → AreAnswersOf catalog p a → IsAnswer catalog p (set_of_columns (get_or kept n d).asked) (set_of_columns (get_or kept n d).found)
kept-is catalog p a kept n d is l are =
    let P : Option rust_answer.Answer → Type 0 = λ o. IsAnswerOf catalog p (option_map answer_of o) in
    subst P (ap (λ xs. slice_get xs n) (sym is) ∙ stands-in kept n d l) (are n)
