-- Where nodes are numbered in preorder, those whose numbers follow a node's own, up to that of the last below it, are those below it.
use Rattle.std.proofs.Common.{◌≡◌, ◌∙◌, ℕ, suc, ◌+◌, ◌==◌, nat_lt, nat_le, Bool, true, false, cond, ◌&&◌, ◌||◌, Option, Some, None, ap, sym, arith}
use Rattle.std.proofs.lemmas.Bool.Decides.{nat_tests}
use Rattle.vx_rows_values.proofs.Booleans.{and-left, and-right}
use Rattle.vx_plan_nodes.specs.Plan.{Plan, scan, unary, binary, exchange, number}
use Rattle.vx_plan_nodes.specs.Numbering.{nodes, is_numbered}
use Rattle.vx_plan_nodes.specs.Outline as outline
use Rattle.vx_plan_nodes.specs.Outline.{Outline, top, plan_in}
use Rattle.vx_check_rules.specs.Refusal.{or_else}
use Rattle.vx_check_failures.specs.Lines.{if_numbered, node_numbered}
use Rattle.vx_check_causes.specs.Below.{has_node, is_in_inputs, last_number, is_below}

-- the number is one of so many from the first on
abbrev is_between : ℕ → ℕ → ℕ → Bool
is_between i m k = nat_le i m && nat_lt m (i + k)

-- ---- numbers alone

between-one : (n i m : ℕ) → (n == i) ≡ true → (m == n) ≡ is_between i m 1
between-one n i m e = grind (arith, nat_tests, e)

between-more : (n i m k : ℕ) → (n == i) ≡ true → ((m == n) || is_between (suc i) m k) ≡ is_between i m (suc k)
between-more n i m k e = grind (arith, nat_tests, e)

between-both : (i m k l : ℕ) → (is_between i m k || is_between (i + k) m l) ≡ is_between i m (k + l)
between-both i m k l = grind (arith, nat_tests)

-- those from behind n up to the last are the k that follow
between-last : (n i m k last : ℕ) → (n == i) ≡ true → suc last ≡ suc i + k → (nat_lt n m && nat_le m last) ≡ is_between (suc i) m k
between-last n i m k last e l = grind (arith, nat_tests, e, l)

none-between : (n m : ℕ) → (nat_lt n m && nat_le m n) ≡ false
none-between n m = grind (arith, nat_tests)

-- ---- numbers of nodes

number-is : (i : ℕ) (p : Plan) → is_numbered i p ≡ true → (number p == i) ≡ true
number-is i (scan n c r s z) h = h
number-is i (unary n c op p) h = and-left (n == i) (is_numbered (suc i) p) h
number-is i (binary n c op p q) h = and-left (n == i) (is_numbered (suc i) p && is_numbered (suc i + nodes p) q) h
number-is i (exchange n c k g p) h = and-left (n == i) (is_numbered (suc i) p) h

-- the inputs of a node with two of them
left-numbered : (n i : ℕ) (p q : Plan) → ((n == i) && (is_numbered (suc i) p && is_numbered (suc i + nodes p) q)) ≡ true → is_numbered (suc i) p ≡ true
left-numbered n i p q h = and-left (is_numbered (suc i) p) (is_numbered (suc i + nodes p) q) (and-right (n == i) (is_numbered (suc i) p && is_numbered (suc i + nodes p) q) h)

right-numbered : (n i : ℕ) (p q : Plan) → ((n == i) && (is_numbered (suc i) p && is_numbered (suc i + nodes p) q)) ≡ true → is_numbered (suc i + nodes p) q ≡ true
right-numbered n i p q h = and-right (is_numbered (suc i) p) (is_numbered (suc i + nodes p) q) (and-right (n == i) (is_numbered (suc i) p && is_numbered (suc i + nodes p) q) h)

last-is : (i : ℕ) (p : Plan) → is_numbered i p ≡ true → suc (last_number p) ≡ i + nodes p
last-is i (scan n c r s z) h = grind (arith, nat_tests, h)
last-is i (unary n c op p) h = let l = last-is (suc i) p (and-right (n == i) (is_numbered (suc i) p) h) in omega (arith, l)
last-is i (binary n c op p q) h = let l = last-is (suc i + nodes p) q (right-numbered n i p q h) in omega (arith, l)
last-is i (exchange n c k g p) h = let l = last-is (suc i) p (and-right (n == i) (is_numbered (suc i) p) h) in omega (arith, l)

-- a node and those below it have so many numbers from its own on
has-is : (i : ℕ) (p : Plan) (m : ℕ) → is_numbered i p ≡ true → has_node p m ≡ is_between i m (nodes p)
has-is i (scan n c r s z) m h = between-one n i m h
has-is i (unary n c op p) m h =
    ap (λ b. (m == n) || b) (has-is (suc i) p m (and-right (n == i) (is_numbered (suc i) p) h)) ∙ between-more n i m (nodes p) (number-is i (unary n c op p) h)
has-is i (binary n c op p q) m h =
    ap (λ b. (m == n) || (b || has_node q m)) (has-is (suc i) p m (left-numbered n i p q h))
    ∙ (ap (λ b. (m == n) || (is_between (suc i) m (nodes p) || b)) (has-is (suc i + nodes p) q m (right-numbered n i p q h))
    ∙ (ap (λ b. (m == n) || b) (between-both (suc i) m (nodes p) (nodes q)) ∙ between-more n i m (nodes p + nodes q) (number-is i (binary n c op p q) h)))
has-is i (exchange n c k g p) m h =
    ap (λ b. (m == n) || b) (has-is (suc i) p m (and-right (n == i) (is_numbered (suc i) p) h)) ∙ between-more n i m (nodes p) (number-is i (exchange n c k g p) h)

-- those of the inputs have the numbers behind
below-inputs : (i : ℕ) (p : Plan) (m : ℕ) → is_numbered i p ≡ true → is_below p m ≡ is_in_inputs p m
below-inputs i (scan n c r s z) m h = none-between n m
below-inputs i (unary n c op p) m h =
    let in-it = and-right (n == i) (is_numbered (suc i) p) h in
    between-last n i m (nodes p) (last_number p) (number-is i (unary n c op p) h) (last-is (suc i) p in-it) ∙ sym (has-is (suc i) p m in-it)
below-inputs i (binary n c op p q) m h =
    let l = last-is (suc i + nodes p) q (right-numbered n i p q h) in
    between-last n i m (nodes p + nodes q) (last_number q) (number-is i (binary n c op p q) h) (omega (arith, l))
    ∙ (sym (between-both (suc i) m (nodes p) (nodes q))
    ∙ (ap (λ b. b || is_between (suc i + nodes p) m (nodes q)) (sym (has-is (suc i) p m (left-numbered n i p q h)))
    ∙ ap (λ b. has_node p m || b) (sym (has-is (suc i + nodes p) q m (right-numbered n i p q h)))))
below-inputs i (exchange n c k g p) m h =
    let in-it = and-right (n == i) (is_numbered (suc i) p) h in
    between-last n i m (nodes p) (last_number p) (number-is i (exchange n c k g p) h) (last-is (suc i) p in-it) ∙ sym (has-is (suc i) p m in-it)

-- ---- nodes that are found

or-found : {X : Type 0} (P : X → Type 0) (o u : Option X) (x : X) → ((y : X) → o ≡ Some y → P y) → ((y : X) → u ≡ Some y → P y) → or_else o u ≡ Some x → P x
or-found P None u x first second h = second x h
or-found P (Some y) u x first second h = first x h

-- nodes are numbered from some number on
abbrev IsNumbered : Outline → Type 0
IsNumbered o = (i : ℕ) × (is_numbered i (plan_in o) ≡ true)

here-numbered : (n : ℕ) (o x : Outline) → IsNumbered o → if_numbered n o ≡ Some x → IsNumbered x
here-numbered n o x has h = by ((top o).number == n) h
  where
    by : (b : Bool) → cond b (Some o) None ≡ Some x → IsNumbered x
    by true h = let is : x ≡ o = cc in rw is has
    by false h = cc

found-numbered : (n i : ℕ) (o x : Outline) → is_numbered i (plan_in o) ≡ true → node_numbered n o ≡ Some x → IsNumbered x
found-numbered n i (outline.scan h r s z w) x has e = here-numbered n (outline.scan h r s z w) x (i, has) e
found-numbered n i (outline.unary h op flags t) x has e =
    or-found IsNumbered (if_numbered n (outline.unary h op flags t)) (node_numbered n t) x (λ y k. here-numbered n (outline.unary h op flags t) y (i, has) k)
    (λ y k. found-numbered n (suc i) t y (and-right (h.number == i) (is_numbered (suc i) (plan_in t)) has) k) e
found-numbered n i (outline.binary h op t u) x has e =
    or-found IsNumbered (if_numbered n (outline.binary h op t u)) (or_else (node_numbered n t) (node_numbered n u)) x
    (λ y k. here-numbered n (outline.binary h op t u) y (i, has) k)
    (λ y k. or-found IsNumbered (node_numbered n t) (node_numbered n u) y (λ z l. found-numbered n (suc i) t z (left-numbered h.number i (plan_in t) (plan_in u) has) l)
    (λ z l. found-numbered n (suc i + nodes (plan_in t)) u z (right-numbered h.number i (plan_in t) (plan_in u) has) l) k) e
found-numbered n i (outline.exchange h kind merge t) x has e =
    or-found IsNumbered (if_numbered n (outline.exchange h kind merge t)) (node_numbered n t) x (λ y k. here-numbered n (outline.exchange h kind merge t) y (i, has) k)
    (λ y k. found-numbered n (suc i) t y (and-right (h.number == i) (is_numbered (suc i) (plan_in t)) has) k) e

-- what follows the number of a node that is found lies below it
pub below-found : (root o : Outline) (m n : ℕ) → is_numbered 0 (plan_in root) ≡ true → node_numbered n root ≡ Some o → is_below (plan_in o) m ≡ true → is_in_inputs (plan_in o) m ≡ true
below-found root o m n has e h = let x = found-numbered n 0 root o has e in sym (below-inputs x.0 (plan_in o) m x.1) ∙ h
