-- The plan without exchanges has the same serial rows.
use Rattle.std.proofs.Common.{cond, ◌≡◌, ℕ, ◌+◌, List, refl, ap, ◌∙◌, Option, Some, None, sym, true}
use Rattle.vx_rows_values.specs.Values.{Row}
use Rattle.vx_plan_nodes.specs.Plan.{Plan, scan, unary, binary, exchange, Unary, sort, group, partial, Aggregate}
use Rattle.vx_plan_nodes.specs.Serial.{SerialResult, rows, overflow, or_overflow, after, serial, unary_rows, binary_rows, IsOverflow, group_rows}
use Rattle.vx_exec_laws.specs.Faults.{ErasedOverflows}
use Rattle.vx_plan_nodes.specs.Erase.{no_claim, erase_from, nodes_left}
use Rattle.vx_catalog_relations.specs.Relation.{Relation}
use Rattle.vx_plan_nodes.specs.Types.{well_formed, names_columns, width}
use Rattle.vx_exec_laws.proofs.Bags.{and-left}
use Rattle.vx_exec_laws.proofs.Phased.{by-phase}
use Rattle.vx_exec_laws.proofs.Opened.{final-serial}
use Rattle.vx_exec_laws.proofs.WellFormed.{well-under, well-both}

-- a list of rows, whatever node overflows
abbrev pub list_of : SerialResult → Option (List Row)
list_of (rows xs) = Some xs
list_of (overflow n) = None

some-list : (o : Option (List Row)) (i n : ℕ) → list_of (or_overflow i o) ≡ list_of (or_overflow n o)
some-list (Some xs) i n = refl
some-list None i n = refl

after-list : (o u : SerialResult) (f g : List Row → SerialResult) → list_of o ≡ list_of u → ((xs : List Row) → list_of (f xs) ≡ list_of (g xs)) → list_of (after o f) ≡ list_of (after u g)
after-list (rows xs) (rows ys) f g e h = let s : xs ≡ ys = cc in h xs ∙ ap (λ v. list_of (g v)) s
after-list (rows xs) (overflow n) f g e h = cc
after-list (overflow n) (rows ys) f g e h = cc
after-list (overflow n) (overflow m) f g e h = refl

pub erase-list : (catalog : ℕ → Relation) (db : ℕ → List Row) (i : ℕ) (p : Plan) → well_formed catalog p ≡ true → list_of (serial db (erase_from i p)) ≡ list_of (serial db p)
erase-list catalog db i (scan n c r m z) wf = refl
erase-list catalog db i (unary n c op p) wf =
    let ih : (j : ℕ) → list_of (serial db (erase_from j p)) ≡ list_of (serial db p) = λ j. erase-list catalog db j p (well-under catalog n c op p wf).0 in
    by-phase
    (λ op f. f.fits p ≡ true → list_of (serial db (cond f.ends (erase_from i p) (unary i no_claim f.once (erase_from (i + 1) p)))) ≡ list_of (serial db (unary n c op p)))
    (λ op v e. over op ih) (λ by aggregates e. over (group partial by aggregates) ih) (λ order e. over (sort true order) ih)
    (λ by aggregates e. ih i ∙ again by aggregates (serial db p) (λ xs h. final-serial db by aggregates p e xs h))
    op (well-under catalog n c op p wf).1
  where
    over : (op : Unary) → ((j : ℕ) → list_of (serial db (erase_from j p)) ≡ list_of (serial db p))
        → list_of (after (serial db (erase_from (i + 1) p)) (λ xs. or_overflow i (unary_rows op xs))) ≡ list_of (after (serial db p) (λ xs. or_overflow n (unary_rows op xs)))
    over op ih = after-list _ _ (λ xs. or_overflow i (unary_rows op xs)) (λ xs. or_overflow n (unary_rows op xs)) (ih (i + 1)) (λ xs. some-list (unary_rows op xs) i n)

    -- a final adds nothing
    again : (keys : List ℕ) (puts : List Aggregate) (o : SerialResult) → ((xs : List Row) → o ≡ rows xs → group_rows keys puts xs ≡ Some xs)
        → list_of o ≡ list_of (after o (λ xs. or_overflow n (group_rows keys puts xs)))
    again keys puts (overflow m) h = refl
    again keys puts (rows xs) h = sym (ap (λ v. list_of (or_overflow n v)) (h xs refl))
erase-list catalog db i (binary n c op p q) wf = after-list _ _ (λ xs. after (serial db (erase_from (i + 1 + nodes_left p) q)) (λ ys. rows (binary_rows op xs ys))) (λ xs. after (serial db q) (λ ys. rows (binary_rows op xs ys)))
    (erase-list catalog db (i + 1) p (well-both catalog n c op p q wf).0) (λ xs. after-list _ _ (λ ys. rows (binary_rows op xs ys)) (λ ys. rows (binary_rows op xs ys)) (erase-list catalog db (i + 1 + nodes_left p) q (well-both catalog n c op p q wf).1) (λ ys. refl))
erase-list catalog db i (exchange n c k m p) wf = erase-list catalog db i p (and-left (well_formed catalog p) (names_columns (width catalog p) c) wf)

pub erased-rows : (catalog : ℕ → Relation) (db : ℕ → List Row) (i : ℕ) (p : Plan) (xs : List Row) → well_formed catalog p ≡ true → serial db p ≡ rows xs → serial db (erase_from i p) ≡ rows xs
erased-rows catalog db i p xs wf e = go (serial db (erase_from i p)) (erase-list catalog db i p wf ∙ ap list_of e)
  where
    go : (o : SerialResult) → list_of o ≡ Some xs → o ≡ rows xs
    go (rows ys) h = let s : ys ≡ xs = cc in ap rows s
    go (overflow n) h = cc

same-overflow : (o u : SerialResult) → list_of o ≡ list_of u → IsOverflow o → IsOverflow u
same-overflow (rows xs) u e h = absurd h
same-overflow (overflow n) (rows ys) e h = cc
same-overflow (overflow n) (overflow m) e h = tt

pub erased-overflows : ErasedOverflows
erased-overflows catalog db p wf =
    (same-overflow (serial db p) (serial db (erase_from 0 p)) (sym (erase-list catalog db 0 p wf)), same-overflow (serial db (erase_from 0 p)) (serial db p) (erase-list catalog db 0 p wf))
