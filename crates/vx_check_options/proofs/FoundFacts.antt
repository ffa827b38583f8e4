-- Keys that are found, one more at a time.
use Rattle.std.proofs.Common.{Vec, Global, map, suc, drop, ℕ, ◌≡◌, ◌+◌, ◌-◌, ◌<◌, ◌≤◌, ◌==◌, Bool, true, false, cond, not, ◌||◌, ◌⊎◌, inl, inr, ⊎_elim, List, [], ◌∷◌, ◌++◌, length, take, get_or, subst, refl, sym, ap, ◌∙◌, arith}
use Rattle.std.specs.List.{list_all, list_any, filter}
use Rattle.std.proofs.lemmas.List.{take_all, length-append}
use Rattle.std.proofs.lemmas.Bool.{eqb-true}
use Rattle.std.proofs.lemmas.Bool.Decides.{nat_tests}
use Rattle.std.proofs.lemmas.List.Folds.{list_any-append, list_all-append, list_any_more, list_any_at}
use Rattle.vx_rows_values.proofs.Booleans.{and-left, and-right, and-both}
use Rattle.vx_catalog_relations.specs.Catalog.{are_distinct}
use Rattle.vx_check_rules.specs.Rules.{contains, within, covers}
use Rattle.vx_check_rules.proofs.Bools.{or-left, or-right, all-more, any-more}
use Rattle.vx_check_options.specs.FoundKeys.{are_apart, with_key, with_column, meets_each, IsChoice, IsMet, Finds}
use Rattle.vx_check_options.proofs.Telling.{same}

-- ---- tests

pub either : (a b : Bool) → (a || b) ≡ true → (a ≡ true) ⊎ (b ≡ true)
either true b h = inl refl
either false b h = inr h

or-none : (a b : Bool) → a ≡ false → b ≡ false → (a || b) ≡ false
or-none a b h k = rw (h, k) refl

or-first : (a b : Bool) → (a || b) ≡ false → a ≡ false
or-first false b h = refl
or-first true b h = cc

or-second : (a b : Bool) → (a || b) ≡ false → b ≡ false
or-second false b h = h
or-second true b h = cc

pub not-false : (b : Bool) → b ≡ false → not b ≡ true
not-false b h = rw h refl

pub not-true : (b : Bool) → not b ≡ true → b ≡ false
not-true false h = refl
not-true true h = cc

-- ---- columns among others

pub contains-in : (xs ys : List ℕ) (c : ℕ) → within xs ys ≡ true → contains xs c ≡ true → contains ys c ≡ true
contains-in [] ys c h k = cc
contains-in (x ∷ xs) ys c h k =
    ⊎_elim (λ f. let is : c ≡ x = eqb-true c x f in rw is (and-left (contains ys x) (within xs ys) h)) (λ f. contains-in xs ys c (and-right (contains ys x) (within xs ys) h) f)
    (either (c == x) (contains xs c) k)

pub within-trans : (xs ys zs : List ℕ) → within xs ys ≡ true → within ys zs ≡ true → within xs zs ≡ true
within-trans xs ys zs h k = all-more (contains ys) (contains zs) xs (λ c e. contains-in ys zs c k e) h

pub within-more : (x : ℕ) (xs ys : List ℕ) → within ys xs ≡ true → within ys (x ∷ xs) ≡ true
within-more x xs ys h = all-more (contains xs) (contains (x ∷ xs)) ys (λ c e. or-right (c == x) (contains xs c) e) h

pub within-self : (xs : List ℕ) → within xs xs ≡ true
within-self [] = refl
within-self (x ∷ xs) = and-both (contains (x ∷ xs) x) (within xs (x ∷ xs)) (or-left (x == x) (contains xs x) (same x)) (within-more x xs xs (within-self xs))

pub covers-more : (keys : List (List ℕ)) (p x : List ℕ) → covers keys p ≡ true → within p x ≡ true → covers keys x ≡ true
covers-more keys p x h k = any-more (λ key. within key p) (λ key. within key x) keys (λ key e. within-trans key p x e k) h

-- ---- a column more

pub column-within : (cols : List ℕ) (c : ℕ) → within cols (with_column cols c) ≡ true
column-within cols c = by (contains cols c)
  where
    by : (b : Bool) → within cols (cond b cols (cols ++ c ∷ [])) ≡ true
    by true = within-self cols
    by false = all-more (contains cols) (contains (cols ++ c ∷ [])) cols (λ d e. list_any-append (λ y. d == y) cols (c ∷ []) ∙ or-left (contains cols d) (contains (c ∷ []) d) e) (within-self cols)

pub column-there : (cols : List ℕ) (c : ℕ) → contains (with_column cols c) c ≡ true
column-there cols c = by (contains cols c) refl
  where
    by : (b : Bool) → contains cols c ≡ b → contains (cond b cols (cols ++ c ∷ [])) c ≡ true
    by true e = e
    by false e = list_any-append (λ y. c == y) cols (c ∷ []) ∙ or-right (contains cols c) (contains (c ∷ []) c) (or-left (c == c) false (same c))

pub column-in : (cols xs : List ℕ) (c : ℕ) → within cols xs ≡ true → contains xs c ≡ true → within (with_column cols c) xs ≡ true
column-in cols xs c h k = by (contains cols c)
  where
    by : (b : Bool) → within (cond b cols (cols ++ c ∷ [])) xs ≡ true
    by true = h
    by false = list_all-append (contains xs) cols (c ∷ []) ∙ and-both (within cols xs) (within (c ∷ []) xs) h (and-both (contains xs c) true k refl)

eq-turned : (x c : ℕ) → (x == c) ≡ (c == x)
eq-turned x c = grind (arith, nat_tests)

distinct-more : (cols : List ℕ) (c : ℕ) → are_distinct cols ≡ true → contains cols c ≡ false → are_distinct (cols ++ c ∷ []) ≡ true
distinct-more [] c h k = refl
distinct-more (x ∷ xs) c h k =
    and-both (not (contains (xs ++ c ∷ []) x)) (are_distinct (xs ++ c ∷ []))
    (not-false (contains (xs ++ c ∷ []) x)
    (list_any-append (λ y. x == y) xs (c ∷ [])
    ∙ or-none (contains xs x) (contains (c ∷ []) x) (not-true (contains xs x) (and-left (not (contains xs x)) (are_distinct xs) h))
    (or-none (x == c) false (eq-turned x c ∙ or-first (c == x) (contains xs c) k) refl)))
    (distinct-more xs c (and-right (not (contains xs x)) (are_distinct xs) h) (or-second (c == x) (contains xs c) k))

pub column-distinct : (cols : List ℕ) (c : ℕ) → are_distinct cols ≡ true → are_distinct (with_column cols c) ≡ true
column-distinct cols c h = by (contains cols c) refl
  where
    by : (b : Bool) → contains cols c ≡ b → are_distinct (cond b cols (cols ++ c ∷ [])) ≡ true
    by true e = h
    by false e = distinct-more cols c h e

-- ---- a key more

pub all-filtered : {X : Type 0} (test p : X → Bool) (xs : List X) → list_all test xs ≡ true → list_all test (filter p xs) ≡ true
all-filtered test p [] h = refl
all-filtered test p (x ∷ xs) h = by (p x) (all-filtered test p xs (and-right (test x) (list_all test xs) h))
  where
    by : (b : Bool) → list_all test (filter p xs) ≡ true → list_all test (cond b (x ∷ filter p xs) (filter p xs)) ≡ true
    by true more = and-both (test x) (list_all test (filter p xs)) (and-left (test x) (list_all test xs) h) more
    by false more = more

pub none-filtered : {X : Type 0} (test p : X → Bool) (xs : List X) → list_any test xs ≡ false → list_any test (filter p xs) ≡ false
none-filtered test p [] h = refl
none-filtered test p (x ∷ xs) h = by (p x) (none-filtered test p xs (or-second (test x) (list_any test xs) h))
  where
    by : (b : Bool) → list_any test (filter p xs) ≡ false → list_any test (cond b (x ∷ filter p xs) (filter p xs)) ≡ false
    by true more = or-none (test x) (list_any test (filter p xs)) (or-first (test x) (list_any test xs) h) more
    by false more = more

last-covers : (keys : List (List ℕ)) (key x : List ℕ) → within key x ≡ true → covers (keys ++ key ∷ []) x ≡ true
last-covers keys key x h = list_any-append (λ k. within k x) keys (key ∷ []) ∙ or-right (covers keys x) (covers (key ∷ []) x) (or-left (within key x) false h)

-- a key that is dropped contains the new one
rest-covers : (keys : List (List ℕ)) (key x : List ℕ) → covers keys x ≡ true → covers (filter (λ other. not (within key other)) keys ++ key ∷ []) x ≡ true
rest-covers [] key x h = cc
rest-covers (k ∷ ks) key x h = by (within key k) refl (either (within k x) (covers ks x) h) (λ f. rest-covers ks key x f)
  where
    rest : List (List ℕ)
    rest = filter (λ other. not (within key other)) ks

    by : (b : Bool) → within key k ≡ b → (within k x ≡ true) ⊎ (covers ks x ≡ true) → (covers ks x ≡ true → covers (rest ++ key ∷ []) x ≡ true)
        → covers (cond (not b) (k ∷ rest) rest ++ key ∷ []) x ≡ true
    by true e (inl f) more = last-covers rest key x (within-trans key k x e f)
    by true e (inr f) more = more f
    by false e (inl f) more = or-left (within k x) (covers (rest ++ key ∷ []) x) f
    by false e (inr f) more = or-right (within k x) (covers (rest ++ key ∷ []) x) (more f)

pub key-covers : (keys : List (List ℕ)) (key : List ℕ) → covers (with_key keys key) key ≡ true
key-covers keys key = by (covers keys key) refl
  where
    rest : List (List ℕ)
    rest = filter (λ other. not (within key other)) keys

    by : (b : Bool) → covers keys key ≡ b → covers (cond b keys (rest ++ key ∷ [])) key ≡ true
    by true e = e
    by false e = last-covers rest key key (within-self key)

pub key-keeps : (keys : List (List ℕ)) (key x : List ℕ) → covers keys x ≡ true → covers (with_key keys key) x ≡ true
key-keeps keys key x h = by (covers keys key)
  where
    by : (b : Bool) → covers (cond b keys (filter (λ other. not (within key other)) keys ++ key ∷ [])) x ≡ true
    by true = h
    by false = rest-covers keys key x h

pub key-passes : (test : List ℕ → Bool) (keys : List (List ℕ)) (key : List ℕ) → test key ≡ true → list_all test keys ≡ true → list_all test (with_key keys key) ≡ true
key-passes test keys key h k = by (covers keys key)
  where
    rest : List (List ℕ)
    rest = filter (λ other. not (within key other)) keys

    by : (b : Bool) → list_all test (cond b keys (rest ++ key ∷ [])) ≡ true
    by true = k
    by false = list_all-append test rest (key ∷ []) ∙ and-both (list_all test rest) (list_all test (key ∷ [])) (all-filtered test (λ other. not (within key other)) keys k) (and-both (test key) true h refl)

rest-apart : (keys : List (List ℕ)) (key : List ℕ) → are_apart keys ≡ true → covers keys key ≡ false → are_apart (filter (λ other. not (within key other)) keys ++ key ∷ []) ≡ true
rest-apart [] key h k = refl
rest-apart (x ∷ xs) key h k =
    by (within key x) refl (rest-apart xs key (and-right (not (list_any (λ other. within x other || within other x) xs)) (are_apart xs) h) (or-second (within x key) (covers xs key) k))
  where
    rest : List (List ℕ)
    rest = filter (λ other. not (within key other)) xs

    meet : List ℕ → Bool
    meet = λ other. within x other || within other x

    none : list_any meet rest ≡ false
    none = none-filtered meet (λ other. not (within key other)) xs (not-true (list_any meet xs) (and-left (not (list_any meet xs)) (are_apart xs) h))

    by : (b : Bool) → within key x ≡ b → are_apart (rest ++ key ∷ []) ≡ true → are_apart (cond (not b) (x ∷ rest) rest ++ key ∷ []) ≡ true
    by true e more = more
    by false e more =
        and-both (not (list_any meet (rest ++ key ∷ []))) (are_apart (rest ++ key ∷ []))
        (not-false (list_any meet (rest ++ key ∷ []))
        (list_any-append meet rest (key ∷ []) ∙ or-none (list_any meet rest) (list_any meet (key ∷ [])) none (or-none (meet key) false (or-none (within x key) (within key x) (or-first (within x key) (covers xs key) k) e) refl)))
        more

length-passing : (test : List ℕ → Bool) (xs : List (List ℕ)) → length (filter test xs) ≤ length xs
length-passing test [] = omega arith
length-passing test (x ∷ xs) = by (test x) (length-passing test xs)
  where
    by : (b : Bool) → length (filter test xs) ≤ length xs → length (cond b (x ∷ filter test xs) (filter test xs)) ≤ suc (length xs)
    by true h = omega (arith, h)
    by false h = omega (arith, h)

pub key-longer : (keys : List (List ℕ)) (key : List ℕ) → length (with_key keys key) ≤ suc (length keys)
key-longer keys key = by (covers keys key)
  where
    rest : List (List ℕ)
    rest = filter (λ other. not (within key other)) keys

    by : (b : Bool) → length (cond b keys (rest ++ key ∷ [])) ≤ suc (length keys)
    by true = omega arith
    by false =
        let shorter = length-passing (λ other. not (within key other)) keys in
        let both : length (rest ++ key ∷ []) ≡ length rest + 1 = length-append rest (key ∷ []) in
        omega (arith, shorter, both)

pub key-apart : (keys : List (List ℕ)) (key : List ℕ) → are_apart keys ≡ true → are_apart (with_key keys key) ≡ true
key-apart keys key h = by (covers keys key) refl
  where
    by : (b : Bool) → covers keys key ≡ b → are_apart (cond b keys (filter (λ other. not (within key other)) keys ++ key ∷ [])) ≡ true
    by true e = h
    by false e = rest-apart keys key h e

pub key-added : (keys : List (List ℕ)) (key : List ℕ) → covers keys key ≡ false → filter (λ other. not (within key other)) keys ++ key ∷ [] ≡ with_key keys key
key-added keys key h = rw h refl

pub key-there : (keys : List (List ℕ)) (key : List ℕ) → covers keys key ≡ true → keys ≡ with_key keys key
key-there keys key h = rw h refl

-- the lists of those that pass
pub lists-filtered : (test : List ℕ → Bool) (vs : List (Vec ℕ Global)) → map (λ (v : Vec ℕ Global). v.items) (filter (λ (v : Vec ℕ Global). test v.items) vs) ≡ filter test (map (λ (v : Vec ℕ Global). v.items) vs)
lists-filtered test [] = refl
lists-filtered test (v ∷ vs) = by (test v.items) (lists-filtered test vs)
  where
    by : (b : Bool) → map (λ (v : Vec ℕ Global). v.items) (filter (λ (v : Vec ℕ Global). test v.items) vs) ≡ filter test (map (λ (v : Vec ℕ Global). v.items) vs) → map (λ (v : Vec ℕ Global). v.items) (cond b (v ∷ filter (λ (v : Vec ℕ Global). test v.items) vs) (filter (λ (v : Vec ℕ Global). test v.items) vs))
        ≡ cond b (v.items ∷ filter test (map (λ (v : Vec ℕ Global). v.items) vs)) (filter test (map (λ (v : Vec ℕ Global). v.items) vs))
    by true more = ap (λ xs. v.items ∷ xs) more
    by false more = more

-- ---- what is found

-- nothing more
pub finds-none : (New Wanted : List ℕ → Type 0) (keys : List (List ℕ)) → (length keys < 16 → (x : List ℕ) → Wanted x → covers keys x ≡ true) → Finds New Wanted keys keys
finds-none New Wanted keys all = record { only = λ test h k. k; kept = λ x h. h; apart = λ h. h; room = λ h. h; all = all; few = λ h. h }

-- one after the other
pub finds-then : (New Other Wanted First Second : List ℕ → Type 0) (old mid found : List (List ℕ)) → Finds New First old mid → Finds Other Second mid found
    → ((x : List ℕ) → Other x → New x) → ((x : List ℕ) → Wanted x → First x ⊎ Second x) → Finds New Wanted old found
finds-then New Other Wanted First Second old mid found f g new wanted = record {
  only = λ test h k. g.only test (λ x o. h x (new x o)) (f.only test h k);
  kept = λ x h. g.kept x (f.kept x h);
  apart = λ h. g.apart (f.apart h);
  room = λ h. f.room (g.room h);
  all = λ h x w. ⊎_elim (λ a. g.kept x (f.all (g.room h) x a)) (λ b. g.all h x b) (wanted x w);
  few = λ h. g.few (f.few h);
}

-- the same in other words
pub finds-as : (New Other Wanted First : List ℕ → Type 0) (old found : List (List ℕ)) → Finds Other First old found → ((x : List ℕ) → Other x → New x) → ((x : List ℕ) → Wanted x → First x)
    → Finds New Wanted old found
finds-as New Other Wanted First old found f new wanted = record {
  only = λ test h k. f.only test (λ x o. h x (new x o)) k;
  kept = f.kept;
  apart = f.apart;
  room = f.room;
  all = λ h x w. f.all h x (wanted x w);
  few = f.few;
}

-- where there is no choice the columns alone
pub finds-columns : (cols : List ℕ) (keys : List (List ℕ)) → are_distinct cols ≡ true → length keys < 16 → Finds (IsChoice cols []) (IsMet cols []) keys (with_key keys cols)
finds-columns cols keys d l = record {
  only = λ test h k. key-passes test keys cols (h cols (record { begins = within-self cols; meets = refl; distinct = d; only = λ allowed w c. w })) k;
  kept = λ x h. key-keeps keys cols x h;
  apart = λ h. key-apart keys cols h;
  room = λ h. l;
  all = λ h x w. covers-more (with_key keys cols) cols x (key-covers keys cols) w.begins;
  few = λ h. let more = key-longer keys cols in omega (arith, l, more);
}

contains-at : (ds : List ℕ) (i d : ℕ) → i < length ds → d ≡ get_or ds i 0 → contains ds d ≡ true
contains-at ds i d h e = list_any_at (λ y. d == y) ds i 0 h (ap (λ y. d == y) (sym e) ∙ same d)

pub any-of : (test : ℕ → Bool) (es : List ℕ) (d : ℕ) → contains es d ≡ true → test d ≡ true → list_any test es ≡ true
any-of test [] d h k = cc
any-of test (e ∷ es) d h k =
    ⊎_elim (λ f. let is : d ≡ e = eqb-true d e f in or-left (test e) (list_any test es) (rw is at k)) (λ f. or-right (test e) (list_any test es) (any-of test es d f k))
    (either (d == e) (contains es d) h)

-- one column of the first choice further
pub choices-step : (cols ds : List ℕ) (rest old mid : List (List ℕ)) (found : List (List ℕ)) (i d : ℕ) → i < length ds → d ≡ get_or ds i 0
    → Finds (IsChoice cols (ds ∷ rest)) (IsMet cols (take i ds ∷ rest)) old mid
    → Finds (IsChoice (with_column cols d) rest) (IsMet (with_column cols d) rest) mid found
    → Finds (IsChoice cols (ds ∷ rest)) (IsMet cols (take (i + 1) ds ∷ rest)) old found
choices-step cols ds rest old mid found i d h e f g =
    finds-then (IsChoice cols (ds ∷ rest)) (IsChoice (with_column cols d) rest) (IsMet cols (take (i + 1) ds ∷ rest)) (IsMet cols (take i ds ∷ rest)) (IsMet (with_column cols d) rest) old mid found f g new wanted
  where
    there : contains ds d ≡ true
    there = contains-at ds i d h e

    new : (x : List ℕ) → IsChoice (with_column cols d) rest x → IsChoice cols (ds ∷ rest) x
    new x c = record {
      begins = within-trans cols (with_column cols d) x (column-within cols d) c.begins;
      meets = and-both (list_any (contains x) ds) (meets_each rest x) (any-of (contains x) ds d there (contains-in (with_column cols d) x d c.begins (column-there cols d))) c.meets;
      distinct = c.distinct;
      only = λ allowed w a. c.only allowed (column-in cols allowed d w (contains-in ds allowed d (and-left (within ds allowed) (list_all (λ es. within es allowed) rest) a) there))
          (and-right (within ds allowed) (list_all (λ es. within es allowed) rest) a);
    }

    wanted : (x : List ℕ) → IsMet cols (take (i + 1) ds ∷ rest) x → IsMet cols (take i ds ∷ rest) x ⊎ IsMet (with_column cols d) rest x
    wanted x w =
        ⊎_elim
        (λ f. inl (record { begins = w.begins; meets = and-both (list_any (contains x) (take i ds)) (meets_each rest x) f more }))
        (λ f. inr (record { begins = column-in cols x d w.begins (ap (contains x) e ∙ f); meets = more }))
        (either (list_any (contains x) (take i ds)) (contains x (get_or ds i 0)) (sym (list_any_more (contains x) ds i 0 h) ∙ and-left (list_any (contains x) (take (i + 1) ds)) (meets_each rest x) w.meets))
      where
        more : meets_each rest x ≡ true
        more = and-right (list_any (contains x) (take (i + 1) ds)) (meets_each rest x) w.meets

-- ---- the choices, as the program takes them apart

pub no-choices : (vs : List (Vec ℕ Global)) → length vs < 1 → vs ≡ []
no-choices [] h = refl
no-choices (v ∷ vs) h = absurd (omega arith)

pub first-choices : (vs : List (Vec ℕ Global)) (v : Vec ℕ Global) → 1 ≤ length vs → v ≡ get_or vs 0 v
    → map (λ (v : Vec ℕ Global). v.items) vs ≡ v.items ∷ map (λ (v : Vec ℕ Global). v.items) (take (length vs - 1) (drop 1 vs))
first-choices [] v h e = absurd (omega arith)
first-choices (w ∷ ws) v h e =
    let all : take (suc (length ws) - 1) ws ≡ ws = take_all (suc (length ws) - 1) ws (omega arith) in
    rw all (ap (λ (u : Vec ℕ Global). u.items ∷ map (λ (v : Vec ℕ Global). v.items) ws) (sym e))

-- one column of the first choice further, in the program's words
pub choices-next : (cols ds longer : List ℕ) (choices rest old mid found : List (List ℕ)) (i : ℕ) → choices ≡ ds ∷ rest → longer ≡ with_column cols (get_or ds i 0) → i < length ds
    → Finds (IsChoice cols choices) (IsMet cols (take i ds ∷ rest)) old mid → Finds (IsChoice longer rest) (IsMet longer rest) mid found
    → Finds (IsChoice cols choices) (IsMet cols (take (i + 1) ds ∷ rest)) old found
choices-next cols ds longer choices rest old mid found i e l h f g =
    let here : Finds (IsChoice cols (ds ∷ rest)) (IsMet cols (take i ds ∷ rest)) old mid = subst (λ cs. Finds (IsChoice cols cs) (IsMet cols (take i ds ∷ rest)) old mid) e f in
    let more : Finds (IsChoice (with_column cols (get_or ds i 0)) rest) (IsMet (with_column cols (get_or ds i 0)) rest) mid found = subst (λ c. Finds (IsChoice c rest) (IsMet c rest) mid found) l g in
    subst (λ cs. Finds (IsChoice cols cs) (IsMet cols (take (i + 1) ds ∷ rest)) old found) (sym e) (choices-step cols ds rest old mid found i (get_or ds i 0) h refl here more)

-- before the first column of a choice, and behind its last one
pub choices-start : (cols : List ℕ) (choices rest keys : List (List ℕ)) → Finds (IsChoice cols choices) (IsMet cols ([] ∷ rest)) keys keys
choices-start cols choices rest keys = finds-none (IsChoice cols choices) (IsMet cols ([] ∷ rest)) keys (λ l x w. let m : false ≡ true = w.meets in cc)

pub choices-done : (cols ds : List ℕ) (choices rest old found : List (List ℕ)) (i : ℕ) → choices ≡ ds ∷ rest → length ds ≤ i
    → Finds (IsChoice cols choices) (IsMet cols (take i ds ∷ rest)) old found → Finds (IsChoice cols choices) (IsMet cols choices) old found
choices-done cols ds choices rest old found i e past f =
    subst (λ cs. Finds (IsChoice cols choices) (IsMet cols cs) old found) (sym e) (subst (λ xs. Finds (IsChoice cols choices) (IsMet cols (xs ∷ rest)) old found) (take_all i ds past) f)

-- where no choice is left, the columns alone
pub finds-last : (cols key : List ℕ) (choices old found : List (List ℕ)) → choices ≡ [] → key ≡ cols → are_distinct cols ≡ true → length old < 16 → found ≡ with_key old key → Finds (IsChoice cols choices) (IsMet cols choices) old found
finds-last cols key choices old found e k d l f =
    subst (λ cs. Finds (IsChoice cols cs) (IsMet cols cs) old found) (sym e)
    (subst (λ fs. Finds (IsChoice cols []) (IsMet cols []) old fs) (sym (f ∙ ap (with_key old) k)) (finds-columns cols old d l))
