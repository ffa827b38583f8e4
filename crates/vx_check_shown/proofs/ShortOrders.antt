-- Orders without what earlier columns determine: shortened again, by equal columns, and at a node that determines more.
use Rattle.std.proofs.Common.{◌≡◌, ◌∙◌, ℕ, ◌<◌, ◌==◌, nat_lt, Bool, true, false, cond, ◌||◌, List, [], ◌∷◌, map, refl, sym, ap, subst, true≢false, eqb-true, eq-eqb, ltb-true, not}
use Rattle.vx_rows_values.specs.declared.order.OrderEntry.{OrderEntry}
use Rattle.vx_rows_values.specs.Order.{order_columns, entry_eq}
use Rattle.vx_rows_values.proofs.Booleans.{and-left, and-right, and-both}
use Rattle.std.specs.List.{list_any}
use Rattle.vx_plan_facts.proofs.Tests.{or-left, or-right}
use Rattle.vx_catalog_relations.specs.Catalog.{all_below, are_distinct}
use Rattle.vx_plan_facts.specs.Equal.{Equality}
use Rattle.vx_plan_facts.specs.Determined.{Columns}
use Rattle.vx_plan_facts.specs.DeterminedFacts.{WithinFirst}
use Rattle.vx_plan_facts.specs.Following.{equal_entries, begins_equally, short, order_follows}
use Rattle.vx_check_rules.specs.Rules.{is_front, entry_at}
use Rattle.vx_check_rules.proofs.Shortening.{Closes, with_one, short_past, Alike, alike-same, alike-equal, alike-passed, short-same, short-starts}
use Rattle.vx_check_shown.proofs.Entries.{one_way, way-itself, entry-same, entry-itself, entry-chain}
use Rattle.vx_check_shown.proofs.Equivalent.{IsEquivalence}

-- no column
abbrev pub none_of : Columns
none_of c = false

pub column-below : (w : ℕ) (c : OrderEntry) (order : List OrderEntry) → all_below w (order_columns (c ∷ order)) ≡ true → c.column < w
column-below w c order l = ltb-true c.column w (and-left (nat_lt c.column w) (all_below w (order_columns order)) l)

pub rest-below : (w : ℕ) (c : OrderEntry) (order : List OrderEntry) → all_below w (order_columns (c ∷ order)) ≡ true → all_below w (order_columns order) ≡ true
rest-below w c order l = and-right (nat_lt c.column w) (all_below w (order_columns order)) l

-- the entries by other columns, in their directions
abbrev pub by_columns : (ℕ → ℕ) → List OrderEntry → List OrderEntry
by_columns f order = map (λ x. entry_at (f x.column) x) order

-- ---- orders that begin others

module _ (e : Equality) (is : IsEquivalence e) where
  pub begins-itself : (xs : List OrderEntry) → begins_equally e xs xs ≡ true
  begins-itself [] = refl
  begins-itself (x ∷ xs) = and-both (equal_entries e x x) (begins_equally e xs xs) (entry-itself e is.itself x) (begins-itself xs)

  pub begins-chain : (xs ys zs : List OrderEntry) → begins_equally e xs ys ≡ true → begins_equally e ys zs ≡ true → begins_equally e xs zs ≡ true
  begins-chain [] ys zs h k = refl
  begins-chain (x ∷ xs) [] zs h k = absurd (true≢false (sym h))
  begins-chain (x ∷ xs) (y ∷ ys) [] h k = absurd (true≢false (sym k))
  begins-chain (x ∷ xs) (y ∷ ys) (z ∷ zs) h k =
      and-both (equal_entries e x z) (begins_equally e xs zs)
      (entry-chain e is.chain x y z (and-left (equal_entries e x y) (begins_equally e xs ys) h) (and-left (equal_entries e y z) (begins_equally e ys zs) k))
      (begins-chain xs ys zs (and-right (equal_entries e x y) (begins_equally e xs ys) h) (and-right (equal_entries e y z) (begins_equally e ys zs) k))

  -- each entry by an equal column
  pub begins-named : (w : ℕ) (f : ℕ → ℕ) → ((c : ℕ) → c < w → e (f c) c ≡ true) → (xs : List OrderEntry) → all_below w (order_columns xs) ≡ true
      → (begins_equally e (by_columns f xs) xs ≡ true) × (begins_equally e xs (by_columns f xs) ≡ true)
  begins-named w f same [] l = (refl, refl)
  begins-named w f same (x ∷ xs) l =
      let rest = begins-named w f same xs (rest-below w x xs l) in
      let c : ℕ = x.column in
      let y : OrderEntry = entry_at (f c) x in
      let here : e (f c) c ≡ true = same c (column-below w x xs l) in
      let way : one_way x.falling x.falling ≡ true = way-itself x.falling in (
        and-both (equal_entries e y x) (begins_equally e (by_columns f xs) xs) (and-both (e (f c) c) (one_way x.falling x.falling) here way) rest.0,
        and-both (equal_entries e x y) (begins_equally e xs (by_columns f xs)) (and-both (e c (f c)) (one_way x.falling x.falling) (is.swap (f c) c here) way) rest.1,
      )

module _ (w : ℕ) (e : Equality) (det : Columns → Columns) (closes : Closes w e det) (is : IsEquivalence e) where
  -- what is short stays so
  pub short-again : (s : Columns) (order : List OrderEntry) → short_past det s (short_past det s order) ≡ short_past det s order
  short-again s [] = refl
  short-again s (c ∷ order) = go (det s c.column) refl (short-again s order) (short-again (with_one s c.column) order)
    where
      go : (b : Bool) → det s c.column ≡ b → short_past det s (short_past det s order) ≡ short_past det s order
          → short_past det (with_one s c.column) (short_past det (with_one s c.column) order) ≡ short_past det (with_one s c.column) order
          → short_past det s (cond b (short_past det s order) (c ∷ short_past det (with_one s c.column) order))
          ≡ cond b (short_past det s order) (c ∷ short_past det (with_one s c.column) order)
      go true h x y = x
      go false h x y =
          let rest : List OrderEntry = short_past det (with_one s c.column) order in
          ap (λ b. cond b (short_past det s rest) (c ∷ short_past det (with_one s c.column) rest)) h ∙ ap (λ xs. c ∷ xs) y

  -- so is what names equal columns
  pub short-named : (f : ℕ → ℕ) → ((c : ℕ) → c < w → e (f c) c ≡ true) → ((c : ℕ) → c < w → f c < w) → (s t : Columns) → Alike w det s t
      → (order : List OrderEntry) → all_below w (order_columns order) ≡ true → short_past det s (by_columns f order) ≡ by_columns f (short_past det t order)
  short-named f same low s t alike [] l = refl
  short-named f same low s t alike (x ∷ order) l =
      let c : ℕ = x.column in
      let below = column-below w x order l in
      let rest = rest-below w x order l in
      go (det s (f c)) (det t c) (both c below) (short-named f same low s t alike order rest)
      (short-named f same low (with_one s (f c)) (with_one t c) (alike-equal w e det closes s t (f c) c (low c below) below (same c below) alike) order rest)
    where
      same-bool : (a b : Bool) → (a ≡ true → b ≡ true) → (b ≡ true → a ≡ true) → a ≡ b
      same-bool true b f g = sym (f refl)
      same-bool false true f g = g refl
      same-bool false false f g = refl

      both : (c : ℕ) → c < w → det s (f c) ≡ det t c
      both c m = same-bool (det s (f c)) (det t c)
          (λ h. alike.there c m (closes.equal s (f c) c (low c m) m (same c m) h))
          (λ h. closes.equal s c (f c) m (low c m) (closes.swap (f c) c (low c m) m (same c m)) (alike.back c m h))

      go : (a b : Bool) → a ≡ b → short_past det s (by_columns f order) ≡ by_columns f (short_past det t order)
          → short_past det (with_one s (f x.column)) (by_columns f order) ≡ by_columns f (short_past det (with_one t x.column) order)
          → cond a (short_past det s (by_columns f order)) (entry_at (f x.column) x ∷ short_past det (with_one s (f x.column)) (by_columns f order))
          ≡ by_columns f (cond b (short_past det t order) (x ∷ short_past det (with_one t x.column) order))
      go true true h u v = u
      go true false h u v = absurd (true≢false h)
      go false true h u v = absurd (true≢false (sym h))
      go false false h u v = ap (λ xs. entry_at (f x.column) x ∷ xs) v

  starts : (order : List OrderEntry) → all_below w (order_columns order) ≡ true → short det order ≡ short_past det none_of order
  starts order l = short-starts w e det closes none_of order (λ c. refl) l

  past-below : (s : Columns) (order : List OrderEntry) → all_below w (order_columns order) ≡ true → all_below w (order_columns (short_past det s order)) ≡ true
  past-below s [] l = refl
  past-below s (c ∷ order) l = go (det s c.column) (past-below s order (rest-below w c order l)) (past-below (with_one s c.column) order (rest-below w c order l))
    where
      go : (b : Bool) → all_below w (order_columns (short_past det s order)) ≡ true → all_below w (order_columns (short_past det (with_one s c.column) order)) ≡ true
          → all_below w (order_columns (cond b (short_past det s order) (c ∷ short_past det (with_one s c.column) order))) ≡ true
      go true x y = x
      go false x y =
          and-both (nat_lt c.column w) (all_below w (order_columns (short_past det (with_one s c.column) order))) (and-left (nat_lt c.column w) (all_below w (order_columns order)) l) y

  pub short-below : (order : List OrderEntry) → all_below w (order_columns order) ≡ true → all_below w (order_columns (short det order)) ≡ true
  short-below order l =
      let P : List OrderEntry → Type 0 = λ xs. all_below w (order_columns xs) ≡ true in
      subst P (sym (starts order l)) (past-below none_of order l)

  pub short-twice : (order : List OrderEntry) → all_below w (order_columns order) ≡ true → short det (short det order) ≡ short det order
  short-twice order l =
      starts (short det order) (short-below order l) ∙ ap (short_past det none_of) (starts order l) ∙ short-again none_of order ∙ sym (starts order l)

  module _ (f : ℕ → ℕ) (same : (c : ℕ) → c < w → e (f c) c ≡ true) (low : (c : ℕ) → c < w → f c < w)
      (named_below : (order : List OrderEntry) → all_below w (order_columns order) ≡ true → all_below w (order_columns (by_columns f order)) ≡ true) where
    -- a short order by equal columns is short
    pub named-short : (order : List OrderEntry) → all_below w (order_columns order) ≡ true → short det (by_columns f (short det order)) ≡ by_columns f (short det order)
    named-short order l =
        let short_order = short-below order l in
        starts (by_columns f (short det order)) (named_below (short det order) short_order)
        ∙ short-named f same low none_of none_of (alike-same w e det closes none_of none_of (λ c m. refl)) (short det order) short_order
        ∙ ap (by_columns f) (sym (starts (short det order) short_order)) ∙ ap (by_columns f) (short-twice order l)

    -- it follows from the order
    pub named-follows : (order : List OrderEntry) → all_below w (order_columns order) ≡ true → order_follows e det order (by_columns f (short det order)) ≡ true
    named-follows order l =
        ap (λ xs. begins_equally e xs (short det order)) (named-short order l) ∙ (begins-named e is w f same (short det order) (short-below order l)).0

    -- and what follows from the order follows from it
    pub follows-named : (given order : List OrderEntry) → all_below w (order_columns given) ≡ true → order_follows e det given order ≡ true
        → order_follows e det (by_columns f (short det given)) order ≡ true
    follows-named given order l h =
        ap (begins_equally e (short det order)) (named-short given l)
        ∙ begins-chain e is (short det order) (short det given) (by_columns f (short det given)) h (begins-named e is w f same (short det given) (short-below given l)).1

  -- ---- a front of an order follows

  front-past : (s : Columns) (xs ys : List OrderEntry) → is_front xs ys ≡ true → begins_equally e (short_past det s xs) (short_past det s ys) ≡ true
  front-past s [] ys h = refl
  front-past s (x ∷ xs) [] h = absurd (true≢false (sym h))
  front-past s (x ∷ xs) (y ∷ ys) h =
      let P : OrderEntry → Type 0 = λ v. begins_equally e (short_past det s (x ∷ xs)) (short_past det s (v ∷ ys)) ≡ true in
      let k = and-right (entry_eq x y) (is_front xs ys) h in
      subst P (entry-same x y (and-left (entry_eq x y) (is_front xs ys) h)) (go (det s x.column) (front-past s xs ys k) (front-past (with_one s x.column) xs ys k))
    where
      go : (b : Bool) → begins_equally e (short_past det s xs) (short_past det s ys) ≡ true
          → begins_equally e (short_past det (with_one s x.column) xs) (short_past det (with_one s x.column) ys) ≡ true
          → begins_equally e (cond b (short_past det s xs) (x ∷ short_past det (with_one s x.column) xs))
          (cond b (short_past det s ys) (x ∷ short_past det (with_one s x.column) ys)) ≡ true
      go true u v = u
      go false u v =
          and-both (equal_entries e x x) (begins_equally e (short_past det (with_one s x.column) xs) (short_past det (with_one s x.column) ys)) (entry-itself e is.itself x) v

  pub front-follows : (given order : List OrderEntry) → all_below w (order_columns given) ≡ true → all_below w (order_columns order) ≡ true → is_front order given ≡ true
      → order_follows e det given order ≡ true
  front-follows given order l m h =
      ap (λ xs. begins_equally e xs (short det given)) (starts order m) ∙ ap (begins_equally e (short_past det none_of order)) (starts given l)
      ∙ front-past none_of order given h

module _ (w : ℕ) (e : Equality) (more : Columns → Columns) (too : Closes w e more) where
  -- an entry that both orders go on with
  pub both-go : (s : Columns) (c d : OrderEntry) (order given : List OrderEntry) → c.column < w → d.column < w → all_below w (order_columns order) ≡ true
      → all_below w (order_columns given) ≡ true → equal_entries e c d ≡ true
      → begins_equally e (short_past more (with_one s c.column) order) (short_past more (with_one s c.column) given) ≡ true
      → begins_equally e (short_past more s (c ∷ order)) (short_past more s (d ∷ given)) ≡ true
  both-go s c d order given lc ld lo lg alike h = go (more s c.column) (more s d.column) refl (one (more s c.column) (more s d.column)
      (λ k. too.equal s c.column d.column lc ld same k) (λ k. too.equal s d.column c.column ld lc (too.swap c.column d.column lc ld same) k))
    where
      same : e c.column d.column ≡ true
      same = and-left (e c.column d.column) (one_way c.falling d.falling) alike

      itself : Alike w more s s
      itself = alike-same w e more too s s (λ x l. refl)

      one : (a b : Bool) → (a ≡ true → b ≡ true) → (b ≡ true → a ≡ true) → a ≡ b
      one true b f g = sym (f refl)
      one false true f g = g refl
      one false false f g = refl

      go : (a b : Bool) → more s c.column ≡ a → a ≡ b
          → begins_equally e (cond a (short_past more s order) (c ∷ short_past more (with_one s c.column) order))
          (cond b (short_past more s given) (d ∷ short_past more (with_one s d.column) given)) ≡ true
      go true true k j =
          let passed : Alike w more (with_one s c.column) s = alike-passed w e more too s s c.column k lc itself in
          ap (λ xs. begins_equally e xs (short_past more s given)) (sym (short-same w e more too (with_one s c.column) s order passed lo))
          ∙ ap (begins_equally e (short_past more (with_one s c.column) order)) (sym (short-same w e more too (with_one s c.column) s given passed lg)) ∙ h
      go true false k j = absurd (true≢false j)
      go false true k j = absurd (true≢false (sym j))
      go false false k j =
          let equals : Alike w more (with_one s d.column) (with_one s c.column) =
          alike-equal w e more too s s d.column c.column ld lc (too.swap c.column d.column lc ld same) itself in
          and-both (equal_entries e c d) (begins_equally e (short_past more (with_one s c.column) order) (short_past more (with_one s d.column) given)) alike
          (ap (begins_equally e (short_past more (with_one s c.column) order)) (short-same w e more too (with_one s d.column) (with_one s c.column) given equals lg) ∙ h)

-- ---- where more is determined

module _ (w : ℕ) (e : Equality) (det more : Columns → Columns) (closes : Closes w e det) (too : Closes w e more) (grows : (s : Columns) → WithinFirst w (det s) (more s)) where
  -- what follows past a set still does
  abbrev Still : Columns → List OrderEntry → List OrderEntry → Type 0
  Still s order given = begins_equally e (short_past det s order) (short_past det s given) ≡ true → begins_equally e (short_past more s order) (short_past more s given) ≡ true

  -- the first entry of an order that is not determined, past a given order
  past-given : (s : Columns) (c : OrderEntry) (order : List OrderEntry) → c.column < w → all_below w (order_columns order) ≡ true
      → ((given : List OrderEntry) → all_below w (order_columns given) ≡ true → Still (with_one s c.column) order given)
      → (given : List OrderEntry) → all_below w (order_columns given) ≡ true
      → begins_equally e (c ∷ short_past det (with_one s c.column) order) (short_past det s given) ≡ true
      → begins_equally e (short_past more s (c ∷ order)) (short_past more s given) ≡ true
  past-given s c order lc lo rest [] lg h = absurd (true≢false (sym h))
  past-given s c order lc lo rest (d ∷ given) lg h = go (det s d.column) refl (λ j. past-given s c order lc lo rest given (rest-below w d given lg) j) h
    where
      ld : d.column < w
      ld = column-below w d given lg

      under : all_below w (order_columns given) ≡ true
      under = rest-below w d given lg

      go : (b : Bool) → det s d.column ≡ b
          → (begins_equally e (c ∷ short_past det (with_one s c.column) order) (short_past det s given) ≡ true
          → begins_equally e (short_past more s (c ∷ order)) (short_past more s given) ≡ true)
          → begins_equally e (c ∷ short_past det (with_one s c.column) order) (cond b (short_past det s given) (d ∷ short_past det (with_one s d.column) given)) ≡ true
          → begins_equally e (short_past more s (c ∷ order)) (short_past more s (d ∷ given)) ≡ true
      go true k again j =
          ap (λ b. begins_equally e (short_past more s (c ∷ order)) (cond b (short_past more s given) (d ∷ short_past more (with_one s d.column) given))) (grows s d.column ld k) ∙ again j
      go false k again j =
          let tail : Bool = begins_equally e (short_past det (with_one s c.column) order) (short_past det (with_one s d.column) given) in
          let alike : equal_entries e c d ≡ true = and-left (equal_entries e c d) tail j in
          let same : e c.column d.column ≡ true = and-left (e c.column d.column) (one_way c.falling d.falling) alike in
          let equals : Alike w det (with_one s d.column) (with_one s c.column) =
          alike-equal w e det closes s s d.column c.column ld lc (closes.swap c.column d.column lc ld same) (alike-same w e det closes s s (λ x l. refl)) in
          both-go w e more too s c d order given lc ld lo under alike
          (rest given under
          (ap (begins_equally e (short_past det (with_one s c.column) order)) (sym (short-same w e det closes (with_one s d.column) (with_one s c.column) given equals under))
          ∙ and-right (equal_entries e c d) tail j))

  still : (order : List OrderEntry) → all_below w (order_columns order) ≡ true → (s : Columns) (given : List OrderEntry) → all_below w (order_columns given) ≡ true → Still s order given
  still [] lo s given lg h = refl
  still (c ∷ order) lo s given lg h =
      let rest = rest-below w c order lo in
      go (det s c.column) refl (λ j. still order rest s given lg j)
      (λ j. past-given s c order (column-below w c order lo) rest (λ ys l. still order rest (with_one s c.column) ys l) given lg j) h
    where
      go : (b : Bool) → det s c.column ≡ b → Still s order given
          → (begins_equally e (c ∷ short_past det (with_one s c.column) order) (short_past det s given) ≡ true
          → begins_equally e (short_past more s (c ∷ order)) (short_past more s given) ≡ true)
          → begins_equally e (cond b (short_past det s order) (c ∷ short_past det (with_one s c.column) order)) (short_past det s given) ≡ true
          → begins_equally e (short_past more s (c ∷ order)) (short_past more s given) ≡ true
      go true k passed past j =
          ap (λ b. begins_equally e (cond b (short_past more s order) (c ∷ short_past more (with_one s c.column) order)) (short_past more s given))
          (grows s c.column (column-below w c order lo) k) ∙ passed j
      go false k passed past j = past j

  -- an order that follows still does
  pub follows-more : (given order : List OrderEntry) → all_below w (order_columns given) ≡ true → all_below w (order_columns order) ≡ true → order_follows e det given order ≡ true
      → order_follows e more given order ≡ true
  follows-more given order l m h =
      ap (λ xs. begins_equally e xs (short more given)) (short-starts w e more too none_of order (λ c. refl) m)
      ∙ ap (begins_equally e (short_past more none_of order)) (short-starts w e more too none_of given (λ c. refl) l)
      ∙ still order m none_of given l
      (ap (begins_equally e (short_past det none_of order)) (sym (short-starts w e det closes none_of given (λ c. refl) l))
      ∙ ap (λ xs. begins_equally e xs (short det given)) (sym (short-starts w e det closes none_of order (λ c. refl) m)) ∙ h)

-- ---- no column stands twice

module _ (w : ℕ) (e : Equality) (det : Columns → Columns) (closes : Closes w e det) where
  more-held : (s : Columns) (x c : ℕ) → c < w → det s c ≡ true → det (with_one s x) c ≡ true
  more-held s x c l h = closes.again s (with_one s x) (λ z m k. closes.holds (with_one s x) z m (or-left (s z) (z == x) k)) c l h

  -- what a set determines is not in an order past it
  not-past : (s : Columns) (c : ℕ) → c < w → det s c ≡ true → (order : List OrderEntry) → list_any (λ y. c == y) (order_columns (short_past det s order)) ≡ false
  not-past s c l h [] = refl
  not-past s c l h (x ∷ order) = go (det s x.column) refl (not-past s c l h order) (not-past (with_one s x.column) c l (more-held s x.column c l h) order)
    where
      other : det s x.column ≡ false → (b : Bool) → (c == x.column) ≡ b → b ≡ false
      other out true k = absurd (true≢false (sym h ∙ ap (det s) (eqb-true c x.column k) ∙ out))
      other out false k = refl

      go : (b : Bool) → det s x.column ≡ b → list_any (λ y. c == y) (order_columns (short_past det s order)) ≡ false
          → list_any (λ y. c == y) (order_columns (short_past det (with_one s x.column) order)) ≡ false
          → list_any (λ y. c == y) (order_columns (cond b (short_past det s order) (x ∷ short_past det (with_one s x.column) order))) ≡ false
      go true k u v = u
      go false k u v = ap (λ b. b || list_any (λ y. c == y) (order_columns (short_past det (with_one s x.column) order))) (other k (c == x.column) refl) ∙ v

  distinct-past : (s : Columns) (order : List OrderEntry) → all_below w (order_columns order) ≡ true → are_distinct (order_columns (short_past det s order)) ≡ true
  distinct-past s [] l = refl
  distinct-past s (x ∷ order) l = go (det s x.column) (distinct-past s order rest) (distinct-past (with_one s x.column) order rest)
    where
      rest : all_below w (order_columns order) ≡ true
      rest = rest-below w x order l

      under : x.column < w
      under = column-below w x order l

      go : (b : Bool) → are_distinct (order_columns (short_past det s order)) ≡ true → are_distinct (order_columns (short_past det (with_one s x.column) order)) ≡ true
          → are_distinct (order_columns (cond b (short_past det s order) (x ∷ short_past det (with_one s x.column) order))) ≡ true
      go true u v = u
      go false u v =
          let c : ℕ = x.column in
          let tail : List ℕ = order_columns (short_past det (with_one s c) order) in
          and-both (not (list_any (λ y. c == y) tail)) (are_distinct tail)
          (ap not (not-past (with_one s c) c under (closes.holds (with_one s c) c under (or-right (s c) (c == c) (eq-eqb c c refl))) order)) v

  -- nor in an order that is short
  pub short-distinct : (order : List OrderEntry) → all_below w (order_columns order) ≡ true → short det order ≡ order → are_distinct (order_columns order) ≡ true
  short-distinct order l is =
      ap (λ xs. are_distinct (order_columns xs)) (sym is ∙ short-starts w e det closes none_of order (λ c. refl) l) ∙ distinct-past none_of order l
