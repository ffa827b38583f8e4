-- The orders that are placed are chosen from the places of their nodes.
use Rattle.std.proofs.Common.{◌≡◌, ℕ, suc, ◌+◌, ◌-◌, ◌≤◌, nat_lt, nat_le, Bool, true, false, cond, ◌&&◌, ◌||◌, ◌==◌, List, [], ◌∷◌, flat_map, filter, Option, Some, None, is_some, option_map, unwrap_or, slice_get, refl, sym, ap, ◌∙◌, true≢false, eqb-true, arith}
use Rattle.std.specs.List.{list_any, list_all}
use Rattle.std.proofs.lemmas.Bool.Decides.{nat_tests}
use Rattle.vx_rows_values.specs.declared.order.OrderEntry.{OrderEntry}
use Rattle.vx_rows_values.specs.Order.{order_columns, entry_eq}
use Rattle.vx_rows_values.specs.Lists.{is_some_list}
use Rattle.vx_rows_values.proofs.Booleans.{and-left, and-right, and-both}
use Rattle.vx_plan_nodes.specs.Plan.{Part}
use Rattle.vx_plan_nodes.specs.Describe.{Copying, whole_rows, columns_kept, entries_kept, left_of, right_of, no_columns, source}
use Rattle.vx_check_rules.specs.Rules.{contains, is_front, entry_at, rises_by}
use Rattle.vx_check_rules.proofs.Bools.{or-false}
use Rattle.vx_check_rules.proofs.WayFacts.{any-flat}
use Rattle.vx_check_options.specs.Options.{OrderChoices, places_from, copies, singles, has_entry, entry_copies, place_then, places_up, narrowed, or_nowhere, rising}
use Rattle.vx_check_options.specs.Placed.{first_entries, entry_or_first, source_entry, order_along, is_chosen}
use Rattle.vx_check_options.specs.Laws.{may_begin}
use Rattle.vx_check_options.proofs.EntryCopies.{entry-source}
use Rattle.vx_check_options.proofs.Entries.{entry-itself, lone-entry, has-first, any-entry, kept-passes, copy-column, copy-back}

-- ---- copies and what they are copies of

-- where a kept column stands, it is a copy of this one
kept-source : (n : ℕ) (cols : List ℕ) (x c : ℕ) → contains (places_from n cols x) c ≡ true → (n ≤ c) × (slice_get cols (c - n) ≡ Some x)
kept-source n [] x c h = absurd (true≢false (sym h))
kept-source n (k ∷ ks) x c h = by (x == k) refl (kept-source (suc n) ks x c) h
  where
    later : (m : ℕ) → suc m ≡ c - n → slice_get ks (c - suc n) ≡ Some x → slice_get (k ∷ ks) (c - n) ≡ Some x
    later m e s = let d : m ≡ c - suc n = omega arith in sym (ap (slice_get (k ∷ ks)) e) ∙ ap (slice_get ks) d ∙ s

    behind : (suc n ≤ c) × (slice_get ks (c - suc n) ≡ Some x) → (n ≤ c) × (slice_get (k ∷ ks) (c - n) ≡ Some x)
    behind s = let l : suc n ≤ c = s.0 in (omega arith, later (c - suc n) (omega arith) s.1)

    here : x ≡ k → c ≡ n → (n ≤ c) × (slice_get (k ∷ ks) (c - n) ≡ Some x)
    here e d = let z : c - n ≡ 0 = omega arith in (omega arith, ap (slice_get (k ∷ ks)) z ∙ ap Some (sym e))

    first : (b : Bool) → (c == n) ≡ b → x ≡ k → (contains (places_from (suc n) ks x) c ≡ true → (suc n ≤ c) × (slice_get ks (c - suc n) ≡ Some x))
        → (b || contains (places_from (suc n) ks x) c) ≡ true → (n ≤ c) × (slice_get (k ∷ ks) (c - n) ≡ Some x)
    first true d e more l = here e (eqb-true c n d)
    first false d e more l = behind (more l)

    by : (b : Bool) → (x == k) ≡ b → (contains (places_from (suc n) ks x) c ≡ true → (suc n ≤ c) × (slice_get ks (c - suc n) ≡ Some x))
        → contains (cond b (n ∷ places_from (suc n) ks x) (places_from (suc n) ks x)) c ≡ true → (n ≤ c) × (slice_get (k ∷ ks) (c - n) ≡ Some x)
    by true e more l = first (c == n) refl (eqb-true x k e) more l
    by false e more l = behind (more l)

-- the one column of a list
pub lone-is : (x c : ℕ) → contains (x ∷ []) c ≡ true → c ≡ x
lone-is x c h = eqb-true c x (sym (or-false (c == x)) ∙ h)

-- a copy of a column has it as its source
pub copy-source : (k : Copying) (x c : ℕ) → contains (copies k x) c ≡ true → source k c ≡ Some x
copy-source whole_rows x c h = ap Some (lone-is x c h)
copy-source (columns_kept cols) x c h = let e : c - 0 ≡ c = omega arith in sym (ap (slice_get cols) e) ∙ (kept-source 0 cols x c h).1
copy-source (entries_kept ks) x c h = entry-source ks x c h
copy-source (left_of w) x c h = by (nat_lt x w) refl h
  where
    by : (b : Bool) → nat_lt x w ≡ b → contains (cond b (x ∷ []) []) c ≡ true → cond (nat_lt c w) (Some c) None ≡ Some x
    by true e l = let d : c ≡ x = lone-is x c l in rw (d, e) refl
    by false e l = absurd (true≢false (sym l))
copy-source (right_of w) x c h = by (nat_lt x 64) h
  where
    by : (b : Bool) → contains (cond b ((w + x) ∷ []) []) c ≡ true → cond (nat_le w c) (Some (c - w)) None ≡ Some x
    by true l =
        let d : c ≡ w + x = lone-is (w + x) c l in
        let e : nat_le w c ≡ true = grind (arith, nat_tests) in
        let f : c - w ≡ x = omega arith in
        rw (e, f) refl
    by false l = absurd (true≢false (sym l))
copy-source no_columns x c h = absurd (true≢false (sym h))

-- these columns are copies of the first of those, one by one
abbrev pub are_front_copies : Copying → List ℕ → List ℕ → Bool
are_front_copies k xs [] = true
are_front_copies k [] (c ∷ cs) = false
are_front_copies k (x ∷ xs) (c ∷ cs) = contains (copies k x) c && are_front_copies k xs cs

-- a copy of one of these entries, and which one
copied-from : (k : Copying) (s : List OrderEntry) (c : OrderEntry) → has_entry (flat_map (entry_copies k) s) c ≡ true
    → (x : OrderEntry) × (has_entry s x ≡ true) × (has_entry (entry_copies k x) c ≡ true)
copied-from k s c h = any-entry (λ x. has_entry (entry_copies k x) c) s (sym (any-flat (entry_eq c) (entry_copies k) s) ∙ h)

-- ---- orders along copies

-- there is an entry for each place
abbrev pub are_filled : OrderChoices → Bool
are_filled places = list_all is_some_list places

-- the first entry of each place is chosen
pub first-entries-chosen : (places : OrderChoices) → are_filled places ≡ true → is_chosen (first_entries places) places ≡ true
first-entries-chosen [] h = refl
first-entries-chosen ([] ∷ places) h = absurd (true≢false (sym h))
first-entries-chosen ((c ∷ cs) ∷ places) h =
    and-both (has_entry (c ∷ cs) c) (is_chosen (first_entries places) places) (has-first c cs) (first-entries-chosen places h)

-- each entry is the one copy of itself
whole-flat : (s : List OrderEntry) → flat_map (entry_copies whole_rows) s ≡ s
whole-flat [] = refl
whole-flat (x ∷ xs) = ap (λ l. x ∷ l) (whole-flat xs)

-- whole rows have their own places
pub begin-whole : (order : List OrderEntry) (places : OrderChoices) → may_begin order places ≡ true → may_begin order (places_up whole_rows places) ≡ true
begin-whole [] places h = refl
begin-whole (c ∷ cs) [] h = h
begin-whole (c ∷ cs) ([] ∷ places) h = absurd (true≢false (sym h))
begin-whole (c ∷ cs) ((d ∷ ds) ∷ places) h =
    and-both (has_entry (d ∷ flat_map (entry_copies whole_rows) ds) c) (may_begin cs (places_up whole_rows places))
    (ap (λ l. has_entry (d ∷ l) c) (whole-flat ds) ∙ and-left (has_entry (d ∷ ds) c) (may_begin cs places) h)
    (begin-whole cs places (and-right (has_entry (d ∷ ds) c) (may_begin cs places) h))

-- what stands at a place may stand there
entry-stands : (s : List OrderEntry) (c : OrderEntry) → is_some_list s ≡ true → has_entry s (entry_or_first s c) ≡ true
entry-stands [] c h = absurd (true≢false (sym h))
entry-stands (d ∷ ds) c h = by (has_entry (d ∷ ds) c) refl
  where
    by : (b : Bool) → has_entry (d ∷ ds) c ≡ b → has_entry (d ∷ ds) (cond b c d) ≡ true
    by true e = e
    by false e = has-first d ds

-- an entry that may stand there stays
entry-stays : (s : List OrderEntry) (c : OrderEntry) → has_entry s c ≡ true → entry_or_first s c ≡ c
entry-stays [] c h = absurd (true≢false (sym h))
entry-stays (d ∷ ds) c h = ap (λ b. cond b c d) h

-- the order that an input gets is chosen from its places
pub along-chosen : (k : Copying) (order : List OrderEntry) (places : OrderChoices) → are_filled places ≡ true → is_chosen (order_along k order places) places ≡ true
along-chosen k [] places h = first-entries-chosen places h
along-chosen k (c ∷ cs) [] h = refl
along-chosen k (c ∷ cs) (s ∷ places) h =
    and-both (has_entry s (entry_or_first s (source_entry k c))) (is_chosen (order_along k cs places) places)
    (entry-stands s (source_entry k c) (and-left (is_some_list s) (are_filled places) h)) (along-chosen k cs places (and-right (is_some_list s) (are_filled places) h))

-- and the columns of an order of the output that goes with their copies are copies of its columns
pub along-copies : (k : Copying) (order : List OrderEntry) (places : OrderChoices) → may_begin order (places_up k places) ≡ true
    → are_front_copies k (order_columns (order_along k order places)) (order_columns order) ≡ true
along-copies k [] places h = refl
along-copies k (c ∷ cs) [] h = absurd (true≢false (sym h))
along-copies k (c ∷ cs) (s ∷ places) h = by (flat_map (entry_copies k) s) refl (along-copies k cs places) h
  where
    by : (l : List OrderEntry) → flat_map (entry_copies k) s ≡ l
        → (may_begin cs (places_up k places) ≡ true → are_front_copies k (order_columns (order_along k cs places)) (order_columns cs) ≡ true)
        → may_begin (c ∷ cs) (place_then l (places_up k places)) ≡ true → are_front_copies k (order_columns (order_along k (c ∷ cs) (s ∷ places))) (order_columns (c ∷ cs)) ≡ true
    by [] e more l = absurd (true≢false (sym l))
    by (d ∷ ds) e more l =
        let w = copied-from k s c (ap (λ m. has_entry m c) e ∙ and-left (has_entry (d ∷ ds) c) (may_begin cs (places_up k places)) l) in
        let column : contains (copies k w.0.column) c.column ≡ true = copy-column k w.0 c w.2 in
        let from : source_entry k c ≡ w.0 = ap (λ o. entry_at (unwrap_or o 0) c) (copy-source k w.0.column c.column column) ∙ copy-back k w.0 c w.2 in
        let a : entry_or_first s (source_entry k c) ≡ w.0 = ap (entry_or_first s) from ∙ entry-stays s w.0 w.1 in
        and-both (contains (copies k (entry_or_first s (source_entry k c)).column) c.column) (are_front_copies k (order_columns (order_along k cs places)) (order_columns cs))
        (ap (λ (x : OrderEntry). contains (copies k x.column) c.column) a ∙ column) (more (and-right (has_entry (d ∷ ds) c) (may_begin cs (places_up k places)) l))

-- ---- narrowed places

-- a chosen order goes with its places
pub chosen-begins : (order : List OrderEntry) (places : OrderChoices) → is_chosen order places ≡ true → may_begin order places ≡ true
chosen-begins [] places h = refl
chosen-begins (c ∷ cs) [] h = h
chosen-begins (c ∷ cs) (s ∷ places) h =
    and-both (has_entry s c) (may_begin cs places) (and-left (has_entry s c) (is_chosen cs places) h) (chosen-begins cs places (and-right (has_entry s c) (is_chosen cs places) h))

-- an order of narrowed places goes with the wider ones
pub narrowed-begins : (cols order : List OrderEntry) (places : OrderChoices) → may_begin order (or_nowhere (narrowed cols places)) ≡ true → may_begin order places ≡ true
narrowed-begins [] order places h = h
narrowed-begins (x ∷ xs) [] places h = refl
narrowed-begins (x ∷ xs) (c ∷ cs) [] h = h
narrowed-begins (x ∷ xs) (c ∷ cs) (s ∷ places) h = by (has_entry s x) refl (narrowed xs places) (narrowed-begins xs cs places) h
  where
    by : (b : Bool) → has_entry s x ≡ b → (o : Option OrderChoices) → (may_begin cs (or_nowhere o) ≡ true → may_begin cs places ≡ true)
        → may_begin (c ∷ cs) (or_nowhere (cond b (option_map (λ more. (x ∷ []) ∷ more) o) None)) ≡ true → may_begin (c ∷ cs) (s ∷ places) ≡ true
    by true e (Some more) next l =
        and-both (has_entry s c) (may_begin cs places)
        (ap (has_entry s) (lone-entry x c (and-left (has_entry (x ∷ []) c) (may_begin cs more) l)) ∙ e)
        (next (and-right (has_entry (x ∷ []) c) (may_begin cs more) l))
    by true e None next l = absurd (true≢false (sym l))
    by false e o next l = absurd (true≢false (sym l))

-- an order of narrowed places begins with what they are narrowed to
pub begins-chosen : (cols order : List OrderEntry) (places : OrderChoices) → is_some (narrowed cols places) ≡ true → is_chosen order (or_nowhere (narrowed cols places)) ≡ true → is_front cols order ≡ true
begins-chosen [] order places some h = refl
begins-chosen (x ∷ xs) order [] some h = absurd (true≢false (sym some))
begins-chosen (x ∷ xs) order (s ∷ places) some h = by (has_entry s x) (narrowed xs places) order (λ cs. begins-chosen xs cs places) some h
  where
    by : (b : Bool) (o : Option OrderChoices) (order : List OrderEntry) → ((cs : List OrderEntry) → is_some o ≡ true → is_chosen cs (or_nowhere o) ≡ true → is_front xs cs ≡ true)
        → is_some (cond b (option_map (λ more. (x ∷ []) ∷ more) o) None) ≡ true
        → is_chosen order (or_nowhere (cond b (option_map (λ more. (x ∷ []) ∷ more) o) None)) ≡ true → is_front (x ∷ xs) order ≡ true
    by true (Some more) [] next t l = absurd (true≢false (sym l))
    by true (Some more) (c ∷ cs) next t l =
        and-both (entry_eq x c) (is_front xs cs) (ap (entry_eq x) (lone-entry x c (and-left (has_entry (x ∷ []) c) (is_chosen cs more) l)) ∙ entry-itself x)
        (next cs refl (and-right (has_entry (x ∷ []) c) (is_chosen cs more) l))
    by true None order next t l = absurd (true≢false (sym t))
    by false o order next t l = absurd (true≢false (sym t))

-- ---- no place is empty

-- narrowed places are filled
pub nowhere-filled : (cols : List OrderEntry) (places : OrderChoices) → are_filled places ≡ true → are_filled (or_nowhere (narrowed cols places)) ≡ true
nowhere-filled [] places h = h
nowhere-filled (x ∷ xs) [] h = refl
nowhere-filled (x ∷ xs) (s ∷ places) h = by (has_entry s x) (narrowed xs places) (nowhere-filled xs places (and-right (is_some_list s) (are_filled places) h))
  where
    by : (b : Bool) (o : Option OrderChoices) → are_filled (or_nowhere o) ≡ true → are_filled (or_nowhere (cond b (option_map (λ more. (x ∷ []) ∷ more) o) None)) ≡ true
    by true (Some more) next = next
    by true None next = refl
    by false o next = refl

-- and those with others in front
then-filled : (s : List OrderEntry) (places : OrderChoices) → are_filled places ≡ true → are_filled (place_then s places) ≡ true
then-filled [] places h = refl
then-filled (c ∷ cs) places h = h

-- and those of one entry each
pub singles-filled : (cols : List OrderEntry) → are_filled (singles cols) ≡ true
singles-filled [] = refl
singles-filled (c ∷ cs) = singles-filled cs

-- and those of copies
pub up-filled : (k : Copying) (places : OrderChoices) → are_filled (places_up k places) ≡ true
up-filled k [] = refl
up-filled k (s ∷ places) = then-filled (flat_map (entry_copies k) s) (places_up k places) (up-filled k places)

-- and those of a concat
pub rising-filled : (parts : List Part) (places : OrderChoices) → are_filled places ≡ true → are_filled (rising parts places) ≡ true
rising-filled parts [] h = refl
rising-filled parts (s ∷ places) h =
    then-filled (filter (λ c. list_any (λ x. rises_by x (c ∷ [])) parts) s) places (and-right (is_some_list s) (are_filled places) h)

-- ---- the places of a concat

-- an order by which the rows rise goes with all places
pub rising-begins : (parts : List Part) (order : List OrderEntry) (places : OrderChoices) → may_begin order (rising parts places) ≡ true → may_begin order places ≡ true
rising-begins parts [] places h = refl
rising-begins parts (c ∷ cs) [] h = h
rising-begins parts (c ∷ cs) (s ∷ places) h = by (filter (λ c. list_any (λ x. rises_by x (c ∷ [])) parts) s) refl h
  where
    by : (l : List OrderEntry) → filter (λ c. list_any (λ x. rises_by x (c ∷ [])) parts) s ≡ l → may_begin (c ∷ cs) (place_then l places) ≡ true → may_begin (c ∷ cs) (s ∷ places) ≡ true
    by [] e k = absurd (true≢false (sym k))
    by (d ∷ ds) e k =
        and-both (has_entry s c) (may_begin cs places)
        (kept-passes (λ z. list_any (λ x. rises_by x (z ∷ [])) parts) s c (ap (λ l. has_entry l c) e ∙ and-left (has_entry (d ∷ ds) c) (may_begin cs places) k)).0
        (and-right (has_entry (d ∷ ds) c) (may_begin cs places) k)
