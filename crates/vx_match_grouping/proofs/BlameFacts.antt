-- Why a grouping stops, from why its parts do.
use Rattle.std.proofs.Common.{◌≡◌, ℕ, suc, ◌<◌, ◌≤◌, Bool, true, false, cond, List, [], ◌∷◌, ◌++◌, map, filter, take, drop, length, get_or, set, length-set, sym, ap, ◌∙◌, subst, arith}
use Rattle.std.proofs.lemmas.Grind.{flat_map-append}
use Rattle.std.proofs.lemmas.List.{take-append-drop, get_or-map, length-map, length-take, length-append, get_or-set_same}
use Rattle.vx_rows_values.specs.Values.{Row, row_eq, pick}
use Rattle.vx_rows.specs.View.{RowsView}
use Rattle.vx_rows_views.specs.Chunks.{all_rows}
use Rattle.vx_match_keys.specs.Numbers.{numbers_of}
use Rattle.vx_plan_nodes.specs.Plan.{Aggregate}
use Rattle.vx_plan_nodes.specs.Serial.{group_keys, of_key}
use Rattle.vx_match_grouping.specs.declared.fault.GroupFault.{GroupFault}
use Rattle.vx_match_grouping.specs.declared.fault.GroupFault.TheVariants.{Overflow, TooMany, NoMemory}
use Rattle.vx_match_grouping.specs.Groups.{Held, no_held, counted, column_of, held_at, Groups, HasTaken}
use Rattle.vx_match_grouping.specs.Takes.{advance_all}
use Rattle.vx_match_grouping.specs.GroupFaults.{GroupBlame, TakeBlame, EndBlame, StepBlame, CellsBlame}
use Rattle.vx_match_grouping.proofs.AggregateFacts.{counted-most}
use Rattle.vx_match_grouping.proofs.GroupFacts.{of_rows, one-front}
use Rattle.vx_match_grouping.proofs.EndFacts.{finished-none}

-- each counts no more than there are rows
few : {X : Type 0} (p : X → Bool) (xs : List X) → length (filter p xs) ≤ length xs
few p [] = omega arith
few p (x ∷ xs) = step (p x) (few p xs)
  where
    step : (b : Bool) → length (filter p xs) ≤ length xs → length (cond b (x ∷ filter p xs) (filter p xs)) ≤ suc (length xs)
    step true h = omega (arith, h)
    step false h = omega (arith, h)

-- an entry counts no more than there are rows
entry-few : (a : Aggregate) (by : List ℕ) (ys : List Row) (now : List Held) (n : ℕ) → now ≡ column_of by ys a → n < length now → (get_or now n no_held).taken ≤ length ys
entry-few a by ys now n was inside =
    let ks = group_keys by ys in
    let long : length now ≡ length ks = ap length was ∙ length-map ks (of_rows by a ys) in
    let own = of_key by (get_or ks n []) ys in
    let is : (get_or now n no_held).taken ≡ counted a (length own) =
    ap (λ (l : List Held). (get_or l n no_held).taken) was ∙ ap (λ (h : Held). h.taken) (get_or-map (of_rows by a ys) ks n [] no_held (omega (arith, inside, long))) in
    let most = counted-most a (length own) in
    let some = few (λ r. row_eq (get_or ks n []) (pick by r)) ys in
    omega (arith, is, most, some)

-- one more row for an entry that is full
pub step-blame : (e : GroupFault) (a : Aggregate) (by : List ℕ) (xs rows : List Row) (i : ℕ) (now : List Held) (n : ℕ) → i < length rows → now ≡ column_of by (xs ++ take i rows) a → n < length now
    → StepBlame e (get_or now n no_held).taken → TakeBlame e (xs ++ rows)
step-blame Overflow a by xs rows i now n near was inside h = h
step-blame TooMany a by xs rows i now n near was inside h =
    let most = entry-few a by (xs ++ take i rows) now n was inside in
    let long = length-append xs (take i rows) in let front = length-take i rows in let whole = length-append xs rows in
    omega (arith, near, h, most, long, front, whole)
step-blame NoMemory a by xs rows i now n near was inside h = tt

-- the same where all rows have one key
pub one-blame : (e : GroupFault) (a : Aggregate) (by : List ℕ) (xs rows : List Row) (numbers : List ℕ) (old : List Held) (n : ℕ) → numbers ≡ numbers_of (group_keys by xs) (map (pick by) rows)
    → old ≡ column_of by xs a → n < length old → ((k : ℕ) → k < length rows → get_or numbers k 0 ≡ n)
    → (i : ℕ) → i < length rows → StepBlame e (advance_all (take i rows) (get_or old n no_held)).taken → TakeBlame e (xs ++ rows)
one-blame e a by xs rows numbers old n are was inside same i near blame =
    let h = advance_all (take i rows) (get_or old n no_held) in
    let long = length-set old n h in
    step-blame e a by xs rows i (set old n h) n near (one-front a by xs rows numbers old n are was inside same i (omega (arith, near))) (omega (arith, inside, long))
    (subst (λ (g : Held). StepBlame e g.taken) (sym (get_or-set_same old n h no_held inside)) blame)

-- nothing is to be shown where memory ran out
pub no-memory-blame : (e : GroupFault) (xs : List Row) → e ≡ NoMemory → TakeBlame e xs
no-memory-blame e xs is = subst (λ x. TakeBlame x xs) (sym is) tt

-- one group does not fit
pub end-blame : (e : GroupFault) (g : Groups) (xs : List Row) (n : ℕ) → HasTaken g xs → n < length g.keys → CellsBlame e (held_at n g.columns) → EndBlame e g.by g.aggregates xs
end-blame Overflow g xs n t l h = finished-none g xs n t l h
end-blame TooMany g xs n t l h = h
end-blame NoMemory g xs n t l h = tt

-- the first rows were not taken
pub front-blame : (e : GroupFault) (xs rows : List Row) (n : ℕ) → TakeBlame e (xs ++ take n rows) → TakeBlame e (xs ++ rows)
front-blame Overflow xs rows n h = h
front-blame TooMany xs rows n h =
    let long = length-append xs (take n rows) in let front = length-take n rows in let whole = length-append xs rows in omega (arith, h, long, front, whole)
front-blame NoMemory xs rows n h = tt

-- some chunks were not taken
pub chunks-blame : (e : GroupFault) (xs : List Row) (ts : List RowsView) (i : ℕ) → TakeBlame e (xs ++ all_rows (take i ts)) → TakeBlame e (xs ++ all_rows ts)
chunks-blame Overflow xs ts i h = h
chunks-blame TooMany xs ts i h =
    let whole = ap all_rows (sym (take-append-drop i ts)) ∙ flat_map-append (λ (t : RowsView). t.rows) (take i ts) (drop i ts) in
    let many = ap length whole ∙ length-append (all_rows (take i ts)) (all_rows (drop i ts)) in
    let a = length-append xs (all_rows (take i ts)) in let b = length-append xs (all_rows ts) in omega (arith, h, a, b, many)
chunks-blame NoMemory xs ts i h = tt

-- a fault on the way, and one at the end, are faults of the whole
pub added-blame : (e : GroupFault) (by : List ℕ) (as' : List Aggregate) (xs : List Row) → TakeBlame e xs → GroupBlame e by as' xs
added-blame Overflow by as' xs h = absurd h
added-blame TooMany by as' xs h = h
added-blame NoMemory by as' xs h = tt

pub finish-blame : (e : GroupFault) (by : List ℕ) (as' : List Aggregate) (xs : List Row) → EndBlame e by as' xs → GroupBlame e by as' xs
finish-blame Overflow by as' xs h = h
finish-blame TooMany by as' xs h = absurd h
finish-blame NoMemory by as' xs h = tt
