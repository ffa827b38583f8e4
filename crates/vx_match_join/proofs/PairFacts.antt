-- Places side by side: those of left rows, and beside each that of a right row.
use Rattle.std.proofs.Common.{◌≡◌, ◌∙◌, ℕ, zero, suc, ◌+◌, ◌<◌, ◌≤◌, List, [], ◌∷◌, ◌++◌, map, flat_map, take, drop, length, get_or, refl, sym, ap, subst, arith}
use Rattle.std.specs.Prelude.{slice_range}
use Rattle.std.specs.List.{All, AllByRecursion, zip, position_or_len}
use Rattle.std.proofs.lemmas.List.{map-append, get_or-map, length-map, length-append, take_more, append-nil}
use Rattle.std.proofs.lemmas.List.Concat.{flat_map-append}
use Rattle.std.proofs.lemmas.List.Elements.{All-append, All-nil, All-from_recursion}
use Rattle.std.proofs.lemmas.List.{take-append-le, take-append-drop, take_all}
use Rattle.std.proofs.Math.Seq.{take-append-add}
use Rattle.std.proofs.lemmas.Simd.{map-map}
use Rattle.vx_rows_values.specs.Values.{Row, row_eq, pick}
use Rattle.vx_rows_views.proofs.Facts.{length-slice, get_or-slice}
use Rattle.vx_rows.specs.View.{RowsView}
use Rattle.vx_rows_views.specs.Chunks.{all_rows}
use Rattle.vx_rows_views.proofs.Whole.{next-rows, rest-rows, take-range}
use Rattle.vx_plan_nodes.specs.Serial.{group_keys, joined_with, join_rows}
use Rattle.vx_match_join.specs.Build.{places_of, ArePairs}
use Rattle.vx_match_keys.specs.Matched.{matched}
use Rattle.vx_match_join.proofs.PlaceFacts.{places-below}
use Rattle.vx_match_join.proofs.BuildFacts.{joined-at}

new-pairs : (i : ℕ) (ps : List ℕ) → zip (map (λ _. i) ps) ps ≡ map (λ j. (i, j)) ps
new-pairs i [] = refl
new-pairs i (p ∷ ps) = ap (λ l. (i, p) ∷ l) (new-pairs i ps)

more-pairs : (i : ℕ) (ls rs ps : List ℕ) → length ls ≡ length rs → zip (ls ++ map (λ _. i) ps) (rs ++ ps) ≡ zip ls rs ++ map (λ j. (i, j)) ps
more-pairs i [] [] ps h = new-pairs i ps
more-pairs i [] (r ∷ rs) ps h = absurd (omega (arith, h))
more-pairs i (l ∷ ls) [] ps h = absurd (omega (arith, h))
more-pairs i (l ∷ ls) (r ∷ rs) ps h = ap (λ z. (l, r) ∷ z) (more-pairs i ls rs ps (omega (arith, h)))

-- what is made of the pairs when one left position comes with its right positions
pub made-of-more : {X : Type 0} (f : ℕ × ℕ → X) (i : ℕ) (ls rs ps : List ℕ) → length ls ≡ length rs
    → map f (zip (ls ++ map (λ _. i) ps) (rs ++ ps)) ≡ map f (zip ls rs) ++ map (λ j. f (i, j)) ps
made-of-more f i ls rs ps h =
    ap (map f) (more-pairs i ls rs ps h)
    ∙ (map-append f (zip ls rs) (map (λ j. (i, j)) ps) ∙ ap (λ l. map f (zip ls rs) ++ l) (map-map f (λ j. (i, j)) ps))

same-each : (P : ℕ → Type 0) (i : ℕ) (ps : List ℕ) → P i → AllByRecursion P (map (λ _. i) ps)
same-each P i [] h = tt
same-each P i (p ∷ ps) h = (h, same-each P i ps h)

pub all-same : (P : ℕ → Type 0) (i : ℕ) (ps : List ℕ) → P i → All P (map (λ _. i) ps)
all-same P i ps h = All-from_recursion P (map (λ _. i) ps) (same-each P i ps h)

-- no pairs
pub pairs-none : (ls rs : List Row) → ArePairs ls rs [] [] []
pairs-none ls rs = record { many = refl; lefts_are = All-nil (λ k. k < length ls); rights_are = All-nil (λ k. k < length rs); rows_are = refl }

zip-long : (ls rs : List ℕ) → length ls ≡ length rs → length (zip ls rs) ≡ length ls
zip-long [] rs h = refl
zip-long (l ∷ ls) [] h = absurd (omega (arith, h))
zip-long (l ∷ ls) (r ∷ rs) h = ap suc (zip-long ls rs (omega (arith, h)))

-- as many rows as pairs
pub pairs-long : (ls rs : List Row) (lefts rights : List ℕ) (made : List Row) → ArePairs ls rs lefts rights made → length made ≡ length lefts
pairs-long ls rs lefts rights made h =
    sym (ap length h.rows_are) ∙ (length-map (zip lefts rights) (λ p. get_or ls p.0 [] ++ get_or rs p.1 []) ∙ zip-long lefts rights h.many)

-- one left row with the right rows of its key
pub pairs-more : (ls rs : List Row) (lefts rights columns by : List ℕ) (at : ℕ) (ps : List ℕ) → at < length ls → ps ≡ places_of by (pick columns (get_or ls at [])) rs
    → ArePairs ls rs lefts rights (flat_map (matched columns by rs) (take at ls))
    → ArePairs ls rs (lefts ++ map (λ _. at) ps) (rights ++ ps) (flat_map (matched columns by rs) (take (at + 1) ls))
pairs-more ls rs lefts rights columns by at ps near is h =
    let l = get_or ls at [] in
    let f = matched columns by rs in
    let one : map (λ j. l ++ get_or rs j []) ps ≡ f l = ap (map (λ j. l ++ get_or rs j [])) is ∙ joined-at l by (pick columns l) rs in
    record {
      many = length-append lefts (map (λ _. at) ps) ∙ ((λ j. h.many j + length-map ps (λ _. at) j) ∙ sym (length-append rights ps));
      lefts_are = All-append (λ k. k < length ls) lefts (map (λ _. at) ps) h.lefts_are (all-same (λ k. k < length ls) at ps near);
      rights_are = All-append (λ k. k < length rs) rights ps h.rights_are
          (subst (All (λ k. k < length rs)) (sym is) (places-below (λ r. row_eq (pick columns l) (pick by r)) rs));
      rows_are = made-of-more (λ p. get_or ls p.0 [] ++ get_or rs p.1 []) at lefts rights ps h.many
          ∙ ((λ j. h.rows_are j ++ one j)
          ∙ sym (ap (flat_map f) (take_more ls at [] near) ∙ (flat_map-append f (take at ls) (l ∷ []) ∙ ap (λ rows. flat_map f (take at ls) ++ rows) (append-nil (f l)))));
    }

-- one left row whose key no right row has
pub pairs-missing : (ls rs : List Row) (lefts rights columns by : List ℕ) (at : ℕ) → at < length ls → [] ≡ places_of by (pick columns (get_or ls at [])) rs
    → ArePairs ls rs lefts rights (flat_map (matched columns by rs) (take at ls)) → ArePairs ls rs lefts rights (flat_map (matched columns by rs) (take (at + 1) ls))
pairs-missing ls rs lefts rights columns by at near is h =
    let made = flat_map (matched columns by rs) (take (at + 1) ls) in
    subst (λ (ks : List ℕ). ArePairs ls rs ks rights made) (append-nil lefts)
    (subst (λ (ks : List ℕ). ArePairs ls rs (lefts ++ []) ks made) (append-nil rights) (pairs-more ls rs lefts rights columns by at [] near is h))

-- the number of a row's key, among those of a part of the rows
pub number-in : (columns : List ℕ) (ks ls : List Row) (ns : List ℕ) (from to i : ℕ) → from + length ns ≡ to → to ≤ length ls → i < length ns
    → ns ≡ map (λ r. position_or_len (row_eq (pick columns r)) ks) (slice_range ls from to) → get_or ns i 0 ≡ position_or_len (row_eq (pick columns (get_or ls (from + i) []))) ks
number-in columns ks ls ns from to i e within near is =
    let part = slice_range ls from to in
    let long = length-slice ls from to (omega (arith, e)) within in
    let f = λ (r : Row). position_or_len (row_eq (pick columns r)) ks in
    ap (λ l. get_or l i 0) is
    ∙ (get_or-map f part i [] 0 (omega (arith, long, near, e)) ∙ ap f (get_or-slice ls from to i [] (omega (arith, near, e))))

-- the numbers of the keys of a block
pub block-numbers : (columns by : List ℕ) (rs keys ls block : List Row) (ns : List ℕ) (from to : ℕ) → keys ≡ group_keys by rs → block ≡ slice_range ls from to → ns ≡ map (λ r. position_or_len (row_eq (pick columns r)) keys) block
    → ns ≡ map (λ r. position_or_len (row_eq (pick columns r)) (group_keys by rs)) (slice_range ls from to)
block-numbers columns by rs keys ls block ns from to k b n = n ∙ (λ j. map (λ r. position_or_len (row_eq (pick columns r)) (k j)) (b j))

pub block-long : (columns : List ℕ) (keys ls block : List Row) (ns : List ℕ) (from to : ℕ) → from < to → to ≤ length ls → block ≡ slice_range ls from to → ns ≡ map (λ r. position_or_len (row_eq (pick columns r)) keys) block
    → from + length ns ≡ to
block-long columns keys ls block ns from to l within b n =
    let long = ap length n ∙ (length-map block (λ r. position_or_len (row_eq (pick columns r)) keys) ∙ (ap length b ∙ length-slice ls from to (omega (arith, l)) within)) in omega (arith, long, l)

-- of the first rows of a list, and of more behind them
pub made-more : {X Y : Type 0} (f : X → List Y) (xs front part rest : List X) (n : ℕ) → xs ≡ front ++ (part ++ rest) → n ≤ length part
    → flat_map f (take (length front + n) xs) ≡ flat_map f front ++ flat_map f (take n part)
made-more f xs front part rest n e l =
    ap (λ ys. flat_map f (take (length front + n) ys)) e
    ∙ (ap (flat_map f) (take-append-add front (part ++ rest) n ∙ ap (λ ys. front ++ ys) (take-append-le n part rest l)) ∙ flat_map-append f front (take n part))

-- rows of chunks: those before one, its own, and those behind it
pub split-rows : (ts : List RowsView) (k : ℕ) (t : RowsView) → k < length ts → t ≡ get_or ts k t → all_rows ts ≡ all_rows (take k ts) ++ (t.rows ++ all_rows (drop (k + 1) ts))
split-rows ts k t l e =
    ap all_rows (sym (take-append-drop k ts)) ∙ (flat_map-append (λ (u : RowsView). u.rows) (take k ts) (drop k ts) ∙ ap (λ rs. all_rows (take k ts) ++ rs) (rest-rows ts k t l e))

-- what is made of the first rows, with those of one more chunk
pub made-next : (f : Row → List Row) (ts : List RowsView) (k n taken : ℕ) (t : RowsView) → k < length ts → t ≡ get_or ts k t → taken ≡ length (all_rows (take k ts)) → n ≤ length t.rows
    → flat_map f (take taken (all_rows ts)) ++ flat_map f (take n t.rows) ≡ flat_map f (take (taken + n) (all_rows ts))
made-next f ts k n taken t l e at within =
    let front = all_rows (take k ts) in
    let rest = all_rows (drop (k + 1) ts) in
    let split = split-rows ts k t l e in
    let zero-more : taken ≡ length front + 0 = omega (arith, at) in
    let first : take taken (all_rows ts) ≡ front =
    ap (λ m. take m (all_rows ts)) zero-more ∙ (ap (take (length front + 0)) split ∙ (take-append-add front (t.rows ++ rest) 0 ∙ append-nil front)) in
    ap (λ rs. flat_map f rs ++ flat_map f (take n t.rows)) first
    ∙ (sym (made-more f (all_rows ts) front t.rows rest n split within) ∙ ap (λ m. flat_map f (take (m + n) (all_rows ts))) (sym at))

pub within-next : (ts : List RowsView) (k n taken : ℕ) (t : RowsView) → k < length ts → t ≡ get_or ts k t → taken ≡ length (all_rows (take k ts)) → n ≤ length t.rows → taken + n ≤ length (all_rows ts)
within-next ts k n taken t l e at within =
    let a = ap length (split-rows ts k t l e) in
    let b = length-append (all_rows (take k ts)) (t.rows ++ all_rows (drop (k + 1) ts)) in
    let d = length-append t.rows (all_rows (drop (k + 1) ts)) in
    omega (arith, a, b, d, at, within)

pub next-long : (ts : List RowsView) (k : ℕ) (t : RowsView) → k < length ts → t ≡ get_or ts k t → length (all_rows (take (k + 1) ts)) ≡ length (all_rows (take k ts)) + length t.rows
next-long ts k t l e = ap length (next-rows ts k t l e) ∙ length-append (all_rows (take k ts)) t.rows

pub none-left : (n m : ℕ) → (0 < m → 0 < n) → n ≡ 0 → m ≡ 0
none-left n zero h e = refl
none-left n (suc m) h e = let l = h (omega arith) in absurd (omega (arith, l, e))

-- the first rows and the rest
pub front-rest : (rows : List Row) (n m : ℕ) → n ≤ length rows → m ≡ length rows → take n rows ++ slice_range rows n m ≡ rows
front-rest rows n m l e = sym (take-range rows n m (omega (arith, l, e)) (omega (arith, e))) ∙ take_all m rows (omega (arith, e))

-- what is made of lists in turn
pub join-append : (on : List (ℕ × ℕ)) (xs ys rs : List Row) → join_rows on (xs ++ ys) rs ≡ join_rows on xs rs ++ join_rows on ys rs
join-append on xs ys rs = flat_map-append (joined_with on rs) xs ys
