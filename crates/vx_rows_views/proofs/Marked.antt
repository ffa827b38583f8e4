-- Where chunks begin among all rows.
use Rattle.std.proofs.Common.{◌≡◌, ℕ, ◌+◌, ◌-◌, ◌<◌, ◌≤◌, List, [], ◌∷◌, ◌++◌, sym, ap, ◌∙◌, subst, length, get_or, take, drop, map, arith}
use Rattle.std.specs.Prelude.{All}
use Rattle.std.proofs.lemmas.Grind.{flat_map-append}
use Rattle.std.specs.List.{AllByRecursion}
use Rattle.std.proofs.lemmas.List.Elements.{All-append}
use Rattle.vx_rows_values.specs.declared.value.ColType.{ColType}
use Rattle.vx_rows_values.specs.Types.{Fits}
use Rattle.std.proofs.lemmas.List.{length-append, length-take, length-drop, take-append-drop, take-append-le, drop-map, get_or-drop}
use Rattle.std.proofs.Math.Seq.{take-append-add, drop-append-add}
use Rattle.vx_rows_values.specs.Values.{Row}
use Rattle.vx_rows.specs.View.{RowsView}
use Rattle.vx_rows_views.specs.declared.marks.Mark.{Mark}
use Rattle.vx_rows_views.specs.Chunks.{all_rows, rows_in}
use Rattle.vx_rows_views.specs.Marks.{IsMark, IsRest}
use Rattle.vx_rows_views.proofs.Whole.{next-rows, spot-row}

parts : (ts : List RowsView) (k : ℕ) → all_rows ts ≡ all_rows (take k ts) ++ all_rows (drop k ts)
parts ts k = ap all_rows (sym (take-append-drop k ts)) ∙ flat_map-append (λ t. t.rows) (take k ts) (drop k ts)

-- the rows from a chunk on
long-parts : (ts : List RowsView) (k : ℕ) → length (all_rows ts) ≡ length (all_rows (take k ts)) + length (all_rows (drop k ts))
long-parts ts k = ap length (parts ts k) ∙ length-append (all_rows (take k ts)) (all_rows (drop k ts))

rows-from : (ts : List RowsView) (k before skip : ℕ) → before ≡ length (all_rows (take k ts)) → before ≤ skip → drop (skip - before) (all_rows (drop k ts)) ≡ drop skip (all_rows ts)
rows-from ts k before skip e h =
    let n : length (all_rows (take k ts)) + (skip - before) ≡ skip = omega (arith, e, h) in
    sym (ap (drop skip) (parts ts k) ∙ (ap (λ m. drop m (all_rows (take k ts) ++ all_rows (drop k ts))) (sym n) ∙ drop-append-add (all_rows (take k ts)) (all_rows (drop k ts)) (skip - before)))

-- so many chunks, and so many behind them
rows-before : (ts : List RowsView) (k j : ℕ) → k ≤ length ts → length (all_rows (take (k + j) ts)) ≡ length (all_rows (take k ts)) + length (all_rows (take j (drop k ts)))
rows-before ts k j h =
    let n : length (take k ts) ≡ k = let l = length-take k ts in omega (arith, l, h) in
    let here : take (k + j) ts ≡ take k ts ++ take j (drop k ts) =
    ap (take (k + j)) (sym (take-append-drop k ts))
    ∙ (ap (λ m. take (m + j) (take k ts ++ drop k ts)) (sym n) ∙ take-append-add (take k ts) (drop k ts) j) in
    ap (λ us. length (all_rows us)) here
    ∙ (ap length (flat_map-append (λ t. t.rows) (take k ts) (take j (drop k ts))) ∙ length-append (all_rows (take k ts)) (all_rows (take j (drop k ts))))

chunk-from : (ts : List RowsView) (k j : ℕ) → rows_in (drop k ts) j ≡ rows_in ts (k + j)
chunk-from ts k j =
    ap (λ us. get_or us j []) (sym (drop-map (λ t. t.rows) k ts)) ∙ get_or-drop k (map (λ t. t.rows) ts) j []

-- what lies in the chunks from one on, seen from all of them
module _ {ts us : List RowsView} {before : ℕ} (r : IsRest ts us before) where
  skipped : length ts - length us ≡ r.chunk
  skipped =
      let n = ap length r.same ∙ length-drop r.chunk ts in
      omega (arith, n, r.near)

  pub row-there : (i : ℕ) → before ≤ i → i < length (all_rows ts) → i - before < length (all_rows us)
  row-there i h l =
      let n = long-parts ts r.chunk in
      let m = ap (λ vs. length (all_rows vs)) r.same in
      omega (arith, n, m, r.before, h, l)

  pub place-from : (i j p : ℕ) → before ≤ i → i - before ≡ length (all_rows (take j us)) + p → i ≡ length (all_rows (take (length ts - length us + j) ts)) + p
  place-from i j p h e =
      let s = ap (λ n. length (all_rows (take (n + j) ts))) skipped ∙ rows-before ts r.chunk j r.near in
      let m = ap (λ vs. length (all_rows (take j vs))) r.same in
      omega (arith, s, m, e, r.before, h)

  pub there-from : (j p : ℕ) → p < length (rows_in us j) → p < length (rows_in ts (length ts - length us + j))
  there-from j p l =
      let e = ap (λ vs. length (rows_in vs j)) r.same ∙ (ap length (chunk-from ts r.chunk j) ∙ ap (λ n. length (rows_in ts (n + j))) (sym skipped)) in
      omega (arith, e, l)

  pub part-from : (from count : ℕ) → before ≤ from → take count (drop (from - before) (all_rows us)) ≡ take count (drop from (all_rows ts))
  part-from from count h =
      ap (λ vs. take count (drop (from - before) (all_rows vs))) r.same ∙ ap (take count) (rows-from ts r.chunk before from r.before h)

-- the rows of one chunk among all rows
module _ (ts : List RowsView) (i k p : ℕ) (t : RowsView) (h : k < length ts) (e : t ≡ get_or ts k t) (at : i ≡ length (all_rows (take k ts)) + p) where
  pub chunk-within : p < length t.rows → i + (length t.rows - p) ≤ length (all_rows ts)
  chunk-within l =
      let n = ap length (next-rows ts k t h e) ∙ length-append (all_rows (take k ts)) t.rows in
      let m = long-parts ts (k + 1) in
      omega (arith, n, m, at, l)

  pub chunk-alike : (j : ℕ) → p + j < length t.rows → get_or (all_rows ts) (i + j) [] ≡ get_or t.rows (p + j) []
  chunk-alike j l = spot-row ts (i + j) k (p + j) t h e l (omega (arith, at))

-- a mark stays where more chunks come behind, and is moved where some come first
mark-kept : (xs ys : List RowsView) (m : Mark) → IsMark xs m → IsMark (xs ++ ys) m
mark-kept xs ys m h =
    let l = length-append xs ys in
    (omega (arith, l, h.0), h.1 ∙ ap (λ us. length (all_rows us)) (sym (take-append-le m.chunk xs ys h.0)))

pub marks-kept : (xs ys : List RowsView) (ms : List Mark) → All (IsMark xs) ms → All (IsMark (xs ++ ys)) ms
marks-kept xs ys ms h = λ k d l. mark-kept xs ys (get_or ms k d) (h k d l)

pub mark-moved : (xs ys : List RowsView) (m n : Mark) → n.chunk ≡ length xs + m.chunk → n.rows ≡ length (all_rows xs) + m.rows → IsMark ys m → IsMark (xs ++ ys) n
mark-moved xs ys m n c r h =
    let l = length-append xs ys in (
      omega (arith, l, c, h.0),
      r ∙ (ap (λ q. length (all_rows xs) + q) h.1
          ∙ (sym (length-append (all_rows xs) (all_rows (take m.chunk ys)))
          ∙ (ap length (sym (flat_map-append (λ t. t.rows) xs (take m.chunk ys)))
          ∙ ap (λ us. length (all_rows us)) (sym (ap (λ q. take q (xs ++ ys)) c ∙ take-append-add xs ys m.chunk))))),
    )

fit-both : (types : List ColType) (xs ys : List Row) → AllByRecursion (Fits types) xs → AllByRecursion (Fits types) ys → AllByRecursion (Fits types) (xs ++ ys)
fit-both types [] ys h k = k
fit-both types (x ∷ xs) ys h k = (h.0, fit-both types xs ys h.1 k)

-- what Rows keep when others come behind them
pub joined-keep : (types : List ColType) (xs ys zs : List RowsView) (ms : List Mark) (count more n : ℕ) → zs ≡ xs ++ ys → n ≡ count + more
    → (count ≡ length (all_rows xs)) × All (λ t. t.types ≡ types) xs × AllByRecursion (Fits types) (all_rows xs)
    → (more ≡ length (all_rows ys)) × All (λ t. t.types ≡ types) ys × AllByRecursion (Fits types) (all_rows ys)
    → All (IsMark (xs ++ ys)) ms
    → (n ≡ length (all_rows zs)) × All (λ t. t.types ≡ types) zs × AllByRecursion (Fits types) (all_rows zs) × All (IsMark zs) ms
joined-keep types xs ys zs ms count more n e sum here there marks =
    let rows = flat_map-append (λ t. t.rows) xs ys in
    let long = ap length rows ∙ length-append (all_rows xs) (all_rows ys) in
    let all : (n ≡ length (all_rows (xs ++ ys))) × All (λ t. t.types ≡ types) (xs ++ ys) × AllByRecursion (Fits types) (all_rows (xs ++ ys)) × All (IsMark (xs ++ ys)) ms =
    (omega (arith, long, sum, here.0, there.0), All-append (λ t. t.types ≡ types) xs ys here.1 there.1, subst (AllByRecursion (Fits types)) (sym rows) (fit-both types (all_rows xs) (all_rows ys) here.2 there.2), marks) in
    subst (λ (us : List RowsView). (n ≡ length (all_rows us)) × All (λ t. t.types ≡ types) us × AllByRecursion (Fits types) (all_rows us) × All (IsMark us) ms) (sym e) all
