-- The lines of more rows, before those that stand already and after those that were written.
use Rattle.std.proofs.Common.{◌≡◌, ℕ, zero, suc, ◌+◌, ◌-◌, ◌≤◌, List, ◌∷◌, ◌++◌, map, flat_map, refl, sym, ap, ◌∙◌, arith, Bool, true, false, ◌||◌}
use Rattle.std.specs.Prelude.{codes}
use Rattle.std.specs.List.{range_with_len}
use Rattle.std.proofs.lemmas.List.{map-append}
use Rattle.std.proofs.lemmas.Grind.{flat_map-append}
use Rattle.csv.specs.Writing.{row_text, default_writer, fields_text, is_blank}
use Rattle.vx_catalog.specs.Csv.{line_text}
use Rattle.vx_wisconsin.specs.Wisconsin.{row_of, column_names}

-- the lines of k rows of n from row i on
abbrev pub lines : ℕ → ℕ → ℕ → List ℕ
lines n i k = flat_map line_text (map (row_of n) (range_with_len i k))

-- a row before those from `first` to `to`
pub line-before-lines : (n i first to : ℕ) → i + 1 ≡ first → first ≤ to → line_text (row_of n i) ++ lines n first (to - first) ≡ lines n i (to - i)
line-before-lines n i first to e h =
    let more : to - i ≡ suc (to - first) = omega arith in
    ap (λ (from : ℕ). line_text (row_of n i) ++ lines n from (to - first)) (sym e) ∙ ap (λ (k : ℕ). lines n i k) (sym more)

range-split : (a m k t : ℕ) → m + k ≡ t → range_with_len a t ≡ range_with_len a m ++ range_with_len (a + m) k
range-split a zero k t e =
    let f : t ≡ k = omega arith in
    let g : a + zero ≡ a = omega arith in
    rw (f, g) refl
range-split a (suc m) k zero e = absurd (omega arith)
range-split a (suc m) k (suc t) e =
    let next = range-split (a + 1) m k t (omega arith) in
    let s : (a + 1) + m ≡ a + suc m = omega arith in
    ap (λ (l : List ℕ). a ∷ l) (next ∙ ap (λ (b : ℕ). range_with_len (a + 1) m ++ range_with_len b k) s)

-- the rows from m to t after those before m
pub lines-split : (n m t : ℕ) → m ≤ t → lines n 0 t ≡ lines n 0 m ++ lines n m (t - m)
lines-split n m t h =
    let s : 0 + m ≡ m = omega arith in
    ap (λ (l : List ℕ). flat_map line_text (map (row_of n) l)) (range-split 0 m (t - m) t (omega arith) ∙ ap (λ (b : ℕ). range_with_len 0 m ++ range_with_len b (t - m)) s)
    ∙ (ap (λ l. flat_map line_text l) (map-append (row_of n) (range_with_len 0 m) (range_with_len m (t - m)))
    ∙ flat_map-append line_text (map (row_of n) (range_with_len 0 m)) (map (row_of n) (range_with_len m (t - m))))

pub or-true : (b : Bool) → (b || true) ≡ true
or-true true = refl
or-true false = refl

-- the header
pub header-is : row_text default_writer column_names ≡ codes "unique1,unique2,two,four,ten,twenty,onePercent,tenPercent,twentyPercent,fiftyPercent,unique3,evenOnePercent,oddOnePercent,stringu1,stringu2,string4\n"
unfolding column_names fields_text is_blank
header-is = refl
