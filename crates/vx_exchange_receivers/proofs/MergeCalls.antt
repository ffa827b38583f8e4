-- What the calls of a merge keep.
use Rattle.std.proofs.Common.{ℕ, ◌≡◌, ◌≢◌, ◌<◌, ◌≤◌, ◌+◌, ◌-◌, ◌⊎◌, inl, inr, refl, sym, ap, ◌∙◌, arith, subst, List, [], ◌∷◌, ◌++◌, Bool, true, false, Option, Some, None, slice_get, length, get_or, drop, drop-cons, length-drop, append_assoc, true≢false}
use Rattle.std.proofs.Math.ListN.{set}
use Rattle.std.specs.Prelude.{slice_range}
use Rattle.std.specs.List.{Contains, remove}
use Rattle.std.proofs.lemmas.List.{length-append, length-take-le, get_or_default, get_or-set_same}
use Rattle.std.proofs.lemmas.Option.{slice_get_within}
use Rattle.std.proofs.lemmas.Bool.Decides.{eqb_tells}
use Rattle.vx_rows_values.specs.declared.order.OrderEntry.{OrderEntry}
use Rattle.vx_rows_values.specs.Values.{Row}
use Rattle.vx_rows_values.specs.declared.value.ColType.{ColType}
use Rattle.vx_rows_values.specs.Order.{order_columns, sorted}
use Rattle.vx_rows.specs.View.{AreColumns}
use Rattle.vx_plan_nodes.specs.Streams.{Streams}
use Rattle.vx_exchange_receivers.specs.declared.heads.StreamHead.{StreamHead}
use Rattle.vx_exchange_receivers.specs.Merged.{with_more}
use Rattle.vx_exchange_receivers.specs.Heads.{HasRow, HasRowAt, Lacks, LacksAt, last_of, AreAlike, AreOf, Precedes, IsRun, IsOrder, AreAll, AllRise, IsMissing}
use Rattle.vx_exchange_receivers.specs.Merge.{MergeView, MergeFits, IsMergeOf, HasMerged, AllGiven}
use Rattle.vx_exchange_receivers.proofs.HeadFacts.{set-there, set-other, the-head, read-there}
use Rattle.vx_exchange_receivers.proofs.Merges.{put-falls, put-rises, end-merged, run-merged}
use Rattle.vx_exchange_receivers.proofs.Places.{order-kept, first-once}
use Rattle.vx_exchange_receivers.proofs.Merges.{by-order}
use Rattle.vx_exchange_receivers.proofs.Orders.{all-tail, pairs-tail, has-either}

pub alike-of : (types : List ColType) (merge : List OrderEntry) (hs : List StreamHead) → AreColumns (length types) (order_columns merge) → AreOf types hs → AreAlike merge hs
alike-of types merge hs c t = record {
  types = λ p q h g e f. t p h e ∙ sym (t q g f);
  columns = λ p h e. subst (λ ts. AreColumns (length ts) (order_columns merge)) (sym (t p h e)) c;
}

pub types-changed : (types : List ColType) (hs : List StreamHead) (p : ℕ) (g : StreamHead) → p < length hs → AreOf types hs → g.rows.types ≡ types → AreOf types (set hs p g)
types-changed types hs p g lt t e q h f = elim (eqb_tells q p) [
  | inl i ↦ let s : g ≡ h = the-head (set hs p g) p g h (set-there hs p g lt) (subst (λ k. slice_get (set hs p g) k ≡ Some h) i.1 f) in subst (λ (x : StreamHead). x.rows.types ≡ types) s e
  | inr i ↦ t q h (sym (set-other hs p q g i.1) ∙ f)
]

pub rises-changed : (merge : List OrderEntry) (hs : List StreamHead) (p : ℕ) (g : StreamHead) → p < length hs → AllRise merge hs → sorted merge g.rows.rows ≡ true → AllRise merge (set hs p g)
rises-changed merge hs p g lt t s q = elim (eqb_tells q p) [
  | inl i ↦ rw (i.1, set-there hs p g lt) s
  | inr i ↦ rw (set-other hs p q g i.1) (t q)
]

-- one head was changed, and with it the order
pub fits-changed : (v : MergeView) → MergeFits v → (p : ℕ) (g : StreamHead) → p < length v.heads → g.rows.types ≡ v.types → sorted v.merge g.rows.rows ≡ true → (order : List ℕ) → IsOrder v.merge (set v.heads p g) order
    → ((q : ℕ) → q ≢ p → Contains v.order q → Contains order q) → (HasRow g → Contains order p) → (o : Option ℕ) → IsMissing (set v.heads p g) o
    → MergeFits (record v { heads = set v.heads p g; order = order; missing = o })
fits-changed v fits p g lt e rise order is kept new o missing = record {
  columns = fits.columns;
  types = types-changed v.types v.heads p g lt fits.types e;
  rises = rises-changed v.merge v.heads p g lt fits.rises rise;
  order = is;
  all = λ q r. elim (eqb_tells q p) [
    | inl i ↦
        let there : slice_get (set v.heads p g) q ≡ Some g = subst (λ k. slice_get (set v.heads p g) k ≡ Some g) (sym i.1) (set-there v.heads p g lt) in
        let s : r.0 ≡ g = the-head (set v.heads p g) q r.0 g r.1 there in
        subst (Contains order) (sym i.1) (new (subst HasRow s r.2))
    | inr i ↦ kept q i.1 (fits.all q (r.0, sym (set-other v.heads p q g i.1) ∙ r.1, r.2))
  ];
  missing = missing;
}

module _ (v m : MergeView) (seen : v ≡ m) (fits : MergeFits v) (p : ℕ) (missing : m.missing ≡ Some p) where
  lacking : LacksAt v.heads p
  lacking = subst (λ o. IsMissing v.heads o) (ap (λ (x : MergeView). x.missing) seen ∙ missing) fits.missing

  pub lacking-within : p < length v.heads
  lacking-within = slice_get_within v.heads p lacking.0 lacking.1

  -- a producer that lacks a row is not in the order
  pub out : Contains v.order p → ⊥
  out c =
      let r : HasRowAt v.heads p = subst (HasRowAt v.heads) c.2 (fits.order.there c.0 p c.1) in
      let s : r.0 ≡ lacking.0 = the-head v.heads p r.0 lacking.0 r.1 lacking.1 in
      let h : HasRow lacking.0 = subst HasRow s r.2 in
      let l = lacking.2.1 in
      omega (arith, h, l)

  seen-merged : (closed : ℕ → Bool) (came : Streams) (given : List Row) → HasMerged m closed came given → IsMergeOf v.merge v.heads closed came given
  seen-merged closed came given h = subst (λ x. HasMerged x closed came given) (sym seen) h

  module _ (x g : StreamHead) (read : x ≡ get_or v.heads p x) where
    there : slice_get v.heads p ≡ Some x
    there = read-there v.heads p x lacking-within read

    lacks-x : Lacks x
    lacks-x = subst Lacks (the-head v.heads p lacking.0 x lacking.1 there) lacking.2

    types-x : x.rows.types ≡ v.types
    types-x = fits.types p x there

    rises-x : sorted v.merge x.rows.rows ≡ true
    rises-x = let r = fits.rises p in rw there at r

    pub call-types : (ts : List ColType) → ts ≡ m.types → ts ≡ x.rows.types
    call-types ts e = e ∙ (sym (ap (λ (y : MergeView). y.types) seen) ∙ sym types-x)

    pub call-columns : g.rows.types ≡ x.rows.types → AreColumns (length g.rows.types) (order_columns v.merge)
    call-columns e = subst (λ ts. AreColumns (length ts) (order_columns v.merge)) (sym (e ∙ types-x)) fits.columns

    -- a producer ends
    pub call-end-fits : g.rows ≡ x.rows → g.at ≡ x.at → (o : Option ℕ) → IsMissing (set v.heads p g) o → MergeFits (record v { heads = set v.heads p g; missing = o })
    call-end-fits rows at o h =
        fits-changed v fits p g lacking-within (rw rows types-x) (rw rows rises-x) v.order (order-kept v.merge v.heads p g v.order out fits.order) (λ q ne c. c)
        (λ r. let l = lacks-x.1 in let s : x.at < length x.rows.rows = rw (sym rows, sym at) r in absurd (omega (arith, l, s))) o h

    pub call-ended : g.rows ≡ x.rows → g.at ≡ x.at → g.ended ≡ true → (closed more : ℕ → Bool) (came : Streams) (given : List Row) → ((j : ℕ) → closed j ≡ true → more j ≡ true) → more p ≡ true
        → HasMerged m closed came given → IsMergeOf v.merge (set v.heads p g) more came given
    call-ended rows at flag closed more came given keeps here h =
        end-merged v.merge v.heads closed came given (seen-merged closed came given h) p x there g more keeps here rows at flag

    -- rows came
    module _ (xs : List Row) (rows : g.rows.rows ≡ last_of x.rows.rows ++ xs) (at : g.at ≡ length (last_of x.rows.rows)) (types : g.rows.types ≡ x.rows.types) (flag : g.ended ≡ x.ended) where
      pub call-put-row : 0 < length xs → HasRowAt (set v.heads p g) p
      call-put-row some =
          let n : length g.rows.rows ≡ length (last_of x.rows.rows) + length xs = ap length rows ∙ length-append (last_of x.rows.rows) xs in
          (g, set-there v.heads p g lacking-within, omega (arith, n, at, some))

      pub call-put-order : IsOrder v.merge (set v.heads p g) v.order
      call-put-order = order-kept v.merge v.heads p g v.order out fits.order

      pub call-put-alike : AreAlike v.merge (set v.heads p g)
      call-put-alike = alike-of v.types v.merge (set v.heads p g) fits.columns (types-changed v.types v.heads p g lacking-within fits.types (types ∙ types-x))

      pub call-put-fits : sorted v.merge g.rows.rows ≡ true → (order : List ℕ) → IsOrder v.merge (set v.heads p g) order → ((q : ℕ) → Contains v.order q → Contains order q) → Contains order p → (o : Option ℕ) → IsMissing (set v.heads p g) o
          → MergeFits (record v { heads = set v.heads p g; order = order; missing = o })
      call-put-fits rise order is kept new o h = fits-changed v fits p g lacking-within (types ∙ types-x) rise order is (λ q ne c. kept q c) (λ r. new) o h

      pub call-put-rises : sorted v.merge g.rows.rows ≡ true → (closed : ℕ → Bool) (came : Streams) (given : List Row) → HasMerged m closed came given
          → IsMergeOf v.merge (set v.heads p g) closed (with_more came p xs) given
      call-put-rises f closed came given h = put-rises v.merge v.heads closed came given (seen-merged closed came given h) p x there g xs lacks-x rows at flag f

      pub call-put-falls : sorted v.merge g.rows.rows ≡ false → (closed : ℕ → Bool) (came : Streams) (given : List Row) → HasMerged m closed came given → sorted m.merge (came p ++ xs) ≡ false
      call-put-falls f closed came given h =
          subst (λ (y : MergeView). sorted y.merge (came p ++ xs) ≡ false) seen (put-falls v.merge v.heads closed came given (seen-merged closed came given h) p x there g xs lacks-x rows at flag f)

pub same-head : (hs : List StreamHead) (p : ℕ) (x y : StreamHead) → p < length hs → x ≡ get_or hs p x → y ≡ get_or hs p y → x ≡ y
same-head hs p x y l e f = the-head hs p x y (read-there hs p x l e) (read-there hs p y l f)

pub read-set : (hs : List StreamHead) (p : ℕ) (g y : StreamHead) → p < length hs → y ≡ get_or (set hs p g) p y → y ≡ g
read-set hs p g y l e = e ∙ get_or-set_same hs p g y l

pub remove-first : {X : Type 0} (xs : List X) → remove xs 0 ≡ drop 1 xs
remove-first [] = refl
remove-first (x ∷ xs) = refl

pub found-more : (old new more : List Row) → new ≡ old ++ more → 0 < length more → length old < length new
found-more old new more e l = let n : length new ≡ length old + length more = ap length e ∙ length-append old more in omega (arith, n, l)

module _ (v m : MergeView) (seen : v ≡ m) (fits : MergeFits v) (missing : m.missing ≡ None) (some : 0 < length v.order) (p : ℕ) (first : p ≡ get_or v.order 0 p) where
  full : (j : ℕ) → LacksAt v.heads j → ⊥
  full = subst (λ o. IsMissing v.heads o) (ap (λ (x : MergeView). x.missing) seen ∙ missing) fits.missing

  split : v.order ≡ p ∷ drop 1 v.order
  split = drop-cons v.order 0 p some ∙ ap (λ q. q ∷ drop 1 v.order) (sym first)

  order-p : IsOrder v.merge v.heads (p ∷ drop 1 v.order)
  order-p = subst (IsOrder v.merge v.heads) split fits.order

  all-p : AreAll v.heads (p ∷ drop 1 v.order)
  all-p = subst (AreAll v.heads) split fits.all

  rest-order : IsOrder v.merge v.heads (drop 1 v.order)
  rest-order = record {
    there = all-tail (HasRowAt v.heads) p (drop 1 v.order) order-p.there;
    rises = pairs-tail (Precedes v.merge v.heads) p (drop 1 v.order) order-p.rises;
  }

  pub first-row : HasRowAt v.heads p
  first-row = order-p.there 0 p (omega arith)

  pub first-within : p < length v.heads
  first-within = slice_get_within v.heads p first-row.0 first-row.1

  -- the first is not among the others
  pub first-out : Contains (drop 1 v.order) p → ⊥
  first-out = first-once v.merge v.heads p (drop 1 v.order) order-p

  pub first-is : get_or v.order 0 0 ≡ p
  first-is = get_or_default v.order 0 0 p some ∙ sym first

  module _ (x g : StreamHead) (read : x ≡ get_or v.heads p x) (to : ℕ) (run : IsRun v.merge v.heads (drop 1 v.order) (get_or v.order 0 0) to) (rows : g.rows ≡ x.rows) (at : g.at ≡ to) (flag : g.ended ≡ x.ended) where
    first-there : slice_get v.heads p ≡ Some x
    first-there = read-there v.heads p x first-within read

    run-p : IsRun v.merge v.heads (drop 1 v.order) p to
    run-p = subst (λ q. IsRun v.merge v.heads (drop 1 v.order) q to) first-is run

    types-g : g.rows.types ≡ v.types
    types-g = rw rows (fits.types p x first-there)

    rises-g : sorted v.merge g.rows.rows ≡ true
    rises-g = let r = fits.rises p in rw rows (rw first-there at r)

    pub call-run-types : x.rows.types ≡ m.types
    call-run-types = fits.types p x first-there ∙ ap (λ (y : MergeView). y.types) seen

    pub call-run-from : x.at ≤ to
    call-run-from = let a = run-p.more in let b : x.at < to = rw first-there at a in omega (arith, b)

    pub call-run-within : to ≤ length x.rows.rows
    call-run-within = let a = run-p.within in rw first-there at a

    pub call-run-more : 0 < length (slice_range x.rows.rows x.at to)
    call-run-more =
        let a = run-p.more in
        let b : x.at < to = rw first-there at a in
        let k = length-drop x.at x.rows.rows in
        let w = call-run-within in
        let n : length (slice_range x.rows.rows x.at to) ≡ to - x.at = length-take-le (to - x.at) (drop x.at x.rows.rows) (omega (arith, k, w)) in
        omega (arith, b, n)

    pub call-run-alike : AreAlike v.merge (set v.heads p g)
    call-run-alike = alike-of v.types v.merge (set v.heads p g) fits.columns (types-changed v.types v.heads p g first-within fits.types types-g)

    pub call-run-order : IsOrder v.merge (set v.heads p g) (drop 1 v.order)
    call-run-order = order-kept v.merge v.heads p g (drop 1 v.order) first-out rest-order

    pub call-run-row : HasRow g → HasRowAt (set v.heads p g) p
    call-run-row r = (g, set-there v.heads p g first-within, r)

    others : (q : ℕ) → q ≢ p → Contains v.order q → Contains (drop 1 v.order) q
    others q ne c = go (has-either p (drop 1 v.order) q (subst (λ (ks : List ℕ). Contains ks q) split c))
      where
        go : (p ≡ q) ⊎ Contains (drop 1 v.order) q → Contains (drop 1 v.order) q
        go (inl e) = absurd (ne (sym e))
        go (inr e) = e

    none-lacks : (Lacks g → ⊥) → (j : ℕ) → LacksAt (set v.heads p g) j → ⊥
    none-lacks no_g j l = elim (eqb_tells j p) [
      | inl i ↦
          let there : slice_get (set v.heads p g) j ≡ Some g = subst (λ k. slice_get (set v.heads p g) k ≡ Some g) (sym i.1) (set-there v.heads p g first-within) in
          no_g (subst Lacks (the-head (set v.heads p g) j l.0 g l.1 there) l.2)
      | inr i ↦ full j (l.0, sym (set-other v.heads p j g i.1) ∙ l.1, l.2)
    ]

    -- it has a row, and is in its place again
    pub call-run-fits : HasRow g → (order : List ℕ) → IsOrder v.merge (set v.heads p g) order → ((q : ℕ) → Contains (drop 1 v.order) q → Contains order q) → Contains order p → (o : Option ℕ) → o ≡ v.missing
        → MergeFits (record v { heads = set v.heads p g; order = order; missing = o })
    call-run-fits r order is kept new o e =
        fits-changed v fits p g first-within types-g rises-g order is (λ q ne c. kept q (others q ne c)) (λ h. new) o
        (subst (λ o. IsMissing (set v.heads p g) o) (sym (e ∙ (ap (λ (y : MergeView). y.missing) seen ∙ missing))) (none-lacks (λ l. let b = l.1 in omega (arith, r, b))))

    -- it has none, and has ended
    pub call-run-ended : (HasRow g → ⊥) → g.ended ≡ true → (o : Option ℕ) → o ≡ v.missing → MergeFits (record v { heads = set v.heads p g; order = drop 1 v.order; missing = o })
    call-run-ended none t o e =
        fits-changed v fits p g first-within types-g rises-g (drop 1 v.order) call-run-order others (λ h. absurd (none h)) o
        (subst (λ o. IsMissing (set v.heads p g) o) (sym (e ∙ (ap (λ (y : MergeView). y.missing) seen ∙ missing))) (none-lacks (λ l. true≢false (sym t ∙ l.0))))

    -- it lacks one
    pub call-run-lacks : (HasRow g → ⊥) → g.ended ≡ false → MergeFits (record v { heads = set v.heads p g; order = drop 1 v.order; missing = Some p })
    call-run-lacks none t =
        fits-changed v fits p g first-within types-g rises-g (drop 1 v.order) call-run-order others (λ h. absurd (none h)) (Some p)
        (g, set-there v.heads p g first-within, (t, by-order g.at (length g.rows.rows) (λ l. absurd (none l)) (λ l. l)))

    pub call-run-merged : (closed : ℕ → Bool) (came : Streams) (given found more : List Row) → more ≡ found ++ slice_range x.rows.rows x.at to → HasMerged m closed came (given ++ found)
        → IsMergeOf v.merge (set v.heads p g) closed came (given ++ more)
    call-run-merged closed came given found more e h =
        subst (IsMergeOf v.merge (set v.heads p g) closed came) (append_assoc given found (slice_range x.rows.rows x.at to) ∙ ap (λ ys. given ++ ys) (sym e))
        (run-merged v.merge v.heads closed came (given ++ found) (subst (λ (y : MergeView). HasMerged y closed came (given ++ found)) (sym seen) h) p x first-there g (drop 1 v.order) to all-p full run-p rows at flag)

pub all-given : (v : MergeView) → MergeFits v → v.missing ≡ None → v.order ≡ [] → AllGiven v
all-given v fits e f = record { none = subst (AreAll v.heads) f fits.all; full = subst (IsMissing v.heads) e fits.missing }
