-- A projection of the rows of a chunk: columns that are computed stand behind those of the chunk, and then some columns of all of these are taken.
use Rattle.std.proofs.Common.{◌≡◌, ℕ, zero, suc, ◌+◌, ◌<◌, true, List, [], ◌∷◌, ◌++◌, length, map, get_or, Some, pos, refl, sym, ap, ap₂, ◌∙◌, subst, arith, Result, Ok, Err}
use Rattle.std.specs.Prelude.{All, IfOk}
use Rattle.std.specs.List.{AllByRecursion}
use Rattle.std.proofs.lemmas.List.{map-append, length-append, get_or_append_left, get_or_push}
use Rattle.std.proofs.lemmas.List.Elements.{All-push, All-head, All-tail}
use Rattle.std.proofs.lemmas.List.Folds.{list_all-append}
use Rattle.vx_rows_values.proofs.Booleans.{and-both}
use Rattle.vx_rows_values.specs.declared.value.ColType.{ColType}
use Rattle.vx_rows_values.specs.declared.value.ColType.TheVariants.{Int}
use Rattle.vx_rows_values.specs.Types.{type_at, Fits}
use Rattle.vx_rows_values.specs.Values.{Val, num, Row, value_at, pick}
use Rattle.vx_rows.specs.View.{RowsView}
use Rattle.vx_rows.proofs.Below.{all_at}
use Rattle.vx_rows_views.proofs.Fitting.{fit-width}
use Rattle.vx_plan_nodes.specs.Expressions.{answer, answered}
use Rattle.vx_plan_nodes.specs.Plan.{Entry, copy_of, made_by, Expression, project}
use Rattle.vx_plan_nodes.specs.Serial.{entry_value, entries_row, entry_fits, entries_fit, unary_rows}
use Rattle.vx_plan_nodes.specs.Types.{entry_type, expression_type}
use Rattle.vx_ops_computing.specs.declared.fault.ComputeFault.{ComputeFault}
use Rattle.vx_ops_computing.specs.Answers.{IsWidened}
use Rattle.vx_ops_computing.specs.Projecting.{IsProjecting}
use Rattle.vx_ops_computing.proofs.Fits.{all-fit}
use Rattle.vx_ops_computing.proofs.Parts.{where-is}

-- elements of a list, also where it has one more
pub same-front : {X : Type 0} (xs : List X) (x d : X) (columns : List ℕ) → All (λ c. c < length xs) columns → map (λ c. get_or (xs ++ x ∷ []) c d) columns ≡ map (λ c. get_or xs c d) columns
same-front xs x d [] h = refl
same-front xs x d (c ∷ cs) h =
    ap₂ (λ y ys. y ∷ ys) (get_or_append_left xs (x ∷ []) d c (All-head (λ c. c < length xs) c cs h)) (same-front xs x d cs (All-tail (λ c. c < length xs) c cs h))

pub projecting-none : (chunk : RowsView) → AllByRecursion (Fits chunk.types) chunk.rows → IsProjecting chunk.types chunk.rows [] chunk []
projecting-none chunk fit = record {
  near = λ k d l. absurd (omega arith);
  kinds = refl;
  long = refl;
  wider = omega arith;
  width = λ k l. fit-width chunk.types (get_or chunk.rows k []) (all_at (Fits chunk.types) chunk.rows fit k [] l);
  front_types = λ c l. refl;
  front = λ k l c m. refl;
  values = λ k l. refl;
  fits = λ k l. refl;
}

fits-push : (es : List Entry) (e : Entry) (row : Row) → entries_fit es row ≡ true → entry_fits e row ≡ true → entries_fit (es ++ e ∷ []) row ≡ true
fits-push es e row h g =
    list_all-append (λ e. entry_fits e row) es (e ∷ []) ∙ and-both (entries_fit es row) (entries_fit (e ∷ []) row) h (and-both (entry_fits e row) true g refl)

module _ (types : List ColType) (xs : List Row) (es : List Entry) (wide : RowsView) (columns : List ℕ) (h : IsProjecting types xs es wide columns) where
  -- a column that is kept
  pub projecting-kept : (c : ℕ) → c < length types → IsProjecting types xs (es ++ copy_of c ∷ []) wide (columns ++ c ∷ [])
  projecting-kept c m = record {
    near = All-push (λ c. c < length wide.types) columns c h.near (let more = h.wider in omega (arith, more, m));
    kinds = map-append (type_at wide.types) columns (c ∷ [])
        ∙ (ap₂ (λ (a b : List ColType). a ++ b) h.kinds (ap (λ (t : ColType). t ∷ []) (h.front_types c m)) ∙ sym (map-append (entry_type types) es (copy_of c ∷ [])));
    long = h.long;
    wider = h.wider;
    width = h.width;
    front_types = h.front_types;
    front = h.front;
    values = λ k l.
        map-append (λ c. value_at (get_or wide.rows k []) c) columns (c ∷ [])
        ∙ (ap₂ (λ (a b : Row). a ++ b) (h.values k l) (ap (λ (v : Val). v ∷ []) (h.front k l c m)) ∙ sym (map-append (λ e. entry_value e (get_or xs k [])) es (copy_of c ∷ [])));
    fits = λ k l. fits-push es (copy_of c) (get_or xs k []) (h.fits k l) refl;
  }

  -- one that is computed
  pub projecting-made : (e : Expression) (after : RowsView) → after.types ≡ wide.types ++ expression_type types e ∷ [] → IsWidened e xs wide.rows after.rows
      → IsProjecting types xs (es ++ made_by e ∷ []) after (columns ++ length wide.types ∷ [])
  projecting-made e after kinds is =
      let t : ColType = expression_type types e in
      let many : length after.types ≡ length wide.types + 1 = let both = length-append wide.types (t ∷ []) in let all = ap length kinds in omega (arith, both, all) in
      let v : ℕ → Val = λ k. answered (answer e (get_or xs k [])) in
      let shorter : (k : ℕ) → k < length xs → All (λ c. c < length (get_or wide.rows k [])) columns = λ k l i d m. let w = h.width k l in let n = h.near i d m in omega (arith, w, n) in
      record {
        near = All-push (λ c. c < length after.types) columns (length wide.types) (λ i d m. let n = h.near i d m in omega (arith, n, many)) (omega (arith, many));
        kinds = map-append (type_at after.types) columns (length wide.types ∷ [])
            ∙ (ap₂ (λ (a b : List ColType). a ++ b)
            (ap (λ (ts : List ColType). map (type_at ts) columns) kinds ∙ (same-front wide.types t Int columns h.near ∙ h.kinds))
            (ap (λ (t : ColType). t ∷ []) (ap (λ (ts : List ColType). type_at ts (length wide.types)) kinds ∙ get_or_push wide.types t Int (length wide.types) refl))
            ∙ sym (map-append (entry_type types) es (made_by e ∷ [])));
        long = is.long ∙ h.long;
        wider = let more = h.wider in omega (arith, many, more);
        width = λ k l. let each = ap length (is.each k l) in let both = length-append (get_or wide.rows k []) (v k ∷ []) in let w = h.width k l in omega (arith, each, both, w, many);
        front_types = λ c m.
            ap (λ (ts : List ColType). type_at ts c) kinds
            ∙ (get_or_append_left wide.types (t ∷ []) Int c (let more = h.wider in omega (arith, more, m)) ∙ h.front_types c m);
        front = λ k l c m.
            ap (λ (r : Row). value_at r c) (is.each k l)
            ∙ (get_or_append_left (get_or wide.rows k []) (v k ∷ []) (num (pos 0)) c (let w = h.width k l in let more = h.wider in omega (arith, w, more, m)) ∙ h.front k l c m);
        values = λ k l.
            ap (pick (columns ++ length wide.types ∷ [])) (is.each k l)
            ∙ (map-append (λ c. value_at (get_or wide.rows k [] ++ v k ∷ []) c) columns (length wide.types ∷ [])
            ∙ (ap₂ (λ (a b : Row). a ++ b)
            (same-front (get_or wide.rows k []) (v k) (num (pos 0)) columns (shorter k l) ∙ h.values k l)
            (ap (λ (u : Val). u ∷ []) (get_or_push (get_or wide.rows k []) (v k) (num (pos 0)) (length wide.types) (h.width k l)))
            ∙ sym (map-append (λ e. entry_value e (get_or xs k [])) es (made_by e ∷ []))));
        fits = λ k l. fits-push es (made_by e) (get_or xs k []) (h.fits k l) (is.fits k l);
      }

map-each : (f g : Row → Row) (xs ys : List Row) → length xs ≡ length ys → ((k : ℕ) → k < length ys → f (get_or xs k []) ≡ g (get_or ys k [])) → map f xs ≡ map g ys
map-each f g [] [] n h = refl
map-each f g [] (y ∷ ys) n h = absurd (omega (arith, n))
map-each f g (x ∷ xs) [] n h = absurd (omega (arith, n))
map-each f g (x ∷ xs) (y ∷ ys) n h =
    ap₂ (λ (z : Row) (zs : List Row). z ∷ zs) (h zero (omega arith)) (map-each f g xs ys (omega (arith, n)) (λ k l. h (suc k) (omega arith)))

-- what is taken in the end is the projection
pub projecting-all : (types : List ColType) (xs : List Row) (es : List Entry) (wide : RowsView) (columns : List ℕ) → IsProjecting types xs es wide columns
    → unary_rows (project es) xs ≡ Some (map (pick columns) wide.rows)
projecting-all types xs es wide columns h =
    where-is (entries_fit es) xs (map (entries_row es) xs) (map (pick columns) wide.rows) (all-fit (entries_fit es) xs h.fits) (map-each (pick columns) (entries_row es) wide.rows xs h.long h.values)

-- a column that is computed, where memory suffices
pub made-entry : (types : List ColType) (xs : List Row) (wide : RowsView) (columns pushed : List ℕ) (e : Expression) (r : Result RowsView ComputeFault) → pushed ≡ columns ++ length wide.types ∷ []
    → IfOk r (λ c. c.types ≡ wide.types ++ expression_type types e ∷ []) → IfOk r (λ c. IsWidened e xs wide.rows c.rows)
    → IfOk r (λ c. (es : List Entry) → IsProjecting types xs es wide columns → IsProjecting types xs (es ++ made_by e ∷ []) c pushed)
made-entry types xs wide columns pushed e (Ok w) is kinds h = λ es p.
    let P : List ℕ → Type 0 = λ cs. IsProjecting types xs (es ++ made_by e ∷ []) w cs in
    subst P (sym is) (projecting-made types xs es wide columns p e w kinds h)
made-entry types xs wide columns pushed e (Err f) is kinds h = tt
