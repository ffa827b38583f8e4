-- The values of operands as columns, and columns beside others.
use Rattle.std.proofs.Common.{◌≡◌, ℕ, ℤ, zero, suc, ◌<◌, List, [], ◌∷◌, ◌++◌, length, map, zip, get_or, pos, refl, sym, ap, ◌∙◌, arith}
use Rattle.std.proofs.lemmas.List.{length-map, get_or-map}
use Rattle.vx_rows_values.specs.declared.value.ColType.{ColType}
use Rattle.vx_rows_values.specs.declared.value.ColType.TheVariants.{Text}
use Rattle.vx_rows_values.specs.Types.{Fits}
use Rattle.vx_rows_values.specs.Values.{Val, num, Row, value_at, pick}
use Rattle.vx_rows.specs.View.{RowsView, row}
use Rattle.vx_rows.proofs.Below.{all_at}
use Rattle.vx_rows_views.proofs.Fitting.{fit-width}
use Rattle.vx_plan_nodes.specs.Expressions.{is_answered, answered}
use Rattle.vx_plan_nodes.specs.Plan.{Expression}
use Rattle.vx_ops_computing.specs.declared.operands.Operand.{Operand}
use Rattle.vx_ops_computing.specs.Answers.{IsAnswered, IsWidened}
use Rattle.vx_ops_computing.specs.Columns.{IsColumn}
use Rattle.vx_ops_computing.specs.Operands.{operand_at, IsColumnOf}

pub lying-column : (n : ℕ) (t : RowsView) (column : ℕ) → IsColumnOf n t column → IsColumn (λ k. value_at (row t k) column) n (map (pick (column ∷ [])) t.rows)
lying-column n t column h =
    let long = h.long in
    record { long = length-map t.rows (pick (column ∷ [])) ∙ h.long; each = λ k l. get_or-map (pick (column ∷ [])) t.rows k [] [] (omega (arith, long, l)) }

pub numbers-column : (n : ℕ) (v : List ℤ) → length v ≡ n → IsColumn (λ k. num (get_or v k (pos 0))) n (map (λ z. num z ∷ []) v)
numbers-column n v h =
    let f : ℤ → Row = λ z. num z ∷ [] in
    record { long = length-map v f ∙ h; each = λ k l. get_or-map f v k (pos 0) [] (omega (arith, h, l)) }

one-value : (r : Row) → length r ≡ 1 → r ≡ value_at r 0 ∷ []
one-value [] h = absurd (omega (arith, h))
one-value (v ∷ []) h = refl
one-value (v ∷ w ∷ vs) h = absurd (omega (arith, h))

pub texts-column : (n : ℕ) (t : RowsView) → t.types ≡ Text ∷ [] → IsColumnOf n t 0 → IsColumn (λ k. value_at (row t k) 0) n t.rows
texts-column n t kinds h =
    let long = h.long in
    record {
      long = h.long;
      each = λ k l. one-value (get_or t.rows k []) (fit-width t.types (get_or t.rows k []) (all_at (Fits t.types) t.rows h.fit k [] (omega (arith, long, l))) ∙ ap length kinds);
    }

zip-long : (xs ys : List Row) → length ys ≡ length xs → length (map (λ p. p.0 ++ p.1) (zip xs ys)) ≡ length xs
zip-long [] ys h = refl
zip-long (x ∷ xs) [] h = absurd (omega (arith, h))
zip-long (x ∷ xs) (y ∷ ys) h = ap suc (zip-long xs ys (omega (arith, h)))

zip-each : (xs ys : List Row) → length ys ≡ length xs → (k : ℕ) → k < length xs → get_or (map (λ p. p.0 ++ p.1) (zip xs ys)) k [] ≡ get_or xs k [] ++ get_or ys k []
zip-each [] ys h k l = absurd (omega arith)
zip-each (x ∷ xs) [] h k l = absurd (omega (arith, h))
zip-each (x ∷ xs) (y ∷ ys) h zero l = refl
zip-each (x ∷ xs) (y ∷ ys) h (suc k) l = zip-each xs ys (omega (arith, h)) k (omega arith)

pub beside-widened : (types : List ColType) (e : Expression) (xs : List Row) (o : Operand) (n : ℕ) (before rows after : List Row) → IsAnswered types e xs o → IsColumn (operand_at o) n rows → n ≡ length xs
    → length before ≡ length xs → after ≡ map (λ p. p.0 ++ p.1) (zip before rows) → IsWidened e xs before after
beside-widened types e xs o n before rows after h g many long is =
    let same : length rows ≡ length before = g.long ∙ (many ∙ sym long) in
    record {
      fits = λ k l. ap is_answered (h.values k l);
      long = ap length is ∙ zip-long before rows same;
      each = λ k l.
          ap (λ (zs : List Row). get_or zs k []) is
          ∙ (zip-each before rows same k (omega (arith, long, l))
          ∙ ap (λ (r : Row). get_or before k [] ++ r) (g.each k (omega (arith, many, l)) ∙ ap (λ (v : Val). v ∷ []) (sym (ap answered (h.values k l)))));
    }
