-- Operands have a value for each row, and of their type.
use Rattle.std.proofs.Common.{◌≡◌, ℕ, ◌<◌, List, [], ◌∷◌, map, refl, ap, ap₂, ◌∙◌, arith}
use Rattle.std.specs.Prelude.{All}
use Rattle.std.proofs.lemmas.List.Elements.{All-head, All-tail}
use Rattle.vx_rows_values.specs.declared.value.ColType.{ColType}
use Rattle.vx_rows_values.specs.Types.{type_of, type_at, Fits}
use Rattle.vx_rows_values.specs.Values.{value_at}
use Rattle.vx_rows.specs.View.{RowsView, row}
use Rattle.vx_rows.proofs.Below.{all_at}
use Rattle.vx_rows_views.proofs.Fitting.{value-type}
use Rattle.vx_ops_computing.specs.declared.operands.Operand.{Operand}
use Rattle.vx_ops_computing.specs.declared.operands.Operand.TheVariants as operand
use Rattle.vx_ops_computing.specs.Operands.{operand_at, operand_type, IsThere, IsColumnOf, IsFor, values_at}

pub operand-there : (n k : ℕ) (o : Operand) → IsFor n o → k < n → IsThere k o
operand-there n k (operand.Same c) h l = tt
operand-there n k (operand.Lying chunk column) h l = let long = h.long in (omega (arith, long, l), h.near)
operand-there n k (operand.Numbers v) h l = omega (arith, h, l)
operand-there n k (operand.Texts t) h l = let long = h.1.long in (omega (arith, long, l), h.1.near)

pub all-there : (n k : ℕ) (os : List Operand) → All (IsFor n) os → k < n → All (IsThere k) os
all-there n k os h l i d near = operand-there n k _ (h i d near) l

column-type : (n k column : ℕ) (t : RowsView) → IsColumnOf n t column → k < n → type_of (value_at (row t k) column) ≡ type_at t.types column
column-type n k column t h l =
    let long = h.long in
    value-type t.types (row t k) column (all_at (Fits t.types) t.rows h.fit k [] (omega (arith, long, l))) h.near

pub operand-typed : (n k : ℕ) (o : Operand) → IsFor n o → k < n → type_of (operand_at o k) ≡ operand_type o
operand-typed n k (operand.Same c) h l = refl
operand-typed n k (operand.Lying chunk column) h l = column-type n k column chunk.now h l
operand-typed n k (operand.Numbers v) h l = refl
operand-typed n k (operand.Texts t) h l = column-type n k 0 t h.1 l ∙ ap (λ (ts : List ColType). type_at ts 0) h.0

pub values-typed : (n k : ℕ) (os : List Operand) → All (IsFor n) os → k < n → map type_of (values_at os k) ≡ map operand_type os
values-typed n k [] h l = refl
values-typed n k (o ∷ os) h l =
    ap₂ (λ (t : ColType) (ts : List ColType). t ∷ ts) (operand-typed n k o (All-head (IsFor n) o os h) l) (values-typed n k os (All-tail (IsFor n) o os h) l)
