-- The types of the rows in a tree stay as its operators turn.
use Rattle.std.proofs.Common.{ℕ, ◌≡◌, List, ap, sym, ◌∙◌}
use Rattle.vx_rows_values.specs.declared.value.ColType.{ColType}
use Rattle.vx_ops.specs.Turn.{Shape}
use Rattle.vx_worker.specs.Wishes.{tree_types, TreeTyped}
use Rattle.vx_worker.specs.declared.tree.Tree.{Tree}

module _ {O : Type 0} (f : O → Shape) (o o' : O) (same : f o' ≡ f o) where
  pub typed_one : (a c : Tree O) → tree_types f c ≡ tree_types f a → ((m : ℕ → List ColType) → TreeTyped f m a → TreeTyped f m c)
      → (m : ℕ → List ColType) → ((f o).left ≡ tree_types f a) × TreeTyped f m a → ((f o').left ≡ tree_types f c) × TreeTyped f m c
  typed_one a c e below m h = (ap (λ (s : Shape). s.left) same ∙ h.0 ∙ sym e, below m h.1)

  pub typed_left : (a b c : Tree O) → tree_types f c ≡ tree_types f a → ((m : ℕ → List ColType) → TreeTyped f m a → TreeTyped f m c)
      → (m : ℕ → List ColType) → ((f o).left ≡ tree_types f a) × ((f o).right ≡ tree_types f b) × TreeTyped f m a × TreeTyped f m b
      → ((f o').left ≡ tree_types f c) × ((f o').right ≡ tree_types f b) × TreeTyped f m c × TreeTyped f m b
  typed_left a b c e below m h = (ap (λ (s : Shape). s.left) same ∙ h.0 ∙ sym e, ap (λ (s : Shape). s.right) same ∙ h.1, below m h.2, h.3)

  pub typed_right : (a b c : Tree O) → tree_types f c ≡ tree_types f b → ((m : ℕ → List ColType) → TreeTyped f m b → TreeTyped f m c)
      → (m : ℕ → List ColType) → ((f o).left ≡ tree_types f a) × ((f o).right ≡ tree_types f b) × TreeTyped f m a × TreeTyped f m b
      → ((f o').left ≡ tree_types f a) × ((f o').right ≡ tree_types f c) × TreeTyped f m a × TreeTyped f m c
  typed_right a b c e below m h = (ap (λ (s : Shape). s.left) same ∙ h.0, ap (λ (s : Shape). s.right) same ∙ h.1 ∙ sym e, h.2, below m h.3)
