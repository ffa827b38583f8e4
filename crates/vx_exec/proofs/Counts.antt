-- How many morsels each relation of a database has, counted one relation after the other.
use Rattle.std.proofs.Common.{◌≡◌, ℕ, ◌+◌, ◌<◌, ◌≤◌, List, [], ◌∷◌, ◌++◌, length, get_or, refl, sym, ap, ◌∙◌, subst, arith, inl, inr}
use Rattle.std.specs.List.{All}
use Rattle.std.proofs.Math.ListN.{get_or-eq_default}
use Rattle.std.proofs.Math.Nat.{div-eq_of_lt}
use Rattle.std.proofs.lemmas.Bool.{cases_lt}
use Rattle.std.proofs.lemmas.List.{get_or_push, get_or_append_left, length_push}
use Rattle.std.proofs.lemmas.List.Elements.{All-push}
use Rattle.vx_rows_values.specs.Values.{Row}
use Rattle.vx_catalog.specs.Database.{Database, rows_at}
use Rattle.vx_worker.specs.Morsels.{morsel_count}

-- those of the relations below number n
pub record AreCounts (m : ℕ) (db : Database) (n : ℕ) (counts : List ℕ) : Type 0 where
  pub count : length counts ≡ n
  pub are : (r : ℕ) → r < n → get_or counts r 0 ≡ morsel_count m (length (rows_at db r))
  pub few : All (λ k. k ≤ 100000000) counts

-- and those of one relation more
pub counts-push : (m : ℕ) (db : Database) (n : ℕ) (counts new : List ℕ) (k : ℕ) → AreCounts m db n counts → new ≡ counts ++ k ∷ []
    → k ≡ morsel_count m (length (rows_at db n)) → k ≤ 100000000 → AreCounts m db (n + 1) new
counts-push m db n counts new k so_far e is few =
    let pushed : AreCounts m db (n + 1) (counts ++ k ∷ []) = record {
      count = length_push counts k ∙ ap (λ z. z + 1) so_far.count;
      are = λ r h. elim (cases_lt r n) [
        | inl l ↦ get_or_append_left counts (k ∷ []) 0 r (let c = so_far.count in omega (arith, c)) ∙ so_far.are r l
        | inr l ↦
            let e : n ≡ r = omega arith in
            get_or_push counts k 0 r (so_far.count ∙ e) ∙ is ∙ ap (λ z. morsel_count m (length (rows_at db z))) e
      ];
      few = All-push (λ k. k ≤ 100000000) counts k so_far.few few;
    } in
    subst (λ z. AreCounts m db (n + 1) z) (sym e) pushed

-- past the last relation there are no rows, so no morsels
pub none-past : (m : ℕ) (db : Database) (r : ℕ) → 1 ≤ m → length db.rows ≤ r → morsel_count m (length (rows_at db r)) ≡ 0
none-past m db r some past =
    let none : morsel_count m 0 ≡ 0 = div-eq_of_lt (omega arith) in
    ap (λ (z : List Row). morsel_count m (length z)) (get_or-eq_default db.rows [] past) ∙ none

pub counts-all : (m : ℕ) (db : Database) (n : ℕ) (counts : List ℕ) → 1 ≤ m → length db.rows ≡ n → AreCounts m db n counts
    → (r : ℕ) → get_or counts r 0 ≡ morsel_count m (length (rows_at db r))
counts-all m db n counts some many all r = elim (cases_lt r n) [
  | inl l ↦ all.are r l
  | inr l ↦ let c = all.count in get_or-eq_default counts 0 (omega (arith, c)) ∙ sym (none-past m db r some (omega (arith, many)))
]

-- before the first relation
pub counts-none : (m : ℕ) (db : Database) (counts : List ℕ) → counts ≡ [] → AreCounts m db 0 counts
counts-none m db counts e =
    let none : AreCounts m db 0 [] = record { count = refl; are = λ r h. absurd (omega (arith, h)); few = λ k d l. absurd (omega (arith, l)) } in
    subst (λ z. AreCounts m db 0 z) (sym e) none

-- with morsels of one row there are as many as rows
pub each-one : (n : ℕ) → morsel_count 1 n ≡ n
each-one n = omega arith
