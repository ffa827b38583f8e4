-- A row's line: its numbers with a comma behind each, its texts, and a line feed.
use Rattle.std.proofs.Common.{◌≡◌, ℕ, ◌<◌, ◌≤◌, List, [], ◌∷◌, ◌++◌, map, flat_map, refl, sym, ap, ◌∙◌, append_assoc, arith}
use Rattle.std.proofs.lemmas.List.{append-nil}
use Rattle.std.specs.Prelude.{pos}
use Rattle.std.specs.List.{AllByRecursion}
use Rattle.std.specs.Fmt.{decimal}
use Rattle.csv.specs.Writing.{default_writer, fields_text, row_body, is_blank}
use Rattle.vx_rows_values.specs.Values.{num}
use Rattle.vx_catalog.specs.Csv.{field_text, line_text}
use Rattle.vx_wisconsin.specs.Wisconsin.{unique1, numbers, text_of, string4, row_of}
use Rattle.vx_rows_values.specs.Limits.{max_generated_rows}
use Rattle.vx_wisconsin.specs.Line.{number_text}
use Rattle.vx_wisconsin.proofs.Unique.{unique1-below}
use Rattle.vx_wisconsin.proofs.Plain.{Plain, number-plain, text-plain, string4-plain, plain-field}

abbrev pub number_fields : List ℕ → List (List ℕ)
number_fields ks = map (λ k. field_text (num (pos k))) ks

-- all fields but the first, as those of a record of their own
others : (ks : List ℕ) (s : List ℕ) (ss : List (List ℕ)) → fields_text default_writer (number_fields ks ++ s ∷ ss) ≡ 44 ∷ row_body default_writer (number_fields ks ++ s ∷ ss)
unfolding fields_text
others [] s ss = refl
others (k ∷ ks) s ss = refl

regroup : (d f b : List ℕ) → d ++ 44 ∷ (f ++ b) ≡ ((d ++ 44 ∷ []) ++ f) ++ b
regroup d f b = sym (append_assoc (d ++ 44 ∷ []) f b ∙ append_assoc d (44 ∷ []) (f ++ b))

numbers-first : (ks : List ℕ) (s : List ℕ) (ss : List (List ℕ)) → AllByRecursion (λ k. k < 18446744073709551616) ks
    → row_body default_writer (number_fields ks ++ s ∷ ss) ≡ flat_map number_text ks ++ row_body default_writer (s ∷ ss)
numbers-first [] s ss h = refl
numbers-first (k ∷ ks) s ss h =
    ap (λ (l : List ℕ). l ++ fields_text default_writer (number_fields ks ++ s ∷ ss)) (plain-field (decimal k) (number-plain k h.0))
    ∙ (ap (λ (l : List ℕ). decimal k ++ l) (others ks s ss)
    ∙ (ap (λ (l : List ℕ). decimal k ++ 44 ∷ l) (numbers-first ks s ss h.1)
    ∙ regroup (decimal k) (flat_map number_text ks) (row_body default_writer (s ∷ ss))))

-- the three texts and the end of the line
texts-last : (a b c : List ℕ) → Plain a → Plain b → Plain c → row_body default_writer (a ∷ b ∷ c ∷ []) ++ 10 ∷ [] ≡ a ++ 44 ∷ (b ++ 44 ∷ (c ++ 10 ∷ []))
unfolding fields_text
texts-last a b c p q r = rw (plain-field a p, plain-field b q, plain-field c r) (simp (append_assoc, append-nil))

bounded : (u i : ℕ) → u < 18446744073709551616 → i < 18446744073709551616 → AllByRecursion (λ k. k < 18446744073709551616) (numbers u i)
bounded u i h k =
    (h, (k, (omega arith, (omega arith, (omega arith, (omega arith, (omega arith, (omega arith, (omega arith, (omega arith, (h, (omega arith, (omega arith, tt)))))))))))))

row-text : (ks : List ℕ) (a b c : List ℕ) → AllByRecursion (λ k. k < 18446744073709551616) ks → Plain a → Plain b → Plain c
    → row_body default_writer (number_fields ks ++ a ∷ b ∷ c ∷ []) ++ 10 ∷ [] ≡ flat_map number_text ks ++ (a ++ 44 ∷ (b ++ 44 ∷ (c ++ 10 ∷ [])))
row-text ks a b c h p q r =
    ap (λ (l : List ℕ). l ++ 10 ∷ []) (numbers-first ks a (b ∷ c ∷ []) h)
    ∙ (append_assoc (flat_map number_text ks) (row_body default_writer (a ∷ b ∷ c ∷ [])) (10 ∷ [])
    ∙ ap (λ (l : List ℕ). flat_map number_text ks ++ l) (texts-last a b c p q r))

-- the line of row i of n, where u is its first column
abbrev pub line_of : ℕ → ℕ → List ℕ
line_of u i = flat_map number_text (numbers u i) ++ (text_of u ++ 44 ∷ (text_of i ++ 44 ∷ (string4 i ++ 10 ∷ [])))

pub line-is : (n i : ℕ) → unique1 n i < 18446744073709551616 → i < 18446744073709551616 → line_text (row_of n i) ≡ line_of (unique1 n i) i
unfolding is_blank row_of
line-is n i h k = row-text (numbers (unique1 n i) i) (text_of (unique1 n i)) (text_of i) (string4 i) (bounded (unique1 n i) i h k) (text-plain (unique1 n i)) (text-plain i) (string4-plain i)

line-before : (n i : ℕ) (rest : List ℕ) → unique1 n i < 18446744073709551616 → i < 18446744073709551616
    → line_text (row_of n i) ++ rest ≡ flat_map number_text (numbers (unique1 n i) i) ++ (text_of (unique1 n i) ++ 44 ∷ (text_of i ++ 44 ∷ (string4 i ++ 10 ∷ rest)))
line-before n i rest h k = ap (λ (l : List ℕ). l ++ rest) (line-is n i h k) ∙ again (flat_map number_text (numbers (unique1 n i) i)) (text_of (unique1 n i)) (text_of i) (string4 i)
  where
    again : (f a b c : List ℕ) → (f ++ (a ++ 44 ∷ (b ++ 44 ∷ (c ++ 10 ∷ [])))) ++ rest ≡ f ++ (a ++ 44 ∷ (b ++ 44 ∷ (c ++ 10 ∷ rest)))
    again f a b c = simp append_assoc

-- a line that was put part by part before the rest
pub line-put : (n i u : ℕ) (ks rest l1 l2 l3 l4 : List ℕ) → i < n → n ≤ max_generated_rows → u ≡ unique1 n i → ks ≡ numbers u i
    → l1 ≡ string4 i ++ 10 ∷ rest → l2 ≡ text_of i ++ 44 ∷ l1 → l3 ≡ text_of u ++ 44 ∷ l2 → l4 ≡ flat_map number_text ks ++ l3
    → l4 ≡ line_text (row_of n i) ++ rest
line-put n i u ks rest l1 l2 l3 l4 h k eu ek e1 e2 e3 e4 =
    let below = unique1-below n i h in
    let parts : (u : ℕ) (ks : List ℕ) → u ≡ unique1 n i → ks ≡ numbers u i → flat_map number_text ks ≡ flat_map number_text (numbers (unique1 n i) i) = λ u ks eu ek. ap (λ (l : List ℕ). flat_map number_text l) (ek ∙ ap (λ (v : ℕ). numbers v i) eu) in
    e4
    ∙ (ap (λ (l : List ℕ). l ++ l3) (parts u ks eu ek)
    ∙ (ap (λ (l : List ℕ). flat_map number_text (numbers (unique1 n i) i) ++ l) (e3 ∙ (ap (λ (v : ℕ). text_of v ++ 44 ∷ l2) eu ∙ (ap (λ (l : List ℕ). text_of (unique1 n i) ++ 44 ∷ l) (e2 ∙ ap (λ (l : List ℕ). text_of i ++ 44 ∷ l) e1))))
    ∙ sym (line-before n i rest (omega arith) (omega arith))))
