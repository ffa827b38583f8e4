-- What a byte does between two records and within one.
use Rattle.std.proofs.Common.{◌≡◌, ℕ, ◌==◌, List, ◌∷◌, Bool, true, false, refl, sym, ◌∙◌, ◌⊎◌, inl, inr}
use Rattle.std.specs.Prelude.{Some, if◌then◌else◌}
use Rattle.csv.specs.Machine.{step, in_field, is_end}
use Rattle.csv.specs.Reading.{default_config}
use Rattle.csv.specs.declared.parser.State.{State}
use Rattle.csv.specs.declared.parser.State.TheVariants as st
use Rattle.csv.specs.declared.parser.Action.{Action}
use Rattle.csv.specs.declared.parser.Action.TheVariants as act
use Rattle.volcano_locations.specs.declared.stage.RecordState.{RecordState}
use Rattle.volcano_locations.specs.declared.stage.RecordState.TheVariants as record_state
use Rattle.volcano_locations.specs.Lines.{ends_line, begins_on, line_after}
use Rattle.volcano_locations.specs.Stages.{state_of, is_between}

-- between two records the end of a line is skipped, and any other byte begins a record
abbrev BetweenTurn : ℕ → State × Action → Type 0
BetweenTurn c r = ((ends_line c ≡ true) × (r ≡ (st.StartRecord, act.Skip))) ⊎ ((ends_line c ≡ false) × (is_between r.0 ≡ false) × (is_end r.1 ≡ false))

start_turn : (c : ℕ) → BetweenTurn c (step default_config st.StartRecord c)
start_turn c = by_test (c == 34) (c == 44) (c == 13) (c == 10) refl refl refl refl
  where
    by_test : (q d x y : Bool) → (c == 34) ≡ q → (c == 44) ≡ d → (c == 13) ≡ x → (c == 10) ≡ y → BetweenTurn c (step default_config st.StartRecord c)
    by_test q d true y h i e f = rw e (inl (refl, refl))
    by_test q d false true h i e f = rw (e, f) (inl (refl, refl))
    by_test true d false false h i e f = rw (e, f, h) (inr (refl, refl, refl))
    by_test false true false false h i e f = rw (e, f, h, i) (inr (refl, refl, refl))
    by_test false false false false h i e f = rw (e, f, h, i) (inr (refl, refl, refl))

between_turn : (s : State) (c : ℕ) → is_between s ≡ true → BetweenTurn c (step default_config s c)
between_turn st.StartRecord c b = start_turn c
between_turn st.AfterCr c b = by_feed (c == 10) refl
  where
    by_feed : (y : Bool) → (c == 10) ≡ y → BetweenTurn c (step default_config st.AfterCr c)
    by_feed true f = by_return (c == 13) refl
      where
        by_return : (x : Bool) → (c == 13) ≡ x → BetweenTurn c (step default_config st.AfterCr c)
        by_return true e = rw (e, f) (inl (refl, refl))
        by_return false e = rw (e, f) (inl (refl, refl))
    by_feed false f =
        let same : step default_config st.AfterCr c ≡ step default_config st.StartRecord c = rw f refl in
        rw same (start_turn c)
between_turn st.StartField c b = cc
between_turn st.InField c b = cc
between_turn st.InQuoted c b = cc
between_turn st.AfterQuote c b = cc
between_turn st.InEscape c b = cc
between_turn st.InComment c b = cc

-- what does not end a record stays in it
abbrev InsideTurn : State × Action → Type 0
InsideTurn r = is_end r.1 ≡ false → is_between r.0 ≡ false

field_turn : (c : ℕ) → InsideTurn (in_field default_config c)
field_turn c = by_test (c == 44) (c == 13) (c == 10) refl refl refl
  where
    by_test : (d x y : Bool) → (c == 44) ≡ d → (c == 13) ≡ x → (c == 10) ≡ y → InsideTurn (in_field default_config c)
    by_test true x y h e f = rw h (λ z. refl)
    by_test false true y h e f = rw (h, e) (λ z. cc)
    by_test false false true h e f = rw (h, e, f) (λ z. cc)
    by_test false false false h e f = rw (h, e, f) (λ z. refl)

quote_turn : (c : ℕ) (s : State) → ((c == 34) ≡ true → InsideTurn (step default_config s c)) → ((c == 34) ≡ false → InsideTurn (step default_config s c)) → InsideTurn (step default_config s c)
quote_turn c s quoted other = by_test (c == 34) refl
  where
    by_test : (q : Bool) → (c == 34) ≡ q → InsideTurn (step default_config s c)
    by_test true h = quoted h
    by_test false h = other h

inside_turn : (g : RecordState) (c : ℕ) → is_between (state_of g) ≡ false → InsideTurn (step default_config (state_of g) c)
inside_turn record_state.StartRecord c b = cc
inside_turn record_state.AfterCr c b = cc
inside_turn record_state.StartField c b = quote_turn c st.StartField (λ h. rw h (λ z. refl)) (λ h. rw h (field_turn c))
inside_turn record_state.InField c b = field_turn c
inside_turn record_state.InQuoted c b = quote_turn c st.InQuoted (λ h. rw h (λ z. refl)) (λ h. rw h (λ z. refl))
inside_turn record_state.AfterQuote c b = quote_turn c st.AfterQuote (λ h. rw h (λ z. refl)) (λ h. rw h (field_turn c))

-- no record ends between two
pub not_ended : (s : State) (c : ℕ) → is_between s ≡ true → is_end (step default_config s c).1 ≡ true → ⊥
not_ended s c b e =
    elim (between_turn s c b) [
      | inl t ↦ let k = t.1 in cc
      | inr t ↦ let k = t.2 in cc
    ]

-- where the record at hand begins: behind the ends of lines that were skipped so far, or on a line that is known
abbrev pub BeginsBy : Bool → ℕ → ℕ → ℕ → List ℕ → List ℕ → Type 0
BeginsBy true first line begin xs ys = (begins_on first xs ≡ begins_on line ys) × (begin ≡ line)
BeginsBy false first line begin xs ys = begin ≡ begins_on first xs

begins_later : (line c : ℕ) (ys : List ℕ) → ends_line c ≡ true → begins_on line (c ∷ ys) ≡ begins_on (line_after line (Some c)) ys
unfolding begins_on
begins_later line c ys h = rw h refl

begins_here : (line c : ℕ) (ys : List ℕ) → ends_line c ≡ false → begins_on line (c ∷ ys) ≡ line
unfolding begins_on
begins_here line c ys h = rw h refl

pub begins_next : (g : RecordState) (c first line begin : ℕ) (xs ys : List ℕ) → BeginsBy (is_between (state_of g)) first line begin xs (c ∷ ys) → is_end (step default_config (state_of g) c).1 ≡ false
    → BeginsBy (is_between (step default_config (state_of g) c).0) first (line_after line (Some c)) (if is_between (step default_config (state_of g) c).0 then line_after line (Some c) else begin) xs ys
begins_next g c first line begin xs ys h e = by_between (is_between (state_of g)) refl
  where
    by_between : (b : Bool) → is_between (state_of g) ≡ b
        → BeginsBy (is_between (step default_config (state_of g) c).0) first (line_after line (Some c)) (if is_between (step default_config (state_of g) c).0 then line_after line (Some c) else begin) xs ys
    by_between true b =
        let k = rw b at h in
        elim (between_turn (state_of g) c b) [
          | inl t ↦ rw t.1 (k.0 ∙ begins_later line c ys t.0, refl)
          | inr t ↦ rw t.1 (k.1 ∙ (sym (begins_here line c ys t.0) ∙ sym k.0))
        ]
    by_between false b =
        let k = rw b at h in
        rw (inside_turn g c b e) k
