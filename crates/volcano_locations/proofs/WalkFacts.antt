-- A record as it is read byte by byte, where the bytes are known.
use Rattle.std.proofs.Common.{◌≡◌, ℕ, ◌+◌, List, [], ◌∷◌, ◌++◌, append_assoc, Option, Some, None, Bool, true, false, cond, refl, sym, subst, ◌∙◌, arith}
use Rattle.std.specs.Prelude.{count_by, if◌then◌else◌}
use Rattle.std.proofs.lemmas.List.Sums.{sum_by-append}
use Rattle.csv.specs.Machine.{next_record, step, is_end, ends_at_end, fields_after, field_after}
use Rattle.csv.specs.Reading.{default_config}
use Rattle.csv.specs.declared.parser.State.{State}
use Rattle.csv.specs.declared.parser.State.TheVariants as st
use Rattle.csv.specs.declared.parser.Action.{Action}
use Rattle.volcano_locations.specs.declared.stage.RecordState.{RecordState}
use Rattle.volcano_locations.specs.Lines.{is_feed, begins_on, line_after, Gives, Passes}
use Rattle.volcano_locations.specs.Records.{ReadsOne}
use Rattle.volcano_locations.specs.declared.stage.Turn.{Turn}
use Rattle.volcano_locations.specs.Stages.{state_of, action_of, turn_of, is_between}
use Rattle.volcano_locations.proofs.TurnFacts.{BeginsBy, begins_next, not_ended}

-- P holds of the bytes that were known before and of those that are left now
abbrev pub IfBoth : Option (List ℕ) → Option (List ℕ) → (List ℕ → List ℕ → Type 0) → Type 0
IfBoth None new P = Unit {0}
IfBoth (Some xs) None P = ⊥
IfBoth (Some xs) (Some ys) P = P xs ys

-- the record that begins with xs is at hand with these fields, and goes on with ys
pub record Walked (start now : State) (fields : List (List ℕ)) (field : List ℕ) (first line begin : ℕ) (xs ys : List ℕ) : Type 0 where
  pub same : next_record default_config start [] [] xs ≡ next_record default_config now fields field ys
  pub begins : BeginsBy (is_between now) first line begin xs ys
  pub front : List ℕ
  pub cut : xs ≡ front ++ ys
  pub lines : line ≡ first + count_by is_feed front

pub counted : (line c n : ℕ) → line_after line (Some c) + n ≡ line + (cond (is_feed c) 1 0 + n)
counted line c n = by_test (is_feed c) refl
  where
    by_test : (b : Bool) → is_feed c ≡ b → line_after line (Some c) + n ≡ line + (cond (is_feed c) 1 0 + n)
    by_test true h = rw h (omega arith)
    by_test false h = rw h (omega arith)

line_more : (line first c : ℕ) (front : List ℕ) → line ≡ first + count_by is_feed front → line_after line (Some c) ≡ first + count_by is_feed (front ++ c ∷ [])
line_more line first c front h =
    let more = sum_by-append (λ x. cond (is_feed x) 1 0) front (c ∷ []) in
    let one = counted line c 0 in
    rw more (omega (arith, h, one))

next_goes : (s : State) (fields : List (List ℕ)) (field : List ℕ) (c : ℕ) (ys : List ℕ) → is_end (step default_config s c).1 ≡ false
    → next_record default_config s fields field (c ∷ ys) ≡ next_record default_config (step default_config s c).0 (fields_after (step default_config s c).1 fields field) (field_after (step default_config s c).1 c field) ys
unfolding next_record
next_goes s fields field c ys h = rw h refl

next_ends : (s : State) (fields : List (List ℕ)) (field : List ℕ) (c : ℕ) (ys : List ℕ) → is_end (step default_config s c).1 ≡ true
    → next_record default_config s fields field (c ∷ ys) ≡ Some (fields_after (step default_config s c).1 fields field, (step default_config s c).0, ys)
unfolding next_record
next_ends s fields field c ys h = rw h refl

-- one byte more
walked_byte : (start : State) (g : RecordState) (fields : List (List ℕ)) (field : List ℕ) (first line begin c : ℕ) (xs ys : List ℕ) → Walked start (state_of g) fields field first line begin xs (c ∷ ys)
    → is_end (step default_config (state_of g) c).1 ≡ false
    → Walked start (step default_config (state_of g) c).0 (fields_after (step default_config (state_of g) c).1 fields field) (field_after (step default_config (state_of g) c).1 c field) first (line_after line (Some c))
    (if is_between (step default_config (state_of g) c).0 then line_after line (Some c) else begin) xs ys
walked_byte start g fields field first line begin c xs ys w h = record {
  same = w.same ∙ next_goes (state_of g) fields field c ys h;
  begins = begins_next g c first line begin xs ys w.begins h;
  front = w.front ++ c ∷ [];
  cut = w.cut ∙ sym (append_assoc w.front (c ∷ []) ys);
  lines = line_more line first c w.front w.lines;
}

walked_on : (start : State) (g : RecordState) (fields : List (List ℕ)) (field : List ℕ) (first line begin c : ℕ) (all old new : Option (List ℕ))
    → IfBoth all old (Walked start (state_of g) fields field first line begin) → Gives old new (Some c) → is_end (step default_config (state_of g) c).1 ≡ false
    → IfBoth all new (Walked start (step default_config (state_of g) c).0 (fields_after (step default_config (state_of g) c).1 fields field) (field_after (step default_config (state_of g) c).1 c field) first
    (line_after line (Some c)) (if is_between (step default_config (state_of g) c).0 then line_after line (Some c) else begin))
walked_on start g fields field first line begin c None old new w k h = tt
walked_on start g fields field first line begin c (Some xs) None new w k h = absurd w
walked_on start g fields field first line begin c (Some xs) (Some zs) None w k h = absurd k
walked_on start g fields field first line begin c (Some xs) (Some zs) (Some ys) w k h = walked_byte start g fields field first line begin c xs ys (rw k at w) h

begin_is : (s : State) (first line begin : ℕ) (xs ys : List ℕ) → is_between s ≡ false → BeginsBy (is_between s) first line begin xs ys → begin ≡ begins_on first xs
begin_is s first line begin xs ys b h = rw b at h

by_bool : {X : Type 0} (b : Bool) → (b ≡ true → X) → (b ≡ false → X) → X
by_bool true f g = f refl
by_bool false f g = g refl

-- what is known once a byte ended the record
pub record Done (start : State) (fields : List (List ℕ)) (next : State) (first line begin : ℕ) (xs ys : List ℕ) : Type 0 where
  pub read : next_record default_config start [] [] xs ≡ Some (fields, next, ys)
  pub begins : begin ≡ begins_on first xs
  pub passes : Passes (Some xs) (Some ys) first line

done_byte : (start : State) (g : RecordState) (fields : List (List ℕ)) (field : List ℕ) (first line begin c : ℕ) (xs ys : List ℕ) → Walked start (state_of g) fields field first line begin xs (c ∷ ys)
    → is_end (step default_config (state_of g) c).1 ≡ true
    → Done start (fields_after (step default_config (state_of g) c).1 fields field) (step default_config (state_of g) c).0 first (line_after line (Some c)) begin xs ys
done_byte start g fields field first line begin c xs ys w h = record {
  read = w.same ∙ next_ends (state_of g) fields field c ys h;
  begins = by_bool (is_between (state_of g)) (λ b. absurd (not_ended (state_of g) c b h)) (λ b. begin_is (state_of g) first line begin xs (c ∷ ys) b w.begins);
  passes = (w.front ++ c ∷ [], w.cut ∙ sym (append_assoc w.front (c ∷ []) ys), line_more line first c w.front w.lines);
}

done_on : (start : State) (g : RecordState) (fields : List (List ℕ)) (field : List ℕ) (first line begin c : ℕ) (all old new : Option (List ℕ))
    → IfBoth all old (Walked start (state_of g) fields field first line begin) → Gives old new (Some c) → is_end (step default_config (state_of g) c).1 ≡ true
    → IfBoth all new (Done start (fields_after (step default_config (state_of g) c).1 fields field) (step default_config (state_of g) c).0 first (line_after line (Some c)) begin)
done_on start g fields field first line begin c None old new w k h = tt
done_on start g fields field first line begin c (Some xs) None new w k h = absurd w
done_on start g fields field first line begin c (Some xs) (Some zs) None w k h = absurd k
done_on start g fields field first line begin c (Some xs) (Some zs) (Some ys) w k h = done_byte start g fields field first line begin c xs ys (rw k at w) h

-- the same, where a turn says what the byte does
pub walked_turn : (all old new : Option (List ℕ)) (start : State) (g : RecordState) (fields : List (List ℕ)) (field : List ℕ) (first line begin c : ℕ) (turn : Turn)
    (later : List (List ℕ)) (open_field : List ℕ) (next found : ℕ)
    → turn_of turn ≡ step default_config (state_of g) c → IfBoth all old (Walked start (state_of g) fields field first line begin) → Gives old new (Some c) → is_end (action_of turn.action) ≡ false
    → later ≡ fields_after (action_of turn.action) fields field → open_field ≡ field_after (action_of turn.action) c field → next ≡ line_after line (Some c)
    → found ≡ (if is_between (state_of turn.stage) then next else begin) → IfBoth all new (Walked start (state_of turn.stage) later open_field first next found)
walked_turn all old new start g fields field first line begin c turn later open_field next found is w k h e f l b =
    let go : is_end (step default_config (state_of g) c).1 ≡ false = rw (sym is) h in
    let F : State × Action → Type 0 = λ r.
    IfBoth all new (Walked start r.0 (fields_after r.1 fields field) (field_after r.1 c field) first (line_after line (Some c)) (if is_between r.0 then line_after line (Some c) else begin)) in
    let on : F (turn_of turn) = subst F (sym is) (walked_on start g fields field first line begin c all old new w k go) in
    rw (b, e, f, l) on

pub done_turn : (all old new : Option (List ℕ)) (start : State) (g : RecordState) (fields : List (List ℕ)) (field : List ℕ) (first line begin c : ℕ) (turn : Turn) (later : List (List ℕ)) (next : ℕ)
    → turn_of turn ≡ step default_config (state_of g) c → IfBoth all old (Walked start (state_of g) fields field first line begin) → Gives old new (Some c) → is_end (action_of turn.action) ≡ true
    → later ≡ fields_after (action_of turn.action) fields field → next ≡ line_after line (Some c) → IfBoth all new (Done start later (state_of turn.stage) first next begin)
done_turn all old new start g fields field first line begin c turn later next is w k h e l =
    let go : is_end (step default_config (state_of g) c).1 ≡ true = rw (sym is) h in
    let F : State × Action → Type 0 = λ r. IfBoth all new (Done start (fields_after r.1 fields field) r.0 first (line_after line (Some c)) begin) in
    let on : F (turn_of turn) = subst F (sym is) (done_on start g fields field first line begin c all old new w k go) in
    rw (e, l) on

ended_next : (s : State) (fields : List (List ℕ)) (field : List ℕ) → ends_at_end s ≡ true → next_record default_config s fields field [] ≡ Some (fields ++ field ∷ [], st.StartRecord, [])
unfolding next_record
ended_next s fields field h = rw h refl

none_next : (s : State) (fields : List (List ℕ)) (field : List ℕ) → ends_at_end s ≡ false → next_record default_config s fields field [] ≡ None
unfolding next_record
none_next s fields field h = rw h refl

-- the end of the text ends a record
pub done_end : (all old new : Option (List ℕ)) (start s : State) (fields : List (List ℕ)) (field : List ℕ) (first line begin next : ℕ) (later : List (List ℕ))
    → IfBoth all old (Walked start s fields field first line begin) → Gives old new None → ends_at_end s ≡ true → is_between s ≡ false → later ≡ fields ++ field ∷ [] → next ≡ line
    → IfBoth all new (Done start later st.StartRecord first next begin)
done_end None old new start s fields field first line begin next later w k h b e l = tt
done_end (Some xs) None new start s fields field first line begin next later w k h b e l = absurd w
done_end (Some xs) (Some zs) None start s fields field first line begin next later w k h b e l = absurd k.1
done_end (Some xs) (Some zs) (Some ys) start s fields field first line begin next later w k h b e l =
    let none : ys ≡ [] = k.0 in
    let last : zs ≡ [] = sym k.1 ∙ none in
    let v = rw last at w in
    rw (e, l, none) (record { read = v.same ∙ ended_next s fields field h; begins = begin_is s first line begin xs [] b v.begins; passes = (v.front, v.cut, v.lines) })

-- the end of the text, where there is no record
pub none_end : (all old new : Option (List ℕ)) (start s : State) (fields all_fields : List (List ℕ)) (field : List ℕ) (first line begin : ℕ)
    → IfBoth all old (Walked start s fields field first line begin) → Gives old new None → ends_at_end s ≡ false → ReadsOne all new start all_fields None
none_end None old new start s fields all_fields field first line begin w k h = tt
none_end (Some xs) None new start s fields all_fields field first line begin w k h = absurd w
none_end (Some xs) (Some zs) None start s fields all_fields field first line begin w k h = absurd k.1
none_end (Some xs) (Some zs) (Some ys) start s fields all_fields field first line begin w k h =
    let last : zs ≡ [] = sym k.1 ∙ k.0 in
    let v = rw last at w in
    v.same ∙ none_next s fields field h

-- what was read of a record that is done
pub done_reads : (all new : Option (List ℕ)) (start : State) (fields : List (List ℕ)) (g : RecordState) (first next begin : ℕ) → IfBoth all new (Done start fields (state_of g) first next begin) → ReadsOne all new start fields (Some g)
done_reads None new start fields g first next begin d = tt
done_reads (Some xs) None start fields g first next begin d = absurd d
done_reads (Some xs) (Some ys) start fields g first next begin d = d.read

pub done_passes : (all new : Option (List ℕ)) (start s : State) (fields : List (List ℕ)) (first next begin : ℕ) → IfBoth all new (Done start fields s first next begin) → Passes all new first next
done_passes None new start s fields first next begin d = tt
done_passes (Some xs) None start s fields first next begin d = absurd d
done_passes (Some xs) (Some ys) start s fields first next begin d = d.passes
