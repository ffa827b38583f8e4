-- The records of a text one after another, with the line of the next byte.
use Rattle.std.proofs.Common.{◌≡◌, ◌==◌, ◌||◌, ℕ, zero, suc, ◌+◌, List, [], ◌∷◌, ◌++◌, append_assoc, add-one, Option, Some, None, Bool, true, false, cond, refl, sym, ap, ◌∙◌, arith, drop}
use Rattle.std.specs.Prelude.{count_by, if◌then◌else◌, IfSome, option_map}
use Rattle.std.specs.Io.KnownBytes.{Keeps}
use Rattle.std.proofs.lemmas.List.Sums.{sum_by-append}
use Rattle.csv.specs.Machine.{next_record, step}
use Rattle.csv.specs.Reading.{default_config, strip_bom, records}
use Rattle.csv.specs.declared.parser.State.{State}
use Rattle.csv.specs.declared.parser.State.TheVariants as st
use Rattle.csv.specs.declared.parser.Action.TheVariants as act
use Rattle.vx_catalog_split.proofs.TurnFacts.{left_from, one_more, same_next}
use Rattle.volcano_locations.specs.declared.stage.RecordState.{RecordState}
use Rattle.volcano_locations.specs.Lines.{is_feed, ends_line, begins_on, line_after, Passes}
use Rattle.volcano_locations.specs.Records.{ReadsOne, StartsRecord, IsRecordAt}
use Rattle.volcano_locations.specs.Stages.{state_of, is_between}
use Rattle.volcano_locations.proofs.WalkFacts.{IfBoth, counted}

-- the text is a front and ys, and its records go on there with the one that has this number
pub record StandsAt (number : ℕ) (state : State) (line : ℕ) (text ys : List ℕ) : Type 0 where
  pub front : List ℕ
  pub cut : text ≡ front ++ ys
  pub lines : line ≡ count_by is_feed front + 1
  pub from : left_from default_config state ys ≡ drop number (records default_config text)

pub stands_first : (all known : Option (List ℕ)) (line : ℕ) → Keeps all known → line ≡ 1 → IfBoth all known (StandsAt 0 st.StartRecord line)
stands_first None known line k e = tt
stands_first (Some xs) None line k e = absurd k
stands_first (Some xs) (Some ys) line k e = rw (e, k) (record { front = []; cut = refl; lines = refl; from = refl })

drop_tail : {X : Type 0} (n : ℕ) (xs : List X) (x : X) (more : List X) → drop n xs ≡ x ∷ more → drop (suc n) xs ≡ more
drop_tail zero xs x more h = rw h refl
drop_tail (suc n) [] x more h = cc
drop_tail (suc n) (y ∷ ys) x more h = drop_tail n ys x more h

count_both : (xs ys : List ℕ) → count_by is_feed (xs ++ ys) ≡ count_by is_feed xs + count_by is_feed ys
count_both xs ys = sum_by-append (λ x. cond (is_feed x) 1 0) xs ys

pub stands_next : (all old new : Option (List ℕ)) (number line next : ℕ) (state : State) (g : RecordState) (fields : List (List ℕ)) → IfBoth all old (StandsAt number state line) → ReadsOne old new state fields (Some g)
    → Passes old new line next → IfBoth all new (StandsAt (number + 1) (state_of g) next)
stands_next None old new number line next state g fields s r p = tt
stands_next (Some text) None new number line next state g fields s r p = absurd s
stands_next (Some text) (Some zs) None number line next state g fields s r p = absurd r
stands_next (Some text) (Some zs) (Some ys) number line next state g fields s r p =
    let more = one_more default_config state zs (fields, state_of g, ys) r in
    let both = count_both s.front p.0 in
    let before = s.lines in
    let passed = p.2 in
    record {
      front = s.front ++ p.0;
      cut = s.cut ∙ (ap (λ (l : List ℕ). s.front ++ l) p.1 ∙ sym (append_assoc s.front p.0 ys));
      lines = omega (arith, both, before, passed);
      from = rw (add-one number) (sym (drop_tail number (records default_config text) fields (left_from default_config (state_of g) ys) (sym s.from ∙ more)));
    }

-- the ends of lines at the front of a text, and what follows them
ends_of : List ℕ → List ℕ
ends_of [] = []
ends_of (c ∷ rest) = if ends_line c then c ∷ ends_of rest else []

from_start : List ℕ → List ℕ
from_start [] = []
from_start (c ∷ rest) = if ends_line c then from_start rest else c ∷ rest

by_bool : {X : Type 0} (b : Bool) → (b ≡ true → X) → (b ≡ false → X) → X
by_bool true f g = f refl
by_bool false f g = g refl

split_ends : (xs : List ℕ) → xs ≡ ends_of xs ++ from_start xs
unfolding ends_of from_start
split_ends [] = refl
split_ends (c ∷ rest) = by_bool (ends_line c) (λ h. rw h (ap (λ l. c ∷ l) (split_ends rest))) (λ h. rw h refl)

starts_there : (xs : List ℕ) → StartsRecord (from_start xs)
unfolding from_start
starts_there [] = tt
starts_there (c ∷ rest) = by_bool (ends_line c) (λ h. rw h (starts_there rest)) (λ h. rw h h)

line_there : (line : ℕ) (xs : List ℕ) → begins_on line xs ≡ line + count_by is_feed (ends_of xs)
unfolding ends_of begins_on
line_there line [] = omega arith
line_there line (c ∷ rest) =
    let more = count_both (c ∷ []) (ends_of rest) in
    let one : count_by is_feed (c ∷ []) ≡ cond (is_feed c) 1 0 = omega arith in
    let later = line_there (line_after line (Some c)) rest in
    let next = counted line c (count_by is_feed (ends_of rest)) in
    let cons : count_by is_feed (c ∷ ends_of rest) ≡ cond (is_feed c) 1 0 + count_by is_feed (ends_of rest) = more ∙ ap (λ (n : ℕ). n + count_by is_feed (ends_of rest)) one in
    by_bool (ends_line c) (λ h. rw h (later ∙ (next ∙ ap (λ (n : ℕ). line + n) (sym cons)))) (λ h. rw h (omega arith))

or_left : (x y : Bool) → (x || y) ≡ true → y ≡ false → x ≡ true
or_left true y h e = refl
or_left false y h e = cc

skipped : (state : State) (c : ℕ) → is_between state ≡ true → ends_line c ≡ true → step default_config state c ≡ (st.StartRecord, act.Skip)
skipped st.StartRecord c b h = rw h refl
skipped st.AfterCr c b h = by_bool (c == 10) (λ f. rw f refl) (λ f. let k : (c == 13) ≡ true = or_left (c == 13) (c == 10) h f in rw (f, k) refl)
skipped st.StartField c b h = cc
skipped st.InField c b h = cc
skipped st.InQuoted c b h = cc
skipped st.AfterQuote c b h = cc
skipped st.InEscape c b h = cc
skipped st.InComment c b h = cc

as_at_start : (state : State) (c : ℕ) → is_between state ≡ true → ends_line c ≡ false → step default_config state c ≡ step default_config st.StartRecord c
as_at_start st.StartRecord c b h = refl
as_at_start st.AfterCr c b h = by_bool (c == 10) (λ f. let k : ends_line c ≡ true = or_true (c == 13) (c == 10) f in cc) (λ f. rw f refl)
  where
    or_true : (x y : Bool) → y ≡ true → (x || y) ≡ true
    or_true true y h = refl
    or_true false y h = h
as_at_start st.StartField c b h = cc
as_at_start st.InField c b h = cc
as_at_start st.InQuoted c b h = cc
as_at_start st.AfterQuote c b h = cc
as_at_start st.InEscape c b h = cc
as_at_start st.InComment c b h = cc

same_there : (state : State) (xs : List ℕ) → is_between state ≡ true → next_record default_config st.StartRecord [] [] (from_start xs) ≡ next_record default_config state [] [] xs
unfolding from_start next_record
same_there st.StartRecord [] b = refl
same_there st.AfterCr [] b = refl
same_there st.StartField [] b = cc
same_there st.InField [] b = cc
same_there st.InQuoted [] b = cc
same_there st.AfterQuote [] b = cc
same_there st.InEscape [] b = cc
same_there st.InComment [] b = cc
same_there state (c ∷ rest) b =
    by_bool (ends_line c)
    (λ h. rw (h, skipped state c b h) (same_there st.StartRecord rest refl))
    (λ h. rw (h, as_at_start state c b h) refl)

-- the record that is read next is the one with this number
pub found_there : (all old new : Option (List ℕ)) (number line begin : ℕ) (state : State) (g : RecordState) (fields : List (List ℕ)) → IfBoth all old (StandsAt number state line) → is_between state ≡ true
    → ReadsOne old new state fields (Some g) → IfSome old (λ xs. begin ≡ begins_on line xs) → IfSome all (λ text. IsRecordAt text number begin fields)
found_there None old new number line begin state g fields s b r l = tt
found_there (Some text) None new number line begin state g fields s b r l = absurd s
found_there (Some text) (Some zs) None number line begin state g fields s b r l = absurd r
found_there (Some text) (Some zs) (Some ys) number line begin state g fields s b r l =
    let same = same_next default_config st.StartRecord state (from_start zs) zs (same_there state zs b) in
    let both = count_both s.front (ends_of zs) in
    let before = s.lines in
    let there = line_there line zs in
    record {
      front = s.front ++ ends_of zs;
      rest = from_start zs;
      cut = s.cut ∙ (ap (λ (t : List ℕ). s.front ++ t) (split_ends zs) ∙ sym (append_assoc s.front (ends_of zs) (from_start zs)));
      counted = omega (arith, both, before, there, l);
      starts = starts_there zs;
      from = same ∙ s.from;
      first = (left_from default_config (state_of g) ys, same ∙ one_more default_config state zs (fields, state_of g, ys) r);
    }

pub of_text : (known : Option (List ℕ)) (number line : ℕ) (fields : List (List ℕ)) → IfSome (option_map strip_bom known) (λ text. IsRecordAt text number line fields) → IfSome known (λ bytes. IsRecordAt (strip_bom bytes) number line fields)
of_text None number line fields h = tt
of_text (Some bytes) number line fields h = h
