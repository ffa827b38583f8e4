-- A reader's next record, and those that it has left after it.
use Rattle.std.proofs.Common.{◌≡◌, ℕ, zero, suc, ◌+◌, ◌<◌, ◌≤◌, List, [], ◌∷◌, Option, Some, None, Bool, true, false, cond, refl, sym, ap, ◌∙◌, length, arith, add-one, ◌⊎◌, inl, inr}
use Rattle.std.specs.Prelude.{IfSome, option_map}
use Rattle.csv.specs.Machine.{Read, next_record, step, is_end, ends_at_end}
use Rattle.csv.specs.Reading.{Reached, ReadRecord, ReadsNext, source_of, pending_of, records_from, records_next, default_config, took_first, reader_config}
use Rattle.csv.specs.declared.parser.Config.{Config}
use Rattle.csv.specs.declared.parser.State.{State}
use Rattle.csv.specs.declared.parser.State.TheVariants as st
use Rattle.csv.specs.declared.reader.Reader.{Reader}
use Rattle.csv.proofs.ReadFacts.{rows-end, rows-more}
use Rattle.vx_catalog.specs.Counting.{StaysKnown}
use Rattle.vx_catalog.specs.Records.{IsPlain, records_left, rest_of, Begins, Takes}

chosen : {A : Type 0} (b : Bool) (x y z : A) → cond b x y ≡ z → ((b ≡ true) × (x ≡ z)) ⊎ ((b ≡ false) × (y ≡ z))
chosen true x y z h = inl (refl, h)
chosen false x y z h = inr (refl, h)

-- at the end of the text a record leaves nothing
at_end : (cfg : Config) (s : State) (f : List (List ℕ)) (p : List ℕ) (x : Read) → next_record cfg s f p [] ≡ Some x → (x.1 ≡ st.StartRecord) × (x.2 ≡ [])
unfolding next_record
at_end cfg s f p x h = elim (chosen (ends_at_end s) _ None (Some x) h) [
  | inl e ↦ (let g = e.1 in cc, let g = e.1 in cc)
  | inr e ↦ let bad = e.1 in cc
]

-- a record takes a byte of a text that has one
shorter : (cfg : Config) (xs : List ℕ) (s : State) (f : List (List ℕ)) (p : List ℕ) (c : ℕ) (x : Read) → next_record cfg s f p (c ∷ xs) ≡ Some x → length x.2 ≤ length xs
unfolding next_record
shorter cfg [] s f p c x h = elim (chosen (is_end (step cfg s c).1) _ _ (Some x) h) [
  | inl e ↦ let g = e.1 in let k : x.2 ≡ [] = cc in rw k (omega arith)
  | inr e ↦ rw ((at_end cfg _ _ _ x e.1).1) (omega arith)
]
shorter cfg (d ∷ ys) s f p c x h = elim (chosen (is_end (step cfg s c).1) _ _ (Some x) h) [
  | inl e ↦ let g = e.1 in let k : x.2 ≡ d ∷ ys = cc in rw k (omega arith)
  | inr e ↦ let i = shorter cfg ys _ _ _ d x e.1 in omega arith
]

no_records : (cfg : Config) (n : ℕ) → records_from cfg n st.StartRecord [] ≡ []
unfolding records_from next_record
no_records cfg zero = refl
no_records cfg (suc n) = refl

read_same : (f g : State → List ℕ → List (List (List ℕ))) (o : Option Read) → ((p : Read) → o ≡ Some p → f p.1 p.2 ≡ g p.1 p.2) → records_next f o ≡ records_next g o
read_same f g None h = refl
read_same f g (Some p) h = ap (λ l. p.0 ∷ l) (h p refl)

-- turns enough for all bytes are as good as more
enough : (cfg : Config) (m n : ℕ) (s : State) (ys : List ℕ) → length ys < m → length ys < n → records_from cfg m s ys ≡ records_from cfg n s ys
unfolding records_from
enough cfg zero n s ys h k = absurd (omega arith)
enough cfg (suc m) zero s ys h k = absurd (omega arith)
enough cfg (suc m) (suc n) s [] h k =
    read_same (records_from cfg m) (records_from cfg n) (next_record cfg s [] [] []) (λ p e.
    let end = at_end cfg s [] [] p e in
    rw (end.0, end.1, no_records cfg m, no_records cfg n) refl)
enough cfg (suc m) (suc n) s (c ∷ ys) h k =
    read_same (records_from cfg m) (records_from cfg n) (next_record cfg s [] [] (c ∷ ys)) (λ p e.
    let less = shorter cfg ys s [] [] c p e in
    enough cfg m n p.1 p.2 (omega arith) (omega arith))

after_one : (cfg : Config) (s : State) (ys : List ℕ) (p : Read) → next_record cfg s [] [] ys ≡ Some p → records_from cfg (length ys) p.1 p.2 ≡ records_from cfg (length p.2 + 1) p.1 p.2
unfolding records_from
after_one cfg s [] p e =
    let end = at_end cfg s [] [] p e in
    rw (end.0, end.1) (sym (no_records cfg 1))
after_one cfg s (c ∷ ys) p e =
    let less = shorter cfg ys s [] [] c p e in
    enough cfg (suc (length ys)) (length p.2 + 1) p.1 p.2 (omega arith) (omega arith)

-- the first record, and those after it
one_more : (cfg : Config) (s : State) (ys : List ℕ) (p : Read) → next_record cfg s [] [] ys ≡ Some p → records_from cfg (length ys + 1) s ys ≡ p.0 ∷ records_from cfg (length p.2 + 1) p.1 p.2
unfolding records_from
one_more cfg s ys p e = rw (add-one (length ys), e) (ap (λ l. p.0 ∷ l) (after_one cfg s ys p e))

none_more : (cfg : Config) (s : State) (ys : List ℕ) → next_record cfg s [] [] ys ≡ None → records_from cfg (length ys + 1) s ys ≡ []
unfolding records_from
none_more cfg s ys e = rw (add-one (length ys), e) refl

same_rest : (fields first : List (List ℕ)) (s s2 : State) (z z2 : List ℕ) (o : Option (List ℕ)) → fields ≡ first → s ≡ s2 → z ≡ z2 → o ≡ Some z2
    → Begins fields (Some (first ∷ records_left s z)) (option_map (records_left s2) o)
same_rest fields first s s2 z z2 o f e g h = rw (f, e, g, h) refl

pub still_known : (a b c : Option (List ℕ)) → StaysKnown a b → StaysKnown b c → StaysKnown a c
still_known None b c p q = tt
still_known (Some x) None c p q = cc
still_known (Some x) (Some y) c p q = q

-- once a read was made, what is unread is what is buffered, and what the source has left
pub known_after : {S : Type 0} (rem : S → Option (List ℕ)) (old new : Reader S) (found : Bool) (fields : List (List ℕ)) → ReadRecord rem old new found fields
    → StaysKnown (source_of rem old) (source_of rem new)
known_after rem old new found fields r = after (source_of rem old) (pending_of (rem new.rdr) new) (source_of rem new) (rw r.1 refl) r.0
  where
    after : (a b c : Option (List ℕ)) → c ≡ b → ReadsNext old.config old.state a b found fields new.state → StaysKnown a c
    after None b c e n = tt
    after (Some xs) None c e n = absurd n
    after (Some xs) (Some ys) c e n = rw e refl

took_one : {S : Type 0} (rem : S → Option (List ℕ)) (old new : Reader S) (fields : List (List ℕ)) (o : Option (List ℕ)) → reader_config old ≡ default_config → source_of rem old ≡ o
    → ReadRecord rem old new true fields → Begins fields (option_map (records_left old.state) o) (rest_of rem new)
unfolding Reached
took_one rem old new fields None config e r = tt
took_one rem old new fields (Some ys) config e r =
    let m = rows-more rem old new fields default_config old.state ys ys [] config e (refl, refl) r in
    let p = m.2.0 in
    rw (one_more default_config old.state ys p m.2.1) (same_rest fields p.0 p.1 new.state p.2 m.0 (source_of rem new) m.2.2 m.2.3.0 m.2.3.1 m.1)

took_none : {S : Type 0} (rem : S → Option (List ℕ)) (old new : Reader S) (fields : List (List ℕ)) (o : Option (List ℕ)) → reader_config old ≡ default_config → source_of rem old ≡ o
    → ReadRecord rem old new false fields → IfSome (option_map (records_left old.state) o) (λ records. records ≡ [])
took_none rem old new fields None config e r = tt
took_none rem old new fields (Some ys) config e r = none_more default_config old.state ys (rows-end rem old new fields default_config ys config e r)

pub took : {S : Type 0} (rem : S → Option (List ℕ)) (old new : Reader S) (found : Bool) (fields : List (List ℕ)) → IsPlain old → ReadRecord rem old new found fields → took_first new ≡ true
    → Takes rem found old new fields
took rem old new true fields plain r first = (
  record { trim = r.3 ∙ plain.trim; ready = inl first; config = r.2 ∙ plain.config },
  took_one rem old new fields (source_of rem old) plain.config refl r,
)
took rem old new false fields plain r first = took_none rem old new fields (source_of rem old) plain.config refl r
