-- A text is cut before a line feed, behind bytes without a quote.
use Rattle.std.proofs.Common.{◌≡◌, ℕ, zero, suc, ◌<◌, ◌==◌, ◌&&◌, not, List, [], ◌∷◌, ◌++◌, Option, Some, None, Bool, true, false, refl, sym, subst, ◌∙◌, length, arith, ◌⊎◌, inl, inr}
use Rattle.csv.specs.Machine.{Read, next_record, step, in_field}
use Rattle.csv.specs.Reading.{default_config, strip_bom, is_bom}
use Rattle.csv.specs.declared.parser.State.{State}
use Rattle.csv.specs.declared.parser.State.TheVariants as st
use Rattle.csv.specs.declared.parser.Action.{Action}
use Rattle.csv.specs.declared.parser.Action.TheVariants as act
use Rattle.vx_catalog_split.specs.Split.{is_unquoted, records_of, SplitLaw}
use Rattle.vx_catalog_split.proofs.TurnFacts.{left_from, shorter, one_more, none_more, same_next}

-- the first byte of a text without quotes is none
abbrev NoQuote : ℕ → Type 0
NoQuote d = (d == 34) ≡ false

both : (b c : Bool) → not b && c ≡ true → (b ≡ false) × (c ≡ true)
both true c h = cc
both false c h = (refl, h)

unquoted_tail : (d : ℕ) (rest : List ℕ) → is_unquoted (d ∷ rest) ≡ true → NoQuote d × (is_unquoted rest ≡ true)
unfolding is_unquoted
unquoted_tail d rest h = both (d == 34) (is_unquoted rest) h

-- a state inside a record that has no quote so far in its field
inside : State → Bool
inside st.StartRecord = false
inside st.StartField = true
inside st.InField = true
inside st.InQuoted = false
inside st.AfterQuote = false
inside st.InEscape = false
inside st.InComment = false
inside st.AfterCr = false

-- a state between records
between : State → Bool
between st.StartRecord = true
between st.StartField = false
between st.InField = false
between st.InQuoted = false
between st.AfterQuote = false
between st.InEscape = false
between st.InComment = false
between st.AfterCr = true

-- what a byte does inside a field without a quote
FieldStep : State × Action → Type 0
FieldStep r = (r ≡ (st.StartField, act.EndField)) ⊎ ((r ≡ (st.AfterCr, act.EndRecord)) ⊎ ((r ≡ (st.StartRecord, act.EndRecord)) ⊎ (r ≡ (st.InField, act.Copy))))

field_step : (d : ℕ) → FieldStep (in_field default_config d)
unfolding FieldStep
field_step d = by_test (d == 44) (d == 13) (d == 10) refl refl refl
  where
    by_test : (x y z : Bool) → (d == 44) ≡ x → (d == 13) ≡ y → (d == 10) ≡ z → FieldStep (in_field default_config d)
    by_test true y z e f g = rw e (inl refl)
    by_test false true z e f g = rw (e, f) (inr (inl refl))
    by_test false false true e f g = rw (e, f, g) (inr (inr (inl refl)))
    by_test false false false e f g = rw (e, f, g) (inr (inr (inr refl)))

inside_step : (s : State) (d : ℕ) → inside s ≡ true → NoQuote d → step default_config s d ≡ in_field default_config d
unfolding inside
inside_step st.StartField d i q = rw q refl
inside_step st.InField d i q = refl
inside_step st.StartRecord d i q = cc
inside_step st.InQuoted d i q = cc
inside_step st.AfterQuote d i q = cc
inside_step st.InEscape d i q = cc
inside_step st.InComment d i q = cc
inside_step st.AfterCr d i q = cc

-- what a byte does between records: a line's end is skipped, any other byte begins a record
BetweenStep : State × Action → Type 0
BetweenStep r = (r ≡ (st.StartRecord, act.Skip)) ⊎ ((r ≡ (st.StartField, act.EndField)) ⊎ (r ≡ (st.InField, act.Copy)))

start_step : (d : ℕ) → NoQuote d → BetweenStep (step default_config st.StartRecord d)
unfolding BetweenStep
start_step d q = by_test (d == 44) (d == 13) (d == 10) refl refl refl
  where
    by_test : (x y z : Bool) → (d == 44) ≡ x → (d == 13) ≡ y → (d == 10) ≡ z → BetweenStep (step default_config st.StartRecord d)
    by_test x true z e f g = rw f (inl refl)
    by_test x false true e f g = rw (f, g) (inl refl)
    by_test true false false e f g = rw (f, g, q, e) (inr (inl refl))
    by_test false false false e f g = rw (f, g, q, e) (inr (inr refl))

between_step : (s : State) (d : ℕ) → between s ≡ true → NoQuote d → BetweenStep (step default_config s d)
unfolding between BetweenStep
between_step st.StartRecord d b q = start_step d q
between_step st.AfterCr d b q = by_feed (d == 10) refl
  where
    by_feed : (x : Bool) → (d == 10) ≡ x → BetweenStep (step default_config st.AfterCr d)
    by_feed true e = rw e (inl refl)
    by_feed false e =
        let same : step default_config st.AfterCr d ≡ step default_config st.StartRecord d = rw e refl in
        subst BetweenStep (sym same) (start_step d q)
between_step st.StartField d b q = cc
between_step st.InField d b q = cc
between_step st.InQuoted d b q = cc
between_step st.AfterQuote d b q = cc
between_step st.InEscape d b q = cc
between_step st.InComment d b q = cc

-- how a record of the whole stands to that of the first piece: it ends where that one does, with the rest of that piece before the
-- second, or it is the last of the first piece, and its end is the line feed
Follows : Read → Read → List ℕ → Type 0
Follows p q c = ((q.1 ≡ p.1) × (q.2 ≡ p.2 ++ 10 ∷ c) × (between p.1 ≡ true) × (is_unquoted p.2 ≡ true)) ⊎ ((p.1 ≡ st.StartRecord) × (p.2 ≡ []) × (q.1 ≡ st.StartRecord) × (q.2 ≡ c))

-- the next record of the first piece, and that of the whole
Agrees : Option Read → Option Read → List ℕ → Type 0
Agrees None o c = o ≡ next_record default_config st.StartRecord [] [] c
Agrees (Some p) None c = ⊥
Agrees (Some p) (Some q) c = (q.0 ≡ p.0) × Follows p q c

-- a record that is begun
begun : (s : State) (f : List (List ℕ)) (p a c : List ℕ) → inside s ≡ true → is_unquoted a ≡ true → Agrees (next_record default_config s f p a) (next_record default_config s f p (a ++ 10 ∷ c)) c
unfolding next_record Agrees Follows inside between FieldStep
begun st.StartField f p [] c i u = (refl, inr (refl, refl, refl, refl))
begun st.InField f p [] c i u = (refl, inr (refl, refl, refl, refl))
begun st.StartRecord f p [] c i u = cc
begun st.InQuoted f p [] c i u = cc
begun st.AfterQuote f p [] c i u = cc
begun st.InEscape f p [] c i u = cc
begun st.InComment f p [] c i u = cc
begun st.AfterCr f p [] c i u = cc
begun s f p (d ∷ a) c i u =
    let t = unquoted_tail d a u in
    let same = inside_step s d i t.0 in
    elim (field_step d) [
      | inl e ↦ rw (same ∙ e) (begun st.StartField (f ++ p ∷ []) [] a c refl t.1)
      | inr (inl e) ↦ rw (same ∙ e) (refl, inl (refl, refl, refl, t.1))
      | inr (inr (inl e)) ↦ rw (same ∙ e) (refl, inl (refl, refl, refl, t.1))
      | inr (inr (inr e)) ↦ rw (same ∙ e) (begun st.InField f (p ++ d ∷ []) a c refl t.1)
    ]

-- a record that is not begun
unbegun : (s : State) (a c : List ℕ) → between s ≡ true → is_unquoted a ≡ true → Agrees (next_record default_config s [] [] a) (next_record default_config s [] [] (a ++ 10 ∷ c)) c
unfolding next_record Agrees between inside BetweenStep
unbegun st.StartRecord [] c b u = refl
unbegun st.AfterCr [] c b u = refl
unbegun st.StartField [] c b u = cc
unbegun st.InField [] c b u = cc
unbegun st.InQuoted [] c b u = cc
unbegun st.AfterQuote [] c b u = cc
unbegun st.InEscape [] c b u = cc
unbegun st.InComment [] c b u = cc
unbegun s (d ∷ a) c b u =
    let t = unquoted_tail d a u in
    elim (between_step s d b t.0) [
      | inl e ↦ rw e (unbegun st.StartRecord a c refl t.1)
      | inr (inl e) ↦ rw e (begun st.StartField ([] ∷ []) [] a c refl t.1)
      | inr (inr e) ↦ rw e (begun st.InField [] (d ∷ []) a c refl t.1)
    ]

-- at the end of a text there is no record that was not begun
no_end : (s : State) (p : Read) → between s ≡ true → next_record default_config s [] [] [] ≡ Some p → ⊥
unfolding next_record between
no_end st.StartRecord p b e = cc
no_end st.AfterCr p b e = cc
no_end st.StartField p b e = cc
no_end st.InField p b e = cc
no_end st.InQuoted p b e = cc
no_end st.AfterQuote p b e = cc
no_end st.InEscape p b e = cc
no_end st.InComment p b e = cc

no_next : next_record default_config st.StartRecord [] [] [] ≡ None
unfolding next_record
no_next = refl

-- pieces from a state between records
joined : (n : ℕ) (s : State) (a c : List ℕ) → length a < n → between s ≡ true → is_unquoted a ≡ true
    → left_from default_config s (a ++ 10 ∷ c) ≡ left_from default_config s a ++ left_from default_config st.StartRecord c
unfolding Agrees Follows
joined zero s a c h b u = absurd (omega arith)
joined (suc n) s a c h b u = by_read (next_record default_config s [] [] a) (next_record default_config s [] [] (a ++ 10 ∷ c)) refl refl (unbegun s a c b u) (λ p. joined n p.1 p.2 c)
  where
    rest_less : (a : List ℕ) (p : Read) → length a < suc n → between s ≡ true → next_record default_config s [] [] a ≡ Some p → length p.2 < n
    rest_less [] p h b e = absurd (no_end s p b e)
    rest_less (d ∷ a) p h b e = let less = shorter default_config a s [] [] d p e in omega arith

    by_read : (o r : Option Read) → next_record default_config s [] [] a ≡ o → next_record default_config s [] [] (a ++ 10 ∷ c) ≡ r → Agrees o r c
        → ((p : Read) → length p.2 < n → between p.1 ≡ true → is_unquoted p.2 ≡ true → left_from default_config p.1 (p.2 ++ 10 ∷ c) ≡ left_from default_config p.1 p.2 ++ left_from default_config st.StartRecord c)
        → left_from default_config s (a ++ 10 ∷ c) ≡ left_from default_config s a ++ left_from default_config st.StartRecord c
    by_read None r e g k again = rw (none_more default_config s a e) (same_next default_config s st.StartRecord (a ++ 10 ∷ c) c (g ∙ k))
    by_read (Some p) None e g k again = absurd k
    by_read (Some p) (Some q) e g (same, inl f) again =
        let whole = one_more default_config s (a ++ 10 ∷ c) q g in
        let first = one_more default_config s a p e in
        let less = rest_less a p h b e in
        let rest = again p less f.2 f.3 in
        rw (whole, first, same, f.0, f.1, rest) refl
    by_read (Some p) (Some q) e g (same, inr f) again =
        let whole = one_more default_config s (a ++ 10 ∷ c) q g in
        let first = one_more default_config s a p e in
        rw (whole, first, same, f.0, f.1, f.2, f.3, none_more default_config st.StartRecord [] no_next) refl

-- ---- the byte order mark

mark_split : (a c : List ℕ) → strip_bom (a ++ 10 ∷ c) ≡ strip_bom a ++ 10 ∷ c
unfolding strip_bom
mark_split [] [] = refl
mark_split [] (d ∷ []) = refl
mark_split [] (d ∷ e ∷ c) = refl
mark_split (x ∷ []) [] = refl
mark_split (x ∷ []) (d ∷ c) = by_test (x == 0xEF) refl
  where
    by_test : (b : Bool) → (x == 0xEF) ≡ b → strip_bom (x ∷ 10 ∷ d ∷ c) ≡ x ∷ 10 ∷ d ∷ c
    by_test true e = rw e refl
    by_test false e = rw e refl
mark_split (x ∷ y ∷ []) c = by_test (x == 0xEF) (y == 0xBB) refl refl
  where
    by_test : (b d : Bool) → (x == 0xEF) ≡ b → (y == 0xBB) ≡ d → strip_bom (x ∷ y ∷ 10 ∷ c) ≡ x ∷ y ∷ 10 ∷ c
    by_test true true e f = rw (e, f) refl
    by_test true false e f = rw (e, f) refl
    by_test false d e f = rw e refl
mark_split (x ∷ y ∷ z ∷ a) c = by_test (is_bom x y z) refl
  where
    by_test : (b : Bool) → is_bom x y z ≡ b → strip_bom (x ∷ y ∷ z ∷ (a ++ 10 ∷ c)) ≡ strip_bom (x ∷ y ∷ z ∷ a) ++ 10 ∷ c
    by_test true e = rw e refl
    by_test false e = rw e refl

no_mark : (c : List ℕ) → strip_bom (10 ∷ c) ≡ 10 ∷ c
unfolding strip_bom
no_mark c = mark_split [] c

unquoted_behind : (a : List ℕ) → is_unquoted a ≡ true → is_unquoted (strip_bom a) ≡ true
unfolding strip_bom is_unquoted
unquoted_behind [] u = u
unquoted_behind (x ∷ []) u = u
unquoted_behind (x ∷ y ∷ []) u = u
unquoted_behind (x ∷ y ∷ z ∷ a) u = by_test (is_bom x y z) refl
  where
    by_test : (b : Bool) → is_bom x y z ≡ b → is_unquoted (strip_bom (x ∷ y ∷ z ∷ a)) ≡ true
    by_test true e = rw e (unquoted_tail z a (unquoted_tail y (z ∷ a) (unquoted_tail x (y ∷ z ∷ a) u).1).1).1
    by_test false e = rw e u

feed_skipped : (c : List ℕ) → left_from default_config st.StartRecord (10 ∷ c) ≡ left_from default_config st.StartRecord c
unfolding next_record
feed_skipped c = same_next default_config st.StartRecord st.StartRecord (10 ∷ c) c (skips c)
  where
    skips : (c : List ℕ) → next_record default_config st.StartRecord [] [] (10 ∷ c) ≡ next_record default_config st.StartRecord [] [] c
    skips c = refl

pub split_law : SplitLaw
unfolding between
split_law a c u =
    let whole : records_of (a ++ 10 ∷ c) ≡ left_from default_config st.StartRecord (strip_bom a ++ 10 ∷ c) = rw (mark_split a c) refl in
    let cut = joined (suc (length (strip_bom a))) st.StartRecord (strip_bom a) c (omega arith) refl (unquoted_behind a u) in
    let second : records_of (10 ∷ c) ≡ left_from default_config st.StartRecord c = rw (no_mark c) (feed_skipped c) in
    rw (whole, cut, second) refl
