-- Totals with those of one more entry, as a loop adds them.
use Rattle.std.proofs.Common.{◌≡◌, ◌≢◌, Result, Ok, Err, IfErr, take, drop, ◌⊎◌, inl, inr, ℕ, ◌^◌, ◌+◌, ◌-◌, ◌<◌, List, [], ◌∷◌, ◌++◌, Bool, true, false, cond, ◌&&◌, Some, min, length, get_or, set, replicate, nat_eq, nat_lt, refl, sym, ap, subst, ◌∙◌, arith}
use Rattle.std.specs.List.{sum_by, list_all}
use Rattle.std.proofs.lemmas.Bool.{ltb-true}
use Rattle.std.proofs.lemmas.Bool.Decides.{eqb_tells}
use Rattle.std.proofs.lemmas.List.{append-nil, append_assoc, map-append, take_more, take-append-drop, get_or-replicate, length-replicate, length-set, get_or-set_same, get_or-set_other}
use Rattle.std.proofs.lemmas.List.Elements.{filter-append}
use Rattle.std.proofs.lemmas.List.Folds.{list_all-append}
use Rattle.std.proofs.lemmas.List.FromFn.{fill_by_all}
use Rattle.std.proofs.lemmas.List.Sums.{sum_by-append}
use Rattle.vx_check_formats.specs.declared.totals.NodeTotals.{NodeTotals}
use Rattle.volcano_drawing.specs.declared.entries.Entry as held
use Rattle.volcano_drawing.specs.declared.fault.DrawFault.{DrawFault}
use Rattle.volcano_drawing.specs.declared.fault.DrawFault.TheVariants as fault
use Rattle.volcano_drawing.specs.Fault.{other_operator, IsFaultOf, IsOtherOperator, IsDrawFault}
use Rattle.volcano_drawing.specs.Entries.{Entry, entry_of, entries_of, entries_in_text}
use Rattle.volcano_drawing.specs.Totals.{entries_at, total, worker_of, waits_of, totals, nothing, plus, with_entry, totals_at, all_totals, fits, is_run, AreTotals, added_up}

capped : (a b m : ℕ) → min (a + b) m ≡ min (min a m + b) m
capped a b m = omega arith

sum_more : (f : Entry → ℕ) (es : List Entry) (e : Entry) → sum_by f (es ++ e ∷ []) ≡ sum_by f es + f e
sum_more f es e = sum_by-append f es (e ∷ []) ∙ omega arith

-- a sum of numbers of entries with one more entry
total_more : (f : Entry → ℕ) (es : List Entry) (e : Entry) → total f (es ++ e ∷ []) ≡ plus (total f es) (f e)
total_more f es e = ap (λ n. min n (2 ^ 64 - 1)) (sum_more f es e) ∙ capped (sum_by f es) (f e) (2 ^ 64 - 1)

totals_more : (es : List Entry) (e : Entry) → totals (es ++ e ∷ []) ≡ with_entry (totals es) e
totals_more es e =
    rw (total_more worker_of es e, total_more (λ e. e.counted.gave) es e, total_more waits_of es e, total_more (λ e. e.counted.put) es e, total_more (λ e. e.counted.taken) es e) refl

with_one : (b : Bool) (es : List Entry) (e : Entry) → totals (es ++ cond b (e ∷ []) []) ≡ cond b (with_entry (totals es) e) (totals es)
with_one true es e = totals_more es e
with_one false es e = ap totals (append-nil es)

-- the totals of a node by one more entry
one_more : (es : List Entry) (e : Entry) (node : ℕ) → totals_at (es ++ e ∷ []) node ≡ cond (nat_eq e.node node) (with_entry (totals_at es node) e) (totals_at es node)
unfolding totals_at
one_more es e node = ap totals (filter-append (λ e. nat_eq e.node node) es (e ∷ [])) ∙ with_one (nat_eq e.node node) (entries_at node es) e

none_at : (nodes k : ℕ) (d : NodeTotals) → k < nodes → get_or (replicate nodes nothing) k d ≡ totals_at [] k
unfolding totals_at
none_at nodes k d h = get_or-replicate nodes k nothing d h

pub totals_none : (words : List (List ℕ)) (nodes : ℕ) → nodes ≡ length words → AreTotals words [] (replicate nodes nothing)
totals_none words nodes is =
    record { known = refl; long = length-replicate nodes nothing ∙ is; each = λ k d l. none_at nodes k d (omega (arith, is, l)) }

more_at : (nodes : ℕ) (es : List Entry) (cs : List NodeTotals) (e : Entry) (c d : NodeTotals) (k : ℕ) (z : NodeTotals) → length cs ≡ nodes
    → ((k : ℕ) (d : NodeTotals) → k < nodes → get_or cs k d ≡ totals_at es k) → e.node < nodes → c ≡ with_entry (get_or cs e.node d) e → k < nodes
    → ((nat_eq e.node k ≡ true) × (e.node ≡ k)) ⊎ ((nat_eq e.node k ≡ false) × (e.node ≢ k)) → get_or (set cs e.node c) k z ≡ totals_at (es ++ e ∷ []) k
more_at nodes es cs e c d k z long each h is l (inl t) =
    let known : e.node < length cs = omega (arith, long, h) in
    let same : get_or (set cs e.node c) e.node z ≡ with_entry (totals_at es e.node) e = get_or-set_same cs e.node c z known ∙ (is ∙ ap (λ x. with_entry x e) (each e.node d h)) in
    subst (λ n. get_or (set cs e.node c) n z ≡ with_entry (totals_at es n) e) t.1 same
    ∙ sym (one_more es e k ∙ ap (λ b. cond b (with_entry (totals_at es k) e) (totals_at es k)) t.0)
more_at nodes es cs e c d k z long each h is l (inr t) =
    get_or-set_other cs e.node k c z (λ q. t.1 (sym q)) ∙ (each k z l
    ∙ sym (one_more es e k ∙ ap (λ b. cond b (with_entry (totals_at es k) e) (totals_at es k)) t.0))

fits_more : (words : List (List ℕ)) (es : List Entry) (e : Entry) → list_all (fits words) es ≡ true → fits words e ≡ true → list_all (fits words) (es ++ e ∷ []) ≡ true
fits_more words es e k h = list_all-append (fits words) es (e ∷ []) ∙ rw (k, h) refl

pub totals_next : (words : List (List ℕ)) (es : List Entry) (cs : List NodeTotals) (e : Entry) (c d : NodeTotals) → AreTotals words es cs → fits words e ≡ true → e.node < length words
    → c ≡ with_entry (get_or cs e.node d) e → AreTotals words (es ++ e ∷ []) (set cs e.node c)
totals_next words es cs e c d are h l is =
    record {
      known = fits_more words es e are.known h;
      long = length-set cs e.node c ∙ are.long;
      each = λ k z m. more_at (length words) es cs e c d k z are.long are.each l is m (eqb_tells e.node k);
    }

pub totals_all : (words : List (List ℕ)) (es : List Entry) (cs : List NodeTotals) → AreTotals words es cs → all_totals (length words) es ≡ cs
totals_all words es cs are = sym (fill_by_all (totals_at es) cs (length words) nothing are.long (λ k l. are.each k nothing l))

pub added_all : (words : List (List ℕ)) (es : List Entry) (cs : List NodeTotals) → AreTotals words es cs → list_all is_run cs ≡ true → added_up words es ≡ Some cs
added_all words es cs are run = rw (totals_all words es cs are, are.known, run) refl

-- ---- entries as they are held

left_true : (a b : Bool) → (a && b) ≡ true → a ≡ true
left_true true b h = refl
left_true false b h = h

pub fits_below : (words : List (List ℕ)) (e : Entry) → fits words e ≡ true → e.node < length words
fits_below words e h = ltb-true e.node (length words) (left_true (nat_lt e.node (length words)) _ h)

pub entries_more : (xs : List held.Entry) (i : ℕ) (x : held.Entry) → i < length xs → x ≡ get_or xs i x → entries_of (take (i + 1) xs) ≡ entries_of (take i xs) ++ (entry_of x ∷ [])
entries_more xs i x h is = ap entries_of (take_more xs i x h ∙ ap (λ y. take i xs ++ (y ∷ [])) (sym is)) ∙ map-append entry_of (take i xs) (x ∷ [])

pub entries_split : (xs : List held.Entry) (i : ℕ) (x : held.Entry) → i < length xs → x ≡ get_or xs i x
    → entries_of xs ≡ entries_of (take i xs) ++ (entry_of x ∷ entries_of (drop (i + 1) xs))
entries_split xs i x h is =
    ap entries_of (sym (take-append-drop (i + 1) xs)) ∙ (map-append entry_of (take (i + 1) xs) (drop (i + 1) xs)
    ∙ (ap (λ t. t ++ entries_of (drop (i + 1) xs)) (entries_more xs i x h is) ∙ append_assoc (entries_of (take i xs)) (entry_of x ∷ []) (entries_of (drop (i + 1) xs))))

-- ---- faults

pub other_fault : (words : List (List ℕ)) (es before after : List Entry) (e : Entry) (f : DrawFault) → es ≡ before ++ (e ∷ after) → list_all (fits words) before ≡ true
    → fits words e ≡ false → IsOtherOperator e f → IsFaultOf words es f
other_fault words es before after e fault.NoMemory split known unfit is = tt
other_fault words es before after e fault.NotStatistics split known unfit is = is
other_fault words es before after e (fault.OtherPlan d) split known unfit is = other_operator before after e split known unfit is.0 is.1

fault_of_text : (words : List (List ℕ)) (text : List ℕ) (es : List Entry) (f : DrawFault) → entries_in_text text ≡ Some es → IsFaultOf words es f → IsDrawFault words text f
fault_of_text words text es fault.NoMemory lists is = tt
fault_of_text words text es fault.NotStatistics lists is = absurd is
fault_of_text words text es (fault.OtherPlan d) lists is = (es, lists, is)

pub faults_of_text : {T : Type 0} (words : List (List ℕ)) (text : List ℕ) (es : List Entry) (r : Result T DrawFault) → entries_in_text text ≡ Some es
    → IfErr r (IsFaultOf words es) → IfErr r (IsDrawFault words text)
faults_of_text words text es (Ok v) lists is = tt
faults_of_text words text es (Err f) lists is = fault_of_text words text es f lists is
