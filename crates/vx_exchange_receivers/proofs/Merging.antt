-- A merge, step by step.
use Rattle.std.proofs.Common.{ℕ, ◌≡◌, ◌<◌, ◌==◌, inl, inr, refl, sym, ap, ap₂, ◌∙◌, subst, List, [], ◌∷◌, ◌++◌, Bool, true, false, map, append-nil, append_assoc, true≢false}
use Rattle.std.specs.List.{list_all}
use Rattle.std.proofs.lemmas.Bool.Decides.{eqb_tells}
use Rattle.std.specs.Ordering.{is_le}
use Rattle.vx_rows_values.specs.declared.order.OrderEntry.{OrderEntry}
use Rattle.vx_rows_values.specs.Values.{Row}
use Rattle.vx_rows_values.proofs.Booleans.{and-left, and-right, and-both}
use Rattle.vx_rows_values.specs.Order.{sorted, compare_on}
use Rattle.vx_rows_values.proofs.Compare.{le-trans}
use Rattle.vx_plan_nodes.specs.Streams.{Streams, Dealt, bearing}
use Rattle.vx_exchange_ends.proofs.Deals.{numbered_same, rows-numbered_same, range-numbered_same, bearing-same, bearing-other, bearing-append, numbers-append, ranges-append}
use Rattle.vx_exchange_receivers.specs.Merged.{with_more, instead, Merged, IsLeast}
use Rattle.vx_ports.specs.Packets.{PacketView, brings, rows_of}
use Rattle.vx_ops.specs.Ledger.{fresh, ConsumerEnd, Ledger, receive, Begun}

pub all-left : (q : Row → Bool) (xs ys : List Row) → list_all q (xs ++ ys) ≡ true → list_all q xs ≡ true
all-left q [] ys h = refl
all-left q (x ∷ xs) ys h = and-both _ _ (and-left _ _ h) (all-left q xs ys (and-right (q x) (list_all q (xs ++ ys)) h))

pub all-right : (q : Row → Bool) (xs ys : List Row) → list_all q (xs ++ ys) ≡ true → list_all q ys ≡ true
all-right q [] ys h = h
all-right q (x ∷ xs) ys h = all-right q xs ys (and-right (q x) (list_all q (xs ++ ys)) h)

pub all-append : (q : Row → Bool) (xs ys : List Row) → list_all q xs ≡ true → list_all q ys ≡ true → list_all q (xs ++ ys) ≡ true
all-append q [] ys h k = k
all-append q (x ∷ xs) ys h k = and-both _ _ (and-left _ _ h) (all-append q xs ys (and-right (q x) (list_all q xs) h) k)

abbrev le : List OrderEntry → Row → Row → Bool
le merge x y = is_le (compare_on merge x y)

-- a beginning of a sorted list is sorted
pub sorted-left : (merge : List OrderEntry) (xs ys : List Row) → sorted merge (xs ++ ys) ≡ true → sorted merge xs ≡ true
sorted-left merge [] ys h = refl
sorted-left merge (x ∷ xs) ys h =
    and-both (list_all (le merge x) xs) (sorted merge xs) (all-left (le merge x) xs ys (and-left (list_all (le merge x) (xs ++ ys)) (sorted merge (xs ++ ys)) h))
    (sorted-left merge xs ys (and-right (list_all (le merge x) (xs ++ ys)) (sorted merge (xs ++ ys)) h))

pub all-up : (merge : List OrderEntry) (x z : Row) (zs : List Row) → le merge x z ≡ true → list_all (le merge z) zs ≡ true → list_all (le merge x) zs ≡ true
all-up merge x z [] h k = refl
all-up merge x z (y ∷ ys) h k = and-both _ _ (le-trans merge x z y h (and-left _ _ k)) (all-up merge x z ys h (and-right _ _ k))

-- a row between a sorted list's beginning and its rest
between : (merge : List OrderEntry) (gs : List Row) (x y : Row) (zs : List Row) → sorted merge (gs ++ x ∷ []) ≡ true → sorted merge (gs ++ y ∷ zs) ≡ true → le merge x y ≡ true
    → sorted merge (gs ++ x ∷ y ∷ zs) ≡ true
between merge [] x y zs h k l = and-both _ _ (and-both _ _ l (all-up merge x y zs l (and-left _ _ k))) k
between merge (g ∷ gs) x y zs h k l =
    let below : list_all (le merge g) (gs ++ x ∷ []) ≡ true = and-left (list_all (le merge g) (gs ++ x ∷ [])) (sorted merge (gs ++ x ∷ [])) h in
    let above : list_all (le merge g) (gs ++ y ∷ zs) ≡ true = and-left (list_all (le merge g) (gs ++ y ∷ zs)) (sorted merge (gs ++ y ∷ zs)) k in
    let here : le merge g x ≡ true = and-left (le merge g x) true (all-right (le merge g) gs (x ∷ []) below) in
    and-both (list_all (le merge g) (gs ++ x ∷ y ∷ zs)) (sorted merge (gs ++ x ∷ y ∷ zs))
    (all-append (le merge g) gs (x ∷ y ∷ zs) (all-left (le merge g) gs (x ∷ []) below) (and-both (le merge g x) (list_all (le merge g) (y ∷ zs)) here (all-right (le merge g) gs (y ∷ zs) above)))
    (between merge gs x y zs (and-right (list_all (le merge g) (gs ++ x ∷ [])) (sorted merge (gs ++ x ∷ [])) h) (and-right (list_all (le merge g) (gs ++ y ∷ zs)) (sorted merge (gs ++ y ∷ zs)) k) l)

-- a shuffle goes on with rows of one stream
pub deal-more : (n p : ℕ) (s : Streams) (out xs : List Row) → p < n → Dealt n out s → Dealt n (out ++ xs) (with_more s p xs)
deal-more n p s out xs lt d = record {
  numbered = d.numbered ++ numbered_same p xs;
  whole = numbers-append d.numbered (numbered_same p xs) ∙ ap (λ ys. ys ++ map (λ t. t.1) (numbered_same p xs)) d.whole ∙ ap (λ ys. out ++ ys) (rows-numbered_same p xs);
  in_range = ranges-append n d.numbered (numbered_same p xs) d.in_range (range-numbered_same n p xs lt);
  lists_are = λ j h. elim (eqb_tells j p) [
    | inl e ↦ bearing-append j d.numbered (numbered_same p xs) ∙ rw (e.0, e.1) (ap (λ ys. ys ++ bearing p (numbered_same p xs)) (d.lists_are p lt) ∙ ap (λ ys. s p ++ ys) (bearing-same p xs))
    | inr e ↦ bearing-append j d.numbered (numbered_same p xs) ∙ rw e.0 (ap (λ ys. bearing j d.numbered ++ ys) (bearing-other j p xs e.1) ∙ append-nil (bearing j d.numbered) ∙ d.lists_are j h)
  ];
}

-- a shuffle of these streams is one of streams that are equal to them
pub deal-same : (n : ℕ) (s t : Streams) (out : List Row) → ((i : ℕ) → i < n → s i ≡ t i) → Dealt n out s → Dealt n out t
deal-same n s t out e d = record { numbered = d.numbered; whole = d.whole; in_range = d.in_range; lists_are = λ i h. d.lists_are i h ∙ e i h }

abbrev Up : List OrderEntry → List Row → Type 0
Up merge xs = sorted merge xs ≡ true

pub nothing-is-merged : (n : ℕ) (merge : List OrderEntry) → Merged n merge (λ i. false) (λ i. []) (λ i. []) []
nothing-is-merged n merge = record {
  dealt = record { numbered = []; whole = refl; in_range = refl; lists_are = λ i h. refl };
  rises = refl;
  inputs = λ i h. refl;
  goes_on = λ i h more e s. s;
}

pub rows-come : (n : ℕ) (merge : List OrderEntry) (ended : ℕ → Bool) (taken left : Streams) (given : List Row) → Merged n merge ended taken left given
    → (i : ℕ) (xs : List Row) → ended i ≡ false → sorted merge (taken i ++ (left i ++ xs)) ≡ true
    → Merged n merge ended taken (with_more left i xs) given
rows-come n merge ended taken left given m i xs o up = record {
  dealt = m.dealt;
  rises = m.rises;
  inputs = λ j h. elim (eqb_tells j i) [
    | inl e ↦ rw (e.0, e.1) up
    | inr e ↦ rw e.0 (m.inputs j h)
  ];
  goes_on = λ j h more f s. elim (eqb_tells j i) [
    | inl e ↦ go j h more f s e.0 e.1
    | inr e ↦ rw e.0 (m.goes_on j h more f (rw e.0 at s))
  ];
}
  where
    go : (j : ℕ) → j < n → (more : List Row) → (ended j ≡ true → more ≡ []) → sorted merge (taken j ++ (with_more left i xs j ++ more)) ≡ true
        → (j == i) ≡ true → j ≡ i → sorted merge (given ++ (with_more left i xs j ++ more)) ≡ true
    go j h more f s b e =
        let w : with_more left i xs j ≡ left j ++ xs = rw b refl in
        let a : (left j ++ xs) ++ more ≡ left j ++ (xs ++ more) = append_assoc (left j) xs more in
        let t : Up merge (taken j ++ (left j ++ (xs ++ more))) = subst (λ ys. Up merge (taken j ++ ys)) (ap (λ ys. ys ++ more) w ∙ a) s in
        let open_j : ended j ≡ false = ap ended e ∙ o in
        subst (λ ys. Up merge (given ++ ys)) (sym (ap (λ ys. ys ++ more) w ∙ a)) (m.goes_on j h (xs ++ more) (λ c. cc) t)

-- producers may end, and streams are what they equal
pub same-merged : (n : ℕ) (merge : List OrderEntry) (ended more_ended : ℕ → Bool) (taken left took rest : Streams) (given : List Row) → ((j : ℕ) → j < n → ended j ≡ true → more_ended j ≡ true)
    → ((j : ℕ) → taken j ≡ took j) → ((j : ℕ) → left j ≡ rest j) → Merged n merge ended taken left given → Merged n merge more_ended took rest given
same-merged n merge ended more_ended taken left took rest given stays a b m = record {
  dealt = deal-same n taken took given (λ i h. a i) m.dealt;
  rises = m.rises;
  inputs = λ j h. subst (λ xs. Up merge xs) (ap₂ (λ xs ys. xs ++ ys) (a j) (b j)) (m.inputs j h);
  goes_on = λ j h more f s.
      let t : Up merge (taken j ++ (left j ++ more)) = subst (λ xs. Up merge xs) (sym (ap₂ (λ xs ys. xs ++ (ys ++ more)) (a j) (b j))) s in
      subst (λ ys. Up merge (given ++ (ys ++ more))) (b j) (m.goes_on j h more (λ e. f (stays j h e)) t);
}

pub all-is-merged : (n : ℕ) (merge : List OrderEntry) (ended : ℕ → Bool) (taken left came : Streams) (given : List Row) → Merged n merge ended taken left given
    → ((i : ℕ) → i < n → taken i ++ left i ≡ came i) → ((i : ℕ) → i < n → left i ≡ [])
    → Dealt n given came × (sorted merge given ≡ true)
all-is-merged n merge ended taken left came given m parts none =
    (deal-same n taken came given (λ i h. sym (append-nil (taken i)) ∙ ap (λ ys. taken i ++ ys) (sym (none i h)) ∙ parts i h) m.dealt, m.rises)

pub least-goes : (n : ℕ) (merge : List OrderEntry) (ended : ℕ → Bool) (taken left : Streams) (given : List Row) → Merged n merge ended taken left given
    → (p : ℕ) (x : Row) (rest : List Row) → IsLeast n merge ended left p x rest
    → Merged n merge ended (with_more taken p (x ∷ [])) (instead left p rest) (given ++ x ∷ [])
least-goes n merge ended taken left given m p x rest l = record {
  dealt = deal-more n p taken given (x ∷ []) l.in_range m.dealt;
  rises = risen;
  inputs = λ j h. elim (eqb_tells j p) [
    | inl e ↦ rw (e.0, e.1) (subst (λ ys. Up merge ys) (ap (λ ys. taken p ++ ys) l.head ∙ sym (append_assoc (taken p) (x ∷ []) rest)) (m.inputs p l.in_range))
    | inr e ↦ rw e.0 (m.inputs j h)
  ];
  goes_on = λ j h more f s. elim (eqb_tells j p) [
    | inl e ↦ same j h more f s e.0 e.1
    | inr e ↦ rw e.0 (other j h more f (rw e.0 at s) (left j) refl)
  ];
}
  where
    none-more : left p ++ [] ≡ x ∷ rest
    none-more = append-nil (left p) ∙ l.head

    risen : sorted merge (given ++ x ∷ []) ≡ true
    risen =
        let t : Up merge (taken p ++ (left p ++ [])) = subst (λ ys. Up merge (taken p ++ ys)) (sym (append-nil (left p))) (m.inputs p l.in_range) in
        let u : Up merge (given ++ (left p ++ [])) = m.goes_on p l.in_range [] (λ e. refl) t in
        let v : Up merge (given ++ x ∷ rest) = subst (λ ys. Up merge (given ++ ys)) none-more u in
        sorted-left merge (given ++ x ∷ []) rest (subst (λ ys. Up merge ys) (sym (append_assoc given (x ∷ []) rest)) v)

    same : (j : ℕ) → j < n → (more : List Row) → (ended j ≡ true → more ≡ [])
        → sorted merge (with_more taken p (x ∷ []) j ++ (instead left p rest j ++ more)) ≡ true
        → (j == p) ≡ true → j ≡ p → sorted merge ((given ++ x ∷ []) ++ (instead left p rest j ++ more)) ≡ true
    same j h more f s b e =
        let w : with_more taken p (x ∷ []) j ≡ taken j ++ x ∷ [] = rw b refl in
        let v : instead left p rest j ≡ rest = rw b refl in
        let hd : left j ≡ x ∷ rest = ap left e ∙ l.head in
        let t : Up merge ((taken j ++ x ∷ []) ++ (rest ++ more)) = subst (λ ys. Up merge (ys ++ (rest ++ more))) w (subst (λ ys. Up merge (with_more taken p (x ∷ []) j ++ (ys ++ more))) v s) in
        let u : Up merge (taken j ++ (left j ++ more)) = subst (λ ys. Up merge ys) (append_assoc (taken j) (x ∷ []) (rest ++ more) ∙ ap (λ ys. taken j ++ (ys ++ more)) (sym hd)) t in
        let r : Up merge (given ++ (left j ++ more)) = m.goes_on j h more f u in
        subst (λ ys. Up merge ((given ++ x ∷ []) ++ (ys ++ more))) (sym v)
        (subst (λ ys. Up merge ys) (ap (λ ys. given ++ (ys ++ more)) hd ∙ sym (append_assoc given (x ∷ []) (rest ++ more))) r)

    other : (j : ℕ) → j < n → (more : List Row) → (ended j ≡ true → more ≡ []) → sorted merge (taken j ++ (left j ++ more)) ≡ true
        → (ys : List Row) → left j ≡ ys → sorted merge ((given ++ x ∷ []) ++ (left j ++ more)) ≡ true
    other j h more f s [] e =
        let none : more ≡ [] = f (l.at_hand j h e) in
        let both : left j ++ more ≡ [] = ap (λ ys. ys ++ more) e ∙ none in
        subst (λ ys. Up merge ((given ++ x ∷ []) ++ ys)) (sym both) (subst (λ ys. Up merge ys) (sym (append-nil (given ++ x ∷ []))) risen)
    other j h more f s (y ∷ ys) e =
        let r : Up merge (given ++ (left j ++ more)) = m.goes_on j h more f s in
        let k : Up merge (given ++ y ∷ (ys ++ more)) = subst (λ zs. Up merge (given ++ (zs ++ more))) e r in
        let b : Up merge (given ++ x ∷ y ∷ (ys ++ more)) = between merge given x y (ys ++ more) risen k (l.least j h y ys e) in
        subst (λ zs. Up merge ((given ++ x ∷ []) ++ (zs ++ more))) (sym e) (subst (λ zs. Up merge zs) (sym (append_assoc given (x ∷ []) (y ∷ (ys ++ more)))) b)

pub merge-begins : (port : ConsumerEnd) (l : Ledger) (ended : ℕ → Bool) (taken left : Streams) → Merged port.producers port.merge ended taken left l.gave.rows
    → ((i : ℕ) → taken i ++ left i ≡ rows_of (l.came i)) → port.in_order ≡ false → Begun (receive port) l
merge-begins port l ended taken left m parts unordered =
    let port_in : ℕ → List PacketView = λ i. record { exchange = port.exchange; from = i; to = port.place; types = port.types; content = brings (taken i) } ∷ [] in
    record {
      inputs = record { left = fresh; right = fresh; came = port_in; gave = fresh };
      begins = record {
        left = record { rest = l.left.rows; joined = refl };
        right = record { rest = l.right.rows; joined = refl };
        came = λ i. record { rest = left i; joined = ap (λ ys. ys ++ left i) (append-nil (taken i)) ∙ parts i };
      };
      whole = l.gave.rows;
      makes = (deal-same port.producers taken (λ i. taken i ++ []) l.gave.rows (λ i h. sym (append-nil (taken i))) m.dealt, m.rises, λ e. absurd (true≢false (sym e ∙ unordered)));
      gave = record { rest = []; joined = append-nil l.gave.rows };
    }
