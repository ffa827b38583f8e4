-- Rows that rise behind others of which the last are among them.
use Rattle.std.proofs.Common.{◌≡◌, ◌-◌, Bool, true, false, List, [], ◌∷◌, ◌++◌, length, take, refl, sym, ap, ◌∙◌, arith, true≢false, is_le, append_assoc}
use Rattle.std.specs.List.{list_all}
use Rattle.std.proofs.lemmas.List.{take-append-drop, nil_from_length}
use Rattle.vx_rows_values.specs.declared.order.OrderEntry.{OrderEntry}
use Rattle.vx_rows_values.specs.Values.{Row}
use Rattle.vx_rows_values.specs.Order.{compare_on, sorted}
use Rattle.vx_rows_values.proofs.Booleans.{and-left, and-right, and-both}
use Rattle.vx_exchange_receivers.specs.Heads.{last_of}
use Rattle.vx_exchange_receivers.specs.Merge.{EndsIn}
use Rattle.vx_exchange_receivers.proofs.HeadFacts.{none-left}
use Rattle.vx_exchange_receivers.proofs.Merging.{sorted-left, all-left, all-right, all-append, all-up}

-- rows that rise up to one, and from it on, rise
rise-meet : (merge : List OrderEntry) (xs : List Row) (y : Row) (ys : List Row) → sorted merge (xs ++ y ∷ []) ≡ true → sorted merge (y ∷ ys) ≡ true → sorted merge (xs ++ y ∷ ys) ≡ true
rise-meet merge [] y ys h k = k
rise-meet merge (x ∷ xs) y ys h k =
    let above = λ (r : Row). is_le (compare_on merge x r) in
    let all : list_all above (xs ++ y ∷ []) ≡ true = and-left _ _ h in
    let here : above y ≡ true = and-left (above y) true (all-right above xs (y ∷ []) all) in
    and-both (list_all above (xs ++ y ∷ ys)) (sorted merge (xs ++ y ∷ ys))
    (all-append above xs (y ∷ ys) (all-left above xs (y ∷ []) all) (and-both (above y) (list_all above ys) here (all-up merge x y ys here (and-left _ _ k))))
    (rise-meet merge xs y ys (and-right _ _ h) k)

pub rise-behind : (merge : List OrderEntry) (ps ws bs : List Row) → (ws ≡ [] → ps ≡ []) → sorted merge (ps ++ ws) ≡ true → sorted merge (ws ++ bs) ≡ true → sorted merge (ps ++ (ws ++ bs)) ≡ true
rise-behind merge ps [] bs edge h k = ap (λ xs. sorted merge (xs ++ bs)) (edge refl) ∙ k
rise-behind merge ps (w ∷ ws) bs edge h k =
    rise-meet merge ps w (ws ++ bs) (sorted-left merge (ps ++ w ∷ []) ws (ap (sorted merge) (append_assoc ps (w ∷ []) ws) ∙ h)) k

rise-back : (merge : List OrderEntry) (xs ys : List Row) → sorted merge (xs ++ ys) ≡ true → sorted merge ys ≡ true
rise-back merge [] ys h = h
rise-back merge (x ∷ xs) ys h = rise-back merge xs ys (and-right _ _ h)

-- where the last rows fall, so do all
pub fall-back : (merge : List OrderEntry) (xs ys : List Row) → sorted merge ys ≡ false → sorted merge (xs ++ ys) ≡ false
fall-back merge xs ys h = go (sorted merge (xs ++ ys)) refl
  where
    go : (b : Bool) → sorted merge (xs ++ ys) ≡ b → sorted merge (xs ++ ys) ≡ false
    go true e = absurd (true≢false (sym (rise-back merge xs ys e) ∙ h))
    go false e = e

last-edge : (xs : List Row) → last_of xs ≡ [] → xs ≡ []
last-edge xs e = let l = none-left xs (length xs - 1) e in nil_from_length xs (omega (arith, l))

first-nil : (us vs : List Row) → us ++ vs ≡ [] → us ≡ []
first-nil [] vs e = refl
first-nil (u ∷ us) vs e = cc

-- the rows before the last of these
pub before_last : {ys : List Row} (xs : List Row) → EndsIn xs ys → List Row
before_last xs h = h.front ++ take (length xs - 1) xs

pub last-joined : (xs ys : List Row) (h : EndsIn xs ys) → before_last xs h ++ last_of xs ≡ ys
unfolding before_last
last-joined xs ys h = append_assoc h.front (take (length xs - 1) xs) (last_of xs) ∙ (ap (λ zs. h.front ++ zs) (take-append-drop (length xs - 1) xs) ∙ h.joined)

pub none-before : (xs ys : List Row) (h : EndsIn xs ys) → last_of xs ≡ [] → before_last xs h ≡ []
unfolding before_last
none-before xs ys h e =
    let none : xs ≡ [] = last-edge xs e in
    let n : length xs ≡ 0 = ap length none in
    let m : length xs - 1 ≡ 0 = omega (arith, n) in
    ap (λ zs. h.front ++ zs) (ap (λ k. take k xs) m) ∙ (ap (λ zs. zs ++ []) (h.edge none))

-- what ends in some rows ends in the last of them, and with more behind both in those
pub ends-last : (xs ys more : List Row) → EndsIn xs ys → EndsIn (last_of xs ++ more) (ys ++ more)
ends-last xs ys more h = record {
  front = before_last xs h;
  joined = sym (append_assoc (before_last xs h) (last_of xs) more) ∙ ap (λ zs. zs ++ more) (last-joined xs ys h);
  edge = λ e. none-before xs ys h (first-nil (last_of xs) more e);
}

-- what ends in some rows rises with more behind exactly where the last of them do
pub last-rises : (merge : List OrderEntry) (xs ys more : List Row) → EndsIn xs ys → sorted merge ys ≡ true → sorted merge (last_of xs ++ more) ≡ true → sorted merge (ys ++ more) ≡ true
unfolding ends-last before_last
last-rises merge xs ys more h s t =
    let j = last-joined xs ys h in
    let front : sorted merge (before_last xs h ++ last_of xs) ≡ true = ap (sorted merge) j ∙ s in
    ap (sorted merge) (sym (ends-last xs ys more h).joined) ∙ rise-behind merge (before_last xs h) (last_of xs) more (none-before xs ys h) front t

pub last-falls : (merge : List OrderEntry) (xs ys more : List Row) → EndsIn xs ys → sorted merge (last_of xs ++ more) ≡ false → sorted merge (ys ++ more) ≡ false
unfolding ends-last before_last
last-falls merge xs ys more h t = ap (sorted merge) (sym (ends-last xs ys more h).joined) ∙ fall-back merge (before_last xs h) (last_of xs ++ more) t
