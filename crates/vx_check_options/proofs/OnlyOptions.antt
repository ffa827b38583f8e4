-- No accepted claims are left out of the options of nodes.
use Rattle.std.proofs.Common.{ℕ, ◌≡◌, nat_lt, nat_le, Bool, true, false, cond, ◌&&◌, ◌||◌, ◌⊎◌, inl, inr, ⊎_elim, List, [], ◌∷◌, length, take, Option, Some, None, is_some, refl, sym, ap, ◌∙◌, subst, arith}
use Rattle.std.specs.List.{list_all, list_any}
use Rattle.std.proofs.lemmas.Bool.Decides.{nat_tests}
use Rattle.vx_rows_values.specs.Order.{order_columns}
use Rattle.vx_rows_values.specs.declared.order.OrderEntry.{OrderEntry}
use Rattle.vx_rows_values.specs.declared.value.ColType.{ColType}
use Rattle.vx_rows_values.specs.Lists.{is_some_list}
use Rattle.vx_rows_values.proofs.Booleans.{and-left, and-right, and-both}
use Rattle.vx_catalog_relations.specs.Relation.{Relation}
use Rattle.vx_catalog_relations.specs.Catalog.{relation_at, all_below, are_distinct}
use Rattle.vx_plan_nodes.specs.Plan.{Size, one_worker, group_of, by_hash, by_range, Part, one, any, all, routed, Claim, Unary, Binary, union, join, semi_join, ExchangeKind, Plan, scan, unary, binary, exchange, claim, size, size_eq, is_one, by_hashing, by_merging, left_order, right_order}
use Rattle.vx_plan_nodes.specs.Phases.{phase_fits, both_closed}
use Rattle.vx_plan_nodes.specs.Types.{types_of, binary_width, unary_width, width}
use Rattle.vx_plan_nodes.specs.Describe.{described, described_both}
use Rattle.vx_plan_nodes.specs.Typed.{Scope, bounds_at, range_type, type_eq, are_columns, is_size, is_part, is_claim, is_unary, is_binary, is_kind, may_merge, is_output, typed}
use Rattle.vx_rows_values.specs.Types.{type_at}
use Rattle.vx_check_rules.specs.Rules.{part_gives, is_front, sizes_match, not_replicated, inputs_match, order_given, first_rows_known, part_shown, order_shown, keys_shown, allowed_here, allowed}
use Rattle.vx_check_rules.specs.Refusal.{Rule, size_mismatch, replicated_input, inputs_not_matched, order_needed, order_not_shown, or_else, refused_at}
use Rattle.vx_check_rules.specs.Behaviour.{gives, ways_along, ways_over, behaviour, shown_part}
use Rattle.vx_check_rules.proofs.Bools.{all-more}
use Rattle.vx_check_rules.proofs.Exact.{parts-exactly}
use Rattle.vx_check_rules.proofs.DerivedMore.{eight}
use Rattle.vx_check_options.specs.Options.{gives_part, told_parts, parts_above, no_input, parts_at, is_within_here, is_within, narrowed, places_over, places_at, can_send, can_meet, can_order, can_keep, fit_tests, first_unfit}
use Rattle.vx_check_options.specs.Laws.{keeps_part, KeepsClaim, Keeps, is_told, may_begin, OnlyOptions}
use Rattle.vx_check_options.proofs.Alike.{one_or, replicated, options-alike}
use Rattle.vx_check_options.proofs.Told.{are_few, names_few, is_whole, each_way, Whole, told-by, shown-among, node-told}
use Rattle.vx_check_options.proofs.Fronts.{front-singles, narrowed-some, narrowed-kept, unary-front, binary-front, exchange-front}

-- ---- tests at a node

-- those that an accepted node passes
record Passed (catalog : ℕ → Relation) (q : Plan) : Type 0 where
  sizes : sizes_match q ≡ true
  once : not_replicated q ≡ true
  inputs : inputs_match q ≡ true
  given : order_given q ≡ true
  part : part_shown catalog q ≡ true
  order : order_shown catalog q ≡ true

passed : (catalog : ℕ → Relation) (q : Plan) → allowed_here catalog q ≡ true → Passed catalog q
passed catalog q h =
    let t = eight (sizes_match q) (not_replicated q) (inputs_match q) (order_given q) (first_rows_known catalog q) (part_shown catalog q) (order_shown catalog q) (keys_shown catalog q) h in
    record { sizes = t.0; once = t.1; inputs = t.2; given = t.3; part = t.5; order = t.6 }

or-drop : (b c : Bool) → b ≡ false → (b || c) ≡ true → c ≡ true
or-drop true c h k = cc
or-drop false c h k = k

-- the claimed part is shown by a way
part-shown : (catalog : ℕ → Relation) (q : Plan) → Passed catalog q → is_one (size q) ≡ false → shown_part (behaviour catalog q) (claim q).part ≡ true
part-shown catalog q h several =
    or-drop (is_one (size q)) (shown_part (behaviour catalog q) (claim q).part) several (sym (parts-exactly catalog q (claim q).part h.inputs) ∙ h.part)

none-of : (n : ℕ) (a b c d e : Bool) → a ≡ true → b ≡ true → c ≡ true → d ≡ true → e ≡ true
    → refused_at n ((a, size_mismatch) ∷ (b, replicated_input) ∷ (c, inputs_not_matched) ∷ (d, order_needed) ∷ (e, order_not_shown) ∷ []) ≡ None
none-of n a b c d e ha hb hc hd he = rw (ha, hb, hc, hd, he) refl

both-none : (o o' : Option (ℕ × Rule)) → o ≡ None → o' ≡ None → or_else o o' ≡ None
both-none (Some x) o' h k = cc
both-none None o' h k = k

-- ---- the same nodes

pub same-size : (p q : Plan) → Keeps p q → size q ≡ size p
same-size (scan n c r m z) q k = ap size k.1
same-size (unary n c op p) q k = ap size k.2 ∙ same-size p k.1 k.4
same-size (binary n c op p p2) q k = ap size k.3 ∙ same-size p k.1 k.5
same-size (exchange n c kind m p) q k = ap size k.2

pub same-width : (catalog : ℕ → Relation) (p q : Plan) → Keeps p q → width catalog q ≡ width catalog p
same-width catalog (scan n c r m z) q k = ap (width catalog) k.1
same-width catalog (unary n c op p) q k = ap (width catalog) k.2 ∙ ap (unary_width op) (same-width catalog p k.1 k.4)
same-width catalog (binary n c op p p2) q k =
    ap (width catalog) k.3
    ∙ (ap (λ v. binary_width op v (width catalog k.2)) (same-width catalog p k.1 k.5) ∙ ap (binary_width op (width catalog p)) (same-width catalog p2 k.2 k.6))
same-width catalog (exchange n c kind m p) q k = ap (width catalog) k.2 ∙ same-width catalog p k.1 k.4

both-several : (a b : Size) → size_eq a b ≡ true → is_one a ≡ false → is_one b ≡ false
both-several one_worker b h k = cc
both-several (group_of i) one_worker h k = cc
both-several (group_of i) (group_of j) h k = refl

-- ---- columns that there may be

few-below : (w : ℕ) (cols : List ℕ) → nat_le w 64 ≡ true → all_below w cols ≡ true → are_few cols ≡ true
few-below w cols l h = all-more (λ c. nat_lt c w) (λ c. nat_lt c 64) cols (λ c e. grind (arith, nat_tests, l, e)) h

part-few : (s : Scope) (types : List ColType) (q : Part) → nat_le (length types) 64 ≡ true → is_part s types q ≡ true → names_few q ≡ true
part-few s types (routed (by_hash name) cols) l h =
    few-below (length types) cols l
    (and-left (all_below (length types) cols) (are_distinct cols) (and-right (is_some_list cols) (are_columns (length types) cols) (and-right (is_some_list name) (is_some_list cols && are_columns (length types) cols) h)))
part-few s types (routed (by_range k) []) l h = cc
part-few s types (routed (by_range k) (c ∷ [])) l h =
    let rest : (nat_lt c (length types) && type_eq (type_at types c) (range_type (bounds_at s.ranges k))) ≡ true
    = and-right (nat_lt k (length s.ranges)) (nat_lt c (length types) && type_eq (type_at types c) (range_type (bounds_at s.ranges k))) h in
    few-below (length types) (c ∷ []) l (and-both (nat_lt c (length types)) true (and-left (nat_lt c (length types)) (type_eq (type_at types c) (range_type (bounds_at s.ranges k))) rest) refl)
part-few s types (routed (by_range k) (c ∷ d ∷ cols)) l h = cc
part-few s types one l h = refl
part-few s types any l h = refl
part-few s types all l h = refl

output-few : (s : Scope) (types : List ColType) (d : Claim) → is_output s types d ≡ true → names_few d.part ≡ true
output-few s types d h =
    part-few s types d.part (and-left (nat_le (length types) 64) (is_claim s types d) h)
    (and-left (is_part s types d.part) (are_columns (length types) (order_columns d.order) && list_all (are_columns (length types)) d.keys) (and-right (nat_le (length types) 64) (is_claim s types d) h))

-- ---- the part of a node

-- no bound cuts anything off at the node, or the claim is its own
abbrev Here : (ℕ → Relation) → Plan → (lefts rights : List Part) → Claim → Type 0
Here catalog p lefts rights d = (is_within_here catalog p lefts rights ≡ true) ⊎ (d ≡ claim p)

whole-here : (catalog : ℕ → Relation) (p : Plan) (lefts rights : List Part) (d : Claim) → is_one (size p) ≡ false → Here catalog p lefts rights d
    → Whole catalog p (claim p).part lefts rights ⊎ (d.part ≡ (claim p).part)
whole-here catalog p lefts rights d several here =
    ⊎_elim
    (λ h.
    let l = and-left (nat_le (length (parts_above catalog p lefts rights)) 64) (each_way catalog p is_whole lefts rights) h in
    inl (
      subst (λ b. nat_le (length (cond b (one ∷ []) (told_parts catalog p (claim p).part lefts rights))) 64 ≡ true) several l,
      and-right (nat_le (length (parts_above catalog p lefts rights)) 64) (each_way catalog p is_whole lefts rights) h,
    ))
    (λ e. inr (ap (λ c. c.part) e)) here

-- a part that the node shows with those that its inputs claim
record Shows (catalog : ℕ → Relation) (p : Plan) (lefts rights : List Part) (q : Part) : Type 0 where
  left : Part
  right : Part
  left_told : is_told lefts left ≡ true
  right_told : is_told rights right ≡ true
  given : gives_part catalog p q left right ≡ true

-- the claimed part is among the options, and there are some
record Fits (catalog : ℕ → Relation) (p : Plan) (lefts rights : List Part) (q : Part) : Type 0 where
  told : (is_one (size p) || is_told (take 64 (parts_above catalog p lefts rights)) q) ≡ true
  some : is_some_list (take 64 (parts_above catalog p lefts rights)) ≡ true

told-some : (parts : List Part) (q : Part) → is_told parts q ≡ true → is_some_list parts ≡ true
told-some [] q h = cc
told-some (x ∷ parts) q h = refl

part-fits : (catalog : ℕ → Relation) (p : Plan) (a b : Bool) (lefts rights : List Part) (d : Claim) → keeps_part (claim p).part d.part ≡ true → names_few d.part ≡ true
    → list_all (one_or a) lefts ≡ true → list_all (one_or b) rights ≡ true → Here catalog p lefts rights d → (is_one (size p) ≡ false → Shows catalog p lefts rights d.part)
    → Fits catalog p lefts rights d.part
part-fits catalog p a b lefts rights d keeps few h k here shows =
    let w = by (is_one (size p)) refl in record { told = w.0; some = w.1 }
  where
    by : (t : Bool) → is_one (size p) ≡ t
        → ((t || is_told (take 64 (cond t (one ∷ []) (told_parts catalog p (claim p).part lefts rights))) d.part) ≡ true)
        × (is_some_list (take 64 (cond t (one ∷ []) (told_parts catalog p (claim p).part lefts rights))) ≡ true)
    by true e = (refl, refl)
    by false e =
        let w = shows e in
        let g = shown-among catalog p d.part w.left w.right lefts rights w.left_told w.right_told w.given in
        let t = node-told catalog p a b lefts rights (claim p).part d.part keeps few h k (whole-here catalog p lefts rights d e here) g in
        (t, told-some (take 64 (told_parts catalog p (claim p).part lefts rights)) d.part t)

-- ---- the induction

-- what accepted claims are worth
abbrev Outcome : (ℕ → Relation) → Plan → Plan → Type 0
Outcome catalog p q =
    (first_unfit catalog p ≡ None) × ((is_one (size p) || is_told (parts_at catalog p) (claim q).part) ≡ true) × (may_begin (claim q).order (places_at catalog p) ≡ true)

abbrev Only : Scope → Plan → Plan → Type 0
Only s p q = (is_within (relation_at s.catalog) p ≡ true) ⊎ (q ≡ p) → typed s q ≡ true → allowed (relation_at s.catalog) q ≡ true → Outcome (relation_at s.catalog) p q

of-scan : (s : Scope) (n : ℕ) (c d : Claim) (r : ℕ) (m : Bool) (z : Size) → KeepsClaim c d → Only s (scan n c r m z) (scan n d r m z)
of-scan s n c d r m z kc whole t ok =
    let catalog : ℕ → Relation = relation_at s.catalog in
    let p : Plan = scan n c r m z in
    let q : Plan = scan n d r m z in
    let h = passed catalog q ok in
    let few = output-few s (types_of catalog q) d (and-right (is_size s.sizes z) (is_output s (types_of catalog q) d) (and-right (nat_lt r (length s.catalog)) (is_size s.sizes z && is_output s (types_of catalog q) d) t)) in
    let fit = part-fits catalog p false false no_input no_input d kc.0 few refl refl (⊎_elim (λ w. inl w) (λ e. inr cc) whole)
    (λ several. record { left = any; right = any; left_told = refl; right_told = refl; given = part-shown catalog q h several }) in
    let front = front-singles d.order (catalog r).order h.order in (
      none-of n (sizes_match p) (can_send catalog p) (can_meet catalog p) (can_order catalog p) (can_keep catalog p) refl refl fit.some refl
          (narrowed-some c.order d.order (places_over catalog p [] []) kc.1 front),
      fit.told,
      narrowed-kept c.order d.order (places_over catalog p [] []) kc.1 front,
    )

of-unary : (s : Scope) (n : ℕ) (c d : Claim) (op : Unary) (p p' : Plan) → KeepsClaim c d → Keeps p p' → Only s p p' → Only s (unary n c op p) (unary n d op p')
of-unary s n c d op p p' kc k ih whole t ok =
    let catalog : ℕ → Relation = relation_at s.catalog in
    let top : Plan = unary n c op p in
    let q : Plan = unary n d op p' in
    let outputs : Bool = is_output s (types_of catalog q) d in
    let types : List ColType = types_of catalog p' in
    let t1 = and-right (typed s p') (phase_fits op p' && (is_unary types op && outputs)) t in
    let few = output-few s (types_of catalog q) d (and-right (is_unary types op) outputs (and-right (phase_fits op p') (is_unary types op && outputs) t1)) in
    let here : Bool = is_within_here catalog top (parts_at catalog p) no_input in
    let low = ih (⊎_elim (λ w. inl (and-left (is_within catalog p) here w)) (λ e. inr cc) whole) (and-left (typed s p') (phase_fits op p' && (is_unary types op && outputs)) t)
    (and-left (allowed catalog p') (allowed_here catalog q) ok) in
    let h = passed catalog q (and-right (allowed catalog p') (allowed_here catalog q) ok) in
    let sizes : size p' ≡ size p = same-size p p' k in
    let fit = part-fits catalog top (replicated p) false (parts_at catalog p) no_input d kc.0 few (options-alike catalog p) refl (⊎_elim (λ w. inl (and-right (is_within catalog p) here w)) (λ e. inr cc) whole)
    (λ several.
    let below : is_one (size p') ≡ false = ap is_one sizes ∙ several in
    record {
      left = (claim p').part;
      right = any;
      left_told = or-drop (is_one (size p)) (is_told (parts_at catalog p) (claim p').part) several low.1;
      right_told = refl;
      given = subst (λ b. list_any (λ w. gives w d.part) (ways_along (described op) (b, (claim p').part)) ≡ true) below (part-shown catalog q h below);
    }) in
    let front = unary-front catalog n d op p' (places_at catalog p) h.order low.2 in (
      both-none (first_unfit catalog p) (refused_at n (fit_tests catalog top)) low.0
          (none-of n (sizes_match top) (can_send catalog top) (can_meet catalog top) (can_order catalog top) (can_keep catalog top) refl refl fit.some refl
          (narrowed-some c.order d.order (places_over catalog top [] (places_at catalog p)) kc.1 front)),
      fit.told,
      narrowed-kept c.order d.order (places_over catalog top [] (places_at catalog p)) kc.1 front,
    )

both-ordered : (catalog : ℕ → Relation) (n m : ℕ) (c d : Claim) (op : Binary) (p q p' q' : Plan) → order_given (binary m d op p' q') ≡ true → may_begin (claim p').order (places_at catalog p) ≡ true
    → may_begin (claim q').order (places_at catalog q) ≡ true → can_order catalog (binary n c op p q) ≡ true
both-ordered catalog n m c d union p q p' q' g f h = refl
both-ordered catalog n m c d (join (by_merging falls) on) p q p' q' g f h =
    let lefts : List OrderEntry = left_order falls on in
    let rights : List OrderEntry = right_order falls on in
    and-both (is_some (narrowed lefts (places_at catalog p))) (is_some (narrowed rights (places_at catalog q)))
    (narrowed-some lefts (claim p').order (places_at catalog p) (and-left (is_front lefts (claim p').order) (is_front rights (claim q').order) g) f)
    (narrowed-some rights (claim q').order (places_at catalog q) (and-right (is_front lefts (claim p').order) (is_front rights (claim q').order) g) h)
both-ordered catalog n m c d (join by_hashing on) p q p' q' g f h = refl
both-ordered catalog n m c d (semi_join matched on conditions) p q p' q' g f h = refl

-- what a node over two inputs shows, by their parts alone
both-given : (catalog : ℕ → Relation) (n m : ℕ) (c d : Claim) (op : Binary) (p q p' q' : Plan) (x : Part) → width catalog p' ≡ width catalog p → is_one (size p') ≡ false → is_one (size q') ≡ false
    → shown_part (behaviour catalog (binary m d op p' q')) x ≡ true → gives_part catalog (binary n c op p q) x (claim p').part (claim q').part ≡ true
both-given catalog n m c d op p q p' q' x wide left right h =
    let y : Part = (claim p').part in
    let z : Part = (claim q').part in
    let at = λ (w : ℕ) (a b : Bool). list_any (λ v. gives v x) (ways_over (described_both w op).meeting (described_both w op) (a, y) (b, z)) in
    let one_less : at (width catalog p) (is_one (size p')) (is_one (size q')) ≡ true = subst (λ w. at w (is_one (size p')) (is_one (size q')) ≡ true) wide h in
    let two_less : at (width catalog p) false (is_one (size q')) ≡ true = subst (λ a. at (width catalog p) a (is_one (size q')) ≡ true) left one_less in
    subst (λ b. at (width catalog p) false b ≡ true) right two_less

of-binary : (s : Scope) (n : ℕ) (c d : Claim) (op : Binary) (p q p' q' : Plan) → KeepsClaim c d → Keeps p p' → Keeps q q' → Only s p p' → Only s q q' → Only s (binary n c op p q) (binary n d op p' q')
of-binary s n c d op p q p' q' kc kl kr ihl ihr whole t ok =
    let catalog : ℕ → Relation = relation_at s.catalog in
    let top : Plan = binary n c op p q in
    let node : Plan = binary n d op p' q' in
    let outputs : Bool = is_output s (types_of catalog node) d in
    let fitting : Bool = is_binary (types_of catalog p') (types_of catalog q') op && outputs in
    let t1 = and-right (typed s p') (typed s q' && (both_closed p' q' && fitting)) t in
    let t2 = and-right (typed s q') (both_closed p' q' && fitting) t1 in
    let few = output-few s (types_of catalog node) d (and-right (is_binary (types_of catalog p') (types_of catalog q') op) outputs (and-right (both_closed p' q') fitting t2)) in
    let here : Bool = is_within_here catalog top (parts_at catalog p) (parts_at catalog q) in
    let ok1 = and-right (allowed catalog p') (allowed catalog q' && allowed_here catalog node) ok in
    let low = ihl (⊎_elim (λ w. inl (and-left (is_within catalog p) (is_within catalog q && here) w)) (λ e. inr cc) whole) (and-left (typed s p') (typed s q' && (both_closed p' q' && fitting)) t)
    (and-left (allowed catalog p') (allowed catalog q' && allowed_here catalog node) ok) in
    let low2 = ihr (⊎_elim (λ w. inl (and-left (is_within catalog q) here (and-right (is_within catalog p) (is_within catalog q && here) w))) (λ e. inr cc) whole)
    (and-left (typed s q') (both_closed p' q' && fitting) t1) (and-left (allowed catalog q') (allowed_here catalog node) ok1) in
    let h = passed catalog node (and-right (allowed catalog q') (allowed_here catalog node) ok1) in
    let left_size : size p' ≡ size p = same-size p p' kl in
    let right_size : size q' ≡ size q = same-size q q' kr in
    let sizes : size_eq (size p) (size q) ≡ true = rw (← left_size, ← right_size) h.sizes in
    let fit = part-fits catalog top (replicated p) (replicated q) (parts_at catalog p) (parts_at catalog q) d kc.0 few (options-alike catalog p) (options-alike catalog q)
    (⊎_elim (λ w. inl (and-right (is_within catalog q) here (and-right (is_within catalog p) (is_within catalog q && here) w))) (λ e. inr cc) whole)
    (λ several.
    let right_several : is_one (size q) ≡ false = both-several (size p) (size q) sizes several in
    let below : is_one (size p') ≡ false = ap is_one left_size ∙ several in
    record {
      left = (claim p').part;
      right = (claim q').part;
      left_told = or-drop (is_one (size p)) (is_told (parts_at catalog p) (claim p').part) several low.1;
      right_told = or-drop (is_one (size q)) (is_told (parts_at catalog q) (claim q').part) right_several low2.1;
      given = both-given catalog n n c d op p q p' q' d.part (same-width catalog p p' kl) below (ap is_one right_size ∙ right_several) (part-shown catalog node h below);
    }) in
    let front = binary-front catalog n d op p' q' (places_at catalog p) h.order h.given low.2 in (
      both-none (first_unfit catalog p) (or_else (first_unfit catalog q) (refused_at n (fit_tests catalog top))) low.0
          (both-none (first_unfit catalog q) (refused_at n (fit_tests catalog top)) low2.0
          (none-of n (sizes_match top) (can_send catalog top) (can_meet catalog top) (can_order catalog top) (can_keep catalog top) sizes refl fit.some
          (both-ordered catalog n n c d op p q p' q' h.given low.2 low2.2) (narrowed-some c.order d.order (places_over catalog top [] (places_at catalog p)) kc.1 front))),
      fit.told,
      narrowed-kept c.order d.order (places_over catalog top [] (places_at catalog p)) kc.1 front,
    )

-- the input of an exchange has each row once where it claims that
sent-once : (a b : Bool) (parts : List Part) (y : Part) → b ≡ a → (b || part_gives y any) ≡ true → (a || is_told parts y) ≡ true → (a || list_any (λ x. part_gives x any) parts) ≡ true
sent-once true b parts y e h k = refl
sent-once false b parts y e h k = told-by parts y any k (or-drop b (part_gives y any) e h)

of-exchange : (s : Scope) (n : ℕ) (c d : Claim) (kind : ExchangeKind) (m : List OrderEntry) (p p' : Plan) → KeepsClaim c d → Keeps p p' → Only s p p' → Only s (exchange n c kind m p) (exchange n d kind m p')
of-exchange s n c d kind m p p' kc k ih whole t ok =
    let catalog : ℕ → Relation = relation_at s.catalog in
    let top : Plan = exchange n c kind m p in
    let q : Plan = exchange n d kind m p' in
    let types : List ColType = types_of catalog p' in
    let outputs : Bool = is_output s types d in
    let merging : Bool = are_columns (length types) (order_columns m) && (may_merge kind m && outputs) in
    let t1 = and-right (typed s p') (is_kind s types kind && merging) t in
    let t2 = and-right (are_columns (length types) (order_columns m)) (may_merge kind m && outputs) (and-right (is_kind s types kind) merging t1) in
    let few = output-few s types d (and-right (may_merge kind m) outputs t2) in
    let here : Bool = is_within_here catalog top no_input no_input in
    let low = ih (⊎_elim (λ w. inl (and-left (is_within catalog p) here w)) (λ e. inr cc) whole) (and-left (typed s p') (is_kind s types kind && merging) t)
    (and-left (allowed catalog p') (allowed_here catalog q) ok) in
    let h = passed catalog q (and-right (allowed catalog p') (allowed_here catalog q) ok) in
    let sizes : size p' ≡ size p = same-size p p' k in
    let fit = part-fits catalog top false false no_input no_input d kc.0 few refl refl (⊎_elim (λ w. inl (and-right (is_within catalog p) here w)) (λ e. inr cc) whole)
    (λ several. record { left = any; right = any; left_told = refl; right_told = refl; given = part-shown catalog q h several }) in
    let front = exchange-front catalog n d kind m p p' (parts_at catalog p) (places_at catalog p) sizes (and-left (may_merge kind m) outputs t2) h.order h.given low.1 low.2 in (
      both-none (first_unfit catalog p) (refused_at n (fit_tests catalog top)) low.0
          (none-of n (sizes_match top) (can_send catalog top) (can_meet catalog top) (can_order catalog top) (can_keep catalog top) refl
          (sent-once (is_one (size p)) (is_one (size p')) (parts_at catalog p) (claim p').part (ap is_one sizes) h.once low.1) fit.some
          (narrowed-some m (claim p').order (places_at catalog p) h.given low.2)
          (narrowed-some c.order d.order (places_over catalog top (parts_at catalog p) (places_at catalog p)) kc.1 front)),
      fit.told,
      narrowed-kept c.order d.order (places_over catalog top (parts_at catalog p) (places_at catalog p)) kc.1 front,
    )

pub only-options : OnlyOptions
only-options s (scan n c r m z) q k = subst (λ v. Only s (scan n c r m z) v) (sym k.1) (of-scan s n c k.0 r m z k.2)
only-options s (unary n c op p) q k = subst (λ v. Only s (unary n c op p) v) (sym k.2) (of-unary s n c k.0 op p k.1 k.3 k.4 (only-options s p k.1 k.4))
only-options s (binary n c op p p2) q k =
    subst (λ v. Only s (binary n c op p p2) v) (sym k.3) (of-binary s n c k.0 op p p2 k.1 k.2 k.4 k.5 k.6 (only-options s p k.1 k.5) (only-options s p2 k.2 k.6))
only-options s (exchange n c kind m p) q k = subst (λ v. Only s (exchange n c kind m p) v) (sym k.2) (of-exchange s n c k.0 kind m p k.1 k.3 k.4 (only-options s p k.1 k.4))
