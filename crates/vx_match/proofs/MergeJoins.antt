-- Turns of a merge join.
use Rattle.std.proofs.Common.{◌≡◌, ℕ, ◌⊎◌, Bool, true, false, List, [], ◌∷◌, ◌++◌, length, map, flat_map, drop, refl, sym, ap, ◌∙◌, subst, inl, inr, append_assoc, append-nil, arith}
use Rattle.vx_rows_values.specs.declared.order.OrderEntry.{OrderEntry}
use Rattle.vx_rows_values.specs.Values.{Row}
use Rattle.vx_rows_values.specs.Order.{order_columns, in_directions, sorted}
use Rattle.std.proofs.lemmas.List.{length-map}
use Rattle.vx_rows.specs.Lists.{IsBeginning}
use Rattle.vx_ports.specs.Packets.{rows_of}
use Rattle.vx_plan_nodes.specs.Plan.{join, by_merging, left_order, right_order}
use Rattle.vx_plan_nodes.specs.Serial.{join_rows}
use Rattle.vx_match_keys.specs.Matched.{matched}
use Rattle.vx_match_merging.specs.Keys.{directions}
use Rattle.vx_match_merging.specs.Merged.{MergeView, HasJoined, HasSameShape, HasSameInputs, MergeBlame, joined_rows, merge_need}
use Rattle.vx_match_merging.specs.declared.merging.MergeFault.{MergeFault}
use Rattle.vx_match_merging.specs.declared.merging.MergeFault.TheVariants.{Falls, NoMemory as Refused}
use Rattle.vx_match_merging.specs.declared.merging.MergeNeed.TheVariants as need
use Rattle.vx_match_merging.proofs.MergeTurns.{joined-some, joined-front, joined-all, need-end}
use Rattle.vx_ops.specs.Ledger.{Ledger, two_op, Begun, OwnBlame}
use Rattle.vx_ops.specs.Begun.{all_of, begun_whole}
use Rattle.vx_ops.specs.Turn.{fresh_ledger}
use Rattle.vx_ops.specs.declared.fault.Fault.{Fault}
use Rattle.vx_ops.specs.declared.fault.StreamState.{StreamState}
use Rattle.vx_ops.specs.declared.fault.StreamState.TheVariants.{Running, Ended, Failed}
use Rattle.vx_ops.proofs.Turns.{running-ended, running-failed, ended-failed, failed-ended, failed-running, ended-running, same-fault}
use Rattle.vx_match.specs.MergeJoin.{Merges, IsMergeJoined, over_of, fault_of}

none-of : (ys : List Row) → length ys ≡ 0 → ys ≡ []
none-of [] e = refl
none-of (y ∷ ys) e = absurd (omega (arith, e))

-- an input that has not failed
not-failed : (b : Bool) (o : StreamState) (f : Fault) → o ≡ over_of b → o ≡ Failed f → ⊥
not-failed true o f e h = ended-failed f (sym e ∙ h)
not-failed false o f e h = running-failed f (sym e ∙ h)

-- the ledger after rows came on the left, and on the right
abbrev pub with_left : Ledger → List Row → Ledger
with_left l xs = record l { left = record { rows = l.left.rows ++ xs; over = l.left.over } }

abbrev pub with_right : Ledger → List Row → Ledger
with_right l xs = record l { right = record { rows = l.right.rows ++ xs; over = l.right.over } }

-- after an input stands so
abbrev pub with_left_over : Ledger → StreamState → Ledger
with_left_over l o = record l { left = record { rows = l.left.rows; over = o } }

abbrev pub with_right_over : Ledger → StreamState → Ledger
with_right_over l o = record l { right = record { rows = l.right.rows; over = o } }

-- after rows were returned, and after the operator stands so
abbrev pub with_rows : Ledger → List Row → Ledger
with_rows l ys = record l { gave = record { rows = l.gave.rows ++ ys; over = l.gave.over } }

abbrev pub with_over : Ledger → StreamState → Ledger
with_over l o = record l { gave = record { rows = l.gave.rows; over = o } }

-- the columns of pairs in as many directions
directed-columns : (columns : List ℕ) (falls : List Bool) → length falls ≡ length columns → order_columns (in_directions columns falls) ≡ columns
directed-columns [] [] e = refl
directed-columns [] (f ∷ falls) e = absurd (omega (arith, e))
directed-columns (c ∷ columns) [] e = absurd (omega (arith, e))
directed-columns (c ∷ columns) (f ∷ falls) e = ap (λ cs. c ∷ cs) (directed-columns columns falls (omega (arith, e)))

directed-falls : (columns : List ℕ) (falls : List Bool) → length falls ≡ length columns → directions (in_directions columns falls) ≡ falls
directed-falls [] [] e = refl
directed-falls [] (f ∷ falls) e = absurd (omega (arith, e))
directed-falls (c ∷ columns) [] e = absurd (omega (arith, e))
directed-falls (c ∷ columns) (f ∷ falls) e = ap (λ fs. f ∷ fs) (directed-falls columns falls (omega (arith, e)))

-- the columns on which a kernel joins
module _ (falls : List Bool) (on : List (ℕ × ℕ)) (directed : length falls ≡ length on) where
  pub lefts-on : (order : List OrderEntry) → order ≡ left_order falls on → order_columns order ≡ map (λ p. p.0) on
  lefts-on order e = ap order_columns e ∙ directed-columns (map (λ p. p.0) on) falls (directed ∙ sym (length-map on (λ p. p.0)))

  pub rights-on : (order : List OrderEntry) → order ≡ right_order falls on → order_columns order ≡ map (λ p. p.1) on
  rights-on order e = ap order_columns e ∙ directed-columns (map (λ p. p.1) on) falls (directed ∙ sym (length-map on (λ p. p.1)))

  pub falls-alike : (lefts rights : List OrderEntry) → lefts ≡ left_order falls on → rights ≡ right_order falls on → directions lefts ≡ directions rights
  falls-alike lefts rights e f =
      (ap directions e ∙ directed-falls (map (λ p. p.0) on) falls (directed ∙ sym (length-map on (λ p. p.0))))
      ∙ sym (ap directions f ∙ directed-falls (map (λ p. p.1) on) falls (directed ∙ sym (length-map on (λ p. p.1))))

module _ (n : ℕ) (falls : List Bool) (on : List (ℕ × ℕ)) where
  -- what was returned is the join of the left rows that were joined with the right rows that had come, also when more came since
  begun-later : (k : MergeView) (l m : Ledger) → order_columns k.lefts ≡ map (λ p. p.0) on → order_columns k.rights ≡ map (λ p. p.1) on → HasJoined k l.left.rows l.right.rows l.gave.rows
      → m.gave.rows ≡ l.gave.rows → IsBeginning l.left.rows m.left.rows → IsBeginning l.right.rows m.right.rows → Begun (two_op n (join (by_merging falls) on)) m
  begun-later k l m e f h g a b = record {
    inputs = record m { left = record { rows = joined_rows k h.earlier; over = m.left.over }; right = record { rows = l.right.rows; over = m.right.over } };
    begins = record {
      left = record {
        rest = drop k.next k.left.rows ++ a.rest;
        joined = sym (append_assoc (joined_rows k h.earlier) (drop k.next k.left.rows) a.rest) ∙ (ap (λ xs. xs ++ a.rest) (joined-front k l.left.rows l.right.rows l.gave.rows h) ∙ a.joined);
      };
      right = b;
      came = λ i. all_of (rows_of (m.came i));
    };
    whole = l.gave.rows;
    makes = sym (joined-some k l.left.rows l.right.rows l.gave.rows h ∙ (λ i. flat_map (matched (e i) (f i) l.right.rows) (joined_rows k h.earlier)));
    gave = record { rest = []; joined = append-nil m.gave.rows ∙ g };
  }

  begun-joined : (k : MergeView) (l m : Ledger) → order_columns k.lefts ≡ map (λ p. p.0) on → order_columns k.rights ≡ map (λ p. p.1) on → HasJoined k l.left.rows l.right.rows l.gave.rows
      → m.gave.rows ≡ l.gave.rows → l.left.rows ≡ m.left.rows → l.right.rows ≡ m.right.rows → Begun (two_op n (join (by_merging falls) on)) m
  begun-joined k l m e f h g a b =
      begun-later k l m e f h g (record { rest = []; joined = append-nil l.left.rows ∙ a }) (record { rest = []; joined = append-nil l.right.rows ∙ b })

  -- it runs
  pub merging : (k : MergeView) (l : Ledger) (over : StreamState) → Merges falls on k l → l.gave.over ≡ over → over ≡ Running → IsMergeJoined n falls on k over l
  merging k l over m o runs = record {
    stands = o;
    runs = λ _. m;
    abides = record {
      before = begun-joined k l l (lefts-on falls on m.directed k.lefts m.lefts_are) (rights-on falls on m.directed k.rights m.rights_are) m.joined refl refl refl;
      ended = λ e. absurd (running-ended (sym (o ∙ runs) ∙ e));
      passes = λ f e. elim e [ inl h ↦ absurd (not-failed k.left_ended l.left.over f m.left_over h) | inr h ↦ absurd (not-failed k.right_ended l.right.over f m.right_over h) ];
      tests = tt;
      holds_back = tt;
      blame = λ f e. absurd (running-failed f (sym (o ∙ runs) ∙ e));
    };
  }

  -- nothing came
  pub merge-begins : (k : MergeView) → length falls ≡ length on → k.lefts ≡ left_order falls on → k.rights ≡ right_order falls on → k.left_ended ≡ false → k.right_ended ≡ false → HasJoined k [] [] []
      → IsMergeJoined n falls on k Running fresh_ledger
  merge-begins k d e f a b t = merging k fresh_ledger Running (record { left_over = ap over_of (sym a); right_over = ap over_of (sym b); directed = d; lefts_are = e; rights_are = f; joined = t }) refl refl

  module _ (k j : MergeView) (l : Ledger) (over : StreamState) (running : over ≡ Running) (h : IsMergeJoined n falls on k over l) where
    was : Merges falls on k l
    was = h.runs running

    was-lefts : order_columns k.lefts ≡ map (λ p. p.0) on
    was-lefts = lefts-on falls on was.directed k.lefts was.lefts_are

    was-rights : order_columns k.rights ≡ map (λ p. p.1) on
    was-rights = rights-on falls on was.directed k.rights was.rights_are

    -- a batch came on the left, and on the right
    pub left-came : (xs : List Row) → HasSameShape k j → j.left_ended ≡ k.left_ended → j.right_ended ≡ k.right_ended → HasJoined j (l.left.rows ++ xs) l.right.rows l.gave.rows
        → IsMergeJoined n falls on j over (with_left l xs)
    left-came xs s a b t = merging j (with_left l xs) over (record {
      left_over = was.left_over ∙ ap over_of (sym a);
      right_over = was.right_over ∙ ap over_of (sym b);
      directed = was.directed;
      lefts_are = s.lefts ∙ was.lefts_are;
      rights_are = s.rights ∙ was.rights_are;
      joined = t;
    }) h.stands running

    pub right-came : (xs : List Row) → HasSameShape k j → j.left_ended ≡ k.left_ended → j.right_ended ≡ k.right_ended → HasJoined j l.left.rows (l.right.rows ++ xs) l.gave.rows
        → IsMergeJoined n falls on j over (with_right l xs)
    right-came xs s a b t = merging j (with_right l xs) over (record {
      left_over = was.left_over ∙ ap over_of (sym a);
      right_over = was.right_over ∙ ap over_of (sym b);
      directed = was.directed;
      lefts_are = s.lefts ∙ was.lefts_are;
      rights_are = s.rights ∙ was.rights_are;
      joined = t;
    }) h.stands running

    -- an input ended
    pub left-ends : HasSameShape k j → j.left_ended ≡ true → j.right_ended ≡ k.right_ended → HasJoined j l.left.rows l.right.rows l.gave.rows → IsMergeJoined n falls on j over (with_left_over l Ended)
    left-ends s a b t = merging j (with_left_over l Ended) over (record {
      left_over = ap over_of (sym a);
      right_over = was.right_over ∙ ap over_of (sym b);
      directed = was.directed;
      lefts_are = s.lefts ∙ was.lefts_are;
      rights_are = s.rights ∙ was.rights_are;
      joined = t;
    }) h.stands running

    pub right-ends : HasSameShape k j → j.left_ended ≡ k.left_ended → j.right_ended ≡ true → HasJoined j l.left.rows l.right.rows l.gave.rows → IsMergeJoined n falls on j over (with_right_over l Ended)
    right-ends s a b t = merging j (with_right_over l Ended) over (record {
      left_over = was.left_over ∙ ap over_of (sym a);
      right_over = ap over_of (sym b);
      directed = was.directed;
      lefts_are = s.lefts ∙ was.lefts_are;
      rights_are = s.rights ∙ was.rights_are;
      joined = t;
    }) h.stands running

    -- rows were joined
    pub rows-joined : (ys : List Row) → HasSameInputs k j → HasJoined j l.left.rows l.right.rows (l.gave.rows ++ ys) → IsMergeJoined n falls on j over (with_rows l ys)
    rows-joined ys s t = merging j (with_rows l ys) over (record {
      left_over = was.left_over ∙ ap over_of (sym s.left_ended);
      right_over = was.right_over ∙ ap over_of (sym s.right_ended);
      directed = was.directed;
      lefts_are = s.lefts ∙ was.lefts_are;
      rights_are = s.rights ∙ was.rights_are;
      joined = t;
    }) h.stands running

    -- no row was joined
    pub none-joined : (ys : List Row) → length ys ≡ 0 → HasSameInputs k j → HasJoined j l.left.rows l.right.rows (l.gave.rows ++ ys) → IsMergeJoined n falls on j over l
    none-joined ys none s t = merging j l over (record {
      left_over = was.left_over ∙ ap over_of (sym s.left_ended);
      right_over = was.right_over ∙ ap over_of (sym s.right_ended);
      directed = was.directed;
      lefts_are = s.lefts ∙ was.lefts_are;
      rights_are = s.rights ∙ was.rights_are;
      joined = subst (HasJoined j l.left.rows l.right.rows) (ap (λ zs. l.gave.rows ++ zs) (none-of ys none) ∙ append-nil l.gave.rows) t;
    }) h.stands running

    -- an input failed
    pub left-fails : (f : Fault) → IsMergeJoined n falls on j (Failed f) (with_over (with_left_over l (Failed f)) (Failed f))
    left-fails f = record {
      stands = refl;
      runs = λ e. absurd (failed-running f e);
      abides = record {
        before = begun-joined k l (with_over (with_left_over l (Failed f)) (Failed f)) was-lefts was-rights was.joined refl refl refl;
        ended = λ e. absurd (failed-ended f e);
        passes = λ g e. elim e [ inl q ↦ q | inr q ↦ absurd (not-failed k.right_ended l.right.over g was.right_over q) ];
        tests = tt;
        holds_back = tt;
        blame = λ g e. inl (inl e);
      };
    }

    pub right-fails : (f : Fault) → IsMergeJoined n falls on j (Failed f) (with_over (with_right_over l (Failed f)) (Failed f))
    right-fails f = record {
      stands = refl;
      runs = λ e. absurd (failed-running f e);
      abides = record {
        before = begun-joined k l (with_over (with_right_over l (Failed f)) (Failed f)) was-lefts was-rights was.joined refl refl refl;
        ended = λ e. absurd (failed-ended f e);
        passes = λ g e. elim e [ inl q ↦ absurd (not-failed k.left_ended l.left.over g was.left_over q) | inr q ↦ q ];
        tests = tt;
        holds_back = tt;
        blame = λ g e. inl (inr e);
      };
    }

  own-blame : (e : MergeFault) (l : Ledger) (f : Fault)
      → MergeBlame e (sorted (left_order falls on) l.left.rows) ⊎ MergeBlame e (sorted (right_order falls on) l.right.rows) → fault_of e n ≡ f → OwnBlame (two_op n (join (by_merging falls) on)) l f
  own-blame Falls l f b e = let P : Fault → Type 0 = λ v. OwnBlame (two_op n (join (by_merging falls) on)) l v in subst P e (refl, b)
  own-blame Refused l f b e = let P : Fault → Type 0 = λ v. OwnBlame (two_op n (join (by_merging falls) on)) l v in subst P e tt

  -- it fails by itself
  fails : (k j : MergeView) (l : Ledger) (e : MergeFault) → Begun (two_op n (join (by_merging falls) on)) (with_over l (Failed (fault_of e n))) → l.left.over ≡ over_of k.left_ended → l.right.over ≡ over_of k.right_ended
      → MergeBlame e (sorted (left_order falls on) l.left.rows) ⊎ MergeBlame e (sorted (right_order falls on) l.right.rows) → IsMergeJoined n falls on j (Failed (fault_of e n)) (with_over l (Failed (fault_of e n)))
  fails k j l e begun a b blame =
      let g = fault_of e n in
      record {
        stands = refl;
        runs = λ q. absurd (failed-running g q);
        abides = record {
          before = begun;
          ended = λ q. absurd (failed-ended g q);
          passes = λ f q. elim q [ inl r ↦ absurd (not-failed k.left_ended l.left.over f a r) | inr r ↦ absurd (not-failed k.right_ended l.right.over f b r) ];
          tests = tt;
          holds_back = tt;
          blame = λ f q. inr (own-blame e (with_over l (Failed g)) f blame (same-fault g f q));
        };
      }

  module _ (k j : MergeView) (l : Ledger) (over : StreamState) (running : over ≡ Running) (h : IsMergeJoined n falls on k over l) where
    now : Merges falls on k l
    now = h.runs running

    lefts-now : order_columns k.lefts ≡ map (λ p. p.0) on
    lefts-now = lefts-on falls on now.directed k.lefts now.lefts_are

    rights-now : order_columns k.rights ≡ map (λ p. p.1) on
    rights-now = rights-on falls on now.directed k.rights now.rights_are

    pub join-fails : (e : MergeFault) → MergeBlame e (sorted k.lefts l.left.rows) → IsMergeJoined n falls on j (Failed (fault_of e n)) (with_over l (Failed (fault_of e n)))
    join-fails e blame =
        let B : List OrderEntry → Type 0 = λ by. MergeBlame e (sorted by l.left.rows) in
        fails k j l e (begun-joined k l (with_over l (Failed (fault_of e n))) lefts-now rights-now now.joined refl refl refl) now.left_over now.right_over (inl (subst B now.lefts_are blame))

    pub left-batch-fails : (e : MergeFault) (xs : List Row) → MergeBlame e (sorted k.lefts (l.left.rows ++ xs)) → IsMergeJoined n falls on j (Failed (fault_of e n)) (with_over (with_left l xs) (Failed (fault_of e n)))
    left-batch-fails e xs blame =
        let B : List OrderEntry → Type 0 = λ by. MergeBlame e (sorted by (l.left.rows ++ xs)) in
        fails k j (with_left l xs) e
        (begun-later k l (with_over (with_left l xs) (Failed (fault_of e n))) lefts-now rights-now now.joined refl (record { rest = xs; joined = refl }) (all_of l.right.rows))
        now.left_over now.right_over (inl (subst B now.lefts_are blame))

    pub right-batch-fails : (e : MergeFault) (xs : List Row) → MergeBlame e (sorted k.rights (l.right.rows ++ xs)) → IsMergeJoined n falls on j (Failed (fault_of e n)) (with_over (with_right l xs) (Failed (fault_of e n)))
    right-batch-fails e xs blame =
        let B : List OrderEntry → Type 0 = λ by. MergeBlame e (sorted by (l.right.rows ++ xs)) in
        fails k j (with_right l xs) e
        (begun-later k l (with_over (with_right l xs) (Failed (fault_of e n))) lefts-now rights-now now.joined refl (all_of l.left.rows) (record { rest = xs; joined = refl }))
        now.left_over now.right_over (inr (subst B now.rights_are blame))

    pub join-ends : merge_need k ≡ need.End → IsMergeJoined n falls on j Ended (with_over l Ended)
    join-ends needed =
        let r = need-end k needed in
        let all : join_rows on l.left.rows l.right.rows ≡ l.gave.rows =
        sym (joined-all k l.left.rows l.right.rows l.gave.rows now.joined r.0 ∙ (λ i. flat_map (matched (lefts-now i) (rights-now i) l.right.rows) l.left.rows)) in
        record {
          stands = refl;
          runs = λ q. absurd (ended-running q);
          abides = record {
            before = begun_whole (two_op n (join (by_merging falls) on)) (with_over l Ended) all;
            ended = λ q. ((now.left_over ∙ ap over_of r.1, now.right_over ∙ ap over_of r.2), all);
            passes = λ f q. elim q [ inl r ↦ absurd (not-failed k.left_ended l.left.over f now.left_over r) | inr r ↦ absurd (not-failed k.right_ended l.right.over f now.right_over r) ];
            tests = tt;
            holds_back = tt;
            blame = λ f q. absurd (ended-failed f q);
          };
        }
