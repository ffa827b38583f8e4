-- A merge of growing streams, after each of its calls.
use Rattle.std.proofs.Common.{ℕ, zero, suc, ◌≡◌, ◌≢◌, ◌<◌, ◌≤◌, ◌+◌, ◌-◌, ◌⊎◌, inl, inr, refl, sym, ap, ◌∙◌, arith, subst, List, [], ◌∷◌, ◌++◌, Bool, true, false, true≢false, Option, Some, None, slice_get, length, get_or, drop, append-nil, append_assoc, All, is_le}
use Rattle.std.proofs.Math.ListN.{set}
use Rattle.std.proofs.Common.{length-set}
use Rattle.std.proofs.Math.Seq.{drop-append_seam}
use Rattle.std.specs.Prelude.{slice_range}
use Rattle.std.specs.List.{AllByRecursion, Contains}
use Rattle.std.proofs.lemmas.List.{drop_all}
use Rattle.std.proofs.lemmas.List.Folds.{drop_split}
use Rattle.std.proofs.lemmas.Option.{slice_get_within, get_or_from_slice_get}
use Rattle.std.proofs.lemmas.Bool.Decides.{eqb_tells}
use Rattle.vx_rows_values.specs.declared.order.OrderEntry.{OrderEntry}
use Rattle.vx_rows_values.specs.Values.{Row}
use Rattle.vx_rows_values.specs.declared.value.ColType.{ColType}
use Rattle.vx_rows_values.specs.Order.{compare_on, sorted}
use Rattle.vx_plan_nodes.specs.Streams.{Streams, Dealt}
use Rattle.vx_exchange_receivers.specs.declared.heads.StreamHead.{StreamHead}
use Rattle.vx_exchange_receivers.specs.Merged.{with_more, instead, Merged}
use Rattle.vx_exchange_receivers.specs.Heads.{Lacks, LacksAt, held, left_of, has_ended, held_at, left_at, next_at, ended_at, position_at, last_of, IsFresh, IsRun, AreAll}
use Rattle.vx_exchange_receivers.specs.Merge.{EndsIn, IsMergeOf}
use Rattle.vx_exchange_receivers.proofs.Merging.{nothing-is-merged, rows-come, same-merged, all-is-merged}
use Rattle.vx_exchange_receivers.proofs.HeadFacts.{set-there, set-other, begins-at, none-left}
use Rattle.vx_exchange_receivers.proofs.Orders.{has-either}
use Rattle.vx_exchange_receivers.proofs.Runs.{more-there, more-other, instead-there, instead-other, each-in-range, run-goes}
use Rattle.vx_exchange_receivers.proofs.Rises.{ends-last, last-rises, last-falls}

pub by-order : {P : Type 0} (n m : ℕ) → (n < m → P) → (m ≤ n → P) → P
by-order n zero f g = g (omega arith)
by-order zero (suc m) f g = f (omega arith)
by-order (suc n) (suc m) f g = by-order n m (λ l. f (omega (arith, l))) (λ l. g (omega (arith, l)))

-- what holds of all heads holds of the one at a place
pub head-of : (P : StreamHead → Type 0) (hs : List StreamHead) (p : ℕ) (h : StreamHead) → All P hs → slice_get hs p ≡ Some h → P h
head-of P hs p h all e = subst P (get_or_from_slice_get hs p h h e) (all p h (slice_get_within hs p h e))

-- a fact of each place, from the heads that there are
by-head : (P : Option StreamHead → Type 0) (o : Option StreamHead) → P None → ((h : StreamHead) → o ≡ Some h → P (Some h)) → P o
by-head P None n s = n
by-head P (Some h) n s = s h refl

there : (hs : List StreamHead) (p : ℕ) → p < length hs → (o : Option StreamHead) → slice_get hs p ≡ o → (h : StreamHead) × (slice_get hs p ≡ Some h)
there [] p l o e = absurd (omega (arith, l))
there (x ∷ hs) zero l o e = (x, refl)
there (x ∷ hs) (suc p) l o e = there hs p (omega (arith, l)) o e

pub nothing-merged : (merge : List OrderEntry) (types : List ColType) (hs : List StreamHead) → All (IsFresh types) hs → IsMergeOf merge hs (λ p. false) (λ p. []) []
nothing-merged merge types hs fresh = record {
  taken = λ p. [];
  merged = same-merged (length hs) merge (λ p. false) (ended_at hs) (λ p. []) (λ p. []) (λ p. []) (left_at hs) [] (λ j l e. absurd (true≢false (sym e))) (λ j. refl) (λ j. sym (left j)) (nothing-is-merged (length hs) merge);
  parts = left;
  ends = λ p. record { front = []; joined = rows p; edge = λ e. refl };
  are_closed = λ p l e. let t = there hs p l (slice_get hs p) refl in absurd (true≢false (sym (rw t.1 at e) ∙ (head-of (IsFresh types) hs p t.0 fresh t.1).ended));
}
  where
    rows : (p : ℕ) → held_at hs p ≡ []
    rows p = by-head (λ o. held o ≡ []) (slice_get hs p) refl (λ h e. (head-of (IsFresh types) hs p h fresh e).rows)

    left : (p : ℕ) → left_at hs p ≡ []
    left p = by-head (λ o. left_of o ≡ []) (slice_get hs p) refl (λ h e. let f = head-of (IsFresh types) hs p h fresh e in ap (drop h.at) f.rows ∙ drop_all h.at [] (omega arith))

module _ (merge : List OrderEntry) (hs : List StreamHead) (closed : ℕ → Bool) (came : Streams) (given : List Row) (m : IsMergeOf merge hs closed came given) (p : ℕ) (h : StreamHead) (at_p : slice_get hs p ≡ Some h) where
  near : p < length hs
  near = slice_get_within hs p h at_p

  module _ (g : StreamHead) where
    -- what holds of the changed head at its place and of the others at theirs
    changed : (P : ℕ → Option StreamHead → Type 0) → P p (Some g) → ((j : ℕ) → j ≢ p → P j (slice_get hs j)) → (j : ℕ) → P j (slice_get (set hs p g) j)
    changed P here other j = elim (eqb_tells j p) [
      | inl e ↦ subst (λ k. P k (slice_get (set hs p g) k)) (sym e.1) (subst (P p) (sym (set-there hs p g near)) here)
      | inr e ↦ subst (P j) (sym (set-other hs p j g e.1)) (other j e.1)
    ]

    -- rows came of a producer that lacked one
    module _ (xs : List Row) (lacks : Lacks h) (rows : g.rows.rows ≡ last_of h.rows.rows ++ xs) (at : g.at ≡ length (last_of h.rows.rows)) (flag : g.ended ≡ h.ended) where
      none : left_at hs p ≡ []
      none = rw at_p (drop_all h.at h.rows.rows lacks.1)

      all_taken : m.taken p ≡ came p
      all_taken = sym (append-nil (m.taken p)) ∙ (ap (λ ys. m.taken p ++ ys) (sym none) ∙ m.parts p)

      ends_p : EndsIn h.rows.rows (came p)
      ends_p = let e = m.ends p in rw at_p at e

      pub put-falls : sorted merge g.rows.rows ≡ false → sorted merge (came p ++ xs) ≡ false
      put-falls f = last-falls merge h.rows.rows (came p) xs ends_p (sym (ap (sorted merge) rows) ∙ f)

      rises_p : sorted merge (came p) ≡ true
      rises_p = ap (sorted merge) (sym (m.parts p)) ∙ m.merged.inputs p near

      pub put-rises : sorted merge g.rows.rows ≡ true → IsMergeOf merge (set hs p g) closed (with_more came p xs) given
      put-rises f =
          let whole : sorted merge (m.taken p ++ (left_at hs p ++ xs)) ≡ true =
          ap (sorted merge) (sym (append_assoc (m.taken p) (left_at hs p) xs) ∙ ap (λ ys. ys ++ xs) (m.parts p)) ∙ last-rises merge h.rows.rows (came p) xs ends_p rises_p (sym (ap (sorted merge) rows) ∙ f) in
          let is_open : ended_at hs p ≡ false = rw at_p lacks.0 in
          let left_g : left_of (Some g) ≡ xs = rw (rows, at) (drop-append_seam (last_of h.rows.rows) xs) in
          let more = rows-come (length hs) merge (ended_at hs) m.taken (left_at hs) given m.merged p xs is_open whole in
          record {
            taken = m.taken;
            merged = subst (λ n. Merged n merge (ended_at (set hs p g)) m.taken (left_at (set hs p g)) given) (sym (length-set hs p g))
                (same-merged (length hs) merge (ended_at hs) (ended_at (set hs p g)) m.taken (with_more (left_at hs) p xs) m.taken (left_at (set hs p g)) given
                (λ j l. changed (λ k o. ended_at hs k ≡ true → has_ended o ≡ true) (λ e. absurd (true≢false (sym e ∙ is_open))) (λ k ne e. e) j)
                (λ j. refl)
                (changed (λ k o. with_more (left_at hs) p xs k ≡ left_of o) (more-there (left_at hs) p xs ∙ (ap (λ ys. ys ++ xs) none ∙ sym left_g)) (λ k ne. more-other (left_at hs) p k xs ne))
                more);
            parts = changed (λ k o. m.taken k ++ left_of o ≡ with_more came p xs k)
                (ap (λ ys. ys ++ left_of (Some g)) all_taken ∙ (ap (λ ys. came p ++ ys) left_g ∙ sym (more-there came p xs)))
                (λ k ne. m.parts k ∙ sym (more-other came p k xs ne));
            ends = changed (λ k o. EndsIn (held o) (with_more came p xs k))
                (subst (EndsIn g.rows.rows) (sym (more-there came p xs)) (subst (λ ys. EndsIn ys (came p ++ xs)) (sym rows) (ends-last h.rows.rows (came p) xs ends_p)))
                (λ k ne. subst (EndsIn (held_at hs k)) (sym (more-other came p k xs ne)) (m.ends k));
            are_closed = λ j l. changed (λ k o. k < length hs → has_ended o ≡ true → closed k ≡ true) (λ t e. absurd (true≢false (sym e ∙ (flag ∙ lacks.0)))) (λ k ne t e. m.are_closed k t e) j (subst (λ n. j < n) (length-set hs p g) l);
          }

    -- a producer ended
    pub end-merged : (more : ℕ → Bool) → ((j : ℕ) → closed j ≡ true → more j ≡ true) → more p ≡ true → g.rows ≡ h.rows → g.at ≡ h.at → g.ended ≡ true → IsMergeOf merge (set hs p g) more came given
    end-merged more keeps here rows at flag =
        let left_g : left_at hs p ≡ left_of (Some g) = rw (at_p, rows, at) refl in
        let held_g : held_at hs p ≡ g.rows.rows = rw (at_p, rows) refl in
        record {
          taken = m.taken;
          merged = subst (λ n. Merged n merge (ended_at (set hs p g)) m.taken (left_at (set hs p g)) given) (sym (length-set hs p g))
              (same-merged (length hs) merge (ended_at hs) (ended_at (set hs p g)) m.taken (left_at hs) m.taken (left_at (set hs p g)) given
              (λ j l. changed (λ k o. ended_at hs k ≡ true → has_ended o ≡ true) (λ e. flag) (λ k ne e. e) j)
              (λ j. refl)
              (changed (λ k o. left_at hs k ≡ left_of o) left_g (λ k ne. refl))
              m.merged);
          parts = changed (λ k o. m.taken k ++ left_of o ≡ came k) (ap (λ ys. m.taken p ++ ys) (sym left_g) ∙ m.parts p) (λ k ne. m.parts k);
          ends = changed (λ k o. EndsIn (held o) (came k)) (subst (λ ys. EndsIn ys (came p)) held_g (m.ends p)) (λ k ne. m.ends k);
          are_closed = λ j l. changed (λ k o. k < length hs → has_ended o ≡ true → more k ≡ true) (λ t e. here) (λ k ne t e. keeps k (m.are_closed k t e)) j (subst (λ n. j < n) (length-set hs p g) l);
        }

    -- a run of its rows was given
    module _ (rest : List ℕ) (to : ℕ) (order : AreAll hs (p ∷ rest)) (full : (j : ℕ) → LacksAt hs j → ⊥) (run : IsRun merge hs rest p to) (rows : g.rows ≡ h.rows) (at : g.at ≡ to) (flag : g.ended ≡ h.ended) where
      from : h.at ≤ to
      from = let a = run.more in let b : h.at < to = rw at_p at a in omega (arith, b)

      within : to ≤ length h.rows.rows
      within = let a = run.within in rw at_p at a

      hold : (j : ℕ) → j < length hs → j ≢ p → left_at hs j ≡ [] → ended_at hs j ≡ true
      hold j l ne e =
          let t = there hs j l (slice_get hs j) refl in
          let s : drop t.0.at t.0.rows.rows ≡ [] = rw t.1 at e in
          rw t.1 (go t.0.ended refl)
        where
          go : (b : Bool) → (there hs j l (slice_get hs j) refl).0.ended ≡ b → b ≡ true
          go true f = refl
          go false f =
              let t = there hs j l (slice_get hs j) refl in
              let s : drop t.0.at t.0.rows.rows ≡ [] = rw t.1 at e in
              absurd (full j (t.0, t.1, (f, none-left t.0.rows.rows t.0.at s)))

      least : (j : ℕ) → j < length hs → j ≢ p → (y : Row) (ys : List Row) → left_at hs j ≡ y ∷ ys → AllByRecursion (λ x. is_le (compare_on merge x y) ≡ true) (slice_range h.rows.rows h.at to)
      least j l ne y ys e =
          let t = there hs j l (slice_get hs j) refl in
          let s : drop t.0.at t.0.rows.rows ≡ y ∷ ys = rw t.1 at e in
          let b = begins-at t.0.rows.rows t.0.at y ys s in
          let next_j : next_at hs j ≡ y = rw t.1 (sym b.1) in
          let c : Contains rest j = other (has-either p rest j (order j (t.0, t.1, b.0))) in
          let rows_h : held_at hs p ≡ h.rows.rows = rw at_p refl in
          let at_h : position_at hs p ≡ h.at = rw at_p refl in
          let n : h.at + (to - h.at) ≡ to = omega (arith, from) in
          each-in-range (λ x. is_le (compare_on merge x y) ≡ true) h.rows.rows (to - h.at) h.at (omega (arith, n, within))
          (λ k a z.
          let q = run.least k (rw at_h a) (omega (arith, z, n)) c.0 j c.1 in
          subst (λ r. is_le (compare_on merge (get_or h.rows.rows k []) r) ≡ true) next_j
          (subst (λ i. is_le (compare_on merge (get_or h.rows.rows k []) (next_at hs i)) ≡ true) c.2
          (subst (λ zs. is_le (compare_on merge (get_or zs k []) (next_at hs (get_or rest c.0 j))) ≡ true) rows_h q)))
        where
          other : (p ≡ j) ⊎ Contains rest j → Contains rest j
          other (inl f) = absurd (ne (sym f))
          other (inr f) = f

      pub run-merged : IsMergeOf merge (set hs p g) closed came (given ++ slice_range h.rows.rows h.at to)
      run-merged =
          let part = slice_range h.rows.rows h.at to in
          let split : left_at hs p ≡ part ++ drop to h.rows.rows = rw at_p (drop_split h.rows.rows h.at to from) in
          let left_g : drop to h.rows.rows ≡ left_of (Some g) = rw (rows, at) refl in
          let gone = run-goes (length hs) merge (ended_at hs) p near part (drop to h.rows.rows) m.taken (left_at hs) given m.merged split hold least in
          record {
            taken = with_more m.taken p part;
            merged = subst (λ n. Merged n merge (ended_at (set hs p g)) (with_more m.taken p part) (left_at (set hs p g)) (given ++ part)) (sym (length-set hs p g))
                (same-merged (length hs) merge (ended_at hs) (ended_at (set hs p g)) (with_more m.taken p part) (instead (left_at hs) p (drop to h.rows.rows)) (with_more m.taken p part) (left_at (set hs p g)) (given ++ part)
                (λ j l. changed (λ k o. ended_at hs k ≡ true → has_ended o ≡ true) (λ e. flag ∙ rw at_p at e) (λ k ne e. e) j)
                (λ j. refl)
                (changed (λ k o. instead (left_at hs) p (drop to h.rows.rows) k ≡ left_of o) (instead-there (left_at hs) p (drop to h.rows.rows) ∙ left_g) (λ k ne. instead-other (left_at hs) p k (drop to h.rows.rows) ne))
                gone);
            parts = changed (λ k o. with_more m.taken p part k ++ left_of o ≡ came k)
                (ap (λ ys. ys ++ left_of (Some g)) (more-there m.taken p part) ∙ (append_assoc (m.taken p) part (left_of (Some g)) ∙ (ap (λ ys. m.taken p ++ ys) (ap (λ ys. part ++ ys) (sym left_g) ∙ sym split) ∙ m.parts p)))
                (λ k ne. ap (λ ys. ys ++ left_at hs k) (more-other m.taken p k part ne) ∙ m.parts k);
            ends = changed (λ k o. EndsIn (held o) (came k)) (let e = m.ends p in rw rows (rw at_p at e)) (λ k ne. m.ends k);
            are_closed = λ j l. changed (λ k o. k < length hs → has_ended o ≡ true → closed k ≡ true) (λ t e. m.are_closed p t (rw at_p (sym flag ∙ e))) (λ k ne t e. m.are_closed k t e) j (subst (λ n. j < n) (length-set hs p g) l);
          }

-- no row is left, and no producer lacks one: all were given
pub all-merged : (merge : List OrderEntry) (hs : List StreamHead) (closed : ℕ → Bool) (came : Streams) (given : List Row) → IsMergeOf merge hs closed came given → AreAll hs [] → ((j : ℕ) → LacksAt hs j → ⊥)
    → Dealt (length hs) given came × (sorted merge given ≡ true) × ((p : ℕ) → p < length hs → closed p ≡ true)
all-merged merge hs closed came given m none full =
    let d = all-is-merged (length hs) merge (ended_at hs) m.taken (left_at hs) came given m.merged (λ i l. m.parts i) (λ i l. left i (slice_get hs i) refl) in
    (d.0, d.1, λ p l. m.are_closed p l (let t = there hs p l (slice_get hs p) refl in rw t.1 (ended p t.0 t.1)))
  where
    no-row : (i : ℕ) (h : StreamHead) → slice_get hs i ≡ Some h → length h.rows.rows ≤ h.at
    no-row i h e = by-order h.at (length h.rows.rows) (λ r. let c = none i (h, e, r) in let l = c.1 in absurd (omega (arith, l))) (λ l. l)

    left : (i : ℕ) (o : Option StreamHead) → slice_get hs i ≡ o → left_at hs i ≡ []
    left i None e = rw e refl
    left i (Some h) e = rw e (drop_all h.at h.rows.rows (no-row i h e))

    ended : (i : ℕ) (h : StreamHead) → slice_get hs i ≡ Some h → h.ended ≡ true
    ended i h e = go h.ended refl
      where
        go : (b : Bool) → h.ended ≡ b → h.ended ≡ true
        go true f = f
        go false f = absurd (full i (h, e, (f, no-row i h e)))
