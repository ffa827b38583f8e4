-- What each node has been given so far is in the order that it asks for, by the rule table with what is known of columns.
use Rattle.std.proofs.Common.{◌≡◌, ◌⊎◌, inl, inr, ⊎_elim, ℕ, ◌<◌, Bool, true, List}
use Rattle.vx_rows_values.specs.declared.order.OrderEntry.{OrderEntry}
use Rattle.vx_plan_nodes.specs.Plan.{by_hashing, by_merging, Claim, Binary, union, join, Plan, scan, unary, binary, exchange, claim, semi_join, left_order, right_order}
use Rattle.vx_plan_facts.specs.Equal.{equal_at}
use Rattle.vx_plan_facts.specs.Determined.{determined}
use Rattle.vx_plan_facts.specs.Following.{order_follows}
use Rattle.vx_check_rules.specs.Rules.{is_front, order_given}
use Rattle.vx_check_rules.specs.Derived.{needed_follows, order_given_derived}
use Rattle.vx_check_rules.specs.Claims.{Given}
use Rattle.vx_worker.specs.Fragment.{RunModel, goes}
use Rattle.vx_worker.specs.Trace.{Trace, Ends}
use Rattle.vx_exec_laws.specs.RunOf.{RunOf}
use Rattle.vx_exec_laws.proofs.Bags.{and-left, and-right}
use Rattle.vx_exec_laws.proofs.Parts.{or-cases}
use Rattle.vx_exec_laws.proofs.Orders.{sorted-front}
use Rattle.vx_exec_laws.proofs.DerivedOpen.{derived-tests}
use Rattle.vx_exec_laws.proofs.CutPlaces.{Meeting, Fine, fine-under, fine-left, fine-right, fine-below, here}
use Rattle.vx_exec_laws.proofs.Received.{SortedSoFar}
use Rattle.vx_exec_laws.proofs.CutTidy.{cut-sorted, follows-so}
use Rattle.vx_exec_laws.proofs.NeededOrders.{NeededOf, NeededSoFar}

module _ (S : RunModel) (giv : Given S.catalog S.db S.sizes (goes S)) (some_rows : 0 < S.morsel) (meet : Meeting S) where
  -- an order that begins the claimed one, or follows from it
  asked-so : (p : Plan) → Fine S p → (ts : ℕ → Trace) → RunOf S (Ends S) p ts → (order : List OrderEntry)
      → (is_front order (claim p).order ≡ true) ⊎ (order_follows (equal_at S.catalog p) (determined S.catalog p) (claim p).order order ≡ true) → SortedSoFar S p ts order
  asked-so p f ts run order why x =
      let up = cut-sorted S giv some_rows meet p f ts run x in
      ⊎_elim (λ h. sorted-front order (claim p).order h x.out.rows up) (λ h. follows-so S giv some_rows meet p f ts run x (claim p).order order h up) why

  both-asked : (n : ℕ) (c : Claim) (op : Binary) (p q : Plan) → Fine S p → Fine S q → order_given_derived S.catalog (binary n c op p q) ≡ true
      → (ts : ℕ → Trace) → RunOf S (Ends S) p ts → RunOf S (Ends S) q ts → NeededOf S op p q ts
  both-asked n c union p q fp fq t ts run more = tt
  both-asked n c (join by_hashing on) p q fp fq t ts run more = tt
  both-asked n c (semi_join matched on conditions) p q fp fq t ts run more = tt
  both-asked n c (join (by_merging falls) on) p q fp fq t ts run more =
      let node : Plan = binary n c (join (by_merging falls) on) p q in
      let lefts : List OrderEntry = left_order falls on in
      let rights : List OrderEntry = right_order falls on in
      let lp : Bool = is_front lefts (claim p).order in
      let rp : Bool = is_front rights (claim q).order in
      let lf : Bool = order_follows (equal_at S.catalog p) (determined S.catalog p) (claim p).order lefts in
      let rf : Bool = order_follows (equal_at S.catalog q) (determined S.catalog q) (claim q).order rights in
      let why = or-cases (order_given node) (needed_follows S.catalog node) t in (
        asked-so p fp ts run lefts (⊎_elim (λ h. inl (and-left lp rp h)) (λ h. inr (and-left lf rf h)) why),
        asked-so q fq ts more rights (⊎_elim (λ h. inl (and-right lp rp h)) (λ h. inr (and-right lf rf h)) why),
      )

  -- what each node has been given so far is in the order that it asks for
  pub needed-so-far : (p : Plan) → Fine S p → (ts : ℕ → Trace) (run : RunOf S (Ends S) p ts) → NeededSoFar S p ts run
  needed-so-far (scan n c r m z) f ts run = tt
  needed-so-far (unary n c op p) f ts run = needed-so-far p (fine-under S n c op p f) ts run
  needed-so-far (binary n c op p q) f ts run =
      let node : Plan = binary n c op p q in
      let fp : Fine S p = fine-left S n c op p q f in
      let fq : Fine S q = fine-right S n c op p q f in
      (both-asked n c op p q fp fq (derived-tests S.catalog node (here S node f)).3 ts run.0 run.1, needed-so-far p fp ts run.0, needed-so-far q fq ts run.1)
  needed-so-far (exchange n c k merge p) f ts run =
      let node : Plan = exchange n c k merge p in
      let fp : Fine S p = fine-below S n c k merge p f in (
        asked-so p fp run.0 run.1 merge (or-cases (order_given node) (needed_follows S.catalog node) (derived-tests S.catalog node (here S node f)).3),
        needed-so-far p fp run.0 run.1,
      )
