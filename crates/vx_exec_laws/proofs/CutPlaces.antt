-- Each row that a worker has given so far stands where the claimed part of its node says, by what is known of columns too.
use Rattle.std.proofs.Common.{◌≡◌, ⊎_elim, ℕ, ◌<◌, ◌==◌, Bool, true, false, ◌&&◌, ◌||◌, List, [], ◌∷◌, ◌++◌, map, refl, sym, ap, ◌∙◌, subst, true≢false, Some}
use Rattle.std.specs.List.{list_all, AllByRecursion}
use Rattle.vx_rows_values.specs.declared.order.OrderEntry.{OrderEntry}
use Rattle.vx_rows_values.specs.Values.{Row, pick}
use Rattle.vx_catalog_relations.specs.Catalog.{all_below}
use Rattle.vx_plan_nodes.specs.Plan.{JoinMethod, Route, Part, one, any, all, routed, Size, Claim, Unary, select, project, distinct, sort, group, plain, partial, final, Binary, union, join, ExchangeKind, route_to, round, broadcast, gather, concat, target, Plan, scan, unary, binary, exchange, claim, size, is_one, limit, semi_join, Condition}
use Rattle.vx_plan_nodes.specs.Parts.{kind_part}
use Rattle.vx_plan_nodes.specs.Types.{width, well_formed, names_columns, part_columns}
use Rattle.vx_plan_nodes.specs.Describe.{Copying, kept_column, left_of, right_of, described, whole_rows}
use Rattle.vx_plan_nodes.specs.Streams.{workers}
use Rattle.vx_plan_nodes.specs.Routes.{Routing}
use Rattle.vx_plan_nodes.specs.Numbering.{is_fit}
use Rattle.vx_plan_facts.specs.Equal.{Equality, equal_at}
use Rattle.vx_plan_facts.specs.Following.{equal_lists}
use Rattle.vx_plan_facts.specs.FollowLaws.{Occurs}
use Rattle.vx_plan_facts.specs.RowFacts.{HasEqual, MeetsAt, EachMeets, all_inputs_fit, inputs_fit}
use Rattle.vx_plan_facts.proofs.Columns.{HasCopies, left-copies, right-copies, whole-copies}
use Rattle.vx_plan_facts.proofs.EachRow.{each-has, each-of-had}
use Rattle.vx_check_rules.specs.Rules.{route_eq, part_gives, has, copied, copied_from, if_some, left_columns, right_columns, routed_alike, unless_one, unary_shows, alike_shows, kind_shows, shows}
use Rattle.vx_check_rules.specs.Behaviour.{sources}
use Rattle.vx_check_rules.specs.Derived.{part_matches, stand_for, routed_as, routed_alike_equally, part_derived, part_shown_derived, allowed_derived, allowed_here_derived}
use Rattle.vx_check_rules.specs.Claims.{Given}
use Rattle.vx_check_rules.proofs.Exact.{sources-whole, sources-kept, sources-entries, sources-left, sources-right}
use Rattle.vx_worker.specs.Fragment.{goes, RunModel}
use Rattle.vx_worker.specs.Trace.{Trace, Ends}
use Rattle.vx_exec_laws.specs.RunOf.{RunOf}
use Rattle.vx_exec_laws.specs.CutRows.{Output}
use Rattle.vx_exec_laws.proofs.Bags.{and-left, and-right, and-both}
use Rattle.vx_exec_laws.proofs.Parts.{InRange, or-cases, route_eq-is, one-worker}
use Rattle.vx_exec_laws.proofs.Copies.{if_some-is}
use Rattle.vx_exec_laws.proofs.Entries.{copies-pick}
use Rattle.vx_exec_laws.proofs.Join.{pick-left}
use Rattle.vx_exec_laws.proofs.Places.{at_place, Placed, place-gives, place-one, had-place, given-below}
use Rattle.vx_exec_laws.proofs.WellFormed.{well-under, well-both, names, named}
use Rattle.vx_exec_laws.proofs.DerivedPairs.{equal-picks}
use Rattle.vx_exec_laws.proofs.DerivedOpen.{derived-tests}
use Rattle.vx_exec_laws.proofs.DerivedParts.{stand-columns}
use Rattle.vx_exec_laws.proofs.CutPairs.{StemOf, stem-copies}
use Rattle.vx_exec_laws.proofs.CutOrigins.{under, on-left, on-right, same-size, fit-left, fit-right, put-occurs, exchange-comes, unary-comes, union-comes, joined-comes, matched-so-far}

-- ---- one row

-- a row stands at the worker w of n
abbrev At : Routing → Part → (n w : ℕ) → Row → Type 0
At goes q n w row = at_place goes q n w row ≡ true

as-list : (goes : Routing) (q : Part) (n w : ℕ) (row : Row) → At goes q n w row → Placed goes q n w (row ∷ [])
as-list goes q n w row h = and-both (at_place goes q n w row) true h refl

gives-row : (goes : Routing) (p q : Part) (n w : ℕ) (row : Row) → part_gives p q ≡ true → At goes p n w row → At goes q n w row
gives-row goes p q n w row g h = and-left (at_place goes q n w row) true (place-gives goes p q n w (row ∷ []) g (as-list goes p n w row h))

one-row : (goes : Routing) → InRange goes → (q : Part) (n w : ℕ) → n ≡ 1 → w < n → (row : Row) → At goes q n w row
one-row goes law q n w e l row = and-left (at_place goes q n w row) true (place-one goes law q n w e l (row ∷ []))

had-row : (goes : Routing) → InRange goes → (b : Bool) (p q : Part) (n w : ℕ) → (b ≡ true → n ≡ 1) → w < n → (row : Row) → At goes p n w row → (b || part_gives p q) ≡ true → At goes q n w row
had-row goes law b p q n w single l row h e = and-left (at_place goes q n w row) true (had-place goes law b p q n w single l (row ∷ []) (as-list goes p n w row h) e)

-- what stands by columns stands by those with the same values
pub same-row : (goes : Routing) (r : Route) (cs ds : List ℕ) (n w : ℕ) (a x : Row) → pick cs a ≡ pick ds x → At goes (routed r ds) n w x → At goes (routed r cs) n w a
same-row goes r cs ds n w a x e h = ap (λ key. goes r key n == w) e ∙ h

matches-row : (goes : Routing) (e : Equality) (q : Part) (r : Route) (ds : List ℕ) (n w : ℕ) (a : Row) → part_matches e q (routed r ds) ≡ true → HasEqual e a → At goes q n w a → At goes (routed r ds) n w a
matches-row goes e one r ds n w a t h at = absurd (true≢false (sym t))
matches-row goes e any r ds n w a t h at = absurd (true≢false (sym t))
matches-row goes e all r ds n w a t h at = absurd (true≢false (sym t))
matches-row goes e (routed u cols) r ds n w a t h at =
    let R : Route → Type 0 = λ v. At goes (routed v cols) n w a in
    same-row goes r ds cols n w a a (sym (equal-picks e a h cols ds (and-right (route_eq u r) (equal_lists e cols ds) t)))
    (subst R (route_eq-is u r (and-left (route_eq u r) (equal_lists e cols ds) t)) at)

routed-row : (goes : Routing) (v : ℕ) (k : Copying) (e f : Equality) (q : Part) (r : Route) (cols : List ℕ) (n w : ℕ) (a x : Row) → routed_as v k e f q (routed r cols) ≡ true
    → HasEqual e x → HasEqual f a → HasCopies k x a → At goes q n w x → At goes (routed r cols) n w a
routed-row goes v k e f one r cols n w a x t hx ha copies at = absurd (true≢false (sym t))
routed-row goes v k e f any r cols n w a x t hx ha copies at = absurd (true≢false (sym t))
routed-row goes v k e f all r cols n w a x t hx ha copies at = absurd (true≢false (sym t))
routed-row goes v k e f (routed u xs) r cols n w a x t hx ha copies at =
    let R : Route → Type 0 = λ i. At goes (routed i xs) n w x in
    let st = stand-columns v k e f cols xs (and-right (route_eq u r) (stand_for v k e f cols xs) t) in
    same-row goes r cols xs n w a x (sym (equal-picks f a ha st.0 cols st.3) ∙ (copies-pick k x a copies st.0 st.1 st.2 ∙ equal-picks e x hx st.1 xs st.4))
    (subst R (route_eq-is u r (and-left (route_eq u r) (stand_for v k e f cols xs) t)) at)

-- a part that is shown: only where rows are routed is there something to say
by-part : (goes : Routing) → InRange goes → (b : Bool) (shown derived : Part → Bool) (q : Part) (n w : ℕ) → (b ≡ true → n ≡ 1) → w < n → (row : Row)
    → ((r : Route) (cols : List ℕ) → shown (routed r cols) ≡ true → At goes (routed r cols) n w row)
    → ((r : Route) (cols : List ℕ) → derived (routed r cols) ≡ true → At goes (routed r cols) n w row)
    → ((b || unless_one shown q) || derived q) ≡ true → At goes q n w row
by-part goes law b shown derived one n w single l row hs hd t = refl
by-part goes law b shown derived any n w single l row hs hd t = refl
by-part goes law b shown derived all n w single l row hs hd t = refl
by-part goes law b shown derived (routed r cols) n w single l row hs hd t = ⊎_elim
    (λ h. ⊎_elim (λ o. one-row goes law (routed r cols) n w (single o) l row) (λ g. hs r cols g) (or-cases b (shown (routed r cols)) h))
    (λ h. hd r cols h)
    (or-cases (b || shown (routed r cols)) (derived (routed r cols)) t)

-- a routed part that an operator shows: its input has it on the columns that are copied
shown-source : (op : Unary) (p : Plan) (r : Route) (cols : List ℕ) → unary_shows op p (routed r cols) ≡ true
    → (ds : List ℕ) × (sources (described op).copying cols ≡ Some ds) × (has p (routed r ds) ≡ true)
shown-source (select fs) p r cols h = (cols, sources-whole cols, h)
shown-source (project es) p r cols h =
    let k = if_some-is (copied_from (map kept_column es) cols) (λ cs. has p (routed r cs)) h in (k.0, sources-entries (map kept_column es) cols ∙ k.1, k.2)
shown-source (distinct kept) p r cols h = let k = if_some-is (copied kept cols) (λ cs. has p (routed r cs)) h in (k.0, sources-kept kept cols ∙ k.1, k.2)
shown-source (sort of_parts cs) p r cols h = (cols, sources-whole cols, h)
shown-source (group plain by aggregates) p r cols h = let k = if_some-is (copied by cols) (λ cs. has p (routed r cs)) h in (k.0, sources-kept by cols ∙ k.1, k.2)
shown-source (group partial by aggregates) p r cols h = let k = if_some-is (copied by cols) (λ cs. has p (routed r cs)) h in (k.0, sources-kept by cols ∙ k.1, k.2)
shown-source (limit m) p r cols h = (cols, sources-whole cols, h)
shown-source (group final by aggregates) p r cols h = let k = if_some-is (copied by cols) (λ cs. has p (routed r cs)) h in (k.0, sources-kept by cols ∙ k.1, k.2)

kind-gives : (k : ExchangeKind) (q : Part) → kind_shows k q ≡ true → part_gives (kind_part k) q ≡ true
kind-gives (route_to z r cols) q h = h
kind-gives (round z) q h = h
kind-gives (broadcast z) q h = h
kind-gives gather q h = h
kind-gives concat q h = h

-- ---- the rows of workers

-- the rows that workers have given so far meet the facts of their nodes
abbrev pub Meeting : RunModel → Type 0
Meeting S = (p : Plan) → is_fit S.relation_of p ≡ true → all_inputs_fit S.catalog p ≡ true → (ts : ℕ → Trace) → RunOf S (Ends S) p ts → (x : Output S p ts) → EachMeets S.catalog p x.out.rows

-- what is asked of a plan
pub record Fine (S : RunModel) (p : Plan) : Type 0 where
  pub fit : is_fit S.relation_of p ≡ true
  pub formed : well_formed S.catalog p ≡ true
  pub inputs : all_inputs_fit S.catalog p ≡ true
  pub allowed : allowed_derived S.catalog p ≡ true

module _ (S : RunModel) where
  pub fine-under : (n : ℕ) (c : Claim) (op : Unary) (p : Plan) → Fine S (unary n c op p) → Fine S p
  fine-under n c op p f = record {
    fit = f.fit;
    formed = (well-under S.catalog n c op p f.formed).0;
    inputs = f.inputs;
    allowed = and-left (allowed_derived S.catalog p) (allowed_here_derived S.catalog (unary n c op p)) f.allowed;
  }

  pub fine-left : (n : ℕ) (c : Claim) (op : Binary) (p q : Plan) → Fine S (binary n c op p q) → Fine S p
  fine-left n c op p q f = record {
    fit = fit-left S n c op p q f.fit;
    formed = (well-both S.catalog n c op p q f.formed).0;
    inputs = and-left (all_inputs_fit S.catalog p) (all_inputs_fit S.catalog q && inputs_fit (width S.catalog p) (width S.catalog q) op) f.inputs;
    allowed = and-left (allowed_derived S.catalog p) (allowed_derived S.catalog q && allowed_here_derived S.catalog (binary n c op p q)) f.allowed;
  }

  pub fine-right : (n : ℕ) (c : Claim) (op : Binary) (p q : Plan) → Fine S (binary n c op p q) → Fine S q
  fine-right n c op p q f = record {
    fit = fit-right S n c op p q f.fit;
    formed = (well-both S.catalog n c op p q f.formed).1;
    inputs = and-left (all_inputs_fit S.catalog q) (inputs_fit (width S.catalog p) (width S.catalog q) op)
        (and-right (all_inputs_fit S.catalog p) (all_inputs_fit S.catalog q && inputs_fit (width S.catalog p) (width S.catalog q) op) f.inputs);
    allowed = and-left (allowed_derived S.catalog q) (allowed_here_derived S.catalog (binary n c op p q))
        (and-right (allowed_derived S.catalog p) (allowed_derived S.catalog q && allowed_here_derived S.catalog (binary n c op p q)) f.allowed);
  }

  pub fine-below : (n : ℕ) (c : Claim) (k : ExchangeKind) (merge : List OrderEntry) (p : Plan) → Fine S (exchange n c k merge p) → Fine S p
  fine-below n c k merge p f = record {
    fit = f.fit;
    formed = and-left (well_formed S.catalog p) (names_columns (width S.catalog p) c) f.formed;
    inputs = f.inputs;
    allowed = and-left (allowed_derived S.catalog p) (allowed_here_derived S.catalog (exchange n c k merge p)) f.allowed;
  }

  pub here : (p : Plan) → Fine S p → allowed_here_derived S.catalog p ≡ true
  here (scan n c r m z) f = f.allowed
  here (unary n c op p) f = and-right (allowed_derived S.catalog p) (allowed_here_derived S.catalog (unary n c op p)) f.allowed
  here (binary n c op p q) f =
      and-right (allowed_derived S.catalog q) (allowed_here_derived S.catalog (binary n c op p q))
      (and-right (allowed_derived S.catalog p) (allowed_derived S.catalog q && allowed_here_derived S.catalog (binary n c op p q)) f.allowed)
  here (exchange n c k merge p) f = and-right (allowed_derived S.catalog p) (allowed_here_derived S.catalog (exchange n c k merge p)) f.allowed

module _ (S : RunModel) (giv : Given S.catalog S.db S.sizes (goes S)) (meet : Meeting S) where
  -- the row has the facts of its node
  pub row-meets : (p : Plan) → Fine S p → (ts : ℕ → Trace) → RunOf S (Ends S) p ts → (x : Output S p ts) (a : Row) → Occurs a x.out.rows → MeetsAt S.catalog p a
  row-meets p f ts run x a o = each-has (MeetsAt S.catalog p) a x.out.rows (meet p f.fit f.inputs ts run x) o

  -- it stands at the worker, as the claimed part says
  abbrev pub StandsAt : Plan → ℕ → Row → Type 0
  StandsAt p w a = At (goes S) (claim p).part (workers S.sizes (size p)) w a

  had : (p : Plan) (w : ℕ) → w < workers S.sizes (size p) → (a : Row) → StandsAt p w a → (q : Part) → has p q ≡ true → At (goes S) q (workers S.sizes (size p)) w a
  had p w l a h q e = had-row (goes S) giv.in_range (is_one (size p)) (claim p).part q (workers S.sizes (size p)) w (one-worker S.sizes (size p)) l a h e

  unary-stands : (n : ℕ) (c : Claim) (op : Unary) (p : Plan) (w : ℕ) → w < workers S.sizes (size p) → part_shown_derived S.catalog (unary n c op p) ≡ true → (a x : Row) → StemOf op a x
      → MeetsAt S.catalog (unary n c op p) a → MeetsAt S.catalog p x → StandsAt p w x → StandsAt (unary n c op p) w a
  unary-stands n c op p w l t a x stem ma mx at =
      let node : Plan = unary n c op p in
      let m : ℕ = workers S.sizes (size p) in
      by-part (goes S) giv.in_range (is_one (size p)) (shows S.catalog node) (part_derived S.catalog node) c.part m w (one-worker S.sizes (size p)) l a
      (λ r cols h. let s = shown-source op p r cols h in
      same-row (goes S) r cols s.0 m w a x (copies-pick (described op).copying x a (stem-copies op a x stem) cols s.0 s.1) (had p w l x at (routed r s.0) s.2))
      (λ r cols h. routed-row (goes S) (width S.catalog node) (described op).copying (equal_at S.catalog p) (equal_at S.catalog node) (claim p).part r cols m w a x h mx.alike ma.alike
      (stem-copies op a x stem) at)
      t

  -- a row of a union is one of either input
  union-stands : (n : ℕ) (c : Claim) (p q : Plan) → size p ≡ size q → (w : ℕ) → w < workers S.sizes (size p) → part_shown_derived S.catalog (binary n c union p q) ≡ true → (a : Row)
      → ((x : Part) → has p x ≡ true → has q x ≡ true → At (goes S) x (workers S.sizes (size p)) w a)
      → ((r : Route) (cols : List ℕ) → part_matches (equal_at S.catalog p) (claim p).part (routed r cols) ≡ true → part_matches (equal_at S.catalog q) (claim q).part (routed r cols) ≡ true
      → At (goes S) (routed r cols) (workers S.sizes (size p)) w a)
      → StandsAt (binary n c union p q) w a
  union-stands n c p q same w l t a shown derived =
      let node : Plan = binary n c union p q in
      by-part (goes S) giv.in_range (is_one (size p)) (shows S.catalog node) (part_derived S.catalog node) c.part (workers S.sizes (size p)) w (one-worker S.sizes (size p)) l a
      (λ r cols h. shown (routed r cols) (and-left (has p (routed r cols)) (has q (routed r cols)) h) (and-right (has p (routed r cols)) (has q (routed r cols)) h))
      (λ r cols h.
      let e : Bool = part_matches (equal_at S.catalog p) (claim p).part (routed r cols) in
      let f : Bool = part_matches (equal_at S.catalog q) (claim q).part (routed r cols) in
      derived r cols (and-left e f h) (and-right e f h))
      t

  join-stands : (n : ℕ) (c : Claim) (m : JoinMethod) (on : List (ℕ × ℕ)) (p q : Plan) → size p ≡ size q → all_below (width S.catalog p) (part_columns (claim p).part) ≡ true
      → (w : ℕ) → w < workers S.sizes (size p) → part_shown_derived S.catalog (binary n c (join m on) p q) ≡ true → (a l r : Row) → a ≡ l ++ r
      → MeetsAt S.catalog (binary n c (join m on) p q) a → MeetsAt S.catalog p l → MeetsAt S.catalog q r → StandsAt p w l → StandsAt q w r → StandsAt (binary n c (join m on) p q) w a
  join-stands n c m on p q same below w b t a l r is ma ml mr at_left at_right =
      let node : Plan = binary n c (join m on) p q in
      let v : ℕ = width S.catalog p in
      let n0 : ℕ = workers S.sizes (size p) in
      let P : Row → Type 0 = λ i. HasCopies (left_of v) l i in
      let Q : Row → Type 0 = λ i. HasCopies (right_of v) r i in
      let left : HasCopies (left_of v) l a = subst P (sym is) (left-copies v l r ml.wide) in
      let right : HasCopies (right_of v) r a = subst Q (sym is) (right-copies v l r ml.wide) in
      let R : ℕ → Type 0 = λ i. At (goes S) (claim q).part i w r in
      let L : ℕ → Type 0 = λ i. w < i in
      let as_many : workers S.sizes (size p) ≡ workers S.sizes (size q) = ap (workers S.sizes) same in
      let right_here : At (goes S) (claim q).part n0 w r = subst R (sym as_many) at_right in
      let right_had : (u : Route) (cs : List ℕ) → has q (routed u cs) ≡ true → At (goes S) (routed u cs) n0 w r
      = λ u cs e. let H : ℕ → Type 0 = λ i. At (goes S) (routed u cs) i w r in subst H (sym as_many) (had q w (subst L as_many b) r at_right (routed u cs) e) in
      let alike : Bool = routed_alike on (claim p).part (claim q).part in
      by-part (goes S) giv.in_range (is_one (size p)) (shows S.catalog node) (part_derived S.catalog node) c.part n0 w (one-worker S.sizes (size p)) b a
      (λ u cols h.
      let by_left : Bool = has q all && if_some (left_columns v cols) (λ cs. has p (routed u cs)) in
      let by_right : Bool = has p all && if_some (right_columns v cols) (λ cs. has q (routed u cs)) in
      let here : Bool = alike_shows v (claim p).part (claim q).part (routed u cols) in
      ⊎_elim
      (λ g. ⊎_elim
      (λ s. ⊎_elim
      (λ i. same-row (goes S) u cols cols n0 w a l (ap (pick cols) is ∙ pick-left v cols l r (given-below v (claim p).part u cols i below) ml.wide)
      (gives-row (goes S) (claim p).part (routed u cols) n0 w l i at_left))
      (λ i. let k = if_some-is (right_columns v cols) (λ cs. part_gives (claim q).part (routed u cs)) i in
      same-row (goes S) u cols k.0 n0 w a r (copies-pick (right_of v) r a right cols k.0 (sources-right v cols ∙ k.1)) (gives-row (goes S) (claim q).part (routed u k.0) n0 w r k.2 right_here))
      (or-cases (part_gives (claim p).part (routed u cols)) (if_some (right_columns v cols) (λ cs. part_gives (claim q).part (routed u cs))) (and-right alike here s)))
      (λ i. let k = if_some-is (left_columns v cols) (λ cs. has p (routed u cs)) (and-right (has q all) (if_some (left_columns v cols) (λ cs. has p (routed u cs))) i) in
      same-row (goes S) u cols k.0 n0 w a l (copies-pick (left_of v) l a left cols k.0 (sources-left v cols ∙ k.1)) (had p w b l at_left (routed u k.0) k.2))
      (or-cases (alike && here) by_left g))
      (λ i. let k = if_some-is (right_columns v cols) (λ cs. has q (routed u cs)) (and-right (has p all) (if_some (right_columns v cols) (λ cs. has q (routed u cs))) i) in
      same-row (goes S) u cols k.0 n0 w a r (copies-pick (right_of v) r a right cols k.0 (sources-right v cols ∙ k.1)) (right_had u k.0 k.2))
      (or-cases ((alike && here) || by_left) by_right h))
      (λ u cols h.
      let e : Equality = equal_at S.catalog p in
      let f : Equality = equal_at S.catalog q in
      let g : Equality = equal_at S.catalog node in
      let w0 : ℕ = width S.catalog node in
      let met : Bool = routed_alike_equally e f on (claim p).part (claim q).part in
      let as_left : Bool = routed_as w0 (left_of v) e g (claim p).part (routed u cols) in
      let as_right : Bool = routed_as w0 (right_of v) f g (claim q).part (routed u cols) in
      ⊎_elim
      (λ i. routed-row (goes S) w0 (left_of v) e g (claim p).part u cols n0 w a l (and-right (has q all || met) as_left i) ml.alike ma.alike left at_left)
      (λ i. routed-row (goes S) w0 (right_of v) f g (claim q).part u cols n0 w a r (and-right (has p all || met) as_right i) mr.alike ma.alike right right_here)
      (or-cases ((has q all || met) && as_left) ((has p all || met) && as_right) h))
      t

  -- a row of a semi or an anti join stands where it stood in the left input
  semi-join-stands : (n : ℕ) (c : Claim) (matched : Bool) (on : List (ℕ × ℕ)) (conditions : List Condition) (p q : Plan) (w : ℕ) → w < workers S.sizes (size p)
      → part_shown_derived S.catalog (binary n c (semi_join matched on conditions) p q) ≡ true → (a : Row) → MeetsAt S.catalog (binary n c (semi_join matched on conditions) p q) a
      → MeetsAt S.catalog p a → StandsAt p w a → StandsAt (binary n c (semi_join matched on conditions) p q) w a
  semi-join-stands n c matched on conditions p q w l t a ma ml at =
      let node : Plan = binary n c (semi_join matched on conditions) p q in
      let m : ℕ = workers S.sizes (size p) in
      let e : Equality = equal_at S.catalog p in
      let f : Equality = equal_at S.catalog q in
      by-part (goes S) giv.in_range (is_one (size p)) (shows S.catalog node) (part_derived S.catalog node) c.part m w (one-worker S.sizes (size p)) l a
      (λ r cols h.
      let alike : Bool = routed_alike on (claim p).part (claim q).part in
      let gives : Bool = part_gives (claim p).part (routed r cols) in
      ⊎_elim
      (λ i. gives-row (goes S) (claim p).part (routed r cols) m w a (and-right alike gives i) at)
      (λ i. had p w l a at (routed r cols) (and-right (has q all) (has p (routed r cols)) i))
      (or-cases (alike && gives) (has q all && has p (routed r cols)) h))
      (λ r cols h.
      let met : Bool = has q all || routed_alike_equally e f on (claim p).part (claim q).part in
      let as_left : Bool = routed_as (width S.catalog p) whole_rows e (equal_at S.catalog node) (claim p).part (routed r cols) in
      routed-row (goes S) (width S.catalog p) whole_rows e (equal_at S.catalog node) (claim p).part r cols m w a a (and-right met as_left h) ml.alike ma.alike (whole-copies a) at)
      t

  exchange-stands : (n : ℕ) (c : Claim) (k : ExchangeKind) (merge : List OrderEntry) (p : Plan) (w : ℕ) → w < workers S.sizes (target k) → part_shown_derived S.catalog (exchange n c k merge p) ≡ true
      → (a : Row) → MeetsAt S.catalog (exchange n c k merge p) a → At (goes S) (kind_part k) (workers S.sizes (target k)) w a → StandsAt (exchange n c k merge p) w a
  exchange-stands n c k merge p w l t a ma at =
      let node : Plan = exchange n c k merge p in
      let m : ℕ = workers S.sizes (target k) in
      by-part (goes S) giv.in_range (is_one (target k)) (shows S.catalog node) (part_derived S.catalog node) c.part m w (one-worker S.sizes (target k)) l a
      (λ r cols h. gives-row (goes S) (kind_part k) (routed r cols) m w a (kind-gives k (routed r cols) h) at)
      (λ r cols h. matches-row (goes S) (equal_at S.catalog p) (kind_part k) r cols m w a h ma.alike at)
      t

  scan-stands : (n : ℕ) (c : Claim) (r : ℕ) (m : Bool) (z : Size) (w : ℕ) → w < workers S.sizes z → part_shown_derived S.catalog (scan n c r m z) ≡ true → (a : Row) → StandsAt (scan n c r m z) w a
  scan-stands n c r true z w l t a =
      by-part (goes S) giv.in_range (is_one z) (shows S.catalog (scan n c r true z)) (part_derived S.catalog (scan n c r true z)) c.part (workers S.sizes z) w (one-worker S.sizes z) l a
      (λ u cols h. absurd (true≢false (sym h))) (λ u cols h. absurd (true≢false (sym h))) t
  scan-stands n c r false z w l t a =
      by-part (goes S) giv.in_range (is_one z) (shows S.catalog (scan n c r false z)) (part_derived S.catalog (scan n c r false z)) c.part (workers S.sizes z) w (one-worker S.sizes z) l a
      (λ u cols h. absurd (true≢false (sym h))) (λ u cols h. absurd (true≢false (sym h))) t

  pub stands : (p : Plan) → Fine S p → (ts : ℕ → Trace) → RunOf S (Ends S) p ts → (x : Output S p ts) (a : Row) → Occurs a x.out.rows → StandsAt p x.place a
  stands (scan n c r m z) f ts run x a o = scan-stands n c r m z x.place x.below (derived-tests S.catalog (scan n c r m z) f.allowed).4 a
  stands (unary n c op p) f ts run x a o =
      let node : Plan = unary n c op p in
      let g : Fine S p = fine-under S n c op p f in
      let y : Output S p ts = under S n c op p ts x in
      let k = unary-comes S n c op p ts x a o in
      unary-stands n c op p x.place x.below (derived-tests S.catalog node (here S node f)).4 a k.0 k.2 (row-meets node f ts run x a o) (row-meets p g ts run y k.0 k.1) (stands p g ts run y k.0 k.1)
  stands (binary n c union p q) f ts run x a o =
      let node : Plan = binary n c union p q in
      let same : size p ≡ size q = same-size S n c union p q f.fit in
      let fp : Fine S p = fine-left S n c union p q f in
      let fq : Fine S q = fine-right S n c union p q f in
      let l : Output S p ts = on-left S n c union p q ts x in
      let r : Output S q ts = on-right S n c union p q ts same x in
      let n0 : ℕ = workers S.sizes (size p) in
      let as_many : n0 ≡ workers S.sizes (size q) = ap (workers S.sizes) same in
      union-stands n c p q same x.place x.below (derived-tests S.catalog node (here S node f)).4 a
      (λ y hp hq. ⊎_elim
      (λ i. had p x.place x.below a (stands p fp ts run.0 l a i) y hp)
      (λ i. let H : ℕ → Type 0 = λ j. At (goes S) y j x.place a in subst H (sym as_many) (had q x.place r.below a (stands q fq ts run.1 r a i) y hq))
      (union-comes S n c p q ts same x a o))
      (λ u cols hp hq. ⊎_elim
      (λ i. matches-row (goes S) (equal_at S.catalog p) (claim p).part u cols n0 x.place a hp (row-meets p fp ts run.0 l a i).alike (stands p fp ts run.0 l a i))
      (λ i. let H : ℕ → Type 0 = λ j. At (goes S) (routed u cols) j x.place a in
      subst H (sym as_many) (matches-row (goes S) (equal_at S.catalog q) (claim q).part u cols (workers S.sizes (size q)) x.place a hq (row-meets q fq ts run.1 r a i).alike (stands q fq ts run.1 r a i)))
      (union-comes S n c p q ts same x a o))
  stands (binary n c (join m on) p q) f ts run x a o =
      let node : Plan = binary n c (join m on) p q in
      let same : size p ≡ size q = same-size S n c (join m on) p q f.fit in
      let fp : Fine S p = fine-left S n c (join m on) p q f in
      let fq : Fine S q = fine-right S n c (join m on) p q f in
      let l : Output S p ts = on-left S n c (join m on) p q ts x in
      let r : Output S q ts = on-right S n c (join m on) p q ts same x in
      let k = joined-comes S n c m on p q ts same x a o in
      join-stands n c m on p q same (named (width S.catalog p) (claim p) (names S.catalog p fp.formed)).0 x.place x.below (derived-tests S.catalog node (here S node f)).4 a k.0 k.1 k.4
      (row-meets node f ts run x a o) (row-meets p fp ts run.0 l k.0 k.2) (row-meets q fq ts run.1 r k.1 k.3) (stands p fp ts run.0 l k.0 k.2) (stands q fq ts run.1 r k.1 k.3)
  stands (binary n c (semi_join matched on conditions) p q) f ts run x a o =
      let node : Plan = binary n c (semi_join matched on conditions) p q in
      let fp : Fine S p = fine-left S n c (semi_join matched on conditions) p q f in
      let l : Output S p ts = on-left S n c (semi_join matched on conditions) p q ts x in
      let k = matched-so-far S n c matched on conditions p q ts x a o in
      semi-join-stands n c matched on conditions p q x.place x.below (derived-tests S.catalog node (here S node f)).4 a (row-meets node f ts run x a o) (row-meets p fp ts run.0 l a k)
      (stands p fp ts run.0 l a k)
  stands (exchange n c k merge p) f ts run x a o =
      let node : Plan = exchange n c k merge p in
      let s = exchange-comes S n c k merge p ts run x a o in
      exchange-stands n c k merge p x.place x.below (derived-tests S.catalog node (here S node f)).4 a (row-meets node f ts run x a o)
      (put-occurs S n s.0 k p run.0 s.1 (run.2 s.0 s.1) x.place x.below a s.2).1

  -- and so all of a worker's rows
  pub placed-so-far : (p : Plan) → Fine S p → (ts : ℕ → Trace) → RunOf S (Ends S) p ts → (x : Output S p ts)
      → Placed (goes S) (claim p).part (workers S.sizes (size p)) x.place x.out.rows
  placed-so-far p f ts run x = all x.out.rows (each-of-had (λ row. StandsAt p x.place row) x.out.rows (λ row o. stands p f ts run x row o))
    where
      all : (xs : List Row) → AllByRecursion (λ row. StandsAt p x.place row) xs → Placed (goes S) (claim p).part (workers S.sizes (size p)) x.place xs
      all [] h = refl
      all (y ∷ ys) h = and-both (at_place (goes S) (claim p).part (workers S.sizes (size p)) x.place y) (list_all (at_place (goes S) (claim p).part (workers S.sizes (size p)) x.place) ys) h.0 (all ys h.1)
