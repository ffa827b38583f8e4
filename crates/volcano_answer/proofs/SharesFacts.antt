-- A run of a plan over rows of more relations than it scans is one over its share.
use Rattle.std.proofs.Common.{◌≡◌, ◌∙◌, ℕ, zero, suc, ◌+◌, ◌<◌, List, [], ◌∷◌, ◌++◌, length, Bool, true, false, cond, Option, Result, Ok, refl, sym, ap, subst, arith, slice_index_or, inl, inr}
use Rattle.std.proofs.lemmas.List.{get_or_past}
use Rattle.std.specs.Prelude.{◌||◌, IfOk}
use Rattle.vx_rows_values.specs.Values.{Row}
use Rattle.vx_catalog_relations.specs.Relation.{Relation}
use Rattle.vx_catalog_relations.specs.Naming as catalog
use Rattle.vx_catalog_relations.specs.Catalog.{relation_at}
use Rattle.vx_catalog.specs.Database.{Database, rows_at}
use Rattle.vx_plan_nodes.specs.Names.{TypedPlanView, scope_of}
use Rattle.vx_plan_nodes.specs.Outline.{plan_in}
use Rattle.vx_plan_nodes.specs.Plan.{Plan}
use Rattle.vx_plan_nodes.specs.Routes.{sends_by}
use Rattle.vx_plan_nodes.specs.Typed.{bounds_at}
use Rattle.vx_plan_nodes.specs.Serial.{SerialResult, IsOverflow}
use Rattle.vx_check_rules.specs.Claims.{Delivers}
use Rattle.vx_plan_nodes.specs.Real.{IsReal}
use Rattle.vx_plan_nodes.specs.Workers.{worker_group_at}
use Rattle.vx_exec_runs.specs.Runs.{IsRunOf, IsSetUp, IsTrueOf, NeedsMoreRounds}
use Rattle.vx_exec_runs.specs.Runs as fails
use Rattle.vx_exec_runs.specs.Sizes.{Sizes}
use Rattle.vx_exec_runs.specs.declared.runs.TheConstants.{MAX_ROUNDS}
use Rattle.vx_rows.specs.View.{RowsView}
use Rattle.vx_exec_setup.specs.declared.fault.RunFault.{RunFault}
use Rattle.vx_exec_setup.specs.declared.fault.RunFault.TheVariants as run
use Rattle.vx_exec_setup.specs.Setting.{Setting}
use Rattle.vx_catalog_bytes.specs.Stored.{Stored}
use Rattle.vx_plan_nodes.specs.ByteRouter.{byte_route}
use Rattle.volcano_refusals.specs.declared.refusal.Refusal.{Refusal}
use Rattle.volcano_tables.specs.Filled.{scans}
use Rattle.volcano_answer.specs.declared.layouts.Layout.{Layout}
use Rattle.volcano_answer.specs.Commands.{Holding, IsRunOver, RunRefuses, for_rounds, for_threads, run_memory, for_fault}
use Rattle.volcano_answer.specs.Planning.{exactly}
use Rattle.volcano_answer.specs.Files.{input_after}
use Rattle.volcano_answer.specs.Plans.{NamedPlan, AreAccepted, any_scans, IsLoadedFor, IsShareFor, IsRunIn, RunRefusesIn, AreAnswers, StopsAt}
use Rattle.volcano_answer.proofs.SeenFacts.{SameSeen, serial_seen, too_long_seen, large_part_seen, rounds_seen, runs_seen}

-- rows of which the numbers are kept, counted from i; none of the others
abbrev pub only_from : (ℕ → Bool) → ℕ → List (List Row) → List (List Row)
only_from f i [] = []
only_from f i (xs ∷ xss) = cond (f i) xs [] ∷ only_from f (i + 1) xss

abbrev pub only : (ℕ → Bool) → Database → Database
only f db = record { catalog = db.catalog; rows = only_from f 0 db.rows }

only_length : (f : ℕ → Bool) (i : ℕ) (xss : List (List Row)) → length (only_from f i xss) ≡ length xss
only_length f i [] = refl
only_length f i (xs ∷ xss) = ap suc (only_length f (i + 1) xss)

no_rows : (b : Bool) (xs : List Row) → xs ≡ [] → xs ≡ cond b xs []
no_rows true xs h = refl
no_rows false xs h = h

only_at : (f : ℕ → Bool) (i j : ℕ) (xss : List (List Row)) → slice_index_or (only_from f i xss) j [] ≡ cond (f (i + j)) (slice_index_or xss j []) []
only_at f i j [] = no_rows (f (i + j)) (slice_index_or [] j []) (get_or_past [] j [] (omega arith))
only_at f i zero (xs ∷ xss) = let e : i ≡ i + 0 = omega arith in ap (λ k. cond (f k) xs []) e
only_at f i (suc j) (xs ∷ xss) =
    let e : i + 1 + j ≡ i + suc j = omega arith in only_at f (i + 1) j xss ∙ ap (λ k. cond (f k) (slice_index_or xss j []) []) e

kept : (f : ℕ → Bool) (db : Database) (i : ℕ) → f i ≡ true → rows_at (only f db) i ≡ rows_at db i
kept f db i is = let e : 0 + i ≡ i = omega arith in only_at f 0 i db.rows ∙ ap (λ k. cond (f k) (rows_at db i) []) e ∙ ap (λ b. cond b (rows_at db i) []) is

left_out : (f : ℕ → Bool) (db : Database) (i : ℕ) → f i ≡ false → rows_at (only f db) i ≡ []
left_out f db i is = let e : 0 + i ≡ i = omega arith in only_at f 0 i db.rows ∙ ap (λ k. cond (f k) (rows_at db i) []) e ∙ ap (λ b. cond b (rows_at db i) []) is

abbrev pub share_of : TypedPlanView → Database → Database
share_of p all = only (scans (plan_in p.root)) all

-- a plan that is among those for which a database was loaded has a share of it
share : (relations : List Relation) (whole : List NamedPlan) (holds : Holding) (all : Database) (p : TypedPlanView) → IsLoadedFor relations whole holds all
    → ((i : ℕ) → scans (plan_in p.root) i ≡ true → any_scans whole i ≡ true) → p.names.catalog ≡ relations → IsShareFor p holds all (share_of p all)
share relations whole holds all p loaded covers over =
    let f = scans (plan_in p.root) in
    record {
      own = record {
        same = loaded.same ∙ sym over;
        filled = record {
          many = only_length f 0 all.rows ∙ loaded.filled.many;
          scanned = λ i there is. let P : List Row → Type 0 = λ xs. holds (relation_at all.catalog i) xs in subst P (sym (kept f all i is)) (loaded.filled.scanned i there (covers i is));
          others = λ i is. left_out f all i is;
        };
      };
      same = λ i is. kept f all i is;
    }

-- over its share a plan runs as it ran
delivers_in : (f g : ℕ → List Row) (total : Bool) (p : Plan) (out : List Row) → SameSeen f g p → Delivers f total p out → Delivers g total p out
delivers_in f g total p out same h = record { base = h.base; is_serial = sym (serial_seen f g p same) ∙ h.is_serial; same = h.same; list = h.list }

real_in : (f g : ℕ → List Row) (p : Plan) → SameSeen f g p → IsReal f p → IsReal g p
real_in f g p same (inl h) = let P : SerialResult → Type 0 = λ x. IsOverflow x in inl (subst P (serial_seen f g p same) h)
real_in f g p same (inr (inl h)) = inr (inl (too_long_seen f g p same h))
real_in f g p same (inr (inr h)) = inr (inr (large_part_seen f g p same h))

module _ (p : TypedPlanView) (holds : Holding) (all db : Database) (s : Setting) (has : IsShareFor p holds all db) where
  same_rows : SameSeen (rows_at all) (rows_at db) (plan_in p.root)
  same_rows i is = sym (has.same i is)

  set_in : (sizes : Sizes) → IsSetUp p all s.setup sizes → IsSetUp p db s.setup sizes
  set_in sizes h = record { same = has.own.same; sizes = h.sizes; known = h.known }

  needs_in : (sizes : Sizes) → NeedsMoreRounds p all sizes → NeedsMoreRounds p db sizes
  needs_in sizes h =
      let P : ℕ → Type 0 = λ n. MAX_ROUNDS < n in
      subst P (rounds_seen (rows_at all) (rows_at db) (worker_group_at sizes.worker_groups) (plan_in p.root) same_rows) h

  true_in : (e : RunFault) → IsTrueOf p all e → IsTrueOf p db e
  true_in (run.SizeMissing name) h = h
  true_in (run.SizeOutOfRange name) h = h
  true_in run.BadPacket h = h
  true_in run.BadMorsel h = h
  true_in (run.BadStep index) h = h
  true_in run.OtherCatalog h = h
  true_in (run.Overflow node) h = real_in (rows_at all) (rows_at db) (plan_in p.root) same_rows h
  true_in run.NoMemory h = h
  true_in run.NoThread h = h
  true_in (run.Unsorted node) h = h
  true_in (run.Stranger exchange) h = h
  true_in (run.TooManyWorkers number) h = h
  true_in run.BadSlack h = h
  true_in (run.BadFunction node) h = h

  run_in : (groups : List ℕ) (t : RowsView) → IsRunOf byte_route p all groups t → IsRunOf byte_route p db groups t
  run_in groups t h = record {
    types = h.types;
    runs = runs_seen (rows_at all) (rows_at db) (worker_group_at groups) (sends_by byte_route (bounds_at (scope_of p.names).ranges)) (plan_in p.root) (λ _. t.rows) same_rows h.runs;
    delivers = delivers_in (rows_at all) (rows_at db) p.total (plan_in p.root) t.rows same_rows h.delivers;
  }

  pub answer_in : (layout : Layout) (text : List ℕ) → IsRunOver layout p all s text → IsRunIn layout all holds s p text
  answer_in layout text h = (db, has, (h.0, h.1, set_in h.1 h.2, run_in h.1.worker_groups h.0 h.3, h.4))

  fails_in : (e : RunFault) → all.catalog ≡ p.names.catalog → fails.RunFails p all s.setup e → fails.RunFails p db s.setup e
  fails_in e over (fails.for_catalog is other) = absurd (other over)
  fails_in e over (fails.for_setup same h) = fails.for_setup has.own.same h
  fails_in e over (fails.for_function sizes set node is unknown) = fails.for_function sizes (record { same = has.own.same; sizes = set.sizes }) node is unknown
  fails_in e over (fails.for_fault sizes set h) = fails.for_fault sizes (set_in sizes set) (true_in e h)

  refuses_over : (e : Refusal) → all.catalog ≡ p.names.catalog → RunRefuses p all s e → RunRefuses p db s e
  refuses_over e over (for_rounds rounds sizes set needs is) = for_rounds rounds sizes (set_in sizes set) (needs_in sizes needs) is
  refuses_over e over (for_threads threads sizes set is) = for_threads threads sizes (set_in sizes set) is
  refuses_over e over (run_memory is) = run_memory is
  refuses_over e over (for_fault fault is h) = for_fault fault is (fails_in fault over h)

  pub refusal_in : (e : Refusal) → all.catalog ≡ p.names.catalog → RunRefuses p all s e → RunRefusesIn all holds s p e
  refusal_in e over h = (db, has, refuses_over e over h)

-- each of these plans is over the database's relations, and has its share of the rows
abbrev pub HaveShares : Holding → Database → List NamedPlan → Type 0
HaveShares holds all [] = Unit {0}
HaveShares holds all (n ∷ ns) = (all.catalog ≡ n.plan.names.catalog) × IsShareFor n.plan holds all (share_of n.plan all) × HaveShares holds all ns

is_over : (relations : List Relation) (p : TypedPlanView) → exactly {A = Result (List Relation) catalog.Refusal} (Ok relations) (λ r. r ≡ Ok p.names.catalog) → p.names.catalog ≡ relations
is_over relations p h = let P : Result (List Relation) catalog.Refusal → Type 0 = λ r. IfOk r (λ c. c ≡ relations) in subst P h refl

at_left : (a b : Bool) → a ≡ true → (a || b) ≡ true
at_left true b h = refl
at_left false b h = cc

at_right : (a b : Bool) → b ≡ true → (a || b) ≡ true
at_right true b h = refl
at_right false b h = h

pub have_shares : (relations : List Relation) (whole : List NamedPlan) (holds : Holding) (all : Database) → IsLoadedFor relations whole holds all
    → (files : List ℕ → Stored) (input : Option (List ℕ)) (ns : List NamedPlan) → AreAccepted files input relations ns → ((i : ℕ) → any_scans ns i ≡ true → any_scans whole i ≡ true) → HaveShares holds all ns
have_shares relations whole holds all loaded files input [] h covers = tt
have_shares relations whole holds all loaded files input (n ∷ ns) h covers =
    let over = is_over relations n.plan h.0.declares in (
      loaded.same ∙ sym over,
      share relations whole holds all n.plan loaded (λ i is. covers i (at_left (scans (plan_in n.plan.root) i) (any_scans ns i) is)) over,
      have_shares relations whole holds all loaded files (input_after input n.path) ns h.2 (λ i is. covers i (at_right (scans (plan_in n.plan.root) i) (any_scans ns i) is)),
    )

-- answers over the database are answers over the shares
pub answers_in : (layout : Layout) (holds : Holding) (all : Database) (s : Setting) (ns : List NamedPlan) (text : List ℕ) → HaveShares holds all ns → AreAnswers (λ p own. IsRunOver layout p all s own) ns text
    → AreAnswers (IsRunIn layout all holds s) ns text
answers_in layout holds all s [] text shares h = h
answers_in layout holds all s (n ∷ ns) text shares h =
    (h.0, h.1, answer_in n.plan holds all (share_of n.plan all) s shares.1 layout h.0 h.2, answers_in layout holds all s ns h.1 shares.2 h.3, h.4)

before_shares : (holds : Holding) (all : Database) (before after : List NamedPlan) → HaveShares holds all (before ++ after) → HaveShares holds all before
before_shares holds all [] after h = tt
before_shares holds all (n ∷ before) after h = (h.0, h.1, before_shares holds all before after h.2)

after_shares : (holds : Holding) (all : Database) (before after : List NamedPlan) → HaveShares holds all (before ++ after) → HaveShares holds all after
after_shares holds all [] after h = h
after_shares holds all (n ∷ before) after h = after_shares holds all before after h.2

-- and so for the answers before the plan at which it stops
pub stops_in : (layout : Layout) (holds : Holding) (all : Database) (s : Setting) (ns : List NamedPlan) (text : List ℕ) (e : Refusal) → HaveShares holds all ns
    → StopsAt (λ p own. IsRunOver layout p all s own) (λ p e. RunRefuses p all s e) ns text e → StopsAt (IsRunIn layout all holds s) (RunRefusesIn all holds s) ns text e
stops_in layout holds all s ns text e shares h =
    let P : List NamedPlan → Type 0 = λ ns. HaveShares holds all ns in
    let parts : HaveShares holds all (h.before ++ h.stopped ∷ h.rest) = subst P h.split shares in
    let own = after_shares holds all h.before (h.stopped ∷ h.rest) parts in
    record {
      before = h.before;
      stopped = h.stopped;
      rest = h.rest;
      split = h.split;
      answered = answers_in layout holds all s h.before text (before_shares holds all h.before (h.stopped ∷ h.rest) parts) h.answered;
      refused = refusal_in h.stopped.plan holds all (share_of h.stopped.plan all) s own.1 e own.0 h.refused;
    }
