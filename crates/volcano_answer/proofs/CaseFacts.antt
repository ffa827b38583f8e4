-- A case is refused with status 3 only by its setup, or for a function that is not the program's.
use Rattle.std.proofs.Common.{◌≡◌, ◌∙◌, ℕ, ◌+◌, ◌<◌, List, length, Bool, true, false, cond, Option, Some, None, Result, Ok, Err, refl, ap, arith, inl, inr, subst}
use Rattle.std.specs.Prelude.{⊤, ◌⊎◌}
use Rattle.vx_rows_values.specs.Values.{Row}
use Rattle.vx_catalog_relations.specs.Relation.{Relation}
use Rattle.vx_catalog_relations.specs.Catalog.{relation_at}
use Rattle.vx_catalog_relations.specs.Walk.{◌>>=◌}
use Rattle.vx_catalog_relations.specs.Naming as catalog
use Rattle.vx_catalog_relations.specs.declared.fault.CatalogFault.{CatalogFault}
use Rattle.vx_catalog_relations.specs.declared.fault.CatalogFault.TheVariants as of_catalog
use Rattle.vx_catalog.specs.Database.{Database}
use Rattle.vx_catalog.specs.declared.fault.LoadFault.{LoadFault}
use Rattle.vx_catalog.specs.declared.fault.LoadFault.TheVariants as load
use Rattle.vx_plan_json.specs.Fault as plan
use Rattle.vx_plan_json.specs.Reading.{document_in}
use Rattle.vx_plan_json.specs.declared.fault.PlanFault.{PlanFault}
use Rattle.vx_plan_json.specs.declared.fault.PlanFault.TheVariants as of_plan
use Rattle.vx_plan_nodes.specs.Plan.{Plan}
use Rattle.vx_plan_nodes.specs.Outline.{Outline, scan, unary, binary, exchange, plan_in}
use Rattle.vx_plan_nodes.specs.Erase.{nodes_left, at_once}
use Rattle.vx_plan_nodes.specs.Erased.{erased_from, erased_top}
use Rattle.vx_plan_nodes.specs.Phases.{is_final}
use Rattle.vx_plan_nodes.specs.Names.{TypedPlanView}
use Rattle.vx_exec_setup.specs.Setup.{SetupView, is_within, worker_groups_named, first_missing, first_out_of_range}
use Rattle.vx_exec_setup.specs.declared.fault.RunFault.{RunFault}
use Rattle.vx_exec_setup.specs.declared.fault.RunFault.TheVariants as run
use Rattle.vx_exec_runs.specs.Setup.{SetupRefusal, size_missing, size_out_of_range, bad_packet, bad_morsel, bad_slack, other, tested, no_name, few_workers, sizes_set, refusal_of}
use Rattle.vx_exec_runs.specs.Runs.{RunFails, IsTrueOf}
use Rattle.vx_exec_runs.specs.Runs as runs
use Rattle.vx_serial.specs.Evaluated.{first_exchange}
use Rattle.vx_serial.specs.Results.{EvalFails}
use Rattle.vx_exec_setup.specs.declared.eval_fault.EvalFault.{EvalFault}
use Rattle.vx_exec_setup.specs.declared.eval_fault.EvalFault.TheVariants as eval
use Rattle.volcano_bundle.specs.Bundle.{Bundle}
use Rattle.volcano_bundle.specs.Named.{Named}
use Rattle.volcano_refusals.specs.declared.refusal.Refusal.{Refusal}
use Rattle.volcano_refusals.specs.declared.refusal.Refusal.TheVariants as refusal
use Rattle.volcano_tables.specs.Filled.{scans, IsFirstMissing, missing_memory, first_missing as first_of_missing}
use Rattle.volcano_refusals.specs.Status.{status_of}
use Rattle.volcano_tables.specs.Texts.{Missing, text_of, rows_from, holds_in, lacks_in, MissesBy, Misses, for_memory, for_no_text, for_bad_text}
use Rattle.volcano_answer.specs.Commands.{refusal_in, RunRefuses, PlanRefuses, SerialRefuses, CommandRefuses, erased}
use Rattle.volcano_answer.specs.Commands as commands
use Rattle.volcano_answer.specs.Answer.{IsBundlePlan, IsBundlePlanRefusal, Refuses}
use Rattle.volcano_answer.specs.Planning.{plan_from}
use Rattle.volcano_answer.specs.Planning as planning
use Rattle.volcano_answer.specs.Answer as answer
use Rattle.volcano_answer.specs.Case.{IsCase, is_of_setup, IsOfSetup, IsForFunction}

-- a refusal of status 4 has not status 3
not_three : (e r : Refusal) → e ≡ r → status_of r ≡ 4 → status_of e ≡ 3 → ⊥
not_three e r is four three = let same : status_of e ≡ status_of r = ap status_of is in omega (arith, same, four, three)

none_some : {A : Type 0} (o : Option A) (x : A) → o ≡ None → o ≡ Some x → ⊥
none_some o x none some = cc

ok_err : {A E : Type 0} (r : Result A E) (x : A) (e : E) → r ≡ Ok x → r ≡ Err e → ⊥
ok_err r x e ok err = cc

-- a catalog that reads has no fault but that memory ran out
catalog_reads : {Y : Type 0} (e : Refusal) (fault : CatalogFault) (read : Result Y catalog.Refusal) (y : Y) → read ≡ Ok y → e ≡ refusal.Catalog fault → catalog.Fails fault read → status_of e ≡ 3 → ⊥
catalog_reads e of_catalog.NoMemory read y ok is h three = not_three e (refusal.Catalog of_catalog.NoMemory) is refl three
catalog_reads e of_catalog.BadCatalog read y ok is h three = cc
catalog_reads e of_catalog.TooLarge read y ok is h three = cc
catalog_reads e (of_catalog.DuplicateName name) read y ok is h three = cc
catalog_reads e (of_catalog.UnknownColumn name) read y ok is h three = cc

-- nor has a plan that resolves
plan_resolves : {Y : Type 0} (e : Refusal) (fault : PlanFault) (read : Result Y plan.Refusal) (y : Y) → read ≡ Ok y → e ≡ refusal.Plan fault → plan.Fails fault read → status_of e ≡ 3 → ⊥
plan_resolves e fault read y ok is (inl memory) three = not_three e (refusal.Plan of_plan.NoMemory) (is ∙ ap refusal.Plan memory) refl three
plan_resolves e fault read y ok is (inr err) three = ok_err read y (plan.refusal_of fault) ok err

-- nor has a table that loads
table_loads : (e : Refusal) (fault : LoadFault) (rows : Result (List Row) Missing) (x : List Row) → rows ≡ Ok x → e ≡ refusal.Load fault → MissesBy fault rows → status_of e ≡ 3 → ⊥
table_loads e load.NoMemory rows x ok is h three = not_three e (refusal.Load load.NoMemory) is refl three
table_loads e load.ReadFailed rows x ok is h three = h
table_loads e load.HeaderMismatch rows x ok is h three = cc
table_loads e (load.BadWidth row) rows x ok is h three = cc
table_loads e (load.BadInt row col) rows x ok is h three = cc
table_loads e (load.NotUtf8 row) rows x ok is h three = cc
table_loads e (load.KeyBroken key first second) rows x ok is h three = cc
table_loads e (load.OrderBroken row) rows x ok is h three = cc
table_loads e load.TooLarge rows x ok is h three = cc

rows_are_there : (e : Refusal) (rows : Result (List Row) Missing) (x : List Row) → rows ≡ Ok x → Misses e rows → status_of e ≡ 3 → ⊥
rows_are_there e rows x ok (for_memory is) three = not_three e refusal.NoMemory is refl three
rows_are_there e rows x ok (for_no_text name is err) three = cc
rows_are_there e rows x ok (for_bad_text fault is h) three = table_loads e fault rows x ok is h three

tables_load : (tables : Named (List ℕ)) (p : Plan) (relations : List Relation) (e : Refusal)
    → ((i : ℕ) → i < length relations → scans p i ≡ true → (rows : List Row) × holds_in tables (relation_at relations i) rows)
    → IsFirstMissing p (holds_in tables) (lacks_in tables) relations e → status_of e ≡ 3 → ⊥
tables_load tables p relations e loaded (missing_memory is) three = not_three e refusal.NoMemory is refl three
tables_load tables p relations e loaded (first_of_missing i there scanned before lacks) three =
    let relation = relation_at relations i in
    let rows = loaded i there scanned in
    rows_are_there e (rows_from relation (text_of relation.name tables)) rows.0 rows.1 lacks three

-- the refusals of a setup have names
abbrev IsNamed : SetupRefusal → Type 0
IsNamed other = ⊥
IsNamed _ = ⊤

abbrev AllNamed : {T : Type 0} → Result T SetupRefusal → Type 0
AllNamed (Ok x) = ⊤
AllNamed (Err e) = IsNamed e

named_then : {A B : Type 0} (r : Result A SetupRefusal) (f : A → Result B SetupRefusal) → AllNamed r → ((x : A) → AllNamed (f x)) → AllNamed (r >>= f)
named_then (Ok x) f h k = k x
named_then (Err e) f h k = h

named_test : (b : Bool) (e : SetupRefusal) → IsNamed e → AllNamed (tested b e)
named_test true e h = tt
named_test false e h = h

named_name : (f : List ℕ → SetupRefusal) (o : Option (List ℕ)) → ((name : List ℕ) → IsNamed (f name)) → AllNamed (no_name f o)
named_name f None h = tt
named_name f (Some name) h = h name

sizes_named : (s : SetupView) (names : List (List ℕ)) (p : Plan) → AllNamed (sizes_set s names p)
unfolding sizes_set
sizes_named s names p =
    named_then (no_name size_missing (first_missing s.sizes names)) _ (named_name size_missing (first_missing s.sizes names) (λ name. tt)) (λ _.
    named_then (no_name size_out_of_range (first_out_of_range s.sizes names)) _ (named_name size_out_of_range (first_out_of_range s.sizes names) (λ name. tt)) (λ _.
    named_then (tested (is_within 4096 s.packet) bad_packet) _ (named_test (is_within 4096 s.packet) bad_packet tt) (λ _.
    named_then (tested (is_within 1000000 s.morsel) bad_morsel) _ (named_test (is_within 1000000 s.morsel) bad_morsel tt) (λ _.
    named_then (tested (is_within 1024 s.slack) bad_slack) _ (named_test (is_within 1024 s.slack) bad_slack tt) (λ _.
    named_then (few_workers (worker_groups_named s.sizes names) p) _ (named_test _ _ tt) (λ _. tt))))))

-- a fault that is a refusal with a name is one of the setup
named_setup : (fault : RunFault) → IsNamed (refusal_of fault) → is_of_setup fault ≡ true
named_setup (run.SizeMissing name) h = refl
named_setup (run.SizeOutOfRange name) h = refl
named_setup run.BadPacket h = refl
named_setup run.BadMorsel h = refl
named_setup (run.TooManyWorkers number) h = refl
named_setup run.BadSlack h = refl
named_setup _ h = absurd h

-- what a run comes to has status 4
run_ends : (p : TypedPlanView) (db : Database) (fault : RunFault) (e : Refusal) → e ≡ refusal.Run fault → IsTrueOf p db fault → status_of e ≡ 3 → ⊥
run_ends p db run.NoMemory e is h three = not_three e (refusal.Run run.NoMemory) is refl three
run_ends p db (run.Overflow node) e is h three = not_three e (refusal.Run (run.Overflow node)) is refl three
run_ends p db _ e is h three = h

run_fails : (p : TypedPlanView) (db : Database) (s : SetupView) (fault : RunFault) (e : Refusal) → db.catalog ≡ p.names.catalog → e ≡ refusal.Run fault → RunFails p db s fault → status_of e ≡ 3 → IsOfSetup e ⊎ IsForFunction p e
run_fails p db s fault e same is (runs.for_catalog of differs) three = absurd (differs same)
run_fails p db s fault e same is (runs.for_setup c (inl memory)) three = absurd (not_three e (refusal.Run run.NoMemory) (is ∙ ap refusal.Run memory) refl three)
run_fails p db s fault e same is (runs.for_setup c (inr err)) three = inl (fault, is, named_setup fault (subst AllNamed err (sizes_named s p.names.sizes (plan_in p.root))))
run_fails p db s fault e same is (runs.for_function sizes set node names unknown) three = inr (inl (node, is ∙ ap refusal.Run names, unknown))
run_fails p db s fault e same is (runs.for_fault sizes set h) three = absurd (run_ends p db fault e is h three)

run_refuses : (b : Bundle) (p : TypedPlanView) (db : Database) (e : Refusal) → db.catalog ≡ p.names.catalog → RunRefuses p db b.setting e → status_of e ≡ 3 → IsOfSetup e ⊎ IsForFunction p e
run_refuses b p db e same (commands.for_rounds in_rounds s set needs is) three = absurd (not_three e refusal.Unfinished is refl three)
run_refuses b p db e same (commands.for_threads in_threads s set is) three = absurd (not_three e (refusal.Run run.NoThread) is refl three)
run_refuses b p db e same (commands.run_memory is) three = absurd (not_three e refusal.NoMemory is refl three)
run_refuses b p db e same (commands.for_fault fault is h) three = run_fails p db b.setting.setup fault e same is h three

plan_refuses : (b : Bundle) (p : TypedPlanView) (e : Refusal) → IsCase b p → PlanRefuses p (holds_in b.tables) (lacks_in b.tables) b.setting e → status_of e ≡ 3 → IsOfSetup e ⊎ IsForFunction p e
plan_refuses b p e case (commands.for_tables h) three = absurd (tables_load b.tables (plan_in p.root) p.names.catalog e case.loaded h three)
plan_refuses b p e case (commands.for_run db there h) three = run_refuses b p db e there.same h three

-- of two plans without exchanges either has none
either_left : (b : Bool) (x y : Outline) → first_exchange (plan_in x) ≡ None → first_exchange (plan_in y) ≡ None → first_exchange (plan_in (cond b x y)) ≡ None
either_left true x y p q = p
either_left false x y p q = q

-- a plan without its exchanges has none
none_left : (i : ℕ) (o : Outline) → first_exchange (plan_in (erased_from i o)) ≡ None
none_left i (scan h r m z p) = refl
none_left i (unary h op flags t) =
    either_left (is_final op) (erased_from i t) (unary (erased_top i h) (at_once op) flags (erased_from (i + 1) t)) (none_left i t) (none_left (i + 1) t)
none_left i (binary h op t u) = rw (none_left (i + 1) t) (none_left (i + 1 + nodes_left (plan_in t)) u)
none_left i (exchange h k m t) = none_left i t

evaluation_fails : (p : TypedPlanView) (db : Database) (fault : EvalFault) (e : Refusal) → db.catalog ≡ p.names.catalog → e ≡ refusal.Eval fault → EvalFails (erased p) db fault → status_of e ≡ 3 → IsForFunction p e
evaluation_fails p db eval.OtherCatalog e same is h three = absurd (h same)
evaluation_fails p db (eval.HasExchange node) e same is h three = absurd (none_some (first_exchange (plan_in (erased_from 0 p.root))) node (none_left 0 p.root) h.1)
evaluation_fails p db (eval.Overflow node) e same is h three = absurd (not_three e (refusal.Eval (eval.Overflow node)) is refl three)
evaluation_fails p db eval.NoMemory e same is h three = absurd (not_three e (refusal.Eval eval.NoMemory) is refl three)
evaluation_fails p db (eval.BadFunction node) e same is h three = inr (node, is, h.1)

serial_refuses : (b : Bundle) (p : TypedPlanView) (e : Refusal) → IsCase b p → SerialRefuses p (holds_in b.tables) (lacks_in b.tables) e → status_of e ≡ 3 → IsForFunction p e
serial_refuses b p e case (commands.serial_memory is) three = absurd (not_three e refusal.NoMemory is refl three)
serial_refuses b p e case (commands.for_texts h) three = absurd (tables_load b.tables (plan_in p.root) p.names.catalog e case.loaded h three)
serial_refuses b p e case (commands.for_evaluation db fault there is h) three = evaluation_fails p db fault e there.same is h three

command_refuses : (b : Bundle) (p : TypedPlanView) (e : Refusal) → IsCase b p → CommandRefuses b.command p (holds_in b.tables) (lacks_in b.tables) b.setting e → status_of e ≡ 3 → IsOfSetup e ⊎ IsForFunction p e
command_refuses b p e case (commands.command_memory is) three = absurd (not_three e refusal.NoMemory is refl three)
command_refuses b p e case (commands.for_rule checked (inl h)) three = absurd (none_some (refusal_in p) _ case.shown h.3)
command_refuses b p e case (commands.for_rule checked (inr h)) three = absurd (not_three e (refusal.Plan of_plan.NoMemory) h.1 refl three)
command_refuses b p e case (commands.for_rest runs shown h) three = plan_refuses b p e case h three
command_refuses b p e case (commands.for_serial runs h) three = inr (serial_refuses b p e case h three)

-- the plan of a bundle over these relations
abbrev plan_over_relations : Bundle → List Relation → Result TypedPlanView plan.Refusal
plan_over_relations b relations = plan_from relations (document_in b.plan)

-- a bundle has one plan
one_plan : (b : Bundle) (p q : TypedPlanView) → IsBundlePlan b p → IsBundlePlan b q → q ≡ p
one_plan b p q x y =
    let declares : catalog.catalog_of b.catalog ≡ Ok p.names.catalog = x.declares in
    let declares_too : catalog.catalog_of b.catalog ≡ Ok q.names.catalog = y.declares in
    let same : p.names.catalog ≡ q.names.catalog = cc (declares, declares_too) in
    let over : plan_over_relations b p.names.catalog ≡ plan_over_relations b q.names.catalog = ap (plan_over_relations b) same in
    let planned : plan_over_relations b p.names.catalog ≡ Ok p = x.planned in
    let planned_too : plan_over_relations b q.names.catalog ≡ Ok q = y.planned in
    cc (over, planned, planned_too)

has_plan : (b : Bundle) (p : TypedPlanView) (e : Refusal) → IsBundlePlan b p → IsBundlePlanRefusal b e → status_of e ≡ 3 → ⊥
has_plan b p e x (planning.for_catalog fault is h) three = catalog_reads e fault (catalog.catalog_of b.catalog) p.names.catalog x.declares is h three
has_plan b p e x (planning.for_plan relations fault is declared h) three =
    let declares : catalog.catalog_of b.catalog ≡ Ok p.names.catalog = x.declares in
    let declares_too : catalog.catalog_of b.catalog ≡ Ok relations = declared in
    let same : relations ≡ p.names.catalog = cc (declares, declares_too) in
    plan_resolves e fault (plan_over_relations b relations) p (ap (plan_over_relations b) same ∙ x.planned) is h three

pub case_is_refused_by_setup : (b : Bundle) (p : TypedPlanView) (e : Refusal) → IsCase b p → Refuses b e → status_of e ≡ 3 → IsOfSetup e ⊎ IsForFunction p e
case_is_refused_by_setup b p e case (answer.bundle_memory is) three = absurd (not_three e refusal.NoMemory is refl three)
case_is_refused_by_setup b p e case (answer.for_planning h) three = absurd (has_plan b p e case.planned h three)
case_is_refused_by_setup b p e case (answer.for_plan_of q planned h) three =
    let P : TypedPlanView → Type 0 = λ q. CommandRefuses b.command q (holds_in b.tables) (lacks_in b.tables) b.setting e in
    command_refuses b p e case (subst P (one_plan b p q case.planned planned) h) three
