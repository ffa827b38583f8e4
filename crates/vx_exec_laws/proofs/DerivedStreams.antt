-- The rows of each stream of a run meet the facts of their node.
use Rattle.std.proofs.Common.{◌≡◌, ℕ, ◌<◌, ◌==◌, Bool, true, false, ◌&&◌, List, length, sym, ap, subst}
use Rattle.std.specs.List.{AllByRecursion}
use Rattle.vx_rows_values.specs.Values.{Row, pick}
use Rattle.vx_plan_nodes.specs.Plan.{scan, unary, binary, exchange, size, target, size_eq, ExchangeKind, route_to, round, broadcast, gather, concat}
use Rattle.vx_plan_nodes.specs.Types.{width}
use Rattle.vx_plan_nodes.specs.Streams.{Streams, workers}
use Rattle.vx_plan_nodes.specs.Routes.{Routing, Sends}
use Rattle.vx_plan_facts.specs.RowFacts.{all_inputs_fit, inputs_fit, EachMeets, MeetsAt}
use Rattle.vx_plan_facts.proofs.RowFacts.{fits-wide, scan-meets, unary-meets, binary-meets, exchange-meets}
use Rattle.vx_plan_facts.proofs.EachRow.{each-filter, each-dealt, each-shuffled}
use Rattle.vx_exec_laws.specs.DerivedSound.{StreamsMeet, all_sizes_match}
use Rattle.vx_exec_laws.proofs.Bags.{and-left, and-right}
use Rattle.vx_exec_laws.proofs.Parts.{size_eq-is}

-- what a producer sends are rows of its own
pub sent-each : (P : Row → Type 0) (goes : Routing) (k : ExchangeKind) (n : ℕ) (xs : List Row) (sent : Streams) → Sends goes k n xs sent → AllByRecursion P xs
    → (j : ℕ) → j < n → AllByRecursion P (sent j)
sent-each P goes (route_to z r cols) n xs sent h each j l = subst (AllByRecursion P) (h j l) (each-filter P P (λ row. goes r (pick cols row) n == j) (λ x e k. k) xs each)
sent-each P goes (round z) n xs sent h each j l = each-dealt P n xs sent h each j l
sent-each P goes (broadcast z) n xs sent h each j l = subst (AllByRecursion P) (h j l) each
sent-each P goes gather n xs sent h each j l = subst (AllByRecursion P) (h j l) each
sent-each P goes concat n xs sent h each j l = subst (AllByRecursion P) (h j l) each

pub streams-meet : StreamsMeet
streams-meet catalog db sizes goes given (scan n c r true z) s sized fit run w l =
    scan-meets catalog n c r true z (s w)
    (each-dealt (λ row. length row ≡ length (catalog r).types) (workers sizes z) (db r) s run (fits-wide (catalog r).types (db r) (given.meets r).fit) w l)
streams-meet catalog db sizes goes given (scan n c r false z) s sized fit run w l =
    scan-meets catalog n c r false z (s w)
    (subst (AllByRecursion (λ row. length row ≡ length (catalog r).types)) (sym (run w l)) (fits-wide (catalog r).types (db r) (given.meets r).fit))
streams-meet catalog db sizes goes given (unary n c op p) s sized fit run w l =
    unary-meets catalog n c op p (run.0 w) (s w) (run.2 w l) (streams-meet catalog db sizes goes given p run.0 sized fit run.1 w l)
streams-meet catalog db sizes goes given (binary n c op p q) s sized fit run w l =
    let fp : Bool = all_inputs_fit catalog p in
    let fq : Bool = all_inputs_fit catalog q in
    let here : Bool = inputs_fit (width catalog p) (width catalog q) op in
    let later = and-right fp (fq && here) fit in
    let sp : Bool = all_sizes_match p in
    let sq : Bool = all_sizes_match q in
    let same : Bool = size_eq (size p) (size q) in
    let rest = and-right sp (sq && same) sized in
    let as_many = ap (workers sizes) (size_eq-is (size p) (size q) (and-right sq same rest)) in
    subst (EachMeets catalog (binary n c op p q)) (run.4 w l)
    (binary-meets catalog n c op p q (and-right fq here later) (run.0 w) (run.1 w)
    (streams-meet catalog db sizes goes given p run.0 (and-left sp (sq && same) sized) (and-left fp (fq && here) fit) run.2 w l)
    (streams-meet catalog db sizes goes given q run.1 (and-left sq same rest) (and-left fq here later) run.3 w (subst (λ m. w < m) as_many l)))
streams-meet catalog db sizes goes given (exchange n c k m p) s sized fit run w l =
    let x = run.2 in
    exchange-meets catalog n c k m p (s w)
    (each-shuffled (MeetsAt catalog p) (workers sizes (size p)) (s w) (λ i. x.sent i w) (x.gets w l)
    (λ i b. sent-each (MeetsAt catalog p) goes k (workers sizes (target k)) (run.0 i) (x.sent i) (x.sends i b) (streams-meet catalog db sizes goes given p run.0 sized fit run.1 i b) w l))
