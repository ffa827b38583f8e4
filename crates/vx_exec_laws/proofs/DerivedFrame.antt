-- The theorems on the rule table with what is known of columns.
use Rattle.std.proofs.Common.{◌≡◌, ℕ, ◌<◌, Bool, true, false, not, ◌&&◌, ◌||◌, List, refl, sym, ap, subst, true≢false}
use Rattle.std.proofs.lemmas.Bool.{not-true}
use Rattle.vx_rows_values.specs.declared.order.OrderEntry.{OrderEntry}
use Rattle.vx_rows_values.specs.Values.{Row}
use Rattle.vx_rows_values.specs.Order.{sorted}
use Rattle.vx_catalog_relations.specs.Relation.{Relation}
use Rattle.vx_plan_nodes.specs.Plan.{Claim, Unary, ExchangeKind, Plan, scan, unary, binary, exchange, claim, size, size_eq, is_one}
use Rattle.vx_plan_nodes.specs.Types.{width, names_columns, well_formed}
use Rattle.vx_plan_nodes.specs.Phases.{is_open, spoken}
use Rattle.vx_plan_nodes.specs.Streams.{Streams, workers}
use Rattle.vx_plan_nodes.specs.Routes.{Routing}
use Rattle.vx_plan_nodes.specs.Runs.{Runs}
use Rattle.vx_plan_facts.specs.RowFacts.{all_inputs_fit, inputs_fit, EachMeets}
use Rattle.vx_check_rules.specs.Derived.{allowed_derived, allowed_here_derived, is_total_derived}
use Rattle.vx_check_rules.specs.Claims.{Given, HoldsAt}
use Rattle.vx_exec_laws.specs.DerivedSound.{all_sizes_match, DerivedSound, DerivedSoundAtRoot}
use Rattle.vx_exec_laws.proofs.Bags.{and-left, and-right, and-both}
use Rattle.vx_exec_laws.proofs.Parts.{one-worker, size_eq-is}
use Rattle.vx_exec_laws.proofs.Erased.{erased-rows}
use Rattle.vx_exec_laws.proofs.WellFormed.{well-under, well-both, well-phased, names}
use Rattle.vx_exec_laws.proofs.OneInput.{close, HoldingAt, FitsStreams}
use Rattle.vx_exec_laws.proofs.Frame.{well-spoken}
use Rattle.vx_exec_laws.proofs.FirstRows.{one-list}
use Rattle.vx_exec_laws.proofs.DerivedTotal.{order-tells-derived}
use Rattle.vx_exec_laws.proofs.DerivedOpen.{derived-tests}
use Rattle.vx_exec_laws.proofs.DerivedStreams.{streams-meet}
use Rattle.vx_exec_laws.proofs.DerivedNodes.{Sure, scan-sure, unary-sure, binary-sure, exchange-sure, fits-equally, streams-merged}

-- in an allowed plan the inputs of each node have one size
sizes-match : (catalog : ℕ → Relation) (p : Plan) → allowed_derived catalog p ≡ true → all_sizes_match p ≡ true
sizes-match catalog (scan n c r m z) ok = refl
sizes-match catalog (unary n c op p) ok = sizes-match catalog p (and-left (allowed_derived catalog p) (allowed_here_derived catalog (unary n c op p)) ok)
sizes-match catalog (binary n c op p q) ok =
    let here : Bool = allowed_here_derived catalog (binary n c op p q) in
    let rest = and-right (allowed_derived catalog p) (allowed_derived catalog q && here) ok in
    and-both (all_sizes_match p) (all_sizes_match q && size_eq (size p) (size q)) (sizes-match catalog p (and-left (allowed_derived catalog p) (allowed_derived catalog q && here) ok))
    (and-both (all_sizes_match q) (size_eq (size p) (size q)) (sizes-match catalog q (and-left (allowed_derived catalog q) here rest))
    (derived-tests catalog (binary n c op p q) (and-right (allowed_derived catalog q) here rest)).0)
sizes-match catalog (exchange n c k m p) ok = sizes-match catalog p (and-left (allowed_derived catalog p) (allowed_here_derived catalog (exchange n c k m p)) ok)

module _ (catalog : ℕ → Relation) (db : ℕ → List Row) (sizes : ℕ → ℕ) (goes : Routing) (given : Given catalog db sizes goes) where
  meet-at : (p : Plan) (s : Streams) → all_inputs_fit catalog p ≡ true → allowed_derived catalog p ≡ true → Runs db sizes goes p s
      → (w : ℕ) → w < workers sizes (size p) → EachMeets catalog p (s w)
  meet-at p s fit ok run = streams-meet catalog db sizes goes given p s (sizes-match catalog p ok) fit run

  all-sure : (p : Plan) (s : Streams) → well_formed catalog p ≡ true → all_inputs_fit catalog p ≡ true → allowed_derived catalog p ≡ true → Runs db sizes goes p s
      → Sure catalog db sizes goes given p s
  all-sure (scan k c r m z) s wf fit ok run = scan-sure catalog db sizes goes given k c r m z s (fit, ok, refl) run
  all-sure (unary k c op p) s wf fit ok run =
      let ok_p = and-left (allowed_derived catalog p) (allowed_here_derived catalog (unary k c op p)) ok in
      let well = well-under catalog k c op p wf in
      unary-sure catalog db sizes goes given k c op p run.0 s (fit, ok, well-phased catalog (unary k c op p) wf) (fit, ok_p, well-phased catalog p well.0) well.0 well.1
      (all-sure p run.0 well.0 fit ok_p run.1) (meet-at p run.0 fit ok_p run.1) (meet-at (unary k c op p) s fit ok run) run.2
  all-sure (binary k c op p q) s wf fit ok run =
      let node : Plan = binary k c op p q in
      let here : Bool = allowed_here_derived catalog node in
      let rest = and-right (allowed_derived catalog p) (allowed_derived catalog q && here) ok in
      let ok_p = and-left (allowed_derived catalog p) (allowed_derived catalog q && here) ok in
      let ok_q = and-left (allowed_derived catalog q) here rest in
      let fp : Bool = all_inputs_fit catalog p in
      let fq : Bool = all_inputs_fit catalog q in
      let fits : Bool = inputs_fit (width catalog p) (width catalog q) op in
      let fit_p = and-left fp (fq && fits) fit in
      let fit_q = and-left fq fits (and-right fp (fq && fits) fit) in
      let well = well-both catalog k c op p q wf in
      let h = all-sure p run.0 well.0 fit_p ok_p run.2 in
      let j = all-sure q run.1 well.1 fit_q ok_q run.3 in
      let as_many : workers sizes (size p) ≡ workers sizes (size q)
      = ap (workers sizes) (size_eq-is (size p) (size q) (derived-tests catalog node (and-right (allowed_derived catalog q) here rest)).0) in
      binary-sure catalog db sizes goes given k c op p q run.0 run.1 s (fit, ok, well-phased catalog node wf) well.0 (names catalog p well.0)
      (close catalog db sizes goes given p run.0 (well-phased catalog p well.0) (not-true (is_open p) (and-left (not (is_open p)) (not (is_open q)) well.2)) h.0) h.1
      (close catalog db sizes goes given q run.1 (well-phased catalog q well.1) (not-true (is_open q) (and-right (not (is_open p)) (not (is_open q)) well.2)) j.0) j.1
      (meet-at p run.0 fit_p ok_p run.2) (λ w l. let L : ℕ → Type 0 = λ m. w < m in meet-at q run.1 fit_q ok_q run.3 w (subst L as_many l)) (meet-at node s fit ok run) run.4
  all-sure (exchange k c kind merge p) s wf fit ok run =
      let node : Plan = exchange k c kind merge p in
      let ok_p = and-left (allowed_derived catalog p) (allowed_here_derived catalog node) ok in
      let well = and-left (well_formed catalog p) (names_columns (width catalog p) c) wf in
      exchange-sure catalog db sizes goes given k c kind merge p run.0 s (fit, ok, well-phased catalog node wf) (fit, ok_p, well-phased catalog p well)
      (all-sure p run.0 well fit ok_p run.1) (meet-at node s fit ok run) run.2

  pub holding : (p : Plan) (s : Streams) → well_formed catalog p ≡ true → all_inputs_fit catalog p ≡ true → allowed_derived catalog p ≡ true → Runs db sizes goes p s → HoldingAt db sizes goes p s
  holding p s wf fit ok run = (all-sure p s wf fit ok run).0

  -- the streams of a run below an operator fit it
  pub fits-streams : (k : ℕ) (c : Claim) (op : Unary) (p : Plan) (s : Streams) → well_formed catalog (unary k c op p) ≡ true → all_inputs_fit catalog p ≡ true
      → allowed_derived catalog (unary k c op p) ≡ true → Runs db sizes goes p s → FitsStreams catalog db sizes goes given op p s
  fits-streams k c op p s wf fit ok run =
      let here : Bool = allowed_here_derived catalog (unary k c op p) in
      let ok_p = and-left (allowed_derived catalog p) here ok in
      let well = well-under catalog k c op p wf in
      fits-equally catalog db sizes goes given k c op p s (and-right (allowed_derived catalog p) here ok) (fit, ok_p, well-phased catalog p well.0) well.0 well.1
      (all-sure p s well.0 fit ok_p run) (meet-at p s fit ok_p run)

  -- those below an exchange are sorted as it merges them
  pub merges-streams : (k : ℕ) (c : Claim) (kind : ExchangeKind) (merge : List OrderEntry) (p : Plan) (s : Streams) → well_formed catalog (exchange k c kind merge p) ≡ true → all_inputs_fit catalog p ≡ true
      → allowed_derived catalog (exchange k c kind merge p) ≡ true → Runs db sizes goes p s → (w : ℕ) → w < workers sizes (size p) → sorted merge (s w) ≡ true
  merges-streams k c kind merge p s wf fit ok run =
      let here : Bool = allowed_here_derived catalog (exchange k c kind merge p) in
      let ok_p = and-left (allowed_derived catalog p) here ok in
      let well = and-left (well_formed catalog p) (names_columns (width catalog p) c) wf in
      streams-merged catalog db sizes goes given k c kind merge p s (and-right (allowed_derived catalog p) here ok) (fit, ok_p, well-phased catalog p well) (all-sure p s well fit ok_p run)

  holds-at : (p : Plan) (s : Streams) → well_formed catalog p ≡ true → all_inputs_fit catalog p ≡ true → allowed_derived catalog p ≡ true → Runs db sizes goes p s → HoldsAt db sizes goes p s
  holds-at p s wf fit ok run =
      let h = holding p s wf fit ok run in
      record { base = h.base; is_serial = h.is_serial; is_erased = erased-rows catalog db 0 (spoken p) h.base (well-spoken catalog p wf) h.is_serial; holds = h.holds }

pub derived-sound : DerivedSound
derived-sound catalog db sizes goes given (scan k c r m z) s wf fit ok run = holds-at catalog db sizes goes given (scan k c r m z) s wf fit ok run
derived-sound catalog db sizes goes given (unary k c op p) s wf fit ok run = (
  derived-sound catalog db sizes goes given p run.0 (well-under catalog k c op p wf).0 fit (and-left (allowed_derived catalog p) (allowed_here_derived catalog (unary k c op p)) ok) run.1,
  holds-at catalog db sizes goes given (unary k c op p) s wf fit ok run,
)
derived-sound catalog db sizes goes given (binary k c op p q) s wf fit ok run =
    let here : Bool = allowed_here_derived catalog (binary k c op p q) in
    let rest = and-right (allowed_derived catalog p) (allowed_derived catalog q && here) ok in
    let fp : Bool = all_inputs_fit catalog p in
    let fq : Bool = all_inputs_fit catalog q in
    let fits : Bool = inputs_fit (width catalog p) (width catalog q) op in (
      derived-sound catalog db sizes goes given p run.0 (well-both catalog k c op p q wf).0 (and-left fp (fq && fits) fit) (and-left (allowed_derived catalog p) (allowed_derived catalog q && here) ok) run.2,
      derived-sound catalog db sizes goes given q run.1 (well-both catalog k c op p q wf).1 (and-left fq fits (and-right fp (fq && fits) fit)) (and-left (allowed_derived catalog q) here rest) run.3,
      holds-at catalog db sizes goes given (binary k c op p q) s wf fit ok run,
    )
derived-sound catalog db sizes goes given (exchange k c kind merge p) s wf fit ok run = (
  derived-sound catalog db sizes goes given p run.0 (and-left (well_formed catalog p) (names_columns (width catalog p) c) wf) fit (and-left (allowed_derived catalog p) (allowed_here_derived catalog (exchange k c kind merge p)) ok) run.1,
  holds-at catalog db sizes goes given (exchange k c kind merge p) s wf fit ok run,
)

pub derived-sound-at-root : DerivedSoundAtRoot
derived-sound-at-root catalog db sizes goes given is_total p s wf fit shut ok root run =
    let sure = all-sure catalog db sizes goes given p s wf fit ok run in
    let h = close catalog db sizes goes given p s (well-phased catalog p wf) shut sure.0 in
    let tail : Bool = not is_total || is_total_derived catalog p in
    let list = one-list goes given.in_range (claim p) (workers sizes (size p)) s h.base (one-worker sizes (size p) (and-left (is_one (size p)) tail root)) h.holds in
    record {
      base = h.base;
      is_serial = erased-rows catalog db 0 p h.base wf h.is_serial;
      same = list.0;
      list = λ t. list.1 (order-tells-derived catalog db given.meets p h.base wf fit h.is_serial sure.1 (claimed is_total (is_total_derived catalog p) t (and-right (is_one (size p)) tail root)));
    }
  where
    claimed : (t o : Bool) → t ≡ true → (not t || o) ≡ true → o ≡ true
    claimed true o e h = h
    claimed false o e h = absurd (true≢false (sym e))
