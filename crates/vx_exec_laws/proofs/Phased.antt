-- The operators over one input by their phases: whole ones, partials, sorts of parts and finals.
use Rattle.std.proofs.Common.{◌≡◌, ℕ, Bool, true, false, not, ◌||◌, List, refl}
use Rattle.vx_rows_values.specs.declared.order.OrderEntry.{OrderEntry}
use Rattle.vx_rows_values.specs.Values.{Row}
use Rattle.vx_rows_values.specs.Bags.{SameRows}
use Rattle.vx_plan_nodes.specs.Plan.{plain, partial, final, Aggregate, Unary, select, project, distinct, sort, group, limit, Plan}
use Rattle.vx_plan_nodes.specs.Erase.{at_once}
use Rattle.vx_plan_nodes.specs.Phases.{is_partial, is_final, is_open, unary_open, unary_opens, phase_fits, phase_seen, seen_below, unary_spoken, UnaryGives, unary_listed}

-- what depends on an operator's phase: whether it is a final, whether it is open over an input that is or is not, whether it fits its input, from below and
-- as a node sees it, and what its input then sees; whether it is the partial of a final, or on the way to it; what it is in a plan without exchanges;
-- of which plan its claim speaks, what stands for that plan's rows, and the list that is claimed
pub record Phase : Type 1 where
  pub ends : Bool
  pub open_over : Bool → Bool
  pub fits : Plan → Bool
  pub seen : Bool → Plan → Bool
  pub seen_under : Bool → Bool
  pub is_of : List ℕ → List Aggregate → Bool → Bool
  pub once : Unary
  pub spoken_of : (input below whole : Plan) → Plan
  pub gives_of : (below : List Row → List Row → Type 0) → List Row → List Row → Type 0
  pub listed_of : (below : List Row → List Row) → List Row → List Row

abbrev pub phase_of : Unary → Phase
phase_of op = record {
  ends = is_final op;
  open_over = λ below. unary_open op below;
  fits = λ p. phase_fits op p;
  seen = λ under p. phase_seen under op p;
  seen_under = λ under. seen_below under op;
  is_of = λ keys puts below. unary_opens keys puts op below;
  once = at_once op;
  spoken_of = λ input below whole. unary_spoken op input below whole;
  gives_of = λ below base xs. UnaryGives op below base xs;
  listed_of = λ below base. unary_listed op below base;
}

abbrev whole_phase : Unary → Phase
whole_phase op = record {
  ends = false;
  open_over = λ below. false;
  fits = λ p. not (is_open p);
  seen = λ under p. true;
  seen_under = λ under. false;
  is_of = λ keys puts below. false;
  once = op;
  spoken_of = λ input below whole. whole;
  gives_of = λ below base xs. SameRows xs base;
  listed_of = λ below base. base;
}

-- what holds of whole operators, of partials, of sorts of parts and of finals holds of each operator
pub by-phase : (P : Unary → Phase → Type 0) → ((op : Unary) → (is_partial op || is_final op) ≡ false → P op (whole_phase op))
    → ((by : List ℕ) (aggregates : List Aggregate) → P (group partial by aggregates) (phase_of (group partial by aggregates)))
    → ((order : List OrderEntry) → P (sort true order) (phase_of (sort true order)))
    → ((by : List ℕ) (aggregates : List Aggregate) → P (group final by aggregates) (phase_of (group final by aggregates)))
    → (op : Unary) → P op (phase_of op)
by-phase P whole_ok partial_ok sort_ok final_ok (select fs) = whole_ok (select fs) refl
by-phase P whole_ok partial_ok sort_ok final_ok (project es) = whole_ok (project es) refl
by-phase P whole_ok partial_ok sort_ok final_ok (distinct cols) = whole_ok (distinct cols) refl
by-phase P whole_ok partial_ok sort_ok final_ok (sort false order) = whole_ok (sort false order) refl
by-phase P whole_ok partial_ok sort_ok final_ok (sort true order) = sort_ok order
by-phase P whole_ok partial_ok sort_ok final_ok (group plain by aggregates) = whole_ok (group plain by aggregates) refl
by-phase P whole_ok partial_ok sort_ok final_ok (group partial by aggregates) = partial_ok by aggregates
by-phase P whole_ok partial_ok sort_ok final_ok (group final by aggregates) = final_ok by aggregates
by-phase P whole_ok partial_ok sort_ok final_ok (limit n) = whole_ok (limit n) refl
