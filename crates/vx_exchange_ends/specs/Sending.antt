-- What a sending end knows of where rows go, and when it accepts more.
use Rattle.std.specs.Prelude.{◌≡◌, ℕ, ◌<◌, Bool, true, false, List}
use Rattle.vx_rows_values.specs.Values.{Val, Row, value_at}
use Rattle.vx_plan_nodes.specs.Plan.{ExchangeKind, route_to, round, broadcast, gather, concat, by_hash, by_range}
use Rattle.vx_plan_nodes.specs.Routes.{Routing, range_consumer}
use Rattle.vx_ops.specs.declared.turn.Polled.{Polled}
use Rattle.vx_ops.specs.declared.turn.Polled.TheVariants as polled
use Rattle.vx_exchange_ends.specs.Tasks.{Post, sends_by_ship, keeps}

-- rows of this kind go as the hash and the bounds of the range say; the other kinds look at no value
abbrev pub KindRoutesAs : ExchangeKind → List Val → (List ℕ → Row → ℕ → ℕ) → Routing → Type 0
KindRoutesAs (route_to z (by_hash name) cols) bounds hash goes = (key : Row) (n : ℕ) → 0 < n → goes (by_hash name) key n ≡ hash name key n
KindRoutesAs (route_to z (by_range k) cols) bounds hash goes = (key : Row) (n : ℕ) → 0 < n → goes (by_range k) key n ≡ range_consumer bounds (value_at key 0) n
KindRoutesAs (round z) bounds hash goes = Unit {0}
KindRoutesAs (broadcast z) bounds hash goes = Unit {0}
KindRoutesAs gather bounds hash goes = Unit {0}
KindRoutesAs concat bounds hash goes = Unit {0}

abbrev pub RoutesAs : Post → List Val → (List ℕ → Row → ℕ → ℕ) → Routing → Type 0
RoutesAs (sends_by_ship s) bounds hash goes = KindRoutesAs s.kind bounds hash goes
RoutesAs (keeps types) bounds hash goes = Unit {0}

-- a sending end accepts more after rows, and after nothing
abbrev pub is_open_after : Polled → Bool
is_open_after (polled.Gave t) = true
is_open_after polled.Waiting = true
is_open_after polled.End = false
is_open_after (polled.Fault f) = false
