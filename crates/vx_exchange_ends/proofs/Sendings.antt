-- What rows and more rows send.
use Rattle.std.proofs.Common.{ℕ, ◌<◌, ◌==◌, List, [], ◌++◌, map, filter, refl, ap, ◌∙◌}
use Rattle.std.proofs.lemmas.List.Elements.{filter-append}
use Rattle.vx_rows_values.specs.Values.{Row, pick}
use Rattle.vx_plan_nodes.specs.Plan.{ExchangeKind, route_to, round, broadcast, gather, concat}
use Rattle.vx_plan_nodes.specs.Routes.{Routing, Sends}
use Rattle.vx_plan_nodes.specs.Streams.{Streams, bearing}
use Rattle.vx_exchange_ends.proofs.Deals.{numbered_same, rows-numbered_same, range-numbered_same, bearing-append, numbers-append, ranges-append}

-- what some rows send and what more rows send is together what all of them send
pub sends-append : (goes : Routing) (k : ExchangeKind) (n : ℕ) (xs ys : List Row) (sent more : Streams) → Sends goes k n xs sent → Sends goes k n ys more → Sends goes k n (xs ++ ys) (λ j. sent j ++ more j)
sends-append goes (route_to z r cols) n xs ys sent more h m = λ j l.
    filter-append (λ row. goes r (pick cols row) n == j) xs ys
    ∙ ap (λ zs. zs ++ filter (λ row. goes r (pick cols row) n == j) ys) (h j l)
    ∙ ap (λ zs. sent j ++ zs) (m j l)
sends-append goes (round z) n xs ys sent more h m = record {
  numbered = h.numbered ++ m.numbered;
  whole = numbers-append h.numbered m.numbered ∙ ap (λ zs. zs ++ map (λ t. t.1) m.numbered) h.whole ∙ ap (λ zs. xs ++ zs) m.whole;
  in_range = ranges-append n h.numbered m.numbered h.in_range m.in_range;
  lists_are = λ j l. bearing-append j h.numbered m.numbered ∙ ap (λ zs. zs ++ bearing j m.numbered) (h.lists_are j l) ∙ ap (λ zs. sent j ++ zs) (m.lists_are j l);
}
sends-append goes (broadcast z) n xs ys sent more h m = λ j l. ap (λ zs. zs ++ ys) (h j l) ∙ ap (λ zs. sent j ++ zs) (m j l)
sends-append goes gather n xs ys sent more h m = λ j l. ap (λ zs. zs ++ ys) (h j l) ∙ ap (λ zs. sent j ++ zs) (m j l)
sends-append goes concat n xs ys sent more h m = λ j l. ap (λ zs. zs ++ ys) (h j l) ∙ ap (λ zs. sent j ++ zs) (m j l)

-- any rows can be sent where there is a consumer
pub sends-some : (goes : Routing) (k : ExchangeKind) (n : ℕ) (xs : List Row) → 0 < n → (sent : Streams) × Sends goes k n xs sent
sends-some goes (route_to z r cols) n xs some = (λ j. filter (λ row. goes r (pick cols row) n == j) xs, λ j l. refl)
sends-some goes (round z) n xs some = (
  λ j. bearing j (numbered_same 0 xs),
  record {
    numbered = numbered_same 0 xs;
    whole = rows-numbered_same 0 xs;
    in_range = range-numbered_same n 0 xs some;
    lists_are = λ j l. refl;
  },
)
sends-some goes (broadcast z) n xs some = (λ j. xs, λ j l. refl)
sends-some goes gather n xs some = (λ j. xs, λ j l. refl)
sends-some goes concat n xs some = (λ j. xs, λ j l. refl)

-- no rows send nothing
pub sends-none : (goes : Routing) (k : ExchangeKind) (n : ℕ) → Sends goes k n [] (λ j. [])
sends-none goes (route_to z r cols) n = λ j l. refl
sends-none goes (round z) n = record { numbered = []; whole = refl; in_range = refl; lists_are = λ j l. refl }
sends-none goes (broadcast z) n = λ j l. refl
sends-none goes gather n = λ j l. refl
sends-none goes concat n = λ j l. refl
