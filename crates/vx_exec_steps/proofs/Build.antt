-- The lists of a crew connect its workers.
use Rattle.std.proofs.Common.{ℕ, zero, suc, ◌≡◌, ◌<◌, ◌+◌, ◌==◌, ◌&&◌, true, false, List, [], ◌∷◌, ◌++◌, length, map, Some, refl, sym, ap, ◌∙◌, subst, arith, append_assoc, append-nil, length-append, slice_get, eqb-true}
use Rattle.std.proofs.Math.ListN.{get_or}
use Rattle.std.specs.List.{All}
use Rattle.std.proofs.lemmas.List.Elements.{All-append, All-cons, All-nil, All-same}
use Rattle.vx_rows.specs.Lists.{each_below}
use Rattle.vx_plan_nodes.specs.Plan.{Plan, scan, unary, binary, exchange, size, target, number}
use Rattle.vx_plan_nodes.specs.Streams.{workers}
use Rattle.vx_plan_nodes.specs.Numbering.{is_numbered, nodes}
use Rattle.vx_morsel.specs.Hands.{HandState}
use Rattle.vx_worker.specs.Morsels.{morsel_count}
use Rattle.vx_worker.specs.Fragment.{RunModel}
use Rattle.vx_worker.specs.Worker.{Role}
use Rattle.vx_plan_nodes.specs.Workers.{workers_below, crew_size}
use Rattle.vx_exec_laws.proofs.Bags.{and-left, and-right}
use Rattle.vx_ports.specs.LinkView.{LinkView}
use Rattle.vx_exec_steps.specs.Queues.{open_line, AreEmpty}
use Rattle.vx_exec_steps.specs.Scans.{full_hand, no_hand}
use Rattle.vx_exec_steps.specs.LinksView.{LinksView, station_at}
use Rattle.vx_exec_steps.specs.Idle.{IsFullHand, IsUntouched, IsIdle}
use Rattle.vx_exec_steps.specs.Roles.{no_role, role_at, IsRoot, IsShared, IsWhole, RolesBelow, Wired}
use Rattle.vx_exec_steps.specs.Crews.{stations_of, sends_below, queues_below, Duty, duty_of, root_duty, producer_duty, duties_below, IsCrew}
use Rattle.vx_exec_steps.proofs.Each.{each-length, each-at, get-front, get-back}
use Rattle.vx_exec_steps.proofs.RunSteps.{map-length}
use Rattle.vx_exec_steps.specs.declared.station.Station.{Station}
use Rattle.vx_exec_steps.specs.declared.station.Station.TheVariants.{Inner, Exchange}

-- an element of one part of a list, behind a front
part-at : {A : Type 0} (xs front part back : List A) (next i : ℕ) (d : A) → xs ≡ front ++ (part ++ back) → length front ≡ next → i < length part → get_or xs (next + i) d ≡ get_or part i d
part-at xs front part back next i d e n lt =
    ap (λ z. get_or z (next + i) d) e ∙ ap (λ z. get_or (front ++ (part ++ back)) (z + i) d) (sym n) ∙ get-back front (part ++ back) i d ∙ get-front part back i d lt

get-some : {A : Type 0} (xs : List A) (i : ℕ) (x : A) → i < length xs → ((d : A) → get_or xs i d ≡ x) → slice_get xs i ≡ Some x
get-some [] i x lt e = absurd (omega (arith, lt))
get-some (y ∷ ys) zero x lt e = ap Some (e x)
get-some (y ∷ ys) (suc i) x lt e = get-some ys i x (omega (arith, lt)) e

-- a part of a part
inner : {A : Type 0} (xs front a b back : List A) → xs ≡ front ++ ((a ++ b) ++ back) → xs ≡ front ++ (a ++ (b ++ back))
inner xs front a b back e = e ∙ ap (λ z. front ++ z) (append_assoc a b back)

behind : {A : Type 0} (xs front a b back : List A) → xs ≡ front ++ ((a ++ b) ++ back) → xs ≡ (front ++ a) ++ (b ++ back)
behind xs front a b back e = inner xs front a b back e ∙ sym (append_assoc front a (b ++ back))

stations-length : (S : RunModel) (p : Plan) (top next : ℕ) → length (stations_of S p top next) ≡ nodes p
stations-length S (scan n c r true z) top next = refl
stations-length S (scan n c r false z) top next = refl
stations-length S (unary n c op p) top next = ap suc (stations-length S p top next)
stations-length S (binary n c op p q) top next =
    let e = length-append (stations_of S p top next) (stations_of S q top (next + workers_below S.sizes p)) in
    let a = stations-length S p top next in
    let b = stations-length S q top (next + workers_below S.sizes p) in
    omega (arith, e, a, b)
stations-length S (exchange n c k m p) top next = ap suc (stations-length S p next (next + workers S.sizes (size p)))

sends-length : (S : RunModel) (p : Plan) → length (sends_below S p) ≡ workers_below S.sizes p
sends-length S (scan n c r m z) = refl
sends-length S (unary n c op p) = sends-length S p
sends-length S (binary n c op p q) =
    let e = length-append (sends_below S p) (sends_below S q) in let a = sends-length S p in let b = sends-length S q in omega (arith, e, a, b)
sends-length S (exchange n c k m p) =
    let e = length-append (each_below (workers S.sizes (size p)) (λ _. n)) (sends_below S p) in
    let a = each-length (workers S.sizes (size p)) (λ _. n) in
    let b = sends-length S p in
    omega (arith, e, a, b)

duties-length : (S : RunModel) (p : Plan) → length (duties_below S p) ≡ workers_below S.sizes p
duties-length S (scan n c r m z) = refl
duties-length S (unary n c op p) = duties-length S p
duties-length S (binary n c op p q) =
    let e = length-append (duties_below S p) (duties_below S q) in let a = duties-length S p in let b = duties-length S q in omega (arith, e, a, b)
duties-length S (exchange n c k m p) =
    let e = length-append (each_below (workers S.sizes (size p)) (producer_duty S n k p)) (duties_below S p) in
    let a = each-length (workers S.sizes (size p)) (producer_duty S n k p) in
    let b = duties-length S p in
    omega (arith, e, a, b)

number-is : (i : ℕ) (p : Plan) → is_numbered i p ≡ true → number p ≡ i
number-is i (scan n c r m z) h = eqb-true n i h
number-is i (unary n c op p) h = eqb-true n i (and-left (n == i) (is_numbered (suc i) p) h)
number-is i (binary n c op p q) h = eqb-true n i (and-left (n == i) (is_numbered (suc i) p && is_numbered (suc i + nodes p) q) h)
number-is i (exchange n c k m p) h = eqb-true n i (and-left (n == i) (is_numbered (suc i) p) h)

-- what stands at the number of the first node of a part
first-at : (w : LinksView) (sf rest : List Station) (s : Station) (i n : ℕ) → w.stations ≡ sf ++ (s ∷ rest) → length sf ≡ i → n ≡ i → station_at w n ≡ s
first-at w sf rest s i n e l en =
    let at : n ≡ length sf + 0 = omega (arith, l, en) in
    ap (λ z. get_or z n Inner) e ∙ ap (λ z. get_or (sf ++ (s ∷ rest)) z Inner) at ∙ get-back sf (s ∷ rest) 0 Inner

one-more : (sf : List Station) (s : Station) (i : ℕ) → length sf ≡ i → length (sf ++ s ∷ []) ≡ suc i
one-more sf s i l = let e = length-append sf (s ∷ []) in omega (arith, e, l)

shift : (w : LinksView) (sf rest : List Station) (s : Station) → w.stations ≡ sf ++ (s ∷ rest) → w.stations ≡ (sf ++ s ∷ []) ++ rest
shift w sf rest s e = e ∙ sym (append_assoc sf (s ∷ []) rest)

-- the stations from number i on and the sends from number next on, in the midst of all, connect the workers of a plan
pub wired-built : (S : RunModel) (w : LinksView) (p : Plan) (i top next : ℕ) (sf sb : List Station) (tf tb : List ℕ) → is_numbered i p ≡ true
    → w.stations ≡ sf ++ (stations_of S p top next ++ sb) → length sf ≡ i → w.sends ≡ tf ++ (sends_below S p ++ tb) → length tf ≡ next → Wired S w p top next
wired-built S w (scan n c r true z) i top next sf sb tf tb num es ls et lt =
    let at = first-at w sf sb _ i n es ls (number-is i (scan n c r true z) num) in
    subst (λ z'. IsShared top (workers S.sizes z) (morsel_count S.morsel (length (S.db r))) z') (sym at) (refl, refl, refl)
wired-built S w (scan n c r false z) i top next sf sb tf tb num es ls et lt =
    let at = first-at w sf sb _ i n es ls (number-is i (scan n c r false z) num) in
    let m = morsel_count S.morsel (length (S.db r)) in
    subst (λ z'. IsWhole top (workers S.sizes z) m z') (sym at)
    (refl, each-length (workers S.sizes z) (λ _. full_hand m), λ v l. ap (λ (h : HandState). h.morsels) (each-at (workers S.sizes z) (λ _. full_hand m) v no_hand l))
wired-built S w (unary n c op p) i top next sf sb tf tb num es ls et lt =
    wired-built S w p (suc i) top next (sf ++ Inner ∷ []) sb tf tb (and-right (n == i) (is_numbered (suc i) p) num)
    (shift w sf (stations_of S p top next ++ sb) Inner es) (one-more sf Inner i ls) et lt
wired-built S w (binary n c op p q) i top next sf sb tf tb num es ls et lt =
    let both = and-right (n == i) (is_numbered (suc i) p && is_numbered (suc i + nodes p) q) num in
    let a = stations_of S p top next in
    let b = stations_of S q top (next + workers_below S.sizes p) in
    let here = shift w sf ((a ++ b) ++ sb) Inner es in
    let front = sf ++ Inner ∷ [] in
    let long = length-append front a in
    let one = one-more sf Inner i ls in
    let la = stations-length S p top next in
    let tlong = length-append tf (sends_below S p) in
    let ta = sends-length S p in (
      wired-built S w p (suc i) top next front (b ++ sb) tf (sends_below S q ++ tb) (and-left (is_numbered (suc i) p) (is_numbered (suc i + nodes p) q) both)
          (inner w.stations front a b sb here) one (inner w.sends tf (sends_below S p) (sends_below S q) tb et) lt,
      wired-built S w q (suc i + nodes p) top (next + workers_below S.sizes p) (front ++ a) sb (tf ++ sends_below S p) tb (and-right (is_numbered (suc i) p) (is_numbered (suc i + nodes p) q) both)
          (behind w.stations front a b sb here) (omega (arith, long, one, la)) (behind w.sends tf (sends_below S p) (sends_below S q) tb et) (omega (arith, tlong, ta, lt)),
    )
wired-built S w (exchange n c k m p) i top next sf sb tf tb num es ls et lt =
    let count = workers S.sizes (size p) in
    let team = each_below count (λ _. n) in
    let rest = stations_of S p next (next + count) in
    let tlong = length-append tf team in
    let tl = each-length count (λ _. n) in (
      first-at w sf (rest ++ sb) (Exchange next top) i n es ls (number-is i (exchange n c k m p) num),
      λ j l.
          let lj : j < length team = subst (λ z. j < z) (sym tl) l in
          get-some w.sends (next + j) n (sends-in w.sends tf team (sends_below S p ++ tb) next j (inner w.sends tf team (sends_below S p) tb et) lt lj)
          (λ d. part-at w.sends tf team (sends_below S p ++ tb) next j d (inner w.sends tf team (sends_below S p) tb et) lt lj ∙ each-at count (λ _. n) j d l),
      wired-built S w p (suc i) next (next + count) (sf ++ Exchange next top ∷ []) sb (tf ++ team) tb (and-right (n == i) (is_numbered (suc i) p) num)
          (shift w sf (rest ++ sb) (Exchange next top) es) (one-more sf (Exchange next top) i ls) (behind w.sends tf team (sends_below S p) tb et) (omega (arith, tlong, tl, lt)),
    )
  where
    sends-in : (xs front part back : List ℕ) (next i : ℕ) → xs ≡ front ++ (part ++ back) → length front ≡ next → i < length part → next + i < length xs
    sends-in xs front part back next i e n l =
        let a = ap (λ (z : List ℕ). length z) e in
        let b = length-append front (part ++ back) in
        let c = length-append part back in
        omega (arith, a, b, c, n, l)

pub duty-at : (rs : List Role) (i : ℕ) → get_or (map duty_of rs) i (duty_of no_role) ≡ duty_of (role_at rs i)
duty-at [] i = refl
duty-at (r ∷ rs) zero = refl
duty-at (r ∷ rs) (suc i) = duty-at rs i

-- so do the duties from number next on
pub roles-built : (S : RunModel) (roles : List Role) (p : Plan) (next : ℕ) (df db : List Duty) → map duty_of roles ≡ df ++ (duties_below S p ++ db) → length df ≡ next
    → RolesBelow S (role_at roles) p next
roles-built S roles (scan n c r m z) next df db e l = tt
roles-built S roles (unary n c op p) next df db e l = roles-built S roles p next df db e l
roles-built S roles (binary n c op p q) next df db e l =
    let long = length-append df (duties_below S p) in
    let a = duties-length S p in (
      roles-built S roles p next df (duties_below S q ++ db) (inner (map duty_of roles) df (duties_below S p) (duties_below S q) db e) l,
      roles-built S roles q (next + workers_below S.sizes p) (df ++ duties_below S p) db (behind (map duty_of roles) df (duties_below S p) (duties_below S q) db e) (omega (arith, long, a, l)),
    )
roles-built S roles (exchange n c k m p) next df db e l =
    let count = workers S.sizes (size p) in
    let team = each_below count (producer_duty S n k p) in
    let tl = each-length count (producer_duty S n k p) in
    let long = length-append df team in (
      λ i li.
          let lt : i < length team = subst (λ z. i < z) (sym tl) li in
          let duty : duty_of (role_at roles (next + i)) ≡ producer_duty S n k p i =
          sym (duty-at roles (next + i)) ∙ part-at (map duty_of roles) df team (duties_below S p ++ db) next i (duty_of no_role) (inner (map duty_of roles) df team (duties_below S p) db e) l lt
          ∙ each-at count (producer_duty S n k p) i (duty_of no_role) li
          in
          record { frag = ap (λ (d : Duty). d.frag) duty; post = ap (λ (d : Duty). d.post) duty },
      roles-built S roles p (next + count) (df ++ team) db (behind (map duty_of roles) df team (duties_below S p) db e) (omega (arith, long, tl, l)),
    )

untouched : (S : RunModel) (p : Plan) (top next : ℕ) → All IsUntouched (stations_of S p top next)
untouched S (scan n c r true z) top next = All-cons IsUntouched _ [] refl (All-nil IsUntouched)
untouched S (scan n c r false z) top next =
    let count = workers S.sizes z in
    let m = morsel_count S.morsel (length (S.db r)) in
    let full : All IsFullHand (each_below count (λ _. full_hand m)) = λ k d l.
    subst IsFullHand (sym (each-at count (λ _. full_hand m) k d (subst (λ z. k < z) (each-length count (λ _. full_hand m)) l))) (refl, refl)
    in
    All-cons IsUntouched _ [] full (All-nil IsUntouched)
untouched S (unary n c op p) top next = All-cons IsUntouched Inner (stations_of S p top next) tt (untouched S p top next)
untouched S (binary n c op p q) top next =
    let b = stations_of S q top (next + workers_below S.sizes p) in
    All-cons IsUntouched Inner (stations_of S p top next ++ b) tt (All-append IsUntouched (stations_of S p top next) b (untouched S p top next) (untouched S q top (next + workers_below S.sizes p)))
untouched S (exchange n c k m p) top next =
    All-cons IsUntouched (Exchange next top) (stations_of S p next (next + workers S.sizes (size p))) tt (untouched S p next (next + workers S.sizes (size p)))

-- how many workers a crew has, what they are to do, and how they are connected
pub crew-count : (S : RunModel) (p : Plan) (roles : List Role) (w : LinksView) → IsCrew S p roles w → length roles ≡ crew_size S.sizes p
crew-count S p roles w crew =
    let a = map-length duty_of roles in
    let b = ap (λ (z : List Duty). length z) crew.duties in
    let c = duties-length S p in
    omega (arith, a, b, c)

pub crew-root : (S : RunModel) (p : Plan) (roles : List Role) (w : LinksView) → IsCrew S p roles w → IsRoot S p (role_at roles 0)
crew-root S p roles w crew =
    let duty : duty_of (role_at roles 0) ≡ root_duty S p = sym (duty-at roles 0) ∙ ap (λ z. get_or z 0 (duty_of no_role)) crew.duties in
    record { frag = ap (λ (d : Duty). d.frag) duty; post = ap (λ (d : Duty). d.post) duty }

pub crew-below : (S : RunModel) (p : Plan) (roles : List Role) (w : LinksView) → IsCrew S p roles w → RolesBelow S (role_at roles) p 1
crew-below S p roles w crew = roles-built S roles p 1 (root_duty S p ∷ []) [] (crew.duties ∙ ap (λ z. root_duty S p ∷ z) (sym (append-nil (duties_below S p)))) refl

pub crew-wired : (S : RunModel) (p : Plan) (roles : List Role) (w : LinksView) → IsCrew S p roles w → Wired S w p 0 1
crew-wired S p roles w crew =
    wired-built S w p 0 0 1 [] [] (crew.outside ∷ []) [] crew.numbered (crew.stations ∙ sym (append-nil (stations_of S p 0 1))) refl
    (crew.sends ∙ ap (λ z. crew.outside ∷ z) (sym (append-nil (sends_below S p)))) refl

open-empty : (n : ℕ) → AreEmpty (each_below n (λ _. open_line))
open-empty n = λ k d l. ap (λ (z : LinkView). z.queue) (each-at n (λ _. open_line) k d (subst (λ z. k < z) (each-length n (λ _. open_line)) l))

queues-empty : (S : RunModel) (p : Plan) → All AreEmpty (queues_below S p)
queues-empty S (scan n c r m z) = All-nil AreEmpty
queues-empty S (unary n c op p) = queues-empty S p
queues-empty S (binary n c op p q) = All-append AreEmpty (queues_below S p) (queues_below S q) (queues-empty S p) (queues-empty S q)
queues-empty S (exchange n c k m p) =
    let count = workers S.sizes (size p) in
    let lines = each_below (workers S.sizes (target k)) (λ _. open_line) in
    let here : All AreEmpty (each_below count (λ _. lines)) = λ i d l.
    subst AreEmpty (sym (each-at count (λ _. lines) i d (subst (λ z. i < z) (each-length count (λ _. lines)) l))) (open-empty (workers S.sizes (target k)))
    in
    All-append AreEmpty (each_below count (λ _. lines)) (queues_below S p) here (queues-empty S p)

pub crew-idle : (S : RunModel) (p : Plan) (roles : List Role) (w : LinksView) → IsCrew S p roles w → IsIdle w
crew-idle S p roles w crew = record {
  queues = All-same AreEmpty w.queues ([] ∷ queues_below S p) crew.queues (All-cons AreEmpty [] (queues_below S p) (λ k d l. absurd (omega (arith, l))) (queues-empty S p));
  stations = All-same IsUntouched w.stations (stations_of S p 0 1) crew.stations (untouched S p 0 1);
}
