-- One thread more, and one result more.
use Rattle.std.proofs.Common.{◌≡◌, ℕ, List, [], ◌∷◌, ◌++◌, Bool, length, arith, refl, sym, ap, subst, ◌∙◌, append_assoc}
use Rattle.std.specs.List.{All}
use Rattle.vx_rows_values.specs.Values.{Val, Row}
use Rattle.vx_rows_values.specs.declared.value.ColType.{ColType}
use Rattle.vx_plan_nodes.specs.Routes.{Routing}
use Rattle.vx_ports.specs.Packets.{PacketView}
use Rattle.vx_ops.specs.Ledger.{Stream, Ledger, Op}
use Rattle.vx_ops.specs.Turn.{Shape}
use Rattle.vx_exchange_ends.specs.Tasks.{Task, Post}
use Rattle.vx_worker.specs.Worker.{IsReady}
use Rattle.vx_morsel_decks.specs.Seats.{DeckView}
use Rattle.vx_exec_threads.specs.Drawers.{Sits}
use Rattle.vx_exec_spawn.specs.Honest.{IsHonest}
use Rattle.vx_exec_spawn.specs.Each.{AllReady, EachHonest, members_of, AllLent, HandleOf}
use Rattle.vx_exec_spawn.specs.declared.member.CrewMember.{CrewMember}
use Rattle.vx_exec_spawn.specs.declared.member.Joined.{Joined}

-- a list of no elements
pub ended : {A : Type 0} (xs : List A) → length xs ≡ 0 → xs ≡ []
ended [] e = refl
ended (x ∷ xs) e = absurd (omega (arith, e))

-- the first worker of those that are ready, and the others
pub ready-rest : {O S : Type 0} (types : O → Shape) (post : S → Post) (is_open has_closed : S → Bool) (m : ℕ → List ColType) (decks : List DeckView)
    (ps rest : List (CrewMember O S)) (p : CrewMember O S) → ps ≡ p ∷ rest → AllReady types post is_open has_closed m decks ps
    → IsReady types post is_open has_closed m p.worker × All (Sits decks) p.ends.draws.items × AllReady types post is_open has_closed m decks rest
ready-rest types post is_open has_closed m decks ps rest p is all = subst (λ z. AllReady types post is_open has_closed m decks z) is all

module _ {O S G R : Type 0} where
  members_of-snoc : (hs : List (HandleOf O S G R)) (h : HandleOf O S G R) (rest : List (CrewMember O S))
      → members_of (hs ++ h ∷ []) ++ rest ≡ members_of hs ++ h.promise.member.value ∷ rest
  members_of-snoc [] h rest = refl
  members_of-snoc (x ∷ hs) h rest = ap (λ ps. x.promise.member.value ∷ ps) (members_of-snoc hs h rest)

  -- one thread more was started
  pub pushes : (hs hs' : List (HandleOf O S G R)) (h : HandleOf O S G R) (p : CrewMember O S)
      (left rest members : List (CrewMember O S))
      → hs' ≡ hs ++ h ∷ [] → left ≡ p ∷ rest → h.promise.member.value ≡ p → members_of hs ++ left ≡ members → members_of hs' ++ rest ≡ members
  pushes hs hs' h p left rest members more next is was =
      ap (λ x. members_of x ++ rest) more ∙ members_of-snoc hs h rest ∙ ap (λ q. members_of hs ++ q ∷ rest) is
      ∙ ap (λ q. members_of hs ++ q) (sym next) ∙ was

  module _ (route : R → List ℕ → Row → ℕ → ℕ) (morsel : G → ℕ → ℕ → List Row) (hash : List ℕ → Row → ℕ → ℕ) (m : ℕ → ℕ → List Row) where
    lent-snoc : (hs : List (HandleOf O S G R)) (h : HandleOf O S G R) → AllLent route morsel hash m hs
        → route h.promise.router.now ≡ hash → morsel h.promise.morsels.now ≡ m → AllLent route morsel hash m (hs ++ h ∷ [])
    lent-snoc [] h all r g = (r, g, tt)
    lent-snoc (x ∷ hs) h all r g = (all.0, all.1, lent-snoc hs h all.2 r g)

    -- it was lent the same
    pub lent : (hs hs' : List (HandleOf O S G R)) (h : HandleOf O S G R) → hs' ≡ hs ++ h ∷ []
        → AllLent route morsel hash m hs → route h.promise.router.now ≡ hash → morsel h.promise.morsels.now ≡ m → AllLent route morsel hash m hs'
    lent hs hs' h more all r g = subst (λ z. AllLent route morsel hash m z) (sym more) (lent-snoc hs h all r g)

    pub lent-rest : (hs rest : List (HandleOf O S G R)) (h : HandleOf O S G R) → hs ≡ h ∷ rest → AllLent route morsel hash m hs
        → (route h.promise.router.now ≡ hash) × (morsel h.promise.morsels.now ≡ m) × AllLent route morsel hash m rest
    lent-rest hs rest h is all = subst (λ z. AllLent route morsel hash m z) is all

  -- one thread more was joined
  pub moves-on : (ps : List (CrewMember O S)) (hs rest : List (HandleOf O S G R)) (h : HandleOf O S G R) (members : List (CrewMember O S))
      → hs ≡ h ∷ rest → ps ++ members_of hs ≡ members → (ps ++ h.promise.member.value ∷ []) ++ members_of rest ≡ members
  moves-on ps hs rest h members is was =
      append_assoc ps (h.promise.member.value ∷ []) (members_of rest) ∙ ap (λ q. ps ++ members_of q) (sym is) ∙ was

module _ {O S : Type 0} (OS : O → Ledger → Type 0) (op : O → Op) (SS : S → Routing → Stream → (ℕ → List PacketView) → Type 0) (task : S → Task) (post : S → Post) (bounds : S → List Val)
    (hash : List ℕ → Row → ℕ → ℕ) (m : ℕ → ℕ → List Row) where
  honest-snoc : (ps : List (CrewMember O S)) (js : List (Joined O S)) (p : CrewMember O S) (j : Joined O S) → EachHonest OS op SS task post bounds hash m ps js
      → IsHonest OS op SS task post bounds hash m p j → EachHonest OS op SS task post bounds hash m (ps ++ p ∷ []) (js ++ j ∷ [])
  honest-snoc [] [] p j all one = (one, tt)
  honest-snoc [] (x ∷ js) p j all one = absurd all
  honest-snoc (q ∷ ps) [] p j all one = absurd all
  honest-snoc (q ∷ ps) (x ∷ js) p j all one = (all.0, honest-snoc ps js p j all.1 one)

  -- what came back of it is honest
  pub joins : (hash' : List ℕ → Row → ℕ → ℕ) (m' : ℕ → ℕ → List Row) (ps : List (CrewMember O S)) (js js' : List (Joined O S)) (p : CrewMember O S) (j : Joined O S)
      → js' ≡ js ++ j ∷ [] → hash' ≡ hash → m' ≡ m
      → EachHonest OS op SS task post bounds hash m ps js → IsHonest OS op SS task post bounds hash' m' p j
      → EachHonest OS op SS task post bounds hash m (ps ++ p ∷ []) js'
  joins hash' m' ps js js' p j more eh em all one =
      let two : IsHonest OS op SS task post bounds hash m p j =
      subst (λ z. IsHonest OS op SS task post bounds hash z p j) em (subst (λ z. IsHonest OS op SS task post bounds z m' p j) eh one) in
      subst (λ z. EachHonest OS op SS task post bounds hash m (ps ++ p ∷ []) z) (sym more) (honest-snoc ps js p j all two)
