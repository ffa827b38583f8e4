-- Lists of seats: one is taken in, one is dealt out.
use Rattle.std.proofs.Common.{◌≡◌, ℕ, suc, List, [], ◌∷◌, ◌++◌, replicate, length, refl, ap, subst, ◌∙◌, arith}
use Rattle.std.specs.List.{All, AllByRecursion}
use Rattle.std.proofs.lemmas.List.Elements.{All-same, All-push}
use Rattle.atomic_table.specs.Seated.{TableId}
use Rattle.vx_morsel_decks.specs.Rule.{no_draws, left_of, right_of, one_seat}
use Rattle.vx_morsel_decks.specs.Seats.{DeckView, SeatView, IsSeatOf, IsNewSeat, draws_in}
use Rattle.vx_morsel_decks.specs.declared.rule.Account.{Account}

pub seats-rest : (d : DeckView) (ss rest : List SeatView) (s : SeatView) → ss ≡ s ∷ rest → AllByRecursion (IsSeatOf d) ss → IsSeatOf d s × AllByRecursion (IsSeatOf d) rest
seats-rest d ss rest s is all = let P : List SeatView → Type 0 = AllByRecursion (IsSeatOf d) in subst P is all

pub draws-length : (ss : List SeatView) → length (draws_in ss) ≡ length ss
draws-length [] = refl
draws-length (s ∷ ss) = ap (λ n. suc n) (draws-length ss)

-- one new seat more
pub new-snoc : (d : DeckView) (ss ss' : List SeatView) (s : SeatView) → ss' ≡ ss ++ s ∷ [] → All (IsNewSeat d) ss → IsNewSeat d s → All (IsNewSeat d) ss'
new-snoc d ss ss' s is all one = All-same (IsNewSeat d) ss' (ss ++ s ∷ []) is (All-push (IsNewSeat d) ss s all one)

pub left-dealt : (m n : ℕ) (v : Account) → v ≡ record { morsels = m; seats = replicate (suc n) no_draws } → left_of v ≡ record { morsels = m; seats = replicate n no_draws }
left-dealt m n v is = ap left_of is

pub right-dealt : (m n : ℕ) (v : Account) → v ≡ record { morsels = m; seats = replicate (suc n) no_draws } → right_of v ≡ one_seat m no_draws
right-dealt m n v is = ap right_of is

pub nothing : (ss : List SeatView) → length ss ≡ 0 → ss ≡ []
nothing [] e = refl
nothing (s ∷ ss) e = absurd (omega arith)

-- a seat of that name that drew nothing is one of this deck
pub seat-is : (d : DeckView) (s : SeatView) (a : TableId) (m : ℕ) → s ≡ record { name = a; morsels = m; drew = no_draws } → a ≡ d.name → m ≡ d.morsels → IsNewSeat d s
seat-is d s a m is e f = ((ap (λ x. x.name) is ∙ e, ap (λ x. x.morsels) is ∙ f), ap (λ x. x.drew) is)

pub more-left : (m a b : ℕ) (v : Account) → v ≡ record { morsels = m; seats = replicate a no_draws } → a ≡ b → v ≡ record { morsels = m; seats = replicate b no_draws }
more-left m a b v is e = is ∙ ap (λ j. let r : Account = record { morsels = m; seats = replicate j no_draws } in r) e
