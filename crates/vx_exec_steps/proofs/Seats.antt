-- One more number drawn by one of the seats of a deck.
use Rattle.std.proofs.Common.{ℕ, zero, suc, ◌≡◌, ◌≢◌, ◌<◌, ◌≤◌, ◌+◌, ◌-◌, ◌==◌, ◌⊎◌, cond, List, [], ◌∷◌, ◌++◌, length, Option, Some, None, refl, sym, ap, ◌∙◌, subst, arith, inl, inr}
use Rattle.std.proofs.lemmas.Bool.{cases_lt, cases_eq}
use Rattle.std.proofs.lemmas.Bool.Decides.{eqb_tells}
use Rattle.vx_plan_nodes.specs.Streams.{across}
use Rattle.vx_morsel.specs.Draws.{Draws, times, once_below, AllAbove, Rises}
use Rattle.vx_morsel.specs.Hands.{HandState, HandDraws, DeckState, DeckDraws}
use Rattle.vx_worker.specs.Trace.{drawn}
use Rattle.vx_exec_steps.specs.Scans.{SharedState, WholeState, IsAmong, SharedDraws, WholeDraws, hand_in}
use Rattle.vx_exec_steps.specs.Stations.{StationDraws}
use Rattle.vx_exec_steps.specs.Agrees.{AllUnder, DrewBelow, DrewByHand, HasDealt}
use Rattle.vx_exec_steps.specs.declared.station.Station.{Station}
use Rattle.vx_exec_steps.specs.declared.station.Station.TheVariants.{Inner, Exchange, Shared, Whole}

under-more : (n m : ℕ) (ys : List ℕ) → n ≤ m → AllUnder n ys → AllUnder m ys
under-more n m [] l h = tt
under-more n m (y ∷ ys) l h = let a = h.0 in (omega (arith, l, a), under-more n m ys l h.1)

under-end : (n : ℕ) (ys : List ℕ) (x : ℕ) → AllUnder n ys → x < n → AllUnder n (ys ++ x ∷ [])
under-end n [] x h l = (l, tt)
under-end n (y ∷ ys) x h l = (h.0, under-end n ys x h.1 l)

above-end : (n : ℕ) (ys : List ℕ) (x : ℕ) → AllAbove n ys → n < x → AllAbove n (ys ++ x ∷ [])
above-end n [] x h l = (l, tt)
above-end n (y ∷ ys) x h l = (h.0, above-end n ys x h.1 l)

rise-end : (ys : List ℕ) (x : ℕ) → AllUnder x ys → Rises ys → Rises (ys ++ x ∷ [])
rise-end [] x u h = (tt, tt)
rise-end (y ∷ ys) x u h = (above-end y ys x h.0 u.0, rise-end ys x u.1 h.1)

times-end : (x y : ℕ) (ys : List ℕ) → times x (ys ++ y ∷ []) ≡ times x ys + cond (y == x) 1 0
times-end x y [] = omega arith
times-end x y (z ∷ zs) = let e = times-end x y zs in omega (arith, e)

across-same : (n : ℕ) (f g : ℕ → ℕ) → ((w : ℕ) → w < n → g w ≡ f w) → across n g ≡ across n f
across-same zero f g h = refl
across-same (suc n) f g h =
    let e = across-same n f g (λ w l. h w (omega (arith, l))) in
    let t = h n (omega arith) in
    omega (arith, e, t)

-- a sum of which one summand grows
across-one : (n : ℕ) (f g : ℕ → ℕ) (i d : ℕ) → i < n → g i ≡ f i + d → ((w : ℕ) → w < n → w ≢ i → g w ≡ f w) → across n g ≡ across n f + d
across-one zero f g i d l e h = absurd (omega (arith, l))
across-one (suc n) f g i d l e h = elim (eqb_tells n i) [
  | inl q ↦
      let same : across n g ≡ across n f = across-same n f g (λ w lw. h w (omega (arith, lw)) (let ni = q.1 in omega (arith, lw, ni))) in
      let here : g n ≡ f n + d = subst (λ z. g z ≡ f z + d) (sym q.1) e in
      omega (arith, same, here)
  | inr q ↦
      let ne = q.1 in
      let less = across-one n f g i d (omega (arith, l, ne)) e (λ w lw. h w (omega (arith, lw))) in
      let last = h n (omega arith) ne in
      omega (arith, less, last)
]

below-cond : (x t : ℕ) → once_below x (t + 1) ≡ once_below x t + cond (t == x) 1 0
below-cond x t = grind arith

-- the same seats, seen another way
pub drew-same : (n m t : ℕ) (f g : ℕ → Draws) → ((w : ℕ) → w < n → g w ≡ f w) → DrewBelow n m t f → DrewBelow n m t g
drew-same n m t f g e h = record {
  rise = λ w l. subst (λ (z : Draws). Rises z.numbers) (sym (e w l)) (h.rise w l);
  under = λ w l. subst (λ (z : Draws). AllUnder t z.numbers) (sym (e w l)) (h.under w l);
  each = λ x. across-same n (λ w. times x (f w).numbers) (λ w. times x (g w).numbers) (λ w l. ap (λ (z : Draws). times x z.numbers) (e w l)) ∙ h.each x;
  most = h.most;
  ended = λ w l m. h.ended w l (ap (λ (z : Draws). z.met_end) (sym (e w l)) ∙ m);
}

-- seat i drew the next number
pub drew-more : (n m t : ℕ) (f g : ℕ → Draws) (i : ℕ) → i < n → t < m → g i ≡ drawn (f i) (Some t) → ((w : ℕ) → w < n → w ≢ i → g w ≡ f w)
    → DrewBelow n m t f → DrewBelow n m (t + 1) g
drew-more n m t f g i li lt here there h = record {
  rise = λ w l. elim (eqb_tells w i) [
    | inl q ↦ subst (λ (z : Draws). Rises z.numbers) (sym (ap g q.1 ∙ here)) (rise-end (f i).numbers t (h.under i li) (h.rise i li))
    | inr q ↦ subst (λ (z : Draws). Rises z.numbers) (sym (there w l q.1)) (h.rise w l)
  ];
  under = λ w l. elim (eqb_tells w i) [
    | inl q ↦ subst (λ (z : Draws). AllUnder (t + 1) z.numbers) (sym (ap g q.1 ∙ here))
        (under-end (t + 1) (f i).numbers t (under-more t (t + 1) (f i).numbers (omega arith) (h.under i li)) (omega arith))
    | inr q ↦ subst (λ (z : Draws). AllUnder (t + 1) z.numbers) (sym (there w l q.1)) (under-more t (t + 1) (f w).numbers (omega arith) (h.under w l))
  ];
  each = λ x.
      across-one n (λ w. times x (f w).numbers) (λ w. times x (g w).numbers) i (cond (t == x) 1 0) li
      (ap (λ (z : Draws). times x z.numbers) here ∙ times-end x t (f i).numbers)
      (λ w l ne. ap (λ (z : Draws). times x z.numbers) (there w l ne))
      ∙ ap (λ z. z + cond (t == x) 1 0) (h.each x) ∙ sym (below-cond x t);
  most = omega (arith, lt);
  ended = λ w l m. elim (eqb_tells w i) [
    | inl q ↦ let bad = h.ended i li (ap (λ (z : Draws). z.met_end) (sym (ap g q.1 ∙ here)) ∙ m) in absurd (omega (arith, lt, bad))
    | inr q ↦ let bad = h.ended w l (ap (λ (z : Draws). z.met_end) (sym (there w l q.1)) ∙ m) in absurd (omega (arith, lt, bad))
  ];
}

-- seat i met the end
pub drew-end : (n m t : ℕ) (f g : ℕ → Draws) (i : ℕ) → i < n → t ≡ m → g i ≡ drawn (f i) None → ((w : ℕ) → w < n → w ≢ i → g w ≡ f w)
    → DrewBelow n m t f → DrewBelow n m t g
drew-end n m t f g i li done here there h =
    let numbers : (w : ℕ) → w < n → (g w).numbers ≡ (f w).numbers = λ w l. elim (eqb_tells w i) [
      | inl q ↦ ap (λ (z : Draws). z.numbers) (ap g q.1 ∙ here) ∙ ap (λ z. (f z).numbers) (sym q.1)
      | inr q ↦ ap (λ (z : Draws). z.numbers) (there w l q.1)
    ]
    in
    record {
      rise = λ w l. subst Rises (sym (numbers w l)) (h.rise w l);
      under = λ w l. subst (AllUnder t) (sym (numbers w l)) (h.under w l);
      each = λ x. across-same n (λ w. times x (f w).numbers) (λ w. times x (g w).numbers) (λ w l. ap (times x) (numbers w l)) ∙ h.each x;
      most = h.most;
      ended = λ w l m. done;
    }

-- a seat drew from the deck
pub drew-deck : (n : ℕ) (d e : DeckState) (o : Option ℕ) (f g : ℕ → Draws) (i : ℕ) → i < n → DeckDraws d o e → g i ≡ drawn (f i) o → ((w : ℕ) → w < n → w ≢ i → g w ≡ f w)
    → DrewBelow n d.morsels d.next f → DrewBelow n e.morsels e.next g
drew-deck n d e None f g i li x here there h =
    subst (λ (z : DeckState). DrewBelow n z.morsels z.next g) (sym x.1) (drew-end n d.morsels d.next f g i li x.0 here there h)
drew-deck n d e (Some m) f g i li x here there h =
    subst (λ (z : DeckState). DrewBelow n z.morsels z.next g) (sym x.2)
    (drew-more n d.morsels d.next f g i li x.1 (here ∙ ap (λ z. drawn (f i) (Some z)) x.0) there h)

pub drew-hand : (h k : HandState) (o : Option ℕ) (d : Draws) → HandDraws h o k → DrewByHand h d → DrewByHand k (drawn d o)
drew-hand h k None d x s =
    let most = s.drew.most in
    let low = x.0 in
    let done : h.next ≡ h.morsels = omega (arith, most, low) in
    let drew = drew-end 1 h.morsels h.next (λ w. d) (λ w. drawn d None) 0 (omega arith) done refl (λ w l ne. absurd (omega (arith, l, ne))) s.drew in
    subst (λ z. DrewByHand z (drawn d None)) (sym x.1) (record { one = s.one; drew = drew })
drew-hand h k (Some m) d x s =
    let drew = drew-more 1 h.morsels h.next (λ w. d) (λ w. drawn d (Some m)) 0 (omega arith) x.1 (ap (λ z. drawn d (Some z)) x.0) (λ w l ne. absurd (omega (arith, l, ne))) s.drew in
    let P : ℕ → Type 0 = λ z. DrewBelow 1 h.morsels (h.next + z) (λ w. drawn d (Some m)) in
    subst (λ z. DrewByHand z (drawn d (Some m))) (sym x.2) (record { one = s.one; drew = subst P (sym s.one) drew })

pub among : (first count a : ℕ) → IsAmong first count a ⊎ (IsAmong first count a → ⊥)
among first count a = elim (cases_lt a first) [
  | inl l ↦ inr (λ h. let k = h.0 in absurd (omega (arith, l, k)))
  | inr l ↦ elim (cases_lt a (first + count)) [
    | inl k ↦ inl (l, k)
    | inr k ↦ inr (λ h. let z = h.1 in absurd (omega (arith, k, z)))
  ]
]

-- a worker drew at a shared scan
drew-shared : (s t : SharedState) (a : ℕ) (o : Option ℕ) (f g : ℕ → Draws) → SharedDraws s a o t
    → g a ≡ drawn (f a) o → ((b : ℕ) → b ≢ a → g b ≡ f b)
    → DrewBelow s.workers s.deck.morsels s.deck.next (λ w. f (s.first + w)) → DrewBelow t.workers t.deck.morsels t.deck.next (λ w. g (t.first + w))
drew-shared s t a o f g d here there h =
    let P : ℕ → Type 0 = λ n. DrewBelow n t.deck.morsels t.deck.next (λ w. g (t.first + w)) in
    let Q : ℕ → Type 0 = λ i. DrewBelow s.workers t.deck.morsels t.deck.next (λ w. g (i + w)) in
    subst P (sym d.workers) (subst Q (sym d.first) (elim (among s.first s.workers a) [
      | inl m ↦
          let lo = m.0 in
          let hi = m.1 in
          let i = a - s.first in
          let at : s.first + i ≡ a = omega (arith, lo) in
          drew-deck s.workers s.deck t.deck o (λ w. f (s.first + w)) (λ w. g (s.first + w)) i (omega (arith, lo, hi)) (d.its_own m)
          (ap g at ∙ here ∙ ap (λ z. drawn (f z) o) (sym at)) (λ w l ne. there (s.first + w) (λ e. ne (omega (arith, e, lo)))) h
      | inr m ↦
          let same = drew-same s.workers s.deck.morsels s.deck.next (λ w. f (s.first + w)) (λ w. g (s.first + w))
          (λ w l. there (s.first + w) (λ e. m (omega (arith, e), omega (arith, e, l)))) h
          in
          subst (λ (z : DeckState). DrewBelow s.workers z.morsels z.next (λ w. g (s.first + w))) (sym (d.stranger m).1) same
    ]))

-- a worker drew at a whole scan
drew-whole : (s t : WholeState) (a : ℕ) (o : Option ℕ) (f g : ℕ → Draws) → WholeDraws s a o t
    → g a ≡ drawn (f a) o → ((b : ℕ) → b ≢ a → g b ≡ f b)
    → ((w : ℕ) → w < length s.hands → DrewByHand (hand_in s.hands w) (f (s.first + w))) → (w : ℕ) → w < length t.hands → DrewByHand (hand_in t.hands w) (g (t.first + w))
drew-whole s t a o f g d here there h w l =
    let P : ℕ → Type 0 = λ n. w < n in
    let lw : w < length s.hands = subst P d.hands l in
    let Q : ℕ → Type 0 = λ i. DrewByHand (hand_in t.hands w) (g (i + w)) in
    subst Q (sym d.first) (elim (cases_eq (s.first + w) a) [
      | inl e ↦
          let m : IsAmong s.first (length s.hands) a = (omega (arith, e), omega (arith, e, lw)) in
          let place : a - s.first ≡ w = omega (arith, e) in
          let R : ℕ → Type 0 = λ z. HandDraws (hand_in s.hands z) o (hand_in t.hands z) in
          let drew = drew-hand (hand_in s.hands w) (hand_in t.hands w) o (f (s.first + w)) (subst R place (d.its_own m)) (h w lw) in
          subst (λ z. DrewByHand (hand_in t.hands w) z) (sym (ap g e ∙ here ∙ ap (λ z. drawn (f z) o) (sym e))) drew
      | inr ne ↦
          subst (λ z. DrewByHand z (g (s.first + w))) (sym (d.others w ne))
          (subst (λ z. DrewByHand (hand_in s.hands w) z) (sym (there (s.first + w) ne)) (h w lw))
    ])

-- a worker drew at a node
pub drew-at : (s t : Station) (a : ℕ) (o : Option ℕ) (f g : ℕ → Draws) → StationDraws s a o t → g a ≡ drawn (f a) o → ((b : ℕ) → b ≢ a → g b ≡ f b) → HasDealt s f → HasDealt t g
drew-at Inner t a o f g d here there h = subst (λ z. HasDealt z g) (sym d.1) tt
drew-at (Exchange below above) t a o f g d here there h = subst (λ z. HasDealt z g) (sym d.1) tt
drew-at (Shared s) (Shared t) a o f g d here there h = drew-shared s t a o f g d here there h
drew-at (Shared s) Inner a o f g d here there h = absurd d
drew-at (Shared s) (Exchange x y) a o f g d here there h = absurd d
drew-at (Shared s) (Whole t) a o f g d here there h = absurd d
drew-at (Whole s) (Whole t) a o f g d here there h = drew-whole s t a o f g d here there h
drew-at (Whole s) Inner a o f g d here there h = absurd d
drew-at (Whole s) (Exchange x y) a o f g d here there h = absurd d
drew-at (Whole s) (Shared t) a o f g d here there h = absurd d

-- nobody drew at a node
pub dealt-same : (s : Station) (f g : ℕ → Draws) → ((b : ℕ) → g b ≡ f b) → HasDealt s f → HasDealt s g
dealt-same Inner f g e h = tt
dealt-same (Exchange below above) f g e h = tt
dealt-same (Shared s) f g e h = drew-same s.workers s.deck.morsels s.deck.next (λ w. f (s.first + w)) (λ w. g (s.first + w)) (λ w l. e (s.first + w)) h
dealt-same (Whole s) f g e h = λ w l. subst (λ z. DrewByHand (hand_in s.hands w) z) (sym (e (s.first + w))) (h w l)
