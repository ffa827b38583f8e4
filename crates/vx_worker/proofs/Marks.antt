-- What is marked as ended stays so while more is drawn and taken.
use Rattle.std.proofs.Common.{ℕ, zero, suc, ◌≡◌, ◌+◌, ◌<◌, ◌≤◌, lit<, ◌==◌, inl, inr, refl, sym, ap, ◌∙◌, subst, Bool, true, false, ◌||◌, List, [], ◌∷◌, ◌++◌, length, get_or, Some, None, map, arith}
use Rattle.std.proofs.Math.ListN.{set}
use Rattle.std.proofs.lemmas.Bool.Decides.{eqb_tells}
use Rattle.std.proofs.lemmas.List.Elements.{All-map}
use Rattle.std.specs.List.{All, list_any}
use Rattle.vx_rows_values.specs.declared.value.ColType.{ColType}
use Rattle.vx_ports.specs.Packets.{Content, brings, last, fault, PacketView, closes, content_rows, is_closed, FitsContent}
use Rattle.vx_exchange_ends.specs.Queued.{closings}
use Rattle.vx_worker.specs.Trace.{Event, idle, drew_one, took_one, put_one, Trace, added, empty_trace}
use Rattle.vx_worker.specs.Intake.{source_of, has_met_end, IsFresh, marked, MarksStand, IntakeStands, IsDrained}
use Rattle.vx_worker.specs.declared.intake.ExchangeInput.{ExchangeInput}
use Rattle.vx_worker.specs.declared.intake.Intake.{Intake}

or-true : (a : Bool) → (a || true) ≡ true
or-true true = refl
or-true false = refl

or-false : (a : Bool) → (a || false) ≡ a
or-false true = refl
or-false false = refl

-- a list stays as it was with a packet that does not close
open-last : (ps : List PacketView) (p : PacketView) → closes p.content ≡ false → is_closed (ps ++ p ∷ []) ≡ is_closed ps
open-last [] p e = ap (λ b. b || false) e
open-last (q ∷ ps) p e = ap (λ b. closes q.content || b) (open-last ps p e)

-- with a packet that closes at its end it is closed
closed-last : (ps : List PacketView) (p : PacketView) → closes p.content ≡ true → is_closed (ps ++ p ∷ []) ≡ true
closed-last [] p e = ap (λ b. b || false) e
closed-last (q ∷ ps) p e = ap (λ b. closes q.content || b) (closed-last ps p e) ∙ or-true (closes q.content)

-- what came of a producer, with a packet of this one
came-here : (t : Trace) (x i : ℕ) (p : PacketView) (z : ExchangeInput) → (z.exchange ≡ x) × (z.from ≡ i)
    → (added t (took_one x i (Some p))).came z.exchange z.from ≡ t.came z.exchange z.from ++ p ∷ []
came-here t x i p z h = elim (eqb_tells z.exchange x) [
  | inl d ↦ elim (eqb_tells z.from i) [
    | inl e ↦ rw (d.0, e.0) refl
    | inr e ↦ absurd (e.1 h.1)
  ]
  | inr d ↦ absurd (d.1 h.0)
]

-- an event after which each list is closed as before
abbrev pub Keeps : Event → Type 0
Keeps (took_one x i (Some p)) = closes p.content ≡ false
Keeps e = Unit {0}

came-kept : (t : Trace) (e : Event) → Keeps e → (x i : ℕ) → is_closed ((added t e).came x i) ≡ is_closed (t.came x i)
came-kept t idle k x i = refl
came-kept t (drew_one n d) k x i = refl
came-kept t (took_one j h None) k x i = elim (eqb_tells x j) [
  | inl d ↦ rw d.0 refl
  | inr d ↦ rw d.0 refl
]
came-kept t (took_one j h (Some p)) k x i = elim (eqb_tells x j) [
  | inl d ↦ elim (eqb_tells i h) [
    | inl e ↦ rw (d.0, e.0) (open-last (t.came x i) p k)
    | inr e ↦ rw (d.0, e.0) refl
  ]
  | inr d ↦ rw d.0 refl
]
came-kept t (put_one j p) k x i = refl

-- where a packet that closes was taken, exactly its producer is marked
mark-one : (t : Trace) (x i : ℕ) (p : PacketView) → closes p.content ≡ true → (z : ExchangeInput) → is_closed (t.came z.exchange z.from) ≡ z.is_closed
    → is_closed ((added t (took_one x i (Some p))).came z.exchange z.from) ≡ (marked x i z).is_closed
mark-one t x i p c z h = elim (eqb_tells z.exchange x) [
  | inl d ↦ elim (eqb_tells z.from i) [
    | inl e ↦ rw (d.0, e.0) (closed-last (t.came z.exchange z.from) p c ∙ sym (or-true z.is_closed))
    | inr e ↦ rw (d.0, e.0) (h ∙ sym (or-false z.is_closed))
  ]
  | inr d ↦ rw d.0 (h ∙ sym (or-false z.is_closed))
]

met-kept : (t : Trace) (e : Event) (n : ℕ) → (t.drew n).met_end ≡ true → ((added t e).drew n).met_end ≡ true
met-kept t idle n h = h
met-kept t (drew_one k None) n h = elim (eqb_tells n k) [
  | inl d ↦ rw d.0 refl
  | inr d ↦ rw d.0 h
]
met-kept t (drew_one k (Some x)) n h = elim (eqb_tells n k) [
  | inl d ↦ rw d.0 h
  | inr d ↦ rw d.0 h
]
met-kept t (took_one x i o) n h = h
met-kept t (put_one j p) n h = h

-- the same scans are marked
pub met-same : (old new : Intake) → new.finished.items ≡ old.finished.items → (n : ℕ) → has_met_end old n ≡ true → has_met_end new n ≡ true
met-same old new b n m = ap (λ xs. list_any (λ y. y == n) xs) b ∙ m

-- nothing new is marked
pub intake-kept : (old new : Intake) (t : Trace) (e : Event) → Keeps e → new.inputs.items ≡ old.inputs.items → new.finished.items ≡ old.finished.items
    → IntakeStands old t → IntakeStands new (added t e)
intake-kept old new t e k a b h = record {
  scans = λ n m. met-kept t e n (h.scans n (ap (λ xs. list_any (λ y. y == n) xs) (sym b) ∙ m));
  inputs = subst (λ xs. MarksStand xs (added t e)) (sym a) (λ j d l. came-kept t e k _ _ ∙ h.inputs j d l);
}

-- a producer that closed is marked
pub intake-closed : (old new : Intake) (t : Trace) (x i : ℕ) (p : PacketView) → new.inputs.items ≡ map (marked x i) old.inputs.items → new.finished.items ≡ old.finished.items
    → closes p.content ≡ true → IntakeStands old t → IntakeStands new (added t (took_one x i (Some p)))
intake-closed old new t x i p a b c h = record {
  scans = λ n m. h.scans n (ap (λ xs. list_any (λ y. y == n) xs) (sym b) ∙ m);
  inputs = subst (λ xs. MarksStand xs (added t (took_one x i (Some p)))) (sym a)
      (All-map (λ z. is_closed ((added t (took_one x i (Some p))).came z.exchange z.from) ≡ z.is_closed) (marked x i) old.inputs.items
      (λ j d l. mark-one t x i p c _ (h.inputs j d l)));
}

-- a packet whose rows fit its types has some, or closes
pub fits-some : (types : List ColType) (x : Content) → FitsContent types x → 0 < length (content_rows x) + closings x
fits-some types (brings xs) h = let some : 1 ≤ length xs = h.0 in omega arith
fits-some types last h = lit< tt
fits-some types fault h = lit< tt

-- the sources stay
pub marked-sources : (x i : ℕ) (is : List ExchangeInput) → map source_of (map (marked x i) is) ≡ map source_of is
marked-sources x i [] = refl
marked-sources x i (z ∷ is) = ap (λ ss. source_of z ∷ ss) (marked-sources x i is)

-- before any step nothing is marked
pub marks-fresh : (is : List ExchangeInput) → All IsFresh is → MarksStand is empty_trace
marks-fresh is h = λ k d l. sym (h k d l)

-- the first producers are marked
abbrev pub marked_until : (k x i : ℕ) → List ExchangeInput → List ExchangeInput
marked_until zero x i is = is
marked_until (suc k) x i [] = []
marked_until (suc k) x i (z ∷ is) = marked x i z ∷ marked_until k x i is

-- with one more
pub marked-more : (k x i : ℕ) (is : List ExchangeInput) (d : ExchangeInput) → k < length is
    → set (marked_until k x i is) k (marked x i (get_or (marked_until k x i is) k d)) ≡ marked_until (suc k) x i is
marked-more k x i [] d l = absurd (omega arith)
marked-more zero x i (z ∷ is) d l = refl
marked-more (suc k) x i (z ∷ is) d l = ap (λ js. marked x i z ∷ js) (marked-more k x i is d (omega arith))

pub marked-all : (k x i : ℕ) (is : List ExchangeInput) → length is ≤ k → marked_until k x i is ≡ map (marked x i) is
marked-all zero x i [] l = refl
marked-all zero x i (z ∷ is) l = absurd (omega arith)
marked-all (suc k) x i [] l = refl
marked-all (suc k) x i (z ∷ is) l = ap (λ js. marked x i z ∷ js) (marked-all k x i is (omega arith))

-- where every producer is marked, each stream was taken to its end
pub drained : (is : List ExchangeInput) (t : Trace) → All (λ i. i.is_closed ≡ true) is → MarksStand is t → IsDrained (map source_of is) t
drained is t all marks = All-map (λ s. is_closed (t.came s.0 s.1) ≡ true) source_of is (λ k d l. marks k d l ∙ all k d l)
