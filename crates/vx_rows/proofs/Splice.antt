-- Texts after others are written over those from `at` on.
use Rattle.std.proofs.Common.{◌≡◌, ℕ, ◌+◌, ◌-◌, ◌<◌, ◌≤◌, List, [], ◌∷◌, ◌++◌, refl, sym, ap, ◌∙◌, subst, length, get_or, take, drop, arith, inl, inr}
use Rattle.std.specs.Prelude.{slice_range}
use Rattle.std.specs.Str.{IsUtf8}
use Rattle.std.proofs.lemmas.Slice.{between_is}
use Rattle.std.proofs.lemmas.List.{length-take, length-drop, length-append, length-take-le, take-take, take-append-le, drop-drop, drop_at}
use Rattle.std.proofs.lemmas.Bool.{cases_lt}
use Rattle.std.proofs.Common.{zero, suc, zero-le}
use Rattle.std.proofs.lemmas.List.{take_all, get_or-take, get_or_read, append-nil, length_push, get_or_append_left, get_or_push}
use Rattle.vx_rows.specs.Lists.{each_below}
use Rattle.std.specs.Prelude.{Result, Ok, Err, OnOk}
use Rattle.vx_rows.specs.Texts.{piece, pieces, AreCuts, AreMoved}
use Rattle.vx_rows.proofs.Below.{length-each_below, get_or-each_below}

-- a part of what lies before the new bytes
pub part_before : (bytes more : List ℕ) (s x y : ℕ) → y ≤ s → s ≤ length bytes → slice_range (take s bytes ++ more) x y ≡ slice_range bytes x y
part_before bytes more s x y h l =
    let e : length (take s bytes) ≡ s = length-take-le s bytes l in
    let near : y ≤ length (take s bytes) = omega arith in
    between_is (take s bytes ++ more) x y
    ∙ (ap (λ zs. drop x zs) (take-append-le y (take s bytes) more near ∙ take-take y s bytes h) ∙ sym (between_is bytes x y))

-- a part of the new bytes
pub part_after : (front more : List ℕ) (s x y : ℕ) → length front ≡ s → slice_range (front ++ more) (s + x) (s + y) ≡ slice_range more x y
part_after front more s x y e =
    let d : (s + y) - (s + x) ≡ y - x = omega arith in
    ap (λ n. take n (drop (s + x) (front ++ more))) d
    ∙ ap (λ zs. take (y - x) zs) (sym (drop-drop x s (front ++ more)) ∙ ap (λ zs. drop x zs) (drop_at front more s e))

-- a part of a part
pub part_part : (bytes : List ℕ) (a b x y : ℕ) → x ≤ y → y ≤ b - a → slice_range (slice_range bytes a b) x y ≡ slice_range bytes (a + x) (a + y)
part_part bytes a b x y h l =
    let d : (a + y) - (a + x) ≡ y - x = omega arith in
    between_is (slice_range bytes a b) x y
    ∙ (ap (λ zs. drop x zs) (take-take y (b - a) (drop a bytes) l)
    ∙ (sym (between_is (drop a bytes) x y)
    ∙ (ap (λ zs. take (y - x) zs) (drop-drop x a bytes) ∙ ap (λ n. take n (drop (a + x) bytes)) (sym d))))

-- `m` texts from `from` on were written at `at`; the bytes of some more may follow them
pub record Spliced (bytes cuts others other_cuts new new_cuts : List ℕ) (at from m last : ℕ) : Type 0 where
  pub near : at < length cuts
  pub there : from + m ≤ last
  pub far : last < length other_cuts
  pub bytes_are : new ≡ take (get_or cuts at 0) bytes ++ slice_range others (get_or other_cuts from 0) (get_or other_cuts last 0)
  pub many : length new_cuts ≡ at + 1 + m
  pub before : (k : ℕ) → k ≤ at → get_or new_cuts k 0 ≡ get_or cuts k 0
  pub after : (j : ℕ) → j ≤ m → get_or new_cuts (at + j) 0 ≡ get_or cuts at 0 + (get_or other_cuts (from + j) 0 - get_or other_cuts from 0)

module _ (bytes cuts others other_cuts new new_cuts : List ℕ) (at from m last : ℕ) (old : AreCuts bytes cuts) (other : AreCuts others other_cuts) (s : Spliced bytes cuts others other_cuts new new_cuts at from m last) where
  start_within : get_or cuts at 0 ≤ length bytes
  start_within = old.within at s.near

  pub kept : (k : ℕ) → k < at → piece new new_cuts k ≡ piece bytes cuts k
  kept k h =
      let b = get_or cuts at 0 in
      let more = slice_range others (get_or other_cuts from 0) (get_or other_cuts last 0) in
      ap (λ zs. slice_range zs (get_or new_cuts k 0) (get_or new_cuts (k + 1) 0)) s.bytes_are
      ∙ (ap (λ x. slice_range (take b bytes ++ more) x (get_or new_cuts (k + 1) 0)) (s.before k (omega arith))
      ∙ (ap (λ y. slice_range (take b bytes ++ more) (get_or cuts k 0) y) (s.before (k + 1) (omega arith))
      ∙ part_before bytes more b (get_or cuts k 0) (get_or cuts (k + 1) 0) (old.rise (k + 1) at (omega arith) s.near) start_within))

  pub moved : (j : ℕ) → j < m → piece new new_cuts (at + j) ≡ piece others other_cuts (from + j)
  moved j h =
      let b = get_or cuts at 0 in
      let a = get_or other_cuts from 0 in
      let z = get_or other_cuts last 0 in
      let more = slice_range others a z in
      let f = s.far in
      let t = s.there in
      let x = get_or other_cuts (from + j) 0 in
      let y = get_or other_cuts (from + j + 1) 0 in
      let e : from + (j + 1) ≡ from + j + 1 = omega arith in
      let e2 : at + j + 1 ≡ at + (j + 1) = omega arith in
      let low : a ≤ x = other.rise from (from + j) (omega arith) (omega arith) in
      let mid : x ≤ y = other.rise (from + j) (from + j + 1) (omega arith) (omega arith) in
      let high : y ≤ z = other.rise (from + j + 1) last (omega arith) (omega arith) in
      let next : get_or new_cuts (at + j + 1) 0 ≡ b + (y - a) = ap (λ i. get_or new_cuts i 0) e2 ∙ (s.after (j + 1) (omega arith) ∙ ap (λ i. b + (get_or other_cuts i 0 - a)) e) in
      let ax : a + (x - a) ≡ x = omega arith in
      let ay : a + (y - a) ≡ y = omega arith in
      ap (λ zs. slice_range zs (get_or new_cuts (at + j) 0) (get_or new_cuts (at + j + 1) 0)) s.bytes_are
      ∙ (ap (λ i. slice_range (take b bytes ++ more) i (get_or new_cuts (at + j + 1) 0)) (s.after j (omega arith))
      ∙ (ap (λ i. slice_range (take b bytes ++ more) (b + (x - a)) i) next
      ∙ (part_after (take b bytes) more b (x - a) (y - a) (length-take-le b bytes start_within)
      ∙ (part_part others a z (x - a) (y - a) (omega arith) (omega arith)
      ∙ (ap (λ i. slice_range others i (a + (y - a))) ax ∙ ap (λ i. slice_range others x i) ay)))))

  new_length : length new ≡ get_or cuts at 0 + (get_or other_cuts last 0 - get_or other_cuts from 0)
  new_length =
      let b = get_or cuts at 0 in
      let a = get_or other_cuts from 0 in
      let z = get_or other_cuts last 0 in
      let zin : z ≤ length others = other.within last s.far in
      let e = ap length s.bytes_are ∙ length-append (take b bytes) (slice_range others a z) in
      let e1 = length-take-le b bytes start_within in
      let e2 = length-take (z - a) (drop a others) in
      let e3 = length-drop a others in
      omega (arith, e, e1, e2, e3)

  -- the cut at i, seen from `at`
  place : (i : ℕ) → i < length new_cuts → at ≤ i → get_or new_cuts i 0 ≡ get_or cuts at 0 + (get_or other_cuts (from + (i - at)) 0 - get_or other_cuts from 0)
  place i h l =
      let many = s.many in
      let e : i ≡ at + (i - at) = omega arith in
      ap (λ k. get_or new_cuts k 0) e ∙ s.after (i - at) (omega arith)

  rises_late : (i j : ℕ) → i ≤ j → j < length new_cuts → at ≤ i → get_or new_cuts i 0 ≤ get_or new_cuts j 0
  rises_late i j h l a =
      let many = s.many in
      let t = s.there in
      let f = s.far in
      let pi = place i (omega arith) a in
      let pj = place j l (omega arith) in
      let up = other.rise (from + (i - at)) (from + (j - at)) (omega arith) (omega arith) in
      omega (arith, pi, pj, up)

  new_rise : (i j : ℕ) → i ≤ j → j < length new_cuts → get_or new_cuts i 0 ≤ get_or new_cuts j 0
  new_rise i j h l =
      elim (cases_lt at i) [
        | inl late ↦ rises_late i j h l (omega arith)
        | inr early ↦
            let bi = s.before i early in
            let near = s.near in
            elim (cases_lt at j) [
              | inl past ↦
                  let up = old.rise i at early s.near in
                  let b0 = s.before at (omega arith) in
                  let r = rises_late at j (omega arith) l (omega arith) in
                  omega (arith, bi, up, b0, r)
              | inr both ↦ let bj = s.before j both in let up = old.rise i j h (omega arith) in omega (arith, bi, bj, up)
            ]
      ]

  new_within : (i : ℕ) → i < length new_cuts → get_or new_cuts i 0 ≤ length new
  new_within i h =
      let many = s.many in
      let t = s.there in
      let f = s.far in
      let r = new_rise i (at + m) (omega arith) (omega arith) in
      let p = s.after m (omega arith) in
      let up = other.rise (from + m) last t f in
      let n = new_length in
      omega (arith, r, p, up, n)

  new_utf8 : (i : ℕ) → i + 1 < length new_cuts → IsUtf8 (piece new new_cuts i)
  new_utf8 i h =
      let many = s.many in
      let near = s.near in
      let t = s.there in
      let f = s.far in
      elim (cases_lt i at) [
        | inl early ↦ subst IsUtf8 (sym (kept i early)) (old.utf8 i (omega arith))
        | inr late ↦
            let e : at + (i - at) ≡ i = omega arith in
            subst IsUtf8 (sym (moved (i - at) (omega arith)) ∙ ap (λ k. piece new new_cuts k) e) (other.utf8 (from + (i - at)) (omega arith))
      ]

  pub are_cuts : AreCuts new new_cuts
  are_cuts = record { some = let many = s.many in omega arith; rise = new_rise; within = new_within; utf8 = new_utf8 }

pub count_of : (bytes cuts : List ℕ) (t : List (List ℕ)) → pieces bytes cuts ≡ t → length t ≡ length cuts - 1
count_of bytes cuts t e = ap length (sym e) ∙ length-each_below (length cuts - 1) (piece bytes cuts)

pub at_piece : (bytes cuts : List ℕ) (t : List (List ℕ)) → pieces bytes cuts ≡ t → (k : ℕ) → k + 1 < length cuts → get_or t k [] ≡ piece bytes cuts k
at_piece bytes cuts t e k h = ap (λ (xs : List (List ℕ)). get_or xs k []) (sym e) ∙ get_or-each_below (length cuts - 1) (piece bytes cuts) k [] (omega arith)

-- one text, as texts
rise_one : (n i j : ℕ) → i ≤ j → j < 2 → get_or (0 ∷ n ∷ []) i 0 ≤ get_or (0 ∷ n ∷ []) j 0
rise_one n zero j h l = zero-le
rise_one n (suc zero) zero h l = absurd (omega arith)
rise_one n (suc zero) (suc zero) h l = omega arith
rise_one n (suc zero) (suc (suc j)) h l = absurd (omega arith)
rise_one n (suc (suc i)) j h l = absurd (omega arith)

within_one : (n i : ℕ) → i < 2 → get_or (0 ∷ n ∷ []) i 0 ≤ n
within_one n zero l = zero-le
within_one n (suc zero) l = omega arith
within_one n (suc (suc i)) l = absurd (omega arith)

whole : (text : List ℕ) → slice_range text 0 (length text) ≡ text
whole text = take_all (length text - 0) text (omega arith)

utf8_one : (text : List ℕ) → IsUtf8 text → (i : ℕ) → i + 1 < 2 → IsUtf8 (piece text (0 ∷ length text ∷ []) i)
utf8_one text u zero l = subst IsUtf8 (sym (whole text)) u
utf8_one text u (suc i) l = absurd (omega arith)

pub one_text : (text : List ℕ) → IsUtf8 text → AreCuts text (0 ∷ length text ∷ [])
one_text text u = record { some = omega arith; rise = rise_one (length text); within = within_one (length text); utf8 = utf8_one text u }

-- the texts after a splice, from the cuts: `last` is `from` where no bytes came, else `to`
pub spliced : (bytes cuts others other_cuts new new_cuts cut : List ℕ) (at from to last : ℕ) → at < length cuts → cut ≡ take (at + 1) cuts → from + (length new_cuts - (at + 1)) ≤ last → last < length other_cuts
    → new ≡ take (get_or cuts at 0) bytes ++ slice_range others (get_or other_cuts from 0) (get_or other_cuts last 0)
    → AreMoved cut other_cuts new_cuts at from to → Spliced bytes cuts others other_cuts new new_cuts at from (length new_cuts - (at + 1)) last
spliced bytes cuts others other_cuts new new_cuts cut at from to last near is_cut there far bytes_are s =
    let long = s.long in
    let same : (k : ℕ) → k ≤ at → get_or cut k 0 ≡ get_or cuts k 0 = λ k h. ap (λ (l : List ℕ). get_or l k 0) is_cut ∙ get_or-take (at + 1) cuts k 0 (omega arith) in
    let same_at : get_or cut at 0 ≡ get_or cuts at 0 = same at (omega arith) in
    record {
      near = near;
      there = there;
      far = far;
      bytes_are = bytes_are;
      many = omega arith;
      before = λ k h. s.before k h ∙ same k h;
      after = λ j h. s.after j (omega arith) ∙ ap (λ b. b + (get_or other_cuts (from + j) 0 - get_or other_cuts from 0)) same_at;
    }

pub near_cut : (bytes cuts : List ℕ) (t : List (List ℕ)) → pieces bytes cuts ≡ t → (i : ℕ) → i < length t → i + 1 < length cuts
near_cut bytes cuts t e i h = let n = count_of bytes cuts t e in omega (arith, n)

pub no_pieces : (bytes cuts : List ℕ) → length cuts ≡ 1 → pieces bytes cuts ≡ []
unfolding each_below
no_pieces bytes cuts e = ap (λ n. each_below (n - 1) (piece bytes cuts)) e

slice_none : (xs : List ℕ) (a : ℕ) → slice_range xs a a ≡ []
slice_none xs a = let e : a - a ≡ 0 = omega arith in ap (λ n. take n (drop a xs)) e

pub nothing_moved : (cut other_cuts : List ℕ) (at from to : ℕ) → length cut ≡ at + 1 → AreMoved cut other_cuts cut at from to
nothing_moved cut other_cuts at from to e = record {
  long = omega arith;
  bound = omega arith;
  before = λ k h. refl;
  after = λ j h.
      let p : at + j ≡ at = omega arith in
      let q : from + j ≡ from = omega arith in
      let x = ap (λ i. get_or cut i 0) p in
      let y = ap (λ i. get_or other_cuts i 0) q in
      omega (arith, x, y);
}

-- no bytes came
pub spliced_none : (bytes cuts others other_cuts new new_cuts : List ℕ) (at from to start : ℕ) → at < length cuts → from ≤ to → to < length other_cuts → start ≡ get_or cuts at start
    → new ≡ take start bytes → new_cuts ≡ take (at + 1) cuts → Spliced bytes cuts others other_cuts new new_cuts at from (length new_cuts - (at + 1)) from
spliced_none bytes cuts others other_cuts new new_cuts at from to start near order far e is_new is_cut =
    let n : length new_cuts ≡ at + 1 = ap length is_cut ∙ length-take-le (at + 1) cuts (omega arith) in
    let s : start ≡ get_or cuts at 0 = get_or_read cuts at start near e 0 in
    let b : new ≡ take (get_or cuts at 0) bytes ++ slice_range others (get_or other_cuts from 0) (get_or other_cuts from 0) =
    is_new ∙ (ap (λ i. take i bytes) s ∙ (sym (append-nil (take (get_or cuts at 0) bytes)) ∙ ap (λ zs. take (get_or cuts at 0) bytes ++ zs) (sym (slice_none others (get_or other_cuts from 0))))) in
    spliced bytes cuts others other_cuts new new_cuts new_cuts at from to from near is_cut (omega arith) (omega arith) b (nothing_moved new_cuts other_cuts at from to n)

-- all bytes came
pub spliced_some : (bytes cuts others other_cuts new new_cuts cut : List ℕ) (at from to start : ℕ) → at < length cuts → to < length other_cuts → start ≡ get_or cuts at start
    → new ≡ take start bytes ++ slice_range others (get_or other_cuts from 0) (get_or other_cuts to 0) → from ≤ to → cut ≡ take (at + 1) cuts → AreMoved cut other_cuts new_cuts at from to
    → Spliced bytes cuts others other_cuts new new_cuts at from (length new_cuts - (at + 1)) to
spliced_some bytes cuts others other_cuts new new_cuts cut at from to start near far e is_new order is_cut m =
    let s : start ≡ get_or cuts at 0 = get_or_read cuts at start near e 0 in
    let bound = m.bound in
    let long = m.long in
    spliced bytes cuts others other_cuts new new_cuts cut at from to to near is_cut (omega arith) far
    (is_new ∙ ap (λ i. take i bytes ++ slice_range others (get_or other_cuts from 0) (get_or other_cuts to 0)) s) m

-- what is said of a call's `Ok`
pub on_ok : {T E : Type 0} (r : Result T E) {P Q : Type 0} → (P → Q) → OnOk r P → OnOk r Q
on_ok (Ok x) f h = f h
on_ok (Err e) f h = tt

pub on_ok_both : {T E : Type 0} (r : Result T E) {P Q R : Type 0} → (P → Q → R) → OnOk r P → OnOk r Q → OnOk r R
on_ok_both (Ok x) f h k = f h k
on_ok_both (Err e) f h k = tt

-- the texts that a splice leaves, and those that it adds
pub kept_texts : (bytes cuts new new_cuts : List ℕ) (t : List (List ℕ)) (at : ℕ) → pieces bytes cuts ≡ t → at ≤ length t → at < length new_cuts
    → ((k : ℕ) → k < at → piece new new_cuts k ≡ piece bytes cuts k) → (k : ℕ) → k < at → get_or (pieces new new_cuts) k [] ≡ get_or t k []
kept_texts bytes cuts new new_cuts t at e room long h k near =
    at_piece new new_cuts (pieces new new_cuts) refl k (omega arith) ∙ (h k near ∙ sym (at_piece bytes cuts t e k (near_cut bytes cuts t e k (omega arith))))

pub moved_texts : (others other_cuts new new_cuts : List ℕ) (t : List (List ℕ)) (at from to : ℕ) → pieces others other_cuts ≡ t → from ≤ to → to ≤ length t → length new_cuts ≡ at + 1 + (to - from)
    → ((k : ℕ) → k < to - from → piece new new_cuts (at + k) ≡ piece others other_cuts (from + k))
    → (k : ℕ) → k < to - from → get_or (pieces new new_cuts) (at + k) [] ≡ get_or t (from + k) []
moved_texts others other_cuts new new_cuts t at from to e order there many h k near =
    at_piece new new_cuts (pieces new new_cuts) refl (at + k) (omega arith) ∙ (h k near ∙ sym (at_piece others other_cuts t e (from + k) (near_cut others other_cuts t e (from + k) (omega arith))))

-- a text was written at `at`, but not yet the cut behind it
pub text_with_no_cut : (bytes cuts new new_cuts text : List ℕ) (at start : ℕ) → at < length cuts → start ≡ get_or cuts at start → new ≡ take start bytes ++ text → new_cuts ≡ take (at + 1) cuts
    → Spliced bytes cuts text (0 ∷ length text ∷ []) new new_cuts at 0 0 1
text_with_no_cut bytes cuts new new_cuts text at start near e is_new is_cut =
    let s : start ≡ get_or cuts at 0 = get_or_read cuts at start near e 0 in
    let same : (k : ℕ) → k ≤ at → get_or new_cuts k 0 ≡ get_or cuts k 0 = λ k h. ap (λ (l : List ℕ). get_or l k 0) is_cut ∙ get_or-take (at + 1) cuts k 0 (omega arith) in
    let n : length new_cuts ≡ at + 1 = ap length is_cut ∙ length-take-le (at + 1) cuts (omega arith) in
    record {
      near = near;
      there = omega arith;
      far = omega arith;
      bytes_are = is_new ∙ (ap (λ i. take i bytes ++ text) s ∙ ap (λ t. take (get_or cuts at 0) bytes ++ t) (sym (whole text)));
      many = omega (arith, n);
      before = same;
      after = λ j h.
          let p : at + j ≡ at = omega arith in
          let q : j ≡ 0 = omega arith in
          let x = ap (λ i. get_or new_cuts i 0) p in
          let y = same at (omega arith) in
          let z : get_or (0 ∷ length text ∷ []) (0 + j) 0 ≡ 0 = ap (λ i. get_or (0 ∷ length text ∷ []) (0 + i) 0) q in
          omega (arith, x, y, z);
    }

-- a text was written at `at`, and the cut behind it
pub text_with_cut : (bytes cuts new cut new_cuts text : List ℕ) (at start end : ℕ) → AreCuts bytes cuts → at < length cuts → start ≡ get_or cuts at start → new ≡ take start bytes ++ text → cut ≡ take (at + 1) cuts → new_cuts ≡ cut ++ end ∷ [] → end ≡ length new
    → Spliced bytes cuts text (0 ∷ length text ∷ []) new new_cuts at 0 1 1
text_with_cut bytes cuts new cut new_cuts text at start end old near e is_new is_cut is_cuts is_end =
    let none = text_with_no_cut bytes cuts new cut text at start near e is_new is_cut in
    let n : length cut ≡ at + 1 = ap length is_cut ∙ length-take-le (at + 1) cuts (omega arith) in
    let m : length new_cuts ≡ at + 2 = ap length is_cuts ∙ (length_push cut end ∙ (omega (arith, n))) in
    let s : start ≡ get_or cuts at 0 = get_or_read cuts at start near e 0 in
    let w = old.within at near in
    let size : length new ≡ get_or cuts at 0 + length text =
    ap length is_new ∙ (length-append (take start bytes) text ∙ (let t = length-take-le start bytes (omega (arith, s, w)) in omega (arith, t, s))) in
    let same : (k : ℕ) → k ≤ at → get_or new_cuts k 0 ≡ get_or cut k 0 = λ k h. ap (λ (l : List ℕ). get_or l k 0) is_cuts ∙ get_or_append_left cut (end ∷ []) 0 k (omega (arith, n)) in
    let last : get_or new_cuts (at + 1) 0 ≡ end = ap (λ (l : List ℕ). get_or l (at + 1) 0) is_cuts ∙ get_or_push cut end 0 (at + 1) n in
    record {
      near = near;
      there = omega arith;
      far = omega arith;
      bytes_are = none.bytes_are;
      many = omega (arith, m);
      before = λ k h. same k h ∙ none.before k h;
      after = λ j h. elim (cases_lt j 1) [
        | inl l ↦
            let q : j ≡ 0 = omega arith in
            let p : at + j ≡ at = omega arith in
            let x = ap (λ i. get_or new_cuts i 0) p in
            let y = same at (omega arith) in
            let v = none.before at (omega arith) in
            let z : get_or (0 ∷ length text ∷ []) (0 + j) 0 ≡ 0 = ap (λ i. get_or (0 ∷ length text ∷ []) (0 + i) 0) q in
            omega (arith, x, y, v, z)
        | inr g ↦
            let q : j ≡ 1 = omega arith in
            let p : at + j ≡ at + 1 = omega arith in
            let x = ap (λ i. get_or new_cuts i 0) p in
            let z : get_or (0 ∷ length text ∷ []) (0 + j) 0 ≡ length text = ap (λ i. get_or (0 ∷ length text ∷ []) (0 + i) 0) q in
            omega (arith, x, last, is_end, size, z)
      ];
    }

-- a list that was made of two, which are known
pub joined_as : {xs front more left right : List ℕ} → xs ≡ front ++ more → front ≡ left → more ≡ right → xs ≡ left ++ right
joined_as {xs} {front} {more} {left} {right} e f g = e ∙ (ap (λ (l : List ℕ). l ++ more) f ∙ ap (λ (l : List ℕ). left ++ l) g)

-- nothing of a text came
pub with_no_text : (bytes cuts new new_cuts text : List ℕ) (at start : ℕ) → at < length cuts → start ≡ get_or cuts at start → new ≡ take start bytes → new_cuts ≡ take (at + 1) cuts
    → Spliced bytes cuts [] (0 ∷ 0 ∷ []) new new_cuts at 0 0 1
with_no_text bytes cuts new new_cuts text at start near e is_new is_cut = text_with_no_cut bytes cuts new new_cuts [] at start near e (is_new ∙ sym (append-nil (take start bytes))) is_cut

pub text_piece : (text : List ℕ) → piece text (0 ∷ length text ∷ []) (0 + 0) ≡ text
text_piece text = whole text
