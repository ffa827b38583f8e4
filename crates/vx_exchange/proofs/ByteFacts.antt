-- The program's hash of keys of one number.
use Rattle.std.proofs.Common.{◌≡◌, ℕ, ℤ, zero, suc, ◌+◌, ◌<◌, ◌≤◌, ◌/◌, ◌%◌, ◌^◌, List, [], ◌∷◌, ◌++◌, bit_and, count_ones, map, All, refl, sym, ap, ◌∙◌, arith}
use Rattle.std.specs.List.{fold}
use Rattle.std.specs.Int.{w32, w64, to_be_bytes, cast_unsigned, IsPowerOfTwo}
use Rattle.std.specs.Int.Count.{ones_step}
use Rattle.std.proofs.Math.Nat.{div-eq_of_lt}
use Rattle.std.proofs.lemmas.Nat.{and_mask, ones_le_self, zero_from_ones}
use Rattle.std.proofs.lemmas.List.{append-nil}
use Rattle.std.proofs.lemmas.List.Elements.{All-tail}
use Rattle.std.proofs.lemmas.List.Sums.{fold-append}
use Rattle.vx_rows_values.specs.Values.{num}
use Rattle.vx_plan_nodes.specs.ByteRouter.{hash_byte, key_hash, byte_route}

-- from the hash of the name and 0, and then 1 for a number
pub number-hash : (name : List ℕ) (z : ℤ) (named start hash : ℕ) → named ≡ fold hash_byte 7 (name ++ 0 ∷ []) → start ≡ hash_byte named 1
    → hash ≡ fold hash_byte start (to_be_bytes w64 (cast_unsigned w64 z)) → hash ≡ key_hash name (num z ∷ [])
number-hash name z named start hash is first h =
    let bytes = to_be_bytes w64 (cast_unsigned w64 z) in
    let all : key_hash name (num z ∷ []) ≡ fold hash_byte (fold hash_byte 7 (name ++ 0 ∷ [])) (1 ∷ bytes) =
    ap (λ l. fold hash_byte 7 ((name ++ 0 ∷ []) ++ 1 ∷ l)) (append-nil bytes) ∙ fold-append hash_byte 7 (name ++ 0 ∷ []) (1 ∷ bytes) in
    h ∙ (ap (λ s. fold hash_byte s bytes) (first ∙ ap (λ s. hash_byte s 1) is) ∙ sym all)

-- the hash after the eight bytes of a number below 2^32, of which the first four are 0
pub small-hash : (start after x hash : ℕ) → x < 2 ^ 32 → after ≡ fold hash_byte start (0 ∷ 0 ∷ 0 ∷ 0 ∷ []) → hash ≡ fold hash_byte after (to_be_bytes w32 x) → hash ≡ fold hash_byte start (to_be_bytes w64 x)
small-hash start after x hash small is h =
    let none = λ (k : ℕ) (far : 2 ^ 32 ≤ k). ap (λ q. q % 256) (div-eq_of_lt {n = x} {m = k} (omega (arith, small, far))) in
    let a : x / 2 ^ 56 % 256 ≡ 0 = none (2 ^ 56) (omega arith) in
    let b : x / 2 ^ 48 % 256 ≡ 0 = none (2 ^ 48) (omega arith) in
    let d : x / 2 ^ 40 % 256 ≡ 0 = none (2 ^ 40) (omega arith) in
    let e : x / 2 ^ 32 % 256 ≡ 0 = none (2 ^ 32) (omega arith) in
    h ∙ ap (λ s. fold hash_byte s (to_be_bytes w32 x)) (is ∙ sym (λ i. hash_byte (hash_byte (hash_byte (hash_byte start (a i)) (b i)) (d i)) (e i)))

-- a number with one bit set is a power of two
power-step : (r n : ℕ) → n % 2 ≡ r → count_ones n ≡ 1 → (count_ones (n / 2) ≡ 1 → IsPowerOfTwo (n / 2)) → IsPowerOfTwo n
power-step zero n is one half = let k = half (omega (arith, one, is, ones_step n)) in (suc k.0, omega (arith, is, k.1))
power-step (suc r) n is one half = let none : count_ones (n / 2) ≡ 0 = omega (arith, one, is, ones_step n) in (0, omega (arith, is, one, ones_step n, none, zero_from_ones (n / 2) none))

power-below : (d n : ℕ) → n ≤ d → count_ones n ≡ 1 → IsPowerOfTwo n
power-below zero n small one = absurd (omega (arith, small, one, ones_le_self n))
power-below (suc d) n small one = power-step (n % 2) n refl one (λ h. power-below d (n / 2) (omega (arith, small)) h)

pub power-one-bit : (n : ℕ) → count_ones n ≡ 1 → IsPowerOfTwo n
power-one-bit n one = power-below n n (omega arith) one

-- what a mask of low bits keeps
pub masked : (x mask : ℕ) → IsPowerOfTwo (mask + 1) → bit_and x mask ≡ x % (mask + 1)
masked x mask p = ap (bit_and x) (omega (arith, p.1)) ∙ (and_mask x p.0 ∙ ap (λ n. x % n) (sym p.1))

-- what two functions make of numbers at which they are alike
pub map-alike : (f g : ℤ → ℕ) (keys : List ℤ) → All (λ z. f z ≡ g z) keys → map f keys ≡ map g keys
map-alike f g [] alike = refl
map-alike f g (z ∷ zs) alike = λ i. alike zero z (omega arith) i ∷ map-alike f g zs (All-tail (λ z. f z ≡ g z) z zs alike) i

-- the consumer of a number below 2^32 by its last four bytes
pub small-route : (name : List ℕ) (z : ℤ) (named start zeros count n : ℕ) → named ≡ fold hash_byte 7 (name ++ 0 ∷ []) → start ≡ hash_byte named 1
    → zeros ≡ fold hash_byte start (0 ∷ 0 ∷ 0 ∷ 0 ∷ []) → count ≡ n → cast_unsigned w64 z < 2 ^ 32
    → fold hash_byte zeros (to_be_bytes w32 (cast_unsigned w64 z)) % count ≡ byte_route name (num z ∷ []) n
small-route name z named start zeros count n is first after same small =
    let x = cast_unsigned w64 z in
    let hash = fold hash_byte zeros (to_be_bytes w32 x) in
    let all : hash ≡ key_hash name (num z ∷ []) = number-hash name z named start hash is first (small-hash start zeros x hash small after refl) in
    λ j. all j % same j
