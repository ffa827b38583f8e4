-- A remainder by two products, with no division.
use Rattle.std.proofs.Common.{◌≡◌, ℕ, ◌+◌, ◌-◌, ◌*◌, ◌/◌, ◌%◌, ◌<◌, ◌≤◌, sym, ap, ◌∙◌, arith}
use Rattle.std.proofs.lemmas.Nat.{div-mul-add, mod-mul-add, mul-add-lt, mul-lt, mul-mod_first, div-add-mod'}
use Rattle.std.proofs.Math.Nat.{lt_of_mul-lt-mul_right}

-- w through n, rounded up, times n is w and less than n more
rounded : (w n : ℕ) → 0 < w → 0 < n → ((w - 1) / n + 1) * n ≡ w + (n - 1 - (w - 1) % n)
rounded w n large some = omega (arith, div-add-mod' (w - 1) n)

-- with m for that: m times a number is the quotient times w, and a rest
split : (w m n e q r : ℕ) → m * n ≡ w + e → m * (q * n + r) ≡ q * w + (q * e + m * r)
split w m n e q r is = let more : q * (m * n) ≡ q * (w + e) = ap (λ z. q * z) is in omega (arith, more)

-- n times the rest is the remainder times w, and a rest again
again : (w m n e q r : ℕ) → m * n ≡ w + e → (q * e + m * r) * n ≡ r * w + e * (q * n + r)
again w m n e q r is = let more : r * (m * n) ≡ r * (w + e) = ap (λ z. r * z) is in omega (arith, more)

-- so the first rest is below w
small : (w t n r s : ℕ) → t * n ≡ r * w + s → s < w → r < n → t < w
small w t n r s is below near =
    let more : r * w + s < n * w = omega (arith, mul-add-lt r w s n near below) in
    lt_of_mul-lt-mul_right n (omega (arith, more))

-- so the two products give the remainder
pub remainder-found : (b w n x scale : ℕ) → b * b ≡ w → 0 < n → n ≤ b → x < b → scale ≡ ((w - 1) / n + 1) % w → scale * x % w * n / w ≡ x % n
remainder-found b w n x scale square some fits below is =
    let m = (w - 1) / n + 1 in
    let e = n - 1 - (w - 1) % n in
    let q = x / n in
    let r = x % n in
    let parts : q * n + r ≡ x = div-add-mod' x n in
    let less : e * x < b * b = mul-lt e x b b (omega arith) below in
    let close : m * n ≡ w + e = rounded w n (omega arith) some in
    let t = q * e + m * r in
    let one : m * x ≡ q * w + t = ap (λ z. m * z) (sym parts) ∙ split w m n e q r close in
    let two : t * n ≡ r * w + e * x = again w m n e q r close ∙ ap (λ z. r * w + e * z) parts in
    let room : t < w = small w t n r (e * x) two (omega arith) (omega arith) in
    let low : scale * x % w ≡ t = ap (λ z. z * x % w) is ∙ (mul-mod_first m x w ∙ (ap (λ z. z % w) one ∙ mod-mul-add q w t room)) in
    ap (λ z. z * n / w) low ∙ (ap (λ z. z / w) two ∙ div-mul-add r w (e * x) (omega arith))
