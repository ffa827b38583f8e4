-- Laws on prefixes of rows and of packets, for those that a trait asks for.
use Rattle.std.specs.Prelude.{◌≡◌, ℕ, List, [], ◌∷◌, ◌++◌, length, map, take, drop}
use Rattle.std.proofs.Common.{refl, sym, ap, ◌∙◌, append_assoc}
use Rattle.std.proofs.lemmas.List.{take-map, take-append-drop}
use Rattle.std.proofs.Math.Seq.{take-append_seam}
use Rattle.vx_rows_values.specs.Values.{Row}
use Rattle.vx_rows.specs.Lists.{IsBeginning}
use Rattle.vx_exchange_ends.specs.Ship.{end_to_end}

-- a prefix of a prefix
pub begins-along : {X : Type 0} (xs ys zs : List X) → IsBeginning xs ys → IsBeginning ys zs → IsBeginning xs zs
begins-along xs ys zs a b = record { rest = a.rest ++ b.rest; joined = sym (append_assoc xs a.rest b.rest) ∙ ap (λ us. us ++ b.rest) a.joined ∙ b.joined }

-- a prefix of what is made one by one is made of the first
pub mapped-take : {X Y : Type 0} (f : X → Y) (xs : List X) (front rest : List Y) → front ++ rest ≡ map f xs → map f (take (length front) xs) ≡ front
mapped-take f xs front rest e = sym (take-map f (length front) xs) ∙ ap (take (length front)) (sym e) ∙ take-append_seam front rest

-- two lists of parts
pub end_to_end-append : (ps qs : List (List Row)) → end_to_end (ps ++ qs) ≡ end_to_end ps ++ end_to_end qs
end_to_end-append [] qs = refl
end_to_end-append (p ∷ ps) qs = ap (λ ys. p ++ ys) (end_to_end-append ps qs) ∙ sym (append_assoc p (end_to_end ps) (end_to_end qs))

-- the first parts begin the rows of all parts
pub begins-take : (n : ℕ) (parts : List (List Row)) → IsBeginning (end_to_end (take n parts)) (end_to_end parts)
begins-take n parts = record { rest = end_to_end (drop n parts); joined = sym (end_to_end-append (take n parts) (drop n parts)) ∙ ap end_to_end (take-append-drop n parts) }
