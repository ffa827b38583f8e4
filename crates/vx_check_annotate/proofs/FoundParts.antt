-- The parts that are placed in an accepted plan give those that it claims, where all rows are not on one worker.
use Rattle.std.proofs.Common.{◌≡◌, ℕ, Bool, true, false, cond, not, ◌&&◌, ◌||◌, ◌⊎◌, inl, inr, List, [], ◌∷◌, take, refl, sym, ◌∙◌, subst}
use Rattle.std.specs.List.{list_all}
use Rattle.vx_rows_values.specs.declared.order.OrderEntry.{OrderEntry}
use Rattle.vx_rows_values.proofs.Booleans.{and-left, and-right}
use Rattle.vx_catalog_relations.specs.Relation.{Relation}
use Rattle.vx_catalog_relations.specs.Catalog.{relation_at}
use Rattle.vx_plan_nodes.specs.Plan.{Part, one, any, all, routed, Claim, Plan, scan, unary, binary, exchange, claim, size, is_one}
use Rattle.vx_plan_nodes.specs.Typed.{Scope, typed}
use Rattle.vx_check_rules.specs.Rules.{part_gives, sizes_match, not_replicated, inputs_match, order_given, first_rows_known, unless_one, shows, part_shown, allowed_here, allowed}
use Rattle.vx_check_rules.proofs.Bools.{or-false}
use Rattle.vx_check_options.specs.Options.{same_part, told_parts, no_input, parts_at}
use Rattle.vx_check_options.specs.Laws.{keeps_part, Keeps, is_told, is_option}
use Rattle.vx_check_options.specs.Claimed.{note, IsClaimed}
use Rattle.vx_check_options.proofs.Telling.{any-both}
use Rattle.vx_check_options.proofs.Alike.{one_or, replicated, options-alike}
use Rattle.vx_check_options.proofs.OnlyOptions.{only-options}
use Rattle.vx_check_options.proofs.ClaimedKeeps.{plan-itself}
use Rattle.vx_check_options.proofs.ChosenParts.{part-is, parts_below-options, part_sent-option}
use Rattle.vx_check_annotate.proofs.FoundTells.{TellsPart, TellsParts}

-- ---- a node

-- a part that tells that each row is somewhere is not all
no-copies : (b : Bool) (x : Part) → one_or b x ≡ true → part_gives x any ≡ true → not b ≡ true
no-copies b one h k = cc
no-copies b any h k = h
no-copies b all h k = cc
no-copies b (routed r cols) h k = h

-- where the options are not all, each tells that, or is that of one worker
gives-any : (b : Bool) (q : Part) → one_or b q ≡ true → not b ≡ true → (q ≡ one) ⊎ (part_gives q any ≡ true)
gives-any b one h k = inl refl
gives-any b any h k = inr refl
gives-any true all h k = cc
gives-any false all h k = cc
gives-any b (routed r cols) h k = inr refl

-- an option is of the kind that all options are of
option-kind : (b : Bool) (parts : List Part) (q : Part) → list_all (one_or b) parts ≡ true → is_option parts q ≡ true → is_told parts any ≡ true → one_or b q ≡ true
option-kind b [] q h o t = cc
option-kind b (x ∷ xs) q h o t = any-both (one_or b) (same_part q) (x ∷ xs) h o (λ y i j. subst (λ v. one_or b v ≡ true) (sym (part-is q y j)) i)

-- by the claimed part: one is claimed on one worker alone, any beside options that are not all, and the others are kept as they are
node-tells : (c q : Part) (parts : List Part) (several b : Bool) → keeps_part c q ≡ true → list_all (one_or b) parts ≡ true → is_option parts q ≡ true → (several || is_told parts c) ≡ true
    → (c ≡ one → several ≡ true) → (several ≡ true → q ≡ one) → (q ≡ one) ⊎ (part_gives q c ≡ true)
node-tells c q parts true b h l o t g f = inl (f refl)
node-tells one q parts false b h l o t g f = let e : false ≡ true = g refl in cc
node-tells any q parts false b h l o t g f =
    gives-any b q (option-kind b parts q l o t) (any-both (one_or b) (λ x. part_gives x any) parts l t (λ x i j. no-copies b x i j))
node-tells all one parts false b h l o t g f = inl refl
node-tells all any parts false b h l o t g f = inr h
node-tells all all parts false b h l o t g f = inr h
node-tells all (routed s ds) parts false b h l o t g f = inr h
node-tells (routed r cols) one parts false b h l o t g f = inl refl
node-tells (routed r cols) any parts false b h l o t g f = inr h
node-tells (routed r cols) all parts false b h l o t g f = inr h
node-tells (routed r cols) (routed s ds) parts false b h l o t g f = inr h

-- one worker has one option
alone : (b : Bool) (qs : List Part) (q : Part) → is_option (take 64 (cond b (one ∷ []) qs)) q ≡ true → b ≡ true → q ≡ one
alone true qs q h e = part-is q one (sym (or-false (same_part q one)) ∙ h)
alone false qs q h e = cc

option-alone : (catalog : ℕ → Relation) (p : Plan) (q : Part) → is_option (parts_at catalog p) q ≡ true → is_one (size p) ≡ true → q ≡ one
option-alone catalog (scan n c r m z) q h e = alone (is_one z) (told_parts catalog (scan n c r m z) c.part no_input no_input) q h e
option-alone catalog (unary n c op p) q h e = alone (is_one (size p)) (told_parts catalog (unary n c op p) c.part (parts_at catalog p) no_input) q h e
option-alone catalog (binary n c op p p2) q h e = alone (is_one (size p)) (told_parts catalog (binary n c op p p2) c.part (parts_at catalog p) (parts_at catalog p2)) q h e
option-alone catalog (exchange n c k m p) q h e = alone (is_one (size (exchange n c k m p))) (told_parts catalog (exchange n c k m p) c.part no_input no_input) q h e

-- the part of one worker is not shown on several
lone : (b : Bool) (f : Part → Bool) (c : Part) → (b || unless_one f c) ≡ true → c ≡ one → b ≡ true
lone true f c h e = refl
lone false f c h e = subst (λ x. unless_one f x ≡ true) e h

shown-alone : (catalog : ℕ → Relation) (p : Plan) → allowed_here catalog p ≡ true → (claim p).part ≡ one → is_one (size p) ≡ true
shown-alone catalog p h e =
    lone (is_one (size p)) (shows catalog p) (claim p).part
    (and-left (part_shown catalog p) _
    (and-right (first_rows_known catalog p) _ (and-right (order_given p) _ (and-right (inputs_match p) _ (and-right (not_replicated p) _ (and-right (sizes_match p) _ h)))))) e

-- at a node of an accepted plan
part-here : (s : Scope) (p : Plan) (q : Part) → typed s p ≡ true → allowed (relation_at s.catalog) p ≡ true → allowed_here (relation_at s.catalog) p ≡ true
    → keeps_part (claim p).part q ≡ true → is_option (parts_at (relation_at s.catalog) p) q ≡ true → (q ≡ one) ⊎ (part_gives q (claim p).part ≡ true)
part-here s p q t ok here h o =
    let catalog : ℕ → Relation = relation_at s.catalog in
    node-tells (claim p).part q (parts_at catalog p) (is_one (size p)) (replicated p) h (options-alike catalog p) o (only-options s p p (plan-itself p) (inr refl) t ok).1
    (shown-alone catalog p here) (option-alone catalog p q o)

-- ---- plans

-- where a plan is accepted, what is placed in it gives the parts that it claims
pub found-parts : (s : Scope) (p : Plan) (q : Part) (order : List OrderEntry) (x : Plan) → typed s p ≡ true → allowed (relation_at s.catalog) p ≡ true
    → is_option (parts_at (relation_at s.catalog) p) q ≡ true → IsClaimed (relation_at s.catalog) p q order x → Keeps p x → TellsParts p x
found-parts s (scan n c r m z) q order x t ok o f k =
    let same : k.0 ≡ note q order f.0 = cc (k.1, f.1) in
    subst (λ (y : Plan). TellsPart c (claim y)) (sym f.1) (part-here s (scan n c r m z) q t ok ok (subst (λ (d : Claim). keeps_part c.part d.part ≡ true) same k.2.0) o)
found-parts s (unary n c op p) q order x t ok o f k =
    let catalog : ℕ → Relation = relation_at s.catalog in
    let node : Plan = unary n c op p in
    let same : k.0 ≡ note q order f.0 = cc (k.2, f.2) in
    let below : k.1 ≡ f.1 = cc (k.2, f.2) in (
      note q order f.0,
      f.1,
      f.2,
      part-here s node q t ok (and-right (allowed catalog p) (allowed_here catalog node) ok) (subst (λ (d : Claim). keeps_part c.part d.part ≡ true) same k.3.0) o,
      found-parts s p _ _ f.1 (and-left (typed s p) _ t) (and-left (allowed catalog p) (allowed_here catalog node) ok) (parts_below-options catalog node q (parts_at catalog p) no_input).0 f.3
          (subst (λ y. Keeps p y) below k.4),
    )
found-parts s (binary n c op p p2) q order x t ok o f k =
    let catalog : ℕ → Relation = relation_at s.catalog in
    let node : Plan = binary n c op p p2 in
    let same : k.0 ≡ note q order f.0 = cc (k.3, f.3) in
    let left : k.1 ≡ f.1 = cc (k.3, f.3) in
    let right : k.2 ≡ f.2 = cc (k.3, f.3) in
    let ok2 = and-right (allowed catalog p) (allowed catalog p2 && allowed_here catalog node) ok in
    let options = parts_below-options catalog node q (parts_at catalog p) (parts_at catalog p2) in (
      note q order f.0,
      f.1,
      f.2,
      f.3,
      part-here s node q t ok (and-right (allowed catalog p2) (allowed_here catalog node) ok2) (subst (λ (d : Claim). keeps_part c.part d.part ≡ true) same k.4.0) o,
      found-parts s p _ _ f.1 (and-left (typed s p) _ t) (and-left (allowed catalog p) (allowed catalog p2 && allowed_here catalog node) ok) options.0 f.4 (subst (λ y. Keeps p y) left k.5),
      found-parts s p2 _ _ f.2 (and-left (typed s p2) _ (and-right (typed s p) _ t)) (and-left (allowed catalog p2) (allowed_here catalog node) ok2) options.1 f.5 (subst (λ y. Keeps p2 y) right k.6),
    )
found-parts s (exchange n c kind m p) q order x t ok o f k =
    let catalog : ℕ → Relation = relation_at s.catalog in
    let node : Plan = exchange n c kind m p in
    let same : k.0 ≡ note q order f.0 = cc (k.2, f.2) in
    let below : k.1 ≡ f.1 = cc (k.2, f.2) in (
      note q order f.0,
      f.1,
      f.2,
      part-here s node q t ok (and-right (allowed catalog p) (allowed_here catalog node) ok) (subst (λ (d : Claim). keeps_part c.part d.part ≡ true) same k.3.0) o,
      found-parts s p _ _ f.1 (and-left (typed s p) _ t) (and-left (allowed catalog p) (allowed_here catalog node) ok) (part_sent-option kind order (parts_at catalog p)) f.3
          (subst (λ y. Keeps p y) below k.4),
    )
