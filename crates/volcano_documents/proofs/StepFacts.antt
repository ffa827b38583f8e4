-- A value that steps lead to nests no deeper than the one that they begin at.
use Rattle.std.proofs.Common.{◌≡◌, ℕ, ◌≤◌, List, [], ◌∷◌, Option, Some, None, option_and_then, Ordering, Less, Equal, Greater, arith, suc, zero}
use Rattle.std.specs.Prelude.{⊤}
use Rattle.std.specs.Ordering.{match_ordering}
use Rattle.serde_json.specs.Data.{Data, null, boolean, number, string, array, object, Items, no_items, item, Members, no_members, member, depth, items_depth, members_depth}
use Rattle.serde_json.specs.Find.{get, at, get_member, get_item}
use Rattle.volcano_documents.specs.declared.steps.Step.{Step}
use Rattle.volcano_documents.specs.declared.steps.Step.TheVariants.{Member, Item}
use Rattle.volcano_documents.specs.Steps.{step_value, value_at}

abbrev IsWithin : ℕ → Option Data → Type 0
IsWithin n None = ⊤
IsWithin n (Some d) = depth d ≤ n

within-match_ordering : (o : Ordering) (n : ℕ) (a b c : Option Data) → IsWithin n a → IsWithin n b → IsWithin n c → IsWithin n (match_ordering o a b c)
within-match_ordering Less n a b c p q r = p
within-match_ordering Equal n a b c p q r = q
within-match_ordering Greater n a b c p q r = r

within-get_member : (k : List ℕ) (ms : Members) (n : ℕ) → members_depth ms ≤ n → IsWithin n (get_member k ms)
within-get_member k no_members n h = tt
within-get_member k (member l e ms) n h =
    let e_within : depth e ≤ n = omega arith in
    let rest_within : IsWithin n (get_member k ms) = within-get_member k ms n (omega arith) in
    within-match_ordering _ n (get_member k ms) (Some e) (get_member k ms) rest_within e_within rest_within

within-get_item : (i : ℕ) (ds : Items) (n : ℕ) → items_depth ds ≤ n → IsWithin n (get_item i ds)
within-get_item i no_items n h = tt
within-get_item zero (item d ds) n h = omega arith
within-get_item (suc i) (item d ds) n h = within-get_item i ds n (omega arith)

within-get : (k : List ℕ) (d : Data) (n : ℕ) → depth d ≤ n → IsWithin n (get k d)
within-get k null n h = tt
within-get k (boolean b) n h = tt
within-get k (number m) n h = tt
within-get k (string s) n h = tt
within-get k (array ds) n h = tt
within-get k (object ms) n h = within-get_member k ms n (omega arith)

within-at : (i : ℕ) (d : Data) (n : ℕ) → depth d ≤ n → IsWithin n (at i d)
within-at i null n h = tt
within-at i (boolean b) n h = tt
within-at i (number m) n h = tt
within-at i (string s) n h = tt
within-at i (array ds) n h = within-get_item i ds n (omega arith)
within-at i (object ms) n h = tt

within-step_value : (step : Step) (d : Data) (n : ℕ) → depth d ≤ n → IsWithin n (step_value step d)
within-step_value (Member name) d n h = within-get name.now d n h
within-step_value (Item i) d n h = within-at i d n h

within-and_then : (n : ℕ) (f : Data → Option Data) → ((d : Data) → depth d ≤ n → IsWithin n (f d)) → (o : Option Data) → IsWithin n o → IsWithin n (option_and_then f o)
within-and_then n f k None h = tt
within-and_then n f k (Some d) h = k d h

within-value_at : (steps : List Step) (d : Data) (n : ℕ) → depth d ≤ n → IsWithin n (value_at steps d)
within-value_at [] d n h = h
within-value_at (step ∷ steps) d n h =
    within-and_then n (value_at steps) (λ e k. within-value_at steps e n k) (step_value step d) (within-step_value step d n h)

within_some : (o : Option Data) (e : Data) (n : ℕ) → o ≡ Some e → IsWithin n o → depth e ≤ n
within_some None e n p h = cc
within_some (Some d) e n p h = let q : d ≡ e = cc in rw (← q) h

pub depth_of_value : (steps : List Step) (d e : Data) (n : ℕ) → value_at steps d ≡ Some e → depth d ≤ n → depth e ≤ n
depth_of_value steps d e n p h = within_some (value_at steps d) e n p (within-value_at steps d n h)
