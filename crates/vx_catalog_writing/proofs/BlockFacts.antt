-- The lines of blocks that follow one another.
use Rattle.std.proofs.Common.{◌≡◌, ℕ, suc, ◌+◌, ◌<◌, ◌≤◌, List, [], ◌∷◌, ◌++◌, Option, Some, None, Result, Ok, Err, true, refl, sym, ap, subst, ◌∙◌, arith, append_assoc, append-nil, length, take, take_all, drop, get_or, flat_map, All, IfSome, IfOk}
use Rattle.std.specs.Prelude.{slice_range}
use Rattle.std.specs.Io.KnownBytes.{Appends}
use Rattle.std.specs.Option.{is_some}
use Rattle.std.proofs.lemmas.Bool.{false≢true}
use Rattle.std.proofs.lemmas.Grind.{flat_map-append}
use Rattle.std.proofs.lemmas.List.{drop_all, take_more}
use Rattle.std.proofs.lemmas.List.Elements.{All-cons, All-head, All-same, All-tail}
use Rattle.csv.specs.Writing.{row_text, default_writer}
use Rattle.vx_rows_values.specs.Values.{Row}
use Rattle.vx_rows_views.proofs.Whole.{take-range}
use Rattle.vx_catalog_bytes.proofs.PortFacts.{appends_more}
use Rattle.vx_catalog.specs.Csv.{csv_text, line_text}
use Rattle.vx_catalog_writing.specs.Text.{TextView}
use Rattle.vx_catalog_writing.specs.Blocks.{lines_text, rows_of_blocks, made_lines, lines_in, IsMade, HaveLines}
use Rattle.vx_catalog_writing.specs.declared.blocks.Block.{Block}

-- one block more
pub block_more : (blocks : List Block) (block : Block) (rows : List Row) (from to : ℕ) → from ≤ to → to ≤ length rows
    → rows_of_blocks blocks ≡ take from rows → block.rows.rows ≡ slice_range rows from to → rows_of_blocks (blocks ++ block ∷ []) ≡ take to rows
block_more blocks block rows from to order there so_far here =
    flat_map-append (λ b. b.rows.rows) blocks (block ∷ [])
    ∙ (ap (λ l. rows_of_blocks blocks ++ l) (append-nil block.rows.rows ∙ here)
    ∙ (ap (λ l. l ++ slice_range rows from to) so_far ∙ sym (take-range rows from to order there)))

-- the lines of the next block
pub lines_more : (left rest : List Block) (block : Block) (lines all now : List ℕ) → left ≡ block ∷ rest → block.lines ≡ Some lines → all ≡ now ++ flat_map lines_in left
    → all ≡ (now ++ lines) ++ flat_map lines_in rest
lines_more left rest block lines all now next is so_far =
    let there : flat_map lines_in left ≡ lines ++ flat_map lines_in rest = ap (flat_map lines_in) next ∙ ap (λ l. l ++ flat_map lines_in rest) (ap made_lines is) in
    so_far ∙ (ap (λ l. now ++ l) there ∙ sym (append_assoc now lines (flat_map lines_in rest)))

-- and they were made
pub made_more : (left rest : List Block) (block : Block) (lines : List ℕ) → left ≡ block ∷ rest → block.lines ≡ Some lines → All IsMade rest → All IsMade left
made_more left rest block lines next is made = All-same IsMade left (block ∷ rest) next (All-cons IsMade block rest (ap is_some is) made)

-- lines that were made are the right ones
made_right : (made : Option (List ℕ)) (lines : List ℕ) → is_some made ≡ true → IfSome made (λ l. l ≡ lines) → made_lines made ≡ lines
made_right None lines there right = absurd (false≢true there)
made_right (Some l) lines there right = right

-- the lines of all blocks
all_lines : (before after : List Block) → length after ≡ length before → HaveLines before after → All IsMade after → flat_map lines_in after ≡ lines_text (rows_of_blocks before)
all_lines [] [] many have made = refl
all_lines [] (a ∷ rest) many have made = absurd (omega (arith, many))
all_lines (b ∷ bs) [] many have made = absurd (omega (arith, many))
all_lines (b ∷ bs) (a ∷ rest) many have made =
    let here : lines_in a ≡ lines_text b.rows.rows = made_right a.lines (lines_text b.rows.rows) (All-head IsMade a rest made) (have 0 a (omega arith)) in
    let more = all_lines bs rest (omega (arith, many)) (λ i d near. have (suc i) d (omega (arith, near))) (All-tail IsMade a rest made) in
    ap (λ l. l ++ flat_map lines_in rest) here
    ∙ (ap (λ l. lines_text b.rows.rows ++ l) more ∙ sym (flat_map-append line_text b.rows.rows (rows_of_blocks bs)))

-- a slice of a whole `Vec` is written back whole
written_back : {X : Type 0} (n : ℕ) (old new : List X) → n ≡ length old → length new ≡ length old → take n (new ++ drop (length new) old) ≡ new
written_back n old new e many =
    ap (λ rest. take n (new ++ rest)) (drop_all (length new) old (omega (arith, many))) ∙ (ap (take n) (append-nil new) ∙ take_all n new (omega (arith, e, many)))

-- the whole text
whole_text : {E : Type 0} (names : List (List ℕ)) (rows : List Row) (header : List ℕ) (text : Result TextView E) (before after : List Block) → header ≡ csv_text names [] → rows_of_blocks before ≡ rows
    → length after ≡ length before → HaveLines before after → IfOk text (λ _. All IsMade after) → IfOk text (λ t. t.items ≡ header ++ flat_map lines_in after)
    → IfOk text (λ t. t.items ≡ csv_text names rows)
whole_text names rows header (Err e) before after top cut many have made is = tt
whole_text names rows header (Ok t) before after top cut many have made is =
    is
    ∙ (ap (λ h. h ++ flat_map lines_in after) (top ∙ append-nil (row_text default_writer names))
    ∙ ap (λ l. row_text default_writer names ++ l) (all_lines before after many have made ∙ ap lines_text cut))

-- the same, with the blocks as threads left what was lent to them of all `n`
pub lent_text : {E : Type 0} (names : List (List ℕ)) (rows : List Row) (header : List ℕ) (text : Result TextView E) (n : ℕ) (blocks given after : List Block) → given ≡ blocks → n ≡ length blocks
    → header ≡ csv_text names [] → rows_of_blocks blocks ≡ rows → length after ≡ length given → HaveLines given after → IfOk text (λ _. All IsMade (take n (after ++ drop (length after) blocks)))
    → IfOk text (λ t. t.items ≡ header ++ flat_map lines_in (take n (after ++ drop (length after) blocks))) → IfOk text (λ t. t.items ≡ csv_text names rows)
lent_text names rows header text n blocks given after lent len top cut many have made is =
    let same : length after ≡ length blocks = many ∙ ap length lent in
    let back = written_back n blocks after len same in
    whole_text names rows header text blocks after top cut same (subst (λ bs. HaveLines bs after) lent have) (subst (λ bs. IfOk text (λ _. All IsMade bs)) back made)
    (subst (λ bs. IfOk text (λ t. t.items ≡ header ++ flat_map lines_in bs)) back is)

-- one text more was written
pub wrote_more : (a b c : Option (List ℕ)) (texts : List (List ℕ)) (i : ℕ) (text d : List ℕ) → i < length texts → text ≡ get_or texts i d → Appends a b (flat_map (λ t. t) (take i texts))
    → Appends b c text → Appends a c (flat_map (λ t. t) (take (i + 1) texts))
wrote_more a b c texts i text d near at before now =
    let more : flat_map (λ t. t) (take (i + 1) texts) ≡ flat_map (λ t. t) (take i texts) ++ text =
    ap (flat_map (λ t. t)) (take_more texts i d near)
    ∙ (flat_map-append (λ t. t) (take i texts) (get_or texts i d ∷ []) ∙ ap (λ t. flat_map (λ t. t) (take i texts) ++ t) (append-nil (get_or texts i d) ∙ sym at)) in
    subst (Appends a c) (sym more) (appends_more a b c (flat_map (λ t. t) (take i texts)) text before now)
