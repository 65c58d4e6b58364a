-- Pages of runs that differ in values alone have the same markup.
use Rattle.std.proofs.Common.{◌≡◌, ◌∙◌, ◌++◌, ◌∷◌, [], ℕ, ◌+◌, ◌-◌, ◌%◌, List, ap, length, refl}
use Rattle.std.proofs.Common.{subst, sym}
use Rattle.std.specs.Prelude.{ℤ, ◌==◌, ◌&&◌, decimal, if◌then◌else◌, min, nat_le, nat_lt, string_bytes}
use Rattle.std.specs.Fmt.{signed_decimal}
use Rattle.std.specs.List.{flat_map}
use Rattle.kx_page.specs.Alike.{AreAlike, DifferInValues, IsLikeArrow, IsLikeBatch, IsLikeLane}
use Rattle.kx_page.specs.Alike.{IsLikeLog, IsLikeStep}
use Rattle.kx_page.specs.Drawing.{about, arrow_end, arrow_head, arrow_in, arrow_line, arrows_in}
use Rattle.kx_page.specs.Drawing.{between, class_of, image, lane_line, lane_lines, lane_name}
use Rattle.kx_page.specs.Drawing.{lane_names, link_head, numbered, shape, shown, stable, step_of}
use Rattle.kx_page.specs.Drawing.{steps_in, title, waiting, words_at}
use Rattle.kx_page.specs.Page.{batch_in, batch_of, batches_of, diagram_head, diagram_of, head_of}
use Rattle.kx_page.specs.Page.{log_head, log_of, logs_of, names_of, page_of, part_at, part_head}
use Rattle.kx_page.specs.Page.{part_of, parts_of, row_of, rows_in, rule_of, table_at, tail_of}
use Rattle.kx_page.specs.Pieces.{escaped, filled, fixed, markup_of}
use Rattle.kx_page.specs.Places.{down, halfway, x_of, y_of}
use Rattle.kx_page.specs.declared.document.TheConstants.{ABOVE, AROUND, PART}
use Rattle.kx_page.specs.declared.places.TheConstants.{CENTRE, MIDDLE, NAME, NAMES, WORDS}
use Rattle.kx_page.specs.declared.rules.TheConstants.{RULES}
use Rattle.kx_page.specs.declared.run.Arrow.{Arrow}
use Rattle.kx_page.specs.declared.run.Lane.{Lane}
use Rattle.kx_page.specs.declared.run.Log.{Log}
use Rattle.kx_page.specs.declared.run.LoggedBatch.{LoggedBatch}
use Rattle.kx_page.specs.declared.run.Run.{Run}
use Rattle.kx_page.specs.declared.run.Step.{Step}
use Rattle.kx_page.specs.declared.script.TheConstants.{SCRIPT}
use Rattle.kx_page.specs.declared.style.TheConstants.{DIAGRAM, PAGE, TIPS}
use Rattle.kx_page.specs.declared.texts.TheConstants.{ARROW, BATCH, DIAGRAM_HEAD, DIAGRAM_NAMES_END}
use Rattle.kx_page.specs.declared.texts.TheConstants.{END, FORM, HEAD, IMAGE_END, LANE_NAME}
use Rattle.kx_page.specs.declared.texts.TheConstants.{LIST_HEAD, LOG_END, LOG_HEAD, LOGS, NAMES_END}
use Rattle.kx_page.specs.declared.texts.TheConstants.{NAMES_HEAD, PART_END, PART_HEAD, ROW_END}
use Rattle.kx_page.specs.declared.texts.TheConstants.{ROW_HEAD, STEP_ROW, STEP_TITLE}
use Rattle.kx_page.proofs.Alike.{Numbered, alike_drop, alike_flat, alike_numbered, alike_take}
use Rattle.kx_page.proofs.Alike.{as_long, both, fifth_and_eighth, first_of_five, first_value}
use Rattle.kx_page.proofs.Alike.{if_alike, last_value, third_value, three_values, titles, two_values}

-- an item after its number
abbrev at_numbers : {X : Type 0} → (ℕ → X → List ℕ) → ℕ × X → List ℕ
at_numbers f p = f p.0 p.1

-- the items of two lists, each after its number
numbered_alike : {X : Type 0} (IsLike : X → X → Type 0) (f g : ℕ → X → List ℕ)
    → ((n : ℕ) (x y : X) → IsLike x y → markup_of (f n x) ≡ markup_of (g n y))
    → (xs ys : List (ℕ × X)) → AreAlike (Numbered IsLike) xs ys
    → markup_of (flat_map (at_numbers f) xs) ≡ markup_of (flat_map (at_numbers g) ys)
numbered_alike {X} IsLike f g each xs ys are =
    alike_flat (Numbered IsLike) (at_numbers f) (at_numbers g)
    (λ p q like. each p.0 p.1 q.1 like.1 ∙ ap (λ (n : ℕ). markup_of (g n q.1)) like.0) xs ys are

lane_name_alike : (n : ℕ) (one other : Lane)
    → markup_of (lane_name n one) ≡ markup_of (lane_name n other)
lane_name_alike n one other =
    last_value LANE_NAME.now (decimal (x_of n MIDDLE)) (string_bytes one.name)
    (string_bytes other.name)

lane_names_alike : (one other : List Lane) → AreAlike IsLikeLane one other
    → markup_of (lane_names one) ≡ markup_of (lane_names other)
lane_names_alike one other are =
    numbered_alike IsLikeLane lane_name lane_name (λ n x y like. lane_name_alike n x y)
    (numbered one) (numbered other) (alike_numbered IsLikeLane 0 one other are)

lane_lines_alike : (first end : ℕ) (one other : List Lane) → AreAlike IsLikeLane one other
    → markup_of (lane_lines first end one) ≡ markup_of (lane_lines first end other)
lane_lines_alike first end one other are =
    numbered_alike IsLikeLane (λ n x. lane_line first end n) (λ n x. lane_line first end n)
    (λ n x y like. refl) (numbered one) (numbered other) (alike_numbered IsLikeLane 0 one other are)

title_alike : (n : ℕ) (one other : Step)
    → markup_of (title n one)
    ≡ markup_of (title n (record one { title = other.title; detail = other.detail }))
title_alike n one other =
    third_value STEP_TITLE.now (decimal (x_of one.lane (words_at one.mark)))
    (decimal (y_of n WORDS)) (string_bytes one.title) (string_bytes other.title)

step_alike : (n : ℕ) (one other : Step) → IsLikeStep one other
    → markup_of (step_of n one) ≡ markup_of (step_of n other)
step_alike n one other like =
    let before = waiting n one ++ link_head n one ++ shape n one.lane one.mark in
    let words = record one { title = other.title; detail = other.detail } in
    subst (λ (step : Step). markup_of (step_of n one) ≡ markup_of (step_of n step)) (sym like)
    (both (before ++ title n one) (before ++ title n words) (stable n one) (stable n one)
    (both before before (title n one) (title n words) refl (title_alike n one other)) refl)

steps_alike : (first end : ℕ) (one other : List Step) → AreAlike IsLikeStep one other
    → markup_of (steps_in first end one) ≡ markup_of (steps_in first end other)
steps_alike first end one other are =
    numbered_alike IsLikeStep step_of step_of step_alike
    (between first end (numbered one)) (between first end (numbered other))
    (alike_drop (Numbered IsLikeStep) first _ _
    (alike_take (Numbered IsLikeStep) end _ _ (alike_numbered IsLikeStep 0 one other are)))

arrow_line_alike : (one other : Arrow)
    → markup_of (arrow_line one)
    ≡ markup_of (arrow_line (record one { name = other.name; text = other.text }))
arrow_line_alike one other =
    let from = x_of one.from MIDDLE in
    let sent = y_of one.sent CENTRE in
    let end = arrow_end one in
    fifth_and_eighth ARROW.now (decimal from) (decimal sent) (decimal end.0) (decimal end.1)
    (string_bytes one.text) (decimal (halfway from end.0))
    (decimal (down (halfway sent end.1) NAME)) one.name.now (string_bytes other.text)
    other.name.now

arrow_alike : (first end : ℕ) (one other : Arrow) → IsLikeArrow one other
    → markup_of (arrow_in first end one) ≡ markup_of (arrow_in first end other)
arrow_alike first end one other like =
    let words = record one { name = other.name; text = other.text } in
    subst (λ (arrow : Arrow).
    markup_of (arrow_in first end one) ≡ markup_of (arrow_in first end arrow)) (sym like)
    (if_alike (nat_lt one.sent end && nat_le first one.taken)
    (arrow_head one ++ arrow_line one) (arrow_head one ++ arrow_line words)
    (both (arrow_head one) (arrow_head one) (arrow_line one) (arrow_line words) refl
    (arrow_line_alike one other)))

arrows_alike : (first end : ℕ) (one other : List Arrow) → AreAlike IsLikeArrow one other
    → markup_of (arrows_in first end one) ≡ markup_of (arrows_in first end other)
arrows_alike first end one other are =
    alike_flat IsLikeArrow (arrow_in first end) (arrow_in first end) (arrow_alike first end) one other
    are

shown_alike : (first end : ℕ) (one other : Run) → DifferInValues one other
    → markup_of (shown first end one) ≡ markup_of (shown first end other)
shown_alike first end one other alike =
    both (lane_lines first end one.lanes.items ++ arrows_in first end one.arrows.items)
    (lane_lines first end other.lanes.items ++ arrows_in first end other.arrows.items)
    (steps_in first end one.steps.items) (steps_in first end other.steps.items)
    (both (lane_lines first end one.lanes.items) (lane_lines first end other.lanes.items)
    (arrows_in first end one.arrows.items) (arrows_in first end other.arrows.items)
    (lane_lines_alike first end one.lanes.items other.lanes.items alike.lanes)
    (arrows_alike first end one.arrows.items other.arrows.items alike.arrows))
    (steps_alike first end one.steps.items other.steps.items alike.steps)

row_alike : (n : ℕ) (one other : Step) → IsLikeStep one other
    → markup_of (row_of n one) ≡ markup_of (row_of n other)
row_alike n one other like =
    let before = fixed ROW_HEAD.now ++ about one.lane one.client one.producer in
    let words = record one { title = other.title; detail = other.detail } in
    let told = filled STEP_ROW.now (decimal n ∷ escaped (string_bytes one.title)
    ∷ escaped (string_bytes one.detail) ∷ []) in
    let said = filled STEP_ROW.now (decimal n ∷ escaped (string_bytes other.title)
    ∷ escaped (string_bytes other.detail) ∷ []) in
    let rule = rule_of one.rule in
    let end = fixed ROW_END.now in
    subst (λ (step : Step). markup_of (row_of n one) ≡ markup_of (row_of n step)) (sym like)
    (both (before ++ told ++ rule) (before ++ said ++ rule) end end
    (both (before ++ told) (before ++ said) rule rule
    (both before before told said refl
    (two_values STEP_ROW.now (decimal n) (string_bytes one.title) (string_bytes other.title)
    (string_bytes one.detail) (string_bytes other.detail))) refl) refl)

rows_alike : (first end : ℕ) (one other : List Step) → AreAlike IsLikeStep one other
    → markup_of (rows_in first end one) ≡ markup_of (rows_in first end other)
rows_alike first end one other are =
    numbered_alike IsLikeStep row_of row_of row_alike
    (between first end (numbered one)) (between first end (numbered other))
    (alike_drop (Numbered IsLikeStep) first _ _
    (alike_take (Numbered IsLikeStep) end _ _ (alike_numbered IsLikeStep 0 one other are)))

part_alike : (first end : ℕ) (one other : Run) → DifferInValues one other
    → markup_of (part_of first end one) ≡ markup_of (part_of first end other)
part_alike first end one other alike =
    let list = filled LIST_HEAD.now (decimal first ∷ []) in
    let last = fixed PART_END.now in
    let height = y_of end 0 - y_of first 0 in
    let heads : part_head first end one ≡ part_head first end other =
    ap (λ (lanes : ℕ). filled PART_HEAD.now (decimal height ∷ [])
    ++ image lanes (decimal (y_of first 0)) height)
    (as_long IsLikeLane one.lanes.items other.lanes.items alike.lanes) in
    let head = part_head first end one in
    let head2 = part_head first end other in
    let show = shown first end one in
    let show2 = shown first end other in
    let rows = rows_in first end one.steps.items in
    let rows2 = rows_in first end other.steps.items in
    both (head ++ show ++ list ++ rows) (head2 ++ show2 ++ list ++ rows2) last last
    (both (head ++ show ++ list) (head2 ++ show2 ++ list) rows rows2
    (both (head ++ show) (head2 ++ show2) list list
    (both head head2 show show2 (ap markup_of heads) (shown_alike first end one other alike)) refl)
    (rows_alike first end one.steps.items other.steps.items alike.steps)) refl

part_at_alike : (one other : Run) → DifferInValues one other → (n : ℕ)
    → markup_of (part_at one n) ≡ markup_of (part_at other n)
part_at_alike one other alike n =
    let end = min (n + PART) (length one.steps.items) in
    subst (λ (steps : ℕ). markup_of (part_at one n)
    ≡ markup_of (if n % PART == 0 then part_of n (min (n + PART) steps) other else []))
    (as_long IsLikeStep one.steps.items other.steps.items alike.steps)
    (if_alike (n % PART == 0) (part_of n end one) (part_of n end other)
    (part_alike n end one other alike))

parts_alike : (one other : Run) → DifferInValues one other
    → markup_of (parts_of one) ≡ markup_of (parts_of other)
parts_alike one other alike =
    numbered_alike IsLikeStep (λ n x. part_at one n) (λ n x. part_at other n)
    (λ n x y like. part_at_alike one other alike n)
    (numbered one.steps.items) (numbered other.steps.items)
    (alike_numbered IsLikeStep 0 one.steps.items other.steps.items alike.steps)

batch_of_alike : (one other : LoggedBatch) → IsLikeBatch one other
    → markup_of (batch_of one) ≡ markup_of (batch_of other)
batch_of_alike one other like =
    subst (λ (batch : LoggedBatch). markup_of (batch_of one) ≡ markup_of (batch_of batch)) (sym like)
    (three_values BATCH.now (class_of one.fate) (signed_decimal one.offset)
    (string_bytes one.kind) one.records.items one.reading.now
    (string_bytes other.kind) other.records.items other.reading.now)

batch_alike : (n : ℕ) (one other : LoggedBatch) → IsLikeBatch one other
    → markup_of (batch_in n one) ≡ markup_of (batch_in n other)
batch_alike n one other like =
    both (table_at n) (table_at n) (batch_of one) (batch_of other) refl (batch_of_alike one other like)

log_alike : (one other : Log) → IsLikeLog one other → markup_of (log_of one) ≡ markup_of (log_of other)
log_alike one other like =
    let head = log_head one in
    let head2 = log_head other in
    let all = batches_of one.batches.items in
    let all2 = batches_of other.batches.items in
    let end = fixed LOG_END.now in
    let words = filled LOG_HEAD.now (escaped (string_bytes other.name) ∷ signed_decimal one.stable
    ∷ signed_decimal one.end ∷ []) in
    let heads : markup_of head ≡ markup_of head2 =
    first_value LOG_HEAD.now (string_bytes one.name) (string_bytes other.name)
    (signed_decimal one.stable) (signed_decimal one.end)
    ∙ ap (λ (n : ℤ). markup_of (filled LOG_HEAD.now (escaped (string_bytes other.name)
    ∷ signed_decimal n ∷ signed_decimal one.end ∷ []))) (sym like.stable)
    ∙ ap (λ (n : ℤ). markup_of (filled LOG_HEAD.now (escaped (string_bytes other.name)
    ∷ signed_decimal other.stable ∷ signed_decimal n ∷ []))) (sym like.end) in
    both (head ++ all) (head2 ++ all2) end end
    (both head head2 all all2 heads
    (numbered_alike IsLikeBatch batch_in batch_in batch_alike (numbered one.batches.items)
    (numbered other.batches.items)
    (alike_numbered IsLikeBatch 0 one.batches.items other.batches.items like.batches))) refl

tail_alike : (one other : Run) → DifferInValues one other
    → markup_of (tail_of one) ≡ markup_of (tail_of other)
tail_alike one other alike =
    let head = fixed LOGS.now in
    let logs = logs_of one.logs.items in
    let logs2 = logs_of other.logs.items in
    let end = filled END.now (RULES.now ∷ SCRIPT.now ∷ []) in
    both (head ++ logs) (head ++ logs2) end end
    (both head head logs logs2 refl
    (alike_flat IsLikeLog log_of log_of log_alike one.logs.items other.logs.items alike.logs)) refl

head_alike : (one other : Run) → DifferInValues one other
    → markup_of (head_of one) ≡ markup_of (head_of other)
head_alike one other alike =
    let title = escaped other.title.now in
    titles HEAD.now one.title.now other.title.now DIAGRAM.now PAGE.now
    (decimal (length one.steps.items)) (decimal (length one.arrows.items)) FORM.now
    ∙ ap (λ (n : ℕ). markup_of (filled HEAD.now (title ∷ DIAGRAM.now ∷ PAGE.now ∷ title
    ∷ decimal n ∷ decimal (length one.arrows.items) ∷ FORM.now ∷ [])))
    (as_long IsLikeStep one.steps.items other.steps.items alike.steps)
    ∙ ap (λ (n : ℕ). markup_of (filled HEAD.now (title ∷ DIAGRAM.now ∷ PAGE.now ∷ title
    ∷ decimal (length other.steps.items) ∷ decimal n ∷ FORM.now ∷ [])))
    (as_long IsLikeArrow one.arrows.items other.arrows.items alike.arrows)

names_alike : (one other : Run) → DifferInValues one other
    → markup_of (names_of one) ≡ markup_of (names_of other)
names_alike one other alike =
    let head = fixed NAMES_HEAD.now in
    let image1 = image (length one.lanes.items) (decimal 0) NAMES in
    let image2 = image (length other.lanes.items) (decimal 0) NAMES in
    let tips = fixed TIPS.now in
    let end = fixed NAMES_END.now in
    let names = lane_names one.lanes.items in
    let names2 = lane_names other.lanes.items in
    let images : image1 ≡ image2 =
    ap (λ (lanes : ℕ). image lanes (decimal 0) NAMES)
    (as_long IsLikeLane one.lanes.items other.lanes.items alike.lanes) in
    both (head ++ image1 ++ tips ++ names) (head ++ image2 ++ tips ++ names2) end end
    (both (head ++ image1 ++ tips) (head ++ image2 ++ tips) names names2
    (ap (λ (image : List ℕ). markup_of (head ++ image ++ tips)) images)
    (lane_names_alike one.lanes.items other.lanes.items alike.lanes)) refl

pub pages_alike : (one other : Run) → DifferInValues one other
    → markup_of (page_of one) ≡ markup_of (page_of other)
pages_alike one other alike =
    both (head_of one ++ names_of one ++ parts_of one) (head_of other ++ names_of other ++ parts_of other)
    (tail_of one) (tail_of other)
    (both (head_of one ++ names_of one) (head_of other ++ names_of other)
    (parts_of one) (parts_of other)
    (both (head_of one) (head_of other) (names_of one) (names_of other)
    (head_alike one other alike) (names_alike one other alike))
    (parts_alike one other alike))
    (tail_alike one other alike)

diagram_head_alike : (one other : Run) → DifferInValues one other
    → markup_of (diagram_head one) ≡ markup_of (diagram_head other)
diagram_head_alike one other alike =
    let top = signed_decimal ABOVE in
    let words = filled DIAGRAM_HEAD.now (escaped one.title.now ∷ DIAGRAM.now ∷ top ∷ TIPS.now ∷ top ∷ []) in
    let words2 = filled DIAGRAM_HEAD.now (escaped other.title.now ∷ DIAGRAM.now ∷ top ∷ TIPS.now ∷ top ∷ []) in
    let image1 = image (length one.lanes.items) top (y_of (length one.steps.items) AROUND) in
    let image2 = image (length other.lanes.items) top (y_of (length other.steps.items) AROUND) in
    let images : image1 ≡ image2 =
    ap (λ (lanes : ℕ). image lanes top (y_of (length one.steps.items) AROUND))
    (as_long IsLikeLane one.lanes.items other.lanes.items alike.lanes)
    ∙ ap (λ (steps : ℕ). image (length other.lanes.items) top (y_of steps AROUND))
    (as_long IsLikeStep one.steps.items other.steps.items alike.steps) in
    both image1 image2 words words2 (ap markup_of images)
    (first_of_five DIAGRAM_HEAD.now one.title.now other.title.now DIAGRAM.now top TIPS.now top)

pub diagrams_alike : (one other : Run) → DifferInValues one other
    → markup_of (diagram_of one) ≡ markup_of (diagram_of other)
diagrams_alike one other alike =
    let head = diagram_head one in
    let head2 = diagram_head other in
    let names = lane_names one.lanes.items in
    let names2 = lane_names other.lanes.items in
    let middle = fixed DIAGRAM_NAMES_END.now in
    let end = fixed IMAGE_END.now in
    let steps = length one.steps.items in
    let steps2 = length other.steps.items in
    let show = shown 0 steps one in
    let show2 = shown 0 steps2 other in
    let shows : markup_of show ≡ markup_of show2 =
    shown_alike 0 steps one other alike
    ∙ ap (λ (n : ℕ). markup_of (shown 0 n other))
    (as_long IsLikeStep one.steps.items other.steps.items alike.steps) in
    both (head ++ names ++ middle ++ show) (head2 ++ names2 ++ middle ++ show2) end end
    (both (head ++ names ++ middle) (head2 ++ names2 ++ middle) show show2
    (both (head ++ names) (head2 ++ names2) middle middle
    (both head head2 names names2 (diagram_head_alike one other alike)
    (lane_names_alike one.lanes.items other.lanes.items alike.lanes)) refl) shows) refl
