-- Each line that is written is taken, and the course is what it says.
use Rattle.std.proofs.Common.{◌≡◌, ℕ, ◌+◌, ◌-◌, ◌<◌, ◌≤◌, ◌^◌, ◌==◌, Bool, true, ◌&&◌, not, cond, nat_le, nat_lt, nat_eq, List, [], ◌∷◌, ◌++◌, codes, decimal, length, sum, take, get_or, slice_index, Option, Some, None, refl, ap, ◌∙◌, sym, arith, le-leb, le-ltb, lt-ltb, eq-eqb}
use Rattle.std.proofs.lemmas.Bool.{and_from, cond-false, cond-true}
use Rattle.std.proofs.lemmas.List.{append_assoc, append-nil, drop_at, take_at, length_push}
use Rattle.std.specs.List.{fold}
use Rattle.lava_base.specs.declared.ids.MadeSymbol.{MadeSymbol}
use Rattle.lava_base.specs.declared.ids.PartyId.{PartyId}
use Rattle.lava_base.specs.declared.ids.Ref.{Ref}
use Rattle.lava_base.specs.declared.marks.Marks.{Marks}
use Rattle.js_text.specs.Texts.{same_units, utf8_of}
use Rattle.js_text.specs.Utf8.{units_of}
use Rattle.js_desc.specs.declared.crossing.Crossing.{Crossing}
use Rattle.js_desc.specs.declared.ending.Ending.{Ending}
use Rattle.js_desc.specs.declared.ending.Ending.TheVariants as ending
use Rattle.lava_journal.specs.Bodies.{Pieces, body_pieces, plain}
use Rattle.lava_journal.specs.Lines.{HasSteps, crossing_line, ending_text, head_pieces, line_pieces, party_line, steps_line}
use Rattle.lava_journal.specs.Quotes.{quoted}
use Rattle.lava_journal.specs.Sheets.{Plain, Sheet, TraceNames, blank}
use Rattle.lava_trace.specs.Asks.{crossing_at}
use Rattle.lava_trace.specs.Courses.{Course, count_in, counted_text, end_count, end_line, ending_in, ending_of, ending_party, front, is_make, may_cross, may_follow, name_in, nothing_said, opens, read_in, takes_crossing, takes_ending, takes_steps, total_from, wanted, with_counted, with_crossing, with_ending, with_line_more, with_made, with_name, with_open, with_party, with_read, with_steps}
use Rattle.lava_trace.specs.Items.{text_at}
use Rattle.lava_trace.specs.Left.{Got, is_letter, number_at, party_at, skipped, whole, word_at}
use Rattle.lava_trace.specs.Traces.{A_trace, gone_on, reading_from}
use Rattle.lava_trace.specs.declared.answers.AnswerKind.{AnswerKind}
use Rattle.lava_trace.specs.declared.left.TheConstants.{MAX_PARTY}
use Rattle.lava_trace.specs.declared.line.Trace.{Trace}
use Rattle.lava_trace.specs.declared.line.TraceLine.{TraceLine}
use Rattle.lava_trace_laws.specs.Sound.{Sound_crossing}
use Rattle.lava_trace_laws.specs.Spelled.{HaveNames, Listed, Place, at, passed, spelled, start_of}
use Rattle.lava_trace_laws.specs.Written.{IsName, MayStand, line_of}
use Rattle.lava_trace_laws.proofs.Crossing_laws.{crossing_reads}
use Rattle.lava_trace_laws.proofs.Line_laws.{names_behind, read_marks_do, sheet_is}
use Rattle.lava_trace_laws.proofs.Name_laws.{left, number_read, party_read, word_read}
use Rattle.lava_trace_laws.proofs.Sequence_laws.{spelled_append}
use Rattle.lava_trace_laws.proofs.Span_laws.{none_pass}
use Rattle.lava_trace_laws.proofs.Text_laws.{text_read}
use Rattle.lava_trace_laws.proofs.Value_laws.{digital, is_not}

-- A READING GOES ON

-- from here on these lines tell a trace
abbrev pub Tells : Course → List (List ℕ) → Trace → Type 0
Tells c lines t = (n : ℕ) → reading_from c n lines [] ≡ A_trace t

pub taken : (c d : Course) (line : List ℕ) (lines : List (List ℕ)) (t : Trace) → with_line_more c line ≡ Some d → Tells d lines t → Tells c (line ∷ lines) t
unfolding reading_from
taken c d line lines t e more = λ n. ap (λ o. gone_on n o (λ x. reading_from x (n + 1) lines [])) e ∙ more (n + 1)

pub same_itself : (xs : List ℕ) → same_units xs xs ≡ true
same_itself [] = refl
same_itself (x ∷ xs) = and_from (nat_eq x x) (same_units xs xs) (eq-eqb x x refl) (same_itself xs)

pub front_of : (line : List ℕ) → front (line ++ 10 ∷ []) ≡ line
front_of line = ap (λ (n : ℕ). take n (line ++ 10 ∷ [])) (let e : length (line ++ 10 ∷ []) - 1 ≡ length line = omega (arith, length_push line 10) in e) ∙ take_at line (10 ∷ []) (length line) refl

-- CROSSINGS

-- the course behind a crossing
abbrev pub crossed : Course → TraceLine → Course
crossed c l =
    with_made (with_open (record c { lines = c.lines ++ l ∷ []; named = (line_of c.named (length c.lines + 1) l).names }) (opens l.crossing.body)) (is_make l.crossing.body)

-- the pieces of a line but for its LF
abbrev pub told_pieces : ℕ → Crossing Ref MadeSymbol → Pieces Ref MadeSymbol
told_pieces number x = head_pieces number x.from.0 x.to.0 ++ body_pieces x.body

pub line_text : (names : TraceNames) (number : ℕ) (x : Crossing Ref MadeSymbol) (listed : Listed)
    → (crossing_line names number x listed).text ≡ spelled names listed (told_pieces number x) ++ 10 ∷ []
line_text names number x listed =
    let p = told_pieces number x in
    let lf : Pieces Ref MadeSymbol = plain (codes "\n") in
    ap (λ (s : Sheet). s.text) (sheet_is (blank names listed) (line_pieces number x))
    ∙ ap (λ (ps : Pieces Ref MadeSymbol). spelled names listed ps) (sym (append_assoc (head_pieces number x.from.0 x.to.0) (body_pieces x.body) lf))
    ∙ spelled_append listed (start_of names) p lf

line_names : (names : TraceNames) (number : ℕ) (x : Crossing Ref MadeSymbol) (listed : Listed) → (crossing_line names number x listed).names ≡ names_behind names (line_pieces number x)
line_names names number x listed = ap (λ (s : Sheet). s.names) (sheet_is (blank names listed) (line_pieces number x))

abbrev read_behind : Course → TraceLine → Place
read_behind c l = passed l.marks (start_of c.named) (body_pieces l.crossing.body)

pub line_is_read : (kind : AnswerKind) (names : TraceNames) (number : ℕ) (x : Crossing Ref MadeSymbol) (marks : Listed)
    → number < 2 ^ 64 → Sound_crossing kind x → HaveNames names (body_pieces x.body)
    → crossing_at kind (whole (front (crossing_line names number x marks).text)) ≡ (x, at marks (passed marks (start_of names) (body_pieces x.body)) [])
line_is_read kind names number x marks few sound named =
    ap (λ bs. crossing_at kind (whole (front bs))) (line_text names number x marks)
    ∙ ap (λ bs. crossing_at kind (whole bs)) (front_of (spelled names marks (told_pieces number x)))
    ∙ crossing_reads kind number x few sound marks (start_of names) (tt, (tt, (tt, (tt, (tt, (tt, named))))))

line_read : (c : Course) (l : TraceLine) → length c.lines + 1 < 2 ^ 64 → MayStand c.parties c.unanswered c.named l
    → read_in (wanted c.unanswered) (line_of c.named (length c.lines + 1) l).text ≡ (l.crossing, at l.marks (read_behind c l) [])
unfolding read_in
line_read c l few o = line_is_read (wanted c.unanswered) c.named (length c.lines + 1) l.crossing l.marks few o.sound o.named

-- the line with the marks that were read is the line
same_line : (c : Course) (l : TraceLine) → MayStand c.parties c.unanswered c.named l
    → (crossing_line c.named (length c.lines + 1) l.crossing (read_behind c l).named).text ≡ (line_of c.named (length c.lines + 1) l).text
same_line c l o =
    let number = length c.lines + 1 in
    let x = l.crossing in
    let ps = told_pieces number x in
    line_text c.named number x (read_behind c l).named
    ∙ ap (λ bs. bs ++ 10 ∷ []) (read_marks_do c.named l.marks ps (tt, (tt, (tt, (tt, (tt, (tt, o.marked)))))))
    ∙ sym (line_text c.named number x l.marks)

pub with_crossing_is : (c : Course) (l : TraceLine) → length c.lines + 1 < 2 ^ 64 → MayStand c.parties c.unanswered c.named l
    → with_crossing c (line_of c.named (length c.lines + 1) l).text ≡ Some (crossed c l)
unfolding with_crossing
with_crossing_is c l few o =
    let number = length c.lines + 1 in
    let line = (line_of c.named number l).text in
    let named = (read_behind c l).named in
    let text = (crossing_line c.named number l.crossing named).text in
    let after : List (Ref × Marks) → TraceNames → Course = λ marks names.
    with_made (with_open (record c { lines = c.lines ++ (record { crossing = l.crossing; marks = marks }) ∷ []; named = names }) (opens l.crossing.body)) (is_make l.crossing.body) in
    ap (λ (g : Got (Crossing Ref MadeSymbol)). with_read c line g.0 g.1.marks g.1.named) (line_read c l few o)
    ∙ cond-true (same_units line text && may_cross c.parties l.crossing) _ _ (and_from _ _ (ap (λ bs. same_units line bs) (same_line c l o) ∙ same_itself line) o.between)
    ∙ ap (λ m. Some (after m (crossing_line c.named number l.crossing named).names)) o.marks
    ∙ ap (λ n. Some (after l.marks n)) (line_names c.named number l.crossing named ∙ sym (line_names c.named number l.crossing l.marks))

-- a digit begins the line of a crossing, and no other line
pub crossing_taken : (c : Course) (l : TraceLine) → c.begun ≡ true → takes_crossing c ≡ true → length c.lines + 1 < 2 ^ 64 → MayStand c.parties c.unanswered c.named l
    → with_line_more c (line_of c.named (length c.lines + 1) l).text ≡ Some (crossed c l)
unfolding with_line_more
crossing_taken c l b t few o =
    let number = length c.lines + 1 in
    let line = (line_of c.named number l).text in
    let x = l.crossing in
    let digit = digital number few (spelled c.named l.marks (Plain (codes " ") ∷ Plain (decimal x.from.0) ∷ Plain (codes ">") ∷ Plain (decimal x.to.0) ∷ Plain (codes " ") ∷ body_pieces x.body) ++ 10 ∷ []) in
    let first : get_or line 0 0 ≡ get_or (decimal number ++ (spelled c.named l.marks (Plain (codes " ") ∷ Plain (decimal x.from.0) ∷ Plain (codes ">") ∷ Plain (decimal x.to.0) ∷ Plain (codes " ") ∷ body_pieces x.body) ++ 10 ∷ [])) 0 0 =
    ap (λ bs. get_or bs 0 0) (line_text c.named number x l.marks ∙ append_assoc (decimal number) _ (10 ∷ [])) in
    let low : 48 ≤ get_or line 0 0 = omega (arith, first, digit.0) in
    let high : get_or line 0 0 < 58 = omega (arith, first, digit.1) in
    cond-false (not c.begun) _ _ (ap not b)
    ∙ cond-false (get_or line 0 0 == 112) _ _ (is_not (get_or line 0 0) 112 low high (omega arith))
    ∙ cond-false (get_or line 0 0 == 115) _ _ (is_not (get_or line 0 0) 115 low high (omega arith))
    ∙ cond-false (get_or line 0 0 == 101) _ _ (is_not (get_or line 0 0) 101 low high (omega arith))
    ∙ cond-true (takes_crossing c) _ _ t
    ∙ with_crossing_is c l few o

-- PARTIES

abbrev pub begun_with : List (List ℕ) → Course
begun_with names = record nothing_said { begun = true; names = names; parties = length names }

name_told : (n : ℕ) (name : List ℕ) → n < 2 ^ 64 → IsName name → name_in (party_line n name) ≡ name
unfolding name_in
name_told n name few o =
    let rest : List ℕ = 32 ∷ quoted (units_of name) in
    let ahead : List ℕ = codes "party " ++ (decimal n ++ rest) in
    let joined : party_line n name ≡ ahead ++ 10 ∷ [] = ap (λ l. codes "party " ++ l) (sym (append_assoc (decimal n) rest (10 ∷ []))) in
    ap (λ bs. utf8_of (text_at (skipped 1 (number_at (skipped 6 (whole (front bs)))).1)).0) joined
    ∙ ap (λ bs. utf8_of (text_at (skipped 1 (number_at (skipped 6 (whole bs))).1)).0) (front_of ahead)
    ∙ ap (λ (g : Got ℕ). utf8_of (text_at (skipped 1 g.1)).0) (number_read n rest [] [] few refl)
    ∙ ap (λ bs. utf8_of (text_at (left bs [] [])).0) (sym (append-nil (quoted (units_of name))))
    ∙ ap (λ (g : Got (List ℕ)). utf8_of g.0) (text_read (units_of name) [] [] [] o.0)
    ∙ o.1

pub party_taken : (names : List (List ℕ)) (name : List ℕ) → IsName name → may_follow names name ≡ true → length names ≤ MAX_PARTY
    → with_line_more (begun_with names) (party_line (length names) name) ≡ Some (begun_with (names ++ name ∷ []))
unfolding with_line_more with_party
party_taken names name o f l =
    let line = party_line (length names) name in
    let told = name_told (length names) name (omega (arith, l)) o in
    let good : Bool → Bool → Bool → Option Course = λ a b d. cond (a && b && d) (Some (with_name (begun_with names) name)) None in
    ap (λ (w : List ℕ). cond (same_units line (party_line (length names) w) && may_follow names w && nat_le (length names) MAX_PARTY) (Some (with_name (begun_with names) w)) None) told
    ∙ (λ k. good (same_itself line k) (f k) (le-leb (length names) MAX_PARTY l k))
    ∙ ap (λ (n : ℕ). Some (record (begun_with (names ++ name ∷ [])) { parties = n })) (sym (length_push names name))

-- STEPS

count_told : (n count : ℕ) → n < 2 ^ 64 → count < 2 ^ 64 → count_in (steps_line n count) ≡ count
unfolding count_in
count_told n count few small =
    ap (λ (g : Got ℕ). (number_at (skipped 1 g.1)).0) (number_read n (32 ∷ (decimal count ++ 10 ∷ [])) [] [] few refl)
    ∙ ap (λ (g : Got ℕ). g.0) (number_read count (10 ∷ []) [] [] small refl)

pub steps_taken : (c : Course) (count : ℕ) → c.begun ≡ true → takes_steps c ≡ true → length c.steps < 2 ^ 64 → count < 2 ^ 64
    → with_line_more c (steps_line (length c.steps) count) ≡ Some (record c { steps = c.steps ++ count ∷ [] })
unfolding with_line_more with_steps
steps_taken c count b t few small =
    let line = steps_line (length c.steps) count in
    cond-false (not c.begun) _ _ (ap not b)
    ∙ cond-true (takes_steps c) _ _ t
    ∙ ap (λ (n : ℕ). cond (same_units line (steps_line (length c.steps) n)) (Some (record c { steps = c.steps ++ n ∷ [] })) None) (count_told (length c.steps) count few small)
    ∙ cond-true (same_units line line) _ _ (same_itself line)

-- THE END

sum_from : (a : ℕ) (xs : List ℕ) → fold ◌+◌ a xs ≡ a + sum xs
sum_from a [] = omega arith
sum_from a (x ∷ xs) = omega (arith, sum_from (a + x) xs, sum_from (0 + x) xs)

pub sum_cons : (x : ℕ) (xs : List ℕ) → sum (x ∷ xs) ≡ x + sum xs
sum_cons x xs = omega (arith, sum_from (0 + x) xs)

total_is : (n : ℕ) (xs : List ℕ) → n + sum xs < 2 ^ 64 → total_from n xs ≡ Some (n + sum xs)
unfolding total_from
total_is n [] h = ap Some (omega arith)
total_is n (x ∷ xs) h =
    let whole : sum (x ∷ xs) ≡ x + sum xs = omega (arith, sum_from (0 + x) xs) in
    cond-false (nat_lt (2 ^ 64 - 1 - n) x) _ _ (le-ltb (2 ^ 64 - 1 - n) x (omega (arith, h, whole)))
    ∙ total_is (n + x) xs (omega (arith, h, whole))
    ∙ ap Some (let e : n + x + sum xs ≡ n + sum (x ∷ xs) = omega (arith, whole) in e)

-- the count that stands behind the party of an ending
abbrev count_there : List ℕ → Ending → ℕ
count_there steps ending.Done = 0
count_there steps ending.Uncaught = 0
count_there steps ending.Outside = 0
count_there steps (ending.Number p) = slice_index steps p.0
count_there steps (ending.Text p) = slice_index steps p.0
count_there steps (ending.Depth p) = slice_index steps p.0
count_there steps (ending.Parties p) = slice_index steps p.0
count_there steps (ending.Budget p) = sum steps

count_found : (steps : List ℕ) (e : Ending) → HasSteps steps e → sum steps < 2 ^ 64 → end_count steps e ≡ Some (count_there steps e)
unfolding end_count
count_found steps ending.Done h l = refl
count_found steps ending.Uncaught h l = refl
count_found steps ending.Outside h l = refl
count_found steps (ending.Number p) h l = cond-true (nat_lt p.0 (length steps)) _ _ (lt-ltb p.0 (length steps) h)
count_found steps (ending.Text p) h l = cond-true (nat_lt p.0 (length steps)) _ _ (lt-ltb p.0 (length steps) h)
count_found steps (ending.Depth p) h l = cond-true (nat_lt p.0 (length steps)) _ _ (lt-ltb p.0 (length steps) h)
count_found steps (ending.Parties p) h l = cond-true (nat_lt p.0 (length steps)) _ _ (lt-ltb p.0 (length steps) h)
count_found steps (ending.Budget p) h l = cond-true (nat_lt p.0 (length steps)) _ _ (lt-ltb p.0 (length steps) h) ∙ total_is 0 steps (omega (arith, l)) ∙ ap Some (let e : 0 + sum steps ≡ sum steps = omega arith in e)

ended_told : (w : List ℕ) (p : PartyId) (rest : List ℕ) → none_pass (λ b. not (is_letter b)) w ≡ true → p.0 ≤ MAX_PARTY
    → ending_in (codes "end " ++ (w ++ (32 ∷ (decimal p.0 ++ (32 ∷ rest))))) ≡ ending_of w p
unfolding ending_in ending_party
ended_told w p rest letters small =
    let z : List ℕ = decimal p.0 ++ (32 ∷ rest) in
    let l = left (w ++ (32 ∷ z)) [] [] in
    ap (λ (v : List ℕ). ending_of v (party_at (skipped (length v + 1) l)).0) (word_read w (32 ∷ z) [] [] letters refl)
    ∙ ap (λ (bs : List ℕ). ending_of w (party_at (skipped (length w + 1) (left bs [] []))).0) (sym (append_assoc w (32 ∷ []) z))
    ∙ ap (λ (bs : List ℕ). ending_of w (party_at (left bs [] [])).0) (drop_at (w ++ 32 ∷ []) z (length w + 1) (length_push w 32))
    ∙ ap (λ (g : Got PartyId). ending_of w g.0) (party_read p (32 ∷ rest) [] [] small refl)

-- the party and the count behind a word, and the LF
ended_parts : (p n : ℕ) → (decimal p ++ (32 ∷ decimal n)) ++ 10 ∷ [] ≡ decimal p ++ (32 ∷ (decimal n ++ 10 ∷ []))
ended_parts p n = append_assoc (decimal p) (32 ∷ decimal n) (10 ∷ [])

-- the last line tells its ending
ending_told : (steps : List ℕ) (e : Ending) → HasSteps steps e → length steps ≤ MAX_PARTY + 1 → ending_in (codes "end " ++ (ending_text steps e ++ 10 ∷ [])) ≡ e
unfolding ending_in ending_party word_at
ending_told steps ending.Done h l = refl
ending_told steps ending.Uncaught h l = refl
ending_told steps ending.Outside h l = refl
ending_told steps (ending.Number p) h l =
    ap (λ (bs : List ℕ). ending_in (codes "end " ++ (codes "Number " ++ bs))) (ended_parts p.0 (slice_index steps p.0)) ∙ ended_told (codes "Number") p (decimal (slice_index steps p.0) ++ 10 ∷ []) refl (omega (arith, h, l))
ending_told steps (ending.Text p) h l =
    ap (λ (bs : List ℕ). ending_in (codes "end " ++ (codes "Text " ++ bs))) (ended_parts p.0 (slice_index steps p.0)) ∙ ended_told (codes "Text") p (decimal (slice_index steps p.0) ++ 10 ∷ []) refl (omega (arith, h, l))
ending_told steps (ending.Depth p) h l =
    ap (λ (bs : List ℕ). ending_in (codes "end " ++ (codes "Depth " ++ bs))) (ended_parts p.0 (slice_index steps p.0)) ∙ ended_told (codes "Depth") p (decimal (slice_index steps p.0) ++ 10 ∷ []) refl (omega (arith, h, l))
ending_told steps (ending.Parties p) h l =
    ap (λ (bs : List ℕ). ending_in (codes "end " ++ (codes "Parties " ++ bs))) (ended_parts p.0 (slice_index steps p.0)) ∙ ended_told (codes "Parties") p (decimal (slice_index steps p.0) ++ 10 ∷ []) refl (omega (arith, h, l))
ending_told steps (ending.Budget p) h l =
    ap (λ (bs : List ℕ). ending_in (codes "end " ++ (codes "Budget " ++ bs))) (ended_parts p.0 (sum steps)) ∙ ended_told (codes "Budget") p (decimal (sum steps) ++ 10 ∷ []) refl (omega (arith, h, l))

text_there : (steps : List ℕ) (e : Ending) → end_line e (count_there steps e) ≡ codes "end " ++ (ending_text steps e ++ 10 ∷ [])
unfolding end_line counted_text
text_there steps ending.Done = refl
text_there steps ending.Uncaught = refl
text_there steps ending.Outside = refl
text_there steps (ending.Number p) = refl
text_there steps (ending.Text p) = refl
text_there steps (ending.Depth p) = refl
text_there steps (ending.Parties p) = refl
text_there steps (ending.Budget p) = refl

pub ending_taken : (c : Course) (e : Ending) → c.begun ≡ true → takes_ending c ≡ true → HasSteps c.steps e → length c.steps ≤ MAX_PARTY + 1 → sum c.steps < 2 ^ 64
    → with_line_more c (codes "end " ++ (ending_text c.steps e ++ 10 ∷ [])) ≡ Some (record c { ending = Some e })
unfolding with_line_more with_ending
ending_taken c e b t h few l =
    let line = codes "end " ++ (ending_text c.steps e ++ 10 ∷ []) in
    cond-false (not c.begun) _ _ (ap not b)
    ∙ cond-true (takes_ending c) _ _ t
    ∙ ap (λ (x : Ending). with_counted c line x (end_count c.steps x)) (ending_told c.steps e h few)
    ∙ ap (λ (o : Option ℕ). with_counted c line e o) (count_found c.steps e h l)
    ∙ cond-true (same_units line (end_line e (count_there c.steps e))) _ _ (ap (λ bs. same_units line bs) (text_there c.steps e) ∙ same_itself line)
