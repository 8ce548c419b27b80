-- What was read, put together: each line that is taken goes last.
use Rattle.std.proofs.Common.{◌≡◌, ℕ, ◌+◌, ◌-◌, ◌^◌, ◌==◌, Bool, true, false, ◌&&◌, not, cond, nat_eq, nat_le, nat_lt, is_none, List, [], ◌∷◌, ◌++◌, codes, length, map, sum, get_or, slice_index, Option, Some, None, refl, ap, ◌∙◌, sym, subst, arith, true≢false, eqb-true}
use Rattle.std.proofs.lemmas.Bool.{and_parts, cond-false}
use Rattle.std.proofs.lemmas.List.{append_assoc, append-nil, map-append, length-map, nil_from_length}
use Rattle.js_text.specs.Texts.{same_units}
use Rattle.js_desc.specs.declared.ending.Ending.{Ending}
use Rattle.js_desc.specs.declared.ending.Ending.TheVariants as ending
use Rattle.lava_journal.specs.Lines.{crossing_line, ended_at, ending_text, first_line, party_line, party_lines, steps_line, steps_lines}
use Rattle.lava_journal.specs.Sheets.{Sheet, TraceNames, no_names}
use Rattle.lava_trace.specs.Courses.{Course, count_in, counted_text, end_count, end_line, ended_with, ending_in, is_make, may_cross, may_follow, name_in, nothing_said, opens, read_in, takes_crossing, takes_ending, takes_party, takes_steps, total_from, wanted, with_counted, with_crossing, with_ending, with_first, with_line_more, with_made, with_name, with_open, with_party, with_steps}
use Rattle.lava_trace.specs.Traces.{A_trace, Cut, Reading, cut, end_reading, gone_on, in_front, read_as, reading_from, reading_of}
use Rattle.lava_trace.specs.declared.left.TheConstants.{MAX_PARTY}
use Rattle.lava_trace.specs.declared.line.Trace.{Trace}
use Rattle.lava_trace.specs.declared.line.TraceLine.{TraceLine}
use Rattle.lava_trace_laws.specs.Spelled.{Listed}
use Rattle.lava_trace_laws.specs.Written.{IsPutTogether, marked_lines}
use Rattle.lava_trace_laws.proofs.Course_laws.{begun_with, sum_cons}
use Rattle.lava_trace_laws.proofs.Round_laws.{joined}

abbrev Told : Type 0
Told = TraceLine × Listed

-- what is named behind crossings
abbrev names_told : TraceNames → ℕ → List Told → TraceNames
names_told names number [] = names
names_told names number (e ∷ es) = names_told (crossing_line names number e.0.crossing e.1).names (number + 1) es

-- a crossing more goes last
lines_push : (names : TraceNames) (number : ℕ) (es : List Told) (e : Told)
    → marked_lines names number (es ++ e ∷ []) ≡ marked_lines names number es ++ (crossing_line (names_told names number es) (number + length es) e.0.crossing e.1).text
lines_push names number [] e =
    append-nil (crossing_line names number e.0.crossing e.1).text ∙ ap (λ (n : ℕ). (crossing_line names n e.0.crossing e.1).text) (let z : number ≡ number + length {A = Told} [] = omega arith in z)
lines_push names number (x ∷ es) e =
    let line = crossing_line names number x.0.crossing x.1 in
    ap (λ l. line.text ++ l)
    (lines_push line.names (number + 1) es e
    ∙ ap (λ (n : ℕ). marked_lines line.names (number + 1) es ++ (crossing_line (names_told line.names (number + 1) es) n e.0.crossing e.1).text) (let z : number + 1 + length es ≡ number + length (x ∷ es) = omega arith in z))
    ∙ sym (append_assoc line.text (marked_lines line.names (number + 1) es) (crossing_line (names_told line.names (number + 1) es) (number + length (x ∷ es)) e.0.crossing e.1).text)

names_push : (names : TraceNames) (number : ℕ) (es : List Told) (e : Told)
    → names_told names number (es ++ e ∷ []) ≡ (crossing_line (names_told names number es) (number + length es) e.0.crossing e.1).names
names_push names number [] e = ap (λ (n : ℕ). (crossing_line names n e.0.crossing e.1).names) (let z : number ≡ number + length {A = Told} [] = omega arith in z)
names_push names number (x ∷ es) e =
    let line = crossing_line names number x.0.crossing x.1 in
    names_push line.names (number + 1) es e
    ∙ ap (λ (n : ℕ). (crossing_line (names_told line.names (number + 1) es) n e.0.crossing e.1).names) (let z : number + 1 + length es ≡ number + length (x ∷ es) = omega arith in z)

parties_push : (n : ℕ) (names : List (List ℕ)) (name : List ℕ) → party_lines n (names ++ name ∷ []) ≡ party_lines n names ++ party_line (n + length names) name
parties_push n [] name = append-nil (party_line n name) ∙ ap (λ (m : ℕ). party_line m name) (let z : n ≡ n + length {A = List ℕ} [] = omega arith in z)
parties_push n (x ∷ names) name =
    ap (λ l. party_line n x ++ l) (parties_push (n + 1) names name ∙ ap (λ (m : ℕ). party_lines (n + 1) names ++ party_line m name) (let z : n + 1 + length names ≡ n + length (x ∷ names) = omega arith in z))
    ∙ sym (append_assoc (party_line n x) (party_lines (n + 1) names) (party_line (n + length (x ∷ names)) name))

steps_push : (n : ℕ) (counts : List ℕ) (count : ℕ) → steps_lines n (counts ++ count ∷ []) ≡ steps_lines n counts ++ steps_line (n + length counts) count
steps_push n [] count = append-nil (steps_line n count) ∙ ap (λ (m : ℕ). steps_line m count) (let z : n ≡ n + length {A = ℕ} [] = omega arith in z)
steps_push n (x ∷ counts) count =
    ap (λ l. steps_line n x ++ l) (steps_push (n + 1) counts count ∙ ap (λ (m : ℕ). steps_lines (n + 1) counts ++ steps_line m count) (let z : n + 1 + length counts ≡ n + length (x ∷ counts) = omega arith in z))
    ∙ sym (append_assoc (steps_line n x) (steps_lines (n + 1) counts) (steps_line (n + length (x ∷ counts)) count))

-- WHAT IS SAID SO FAR

abbrev ended_text : List ℕ → Option Ending → List ℕ
ended_text steps None = []
ended_text steps (Some e) = codes "end " ++ (ending_text steps e ++ 10 ∷ [])

abbrev said : List (List ℕ) → List Told → List ℕ → Option Ending → List ℕ
said names told steps e = first_line ++ (party_lines 0 names ++ (marked_lines no_names 1 told ++ (steps_lines 0 steps ++ ended_text steps e)))

-- the course of these bytes
record SoFar (c : Course) (bytes : List ℕ) : Type 0 where
  told : List Told
  begun : c.begun ≡ true
  lines : map (λ e. e.0) told ≡ c.lines
  named : names_told no_names 1 told ≡ c.named
  text : bytes ≡ said c.names told c.steps c.ending

same_from : (a b : List ℕ) → same_units a b ≡ true → a ≡ b
same_from [] [] h = refl
same_from [] (y ∷ b) h = absurd (true≢false (sym h))
same_from (x ∷ a) [] h = absurd (true≢false (sym h))
same_from (x ∷ a) (y ∷ b) h =
    let parts = and_parts (nat_eq x y) (same_units a b) h in
    (λ k. eqb-true x y parts.0 k ∷ same_from a b parts.1 k)

some_same : {X : Type 0} (x y : X) → Some x ≡ Some y → x ≡ y
some_same x y h = cc

only_some : {X : Type 0} (b : Bool) (o : Option X) (d : X) → cond b o None ≡ Some d → (b ≡ true) × (o ≡ Some d)
only_some true o d h = (refl, h)
only_some false o d h = absurd cc

-- no lines are told, so no crossings
none_told : (told : List Told) (lines : List TraceLine) → map (λ e. e.0) told ≡ lines → (length lines == 0) ≡ true → told ≡ []
none_told told lines e h = nil_from_length told (let l = eqb-true (length lines) 0 h in omega (arith, l, ap length e, length-map told (λ (x : Told). x.0)))

no_ending : (o : Option Ending) → is_none o ≡ true → o ≡ None
no_ending None h = refl
no_ending (Some e) h = absurd (true≢false (sym h))

three : (a b d : Bool) → (a && b && d) ≡ true → (a ≡ true) × (b ≡ true) × (d ≡ true)
three true true true h = (refl, refl, refl)
three true true false h = absurd (true≢false (sym h))
three true false d h = absurd (true≢false (sym h))
three false b d h = absurd (true≢false (sym h))

pick : {X P : Type 0} (b : Bool) (x y d : X) → cond b x y ≡ d → (x ≡ d → P) → (y ≡ d → P) → P
pick true x y d h first other = first h
pick false x y d h first other = other h

second_some : {X : Type 0} (b : Bool) (o : Option X) (d : X) → cond b None o ≡ Some d → o ≡ Some d
second_some true o d h = absurd cc
second_some false o d h = h

last_but : (a b l : List ℕ) → (a ++ (b ++ [])) ++ l ≡ a ++ ((b ++ l) ++ [])
last_but a b l = append_assoc a (b ++ []) l ∙ ap (λ x. a ++ x) (ap (λ x. x ++ l) (append-nil b) ∙ sym (append-nil (b ++ l)))

-- EACH LINE GOES LAST

party_last : (c d : Course) (bytes line : List ℕ) → takes_party c ≡ true → with_party c line ≡ Some d → SoFar c bytes → SoFar d (bytes ++ line)
unfolding with_party
party_last c d bytes line t h s =
    let name = name_in line in
    let free = three (length c.lines == 0) (length c.steps == 0) (is_none c.ending) t in
    let found = only_some (same_units line (party_line (length c.names) name) && may_follow c.names name && nat_le (length c.names) MAX_PARTY) (Some (with_name c name)) d h in
    let tests = three (same_units line (party_line (length c.names) name)) (may_follow c.names name) (nat_le (length c.names) MAX_PARTY) found.0 in
    let is = same_from line (party_line (length c.names) name) tests.0 in
    let told = none_told s.told c.lines s.lines free.0 in
    let steps = nil_from_length c.steps (eqb-true (length c.steps) 0 free.1) in
    let ending = no_ending c.ending free.2 in
    let before : bytes ≡ said c.names [] [] None = s.text ∙ (λ k. said c.names (told k) (steps k) (ending k)) in
    let text : bytes ++ line ≡ said (c.names ++ name ∷ []) s.told c.steps c.ending =
    (λ k. before k ++ is k)
    ∙ last_but first_line (party_lines 0 c.names) (party_line (length c.names) name)
    ∙ ap (λ (n : ℕ). first_line ++ ((party_lines 0 c.names ++ party_line n name) ++ [])) (let z : length c.names ≡ 0 + length c.names = omega arith in z)
    ∙ ap (λ x. first_line ++ (x ++ [])) (sym (parties_push 0 c.names name))
    ∙ sym (λ k. said (c.names ++ name ∷ []) (told k) (steps k) (ending k)) in
    let after : SoFar (with_name c name) (bytes ++ line) = record { told = s.told; begun = s.begun; lines = s.lines; named = s.named; text = text } in
    subst (λ x. SoFar x (bytes ++ line)) (some_same (with_name c name) d found.1) after

crossing_last : (c d : Course) (bytes line : List ℕ) → takes_crossing c ≡ true → with_crossing c line ≡ Some d → SoFar c bytes → SoFar d (bytes ++ line)
unfolding with_crossing
crossing_last c d bytes line t h s =
    let got = read_in (wanted c.unanswered) line in
    let x = got.0 in
    let named = got.1.named in
    let number = length c.lines + 1 in
    let l : TraceLine = record { crossing = x; marks = got.1.marks } in
    let e : Told = (l, named) in
    let free = three (nat_le 2 (length c.names)) (length c.steps == 0) (is_none c.ending) t in
    let now = crossing_line c.named number x named in
    let next = with_made (with_open (record c { lines = c.lines ++ l ∷ []; named = now.names }) (opens x.body)) (is_make x.body) in
    let found = only_some (same_units line now.text && may_cross c.parties x) (Some next) d h in
    let is = same_from line now.text (and_parts (same_units line now.text) (may_cross c.parties x) found.0).0 in
    let steps = nil_from_length c.steps (eqb-true (length c.steps) 0 free.1) in
    let ending = no_ending c.ending free.2 in
    let many : length s.told ≡ length c.lines = sym (length-map s.told (λ (y : Told). y.0)) ∙ ap length s.lines in
    let counts : number ≡ 1 + length s.told = omega (arith, many) in
    let line_then : now ≡ crossing_line (names_told no_names 1 s.told) (1 + length s.told) x named = (λ k. crossing_line (sym s.named k) (counts k) x named) in
    let before : bytes ≡ first_line ++ (party_lines 0 c.names ++ (marked_lines no_names 1 s.told ++ [])) = s.text ∙ (λ k. said c.names s.told (steps k) (ending k)) in
    let text : bytes ++ line ≡ said c.names (s.told ++ e ∷ []) c.steps c.ending =
    (λ k. before k ++ (is ∙ ap (λ (y : Sheet). y.text) line_then) k)
    ∙ append_assoc first_line _ _
    ∙ ap (λ y. first_line ++ y) (last_but (party_lines 0 c.names) (marked_lines no_names 1 s.told) (crossing_line (names_told no_names 1 s.told) (1 + length s.told) x named).text)
    ∙ ap (λ y. first_line ++ (party_lines 0 c.names ++ (y ++ []))) (sym (lines_push no_names 1 s.told e))
    ∙ sym (λ k. said c.names (s.told ++ e ∷ []) (steps k) (ending k)) in
    let after : SoFar next (bytes ++ line) = record {
      told = s.told ++ e ∷ [];
      begun = s.begun;
      lines = map-append (λ (y : Told). y.0) s.told (e ∷ []) ∙ ap (λ y. y ++ l ∷ []) s.lines;
      named = names_push no_names 1 s.told e ∙ sym (ap (λ (y : Sheet). y.names) line_then);
      text = text;
    } in
    subst (λ y. SoFar y (bytes ++ line)) (some_same next d found.1) after

steps_last : (c d : Course) (bytes line : List ℕ) → takes_steps c ≡ true → with_steps c line ≡ Some d → SoFar c bytes → SoFar d (bytes ++ line)
unfolding with_steps
steps_last c d bytes line t h s =
    let count = count_in line in
    let free = three (nat_le 2 (length c.names)) (nat_lt (length c.steps) c.parties) (is_none c.ending) t in
    let next = record c { steps = c.steps ++ count ∷ [] } in
    let found = only_some (same_units line (steps_line (length c.steps) count)) (Some next) d h in
    let is = same_from line (steps_line (length c.steps) count) found.0 in
    let ending = no_ending c.ending free.2 in
    let p = party_lines 0 c.names in
    let m = marked_lines no_names 1 s.told in
    let before : bytes ≡ first_line ++ (p ++ (m ++ (steps_lines 0 c.steps ++ []))) = s.text ∙ (λ k. said c.names s.told c.steps (ending k)) in
    let text : bytes ++ line ≡ said c.names s.told (c.steps ++ count ∷ []) c.ending =
    (λ k. before k ++ is k)
    ∙ append_assoc first_line _ _
    ∙ ap (λ y. first_line ++ y) (append_assoc p _ _)
    ∙ ap (λ y. first_line ++ (p ++ y)) (last_but m (steps_lines 0 c.steps) (steps_line (length c.steps) count))
    ∙ ap (λ (n : ℕ). first_line ++ (p ++ (m ++ ((steps_lines 0 c.steps ++ steps_line n count) ++ [])))) (let z : length c.steps ≡ 0 + length c.steps = omega arith in z)
    ∙ ap (λ y. first_line ++ (p ++ (m ++ (y ++ [])))) (sym (steps_push 0 c.steps count))
    ∙ sym (λ k. said c.names s.told (c.steps ++ count ∷ []) (ending k)) in
    let after : SoFar next (bytes ++ line) = record { told = s.told; begun = s.begun; lines = s.lines; named = s.named; text = text } in
    subst (λ y. SoFar y (bytes ++ line)) (some_same next d found.1) after

-- THE END

total_back : (n : ℕ) (xs : List ℕ) (m : ℕ) → total_from n xs ≡ Some m → m ≡ n + sum xs
unfolding total_from
total_back n [] m h = let e = some_same n m h in omega (arith, e)
total_back n (x ∷ xs) m h =
    let rest = total_back (n + x) xs m (second_some (nat_lt (2 ^ 64 - 1 - n) x) (total_from (n + x) xs) m h) in
    omega (arith, rest, sum_cons x xs)

count_back : (steps : List ℕ) (p n : ℕ) → cond (nat_lt p (length steps)) (Some (get_or steps p 0)) None ≡ Some n → n ≡ slice_index steps p
count_back steps p n h = sym (some_same (get_or steps p 0) n (only_some (nat_lt p (length steps)) (Some (get_or steps p 0)) n h).1)

end_back : (steps : List ℕ) (e : Ending) (n : ℕ) → end_count steps e ≡ Some n → end_line e n ≡ codes "end " ++ (ending_text steps e ++ 10 ∷ [])
unfolding end_count end_line counted_text
end_back steps ending.Done n h = refl
end_back steps ending.Uncaught n h = refl
end_back steps ending.Outside n h = refl
end_back steps (ending.Number p) n h = ap (λ (m : ℕ). codes "end " ++ (ended_at (codes "Number ") p.0 m ++ 10 ∷ [])) (count_back steps p.0 n h)
end_back steps (ending.Text p) n h = ap (λ (m : ℕ). codes "end " ++ (ended_at (codes "Text ") p.0 m ++ 10 ∷ [])) (count_back steps p.0 n h)
end_back steps (ending.Depth p) n h = ap (λ (m : ℕ). codes "end " ++ (ended_at (codes "Depth ") p.0 m ++ 10 ∷ [])) (count_back steps p.0 n h)
end_back steps (ending.Parties p) n h = ap (λ (m : ℕ). codes "end " ++ (ended_at (codes "Parties ") p.0 m ++ 10 ∷ [])) (count_back steps p.0 n h)
end_back steps (ending.Budget p) n h =
    let all = total_back 0 steps n (only_some (nat_lt p.0 (length steps)) (total_from 0 steps) n h).1 in
    ap (λ (m : ℕ). codes "end " ++ (ended_at (codes "Budget ") p.0 m ++ 10 ∷ [])) (let z : n ≡ sum steps = omega (arith, all) in z)

end_last_by : (c d : Course) (bytes line : List ℕ) (e : Ending) (o : Option ℕ) → is_none c.ending ≡ true → end_count c.steps e ≡ o → with_counted c line e o ≡ Some d → SoFar c bytes → SoFar d (bytes ++ line)
end_last_by c d bytes line e None t f h s = absurd cc
end_last_by c d bytes line e (Some n) t f h s =
    let next = record c { ending = Some e } in
    let found = only_some (same_units line (end_line e n)) (Some next) d h in
    let is : line ≡ codes "end " ++ (ending_text c.steps e ++ 10 ∷ []) = same_from line (end_line e n) found.0 ∙ end_back c.steps e n f in
    let ending = no_ending c.ending t in
    let p = party_lines 0 c.names in
    let m = marked_lines no_names 1 s.told in
    let before : bytes ≡ first_line ++ (p ++ (m ++ (steps_lines 0 c.steps ++ []))) = s.text ∙ (λ k. said c.names s.told c.steps (ending k)) in
    let text : bytes ++ line ≡ said c.names s.told c.steps (Some e) =
    (λ k. before k ++ is k)
    ∙ append_assoc first_line _ _ ∙ ap (λ y. first_line ++ y) (append_assoc p _ _) ∙ ap (λ y. first_line ++ (p ++ y)) (append_assoc m _ _)
    ∙ ap (λ y. first_line ++ (p ++ (m ++ (y ++ (codes "end " ++ (ending_text c.steps e ++ 10 ∷ [])))))) (append-nil (steps_lines 0 c.steps)) in
    let after : SoFar next (bytes ++ line) = record { told = s.told; begun = s.begun; lines = s.lines; named = s.named; text = text } in
    subst (λ y. SoFar y (bytes ++ line)) (some_same next d found.1) after

end_last : (c d : Course) (bytes line : List ℕ) → takes_ending c ≡ true → with_ending c line ≡ Some d → SoFar c bytes → SoFar d (bytes ++ line)
unfolding with_ending
end_last c d bytes line t h s =
    let e = ending_in line in
    end_last_by c d bytes line e (end_count c.steps e) (three (nat_le 2 (length c.names)) (length c.steps == c.parties) (is_none c.ending) t).2 refl h s

-- ANY LINE

line_last : (c d : Course) (bytes line : List ℕ) → with_line_more c line ≡ Some d → SoFar c bytes → SoFar d (bytes ++ line)
unfolding with_line_more
line_last c d bytes line h s =
    let b = get_or line 0 0 in
    let only : (t : Bool) (o : Option Course) → Option Course = λ t o. cond t o None in
    let party = only (takes_party c) (with_party c line) in
    let steps = only (takes_steps c) (with_steps c line) in
    let ends = only (takes_ending c) (with_ending c line) in
    let crosses = only (takes_crossing c) (with_crossing c line) in
    let inner : cond (b == 112) party (cond (b == 115) steps (cond (b == 101) ends crosses)) ≡ Some d = sym (cond-false (not c.begun) (with_first c line) _ (ap not s.begun)) ∙ h in
    pick (b == 112) party _ (Some d) inner
    (λ e. let f = only_some (takes_party c) (with_party c line) d e in party_last c d bytes line f.0 f.1 s)
    (λ r. pick (b == 115) steps _ (Some d) r
    (λ e. let f = only_some (takes_steps c) (with_steps c line) d e in steps_last c d bytes line f.0 f.1 s)
    (λ q. pick (b == 101) ends crosses (Some d) q
    (λ e. let f = only_some (takes_ending c) (with_ending c line) d e in end_last c d bytes line f.0 f.1 s)
    (λ e. let f = only_some (takes_crossing c) (with_crossing c line) d e in crossing_last c d bytes line f.0 f.1 s)))

-- THE WHOLE TEXT

trace_same : (t u : Trace) → A_trace t ≡ A_trace u → t ≡ u
trace_same t u h = cc

ended_by : (c : Course) (bytes : List ℕ) (n : ℕ) (o : Option Ending) (t : Trace) → c.ending ≡ o → read_as n (ended_with c o) ≡ A_trace t → SoFar c bytes → IsPutTogether t bytes
ended_by c bytes n None t f h s = absurd cc
ended_by c bytes n (Some e) t f h s =
    let u : Trace = record { parties = c.names; lines = c.lines; steps = c.steps; ending = e } in
    let whole : IsPutTogether u bytes = record {
      told = s.told;
      lines = s.lines;
      text = s.text ∙ ap (λ o. said c.names s.told c.steps o) f
          ∙ sym (append_assoc first_line (party_lines 0 c.names) (marked_lines no_names 1 s.told ++ (steps_lines 0 c.steps ++ (codes "end " ++ (ending_text c.steps e ++ 10 ∷ [])))));
    } in
    subst (λ x. IsPutTogether x bytes) (trace_same u t h) whole

ended_all : (c : Course) (bytes rest : List ℕ) (n : ℕ) (b : Bool) (t : Trace) → (length rest == 0) ≡ b → end_reading c n b ≡ A_trace t → SoFar c bytes → IsPutTogether t (bytes ++ rest)
ended_all c bytes rest n false t f h s = absurd cc
ended_all c bytes rest n true t f h s =
    subst (λ l. IsPutTogether t l) (sym (append-nil bytes) ∙ ap (λ l. bytes ++ l) (sym (nil_from_length rest (eqb-true (length rest) 0 f)))) (ended_by c bytes n c.ending t refl h s)

gone : (n : ℕ) (o : Option Course) (more : Course → Reading) (t : Trace) (P : Type 0) → gone_on n o more ≡ A_trace t → ((d : Course) → o ≡ Some d → more d ≡ A_trace t → P) → P
gone n None more t P h f = absurd cc
gone n (Some d) more t P h f = f d refl h

all_last : (c : Course) (bytes : List ℕ) (n : ℕ) (lines : List (List ℕ)) (rest : List ℕ) (t : Trace) → reading_from c n lines rest ≡ A_trace t → SoFar c bytes → IsPutTogether t (bytes ++ (joined lines ++ rest))
unfolding reading_from
all_last c bytes n [] rest t h s = ended_all c bytes rest n (length rest == 0) t refl h s
all_last c bytes n (line ∷ lines) rest t h s =
    gone n (with_line_more c line) (λ d. reading_from d (n + 1) lines rest) t _ h
    (λ d e r. subst (λ l. IsPutTogether t l)
    (append_assoc bytes line (joined lines ++ rest) ∙ ap (λ l. bytes ++ l) (sym (append_assoc line (joined lines) rest)))
    (all_last d (bytes ++ line) (n + 1) lines rest t r (line_last c d bytes line e s)))

first_last : (line : List ℕ) (d : Course) → with_line_more nothing_said line ≡ Some d → SoFar d line
unfolding with_line_more with_first first_line
first_last line d h =
    let found = only_some (same_units line (codes "lava-trace 1\n")) (Some (begun_with [])) d h in
    let start : SoFar (begun_with []) line = record { told = []; begun = refl; lines = refl; named = refl; text = same_from line (codes "lava-trace 1\n") found.0 } in
    subst (λ x. SoFar x line) (some_same (begun_with []) d found.1) start

no_text : (n : ℕ) (b : Bool) (rest : List ℕ) (t : Trace) → end_reading nothing_said n b ≡ A_trace t → IsPutTogether t rest
no_text n true rest t h = absurd cc
no_text n false rest t h = absurd cc

from_first : (n : ℕ) (lines : List (List ℕ)) (rest : List ℕ) (t : Trace) → reading_from nothing_said n lines rest ≡ A_trace t → IsPutTogether t (joined lines ++ rest)
unfolding reading_from
from_first n [] rest t h = no_text n (length rest == 0) rest t h
from_first n (line ∷ lines) rest t h =
    gone n (with_line_more nothing_said line) (λ d. reading_from d (n + 1) lines rest) t _ h
    (λ d e r. subst (λ l. IsPutTogether t l) (sym (append_assoc line (joined lines) rest)) (all_last d line (n + 1) lines rest t r (first_last line d e)))

cut_front_joins : (b : ℕ) (lines : List (List ℕ)) (rest : List ℕ) → b ∷ (joined lines ++ rest) ≡ joined (in_front b lines rest).lines ++ (in_front b lines rest).rest
cut_front_joins b [] rest = refl
cut_front_joins b (line ∷ lines) rest = refl

cut_choice : (t : Bool) (b : ℕ) (c : Cut) → b ∷ (joined c.lines ++ c.rest)
    ≡ joined (cond t (record { lines = (b ∷ []) ∷ c.lines; rest = c.rest }) (in_front b c.lines c.rest)).lines ++ (cond t (record { lines = (b ∷ []) ∷ c.lines; rest = c.rest }) (in_front b c.lines c.rest)).rest
cut_choice true b c = refl
cut_choice false b c = cut_front_joins b c.lines c.rest

cut_joins : (bs : List ℕ) → bs ≡ joined (cut bs).lines ++ (cut bs).rest
unfolding cut
cut_joins [] = refl
cut_joins (b ∷ bs) = ap (λ l. b ∷ l) (cut_joins bs) ∙ cut_choice (b == 10) b (cut bs)

-- a text that is read as a trace is its lines, put together
pub read_was_written : (bytes : List ℕ) (t : Trace) → reading_of bytes ≡ A_trace t → IsPutTogether t bytes
read_was_written bytes t h = subst (λ l. IsPutTogether t l) (sym (cut_joins bytes)) (from_first 1 (cut bytes).lines (cut bytes).rest t h)
