-- The lines of a trace, one after the other, are read as this trace.
use Rattle.std.proofs.Common.{◌≡◌, ℕ, ◌+◌, ◌<◌, ◌≤◌, ◌^◌, ◌==◌, Bool, true, false, ◌&&◌, not, cond, nat_le, nat_lt, List, [], ◌∷◌, ◌++◌, codes, length, sum, Some, None, refl, ap, sym, subst, arith, le-leb, leb-true, lt-ltb, eq-eqb}
use Rattle.std.proofs.lemmas.Bool.{and_parts}
use Rattle.std.proofs.lemmas.List.{append_assoc, append-nil, length_push}
use Rattle.js_desc.specs.declared.ending.Ending.{Ending}
use Rattle.lava_journal.specs.Lines.{HasSteps, ending_text, party_line, steps_line}
use Rattle.lava_journal.specs.Sheets.{TraceNames, no_names}
use Rattle.lava_trace.specs.Courses.{Course, is_make, may_cross, nothing_said, opened, opens, with_first, with_line_more}
use Rattle.lava_trace.specs.Traces.{reading_from}
use Rattle.lava_trace.specs.declared.answers.AnswerKind.{AnswerKind}
use Rattle.lava_trace.specs.declared.left.TheConstants.{MAX_PARTY}
use Rattle.lava_trace.specs.declared.line.Trace.{Trace}
use Rattle.lava_trace.specs.declared.line.TraceLine.{TraceLine}
use Rattle.lava_trace_laws.specs.Written.{IsLawful, MayBegin, MayGoOn, line_of, parties_behind, parties_then}
use Rattle.lava_trace_laws.proofs.Course_laws.{Tells, begun_with, crossed, crossing_taken, ending_taken, party_taken, steps_taken, sum_cons, taken}

-- THE LINES

abbrev pub party_list : ℕ → List (List ℕ) → List (List ℕ)
party_list n [] = []
party_list n (name ∷ names) = party_line n name ∷ party_list (n + 1) names

abbrev pub crossing_list : TraceNames → ℕ → List TraceLine → List (List ℕ)
crossing_list names number [] = []
crossing_list names number (l ∷ ls) = (line_of names number l).text ∷ crossing_list (line_of names number l).names (number + 1) ls

abbrev pub steps_list : ℕ → List ℕ → List (List ℕ)
steps_list n [] = []
steps_list n (count ∷ counts) = steps_line n count ∷ steps_list (n + 1) counts

abbrev pub last_list : List ℕ → Ending → List (List ℕ)
last_list steps e = (codes "end " ++ (ending_text steps e ++ 10 ∷ [])) ∷ []

abbrev pub line_list : Trace → List (List ℕ)
line_list t = codes "lava-trace 1\n" ∷ (party_list 0 t.parties ++ (crossing_list no_names 1 t.lines ++ (steps_list 0 t.steps ++ last_list t.steps t.ending)))

-- THE COURSE THROUGH THEM

parties_told : (before names : List (List ℕ)) (more : List (List ℕ)) (t : Trace) → MayBegin before names
    → Tells (begun_with (before ++ names)) more t → Tells (begun_with before) (party_list (length before) names ++ more) t
parties_told before [] more t m tells = subst (λ l. Tells (begun_with l) more t) (append-nil before) tells
parties_told before (name ∷ names) more t m tells =
    taken (begun_with before) (begun_with (before ++ name ∷ [])) (party_line (length before) name) (party_list (length before + 1) names ++ more) t (party_taken before name m.0 m.1 m.2)
    (subst (λ (n : ℕ). Tells (begun_with (before ++ name ∷ [])) (party_list n names ++ more) t) (length_push before name)
    (parties_told (before ++ name ∷ []) names more t m.3
    (subst (λ l. Tells (begun_with l) more t) (sym (append_assoc before (name ∷ []) names)) tells)))

abbrev course : List (List ℕ) → ℕ → List TraceLine → TraceNames → List AnswerKind → List ℕ → Course
course names parties lines named asks steps =
    record { begun = true; names = names; parties = parties; lines = lines; named = named; unanswered = asks; steps = steps; ending = None }

crossings_told : (names : List (List ℕ)) (parties : ℕ) (lines : List TraceLine) (named : TraceNames) (asks : List AnswerKind) (ls : List TraceLine) (more : List (List ℕ)) (t : Trace)
    → 2 ≤ length names → MayGoOn parties asks named (length lines + 1) ls
    → ((named' : TraceNames) (asks' : List AnswerKind) → Tells (course names (parties_behind parties ls) (lines ++ ls) named' asks' []) more t)
    → Tells (course names parties lines named asks []) (crossing_list named (length lines + 1) ls ++ more) t
crossings_told names parties lines named asks [] more t two may tells = subst (λ l. Tells (course names parties l named asks []) more t) (append-nil lines) (tells named asks)
crossings_told names parties lines named asks (l ∷ ls) more t two may tells =
    let c = course names parties lines named asks [] in
    let d = crossed c l in
    let line = line_of named (length lines + 1) l in
    taken c d line.text (crossing_list line.names (length lines + 1 + 1) ls ++ more) t
    (crossing_taken c l refl (ap (λ (x : Bool). x && true && true) (le-leb 2 (length names) two)) may.1 may.0)
    (subst (λ (n : ℕ). Tells d (crossing_list line.names n ls ++ more) t) (ap (λ (n : ℕ). n + 1) (length_push lines l))
    (crossings_told names (parties_then parties l) (lines ++ l ∷ []) line.names (opened asks (opens l.crossing.body)) ls more t two
    (subst (λ (n : ℕ). MayGoOn (parties_then parties l) (opened asks (opens l.crossing.body)) line.names n ls) (sym (ap (λ (n : ℕ). n + 1) (length_push lines l))) may.2)
    (λ named' asks'. subst (λ x. Tells (course names (parties_behind (parties_then parties l) ls) x named' asks' []) more t) (sym (append_assoc lines (l ∷ []) ls)) (tells named' asks'))))

steps_told : (names : List (List ℕ)) (parties : ℕ) (lines : List TraceLine) (named : TraceNames) (asks : List AnswerKind) (done counts : List ℕ) (more : List (List ℕ)) (t : Trace)
    → 2 ≤ length names → length done + length counts ≡ parties → parties ≤ MAX_PARTY + 1 → sum counts < 2 ^ 64
    → Tells (course names parties lines named asks (done ++ counts)) more t
    → Tells (course names parties lines named asks done) (steps_list (length done) counts ++ more) t
steps_told names parties lines named asks done [] more t two all few small tells = subst (λ l. Tells (course names parties lines named asks l) more t) (append-nil done) tells
steps_told names parties lines named asks done (count ∷ counts) more t two all few small tells =
    let c = course names parties lines named asks done in
    let room : length done < parties = omega (arith, all) in
    let sums = sum_cons count counts in
    taken c (course names parties lines named asks (done ++ count ∷ [])) (steps_line (length done) count) (steps_list (length done + 1) counts ++ more) t
    (steps_taken c count refl (λ k. le-leb 2 (length names) two k && lt-ltb (length done) parties room k && true) (omega (arith, room, few)) (omega (arith, sums, small)))
    (subst (λ (n : ℕ). Tells (course names parties lines named asks (done ++ count ∷ [])) (steps_list n counts ++ more) t) (length_push done count)
    (steps_told names parties lines named asks (done ++ count ∷ []) counts more t two (omega (arith, all, length_push done count)) few (omega (arith, sums, small))
    (subst (λ l. Tells (course names parties lines named asks l) more t) (sym (append_assoc done (count ∷ []) counts)) tells)))

end_told : (names : List (List ℕ)) (parties : ℕ) (lines : List TraceLine) (named : TraceNames) (asks : List AnswerKind) (steps : List ℕ) (e : Ending)
    → 2 ≤ length names → length steps ≡ parties → length steps ≤ MAX_PARTY + 1 → sum steps < 2 ^ 64 → HasSteps steps e
    → Tells (course names parties lines named asks steps) (last_list steps e) (record { parties = names; lines = lines; steps = steps; ending = e })
unfolding reading_from
end_told names parties lines named asks steps e two all few small has =
    let c = course names parties lines named asks steps in
    taken c (record c { ending = Some e }) (codes "end " ++ (ending_text steps e ++ 10 ∷ [])) [] (record { parties = names; lines = lines; steps = steps; ending = e })
    (ending_taken c e refl (λ k. le-leb 2 (length names) two k && eq-eqb (length steps) parties all k && true) has few small)
    (λ n. refl)

first_taken : with_line_more nothing_said (codes "lava-trace 1\n") ≡ Some (begun_with [])
unfolding with_line_more with_first
first_taken = refl

-- THERE ARE NO MORE PARTIES THAN THERE MAY BE

begin_few : (before names : List (List ℕ)) → length before ≤ MAX_PARTY + 1 → MayBegin before names → length (before ++ names) ≤ MAX_PARTY + 1
begin_few before [] few m = omega (arith, few, ap length (append-nil before))
begin_few before (name ∷ names) few m =
    let more = begin_few (before ++ name ∷ []) names (omega (arith, m.2, length_push before name)) m.3 in
    omega (arith, more, ap length (append_assoc before (name ∷ []) names))

made_few : (makes : Bool) (parties : ℕ) (next other : Bool) → cond makes (next && nat_le parties MAX_PARTY) other ≡ true → parties ≤ MAX_PARTY + 1 → cond makes (parties + 1) parties ≤ MAX_PARTY + 1
made_few true parties next other h few = omega (arith, leb-true parties MAX_PARTY (and_parts next (nat_le parties MAX_PARTY) h).1)
made_few false parties next other h few = few

then_few : (parties : ℕ) (l : TraceLine) → may_cross parties l.crossing ≡ true → parties ≤ MAX_PARTY + 1 → parties_then parties l ≤ MAX_PARTY + 1
unfolding may_cross
then_few parties l h few =
    let x = l.crossing in
    made_few (is_make x.body) parties (x.to.0 == parties) (nat_lt x.to.0 parties && not (x.from.0 == x.to.0)) (and_parts (nat_lt x.from.0 parties) _ h).1 few

lines_few : (parties : ℕ) (asks : List AnswerKind) (names : TraceNames) (number : ℕ) (ls : List TraceLine) → parties ≤ MAX_PARTY + 1 → MayGoOn parties asks names number ls → parties_behind parties ls ≤ MAX_PARTY + 1
lines_few parties asks names number [] few m = few
lines_few parties asks names number (l ∷ ls) few m =
    lines_few (parties_then parties l) (opened asks (opens l.crossing.body)) (line_of names number l).names (number + 1) ls (then_few parties l m.0.between few) m.2

pub few_steps : (t : Trace) → IsLawful t → length t.steps ≤ MAX_PARTY + 1
few_steps t o =
    let first = begin_few [] t.parties (omega arith) o.parties in
    let all = lines_few (length t.parties) [] no_names 1 t.lines first o.lines in
    omega (arith, all, o.steps)

-- the lines of a lawful trace tell it
pub lines_tell : (t : Trace) → IsLawful t → Tells nothing_said (line_list t) t
lines_tell t o =
    let ends = last_list t.steps t.ending in
    let steps = steps_list 0 t.steps ++ ends in
    let rest = crossing_list no_names 1 t.lines ++ steps in
    let n = parties_behind (length t.parties) t.lines in
    taken nothing_said (begun_with []) (codes "lava-trace 1\n") (party_list 0 t.parties ++ rest) t first_taken
    (parties_told [] t.parties rest t o.parties
    (crossings_told t.parties (length t.parties) [] no_names [] t.lines steps t o.two o.lines
    (λ named asks. steps_told t.parties n t.lines named asks [] t.steps ends t o.two (let e : 0 + length t.steps ≡ n = omega (arith, o.steps) in e) (let few = few_steps t o in omega (arith, few, o.steps)) o.total
    (end_told t.parties n t.lines named asks t.steps t.ending o.two o.steps (few_steps t o) o.total o.ending))))
