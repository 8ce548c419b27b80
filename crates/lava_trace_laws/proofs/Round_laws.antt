-- The text of a trace is its lines.
use Rattle.std.proofs.Common.{◌≡◌, ℕ, zero, suc, ◌+◌, ◌<◌, ◌≤◌, ◌^◌, ◌==◌, true, not, cond, List, [], ◌∷◌, ◌++◌, codes, decimal, length, sum, slice_index, refl, ap, ◌∙◌, sym, subst, arith}
use Rattle.std.proofs.lemmas.Bool.{and_parts, not-true}
use Rattle.std.proofs.lemmas.List.{append_assoc, append-nil, length_push}
use Rattle.js_text.specs.Utf8.{units_of}
use Rattle.js_desc.specs.declared.ending.Ending.{Ending}
use Rattle.js_desc.specs.declared.ending.Ending.TheVariants as ending
use Rattle.lava_journal.specs.Lines.{HasSteps, end_text, ending_text, ended_at, first_line, party_line, party_lines, steps_line, steps_lines}
use Rattle.lava_journal.specs.Quotes.{quoted}
use Rattle.lava_journal.specs.Sheets.{TraceNames, no_names}
use Rattle.lava_trace.specs.Courses.{nothing_said, opened, opens, wanted}
use Rattle.lava_trace.specs.Traces.{A_trace, Cut, cut, in_front, reading_from, reading_of}
use Rattle.lava_trace.specs.declared.answers.AnswerKind.{AnswerKind}
use Rattle.lava_trace.specs.declared.left.TheConstants.{MAX_PARTY}
use Rattle.lava_trace.specs.declared.line.Trace.{Trace}
use Rattle.lava_trace.specs.declared.line.TraceLine.{TraceLine}
use Rattle.lava_trace_laws.specs.Spelled.{spelled, start_of}
use Rattle.lava_trace_laws.specs.Written.{IsLawful, MayBegin, MayGoOn, crossing_lines, line_of, parties_then, text_of}
use Rattle.lava_trace_laws.proofs.Clean_laws.{clean, clean_append, number_clean, spelled_clean, text_clean}
use Rattle.lava_trace_laws.proofs.Course_laws.{line_text, sum_cons, told_pieces}
use Rattle.lava_trace_laws.proofs.Piece_laws.{crossing_clean}
use Rattle.lava_trace_laws.proofs.Trip_laws.{crossing_list, few_steps, last_list, line_list, lines_tell, party_list, steps_list}

-- LINES

-- a line ends with its one LF
pub record IsLine (line : List ℕ) : Type 0 where
  pub front : List ℕ
  pub clean : clean front ≡ true
  pub whole : line ≡ front ++ 10 ∷ []

abbrev pub AreLines : List (List ℕ) → Type 0
AreLines [] = Unit {0}
AreLines (line ∷ lines) = IsLine line × AreLines lines

abbrev pub joined : List (List ℕ) → List ℕ
joined [] = []
joined (line ∷ lines) = line ++ joined lines

cut_front : (bs rest : List ℕ) → clean bs ≡ true → cut (bs ++ 10 ∷ rest) ≡ record { lines = (bs ++ 10 ∷ []) ∷ (cut rest).lines; rest = (cut rest).rest }
unfolding cut
cut_front [] rest h = refl
cut_front (b ∷ bs) rest h =
    let parts = and_parts (not (b == 10)) (clean bs) h in
    let all = bs ++ 10 ∷ rest in
    ap (λ t. cond t (record { lines = (b ∷ []) ∷ (cut all).lines; rest = (cut all).rest }) (in_front b (cut all).lines (cut all).rest)) (not-true (b == 10) parts.0)
    ∙ ap (λ (c : Cut). in_front b c.lines c.rest) (cut_front bs rest parts.1)

cut_line : (line rest : List ℕ) → IsLine line → cut (line ++ rest) ≡ record { lines = line ∷ (cut rest).lines; rest = (cut rest).rest }
cut_line line rest l =
    ap (λ x. cut (x ++ rest)) l.whole ∙ ap cut (append_assoc l.front (10 ∷ []) rest) ∙ cut_front l.front rest l.clean
    ∙ ap (λ x. record { lines = x ∷ (cut rest).lines; rest = (cut rest).rest }) (sym l.whole)

pub cut_joined : (lines : List (List ℕ)) → AreLines lines → cut (joined lines) ≡ record { lines = lines; rest = [] }
unfolding cut
cut_joined [] h = refl
cut_joined (line ∷ lines) h = cut_line line (joined lines) h.0 ∙ ap (λ (c : Cut). record { lines = line ∷ c.lines; rest = c.rest }) (cut_joined lines h.1)

joined_append : (a b : List (List ℕ)) → joined (a ++ b) ≡ joined a ++ joined b
joined_append [] b = refl
joined_append (x ∷ a) b = ap (λ l. x ++ l) (joined_append a b) ∙ sym (append_assoc x (joined a) (joined b))

are_append : (a b : List (List ℕ)) → AreLines a → AreLines b → AreLines (a ++ b)
are_append [] b h k = k
are_append (x ∷ a) b h k = (h.0, are_append a b h.1 k)

-- THE TEXT IS ITS LINES

parties_joined : (n : ℕ) (names : List (List ℕ)) → joined (party_list n names) ≡ party_lines n names
parties_joined n [] = refl
parties_joined n (name ∷ names) = ap (λ l. party_line n name ++ l) (parties_joined (n + 1) names)

crossings_joined : (names : TraceNames) (number : ℕ) (ls : List TraceLine) → joined (crossing_list names number ls) ≡ crossing_lines names number ls
crossings_joined names number [] = refl
crossings_joined names number (l ∷ ls) = ap (λ x. (line_of names number l).text ++ x) (crossings_joined (line_of names number l).names (number + 1) ls)

steps_joined : (n : ℕ) (counts : List ℕ) → joined (steps_list n counts) ≡ steps_lines n counts
steps_joined n [] = refl
steps_joined n (count ∷ counts) = ap (λ l. steps_line n count ++ l) (steps_joined (n + 1) counts)

text_joined : (t : Trace) → joined (line_list t) ≡ text_of t
unfolding first_line
text_joined t =
    let ps = party_list 0 t.parties in
    let cs = crossing_list no_names 1 t.lines in
    let ss = steps_list 0 t.steps in
    let ends = last_list t.steps t.ending in
    ap (λ l. codes "lava-trace 1\n" ++ l)
    (joined_append ps (cs ++ (ss ++ ends))
    ∙ (λ k. parties_joined 0 t.parties k ++ joined_append cs (ss ++ ends) k)
    ∙ (λ k. party_lines 0 t.parties ++ (crossings_joined no_names 1 t.lines k ++ joined_append ss ends k))
    ∙ (λ k. party_lines 0 t.parties ++ (crossing_lines no_names 1 t.lines ++ (steps_joined 0 t.steps k ++ append-nil (codes "end " ++ (ending_text t.steps t.ending ++ 10 ∷ [])) k))))
    ∙ sym (append_assoc (codes "lava-trace 1\n") (party_lines 0 t.parties) (crossing_lines no_names 1 t.lines ++ end_text t.steps t.ending))

-- EACH LINE HAS ONE LF

party_is_line : (n : ℕ) (name : List ℕ) → n < 2 ^ 64 → IsLine (party_line n name)
party_is_line n name few = record {
  front = codes "party " ++ (decimal n ++ (32 ∷ quoted (units_of name)));
  clean = clean_append (codes "party ") (decimal n ++ (32 ∷ quoted (units_of name))) refl (clean_append (decimal n) (32 ∷ quoted (units_of name)) (number_clean n few) (text_clean (units_of name)));
  whole = ap (λ l. codes "party " ++ l) (sym (append_assoc (decimal n) (32 ∷ quoted (units_of name)) (10 ∷ [])));
}

parties_are_lines : (before names : List (List ℕ)) → MayBegin before names → AreLines (party_list (length before) names)
parties_are_lines before [] m = tt
parties_are_lines before (name ∷ names) m = (
  party_is_line (length before) name (omega (arith, m.2)),
  subst (λ (n : ℕ). AreLines (party_list n names)) (length_push before name) (parties_are_lines (before ++ name ∷ []) names m.3),
)

crossings_are_lines : (parties : ℕ) (asks : List AnswerKind) (names : TraceNames) (number : ℕ) (ls : List TraceLine) → MayGoOn parties asks names number ls → AreLines (crossing_list names number ls)
crossings_are_lines parties asks names number [] m = tt
crossings_are_lines parties asks names number (l ∷ ls) m =
    let x = l.crossing in (
      record {
        front = spelled names l.marks (told_pieces number x);
        clean = spelled_clean l.marks (start_of names) (told_pieces number x) (crossing_clean (wanted asks) number x m.1 m.0.sound) (tt, (tt, (tt, (tt, (tt, (tt, m.0.named))))));
        whole = line_text names number x l.marks;
      },
      crossings_are_lines (parties_then parties l) (opened asks (opens x.body)) (line_of names number l).names (number + 1) ls m.2,
    )

steps_are_lines : (n : ℕ) (counts : List ℕ) → n + length counts ≤ MAX_PARTY + 1 → sum counts < 2 ^ 64 → AreLines (steps_list n counts)
steps_are_lines n [] few small = tt
steps_are_lines n (count ∷ counts) few small =
    let sums = sum_cons count counts in (
      record {
        front = codes "steps " ++ (decimal n ++ (32 ∷ decimal count));
        clean = clean_append (codes "steps ") (decimal n ++ (32 ∷ decimal count)) refl (clean_append (decimal n) (32 ∷ decimal count) (number_clean n (omega (arith, few))) (number_clean count (omega (arith, sums, small))));
        whole = ap (λ l. codes "steps " ++ l) (sym (append_assoc (decimal n) (32 ∷ decimal count) (10 ∷ [])));
      },
      steps_are_lines (n + 1) counts (omega (arith, few)) (omega (arith, sums, small)),
    )

part_small : (xs : List ℕ) (i : ℕ) → slice_index xs i ≤ sum xs
part_small [] i = omega arith
part_small (x ∷ xs) zero = omega (arith, sum_cons x xs)
part_small (x ∷ xs) (suc i) = omega (arith, sum_cons x xs, part_small xs i)

ended_clean : (word : List ℕ) (p n : ℕ) → clean word ≡ true → p < 2 ^ 64 → n < 2 ^ 64 → clean (ended_at word p n) ≡ true
ended_clean word p n h k l = clean_append word (decimal p ++ (32 ∷ decimal n)) h (clean_append (decimal p) (32 ∷ decimal n) (number_clean p k) (number_clean n l))

ending_clean : (steps : List ℕ) (e : Ending) → HasSteps steps e → length steps ≤ MAX_PARTY + 1 → sum steps < 2 ^ 64 → clean (ending_text steps e) ≡ true
ending_clean steps ending.Done h few small = refl
ending_clean steps ending.Uncaught h few small = refl
ending_clean steps ending.Outside h few small = refl
ending_clean steps (ending.Number p) h few small = ended_clean (codes "Number ") p.0 (slice_index steps p.0) refl (omega (arith, h, few)) (omega (arith, part_small steps p.0, small))
ending_clean steps (ending.Text p) h few small = ended_clean (codes "Text ") p.0 (slice_index steps p.0) refl (omega (arith, h, few)) (omega (arith, part_small steps p.0, small))
ending_clean steps (ending.Depth p) h few small = ended_clean (codes "Depth ") p.0 (slice_index steps p.0) refl (omega (arith, h, few)) (omega (arith, part_small steps p.0, small))
ending_clean steps (ending.Parties p) h few small = ended_clean (codes "Parties ") p.0 (slice_index steps p.0) refl (omega (arith, h, few)) (omega (arith, part_small steps p.0, small))
ending_clean steps (ending.Budget p) h few small = ended_clean (codes "Budget ") p.0 (sum steps) refl (omega (arith, h, few)) small

end_is_line : (steps : List ℕ) (e : Ending) → HasSteps steps e → length steps ≤ MAX_PARTY + 1 → sum steps < 2 ^ 64 → AreLines (last_list steps e)
end_is_line steps e h few small =
    (record { front = codes "end " ++ ending_text steps e; clean = ending_clean steps e h few small; whole = refl }, tt)

lines_are_lines : (t : Trace) → IsLawful t → AreLines (line_list t)
lines_are_lines t o = (
  record { front = codes "lava-trace 1"; clean = refl; whole = refl },
  are_append (party_list 0 t.parties) _ (parties_are_lines [] t.parties o.parties)
      (are_append (crossing_list no_names 1 t.lines) _ (crossings_are_lines (length t.parties) [] no_names 1 t.lines o.lines)
      (are_append (steps_list 0 t.steps) _ (steps_are_lines 0 t.steps (let few = few_steps t o in omega (arith, few)) o.total) (end_is_line t.steps t.ending o.ending (few_steps t o) o.total))),
)

-- the text of a lawful trace is read as this trace
pub written_is_read : (t : Trace) → IsLawful t → reading_of (text_of t) ≡ A_trace t
written_is_read t o =
    ap (λ bs. reading_of bs) (sym (text_joined t))
    ∙ ap (λ (c : Cut). reading_from nothing_said 1 c.lines c.rest) (cut_joined (line_list t) (lines_are_lines t o))
    ∙ lines_tell t o 1

one_reading : (t u : Trace) → A_trace t ≡ A_trace u → t ≡ u
one_reading t u h = cc

pub one_text : (t u : Trace) → IsLawful t → IsLawful u → text_of t ≡ text_of u → t ≡ u
one_text t u o p h = one_reading t u (sym (written_is_read t o) ∙ ap (λ bs. reading_of bs) h ∙ written_is_read u p)
