-- The told lines, one after the other: they have the run's text, and may stand one behind the other.
use Rattle.std.proofs.Common.{◌≡◌, ℕ, ◌+◌, if◌then◌else◌, List, [], ◌∷◌, ◌++◌, codes, decimal, length, map, refl, ap, ◌∙◌, sym, subst}
use Rattle.std.proofs.lemmas.List.{append_assoc}
use Rattle.lava_base.specs.declared.ids.MadeSymbol.{MadeSymbol}
use Rattle.lava_base.specs.declared.ids.Ref.{Ref}
use Rattle.js_desc.specs.declared.crossing.Crossing.{Crossing}
use Rattle.lava_journal.specs.Bodies.{Pieces, body_pieces, plain}
use Rattle.lava_journal.specs.Lines.{crossing_line, end_text, line_pieces, start_text}
use Rattle.lava_journal.specs.Sheets.{TraceNames, blank, no_names}
use Rattle.lava_trace.specs.Courses.{opened, opens, wanted}
use Rattle.lava_trace.specs.declared.answers.AnswerKind.{AnswerKind}
use Rattle.lava_trace.specs.declared.line.Trace.{Trace}
use Rattle.lava_trace.specs.declared.line.TraceLine.{TraceLine}
use Rattle.lava_trace_laws.specs.Spelled.{HaveMarks, HaveNames, Listed, piece_names, piece_text, spelled}
use Rattle.lava_trace_laws.specs.Written.{IsLawful, MayGoOn, MayStand, crossing_lines, line_of, parties_behind, parties_then, text_of}
use Rattle.lava_trace_laws.proofs.Line_laws.{names_behind, sheet_is}
use Rattle.lava_view.proofs.Piece_laws.{body_renamed}
use Rattle.lava_told.specs.Told.{MayAllBeSaid, MayBeSaid, MayBeTold, names_after, renumbered, renumbered_crossing, renumbered_marks, renumbered_symbol, told, told_line, told_lines}
use Rattle.lava_told.proofs.Counted_laws.{Counted, Grows, behind_counted, behind_grows, counted_first, grows_not, grows_on}
use Rattle.lava_told.proofs.Mark_laws.{finds_in_line, marks_are, marks_from}
use Rattle.lava_told.proofs.Naming_laws.{Tells, tells_first}
use Rattle.lava_told.proofs.Sound_laws.{cross_same, crossing_sound, make_same, opens_same}
use Rattle.lava_told.proofs.Step_laws.{AreIds, AllTold, all_told, others}

-- A LINE AND WHAT CROSSES IN IT

spelled_append : (names : TraceNames) (listed : Listed) (a b : Pieces Ref MadeSymbol) → spelled names listed (a ++ b) ≡ spelled names listed a ++ spelled (names_behind names a) listed b
spelled_append names listed [] b = refl
spelled_append names listed (x ∷ a) b =
    ap (λ l. piece_text names listed x ++ l) (spelled_append (piece_names names x) listed a b)
    ∙ sym (append_assoc (piece_text names listed x) (spelled (piece_names names x) listed a) (spelled (names_behind (piece_names names x) a) listed b))

behind_append : (names : TraceNames) (a b : Pieces Ref MadeSymbol) → names_behind names (a ++ b) ≡ names_behind (names_behind names a) b
behind_append names [] b = refl
behind_append names (x ∷ a) b = behind_append (piece_names names x) a b

-- the bytes of a line, where what crosses has these
abbrev line_text : ℕ → (from to : ℕ) → List ℕ → List ℕ
line_text number from to l = decimal number ++ (codes " " ++ (decimal from ++ (codes ">" ++ (decimal to ++ (codes " " ++ (l ++ (codes "\n" ++ [])))))))

line_is : (names : TraceNames) (number : ℕ) (x : Crossing Ref MadeSymbol) (listed : Listed)
    → (crossing_line names number x listed).text ≡ line_text number x.from.0 x.to.0 (spelled names listed (body_pieces x.body))
line_is names number x listed =
    ap (λ s. s.text) (sheet_is (blank names listed) (line_pieces number x))
    ∙ ap (λ l. decimal number ++ (codes " " ++ (decimal x.from.0 ++ (codes ">" ++ (decimal x.to.0 ++ (codes " " ++ l)))))) (spelled_append names listed (body_pieces x.body) (plain (codes "\n")))

pub names_are : (names : TraceNames) (number : ℕ) (x : Crossing Ref MadeSymbol) (listed : Listed) → (crossing_line names number x listed).names ≡ names_behind names (body_pieces x.body)
names_are names number x listed =
    ap (λ s. s.names) (sheet_is (blank names listed) (line_pieces number x)) ∙ behind_append names (body_pieces x.body) (plain (codes "\n"))

line_grows : (names : TraceNames) (number : ℕ) (l : TraceLine) → Grows names (line_of names number l).names
line_grows names number l = subst (Grows names) (sym (names_are names number l.crossing l.marks)) (behind_grows names (body_pieces l.crossing.body))

after_grows : (names : TraceNames) (number : ℕ) (ls : List TraceLine) → Grows names (names_after names number ls)
after_grows names number [] = grows_not names
after_grows names number (l ∷ ls) =
    let next = (line_of names number l).names in
    grows_on names next (names_after next (number + 1) ls) (line_grows names number l) (after_grows next (number + 1) ls)

after_counted : (names : TraceNames) (number : ℕ) (ls : List TraceLine) → Counted names → Counted (names_after names number ls)
after_counted names number [] c = c
after_counted names number (l ∷ ls) c =
    after_counted (line_of names number l).names (number + 1) ls (subst Counted (sym (names_are names number l.crossing l.marks)) (behind_counted names (body_pieces l.crossing.body) c))

-- TOLD LINES

module _ (named : TraceNames) (c : Counted named) where
  abbrev pieces : TraceLine → Pieces Ref MadeSymbol
  pieces l = body_pieces l.crossing.body

  abbrev other_pieces : TraceNames → TraceLine → Pieces Ref MadeSymbol
  other_pieces names l = body_pieces (told_line named names l).crossing.body

  abbrev marks : TraceNames → TraceLine → Listed
  marks names l = (told_line named names l).marks

  abbrev found : TraceNames → TraceLine → Listed
  found names l = map (renumbered_marks named) (marks_from names l.marks (pieces l))

  -- what is told has the pieces under numbers, and the marks that stand in the line
  pieces_are : (names : TraceNames) (l : TraceLine) → other_pieces names l ≡ others named c (pieces l)
  pieces_are names l = body_renamed (renumbered named) (renumbered_symbol named) l.crossing.body

  found_are : (names : TraceNames) (l : TraceLine) → marks names l ≡ found names l
  found_are names l = ap (map (renumbered_marks named)) (marks_are names l.marks (pieces l))

  -- one line, beside the run's own
  record LineTold (names told : TraceNames) (number : ℕ) (l : TraceLine) : Type 0 where
    text : (line_of told number (told_line named names l)).text ≡ (line_of names number l).text
    step : Tells named (line_of names number l).names (line_of told number (told_line named names l)).names
    counted : Counted (line_of told number (told_line named names l)).names
    may : AreIds named c → (parties : ℕ) (asks : List AnswerKind) → MayBeSaid parties asks names l → MayStand parties asks told (told_line named names l)

  line_told : (l : TraceLine) (names told : TraceNames) (number : ℕ) → Counted told → Tells named names told → Grows (line_of names number l).names named → LineTold names told number l
  line_told l names told number d t g =
      let e = pieces_are names l in
      let m = found_are names l in
      let x = renumbered_crossing named l.crossing in
      let far : Grows (names_behind names (pieces l)) named = subst (λ n. Grows n named) (names_are names number l.crossing l.marks) g in
      let a : AllTold named c names told l.marks (found names l) (pieces l) =
      all_told named c (pieces l) names told l.marks (found names l) d t far (finds_in_line named c l.marks names (pieces l) far) in
      let there : (line_of told number (told_line named names l)).names ≡ names_behind told (others named c (pieces l)) =
      names_are told number x (marks names l) ∙ ap (names_behind told) e in
      record {
        text =
            line_is told number x (marks names l)
            ∙ ap (line_text number l.crossing.from.0 l.crossing.to.0) ((λ k. spelled told (m k) (e k)) ∙ a.text)
            ∙ sym (line_is names number l.crossing l.marks);
        step = subst (λ n. Tells named n (line_of told number (told_line named names l)).names) (sym (names_are names number l.crossing l.marks))
            (subst (Tells named (names_behind names (pieces l))) (sym there) a.step);
        counted = subst Counted (sym there) (behind_counted told (others named c (pieces l)) d);
        may = λ ids parties asks h. record {
          sound = crossing_sound (renumbered named) (renumbered_symbol named) (wanted asks) l.crossing h.sound;
          between = cross_same (renumbered named) (renumbered_symbol named) parties l.crossing ∙ h.between;
          named = subst (HaveNames told) (sym e) (a.number ids h.owned);
          marked = coe 1 0 (k. HaveMarks told (m k) (e k)) (a.marked h.marked);
          marks = marks_are told (marks names l) (other_pieces names l) ∙ (λ k. marks_from told (m k) (e k)) ∙ a.marks ∙ sym m;
        };
      }

  parties_same : (names : TraceNames) (n : ℕ) (l : TraceLine) → parties_then n (told_line named names l) ≡ parties_then n l
  parties_same names n l = ap (λ b. if b then n + 1 else n) (make_same (renumbered named) (renumbered_symbol named) l.crossing.body)

  pub parties_all : (ls : List TraceLine) (names : TraceNames) (number n : ℕ) → parties_behind n (told_lines named names number ls) ≡ parties_behind n ls
  parties_all [] names number n = refl
  parties_all (l ∷ ls) names number n =
      let next = (line_of names number l).names in
      ap (λ m. parties_behind m (told_lines named next (number + 1) ls)) (parties_same names n l) ∙ parties_all ls next (number + 1) (parties_then n l)

  -- all lines
  pub lines_text : (ls : List TraceLine) (names told : TraceNames) (number : ℕ) → Counted told → Tells named names told → Grows (names_after names number ls) named
      → crossing_lines told number (told_lines named names number ls) ≡ crossing_lines names number ls
  lines_text [] names told number d t g = refl
  lines_text (l ∷ ls) names told number d t g =
      let next = (line_of names number l).names in
      let one = line_told l names told number d t (grows_on next (names_after next (number + 1) ls) named (after_grows next (number + 1) ls) g) in
      (λ k. one.text k ++ lines_text ls next (line_of told number (told_line named names l)).names (number + 1) one.counted one.step g k)

  pub lines_may : (ls : List TraceLine) (names told : TraceNames) (number parties : ℕ) (asks : List AnswerKind) → Counted told → Tells named names told → Grows (names_after names number ls) named
      → AreIds named c → MayAllBeSaid parties asks names number ls → MayGoOn parties asks told number (told_lines named names number ls)
  lines_may [] names told number parties asks d t g ids h = tt
  lines_may (l ∷ ls) names told number parties asks d t g ids h =
      let next = (line_of names number l).names in
      let now = (line_of told number (told_line named names l)).names in
      let one = line_told l names told number d t (grows_on next (names_after next (number + 1) ls) named (after_grows next (number + 1) ls) g) in
      let rest = lines_may ls next now (number + 1) (parties_then parties l) (opened asks (opens l.crossing.body)) one.counted one.step g ids h.2 in (
        one.may ids parties asks h.0,
        h.1,
        coe 1 0 (k. MayGoOn (parties_same names parties l k) (opened asks (opens_same (renumbered named) (renumbered_symbol named) l.crossing.body k)) now (number + 1) (told_lines named next (number + 1) ls)) rest,
      )

-- THE LAWS

abbrev last : Trace → TraceNames
last t = names_after no_names 1 t.lines

last_counted : (t : Trace) → Counted (last t)
last_counted t = after_counted no_names 1 t.lines counted_first

pub told_has_the_text : (t : Trace) → text_of (told t) ≡ text_of t
told_has_the_text t =
    ap (λ l. start_text t.parties ++ (l ++ end_text t.steps t.ending))
    (lines_text (last t) (last_counted t) t.lines no_names no_names 1 counted_first (tells_first (last t)) (grows_not (last t)))

pub told_is_lawful : (t : Trace) → MayBeTold t → IsLawful (told t)
told_is_lawful t h = record {
  two = h.two;
  parties = h.parties;
  lines = lines_may (last t) (last_counted t) t.lines no_names no_names 1 (length t.parties) [] counted_first (tells_first (last t)) (grows_not (last t)) h.numbers h.lines;
  steps = h.steps ∙ sym (parties_all (last t) (last_counted t) t.lines no_names 1 (length t.parties));
  total = h.total;
  ending = h.ending;
}
