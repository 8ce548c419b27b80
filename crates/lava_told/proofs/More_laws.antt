-- A text that grows by a line is the text of all its crossings.
use Rattle.std.proofs.Common.{◌≡◌, ℕ, ◌+◌, List, [], ◌∷◌, ◌++◌, length, ap, ◌∙◌, sym, arith}
use Rattle.std.proofs.lemmas.List.{append_assoc, append-nil, length_push}
use Rattle.js_desc.specs.declared.ending.Ending.{Ending}
use Rattle.lava_journal.specs.Lines.{end_text, start_text}
use Rattle.lava_journal.specs.Sheets.{TraceNames, no_names}
use Rattle.lava_trace.specs.declared.line.TraceLine.{TraceLine}
use Rattle.lava_trace_laws.specs.Written.{crossing_lines, line_of, text_of}
use Rattle.lava_told.specs.Laws.{IsSoFar}
use Rattle.lava_told.specs.Told.{names_after}

first : (n : ℕ) → n ≡ 0 + n
first n = omega arith

text_more : (ls : List TraceLine) (l : TraceLine) (names : TraceNames) (number : ℕ)
    → crossing_lines names number (ls ++ l ∷ []) ≡ crossing_lines names number ls ++ (line_of (names_after names number ls) (length ls + number) l).text
text_more [] l names number = append-nil (line_of names number l).text ∙ ap (λ (n : ℕ). (line_of names n l).text) (first number)
text_more (x ∷ ls) l names number =
    let next = (line_of names number x).names in
    let line = (line_of names number x).text in
    let count : length ls + (number + 1) ≡ length (x ∷ ls) + number = omega arith in
    ap (λ t. line ++ t) (text_more ls l next (number + 1))
    ∙ ap (λ (n : ℕ). line ++ (crossing_lines next (number + 1) ls ++ (line_of (names_after next (number + 1) ls) n l).text)) count
    ∙ sym (append_assoc line (crossing_lines next (number + 1) ls) (line_of (names_after next (number + 1) ls) (length (x ∷ ls) + number) l).text)

names_more : (ls : List TraceLine) (l : TraceLine) (names : TraceNames) (number : ℕ)
    → names_after names number (ls ++ l ∷ []) ≡ (line_of (names_after names number ls) (length ls + number) l).names
names_more [] l names number = ap (λ (n : ℕ). (line_of names n l).names) (first number)
names_more (x ∷ ls) l names number =
    let next = (line_of names number x).names in
    let count : length ls + (number + 1) ≡ length (x ∷ ls) + number = omega arith in
    names_more ls l next (number + 1) ∙ ap (λ (n : ℕ). (line_of (names_after next (number + 1) ls) n l).names) count

pub one_line_more : (parties : List (List ℕ)) (ls : List TraceLine) (text : List ℕ) (names : TraceNames) (count : ℕ) (l : TraceLine) → IsSoFar parties ls text names count
    → IsSoFar parties (ls ++ l ∷ []) (text ++ (line_of names (count + 1) l).text) (line_of names (count + 1) l).names (count + 1)
one_line_more parties ls text names count l s =
    let start = start_text parties in
    let lines = crossing_lines no_names 1 ls in
    let next : count + 1 ≡ length ls + 1 = ap (λ (n : ℕ). n + 1) s.count_is in
    record {
      text_is =
          (λ k. s.text_is k ++ (line_of (s.names_is k) (next k) l).text)
          ∙ append_assoc start lines (line_of (names_after no_names 1 ls) (length ls + 1) l).text
          ∙ ap (λ t. start ++ t) (sym (text_more ls l no_names 1));
      names_is = (λ k. (line_of (s.names_is k) (next k) l).names) ∙ sym (names_more ls l no_names 1);
      count_is = next ∙ sym (length_push ls l);
    }

pub end_goes_last : (parties : List (List ℕ)) (ls : List TraceLine) (text : List ℕ) (names : TraceNames) (count : ℕ) (steps : List ℕ) (ending : Ending) → IsSoFar parties ls text names count
    → text ++ end_text steps ending ≡ text_of (record { parties = parties; lines = ls; steps = steps; ending = ending })
end_goes_last parties ls text names count steps ending s =
    ap (λ t. t ++ end_text steps ending) s.text_is ∙ append_assoc (start_text parties) (crossing_lines no_names 1 ls) (end_text steps ending)
