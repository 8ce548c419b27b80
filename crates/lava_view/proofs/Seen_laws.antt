-- A line more of a trace, and what is seen of it.
use Rattle.std.proofs.Common.{◌≡◌, ℕ, ◌==◌, Bool, true, false, if◌then◌else◌, List, [], ◌∷◌, ◌++◌, None, ap, sym, ◌∙◌, Result, Ok, Err, OnOk}
use Rattle.std.proofs.lemmas.List.{append_assoc}
use Rattle.lava_base.specs.declared.ids.Ref.{Ref}
use Rattle.lava_base.specs.declared.marks.Marks.{Marks}
use Rattle.lava_journal.specs.Alike.{FindsAlike}
use Rattle.lava_journal.specs.Bodies.{body_pieces}
use Rattle.lava_trace.specs.declared.line.TraceLine.{TraceLine}
use Rattle.lava_view.specs.Views.{Seen, ViewNames, seen_by, takes_part, view_lines, viewed_names, viewed_text}
use Rattle.lava_view.specs.declared.view_line.ViewLine.{ViewLine}
use Rattle.lava_view.proofs.Alike_laws.{alike_lines, alike_text}

module _ (p : ℕ) (names : ViewNames) (old new : List (Ref × Marks)) (l : TraceLine) (rest : List TraceLine) (h : FindsAlike new (old ++ l.marks)) where
  abbrev behind : List Seen
  behind = seen_by p (old ++ l.marks) rest

  abbrev here : Seen
  here = record { sent = l.crossing.from.0 == p; body = l.crossing.body; marks = old ++ l.marks }

  -- a crossing in which the party takes no part
  pub passed_by : takes_part p l ≡ false → view_lines p names (seen_by p new rest) ≡ view_lines p names (seen_by p old (l ∷ rest))
  passed_by e = alike_lines p names new (old ++ l.marks) rest h ∙ ap (λ b. view_lines p names (if b then here ∷ behind else behind)) (sym e)

  -- one in which it does
  pub seen_here : (lines : List ViewLine) (text : List ℕ) (after : ViewNames) → takes_part p l ≡ true → text ≡ viewed_text p names new (body_pieces l.crossing.body)
      → after ≡ viewed_names p names (body_pieces l.crossing.body)
      → (lines ++ (record { sent = l.crossing.from.0 == p; steps = None; body = text }) ∷ []) ++ view_lines p after (seen_by p new rest) ≡ lines ++ view_lines p names (seen_by p old (l ∷ rest))
  seen_here lines text after e t n =
      let ps = body_pieces l.crossing.body in
      let first : List ℕ → ViewLine = λ body. record { sent = l.crossing.from.0 == p; steps = None; body = body } in
      let is : text ≡ viewed_text p names (old ++ l.marks) ps = t ∙ alike_text p names new (old ++ l.marks) ps h in
      append_assoc lines (first text ∷ []) (view_lines p after (seen_by p new rest))
      ∙ (λ k. lines ++ first (is k) ∷ view_lines p (n k) (seen_by p new rest))
      ∙ ap (λ v. lines ++ first (viewed_text p names (old ++ l.marks) ps) ∷ v) (alike_lines p (viewed_names p names ps) new (old ++ l.marks) rest h)
      ∙ ap (λ b. lines ++ view_lines p names (if b then here ∷ behind else behind)) (sym e)

-- what is seen goes on with a line more, whatever comes behind it
abbrev pub GoesOn : ℕ → (lines : List ViewLine) (names : ViewNames) (marks : List (Ref × Marks)) → TraceLine → (lines' : List ViewLine) (names' : ViewNames) (marks' : List (Ref × Marks)) → Type 0
GoesOn p lines names marks l lines' names' marks' =
    (rest : List TraceLine) → lines' ++ view_lines p names' (seen_by p marks' rest) ≡ lines ++ view_lines p names (seen_by p marks (l ∷ rest))

pub pushed_so : {A E : Type 0} (k : Result A E) (p : ℕ) (lines lines' : List ViewLine) (names names' : ViewNames) (marks marks' : List (Ref × Marks)) (l : TraceLine) (sent : Bool) (text : List ℕ) → FindsAlike marks' (marks ++ l.marks)
    → takes_part p l ≡ true → sent ≡ (l.crossing.from.0 == p) → text ≡ viewed_text p names marks' (body_pieces l.crossing.body) → names' ≡ viewed_names p names (body_pieces l.crossing.body)
    → OnOk k (lines' ≡ lines ++ (record { sent = sent; steps = None; body = text }) ∷ []) → OnOk k (GoesOn p lines names marks l lines' names' marks')
pushed_so (Ok a) p lines lines' names names' marks marks' l sent text h e s t n w = λ rest.
    (λ k. w k ++ view_lines p names' (seen_by p marks' rest))
    ∙ (λ k. (lines ++ (record { sent = s k; steps = None; body = text }) ∷ []) ++ view_lines p names' (seen_by p marks' rest))
    ∙ seen_here p names marks marks' l rest h lines text names' e t n
pushed_so (Err x) p lines lines' names names' marks marks' l sent text h e s t n w = tt
