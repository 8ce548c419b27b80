-- The lines of a journal may be told: line by line, with the kinds of the answers that are open.
use Rattle.std.proofs.Common.{◌≡◌, ℕ, ◌+◌, ◌-◌, ◌<◌, ◌≤◌, ◌^◌, true, false, List, [], ◌∷◌, ◌++◌, length, refl, ap, ◌∙◌, sym, subst, arith, if◌then◌else◌}
use Rattle.std.proofs.lemmas.List.{length_push}
use Rattle.std.specs.List.{AllByRecursion}
use Rattle.lava_base.specs.declared.ids.MadeSymbol.{MadeSymbol}
use Rattle.lava_base.specs.declared.ids.Ref.{Ref}
use Rattle.js_desc.specs.declared.crossing.CrossBody.{CrossBody}
use Rattle.js_desc.specs.declared.crossing.CrossBody.TheVariants as body
use Rattle.js_crossing.specs.js_run.Chain.{Journal_is_chain}
use Rattle.js_crossing.specs.js_run.Heap.{heap}
use Rattle.js_crossing.specs.js_run.Journal.{Application, Crossing}
use Rattle.js_crossing.specs.js_run.Laws.{IsWellMade, Journal_is_lawful}
use Rattle.js_crossing.specs.Newest.{marks_at_crossing}
use Rattle.lava_journal.specs.Bodies.{body_pieces}
use Rattle.lava_journal.specs.Sheets.{TraceNames, no_names}
use Rattle.lava_ranges.specs.Kinds.{OfKind}
use Rattle.lava_ranges.specs.Ranges.{IsInRange, Ranged_body}
use Rattle.lava_trace.specs.Courses.{is_make, may_cross, opened, opens, wanted}
use Rattle.lava_trace.specs.declared.answers.AnswerKind.{AnswerKind}
use Rattle.lava_trace.specs.declared.left.TheConstants.{MAX_PARTY}
use Rattle.lava_trace.specs.declared.line.TraceLine.{TraceLine}
use Rattle.lava_trace_laws.specs.Sound.{Sound_body}
use Rattle.lava_trace_laws.specs.Written.{line_of, parties_then}
use Rattle.lava_told.specs.Told.{HasOwner, MayAllBeSaid, MayBeSaid}
use Rattle.lava_course.specs.Courses.{AllHaveMarks, AllMayCross, AllOfKind, IsConnected, MayBeWritten, asks_behind}
use Rattle.lava_course.specs.Lines.{journal_lines}
use Rattle.lava_course.proofs.Between_laws.{AllInside, MakesNone, inside_crosses, journal_inside}
use Rattle.lava_course.proofs.Line_laws.{IsMarked, all_before, all_more, journal_marked, line_owned}

-- KINDS

pub behind_more : (asks : List AnswerKind) (ls : List TraceLine) (l : TraceLine) → asks_behind asks (ls ++ l ∷ []) ≡ opened (asks_behind asks ls) (opens l.crossing.body)
behind_more asks [] l = refl
behind_more asks (x ∷ ls) l = behind_more (opened asks (opens x.crossing.body)) ls l

pub kinds_more : (asks : List AnswerKind) (ls : List TraceLine) (l : TraceLine) → AllOfKind asks ls → OfKind (asks_behind asks ls) l.crossing.body → AllOfKind asks (ls ++ l ∷ [])
kinds_more asks [] l h k = (k, tt)
kinds_more asks (x ∷ ls) l h k = (h.0, kinds_more (opened asks (opens x.crossing.body)) ls l h.1 k)

-- ALL LINES

-- what of a line needs no other one
record MayStandThere (parties : ℕ) (l : TraceLine) : Type 0 where
  ranged : IsInRange l.crossing
  between : may_cross parties l.crossing ≡ true
  owned : AllByRecursion HasOwner (body_pieces l.crossing.body)
  marked : IsMarked l

written_none : (app : Application) (journal : List Crossing) → AllByRecursion MayBeWritten (journal_lines app journal) → AllByRecursion MakesNone journal
written_none app [] h = tt
written_none app (x ∷ older) h = let both = all_before MayBeWritten (journal_lines app older) _ h in (both.1.ranged.makes_none, written_none app older both.0)

journal_stands : (app : Application) → app.count ≤ MAX_PARTY + 1 → (journal : List Crossing) → AllInside app journal → AllByRecursion MayBeWritten (journal_lines app journal)
    → AllByRecursion IsMarked (journal_lines app journal) → AllByRecursion (MayStandThere app.count) (journal_lines app journal)
journal_stands app few [] inside written marked = tt
journal_stands app few (x ∷ older) inside written marked =
    let both = all_before MayBeWritten (journal_lines app older) _ written in
    let marks = all_before IsMarked (journal_lines app older) _ marked in
    all_more (MayStandThere app.count) (journal_lines app older) _ (journal_stands app few older inside.1 both.0 marks.0)
    (record {
      ranged = both.1.ranged;
      between = inside_crosses app x inside.0 both.1.ranged.makes_none;
      owned = line_owned app.count few (marks_at_crossing app x (x ∷ older)) x.sent.body both.1.paths inside.0.owned;
      marked = marks.1;
    })

sound_body : (k : AnswerKind) (asks : List AnswerKind) (b : CrossBody Ref MadeSymbol) → Ranged_body b → OfKind asks b → Sound_body (wanted asks) b
sound_body k asks (body.Ask target x) h o = h
sound_body k asks (body.Answer r) h o = (o, h)

may_be_said : (parties : ℕ) (asks : List AnswerKind) (names : TraceNames) (l : TraceLine) → MayStandThere parties l → OfKind asks l.crossing.body → MayBeSaid parties asks names l
may_be_said parties asks names l h k = record {
  sound = record { from = h.ranged.from; to = h.ranged.to; body = sound_body (wanted asks) asks l.crossing.body h.ranged.body k };
  between = h.between;
  owned = h.owned;
  marked = h.marked names;
}

all_said : (parties : ℕ) (asks : List AnswerKind) (names : TraceNames) (number : ℕ) (ls : List TraceLine) → AllByRecursion (MayStandThere parties) ls → AllOfKind asks ls → number + length ls ≤ 2 ^ 64
    → MayAllBeSaid parties asks names number ls
all_said parties asks names number [] h k n = tt
all_said parties asks names number (l ∷ ls) h k n =
    let none : parties_then parties l ≡ parties = ap (λ b. if b then parties + 1 else parties) h.0.ranged.makes_none in
    let next = opened asks (opens l.crossing.body) in (
      may_be_said parties asks names l h.0 k.0,
      omega (arith, n),
      subst (λ q. MayAllBeSaid q next (line_of names number l).names (number + 1) ls) (sym none) (all_said parties next (line_of names number l).names (number + 1) ls h.1 k.1 (omega (arith, n))),
    )

as_many : (app : Application) (journal : List Crossing) → length (journal_lines app journal) ≡ length journal
as_many app [] = refl
as_many app (x ∷ older) = let e = length_push (journal_lines app older) _ in let k = as_many app older in e ∙ omega (arith, k)

-- THE LAWS

-- two parties that are there, and none is made
abbrev Crosses : ℕ → TraceLine → Type 0
Crosses parties l = (may_cross parties l.crossing ≡ true) × (is_make l.crossing.body ≡ false)

journal_crosses : (app : Application) (journal : List Crossing) → AllInside app journal → AllByRecursion MakesNone journal → AllByRecursion (Crosses app.count) (journal_lines app journal)
journal_crosses app [] h none = tt
journal_crosses app (x ∷ older) h none = all_more (Crosses app.count) (journal_lines app older) _ (journal_crosses app older h.1 none.1) (inside_crosses app x h.0 none.0, none.0)

all_cross : (parties : ℕ) (ls : List TraceLine) → AllByRecursion (Crosses parties) ls → AllMayCross parties ls
all_cross parties [] h = tt
all_cross parties (l ∷ ls) h =
    let none : parties_then parties l ≡ parties = ap (λ b. if b then parties + 1 else parties) h.0.1 in
    (h.0.0, subst (λ q. AllMayCross q ls) (sym none) (all_cross parties ls h.1))

all_marked : (names : TraceNames) (number : ℕ) (ls : List TraceLine) → AllByRecursion IsMarked ls → AllHaveMarks names number ls
all_marked names number [] h = tt
all_marked names number (l ∷ ls) h = (h.0 names, all_marked (line_of names number l).names (number + 1) ls h.1)

pub is_marked : (app : Application) (budget crossings : ℕ) → AllHaveMarks no_names 1 (journal_lines app (heap app budget crossings).journal)
is_marked app budget crossings = all_marked no_names 1 (journal_lines app (heap app budget crossings).journal) (journal_marked app (heap app budget crossings).journal)

inside : Journal_is_chain → Journal_is_lawful → (app : Application) → IsWellMade app → IsConnected app → (budget crossings : ℕ) → AllByRecursion MayBeWritten (journal_lines app (heap app budget crossings).journal) → AllInside app (heap app budget crossings).journal
inside is_chain is_lawful app made c budget crossings written =
    let journal = (heap app budget crossings).journal in
    journal_inside app c journal (is_chain app budget crossings) (is_lawful app made budget crossings) (written_none app journal written)

pub may_be_told : Journal_is_chain → Journal_is_lawful → (app : Application) → IsWellMade app → IsConnected app → (budget crossings : ℕ)
    → AllOfKind [] (journal_lines app (heap app budget crossings).journal)
    → AllByRecursion MayBeWritten (journal_lines app (heap app budget crossings).journal)
    → app.count ≤ MAX_PARTY + 1
    → length (heap app budget crossings).journal < 2 ^ 64
    → MayAllBeSaid app.count [] no_names 1 (journal_lines app (heap app budget crossings).journal)
may_be_told is_chain is_lawful app made c budget crossings kinds written few short =
    let journal = (heap app budget crossings).journal in
    let many = as_many app journal in
    all_said app.count [] no_names 1 (journal_lines app journal)
    (journal_stands app few journal (inside is_chain is_lawful app made c budget crossings written) written (journal_marked app journal))
    kinds
    (omega (arith, short, many))

pub goes_between : Journal_is_chain → Journal_is_lawful → (app : Application) → IsWellMade app → IsConnected app → (budget crossings : ℕ)
    → AllByRecursion MayBeWritten (journal_lines app (heap app budget crossings).journal) → AllMayCross app.count (journal_lines app (heap app budget crossings).journal)
goes_between is_chain is_lawful app made c budget crossings written =
    let journal = (heap app budget crossings).journal in
    all_cross app.count (journal_lines app journal) (journal_crosses app journal (inside is_chain is_lawful app made c budget crossings written) (written_none app journal written))
