-- So the text of a run is read as its trace.
use Rattle.std.proofs.Common.{◌≡◌, suc, ◌+◌, ◌≤◌, [], length, sym, ap, ◌∙◌, subst}
use Rattle.std.specs.List.{AllByRecursion}
use Rattle.lava_course.specs.Courses.{MayBeWritten}
use Rattle.lava_course.specs.Laws.{Journal_may_be_told}
use Rattle.lava_course.specs.Lines.{journal_lines}
use Rattle.lava_driver.specs.Traces.{IsInBounds}
use Rattle.lava_driver.specs.js_run.Heap.{World, heap}
use Rattle.lava_journal.specs.Sheets.{no_names}
use Rattle.lava_ranges.specs.Ranges.{IsInRange}
use Rattle.lava_run_told.proofs.Bound_laws.{few_parties, kinds_are, lines_are, none_more, so_many}
use Rattle.lava_run_told.specs.Laws.{Run_has_the_text, Run_is_read, Short_text_has_few_names, Text_is_read, Traced_is_read}
use Rattle.lava_run_told.specs.Runs.{run_trace}
use Rattle.lava_told.specs.Laws.{Told_is_read}
use Rattle.lava_told.specs.Told.{MayAllBeSaid, MayBeTold}
use Rattle.lava_trace.specs.Traces.{reading_of}
use Rattle.lava_trace.specs.declared.left.TheConstants.{MAX_PARTY}
use Rattle.lava_trace.specs.declared.line.Trace.{Trace}
use Rattle.lava_trace.specs.declared.line.TraceLine.{TraceLine}
use Rattle.lava_trace_laws.specs.Written.{text_of}

pub text_is_read : Run_has_the_text → Short_text_has_few_names → Told_is_read → Text_is_read
text_is_read has few reads parties app w e text here readable two lines =
    let t : Trace = run_trace parties app w e in
    let is : text ≡ text_of t = here ∙ has parties app w e in
    let bounds : IsInBounds (text_of t) t.steps e (length w.journal) = subst (λ x. IsInBounds x t.steps e (length w.journal)) is readable.bounds in
    let ranged : AllByRecursion (λ (l : TraceLine). IsInRange l.crossing) (journal_lines app w.journal) =
    lines_are (λ (l : TraceLine). IsInRange l.crossing) (λ l g p. g) parties app w.journal readable.ranges in
    let may : MayBeTold t =
    record {
      two = two;
      parties = readable.begins_so;
      lines = lines;
      numbers = λ p. few t p bounds.short;
      steps = so_many 0 (length parties) w.steps ∙ none_more (length parties) (journal_lines app w.journal) ranged;
      total = bounds.total;
      ending = bounds.party;
    } in
    ap reading_of is ∙ reads t may

pub run_is_read : Text_is_read → Journal_may_be_told → Run_is_read
run_is_read reads told_so parties app budget crossings e text here readable made connected count =
    let w : World = heap app budget crossings in
    let written : AllByRecursion MayBeWritten (journal_lines app w.journal) = lines_are MayBeWritten (λ l g p. record { ranged = g; paths = p }) parties app w.journal readable.ranges in
    let few : app.count ≤ MAX_PARTY + 1 = subst (λ m. m ≤ MAX_PARTY + 1) (sym count) (few_parties parties readable.begins_so) in
    let lines : MayAllBeSaid app.count [] no_names 1 (journal_lines app w.journal) = told_so app made connected budget crossings (kinds_are parties app w.journal readable.ranges) written few readable.bounds.counted in
    reads parties app w e text here readable (subst (λ m. 2 ≤ m) count connected.two) (subst (λ m. MayAllBeSaid m [] no_names 1 (journal_lines app w.journal)) count lines)

pub traced_is_read : Run_is_read → Traced_is_read
traced_is_read reads parties dir first now before after r h app rests agrees =
    reads parties app first.budget (suc h.runs.come.underway.crossings) h.told h.text (h.is app rests agrees) (h.reads app rests agrees)
