-- What a run keeps to as it is written is what may be told of it.
use Rattle.std.proofs.Common.{◌≡◌, ℕ, zero, suc, ◌+◌, ◌≤◌, if◌then◌else◌, List, [], ◌∷◌, ◌++◌, length, refl, sym, ap, ◌∙◌, subst, length-append, arith}
use Rattle.std.specs.List.{AllByRecursion}
use Rattle.lava_course.specs.Courses.{AllOfKind, asks_behind}
use Rattle.lava_course.specs.Lines.{journal_lines, line_of_traced}
use Rattle.lava_course.proofs.Told_laws.{behind_more, kinds_more}
use Rattle.lava_driver.specs.Traces.{AllCanBeRead, CanBeRead, steps_from, trace_of}
use Rattle.lava_driver.specs.js_crossing.Newest.{crossing_of}
use Rattle.lava_driver.specs.js_run.Journal.{Application, Crossing}
use Rattle.lava_ranges.specs.Kinds.{OfKind}
use Rattle.lava_ranges.specs.Ranges.{HavePaths, IsInRange}
use Rattle.lava_run_told.proofs.Line_laws.{newest}
use Rattle.lava_trace.specs.Courses.{opened, opens}
use Rattle.lava_trace.specs.declared.left.TheConstants.{MAX_PARTY}
use Rattle.lava_trace.specs.declared.line.TraceLine.{TraceLine}
use Rattle.lava_trace_laws.specs.Written.{MayBegin, parties_behind, parties_then}

-- LINES

-- each line, and one more
all_with : (P : TraceLine → Type 0) (ls : List TraceLine) (l : TraceLine) → AllByRecursion P ls → P l → AllByRecursion P (ls ++ l ∷ [])
all_with P [] l all here = (here, tt)
all_with P (x ∷ ls) l all here = (all.0, all_with P ls l all.1 here)

-- what holds of each line that can be read holds of the lines of a journal
pub lines_are : (P : TraceLine → Type 0) → ((l : TraceLine) → IsInRange l.crossing → HavePaths l.marks → P l) → (parties : List (List ℕ)) (app : Application) (js : List Crossing) → AllCanBeRead parties app js → AllByRecursion P (journal_lines app js)
lines_are P f parties app [] h = tt
lines_are P f parties app (x ∷ older) h =
    let l : TraceLine = line_of_traced (newest app x older) in
    let reads : CanBeRead (trace_of parties app older).asks (newest app x older) = h.0 in
    all_with P (journal_lines app older) l (lines_are P f parties app older h.1) (f l reads.0 reads.1)

-- the kinds that are open behind the lines of a journal are those of its trace
asks_are : (parties : List (List ℕ)) (app : Application) (js : List Crossing) → asks_behind [] (journal_lines app js) ≡ (trace_of parties app js).asks
asks_are parties app [] = refl
asks_are parties app (x ∷ older) =
    behind_more [] (journal_lines app older) (line_of_traced (newest app x older)) ∙ ap (λ asks. opened asks (opens (crossing_of x).body)) (asks_are parties app older)

-- so each answer among these lines is of the kind that was asked
pub kinds_are : (parties : List (List ℕ)) (app : Application) (js : List Crossing) → AllCanBeRead parties app js → AllOfKind [] (journal_lines app js)
kinds_are parties app [] h = tt
kinds_are parties app (x ∷ older) h =
    let reads : CanBeRead (trace_of parties app older).asks (newest app x older) = h.0 in
    kinds_more [] (journal_lines app older) (line_of_traced (newest app x older)) (kinds_are parties app older h.1)
    (subst (λ asks. OfKind asks (crossing_of x).body) (sym (asks_are parties app older)) reads.2)

-- lines that make no party leave as many as there were
pub none_more : (n : ℕ) (ls : List TraceLine) → AllByRecursion (λ (l : TraceLine). IsInRange l.crossing) ls → n ≡ parties_behind n ls
none_more n [] all = refl
none_more n (l ∷ ls) all =
    let here : IsInRange l.crossing = all.0 in
    let same : parties_then n l ≡ n = ap (λ b. if b then n + 1 else n) here.makes_none in
    subst (λ m. n ≡ parties_behind m ls) (sym same) (none_more n ls all.1)

-- STEPS

pub so_many : (first count : ℕ) (f : ℕ → ℕ) → length (steps_from first count f) ≡ count
so_many first zero f = refl
so_many first (suc n) f = ap suc (so_many (suc first) n f)

-- PARTIES

few_behind : (before names : List (List ℕ)) → length before ≤ MAX_PARTY + 1 → MayBegin before names → length before + length names ≤ MAX_PARTY + 1
few_behind before [] l h = omega (arith, l)
few_behind before (name ∷ names) l h =
    let pushed = length-append before (name ∷ []) in
    let here = h.2 in
    let rest = few_behind (before ++ name ∷ []) names (omega (arith, pushed, here)) h.3 in
    omega (arith, rest, pushed)

pub few_parties : (parties : List (List ℕ)) → MayBegin [] parties → length parties ≤ MAX_PARTY + 1
few_parties parties h = let all = few_behind [] parties (omega arith) h in omega (arith, all)
