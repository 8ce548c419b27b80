-- What a trace has said so far, and which lines go on with it.
use Rattle.std.specs.Prelude.{◌≡◌, ℕ, ◌+◌, ◌-◌, ◌^◌, ◌==◌, Bool, true, false, ◌&&◌, not, nat_lt, nat_le, if◌then◌else◌, is_none, List, [], ◌∷◌, ◌++◌, codes, length, take, get_or, Option, Some, None}
use Rattle.std.specs.Ordering.{is_lt}
use Rattle.lava_base.specs.declared.ids.MadeSymbol.{MadeSymbol}
use Rattle.lava_base.specs.declared.ids.PartyId.{PartyId}
use Rattle.lava_base.specs.declared.ids.Ref.{Ref}
use Rattle.lava_base.specs.declared.marks.Marks.{Marks}
use Rattle.js_text.specs.Search.{order_of_units}
use Rattle.js_text.specs.Texts.{same_units, utf8_of}
use Rattle.js_desc.specs.declared.ask.Ask.TheVariants as ask
use Rattle.js_desc.specs.declared.crossing.CrossBody.{CrossBody}
use Rattle.js_desc.specs.declared.crossing.CrossBody.TheVariants as body
use Rattle.js_desc.specs.declared.crossing.Crossing.{Crossing}
use Rattle.js_desc.specs.declared.ending.Ending.{Ending}
use Rattle.js_desc.specs.declared.ending.Ending.TheVariants as ending
use Rattle.lava_journal.specs.Lines.{crossing_line, ended_at, party_line, steps_line}
use Rattle.lava_journal.specs.Sheets.{Sheet, TraceNames, no_names}
use Rattle.lava_trace.specs.Left.{Got, number_at, party_at, skipped, whole, word_at}
use Rattle.lava_trace.specs.Items.{text_at}
use Rattle.lava_trace.specs.Asks.{crossing_at, kind_of}
use Rattle.lava_trace.specs.declared.answers.AnswerKind.{AnswerKind}
use Rattle.lava_trace.specs.declared.answers.AnswerKind.TheVariants as kind
use Rattle.lava_trace.specs.declared.left.TheConstants.{MAX_PARTY}
use Rattle.lava_trace.specs.declared.line.Trace.{Trace}
use Rattle.lava_trace.specs.declared.line.TraceLine.{TraceLine}

-- what the lines so far have said
pub record Course : Type 0 where
  -- the first line stands there
  pub begun : Bool
  -- the names of the parties of the start
  pub names : List (List ℕ)
  -- how many parties there are by now
  pub parties : ℕ
  pub lines : List TraceLine
  -- the numbers that are given, and the references that have stood in a crossing
  pub named : TraceNames
  -- the kinds of the answers to the open asks, the latest last
  pub unanswered : List AnswerKind
  pub steps : List ℕ
  pub ending : Option Ending

abbrev pub nothing_said : Course
nothing_said = record { begun = false; names = []; parties = 0; lines = []; named = no_names; unanswered = []; steps = []; ending = None }

-- a line without its LF
abbrev pub front : List ℕ → List ℕ
front line = take (length line - 1) line

-- PARTIES

-- the first two names are fixed, and those behind them stand in byte order, none twice
unfoldable pub may_follow : List (List ℕ) → List ℕ → Bool
may_follow names name =
    if length names == 0 then same_units name (codes "$host$")
    else if length names == 1 then same_units name (codes "$root$")
    else if length names == 2 then true
    else is_lt (order_of_units (get_or names (length names - 1) []) name)

-- the name in the line of a party
unfoldable pub name_in : List ℕ → List ℕ
name_in line = utf8_of (text_at (skipped 1 (number_at (skipped 6 (whole (front line)))).1)).0

abbrev pub with_name : Course → List ℕ → Course
with_name c name = record c { names = c.names ++ name ∷ []; parties = c.parties + 1 }

-- a line is that of a party: of the next number, with its name
-- own: parties in a trace
unfoldable pub with_party : Course → List ℕ → Option Course
with_party c line =
    if same_units line (party_line (length c.names) (name_in line)) && may_follow c.names (name_in line) && nat_le (length c.names) MAX_PARTY
    then Some (with_name c (name_in line)) else None

-- CROSSINGS

-- the kind of the answer that the latest open ask wants, and a value where none is open
abbrev pub wanted : List AnswerKind → AnswerKind
wanted asks = if length asks == 0 then kind.Value else get_or asks (length asks - 1) kind.Value

-- whether an ask is a Make
abbrev pub is_make : CrossBody Ref MadeSymbol → Bool
is_make (body.Ask target (ask.Make globals modules)) = true
is_make (body.Ask target _) = false
is_make (body.Answer r) = false

-- sender and receiver are two parties; the receiver of a Make is the next one
unfoldable pub may_cross : ℕ → Crossing Ref MadeSymbol → Bool
may_cross parties x =
    nat_lt x.from.0 parties
    && (if is_make x.body then (x.to.0 == parties) && nat_le parties MAX_PARTY else nat_lt x.to.0 parties && not (x.from.0 == x.to.0))

-- the kind of the answer to what is asked, if it is an ask
abbrev pub opens : CrossBody Ref MadeSymbol → Option AnswerKind
opens (body.Ask target x) = Some (kind_of x)
opens (body.Answer r) = None

-- an ask is opened, an answer or a throw closes the latest that is open
abbrev pub opened : List AnswerKind → Option AnswerKind → List AnswerKind
opened asks (Some kind) = asks ++ kind ∷ []
opened asks None = take (length asks - 1) asks

abbrev pub with_open : Course → Option AnswerKind → Course
with_open c o = record c { unanswered = opened c.unanswered o }

-- the receiver of a Make is a party from then on
abbrev pub with_made : Course → Bool → Course
with_made c makes = record c { parties = if makes then c.parties + 1 else c.parties }

-- the crossing that a line tells, where an answer is of this kind, with its marks, and all references in it with the marks that they would have
unfoldable pub read_in : AnswerKind → List ℕ → Got (Crossing Ref MadeSymbol)
read_in kind line = crossing_at kind (whole (front line))

-- the line of the next crossing, in which a reference that stands there for the first time has its marks
abbrev pub next_line : Course → Crossing Ref MadeSymbol → List (Ref × Marks) → Sheet
next_line c x named = crossing_line c.named (length c.lines + 1) x named

abbrev pub is_written : Course → List ℕ → Crossing Ref MadeSymbol → List (Ref × Marks) → Bool
is_written c line x named = same_units line (next_line c x named).text

abbrev pub with_named : Course → Crossing Ref MadeSymbol → List (Ref × Marks) → Course
with_named c x named = record c { named = (next_line c x named).names }

-- a crossing is written, and kept
abbrev pub with_told : Course → Crossing Ref MadeSymbol → (marks named : List (Ref × Marks)) → Course
with_told c x marks named = record c { lines = c.lines ++ (record { crossing = x; marks = marks }) ∷ []; named = (next_line c x named).names }

-- a line is that of a crossing: it is written just so, and the crossing may stand there
abbrev pub may_stand : Course → List ℕ → Crossing Ref MadeSymbol → List (Ref × Marks) → Bool
may_stand c line x named = is_written c line x named && may_cross c.parties x

abbrev pub with_read : Course → List ℕ → Crossing Ref MadeSymbol → (marks named : List (Ref × Marks)) → Option Course
with_read c line x marks named =
    if may_stand c line x named then Some (with_made (with_open (with_told c x marks named) (opens x.body)) (is_make x.body)) else None

-- a line is that of the crossing that it tells
-- own: crossings in a trace
unfoldable pub with_crossing : Course → List ℕ → Option Course
with_crossing c line = with_read c line (read_in (wanted c.unanswered) line).0 (read_in (wanted c.unanswered) line).1.marks (read_in (wanted c.unanswered) line).1.named

-- STEPS

-- the count in a line of steps
unfoldable pub count_in : List ℕ → ℕ
count_in line = (number_at (skipped 1 (number_at (skipped 6 (whole line))).1)).0

-- a line is that of the steps of the next party
-- own: steps in a trace
unfoldable pub with_steps : Course → List ℕ → Option Course
with_steps c line =
    if same_units line (steps_line (length c.steps) (count_in line)) then Some (record c { steps = c.steps ++ count_in line ∷ [] }) else None

-- THE END

-- the word of an ending, behind `end `
abbrev pub ending_word : List ℕ → List ℕ
ending_word line = word_at (skipped 4 (whole line))

-- the party behind the word of an ending
unfoldable pub ending_party : List ℕ → PartyId
ending_party line = (party_at (skipped (length (ending_word line) + 1) (skipped 4 (whole line)))).0

-- an ending by its word
abbrev pub ending_of : List ℕ → PartyId → Ending
ending_of w p =
    if same_units w (codes "Done") then ending.Done
    else if same_units w (codes "Uncaught") then ending.Uncaught
    else if same_units w (codes "Number") then ending.Number p
    else if same_units w (codes "Text") then ending.Text p
    else if same_units w (codes "Depth") then ending.Depth p
    else if same_units w (codes "Parties") then ending.Parties p
    else if same_units w (codes "Budget") then ending.Budget p
    else ending.Outside

unfoldable pub ending_in : List ℕ → Ending
ending_in line = ending_of (ending_word line) (ending_party line)

-- a number and the sum of some counts, where 64 bits hold it
unfoldable pub total_from : ℕ → List ℕ → Option ℕ
total_from n [] = Some n
total_from n (x ∷ xs) = if nat_lt (2 ^ 64 - 1 - n) x then None else total_from (n + x) xs

abbrev pub total : List ℕ → Option ℕ
total steps = total_from 0 steps

-- the steps of a party that has some
abbrev pub party_steps : List ℕ → PartyId → Option ℕ
party_steps steps p = if nat_lt p.0 (length steps) then Some (get_or steps p.0 0) else None

-- the sum of all steps, where a party has some
abbrev pub budget_steps : List ℕ → PartyId → Option ℕ
budget_steps steps p = if nat_lt p.0 (length steps) then total steps else None

-- the count behind the party of an ending: its steps, for Budget the sum of all; 0 where no party is named
unfoldable pub end_count : List ℕ → Ending → Option ℕ
end_count steps ending.Done = Some 0
end_count steps ending.Uncaught = Some 0
end_count steps ending.Outside = Some 0
end_count steps (ending.Number p) = party_steps steps p
end_count steps (ending.Text p) = party_steps steps p
end_count steps (ending.Depth p) = party_steps steps p
end_count steps (ending.Parties p) = party_steps steps p
end_count steps (ending.Budget p) = budget_steps steps p

unfoldable pub counted_text : Ending → ℕ → List ℕ
counted_text ending.Done n = codes "Done"
counted_text ending.Uncaught n = codes "Uncaught"
counted_text ending.Outside n = codes "Outside"
counted_text (ending.Number p) n = ended_at (codes "Number ") p.0 n
counted_text (ending.Text p) n = ended_at (codes "Text ") p.0 n
counted_text (ending.Depth p) n = ended_at (codes "Depth ") p.0 n
counted_text (ending.Parties p) n = ended_at (codes "Parties ") p.0 n
counted_text (ending.Budget p) n = ended_at (codes "Budget ") p.0 n

-- the last line, with a count
unfoldable pub end_line : Ending → ℕ → List ℕ
end_line e n = codes "end " ++ (counted_text e n ++ 10 ∷ [])

-- a line is the last one
-- own: the end in a trace
abbrev pub with_counted : Course → List ℕ → Ending → Option ℕ → Option Course
with_counted c line e None = None
with_counted c line e (Some n) = if same_units line (end_line e n) then Some (record c { ending = Some e }) else None

unfoldable pub with_ending : Course → List ℕ → Option Course
with_ending c line = with_counted c line (ending_in line) (end_count c.steps (ending_in line))

-- LINES

unfoldable pub with_first : Course → List ℕ → Option Course
with_first c line = if same_units line (codes "lava-trace 1\n") then Some (record c { begun = true }) else None

-- parties come first, at least two
abbrev pub takes_party : Course → Bool
takes_party c = length c.lines == 0 && length c.steps == 0 && is_none c.ending

-- then crossings
abbrev pub takes_crossing : Course → Bool
takes_crossing c = nat_le 2 (length c.names) && length c.steps == 0 && is_none c.ending

-- then a line of steps for each party
abbrev pub takes_steps : Course → Bool
takes_steps c = nat_le 2 (length c.names) && nat_lt (length c.steps) c.parties && is_none c.ending

-- and then the last line
abbrev pub takes_ending : Course → Bool
takes_ending c = nat_le 2 (length c.names) && length c.steps == c.parties && is_none c.ending

abbrev pub only_if : Bool → Option Course → Option Course
only_if b c = if b then c else None

-- what a trace has said with one line more, and nothing where the line is not of a trace's form
unfoldable pub with_line_more : Course → List ℕ → Option Course
with_line_more c line =
    if not c.begun then with_first c line
    else if get_or line 0 0 == 112 then only_if (takes_party c) (with_party c line)
    else if get_or line 0 0 == 115 then only_if (takes_steps c) (with_steps c line)
    else if get_or line 0 0 == 101 then only_if (takes_ending c) (with_ending c line)
    else only_if (takes_crossing c) (with_crossing c line)

-- a line was taken, or refused
abbrev pub Takes : Bool → Option Course → Course → Type 0
Takes true after new = after ≡ Some new
Takes false after new = after ≡ None

-- what a trace says, if its last line stands there
abbrev pub ended_with : Course → Option Ending → Option Trace
ended_with c None = None
ended_with c (Some e) = Some (record { parties = c.names; lines = c.lines; steps = c.steps; ending = e })

abbrev pub trace_of : Course → Option Trace
trace_of c = ended_with c c.ending
