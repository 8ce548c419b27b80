-- What is told of how a run of a folder ended, and the exit status.
use Rattle.std.specs.Prelude.{◌≡◌, ℕ, ◌+◌, ◌-◌, List, Option, Some, None, codes, nat_eq, slice_get, if◌then◌else◌}
use Rattle.lava_base.specs.declared.place.Place.{Place}
use Rattle.js_fault.specs.declared.fault.SyntaxWhat.{SyntaxWhat}
use Rattle.js_crossing.specs.js_machine.declared.frame.Halt.{Halt}
use Rattle.js_crossing.specs.js_machine.declared.frame.Halt.TheVariants as halt
use Rattle.js_crossing.specs.declared.ending.Ending.{Ending}
use Rattle.js_crossing.specs.declared.ending.Ending.TheVariants as ending
use Rattle.lava_host.specs.declared.fault.Which.{Which}
use Rattle.lava_host.specs.declared.fault.Which.TheVariants as which
use Rattle.lava_lines.specs.Lines as lines
use Rattle.lava_lines.specs.Puts as puts
use Rattle.lava_lines.specs.declared.status.TheConstants as texts
use Rattle.lava_report.specs.declared.report.Report.{Report}
use Rattle.lava_streams.specs.Outside.{Stand, Outside, outside}
use Rattle.pkg_graph.specs.declared.fault.GraphFault.{GraphFault}
use Rattle.pkg_graph.specs.declared.fault.GraphFault.TheVariants as graph
use Rattle.pkg_graph.specs.declared.graph.Package.{Package}
use Rattle.pkg_graph.specs.declared.limits.TheConstants.{FILE}
use Rattle.pkg_graph.specs.declared.standing.TheConstants.{FILE_LIMIT}
use Rattle.pkg_load.specs.declared.fault.LoadFault.{LoadFault}
use Rattle.pkg_load.specs.declared.fault.LoadFault.TheVariants as load
use Rattle.policy_row.specs.Names.{file_name, shown_word, what_name}
use Rattle.policy_row.specs.declared.fault.PolicyFile.{PolicyFile}
use Rattle.policy_row.specs.declared.fault.PolicyWhat.{PolicyWhat}
use Rattle.lava_report.specs.declared.outcome.Ended.{Ended}
use Rattle.lava_report.specs.declared.outcome.RunOutcome.{RunOutcome}
use Rattle.lava_report.specs.declared.outcome.RunOutcome.TheVariants as outcome
use Rattle.lava_loading.specs.declared.policies.PoliciesFault.{PoliciesFault}
use Rattle.lava_loading.specs.declared.policies.PoliciesFault.TheVariants as policies
use Rattle.lava_report.specs.declared.run_report.TheConstants as words

-- WHERE A RUN ENDED

abbrev pub name_of : Option Package → List ℕ
name_of None = texts.ROOT_PACKAGE.now
name_of (Some p) = p.name

-- the name of a party: the host's, or that of its package
-- own: names of parties
abbrev pub party_name : List Package → (party : ℕ) → List ℕ
party_name packages p = if nat_eq p 0 then texts.HOST_PARTY.now else name_of (slice_get packages (p - 1))

-- the name of the party in which a run ended; one that was answered ended in the host
abbrev pub ended_in : List Package → Ending → List ℕ
ended_in packages ending.Done = texts.HOST_PARTY.now
ended_in packages ending.Uncaught = texts.HOST_PARTY.now
ended_in packages (ending.Budget p) = party_name packages p
ended_in packages (ending.Fault p h) = party_name packages p

abbrev pub EndsAs : List Package → Report → RunOutcome → Type 0
EndsAs packages r (outcome.Ran e) = (e.report ≡ r) × (e.name ≡ ended_in packages r.ending)
EndsAs packages r outcome.OutOfMemory = Unit {0}
EndsAs packages r (outcome.Prelude place what) = ⊥
EndsAs packages r (outcome.Graph f) = ⊥
EndsAs packages r (outcome.Policies f) = ⊥
EndsAs packages r (outcome.Load f) = ⊥

-- WHAT IS TOLD

abbrev pub which_word : Which → List ℕ
which_word which.Folder = words.FOLDER.now
which_word which.Input = codes "input"
which_word which.Output = codes "output"
which_word which.Errors = codes "errors"
which_word which.Clock = codes "clock"

abbrev pub halt_word : Halt → List ℕ
halt_word halt.Number = codes "Number"
halt_word halt.Text = codes "Text"
halt_word halt.Depth = codes "Depth"
halt_word halt.Meter = codes "Meter"
halt_word halt.Outside = codes "Outside"

abbrev pub syntax_line : (owner path : List ℕ) → Place → SyntaxWhat → List ℕ
syntax_line owner path place w = lines.syntax_line owner path place w

abbrev pub missing_line : (owner request : List ℕ) → List ℕ
missing_line owner request = lines.missing_line owner request

-- a policy file that is refused, by its row and key as they are shown
abbrev pub policy_line : PolicyFile → (row key : List ℕ) → PolicyWhat → List ℕ
policy_line file row key w = lines.policy_line (file_name file) row key (what_name w)

-- a line is written, or there was no memory for it
abbrev pub PutsLine : (line : List ℕ) → (own : ℕ) → (before after : Stand (List ℕ)) → (status : ℕ) → Type 0
PutsLine line own before after status = puts.PutsLine line own before after status

abbrev pub Lacks : (before after : Stand (List ℕ)) → (status : ℕ) → Type 0
Lacks before after status = puts.Lacks before after status

-- a run that nothing caught has a value, so that want of memory is told of none
abbrev pub TellsUncaught : Option (List ℕ) → (before after : Stand (List ℕ)) → (status : ℕ) → Type 0
TellsUncaught (Some text) before after status = PutsLine (lines.uncaught_line text) texts.UNCAUGHT_STATUS before after status
TellsUncaught None before after status = Lacks before after status

-- an object of the outside that failed
abbrev pub TellsOutside : Which → (before after : Stand (List ℕ)) → (status : ℕ) → Type 0
TellsOutside w before after status = PutsLine (lines.outside_line (which_word w)) texts.OUTSIDE_STATUS before after status

abbrev pub TellsEnded : (name : List ℕ) → (word : List ℕ) → (own : ℕ) → (before after : Stand (List ℕ)) → (status : ℕ) → Type 0
TellsEnded name word own before after status = PutsLine (lines.ended_line word name) own before after status

-- a run that the outside ended has an object that failed, so that want of memory is told of one that has none
abbrev pub TellsHalt : (name : List ℕ) → Halt → (before after : Stand (List ℕ)) → (status : ℕ) → Type 0
TellsHalt name halt.Outside before after status = Lacks before after status
TellsHalt name halt.Number before after status = TellsEnded name (halt_word halt.Number) texts.LIMIT_STATUS before after status
TellsHalt name halt.Text before after status = TellsEnded name (halt_word halt.Text) texts.LIMIT_STATUS before after status
TellsHalt name halt.Depth before after status = TellsEnded name (halt_word halt.Depth) texts.LIMIT_STATUS before after status
TellsHalt name halt.Meter before after status = TellsEnded name (halt_word halt.Meter) texts.LIMIT_STATUS before after status

-- how a run ended of which no call on the outside failed: nothing where it was done
abbrev pub TellsEnding : (name : List ℕ) → Ending → (uncaught : Option (List ℕ)) → (before after : Stand (List ℕ)) → (status : ℕ) → Type 0
TellsEnding name ending.Done text before after status = (status ≡ texts.DONE_STATUS) × (after ≡ before)
TellsEnding name ending.Uncaught text before after status = TellsUncaught text before after status
TellsEnding name (ending.Budget p) text before after status = TellsEnded name (codes "Budget") texts.BUDGET_STATUS before after status
TellsEnding name (ending.Fault p h) text before after status = TellsHalt name h before after status

-- a call on the outside that failed is told before all else
abbrev pub TellsReport : Option Which → Ended → (before after : Stand (List ℕ)) → (status : ℕ) → Type 0
TellsReport (Some w) e before after status = TellsOutside w before after status
TellsReport None e before after status = TellsEnding e.name e.report.ending e.report.uncaught before after status

-- what is told of a run
abbrev pub TellsRun : Ended → (before after : Stand (List ℕ)) → (status : ℕ) → Type 0
TellsRun e before after status = TellsReport e.report.which e before after status

abbrev pub TellsGraph : GraphFault → (before after : Stand (List ℕ)) → (status : ℕ) → Type 0
TellsGraph (graph.Manifest dir field) before after status = PutsLine (lines.manifest_line dir field) texts.LOADING_STATUS before after status
TellsGraph (graph.TooMany what count) before after status = PutsLine (lines.too_many_line what count) texts.LOADING_STATUS before after status
TellsGraph graph.Folder before after status = PutsLine (lines.outside_line words.FOLDER.now) texts.OUTSIDE_STATUS before after status
TellsGraph graph.OutOfMemory before after status = Lacks before after status

abbrev pub TellsPolicies : PoliciesFault → (before after : Stand (List ℕ)) → (status : ℕ) → Type 0
TellsPolicies (policies.Bad file row key what) before after status = PutsLine (policy_line file (shown_word row) (shown_word key) what) texts.POLICY_STATUS before after status
TellsPolicies policies.TooLong before after status = PutsLine (lines.too_many_line FILE.now (FILE_LIMIT + 1)) texts.LOADING_STATUS before after status
TellsPolicies policies.Folder before after status = PutsLine (lines.outside_line words.FOLDER.now) texts.OUTSIDE_STATUS before after status
TellsPolicies policies.OutOfMemory before after status = Lacks before after status

abbrev pub TellsLoad : LoadFault → (before after : Stand (List ℕ)) → (status : ℕ) → Type 0
TellsLoad (load.Syntax name path place what) before after status = PutsLine (syntax_line name path place what) texts.LOADING_STATUS before after status
TellsLoad (load.Missing name request) before after status = PutsLine (missing_line name request) texts.LOADING_STATUS before after status
TellsLoad (load.TooMany what count) before after status = PutsLine (lines.too_many_line what count) texts.LOADING_STATUS before after status
TellsLoad load.Folder before after status = PutsLine (lines.outside_line words.FOLDER.now) texts.OUTSIDE_STATUS before after status
TellsLoad load.OutOfMemory before after status = Lacks before after status

-- what is told of each outcome, and the exit status
abbrev pub RunReports : RunOutcome → (before after : Stand (List ℕ)) → (status : ℕ) → Type 0
RunReports (outcome.Ran r) before after status = TellsRun r before after status
RunReports (outcome.Graph f) before after status = TellsGraph f before after status
RunReports (outcome.Policies f) before after status = TellsPolicies f before after status
RunReports (outcome.Load f) before after status = TellsLoad f before after status
RunReports (outcome.Prelude place what) before after status = PutsLine (syntax_line words.PRELUDE_PACKAGE.now words.PRELUDE_PATH.now place what) texts.LOADING_STATUS before after status
RunReports outcome.OutOfMemory before after status = Lacks before after status
