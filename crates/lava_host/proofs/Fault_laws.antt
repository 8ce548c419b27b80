-- Whose count a call raises.
use Rattle.std.proofs.Common.{◌≡◌, ℕ, List, Bool, true, false, Some, None, Ok, Err, ap}
use Rattle.js_desc.specs.declared.ask.Ask.TheVariants as ask
use Rattle.lava_streams.specs.Counts.{Rises}
use Rattle.lava_streams.specs.Files.{Files}
use Rattle.lava_streams.specs.Outside.{Stand}
use Rattle.lava_host.specs.Hosts.{HostAnswer, HostValues, HostWorld, Performs, Prints, ReadsLine, TakesMoment, ReadsFile, LooksForFile, path_argument}
use Rattle.lava_host.specs.Laws.{faults_of, NoneFailed, CountsFaults, Faults_are_counted}
use Rattle.lava_host.specs.Printed.{printed_line}
use Rattle.lava_host.specs.declared.fault.HostFault.TheVariants.{Outside, OutOfMemory}
use Rattle.lava_host.specs.declared.fault.Which.{Which}
use Rattle.lava_host.specs.declared.fault.Which.TheVariants as which
use Rattle.lava_host.specs.declared.function.HostFunction.{HostFunction}
use Rattle.lava_host.specs.declared.function.HostFunction.TheVariants as function

-- what a call on one object does to its count
abbrev pub CountsOne : Which → (before after : ℕ) → HostAnswer → Type 0
CountsOne w before after (Ok r) = after ≡ before
CountsOne w before after (Err (Outside o)) = (o ≡ w) × Rises before after
CountsOne w before after (Err OutOfMemory) = after ≡ before

module _ (k : Which) (w v : HostWorld) where
  counted : (r : HostAnswer) → (faults_of k v ≡ faults_of k w → NoneFailed w v) → CountsOne k (faults_of k w) (faults_of k v) r → CountsFaults w v r
  counted (Ok r) none h = none h
  counted (Err (Outside o)) none h = rw (h.0) (h.1)
  counted (Err OutOfMemory) none h = none h

folder_alone : (w v : HostWorld) → v ≡ record w { folder = v.folder } → v.folder.count ≡ w.folder.count → NoneFailed w v
folder_alone w v same h which.Folder = h
folder_alone w v same h which.Input = ap (λ x. x.input.count) same
folder_alone w v same h which.Output = ap (λ x. x.output.count) same
folder_alone w v same h which.Errors = ap (λ x. x.errors.count) same
folder_alone w v same h which.Clock = ap (λ x. x.clock.count) same

input_alone : (w v : HostWorld) → v ≡ record w { input = v.input } → v.input.count ≡ w.input.count → NoneFailed w v
input_alone w v same h which.Folder = ap (λ x. x.folder.count) same
input_alone w v same h which.Input = h
input_alone w v same h which.Output = ap (λ x. x.output.count) same
input_alone w v same h which.Errors = ap (λ x. x.errors.count) same
input_alone w v same h which.Clock = ap (λ x. x.clock.count) same

output_alone : (w v : HostWorld) → v ≡ record w { output = v.output } → v.output.count ≡ w.output.count → NoneFailed w v
output_alone w v same h which.Folder = ap (λ x. x.folder.count) same
output_alone w v same h which.Input = ap (λ x. x.input.count) same
output_alone w v same h which.Output = h
output_alone w v same h which.Errors = ap (λ x. x.errors.count) same
output_alone w v same h which.Clock = ap (λ x. x.clock.count) same

errors_alone : (w v : HostWorld) → v ≡ record w { errors = v.errors } → v.errors.count ≡ w.errors.count → NoneFailed w v
errors_alone w v same h which.Folder = ap (λ x. x.folder.count) same
errors_alone w v same h which.Input = ap (λ x. x.input.count) same
errors_alone w v same h which.Output = ap (λ x. x.output.count) same
errors_alone w v same h which.Errors = h
errors_alone w v same h which.Clock = ap (λ x. x.clock.count) same

clock_alone : (w v : HostWorld) → v ≡ record w { clock = v.clock } → v.clock.count ≡ w.clock.count → NoneFailed w v
clock_alone w v same h which.Folder = ap (λ x. x.folder.count) same
clock_alone w v same h which.Input = ap (λ x. x.input.count) same
clock_alone w v same h which.Output = ap (λ x. x.output.count) same
clock_alone w v same h which.Errors = ap (λ x. x.errors.count) same
clock_alone w v same h which.Clock = h

prints_one : (emit : Bool) (line : List ℕ) (k : Which) (s t : Stand (List ℕ)) (r : HostAnswer) → Prints emit line k s t r → CountsOne k s.count t.count r
prints_one false line k s t (Ok r) h = ap (λ x. x.count) (h.1)
prints_one true line k s t (Ok r) h = h.1.0
prints_one false line k s t (Err (Outside o)) h = absurd h
prints_one true line k s t (Err (Outside o)) h = (h.0, h.1.0)
prints_one false line k s t (Err OutOfMemory) h = ap (λ x. x.count) h
prints_one true line k s t (Err OutOfMemory) h = ap (λ x. x.count) h

line_one : (s t : Stand (List ℕ)) (r : HostAnswer) → ReadsLine s t r → CountsOne which.Input s.count t.count r
line_one s t (Ok r) h = h.0
line_one s t (Err (Outside o)) h = (h.0, h.1)
line_one s t (Err OutOfMemory) h = h

moment_one : (s t : Stand (List ℕ)) (r : HostAnswer) → TakesMoment s t r → CountsOne which.Clock s.count t.count r
moment_one s t (Ok r) h = h.0
moment_one s t (Err (Outside o)) h = (h.0, h.1)
moment_one s t (Err OutOfMemory) h = absurd h

file_one : (dir path : List ℕ) (s t : Stand Files) (r : HostAnswer) → ReadsFile dir path s t r → CountsOne which.Folder s.count t.count r
file_one dir path s t (Ok r) h = h.0
file_one dir path s t (Err (Outside o)) h = (h.0, h.1)
file_one dir path s t (Err OutOfMemory) h = h.0

look_one : (dir path : List ℕ) (s t : Stand Files) (r : HostAnswer) → LooksForFile dir path s t r → CountsOne which.Folder s.count t.count r
look_one dir path s t (Ok r) h = h.0
look_one dir path s t (Err (Outside o)) h = (h.0, h.1)
look_one dir path s t (Err OutOfMemory) h = h.0

output_counted : (emit : Bool) (line : List ℕ) (w v : HostWorld) (r : HostAnswer) → Prints emit line which.Output w.output v.output r × (v ≡ record w { output = v.output }) → CountsFaults w v r
output_counted emit line w v r h =
    counted which.Output w v r (output_alone w v (h.1)) (prints_one emit line which.Output w.output v.output r (h.0))

errors_counted : (emit : Bool) (line : List ℕ) (w v : HostWorld) (r : HostAnswer) → Prints emit line which.Errors w.errors v.errors r × (v ≡ record w { errors = v.errors }) → CountsFaults w v r
errors_counted emit line w v r h =
    counted which.Errors w v r (errors_alone w v (h.1)) (prints_one emit line which.Errors w.errors v.errors r (h.0))

performed : (f : HostFunction) (vs : HostValues) (emit : Bool) (dir : List ℕ) (w v : HostWorld) (r : HostAnswer) → Performs f vs emit dir w v r → CountsFaults w v r
performed function.Log vs emit dir w v r h = output_counted emit (printed_line vs) w v r h
performed function.Info vs emit dir w v r h = output_counted emit (printed_line vs) w v r h
performed function.Warn vs emit dir w v r h = errors_counted emit (printed_line vs) w v r h
performed function.Error vs emit dir w v r h = errors_counted emit (printed_line vs) w v r h
performed function.Line vs emit dir w v r h =
    counted which.Input w v r (input_alone w v (h.1)) (line_one w.input v.input r (h.0))
performed function.Now vs emit dir w v r h =
    counted which.Clock w v r (clock_alone w v (h.1)) (moment_one w.clock v.clock r (h.0))
performed function.ReadFileSync vs emit dir w v r h =
    counted which.Folder w v r (folder_alone w v (h.1)) (file_one dir (path_argument vs) w.folder v.folder r (h.0))
performed function.ExistsSync vs emit dir w v r h =
    counted which.Folder w v r (folder_alone w v (h.1)) (look_one dir (path_argument vs) w.folder v.folder r (h.0))

pub faults_are_counted : Faults_are_counted
faults_are_counted (Some f) (ask.Call this vs) emit dir w v r h = performed f vs emit dir w v r h
faults_are_counted None x emit dir w v (Ok r) h = λ o. ap (faults_of o) (h.1)
faults_are_counted None x emit dir w v (Err (Outside o)) h = absurd h
faults_are_counted None x emit dir w v (Err OutOfMemory) h = λ o. ap (faults_of o) h
faults_are_counted (Some f) x emit dir w v (Ok r) h = λ o. ap (faults_of o) (h.1)
faults_are_counted (Some f) x emit dir w v (Err (Outside o)) h = absurd h
faults_are_counted (Some f) x emit dir w v (Err OutOfMemory) h = λ o. ap (faults_of o) h
