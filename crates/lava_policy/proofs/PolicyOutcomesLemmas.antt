-- What a refusal is of, and which statuses are told of one.
use Rattle.std.proofs.Common.{◌≡◌, ◌⊎◌, ℕ, List, Result, Ok, Err, sym, ◌∙◌, inl, inr, arith}
use Rattle.lava_lines.specs.Puts as puts
use Rattle.lava_lines.specs.declared.status.TheConstants as texts
use Rattle.lava_streams.specs.Outside.{Stand, Outside, IsFaultless}
use Rattle.lava_report.specs.Tells.{TellsOutside}
use Rattle.lava_report.specs.lava_loading.Laws.{IsOfContent}
use Rattle.lava_report.specs.lava_loading.Loads.{CountsLoading}
use Rattle.lava_report.specs.lava_loading.declared.loading.LoadingFault.{LoadingFault}
use Rattle.lava_report.specs.lava_loading.declared.loading.LoadingFault.TheVariants as loading
use Rattle.lava_report.specs.lava_loading.declared.policies.PoliciesFault.TheVariants as policies
use Rattle.lava_report.specs.lava_loading.pkg_load.declared.fault.LoadFault.TheVariants as load
use Rattle.lava_host.specs.declared.fault.Which.{Which}
use Rattle.pkg_graph.specs.declared.fault.GraphFault.TheVariants as graph
use Rattle.lava_policy.specs.PolicyOutcomes.{FolderStops, MemoryStops, TellsRefusal}

-- RESULTS

pub ok_err : {X Y : Type 0} {x : X} {y : Y} → Ok x ≡ Err y → ⊥
ok_err p = cc

pub ok_one : {X Y : Type 0} {x y : X} → ◌≡◌ {A = Result X Y} (Ok x) (Ok y) → x ≡ y
ok_one p = cc

pub err_one : {X Y : Type 0} {x y : Y} → ◌≡◌ {A = Result X Y} (Err x) (Err y) → x ≡ y
err_one p = cc

-- WHAT A REFUSAL IS OF

-- of what the folder holds, of a fault of the folder, or of want of memory
abbrev pub Sorted : (g : LoadingFault) → (before after : Outside) → (status : ℕ) → Type 0
Sorted g before after status =
    (IsOfContent g × IsFaultless before.folder after.folder) ⊎ FolderStops before after status ⊎ MemoryStops before after status

module _ (T : Type 0) (before after : Outside) (status : ℕ) (output : after.output ≡ before.output) where
  pub sorted : (g : LoadingFault) → CountsLoading {T = T} before.folder.count after.folder.count (Err g) → TellsRefusal g before.errors after.errors status → Sorted g before after status
  sorted (loading.Graph (graph.Manifest dir field)) c t = inl (tt, c)
  sorted (loading.Graph (graph.TooMany what count)) c t = inl (tt, c)
  sorted (loading.Graph graph.Folder) c t = inr (inl (record { fault = c; told = t; output = output }))
  sorted (loading.Graph graph.OutOfMemory) c t = inr (inr (record { told = t; output = output }))
  sorted (loading.Policies (policies.Bad file row key what)) c t = inl (tt, c)
  sorted (loading.Policies policies.TooLong) c t = inl (tt, c)
  sorted (loading.Policies policies.Folder) c t = inr (inl (record { fault = c; told = t; output = output }))
  sorted (loading.Policies policies.OutOfMemory) c t = inr (inr (record { told = t; output = output }))
  sorted (loading.Load (load.Syntax name path place what)) c t = inl (tt, c)
  sorted (loading.Load (load.Missing name request)) c t = inl (tt, c)
  sorted (loading.Load load.Folder) c t = inr (inl (record { fault = c; told = t; output = output }))
  sorted (loading.Load (load.TooMany what count)) c t = inl (tt, c)
  sorted (loading.Load load.OutOfMemory) c t = inr (inr (record { told = t; output = output }))

-- STATUSES

-- a status other than that of a `check` that printed a line
abbrev pub IsOther : (status : ℕ) → Type 0
IsOther status = status ≡ texts.DENIED_STATUS → ⊥

pub done_other : IsOther texts.DONE_STATUS
done_other e = omega arith

loading_other : IsOther texts.LOADING_STATUS
loading_other e = omega arith

policy_other : IsOther texts.POLICY_STATUS
policy_other e = omega arith

outside_other : IsOther texts.OUTSIDE_STATUS
outside_other e = omega arith

memory_other : IsOther texts.MEMORY_STATUS
memory_other e = omega arith

module _ (before after : Stand (List ℕ)) (status : ℕ) where
  puts_other : (line : List ℕ) (own : ℕ) → IsOther own → puts.Puts line own before after status → IsOther status
  puts_other line own other (inl p) e = other (sym p.0 ∙ e)
  puts_other line own other (inr p) e = outside_other (sym p.0 ∙ e)

  pub lacks_other : puts.Lacks before after status → IsOther status
  lacks_other l = puts_other texts.MEMORY_LINE.now texts.MEMORY_STATUS memory_other l

  line_other : (line : List ℕ) (own : ℕ) → IsOther own → puts.PutsLine line own before after status → IsOther status
  line_other line own other (inl p) = puts_other line own other p
  line_other line own other (inr l) = lacks_other l

  pub outside_told : (w : Which) → TellsOutside w before after status → IsOther status
  outside_told w t = line_other _ texts.OUTSIDE_STATUS outside_other t

  pub refusal_told : (g : LoadingFault) → TellsRefusal g before after status → IsOther status
  refusal_told (loading.Graph (graph.Manifest dir field)) t = line_other _ texts.LOADING_STATUS loading_other t
  refusal_told (loading.Graph (graph.TooMany what count)) t = line_other _ texts.LOADING_STATUS loading_other t
  refusal_told (loading.Graph graph.Folder) t = line_other _ texts.OUTSIDE_STATUS outside_other t
  refusal_told (loading.Graph graph.OutOfMemory) t = lacks_other t
  refusal_told (loading.Policies (policies.Bad file row key what)) t = line_other _ texts.POLICY_STATUS policy_other t
  refusal_told (loading.Policies policies.TooLong) t = line_other _ texts.LOADING_STATUS loading_other t
  refusal_told (loading.Policies policies.Folder) t = line_other _ texts.OUTSIDE_STATUS outside_other t
  refusal_told (loading.Policies policies.OutOfMemory) t = lacks_other t
  refusal_told (loading.Load (load.Syntax name path place what)) t = line_other _ texts.LOADING_STATUS loading_other t
  refusal_told (loading.Load (load.Missing name request)) t = line_other _ texts.LOADING_STATUS loading_other t
  refusal_told (loading.Load load.Folder) t = line_other _ texts.OUTSIDE_STATUS outside_other t
  refusal_told (loading.Load (load.TooMany what count)) t = line_other _ texts.LOADING_STATUS loading_other t
  refusal_told (loading.Load load.OutOfMemory) t = lacks_other t
