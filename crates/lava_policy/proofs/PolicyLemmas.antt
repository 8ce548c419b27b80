-- The answer of `lava policy DIR`: what a folder holds decides it, and where no cause of a refusal stands the policy is printed.
use Rattle.std.proofs.Common.{◌≡◌, ◌⊎◌, ℕ, List, Some, Ok, Err, sym, subst, inl, inr}
use Rattle.lava_streams.specs.Files.{Files}
use Rattle.lava_streams.specs.Outside.{Outside, IsFaultless}
use Rattle.lava_report.specs.lava_loading.Laws.{AreHeld, IsOfContent, IsSourceMeaning, Meaning, One_sources}
use Rattle.lava_report.specs.lava_loading.Loads.{AreSources, LoadedSources}
use Rattle.lava_report.specs.lava_loading.declared.loading.LoadingFault.{LoadingFault}
use Rattle.pkg_load.specs.Applications.{Application}
use Rattle.pkg_source.specs.declared.code.ModuleCode.{ModuleCode}
use Rattle.lava_policy.specs.declared.policy_outcome.PolicyOutcome.{PolicyOutcome}
use Rattle.lava_policy.specs.declared.policy_outcome.PolicyOutcome.TheVariants as outcome
use Rattle.lava_policy.specs.PolicyAnswers.{HasPrintedPolicy, IsPrintedIn, IsUnprintedFor, PolicyAnswers, PolicyComes, PolicyDecides, PolicyFinishes, PolicyHeld, PolicyPrints}
use Rattle.lava_policy.specs.PolicyOutcomes.{AreCalm, FolderStops, MemoryStops, PolicyReports, TellsRefusal}
use Rattle.lava_policy.proofs.PolicyOutcomesLemmas.{Sorted, err_one, ok_err, ok_one, sorted}

-- its sources were loaded, and then its policy was printed
pub printed_so : (directory : List ℕ) (before after : Outside) (app : Application ModuleCode) (o : PolicyOutcome) → AreSources before.folder.told directory (Ok app) → IsFaultless before.folder after.folder
    → PolicyPrints app before.output after.output o → PolicyComes directory before after o
printed_so directory before after app outcome.Finished l f p = record { app = app; loaded = l; faultless = f; prints = p }
printed_so directory before after app outcome.Denied l f p = absurd p
printed_so directory before after app (outcome.Refused g) l f p = absurd p
printed_so directory before after app outcome.OutputFailed l f p = record { app = app; loaded = l; faultless = f; prints = p }
printed_so directory before after app outcome.OutOfMemory l f p = record { app = app; loaded = l; faultless = f; prints = p }

held_so : (files : Files) (directory : List ℕ) (before after : Outside) (g : LoadingFault) → before.folder.told ≡ Some files → IsUnprintedFor directory before after g → IsOfContent g → AreHeld files directory (Err g)
held_so files directory before after g told c of = (subst (λ t. AreSources t directory (Err g)) told c.cause, of)

-- WHAT A FOLDER HOLDS DECIDES

module _ (one : One_sources) (meaning : Meaning) (means : IsSourceMeaning meaning) (directory : List ℕ) (before after : Outside) (status : ℕ) (files : Files) (told : before.folder.told ≡ Some files) where
  abbrev Answer : LoadedSources → Type 0
  Answer r = PolicyHeld files directory r before after status ⊎ FolderStops before after status ⊎ MemoryStops before after status

  refused_as : (g : LoadingFault) (r : LoadedSources) → AreHeld files directory (Err g) → AreHeld files directory r → TellsRefusal g before.errors after.errors status → IsFaultless before.folder after.folder
      → after.output ≡ before.output → PolicyHeld files directory r before after status
  refused_as g (Ok app) h q t f o = absurd (ok_err (sym (one files directory meaning (Err g) (Ok app) means h q)))
  refused_as g (Err e) h q t f o =
      record { cause = g; same = err_one (one files directory meaning (Err g) (Err e) means h q); held = h; told = t; faultless = f; output = o }

  refused : (g : LoadingFault) (r : LoadedSources) → AreHeld files directory r → IsUnprintedFor directory before after g → TellsRefusal g before.errors after.errors status → Answer r
  refused g r q c t = by (sorted (Application ModuleCode) before after status c.output g c.counts t)
    where
      by : Sorted g before after status → Answer r
      by (inl p) = inl (refused_as g r (held_so files directory before after g told c p.0) q t p.1 c.output)
      by (inr s) = inr s

  printed : (o : PolicyOutcome) (r : LoadedSources) → AreHeld files directory r → IsPrintedIn directory before after o → PolicyReports o before.errors after.errors status → PolicyHeld files directory r before after status
  printed o (Err e) q h t = absurd (ok_err (one files directory meaning (Ok h.app) (Err e) means (subst (λ t. AreSources t directory (Ok h.app)) told h.loaded) q))
  printed o (Ok app) q h t =
      let same : h.app ≡ app = ok_one (one files directory meaning (Ok h.app) (Ok app) means (subst (λ t. AreSources t directory (Ok h.app)) told h.loaded) q) in
      record { outcome = o; prints = subst (λ (a : Application ModuleCode). PolicyPrints a before.output after.output o) same h.prints; told = t }

  answered : (o : PolicyOutcome) (r : LoadedSources) → AreHeld files directory r → PolicyComes directory before after o → PolicyReports o before.errors after.errors status → Answer r
  answered outcome.Finished r q c t = inl (printed outcome.Finished r q c t)
  answered outcome.Denied r q c t = absurd c
  answered (outcome.Refused g) r q c t = refused g r q c t
  answered outcome.OutputFailed r q c t = inl (printed outcome.OutputFailed r q c t)
  answered outcome.OutOfMemory r q c t = inl (printed outcome.OutOfMemory r q c t)

pub decides : One_sources → (directory : List ℕ) (before after : Outside) (status : ℕ) → PolicyAnswers directory before after status → PolicyDecides directory before after status
decides one directory before after status a =
    λ meaning means files told r held. answered one meaning means directory before after status files told a.outcome r held a.comes a.told

-- WHERE NO CAUSE STANDS

module _ (directory : List ℕ) (before after : Outside) (status : ℕ) (files : Files) (told : before.folder.told ≡ Some files) (none : (f : LoadingFault) → ¬ AreHeld files directory (Err f)) (calm : AreCalm before after) where
  abbrev End : Type 0
  End = HasPrintedPolicy directory before after status ⊎ MemoryStops before after status

  unprinted : (g : LoadingFault) → IsUnprintedFor directory before after g → TellsRefusal g before.errors after.errors status → End
  unprinted g c t = by (sorted (Application ModuleCode) before after status c.output g c.counts t)
    where
      by : Sorted g before after status → End
      by (inl p) = absurd (none g (held_so files directory before after g told c p.0))
      by (inr (inl s)) = absurd (calm.folder s.fault)
      by (inr (inr s)) = inr s

  ended : (o : PolicyOutcome) → PolicyComes directory before after o → PolicyReports o before.errors after.errors status → End
  ended outcome.Finished c t =
      inl (record { app = c.app; loaded = c.loaded; text = c.prints.0; is = c.prints.1; put = c.prints.2; done = t.0; errors = t.1 })
  ended outcome.Denied c t = absurd c
  ended (outcome.Refused g) c t = unprinted g c t
  ended outcome.OutputFailed c t = absurd (calm.output c.prints.2.0)
  ended outcome.OutOfMemory c t = inr (record { told = t; output = c.prints })

pub finishes : (directory : List ℕ) (before after : Outside) (status : ℕ) → PolicyAnswers directory before after status → PolicyFinishes directory before after status
finishes directory before after status a = λ files told none calm. ended directory before after status files told none calm a.outcome a.comes a.told
