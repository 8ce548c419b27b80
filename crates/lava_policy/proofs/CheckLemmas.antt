-- The answer of `lava check DIR`: what a folder holds decides it, where no cause of a refusal stands what is denied is printed, and the status is 8 only where a line was.
use Rattle.std.proofs.Common.{◌≡◌, ◌≢◌, ◌⊎◌, ◌∷◌, [], ℕ, List, Result, Some, Ok, Err, sym, ◌∙◌, subst, inl, inr, refl}
use Rattle.lava_streams.specs.Files.{Files}
use Rattle.lava_streams.specs.Outside.{Outside, IsFaultless, Grows}
use Rattle.lava_host.specs.declared.fault.Which.TheVariants as which
use Rattle.lava_lines.specs.declared.status.TheConstants as texts
use Rattle.lava_report.specs.lava_loading.Laws.{IsHeld, IsOfContent, IsSourceMeaning, Meaning, One_loading}
use Rattle.lava_report.specs.lava_loading.Loads.{IsLoading}
use Rattle.lava_report.specs.lava_loading.declared.loading.LoadedApplication.{LoadedApplication}
use Rattle.lava_report.specs.lava_loading.declared.loading.LoadingFault.{LoadingFault}
use Rattle.policy_gen.specs.Denials.{denied_in}
use Rattle.policy_gen.specs.declared.denial.Denied.{Denied}
use Rattle.lava_policy.specs.declared.policy_outcome.PolicyOutcome.{PolicyOutcome}
use Rattle.lava_policy.specs.declared.policy_outcome.PolicyOutcome.TheVariants as outcome
use Rattle.lava_policy.specs.CheckAnswers.{CheckAnswers, CheckComes, CheckDecides, CheckDenies, CheckFinishes, CheckHeld, CheckPrints, HasChecked, HasListed, IsCheckedIn, IsUncheckedFor, denied_text}
use Rattle.lava_policy.specs.PolicyOutcomes.{AreCalm, FolderStops, MemoryStops, PolicyReports, TellsRefusal}
use Rattle.lava_policy.proofs.PolicyOutcomesLemmas.{Sorted, done_other, err_one, lacks_other, ok_err, ok_one, outside_told, refusal_told, sorted}

abbrev Answered : Type 0
Answered = Result LoadedApplication LoadingFault

-- it was loaded, and then what is denied of it was printed
pub checked_so : (directory : List ℕ) (before after : Outside) (app : LoadedApplication) (o : PolicyOutcome) → IsLoading before.folder.told directory (Ok app) → IsFaultless before.folder after.folder
    → CheckPrints (denied_in app.app app.policy) before.output after.output o → CheckComes directory before after o
checked_so directory before after app outcome.Finished l f p = record { app = app; loaded = l; faultless = f; prints = p }
checked_so directory before after app outcome.Denied l f p = record { app = app; loaded = l; faultless = f; prints = p }
checked_so directory before after app (outcome.Refused g) l f p = absurd p
checked_so directory before after app outcome.OutputFailed l f p = record { app = app; loaded = l; faultless = f; prints = p }
checked_so directory before after app outcome.OutOfMemory l f p = record { app = app; loaded = l; faultless = f; prints = p }

held_so : (files : Files) (directory : List ℕ) (before after : Outside) (g : LoadingFault) → before.folder.told ≡ Some files → IsUncheckedFor directory before after g → IsOfContent g → IsHeld files directory (Err g)
held_so files directory before after g told c of = (subst (λ t. IsLoading t directory (Err g)) told c.cause, of)

-- WHAT A FOLDER HOLDS DECIDES

module _ (one : One_loading) (meaning : Meaning) (means : IsSourceMeaning meaning) (directory : List ℕ) (before after : Outside) (status : ℕ) (files : Files) (told : before.folder.told ≡ Some files) where
  abbrev Answer : Answered → Type 0
  Answer r = CheckHeld files directory r before after status ⊎ FolderStops before after status ⊎ MemoryStops before after status

  refused_as : (g : LoadingFault) (r : Answered) → IsHeld files directory (Err g) → IsHeld files directory r → TellsRefusal g before.errors after.errors status → IsFaultless before.folder after.folder
      → after.output ≡ before.output → CheckHeld files directory r before after status
  refused_as g (Ok app) h q t f o = absurd (ok_err (sym (one files directory meaning (Err g) (Ok app) means h q)))
  refused_as g (Err e) h q t f o =
      record { cause = g; same = err_one (one files directory meaning (Err g) (Err e) means h q); held = h; told = t; faultless = f; output = o }

  refused : (g : LoadingFault) (r : Answered) → IsHeld files directory r → IsUncheckedFor directory before after g → TellsRefusal g before.errors after.errors status → Answer r
  refused g r q c t = by (sorted LoadedApplication before after status c.output g c.counts t)
    where
      by : Sorted g before after status → Answer r
      by (inl p) = inl (refused_as g r (held_so files directory before after g told c p.0) q t p.1 c.output)
      by (inr s) = inr s

  checked : (o : PolicyOutcome) (r : Answered) → IsHeld files directory r → IsCheckedIn directory before after o → PolicyReports o before.errors after.errors status → CheckHeld files directory r before after status
  checked o (Err e) q h t = absurd (ok_err (one files directory meaning (Ok h.app) (Err e) means (subst (λ t. IsLoading t directory (Ok h.app)) told h.loaded) q))
  checked o (Ok app) q h t =
      let same : h.app ≡ app = ok_one (one files directory meaning (Ok h.app) (Ok app) means (subst (λ t. IsLoading t directory (Ok h.app)) told h.loaded) q) in
      record { outcome = o; prints = subst (λ (a : LoadedApplication). CheckPrints (denied_in a.app a.policy) before.output after.output o) same h.prints; told = t }

  answered : (o : PolicyOutcome) (r : Answered) → IsHeld files directory r → CheckComes directory before after o → PolicyReports o before.errors after.errors status → Answer r
  answered outcome.Finished r q c t = inl (checked outcome.Finished r q c t)
  answered outcome.Denied r q c t = inl (checked outcome.Denied r q c t)
  answered (outcome.Refused g) r q c t = refused g r q c t
  answered outcome.OutputFailed r q c t = inl (checked outcome.OutputFailed r q c t)
  answered outcome.OutOfMemory r q c t = inl (checked outcome.OutOfMemory r q c t)

pub decides : One_loading → (directory : List ℕ) (before after : Outside) (status : ℕ) → CheckAnswers directory before after status → CheckDecides directory before after status
decides one directory before after status a =
    λ meaning means files told r held. answered one meaning means directory before after status files told a.outcome r held a.comes a.told

-- WHERE NO CAUSE STANDS

none_listed : (ds : List Denied) (before after : Outside) (status : ℕ) → ds ≡ [] → after.output ≡ before.output → status ≡ texts.DONE_STATUS → HasListed ds before after status
none_listed ds before after status is o s = subst (λ ds. HasListed ds before after status) (sym is) (o, s)

some_listed : (ds : List Denied) (before after : Outside) (status : ℕ) → ds ≢ [] → Grows before.output after.output (denied_text ds) → status ≡ texts.DENIED_STATUS → HasListed ds before after status
some_listed [] before after status is g s = absurd (is refl)
some_listed (d ∷ ds) before after status is g s = (g, s)

module _ (directory : List ℕ) (before after : Outside) (status : ℕ) (files : Files) (told : before.folder.told ≡ Some files) (none : (f : LoadingFault) → ¬ IsHeld files directory (Err f)) (calm : AreCalm before after) where
  abbrev End : Type 0
  End = HasChecked directory before after status ⊎ MemoryStops before after status

  unchecked : (g : LoadingFault) → IsUncheckedFor directory before after g → TellsRefusal g before.errors after.errors status → End
  unchecked g c t = by (sorted LoadedApplication before after status c.output g c.counts t)
    where
      by : Sorted g before after status → End
      by (inl p) = absurd (none g (held_so files directory before after g told c p.0))
      by (inr (inl s)) = absurd (calm.folder s.fault)
      by (inr (inr s)) = inr s

  ended : (o : PolicyOutcome) → CheckComes directory before after o → PolicyReports o before.errors after.errors status → End
  ended outcome.Finished c t =
      inl (record { app = c.app; loaded = c.loaded; listed = none_listed (denied_in c.app.app c.app.policy) before after status c.prints.0 c.prints.1 t.0; errors = t.1 })
  ended outcome.Denied c t =
      inl (record { app = c.app; loaded = c.loaded; listed = some_listed (denied_in c.app.app c.app.policy) before after status c.prints.0 c.prints.1 t.0; errors = t.1 })
  ended (outcome.Refused g) c t = unchecked g c t
  ended outcome.OutputFailed c t = absurd (calm.output c.prints.1.0)
  ended outcome.OutOfMemory c t = inr (record { told = t; output = c.prints })

pub finishes : (directory : List ℕ) (before after : Outside) (status : ℕ) → CheckAnswers directory before after status → CheckFinishes directory before after status
finishes directory before after status a = λ files told none calm. ended directory before after status files told none calm a.outcome a.comes a.told

-- WHERE THE STATUS IS 8

denied_by : (directory : List ℕ) (before after : Outside) (status : ℕ) (o : PolicyOutcome) → CheckComes directory before after o → PolicyReports o before.errors after.errors status → CheckDenies directory before after status
denied_by directory before after status outcome.Finished c t e = absurd (done_other (sym t.0 ∙ e))
denied_by directory before after status outcome.Denied c t e = c
denied_by directory before after status (outcome.Refused g) c t e = absurd (refusal_told before.errors after.errors status g t e)
denied_by directory before after status outcome.OutputFailed c t e = absurd (outside_told before.errors after.errors status which.Output t e)
denied_by directory before after status outcome.OutOfMemory c t e = absurd (lacks_other before.errors after.errors status t e)

pub denies : (directory : List ℕ) (before after : Outside) (status : ℕ) → CheckAnswers directory before after status → CheckDenies directory before after status
denies directory before after status a = denied_by directory before after status a.outcome a.comes a.told
