-- What a folder holds is loaded in one way, or refused for one cause.
use Rattle.std.proofs.Common.{◌≡◌, ℕ, List, Some, Result, Ok, Err, sym, ap, ◌∙◌, subst, refl}
use Rattle.lava_streams.specs.Files.{Files}
use Rattle.pkg_graph.specs.Faults.{Agrees}
use Rattle.pkg_graph.specs.Naming.{graph_of}
use Rattle.pkg_graph.specs.Worlds.{world_of}
use Rattle.pkg_graph.specs.declared.fault.GraphFault.{GraphFault}
use Rattle.pkg_graph.specs.declared.fault.GraphFault.TheVariants as graph
use Rattle.pkg_graph.specs.declared.graph.Package.{Package}
use Rattle.pkg_load.specs.Sources.{sources_of}
use Rattle.pkg_source.specs.Reading.{IsRead}
use Rattle.policy_row.specs.Rows.{Rows}
use Rattle.lava_loading.specs.Laws.{AreHeld, IsHeld, IsOfManifests, IsSourceMeaning, Meaning, One_loading, One_sources, plain_loading}
use Rattle.lava_loading.specs.Loads.{IsLoadRead, LoadedModules, LoadedSources}
use Rattle.lava_loading.specs.Policies.{ArePolicies}
use Rattle.lava_loading.specs.declared.loading.LoadedApplication.{LoadedApplication}
use Rattle.lava_loading.specs.declared.loading.LoadingFault.{LoadingFault}
use Rattle.lava_loading.specs.declared.loading.LoadingFault.TheVariants as fault
use Rattle.lava_loading.specs.declared.policies.PoliciesFault.{PoliciesFault}
use Rattle.lava_loading.proofs.Load_laws.{IsOfLoad, load_one, plain_load}
use Rattle.lava_loading.proofs.Policy_laws.{IsOfPolicies, policies_one}

-- what is told of these modules, where the policy is this one
abbrev joined : Rows → LoadedModules → Result LoadedApplication LoadingFault
joined rows (Ok app) = Ok (record { app = app; policy = rows })
joined rows (Err f) = Err (fault.Load f)

-- the modules, where the packages and the policy are these
record IsModular (files : Files) (directory : List ℕ) (ps : List Package) (rows : Rows) (r : Result LoadedApplication LoadingFault) : Type 0 where
  pub modules : LoadedModules
  pub read : IsLoadRead (Some files) directory ps modules
  pub of : IsOfLoad modules
  pub is : plain_loading r ≡ joined rows (plain_load modules)

abbrev IsRuled : Files → (directory : List ℕ) → List Package → Result Rows PoliciesFault → Result LoadedApplication LoadingFault → Type 0
IsRuled files directory ps (Ok rows) r = IsModular files directory ps rows r
IsRuled files directory ps (Err p) r = plain_loading r ≡ Err (fault.Policies p)

-- the policy and then the modules, where the packages are these
record IsPacked (files : Files) (directory : List ℕ) (ps : List Package) (r : Result LoadedApplication LoadingFault) : Type 0 where
  pub policy : Result Rows PoliciesFault
  pub read : ArePolicies (Some files) directory policy
  pub of : IsOfPolicies policy
  pub rest : IsRuled files directory ps policy r

abbrev IsStaged : Files → (directory : List ℕ) → Result (List Package) GraphFault → Result LoadedApplication LoadingFault → Type 0
IsStaged files directory (Ok ps) r = IsPacked files directory ps r
IsStaged files directory (Err f) r = plain_loading r ≡ Err (fault.Graph f)

-- ONE ANSWER

module _ (files : Files) (directory : List ℕ) (meaning : Meaning) (means : IsSourceMeaning meaning) where
  modules_one : (ps : List Package) (rows : Rows) (r q : Result LoadedApplication LoadingFault) → IsModular files directory ps rows r → IsModular files directory ps rows q → plain_loading r ≡ plain_loading q
  modules_one ps rows r q a b =
      let w = sources_of files directory ps meaning in
      a.is ∙ ap (joined rows) (load_one IsRead w a.modules b.modules (a.read.agrees files refl meaning means) (b.read.agrees files refl meaning means) a.of b.of) ∙ sym b.is

  ruled_one : (ps : List Package) (p : Result Rows PoliciesFault) (r q : Result LoadedApplication LoadingFault) → IsRuled files directory ps p r → IsRuled files directory ps p q → plain_loading r ≡ plain_loading q
  ruled_one ps (Ok rows) r q a b = modules_one ps rows r q a b
  ruled_one ps (Err p) r q a b = a ∙ sym b

  packed_one : (ps : List Package) (r q : Result LoadedApplication LoadingFault) → IsPacked files directory ps r → IsPacked files directory ps q → plain_loading r ≡ plain_loading q
  packed_one ps r q a b =
      ruled_one ps a.policy r q a.rest (subst (λ p. IsRuled files directory ps p q) (policies_one files directory b.policy a.policy b.read a.read b.of a.of) b.rest)

  staged_one : (g : Result (List Package) GraphFault) (r q : Result LoadedApplication LoadingFault) → IsStaged files directory g r → IsStaged files directory g q → plain_loading r ≡ plain_loading q
  staged_one (Ok ps) r q a b = packed_one ps r q a b
  staged_one (Err f) r q a b = a ∙ sym b

-- WHAT IS HELD

expected : (wanted : Result (List Package) GraphFault) (f : GraphFault) → Agrees wanted (Err f) → IsOfManifests f → wanted ≡ Err f
expected wanted (graph.Manifest dir field) a of = a
expected wanted (graph.TooMany what count) a of = a
expected wanted graph.Folder a of = absurd of
expected wanted graph.OutOfMemory a of = absurd of

staged : (files : Files) (directory : List ℕ) (r : Result LoadedApplication LoadingFault) → IsHeld files directory r → IsStaged files directory (graph_of (world_of files directory)) r
staged files directory (Ok l) h =
    subst (λ g. IsStaged files directory g (Ok l)) (sym (h.graph.agrees files refl))
    (record { policy = Ok l.policy; read = h.load.policies; of = tt; rest = record { modules = Ok l.app; read = h.load.load; of = tt; is = refl } })
staged files directory (Err (fault.Graph f)) h =
    subst (λ g. IsStaged files directory g (Err (fault.Graph f))) (sym (expected (graph_of (world_of files directory)) f (h.0.agrees files refl) h.1)) refl
staged files directory (Err (fault.Policies f)) h =
    subst (λ g. IsStaged files directory g (Err (fault.Policies f))) (sym (h.0.graph.agrees files refl))
    (record { policy = Err f; read = h.0.load; of = h.1; rest = refl })
staged files directory (Err (fault.Load f)) h =
    subst (λ g. IsStaged files directory g (Err (fault.Load f))) (sym (h.0.graph.agrees files refl))
    (record { policy = Ok h.0.load.0; read = h.0.load.1.policies; of = tt; rest = record { modules = Err f; read = h.0.load.1.load; of = h.1; is = refl } })

pub one_loading : One_loading
one_loading files directory meaning r q means a b =
    staged_one files directory meaning means (graph_of (world_of files directory)) r q (staged files directory r a) (staged files directory q b)

-- THE SOURCES ALONE

-- what is told of these modules
abbrev alone : LoadedModules → LoadedSources
alone (Ok app) = Ok app
alone (Err f) = Err (fault.Load f)

-- the modules, where the packages are these
record IsModularAlone (files : Files) (directory : List ℕ) (ps : List Package) (r : LoadedSources) : Type 0 where
  pub modules : LoadedModules
  pub read : IsLoadRead (Some files) directory ps modules
  pub of : IsOfLoad modules
  pub is : plain_loading r ≡ alone (plain_load modules)

abbrev IsStagedAlone : Files → (directory : List ℕ) → Result (List Package) GraphFault → LoadedSources → Type 0
IsStagedAlone files directory (Ok ps) r = IsModularAlone files directory ps r
IsStagedAlone files directory (Err f) r = plain_loading r ≡ Err (fault.Graph f)

module _ (files : Files) (directory : List ℕ) (meaning : Meaning) (means : IsSourceMeaning meaning) where
  sources_one : (g : Result (List Package) GraphFault) (r q : LoadedSources) → IsStagedAlone files directory g r → IsStagedAlone files directory g q → plain_loading r ≡ plain_loading q
  sources_one (Ok ps) r q a b =
      let w = sources_of files directory ps meaning in
      a.is ∙ ap alone (load_one IsRead w a.modules b.modules (a.read.agrees files refl meaning means) (b.read.agrees files refl meaning means) a.of b.of) ∙ sym b.is
  sources_one (Err f) r q a b = a ∙ sym b

staged_alone : (files : Files) (directory : List ℕ) (r : LoadedSources) → AreHeld files directory r → IsStagedAlone files directory (graph_of (world_of files directory)) r
staged_alone files directory (Ok app) h =
    subst (λ g. IsStagedAlone files directory g (Ok app)) (sym (h.graph.agrees files refl))
    (record { modules = Ok app; read = h.load; of = tt; is = refl })
staged_alone files directory (Err (fault.Graph f)) h =
    subst (λ g. IsStagedAlone files directory g (Err (fault.Graph f))) (sym (expected (graph_of (world_of files directory)) f (h.0.agrees files refl) h.1)) refl
staged_alone files directory (Err (fault.Policies f)) h = absurd h.0
staged_alone files directory (Err (fault.Load f)) h =
    subst (λ g. IsStagedAlone files directory g (Err (fault.Load f))) (sym (h.0.graph.agrees files refl))
    (record { modules = Err f; read = h.0.load; of = h.1; is = refl })

pub one_sources : One_sources
one_sources files directory meaning r q means a b =
    sources_one files directory meaning means (graph_of (world_of files directory)) r q (staged_alone files directory r a) (staged_alone files directory q b)
