-- An application is loaded: its packages, its policy, its modules.
use Rattle.std.proofs.Common.{◌≡◌, ℕ, List, Option, Result, Ok, Err, subst}
use Rattle.lava_streams.specs.Files.{Files}
use Rattle.pkg_graph.specs.declared.graph.Package.{Package}
use Rattle.policy_row.specs.Rows.{Rows}
use Rattle.lava_loading.specs.Loads.{AreReachedIn, AreSources, CountsLoading, IsGraphRead, IsLoadRead, IsLoading, IsLoadingIn, IsLoadingOf, LoadedSources}
use Rattle.lava_loading.specs.Policies.{ArePolicies}
use Rattle.lava_loading.specs.declared.loading.LoadedApplication.{LoadedApplication}
use Rattle.lava_loading.specs.declared.loading.LoadingFault.{LoadingFault}
use Rattle.lava_loading.specs.declared.loading.LoadingFault.TheVariants as fault

-- its policy was read, and then its modules were loaded
pub governed_so : (told mid : Option Files) (directory : List ℕ) (ps : List Package) (policy : Rows) (r : Result LoadedApplication LoadingFault) → mid ≡ told → ArePolicies told directory (Ok policy) → IsLoadingOf mid directory ps policy r → IsLoadingIn told directory ps r
governed_so told mid directory ps policy (Ok l) e p o = record { policies = rw o.0 p; load = subst (λ t. IsLoadRead t directory ps (Ok l.app)) e o.1 }
governed_so told mid directory ps policy (Err (fault.Graph f)) e p o = absurd o
governed_so told mid directory ps policy (Err (fault.Policies f)) e p o = absurd o
governed_so told mid directory ps policy (Err (fault.Load f)) e p o = (policy, record { policies = p; load = subst (λ t. IsLoadRead t directory ps (Err f)) e o })

-- its packages were read, and then the rest
pub loaded_so : (told mid : Option Files) (directory : List ℕ) (ps : List Package) (r : Result LoadedApplication LoadingFault) → mid ≡ told → IsGraphRead told directory (Ok ps) → IsLoadingIn mid directory ps r → IsLoading told directory r
loaded_so told mid directory ps (Ok l) e g i = record { packages = ps; graph = g; load = subst (λ t. IsLoadingIn t directory ps (Ok l)) e i }
loaded_so told mid directory ps (Err (fault.Graph f)) e g i = absurd i
loaded_so told mid directory ps (Err (fault.Policies f)) e g i = record { packages = ps; graph = g; load = subst (λ t. IsLoadingIn t directory ps (Err (fault.Policies f))) e i }
loaded_so told mid directory ps (Err (fault.Load f)) e g i = record { packages = ps; graph = g; load = subst (λ t. IsLoadingIn t directory ps (Err (fault.Load f))) e i }

-- its packages were read, and then its modules were loaded
pub reached_so : (told mid : Option Files) (directory : List ℕ) (ps : List Package) (r : LoadedSources) → mid ≡ told → IsGraphRead told directory (Ok ps) → AreReachedIn mid directory ps r → AreSources told directory r
reached_so told mid directory ps (Ok app) e g i = record { packages = ps; graph = g; load = subst (λ t. AreReachedIn t directory ps (Ok app)) e i }
reached_so told mid directory ps (Err (fault.Graph f)) e g i = absurd i
reached_so told mid directory ps (Err (fault.Policies f)) e g i = absurd i
reached_so told mid directory ps (Err (fault.Load f)) e g i = record { packages = ps; graph = g; load = subst (λ t. AreReachedIn t directory ps (Err (fault.Load f))) e i }

pub counted_so : {T : Type 0} (old mid new : ℕ) (r : Result T LoadingFault) → mid ≡ old → CountsLoading mid new r → CountsLoading old new r
counted_so old mid new r e c = subst (λ n. CountsLoading n new r) e c
