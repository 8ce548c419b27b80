use Rattle.std.proofs.Common.{◌≡◌, ℕ, sym, ap, ◌∙◌, subst}
use Rattle.pkg_load.specs.Loading.{found_at}
use Rattle.pkg_load.specs.Requirements.{lookup_of}
use Rattle.pkg_load.specs.Sources.{sources_of}
use Rattle.pkg_load.specs.declared.finding.Found.TheVariants.{New}
use Rattle.pkg_load.specs.LoadFaults.{CountsLoad}
use Rattle.pkg_load.proofs.ReasonLemmas.{settled_so}
use Rattle.pkg_load.proofs.settling.settle.Goals as goal

pub returns-clause-counts : goal.returns-clause-counts
returns-clause-counts g c =
    let now = (g.F.Folder.stand c.found_at.new.folder).count in
    subst (λ (old : ℕ). CountsLoad old now c.take_in.result) c.in_ok-found_at.ensures.counts (c.take_in.ensures.own now)

pub returns-clause-gives : goal.returns-clause-gives
returns-clause-gives g c = λ files told meaning means.
    let w = sources_of files c.args.root.now c.args.packages.now meaning in
    let loading = c.args.loading.now in
    let asked : c.in_ok-lookup.lookup ≡ lookup_of w.packages c.args.requirement.now = c.in_ok-lookup.ensures in
    let known : c.known.result.now ≡ loading.known = c.known.ensures in
    let at : c.in_ok-found_at.field-0 ≡ found_at w.stands c.known.result.now c.in_ok-lookup.lookup = c.in_ok-found_at.ensures.gives files told in
    let new : c.in_ok-found_at.field-0 ≡ New c.in-New.found = c.in-New.is in
    let is : found_at w.stands loading.known (lookup_of w.packages c.args.requirement.now) ≡ New c.in-New.found = sym (at ∙ ap (λ k. found_at w.stands k c.in_ok-lookup.lookup) known ∙ ap (found_at w.stands loading.known) asked) ∙ new in
    settled_so (g.R.ModuleReader.Reads c.args.reader.now) w loading c.take_in.new.loading c.args.requirement.now c.in-New.found c.take_in.result is (c.take_in.ensures.gives meaning means) c.take_in.ensures.reasons
