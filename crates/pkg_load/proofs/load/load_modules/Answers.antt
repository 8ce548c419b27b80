use Rattle.std.proofs.Common.{◌≡◌, Ok, Err, subst, rules}
use Rattle.pkg_load.specs.Loading.{Follows, loading_begun}
use Rattle.pkg_load.specs.Reasons.{Explained}
use Rattle.pkg_load.specs.Sources.{sources_of}
use Rattle.pkg_load.proofs.ReasonLemmas.{says_answered}
use Rattle.pkg_load.proofs.load.load_modules.Goals as goal

pub returns-in_err-load_all-clause-gives : goal.returns-in_err-load_all-clause-gives
returns-in_err-load_all-clause-gives g c = λ files told meaning means.
    let w = sources_of files c.args.root.now c.args.packages.now meaning in
    let reads = g.R.ModuleReader.Reads c.args.reader.now in
    let begun : c.in_ok-loading.loading ≡ loading_begun = c.in_ok-loading.ensures in
    let is : c.from_residual-in_err-load_all.result ≡ Err c.in_err-load_all.field-0.0 = search rules in
    says_answered (Unit {0}) (Explained reads w (Follows w c.in_ok-loading.loading)) (Explained reads w (Follows w loading_begun)) c.load_all.new.loading c.in_err-load_all.field-0.0 c.from_residual-in_err-load_all.result
    (λ r h. subst (λ s. Explained reads w (Follows w s) r) begun h)
    is (c.in_err-load_all.ensures.gives files told meaning means)

pub returns-clause-gives : goal.returns-clause-gives
returns-clause-gives g c = λ files told meaning means.
    let w = sources_of files c.args.root.now c.args.packages.now meaning in
    let begun : c.in_ok-loading.loading ≡ loading_begun = c.in_ok-loading.ensures in
    subst (λ s. Follows w s (Ok c.load_all.new.loading)) begun (c.in_ok-load_all.ensures.gives files told meaning means)
