use Rattle.std.proofs.Common.{◌≡◌, Ok, Err, refl, subst, rules}
use Rattle.pkg_load.specs.Loading.{Follows, loading_begun}
use Rattle.pkg_load.specs.Sources.{sources_of}
use Rattle.pkg_load.proofs.ReasonLemmas.{answers_at}
use Rattle.pkg_load.proofs.load.load_application.Goals as goal

pub returns-in_err-loading-clause-gives : goal.returns-in_err-loading-clause-gives
returns-in_err-loading-clause-gives g c = λ files told meaning means.
    let is : c.from_residual.result ≡ Err c.in_err-loading.field-0.0 = search rules in
    answers_at (g.R.ModuleReader.Reads c.args.reader.now) meaning files c.args.root.now c.packages.result.now c.args.graph c.in_err-loading.field-0.0 c.from_residual.result c.packages.ensures is (c.in_err-loading.ensures.gives files told meaning means)

pub returns-clause-gives : goal.returns-clause-gives
returns-clause-gives g c = λ files told meaning means.
    let came = subst (λ ps. Follows (sources_of files c.args.root.now ps meaning) loading_begun (Ok c.in_ok-loading.loading)) c.packages.ensures (c.in_ok-loading.ensures.gives files told meaning means) in
    (c.in_ok-loading.loading, came, c.in_ok-loading.ensures.done, c.into_modules-modules.ensures, refl)
