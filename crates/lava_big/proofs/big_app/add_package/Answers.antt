use Rattle.std.proofs.Common.{[], ◌∷◌, ◌++◌, refl, ap, ◌∙◌}
use Rattle.lava_big.proofs.Steps.{one_file, same_file}
use Rattle.lava_big.proofs.big_app.add_package.Goals as goal

pub returns-clause-files : goal.returns-clause-files
returns-clause-files c =
    let first = same_file _ _ _ _ (c.as_str.ensures.value ∙ c.in_ok-manifest_path.ensures) (c.as_str-2.ensures.value ∙ c.in_ok-manifest.ensures) in
    let second = same_file _ _ _ _ (c.as_str-3.ensures.value ∙ c.in_ok-index_path.ensures) (c.as_str-4.ensures.value ∙ c.in_ok-source.ensures) in
    one_file c.add_file-2.result c.args.folder.now.files c.add_file.new.folder.files c.add_file-2.new.folder.files _ _ _ _ second
    (c.in_ok-add_file.ensures.files ∙ ap (λ f. c.args.folder.now.files ++ (f ∷ [])) first) refl c.add_file-2.ensures.files
