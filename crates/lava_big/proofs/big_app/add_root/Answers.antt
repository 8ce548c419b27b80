use Rattle.std.proofs.Common.{refl, ◌∙◌}
use Rattle.lava_big.proofs.Steps.{same_file, three_files}
use Rattle.lava_big.proofs.big_app.add_root.Goals as goal

pub returns-clause-files : goal.returns-clause-files
returns-clause-files c =
    let first = same_file _ _ _ _ refl (c.as_str.ensures.value ∙ c.in_ok-manifest.ensures) in
    let second = same_file _ _ _ _ refl (c.as_str-2.ensures.value ∙ c.in_ok-source.ensures) in
    let third = same_file _ _ _ _ refl (c.as_str-3.ensures.value ∙ c.in_ok-rows.ensures) in
    three_files c.add_file-3.result c.args.folder.now.files c.add_file.new.folder.files c.add_file-2.new.folder.files c.add_file-3.new.folder.files
    _ _ _ _ _ _ first second third c.in_ok-add_file.ensures.files c.in_ok-add_file-2.ensures.files c.add_file-3.ensures.files
