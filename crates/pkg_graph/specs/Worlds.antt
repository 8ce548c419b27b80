-- What stands in an application's folder, as packages see it. A directory is the list of the bytes of what stands behind the application's folder in its path: nothing, or a `/` and its path below it.
use Rattle.std.specs.Prelude.{ℕ, ◌==◌, List, [], ◌∷◌, ◌++◌, map, Option, Some, None, if◌then◌else◌}
use Rattle.lava_streams.specs.Files.{Files}
use Rattle.lava_streams.specs.Folders.{file_read}
use Rattle.lava_streams.specs.declared.folder.FileRead.{FileRead}
use Rattle.lava_streams.specs.declared.folder.FileRead.TheVariants.{Bytes, Absent, Longer as TooLong}
use Rattle.pkg_graph.specs.Manifests.{manifest_read}
use Rattle.pkg_graph.specs.declared.standing.TheConstants.{FILE_LIMIT, MANIFEST_FILE, PACKAGES_DIRECTORY}
use Rattle.pkg_graph.specs.declared.standing.Standing.{Standing}
use Rattle.pkg_graph.specs.declared.standing.Standing.TheVariants.{Longer, Refused, Manifest}
use Rattle.pkg_graph.specs.declared.manifest.ManifestRead.{ManifestRead}
use Rattle.pkg_graph.specs.declared.manifest.ManifestRead.TheVariants.{Manifest as Says, Refused as Refuses}

-- the path of a directory's manifest, where `root` is the application's folder
abbrev pub manifest_path : (root dir : List ℕ) → List ℕ
manifest_path root dir = (root ++ dir) ++ MANIFEST_FILE.now

-- the directory of a package with this name that stands under a directory
abbrev pub package_dir : (under name : List ℕ) → List ℕ
package_dir under name = (under ++ PACKAGES_DIRECTORY.now) ++ name

abbrev pub standing_read : ManifestRead → Standing
standing_read (Refuses field) = Refused field
standing_read (Says manifest) = Manifest manifest

-- what the bytes of a manifest are
abbrev pub read_as : List ℕ → Standing
read_as bytes = standing_read (manifest_read bytes)

-- what a reading of a manifest gives, if there is one
abbrev pub standing_of : FileRead → Option Standing
standing_of Absent = None
standing_of TooLong = Some Longer
standing_of (Bytes bytes) = Some (read_as bytes)

-- the manifest at a directory, if there is one
abbrev pub standing_at : Files → (root dir : List ℕ) → Option Standing
standing_at files root dir = standing_of (file_read files (manifest_path root dir) FILE_LIMIT)

-- What stands at each directory of an application.
abbrev pub World : Type 0
World = List ℕ → Option Standing

abbrev pub world_of : Files → List ℕ → World
world_of files root = λ dir. standing_at files root dir

-- the first directory, where its rest begins with a `/`
abbrev pub first_above : ℕ → List (List ℕ)
first_above byte = if byte == 47 then [] ∷ [] else []

-- A directory and those that it stands in, up to the application's folder, the nearest first.
-- LavaMoat policy, where a dependency is looked for
abbrev pub directories_above : List ℕ → List (List ℕ)
directories_above [] = [] ∷ []
directories_above (byte ∷ rest) = map (λ above. byte ∷ above) (directories_above rest) ++ first_above byte
