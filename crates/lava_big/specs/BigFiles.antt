-- The files of an application of n packages, p1 to pn: each package calls the one before it, and the application the last one.
use Rattle.std.specs.Prelude.{◌≡◌, ℕ, zero, suc, ◌+◌, ◌-◌, nat_eq, List, [], ◌∷◌, ◌++◌, codes, Some, if◌then◌else◌}
use Rattle.std.specs.Fmt.{decimal}
use Rattle.lava_streams.specs.Files.{Files}
use Rattle.lava_streams.specs.Outside.{Stand}
use Rattle.lava_big.specs.declared.texts.TheConstants as texts

-- a number between two texts
abbrev pub numbered : (before : List ℕ) → (number : ℕ) → (behind : List ℕ) → List ℕ
numbered before number behind = before ++ (decimal number ++ behind)

-- what parts an item from those before it
abbrev pub comma_behind : (count : ℕ) → List ℕ
comma_behind count = if nat_eq count 0 then [] else 44 ∷ []

-- THE MANIFESTS

abbrev pub dependency : (number : ℕ) → List ℕ
dependency number = numbered texts.DEPENDENCY_START.now number texts.DEPENDENCY_END.now

-- on the first packages, parted by commas
abbrev pub dependencies : (count : ℕ) → List ℕ
dependencies zero = []
dependencies (suc k) = dependencies k ++ (comma_behind k ++ dependency (suc k))

abbrev pub manifest : (dependencies : List ℕ) → List ℕ
manifest ds = texts.MANIFEST_START.now ++ (ds ++ texts.MANIFEST_END.now)

-- the application depends on all packages
abbrev pub root_manifest : (count : ℕ) → List ℕ
root_manifest count = manifest (dependencies count)

-- a package depends on the one before it, where there is one
abbrev pub link : (below : ℕ) → List ℕ
link below = if nat_eq below 0 then [] else dependency below

abbrev pub package_manifest : (below : ℕ) → List ℕ
package_manifest below = manifest (link below)

-- THE POLICY

-- the row of the package behind this one: it may import this one
abbrev pub row : (below : ℕ) → List ℕ
row below = numbered texts.ROW_START.now (below + 1) (numbered texts.ROW_ALLOWS.now below texts.ROW_END.now)

abbrev pub rows : (links : ℕ) → List ℕ
rows zero = []
rows (suc k) = rows k ++ (comma_behind k ++ row (suc k))

-- all packages but the first have a row
abbrev pub policy : (count : ℕ) → List ℕ
policy count = texts.POLICY_START.now ++ (rows (count - 1) ++ texts.POLICY_END.now)

-- THE MODULES

-- the sum of what the last package gives for 0 to n - 1 is printed
abbrev pub root_source : (count : ℕ) → List ℕ
root_source count = numbered texts.ROOT_START.now count (numbered texts.ROOT_CALLS.now count texts.ROOT_END.now)

-- a package gives what the one before it gives, and its own number more; the first gives one more than it is given
abbrev pub linked_source : (below : ℕ) → List ℕ
linked_source below = numbered texts.LINKED_START.now below (numbered texts.LINKED_ADDS.now (below + 1) texts.LINKED_END.now)

abbrev pub package_source : (below : ℕ) → List ℕ
package_source below = if nat_eq below 0 then texts.FIRST_SOURCE.now else linked_source below

-- THE FILES

abbrev pub package_path : (below : ℕ) → (file : List ℕ) → List ℕ
package_path below file = numbered texts.PACKAGE_PATH.now (below + 1) file

-- those of the package that has so many before it
abbrev pub package_files : (below : ℕ) → Files
package_files below =
    (package_path below texts.MANIFEST_PATH.now, package_manifest below)
    ∷ (package_path below texts.INDEX_PATH.now, package_source below) ∷ []

abbrev pub packages_files : (count : ℕ) → Files
packages_files zero = []
packages_files (suc k) = packages_files k ++ package_files k

-- those of the application's own package
abbrev pub root_files : (count : ℕ) → Files
root_files count =
    (texts.ROOT_MANIFEST.now, root_manifest count) ∷ (texts.ROOT_INDEX.now, root_source count) ∷ (texts.POLICY_FILE.now, policy count) ∷ []

-- the files of the application of so many packages, in the order of adding
-- own: the application of `big`
abbrev pub big_files : (count : ℕ) → Files
big_files count = root_files count ++ packages_files count

-- a folder of these files, which counts no fault
abbrev pub held_stand : Files → Stand Files
held_stand files = record { count = 0; told = Some files }

-- IN PLAIN TEXT

abbrev pub One_package : Type 0
One_package =
    big_files 1
    ≡ (codes "app/package.json", codes "{\"dependencies\":{\"p1\":\"1.0.0\"}}")
    ∷ (codes "app/index.js", codes "const p = require('p1'); let s = 0; for (let i = 0; i < 1; i++) s += p.f(i); console.log(s);")
    ∷ (codes "app/lavamoat/node/policy.json", codes "{\"resources\":{}}")
    ∷ (codes "app/node_modules/p1/package.json", codes "{\"dependencies\":{}}")
    ∷ (codes "app/node_modules/p1/index.js", codes "exports.f = x => x + 1;")
    ∷ []

abbrev pub Two_packages : Type 0
Two_packages =
    big_files 2
    ≡ (codes "app/package.json", codes "{\"dependencies\":{\"p1\":\"1.0.0\",\"p2\":\"1.0.0\"}}")
    ∷ (codes "app/index.js", codes "const p = require('p2'); let s = 0; for (let i = 0; i < 2; i++) s += p.f(i); console.log(s);")
    ∷ (codes "app/lavamoat/node/policy.json", codes "{\"resources\":{\"p2\":{\"packages\":{\"p1\":true}}}}")
    ∷ (codes "app/node_modules/p1/package.json", codes "{\"dependencies\":{}}")
    ∷ (codes "app/node_modules/p1/index.js", codes "exports.f = x => x + 1;")
    ∷ (codes "app/node_modules/p2/package.json", codes "{\"dependencies\":{\"p1\":\"1.0.0\"}}")
    ∷ (codes "app/node_modules/p2/index.js", codes "const q = require('p1'); exports.f = x => q.f(x) + 2;")
    ∷ []

-- a third row and a third dependency have their commas
abbrev pub Three_packages : Type 0
Three_packages =
    (root_manifest 3 ≡ codes "{\"dependencies\":{\"p1\":\"1.0.0\",\"p2\":\"1.0.0\",\"p3\":\"1.0.0\"}}")
    × (policy 3 ≡ codes "{\"resources\":{\"p2\":{\"packages\":{\"p1\":true}},\"p3\":{\"packages\":{\"p2\":true}}}}")
