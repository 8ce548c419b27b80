-- A module that is read has the requests of its source.
use Rattle.std.proofs.Common.{◌≡◌, ℕ, List, ap, ◌∙◌, sym}
use Rattle.lava_packages.specs.pkg_source.Reading.{IsRead, request_names}
use Rattle.lava_packages.specs.pkg_source.declared.code.ModuleCode.{ModuleCode}
use Rattle.pkg_load.specs.declared.module.LoadedModule.{LoadedModule}
use Rattle.pkg_load.specs.declared.reader.ModuleKind.{ModuleKind}
use Rattle.pkg_load.specs.declared.reader.ModuleKind.TheVariants.{Source, Json}
use Rattle.pkg_load.specs.declared.reader.ModuleRead.TheVariants.{Module as Good}
use Rattle.lava_granted.specs.ReadPackages.{HasItsRequests, literal_requests}

read_requests : (requests : List (List ℕ)) (c : ModuleCode) (kind : ModuleKind) (bytes : List ℕ) → IsRead kind bytes (Good requests c) → requests ≡ request_names (literal_requests c)
read_requests requests c Source bytes h = h.3 ∙ ap (λ d. request_names (literal_requests d)) (sym h.4)
read_requests requests c Json bytes h = h.1 ∙ ap (λ d. request_names (literal_requests d)) (sym h.2)

pub modules_have_their_requests : (m : LoadedModule ModuleCode) (kind : ModuleKind) (bytes : List ℕ) → IsRead kind bytes (Good m.requests m.code) → HasItsRequests m
modules_have_their_requests m kind bytes h = read_requests m.requests m.code kind bytes h
