-- How the program ends.
use Rattle.std.specs.Prelude.{ℕ, List}
use Rattle.lava_cli.specs.Answers.{CommandAnswers}
use Rattle.lava_host.specs.Hosts.{host_world}
use Rattle.lava_streams.specs.Files.{Files}
use Rattle.lava_streams.specs.Outside.{Stand}

-- the status is the call's answer for some words, over the system's folder, input and clock
pub record IsAnswer (out new_out err new_err : Stand (List ℕ)) (status : ℕ) : Type 0 where
  pub words : List (List ℕ)
  pub folder : Stand Files
  pub new_folder : Stand Files
  pub input : Stand (List ℕ)
  pub new_input : Stand (List ℕ)
  pub clock : Stand (List ℕ)
  pub new_clock : Stand (List ℕ)
  pub answers : CommandAnswers words (host_world folder input out err clock) (host_world new_folder new_input new_out new_err new_clock) status
