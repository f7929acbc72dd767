-- What is left to store before the actions that are to come; its laws are in proofs/Left. Definitions alone.
use Rattle.std.specs.Prelude.{◌≡◌, List, ℕ, ◌+◌, length, get_or}
use Rattle.expand.specs.Graph.{Graph}
use Rattle.allocate.specs.Actions.{Action}
use Rattle.compiled.specs.Marks.{Marks}
use Rattle.compiled.specs.Stores.{stores}
use Rattle.compiled.specs.Writes.{asked_once}

-- what is stored and what the actions left store make up what must be stored
pub record Left (g : Graph) (m : Marks) (ys : List Action) : Type 0 where
  pub states : (i : ℕ) → get_or m.states_stored i 0 + stores 10 i ys ≡ asked_once (get_or g.state_updates i 0)
  pub delays : (i : ℕ) → get_or m.delays_stored i 0 + stores 11 i ys ≡ asked_once (get_or g.delay_updates i 0)
  pub outputs : stores 12 0 ys ≡ 0
  pub states_length : length m.states_stored ≡ length g.state_updates
  pub delays_length : length m.delays_stored ≡ length g.delay_updates
