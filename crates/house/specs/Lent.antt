-- The four tables that a block is read into, as they are lent. Definitions alone.
use Rattle.std.specs.Prelude.{◌≡◌}
use Rattle.house.specs.declared.Tables as Lent
use Rattle.house.specs.Read.{Tables, tables}

abbrev pub the_tables : Lent.Tables → Tables
the_tables t = tables t.parameters.now t.states.now t.delays.now t.nodes.now

-- the struct holds the same four tables as before
pub record KeepsTables (old new : Lent.Tables) : Type 0 where
  pub parameters : new.parameters.ghost_name ≡ old.parameters.ghost_name
  pub states : new.states.ghost_name ≡ old.states.ghost_name
  pub delays : new.delays.ghost_name ≡ old.delays.ghost_name
  pub nodes : new.nodes.ghost_name ≡ old.nodes.ghost_name
