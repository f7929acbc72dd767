-- DEMAND 3, LAST SENTENCE, as one promise of a call of compile: `Promised`. That every call keeps it is in proofs/Promised. Definitions alone.
use Rattle.std.specs.Prelude.{◌≡◌, [], ℕ, ◌≤◌, length}
use Rattle.answers.specs.Numbers.{accepted, refused}
use Rattle.block.specs.Block.{Block}
use Rattle.expand.specs.Graph.{graph_of}
use Rattle.memory.specs.Signals.{Signals}
use Rattle.graph_run.specs.Run.{samples_to}
use Rattle.step_run.specs.declared.Done as Run
use Rattle.step_run.specs.Run as Step
use Rattle.checker.specs.Check as Check
use Rattle.compile.specs.Draft.{usable}
use Rattle.compile.specs.Call.{Outcome}
use Rattle.compile.specs.declared.Compiled.{Compiled as Done}
use Rattle.compiled.specs.CompiledChecks.{CheckRoom}

-- what a call for this block and mask answers and leaves
pub record Promised (b : Block) (mask : ℕ) (o : Outcome) : Type 0 where
  -- "With three or more usable registers the compiler never refuses a valid block for register pressure"
  pub given : 3 ≤ length (usable mask) → o.answer ≡ refused 14 [] → ⊥
  -- "and its list always passes": check with that mask, whatever tables of its own it is lent, if they are long enough
  pub passes : (done : Done) → o.answer ≡ accepted done → (lent : Check.Tables) → CheckRoom b done.kernel lent
      → (Check.check_call b mask done.kernel o.tables.steps o.tables.instructions lent).answer ≡ accepted tt
  -- "after every sample done output, states, delay cells and cursors equal the graph run's bit for bit"
  pub runs : (done : Done) → o.answer ≡ accepted done → (budget : ℕ) (s : Signals) (u : Step.Tables) (d : Run.Done)
      → (Step.run_call b (Step.code_of done.kernel o.tables.steps o.tables.instructions) budget s u).answer ≡ accepted d
      → (Step.run_call b (Step.code_of done.kernel o.tables.steps o.tables.instructions) budget s u).tables.rendered
      ≡ samples_to (graph_of b) b.header.network s u.rendered d.samples
