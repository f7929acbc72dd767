-- DEMAND 3 as a whole: what compile gives runs as the block's graph does. Assumes nothing.
use Rattle.std.specs.Prelude.{◌≡◌, true, ℕ, ◌*◌, ◌≤◌, length}
use Rattle.std.proofs.Common.{arith}
use Rattle.tables.specs.Zeros.{zeros, zeros_length}
use Rattle.answers.specs.Numbers.{accepted}
use Rattle.block.specs.Block.{Block, state_count, delay_count}
use Rattle.block.specs.Validation.{expanded_length}
use Rattle.block.specs.Valid.{Valid}
use Rattle.expand.specs.Graph.{graph_of}
use Rattle.kernel.specs.declared.Kernel.{Kernel}
use Rattle.memory.specs.Sizes.{run_fits}
use Rattle.memory.specs.Signals.{Signals, rendered}
use Rattle.graph_run.specs.Run.{samples_to}
use Rattle.step_run.specs.declared.Done as Run
use Rattle.step_run.specs.Run as Step
use Rattle.checker.specs.Check as Check
use Rattle.agree.specs.Agree.{agree}
use Rattle.agree.specs.Calls.{agree_call}
use Rattle.allocate.specs.State.{allocated}
use Rattle.compile.specs.Words.{Compiled}
use Rattle.compile.specs.Compile.{compile}
use Rattle.compile.specs.Call.{Tables, compile_call}
use Rattle.compile.specs.declared.Compiled.{Compiled as Done}
use Rattle.compiled.proofs.CompilePasses.{compile_passes}
use Rattle.compiled.specs.CompiledChecks.{CheckRoom}
use Rattle.compiled.proofs.CompiledChecks.{compiled_checks}
use Rattle.compiled.specs.CompiledRuns.{code_of, code_left}

-- for every valid block and mask, whatever the memories, parameter values and signals of the right sizes: after each of n samples output, states, delay cells and
-- cursors are the graph run's, bit for bit
pub compiled_runs : (b : Block) → Valid b → (mask : ℕ) (c : Compiled) → compile (graph_of b) mask ≡ allocated c
    → (s : Signals) (t : Step.Tables) → c.kernel.slots ≤ length t.control → c.kernel.spills ≤ length t.spills
    → run_fits b s.parameters t.rendered.memories s.input t.rendered.output s.network ≡ true
    → (n : ℕ) → n ≤ length s.input
    → rendered (Step.run_for (Step.setup_of b (code_of c) s) t n).output (Step.run_for (Step.setup_of b (code_of c) s) t n).machine.memories
    ≡ samples_to (graph_of b) b.header.network s t.rendered n
compiled_runs b valid mask c e s t = agree b valid mask (code_of c) (compile_passes b valid mask c e) s t

-- tables that are long enough for the checker
roomy : Block → Kernel → Check.Tables
roomy b k = Check.tables (zeros (3 * expanded_length b)) (zeros (Check.work_needed (expanded_length b) (state_count b) (delay_count b) k))

room : (b : Block) (k : Kernel) → CheckRoom b k (roomy b k)
unfolding roomy
room b k =
    record {
      expansion = omega (arith, zeros_length (3 * expanded_length b));
      work = omega (arith, zeros_length (Check.work_needed (expanded_length b) (state_count b) (delay_count b) k));
    }

-- over the calls: compile accepts, and a step run of what it left accepts and does d's samples
pub compiled_calls : (b : Block) (mask : ℕ) (t : Tables) (done : Done) → (compile_call b mask t).answer ≡ accepted done
    → (budget : ℕ) (s : Signals) (u : Step.Tables) (d : Run.Done) → (Step.run_call b (code_left b mask t done) budget s u).answer ≡ accepted d
    → (Step.run_call b (code_left b mask t done) budget s u).tables.rendered ≡ samples_to (graph_of b) b.header.network s u.rendered d.samples
compiled_calls b mask t done e budget s u d =
    agree_call b mask (code_left b mask t done) (roomy b done.kernel) budget s u d
    (compiled_checks b mask t done e (roomy b done.kernel) (room b done.kernel))
