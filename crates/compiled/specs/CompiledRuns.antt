-- The code that compile gives and that a call of it leaves, which `compiled_runs` and `compiled_calls` (proofs/CompiledRuns) speak of. Definitions alone.
use Rattle.std.specs.Prelude.{ℕ}
use Rattle.block.specs.Block.{Block}
use Rattle.step_run.specs.Run as Step
use Rattle.compile.specs.Words.{Compiled}
use Rattle.compile.specs.Call.{Tables, compile_call}
use Rattle.compile.specs.declared.Compiled.{Compiled as Done}

-- a compiled kernel with its tables
abbrev pub code_of : Compiled → Step.Code
code_of c = Step.code_of c.kernel c.steps c.instructions

-- the code that a call of compile leaves
abbrev pub code_left : Block → ℕ → Tables → Done → Step.Code
code_left b mask t done = Step.code_of done.kernel (compile_call b mask t).tables.steps (compile_call b mask t).tables.instructions
