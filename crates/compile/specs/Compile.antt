-- Compile, from an expanded block to the kernel's words (document 01, modules 3 and 4; codegen.rs, `compile_with`). Definitions alone.
use Rattle.std.specs.Prelude.{ℕ}
use Rattle.expand.specs.Graph.{Graph}
use Rattle.plan.specs.Flow.{flow_of}
use Rattle.allocate.specs.State.{Allocated, allocated, and_then}
use Rattle.compile.specs.Draft.{compile_flow}
use Rattle.compile.specs.Words.{Compiled, compiled_of}

-- the kernel, or 14
unfoldable pub compile : Graph → ℕ → Allocated Compiled
compile graph mask = and_then (compile_flow (flow_of graph) mask) (λ draft. allocated (compiled_of draft))
