-- Every call of compile keeps the promise: `promised`, `kept`. Assumes nothing.
use Rattle.std.specs.Prelude.{◌≡◌, ℕ}
use Rattle.block.specs.Block.{Block}
use Rattle.compile.specs.Call.{Tables, Outcome, compile_call}
use Rattle.compiled.proofs.CompiledChecks.{compiled_checks}
use Rattle.compiled.proofs.CompiledRuns.{compiled_calls}
use Rattle.compiled.proofs.CallLocked.{three_never_locked}
use Rattle.compiled.specs.Promised.{Promised}

-- EVERY CALL KEEPS IT
pub promised : (b : Block) (mask : ℕ) (t : Tables) → Promised b mask (compile_call b mask t)
promised b mask t =
    record {
      given = three_never_locked b mask t;
      passes = λ done e. compiled_checks b mask t done e;
      runs = λ done e. compiled_calls b mask t done e;
    }

-- so does what is that call's outcome
pub kept : (b : Block) (mask : ℕ) (t : Tables) (o : Outcome) → o ≡ compile_call b mask t → (o ≡ compile_call b mask t) × Promised b mask o
kept b mask t o e = (e, rw e (promised b mask t))
