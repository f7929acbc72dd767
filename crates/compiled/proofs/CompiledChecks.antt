-- What compile gives passes the checker: `compiled_checks`, `valid_checks`. Assumes nothing.
use Rattle.std.specs.Prelude.{◌≡◌, false, ℕ, ◌+◌, ◌-◌, ◌≤◌, length}
use Rattle.std.proofs.Common.{◌∙◌, arith}
use Rattle.answers.specs.Numbers.{accepted}
use Rattle.block.specs.Block.{Block}
use Rattle.block.specs.Validation.{validation}
use Rattle.block.specs.Valid.{Valid, valid}
use Rattle.compile.specs.Words.{Compiled}
use Rattle.compile.specs.Call.{Tables, too_short, zero_past, compile_call}
use Rattle.compile.specs.declared.Compiled.{Compiled as Done}
use Rattle.compile.specs.Draft.{usable}
use Rattle.compile.specs.Gives.{call_accepts}
use Rattle.compile.specs.Bounds.{Fits, compile_bounds, room, SameLengths, call_lengths}
use Rattle.compiled.specs.CompilePasses.{Agree}
use Rattle.compiled.proofs.CompilePasses.{compile_passes_in}
use Rattle.compiled.specs.CompiledChecks.{CheckAccepts, check_walks, call_accepted, steps_in_front, instructions_in_front}

-- WHERE COMPILE ACCEPTS, CHECK ACCEPTS
pub compiled_checks : (b : Block) (mask : ℕ) (t : Tables) (done : Done) → (compile_call b mask t).answer ≡ accepted done → CheckAccepts b mask t done.kernel
compiled_checks b mask t done e lent q =
    let a = call_accepted b mask t done e in
    let c : Compiled = a.compiled in
    let v : Valid b = valid b a.valid in
    let f : Fits b mask c = compile_bounds b v mask c a.gives in
    let lengths : SameLengths t (compile_call b mask t).tables = call_lengths b mask t in
    let agree : Agree c (zero_past c.steps t.steps) (zero_past c.instructions t.instructions) =
    record {
      same_steps = λ i l. steps_in_front c.steps (length t.steps - length c.steps) (c.kernel.control + c.kernel.sample) i f.step_table l;
      same_instructions =
          λ i l. instructions_in_front c.instructions (length t.instructions - length c.instructions) c.kernel.instructions i
          f.instruction_table l;
    } in
    check_walks b mask done.kernel _ _ lent a.valid q
    (rw a.kernel (omega (arith, lengths.steps, a.room.steps, f.steps)))
    (rw a.kernel (omega (arith, lengths.instructions, a.room.instructions, f.steps, f.instructions)))
    ∙ rw (a.kernel, a.steps, a.instructions)
    (compile_passes_in b v mask c a.gives (zero_past c.steps t.steps) (zero_past c.instructions t.instructions) agree)

-- A VALID BLOCK, a mask of three usable registers or more, tables that are long enough: compile accepts, and check accepts what it left
pub valid_checks : (b : Block) (mask : ℕ) (t : Tables) → validation b ≡ accepted tt → too_short b t ≡ false → 3 ≤ length (usable mask)
    → (done : Done) × ((compile_call b mask t).answer ≡ accepted done) × CheckAccepts b mask t done.kernel
valid_checks b mask t v room h = let (done, e) = call_accepts b mask t v room h in (done, e, compiled_checks b mask t done e)
