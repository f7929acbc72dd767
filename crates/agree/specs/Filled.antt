-- The code that a listing is of, which `never_unfilled` (proofs/Filled) speaks of. Definitions alone.
use Rattle.step_run.specs.Run.{Code, code_of}
use Rattle.checker.specs.Walk.{Listing}

-- the code of a listing
abbrev pub code_in : Listing → Code
code_in l = code_of l.kernel l.steps l.instructions
