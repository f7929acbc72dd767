-- `compile_checked`: every call of compile keeps the promise. Assumes nothing.
use Rattle.compiled.proofs.Promised.{kept}
use Rattle.compiled.proofs.compile_checked.Goals as goal

pub returns-clause-promised : goal.returns-clause-promised
returns-clause-promised c = (kept _ _ _ _ c.compile.ensures).1
