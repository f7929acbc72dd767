-- The answers in the document's numbers fix the results of the four calls: no second result meets a promise. Assumes nothing.
use Rattle.std.specs.Prelude.{◌≡◌, ℕ, Result}
use Rattle.answers.specs.declared.Refusal.{Refusal}
use Rattle.answers.specs.Numbers.{answer_of}
use Rattle.answers.proofs.Numbers.{tells}
use Rattle.house.specs.declared.Contents.{Contents}
use Rattle.house.specs.declared.Rendering.{Rendering}

pub tells_block : (a b : Result Contents Refusal) → answer_of a ≡ answer_of b → a ≡ b
tells_block = tells

pub tells_rendering : (a b : Result Rendering Refusal) → answer_of a ≡ answer_of b → a ≡ b
tells_rendering = tells

pub tells_written : (a b : Result ℕ Refusal) → answer_of a ≡ answer_of b → a ≡ b
tells_written = tells
