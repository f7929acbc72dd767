-- `Instruction::from_words_unchecked`: the parts of the word, as the definition takes them; formed or not, the same instruction. Assumes nothing.
use Rattle.std.proofs.Common.{rules, ◌≡◌}
use Rattle.kernel.specs.Instructions.{instruction_of}
use Rattle.kernel.specs.Named.{instruction_if}
use Rattle.kernel.proofs.Instruction.from_words_unchecked.Goals as goal

pub returns : goal.returns
unfolding instruction_of
returns c = let (formed, x, e, p) = c.by_code.ensures in
    let h : c.by_code.result ≡ x = search rules in
    rw (e, h) (instruction_if formed x)
