-- `Instruction::from_words`: the parts of the word, as the definition takes them, and the instruction where it is formed. Assumes nothing.
use Rattle.std.proofs.Common.{rules, ◌≡◌, cond, Some, None, sym, ◌∙◌}
use Rattle.kernel.specs.Instructions.{instruction_of}
use Rattle.kernel.proofs.Instruction.from_words.Goals as goal

pub returns : goal.returns
unfolding instruction_of
returns c = let (formed, x, e, p) = c.by_code.ensures in
    let h : c.by_code.result ≡ cond formed (Some x) None = search rules in
    h ∙ sym e
