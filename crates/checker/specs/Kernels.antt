-- Document 01, "Small kernels": the blocks of A, C, D and E are valid and their lists pass, so 01's clauses hold of them; lists that differ from them in one
-- place do not pass. By computation.
use Rattle.std.specs.Prelude.{◌≡◌, refl, List, [], ◌∷◌, ℕ}
use Rattle.std.specs.Int.Count.{count_trailing_zeros}
use Rattle.std.specs.Float.Ieee as Ieee
use Rattle.std.specs.Float.Ieee.{round, add, sub, lt, le, eq, neg, odd, units, size, span, climb, of_fields, of_bits, to_bits, is_nan}
use Rattle.words.specs.Operations.{float_of, word_of, is_finite, within, valid_span, span_is_valid}
use Rattle.tables.specs.Tests.{◌&◌}
use Rattle.tables.specs.Lists.{list_of}
use Rattle.tables.specs.Loops.{sum, some, every}
use Rattle.answers.specs.Numbers.{accepted, refused}
use Rattle.answers.specs.Order.{◌⨾◌, refuse, refuse_at, in_order}
use Rattle.block.specs.declared.Header.{Header}
use Rattle.block.specs.Block.{Block, block}
use Rattle.block.specs.Limits.{code_needs_two, category_needs_two}
use Rattle.block.specs.Kinds.{kind_of, node_length}
use Rattle.block.specs.Validation.{counts_of, validation, records_answer, malformed, malformed_header, malformed_node, unknown_version, network_not_allowed, network_flag_clear, needs_version_two, too_large, parameter_answer, state_answer, delay_answer, node_answer, words_answer, operand_not_below}
use Rattle.block.specs.Valid.{valid}
use Rattle.expand.specs.Expansion.{expand_node, expand_to}
use Rattle.expand.specs.Graph.{graph_of}
use Rattle.expand.specs.GraphLaws.{good_graph}
use Rattle.kernel.specs.declared.Source.TheVariants as Source
use Rattle.kernel.specs.declared.Step.{Step}
use Rattle.kernel.specs.declared.Step.TheVariants.{Load, Compute, StoreState, StoreOutput, StoreControl}
use Rattle.kernel.specs.declared.Instruction.{Instruction}
use Rattle.kernel.specs.declared.Instruction.TheVariants.{Add, Mul, Neg}
use Rattle.kernel.specs.declared.Kernel.{Kernel}
use Rattle.kernel.specs.Steps.{step_word, step_index, step_from, step_of}
use Rattle.kernel.specs.Instructions.{instruction_word, instruction_immediate, instruction_from, instruction_of}
use Rattle.kernel.specs.Lists.{step_may_run}
use Rattle.classes.specs.Classes.{first_place, is_operand, key_of, first_key, second_key, has_keys, class_from, classes_to, find}
use Rattle.checker.specs.Walk.{Listing, in_mask, fetched, unless_stored, result_of_two, result_of_one, asked, after_step, emptied, entered, walked, step_passes, control_passes, sample_passes, stored_if_asked, nothing_missing, walk_answer}
use Rattle.checker.specs.Check.{listing_of}
use Rattle.checker.specs.Passing.{Passes}
use Rattle.checker.specs.PassingLaws.{passes_exactly}

-- `unfolding everything` opens what the walk computes by, `unfolding judging` what validation does
unfoldable everything : ℕ
unfolding walk_answer in_order ◌⨾◌ refuse_at control_passes sample_passes step_passes nothing_missing stored_if_asked emptied entered walked after_step in_mask fetched unless_stored asked result_of_one result_of_two step_may_run every ◌&◌ step_of step_from step_word instruction_of instruction_from find classes_to class_from has_keys first_key second_key key_of is_operand first_place graph_of list_of expand_to expand_node kind_of sum node_length
everything = 0

unfoldable judging : ℕ
unfolding validation records_answer malformed malformed_header malformed_node unknown_version network_not_allowed network_flag_clear needs_version_two too_large parameter_answer state_answer delay_answer node_answer words_answer operand_not_below ◌⨾◌ refuse refuse_at in_order sum some code_needs_two category_needs_two kind_of node_length is_finite within valid_span span_is_valid float_of word_of sub add Ieee.sum neg le lt eq round odd units size span climb count_trailing_zeros of_fields of_bits to_bits is_nan
judging = 0

-- ---- a kernel's words

abbrev pub step_table : List Step → List ℕ
step_table [] = []
step_table (step ∷ steps) = step_word step ∷ step_index step ∷ step_table steps

abbrev pub instruction_table : List Instruction → List ℕ
instruction_table [] = []
instruction_table (instruction ∷ instructions) = instruction_word instruction ∷ instruction_immediate instruction ∷ instruction_table instructions

-- control steps, sample steps, instructions, control slots, spill slots
abbrev pub counts : ℕ → ℕ → ℕ → ℕ → ℕ → Kernel
counts control sample instructions slots spills =
    record { control = control; sample = sample; instructions = instructions; slots = slots; spills = spills }

abbrev pub listed : Block → ℕ → Kernel → List Step → List Instruction → Listing
listed b mask k steps instructions = listing_of b mask k (step_table steps) (instruction_table instructions)

-- where the walk passes, 01's clauses hold
clauses : (b : Block) (mask : ℕ) (k : Kernel) (steps : List Step) (instructions : List Instruction) → validation b ≡ accepted tt
    → walk_answer (listed b mask k steps instructions) ≡ accepted tt → Passes (listed b mask k steps instructions)
clauses b mask k steps instructions v e =
    (passes_exactly (listed b mask k steps instructions) (counts_of b) (good_graph b (valid b v))).0 e

-- version 1, category 10, stereo, no network
abbrev pub header : ℕ → Header
header output = record { version = 1; category = 10; channels = 0; network = 0; output = output }

-- ---- A: "nodes: input; output 0"
abbrev pub block_a : Block
block_a = block (header 0) [] [] [] (0 ∷ 0 ∷ 0 ∷ [])

pub block_A_valid : validation block_a ≡ accepted tt
unfolding judging
block_A_valid = refl

-- "Load audio r0, store output r0."
abbrev pub steps_a : List Step
steps_a = Load Source.Audio 0 ∷ StoreOutput 0 ∷ []

pub kernel_A_passes : walk_answer (listed block_a 0xffff (counts 0 2 0 0 0) steps_a []) ≡ accepted tt
unfolding everything
kernel_A_passes = refl

pub kernel_A : Passes (listed block_a 0xffff (counts 0 2 0 0 0) steps_a [])
kernel_A = clauses block_a 0xffff (counts 0 2 0 0 0) steps_a [] block_A_valid kernel_A_passes

-- an output store that is not the last step: position 1
output_twice : walk_answer (listed block_a 0xffff (counts 0 3 0 0 0) (Load Source.Audio 0 ∷ StoreOutput 0 ∷ StoreOutput 0 ∷ []) []) ≡ refused 19 (1 ∷ [])
unfolding everything
output_twice = refl

-- no output store, or no step at all: the total
output_missing : walk_answer (listed block_a 0xffff (counts 0 1 0 0 0) (Load Source.Audio 0 ∷ []) []) ≡ refused 19 (1 ∷ [])
unfolding everything
output_missing = refl

nothing_listed : walk_answer (listed block_a 0xffff (counts 0 0 0 0 0) [] []) ≡ refused 19 (0 ∷ [])
unfolding everything
nothing_listed = refl

-- ---- C: "input, state 0, state 1; state 0 takes node 2, state 1 node 1; output 0"
abbrev pub block_c : Block
block_c = block (header 0) [] (0 ∷ 3 ∷ 0 ∷ 2 ∷ []) [] (0 ∷ 0 ∷ 0 ∷ 3 ∷ 0 ∷ 0 ∷ 3 ∷ 1 ∷ 0 ∷ [])

pub block_C_valid : validation block_c ≡ accepted tt
unfolding judging
block_C_valid = refl

-- "load state 1 r0, state 0 r1; store state 0 r0, state 1 r1; load audio r0; store output r0"
abbrev pub steps_c : List Step
steps_c = Load (Source.State 1) 0 ∷ Load (Source.State 0) 1 ∷ StoreState 0 0 ∷ StoreState 1 1 ∷ Load Source.Audio 0 ∷ StoreOutput 0 ∷ []

pub kernel_C_passes : walk_answer (listed block_c 0xffff (counts 0 6 0 0 0) steps_c []) ≡ accepted tt
unfolding everything
kernel_C_passes = refl

pub kernel_C : Passes (listed block_c 0xffff (counts 0 6 0 0 0) steps_c [])
kernel_C = clauses block_c 0xffff (counts 0 6 0 0 0) steps_c [] block_C_valid kernel_C_passes

-- state 0 is loaded after its store: position 3
abbrev pub loaded_afterwards : List Step
loaded_afterwards =
    Load (Source.State 1) 0 ∷ Load (Source.State 0) 1 ∷ StoreState 0 0 ∷ Load (Source.State 0) 1 ∷ StoreState 1 1 ∷ Load Source.Audio 0 ∷ StoreOutput 0 ∷ []

loaded_afterwards_lem : walk_answer (listed block_c 0xffff (counts 0 7 0 0 0) loaded_afterwards []) ≡ refused 19 (3 ∷ [])
unfolding everything
loaded_afterwards_lem = refl

-- state 1 is not stored: the total
state_missing : walk_answer (listed block_c 0xffff (counts 0 4 0 0 0) (Load (Source.State 1) 0 ∷ StoreState 0 0 ∷ Load Source.Audio 0 ∷ StoreOutput 0 ∷ []) [])
    ≡ refused 19 (4 ∷ [])
unfolding everything
state_missing = refl

-- ---- D: "input, parameter 0, add 0 1, mul 0 1, mul 2 3, output 4"; the parameter goes from 0.0 to 1.0
abbrev pub block_d : Block
block_d = block (header 4) (0 ∷ 0x3f800000 ∷ 0 ∷ []) [] [] (0 ∷ 0 ∷ 0 ∷ 2 ∷ 0 ∷ 0 ∷ 5 ∷ 0 ∷ 1 ∷ 7 ∷ 0 ∷ 1 ∷ 7 ∷ 2 ∷ 3 ∷ [])

pub block_D_valid : validation block_d ≡ accepted tt
unfolding judging
block_D_valid = refl

-- "mask 7 six steps", by the rules of allocation: the sum takes the third register, a dying first operand lends its own to each product
abbrev pub steps_d : List Step
steps_d = Load Source.Audio 0 ∷ Load (Source.Parameter 0) 1 ∷ Compute 0 ∷ Compute 1 ∷ Compute 2 ∷ StoreOutput 2 ∷ []

abbrev pub instructions_d : List Instruction
instructions_d = Add 2 0 1 ∷ Mul 0 0 1 ∷ Mul 2 2 0 ∷ []

pub kernel_D_passes : walk_answer (listed block_d 7 (counts 0 6 3 0 0) steps_d instructions_d) ≡ accepted tt
unfolding everything
kernel_D_passes = refl

pub kernel_D : Passes (listed block_d 7 (counts 0 6 3 0 0) steps_d instructions_d)
kernel_D = clauses block_d 7 (counts 0 6 3 0 0) steps_d instructions_d block_D_valid kernel_D_passes

-- mask 3 has no r2, which step 2 computes
kernel_D_outside : walk_answer (listed block_d 3 (counts 0 6 3 0 0) steps_d instructions_d) ≡ refused 19 (2 ∷ [])
unfolding everything
kernel_D_outside = refl

-- ---- E, the lister's example: "parameter 0, neg 0, input, mul 2 1, output 3"
abbrev pub block_e : Block
block_e = block (header 3) (0 ∷ 0x3f800000 ∷ 0 ∷ []) [] [] (2 ∷ 0 ∷ 0 ∷ 12 ∷ 0 ∷ 0 ∷ 0 ∷ 0 ∷ 0 ∷ 7 ∷ 2 ∷ 1 ∷ [])

pub block_E_valid : validation block_e ≡ accepted tt
unfolding judging
block_E_valid = refl

-- "control 3", "sample 4", "slots 1 0", "instructions 2"
abbrev pub steps_e : List Step
steps_e =
    Load (Source.Parameter 0) 0 ∷ Compute 0 ∷ StoreControl 0 0
    ∷ Load Source.Audio 0 ∷ Load (Source.Control 0) 1 ∷ Compute 1 ∷ StoreOutput 0 ∷ []

abbrev pub instructions_e : List Instruction
instructions_e = Neg 0 0 ∷ Mul 0 0 1 ∷ []

pub kernel_E_passes : walk_answer (listed block_e 0xffff (counts 3 4 2 1 0) steps_e instructions_e) ≡ accepted tt
unfolding everything
kernel_E_passes = refl

pub kernel_E : Passes (listed block_e 0xffff (counts 3 4 2 1 0) steps_e instructions_e)
kernel_E = clauses block_e 0xffff (counts 3 4 2 1 0) steps_e instructions_e block_E_valid kernel_E_passes

-- the same steps read as sample steps alone: a control store is barred, at position 2
kernel_E_barred : walk_answer (listed block_e 0xffff (counts 0 7 2 1 0) steps_e instructions_e) ≡ refused 19 (2 ∷ [])
unfolding everything
kernel_E_barred = refl
