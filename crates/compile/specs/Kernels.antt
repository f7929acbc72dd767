-- Document 01, "Small kernels": the starred ones that compile answers, as one proved statement, `starred_kernels`. Assumes nothing.
use Rattle.std.specs.Prelude.{◌≡◌, refl, false, List, [], ◌∷◌, ◌++◌, ℕ, length}
use Rattle.std.specs.Int.Count.{count_trailing_zeros}
use Rattle.std.specs.Float.Ieee as Ieee
use Rattle.std.specs.Float.Ieee.{round, sub, le, neg, odd, units, size, span, climb, of_fields, of_bits}
use Rattle.tables.specs.Loops as Loops
use Rattle.tables.specs.Lists.{list_of}
use Rattle.words.specs.Operations.{float_of, is_finite, within, valid_span, span_is_valid}
use Rattle.answers.specs.Numbers.{accepted, refused}
use Rattle.answers.specs.Order.{◌⨾◌, refuse, refuse_at, in_order}
use Rattle.block.specs.declared.Header.{Header}
use Rattle.block.specs.Block.{Block, block}
use Rattle.block.specs.Kinds.{kind_of, node_length}
use Rattle.block.specs.Limits.{code_needs_two, category_needs_two}
use Rattle.block.specs.Validation.{malformed_node, malformed_header, malformed, unknown_version, network_not_allowed, network_flag_clear, needs_version_two, too_large, parameter_answer, operand_not_below, words_answer, node_answer, state_answer, delay_answer, records_answer, validation}
use Rattle.expand.specs.Expansion.{expand_node, expand_to}
use Rattle.expand.specs.Graph.{graph_of}
use Rattle.kernel.specs.declared.Source.TheVariants as Source
use Rattle.kernel.specs.declared.Step.{Step}
use Rattle.kernel.specs.declared.Step.TheVariants.{Load, Compute, StoreState, StoreOutput, StoreControl}
use Rattle.kernel.specs.declared.Instruction.{Instruction}
use Rattle.kernel.specs.declared.Instruction.TheVariants.{Add, Mul, Neg}
use Rattle.kernel.specs.Steps.{step_word, step_index}
use Rattle.kernel.specs.Instructions.{instruction_word, instruction_immediate}
use Rattle.plan.specs.Nodes.{roots}
use Rattle.plan.specs.Hoist.{invariants, sweep, hoistable, needed_by, homes_of, control_computations}
use Rattle.plan.specs.Origins.{control_origin, node_origin, sample_origin, home_of, canonical_as, canonical}
use Rattle.plan.specs.Schedule.{task_reads, waits, schedule_from, schedule, sample_computations, writes, plan_of}
use Rattle.plan.specs.Flow.{node_of, flow_of}
use Rattle.allocate.specs.Actions.{source_of, load_action, store_action}
use Rattle.allocate.specs.State.{Allocated, allocated, all_locked, emit, to_slot, from_slot, spill_out, place, vacate, release, begin, lend, set_slot, stale}
use Rattle.allocate.specs.Allocator.{evict, evict_key, take_register, bring_from, bring, fetch, fetch_all, release_all, run_compute, run_keep, run_store, run_task, allocate_task, reads_of, allocate}
use Rattle.compile.specs.Draft.{usable, control_setting, sample_setting, draft_of, compile_plan, compile_flow}
use Rattle.compile.specs.Words.{Compiled, compiled_of}
use Rattle.compile.specs.Compile.{compile}
use Rattle.compile.specs.Call.{Tables, too_short, compiled_answer, compile_answer, compile_judged, compiled_tables, tables_after, outcome, compile_call}

-- ---- the blocks: version 1, category 10, stereo

abbrev header : ℕ → Header
header output = record { version = 1; category = 10; channels = 0; network = 0; output = output }

-- from 0 to 1, at 0
abbrev parameter : List ℕ
parameter = 0 ∷ 0x3f800000 ∷ 0 ∷ []

-- "A* nodes: input; output 0"
unfoldable pub block_a : Block
block_a = block (header 0) [] [] [] (0 ∷ 0 ∷ 0 ∷ [])

-- "C* input, state 0, state 1; state 0 takes node 2, state 1 node 1; output 0"
unfoldable pub block_c : Block
block_c = block (header 0) [] (0 ∷ 3 ∷ 0 ∷ 2 ∷ []) [] (0 ∷ 0 ∷ 0 ∷ 3 ∷ 0 ∷ 0 ∷ 3 ∷ 1 ∷ 0 ∷ [])

-- "D* input, parameter 0, add 0 1, mul 0 1, mul 2 3, output 4"
unfoldable pub block_d : Block
block_d = block (header 4) parameter [] [] (0 ∷ 0 ∷ 0 ∷ 2 ∷ 0 ∷ 0 ∷ 5 ∷ 0 ∷ 1 ∷ 7 ∷ 0 ∷ 1 ∷ 7 ∷ 2 ∷ 3 ∷ [])

-- "E*": "parameter 0, neg 0, input, mul 2 1, output 3"
unfoldable pub block_e : Block
block_e = block (header 3) parameter [] [] (2 ∷ 0 ∷ 0 ∷ 12 ∷ 0 ∷ 0 ∷ 0 ∷ 0 ∷ 0 ∷ 7 ∷ 2 ∷ 1 ∷ [])

-- "I* no nodes"
unfoldable pub block_i : Block
block_i = block (header 0) [] [] [] []

-- ---- the kernels

abbrev step_table : List Step → List ℕ
step_table [] = []
step_table (s ∷ ss) = step_word s ∷ step_index s ∷ step_table ss

abbrev instruction_table : List Instruction → List ℕ
instruction_table [] = []
instruction_table (i ∷ is) = instruction_word i ∷ instruction_immediate i ∷ instruction_table is

-- control steps, sample steps and instructions; control slots, spill slots, most registers held
unfoldable pub kernel : List Step → List Step → List Instruction → ℕ → ℕ → ℕ → Compiled
kernel control sample instructions slots spills registers =
    record {
      steps = step_table (control ++ sample);
      instructions = instruction_table instructions;
      kernel = record { control = length control; sample = length sample; instructions = length instructions; slots = slots; spills = spills };
      registers = registers;
    }

-- "Load audio r0, store output r0."
unfoldable pub kernel_a : Compiled
kernel_a = kernel [] (Load Source.Audio 0 ∷ StoreOutput 0 ∷ []) [] 0 0 1

-- "load state 1 r0, state 0 r1; store state 0 r0, state 1 r1; load audio r0; store output r0"
unfoldable pub kernel_c : Compiled
kernel_c =
    kernel []
    (Load (Source.State 1) 0 ∷ Load (Source.State 0) 1 ∷ StoreState 0 0 ∷ StoreState 1 1 ∷ Load Source.Audio 0 ∷ StoreOutput 0 ∷ [])
    [] 0 0 2

-- "mask 7 six steps"
unfoldable pub kernel_d : Compiled
kernel_d =
    kernel []
    (Load Source.Audio 0 ∷ Load (Source.Parameter 0) 1 ∷ Compute 0 ∷ Compute 1 ∷ Compute 2 ∷ StoreOutput 2 ∷ [])
    (Add 2 0 1 ∷ Mul 0 0 1 ∷ Mul 2 2 0 ∷ [])
    0 0 3

-- the listing: "control 3 .. sample 4 .. slots 1 0, registers 2, instructions 2"
unfoldable pub kernel_e : Compiled
kernel_e =
    kernel
    (Load (Source.Parameter 0) 0 ∷ Compute 0 ∷ StoreControl 0 0 ∷ [])
    (Load Source.Audio 0 ∷ Load (Source.Control 0) 1 ∷ Compute 1 ∷ StoreOutput 0 ∷ [])
    (Neg 0 0 ∷ Mul 0 0 1 ∷ [])
    1 0 2

-- ---- by computation

-- `unfolding compiling` opens all of compile's definitions, `unfolding judging` all of validation's
unfoldable expanding : ℕ
unfolding graph_of expand_to expand_node kind_of node_length Loops.sum list_of node_of flow_of
expanding = 0

unfoldable planning : ℕ
unfolding roots invariants sweep hoistable needed_by homes_of control_computations control_origin node_origin sample_origin home_of canonical_as canonical
planning = 0

unfoldable scheduling : ℕ
unfolding task_reads waits schedule_from schedule sample_computations writes plan_of
scheduling = 0

unfoldable changing : ℕ
unfolding source_of load_action store_action emit to_slot from_slot spill_out place vacate release begin lend set_slot stale
changing = 0

unfoldable allocating : ℕ
unfolding evict evict_key take_register bring_from bring fetch fetch_all release_all run_compute run_keep run_store run_task allocate_task reads_of allocate
allocating = 0

unfoldable writing : ℕ
unfolding compile compile_flow compile_plan control_setting sample_setting draft_of usable compiled_of step_word kernel
writing = 0

unfoldable pub compiling : ℕ
unfolding expanding planning scheduling changing allocating writing
compiling = 0

compiled_A : compile (graph_of block_a) 0xffff ≡ allocated kernel_a
unfolding compiling block_a kernel_a
compiled_A = refl

compiled_C : compile (graph_of block_c) 0xffff ≡ allocated kernel_c
unfolding compiling block_c kernel_c
compiled_C = refl

locked_C : compile (graph_of block_c) 1 ≡ all_locked
unfolding compiling block_c
locked_C = refl

locked_D : compile (graph_of block_d) 3 ≡ all_locked
unfolding compiling block_d
locked_D = refl

compiled_D : compile (graph_of block_d) 7 ≡ allocated kernel_d
unfolding compiling block_d kernel_d
compiled_D = refl

compiled_E : compile (graph_of block_e) 0xffff ≡ allocated kernel_e
unfolding compiling block_e kernel_e
compiled_E = refl

unfoldable floating : ℕ
unfolding span_is_valid valid_span within is_finite float_of sub le Ieee.sum round neg odd units size span climb count_trailing_zeros of_fields of_bits
floating = 0

unfoldable scanning : ℕ
unfolding malformed_node malformed_header code_needs_two category_needs_two kind_of node_length Loops.sum Loops.some ◌⨾◌ refuse refuse_at in_order
scanning = 0

unfoldable answering : ℕ
unfolding validation records_answer malformed unknown_version network_not_allowed network_flag_clear needs_version_two too_large parameter_answer
answering = 0

unfoldable judging : ℕ
unfolding floating scanning answering operand_not_below words_answer node_answer state_answer delay_answer
judging = 0

valid_A : validation block_a ≡ accepted tt
unfolding judging block_a
valid_A = refl

valid_C : validation block_c ≡ accepted tt
unfolding judging block_c
valid_C = refl

valid_D : validation block_d ≡ accepted tt
unfolding judging block_d
valid_D = refl

valid_E : validation block_e ≡ accepted tt
unfolding judging block_e
valid_E = refl

refused_I : validation block_i ≡ refused 8 []
unfolding judging block_i
refused_I = refl

-- ---- as calls, in tables that are long enough

-- what a call leaves of a block that is valid and whose compile is known
leaves : (b : Block) (mask : ℕ) (r : Allocated Compiled) → validation b ≡ accepted tt → compile (graph_of b) mask ≡ r
    → (t : Tables) → too_short b t ≡ false → compile_call b mask t ≡ outcome (compiled_answer r) (compiled_tables r b t)
unfolding compile_call compile_answer compile_judged tables_after ◌⨾◌ refuse
leaves b mask r v e t h = rw (v, h, e)

-- "A refusal changes no lent table"
stays : (b : Block) (mask n : ℕ) (vs : List ℕ) → validation b ≡ refused n vs → (t : Tables) → compile_call b mask t ≡ outcome (refused n vs) t
unfolding compile_call compile_answer compile_judged tables_after ◌⨾◌
stays b mask n vs v t = rw v

-- a call in tables that are long enough compiles the block to this, or answers 14
abbrev pub Calls : Block → ℕ → Allocated Compiled → Type 0
Calls b mask r = (t : Tables) → too_short b t ≡ false → compile_call b mask t ≡ outcome (compiled_answer r) (compiled_tables r b t)

-- what document 01 says of them
pub record StarredKernels : Type 0 where
  pub a : Calls block_a 0xffff (allocated kernel_a)
  pub c : Calls block_c 0xffff (allocated kernel_c)
  -- "With mask 1: 14."
  pub c1 : Calls block_c 1 all_locked
  -- "mask 3 gives 14, mask 7 six steps"
  pub d3 : Calls block_d 3 all_locked
  pub d7 : Calls block_d 7 (allocated kernel_d)
  pub e : Calls block_e 0xffff (allocated kernel_e)
  -- "no nodes: 8"
  pub i : (mask : ℕ) (t : Tables) → compile_call block_i mask t ≡ outcome (refused 8 []) t

-- THE STARRED KERNELS
pub starred_kernels : StarredKernels
starred_kernels =
    record {
      a = leaves block_a 0xffff (allocated kernel_a) valid_A compiled_A;
      c = leaves block_c 0xffff (allocated kernel_c) valid_C compiled_C;
      c1 = leaves block_c 1 all_locked valid_C locked_C;
      d3 = leaves block_d 3 all_locked valid_D locked_D;
      d7 = leaves block_d 7 (allocated kernel_d) valid_D compiled_D;
      e = leaves block_e 0xffff (allocated kernel_e) valid_E compiled_E;
      i = λ mask t. stays block_i mask 8 [] refused_I t;
    }
