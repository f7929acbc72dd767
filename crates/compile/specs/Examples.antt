-- Kernels with spills, hoisting, old values and a macro, as the Rust's `compile_with` gives them, by computation. Assumes nothing.
use Rattle.std.specs.Prelude.{◌≡◌, refl, [], ◌∷◌, ℕ}
use Rattle.block.specs.declared.Header.{Header}
use Rattle.block.specs.Block.{block}
use Rattle.expand.specs.Graph.{graph_of}
use Rattle.expand.specs.Macros.{recip}
use Rattle.kernel.specs.declared.Source.TheVariants as Source
use Rattle.kernel.specs.declared.Step.TheVariants.{Load, Compute, Spill, Reload, StoreState, StoreDelay, StoreOutput, StoreControl}
use Rattle.kernel.specs.declared.Instruction.TheVariants.{Immediate, Add, Sub, Mul, Min, Max, Abs, IntegerSub}
use Rattle.allocate.specs.State.{allocated, all_locked}
use Rattle.compile.specs.Compile.{compile}
use Rattle.compile.specs.Kernels.{kernel, compiling}

-- version 2, category 10, stereo
abbrev header : ℕ → Header
header output = record { version = 2; category = 10; channels = 0; network = 0; output = output }

-- two registers: spill slot 0 is freed and used again
reused : compile (graph_of (block (header 5) (0 ∷ 0x3f800000 ∷ 0 ∷ 0 ∷ 0x3f800000 ∷ 0 ∷ []) (0 ∷ 5 ∷ []) (1 ∷ 8 ∷ [])
    (0 ∷ 0 ∷ 0 ∷ 4 ∷ 0 ∷ 0 ∷ 13 ∷ 0 ∷ 0 ∷ 9 ∷ 1 ∷ 2 ∷ 5 ∷ 3 ∷ 3 ∷ 6 ∷ 3 ∷ 2 ∷ 9 ∷ 1 ∷ 0 ∷ 8 ∷ 0 ∷ 4 ∷ []))) 3
    ≡ allocated
    (kernel
    []
    (Load Source.Audio 0 ∷ Compute 0 ∷ Load (Source.Delay 0) 0 ∷ Compute 1 ∷ Spill 0 1 ∷ Compute 2 ∷ StoreState 0 1 ∷ Spill 1 1 ∷ Reload 0 1
    ∷ Compute 3 ∷ Load Source.Audio 1 ∷ Spill 0 0 ∷ Reload 1 0 ∷ Compute 4 ∷ StoreDelay 0 1 ∷ Reload 0 0 ∷ StoreOutput 0 ∷ [])
    (Abs 1 0 ∷ Max 0 0 1 ∷ Add 1 0 0 ∷ Sub 0 0 1 ∷ Min 1 1 0 ∷ [])
    0 2 2)
unfolding compiling
reused = refl

-- two registers: the control phase spills behind the hoisted value's slot, and the constant that both phases read is loaded in each
hoisted : compile (graph_of (block (header 8) (0 ∷ 0x3f800000 ∷ 0 ∷ 0 ∷ 0x3f800000 ∷ 0 ∷ []) (0 ∷ 1 ∷ 0 ∷ 1 ∷ 0 ∷ 2 ∷ []) (2 ∷ 0 ∷ 1 ∷ 9 ∷ [])
    (0 ∷ 0 ∷ 0 ∷ 1 ∷ 0x3f800000 ∷ 0 ∷ 13 ∷ 1 ∷ 0 ∷ 13 ∷ 1 ∷ 0 ∷ 9 ∷ 2 ∷ 2 ∷ 1 ∷ 0 ∷ 0 ∷ 7 ∷ 2 ∷ 3 ∷ 10 ∷ 2 ∷ 3 ∷ 9 ∷ 4 ∷ 6 ∷ []))) 3
    ≡ allocated
    (kernel
    (Compute 0 ∷ Compute 1 ∷ Compute 2 ∷ StoreControl 1 0 ∷ Compute 3 ∷ StoreControl 2 0 ∷ Load (Source.Control 1) 0 ∷ Compute 4
    ∷ Load (Source.Control 2) 0 ∷ Compute 5 ∷ StoreControl 0 0 ∷ [])
    (Load Source.Audio 0 ∷ StoreState 0 0 ∷ StoreState 1 0 ∷ Compute 6 ∷ StoreState 2 0 ∷ Load (Source.Control 0) 0 ∷ StoreDelay 1 0
    ∷ StoreOutput 0 ∷ [])
    (Immediate 0 0x3f800000 ∷ Abs 1 0 ∷ Abs 0 0 ∷ Max 0 1 1 ∷ Mul 1 1 0 ∷ Max 0 0 1 ∷ Immediate 0 0x3f800000 ∷ [])
    3 0 2)
unfolding compiling
hoisted = refl

-- two registers: state 0's old value is loaded before the write and spilled; the delay's is dropped and loaded again
kept : compile (graph_of (block (header 1) [] (0 ∷ 1 ∷ 0 ∷ 5 ∷ 0 ∷ 5 ∷ 0 ∷ 3 ∷ 0 ∷ 4 ∷ []) (3 ∷ 2 ∷ [])
    (0 ∷ 0 ∷ 0 ∷ 3 ∷ 0 ∷ 0 ∷ 4 ∷ 0 ∷ 0 ∷ 3 ∷ 4 ∷ 0 ∷ 6 ∷ 2 ∷ 0 ∷ []))) 3
    ≡ allocated
    (kernel
    []
    (Load Source.Audio 0 ∷ Load (Source.State 0) 1 ∷ StoreState 0 0 ∷ Load (Source.Delay 0) 0 ∷ StoreState 3 0 ∷ Load (Source.State 4) 0
    ∷ StoreState 4 0 ∷ Load (Source.Delay 0) 0 ∷ Spill 0 1 ∷ Load Source.Audio 1 ∷ Compute 0 ∷ StoreState 1 0 ∷ StoreState 2 0 ∷ Reload 0 0
    ∷ StoreDelay 0 0 ∷ StoreOutput 0 ∷ [])
    (Sub 0 0 1 ∷ [])
    0 1 2)
unfolding compiling
kept = refl

-- three registers: a recip, with input and constants dropped and loaded again
expanded : compile (graph_of (block (header 1) [] (0 ∷ 1 ∷ 0 ∷ 1 ∷ 0 ∷ 0 ∷ 0 ∷ 0 ∷ 0 ∷ 0 ∷ 0 ∷ 0 ∷ 0 ∷ 1 ∷ []) (5 ∷ 3 ∷ [])
    (0 ∷ 0 ∷ 0 ∷ 8 ∷ 0 ∷ 0 ∷ 14 ∷ 0 ∷ 0 ∷ []))) 7
    ≡ allocated
    (kernel
    []
    (Load Source.Audio 0 ∷ StoreState 0 0 ∷ StoreState 1 0 ∷ StoreState 6 0 ∷ Compute 0 ∷ Compute 1 ∷ Compute 2 ∷ Spill 0 1 ∷ Compute 3 ∷ Compute 4
    ∷ Compute 5 ∷ Compute 6 ∷ Load Source.Audio 2 ∷ Compute 7 ∷ Compute 8 ∷ Compute 9 ∷ Compute 10 ∷ Load Source.Audio 1 ∷ Compute 11 ∷ Compute 12
    ∷ Compute 13 ∷ StoreDelay 0 2 ∷ Reload 0 0 ∷ StoreOutput 0 ∷ [])
    (Min 1 0 0 ∷ Immediate 2 0x7ef311c7 ∷ IntegerSub 2 2 0 ∷ Mul 1 0 2 ∷ Immediate 0 0x40000000 ∷ Sub 1 0 1 ∷ Mul 1 1 2 ∷ Mul 0 2 1
    ∷ Immediate 2 0x40000000 ∷ Sub 0 2 0 ∷ Mul 0 0 1 ∷ Mul 1 1 0 ∷ Sub 2 2 1 ∷ Mul 2 2 0 ∷ [])
    0 1 3)
unfolding compiling recip
expanded = refl

-- two registers: a result whose operands are both read again has none
refused : compile (graph_of (block (header 1) [] (0 ∷ 5 ∷ 0 ∷ 2 ∷ 0 ∷ 1 ∷ 0 ∷ 0 ∷ 0 ∷ 3 ∷ []) []
    (0 ∷ 0 ∷ 0 ∷ 12 ∷ 0 ∷ 0 ∷ 6 ∷ 1 ∷ 0 ∷ 7 ∷ 0 ∷ 1 ∷ 9 ∷ 3 ∷ 3 ∷ 3 ∷ 4 ∷ 0 ∷ []))) 3
    ≡ all_locked
unfolding compiling
refused = refl
