-- Document 01, "How tight the promises are": "Starred kernels are one proved statement", `starred`. Assumes nothing.
use Rattle.compile.specs.Kernels.{StarredKernels, starred_kernels}
use Rattle.house.specs.Kernels.{KernelK, K}

pub record Starred : Type 0 where
  -- A, C, C with mask 1, D with masks 3 and 7, E, I
  pub kernels : StarredKernels
  -- "block A .. as a file: used 12, check 0xFFFFFFE6"
  pub file : KernelK

pub starred : Starred
starred = record { kernels = starred_kernels; file = K }
