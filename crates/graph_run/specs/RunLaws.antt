-- The loop over the samples of a call: what it keeps. Assumes nothing.
use Rattle.std.specs.Prelude.{◌≡◌, List, ℕ, ◌+◌, ◌≤◌, length, set}
use Rattle.std.proofs.Math.Path.{refl}
use Rattle.std.proofs.Common.{sym, ap, ◌∙◌, subst, add-one, arith, length-set}
use Rattle.expand.specs.Graph.{Graph}
use Rattle.memory.specs.Lines.{Memories}
use Rattle.memory.specs.Signals.{Given, Signals, given_by, Rendered, rendered}
use Rattle.graph_run.specs.Sample.{values, updated, Sampled, sampled, sample}
use Rattle.graph_run.specs.Run.{emit, samples_to}
use Rattle.graph_run.specs.Ready.{Ready}
use Rattle.graph_run.specs.SampleLaws.{Same, same_refl, same_trans, updated_same, updated_ready}

-- the memories after a sample
sample_memories : (g : Graph) (x : Given) (m : Memories) → (sample g x m).memories ≡ updated g (values g x m) m
unfolding sample
sample_memories g x m = refl

pub samples_next : (g : Graph) (flag : ℕ) (s : Signals) (r : Rendered) (t : ℕ)
    → samples_to g flag s r (t + 1) ≡ emit (samples_to g flag s r t) t (sample g (given_by flag s t) (samples_to g flag s r t).memories)
unfolding samples_to
samples_next g flag s r t = rw add-one

-- after t samples: what was rendered, and that all is ready for the next
pub record Going (g : Graph) (flag : ℕ) (s : Signals) (r₀ : Rendered) (output : List ℕ) (m : Memories) (t : ℕ) : Type 0 where
  pub so_far : rendered output m ≡ samples_to g flag s r₀ t
  pub ready : Ready g (length s.parameters) m
  pub same : Same m r₀.memories
  pub long : length output ≡ length r₀.output

module _ (g : Graph) (flag : ℕ) (s : Signals) where
  pub going_start : (output : List ℕ) (m : Memories) → Ready g (length s.parameters) m → Going g flag s (rendered output m) output m 0
  unfolding samples_to
  going_start output m r = record { so_far = refl; ready = r; same = same_refl m; long = refl }

  pub going_next : (r₀ : Rendered) (output : List ℕ) (m n : Memories) (t word : ℕ) → Going g flag s r₀ output m t
      → sampled word n ≡ sample g (given_by flag s t) m → Going g flag s r₀ (set output t word) n (t + 1)
  going_next r₀ output m n t word k e =
      let x = given_by flag s t in
      let q : n ≡ updated g (values g x m) m = ap (λ (y : Sampled). y.memories) e ∙ sample_memories g x m in
      record {
        so_far =
            ap (λ (y : Sampled). emit (rendered output m) t y) e
            ∙ ap (λ (r : Rendered). emit r t (sample g x r.memories)) k.so_far
            ∙ sym (samples_next g flag s r₀ t);
        ready = subst (λ (y : Memories). Ready g (length s.parameters) y) (sym q) (updated_ready g (length s.parameters) m k.ready (values g x m));
        same = same_trans (subst (λ (y : Memories). Same y m) (sym q) (updated_same g (length s.parameters) m k.ready (values g x m))) k.same;
        long = simp length-set k.long;
      }

  pub going_end : (r₀ : Rendered) (output : List ℕ) (m : Memories) (t n : ℕ) → t ≤ n → n ≤ t → Going g flag s r₀ output m t
      → rendered output m ≡ samples_to g flag s r₀ n
  going_end r₀ output m t n h l k = let q : t ≡ n = omega arith in k.so_far ∙ rw q
