-- OVER THE CALLS: where compile accepts, check accepts the kernel and the two tables as compile left them, for the same block and mask, with any tables of its own
-- that are long enough: `CheckAccepts`, whose theorems are in proofs/CompiledChecks. Assumes nothing.
use Rattle.std.specs.Prelude.{◌≡◌, refl, List, [], ◌++◌, ℕ, ◌+◌, ◌*◌, ◌≤◌, ◌<◌, length, get_or}
use Rattle.std.proofs.Common.{sym, ap, ◌∙◌, arith, le-ltb}
use Rattle.std.proofs.Math.ListN.{get_or-append}
use Rattle.tables.specs.Tests.{or_none}
use Rattle.tables.specs.Zeros.{zeros}
use Rattle.answers.specs.Numbers.{Answer, accepted, refused}
use Rattle.answers.specs.Order.{refuse}
use Rattle.answers.specs.OrderLaws.{then_accepted, refuse_accepted, then_pass, refuse_off}
use Rattle.block.specs.Block.{Block, state_count, delay_count}
use Rattle.block.specs.Validation.{expanded_length, validation}
use Rattle.expand.specs.Graph.{graph_of}
use Rattle.kernel.specs.declared.Kernel.{Kernel}
use Rattle.kernel.specs.Steps as Steps
use Rattle.kernel.specs.Instructions as Instructions
use Rattle.kernel.specs.Steps.{step_at}
use Rattle.kernel.specs.Instructions.{instruction_at}
use Rattle.checker.specs.Walk.{walk_answer}
use Rattle.checker.specs.Check as Check
use Rattle.checker.specs.Check.{listing_of, work_needed, check_judged, check_call}
use Rattle.allocate.specs.State.{Allocated, allocated, all_locked}
use Rattle.compile.specs.Words.{Compiled}
use Rattle.compile.specs.Compile.{compile}
use Rattle.compile.specs.Call.{Tables, too_short, zero_past, compile_judged, compiled_answer, compile_answer, tables_after, compile_call}
use Rattle.compile.specs.declared.Compiled.{Compiled as Done}
use Rattle.compile.specs.Bounds.{Room, room}

-- ---- words in front of zeros are read as they are

front : (words : List ℕ) (n i : ℕ) → i < length words → get_or (words ++ zeros n) i 0 ≡ get_or words i 0
front words n i h = get_or-append words (zeros n) 0 i h

pub steps_in_front : (words : List ℕ) (n count i : ℕ) → length words ≡ 2 * count → i < count → step_at (words ++ zeros n) i ≡ step_at words i
steps_in_front words n count i e h =
    λ j. Steps.step_of (front words n (2 * i) (omega arith) j) (front words n (2 * i + 1) (omega arith) j)

pub instructions_in_front : (words : List ℕ) (n count i : ℕ) → length words ≡ 2 * count → i < count → instruction_at (words ++ zeros n) i ≡ instruction_at words i
instructions_in_front words n count i e h =
    λ j. Instructions.instruction_of (front words n (2 * i) (omega arith) j) (front words n (2 * i + 1) (omega arith) j)

-- ---- what an accepted call of compile says
pub record Accepted (b : Block) (mask : ℕ) (t : Tables) (done : Done) : Type 0 where
  pub valid : validation b ≡ accepted tt
  pub room : Room b t
  pub compiled : Compiled
  pub gives : compile (graph_of b) mask ≡ allocated compiled
  pub kernel : done.kernel ≡ compiled.kernel
  pub steps : (compile_call b mask t).tables.steps ≡ zero_past compiled.steps t.steps
  pub instructions : (compile_call b mask t).tables.instructions ≡ zero_past compiled.instructions t.instructions

accepted_is : {A : Type 0} (x y : A) → ◌≡◌ {A = Answer A} (accepted x) (accepted y) → x ≡ y
accepted_is x y e = cc

not_accepted : {A B : Type 0} (n : ℕ) (vs : List ℕ) (x : A) → ◌≡◌ {A = Answer A} (refused n vs) (accepted x) → B
not_accepted n vs x e = let z : ◌≡◌ {A = ℕ} 0 1 = cc in absurd (omega arith)

judged : (b : Block) (t : Tables) → compile_judged b t ≡ accepted tt → (validation b ≡ accepted tt) × Room b t
unfolding compile_judged
judged b t e =
    let r = then_accepted (validation b) (refuse 13 (too_short b t)) e in
    (r.0, room b t (refuse_accepted 13 (too_short b t) r.1))

pub call_accepted : (b : Block) (mask : ℕ) (t : Tables) (done : Done) → (compile_call b mask t).answer ≡ accepted done → Accepted b mask t done
unfolding compile_call compile_answer tables_after
call_accepted b mask t done e =
    let p = then_accepted (compile_judged b t) (compiled_answer (compile (graph_of b) mask)) e in
    go p.0 (compile (graph_of b) mask) refl p.1
  where
    go : compile_judged b t ≡ accepted tt → (x : Allocated Compiled) → compile (graph_of b) mask ≡ x → compiled_answer x ≡ accepted done → Accepted b mask t done
    go q (allocated c) g r =
        let j = judged b t q in
        record {
          valid = j.0;
          room = j.1;
          compiled = c;
          gives = g;
          kernel = ap (λ (x : Done). x.kernel) (sym (accepted_is _ done r));
          steps = rw (q, g);
          instructions = rw (q, g);
        }
    go q all_locked g r = not_accepted 14 [] done r

-- ---- THE CALLS

-- the checker's tables are long enough
pub record CheckRoom (b : Block) (k : Kernel) (t : Check.Tables) : Type 0 where
  pub expansion : 3 * expanded_length b ≤ length t.expansion
  pub work : work_needed (expanded_length b) (state_count b) (delay_count b) k ≤ length t.work

-- a call of check on a valid block, with tables that are long enough, answers what the walk does
pub check_walks : (b : Block) (mask : ℕ) (k : Kernel) (steps instructions : List ℕ) (t : Check.Tables) → validation b ≡ accepted tt → CheckRoom b k t
    → 2 * (k.control + k.sample) ≤ length steps → 2 * k.instructions ≤ length instructions
    → (check_call b mask k steps instructions t).answer ≡ walk_answer (listing_of b mask k steps instructions)
unfolding check_call check_judged Check.shorter
check_walks b mask k steps instructions t v r s i =
    then_pass _ (then_pass _ v ∙ refuse_off 13
    (or_none _ _ (or_none _ _ (or_none _ _ (le-ltb _ _ r.expansion) (le-ltb _ _ s)) (le-ltb _ _ i)) (le-ltb _ _ r.work)))

-- check accepts this kernel with the steps and instructions that compile left, whatever tables of its own it is lent, if they are long enough
abbrev pub CheckAccepts : Block → ℕ → Tables → Kernel → Type 0
CheckAccepts b mask t k =
    (lent : Check.Tables) → CheckRoom b k lent
    → (check_call b mask k (compile_call b mask t).tables.steps (compile_call b mask t).tables.instructions lent).answer ≡ accepted tt
