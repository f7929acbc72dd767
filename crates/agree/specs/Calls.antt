-- DEMAND 3, said of the calls: where the checker's call passes a list and the step run's call accepts it, the step run renders what the graph run renders.
-- Assumes nothing.
use Rattle.std.specs.Prelude.{◌≡◌, refl, true, not, List, ℕ, zero, suc, ◌+◌, ◌*◌, ◌≤◌, length}
use Rattle.std.proofs.Common.{sym, ap, ◌∙◌, arith, le-leb, le-ltb}
use Rattle.std.proofs.lemmas.Bool.{not-false}
use Rattle.tables.specs.Tests.{or_none}
use Rattle.answers.specs.Numbers.{Answer, accepted, refused}
use Rattle.answers.specs.OrderLaws.{then_accepted, refuse_accepted, then_pass, refuse_pass, refuse_off}
use Rattle.block.specs.Block.{Block}
use Rattle.block.specs.Validation.{expanded_length, validation}
use Rattle.block.specs.Valid.{Valid, valid}
use Rattle.expand.specs.Graph.{graph_of}
use Rattle.kernel.specs.declared.Kernel.{Kernel}
use Rattle.memory.specs.Sizes.{run_fits}
use Rattle.memory.specs.Signals.{Signals, Rendered}
use Rattle.graph_run.specs.Run as GraphRun
use Rattle.step_run.specs.declared.Done.{Done}
use Rattle.step_run.specs.Budget.{largest, samples_done}
use Rattle.step_run.specs.BudgetLaws.{done_inputs}
use Rattle.step_run.specs.CallLaws.{long}
use Rattle.step_run.specs.Run.{Code, Tables, samples_of, run_judged, run_answer, tables_after, run_after, run_call}
use Rattle.checker.specs.Walk.{walk_answer}
use Rattle.checker.specs.Check.{listing_of, check_judged, check_call}
use Rattle.checker.specs.Check as Check
use Rattle.agree.specs.Agree.{agree}

-- ---- what accepted calls say

-- the checker's call passes a list: the walk does
pub check_walk : (b : Block) (mask : ℕ) (k : Kernel) (steps instructions : List ℕ) (w : Check.Tables)
    → (check_call b mask k steps instructions w).answer ≡ accepted tt → walk_answer (listing_of b mask k steps instructions) ≡ accepted tt
unfolding check_call
check_walk b mask k steps instructions w e = (then_accepted (check_judged b k steps instructions w) _ e).1

-- how many samples an answer tells
samples_told : Answer Done → ℕ
samples_told (accepted d) = d.samples
samples_told (refused n vs) = 0

-- the step run's call accepts: its tests passed, and it tells how many samples the budget allows
pub record Ran (b : Block) (c : Code) (budget : ℕ) (s : Signals) (t : Tables) (d : Done) : Type 0 where
  pub block : validation b ≡ accepted tt
  pub valid : Valid b
  pub slots : c.kernel.slots ≤ length t.control
  pub spills : c.kernel.spills ≤ length t.spills
  pub fits : run_fits b s.parameters t.rendered.memories s.input t.rendered.output s.network ≡ true
  pub samples : d.samples ≡ samples_of c budget s

-- .. as facts
pub ran : (b : Block) (c : Code) (budget : ℕ) (s : Signals) (t : Tables) (d : Done) → (run_call b c budget s t).answer ≡ accepted d → Ran b c budget s t d
unfolding run_call run_answer run_judged samples_told
ran b c budget s t d e =
    let a = then_accepted (run_judged b c s t) _ e in
    let p = then_accepted (validation b) _ a.0 in
    let q = then_accepted _ _ p.1 in
    let r = then_accepted _ _ q.1 in
    let room = long _ _ _ _ _ _ _ (refuse_accepted 13 _ q.0) in
    record {
      block = p.0;
      valid = valid b p.0;
      slots = room.slots;
      spills = room.spilled;
      fits = not-false _ (refuse_accepted 16 _ r.1);
      samples = sym (ap samples_told a.1);
    }

-- what the call leaves rendered
after_rendered : (b : Block) (c : Code) (s : Signals) (t : Tables) (n : ℕ) (r : Rendered) → GraphRun.samples_to (graph_of b) b.header.network s t.rendered n ≡ r
    → ((m : ℕ) → n ≡ suc m → (tables_after b c s t (suc m)).rendered ≡ GraphRun.samples_to (graph_of b) b.header.network s t.rendered (suc m))
    → (tables_after b c s t n).rendered ≡ r
unfolding GraphRun.samples_to
after_rendered b c s t zero r e h = e
after_rendered b c s t (suc m) r e h = h m refl ∙ e

-- THE CALL. A list passes the checker's call, and the step run's call accepts and does d's samples: its output words, states, delay area and cursors are those
-- of the graph run of so many samples; of none, as they were lent
pub agree_call : (b : Block) (mask : ℕ) (c : Code) (w : Check.Tables) (budget : ℕ) (s : Signals) (t : Tables) (d : Done)
    → (check_call b mask c.kernel c.steps c.instructions w).answer ≡ accepted tt
    → (run_call b c budget s t).answer ≡ accepted d
    → (run_call b c budget s t).tables.rendered ≡ GraphRun.samples_to (graph_of b) b.header.network s t.rendered d.samples
unfolding run_call run_after
agree_call b mask c w budget s t d passes e =
    let r = ran b c budget s t d e in
    let few = done_inputs c.kernel budget (length s.input) in
    let n = r.samples in
    let walk = check_walk b mask c.kernel c.steps c.instructions w passes in
    rw e
    (after_rendered b c s t d.samples _ refl
    (λ m q. agree b r.valid mask c walk s t r.slots r.spills r.fits (suc m) (omega arith)))

-- ---- the whole input

-- a budget for all samples of the input does them all
pub whole_done : (k : Kernel) (budget n : ℕ) → k.control + n * k.sample ≤ budget → samples_done k budget n ≡ n
unfolding samples_done largest
whole_done k budget zero h = refl
whole_done k budget (suc n) h = rw (le-leb (k.control + suc n * k.sample) budget h)

-- the graph run's call on the same block, signals and rendered tables, where its own tables are long enough, accepts
graph_accepts : (b : Block) (c : Code) (budget : ℕ) (s : Signals) (t : Tables) (d : Done) → Ran b c budget s t d → (expansion values : List ℕ)
    → 3 * expanded_length b ≤ length expansion → expanded_length b ≤ length values
    → GraphRun.run_answer b s (GraphRun.tables expansion values t.rendered) ≡ accepted tt
unfolding GraphRun.run_answer
graph_accepts b c budget s t d r expansion values e v =
    then_pass _ r.block
    ∙ (refuse_pass 13 _ (or_none _ _ (le-ltb _ _ e) (le-ltb _ _ v))
    ∙ refuse_off 16 (ap not r.fits))

-- THE WHOLE INPUT. Where the budget allows control steps + length × sample steps, the step run's call renders what the graph run's call renders
pub agree_whole : (b : Block) (mask : ℕ) (c : Code) (w : Check.Tables) (budget : ℕ) (s : Signals) (t : Tables) (d : Done)
    → (check_call b mask c.kernel c.steps c.instructions w).answer ≡ accepted tt
    → (run_call b c budget s t).answer ≡ accepted d
    → c.kernel.control + length s.input * c.kernel.sample ≤ budget
    → (expansion values : List ℕ) → 3 * expanded_length b ≤ length expansion → expanded_length b ≤ length values
    → (run_call b c budget s t).tables.rendered ≡ (GraphRun.run_call b s (GraphRun.tables expansion values t.rendered)).tables.rendered
unfolding GraphRun.run_call GraphRun.run_after
agree_whole b mask c w budget s t d passes e enough expansion values x v =
    let r = ran b c budget s t d e in
    let all : d.samples ≡ length s.input = r.samples ∙ whole_done c.kernel budget (length s.input) enough in
    agree_call b mask c w budget s t d passes e ∙ rw (graph_accepts b c budget s t d r expansion values x v, all)
