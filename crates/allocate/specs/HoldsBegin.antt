-- The tables at a phase's start hold the state at its start. Assumes nothing.
use Rattle.std.specs.Prelude.{◌≡◌, List, [], map, ℕ, suc, ◌+◌, ◌≤◌, length, get_or}
use Rattle.std.proofs.Math.Path.{sym, ap}
use Rattle.std.proofs.Common.{◌∙◌, append-nil, arith}
use Rattle.std.proofs.Math.ListN.{replicate}
use Rattle.std.proofs.lemmas.List.{length-replicate}
use Rattle.tables.specs.Zeros.{zeros_at}
use Rattle.tables.specs.Parts.{part, part_at}
use Rattle.plan.specs.Lists.{is_some}
use Rattle.plan.specs.Origins.{has_origin}
use Rattle.plan.specs.Schedule.{Task}
use Rattle.allocate.specs.declared.Frame.{Frame}
use Rattle.allocate.specs.Actions.{Action}
use Rattle.allocate.specs.State.{Setting, begin}
use Rattle.allocate.specs.Allocator.{reads_of}
use Rattle.allocate.specs.Begin.{begin_inv}
use Rattle.allocate.specs.RunLaws.{TasksOk}
use Rattle.allocate.specs.Layout.{Wide, next_at, holder_at, spilled_at, fresh_at}
use Rattle.allocate.specs.Desk.{Desk}
use Rattle.allocate.specs.Ready.{ReadyAt, mine_length}
use Rattle.allocate.specs.Holds.{Phase, next_words, Written, Holds}
use Rattle.allocate.specs.HoldsRun.{Going}

-- codegen.rs: `Allocator::new`, in the tables: no node is held or has a slot, what has an origin is fresh, nothing is freed
pub record Begins (frame : Frame) (e : Setting) (d : Desk) : Type 0 where
  pub wide : Wide frame d.work
  pub holders : part (holder_at frame 0) frame.nodes d.work ≡ replicate frame.nodes 0
  pub spilleds : part (spilled_at frame 0) frame.nodes d.work ≡ replicate frame.nodes 0
  pub freshes : map is_some (part (fresh_at frame 0) frame.nodes d.work) ≡ map has_origin e.origins
  pub owner : d.allocator.owner ≡ replicate 16 0
  pub freed : d.allocator.freed ≡ 0
  pub slots : d.allocator.slots ≡ frame.fixed
  pub most : d.allocator.most ≡ 0

module _ (frame : Frame) (e : Setting) (d : Desk) (b : Begins frame e d) where
  -- the tables are ready
  pub begin_ready : ReadyAt frame d
  begin_ready =
      record {
        wide = b.wide;
        owners = record { each = λ k. rw b.owner (omega (arith, zeros_at 16 k)) };
        holders = λ i h.
            let z : holder_at frame 0 + i ≡ holder_at frame i = omega arith in
            let q : get_or d.work (holder_at frame i) 0 ≡ 0 =
            sym (part_at (holder_at frame 0) frame.nodes d.work i h ∙ ap (λ (k : ℕ). get_or d.work k 0) z)
            ∙ (ap (λ (l : List ℕ). get_or l i 0) b.holders ∙ zeros_at frame.nodes i) in
            omega arith;
        room =
            let m = mine_length frame.fixed (part (spilled_at frame 0) frame.nodes d.work) in
            let n : length (part (spilled_at frame 0) frame.nodes d.work) ≡ frame.nodes =
            ap length b.spilleds ∙ length-replicate {A = ℕ} frame.nodes 0 in
            omega (arith, b.freed, m, n);
      }

  -- THE START OF A PHASE
  pub begin_holds : (nodes table program : List ℕ) (prior : List Action) (rest : List (List ℕ)) → Phase frame nodes e d.work → suc 0 + length rest ≤ 0x1_0000_0000
      → part (next_at frame 0) frame.nodes d.work ≡ next_words rest 0 frame.nodes
      → Written table program prior d.steps d.instructions d.allocator.steps d.allocator.instructions
      → Holds frame nodes e table program prior rest 0 d (begin e)
  unfolding begin part
  begin_holds nodes table program prior rest phase few nexts written =
      record {
        ready = begin_ready;
        phase = phase;
        few = few;
        tables =
            record {
              nexts = nexts;
              holders = b.holders ∙ ap (λ (n : ℕ). replicate n 0) (sym phase.count);
              spilleds = b.spilleds ∙ ap (λ (n : ℕ). replicate n 0) (sym phase.count);
              freshes = b.freshes;
              frees = rw b.freed;
              count = b.freed;
            };
        owner = b.owner;
        slots = b.slots ∙ sym phase.fixed;
        most = b.most;
        written = rw (append-nil prior) written;
      }

-- the invariant at the start
pub begin_going : (e : Setting) (own : List ℕ) (tasks : List Task) → TasksOk e own [] 0 tasks → Going e own [] 0 tasks (begin e)
begin_going e own tasks owed = record { owed = owed; inv = begin_inv e own (reads_of e tasks); hot = λ v q t. absurd (omega arith) }
