-- Answer 14 of the call: given exactly where nothing else is refused and an operation needs a register while every usable one is locked; never with three usable
-- registers or more. Assumes nothing.
use Rattle.std.specs.Prelude.{◌≡◌, refl, ◌↔◌, Bool, true, false, List, [], ℕ, zero, suc, ◌≤◌, length}
use Rattle.std.proofs.Common.{sym, ◌∙◌, arith}
use Rattle.answers.specs.Numbers.{Answer, accepted, refused}
use Rattle.answers.specs.Order.{◌⨾◌, refuse, refuse_at, in_order}
use Rattle.answers.specs.OrderLaws.{then_pass, then_stop}
use Rattle.block.specs.Block.{Block}
use Rattle.block.specs.Validation.{validation, records_answer, parameter_answer, words_answer, node_answer, state_answer, delay_answer}
use Rattle.expand.specs.Graph.{graph_of}
use Rattle.plan.specs.Flow.{flow_of}
use Rattle.allocate.specs.State.{Allocated, allocated, all_locked}
use Rattle.allocate.specs.Outcomes.{not_allocated}
use Rattle.compile.specs.Draft.{usable}
use Rattle.compile.specs.Words.{Compiled}
use Rattle.compile.specs.Compile.{compile}
use Rattle.compile.specs.Gives.{compile_gives}
use Rattle.compile.specs.Call.{Tables, compile_judged, compiled_answer, compile_answer, compile_call}
use Rattle.compile.specs.declared.Compiled.{Compiled as Done}
use Rattle.compiled.specs.LockedRun.{FlowLocked}
use Rattle.compiled.proofs.LockedRun.{locked_exactly}

-- ---- no answer before it is 14

abbrev Other : {A : Type 0} → Answer A → Type 0
Other a = (vs : List ℕ) → a ≡ refused 14 vs → ⊥

other_then : {A : Type 0} (a : Answer Unit) (b : Answer A) → Other a → Other b → Other (a ⨾ b)
unfolding ◌⨾◌
other_then (accepted u) b p q = q
other_then (refused n ws) b p q = λ vs e. let z : n ≡ 14 = cc in p ws (rw z)

other_refuse : (n : ℕ) (t : Bool) → (n ≡ 14 → ⊥) → Other (refuse n t)
unfolding refuse
other_refuse n true h vs e = let z : n ≡ 14 = cc in h z
other_refuse n false h vs e = let z : ◌≡◌ {A = ℕ} 0 1 = cc in omega arith

other_refuse_at : (n i : ℕ) (t : Bool) → (n ≡ 14 → ⊥) → Other (refuse_at n i t)
unfolding refuse_at
other_refuse_at n i true h vs e = let z : n ≡ 14 = cc in h z
other_refuse_at n i false h vs e = let z : ◌≡◌ {A = ℕ} 0 1 = cc in omega arith

other_in_order : (answer : ℕ → Answer Unit) (n : ℕ) → ((i : ℕ) → Other (answer i)) → Other (in_order answer n)
unfolding in_order
other_in_order answer zero h = λ vs e. let z : ◌≡◌ {A = ℕ} 0 1 = cc in omega arith
other_in_order answer (suc n) h = other_then (in_order answer n) (answer n) (other_in_order answer n h) (h n)

other_judged : (b : Block) (t : Tables) → Other (compile_judged b t)
unfolding compile_judged validation records_answer parameter_answer node_answer words_answer state_answer delay_answer
other_judged b t =
    other_then _ _
    (other_then _ _ (other_refuse 1 _ (λ z. omega arith)) (other_then _ _ (other_refuse 2 _ (λ z. omega arith)) (other_then _ _ (other_refuse 3 _ (λ z. omega arith))
    (other_then _ _ (other_refuse 4 _ (λ z. omega arith)) (other_then _ _ (other_refuse 5 _ (λ z. omega arith)) (other_then _ _ (other_refuse 6 _ (λ z. omega arith))
    (other_then _ _ (other_in_order _ _ (λ i. other_refuse_at 7 i _ (λ z. omega arith))) (other_then _ _ (other_refuse 8 _ (λ z. omega arith))
    (other_then _ _ (other_in_order _ _ (λ i. other_then _ _ (other_refuse_at 9 i _ (λ z. omega arith)) (other_refuse_at 10 i _ (λ z. omega arith))))
    (other_then _ _ (other_in_order _ _ (λ i. other_refuse_at 11 i _ (λ z. omega arith)))
    (other_in_order _ _ (λ i. other_refuse_at 12 i _ (λ z. omega arith)))))))))))))
    (other_refuse 13 _ (λ z. omega arith))

-- ---- the call

not_refused : {A B : Type 0} (x : A) (n : ℕ) (vs : List ℕ) → ◌≡◌ {A = Answer A} (accepted x) (refused n vs) → B
not_refused x n vs e = let z : ◌≡◌ {A = ℕ} 0 1 = cc in absurd (omega arith)

-- 14 EXACTLY
pub call_locked : (b : Block) (mask : ℕ) (t : Tables)
    → (compile_call b mask t).answer ≡ refused 14 [] ↔ ((compile_judged b t ≡ accepted tt) × FlowLocked (flow_of (graph_of b)) mask)
unfolding compile_call compile_answer
call_locked b mask t = (λ e. says (compile_judged b t) refl e, λ p. then_pass _ p.0 ∙ rw ((locked_exactly (graph_of b) mask).1 p.1))
  where
    kernel : (x : Allocated Compiled) → compile (graph_of b) mask ≡ x → compiled_answer x ≡ refused 14 [] → FlowLocked (flow_of (graph_of b)) mask
    kernel (allocated c) q e = not_refused _ 14 [] e
    kernel all_locked q e = (locked_exactly (graph_of b) mask).0 q

    says : (a : Answer Unit) → compile_judged b t ≡ a → (compile_judged b t ⨾ compiled_answer (compile (graph_of b) mask)) ≡ refused 14 []
        → (compile_judged b t ≡ accepted tt) × FlowLocked (flow_of (graph_of b)) mask
    says (accepted u) q e = (q, kernel (compile (graph_of b) mask) refl (sym (then_pass _ q) ∙ e))
    says (refused n vs) q e =
        let d : ◌≡◌ {A = Answer Done} (refused n vs) (refused 14 []) = sym (then_stop (compiled_answer (compile (graph_of b) mask)) q) ∙ e in
        let z : n ≡ 14 = cc in
        absurd (other_judged b t vs (q ∙ rw z))

-- and never with three usable registers or more
pub three_never_locked : (b : Block) (mask : ℕ) (t : Tables) → 3 ≤ length (usable mask) → (compile_call b mask t).answer ≡ refused 14 [] → ⊥
three_never_locked b mask t h e =
    let g = compile_gives (graph_of b) mask h in
    let l : compile (graph_of b) mask ≡ all_locked = (locked_exactly (graph_of b) mask).1 ((call_locked b mask t).0 e).1 in
    not_allocated g.0 (sym l ∙ g.1)
