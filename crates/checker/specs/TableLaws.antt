-- A store in one region of the work table is a store in what is held; the index stands. Assumes nothing.
use Rattle.std.specs.Prelude.{◌≡◌, refl, ◌⊎◌, List, ℕ, ◌+◌, ◌≤◌, ◌<◌, length, get_or, set, ltb, Option, Some, None}
use Rattle.std.proofs.Common.{sym, inl, inr, arith, length-set, ltb-true, ltb-false, lt-ltb, le-ltb}
use Rattle.std.proofs.Math.ListN.{get_or-eq_default}
use Rattle.std.proofs.Math.Seq.{set_out, get_or-set_same}
use Rattle.tables.specs.Parts.{part, length_part, part_at, part_in, part_out}
use Rattle.tables.specs.Tests.{cond_pred}
use Rattle.kernel.specs.declared.Instruction.{Instruction}
use Rattle.kernel.specs.declared.Step.{Step}
use Rattle.kernel.specs.declared.Step.TheVariants.{Load, Compute, Spill, Reload, StoreState, StoreDelay, StoreOutput, StoreControl}
use Rattle.kernel.specs.Instructions.{destination, instruction_at}
use Rattle.classes.specs.Index.{Indexed, indexed_above}
use Rattle.checker.specs.declared.table.Terms.{Terms}
use Rattle.checker.specs.Walk.{held, after_move, with_result, with_register}
use Rattle.checker.specs.Table.{registers_at, output_at, states_at, delays_at, control_at, spills_at, table_end, held_of, put_in, result_table, table_after, Ready}

-- ---- reads: a place past a region, or past a table, reads as 0
pub read_inside : (b n : ℕ) (l : List ℕ) (i : ℕ) → i < n → get_or l (b + i) 0 ≡ get_or (part b n l) i 0
read_inside b n l i h = sym (part_at b n l i h)

pub read_past : (b n : ℕ) (l : List ℕ) (i : ℕ) → b + n ≤ length l → n ≤ i → 0 ≡ get_or (part b n l) i 0
read_past b n l i h q = sym (get_or-eq_default (part b n l) 0 {n = i} (rw (length_part b n l h) q))

pub word_past : (l : List ℕ) (i : ℕ) → length l ≤ i → 0 ≡ get_or l i 0
word_past l i h = sym (get_or-eq_default l 0 {n = i} h)

-- ---- one store
pub put_inside : (b n i w : ℕ) (t : List ℕ) → i < n → set t (b + i) w ≡ put_in b n i w t
unfolding put_in
put_inside b n i w t h = rw (lt-ltb i n h)

pub put_past : (b n i w : ℕ) (t : List ℕ) → n ≤ i → t ≡ put_in b n i w t
unfolding put_in
put_past b n i w t h = rw (le-ltb i n h)

put_length : (b n i w : ℕ) (t : List ℕ) → length (put_in b n i w t) ≡ length t
unfolding put_in
put_length b n i w t = cond_pred (λ (x : List ℕ). length x ≡ length t) (ltb i n) (λ e. length-set t (b + i) w) (λ e. refl)

-- in its own region, and in one before or behind it
put_in_lem : (b n i w : ℕ) (t : List ℕ) → b + n ≤ length t → part b n (put_in b n i w t) ≡ set (part b n t) i w
unfolding put_in
put_in_lem b n i w t h =
    cond_pred (λ (x : List ℕ). part b n x ≡ set (part b n t) i w) (ltb i n)
    (λ e. part_in b n t (b + i) i w refl (ltb-true i n e))
    (λ e. sym (set_out (part b n t) i w (rw (length_part b n t h) (ltb-false i n e))))

put_out : (b n i w b' n' : ℕ) (t : List ℕ) → (b + n ≤ b') ⊎ (b' + n' ≤ b) → part b' n' (put_in b n i w t) ≡ part b' n' t
unfolding put_in
put_out b n i w b' n' t (inl h) =
    cond_pred (λ (x : List ℕ). part b' n' x ≡ part b' n' t) (ltb i n) (λ e. let q = ltb-true i n e in part_out b' n' t (b + i) w (inl (omega arith))) (λ e. refl)
put_out b n i w b' n' t (inr h) =
    cond_pred (λ (x : List ℕ). part b' n' x ≡ part b' n' t) (ltb i n) (λ e. part_out b' n' t (b + i) w (inr (omega arith))) (λ e. refl)

-- ---- each region
module _ (p : Terms) (t : List ℕ) (room : table_end p ≤ length t) (i w : ℕ) where
  register_put : held_of p (put_in (registers_at p) 16 i w t) ≡ with_register (held_of p t) i w
  unfolding held_of
  register_put =
      rw (
        put_in_lem (registers_at p) 16 i w t (omega arith),
        put_out (registers_at p) 16 i w (control_at p) p.kernel.slots t (inl (omega arith)),
        put_out (registers_at p) 16 i w (spills_at p) p.kernel.spills t (inl (omega arith)),
        put_out (registers_at p) 16 i w (states_at p) p.states t (inl (omega arith)),
        put_out (registers_at p) 16 i w (delays_at p) p.delays t (inl (omega arith)),
        put_out (registers_at p) 16 i w (output_at p) 1 t (inl (omega arith)),
      )

  control_put : held_of p (put_in (control_at p) p.kernel.slots i w t)
      ≡ held (held_of p t).registers (set (held_of p t).control i w) (held_of p t).spills (held_of p t).states_stored (held_of p t).delays_stored (held_of p t).output_stored
  unfolding held_of
  control_put =
      rw (
        put_out (control_at p) p.kernel.slots i w (registers_at p) 16 t (inr (omega arith)),
        put_in_lem (control_at p) p.kernel.slots i w t (omega arith),
        put_out (control_at p) p.kernel.slots i w (spills_at p) p.kernel.spills t (inl (omega arith)),
        put_out (control_at p) p.kernel.slots i w (states_at p) p.states t (inr (omega arith)),
        put_out (control_at p) p.kernel.slots i w (delays_at p) p.delays t (inr (omega arith)),
        put_out (control_at p) p.kernel.slots i w (output_at p) 1 t (inr (omega arith)),
      )

  spill_put : held_of p (put_in (spills_at p) p.kernel.spills i w t)
      ≡ held (held_of p t).registers (held_of p t).control (set (held_of p t).spills i w) (held_of p t).states_stored (held_of p t).delays_stored (held_of p t).output_stored
  unfolding held_of
  spill_put =
      rw (
        put_out (spills_at p) p.kernel.spills i w (registers_at p) 16 t (inr (omega arith)),
        put_out (spills_at p) p.kernel.spills i w (control_at p) p.kernel.slots t (inr (omega arith)),
        put_in_lem (spills_at p) p.kernel.spills i w t (omega arith),
        put_out (spills_at p) p.kernel.spills i w (states_at p) p.states t (inr (omega arith)),
        put_out (spills_at p) p.kernel.spills i w (delays_at p) p.delays t (inr (omega arith)),
        put_out (spills_at p) p.kernel.spills i w (output_at p) 1 t (inr (omega arith)),
      )

  state_put : held_of p (put_in (states_at p) p.states i w t)
      ≡ held (held_of p t).registers (held_of p t).control (held_of p t).spills (set (held_of p t).states_stored i w) (held_of p t).delays_stored (held_of p t).output_stored
  unfolding held_of
  state_put =
      rw (
        put_out (states_at p) p.states i w (registers_at p) 16 t (inr (omega arith)),
        put_out (states_at p) p.states i w (control_at p) p.kernel.slots t (inl (omega arith)),
        put_out (states_at p) p.states i w (spills_at p) p.kernel.spills t (inl (omega arith)),
        put_in_lem (states_at p) p.states i w t (omega arith),
        put_out (states_at p) p.states i w (delays_at p) p.delays t (inl (omega arith)),
        put_out (states_at p) p.states i w (output_at p) 1 t (inr (omega arith)),
      )

  delay_put : held_of p (put_in (delays_at p) p.delays i w t)
      ≡ held (held_of p t).registers (held_of p t).control (held_of p t).spills (held_of p t).states_stored (set (held_of p t).delays_stored i w) (held_of p t).output_stored
  unfolding held_of
  delay_put =
      rw (
        put_out (delays_at p) p.delays i w (registers_at p) 16 t (inr (omega arith)),
        put_out (delays_at p) p.delays i w (control_at p) p.kernel.slots t (inl (omega arith)),
        put_out (delays_at p) p.delays i w (spills_at p) p.kernel.spills t (inl (omega arith)),
        put_out (delays_at p) p.delays i w (states_at p) p.states t (inr (omega arith)),
        put_in_lem (delays_at p) p.delays i w t (omega arith),
        put_out (delays_at p) p.delays i w (output_at p) 1 t (inr (omega arith)),
      )

  output_put : held_of p (put_in (output_at p) 1 0 w t)
      ≡ held (held_of p t).registers (held_of p t).control (held_of p t).spills (held_of p t).states_stored (held_of p t).delays_stored w
  unfolding held_of
  output_put =
      rw (
        put_out (output_at p) 1 0 w (registers_at p) 16 t (inr (omega arith)),
        put_out (output_at p) 1 0 w (control_at p) p.kernel.slots t (inl (omega arith)),
        put_out (output_at p) 1 0 w (spills_at p) p.kernel.spills t (inl (omega arith)),
        put_out (output_at p) 1 0 w (states_at p) p.states t (inl (omega arith)),
        put_out (output_at p) 1 0 w (delays_at p) p.delays t (inl (omega arith)),
        put_in_lem (output_at p) 1 0 w t (omega arith),
        get_or-set_same (part (output_at p) 1 t) 0 w 0 (omega (arith, length_part (output_at p) 1 t (omega arith))),
      )

-- ---- WHAT IS HELD AFTER A STEP
pub table_after_lem : (p : Terms) (instructions t : List ℕ) (step : Step) (class : ℕ) → table_end p ≤ length t
    → held_of p (table_after p instructions t step class) ≡ after_move instructions (held_of p t) step class
table_after_lem p instructions t (Load source r) class room = register_put p t room r class
table_after_lem p instructions t (Compute i) class room = go (instruction_at instructions i)
  where
    go : (w : Option Instruction) → held_of p (result_table p t w class) ≡ with_result (held_of p t) w class
    go (Some instruction) = register_put p t room (destination instruction) class
    go None = refl
table_after_lem p instructions t (Spill slot r) class room = spill_put p t room slot class
table_after_lem p instructions t (Reload slot r) class room = register_put p t room r class
table_after_lem p instructions t (StoreState state r) class room = state_put p t room state 1
table_after_lem p instructions t (StoreDelay delay r) class room = delay_put p t room delay 1
table_after_lem p instructions t (StoreOutput r) class room = output_put p t room 0 1
table_after_lem p instructions t (StoreControl slot r) class room = control_put p t room slot class

-- ---- the index stands
module _ (p : Terms) (nodes updates stores instructions t : List ℕ) (ready : Ready p nodes updates stores instructions t) where
  put_ready : (b n i w : ℕ) → registers_at p ≤ b → Ready p nodes updates stores instructions (put_in b n i w t)
  unfolding put_in
  put_ready b n i w h =
      record {
        indexed = above;
        room = rw (put_length b n i w t) ready.room;
        coded = ready.coded;
        states = ready.states;
        delays = ready.delays;
      }
    where
      above : Indexed p.count nodes (put_in b n i w t)
      above = cond_pred (Indexed p.count nodes) (ltb i n) (λ e. indexed_above ready.indexed (b + i) w (omega arith)) (λ e. ready.indexed)

  pub ready_after : (step : Step) (class : ℕ) → Ready p nodes updates stores instructions (table_after p instructions t step class)
  ready_after (Load source r) class = put_ready _ _ _ _ (omega arith)
  ready_after (Compute i) class = go (instruction_at instructions i)
    where
      go : (w : Option Instruction) → Ready p nodes updates stores instructions (result_table p t w class)
      go (Some instruction) = put_ready _ _ _ _ (omega arith)
      go None = ready
  ready_after (Spill slot r) class = put_ready _ _ _ _ (omega arith)
  ready_after (Reload slot r) class = put_ready _ _ _ _ (omega arith)
  ready_after (StoreState state r) class = put_ready _ _ _ _ (omega arith)
  ready_after (StoreDelay delay r) class = put_ready _ _ _ _ (omega arith)
  ready_after (StoreOutput r) class = put_ready _ _ _ _ (omega arith)
  ready_after (StoreControl slot r) class = put_ready _ _ _ _ (omega arith)
