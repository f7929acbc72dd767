-- For the graph of a valid block the walk passes exactly the lists that 01 says pass, `passes_exactly`, and refuses the others with 01's position, `refused_at`.
-- It holds before each step what 01 says, `held_exactly`. Of the whole call, for every block: `check_passes` and `check_refused_at`. Assumes nothing.
use Rattle.std.specs.Prelude.{◌≡◌, ◌↔◌, ◌⊎◌, Bool, ◌||◌, List, [], ◌∷◌, length, set, ltb, Option, Some, None}
use Rattle.std.proofs.Math.Path.{refl, sym, ap}
use Rattle.std.proofs.Common.{subst, ◌∙◌, eq-or-lt_of_le, le_of_suc-le-suc, not-suc-le-zero, length-set, get_or-set_same}
use Rattle.std.proofs.Math.Logic.{inl, inr}
use Rattle.std.proofs.Math.Bool.{true, false, cond, not}
use Prim.Native.Nat.{ℕ, zero, suc, ◌+◌, ◌-◌, ◌≤◌, ◌<◌}
use Rattle.std.proofs.Math.Decide.{dec_lt}
use native.Mathlib.Omega.{arith}
use Rattle.std.proofs.Math.ListN.{get_or}
use Rattle.std.proofs.Math.Seq.{get_or-set_other}
use Rattle.std.proofs.Math.Dec.{eqb}
use borrow.Author.Tests.{ltb-true, lt-ltb, eqb-true, eqb-false, eq-eqb, ne_eqb}
use Rattle.tables.specs.Tests.{◌&◌, &_both, &_true, true_false, clash, differs, differ_of, either, or_left, or_right}
use Rattle.tables.specs.Loops.{every, every_true, every_all}
use Rattle.tables.specs.Stores as tables
use Rattle.tables.specs.Zeros.{zeros_length, zeros_at}
use Rattle.answers.specs.Numbers.{Answer, accepted, refused}
use Rattle.answers.specs.Order.{◌⨾◌, refuse, refuse_at, in_order}
use Rattle.answers.specs.OrderLaws.{then_accepted, then_stop, then_pass, refuse_at_on, refuse_at_off, in_order_stop}
use Rattle.block.specs.declared.Kind.{Kind}
use Rattle.block.specs.Block.{Block, code, first, second}
use Rattle.block.specs.Kinds.{kind_of, operands_of}
use Rattle.block.specs.declared.Counts.{Counts}
use Rattle.block.specs.Validation.{counts_of, parameter_answer, words_answer, node_answer, state_answer, delay_answer, records_answer, validation}
use Rattle.block.specs.Valid.{valid}
use Rattle.expand.specs.Good.{GoodAs}
use Rattle.expand.specs.Graph.{Graph, graph_of}
use Rattle.expand.specs.GraphLaws.{GoodGraph, good_graph}
use Rattle.kernel.specs.declared.Source.{Source}
use Rattle.kernel.specs.declared.Step.{Step}
use Rattle.kernel.specs.declared.Step.TheVariants.{Load, Compute, Spill, Reload, StoreState, StoreDelay, StoreOutput, StoreControl}
use Rattle.kernel.specs.declared.Instruction.{Instruction}
use Rattle.kernel.specs.declared.Instruction.TheVariants.{Immediate, Add, Sub, Mul, Min, Max, Neg, Abs, IntegerSub}
use Rattle.kernel.specs.declared.Phase.{Phase}
use Rattle.kernel.specs.declared.Phase.TheVariants.{Control, Sample}
use Rattle.kernel.specs.declared.Kernel.{Kernel}
use Rattle.kernel.specs.Steps.{step_code, step_at, in_control, allowed_in}
use Rattle.kernel.specs.Instructions.{destination, instruction_at}
use Rattle.kernel.specs.declared.Sizes.{Sizes}
use Rattle.kernel.specs.Lists.{source_inside, index_inside, is_formed, computes_formed, step_may_run}
use Rattle.kernel.specs.ListLaws.{step_may_run_lem, SourceInside, Inside, inside_of, allowed_of, instruction_of}
use Rattle.classes.specs.Classes.{classes_to}
use Rattle.classes.specs.ClassLaws.{own_second, Same, Backward}
use Rattle.classes.specs.OneClass.{operands, good_backward, first_word, second_word, first_number, second_number, class_is_node, found_own, node_found}
use Rattle.checker.specs.Walk.{Listing, sizes_of, in_mask, instruction_in_mask, words_in_mask, step_in_mask, Held, register, class_of, fetched, unless_stored, loaded_class, result_of_two, result_of_one, computed_class, words_class, asked, moved_class, with_result, after_move, after_step, after_words, emptied, entered, walked, before_control, before_sample, output_only_last, step_passes, words_pass, control_passes, sample_passes, stored_if_asked, nothing_missing, control_answer, sample_answer, walk_answer}
use Rattle.checker.specs.Check.{Tables, listing_of, check_judged, check_call}
use Rattle.checker.specs.Passing.{count_of, total, position, before, StepAt, StoredBefore, All, InMask, instruction_reads, words_used, used, Holds, SomeNode, WordIs, OperandIs, OperandsAre, Loads, Computes, WordsCompute, Moves, CodeOf, StepSound, StoredOnce, Passes, Store, StepPasses, NothingMissing, PassBelow, PassBefore, Fails, step_fails, store_missing, HeldBefore, control_start, sample_start, next}

-- ---- registers in the mask

mask_says : (mask r : ℕ) → in_mask mask r ≡ true → InMask mask r
unfolding in_mask
mask_says mask r e = let (p, q) = &_both (ltb r 16) _ e in (ltb-true _ _ p, eqb-true _ _ q)

mask_is : (mask r : ℕ) → InMask mask r → in_mask mask r ≡ true
unfolding in_mask
mask_is mask r (p, q) = &_true _ _ (lt-ltb _ _ p) (eq-eqb _ _ q)

mask_two : (mask a b : ℕ) → (in_mask mask a & in_mask mask b) ≡ true → All (InMask mask) (a ∷ b ∷ [])
mask_two mask a b e = let (p, q) = &_both (in_mask mask a) _ e in (mask_says mask a p, (mask_says mask b q, tt))

mask_three : (mask a b c : ℕ) → (in_mask mask a & in_mask mask b & in_mask mask c) ≡ true → All (InMask mask) (a ∷ b ∷ c ∷ [])
mask_three mask a b c e = let (p, q) = &_both (in_mask mask a) _ e in (mask_says mask a p, mask_two mask b c q)

two_mask : (mask a b : ℕ) → All (InMask mask) (a ∷ b ∷ []) → (in_mask mask a & in_mask mask b) ≡ true
two_mask mask a b (p, (q, u)) = &_true _ _ (mask_is mask a p) (mask_is mask b q)

three_mask : (mask a b c : ℕ) → All (InMask mask) (a ∷ b ∷ c ∷ []) → (in_mask mask a & in_mask mask b & in_mask mask c) ≡ true
three_mask mask a b c (p, q) = &_true _ _ (mask_is mask a p) (two_mask mask b c q)

instruction_mask : (mask : ℕ) (x : Instruction) → instruction_in_mask mask x ≡ true → All (InMask mask) (destination x ∷ instruction_reads x)
instruction_mask mask (Immediate dst value) e = (mask_says mask dst e, tt)
instruction_mask mask (Add dst lhs rhs) e = mask_three mask dst lhs rhs e
instruction_mask mask (Sub dst lhs rhs) e = mask_three mask dst lhs rhs e
instruction_mask mask (Mul dst lhs rhs) e = mask_three mask dst lhs rhs e
instruction_mask mask (Min dst lhs rhs) e = mask_three mask dst lhs rhs e
instruction_mask mask (Max dst lhs rhs) e = mask_three mask dst lhs rhs e
instruction_mask mask (Neg dst src) e = mask_two mask dst src e
instruction_mask mask (Abs dst src) e = mask_two mask dst src e
instruction_mask mask (IntegerSub dst lhs rhs) e = mask_three mask dst lhs rhs e

mask_instruction : (mask : ℕ) (x : Instruction) → All (InMask mask) (destination x ∷ instruction_reads x) → instruction_in_mask mask x ≡ true
mask_instruction mask (Immediate dst value) (p, u) = mask_is mask dst p
mask_instruction mask (Add dst lhs rhs) a = three_mask mask dst lhs rhs a
mask_instruction mask (Sub dst lhs rhs) a = three_mask mask dst lhs rhs a
mask_instruction mask (Mul dst lhs rhs) a = three_mask mask dst lhs rhs a
mask_instruction mask (Min dst lhs rhs) a = three_mask mask dst lhs rhs a
mask_instruction mask (Max dst lhs rhs) a = three_mask mask dst lhs rhs a
mask_instruction mask (Neg dst src) a = two_mask mask dst src a
mask_instruction mask (Abs dst src) a = two_mask mask dst src a
mask_instruction mask (IntegerSub dst lhs rhs) a = three_mask mask dst lhs rhs a

words_mask : (mask : ℕ) (w : Option Instruction) → words_in_mask mask w ≡ true → All (InMask mask) (words_used w)
words_mask mask (Some x) e = instruction_mask mask x e
words_mask mask None e = tt

mask_words : (mask : ℕ) (w : Option Instruction) (x : Instruction) → w ≡ Some x → All (InMask mask) (words_used w) → words_in_mask mask w ≡ true
mask_words mask w x e a = rw e (mask_instruction mask x (rw e at a))

step_mask : (mask : ℕ) (instructions : List ℕ) (step : Step) → step_in_mask mask instructions step ≡ true → All (InMask mask) (used instructions step)
step_mask mask instructions (Load source r) e = (mask_says mask r e, tt)
step_mask mask instructions (Compute n) e = words_mask mask (instruction_at instructions n) e
step_mask mask instructions (Spill slot r) e = (mask_says mask r e, tt)
step_mask mask instructions (Reload slot r) e = (mask_says mask r e, tt)
step_mask mask instructions (StoreState state r) e = (mask_says mask r e, tt)
step_mask mask instructions (StoreDelay delay r) e = (mask_says mask r e, tt)
step_mask mask instructions (StoreOutput r) e = (mask_says mask r e, tt)
step_mask mask instructions (StoreControl slot r) e = (mask_says mask r e, tt)

-- what a compute step computes is an instruction
abbrev Computed : List ℕ → Step → Type 0
Computed instructions step =
    (n : ℕ) → step ≡ Compute n → (instruction : Instruction) × (instruction_at instructions n ≡ Some instruction)

mask_step : (mask : ℕ) (instructions : List ℕ) (step : Step) → Computed instructions step → All (InMask mask) (used instructions step)
    → step_in_mask mask instructions step ≡ true
mask_step mask instructions (Load source r) c (p, u) = mask_is mask r p
mask_step mask instructions (Compute n) c a = let (x, e) = c n refl in mask_words mask (instruction_at instructions n) x e a
mask_step mask instructions (Spill slot r) c (p, u) = mask_is mask r p
mask_step mask instructions (Reload slot r) c (p, u) = mask_is mask r p
mask_step mask instructions (StoreState state r) c (p, u) = mask_is mask r p
mask_step mask instructions (StoreDelay delay r) c (p, u) = mask_is mask r p
mask_step mask instructions (StoreOutput r) c (p, u) = mask_is mask r p
mask_step mask instructions (StoreControl slot r) c (p, u) = mask_is mask r p

-- ---- well formed, inside, allowed in its phase

formed_computes : (instructions : List ℕ) (step : Step) → Computed instructions step → computes_formed instructions step ≡ true
formed_computes instructions (Load source r) c = refl
formed_computes instructions (Compute n) c = let (x, e) = c n refl in ap is_formed e
formed_computes instructions (Spill slot r) c = refl
formed_computes instructions (Reload slot r) c = refl
formed_computes instructions (StoreState state r) c = refl
formed_computes instructions (StoreDelay delay r) c = refl
formed_computes instructions (StoreOutput r) c = refl
formed_computes instructions (StoreControl slot r) c = refl

inside_source : (n : Sizes) (source : Source) → SourceInside n source → source_inside n source ≡ true
inside_source n Source.Audio h = refl
inside_source n Source.Network h = refl
inside_source n (Source.Parameter index) h = lt-ltb _ _ h
inside_source n (Source.State index) h = lt-ltb _ _ h
inside_source n (Source.Delay index) h = lt-ltb _ _ h
inside_source n (Source.Control slot) h = lt-ltb _ _ h

inside_is : (n : Sizes) (step : Step) → Inside n step → index_inside n step ≡ true
inside_is n (Load source register) h = inside_source n source h
inside_is n (Compute instruction) h = lt-ltb _ _ h
inside_is n (Spill slot register) h = lt-ltb _ _ h
inside_is n (Reload slot register) h = lt-ltb _ _ h
inside_is n (StoreState state register) h = lt-ltb _ _ h
inside_is n (StoreDelay delay register) h = lt-ltb _ _ h
inside_is n (StoreOutput register) h = refl
inside_is n (StoreControl slot register) h = lt-ltb _ _ h

abbrev control_code : ℕ → Bool
control_code c = eqb c 3 || (eqb c 6 || (eqb c 7 || eqb c 13))

control_code_lem : (step : Step) → in_control step ≡ control_code (step_code step)
control_code_lem (Load Source.Audio r) = refl
control_code_lem (Load Source.Network r) = refl
control_code_lem (Load (Source.Parameter index) r) = refl
control_code_lem (Load (Source.State index) r) = refl
control_code_lem (Load (Source.Delay index) r) = refl
control_code_lem (Load (Source.Control slot) r) = refl
control_code_lem (Compute n) = refl
control_code_lem (Spill slot r) = refl
control_code_lem (Reload slot r) = refl
control_code_lem (StoreState state r) = refl
control_code_lem (StoreDelay delay r) = refl
control_code_lem (StoreOutput r) = refl
control_code_lem (StoreControl slot r) = refl

code_says : (c : ℕ) → control_code c ≡ true → CodeOf Control c
code_says c e = go (either _ _ e)
  where
    go_two : (eqb c 7 ≡ true) ⊎ (eqb c 13 ≡ true) → (c ≡ 7) ⊎ (c ≡ 13)
    go_two (inl p) = inl (eqb-true _ _ p)
    go_two (inr p) = inr (eqb-true _ _ p)

    go_three : (eqb c 6 ≡ true) ⊎ ((eqb c 7 || eqb c 13) ≡ true) → (c ≡ 6) ⊎ (c ≡ 7) ⊎ (c ≡ 13)
    go_three (inl p) = inl (eqb-true _ _ p)
    go_three (inr p) = inr (go_two (either _ _ p))

    go : (eqb c 3 ≡ true) ⊎ ((eqb c 6 || (eqb c 7 || eqb c 13)) ≡ true) → (c ≡ 3) ⊎ (c ≡ 6) ⊎ (c ≡ 7) ⊎ (c ≡ 13)
    go (inl p) = inl (eqb-true _ _ p)
    go (inr p) = inr (go_three (either _ _ p))

code_is : (c : ℕ) → CodeOf Control c → control_code c ≡ true
code_is c (inl p) = rw p
code_is c (inr (inl p)) = rw p
code_is c (inr (inr (inl p))) = rw p
code_is c (inr (inr (inr p))) = rw p

phase_says : (phase : Phase) (step : Step) → allowed_in phase step ≡ true → CodeOf phase (step_code step)
phase_says Control step e = code_says (step_code step) (sym (control_code_lem step) ∙ e)
phase_says Sample step e = differ_of (step_code step) 13 e

phase_is : (phase : Phase) (step : Step) → CodeOf phase (step_code step) → allowed_in phase step ≡ true
phase_is Control step h = control_code_lem step ∙ code_is (step_code step) h
phase_is Sample step h = differs (step_code step) 13 h

-- ---- a number that is not 0

more_says : (x : ℕ) → not (eqb x 0) ≡ true → (y : ℕ) × (x ≡ suc y)
more_says zero e = true_false (sym e)
more_says (suc y) e = (y, refl)

more_is : (x y : ℕ) → x ≡ suc y → not (eqb x 0) ≡ true
more_is x y e = differs x 0 (λ z. omega arith)

-- a class that is not barred by a store
unless_says : (stored class moved : ℕ) → unless_stored stored class ≡ suc moved → (stored ≡ 0) × (class ≡ suc moved)
unfolding unless_stored
unless_says zero class moved e = (refl, e)
unless_says (suc s) class moved e = let e = rw (ne_eqb (suc s) 0 (λ z. omega arith)) at e in absurd (omega arith)

unless_is : (stored class moved : ℕ) → stored ≡ 0 → class ≡ suc moved → unless_stored stored class ≡ suc moved
unfolding unless_stored
unless_is stored class moved z e = rw z e

-- ---- nodes that a step names

-- a word that is no operand and not the first is unused
good_second : (kind : Kind) (n : Counts) (k x y : ℕ) → GoodAs kind n k x y → operands_of kind ≤ 1 → y ≡ 0
good_second Kind.Source n k x y h l = h.1
good_second Kind.Constant n k x y h l = h
good_second Kind.Parameter n k x y h l = h.1
good_second Kind.State n k x y h l = h.1
good_second Kind.Delay n k x y h l = h.1
good_second Kind.Binary n k x y h l = absurd (omega arith)
good_second Kind.Divide n k x y h l = absurd h
good_second Kind.Unary n k x y h l = h.1
good_second Kind.Recip n k x y h l = absurd h
good_second Kind.Tanh n k x y h l = absurd h
good_second Kind.Sigmoid n k x y h l = absurd h
good_second Kind.Unknown n k x y h l = absurd h

module _ (n : Counts) (g : Graph) (good : GoodGraph n g) where
  abbrev classes : List ℕ
  classes = classes_to g.nodes g.count

  back : Backward g.nodes g.count
  back = good_backward n g good

  -- the class of the nodes of a code and two keys is the class of each of them
  class_found : (c x y class : ℕ) → class_of g c x y ≡ suc class → SomeNode g (Same g.nodes c x y) class
  class_found c x y class e =
      let (l, s, z) = (class_is_node g.nodes g.count back c x y class).0 e in
      (class, l, s, found_own g.nodes g.count back c x y class e)

  found_class : (c x y class : ℕ) → SomeNode g (Same g.nodes c x y) class → class_of g c x y ≡ suc class
  found_class c x y class (j, l, s, q) = node_found g.nodes g.count back c x y j l s ∙ ap suc q

  second_unused : (c j : ℕ) → j < g.count → code g.nodes j ≡ c → operands_of (kind_of c) ≤ 1 → own_second g.nodes j ≡ 0
  second_unused c j l e o =
      let o' : operands g.nodes j ≤ 1 = rw e o in
      second_word g.nodes j o' ∙ good_second (kind_of (code g.nodes j)) n j _ _ (good.nodes j l) o'

  -- of a code without operands
  node_moves : (c word class : ℕ) → operands_of (kind_of c) ≡ 0 → fetched g c word ≡ suc class → SomeNode g (WordIs g c word) class
  unfolding fetched
  node_moves c word class o e =
      let (j, l, k, q) = class_found c word 0 class e in
      let o' : operands g.nodes j ≡ 0 = rw k.code o in
      (j, l, (k.code, sym (first_word g.nodes j o') ∙ k.first), q)

  moves_node : (c word class : ℕ) → operands_of (kind_of c) ≡ 0 → SomeNode g (WordIs g c word) class → fetched g c word ≡ suc class
  unfolding fetched
  moves_node c word class o (j, l, (e, f), q) =
      let o' : operands g.nodes j ≡ 0 = rw e o in
      found_class c word 0 class
      (j, l, record { code = e; first = first_word g.nodes j o' ∙ f; second = second_unused c j l e (omega arith) }, q)

  module _ (h : Held) where
    -- of a code with one operand
    one_moves : (c src class : ℕ) → operands_of (kind_of c) ≡ 1 → result_of_one g c (register h src) ≡ suc class → SomeNode g (OperandIs g h c src) class
    unfolding result_of_one
    one_moves c src class o e = go (register h src) refl e
      where
        go : (x : ℕ) → register h src ≡ x → result_of_one g c x ≡ suc class → SomeNode g (OperandIs g h c src) class
        go zero p e = absurd (omega arith)
        go (suc x) p e =
            let (j, l, k, q) = class_found c x 0 class e in
            let o' : operands g.nodes j ≡ 1 = rw k.code o in
            (j, l, (k.code, p ∙ ap suc (sym k.first ∙ first_number g.nodes g.count back j l (omega arith))), q)

    moves_one : (c src class : ℕ) → operands_of (kind_of c) ≡ 1 → SomeNode g (OperandIs g h c src) class → result_of_one g c (register h src) ≡ suc class
    unfolding result_of_one
    moves_one c src class o (j, l, (e, p), q) =
        let o' : operands g.nodes j ≡ 1 = rw e o in
        rw p
        (found_class c (get_or classes (first g.nodes j) 0) 0 class
        (j, l, record { code = e; first = first_number g.nodes g.count back j l (omega arith); second = second_unused c j l e (omega arith) }, q))

    -- of a code with two operands
    two_moves : (c lhs rhs class : ℕ) → operands_of (kind_of c) ≡ 2 → result_of_two g c (register h lhs) (register h rhs) ≡ suc class
        → SomeNode g (OperandsAre g h c lhs rhs) class
    unfolding result_of_two
    two_moves c lhs rhs class o e = go (register h lhs) (register h rhs) refl refl e
      where
        go : (x y : ℕ) → register h lhs ≡ x → register h rhs ≡ y → result_of_two g c x y ≡ suc class → SomeNode g (OperandsAre g h c lhs rhs) class
        go zero y p q e = absurd (omega arith)
        go (suc x) zero p q e = absurd (omega arith)
        go (suc x) (suc y) p q e =
            let (j, l, k, z) = class_found c x y class e in
            let o' : operands g.nodes j ≡ 2 = rw k.code o in
            (j, l, (k.code, p ∙ ap suc (sym k.first ∙ first_number g.nodes g.count back j l (omega arith)), q ∙ ap suc (sym k.second ∙ second_number g.nodes g.count back j l (omega arith))), z)

    moves_two : (c lhs rhs class : ℕ) → operands_of (kind_of c) ≡ 2 → SomeNode g (OperandsAre g h c lhs rhs) class
        → result_of_two g c (register h lhs) (register h rhs) ≡ suc class
    unfolding result_of_two
    moves_two c lhs rhs class o (j, l, (e, p, q), z) =
        let o' : operands g.nodes j ≡ 2 = rw e o in
        rw (p, q)
        (found_class c (get_or classes (first g.nodes j) 0) (get_or classes (second g.nodes j) 0) class
        (j, l, record { code = e; first = first_number g.nodes g.count back j l (omega arith); second = second_number g.nodes g.count back j l (omega arith) }, z))

    -- an instruction's result
    result_moves : (x : Instruction) (class : ℕ) → computed_class g h x ≡ suc class → Computes g h x class
    unfolding kind_of fetched
    result_moves (Immediate dst value) class e = node_moves 1 value class refl e
    result_moves (Add dst lhs rhs) class e = two_moves 5 lhs rhs class refl e
    result_moves (Sub dst lhs rhs) class e = two_moves 6 lhs rhs class refl e
    result_moves (Mul dst lhs rhs) class e = two_moves 7 lhs rhs class refl e
    result_moves (Min dst lhs rhs) class e = two_moves 8 lhs rhs class refl e
    result_moves (Max dst lhs rhs) class e = two_moves 9 lhs rhs class refl e
    result_moves (Neg dst src) class e = one_moves 12 src class refl e
    result_moves (Abs dst src) class e = one_moves 13 src class refl e
    result_moves (IntegerSub dst lhs rhs) class e = two_moves 10 lhs rhs class refl e

    moves_result : (x : Instruction) (class : ℕ) → Computes g h x class → computed_class g h x ≡ suc class
    unfolding kind_of fetched
    moves_result (Immediate dst value) class m = moves_node 1 value class refl m
    moves_result (Add dst lhs rhs) class m = moves_two 5 lhs rhs class refl m
    moves_result (Sub dst lhs rhs) class m = moves_two 6 lhs rhs class refl m
    moves_result (Mul dst lhs rhs) class m = moves_two 7 lhs rhs class refl m
    moves_result (Min dst lhs rhs) class m = moves_two 8 lhs rhs class refl m
    moves_result (Max dst lhs rhs) class m = moves_two 9 lhs rhs class refl m
    moves_result (Neg dst src) class m = moves_one 12 src class refl m
    moves_result (Abs dst src) class m = moves_one 13 src class refl m
    moves_result (IntegerSub dst lhs rhs) class m = moves_two 10 lhs rhs class refl m

    -- what a load fetches
    load_moves : (s : Source) (class : ℕ) → loaded_class g h s ≡ suc class → Loads g h s class
    unfolding kind_of
    load_moves Source.Audio class e = node_moves 0 0 class refl e
    load_moves Source.Network class e = node_moves 17 0 class refl e
    load_moves (Source.Parameter index) class e = node_moves 2 index class refl e
    load_moves (Source.State index) class e = node_moves 3 index class refl (unless_says (get_or h.states_stored index 0) (fetched g 3 index) class e).1
    load_moves (Source.Delay index) class e = node_moves 4 index class refl (unless_says (get_or h.delays_stored index 0) (fetched g 4 index) class e).1
    load_moves (Source.Control slot) class e = e

    -- a memory is loaded where it has not been stored
    abbrev NotYet : Source → Type 0
    NotYet Source.Audio = Unit {0}
    NotYet Source.Network = Unit {0}
    NotYet (Source.Parameter index) = Unit {0}
    NotYet (Source.State index) = get_or h.states_stored index 0 ≡ 0
    NotYet (Source.Delay index) = get_or h.delays_stored index 0 ≡ 0
    NotYet (Source.Control slot) = Unit {0}

    moves_load : (s : Source) (class : ℕ) → NotYet s → Loads g h s class → loaded_class g h s ≡ suc class
    unfolding kind_of
    moves_load Source.Audio class z m = moves_node 0 0 class refl m
    moves_load Source.Network class z m = moves_node 17 0 class refl m
    moves_load (Source.Parameter index) class z m = moves_node 2 index class refl m
    moves_load (Source.State index) class z m = unless_is _ _ class z (moves_node 3 index class refl m)
    moves_load (Source.Delay index) class z m = unless_is _ _ class z (moves_node 4 index class refl m)
    moves_load (Source.Control slot) class z m = m

    -- what a store asks for
    asked_one : (node class moved : ℕ) → asked g (suc node) class ≡ suc moved → (class ≡ suc (get_or classes node 0)) × (class ≡ suc moved)
    unfolding asked
    asked_one node class moved e = go (eqb class (suc (get_or classes node 0))) refl e
      where
        go : (b : Bool) → eqb class (suc (get_or classes node 0)) ≡ b → cond b class 0 ≡ suc moved → (class ≡ suc (get_or classes node 0)) × (class ≡ suc moved)
        go true p e = (eqb-true _ _ p, e)
        go false p e = absurd (omega arith)

    asked_says : (update class moved : ℕ) → asked g update class ≡ suc moved
        → (node : ℕ) × (update ≡ suc node) × (class ≡ suc (get_or classes node 0)) × (class ≡ suc moved)
    unfolding asked
    asked_says zero class moved e = absurd (omega arith)
    asked_says (suc node) class moved e = let (p, q) = asked_one node class moved e in (node, refl, p, q)

    asked_is : (update class node : ℕ) → update ≡ suc node → class ≡ suc (get_or classes node 0) → asked g update class ≡ class
    unfolding asked
    asked_is update class node e f = rw (e, eq-eqb class (suc (get_or classes node 0)) f)

-- ---- what has been stored before a position

result_states : (h : Held) (w : Option Instruction) (class : ℕ) → (with_result h w class).states_stored ≡ h.states_stored
result_states h (Some x) class = refl
result_states h None class = refl

result_delays : (h : Held) (w : Option Instruction) (class : ℕ) → (with_result h w class).delays_stored ≡ h.delays_stored
result_delays h (Some x) class = refl
result_delays h None class = refl

result_output : (h : Held) (w : Option Instruction) (class : ℕ) → (with_result h w class).output_stored ≡ h.output_stored
result_output h (Some x) class = refl
result_output h None class = refl

-- words are a store of this kind
abbrev Hit : (ℕ → Step) → Option Step → Type 0
Hit store w = (r : ℕ) × (w ≡ Some (store r))

-- words by their code, one number for all loads
abbrev shape : Option Step → ℕ
shape (Some (Load source r)) = 1
shape (Some (Compute n)) = 7
shape (Some (Spill slot r)) = 8
shape (Some (Reload slot r)) = 9
shape (Some (StoreState s r)) = 10
shape (Some (StoreDelay d r)) = 11
shape (Some (StoreOutput r)) = 12
shape (Some (StoreControl slot r)) = 13
shape None = 0

-- a flag of what is held: a step of its kind sets it, and no other changes it
record Flag (l : Listing) (store : ℕ → Step) : Type 1 where
  pub flag : Held → ℕ
  pub Fit : Held → Type 0
  pub keep : (h : Held) (w : Option Step) → Fit h → Fit (after_words l h w)
  pub turn : (h : Held) (w : Option Step) → Fit h
      → (Hit store w × (flag (after_words l h w) ≡ 1)) ⊎ ((Hit store w → ⊥) × (flag (after_words l h w) ≡ flag h))
  pub fits : Fit (emptied l)
  pub starts : flag (emptied l) ≡ 0
  pub enters : (h : Held) → Fit h → Fit (entered l h)
  pub stays : (h : Held) → flag (entered l h) ≡ flag h

module _ (l : Listing) (store : ℕ → Step) (f : Flag l store) where
  abbrev HitIn : ℕ → ℕ → Type 0
  HitIn from n = (k : ℕ) × (k < n) × Hit store (step_at l.steps (from + k))

  walked_fit : (h : Held) (from n : ℕ) → f.Fit h → f.Fit (walked l h from n)
  unfolding walked
  walked_fit h from zero p = p
  walked_fit h from (suc n) p = f.keep (walked l h from n) (step_at l.steps (from + n)) (walked_fit h from n p)

  walked_flag : (h : Held) (from n : ℕ) → f.Fit h
      → (HitIn from n × (f.flag (walked l h from n) ≡ 1)) ⊎ ((HitIn from n → ⊥) × (f.flag (walked l h from n) ≡ f.flag h))
  unfolding walked
  walked_flag h from zero p = inr (λ (k, q, t). absurd (not-suc-le-zero q), refl)
  walked_flag h from (suc n) p = go (walked_flag h from n p) (f.turn _ (step_at l.steps (from + n)) (walked_fit h from n p))
    where
      now : Held
      now = after_words l (walked l h from n) (step_at l.steps (from + n))

      go : (HitIn from n × (f.flag (walked l h from n) ≡ 1)) ⊎ ((HitIn from n → ⊥) × (f.flag (walked l h from n) ≡ f.flag h))
          → (Hit store (step_at l.steps (from + n)) × (f.flag now ≡ 1))
          ⊎ ((Hit store (step_at l.steps (from + n)) → ⊥) × (f.flag now ≡ f.flag (walked l h from n)))
          → (HitIn from (suc n) × (f.flag now ≡ 1)) ⊎ ((HitIn from (suc n) → ⊥) × (f.flag now ≡ f.flag h))
      go a (inl (t, e)) = inl ((n, omega arith, t), e)
      go (inl ((k, q, t), e)) (inr (z, s)) = inl ((k, omega arith, t), s ∙ e)
      go (inr (y, e)) (inr (z, s)) = inr (λ (k, q, t). none k q t (eq-or-lt_of_le (le_of_suc-le-suc q)), s ∙ e)
        where
          none : (k : ℕ) → k < suc n → Hit store (step_at l.steps (from + k)) → (k ≡ n) ⊎ (k < n) → ⊥
          none k q t (inl i) = z (rw i at t)
          none k q t (inr i) = y (k, i, t)

  -- before step i of a phase the flag tells whether there was such a store
  abbrev Told : Phase → ℕ → Type 0
  Told phase i =
      (StoredBefore l store (position l phase i) × (f.flag (before l phase i) ≡ 1))
      ⊎ ((StoredBefore l store (position l phase i) → ⊥) × (f.flag (before l phase i) ≡ 0))

  told_control : (i : ℕ) → Told Control i
  told_control i = go (walked_flag (emptied l) 0 i f.fits)
    where
      from_zero : (k : ℕ) → 0 + k ≡ k
      from_zero k = omega arith

      go : (HitIn 0 i × (f.flag (before_control l i) ≡ 1)) ⊎ ((HitIn 0 i → ⊥) × (f.flag (before_control l i) ≡ f.flag (emptied l))) → Told Control i
      go (inl ((k, q, (r, t)), e)) = inl ((k, r, q, rw (from_zero k) at t), e)
      go (inr (z, e)) = inr (λ (k, r, q, t). z (k, q, (r, rw (from_zero k) t)), e ∙ f.starts)

  told_sample : (i : ℕ) → Told Sample i
  told_sample i =
      go (told_control l.kernel.control)
      (walked_flag (entered l (before_control l l.kernel.control)) l.kernel.control i
      (f.enters (before_control l l.kernel.control) (walked_fit (emptied l) 0 l.kernel.control f.fits)))
    where
      start : Held
      start = entered l (before_control l l.kernel.control)

      go : Told Control l.kernel.control
          → (HitIn l.kernel.control i × (f.flag (before_sample l i) ≡ 1)) ⊎ ((HitIn l.kernel.control i → ⊥) × (f.flag (before_sample l i) ≡ f.flag start))
          → Told Sample i
      go c (inl ((k, q, (r, t)), e)) = inl ((l.kernel.control + k, r, omega arith, t), e)
      go (inl ((k, r, q, t), e)) (inr (z, s)) = inl ((k, r, omega arith, t), s ∙ f.stays (before_control l l.kernel.control) ∙ e)
      go (inr (y, e)) (inr (z, s)) =
          inr (λ (k, r, q, t). none k r q t (dec_lt k l.kernel.control), s ∙ f.stays (before_control l l.kernel.control) ∙ e)
        where
          none : (k r : ℕ) → k < l.kernel.control + i → StepAt l k (store r) → Dec (k < l.kernel.control) → ⊥
          none k r q t (yes b) = y (k, r, b, t)
          none k r q t (no b) =
              let w : k ≡ l.kernel.control + (k - l.kernel.control) = omega arith in
              z (k - l.kernel.control, omega arith, (r, rw (← w) t))

  told : (phase : Phase) (i : ℕ) → Told phase i
  told Control i = told_control i
  told Sample i = told_sample i

  -- not stored before, and stored before
  not_stored : (phase : Phase) (i : ℕ) → f.flag (before l phase i) ≡ 0 → StoredBefore l store (position l phase i) → ⊥
  not_stored phase i e s = go (told phase i)
    where
      go : Told phase i → ⊥
      go (inl (t, q)) = omega arith
      go (inr (t, q)) = t s

  flag_clear : (phase : Phase) (i : ℕ) → (StoredBefore l store (position l phase i) → ⊥) → f.flag (before l phase i) ≡ 0
  flag_clear phase i z = go (told phase i)
    where
      go : Told phase i → f.flag (before l phase i) ≡ 0
      go (inl (t, q)) = absurd (z t)
      go (inr (t, q)) = q

  is_stored : (phase : Phase) (i : ℕ) → not (eqb (f.flag (before l phase i)) 0) ≡ true → StoredBefore l store (position l phase i)
  is_stored phase i e = go (told phase i)
    where
      go : Told phase i → StoredBefore l store (position l phase i)
      go (inl (t, q)) = t
      go (inr (t, q)) = absurd (differ_of _ 0 e q)

  flag_set : (phase : Phase) (i : ℕ) → StoredBefore l store (position l phase i) → not (eqb (f.flag (before l phase i)) 0) ≡ true
  flag_set phase i s = go (told phase i)
    where
      go : Told phase i → not (eqb (f.flag (before l phase i)) 0) ≡ true
      go (inl (t, q)) = more_is _ 0 q
      go (inr (t, q)) = absurd (t s)

-- other words are no such store
other : {store : ℕ → Step} {w : Option Step} (c : ℕ) → ((r : ℕ) → shape (Some (store r)) ≡ c) → (shape w ≡ c → ⊥) → Hit store w → ⊥
other c s z (r, e) = z (ap shape e ∙ s r)

module _ (l : Listing) where
  states_keep : (s : ℕ) (h : Held) (w : Option Step) → s < length h.states_stored → s < length (after_words l h w).states_stored
  unfolding after_step
  states_keep s h (Some (Load source r)) p = p
  states_keep s h (Some (Compute n)) p = rw (result_states h (instruction_at l.instructions n)) p
  states_keep s h (Some (Spill slot r)) p = p
  states_keep s h (Some (Reload slot r)) p = p
  states_keep s h (Some (StoreState t r)) p = rw (length-set h.states_stored t 1) p
  states_keep s h (Some (StoreDelay d r)) p = p
  states_keep s h (Some (StoreOutput r)) p = p
  states_keep s h (Some (StoreControl slot r)) p = p
  states_keep s h None p = p

  states_turn : (s : ℕ) (h : Held) (w : Option Step) → s < length h.states_stored
      → (Hit (StoreState s) w × (get_or (after_words l h w).states_stored s 0 ≡ 1)) ⊎ ((Hit (StoreState s) w → ⊥) × (get_or (after_words l h w).states_stored s 0 ≡ get_or h.states_stored s 0))
  unfolding after_step
  states_turn s h (Some (Load source r)) p = inr (other 10 (λ q. refl) (λ z. omega arith), refl)
  states_turn s h (Some (Compute n)) p =
      inr (other 10 (λ q. refl) (λ z. omega arith), rw (result_states h (instruction_at l.instructions n)))
  states_turn s h (Some (Spill slot r)) p = inr (other 10 (λ q. refl) (λ z. omega arith), refl)
  states_turn s h (Some (Reload slot r)) p = inr (other 10 (λ q. refl) (λ z. omega arith), refl)
  states_turn s h (Some (StoreState t r)) p = go (eqb s t) refl
    where
      go : (b : Bool) → eqb s t ≡ b
          → (Hit (StoreState s) (Some (StoreState t r)) × (get_or (set h.states_stored t 1) s 0 ≡ 1))
          ⊎ ((Hit (StoreState s) (Some (StoreState t r)) → ⊥) × (get_or (set h.states_stored t 1) s 0 ≡ get_or h.states_stored s 0))
      go true e = let q = eqb-true s t e in inl ((r, rw q), rw q (get_or-set_same h.states_stored t 1 0 (rw (← q) p)))
      go false e = inr (λ (u, q). eqb-false s t e cc, get_or-set_other h.states_stored t s 1 0 (eqb-false s t e))
  states_turn s h (Some (StoreDelay d r)) p = inr (other 10 (λ q. refl) (λ z. omega arith), refl)
  states_turn s h (Some (StoreOutput r)) p = inr (other 10 (λ q. refl) (λ z. omega arith), refl)
  states_turn s h (Some (StoreControl slot r)) p = inr (other 10 (λ q. refl) (λ z. omega arith), refl)
  states_turn s h None p = inr (other 10 (λ q. refl) (λ z. omega arith), refl)

  states_fit : (s : ℕ) → s < length l.graph.state_updates → s < length (emptied l).states_stored
  unfolding emptied
  states_fit s p = rw (zeros_length (length l.graph.state_updates)) p

  states_start : (s : ℕ) → get_or (emptied l).states_stored s 0 ≡ 0
  unfolding emptied
  states_start s = zeros_at (length l.graph.state_updates) s

  states_enter : (h : Held) → (entered l h).states_stored ≡ h.states_stored
  unfolding entered
  states_enter h = refl

  abbrev state_flag : (s : ℕ) → s < length l.graph.state_updates → Flag l (StoreState s)
  state_flag s p =
      record {
        flag = λ h. get_or h.states_stored s 0;
        Fit = λ h. s < length h.states_stored;
        keep = states_keep s;
        turn = states_turn s;
        fits = states_fit s p;
        starts = states_start s;
        enters = λ h q. rw (states_enter h) q;
        stays = λ h. rw (states_enter h);
      }

  delays_keep : (d : ℕ) (h : Held) (w : Option Step) → d < length h.delays_stored → d < length (after_words l h w).delays_stored
  unfolding after_step
  delays_keep d h (Some (Load source r)) p = p
  delays_keep d h (Some (Compute n)) p = rw (result_delays h (instruction_at l.instructions n)) p
  delays_keep d h (Some (Spill slot r)) p = p
  delays_keep d h (Some (Reload slot r)) p = p
  delays_keep d h (Some (StoreDelay t r)) p = rw (length-set h.delays_stored t 1) p
  delays_keep d h (Some (StoreState t r)) p = p
  delays_keep d h (Some (StoreOutput r)) p = p
  delays_keep d h (Some (StoreControl slot r)) p = p
  delays_keep d h None p = p

  delays_turn : (d : ℕ) (h : Held) (w : Option Step) → d < length h.delays_stored
      → (Hit (StoreDelay d) w × (get_or (after_words l h w).delays_stored d 0 ≡ 1)) ⊎ ((Hit (StoreDelay d) w → ⊥) × (get_or (after_words l h w).delays_stored d 0 ≡ get_or h.delays_stored d 0))
  unfolding after_step
  delays_turn d h (Some (Load source r)) p = inr (other 11 (λ q. refl) (λ z. omega arith), refl)
  delays_turn d h (Some (Compute n)) p =
      inr (other 11 (λ q. refl) (λ z. omega arith), rw (result_delays h (instruction_at l.instructions n)))
  delays_turn d h (Some (Spill slot r)) p = inr (other 11 (λ q. refl) (λ z. omega arith), refl)
  delays_turn d h (Some (Reload slot r)) p = inr (other 11 (λ q. refl) (λ z. omega arith), refl)
  delays_turn d h (Some (StoreDelay t r)) p = go (eqb d t) refl
    where
      go : (b : Bool) → eqb d t ≡ b
          → (Hit (StoreDelay d) (Some (StoreDelay t r)) × (get_or (set h.delays_stored t 1) d 0 ≡ 1))
          ⊎ ((Hit (StoreDelay d) (Some (StoreDelay t r)) → ⊥) × (get_or (set h.delays_stored t 1) d 0 ≡ get_or h.delays_stored d 0))
      go true e = let q = eqb-true d t e in inl ((r, rw q), rw q (get_or-set_same h.delays_stored t 1 0 (rw (← q) p)))
      go false e = inr (λ (u, q). eqb-false d t e cc, get_or-set_other h.delays_stored t d 1 0 (eqb-false d t e))
  delays_turn d h (Some (StoreState t r)) p = inr (other 11 (λ q. refl) (λ z. omega arith), refl)
  delays_turn d h (Some (StoreOutput r)) p = inr (other 11 (λ q. refl) (λ z. omega arith), refl)
  delays_turn d h (Some (StoreControl slot r)) p = inr (other 11 (λ q. refl) (λ z. omega arith), refl)
  delays_turn d h None p = inr (other 11 (λ q. refl) (λ z. omega arith), refl)

  delays_fit : (d : ℕ) → d < length l.graph.delay_updates → d < length (emptied l).delays_stored
  unfolding emptied
  delays_fit d p = rw (zeros_length (length l.graph.delay_updates)) p

  delays_start : (d : ℕ) → get_or (emptied l).delays_stored d 0 ≡ 0
  unfolding emptied
  delays_start d = zeros_at (length l.graph.delay_updates) d

  delays_enter : (h : Held) → (entered l h).delays_stored ≡ h.delays_stored
  unfolding entered
  delays_enter h = refl

  abbrev delay_flag : (d : ℕ) → d < length l.graph.delay_updates → Flag l (StoreDelay d)
  delay_flag d p =
      record {
        flag = λ h. get_or h.delays_stored d 0;
        Fit = λ h. d < length h.delays_stored;
        keep = delays_keep d;
        turn = delays_turn d;
        fits = delays_fit d p;
        starts = delays_start d;
        enters = λ h q. rw (delays_enter h) q;
        stays = λ h. rw (delays_enter h);
      }

  output_turn : (h : Held) (w : Option Step) → Unit {0}
      → (Hit StoreOutput w × ((after_words l h w).output_stored ≡ 1)) ⊎ ((Hit StoreOutput w → ⊥) × ((after_words l h w).output_stored ≡ h.output_stored))
  unfolding after_step
  output_turn h (Some (Load source r)) u = inr (other 12 (λ q. refl) (λ z. omega arith), refl)
  output_turn h (Some (Compute n)) u =
      inr (other 12 (λ q. refl) (λ z. omega arith), result_output h (instruction_at l.instructions n) _)
  output_turn h (Some (Spill slot r)) u = inr (other 12 (λ q. refl) (λ z. omega arith), refl)
  output_turn h (Some (Reload slot r)) u = inr (other 12 (λ q. refl) (λ z. omega arith), refl)
  output_turn h (Some (StoreState s r)) u = inr (other 12 (λ q. refl) (λ z. omega arith), refl)
  output_turn h (Some (StoreDelay d r)) u = inr (other 12 (λ q. refl) (λ z. omega arith), refl)
  output_turn h (Some (StoreOutput r)) u = inl ((r, refl), refl)
  output_turn h (Some (StoreControl slot r)) u = inr (other 12 (λ q. refl) (λ z. omega arith), refl)
  output_turn h None u = inr (other 12 (λ q. refl) (λ z. omega arith), refl)

  output_start : (emptied l).output_stored ≡ 0
  unfolding emptied
  output_start = refl

  output_enter : (h : Held) → (entered l h).output_stored ≡ h.output_stored
  unfolding entered
  output_enter h = refl

  abbrev output_flag : Flag l StoreOutput
  output_flag =
      record { flag = λ h. h.output_stored; Fit = λ h. Unit {0}; keep = λ h w u. u; turn = output_turn; fits = tt; starts = output_start; enters = λ h u. u; stays = output_enter }

-- ---- one step

-- the test of step i of a phase
abbrev pub last_of : Listing → Phase → ℕ → Bool
last_of l Control i = false
last_of l Sample i = eqb (suc i) l.kernel.sample

abbrev pub passes_at : Listing → Phase → ℕ → Bool
passes_at l phase i = words_pass l phase (last_of l phase i) (before l phase i) (step_at l.steps (position l phase i))

last_says : (l : Listing) (phase : Phase) (i : ℕ) → last_of l phase i ≡ true → suc (position l phase i) ≡ total l
last_says l Control i e = true_false (sym e)
last_says l Sample i e = let q = eqb-true (suc i) l.kernel.sample e in omega arith

module _ (l : Listing) (n : Counts) (good : GoodGraph n l.graph) where
  words_move : (h : Held) (w : Option Instruction) (class : ℕ) → words_class l.graph h w ≡ suc class → WordsCompute l.graph h w class
  words_move h (Some x) class e = result_moves n l.graph good h x class e
  words_move h None class e = absurd (omega arith)

  -- what the walk finds is what the step moves
  moved_moves : (h : Held) (step : Step) (class : ℕ) → moved_class l.graph l.instructions h step ≡ suc class
      → Moves l.graph l.instructions h step class
  moved_moves h (Load source r) class e = load_moves n l.graph good h source class e
  moved_moves h (Compute k) class e = words_move h (instruction_at l.instructions k) class e
  moved_moves h (Spill slot r) class e = e
  moved_moves h (Reload slot r) class e = e
  moved_moves h (StoreState s r) class e =
      let (node, u, c, q) = asked_says n l.graph good h _ _ class (unless_says _ _ class e).1 in q
  moved_moves h (StoreDelay d r) class e =
      let (node, u, c, q) = asked_says n l.graph good h _ _ class (unless_says _ _ class e).1 in q
  moved_moves h (StoreOutput r) class e = (asked_one n l.graph good h _ _ class e).1
  moved_moves h (StoreControl slot r) class e = e

  step_parts : (phase : Phase) (i : ℕ) (step : Step) (class : ℕ) → StepAt l (position l phase i) step
      → step_may_run (sizes_of l) l.instructions phase step ≡ true → step_in_mask l.mask l.instructions step ≡ true
      → output_only_last (last_of l phase i) step ≡ true → moved_class l.graph l.instructions (before l phase i) step ≡ suc class → StepPasses l phase i
  step_parts phase i step class p m k o v =
      let run = step_may_run_lem (sizes_of l) l.instructions phase step m in
      record {
        sound =
            record {
              step = step;
              formed = p;
              computed = λ c f. instruction_of run c (ap Some f);
              in_mask_lem = step_mask l.mask l.instructions step k;
              inside = inside_of run step refl;
              in_phase = phase_says phase step (allowed_of run step refl);
              moves = (class, moved_moves (before l phase i) step class v);
            };
        state_store =
            λ s r t.
            let f : step ≡ StoreState s r = cc in
            let (z, a) = unless_says (get_or (before l phase i).states_stored s 0) _ class (rw f at v) in
            let (node, u, c, q) = asked_says n l.graph good (before l phase i) (get_or l.graph.state_updates s 0) (register (before l phase i) r) class a in
            record { node = node; update_is = u; class = c; once = not_stored l (StoreState s) (state_flag l s (inside_of run (StoreState s r) (ap Some f))) phase i z };
        delay_store =
            λ d r t.
            let f : step ≡ StoreDelay d r = cc in
            let (z, a) = unless_says (get_or (before l phase i).delays_stored d 0) _ class (rw f at v) in
            let (node, u, c, q) = asked_says n l.graph good (before l phase i) (get_or l.graph.delay_updates d 0) (register (before l phase i) r) class a in
            record { node = node; update_is = u; class = c; once = not_stored l (StoreDelay d) (delay_flag l d (inside_of run (StoreDelay d r) (ap Some f))) phase i z };
        state_load =
            λ s r t.
            let f : step ≡ Load (Source.State s) r = cc in
            let (z, a) = unless_says (get_or (before l phase i).states_stored s 0) _ class (rw f at v) in
            not_stored l (StoreState s) (state_flag l s (inside_of run (Load (Source.State s) r) (ap Some f))) phase i z;
        delay_load =
            λ d r t.
            let f : step ≡ Load (Source.Delay d) r = cc in
            let (z, a) = unless_says (get_or (before l phase i).delays_stored d 0) _ class (rw f at v) in
            not_stored l (StoreDelay d) (delay_flag l d (inside_of run (Load (Source.Delay d) r) (ap Some f))) phase i z;
        output_store =
            λ r t.
            let f : step ≡ StoreOutput r = cc in
            (last_says l phase i (rw f at o), (asked_one n l.graph good (before l phase i) l.graph.output (register (before l phase i) r) class (rw f at v)).0);
      }

  step_says : (phase : Phase) (i : ℕ) (step : Step) → StepAt l (position l phase i) step → step_passes l phase (last_of l phase i) (before l phase i) step ≡ true
      → StepPasses l phase i
  unfolding step_passes
  step_says phase i step p e =
      let (m, e₁) = &_both (step_may_run (sizes_of l) l.instructions phase step) _ e in
      let (k, e₂) = &_both (step_in_mask l.mask l.instructions step) _ e₁ in
      let (o, e₃) = &_both (output_only_last (last_of l phase i) step) _ e₂ in
      let (class, v) = more_says (moved_class l.graph l.instructions (before l phase i) step) e₃ in
      step_parts phase i step class p m k o v

  -- and back: the step that passes, by its kind
  not_yet : (phase : Phase) (i : ℕ) (p : StepPasses l phase i) (s : Source) (r : ℕ) → p.sound.step ≡ Load s r → NotYet n l.graph good (before l phase i) s
  not_yet phase i p Source.Audio r e = tt
  not_yet phase i p Source.Network r e = tt
  not_yet phase i p (Source.Parameter index) r e = tt
  not_yet phase i p (Source.State s) r e =
      let inside : s < length l.graph.state_updates = subst (Inside (sizes_of l)) e p.sound.inside in
      flag_clear l (StoreState s) (state_flag l s inside) phase i (p.state_load s r (p.sound.formed ∙ ap Some e))
  not_yet phase i p (Source.Delay d) r e =
      let inside : d < length l.graph.delay_updates = subst (Inside (sizes_of l)) e p.sound.inside in
      flag_clear l (StoreDelay d) (delay_flag l d inside) phase i (p.delay_load d r (p.sound.formed ∙ ap Some e))
  not_yet phase i p (Source.Control slot) r e = tt

  -- the walk finds what a step that passes moves
  moves_moved : (phase : Phase) (i : ℕ) (p : StepPasses l phase i) (step : Step) (class : ℕ) → p.sound.step ≡ step
      → Moves l.graph l.instructions (before l phase i) step class → moved_class l.graph l.instructions (before l phase i) step ≡ suc class
  moves_moved phase i p (Load s r) class e m = moves_load n l.graph good (before l phase i) s class (not_yet phase i p s r e) m
  moves_moved phase i p (Compute k) class e m =
      let (x, q) = p.sound.computed k e in
      rw q (moves_result n l.graph good (before l phase i) x class (rw q at m))
  moves_moved phase i p (Spill slot r) class e m = m
  moves_moved phase i p (Reload slot r) class e m = m
  moves_moved phase i p (StoreState s r) class e m =
      let inside : s < length l.graph.state_updates = subst (Inside (sizes_of l)) e p.sound.inside in
      let q = p.state_store s r (p.sound.formed ∙ ap Some e) in
      unless_is _ _ class (flag_clear l (StoreState s) (state_flag l s inside) phase i q.once)
      (asked_is n l.graph good (before l phase i) _ _ q.node q.update_is q.class ∙ m)
  moves_moved phase i p (StoreDelay d r) class e m =
      let inside : d < length l.graph.delay_updates = subst (Inside (sizes_of l)) e p.sound.inside in
      let q = p.delay_store d r (p.sound.formed ∙ ap Some e) in
      unless_is _ _ class (flag_clear l (StoreDelay d) (delay_flag l d inside) phase i q.once)
      (asked_is n l.graph good (before l phase i) _ _ q.node q.update_is q.class ∙ m)
  moves_moved phase i p (StoreOutput r) class e m =
      asked_is n l.graph good (before l phase i) _ _ l.graph.output refl (p.output_store r (p.sound.formed ∙ ap Some e)).1 ∙ m
  moves_moved phase i p (StoreControl slot r) class e m = m

  -- an output store of a phase that allows it is the last step
  last_is : (phase : Phase) (i : ℕ) → CodeOf phase 12 → suc (position l phase i) ≡ total l → last_of l phase i ≡ true
  last_is Control i c e = true_false (sym (code_is 12 c))
  last_is Sample i c e = eq-eqb (suc i) l.kernel.sample (omega arith)

  output_is : (phase : Phase) (i : ℕ) (p : StepPasses l phase i) (step : Step) → p.sound.step ≡ step → output_only_last (last_of l phase i) step ≡ true
  output_is phase i p (Load source r) e = refl
  output_is phase i p (Compute k) e = refl
  output_is phase i p (Spill slot r) e = refl
  output_is phase i p (Reload slot r) e = refl
  output_is phase i p (StoreState s r) e = refl
  output_is phase i p (StoreDelay d r) e = refl
  output_is phase i p (StoreOutput r) e =
      last_is phase i (subst (λ (t : Step). CodeOf phase (step_code t)) e p.sound.in_phase)
      (p.output_store r (p.sound.formed ∙ ap Some e)).0
  output_is phase i p (StoreControl slot r) e = refl

  step_is : (phase : Phase) (i : ℕ) (p : StepPasses l phase i) → step_passes l phase (last_of l phase i) (before l phase i) p.sound.step ≡ true
  unfolding step_passes step_may_run
  step_is phase i p =
      let s = p.sound in
      &_true _ _
      (&_true _ _ (phase_is phase s.step s.in_phase) (&_true _ _ (inside_is (sizes_of l) s.step s.inside) (formed_computes l.instructions s.step s.computed)))
      (&_true _ _ (mask_step l.mask l.instructions s.step s.computed s.in_mask_lem)
      (&_true _ _ (output_is phase i p s.step refl) (let (class, m) = s.moves in more_is _ class (moves_moved phase i p s.step class refl m))))

  -- THE TEST OF A STEP IS WHAT 01 ASKS OF IT
  pub step_exactly : (phase : Phase) (i : ℕ) → passes_at l phase i ≡ true ↔ StepPasses l phase i
  step_exactly phase i = (λ e. go (step_at l.steps (position l phase i)) refl e, λ p. ap (words_pass l phase (last_of l phase i) (before l phase i)) p.sound.formed ∙ step_is phase i p)
    where
      go : (w : Option Step) → step_at l.steps (position l phase i) ≡ w → words_pass l phase (last_of l phase i) (before l phase i) w ≡ true → StepPasses l phase i
      go (Some step) p e = step_says phase i step p e
      go None p e = true_false (sym e)

-- ---- nothing is missing

module _ (l : Listing) where
  asked_stored : (updates stored : List ℕ) (i : ℕ) → stored_if_asked updates stored i ≡ true → (n : ℕ) → get_or updates i 0 ≡ suc n → not (eqb (get_or stored i 0) 0) ≡ true
  unfolding stored_if_asked
  asked_stored updates stored i e n u = go (either _ _ e)
    where
      go : (eqb (get_or updates i 0) 0 ≡ true) ⊎ (not (eqb (get_or stored i 0) 0) ≡ true) → not (eqb (get_or stored i 0) 0) ≡ true
      go (inl z) = absurd (omega (arith, eqb-true (get_or updates i 0) 0 z))
      go (inr q) = q

  stored_asked : (updates stored : List ℕ) (i : ℕ) → ((n : ℕ) → get_or updates i 0 ≡ suc n → not (eqb (get_or stored i 0) 0) ≡ true)
      → stored_if_asked updates stored i ≡ true
  unfolding stored_if_asked
  stored_asked updates stored i f = go (get_or updates i 0) refl
    where
      go : (u : ℕ) → get_or updates i 0 ≡ u → (eqb (get_or updates i 0) 0 || not (eqb (get_or stored i 0) 0)) ≡ true
      go zero e = or_left (eqb (get_or updates i 0) 0) (not (eqb (get_or stored i 0) 0)) (eq-eqb (get_or updates i 0) 0 e)
      go (suc n) e = or_right (eqb (get_or updates i 0) 0) (not (eqb (get_or stored i 0) 0)) (f n e)

  -- an update stands in its table
  updated_inside : (updates : List ℕ) (i n : ℕ) → get_or updates i 0 ≡ suc n → i < length updates
  updated_inside updates i n e = tables.inside updates i (omega arith)

  pub missing_exactly : nothing_missing l (before_sample l l.kernel.sample) ≡ true ↔ NothingMissing l
  unfolding nothing_missing
  missing_exactly = (says, back)
    where
      end : Held
      end = before_sample l l.kernel.sample

      says : nothing_missing l end ≡ true → NothingMissing l
      says e =
          let (s, r) = &_both (every (stored_if_asked l.graph.state_updates end.states_stored) (length l.graph.state_updates)) _ e in
          let (d, o) = &_both (every (stored_if_asked l.graph.delay_updates end.delays_stored) (length l.graph.delay_updates)) _ r in
          record {
            states =
                λ i n u.
                let q = updated_inside l.graph.state_updates i n u in
                is_stored l (StoreState i) (state_flag l i q) Sample l.kernel.sample (asked_stored _ _ i (every_true _ _ s i q) n u);
            delays =
                λ i n u.
                let q = updated_inside l.graph.delay_updates i n u in
                is_stored l (StoreDelay i) (delay_flag l i q) Sample l.kernel.sample (asked_stored _ _ i (every_true _ _ d i q) n u);
            output = is_stored l StoreOutput (output_flag l) Sample l.kernel.sample o;
          }

      back : NothingMissing l → nothing_missing l end ≡ true
      back m =
          &_true _ _
          (every_all _ _
          (λ i q. stored_asked _ _ i (λ n u. flag_set l (StoreState i) (state_flag l i q) Sample l.kernel.sample (m.states i n u))))
          (&_true _ _
          (every_all _ _
          (λ i q. stored_asked _ _ i (λ n u. flag_set l (StoreDelay i) (delay_flag l i q) Sample l.kernel.sample (m.delays i n u))))
          (flag_set l StoreOutput (output_flag l) Sample l.kernel.sample m.output))

-- ---- the list, from its steps and back

-- every step passes and no store is missing
pub record AllPass (l : Listing) : Type 0 where
  pub each : (phase : Phase) (i : ℕ) → i < count_of l phase → StepPasses l phase i
  pub end : NothingMissing l

no_code : (c : ℕ) → control_code c ≡ false → CodeOf Control c → ⊥
no_code c z h = true_false (sym (code_is c h) ∙ z)

module _ (l : Listing) where
  -- a position has one step
  one_step : (p : ℕ) (a b : Step) → StepAt l p a → StepAt l p b → a ≡ b
  one_step p a b e f = cc

  -- a step that control bars is no control step
  control_bars : (i : ℕ) (step : Step) → StepSound l Control i → control_code (step_code step) ≡ false → StepAt l i step → ⊥
  control_bars i step s z t =
      no_code (step_code step) z (subst (λ (x : Step). CodeOf Control (step_code x)) (one_step i s.step step s.formed t) s.in_phase)

module _ (l : Listing) (sound : (i : ℕ) → i < l.kernel.control → StepSound l Control i) (store : ℕ → Step) (barred : (r : ℕ) → control_code (step_code (store r)) ≡ false) where
  -- .. so it is a sample step
  in_sample_phase : (k r : ℕ) → k < total l → StepAt l k (store r) → (j : ℕ) × (j < l.kernel.sample) × (k ≡ l.kernel.control + j)
  in_sample_phase k r q t = go (dec_lt k l.kernel.control)
    where
      go : Dec (k < l.kernel.control) → (j : ℕ) × (j < l.kernel.sample) × (k ≡ l.kernel.control + j)
      go (yes b) = absurd (control_bars l k (store r) (sound k b) (barred r) t)
      go (no b) = (k - l.kernel.control, omega arith, omega arith)

  module _ (load : Source) (update : ℕ) where
    abbrev StoresPass : Type 0
    StoresPass = (i r : ℕ) → i < l.kernel.sample → StepAt l (position l Sample i) (store r) → Store l Sample i store update r

    abbrev LoadsPass : Type 0
    LoadsPass =
        (i r : ℕ) → i < l.kernel.sample → StepAt l (position l Sample i) (Load load r) → StoredBefore l store (position l Sample i) → ⊥

    once_from : StoresPass → LoadsPass → (n : ℕ) → update ≡ suc n → StoredBefore l store (total l) → StoredOnce l store load n
    once_from stores loads n u (k, r, q, t) = go (in_sample_phase k r q t)
      where
        go : (j : ℕ) × (j < l.kernel.sample) × (k ≡ l.kernel.control + j) → StoredOnce l store load n
        go (j, b, e) =
            record {
              place = j;
              register = r;
              in_list = b;
              stored = here;
              once = λ k' r' b' t'. only k' r' b' t' (dec_lt k' j) (dec_lt j k');
              class = (stores j r b here).class ∙ ap (λ (x : ℕ). suc (get_or (classes_to l.graph.nodes l.graph.count) x 0)) node_is;
              not_loaded = λ k' r' m b' t'. loads k' r' b' t' (l.kernel.control + j, r, omega arith, here);
            }
          where
            here : StepAt l (l.kernel.control + j) (store r)
            here = rw (← e) t

            node_is : (stores j r b here).node ≡ n
            node_is = omega (arith, (stores j r b here).update_is, u)

            only : (k' r' : ℕ) → k' < l.kernel.sample → StepAt l (position l Sample k') (store r') → Dec (k' < j) → Dec (j < k') → k' ≡ j
            only k' r' b' t' (yes m) d = absurd ((stores j r b here).once (l.kernel.control + k', r', omega arith, t'))
            only k' r' b' t' (no m) (yes m') = absurd ((stores k' r' b' t').once (l.kernel.control + j, r, omega arith, here))
            only k' r' b' t' (no m) (no m') = omega arith

    module _ (once : (n : ℕ) → update ≡ suc n → StoredOnce l store load n) (never : update ≡ 0 → StoredBefore l store (total l) → ⊥) where
      -- every store before a position stands at the one place
      at_place : (n : ℕ) (u : update ≡ suc n) (p : ℕ) → p ≤ total l → StoredBefore l store p → l.kernel.control + (once n u).place < p
      at_place n u p h (k, r, q, t) = go (in_sample_phase k r (omega arith) t)
        where
          go : (j : ℕ) × (j < l.kernel.sample) × (k ≡ l.kernel.control + j) → l.kernel.control + (once n u).place < p
          go (j, b, e) = omega (arith, (once n u).once j r b (rw (← e) t), e, q)

      store_from : ((a b : ℕ) → store a ≡ store b → a ≡ b) → StoresPass
      store_from inj i r b t = go update refl
        where
          go : (x : ℕ) → update ≡ x → Store l Sample i store update r
          go zero e = absurd (never e (l.kernel.control + i, r, omega arith, t))
          go (suc n) e = record { node = n; update_is = e; class = class; once = λ s. omega (arith, at_place n e (l.kernel.control + i) (omega arith) s, place) }
            where
              place : i ≡ (once n e).place
              place = (once n e).once i r b t

              same : r ≡ (once n e).register
              same =
                  inj r (once n e).register (one_step l (l.kernel.control + i) (store r) (store (once n e).register) t (rw place (once n e).stored))

              class : Holds l.graph (before l Sample i) r n
              class = rw (place, same) (once n e).class

      load_from : LoadsPass
      load_from i r b t s = go update refl
        where
          go : (x : ℕ) → update ≡ x → ⊥
          go zero e = let (k, r', q, t') = s in never e (k, r', omega arith, t')
          go (suc n) e = (once n e).not_loaded i r (omega (arith, at_place n e (l.kernel.control + i) (omega arith) s)) b t

module _ (l : Listing) where
  module _ (a : AllPass l) where
    control_sound : (i : ℕ) → i < l.kernel.control → StepSound l Control i
    control_sound i h = (a.each Control i h).sound

    output_place : (j : ℕ) × (r : ℕ) × (j < l.kernel.sample) × StepAt l (position l Sample j) (StoreOutput r)
    output_place = go a.end.output
      where
        go : StoredBefore l StoreOutput (total l) → (j : ℕ) × (r : ℕ) × (j < l.kernel.sample) × StepAt l (position l Sample j) (StoreOutput r)
        go (k, r, q, t) =
            let (j, b, e) = in_sample_phase l control_sound StoreOutput (λ x. refl) k r q t in
            (j, r, b, rw (← e) t)

    all_pass : Passes l
    all_pass =
        record {
          steps = λ phase i h. (a.each phase i h).sound;
          states =
              λ s n u.
              once_from l control_sound (StoreState s) (λ r. refl) (Source.State s) _ (λ i r b t. (a.each Sample i b).state_store s r t)
              (λ i r b t. (a.each Sample i b).state_load s r t) n u (a.end.states s n u);
          delays =
              λ d n u.
              once_from l control_sound (StoreDelay d) (λ r. refl) (Source.Delay d) _ (λ i r b t. (a.each Sample i b).delay_store d r t)
              (λ i r b t. (a.each Sample i b).delay_load d r t) n u (a.end.delays d n u);
          no_state = λ s u p. no_state s u p;
          no_delay = λ d u p. no_delay d u p;
          last = output_place.0;
          last_step = omega (arith, ((a.each Sample output_place.0 output_place.2).output_store output_place.1 output_place.3).0);
          register = output_place.1;
          output_last = output_place.3;
          no_other =
              λ k r b t.
              omega (arith, ((a.each Sample k b).output_store r t).0, ((a.each Sample output_place.0 output_place.2).output_store output_place.1 output_place.3).0);
          output_class = ((a.each Sample output_place.0 output_place.2).output_store output_place.1 output_place.3).1;
        }
      where
        no_state : (s : ℕ) → get_or l.graph.state_updates s 0 ≡ 0 → StoredBefore l (StoreState s) (total l) → ⊥
        no_state s u (k, r, q, t) =
            let (j, b, e) = in_sample_phase l control_sound (StoreState s) (λ x. refl) k r q t in
            omega (arith, ((a.each Sample j b).state_store s r (rw (← e) t)).update_is, u)

        no_delay : (d : ℕ) → get_or l.graph.delay_updates d 0 ≡ 0 → StoredBefore l (StoreDelay d) (total l) → ⊥
        no_delay d u (k, r, q, t) =
            let (j, b, e) = in_sample_phase l control_sound (StoreDelay d) (λ x. refl) k r q t in
            omega (arith, ((a.each Sample j b).delay_store d r (rw (← e) t)).update_is, u)

  module _ (p : Passes l) where
    passes_control : (i : ℕ) → i < l.kernel.control → StepPasses l Control i
    passes_control i h =
        let s = p.steps Control i h in
        record {
          sound = s;
          state_store = λ x r t. absurd (control_bars l i (StoreState x r) s refl t);
          delay_store = λ x r t. absurd (control_bars l i (StoreDelay x r) s refl t);
          state_load = λ x r t. absurd (control_bars l i (Load (Source.State x) r) s refl t);
          delay_load = λ x r t. absurd (control_bars l i (Load (Source.Delay x) r) s refl t);
          output_store = λ r t. absurd (control_bars l i (StoreOutput r) s refl t);
        }

    passes_sample : (i : ℕ) → i < l.kernel.sample → StepPasses l Sample i
    passes_sample i h =
        record {
          sound = p.steps Sample i h;
          state_store =
              λ s r t. store_from l (p.steps Control) (StoreState s) (λ x. refl) (Source.State s) _ (p.states s) (p.no_state s) (λ a b e. cc) i r h t;
          delay_store =
              λ d r t. store_from l (p.steps Control) (StoreDelay d) (λ x. refl) (Source.Delay d) _ (p.delays d) (p.no_delay d) (λ a b e. cc) i r h t;
          state_load = λ s r t. load_from l (p.steps Control) (StoreState s) (λ x. refl) (Source.State s) _ (p.states s) (p.no_state s) i r h t;
          delay_load = λ d r t. load_from l (p.steps Control) (StoreDelay d) (λ x. refl) (Source.Delay d) _ (p.delays d) (p.no_delay d) i r h t;
          output_store = λ r t. output_store r t;
        }
      where
        output_store : (r : ℕ) → StepAt l (position l Sample i) (StoreOutput r)
            → (suc (position l Sample i) ≡ total l) × Holds l.graph (before l Sample i) r l.graph.output
        output_store r t = (omega (arith, place, p.last_step), rw (place, same) p.output_class)
          where
            place : i ≡ p.last
            place = p.no_other i r h t

            same : r ≡ p.register
            same =
                let e = one_step l (l.kernel.control + i) (StoreOutput r) (StoreOutput p.register) t (rw place p.output_last) in
                cc

    pass_all : AllPass l
    pass_all =
        record {
          each = each;
          end =
              record {
                states = λ s n u. let o = p.states s n u in (l.kernel.control + o.place, o.register, omega (arith, o.in_list), o.stored);
                delays = λ d n u. let o = p.delays d n u in (l.kernel.control + o.place, o.register, omega (arith, o.in_list), o.stored);
                output = (l.kernel.control + p.last, p.register, omega (arith, p.last_step), p.output_last);
              };
        }
      where
        each : (phase : Phase) (i : ℕ) → i < count_of l phase → StepPasses l phase i
        each Control i h = passes_control i h
        each Sample i h = passes_sample i h

-- ---- the walk

-- answers in order: all are accepted, or there is a first that is not
in_order_all : (answer : ℕ → Answer Unit) (n : ℕ) → ((i : ℕ) → i < n → answer i ≡ accepted tt) → in_order answer n ≡ accepted tt
unfolding in_order
in_order_all answer zero h = refl
in_order_all answer (suc n) h = then_pass (answer n) (in_order_all answer n (λ i l. h i (omega arith))) ∙ h n (omega arith)

first_failing : (p : ℕ → Bool) (n : ℕ) → ((i : ℕ) → i < n → p i ≡ true) ⊎ ((i : ℕ) × (i < n) × (p i ≡ false) × ((j : ℕ) → j < i → p j ≡ true))
first_failing p zero = inl (λ i h. absurd (not-suc-le-zero h))
first_failing p (suc n) = go (first_failing p n) (p n) refl
  where
    go : ((i : ℕ) → i < n → p i ≡ true) ⊎ ((i : ℕ) × (i < n) × (p i ≡ false) × ((j : ℕ) → j < i → p j ≡ true)) → (b : Bool) → p n ≡ b
        → ((i : ℕ) → i < suc n → p i ≡ true) ⊎ ((i : ℕ) × (i < suc n) × (p i ≡ false) × ((j : ℕ) → j < i → p j ≡ true))
    go (inr (i, h, e, f)) b q = inr (i, omega arith, e, f)
    go (inl f) false q = inr (n, omega arith, q, f)
    go (inl f) true q = inl (λ i h. one i (eq-or-lt_of_le (le_of_suc-le-suc h)))
      where
        one : (i : ℕ) → (i ≡ n) ⊎ (i < n) → p i ≡ true
        one i (inl e) = rw e q
        one i (inr h) = f i h

module _ (l : Listing) where
  -- the three ways out
  walk_control : (i : ℕ) → i < l.kernel.control → control_passes l i ≡ false → ((j : ℕ) → j < i → control_passes l j ≡ true)
      → walk_answer l ≡ refused 19 (i ∷ [])
  unfolding walk_answer
  walk_control i h e f =
      then_stop _
      (in_order_stop (control_answer l) l.kernel.control i 19 (i ∷ []) h
      (in_order_all (control_answer l) i (λ j q. refuse_at_off 19 j (rw (f j q)))) (refuse_at_on 19 i (rw e)))

  control_accepted : ((j : ℕ) → j < l.kernel.control → control_passes l j ≡ true) → in_order (control_answer l) l.kernel.control ≡ accepted tt
  control_accepted f = in_order_all (control_answer l) l.kernel.control (λ j q. refuse_at_off 19 j (rw (f j q)))

  walk_sample : (i : ℕ) → i < l.kernel.sample → ((j : ℕ) → j < l.kernel.control → control_passes l j ≡ true) → sample_passes l i ≡ false
      → ((j : ℕ) → j < i → sample_passes l j ≡ true) → walk_answer l ≡ refused 19 ((l.kernel.control + i) ∷ [])
  unfolding walk_answer
  walk_sample i h c e f =
      then_pass _ (control_accepted c)
      ∙ then_stop _
      (in_order_stop (sample_answer l) l.kernel.sample i 19 ((l.kernel.control + i) ∷ []) h
      (in_order_all (sample_answer l) i (λ j q. refuse_at_off 19 (l.kernel.control + j) (rw (f j q)))) (refuse_at_on 19 (l.kernel.control + i) (rw e)))

  walk_end : ((j : ℕ) → j < l.kernel.control → control_passes l j ≡ true) → ((j : ℕ) → j < l.kernel.sample → sample_passes l j ≡ true)
      → walk_answer l ≡ refuse_at 19 (total l) (not (nothing_missing l (before_sample l l.kernel.sample)))
  unfolding walk_answer
  walk_end c f =
      then_pass _ (control_accepted c)
      ∙ then_pass _ (in_order_all (sample_answer l) l.kernel.sample (λ j q. refuse_at_off 19 (l.kernel.control + j) (rw (f j q))))

module _ (l : Listing) (n : Counts) (good : GoodGraph n l.graph) where
  control_says : (i : ℕ) → control_passes l i ≡ true → StepPasses l Control i
  unfolding control_passes
  control_says i e = (step_exactly l n good Control i).0 e

  control_is : (i : ℕ) → StepPasses l Control i → control_passes l i ≡ true
  unfolding control_passes
  control_is i p = (step_exactly l n good Control i).1 p

  sample_says : (i : ℕ) → sample_passes l i ≡ true → StepPasses l Sample i
  unfolding sample_passes
  sample_says i e = (step_exactly l n good Sample i).0 e

  sample_is : (i : ℕ) → StepPasses l Sample i → sample_passes l i ≡ true
  unfolding sample_passes
  sample_is i p = (step_exactly l n good Sample i).1 p

  not_passing : (b : Bool) → (b ≡ true → ⊥) → b ≡ false
  not_passing true z = absurd (z refl)
  not_passing false z = refl

  -- the position decides the answer
  fails_walk : (k : ℕ) → Fails l k → walk_answer l ≡ refused 19 (k ∷ [])
  fails_walk k (step_fails Control i h f z) =
      walk_control l i h (not_passing _ (λ e. z (control_says i e))) (λ j q. control_is j (f j q))
  fails_walk k (step_fails Sample i h (c, f) z) =
      walk_sample l i h (λ j q. control_is j (c j q)) (not_passing _ (λ e. z (sample_says i e))) (λ j q. sample_is j (f j q))
  fails_walk k (store_missing (c, f) z) =
      walk_end l (λ j q. control_is j (c j q)) (λ j q. sample_is j (f j q))
      ∙ refuse_at_on 19 (total l) (rw (not_passing _ (λ e. z ((missing_exactly l).0 e))))

  all_walk : AllPass l → walk_answer l ≡ accepted tt
  all_walk a =
      walk_end l (λ j q. control_is j (a.each Control j q)) (λ j q. sample_is j (a.each Sample j q))
      ∙ refuse_at_off 19 (total l) (rw ((missing_exactly l).1 a.end))

  -- and one of them is the case
  decided : AllPass l ⊎ ((k : ℕ) × Fails l k)
  decided = by_control (first_failing (control_passes l) l.kernel.control)
    where
      by_end : PassBelow l Control l.kernel.control → PassBelow l Sample l.kernel.sample → (b : Bool)
          → nothing_missing l (before_sample l l.kernel.sample) ≡ b → AllPass l ⊎ ((k : ℕ) × Fails l k)
      by_end c f true e = inl (record { each = each; end = (missing_exactly l).0 e })
        where
          each : (phase : Phase) (i : ℕ) → i < count_of l phase → StepPasses l phase i
          each Control i h = c i h
          each Sample i h = f i h
      by_end c f false e = inr (total l, store_missing (c, f) (λ m. clash _ ((missing_exactly l).1 m) e))

      by_sample : PassBelow l Control l.kernel.control
          → ((i : ℕ) → i < l.kernel.sample → sample_passes l i ≡ true) ⊎ ((i : ℕ) × (i < l.kernel.sample) × (sample_passes l i ≡ false) × ((j : ℕ) → j < i → sample_passes l j ≡ true))
          → AllPass l ⊎ ((k : ℕ) × Fails l k)
      by_sample c (inl f) = by_end c (λ j h. sample_says j (f j h)) _ refl
      by_sample c (inr (i, h, e, f)) =
          inr (l.kernel.control + i, step_fails Sample i h (c, λ j q. sample_says j (f j q)) (λ p. clash _ (sample_is i p) e))

      by_control : ((i : ℕ) → i < l.kernel.control → control_passes l i ≡ true) ⊎ ((i : ℕ) × (i < l.kernel.control) × (control_passes l i ≡ false) × ((j : ℕ) → j < i → control_passes l j ≡ true))
          → AllPass l ⊎ ((k : ℕ) × Fails l k)
      by_control (inl f) = by_sample (λ j h. control_says j (f j h)) (first_failing (sample_passes l) l.kernel.sample)
      by_control (inr (i, h, e, f)) = inr (i, step_fails Control i h (λ j q. control_says j (f j q)) (λ p. clash _ (control_is i p) e))

  -- THE WALK PASSES EXACTLY WHAT 01 SAYS PASSES
  pub passes_exactly : walk_answer l ≡ accepted tt ↔ Passes l
  passes_exactly = (λ e. go decided e, λ p. all_walk (pass_all l p))
    where
      go : AllPass l ⊎ ((k : ℕ) × Fails l k) → walk_answer l ≡ accepted tt → Passes l
      go (inl a) e = all_pass l a
      go (inr (k, f)) e = absurd (let q = fails_walk k f in let z : ◌≡◌ {A = ℕ} 0 1 = cc in omega arith)

  -- .. AND REFUSES THE OTHERS WITH 01'S POSITION
  pub refused_at : (k : ℕ) → walk_answer l ≡ refused 19 (k ∷ []) ↔ Fails l k
  refused_at k = (λ e. go decided e, fails_walk k)
    where
      go : AllPass l ⊎ ((k : ℕ) × Fails l k) → walk_answer l ≡ refused 19 (k ∷ []) → Fails l k
      go (inl a) e = absurd (let q = all_walk a in let z : ◌≡◌ {A = ℕ} 0 1 = cc in omega arith)
      go (inr (j, f)) e = let q = fails_walk j f in let z : j ≡ k = cc in subst (Fails l) z f

-- ---- what is held

module _ (l : Listing) (n : Counts) (good : GoodGraph n l.graph) where
  -- one step further
  before_next : (phase : Phase) (i : ℕ) → before l phase (suc i) ≡ after_words l (before l phase i) (step_at l.steps (position l phase i))
  unfolding walked
  before_next Control i = let z : 0 + i ≡ i = omega arith in rw z
  before_next Sample i = refl

  after_formed : (h : Held) (step : Step) (class : ℕ) → moved_class l.graph l.instructions h step ≡ suc class
      → after_words l h (Some step) ≡ after_move l.instructions h step (suc class)
  unfolding after_step
  after_formed h step class e = ap (after_move l.instructions h step) e

  -- what is held after a step that passes
  next_held : (phase : Phase) (i : ℕ) → StepPasses l phase i → (step : Step) (class : ℕ) → StepAt l (position l phase i) step
      → Moves l.graph l.instructions (before l phase i) step class → before l phase (suc i) ≡ after_move l.instructions (before l phase i) step (suc class)
  next_held phase i p step class t m =
      before_next phase i
      ∙ ap (after_words l (before l phase i)) t
      ∙ after_formed (before l phase i) step class
      (moves_moved l n good phase i p step class (one_step l (position l phase i) p.sound.step step p.sound.formed t) m)

  -- the relation holds of what the walk holds
  one_more_lem : (phase : Phase) (i : ℕ) → StepPasses l phase i → HeldBefore l phase i (before l phase i) → HeldBefore l phase (suc i) (before l phase (suc i))
  one_more_lem phase i p h =
      let (class, m) = p.sound.moves in
      subst (HeldBefore l phase (suc i)) (sym (next_held phase i p p.sound.step class p.sound.formed m))
      (next p.sound.step class h p.sound.formed m)

  held_control : (i : ℕ) → PassBelow l Control i → HeldBefore l Control i (before_control l i)
  unfolding walked
  held_control zero f = control_start
  held_control (suc i) f = one_more_lem Control i (f i (omega arith)) (held_control i (λ j q. f j (omega arith)))

  held_sample : (i : ℕ) → PassBelow l Control l.kernel.control → PassBelow l Sample i → HeldBefore l Sample i (before_sample l i)
  unfolding walked
  held_sample zero c f = sample_start (held_control l.kernel.control c)
  held_sample (suc i) c f = one_more_lem Sample i (f i (omega arith)) (held_sample i c (λ j q. f j (omega arith)))

  held_says : (phase : Phase) (i : ℕ) → PassBefore l phase i → HeldBefore l phase i (before l phase i)
  held_says Control i f = held_control i f
  held_says Sample i (c, f) = held_sample i c f

  -- and of nothing else
  fewer : (phase : Phase) (i : ℕ) → PassBefore l phase (suc i) → PassBefore l phase i × StepPasses l phase i
  fewer Control i f = (λ j q. f j (omega arith), f i (omega arith))
  fewer Sample i (c, f) = ((c, λ j q. f j (omega arith)), f i (omega arith))

  held_one : (phase : Phase) (i : ℕ) (h : Held) → HeldBefore l phase i h → PassBefore l phase i → h ≡ before l phase i
  unfolding walked
  held_one phase i h control_start f = refl
  held_one phase i h (sample_start e) (c, f) = ap (entered l) (held_one Control l.kernel.control _ e c)
  held_one phase (suc i) h (next step class e t m) f =
      let (g, p) = fewer phase i f in
      let q = held_one phase i _ e g in
      ap (λ (x : Held). after_move l.instructions x step (suc class)) q
      ∙ sym (next_held phase i p step class t (subst (λ (x : Held). Moves l.graph l.instructions x step class) q m))

  -- BEFORE A STEP, WHERE ALL BEFORE IT PASS, THE WALK HOLDS WHAT 01 SAYS
  pub held_exactly : (phase : Phase) (i : ℕ) → PassBefore l phase i → HeldBefore l phase i (before l phase i) × ((h : Held) → HeldBefore l phase i h → h ≡ before l phase i)
  held_exactly phase i f = (held_says phase i f, λ h e. held_one phase i h e f)

-- ---- the call

-- 1 to 13 come before 19
abbrev Earlier : Answer Unit → Type 0
Earlier (accepted u) = Unit {0}
Earlier (refused n vs) = n < 19

earlier_then : (a b : Answer Unit) → Earlier a → Earlier b → Earlier (a ⨾ b)
unfolding ◌⨾◌
earlier_then (accepted u) b p q = q
earlier_then (refused n vs) b p q = p

earlier_refuse : (n : ℕ) (t : Bool) → n < 19 → Earlier (refuse n t)
unfolding refuse
earlier_refuse n true p = p
earlier_refuse n false p = tt

earlier_at : (n i : ℕ) (t : Bool) → n < 19 → Earlier (refuse_at n i t)
unfolding refuse_at
earlier_at n i true p = p
earlier_at n i false p = tt

earlier_order : (answer : ℕ → Answer Unit) (n : ℕ) → ((i : ℕ) → Earlier (answer i)) → Earlier (in_order answer n)
unfolding in_order
earlier_order answer zero f = tt
earlier_order answer (suc n) f = earlier_then _ _ (earlier_order answer n f) (f n)

earlier_records : (b : Block) → Earlier (records_answer b)
unfolding records_answer parameter_answer node_answer words_answer state_answer delay_answer
earlier_records b =
    earlier_then _ _ (earlier_order _ _ (λ i. earlier_at 7 i _ (omega arith)))
    (earlier_then _ _ (earlier_refuse 8 _ (omega arith))
    (earlier_then _ _ (earlier_order _ _ (λ i. earlier_then _ _ (earlier_at 9 i _ (omega arith)) (earlier_at 10 i _ (omega arith))))
    (earlier_then _ _ (earlier_order _ _ (λ i. earlier_at 11 i _ (omega arith))) (earlier_order _ _ (λ i. earlier_at 12 i _ (omega arith))))))

module _ (b : Block) (mask : ℕ) (k : Kernel) (steps instructions : List ℕ) (t : Tables) where
  earlier_judged : Earlier (check_judged b k steps instructions t)
  unfolding check_judged validation
  earlier_judged =
      earlier_then _ _
      (earlier_then _ _ (earlier_refuse 1 _ (omega arith))
      (earlier_then _ _ (earlier_refuse 2 _ (omega arith))
      (earlier_then _ _ (earlier_refuse 3 _ (omega arith))
      (earlier_then _ _ (earlier_refuse 4 _ (omega arith))
      (earlier_then _ _ (earlier_refuse 5 _ (omega arith)) (earlier_then _ _ (earlier_refuse 6 _ (omega arith)) (earlier_records b))))))) (earlier_refuse 13 _ (omega arith))

  judged_good : check_judged b k steps instructions t ≡ accepted tt → GoodGraph (counts_of b) (graph_of b)
  unfolding check_judged
  judged_good e = good_graph b (valid b (then_accepted _ _ e).0)

  -- THE CALL ACCEPTS A LIST EXACTLY WHEN 1 TO 13 ARE NOT GIVEN AND THE LIST PASSES
  pub check_passes : (check_call b mask k steps instructions t).answer ≡ accepted tt
      ↔ (check_judged b k steps instructions t ≡ accepted tt) × Passes (listing_of b mask k steps instructions)
  unfolding check_call
  check_passes = (
    λ e.
        let (j, w) = then_accepted (check_judged b k steps instructions t) _ e in
        (j, (passes_exactly (listing_of b mask k steps instructions) (counts_of b) (judged_good j)).0 w),
    λ (j, p). then_pass _ j ∙ (passes_exactly (listing_of b mask k steps instructions) (counts_of b) (judged_good j)).1 p,
  )

  -- .. AND REFUSES BY 19 EXACTLY WHERE 1 TO 13 ARE NOT GIVEN AND THE LIST FAILS, WITH 01'S POSITION
  pub check_refused_at : (p : ℕ) → (check_call b mask k steps instructions t).answer ≡ refused 19 (p ∷ [])
      ↔ (check_judged b k steps instructions t ≡ accepted tt) × Fails (listing_of b mask k steps instructions) p
  unfolding check_call
  check_refused_at p = (
    λ e. go (check_judged b k steps instructions t) refl earlier_judged e,
    λ (j, f). then_pass _ j ∙ (refused_at (listing_of b mask k steps instructions) (counts_of b) (judged_good j) p).1 f,
  )
    where
      go : (a : Answer Unit) → check_judged b k steps instructions t ≡ a → Earlier a
          → (a ⨾ walk_answer (listing_of b mask k steps instructions)) ≡ refused 19 (p ∷ [])
          → (check_judged b k steps instructions t ≡ accepted tt) × Fails (listing_of b mask k steps instructions) p
      go (accepted u) j o e = (j, (refused_at (listing_of b mask k steps instructions) (counts_of b) (judged_good j) p).0 (sym (then_pass _ refl) ∙ e))
      go (refused n vs) j o e =
          let q : refused n vs ≡ refused 19 (p ∷ []) = sym (then_stop (walk_answer (listing_of b mask k steps instructions)) refl) ∙ e in
          let z : n ≡ 19 = cc in
          absurd (omega arith)
