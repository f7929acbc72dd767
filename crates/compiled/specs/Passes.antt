-- An action that the walk goes through passes the checker, as the step that stands for it in the tables. Of a good graph. Assumes nothing.
use Rattle.std.specs.Prelude.{◌≡◌, Bool, cond, List, length, get_or, ltb}
use Rattle.std.proofs.Math.Path.{refl, ap, subst}
use Rattle.std.proofs.Common.{◌∙◌, arith}
use Rattle.std.proofs.Math.Bool.{true}
use Prim.Native.Nat.{ℕ, zero, suc}
use borrow.Author.Tests.{eq-eqb, ne_eqb, lt-ltb}
use Rattle.tables.specs.Tests.{&_true, differs}
use Rattle.block.specs.Block.{first, second}
use Rattle.block.specs.Kinds.{kind_of}
use Rattle.block.specs.declared.Counts.{Counts}
use Rattle.expand.specs.Graph.{Graph}
use Rattle.expand.specs.Good.{GoodNode}
use Rattle.expand.specs.GraphLaws.{GoodGraph}
use Rattle.classes.specs.Classes.{classes_to, is_operand}
use Rattle.kernel.specs.declared.Source.{Source}
use Rattle.kernel.specs.declared.Step.{Step}
use Rattle.kernel.specs.declared.Step.TheVariants.{Compute}
use Rattle.kernel.specs.declared.Phase.{Phase}
use Rattle.kernel.specs.declared.Kernel.{Kernel}
use Rattle.kernel.specs.Steps.{allowed_in}
use Rattle.kernel.specs.Lists.{source_inside, index_inside, computes_formed, step_may_run}
use Rattle.checker.specs.Walk as Checker
use Rattle.checker.specs.Walk.{Listing, listing, sizes_of, instruction_in_mask, step_in_mask, Held, fetched, unless_stored, computed_class, asked, moved_class, with_register, after_step, output_only_last, step_passes}
use Rattle.plan.specs.Lists.{is_some}
use Rattle.allocate.specs.Actions.{Operation, load_immediate, binary, unary, instruction_of, destination, compute}
use Rattle.allocate.specs.Invariants.{some_lt}
use Rattle.compile.specs.Draft.{usable}
use Rattle.compiled.specs.Marks.{Marks, goes, mark_register, walk_operation}
use Rattle.compiled.specs.Finds.{found_leaf}
use Rattle.compiled.specs.Codes.{binary_code, unary_code}
use Rattle.compiled.specs.Meanings.{rules, class_word}
use Rattle.compiled.specs.Operations.{two_filled, one_filled, binary_class, unary_class, binary_mask, unary_mask, same_destination}
use Rattle.compiled.specs.Went.{put_register_lem, in_mask_lem, Okay, held_in_mask}
use Rattle.compiled.specs.Stands.{Computed}

-- a good graph, and how many states and delays it has
pub record Sound (counts : Counts) (g : Graph) : Type 0 where
  pub good : GoodGraph counts g
  pub states : counts.states ≡ length g.state_updates
  pub delays : counts.delays ≡ length g.delay_updates

-- ---- small laws of the checker's definitions

unless_says : (stored word class : ℕ) → unless_stored stored word ≡ suc class → word ≡ suc class
unfolding unless_stored
unless_says zero word class e = e
unless_says (suc stored) word class e = absurd (omega (arith, rw (ne_eqb (suc stored) 0 (λ z. omega arith)) at e))

pub unless_free : (stored word : ℕ) → stored ≡ 0 → unless_stored stored word ≡ word
unfolding unless_stored
unless_free stored word z = rw z

-- what memory no longer holds, as the marks say it
pub unless_gone : (stored word : ℕ) → cond (is_some stored) 0 word ≡ unless_stored stored word
unfolding unless_stored
unless_gone zero word = refl
unless_gone (suc stored) word = rw (ne_eqb (suc stored) 0 (λ z. omega arith))

-- a store's class is the one that its update asks for
pub asked_is : (g : Graph) (update word class : ℕ) → word ≡ suc class → word ≡ class_word g update → asked g update word ≡ word
unfolding asked
asked_is g zero word class is e = absurd (omega arith)
asked_is g (suc n) word class is e = rw (eq-eqb word (suc (get_or (classes_to g.nodes g.count) n 0)) e)

-- what is checked: of the graph, the mask and the kernel
abbrev pub list : Counts → Graph → ℕ → Kernel → List ℕ → List ℕ → Listing
list counts g mask k steps instructions = listing g counts.parameters mask k steps instructions

-- a step passes, whether it is the last or not, and leaves this
pub record Passed (l : Listing) (phase : Phase) (h : Held) (step : Step) (h₁ : Held) : Type 0 where
  pub passes : (last : Bool) → step_passes l phase last h step ≡ true
  pub next : after_step l h step ≡ h₁

-- what a step must meet
pub passes_by : (l : Listing) (phase : Phase) (last : Bool) (h : Held) (step : Step) (class : ℕ) → allowed_in phase step ≡ true
    → index_inside (sizes_of l) step ≡ true → computes_formed l.instructions step ≡ true → step_in_mask l.mask l.instructions step ≡ true
    → output_only_last last step ≡ true → moved_class l.graph l.instructions h step ≡ suc class → step_passes l phase last h step ≡ true
unfolding step_passes step_may_run
passes_by l phase last h step class a i f m o w =
    &_true _ _ (&_true _ _ a (&_true _ _ i f))
    (&_true _ _ m (&_true _ _ o (differs (moved_class l.graph l.instructions h step) 0 (λ z. omega arith))))

module _ (counts : Counts) (g : Graph) (sound : Sound counts g) (mask : ℕ) (k : Kernel) (steps instructions : List ℕ) where
  abbrev L : Listing
  L = list counts g mask k steps instructions

  -- ---- a source that is found is inside its table

  parameter_inside : (index class : ℕ) → fetched g 2 index ≡ suc class → ltb index counts.parameters ≡ true
  unfolding fetched is_operand kind_of
  parameter_inside index class e =
      let (l, c, f) = found_leaf counts g sound.good 2 index class refl e in
      let node : GoodNode counts class 2 (first g.nodes class) (second g.nodes class) =
      subst (λ (x : ℕ). GoodNode counts class x (first g.nodes class) (second g.nodes class)) c (sound.good.nodes class l) in
      lt-ltb index counts.parameters (rw f at node.0)

  state_inside : (index class : ℕ) → fetched g 3 index ≡ suc class → ltb index (length g.state_updates) ≡ true
  unfolding fetched is_operand kind_of
  state_inside index class e =
      let (l, c, f) = found_leaf counts g sound.good 3 index class refl e in
      let node : GoodNode counts class 3 (first g.nodes class) (second g.nodes class) =
      subst (λ (x : ℕ). GoodNode counts class x (first g.nodes class) (second g.nodes class)) c (sound.good.nodes class l) in
      lt-ltb index (length g.state_updates) (omega (arith, node.0, f, sound.states))

  delay_inside : (index class : ℕ) → fetched g 4 index ≡ suc class → ltb index (length g.delay_updates) ≡ true
  unfolding fetched is_operand kind_of
  delay_inside index class e =
      let (l, c, f) = found_leaf counts g sound.good 4 index class refl e in
      let node : GoodNode counts class 4 (first g.nodes class) (second g.nodes class) =
      subst (λ (x : ℕ). GoodNode counts class x (first g.nodes class) (second g.nodes class)) c (sound.good.nodes class l) in
      lt-ltb index (length g.delay_updates) (omega (arith, node.0, f, sound.delays))

  pub source_inside_lem : (h : Held) (source : Source) (class : ℕ) → length h.control ≡ k.slots → Checker.loaded_class g h source ≡ suc class
      → source_inside (sizes_of L) source ≡ true
  source_inside_lem h Source.Audio class z e = refl
  source_inside_lem h Source.Network class z e = refl
  source_inside_lem h (Source.Parameter index) class z e = parameter_inside index class e
  source_inside_lem h (Source.State index) class z e = state_inside index class (unless_says (get_or h.states_stored index 0) (fetched g 3 index) class e)
  source_inside_lem h (Source.Delay index) class z e = delay_inside index class (unless_says (get_or h.delays_stored index 0) (fetched g 4 index) class e)
  source_inside_lem h (Source.Control slot) class z e = lt-ltb slot k.slots (omega (arith, z, some_lt h.control slot class e))

  -- ---- a computation, in either phase

  compute_passes : (phase : Phase) (h : Held) (number : ℕ) (operation : Operation) (class : ℕ)
      → Computed steps instructions k.instructions number (compute operation)
      → allowed_in phase (Compute number) ≡ true → instruction_in_mask mask (instruction_of operation) ≡ true → computed_class g h (instruction_of operation) ≡ suc class
      → Passed L phase h (Compute number) (with_register h (destination operation) (suc class))
  unfolding after_step
  compute_passes phase h number operation class c a m w =
      record {
        passes = λ last. passes_by L phase last h (Compute number) class a (lt-ltb number k.instructions c.0) (rw c.1) (rw c.1 m) refl (rw c.1 w);
        next = rw (c.1, w, same_destination operation);
      }

  -- whose operands are held as the marks say
  pub operation_passes : (phase : Phase) (in_control : Bool) (control_slots : List ℕ) (declared : ℕ) (h : Held) (number : ℕ) (operation : Operation) (m m₁ : Marks)
      → Computed steps instructions k.instructions number (compute operation) → allowed_in phase (Compute number) ≡ true → h.registers ≡ m.registers
      → walk_operation (usable mask) (rules g in_control control_slots declared) m operation ≡ goes m₁ → Okay mask declared m
      → (class : ℕ) × Passed L phase h (Compute number) (with_register h (destination operation) (suc class)) ×
      (m₁ ≡ mark_register m (destination operation) (suc class))
  unfolding rules
  operation_passes phase in_control control_slots declared h number (load_immediate w d) m m₁ c a s e o =
      let p = put_register_lem (usable mask) m d (Checker.class_of g 1 w 0) m₁ e in
      (p.class, compute_passes phase h number (load_immediate w d) p.class c a (in_mask_lem mask d p.inside) p.is, p.next ∙ ap (mark_register m d) p.is)
  operation_passes phase in_control control_slots declared h number (binary f d x y) m m₁ c a s e o =
      let word : ℕ = Checker.result_of_two g (binary_code f) (get_or m.registers x 0) (get_or m.registers y 0) in
      let p = put_register_lem (usable mask) m d word m₁ e in
      let (i, j, q, r) = two_filled g (binary_code f) (get_or m.registers x 0) (get_or m.registers y 0) p.class p.is in
      let in_all : instruction_in_mask mask (instruction_of (binary f d x y)) ≡ true =
      binary_mask mask f d x y
      ∙ &_true _ _ (in_mask_lem mask d p.inside) (&_true _ _ (held_in_mask mask declared m x i o q) (held_in_mask mask declared m y j o r)) in (
        p.class,
        compute_passes phase h number (binary f d x y) p.class c a in_all (binary_class g h f d x y ∙ rw s p.is),
        p.next ∙ ap (mark_register m d)
            p.is,
      )
  operation_passes phase in_control control_slots declared h number (unary f d x) m m₁ c a s e o =
      let word : ℕ = Checker.result_of_one g (unary_code f) (get_or m.registers x 0) in
      let p = put_register_lem (usable mask) m d word m₁ e in
      let (i, q) = one_filled g (unary_code f) (get_or m.registers x 0) p.class p.is in
      let in_all : instruction_in_mask mask (instruction_of (unary f d x)) ≡ true =
      unary_mask mask f d x ∙ &_true _ _ (in_mask_lem mask d p.inside) (held_in_mask mask declared m x i o q) in
      (p.class, compute_passes phase h number (unary f d x) p.class c a in_all (unary_class g h f d x ∙ rw s p.is), p.next ∙ ap (mark_register m d) p.is)
