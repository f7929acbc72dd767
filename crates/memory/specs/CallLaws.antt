-- The ways out of set and reset, each from the tests that lead to it. Assumes nothing.
use Rattle.std.specs.Prelude.{◌≡◌, true, false, List, [], ℕ, ◌≤◌, ◌<◌, length, set, Result, Err, IsErrAnd}
use Rattle.std.proofs.Common.{sym, ap, ◌∙◌, eq-eqb, ne_eqb, le-leb}
use Rattle.std.proofs.Math.Bool.{not}
use Rattle.std.proofs.lemmas.Bool.{lt-leb}
use Rattle.std.proofs.lemmas.Result.{err_from_is_err_and}
use Rattle.words.specs.Operations.{in_range}
use Rattle.tables.specs.Zeros.{zeros}
use Rattle.answers.specs.declared.Refusal.{Refusal}
use Rattle.answers.specs.Numbers.{Answer, accepted, refused, answer_of}
use Rattle.answers.specs.OrderLaws.{hand_on, then_pass, refuse_stop, refuse_pass, refuse_on, refuse_off}
use Rattle.block.specs.Block.{Block, parameter_count, minimum, maximum, initial}
use Rattle.block.specs.Validation.{validation}
use Rattle.tables.specs.Lists.{list_of}
use Rattle.memory.specs.Lines.{Memories, memories}
use Rattle.memory.specs.Sizes.{memories_fit}
use Rattle.memory.specs.Calls.{set_outcome, set_answer, set_after, set_call, reset_outcome, reset_answer, start_memories, reset_after, reset_call}
use Rattle.memory.specs.SizeLaws.{held}

-- what a call returns is its answer
pub told : {v w : Result Unit Refusal} {a : Answer Unit} → answer_of v ≡ a → v ≡ w → a ≡ answer_of w
told e k = sym e ∙ ap answer_of k

module _ (b : Block) (values : List ℕ) (index value : ℕ) where
  -- a refusal changes nothing
  set_refused : {n : ℕ} {vs : List ℕ} → set_answer b values index value ≡ refused n vs → set_outcome (refused n vs) values ≡ set_call b values index value
  unfolding set_call set_after
  set_refused e = rw e

  pub set_invalid : {v : Result Unit Refusal} (r : Result Unit Refusal) {e : Refusal} → answer_of v ≡ validation b → v ≡ Err e → IsErrAnd r (λ y. y ≡ e)
      → set_outcome (answer_of r) values ≡ set_call b values index value
  unfolding set_answer
  set_invalid r f g h =
      let q = err_from_is_err_and r h in
      rw q.1 (set_refused (sym (hand_on r _ f g h) ∙ ap answer_of q.1))

  pub set_sizes : validation b ≡ accepted tt → (length values ≡ parameter_count b → ⊥) → set_outcome (refused 16 []) values ≡ set_call b values index value
  unfolding set_answer
  set_sizes v h = set_refused (then_pass _ v ∙ refuse_stop 16 _ (ap not (ne_eqb _ _ h)))

  module _ (v : validation b ≡ accepted tt) (fits : length values ≡ parameter_count b) where
    pub set_unknown : parameter_count b ≤ index → set_outcome (refused 17 []) values ≡ set_call b values index value
    unfolding set_answer
    set_unknown h = set_refused (then_pass _ v ∙ (refuse_pass 16 _ (ap not (eq-eqb _ _ fits)) ∙ refuse_stop 17 _ (le-leb _ _ h)))

    pub set_outside : index < parameter_count b → in_range (minimum b.parameters index) (maximum b.parameters index) value ≡ false
        → set_outcome (refused 18 []) values ≡ set_call b values index value
    unfolding set_answer
    set_outside h r =
        set_refused
        (then_pass _ v ∙ (refuse_pass 16 _ (ap not (eq-eqb _ _ fits)) ∙ (refuse_pass 17 _ (lt-leb _ _ h) ∙ refuse_on 18 (ap not r))))

    pub set_done : index < parameter_count b → in_range (minimum b.parameters index) (maximum b.parameters index) value ≡ true
        → set_outcome (accepted tt) (set values index value) ≡ set_call b values index value
    unfolding set_call set_after set_answer
    set_done h r =
        let e : set_answer b values index value ≡ accepted tt =
        then_pass _ v ∙ (refuse_pass 16 _ (ap not (eq-eqb _ _ fits)) ∙ (refuse_pass 17 _ (lt-leb _ _ h) ∙ refuse_off 18 (ap not r))) in
        rw e

module _ (b : Block) (m : Memories) where
  reset_refused : {n : ℕ} {vs : List ℕ} → reset_answer b m ≡ refused n vs → reset_outcome (refused n vs) m ≡ reset_call b m
  unfolding reset_call reset_after
  reset_refused e = rw e

  pub reset_invalid : {v : Result Unit Refusal} (r : Result Unit Refusal) {e : Refusal} → answer_of v ≡ validation b → v ≡ Err e → IsErrAnd r (λ y. y ≡ e)
      → reset_outcome (answer_of r) m ≡ reset_call b m
  unfolding reset_answer
  reset_invalid r f g h =
      let q = err_from_is_err_and r h in
      rw q.1 (reset_refused (sym (hand_on r _ f g h) ∙ ap answer_of q.1))

  pub reset_sizes : validation b ≡ accepted tt → memories_fit b m ≡ false → reset_outcome (refused 16 []) m ≡ reset_call b m
  unfolding reset_answer
  reset_sizes v h = reset_refused (then_pass _ v ∙ refuse_on 16 (ap not h))

  pub reset_done : {states area cursors : List ℕ} → validation b ≡ accepted tt → memories_fit b m ≡ true
      → states ≡ list_of (initial b.states) (length m.states) → area ≡ zeros (length m.area) → cursors ≡ zeros (length m.cursors)
      → reset_outcome (accepted tt) (memories states area cursors) ≡ reset_call b m
  unfolding reset_call reset_after reset_answer start_memories
  reset_done {states} {area} {cursors} v h s a c =
      let e : reset_answer b m ≡ accepted tt = then_pass _ v ∙ refuse_off 16 (ap not h) in
      let f = held b m h in
      rw (e, s, a, c, f.states, f.area, f.cursors)
