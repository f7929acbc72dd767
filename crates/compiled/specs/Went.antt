-- What an action that the walk went through says: which register it fills from what class, that its registers are usable, and that only usable registers are filled
-- afterwards. Assumes nothing.
use Rattle.std.specs.Prelude.{◌≡◌, refl, Bool, true, false, not, cond, ◌&&◌, List, [], ◌∷◌, length, get_or, set, T, ltb, eqb}
use Rattle.std.proofs.Common.{sym, ◌∙◌, subst, arith, length-set, get_or-set_other, eqb→eq, ltb→lt, lt-ltb}
use Prim.Native.Nat.{ℕ, zero, suc, pred, ◌/◌, ◌%◌, ◌^◌, ◌<◌}
use Rattle.std.proofs.Math.Decide.{ℕ_discrete}
use Rattle.std.proofs.lemmas.List.{length-replicate}
use denote.Floats.{is_true}
use Rattle.tables.specs.Tests.{&_true}
use Rattle.expand.specs.Graph.{Graph}
use Rattle.checker.specs.Walk.{in_mask}
use Rattle.kernel.specs.Steps.{source_code, source_index}
use Rattle.plan.specs.Lists.{member, is_some, count_up}
use Rattle.plan.specs.TestLaws.{and_first, and_second}
use Rattle.tables.specs.Zeros.{zeros_at}
use Rattle.plan.specs.ListLaws.{filter_member}
use Rattle.allocate.specs.Actions.{Operation, load_immediate, binary, unary, Action, load, compute, spill, reload, store_state, store_delay, store_output, store_control}
use Rattle.allocate.specs.StateLaws.{suc_is}
use Rattle.compile.specs.Draft.{usable, usable_bit}
use Rattle.compile.specs.PhasesFit.{member_usable}
use Rattle.compiled.specs.Marks.{Marks, Rules, Walk, goes, stops, go_on, goes_if, loaded_class, mark_register, mark_slot, mark_stored, put_register, put_slot, walk_store, walk_operation, walk_action, walk_actions, start_marks, not_goes, goes_is}
use Rattle.compiled.specs.Meanings.{rules}
use Rattle.compiled.specs.Codes.{binary_code, unary_code}
use Rattle.compiled.specs.Operations.{two_filled, one_filled, OperationSmall}

-- ---- the walk's tests, taken apart

pub record PutRegister (usable : List ℕ) (m : Marks) (r word : ℕ) (m₁ : Marks) : Type 0 where
  pub class : ℕ
  pub is : word ≡ suc class
  pub inside : T (member r usable)
  pub next : m₁ ≡ mark_register m r word

pub put_register_lem : (usable : List ℕ) (m : Marks) (r word : ℕ) (m₁ : Marks) → put_register usable m r word ≡ goes m₁ → PutRegister usable m r word m₁
put_register_lem usable m r zero m₁ h = not_goes m₁ h
put_register_lem usable m r (suc x) m₁ h = go (member r usable) refl h
  where
    go : (t : Bool) → member r usable ≡ t → goes_if t (mark_register m r (suc x)) ≡ goes m₁ → PutRegister usable m r (suc x) m₁
    go true q h = record { class = x; is = refl; inside = rw q tt; next = sym (goes_is (mark_register m r (suc x)) m₁ h) }
    go false q h = not_goes m₁ h

pub record PutSlot (declared : ℕ) (m : Marks) (k word : ℕ) (m₁ : Marks) : Type 0 where
  pub class : ℕ
  pub is : word ≡ suc class
  pub inside : k < declared
  pub next : m₁ ≡ mark_slot m k word

pub put_slot_lem : (R : Rules) (m : Marks) (k word : ℕ) (m₁ : Marks) → put_slot R m k word ≡ goes m₁ → PutSlot R.declared m k word m₁
put_slot_lem R m k zero m₁ h = not_goes m₁ h
put_slot_lem R m k (suc x) m₁ h = go (ltb k R.declared) refl h
  where
    go : (t : Bool) → ltb k R.declared ≡ t → goes_if t (mark_slot m k (suc x)) ≡ goes m₁ → PutSlot R.declared m k (suc x) m₁
    go true q h = record { class = x; is = refl; inside = ltb→lt k R.declared (rw q tt); next = sym (goes_is (mark_slot m k (suc x)) m₁ h) }
    go false q h = not_goes m₁ h

-- a store of code c and index i from register r
pub record Put (in_control : Bool) (R : Rules) (m : Marks) (c i r : ℕ) (m₁ : Marks) : Type 0 where
  pub sample : T (not in_control)
  pub class : ℕ
  pub is : get_or m.registers r 0 ≡ suc class
  pub asked : get_or m.registers r 0 ≡ R.asked_class c i
  pub next : m₁ ≡ mark_stored m c i

pub put_stored : (in_control : Bool) (R : Rules) (m : Marks) (c i r : ℕ) (m₁ : Marks) → walk_store in_control R m c i r ≡ goes m₁ → Put in_control R m c i r m₁
put_stored in_control R m c i r m₁ h = go (not in_control && (is_some word && eqb word (R.asked_class c i))) refl h
  where
    word : ℕ
    word = get_or m.registers r 0

    go : (t : Bool) → (not in_control && (is_some word && eqb word (R.asked_class c i))) ≡ t → goes_if t (mark_stored m c i) ≡ goes m₁ → Put in_control R m c i r m₁
    go true q h =
        let t : T (not in_control && (is_some word && eqb word (R.asked_class c i))) = rw q tt in
        let u : T (is_some word && eqb word (R.asked_class c i)) = and_second (not in_control) (is_some word && eqb word (R.asked_class c i)) t in
        record {
          sample = and_first (not in_control) (is_some word && eqb word (R.asked_class c i)) t;
          class = pred word;
          is = suc_is word (and_first (is_some word) (eqb word (R.asked_class c i)) u);
          asked = eqb→eq word (R.asked_class c i) (and_second (is_some word) (eqb word (R.asked_class c i)) u);
          next = sym (goes_is (mark_stored m c i) m₁ h);
        }
    go false q h = not_goes m₁ h

-- one action of a walk, and the rest
pub go_on_goes : (x : Walk) (f : Marks → Walk) (m' : Marks) → go_on x f ≡ goes m' → (m₁ : Marks) × (x ≡ goes m₁) × (f m₁ ≡ goes m')
go_on_goes (goes m) f m' h = (m, refl, h)
go_on_goes stops f m' h = not_goes m' h

pub not_first : (b : Bool) (x : Walk) (m : Marks) → cond b stops x ≡ goes m → x ≡ goes m
not_first true x m h = not_goes m h
not_first false x m h = h

pub not_second : (b : Bool) (x : Walk) (m : Marks) → cond b x stops ≡ goes m → x ≡ goes m
not_second true x m h = h
not_second false x m h = not_goes m h

-- ---- usable registers

pub in_mask_lem : (mask r : ℕ) → T (member r (usable mask)) → in_mask mask r ≡ true
unfolding usable in_mask
in_mask_lem mask r t =
    let p = filter_member (usable_bit mask) (count_up 0 16) r t in
    &_true (ltb r 16) (eqb (mask / 2 ^ r % 2) 1) (lt-ltb r 16 (member_usable mask r t)) (is_true (usable_bit mask r) p.1)

-- only usable registers are filled, and the slots are as many as declared
pub record Okay (mask declared : ℕ) (m : Marks) : Type 0 where
  pub held : (r class : ℕ) → get_or m.registers r 0 ≡ suc class → T (member r (usable mask))
  pub long : length m.slots ≡ declared

pub okay_start : (mask : ℕ) (R : Rules) → Okay mask R.declared (start_marks R)
okay_start mask R = record { held = λ r class h. absurd (omega (arith, zeros_at 16 r)); long = length-replicate {A = ℕ} R.declared 0 }

module _ (mask declared : ℕ) where
  pub held_in_mask : (m : Marks) (r class : ℕ) → Okay mask declared m → get_or m.registers r 0 ≡ suc class → in_mask mask r ≡ true
  held_in_mask m r class o h = in_mask_lem mask r (o.held r class h)

  held_small : (m : Marks) (r class : ℕ) → Okay mask declared m → get_or m.registers r 0 ≡ suc class → r < 16
  held_small m r class o h = member_usable mask r (o.held r class h)

  okay_register : (m : Marks) (r word : ℕ) (m₁ : Marks) → Okay mask declared m → PutRegister (usable mask) m r word m₁ → Okay mask declared m₁
  okay_register m r word m₁ o p = subst (λ (y : Marks). Okay mask declared y) (sym p.next) (record { held = λ q k h. go q k h (ℕ_discrete q r); long = o.long })
    where
      go : (q k : ℕ) → get_or (set m.registers r word) q 0 ≡ suc k → Dec (q ≡ r) → T (member q (usable mask))
      go q k h (yes z) = rw z p.inside
      go q k h (no z) = o.held q k (sym (get_or-set_other m.registers r q word 0 z) ∙ h)

  okay_slot : (m : Marks) (k word : ℕ) (m₁ : Marks) → Okay mask declared m → PutSlot declared m k word m₁ → Okay mask declared m₁
  okay_slot m k word m₁ o p = subst (λ (y : Marks). Okay mask declared y) (sym p.next) (record { held = o.held; long = rw length-set o.long })

  okay_stored : (in_control : Bool) (R : Rules) (m : Marks) (c i r : ℕ) (m₁ : Marks) → Okay mask declared m → Put in_control R m c i r m₁ → Okay mask declared m₁
  okay_stored in_control R m c i r m₁ o p = subst (λ (y : Marks). Okay mask declared y) (sym p.next) (record { held = o.held; long = o.long })

-- ---- an action's registers are r0 to r15

abbrev pub ActionSmall : Action → Type 0
ActionSmall (load source r) = r < 16
ActionSmall (compute operation) = OperationSmall operation
ActionSmall (spill k r) = r < 16
ActionSmall (reload k r) = r < 16
ActionSmall (store_state i r) = r < 16
ActionSmall (store_delay i r) = r < 16
ActionSmall (store_output r) = r < 16
ActionSmall (store_control k r) = r < 16

abbrev pub AllSmall : List Action → Type 0
AllSmall [] = Unit {0}
AllSmall (x ∷ xs) = ActionSmall x × AllSmall xs

module _ (g : Graph) (mask : ℕ) (in_control : Bool) (control_slots : List ℕ) (declared : ℕ) where
  abbrev R : Rules
  R = rules g in_control control_slots declared

  -- what stays true, and what is true of the action
  abbrev pub After : Action → Marks → Type 0
  After x m₁ = Okay mask declared m₁ × ActionSmall x

  put_after : (m : Marks) (r word : ℕ) (m₁ : Marks) → Okay mask declared m → PutRegister (usable mask) m r word m₁ → Okay mask declared m₁ × (r < 16)
  put_after m r word m₁ o p = (okay_register mask declared m r word m₁ o p, member_usable mask r p.inside)

  operation_after : (operation : Operation) (m m₁ : Marks) → walk_operation (usable mask) R m operation ≡ goes m₁ → Okay mask declared m
      → After (compute operation) m₁
  unfolding rules
  operation_after (load_immediate w d) m m₁ h o = put_after m d (R.immediate_class w) m₁ o (put_register_lem (usable mask) m d (R.immediate_class w) m₁ h)
  operation_after (binary c d x y) m m₁ h o =
      let word : ℕ = R.binary_class c (get_or m.registers x 0) (get_or m.registers y 0) in
      let p = put_register_lem (usable mask) m d word m₁ h in
      let (i, j, a, b) = two_filled g (binary_code c) (get_or m.registers x 0) (get_or m.registers y 0) p.class p.is in
      let q = put_after m d word m₁ o p in
      (q.0, (q.1, held_small mask declared m x i o a, held_small mask declared m y j o b))
  operation_after (unary c d x) m m₁ h o =
      let word : ℕ = R.unary_class c (get_or m.registers x 0) in
      let p = put_register_lem (usable mask) m d word m₁ h in
      let (i, a) = one_filled g (unary_code c) (get_or m.registers x 0) p.class p.is in
      let q = put_after m d word m₁ o p in
      (q.0, (q.1, held_small mask declared m x i o a))

  stored_after : (c i r : ℕ) (m m₁ : Marks) → walk_store in_control R m c i r ≡ goes m₁ → Okay mask declared m → Okay mask declared m₁ × (r < 16)
  stored_after c i r m m₁ h o =
      let p = put_stored in_control R m c i r m₁ h in
      (okay_stored mask declared in_control R m c i r m₁ o p, held_small mask declared m r p.class o p.is)

  slot_after : (k r : ℕ) (m m₁ : Marks) → put_slot R m k (get_or m.registers r 0) ≡ goes m₁ → Okay mask declared m → Okay mask declared m₁ × (r < 16)
  unfolding rules
  slot_after k r m m₁ h o =
      let p = put_slot_lem R m k (get_or m.registers r 0) m₁ h in
      (okay_slot mask declared m k (get_or m.registers r 0) m₁ o p, held_small mask declared m r p.class o p.is)

  pub action_after : (x : Action) (m m₁ : Marks) → walk_action (usable mask) in_control R m x ≡ goes m₁ → Okay mask declared m → After x m₁
  unfolding walk_action
  action_after (load source r) m m₁ h o =
      let word : ℕ = loaded_class in_control R m (source_code source) (source_index source) in
      put_after m r word m₁ o (put_register_lem (usable mask) m r word m₁ h)
  action_after (compute operation) m m₁ h o = operation_after operation m m₁ h o
  action_after (spill k r) m m₁ h o = slot_after k r m m₁ (not_first in_control _ m₁ h) o
  action_after (reload k r) m m₁ h o =
      put_after m r (get_or m.slots k 0) m₁ o (put_register_lem (usable mask) m r (get_or m.slots k 0) m₁ (not_first in_control _ m₁ h))
  action_after (store_state i r) m m₁ h o = stored_after 10 i r m m₁ h o
  action_after (store_delay i r) m m₁ h o = stored_after 11 i r m m₁ h o
  action_after (store_output r) m m₁ h o = stored_after 12 0 r m m₁ h o
  action_after (store_control k r) m m₁ h o = slot_after k r m m₁ (not_second in_control _ m₁ h) o

  -- a whole walk
  pub actions_small : (xs : List Action) (m m' : Marks) → walk_actions (usable mask) in_control R m xs ≡ goes m' → Okay mask declared m → AllSmall xs
  actions_small [] m m' h o = tt
  actions_small (x ∷ xs) m m' h o =
      let (m₁, q, h₁) = go_on_goes (walk_action (usable mask) in_control R m x) (λ n. walk_actions (usable mask) in_control R n xs) m' h in
      let a = action_after x m m₁ q o in
      (a.1, actions_small xs m₁ m' h₁ a.0)
