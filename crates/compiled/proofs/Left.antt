-- What is still to be stored: each memory with an update once, no other, and no output before the last step. Assumes nothing.
use Rattle.std.specs.Prelude.{◌≡◌, refl, true, not, ◌||◌, List, ◌∷◌, ℕ, zero, suc, ◌+◌, ◌≤◌, ◌<◌, length, get_or, set, eqb}
use Rattle.std.proofs.Common.{sym, arith, length-set, get_or-set_same, get_or-set_other, ne_eqb}
use Rattle.std.proofs.Math.Decide.{ℕ_discrete}
use Rattle.std.proofs.Math.Dec.{eqb_refl}
use denote.Floats.{is_true}
use Rattle.tables.specs.Tests.{&_true}
use Rattle.tables.specs.Loops.{every_all}
use Rattle.expand.specs.Graph.{Graph}
use Rattle.checker.specs.Walk.{Held, Listing, stored_if_asked, nothing_missing}
use Rattle.allocate.specs.Actions.{Action, load, compute, spill, reload, store_state, store_delay, store_output, store_control}
use Rattle.allocate.specs.Invariants.{some_lt}
use Rattle.compiled.specs.Marks.{Marks}
use Rattle.compiled.specs.Stores.{one, action_stores, stores}
use Rattle.compiled.specs.Writes.{asked_once, one_miss}
use Rattle.compiled.specs.SamplePasses.{Free, after_states, after_delays}
use Rattle.compiled.specs.Left.{Left}

-- ---- the end: nothing is left

asked_le : (u : ℕ) → asked_once u ≤ 1
asked_le zero = omega arith
asked_le (suc u) = omega arith

stored_if_asked_lem : (updates stored : List ℕ) (i : ℕ) → get_or stored i 0 ≡ asked_once (get_or updates i 0) → stored_if_asked updates stored i ≡ true
unfolding stored_if_asked
stored_if_asked_lem updates stored i e = go (get_or updates i 0) (get_or stored i 0) e
  where
    go : (u s : ℕ) → s ≡ asked_once u → (eqb u 0 || not (eqb s 0)) ≡ true
    go zero s e = refl
    go (suc u) s e = rw (ne_eqb (suc u) 0 (λ z. omega arith), ne_eqb s 0 (λ z. omega arith))

pub nothing_missing_lem : (l : Listing) (h : Held) → ((i : ℕ) → get_or h.states_stored i 0 ≡ asked_once (get_or l.graph.state_updates i 0))
    → ((i : ℕ) → get_or h.delays_stored i 0 ≡ asked_once (get_or l.graph.delay_updates i 0)) → h.output_stored ≡ 1 → nothing_missing l h ≡ true
unfolding nothing_missing
nothing_missing_lem l h states delays output =
    &_true _ _ (every_all (stored_if_asked l.graph.state_updates h.states_stored) (length l.graph.state_updates)
    (λ i q. stored_if_asked_lem l.graph.state_updates h.states_stored i (states i)))
    (&_true _ _ (every_all (stored_if_asked l.graph.delay_updates h.delays_stored) (length l.graph.delay_updates)
    (λ i q. stored_if_asked_lem l.graph.delay_updates h.delays_stored i (delays i)))
    (rw output))

-- ---- one action

hit : (c i : ℕ) → one c i c i ≡ 1
hit c i = rw (is_true (eqb c c) (eqb_refl c), is_true (eqb i i) (eqb_refl i))

some_asked : (updates : List ℕ) (i n : ℕ) → suc n ≡ asked_once (get_or updates i 0) → i < length updates
some_asked updates i n h = go (get_or updates i 0) refl h
  where
    go : (u : ℕ) → get_or updates i 0 ≡ u → suc n ≡ asked_once u → i < length updates
    go zero q h = absurd (omega arith)
    go (suc u) q h = some_lt updates i u q

-- a memory stored now: it was not stored, and is inside its table
flag : (c i : ℕ) (stored updates : List ℕ) (n : ℕ) → length stored ≡ length updates → get_or stored i 0 + (one c i c i + n) ≡ asked_once (get_or updates i 0)
    → (get_or stored i 0 ≡ 0) × (i < length stored)
flag c i stored updates n l e =
    let z : get_or stored i 0 ≡ 0 = omega (arith, e, hit c i, asked_le (get_or updates i 0)) in
    (z, omega (arith, l, some_asked updates i n (omega (arith, e, z, hit c i))))

store_flags : (c i : ℕ) (stored updates : List ℕ) (ys : List Action) → length stored ≡ length updates
    → ((j : ℕ) → get_or stored j 0 + (one c j c i + stores c j ys) ≡ asked_once (get_or updates j 0)) → (j : ℕ)
    → get_or (set stored i 1) j 0 + stores c j ys ≡ asked_once (get_or updates j 0)
store_flags c i stored updates ys l h j = go (ℕ_discrete j i)
  where
    go : Dec (j ≡ i) → get_or (set stored i 1) j 0 + stores c j ys ≡ asked_once (get_or updates j 0)
    go (yes z) =
        let e : get_or stored i 0 + (one c i c i + stores c i ys) ≡ asked_once (get_or updates i 0) = h i in
        let f = flag c i stored updates (stores c i ys) l e in
        rw z (omega (arith, get_or-set_same stored i 1 0 f.1, f.0, e, hit c i))
    go (no z) =
        let m : one c j c i ≡ 0 = one_miss c j c i (λ p q. z (sym q)) in
        omega (arith, get_or-set_other stored i j 1 0 z, h j, m)

-- an action that stores nothing
skip : (g : Graph) (x : Action) (m m₁ : Marks) (ys : List Action) → ((c i : ℕ) → action_stores c i x ≡ 0) → m₁.states_stored ≡ m.states_stored
    → m₁.delays_stored ≡ m.delays_stored
    → Left g m (x ∷ ys) → Left g m₁ ys
skip g x m m₁ ys q s d l =
    record {
      states = λ i. rw s (omega (arith, l.states i, q 10 i));
      delays = λ i. rw d (omega (arith, l.delays i, q 11 i));
      outputs = omega (arith, l.outputs, q 12 0);
      states_length = rw s l.states_length;
      delays_length = rw d l.delays_length;
    }

-- a store finds its memory not yet stored
pub left_free : (g : Graph) (x : Action) (m : Marks) (ys : List Action) → Left g m (x ∷ ys) → Free m x
left_free g (load source r) m ys l = tt
left_free g (compute operation) m ys l = tt
left_free g (spill slot r) m ys l = tt
left_free g (reload slot r) m ys l = tt
left_free g (store_state i r) m ys l = (flag 10 i m.states_stored g.state_updates (stores 10 i ys) l.states_length (l.states i)).0
left_free g (store_delay i r) m ys l = (flag 11 i m.delays_stored g.delay_updates (stores 11 i ys) l.delays_length (l.delays i)).0
left_free g (store_output r) m ys l = omega (arith, l.outputs)
left_free g (store_control slot r) m ys l = tt

-- and what is left after it
pub left_next : (g : Graph) (x : Action) (m m₁ : Marks) (ys : List Action) → Left g m (x ∷ ys) → m₁.states_stored ≡ after_states x m.states_stored
    → m₁.delays_stored ≡ after_delays x m.delays_stored → Left g m₁ ys
left_next g (load source r) m m₁ ys l s d = skip g (load source r) m m₁ ys (λ c i. refl) s d l
left_next g (compute operation) m m₁ ys l s d = skip g (compute operation) m m₁ ys (λ c i. refl) s d l
left_next g (spill slot r) m m₁ ys l s d = skip g (spill slot r) m m₁ ys (λ c i. refl) s d l
left_next g (reload slot r) m m₁ ys l s d = skip g (reload slot r) m m₁ ys (λ c i. refl) s d l
left_next g (store_state i r) m m₁ ys l s d =
    record {
      states = λ j. rw s (store_flags 10 i m.states_stored g.state_updates ys l.states_length l.states j);
      delays = λ j. rw d (omega (arith, l.delays j));
      outputs = omega (arith, l.outputs);
      states_length = rw (s, length-set) l.states_length;
      delays_length = rw d l.delays_length;
    }
left_next g (store_delay i r) m m₁ ys l s d =
    record {
      states = λ j. rw s (omega (arith, l.states j));
      delays = λ j. rw d (store_flags 11 i m.delays_stored g.delay_updates ys l.delays_length l.delays j);
      outputs = omega (arith, l.outputs);
      states_length = rw s l.states_length;
      delays_length = rw (d, length-set) l.delays_length;
    }
left_next g (store_output r) m m₁ ys l s d = absurd (omega (arith, l.outputs))
left_next g (store_control slot r) m m₁ ys l s d = skip g (store_control slot r) m m₁ ys (λ c i. refl) s d l
