-- Laws of a sample's definitions: the values one by one, the updates one by one, and what they keep. Assumes nothing.
use Rattle.std.specs.Prelude.{◌≡◌, Bool, true, false, cond, set, take, eqb, ltb}
use Rattle.std.proofs.Math.Path.{refl, ap}
use Rattle.std.proofs.Common.{sym, ◌∙◌, subst, add-one, arith, length-set, take_all, ne_eqb}
use mathlib.Core.List.{List}
use Prim.Native.Nat.{ℕ, zero, suc, ◌+◌, ◌-◌, ◌≤◌, ◌<◌}
use Rattle.std.proofs.Math.ListN.{length, get_or, length-append}
use Rattle.std.proofs.Math.Seq.{take-suc-set}
use Rattle.tables.specs.Tests.{cond_pred}
use Rattle.block.specs.declared.Kind.TheVariants.{Binary, Divide, Unary, Recip, Tanh, Sigmoid, Unknown}
use Rattle.block.specs.Block.{code, first, second}
use Rattle.block.specs.Kinds.{kind_of}
use Rattle.block.specs.declared.Counts.{Counts}
use Rattle.expand.specs.Good.{GoodAs, GoodNode}
use Rattle.expand.specs.Graph.{Graph}
use Rattle.memory.specs.Lines.{Memories, memories}
use Rattle.memory.specs.Fit.{Fit}
use Rattle.memory.specs.LineLaws.{states_kept, area_kept, cursors_kept, fit_store}
use Rattle.memory.specs.Signals.{Given}
use Rattle.graph_run.specs.Sample.{value_of, node_value, values_to, values, update_state, update_states, update_delay, update_delays, updated, sampled, sample}
use Rattle.graph_run.specs.Ready.{Updates, Ready}

-- a good node of another code than those of sources computes: its operands stand before it
pub computes : (n : Counts) (k c x y : ℕ) → (c ≡ 0 → ⊥) → (c ≡ 1 → ⊥) → (c ≡ 2 → ⊥) → (c ≡ 3 → ⊥) → (c ≡ 4 → ⊥) → (c ≡ 17 → ⊥)
    → GoodNode n k c x y → (x < k) × (y < k)
unfolding kind_of
computes n k c x y h0 h1 h2 h3 h4 h17 g =
    go (ltb c 11) (eqb c 11) (ltb c 14) (eqb c 14) (eqb c 15) (eqb c 16)
    (rw (ne_eqb c 0 h0, ne_eqb c 1 h1, ne_eqb c 2 h2, ne_eqb c 3 h3, ne_eqb c 4 h4, ne_eqb c 17 h17) at g)
  where
    go : (p q r s t u : Bool) → GoodAs (cond p Binary (cond q Divide (cond r Unary (cond s Recip (cond t Tanh (cond u Sigmoid Unknown)))))) n k x y
        → (x < k) × (y < k)
    go true q r s t u g = g
    go false true r s t u g = absurd g
    go false false true s t u g = (g.0, omega arith)
    go false false false true t u g = absurd g
    go false false false false true u g = absurd g
    go false false false false false true g = absurd g
    go false false false false false false g = absurd g

-- ---- values
module _ (nodes lengths : List ℕ) (x : Given) (m : Memories) where
  pub values_start : (table : List ℕ) → take 0 table ≡ values_to nodes lengths x m 0
  unfolding values_to
  values_start table = refl

  -- node k's value goes behind the values before it
  pub values_next : (table : List ℕ) (k v : ℕ) → k < length table → take k table ≡ values_to nodes lengths x m k
      → v ≡ value_of lengths x m (take k table) (code nodes k) (first nodes k) (second nodes k)
      → take (k + 1) (set table k v) ≡ values_to nodes lengths x m (k + 1)
  unfolding values_to node_value
  values_next table k v h e p = rw (add-one, take-suc-set table k v h, p, e)

  pub values_length : (n : ℕ) → length (values_to nodes lengths x m n) ≡ n
  unfolding values_to
  values_length zero = refl
  values_length (suc n) = let e = values_length n in simp length-append (omega arith)

  pub values_end : (table : List ℕ) (k n : ℕ) → k ≤ n → n ≤ k → length table ≡ n → take k table ≡ values_to nodes lengths x m k → table ≡ values_to nodes lengths x m n
  values_end table k n h l c e = let q : k ≡ n = omega arith in sym (take_all k table (omega arith)) ∙ (e ∙ rw q)

-- ---- states
module _ (updates values : List ℕ) where
  pub state_length : (states : List ℕ) (i : ℕ) → length (update_state updates values states i) ≡ length states
  unfolding update_state
  state_length states i = cond_pred (λ (l : List ℕ). length l ≡ length states) (eqb (get_or updates i 0) 0) (λ _. refl) (λ _. simp length-set)

  pub states_start : (states : List ℕ) → states ≡ update_states updates values states 0
  unfolding update_states
  states_start states = refl

  pub states_next : (states now : List ℕ) (i : ℕ) → now ≡ update_states updates values states i
      → update_state updates values now i ≡ update_states updates values states (i + 1)
  unfolding update_states
  states_next states now i e = rw (add-one, e)

  pub states_length : (states : List ℕ) (n : ℕ) → length (update_states updates values states n) ≡ length states
  unfolding update_states
  states_length states zero = refl
  states_length states (suc n) = state_length (update_states updates values states n) n ∙ states_length states n

-- ---- delays
-- the memories keep their lengths and the lines their fit; states are as they were
pub record Kept (lengths : List ℕ) (m m₀ : Memories) : Type 0 where
  pub states : m.states ≡ m₀.states
  pub area : length m.area ≡ length m₀.area
  pub cursors : length m.cursors ≡ length m₀.cursors
  pub fit : Fit lengths m.area m.cursors

module _ (updates lengths values : List ℕ) where
  pub delay_kept : (m : Memories) (i : ℕ) → Fit lengths m.area m.cursors → i < length m.cursors → Kept lengths (update_delay updates lengths values m i) m
  unfolding update_delay
  delay_kept m i f h =
      let v = get_or values (get_or updates i 0 - 1) 0 in
      cond_pred (λ (n : Memories). Kept lengths n m) (eqb (get_or updates i 0) 0)
      (λ _. record { states = refl; area = refl; cursors = refl; fit = f })
      (λ _. record { states = states_kept lengths m i v; area = area_kept lengths m i v; cursors = cursors_kept lengths m i v; fit = fit_store lengths m i v f h })

  pub delays_start : (m : Memories) → m ≡ update_delays updates lengths values m 0
  unfolding update_delays
  delays_start m = refl

  pub delays_next : (m now : Memories) (i : ℕ) → now ≡ update_delays updates lengths values m i
      → update_delay updates lengths values now i ≡ update_delays updates lengths values m (i + 1)
  unfolding update_delays
  delays_next m now i e = rw (add-one, e)

  pub delays_kept : (m : Memories) (n : ℕ) → Fit lengths m.area m.cursors → n ≤ length m.cursors → Kept lengths (update_delays updates lengths values m n) m
  unfolding update_delays
  delays_kept m zero f h = record { states = refl; area = refl; cursors = refl; fit = f }
  delays_kept m (suc n) f h =
      let before = delays_kept m n f (omega arith) in
      let c = before.cursors in
      let last = delay_kept (update_delays updates lengths values m n) n before.fit (omega arith) in
      record {
        states = last.states ∙ before.states;
        area = last.area ∙ before.area;
        cursors = last.cursors ∙ before.cursors;
        fit = last.fit;
      }

-- what the loop over the delays keeps
pub record Storing (updates lengths values : List ℕ) (m₀ m : Memories) (i : ℕ) : Type 0 where
  pub so_far : m ≡ update_delays updates lengths values m₀ i
  pub kept : Kept lengths m m₀

module _ (updates lengths values : List ℕ) (m₀ : Memories) where
  pub storing_start : Fit lengths m₀.area m₀.cursors → Storing updates lengths values m₀ m₀ 0
  storing_start f = record { so_far = delays_start updates lengths values m₀; kept = record { states = refl; area = refl; cursors = refl; fit = f } }

  pub storing_next : (m n : Memories) (i : ℕ) → Storing updates lengths values m₀ m i → i < length m.cursors → n ≡ update_delay updates lengths values m i
      → Storing updates lengths values m₀ n (i + 1)
  storing_next m n i s h e =
      let k : Kept lengths n m = subst (λ (x : Memories). Kept lengths x m) (sym e) (delay_kept updates lengths values m i s.kept.fit h) in
      record {
        so_far = e ∙ delays_next updates lengths values m₀ m i s.so_far;
        kept = record { states = k.states ∙ s.kept.states; area = k.area ∙ s.kept.area; cursors = k.cursors ∙ s.kept.cursors; fit = k.fit };
      }

-- updates know the number of memories alone
pub updates_of : {updates : List ℕ} {nodes n : ℕ} (l : ℕ) → l ≡ n → Updates updates nodes n → Updates updates nodes l
updates_of {updates} {nodes} l e u = subst (λ (x : ℕ). Updates updates nodes x) (sym e) u

-- the same with as many nodes
pub updates_in : {updates : List ℕ} {nodes n : ℕ} (l : ℕ) → l ≡ nodes → Updates updates nodes n → Updates updates l n
updates_in {updates} {n = n} l e u = subst (λ (x : ℕ). Updates updates x n) (sym e) u

-- ---- a sample: the values, the states, the delays
pub sample_is : (g : Graph) (x : Given) (m o : Memories) (v s : List ℕ) → v ≡ values g x m
    → s ≡ update_states g.state_updates v m.states (length g.state_updates)
    → o ≡ update_delays g.delay_updates g.delay_lengths v (memories s m.area m.cursors) (length g.delay_updates)
    → sampled (get_or v g.output 0) o ≡ sample g x m
unfolding sample updated
sample_is g x m o v s ev es el = ap (λ (n : Memories). sampled (get_or v g.output 0) n) el ∙ rw (es, ev)

-- the memories' tables keep their lengths
pub record Same (m m₀ : Memories) : Type 0 where
  pub states : length m.states ≡ length m₀.states
  pub area : length m.area ≡ length m₀.area
  pub cursors : length m.cursors ≡ length m₀.cursors

pub same_refl : (m : Memories) → Same m m
same_refl m = record { states = refl; area = refl; cursors = refl }

pub same_trans : {a b c : Memories} → Same a b → Same b c → Same a c
same_trans p q = record { states = p.states ∙ q.states; area = p.area ∙ q.area; cursors = p.cursors ∙ q.cursors }

-- a sample leaves memories that are as long, and in which the lines fit
module _ (g : Graph) (p : ℕ) (m : Memories) (r : Ready g p m) (vs : List ℕ) where
  states_after : List ℕ
  states_after = update_states g.state_updates vs m.states (length g.state_updates)

  kept : Kept g.delay_lengths (updated g vs m) (memories states_after m.area m.cursors)
  unfolding updated states_after
  kept =
      let n = r.stores.count in
      delays_kept g.delay_updates g.delay_lengths vs (memories states_after m.area m.cursors) (length g.delay_updates) r.fit (omega arith)

  pub updated_same : Same (updated g vs m) m
  unfolding states_after
  updated_same =
      record {
        states = ap length kept.states ∙ states_length g.state_updates vs m.states (length g.state_updates);
        area = kept.area;
        cursors = kept.cursors;
      }

  pub updated_ready : Ready g p (updated g vs m)
  updated_ready =
      let s = updated_same.states in
      let c = updated_same.cursors in
      record {
        nodes = rw (s, c) r.nodes;
        few = r.few;
        output = r.output;
        updates = rw s r.updates;
        stores = rw c r.stores;
        fit = kept.fit;
      }
