-- What the flow of a good graph keeps: `good_flow`, and what its nodes say of their words: `node_is`. Assumes nothing.
use Rattle.std.specs.Prelude.{◌≡◌, refl, ◌⊎◌, Bool, true, false, cond, List, [], ◌∷◌, ℕ, zero, suc, ◌+◌, ◌≤◌, ◌<◌, length, get_or, T, ltb, eqb}
use Rattle.std.proofs.Common.{sym, ap, ◌∙◌, inl, inr, arith, eqb→eq, eqb-true}
use Rattle.std.proofs.Math.Decide.{dec_lt}
use Rattle.std.proofs.lemmas.List.{length-map}
use Rattle.std.proofs.lemmas.Bool.{eqb-false}
use Rattle.tables.specs.Tests.{or_pass}
use Rattle.block.specs.declared.Kind.{Kind}
use Rattle.block.specs.declared.Kind.TheVariants.{Source, Constant, Parameter, State, Delay, Binary, Divide, Unary, Recip, Tanh, Sigmoid, Unknown}
use Rattle.block.specs.Block.{code, first, second}
use Rattle.block.specs.Kinds.{kind_of}
use Rattle.block.specs.declared.Counts.{Counts}
use Rattle.expand.specs.Graph.{Graph}
use Rattle.expand.specs.Good.{GoodAs, GoodNode}
use Rattle.expand.specs.GraphLaws.{GoodGraph}
use Rattle.plan.specs.Lists.{member, count_up}
use Rattle.plan.specs.Nodes.{Node, input_node, network_node, constant_node, parameter_node, state_node, delay_node, binary_node, unary_node, operands, node_at, updates_of}
use Rattle.plan.specs.ListLaws.{map_at, map_off, count_up_length}
use Rattle.plan.specs.Reached.{Ordered}
use Rattle.plan.specs.Planned.{GoodFlow}
use Rattle.plan.specs.Flow.{node_as, node_of, node_in, flow_of}

-- ---- its nodes

-- as many nodes as the graph counts
pub flow_length : (g : Graph) → length (flow_of g).nodes ≡ g.count
unfolding flow_of
flow_length g = length-map (count_up 0 g.count) (node_in g.nodes) ∙ count_up_length 0 g.count

-- node n
pub flow_at : (g : Graph) (n : ℕ) → n < g.count → node_at (flow_of g).nodes n ≡ node_in g.nodes n
unfolding flow_of
flow_at g n h = let z : 0 + n ≡ n = omega arith in rw z at (map_at (node_in g.nodes) 0 g.count n input_node h)

-- past the nodes an input is read
pub flow_off : (g : Graph) (n : ℕ) → g.count ≤ n → node_at (flow_of g).nodes n ≡ input_node
unfolding flow_of
flow_off g n h = map_off (node_in g.nodes) 0 g.count n input_node h

-- ---- the flow of a good graph is good

-- an operand of a good node stands before it
below_as : (kind : Kind) (n : Counts) (k c x y a : ℕ) → GoodAs kind n k x y → T (member a (operands (node_as kind c x y))) → a < k
below_as Source n k c x y a h t = absurd (go (eqb c 17) t)
  where
    go : (b : Bool) → T (member a (operands (cond b network_node input_node))) → ⊥
    go true u = u
    go false u = u
below_as Constant n k c x y a h t = absurd t
below_as Parameter n k c x y a h t = absurd t
below_as State n k c x y a h t = absurd t
below_as Delay n k c x y a h t = absurd t
below_as Binary n k c x y a h t = one (or_pass (eqb a x) (member a (y ∷ [])) t)
  where
    two : T (eqb a y) ⊎ ⊥ → a < k
    two (inl u) = rw (eqb→eq a y u) h.1
    two (inr u) = absurd u

    one : T (eqb a x) ⊎ T (member a (y ∷ [])) → a < k
    one (inl u) = rw (eqb→eq a x u) h.0
    one (inr u) = two (or_pass (eqb a y) false u)
below_as Divide n k c x y a h t = absurd t
below_as Unary n k c x y a h t = one (or_pass (eqb a x) false t)
  where
    one : T (eqb a x) ⊎ ⊥ → a < k
    one (inl u) = rw (eqb→eq a x u) h.0
    one (inr u) = absurd u
below_as Recip n k c x y a h t = absurd t
below_as Tanh n k c x y a h t = absurd t
below_as Sigmoid n k c x y a h t = absurd t
below_as Unknown n k c x y a h t = absurd t

below : (n : Counts) (k c x y a : ℕ) → GoodNode n k c x y → T (member a (operands (node_of c x y))) → a < k
unfolding node_of
below n k c x y a h t = below_as (kind_of c) n k c x y a h t

-- an update in the table is some record's
update_at : (us : List ℕ) (n : ℕ) → T (member n (updates_of us)) → (i : ℕ) × (get_or us i 0 ≡ suc n)
update_at [] n t = absurd t
update_at (zero ∷ us) n t = let r = update_at us n t in (suc r.0, r.1)
update_at (suc m ∷ us) n t = go (or_pass (eqb n m) (member n (updates_of us)) t) (λ u. update_at us n u)
  where
    go : T (eqb n m) ⊎ T (member n (updates_of us)) → (T (member n (updates_of us)) → (i : ℕ) × (get_or us i 0 ≡ suc n)) → (i : ℕ) × (get_or (suc m ∷ us) i 0 ≡ suc n)
    go (inl u) ih = (0, ap suc (sym (eqb→eq n m u)))
    go (inr u) ih = let r = ih u in (suc r.0, r.1)

module _ (n : Counts) (g : Graph) (good : GoodGraph n g) where
  in_order : Ordered (flow_of g).nodes
  in_order k a t = go (dec_lt k g.count)
    where
      go : Dec (k < g.count) → a < k
      go (yes h) = below n k (code g.nodes k) (first g.nodes k) (second g.nodes k) a (good.nodes k h) (rw (flow_at g k h) at t)
      go (no h) = absurd (rw (flow_off g k (omega arith)) at t)

  -- what the plan asks of a flow
  pub good_flow : GoodFlow (flow_of g)
  unfolding flow_of
  good_flow =
      record {
        ordered = in_order;
        output = rw (flow_length g) good.output;
        state_updates = λ m t. let r = update_at g.state_updates m t in rw (flow_length g) (omega (arith, good.state_updates r.0, r.1));
        delay_updates = λ m t. let r = update_at g.delay_updates m t in rw (flow_length g) (omega (arith, good.delay_updates r.0, r.1));
      }

-- ---- what a node says of its words

-- what a kind says of its code
abbrev CodeIs : Kind → ℕ → Type 0
CodeIs Source c = (c ≡ 0) ⊎ (c ≡ 17)
CodeIs Constant c = c ≡ 1
CodeIs Parameter c = c ≡ 2
CodeIs State c = c ≡ 3
CodeIs Delay c = c ≡ 4
CodeIs Binary c = Unit {0}
CodeIs Divide c = Unit {0}
CodeIs Unary c = Unit {0}
CodeIs Recip c = Unit {0}
CodeIs Tanh c = Unit {0}
CodeIs Sigmoid c = Unit {0}
CodeIs Unknown c = Unit {0}

code_is : (c : ℕ) → CodeIs (kind_of c) c
unfolding kind_of
code_is c =
    go (eqb c 0) (eqb c 1) (eqb c 2) (eqb c 3) (eqb c 4) (ltb c 11) (eqb c 11) (ltb c 14) (eqb c 14) (eqb c 15) (eqb c 16) (eqb c 17)
    (eqb-true c 0) (eqb-true c 1) (eqb-true c 2) (eqb-true c 3) (eqb-true c 4) (eqb-true c 17)
  where
    go : (b0 b1 b2 b3 b4 binary b11 unary b14 b15 b16 b17 : Bool)
        → (b0 ≡ true → c ≡ 0) → (b1 ≡ true → c ≡ 1) → (b2 ≡ true → c ≡ 2) → (b3 ≡ true → c ≡ 3) → (b4 ≡ true → c ≡ 4) → (b17 ≡ true → c ≡ 17)
        → CodeIs (cond b0 Source (cond b1 Constant (cond b2 Parameter (cond b3 State (cond b4 Delay (cond binary Binary (cond b11 Divide
        (cond unary Unary (cond b14 Recip (cond b15 Tanh (cond b16 Sigmoid (cond b17 Source Unknown)))))))))))) c
    go true b1 b2 b3 b4 b b11 u b14 b15 b16 b17 e0 e1 e2 e3 e4 e17 = inl (e0 refl)
    go false true b2 b3 b4 b b11 u b14 b15 b16 b17 e0 e1 e2 e3 e4 e17 = e1 refl
    go false false true b3 b4 b b11 u b14 b15 b16 b17 e0 e1 e2 e3 e4 e17 = e2 refl
    go false false false true b4 b b11 u b14 b15 b16 b17 e0 e1 e2 e3 e4 e17 = e3 refl
    go false false false false true b b11 u b14 b15 b16 b17 e0 e1 e2 e3 e4 e17 = e4 refl
    go false false false false false true b11 u b14 b15 b16 b17 e0 e1 e2 e3 e4 e17 = tt
    go false false false false false false true u b14 b15 b16 b17 e0 e1 e2 e3 e4 e17 = tt
    go false false false false false false false true b14 b15 b16 b17 e0 e1 e2 e3 e4 e17 = tt
    go false false false false false false false false true b15 b16 b17 e0 e1 e2 e3 e4 e17 = tt
    go false false false false false false false false false true b16 b17 e0 e1 e2 e3 e4 e17 = tt
    go false false false false false false false false false false true b17 e0 e1 e2 e3 e4 e17 = tt
    go false false false false false false false false false false false true e0 e1 e2 e3 e4 e17 = inr (e17 refl)
    go false false false false false false false false false false false false e0 e1 e2 e3 e4 e17 = tt

-- its code, first and second word; a computation's code is of its kind
abbrev pub IsNode : Node → ℕ → ℕ → ℕ → Type 0
IsNode input_node c x y = (c ≡ 0) × (x ≡ 0) × (y ≡ 0)
IsNode network_node c x y = (c ≡ 17) × (x ≡ 0) × (y ≡ 0)
IsNode (constant_node w) c x y = (c ≡ 1) × (x ≡ w) × (y ≡ 0)
IsNode (parameter_node i) c x y = (c ≡ 2) × (x ≡ i) × (y ≡ 0)
IsNode (state_node i) c x y = (c ≡ 3) × (x ≡ i) × (y ≡ 0)
IsNode (delay_node i) c x y = (c ≡ 4) × (x ≡ i) × (y ≡ 0)
IsNode (binary_node k a d) c x y = (c ≡ k) × (x ≡ a) × (y ≡ d) × (kind_of k ≡ Binary)
IsNode (unary_node k a) c x y = (c ≡ k) × (x ≡ a) × (y ≡ 0) × (kind_of k ≡ Unary)

is_as : (kind : Kind) (n : Counts) (k c x y : ℕ) → kind_of c ≡ kind → CodeIs kind c → GoodAs kind n k x y → IsNode (node_as kind c x y) c x y
is_as Source n k c x y e d h = go (eqb c 17) refl d
  where
    go : (b : Bool) → eqb c 17 ≡ b → (c ≡ 0) ⊎ (c ≡ 17) → IsNode (cond b network_node input_node) c x y
    go true q z = (eqb-true c 17 q, h.0, h.1)
    go false q (inl z) = (z, h.0, h.1)
    go false q (inr z) = absurd (eqb-false c 17 q z)
is_as Constant n k c x y e d h = (d, refl, h)
is_as Parameter n k c x y e d h = (d, refl, h.1)
is_as State n k c x y e d h = (d, refl, h.1)
is_as Delay n k c x y e d h = (d, refl, h.1)
is_as Binary n k c x y e d h = (refl, refl, refl, e)
is_as Divide n k c x y e d h = absurd h
is_as Unary n k c x y e d h = (refl, refl, h.1, e)
is_as Recip n k c x y e d h = absurd h
is_as Tanh n k c x y e d h = absurd h
is_as Sigmoid n k c x y e d h = absurd h
is_as Unknown n k c x y e d h = absurd h

-- of a good graph's node
pub node_is : (n : Counts) (g : Graph) → GoodGraph n g → (k : ℕ) → k < g.count
    → IsNode (node_at (flow_of g).nodes k) (code g.nodes k) (first g.nodes k) (second g.nodes k)
unfolding node_of
node_is n g good k h =
    let c : ℕ = code g.nodes k in
    rw (flow_at g k h) (is_as (kind_of c) n k c (first g.nodes k) (second g.nodes k) refl (code_is c) (good.nodes k h))
