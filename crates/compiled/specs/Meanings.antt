-- The checker's rules say what the compiler's nodes are: each node's word is its class. Of a good graph. Assumes nothing.
use Rattle.std.specs.Prelude.{◌≡◌, ◌⊎◌, Bool, ◌&&◌, length, get_or, T}
use Rattle.std.proofs.Math.Path.{refl, ap, subst}
use Rattle.std.proofs.Common.{sym, ◌∙◌, inl, inr, arith}
use Rattle.std.proofs.Math.Bool.{true, false, not, cond}
use mathlib.Core.List.{List, []}
use Prim.Native.Nat.{ℕ, zero, suc, pred, ◌<◌}
use Rattle.std.proofs.Math.Nat.{suc_inj}
use Rattle.std.proofs.Math.Decide.{dec_lt}
use Rattle.std.proofs.lemmas.List.{length-map}
use Rattle.std.proofs.Math.Dec.{eqb, eqb_refl}
use borrow.Author.Tests.{ne_eqb}
use Rattle.block.specs.Block.{code, first, second}
use Rattle.block.specs.Kinds.{kind_of}
use Rattle.block.specs.declared.Counts.{Counts}
use Rattle.expand.specs.Graph.{Graph}
use Rattle.expand.specs.GraphLaws.{GoodGraph}
use Rattle.kernel.specs.Steps.{source_code, source_index}
use Rattle.classes.specs.Classes.{classes_to, is_operand}
use Rattle.checker.specs.Walk.{class_of, fetched, result_of_two, result_of_one}
use Rattle.plan.specs.Nodes.{Node, input_node, network_node, constant_node, parameter_node, state_node, delay_node, binary_node, unary_node, node_at}
use Rattle.plan.specs.Origins.{Origin, no_origin, immediate, loaded, has_origin, is_load, origin_at, node_origin, control_origin, sample_origin, home_of, canonical, canonical_as}
use Rattle.plan.specs.Flow.{flow_of}
use Rattle.plan.specs.TestLaws.{and_both}
use Rattle.tables.specs.Zeros.{zeros_at}
use Rattle.plan.specs.OriginLaws.{home_finds, home_origin, origin_inside, sample_at, sample_length, control_at, number_inj}
use Rattle.plan.specs.Planned.{slots, homes, ss, cs}
use Rattle.plan.specs.FlowLaws.{IsNode, node_is, flow_length, flow_off, good_flow}
use Rattle.allocate.specs.Actions.{source_of}
use Rattle.allocate.specs.Scheduled.{setting_of}
use Rattle.compile.specs.Draft.{usable}
use Rattle.compiled.specs.Marks.{Rules, source_class, start_marks}
use Rattle.compiled.specs.TrackedTasks.{Meaning}
use Rattle.compiled.specs.Finds.{class_in, find_leaf, find_binary, find_unary}
use Rattle.compiled.specs.Codes.{binary_code, unary_code, binary_code_lem, unary_code_lem}

-- two cases that are not one
no_way : {A : Type 0} → ◌≡◌ {A = ℕ} 0 1 → A
no_way h = absurd (omega arith)

-- the node code of a load's code: audio 1 is input 0, network 2 is 17, parameter 3, state 4 and delay 5 are one less
unfoldable pub leaf_code : ℕ → ℕ
leaf_code c = cond (eqb c 1) 0 (cond (eqb c 2) 17 (pred c))

-- the class, and one, of the node that an update names
abbrev pub class_word : Graph → ℕ → ℕ
class_word g zero = 0
class_word g (suc n) = suc (get_or (classes_to g.nodes g.count) n 0)

-- the checker's rules for a phase, the control slots' classes and the number of declared slots
unfoldable pub rules : Graph → Bool → List ℕ → ℕ → Rules
rules g in_control control_slots declared =
    record {
      control_slots = control_slots;
      declared = declared;
      states = length g.state_updates;
      delays = length g.delay_updates;
      load_class = λ c i. cond (in_control && not (eqb c 3)) 0 (fetched g (leaf_code c) i);
      immediate_class = λ w. class_of g 1 w 0;
      binary_class = λ c x y. result_of_two g (binary_code c) x y;
      unary_class = λ c x. result_of_one g (unary_code c) x;
      asked_class =
          λ c i. cond (eqb c 10) (class_word g (get_or g.state_updates i 0))
          (cond (eqb c 11) (class_word g (get_or g.delay_updates i 0)) (class_word g (suc g.output)));
    }

-- ---- where values come from in the two phases: an immediate is a constant, a load is a control slot's or the node's own

sample_immediate : (k : ℕ) (x : Node) (y : ℕ) → sample_origin k x ≡ immediate y → x ≡ constant_node y
unfolding sample_origin node_origin
sample_immediate zero input_node y h = no_way (cc)
sample_immediate zero network_node y h = no_way (cc)
sample_immediate zero (constant_node b) y h = let q : b ≡ y = cc in ap constant_node q
sample_immediate zero (parameter_node i) y h = no_way (cc)
sample_immediate zero (state_node i) y h = no_way (cc)
sample_immediate zero (delay_node i) y h = no_way (cc)
sample_immediate zero (binary_node k a b) y h = no_way (cc)
sample_immediate zero (unary_node k a) y h = no_way (cc)
sample_immediate (suc k) x y h = no_way (cc)

sample_load : (k : ℕ) (x : Node) (c i : ℕ) → sample_origin k x ≡ loaded c i → ((k ≡ suc i) × (c ≡ 6)) ⊎ (node_origin x ≡ loaded c i)
unfolding sample_origin
sample_load zero x c i h = inr h
sample_load (suc k) x c i h = let a : k ≡ i = cc in let b : 6 ≡ c = cc in inl (ap suc a, sym b)

control_immediate : (x : Node) (y : ℕ) → control_origin x ≡ immediate y → x ≡ constant_node y
unfolding control_origin
control_immediate input_node y h = no_way (cc)
control_immediate network_node y h = no_way (cc)
control_immediate (constant_node b) y h = let q : b ≡ y = cc in ap constant_node q
control_immediate (parameter_node i) y h = no_way (cc)
control_immediate (state_node i) y h = no_way (cc)
control_immediate (delay_node i) y h = no_way (cc)
control_immediate (binary_node k a b) y h = no_way (cc)
control_immediate (unary_node k a) y h = no_way (cc)

control_load : (x : Node) (c i : ℕ) → control_origin x ≡ loaded c i → (c ≡ 3) × (node_origin x ≡ loaded c i)
unfolding control_origin node_origin
control_load input_node c i h = no_way (cc)
control_load network_node c i h = no_way (cc)
control_load (constant_node b) c i h = no_way (cc)
control_load (parameter_node j) c i h = let a : 3 ≡ c = cc in (sym a, h)
control_load (state_node j) c i h = no_way (cc)
control_load (delay_node j) c i h = no_way (cc)
control_load (binary_node k a b) c i h = no_way (cc)
control_load (unary_node k a) c i h = no_way (cc)

-- nodes that share a source are of one class
share_by : (origins : List Origin) (class : ℕ → ℕ) → ((n m c i : ℕ) → origin_at origins n ≡ loaded c i → origin_at origins m ≡ loaded c i → class n ≡ class m)
    → (a : ℕ)
    → class (canonical origins a) ≡ class a
unfolding canonical canonical_as
share_by origins class f a = go (origin_at origins a) refl
  where
    go : (x : Origin) → origin_at origins a ≡ x → class (canonical_as origins a x) ≡ class a
    go no_origin q = refl
    go (immediate b) q = refl
    go (loaded c i) q = at (home_of origins c i) refl
      where
        own : T (is_load c i (origin_at origins a))
        own = rw q (and_both (eqb c c) (eqb i i) (eqb_refl c) (eqb_refl i))

        at : (h : ℕ) → home_of origins c i ≡ h → class (pred h) ≡ class a
        at zero e = let g = home_finds origins c i a (origin_inside origins a (rw q tt)) own in absurd (omega (arith, g.1))
        at (suc m) e = let z : pred (suc m) ≡ m = omega arith in rw z (f m a c i (home_origin origins c i m e) q)

origin_at_inside : (origins : List Origin) (n : ℕ) (x : Origin) → origin_at origins n ≡ x → T (has_origin x) → n < length origins
origin_at_inside origins n x q t = origin_inside origins n (rw q t)

-- nothing is gone at the start
start_source : (R : Rules) (c i : ℕ) → c < 6 → source_class R (start_marks R) c i ≡ R.load_class c i
start_source R c i h =
    let e : eqb c 6 ≡ false = ne_eqb c 6 (λ (z : c ≡ 6). omega arith) in
    rw (e, zeros_at R.states i, zeros_at R.delays i, and_no (eqb c 4), and_no (eqb c 5))
  where
    and_no : (a : Bool) → (a && false) ≡ false
    and_no true = refl
    and_no false = refl

-- a load's code and index name a source, and a node of the table has it
pub record Leaf (g : Graph) (n c i : ℕ) : Type 0 where
  pub finds : fetched g (leaf_code c) i ≡ suc (get_or (classes_to g.nodes g.count) n 0)
  pub small : c < 6
  pub code : source_code (source_of c i) ≡ c
  pub index : source_index (source_of c i) ≡ i

module _ (counts : Counts) (g : Graph) (good : GoodGraph counts g) where
  -- what a node is: its class
  abbrev pub class : ℕ → ℕ
  class n = class_in counts g good n

  abbrev pub flow_nodes : List Node
  flow_nodes = (flow_of g).nodes

  leaf : (n c i : ℕ) → n < g.count → node_origin (node_at flow_nodes n) ≡ loaded c i → Leaf g n c i
  unfolding node_origin leaf_code source_of fetched is_operand kind_of
  leaf n c i l h = go (node_at flow_nodes n) (node_is counts g good n l) h
    where
      at : (c i d : ℕ) → code g.nodes n ≡ leaf_code d → is_operand (leaf_code d) 0 ≡ false → is_operand (leaf_code d) 1 ≡ false → first g.nodes n ≡ i
          → second g.nodes n ≡ 0 → d ≡ c
          → d < 6 → source_code (source_of d i) ≡ d → source_index (source_of d i) ≡ i → Leaf g n c i
      at c i d p f s q r e h k j =
          subst (λ (z : ℕ). Leaf g n z i) e (record { finds = find_leaf counts g good n (leaf_code d) i l p f s q r; small = h; code = k; index = j })

      go : (x : Node) → IsNode x (code g.nodes n) (first g.nodes n) (second g.nodes n) → node_origin x ≡ loaded c i → Leaf g n c i
      go input_node w h = let e : 1 ≡ c = cc in let z : 0 ≡ i = cc in at c i 1 w.0 refl refl (w.1 ∙ z) w.2 e (omega arith) refl z
      go network_node w h = let e : 2 ≡ c = cc in let z : 0 ≡ i = cc in at c i 2 w.0 refl refl (w.1 ∙ z) w.2 e (omega arith) refl z
      go (constant_node x) w h = no_way (cc)
      go (parameter_node x) w h = let e : 3 ≡ c = cc in let z : x ≡ i = cc in at c i 3 w.0 refl refl (w.1 ∙ z) w.2 e (omega arith) refl refl
      go (state_node x) w h = let e : 4 ≡ c = cc in let z : x ≡ i = cc in at c i 4 w.0 refl refl (w.1 ∙ z) w.2 e (omega arith) refl refl
      go (delay_node x) w h = let e : 5 ≡ c = cc in let z : x ≡ i = cc in at c i 5 w.0 refl refl (w.1 ∙ z) w.2 e (omega arith) refl refl
      go (binary_node k x y) w h = no_way (cc)
      go (unary_node k x) w h = no_way (cc)

  -- a node that is no input is in the table
  in_table : (n : ℕ) (x : Node) → node_at flow_nodes n ≡ x → (input_node ≡ x → ⊥) → n < g.count
  in_table n x q f = go (dec_lt n g.count)
    where
      go : Dec (n < g.count) → n < g.count
      go (yes h) = h
      go (no h) = absurd (f (sym (flow_off g n (omega arith)) ∙ q))

  is_at : (n : ℕ) (x : Node) → node_at flow_nodes n ≡ x → n < g.count → IsNode x (code g.nodes n) (first g.nodes n) (second g.nodes n)
  is_at n x q l = subst (λ (y : Node). IsNode y (code g.nodes n) (first g.nodes n) (second g.nodes n)) q (node_is counts g good n l)

  -- ---- what the checker finds for each kind of node

  constants : (n w : ℕ) → node_at flow_nodes n ≡ constant_node w → class_of g 1 w 0 ≡ suc (class n)
  unfolding is_operand kind_of
  constants n w q =
      let l : n < g.count = in_table n (constant_node w) q (λ (z : input_node ≡ constant_node w). no_way (cc)) in
      let i = is_at n (constant_node w) q l in
      find_leaf counts g good n 1 w l i.0 refl refl i.1 i.2

  binaries : (control_slots : List ℕ) (declared : ℕ) (in_control : Bool) (n k x y : ℕ) → node_at flow_nodes n ≡ binary_node k x y
      → (rules g in_control control_slots declared).binary_class k (suc (class x)) (suc (class y)) ≡ suc (class n)
  unfolding rules result_of_two
  binaries control_slots declared in_control n k x y q =
      let l : n < g.count = in_table n (binary_node k x y) q (λ (z : input_node ≡ binary_node k x y). no_way (cc)) in
      let i = is_at n (binary_node k x y) q l in
      let w = binary_code_lem k i.3 in
      ap (λ (c : ℕ). class_of g c (class x) (class y)) w.0 ∙ find_binary counts g good n k x y l i.0 w.1 w.2 i.1 i.2

  unaries : (control_slots : List ℕ) (declared : ℕ) (in_control : Bool) (n k x : ℕ) → node_at flow_nodes n ≡ unary_node k x
      → (rules g in_control control_slots declared).unary_class k (suc (class x)) ≡ suc (class n)
  unfolding rules result_of_one
  unaries control_slots declared in_control n k x q =
      let l : n < g.count = in_table n (unary_node k x) q (λ (z : input_node ≡ unary_node k x). no_way (cc)) in
      let i = is_at n (unary_node k x) q l in
      let w = unary_code_lem k i.3 in
      ap (λ (c : ℕ). class_of g c (class x) 0) w.0 ∙ find_unary counts g good n k x l i.0 w.1 w.2 i.1 i.2

  -- nodes of one load are of one class
  load_same : (n m c i : ℕ) → n < g.count → m < g.count → node_origin (node_at flow_nodes n) ≡ loaded c i → node_origin (node_at flow_nodes m) ≡ loaded c i
      → class n ≡ class m
  load_same n m c i hn hm p q = suc_inj (sym (leaf n c i hn p).finds ∙ (leaf m c i hm q).finds)

  -- ---- the sample phase

  abbrev samples : List Origin
  samples = ss (flow_of g) (good_flow counts g good)

  abbrev kept : List ℕ
  kept = slots (flow_of g) (good_flow counts g good)

  sample_source : (n : ℕ) (x : Origin) → origin_at samples n ≡ x → T (has_origin x) → (n < g.count) × (sample_origin (get_or kept n 0) (node_at flow_nodes n) ≡ x)
  sample_source n x q t =
      let l : n < length flow_nodes = rw (sample_length kept flow_nodes) at (origin_at_inside samples n x q t) in
      (rw (flow_length g) at l, sym (sample_at kept flow_nodes n l) ∙ q)

  sample_share : (n m c i : ℕ) → origin_at samples n ≡ loaded c i → origin_at samples m ≡ loaded c i → class n ≡ class m
  sample_share n m c i p q =
      let pn = sample_source n (loaded c i) p tt in
      let pm = sample_source m (loaded c i) q tt in
      go pn.0 pm.0 (sample_load (get_or kept n 0) (node_at flow_nodes n) c i pn.1) (sample_load (get_or kept m 0) (node_at flow_nodes m) c i pm.1)
    where
      go : n < g.count → m < g.count → ((get_or kept n 0 ≡ suc i) × (c ≡ 6)) ⊎ (node_origin (node_at flow_nodes n) ≡ loaded c i)
          → ((get_or kept m 0 ≡ suc i) × (c ≡ 6)) ⊎ (node_origin (node_at flow_nodes m) ≡ loaded c i) → class n ≡ class m
      go hn hm (inl x) (inl y) = ap class (number_inj 0 (homes (flow_of g) (good_flow counts g good)) n m i x.0 y.0)
      go hn hm (inl x) (inr y) = absurd (omega (arith, (leaf m c i hm y).small, x.1))
      go hn hm (inr x) (inl y) = absurd (omega (arith, (leaf n c i hn x).small, y.1))
      go hn hm (inr x) (inr y) = load_same n m c i hn hm x y

  sample_codes : (n c i : ℕ) → origin_at samples n ≡ loaded c i → (source_code (source_of c i) ≡ c) × (source_index (source_of c i) ≡ i)
  unfolding source_of
  sample_codes n c i q =
      let p = sample_source n (loaded c i) q tt in
      go p.0 (sample_load (get_or kept n 0) (node_at flow_nodes n) c i p.1)
    where
      go : n < g.count → ((get_or kept n 0 ≡ suc i) × (c ≡ 6)) ⊎ (node_origin (node_at flow_nodes n) ≡ loaded c i)
          → (source_code (source_of c i) ≡ c) × (source_index (source_of c i) ≡ i)
      go l (inl x) = subst (λ (z : ℕ). (source_code (source_of z i) ≡ z) × (source_index (source_of z i) ≡ i)) (sym x.1) (refl, refl)
      go l (inr x) = let f = leaf n c i l x in (f.code, f.index)

  -- WHAT THE RULES SAY of the sample phase's nodes ..
  pub sample_meaning : (mask : ℕ) (control_slots : List ℕ) (declared : ℕ)
      → Meaning (setting_of flow_nodes samples (usable mask) [] false 0) (rules g false control_slots declared) class
  unfolding rules
  sample_meaning mask control_slots declared =
      record {
        sources =
            record {
              immediates = λ n x q. let p = sample_source n (immediate x) q tt in constants n x (sample_immediate (get_or kept n 0) (node_at flow_nodes n) x p.1);
              not_slot = λ n c i q. refl;
              codes = sample_codes;
            };
        binaries = binaries control_slots declared false;
        unaries = unaries control_slots declared false;
        share = share_by samples class sample_share;
      }

  -- .. and of its sources, where the control slots are as the control phase leaves them
  pub sample_loads : (control_slots : List ℕ) (declared : ℕ) → ((n k : ℕ) → get_or kept n 0 ≡ suc k → get_or control_slots k 0 ≡ suc (class n))
      → (n c i : ℕ) → home_of samples c i ≡ suc n
      → source_class (rules g false control_slots declared) (start_marks (rules g false control_slots declared)) c i ≡ suc (class n)
  unfolding rules
  sample_loads control_slots declared filled n c i h =
      let p = sample_source n (loaded c i) (home_origin samples c i n h) tt in
      go p.0 (sample_load (get_or kept n 0) (node_at flow_nodes n) c i p.1)
    where
      go : n < g.count → ((get_or kept n 0 ≡ suc i) × (c ≡ 6)) ⊎ (node_origin (node_at flow_nodes n) ≡ loaded c i)
          → source_class (rules g false control_slots declared) (start_marks (rules g false control_slots declared)) c i ≡ suc (class n)
      go l (inl x) = rw x.1 (filled n i x.0)
      go l (inr x) = let f = leaf n c i l x in start_source (rules g false control_slots declared) c i f.small ∙ f.finds

  -- ---- the control phase

  abbrev controls : List Origin
  controls = cs (flow_of g) (good_flow counts g good)

  control_source : (n : ℕ) (x : Origin) → origin_at controls n ≡ x → T (has_origin x) → (n < g.count) × (control_origin (node_at flow_nodes n) ≡ x)
  control_source n x q t =
      let l : n < length flow_nodes = rw (length-map flow_nodes control_origin) at (origin_at_inside controls n x q t) in
      (rw (flow_length g) at l, sym (control_at flow_nodes n l) ∙ q)

  -- WHAT THE RULES SAY of the control phase's nodes ..
  pub control_meaning : (mask declared fixed : ℕ) → Meaning (setting_of flow_nodes controls (usable mask) kept true fixed) (rules g true [] declared) class
  unfolding rules
  control_meaning mask declared fixed =
      record {
        sources =
            record {
              immediates = λ n x q. let p = control_source n (immediate x) q tt in constants n x (control_immediate (node_at flow_nodes n) x p.1);
              not_slot =
                  λ n c i q. let p = control_source n (loaded c i) q tt in ne_eqb c 6
                  (λ (z : c ≡ 6). omega (arith, (control_load (node_at flow_nodes n) c i p.1).0));
              codes =
                  λ n c i q. let p = control_source n (loaded c i) q tt in let f = leaf n c i p.0 (control_load (node_at flow_nodes n) c i p.1).1 in
                  (f.code, f.index);
            };
        binaries = binaries [] declared true;
        unaries = unaries [] declared true;
        share = share_by controls class (λ n m c i p q.
            let pn = control_source n (loaded c i) p tt in
            let pm = control_source m (loaded c i) q tt in
            load_same n m c i pn.0 pm.0 (control_load (node_at flow_nodes n) c i pn.1).1 (control_load (node_at flow_nodes m) c i pm.1).1);
      }

  -- .. and of its sources
  pub control_loads : (declared : ℕ) → (n c i : ℕ) → home_of controls c i ≡ suc n
      → source_class (rules g true [] declared) (start_marks (rules g true [] declared)) c i ≡ suc (class n)
  unfolding rules
  control_loads declared n c i h =
      let p = control_source n (loaded c i) (home_origin controls c i n h) tt in
      let k = control_load (node_at flow_nodes n) c i p.1 in
      start_source (rules g true [] declared) c i (omega (arith, k.0)) ∙ three k.0 (leaf n c i p.0 k.1).finds
    where
      three : c ≡ 3 → fetched g (leaf_code c) i ≡ suc (class n) → cond (true && not (eqb c 3)) 0 (fetched g (leaf_code c) i) ≡ suc (class n)
      three q h = let z : eqb c 3 ≡ true = rw q in rw z h
