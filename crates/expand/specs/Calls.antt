-- The ways out of `expand`, over plain values: `r` is the saturated expanded length that the code counts.
use Rattle.std.specs.Prelude.{Result, Ok, Err, IsErrAnd, ◌≡◌, ℕ, ◌+◌, ◌-◌, ◌*◌, ◌≤◌, ◌<◌, min}
use Rattle.std.proofs.Common.{sym, ◌∙◌, arith, lt-ltb, le-ltb}
use Rattle.std.proofs.Math.Path.{ap}
use mathlib.Core.List.{List, [], ◌++◌}
use Rattle.std.proofs.Math.ListN.{length, get_or, drop}
use Rattle.std.proofs.Math.Seq.{drop-drop}
use Rattle.std.proofs.lemmas.Result.{err_from_is_err_and}
use Rattle.answers.specs.declared.Refusal.{Refusal}
use Rattle.answers.specs.Numbers as N
use Rattle.answers.specs.Numbers.{Answer, accepted, refused}
use Rattle.answers.specs.OrderLaws.{hand_on, then_pass, refuse_stop, refuse_pass}
use Rattle.block.specs.Block.{Block, node_count}
use Rattle.block.specs.Kinds.{tanh_steps}
use Rattle.block.specs.Validation.{expanded_length, validation}
use Rattle.block.specs.Valid.{Valid, valid}
use Rattle.expand.specs.declared.Expanded.{Expanded}
use Rattle.expand.specs.Nodes.{words_of}
use Rattle.expand.specs.Expansion.{expand_to, expansion, mapped_output, expand_answer, table_after, outcome, expand_call}
use Rattle.expand.specs.Lengths.{offset_ge}
use Rattle.expand.specs.MapLaws.{map_over, over_length, over_at, over_behind}
use Rattle.expand.specs.InPlace.{below_sound, AllReady}

expand_is : (b : Block) (l : List ℕ) (a : Answer Expanded) → expand_answer b (length l) ≡ a → outcome a (table_after a b l) ≡ expand_call b l
unfolding expand_call
expand_is b l a e = rw e

-- a refusal of validation is handed on
pub expand_refused : (b : Block) (l : List ℕ) {v : Result Unit Refusal} (r : Result Expanded Refusal) {e : Refusal} → N.answer_of v ≡ validation b → v ≡ Err e → IsErrAnd r (λ y. y ≡ e)
    → outcome (N.answer_of r) l ≡ expand_call b l
unfolding expand_answer table_after
expand_refused b l r f h p =
    let q = err_from_is_err_and r p in
    rw q.1 (expand_is b l (N.refusal q.0) (sym (hand_on r _ f h p) ∙ ap N.answer_of q.1))

-- a block that validation accepts
pub expand_accepted : (b : Block) {v : Result Unit Refusal} {u : Unit} → N.answer_of v ≡ validation b → v ≡ Ok u → validation b ≡ accepted tt
expand_accepted b e h = sym e ∙ ap N.answer_of h

module _ (b : Block) (l : List ℕ) (r : ℕ) (judged : validation b ≡ accepted tt) (s : r ≡ min (expanded_length b) 65537) where
  is_valid : Valid b
  is_valid = valid b judged

  -- nothing was counted in vain
  total_is : r ≡ expanded_length b
  total_is = let f = is_valid.fits in omega arith

  pub expand_short : length l < 3 * r → outcome (refused 13 []) l ≡ expand_call b l
  unfolding expand_answer table_after
  expand_short q =
      expand_is b l (refused 13 [])
      (then_pass _ judged ∙ refuse_stop 13 _ (lt-ltb (length l) (3 * expanded_length b) (omega (arith, total_is))))

  module _ (room : 3 * r ≤ length l) where
    -- the map has room, and its words are words
    pub map_room : (node_count b ≤ length l) × (expanded_length b ≤ 65536)
    map_room = (omega (arith, total_is, offset_ge tanh_steps b.nodes (node_count b)), is_valid.fits)

    pub all_ready : (m : List ℕ) → m ≡ map_over tanh_steps b.nodes (node_count b) l → AllReady tanh_steps b.nodes m r
    all_ready m w =
        record {
          whole = total_is;
          fits = omega (arith, total_is, is_valid.fits);
          room = omega (arith, ap length w ∙ over_length tanh_steps b.nodes (node_count b) l);
          mapped = λ j q. ap (λ (x : List ℕ). get_or x j 0) w ∙ over_at tanh_steps b.nodes (node_count b) l j map_room.0 q;
          below = λ i q. below_sound _ b.nodes i (is_valid.sound i q);
        }

    pub output_within : (m : List ℕ) → m ≡ map_over tanh_steps b.nodes (node_count b) l → b.header.output < length m
    output_within m w = omega (arith, is_valid.output, map_room.0, ap length w ∙ over_length tanh_steps b.nodes (node_count b) l)

    pub expand_done : (m o : List ℕ) → m ≡ map_over tanh_steps b.nodes (node_count b) l
        → o ≡ words_of (expand_to tanh_steps b.nodes (node_count b)) ++ drop (3 * r) m
        → outcome (accepted (record { length = r; output = get_or m b.header.output 0 })) o ≡ expand_call b l
    unfolding expand_answer table_after
    expand_done m o w d =
        let n = node_count b in
        let place : get_or m b.header.output 0 ≡ mapped_output b =
        ap (λ (x : List ℕ). get_or x b.header.output 0) w ∙ over_at tanh_steps b.nodes n l b.header.output map_room.0 is_valid.output in
        let z : n + (3 * r - n) ≡ 3 * r = omega (arith, total_is, offset_ge tanh_steps b.nodes n) in
        let rest : drop (3 * r) m ≡ drop (3 * r) l =
        rw (← z, ← drop-drop (3 * r - n) n m, ← drop-drop (3 * r - n) n l, w, over_behind tanh_steps b.nodes n l map_room.0) in
        let all : o ≡ words_of (expansion b) ++ drop (3 * expanded_length b) l = d ∙ rw (rest, total_is) in
        rw (all, place, total_is)
        (expand_is b l (accepted (record { length = expanded_length b; output = mapped_output b }))
        (then_pass _ judged ∙ refuse_pass 13 _ (le-ltb (length l) (3 * expanded_length b) (omega (arith, total_is)))))
