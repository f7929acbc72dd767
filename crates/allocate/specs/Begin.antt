-- The allocator's state at the start keeps the invariant. Assumes nothing.
use Rattle.std.specs.Prelude.{◌≡◌, ◌||◌, false, List, [], map, suc, ℕ, get_or, length, replicate}
use Rattle.std.proofs.Common.{arith}
use Rattle.std.proofs.Math.ListN.{get_or-map}
use Rattle.std.proofs.lemmas.List.{length-map, length-replicate}
use Rattle.tables.specs.Zeros.{zeros_at}
use Rattle.plan.specs.Origins.{Origin, no_origin, has_origin, origin_at}
use Rattle.plan.specs.Lists.{is_some}
use Rattle.plan.specs.TestLaws.{or_second}
use Rattle.allocate.specs.State.{Setting, begin}
use Rattle.allocate.specs.StateLaws.{Good}
use Rattle.allocate.specs.TaskLaws.{Invariant}

fresh_src : (xs : List Origin) (n : ℕ) → get_or (map has_origin xs) n false ≡ has_origin (origin_at xs n)
fresh_src xs n = get_or-map has_origin xs n no_origin

begin_good : (e : Setting) (home : List ℕ) → Good e home (begin e)
unfolding begin
begin_good e home =
    let z : (l n k : ℕ) → ◌≡◌ {A = ℕ} (get_or (replicate l 0) n 0) (suc k) → ⊥ = λ l n k h. omega (arith, zeros_at l n) in
    record {
      registers = record { down = λ n r h. absurd (z (length e.origins) n r h); up = λ n r h. absurd (z 16 r n h); inside = λ n r h. absurd (z 16 r n h) };
      slots =
          record {
            below = λ n k h. absurd (z (length e.origins) n k h);
            apart = λ n m k h g. absurd (z (length e.origins) n k h);
            own = λ n k h l. absurd (z (length e.origins) n k h);
            fixed_le = omega arith;
            free_in = λ k t. absurd t;
            free_off = λ n k t h. t;
            free_once = tt;
          };
      holders = length-replicate {A = ℕ} (length e.origins) 0;
      owners = length-replicate {A = ℕ} 16 0;
      spilleds = length-replicate {A = ℕ} (length e.origins) 0;
      freshes = length-map e.origins has_origin;
      src = λ n t. rw (fresh_src e.origins n) at t;
      held = omega arith;
    }

-- .. and so is the whole invariant kept, with nothing computed yet
pub begin_inv : (e : Setting) (home : List ℕ) (rest : List (List ℕ)) → Invariant e home [] rest (begin e)
unfolding begin
begin_inv e home rest =
    record {
      good = begin_good e home;
      ready = λ m t k.
          or_second (is_some (get_or (replicate (length e.origins) 0) m 0))
          (is_some (get_or (replicate (length e.origins) 0) m 0) || get_or (map has_origin e.origins) m false)
          (or_second (is_some (get_or (replicate (length e.origins) 0) m 0)) (get_or (map has_origin e.origins) m false) (rw (fresh_src e.origins m) k));
      held = λ m q h. absurd (omega (arith, zeros_at (length e.origins) m));
    }
